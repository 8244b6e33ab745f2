use Rattle.std.proofs.Common.{◌≡◌, ℕ, ◌-◌, ◌<◌, List, [], ◌∷◌, ◌++◌, length, take, drop, take_all, ap, sym, slice_index_or, slice_set, arith, rules}
use Rattle.scenarios_runs.proofs.slow.SlowFolderFolder.read_some.Goals as goal

-- the first byte goes into the piece, and the others are left
first_goes : (piece rest : List ℕ) → 0 < length piece → 0 < length rest → rest ≡ take 1 (slice_set piece 0 (slice_index_or rest 0 0)) ++ take (length rest - 1) (drop 1 rest)
first_goes [] rest some more = absurd (omega arith)
first_goes (x ∷ piece) [] some more = absurd (omega arith)
first_goes (x ∷ piece) (y ∷ rest) some more = ap (λ l. y ∷ l) (sym (take_all (length (y ∷ rest) - 1) rest (omega arith)))

pub returns-clause-bytes : goal.returns-clause-bytes
returns-clause-bytes c =
    (first_goes c.args.piece.now c.args.opened.now.now (search rules) (search rules), λ none. absurd (omega arith))
