-- The lists that have entries, where there is one at most.
use Rattle.std.proofs.Common.{◌≡◌, ◌<◌, ◌≤◌, ◌++◌, ◌∷◌, [], List, Option, Some, None, IfSome, IfNone, IsSome, ◌↔◌, false, true, length, length-append, ap, arith}
use Rattle.std.specs.List.{filter}
use Rattle.std.specs.Option.{option_to_list}
use Rattle.ios_acl.specs.List.{AccessList}
use Rattle.solver_run.specs.Lists.{IsOnlyList, has_entries}

-- the last of them is the only one
pub last_is_only : (lists rest : List AccessList) (last : Option AccessList) → filter has_entries lists ≡ rest ++ option_to_list last → length (filter has_entries lists) ≤ 1 → IfSome last (IsOnlyList lists)
last_is_only lists rest None are few = tt
last_is_only lists [] (Some list) are few = are
last_is_only lists (other ∷ rest) (Some list) are few =
    let count = ap length are in
    let more = length-append rest (list ∷ []) in
    absurd (omega (arith, few))

-- more than one of them
pub many_are_not_one : (lists : List AccessList) → 1 < length (filter has_entries lists) → (list : AccessList) → IsOnlyList lists list → ⊥
many_are_not_one lists many list only = let count = ap length only in omega (arith, many)

-- none of them
pub none_is_only : (lists : List AccessList) (last : Option AccessList) → (IsSome last ↔ (0 < length (filter has_entries lists))) → IfNone last ((list : AccessList) → IsOnlyList lists list → ⊥)
none_is_only lists (Some list) known = tt
none_is_only lists None known = λ list only.
    let count = ap length only in
    let some : 0 < length (filter has_entries lists) = omega arith in
    let wrong : false ≡ true = known.1 some in
    absurd (cc)
