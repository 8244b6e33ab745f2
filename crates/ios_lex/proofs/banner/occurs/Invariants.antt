use Rattle.std.proofs.Common.{◌≡◌, ℕ, ◌<◌, List, ◌++◌, drop}
use Rattle.ios_lex.proofs.banner.occurs.Given as goal

-- the delimiter stands at no place so far
abbrev pub invariant-loop-i : goal.invariant-loop-i
invariant-loop-i l = (k : ℕ) (back : List ℕ) → k < l.i → drop k l.text ≡ l.delimiter ++ back → ⊥
