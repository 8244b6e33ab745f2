-- What a sink takes, and a file gives, in several pieces.
use Rattle.std.proofs.Common.{◌≡◌, ℕ, ◌+◌, ◌≤◌, List, ◌++◌, length, Option, None, Some, take, drop, take_all, length-drop, ap, sym, ◌∙◌, append_assoc, arith}
use Rattle.std.proofs.lemmas.List.{take-append-drop}
use Rattle.std.specs.Io.KnownBytes.{Consumes}
use Rattle.mg_outside.specs.Taking.{Takes}

-- two pieces, one after the other
pub Takes-then : (a b c : Option (List ℕ)) (front more : List ℕ) → Takes a b front → Takes b c more → Takes a c (front ++ more)
Takes-then None None c front more first second = second
Takes-then None (Some y) c front more first second = absurd (cc)
Takes-then (Some x) None c front more first second = absurd (cc)
Takes-then (Some x) (Some y) c front more first second =
    let joined : y ≡ x ++ front = cc in
    second ∙ ap (λ l. Some (l ++ more)) joined ∙ ap Some (append_assoc x front more)

-- two pieces that a file gives, one after the other
pub Consumes-then : (a b c : Option (List ℕ)) (front more : List ℕ) → Consumes a b front → Consumes b c more → Consumes a c (front ++ more)
Consumes-then None b c front more first second = tt
Consumes-then (Some x) None c front more first second = absurd first
Consumes-then (Some x) (Some y) None front more first second = absurd second
Consumes-then (Some x) (Some y) (Some z) front more first second =
    first ∙ ap (λ l. front ++ l) second ∙ sym (append_assoc front more z)

-- a front of the rest goes to what was taken, and all behind it stays
pub front_moves : (n m : ℕ) (front rest all : List ℕ) → all ≡ front ++ rest → length rest ≤ m + n → all ≡ (front ++ take n rest) ++ take m (drop n rest)
front_moves n m front rest all whole behind =
    let short : length (drop n rest) ≤ m = rw length-drop (omega arith) in
    let same : take m (drop n rest) ≡ drop n rest = take_all m (drop n rest) short in
    let joined : rest ≡ take n rest ++ take m (drop n rest) = sym (take-append-drop n rest) ∙ ap (λ l. take n rest ++ l) (sym same) in
    whole ∙ ap (λ l. front ++ l) joined ∙ sym (append_assoc front (take n rest) (take m (drop n rest)))
