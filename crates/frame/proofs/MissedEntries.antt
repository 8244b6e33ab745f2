-- Which entries match no packet that passes the tests of a question.
use Rattle.std.proofs.Common.{◌≡◌, ℕ, ◌<◌, ◌&&◌, Bool, true, false, not, cond, Some, List, [], ◌∷◌, ◌++◌, length, get_or, drop, ◌+◌, append_assoc, add-one, refl, sym, ap, ◌∙◌}
use Rattle.std.specs.List.{find, list_all}
use Rattle.std.specs.Option.{option_or}
use Rattle.std.proofs.lemmas.Bool.{false≢true}
use Rattle.std.proofs.Math.Seq.{drop-cons}
use Rattle.std.proofs.lemmas.List.Folds.{find-append, list_all_at}
use Rattle.circuit.specs.declared.gate.Gate.{Gate}
use Rattle.ios_acl.specs.declared.entry.Entry.{Entry}
use Rattle.ios_acl.specs.declared.packet.Packet.{Packet}
use Rattle.ios_acl.specs.Decision.{decision, verdict_by}
use Rattle.ios_acl.specs.Matching.{matches}
use Rattle.ios_acl.specs.declared.entry.Verdict.{Verdict}
use Rattle.ios_acl.specs.declared.entry.Verdict.TheVariants as verdict
use Rattle.frame.specs.declared.question.Test.{Test}
use Rattle.frame.specs.Meaning.{Means, decides, is_permit, passes_all}
use Rattle.frame.proofs.Nodes.{Means-as}
use Rattle.frame.proofs.Scenarios.{answers}

is_true : (b : Bool) → (b ≡ false → ⊥) → b ≡ true
is_true true never = refl
is_true false never = absurd (never refl)

and_false : (b : Bool) → (b && false) ≡ false
and_false true = refl
and_false false = refl

-- a test among those that are passed is passed
pub passed_at : {X : Type 0} (p : X → Bool) (xs : List X) (i : ℕ) (d : X) → i < length xs → list_all p xs ≡ true → p (get_or xs i d) ≡ true
passed_at p xs i d inside all = is_true (p (get_or xs i d)) (λ none. false≢true (sym (list_all_at p xs i d inside none) ∙ all))

-- an entry that does not match may be left out
pub without_missed : (front : List Entry) (entry : Entry) (back : List Entry) (packet : Packet) → matches entry packet ≡ false → decision (front ++ entry ∷ back) packet ≡ decision (front ++ back) packet
without_missed front entry back packet missed =
    let test : Entry → Bool = λ e. matches e packet in
    ap verdict_by (
    find-append test front (entry ∷ back)
    ∙ ap (λ b. option_or (find test front) (cond b (Some entry) (find test back))) missed
    ∙ sym (find-append test front back))

-- an entry that is kept stands behind those kept before it
pub kept_next : (front entries : List Entry) (i : ℕ) (d : Entry) → i < length entries → (front ++ get_or entries i d ∷ []) ++ drop (i + 1) entries ≡ front ++ drop i entries
kept_next front entries i d inside = rw (append_assoc, drop-cons entries i d inside, add-one) refl

pub missed_next : (front entries : List Entry) (i : ℕ) (d : Entry) (packet : Packet) → i < length entries → matches (get_or entries i d) packet ≡ false
    → decision (front ++ drop (i + 1) entries) packet ≡ decision (front ++ drop i entries) packet
missed_next front entries i d packet inside missed =
    sym (rw (drop-cons entries i d inside, ← (add-one i)) (without_missed front (get_or entries i d) (drop (i + 1) entries) packet missed))

-- entries that decide the same of the packets that pass the tests answer a question alike
pub same_answers : (kept entries : List Entry) (v : Verdict) (tests : List Test) → ((packet : Packet) → passes_all tests packet ≡ true → decision kept packet ≡ decision entries packet)
    → (packet : Packet) → answers kept v tests packet ≡ answers entries v tests packet
same_answers kept entries v tests same packet = go (passes_all tests packet) refl
  where
    decides_same : (w : Verdict) → decision kept packet ≡ decision entries packet → decides kept w packet ≡ decides entries w packet
    decides_same verdict.Permit is = ap (λ d. is_permit d.0) is
    decides_same verdict.Deny is = ap (λ d. not (is_permit d.0)) is

    go : (b : Bool) → passes_all tests packet ≡ b → (decides kept v packet && b) ≡ (decides entries v packet && b)
    go true is = ap (λ d. d && true) (decides_same v (same packet is))
    go false is = and_false (decides kept v packet) ∙ sym (and_false (decides entries v packet))

-- so a node that is true where the entries that were kept answer the question is true where all do
pub means_same : (gates : List Gate) (node : ℕ) (kept entries : List Entry) (v : Verdict) (tests : List Test) → ((packet : Packet) → passes_all tests packet ≡ true → decision kept packet ≡ decision entries packet)
    → Means gates node (answers kept v tests) → Means gates node (answers entries v tests)
means_same gates node kept entries v tests same means = Means-as gates node (answers kept v tests) (answers entries v tests) (same_answers kept entries v tests same) means
