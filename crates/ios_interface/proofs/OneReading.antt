-- The words behind the opening of a line say one thing, or are refused for one reason.
use Rattle.std.proofs.Common.{◌≡◌, ℕ, Bool, false, List, codes, refl, sym, ◌∙◌}
use Rattle.ios_lex.specs.declared.reason.IosReason.{IosReason}
use Rattle.ios_lex.specs.Following.{Expected}
use Rattle.ios_lex.specs.Phrases.{Words}
use Rattle.ios_lex.proofs.OneStop.{begins_whole, no_begins_behind_stop, stop_is_one}
use Rattle.ios_lex.proofs.OneWord.{one_address, one_mask, one_word}
use Rattle.ios_interface.specs.Block.{Block}
use Rattle.ios_interface.specs.declared.kind.Direction.{Direction}
use Rattle.ios_interface.specs.declared.kind.Direction.TheVariants as directions
use Rattle.ios_interface.specs.declared.kind.Kind.{Kind}
use Rattle.ios_interface.specs.Grammar.{IsAccessGroup, IsAddressLine, IsDirection, IsSecondary, Line}
use Rattle.ios_interface.specs.Reading.{Fails, Makes, with_address, with_list}
use Rattle.ios_interface.specs.Refusal.{reason_at}

one_secondary : (secondary other : Bool) (words words' : Words) → words ≡ words' → IsSecondary secondary words → IsSecondary other words' → secondary ≡ other
one_secondary secondary other words words' same (IsSecondary.none whole is) (IsSecondary.none whole' is') = is ∙ sym is'
one_secondary secondary other words words' same (IsSecondary.some whole is) (IsSecondary.some whole' is') = is ∙ sym is'
one_secondary secondary other words words' same (IsSecondary.none whole is) (IsSecondary.some whole' is') = cc (whole, whole', same)
one_secondary secondary other words words' same (IsSecondary.some whole is) (IsSecondary.none whole' is') = cc (whole, whole', same)

one_address_line : (address other : ℕ × ℕ) (secondary secondary' : Bool) (words : Words) → IsAddressLine false address secondary words → IsAddressLine false other secondary' words
    → (address ≡ other) × (secondary ≡ secondary')
one_address_line address other secondary secondary' words h k =
    let number = one_address address.0 other.0 h.front h.back k.front k.back h.first k.first (sym h.whole ∙ k.whole) in
    let h1 = h.second in
    let k1 = k.second in
    let mask = one_mask address.1 other.1 h1.front h1.back k1.front k1.back h1.first k1.first (sym h1.whole ∙ number.1 ∙ k1.whole) in
    (λ i. (number.0 i, mask.0 i), one_secondary secondary secondary' h1.back k1.back mask.1 h1.second k1.second)

one_direction : (direction other : Direction) (words words' : Words) → words ≡ words' → IsDirection direction words → IsDirection other words' → direction ≡ other
one_direction directions.In directions.In words words' same is is' = refl
one_direction directions.Out directions.Out words words' same is is' = refl
one_direction directions.In directions.Out words words' same is is' = absurd (let no : codes "in" ≡ codes "out" = cc (is, is', same) in cc no)
one_direction directions.Out directions.In words words' same is is' = absurd (let no : codes "out" ≡ codes "in" = cc (is, is', same) in cc no)

one_access_group : (name name' : List ℕ) (direction direction' : Direction) (words : Words) → IsAccessGroup false name direction words → IsAccessGroup false name' direction' words
    → (name ≡ name') × (direction ≡ direction')
one_access_group name name' direction direction' words h k =
    let list = one_word h.front h.back k.front k.back name name' h.first.0 k.first.0 (sym h.whole ∙ k.whole) in
    (list.0, one_direction direction direction' h.back k.back list.1 h.second k.second)

pub one_block : (block : Block) (rest : Words) (new other : Block) (kind : Kind) → Makes block rest new kind → Makes block rest other kind → new ≡ other
one_block block rest new other kind (Makes.address a s is made) (Makes.address a' s' is' made') =
    let one = one_address_line a a' s s' rest is is' in made ∙ (λ i. with_address block (one.0 i) (one.1 i)) ∙ sym made'
one_block block rest new other kind (Makes.group n d is made) (Makes.group n' d' is' made') =
    let one = one_access_group n n' d d' rest is is' in made ∙ (λ i. with_list block (one.0 i) (one.1 i)) ∙ sym made'
one_block block rest new other kind (Makes.setting s none made) (Makes.setting s' none' made') = made ∙ sym made'

-- a line that is read is a whole one

makes_line : (block : Block) (rest : Words) (new : Block) (kind : Kind) → Makes block rest new kind → Line kind false rest
makes_line block rest new kind (Makes.address a s is made) = (a, s, is)
makes_line block rest new kind (Makes.group n d is made) = (n, d, is)
makes_line block rest new kind (Makes.setting s none made) = none

line_not_refused : (kind : Kind) (rest : Words) (why : IosReason) → Line kind false rest → Fails kind rest why → ⊥
line_not_refused kind rest why line (Fails.stop f m w d b whole stops) = no_begins_behind_stop (Line kind) f rest m w d b stops whole (begins_whole (Line kind false) rest line)
line_not_refused kind rest why line (Fails.short begins ends) = ends line

pub made_not_refused : (block : Block) (rest : Words) (new : Block) (kind : Kind) (why : IosReason) → Makes block rest new kind → Fails kind rest why → ⊥
made_not_refused block rest new kind why makes fails = line_not_refused kind rest why (makes_line block rest new kind makes) fails

-- one reason

reason_of_stop : (kind : Kind) (w w' : List ℕ) (d d' : Expected) (b b' : Bool) → w ≡ w' → d ≡ d' → b ≡ b' → reason_at kind d b w ≡ reason_at kind d' b' w'
reason_of_stop kind w w' d d' b b' word due over = rw (word, due, over) refl

pub one_reason : (kind : Kind) (rest : Words) (why other : IosReason) → Fails kind rest why → Fails kind rest other → why ≡ other
one_reason kind rest why other (Fails.stop f m w d b whole stops) (Fails.stop f' m' w' d' b' whole' stops') =
    let one = stop_is_one (Line kind) f f' m m' w w' d d' b b' (sym whole ∙ whole') stops stops' in
    reason_of_stop kind w w' d d' b b' one.word_same one.due_same one.over_same
one_reason kind rest why other (Fails.stop f m w d b whole stops) (Fails.short begins ends) = absurd (no_begins_behind_stop (Line kind) f rest m w d b stops whole begins)
one_reason kind rest why other (Fails.short begins ends) (Fails.stop f m w d b whole stops) = absurd (no_begins_behind_stop (Line kind) f rest m w d b stops whole begins)
one_reason kind rest why other (Fails.short begins ends) (Fails.short begins' ends') = refl
