-- One kind of words behind another.
use Rattle.std.proofs.Common.{◌≡◌, ◌⊎◌, inl, inr, ◌↔◌, ◌++◌, refl, sym}
use Rattle.ios_lex.specs.Phrases.{Words, Then}
use Rattle.ios_lex.proofs.Fronts.{fronts}
use Rattle.ios_lex.proofs.Stopping.{IsPrefixFree, IsFirstPart}

-- words behind some of a kind that nothing goes on from
pub cut_behind : (First : Words → Type 0) → IsPrefixFree First → (front back front' back' : Words) → First front → First front' → front ++ back ≡ front' ++ back' → back ≡ back'
cut_behind First free front back front' back' is is' same = by (fronts front back front' back' same)
  where
    by : ((between : Words) × (front' ≡ front ++ between) × (back ≡ between ++ back')) ⊎ ((between : Words) × (front ≡ front' ++ between) × (back' ≡ between ++ back)) → back ≡ back'
    by (inl (between, longer, rest)) = let none = free front between is (rw longer at is') in rw none at rest
    by (inr (between, longer, rest)) = let none = free front' between is' (rw longer at is) in sym (rw none at rest)

pub then_behind : (First Second : Words → Type 0) (part x : Words) → IsPrefixFree First → First part → Then First Second (part ++ x) ↔ Second x
then_behind First Second part x free is =
    (λ h. rw (cut_behind First free part x h.front h.back is h.first h.whole) h.second, λ second. record { front = part; back = x; whole = refl; first = is; second = second })

pub then_first : (First Second : Words → Type 0) (some : Words) → Second some → IsFirstPart First (Then First Second)
then_first First Second some second = record {
  goes_on = λ words first. (some, record { front = words; back = some; whole = refl; first = first; second = second });
  splits = λ words h. (h.front, h.back, h.whole, h.first);
}

pub then_map : {First Second Third Fourth : Words → Type 0} → ((x : Words) → First x → Third x) → ((x : Words) → Second x → Fourth x) → (words : Words) → Then First Second words → Then Third Fourth words
then_map first second words h = record {
  front = h.front;
  back = h.back;
  whole = h.whole;
  first = first h.front h.first;
  second = second h.back h.second;
}
