-- The faults of literals, place by place.
use Rattle.std.proofs.Common.{◌≡◌, ◌<◌, ◌+◌, ℕ, zero, suc, List, [], ◌∷◌, Option, Some, None, length, get_or, drop, sym, ◌∙◌, refl, arith}
use Rattle.std.specs.Option.{option_or}
use Rattle.std.proofs.lemmas.Grind.{common_steps}
use Rattle.sorted_logic.specs.declared.request.Field.{Field}
use Rattle.query_lang.specs.declared.literal.Literal.{Literal}
use Rattle.list_questions.specs.declared.packet.LiteralFault.{LiteralFault}
use Rattle.list_questions.specs.Ranges.{fault_of, literal_fault}

module _ (names : List (List ℕ)) where
  pub fault_at : (fields : List Field) (literals : List Literal) (i : ℕ) (f : Field) (l : Literal) → i < length fields → i < length literals
      → literal_fault names (drop i fields) (drop i literals) ≡ option_or (fault_of names (get_or fields i f) (get_or literals i l)) (literal_fault names (drop (i + 1) fields) (drop (i + 1) literals))
  fault_at fields literals i f l h k =
      let a : drop i fields ≡ get_or fields i f ∷ drop (i + 1) fields = grind (arith, common_steps) in
      let b : drop i literals ≡ get_or literals i l ∷ drop (i + 1) literals = grind (arith, common_steps) in
      rw (a, b) refl

  pub fault_stop : (fields : List Field) (literals : List Literal) (i : ℕ) (f : Field) (l : Literal) (fault : LiteralFault) → i < length fields → i < length literals
      → fault_of names (get_or fields i f) (get_or literals i l) ≡ Some fault → literal_fault names (drop i fields) (drop i literals) ≡ Some fault
  fault_stop fields literals i f l fault h k is = fault_at fields literals i f l h k ∙ rw is refl

  pub fault_past : (fields : List Field) (literals : List Literal) (i : ℕ) (f : Field) (l : Literal) → i < length fields → i < length literals
      → fault_of names (get_or fields i f) (get_or literals i l) ≡ None → literal_fault names (drop (i + 1) fields) (drop (i + 1) literals) ≡ literal_fault names (drop i fields) (drop i literals)
  fault_past fields literals i f l h k is = sym (fault_at fields literals i f l h k ∙ rw is refl)

pub neither : (a b : Option LiteralFault) → option_or a b ≡ None → (a ≡ None) × (b ≡ None)
neither (Some a) b e = absurd cc
neither None b e = (refl, e)

pub each_fits : (names : List (List ℕ)) (fields : List Field) (literals : List Literal) (i : ℕ) (f : Field) (l : Literal) → i < length fields → i < length literals
    → literal_fault names fields literals ≡ None → fault_of names (get_or fields i f) (get_or literals i l) ≡ None
each_fits names [] literals i f l h k e = absurd (omega arith)
each_fits names (g ∷ fields) [] i f l h k e = absurd (omega arith)
each_fits names (g ∷ fields) (m ∷ literals) zero f l h k e = (neither (fault_of names g m) (literal_fault names fields literals) e).0
each_fits names (g ∷ fields) (m ∷ literals) (suc i) f l h k e = each_fits names fields literals i f l (omega arith) (omega arith) (neither (fault_of names g m) (literal_fault names fields literals) e).1

-- eight literals, by their places
pub eight_are : (xs : List Literal) (a b c d e f g h : Literal) → length xs ≡ 8
    → a ≡ get_or xs 0 a → b ≡ get_or xs 1 b → c ≡ get_or xs 2 c → d ≡ get_or xs 3 d → e ≡ get_or xs 4 e → f ≡ get_or xs 5 f → g ≡ get_or xs 6 g → h ≡ get_or xs 7 h
    → xs ≡ a ∷ b ∷ c ∷ d ∷ e ∷ f ∷ g ∷ h ∷ []
eight_are (i ∷ j ∷ k ∷ l ∷ m ∷ n ∷ o ∷ p ∷ []) a b c d e f g h count is0 is1 is2 is3 is4 is5 is6 is7 = cc
eight_are xs a b c d e f g h count is0 is1 is2 is3 is4 is5 is6 is7 = absurd (omega arith)

-- eight numbers that they stand for
pub eight_same : (a b c d e f g h p q r s t u v w : Option ℕ) → a ≡ p → b ≡ q → c ≡ r → d ≡ s → e ≡ t → f ≡ u → g ≡ v → h ≡ w
    → a ∷ b ∷ c ∷ d ∷ e ∷ f ∷ g ∷ h ∷ [] ≡ p ∷ q ∷ r ∷ s ∷ t ∷ u ∷ v ∷ w ∷ []
eight_same a b c d e f g h p q r s t u v w one two three four five six seven eight = cc
