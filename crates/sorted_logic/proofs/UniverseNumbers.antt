-- The tests of numbers hold exactly where the elements of an interpreted root carry different numbers of its bits.
use Rattle.std.specs.Prelude.{◌≡◌, ℕ, ◌<◌, ◌^◌, Bool, true, false, not, ◌&&◌, ◌||◌, nat_lt, Option, Some, None, IsTrue, length, refl}
use Rattle.std.proofs.Common.{inl, inr, ap, sym, ◌∙◌, arith, ltb-true, lt-ltb, eqb-true, eq-eqb}
use Rattle.sorted_logic.specs.Inside.Evaluation.{all_below}
use Rattle.sorted_logic.specs.Inside.UniverseTests.{bits_of, carries, all_carry, numbers_fit, same_number, share_number, differs_from_earlier, numbers_differ}
use Rattle.sorted_logic.specs.Signature.{Signature}
use Rattle.sorted_logic.specs.Truth.{passes_of}
use Rattle.sorted_logic.specs.Universe.{Universe, IsUniverse, declared_bits}
use Rattle.sorted_logic.proofs.Below.{both_true, each_passes, all_pass, negated}
use Rattle.sorted_logic.proofs.UniverseSorts.{implied, implies, together, ordered, passes_there, there_passes, within_list}

same_means : (a b : Option ℕ) → same_number a b ≡ true → a ≡ b
same_means (Some a) (Some b) h = ap Some (eqb-true a b h)
same_means None None h = refl
same_means (Some a) None h = cc
same_means None (Some b) h = cc

same_itself : (a : Option ℕ) → same_number a a ≡ true
same_itself (Some a) = eq-eqb a a refl
same_itself None = refl

carried : (bits : ℕ) (o : Option ℕ) → passes_of (λ number. nat_lt number (2 ^ bits)) o ≡ true
    → (number : ℕ) × (o ≡ Some number) × (number < 2 ^ bits)
carried bits None h = cc
carried bits (Some number) h = (number, refl, ltb-true number (2 ^ bits) h)

carrying : (bits : ℕ) (o : Option ℕ) → (number : ℕ) × (o ≡ Some number) × (number < 2 ^ bits)
    → passes_of (λ number. nat_lt number (2 ^ bits)) o ≡ true
carrying bits o h = rw (h.1) (lt-ltb h.0 (2 ^ bits) h.2)

not_passed : (b : Bool) → (b ≡ true → ⊥) → not b ≡ true
not_passed true h = absurd (h refl)
not_passed false h = refl

module _ (u : Universe) (n : ℕ) (bounded : (s e : ℕ) → IsTrue (u.has s e) → e < n) (sig : Signature) where
  pub numbers_of : all_below (length sig.sorts) (numbers_fit u n sig.sorts) ≡ true
      → (s bits e : ℕ) → declared_bits sig s ≡ Some bits → IsTrue (u.has s e)
      → (number : ℕ) × (u.number e ≡ Some number) × (number < 2 ^ bits)
  numbers_of h s bits e q m = carried bits (u.number e) (implied (u.has s e) (carries u bits e)
      (each_passes n (λ e. not (u.has s e) || carries u bits e)
      (passes_there (length sig.sorts) (bits_of sig.sorts) (all_carry u n) h s bits
      (within_list sig.sorts (λ d. d.bits) s bits q) q) e (bounded s e m)) m)

  pub of_numbers : IsUniverse sig u → all_below (length sig.sorts) (numbers_fit u n sig.sorts) ≡ true
  of_numbers h = there_passes (length sig.sorts) (bits_of sig.sorts) (all_carry u n) (λ s bits l q.
      all_pass n (λ e. not (u.has s e) || carries u bits e)
      (λ e k. implies (u.has s e) (carries u bits e) (λ m. carrying bits (u.number e) (h.numbers s bits e q m))))

  differ_below : all_below (length sig.sorts) (numbers_differ u n sig.sorts) ≡ true
      → (s bits e other : ℕ) → declared_bits sig s ≡ Some bits → IsTrue (u.has s e) → IsTrue (u.has s other)
      → other < e → u.number e ≡ u.number other → ⊥
  differ_below h s bits e other q m k l same = no
      (sym (negated (share_number u s e other) (together _ _ (together _ _ m k) (rw same (same_itself (u.number other)))))
      ∙ each_passes e (λ other. not (share_number u s e other))
      (each_passes n (differs_from_earlier u s)
      (passes_there (length sig.sorts) (bits_of sig.sorts) (λ s bits. all_below n (differs_from_earlier u s)) h s bits
      (within_list sig.sorts (λ d. d.bits) s bits q) q)
      e (bounded s e m)) other l)
    where
      no : false ≡ true → ⊥
      no h = cc

  pub differ : all_below (length sig.sorts) (numbers_differ u n sig.sorts) ≡ true
      → (s bits e other : ℕ) → declared_bits sig s ≡ Some bits → IsTrue (u.has s e) → IsTrue (u.has s other)
      → u.number e ≡ u.number other → e ≡ other
  differ h s bits e other q m k same = elim (ordered e other) [
    | inl r ↦ r
    | inr r ↦ elim r [
      | inl l ↦ absurd (differ_below h s bits other e q k m l (sym same))
      | inr l ↦ absurd (differ_below h s bits e other q m k l same)
    ]
  ]

  pub all_differ : IsUniverse sig u → all_below (length sig.sorts) (numbers_differ u n sig.sorts) ≡ true
  all_differ h = there_passes (length sig.sorts) (bits_of sig.sorts) (λ s bits. all_below n (differs_from_earlier u s))
      (λ s bits l q.
      all_pass n (differs_from_earlier u s) (λ e k. all_pass e (λ other. not (share_number u s e other)) (λ other j.
      not_passed (share_number u s e other) (pair s bits e other q j))))
    where
      pair : (s bits e other : ℕ) → declared_bits sig s ≡ Some bits → other < e → share_number u s e other ≡ true → ⊥
      pair s bits e other q j b =
          let outer : _ = both_true (u.has s e && u.has s other) (same_number (u.number e) (u.number other)) b in
          let inner : _ = both_true (u.has s e) (u.has s other) outer.0 in
          let same : e ≡ other = h.numbers_differ s bits e other q inner.0 inner.1
          (same_means (u.number e) (u.number other) outer.1) in
          absurd (omega (arith, same, j))
