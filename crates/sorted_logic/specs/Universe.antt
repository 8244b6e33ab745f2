-- Universes: structures of order-sorted logic, of any size, whose elements are whole numbers.
use Rattle.std.specs.Prelude.{◌≡◌, ◌<◌, ◌^◌, ℕ, Bool, List, [], ◌∷◌, Option, Some, None, IsTrue, length, slice_get, option_and_then}
use Rattle.std.specs.List.{AllByRecursion}
use Rattle.sorted_logic.specs.declared.declarations.FuncDecl.{FuncDecl}
use Rattle.sorted_logic.specs.declared.declarations.RelDecl.{RelDecl}
use Rattle.sorted_logic.specs.declared.term.Sort.{Sort}
use Rattle.sorted_logic.specs.Signature.{Signature, parent}

-- the four questions that a universe answers: whether an element lies in a sort, the value of a function at some elements,
-- whether a relation holds of them, and the number that an element carries
pub record Universe : Type 0 where
  pub has : ℕ → ℕ → Bool
  pub value : ℕ → List ℕ → Option ℕ
  pub relates : ℕ → List ℕ → Bool
  pub number : ℕ → Option ℕ

-- as many elements as sorts, each an element of its sort
abbrev pub AreElements : Universe → List Sort → List ℕ → Type 0
AreElements u [] [] = Unit {0}
AreElements u [] (e ∷ elements) = ⊥
AreElements u (s ∷ sorts) [] = ⊥
AreElements u (s ∷ sorts) (e ∷ elements) = IsTrue (u.has s.0 e) × AreElements u sorts elements

-- the bits that a sort was declared with, as interpreted roots are
abbrev pub declared_bits : Signature → ℕ → Option ℕ
declared_bits sig s = option_and_then (λ d. d.bits) (slice_get sig.sorts s)

-- a declared sort without a supersort
pub record IsRoot (sig : Signature) (s : ℕ) : Type 0 where
  pub declared : s < length sig.sorts
  pub highest : parent sig.sorts s ≡ None

-- a subsort's elements are elements of its supersort; different roots share no element, and declared disjoint sorts none;
-- a function has a value exactly for elements of its argument sorts, and the value lies in its result sort; a relation holds
-- only of elements of its sorts; on an interpreted root each element has a number below 2^bits, and no two have the same
pub record IsUniverse (sig : Signature) (u : Universe) : Type 0 where
  pub subsorts : (s p e : ℕ) → parent sig.sorts s ≡ Some p → IsTrue (u.has s e) → IsTrue (u.has p e)
  pub roots : (s t e : ℕ) → IsRoot sig s → IsRoot sig t → IsTrue (u.has s e) → IsTrue (u.has t e) → s ≡ t
  pub disjoint : AllByRecursion (λ pair. (e : ℕ) → IsTrue (u.has pair.0.0 e) → IsTrue (u.has pair.1.0 e) → ⊥) sig.disjoint
  pub values : (f : ℕ) (d : FuncDecl) (elements : List ℕ) → slice_get sig.functions f ≡ Some d
      → AreElements u d.args elements → (e : ℕ) × (u.value f elements ≡ Some e) × IsTrue (u.has d.result.0 e)
  pub arguments : (f : ℕ) (d : FuncDecl) (elements : List ℕ) (e : ℕ) → slice_get sig.functions f ≡ Some d
      → u.value f elements ≡ Some e → AreElements u d.args elements
  pub relations : (r : ℕ) (d : RelDecl) (elements : List ℕ) → slice_get sig.relations r ≡ Some d
      → IsTrue (u.relates r elements) → AreElements u d.args elements
  pub numbers : (s bits e : ℕ) → declared_bits sig s ≡ Some bits → IsTrue (u.has s e)
      → (number : ℕ) × (u.number e ≡ Some number) × (number < 2 ^ bits)
  pub numbers_differ : (s bits e other : ℕ) → declared_bits sig s ≡ Some bits → IsTrue (u.has s e)
      → IsTrue (u.has s other) → u.number e ≡ u.number other → e ≡ other
