-- Tables of names.
use Rattle.std.proofs.Common.{◌≡◌, ◌⊎◌, inl, inr, ℕ, nat_lt, Bool, true, not, List, [], ◌∷◌, length, Some, None, Contains, sym, ◌∙◌, arith}
use Rattle.std.specs.Char.{digit_value}
use Rattle.std.specs.List.{list_all}
use Rattle.std.specs.Map.{lookup, keys_of}
use Rattle.std.specs.Set.{distinct_count}
use Rattle.std.specs.Str.{bytes_eq}
use Rattle.std.specs.Str.Parse.{IsNumeral}
use Rattle.std.proofs.lemmas.Bool.Decides.{nat_tests}
use Rattle.std.proofs.lemmas.Cmp.{nat_list_eq_equiv}
use Rattle.std.proofs.lemmas.List.Elements.{All-contains}
use Rattle.std.proofs.lemmas.List.Sums.{AllPass-from_list_all}
use Rattle.std.proofs.lemmas.Map.Made.{IsDistinct-from_count}
use Rattle.std.proofs.lemmas.Slice.Eq.{bytes_eq-Decides}
use Rattle.std.proofs.lemmas.Map.Views.{Contains-from_lookup, lookup-from_Contains}

-- no digit stands first
unfoldable pub begins_apart : List ℕ → Bool
begins_apart [] = true
begins_apart (x ∷ xs) = not (nat_lt (digit_value x) 10)

-- the names of a table differ, and none begins with a digit
pub record IsNameTable {V : Type 0} (table : List (List ℕ × V)) : Type 0 where
  pub differ : distinct_count bytes_eq (keys_of table) ≡ length (keys_of table)
  pub begin_apart : list_all (λ entry. begins_apart entry.0) table ≡ true

-- a name stands at one value, and a look-up finds it
pub name_is_found : {V : Type 0} (table : List (List ℕ × V)) → IsNameTable table → (word : List ℕ) (v : V) → Contains table (word, v) → lookup (bytes_eq word) table ≡ Some v
name_is_found table names word v has =
    lookup-from_Contains nat_list_eq_equiv word v table (IsDistinct-from_count nat_list_eq_equiv (keys_of table) names.differ) has

name_is_one : {V : Type 0} (table : List (List ℕ × V)) → IsNameTable table → (word : List ℕ) (u v : V) → Contains table (word, u) → Contains table (word, v) → u ≡ v
name_is_one table names word u v first second =
    let same : Some u ≡ Some v = sym (name_is_found table names word u first) ∙ name_is_found table names word v second in
    cc

no_numeral_apart : (word : List ℕ) → begins_apart word ≡ true → IsNumeral 10 word → ⊥
unfolding begins_apart
no_numeral_apart [] apart numeral = omega (arith, numeral.0)
no_numeral_apart (x ∷ xs) apart numeral = let digit = numeral.1.0 in absurd (grind (arith, nat_tests))

name_is_no_numeral : {V : Type 0} (table : List (List ℕ × V)) → IsNameTable table → (word : List ℕ) (v : V) → Contains table (word, v) → IsNumeral 10 word → ⊥
name_is_no_numeral table names word v has =
    no_numeral_apart word (All-contains (λ entry. begins_apart entry.0 ≡ true) table (word, v) (AllPass-from_list_all (λ entry. begins_apart entry.0) table names.begin_apart) has)

-- a word that is a name of the table or numeric spells one thing
pub spelled_is_one : {V : Type 0} (table : List (List ℕ × V)) (IsNumeric : List ℕ → V → Type 0) → IsNameTable table
    → ((word : List ℕ) (v : V) → IsNumeric word v → IsNumeral 10 word)
    → ((word : List ℕ) (u v : V) → IsNumeric word u → IsNumeric word v → u ≡ v)
    → (word : List ℕ) (u v : V) → Contains table (word, u) ⊎ IsNumeric word u → Contains table (word, v) ⊎ IsNumeric word v → u ≡ v
spelled_is_one table IsNumeric names numeral one word u v (inl first) (inl second) = name_is_one table names word u v first second
spelled_is_one table IsNumeric names numeral one word u v (inl first) (inr second) = absurd (name_is_no_numeral table names word u first (numeral word v second))
spelled_is_one table IsNumeric names numeral one word u v (inr first) (inl second) = absurd (name_is_no_numeral table names word v second (numeral word u first))
spelled_is_one table IsNumeric names numeral one word u v (inr first) (inr second) = one word u v first second

-- what a look-up finds stands in the table
pub found_is_name : {V : Type 0} (table : List (List ℕ × V)) (word : List ℕ) (v : V) → lookup (bytes_eq word) table ≡ Some v → Contains table (word, v)
found_is_name table word v found = Contains-from_lookup (λ x y. (bytes_eq-Decides x y).0) word v table found

-- a word that a look-up does not find, and that is not numeric, spells nothing
pub nothing_spelled : {V : Type 0} (table : List (List ℕ × V)) (IsNumeric : List ℕ → V → Type 0) → IsNameTable table
    → (word : List ℕ) → lookup (bytes_eq word) table ≡ None → ((v : V) → IsNumeric word v → ⊥) → (v : V) → Contains table (word, v) ⊎ IsNumeric word v → ⊥
nothing_spelled table IsNumeric names word absent no_number v (inl name) =
    let present = name_is_found table names word v name in absurd (cc)
nothing_spelled table IsNumeric names word absent no_number v (inr number) = no_number v number
