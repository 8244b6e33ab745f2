-- The parts of being a universe of a signature as tests, where each element is below a number.
use Rattle.std.specs.Prelude.{ℕ, ◌^◌, Bool, true, false, not, ◌&&◌, ◌||◌, ◌==◌, nat_lt, List, [], ◌∷◌, ◌++◌, Option, Some, None, is_none, length, slice_get, option_and_then}
use Rattle.std.specs.List.{list_all}
use Rattle.std.specs.Option.{option_map_or}
use Rattle.sorted_logic.specs.declared.declarations.FuncDecl.{FuncDecl}
use Rattle.sorted_logic.specs.declared.declarations.RelDecl.{RelDecl}
use Rattle.sorted_logic.specs.declared.declarations.SortDecl.{SortDecl}
use Rattle.sorted_logic.specs.declared.term.Sort.{Sort}
use Rattle.sorted_logic.specs.declared.universe.Entry.{Entry}
use Rattle.sorted_logic.specs.Finite.{Table, row, answers}
use Rattle.sorted_logic.specs.Inside.Evaluation.{all_below}
use Rattle.sorted_logic.specs.Signature.{Signature, parent}
use Rattle.sorted_logic.specs.Truth.{passes_of}
use Rattle.sorted_logic.specs.Universe.{Universe}

-- Sorts.

abbrev pub is_inside : Universe → ℕ → ℕ → ℕ → Bool
is_inside u n s t = all_below n (λ e. not (u.has s e) || u.has t e)

abbrev pub is_in_parent : Universe → ℕ → List SortDecl → ℕ → Bool
is_in_parent u n sorts s = option_map_or (is_inside u n s) (parent sorts s) true

abbrev pub are_apart : Universe → ℕ → ℕ → ℕ → Bool
are_apart u n s t = all_below n (λ e. not (u.has s e && u.has t e))

abbrev pub are_apart_roots : Universe → ℕ → List SortDecl → ℕ → ℕ → Bool
are_apart_roots u n sorts s t = not (is_none (parent sorts s) && is_none (parent sorts t)) || are_apart u n s t

-- no root before the sort shares an element with it, if it is a root itself
abbrev pub is_apart_from_earlier : Universe → ℕ → List SortDecl → ℕ → Bool
is_apart_from_earlier u n sorts s = all_below s (are_apart_roots u n sorts s)

-- Functions and relations.

abbrev pub are_elements : Universe → List Sort → List ℕ → Bool
are_elements u [] [] = true
are_elements u (s ∷ sorts) (e ∷ elements) = u.has s.0 e && are_elements u sorts elements
are_elements u _ _ = false

abbrev pub entries_fit : Universe → List Sort → List Entry → Bool
entries_fit u sorts entries = list_all (λ entry. are_elements u sorts entry.args) entries

abbrev pub facts_fit : Universe → List Sort → List (List ℕ) → Bool
facts_fit u sorts facts = list_all (are_elements u sorts) facts

-- the function has a value at the elements, in its result sort
abbrev pub is_valued : Universe → ℕ → FuncDecl → List ℕ → Bool
is_valued u f d elements = passes_of (u.has d.result.0) (u.value f elements)

-- the test passes of those that were chosen with all elements of these sorts behind them
abbrev pub each_choice : Universe → ℕ → (List ℕ → Bool) → List Sort → List ℕ → Bool
each_choice u n test [] chosen = test chosen
each_choice u n test (s ∷ sorts) chosen =
    all_below n (λ e. not (u.has s.0 e) || each_choice u n test sorts (chosen ++ e ∷ []))

abbrev pub values_fit : Universe → ℕ → List FuncDecl → ℕ → Bool
values_fit u n functions f =
    option_map_or (λ d. each_choice u n (is_valued u f d) d.args []) (slice_get functions f) true

abbrev pub arguments_fit : Table → List FuncDecl → ℕ → Bool
arguments_fit table functions f =
    option_map_or (λ d. entries_fit (answers table) d.args (row table.values f)) (slice_get functions f) true

abbrev pub relation_fits : Table → List RelDecl → ℕ → Bool
relation_fits table relations r =
    option_map_or (λ d. facts_fit (answers table) d.args (row table.facts r)) (slice_get relations r) true

-- Numbers.

abbrev pub bits_of : List SortDecl → ℕ → Option ℕ
bits_of sorts s = option_and_then (λ d. d.bits) (slice_get sorts s)

abbrev pub carries : Universe → ℕ → ℕ → Bool
carries u bits e = passes_of (λ number. nat_lt number (2 ^ bits)) (u.number e)

abbrev pub all_carry : Universe → ℕ → ℕ → ℕ → Bool
all_carry u n s bits = all_below n (λ e. not (u.has s e) || carries u bits e)

abbrev pub numbers_fit : Universe → ℕ → List SortDecl → ℕ → Bool
numbers_fit u n sorts s = option_map_or (all_carry u n s) (bits_of sorts s) true

abbrev pub same_number : Option ℕ → Option ℕ → Bool
same_number (Some a) (Some b) = a == b
same_number None None = true
same_number _ _ = false

abbrev pub share_number : Universe → ℕ → ℕ → ℕ → Bool
share_number u s e other = u.has s e && u.has s other && same_number (u.number e) (u.number other)

-- no element before one carries its number
abbrev pub differs_from_earlier : Universe → ℕ → ℕ → Bool
differs_from_earlier u s e = all_below e (λ other. not (share_number u s e other))

abbrev pub numbers_differ : Universe → ℕ → List SortDecl → ℕ → Bool
numbers_differ u n sorts s =
    option_map_or (λ bits. all_below n (differs_from_earlier u s)) (bits_of sorts s) true

-- All together.

abbrev pub fits_numbers : Universe → ℕ → Signature → Bool
fits_numbers u n sig = all_below (length sig.sorts) (numbers_fit u n sig.sorts)
    && all_below (length sig.sorts) (numbers_differ u n sig.sorts)

abbrev pub fits_sorts : Universe → ℕ → Signature → Bool
fits_sorts u n sig = all_below (length sig.sorts) (is_in_parent u n sig.sorts)
    && all_below (length sig.sorts) (is_apart_from_earlier u n sig.sorts)
    && list_all (λ pair. are_apart u n pair.0.0 pair.1.0) sig.disjoint
    && fits_numbers u n sig

abbrev pub fits_symbols : Table → Signature → Bool
fits_symbols table sig = all_below (length sig.functions) (values_fit (answers table) table.size sig.functions)
    && all_below (length sig.functions) (arguments_fit table sig.functions)
    && all_below (length sig.relations) (relation_fits table sig.relations)
