-- Find or add: a gate is found where it is there, and its node is worth what the gate is.
use Rattle.std.proofs.Common.{◌≡◌, ◌⊎◌, ℕ, ◌+◌, ◌<◌, ◌≤◌, ◌==◌, ◌&&◌, Bool, true, false, List, [], ◌∷◌, ◌++◌, length, get_or, take, Contains, nat_lt, Some, None, not, ◌||◌, if◌then◌else◌, cond, arith, refl, sym, ap, ap₂, subst, ◌∙◌, inl, inr}
use Rattle.std.specs.Bool.{Decides}
use Rattle.std.specs.Cmp.Lexicographic.{pointwise}
use Rattle.std.specs.List.{list_any, position_or_len}
use Rattle.std.proofs.lemmas.Bool.{cases_lt}
use Rattle.std.proofs.lemmas.Bool.Decides.{nat_tests}
use Rattle.std.proofs.lemmas.List.{length_push, take_more}
use Rattle.std.proofs.lemmas.List.Sums.{sum_by-take-le}
use Rattle.std.proofs.lemmas.List.Quantifiers.{position-Some}
use Rattle.std.proofs.lemmas.List.Folds.{list_any_at}
use Rattle.circuit.specs.contracts.gate.GatePartialEq.TheImpl.{eq-value}
use Rattle.circuit.specs.declared.gate.Gate.{Gate}
use Rattle.circuit.specs.declared.gate.Gate.TheVariants as gate
use Rattle.circuit.specs.Value.{is_input, input_count, IsCircuit, IsNumbered}
use Rattle.circuit.specs.Sharing.{same_gate, node_of, with_gate, made, found_or_added}
use Rattle.circuit.specs.Gates.{with_input}
use Rattle.indexmap.specs.IndexSet.{insert_key}
use Rattle.circuit.proofs.Extend.{IsCircuit-push, input_count-append}

-- ---- the test for the same gate
same_nat : (m n : ℕ) → (m == n) ≡ true → m ≡ n
same_nat m n t = grind (arith, nat_tests)

pub and_left : (a b : Bool) → (a && b) ≡ true → a ≡ true
and_left true b t = refl
and_left false b t = t

pub and_right : (a b : Bool) → (a && b) ≡ true → b ≡ true
and_right true b t = t
and_right false true t = refl
and_right false false t = t

same_parts : (xs ys : List ℕ) → pointwise ◌==◌ xs ys ≡ true → xs ≡ ys
same_parts [] [] t = refl
same_parts [] (y ∷ ys) t = cc
same_parts (x ∷ xs) [] t = cc
same_parts (x ∷ xs) (y ∷ ys) t = ap₂ ◌∷◌ (same_nat x y (and_left (x == y) (pointwise ◌==◌ xs ys) t)) (same_parts xs ys (and_right (x == y) (pointwise ◌==◌ xs ys) t))

pub same_is : (a b : Gate) → same_gate a b ≡ true → a ≡ b
same_is (gate.Input number) (gate.Input other) t = ap gate.Input (same_nat number other t)
same_is (gate.And parts) (gate.And others) t = ap gate.And (same_parts parts others t)
same_is (gate.Or parts) (gate.Or others) t = ap gate.Or (same_parts parts others t)
same_is (gate.Not part) (gate.Not other) t = ap gate.Not (same_nat part other t)
same_is (gate.Ite condition a b) (gate.Ite other c d) t = grind (arith, nat_tests)
same_is g other t = cc

nat_self : (n : ℕ) → (n == n) ≡ true
nat_self n = grind (arith, nat_tests)

parts_self : (xs : List ℕ) → pointwise ◌==◌ xs xs ≡ true
parts_self [] = refl
parts_self (x ∷ xs) = ap₂ ◌&&◌ (nat_self x) (parts_self xs)

same_self : (g : Gate) → same_gate g g ≡ true
same_self (gate.Input number) = nat_self number
same_self (gate.And parts) = parts_self parts
same_self (gate.Or parts) = parts_self parts
same_self (gate.Not part) = nat_self part
same_self (gate.Ite condition a b) = ap₂ ◌&&◌ (nat_self condition) (ap₂ ◌&&◌ (nat_self a) (nat_self b))

pub same_decides : (a b : Gate) → Decides (same_gate a b) (a ≡ b)
same_decides a b = (same_is a b, λ same. ap (same_gate a) (sym same) ∙ same_self a)

-- it is what the table of gates compares by
derived_same : (a b : Gate) → (eq-value).it a b ≡ same_gate a b
derived_same (gate.Input number) (gate.Input other) = refl
derived_same (gate.And parts) (gate.And others) = refl
derived_same (gate.Or parts) (gate.Or others) = refl
derived_same (gate.Not part) (gate.Not other) = refl
derived_same (gate.Ite condition a b) (gate.Ite other c d) = refl
derived_same g other = refl

pub table_same : (eq-value).it ≡ same_gate
table_same = λ i g other. derived_same g other i

-- ---- both cases
pub record IsFound (gates : List Gate) (g : Gate) : Type 0 where
  pub within : node_of gates g < length gates
  pub there : get_or gates (node_of gates g) g ≡ g
  pub stays : with_gate gates g ≡ gates

pub record IsAdded (gates : List Gate) (g : Gate) : Type 0 where
  pub node : node_of gates g ≡ length gates
  pub longer : with_gate gates g ≡ gates ++ g ∷ []

first_at : (p : Gate → Bool) (gates : List Gate) (g : Gate) → position_or_len p gates < length gates → p (get_or gates (position_or_len p gates) g) ≡ true
first_at p gates g lt =
    let within : nat_lt (position_or_len p gates) (length gates) ≡ true = grind (arith, nat_tests) in
    (position-Some p gates (position_or_len p gates) g (ap (λ t. cond t (Some (position_or_len p gates)) None) within)).1

behind_all : (p : Gate → Bool) (gates : List Gate) → position_or_len p gates ≤ length gates
behind_all p [] = omega arith
behind_all p (x ∷ xs) = by (p x) (behind_all p xs)
  where
    by : (t : Bool) → position_or_len p xs ≤ length xs → cond (not t) (1 + position_or_len p xs) 0 ≤ length (x ∷ xs)
    by true h = omega arith
    by false h = omega arith

none_passes : (p : Gate → Bool) (gates : List Gate) → length gates ≤ position_or_len p gates → list_any p gates ≡ false
none_passes p [] h = refl
none_passes p (x ∷ xs) h = by (p x) h (none_passes p xs)
  where
    by : (t : Bool) → length (x ∷ xs) ≤ cond (not t) (1 + position_or_len p xs) 0 → (length xs ≤ position_or_len p xs → list_any p xs ≡ false) → (t || list_any p xs) ≡ false
    by true long rest = absurd (omega arith)
    by false long rest = rest (omega arith)

pub found_or_new : (gates : List Gate) (g : Gate) → IsFound gates g ⊎ IsAdded gates g
unfolding node_of with_gate
found_or_new gates g =
    let p : Gate → Bool = same_gate g in
    elim (cases_lt (position_or_len p gates) (length gates)) [
      | inl lt ↦
          let passes = first_at p gates g lt in
          let any : list_any p gates ≡ true = list_any_at p gates (position_or_len p gates) g lt passes in
          inl (record {
            within = lt;
            there = sym (same_is g (get_or gates (position_or_len p gates) g) passes);
            stays = ap (λ t. if t then gates else gates ++ g ∷ []) any;
          })
      | inr ge ↦
          let none : list_any p gates ≡ false = none_passes p gates (omega arith) in
          inr (record {
            node = omega (arith, behind_all p gates);
            longer = ap (λ t. if t then gates else gates ++ g ∷ []) none;
          })
    ]

-- what the table of gates does is to find or to add
pub in_table : (gates new : List Gate) (g : Gate) (place : ℕ) → new ≡ insert_key (eq-value).it gates g → place ≡ position_or_len ((eq-value).it g) gates → made new place ≡ found_or_added gates g
unfolding node_of with_gate
in_table gates new g place keys index =
    ap₂ made (keys ∙ ap (λ eq. insert_key eq gates g) table_same) (index ∙ ap (λ eq. position_or_len (eq g) gates) table_same)

-- ---- a new input is not there yet
input_later : (gates : List Gate) (place : ℕ) (g : Gate) → IsCircuit gates → place < length gates → get_or gates place g ≡ gate.Input (input_count gates) → ⊥
input_later gates place g circuit within is =
    let before : List Gate = take place gates in
    let numbered : IsNumbered (input_count before) (gate.Input (input_count gates)) = subst (IsNumbered (input_count before)) is (circuit place g within).number in
    let one : input_count (before ++ gate.Input (input_count gates) ∷ []) ≡ input_count before + 1 = input_count-append before (gate.Input (input_count gates) ∷ []) in
    let longer : take (place + 1) gates ≡ before ++ gate.Input (input_count gates) ∷ [] = take_more gates place g within ∙ ap (λ h. before ++ h ∷ []) is in
    let fewer : input_count (take (place + 1) gates) ≤ input_count gates = sum_by-take-le (λ h. cond (is_input h) 1 0) gates (place + 1) in
    omega (arith, ap input_count longer)

pub input_added : (gates : List Gate) → IsCircuit gates → IsAdded gates (gate.Input (input_count gates))
input_added gates circuit =
    elim (found_or_new gates (gate.Input (input_count gates))) [
      | inl found ↦ absurd (input_later gates (node_of gates (gate.Input (input_count gates))) (gate.Input (input_count gates)) circuit found.within found.there)
      | inr added ↦ added
    ]

pub input_pushed : (gates new : List Gate) (number : ℕ) → IsCircuit gates → number ≡ input_count gates → new ≡ insert_key (eq-value).it gates (gate.Input number) → new ≡ with_input gates
unfolding with_gate
input_pushed gates new number circuit is keys =
    let table : new ≡ with_gate gates (gate.Input number) = keys ∙ ap (λ eq. insert_key eq gates (gate.Input number)) table_same in
    table ∙ ap (λ n. with_gate gates (gate.Input n)) is ∙ (input_added gates circuit).longer

pub input_circuit : (gates : List Gate) → IsCircuit gates → (input_count gates + 1 ≡ input_count (with_input gates)) × IsCircuit (with_input gates)
input_circuit gates circuit =
    let one : input_count (with_input gates) ≡ input_count gates + 1 = input_count-append gates (gate.Input (input_count gates) ∷ []) in
    (sym one, IsCircuit-push gates (gate.Input (input_count gates)) circuit (record { parts = tt; number = refl }))

-- ---- what find or add means
pub there_is_found : (gates : List Gate) (g : Gate) → Contains gates g → IsFound gates g
unfolding with_gate
there_is_found gates g there =
    elim (found_or_new gates g) [
      | inl found ↦ found
      | inr added ↦
          let any : list_any (same_gate g) gates ≡ true = list_any_at (same_gate g) gates there.0 g there.1 (ap (same_gate g) there.2 ∙ same_self g) in
          let stays : with_gate gates g ≡ gates = ap (λ t. if t then gates else gates ++ g ∷ []) any in
          absurd (omega (arith, ap length (sym stays ∙ added.longer), length_push gates g))
    ]

pub new_is_added : (gates : List Gate) (g : Gate) → (Contains gates g → ⊥) → IsAdded gates g
new_is_added gates g new =
    elim (found_or_new gates g) [
      | inl found ↦ absurd (new (node_of gates g, found.within, found.there))
      | inr added ↦ added
    ]
