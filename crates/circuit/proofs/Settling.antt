-- What a choice of the first inputs settles is right, stays, and is everything once all inputs are chosen.
use Rattle.std.proofs.Common.{◌≡◌, ℕ, ◌+◌, ◌<◌, ◌≤◌, zero, suc, replicate, Bool, true, false, not, if◌then◌else◌, ◌&&◌, ◌||◌, cond, Option, Some, None, is_some, List, [], ◌∷◌, ◌++◌, length, get_or, take, drop, refl, sym, ap, ap₂, subst, ◌∙◌, inl, inr, arith, append_assoc, append-nil}
use Rattle.std.specs.Prelude.{IfSome, slice_get}
use Rattle.std.specs.Option.{option_map}
use Rattle.std.specs.List.{fold, AllZip, AllByRecursion, list_all, list_any}
use Rattle.std.proofs.lemmas.List.{get_or_append_left, get_or_push, take_more, take-append-drop, length-take-le, length-replicate}
use Rattle.std.proofs.lemmas.List.Sums.{fold-append, sum_by_more_le}
use Rattle.std.proofs.lemmas.List.Folds.{fold_along}
use Rattle.std.proofs.lemmas.List.Elements.{recursion_from_All}
use Rattle.std.proofs.lemmas.Bool.{cases_lt, and_right, or_right}
use Rattle.circuit.specs.declared.gate.Gate.{Gate}
use Rattle.circuit.specs.declared.gate.Gate.TheVariants as gate
use Rattle.circuit.specs.Value.{value_at, gate_value, values, value, is_input, input_count, IsInputBelow, IsNumbered, IsCircuit}
use Rattle.circuit.specs.Settled.{settled_at, settled_and, settled_or, settled_all, settled_any, settled_ite, settled_value, settled, StaysSettled}

abbrev step : List Bool → List (Option Bool) → Gate → List (Option Bool)
step chosen so_far g = so_far ++ settled_value chosen so_far g ∷ []

begins : (chosen : List Bool) (so_far : List (Option Bool)) (gates : List Gate) → (more : List (Option Bool)) × (fold (step chosen) so_far gates ≡ so_far ++ more) × (length more ≡ length gates)
begins chosen so_far [] = ([], sym (append-nil so_far), refl)
begins chosen so_far (g ∷ gates) =
    let ih = begins chosen (step chosen so_far g) gates in
    (settled_value chosen so_far g ∷ ih.0, ih.1 ∙ append_assoc so_far (settled_value chosen so_far g ∷ []) ih.0, omega (arith, ih.2))

pub length-settled : (gates : List Gate) (chosen : List Bool) → length (settled gates chosen) ≡ length gates
unfolding settled
length-settled gates chosen = let b = begins chosen [] gates in ap length b.1 ∙ b.2

pub settled_push : (gates : List Gate) (g : Gate) (chosen : List Bool) → settled (gates ++ g ∷ []) chosen ≡ settled gates chosen ++ settled_value chosen (settled gates chosen) g ∷ []
unfolding settled
settled_push gates g chosen = fold-append (step chosen) [] gates (g ∷ [])

pub settled-append : (gates more : List Gate) (chosen : List Bool) → (rest : List (Option Bool)) × (settled (gates ++ more) chosen ≡ settled gates chosen ++ rest)
unfolding settled
settled-append gates more chosen =
    let b = begins chosen (settled gates chosen) more in
    (b.0, fold-append (step chosen) [] gates more ∙ b.1)

-- one gate more, as at a step of a loop
pub settled_more : (gates : List Gate) (i : ℕ) (g : Gate) (chosen : List Bool) → i < length gates →
    settled (take (i + 1) gates) chosen ≡ settled (take i gates) chosen ++ settled_value chosen (settled (take i gates) chosen) (get_or gates i g) ∷ []
settled_more gates i g chosen h = ap (λ gs. settled gs chosen) (take_more gates i g h) ∙ settled_push (take i gates) (get_or gates i g) chosen

pub settled_entry : (gates : List Gate) (i : ℕ) (g : Gate) (chosen : List Bool) (d : Option Bool) → i < length gates →
    get_or (settled gates chosen) i d ≡ settled_value chosen (settled (take i gates) chosen) (get_or gates i g)
settled_entry gates i g chosen d h =
    let front : List Gate = take (i + 1) gates in
    let v = settled-append front (drop (i + 1) gates) chosen in
    let more = settled_more gates i g chosen h in
    let m1 : length (settled (take i gates) chosen) ≡ i = length-settled (take i gates) chosen ∙ length-take-le i gates (omega arith) in
    let m2 : length (settled front chosen) ≡ i + 1 = length-settled front chosen ∙ length-take-le (i + 1) gates (omega arith) in
    ap (λ gs. get_or (settled gs chosen) i d) (sym (take-append-drop (i + 1) gates))
    ∙ ap (λ os. get_or os i d) v.1
    ∙ get_or_append_left (settled front chosen) v.0 d i (omega arith)
    ∙ ap (λ os. get_or os i d) more
    ∙ get_or_push (settled (take i gates) chosen) (settled_value chosen (settled (take i gates) chosen) (get_or gates i g)) d i m1

-- ---- two lists, place by place
zip_push : {A B : Type 0} (R : A → B → Type 0) (xs : List A) (ys : List B) (x : A) (y : B) → AllZip R xs ys → R x y → AllZip R (xs ++ x ∷ []) (ys ++ y ∷ [])
zip_push R [] [] x y z r = (r, tt)
zip_push R [] (w ∷ ys) x y z r = absurd z
zip_push R (v ∷ xs) [] x y z r = absurd z
zip_push R (v ∷ xs) (w ∷ ys) x y z r = (z.0, zip_push R xs ys x y z.1 r)

zip_at : {A B : Type 0} (R : A → B → Type 0) (xs : List A) (ys : List B) (k : ℕ) (d : A) (e : B) → R d e → AllZip R xs ys → R (get_or xs k d) (get_or ys k e)
zip_at R [] [] k d e r z = r
zip_at R [] (w ∷ ys) k d e r z = absurd z
zip_at R (v ∷ xs) [] k d e r z = absurd z
zip_at R (v ∷ xs) (w ∷ ys) zero d e r z = z.0
zip_at R (v ∷ xs) (w ∷ ys) (suc k) d e r z = zip_at R xs ys k d e r z.1

-- ---- what is settled is right
abbrev Says : Option Bool → Bool → Type 0
Says o b = IfSome o (λ v. b ≡ v)

Says-and : (a b : Option Bool) (x y : Bool) → Says a x → Says b y → Says (settled_and a b) (x && y)
Says-and (Some false) b x y p q = ap (λ t. t && y) p
Says-and (Some true) (Some v) x y p q = ap (λ t. t && y) p ∙ q
Says-and (Some true) None x y p q = tt
Says-and None (Some false) x y p q = and_right x y q
Says-and None (Some true) x y p q = tt
Says-and None None x y p q = tt

Says-or : (a b : Option Bool) (x y : Bool) → Says a x → Says b y → Says (settled_or a b) (x || y)
Says-or (Some true) b x y p q = ap (λ t. t || y) p
Says-or (Some false) (Some v) x y p q = ap (λ t. t || y) p ∙ q
Says-or (Some false) None x y p q = tt
Says-or None (Some true) x y p q = or_right x y q
Says-or None (Some false) x y p q = tt
Says-or None None x y p q = tt

Says-not : (a : Option Bool) (x : Bool) → Says a x → Says (option_map not a) (not x)
Says-not (Some v) x p = ap not p
Says-not None x p = tt

Says-all : (node : ℕ → Option Bool) (val : ℕ → Bool) → ((k : ℕ) → Says (node k) (val k)) → (parts : List ℕ) → Says (settled_all node parts) (list_all val parts)
Says-all node val h [] = refl
Says-all node val h (part ∷ parts) = Says-and (node part) (settled_all node parts) (val part) (list_all val parts) (h part) (Says-all node val h parts)

Says-any : (node : ℕ → Option Bool) (val : ℕ → Bool) → ((k : ℕ) → Says (node k) (val k)) → (parts : List ℕ) → Says (settled_any node parts) (list_any val parts)
Says-any node val h [] = refl
Says-any node val h (part ∷ parts) = Says-or (node part) (settled_any node parts) (val part) (list_any val parts) (h part) (Says-any node val h parts)

Says-ite : (o p q : Option Bool) (b c d : Bool) → Says o b → Says p c → Says q d → Says (settled_ite o p q) (if b then c else d)
Says-ite (Some true) p q true c d h i j = i
Says-ite (Some true) p q false c d h i j = cc
Says-ite (Some false) p q true c d h i j = cc
Says-ite (Some false) p q false c d h i j = j
Says-ite None (Some true) (Some true) true c d h i j = i
Says-ite None (Some true) (Some true) false c d h i j = j
Says-ite None (Some false) (Some false) true c d h i j = i
Says-ite None (Some false) (Some false) false c d h i j = j
Says-ite None (Some true) (Some false) b c d h i j = tt
Says-ite None (Some false) (Some true) b c d h i j = tt
Says-ite None (Some true) None b c d h i j = tt
Says-ite None (Some false) None b c d h i j = tt
Says-ite None None q b c d h i j = tt

Says-input : (chosen rest : List Bool) (number : ℕ) → Says (slice_get chosen number) (value_at (chosen ++ rest) number)
Says-input [] rest number = tt
Says-input (v ∷ chosen) rest zero = refl
Says-input (v ∷ chosen) rest (suc number) = Says-input chosen rest number

Says-gate : (chosen rest : List Bool) (table : List (Option Bool)) (vs : List Bool) (g : Gate) → AllZip Says table vs → Says (settled_value chosen table g) (gate_value (chosen ++ rest) vs g)
Says-gate chosen rest table vs (gate.Input number) z = Says-input chosen rest number
Says-gate chosen rest table vs (gate.And parts) z = Says-all (settled_at table) (value_at vs) (λ k. zip_at Says table vs k (Some false) false refl z) parts
Says-gate chosen rest table vs (gate.Or parts) z = Says-any (settled_at table) (value_at vs) (λ k. zip_at Says table vs k (Some false) false refl z) parts
Says-gate chosen rest table vs (gate.Not part) z = Says-not (settled_at table part) (value_at vs part) (zip_at Says table vs part (Some false) false refl z)
Says-gate chosen rest table vs (gate.Ite condition a b) z =
    let at : (k : ℕ) → Says (settled_at table k) (value_at vs k) = λ k. zip_at Says table vs k (Some false) false refl z in
    Says-ite (settled_at table condition) (settled_at table a) (settled_at table b) (value_at vs condition) (value_at vs a) (value_at vs b) (at condition) (at a) (at b)

settled_says : (gates : List Gate) (chosen rest : List Bool) → AllZip Says (settled gates chosen) (values gates (chosen ++ rest))
unfolding settled values
settled_says gates chosen rest =
    fold_along (step chosen) (λ so_far g. so_far ++ gate_value (chosen ++ rest) so_far g ∷ []) (AllZip Says)
    (λ table vs g z. zip_push Says table vs (settled_value chosen table g) (gate_value (chosen ++ rest) vs g) z (Says-gate chosen rest table vs g z))
    [] [] gates tt

settled_value_of : (v b : Bool) (o : Option Bool) → o ≡ Some v → Says o b → b ≡ v
settled_value_of v b o e = let P : Option Bool → Type 0 = λ p. Says p b → b ≡ v in subst P (sym e) (λ q. q)

-- a node that is settled has that value, whatever the other inputs are
pub settled_is_value : (gates : List Gate) (chosen rest : List Bool) (node : ℕ) (v : Bool) → settled_at (settled gates chosen) node ≡ Some v → value gates (chosen ++ rest) node ≡ v
unfolding value
settled_is_value gates chosen rest node v e =
    settled_value_of v (value gates (chosen ++ rest) node) (settled_at (settled gates chosen) node) e
    (zip_at Says (settled gates chosen) (values gates (chosen ++ rest)) node (Some false) false refl (settled_says gates chosen rest))

-- ---- what is settled stays
stays_itself : (o : Option Bool) → StaysSettled o o
stays_itself (Some v) = refl
stays_itself None = tt

and_false : (a : Option Bool) → settled_and a (Some false) ≡ Some false
and_false (Some true) = refl
and_false (Some false) = refl
and_false None = refl

or_true : (a : Option Bool) → settled_or a (Some true) ≡ Some true
or_true (Some true) = refl
or_true (Some false) = refl
or_true None = refl

Stays-and : (a b c d : Option Bool) → StaysSettled a c → StaysSettled b d → StaysSettled (settled_and a b) (settled_and c d)
Stays-and (Some false) b c d p q = ap (λ o. settled_and o d) p
Stays-and (Some true) (Some v) c d p q = ap (λ o. settled_and o d) p ∙ q
Stays-and (Some true) None c d p q = tt
Stays-and None (Some false) c d p q = ap (λ o. settled_and c o) q ∙ and_false c
Stays-and None (Some true) c d p q = tt
Stays-and None None c d p q = tt

Stays-or : (a b c d : Option Bool) → StaysSettled a c → StaysSettled b d → StaysSettled (settled_or a b) (settled_or c d)
Stays-or (Some true) b c d p q = ap (λ o. settled_or o d) p
Stays-or (Some false) (Some v) c d p q = ap (λ o. settled_or o d) p ∙ q
Stays-or (Some false) None c d p q = tt
Stays-or None (Some true) c d p q = ap (λ o. settled_or c o) q ∙ or_true c
Stays-or None (Some false) c d p q = tt
Stays-or None None c d p q = tt

Stays-not : (a c : Option Bool) → StaysSettled a c → StaysSettled (option_map not a) (option_map not c)
Stays-not (Some v) c p = ap (option_map not) p
Stays-not None c p = tt

-- what both parts agree on stays, whatever comes to be settled of the condition
alike_true : (c : Option Bool) → settled_ite c (Some true) (Some true) ≡ Some true
alike_true (Some true) = refl
alike_true (Some false) = refl
alike_true None = refl

alike_false : (c : Option Bool) → settled_ite c (Some false) (Some false) ≡ Some false
alike_false (Some true) = refl
alike_false (Some false) = refl
alike_false None = refl

Stays-ite : (o p q c d e : Option Bool) → StaysSettled o c → StaysSettled p d → StaysSettled q e → StaysSettled (settled_ite o p q) (settled_ite c d e)
Stays-ite (Some true) (Some v) q c d e h i j = ap (λ x. settled_ite x d e) h ∙ i
Stays-ite (Some true) None q c d e h i j = tt
Stays-ite (Some false) p (Some v) c d e h i j = ap (λ x. settled_ite x d e) h ∙ j
Stays-ite (Some false) p None c d e h i j = tt
Stays-ite None (Some true) (Some true) c d e h i j = ap₂ (settled_ite c) i j ∙ alike_true c
Stays-ite None (Some false) (Some false) c d e h i j = ap₂ (settled_ite c) i j ∙ alike_false c
Stays-ite None (Some true) (Some false) c d e h i j = tt
Stays-ite None (Some false) (Some true) c d e h i j = tt
Stays-ite None (Some true) None c d e h i j = tt
Stays-ite None (Some false) None c d e h i j = tt
Stays-ite None None q c d e h i j = tt

Stays-all : (node later : ℕ → Option Bool) → ((k : ℕ) → StaysSettled (node k) (later k)) → (parts : List ℕ) → StaysSettled (settled_all node parts) (settled_all later parts)
Stays-all node later h [] = refl
Stays-all node later h (part ∷ parts) = Stays-and (node part) (settled_all node parts) (later part) (settled_all later parts) (h part) (Stays-all node later h parts)

Stays-any : (node later : ℕ → Option Bool) → ((k : ℕ) → StaysSettled (node k) (later k)) → (parts : List ℕ) → StaysSettled (settled_any node parts) (settled_any later parts)
Stays-any node later h [] = refl
Stays-any node later h (part ∷ parts) = Stays-or (node part) (settled_any node parts) (later part) (settled_any later parts) (h part) (Stays-any node later h parts)

Stays-input : (chosen rest : List Bool) (number : ℕ) → StaysSettled (slice_get chosen number) (slice_get (chosen ++ rest) number)
Stays-input [] rest number = tt
Stays-input (v ∷ chosen) rest zero = refl
Stays-input (v ∷ chosen) rest (suc number) = Stays-input chosen rest number

Stays-gate : (chosen rest : List Bool) (table later : List (Option Bool)) (g : Gate) → AllZip StaysSettled table later → StaysSettled (settled_value chosen table g) (settled_value (chosen ++ rest) later g)
Stays-gate chosen rest table later (gate.Input number) z = Stays-input chosen rest number
Stays-gate chosen rest table later (gate.And parts) z = Stays-all (settled_at table) (settled_at later) (λ k. zip_at StaysSettled table later k (Some false) (Some false) refl z) parts
Stays-gate chosen rest table later (gate.Or parts) z = Stays-any (settled_at table) (settled_at later) (λ k. zip_at StaysSettled table later k (Some false) (Some false) refl z) parts
Stays-gate chosen rest table later (gate.Not part) z = Stays-not (settled_at table part) (settled_at later part) (zip_at StaysSettled table later part (Some false) (Some false) refl z)
Stays-gate chosen rest table later (gate.Ite condition a b) z =
    let at : (k : ℕ) → StaysSettled (settled_at table k) (settled_at later k) = λ k. zip_at StaysSettled table later k (Some false) (Some false) refl z in
    Stays-ite (settled_at table condition) (settled_at table a) (settled_at table b) (settled_at later condition) (settled_at later a) (settled_at later b) (at condition) (at a) (at b)

pub settled_stays : (gates : List Gate) (chosen rest : List Bool) → AllZip StaysSettled (settled gates chosen) (settled gates (chosen ++ rest))
unfolding settled
settled_stays gates chosen rest =
    fold_along (step chosen) (step (chosen ++ rest)) (AllZip StaysSettled)
    (λ table later g z. zip_push StaysSettled table later (settled_value chosen table g) (settled_value (chosen ++ rest) later g) z (Stays-gate chosen rest table later g z))
    [] [] gates tt

-- a table in which nothing is settled
nothing : (table : List (Option Bool)) → AllByRecursion (λ o. o ≡ None) table → (later : List (Option Bool)) → length table ≡ length later → AllZip StaysSettled table later
nothing [] h [] e = tt
nothing [] h (o ∷ later) e = absurd (omega arith)
nothing (o ∷ table) h [] e = absurd (omega arith)
nothing (o ∷ table) h (p ∷ later) e = (let P : Option Bool → Type 0 = λ q. StaysSettled q p in subst P (sym h.0) tt, nothing table h.1 later (omega arith))

none_replicated : (n : ℕ) → AllByRecursion (λ (o : Option Bool). o ≡ None) (replicate n None)
none_replicated zero = tt
none_replicated (suc n) = (refl, none_replicated n)

pub nothing_settled : (gates : List Gate) (chosen : List Bool) → AllZip StaysSettled (replicate (length gates) None) (settled gates chosen)
nothing_settled gates chosen = nothing (replicate (length gates) None) (none_replicated (length gates)) (settled gates chosen) (length-replicate (length gates) None ∙ sym (length-settled gates chosen))

-- ---- once all inputs are chosen, everything is settled
abbrev IsKnown : Option Bool → Type 0
IsKnown o = is_some o ≡ true

known-and : (a b : Option Bool) → IsKnown a → IsKnown b → IsKnown (settled_and a b)
known-and (Some false) b p q = refl
known-and (Some true) b p q = q
known-and None b p q = cc

known-or : (a b : Option Bool) → IsKnown a → IsKnown b → IsKnown (settled_or a b)
known-or (Some true) b p q = refl
known-or (Some false) b p q = q
known-or None b p q = cc

known-not : (a : Option Bool) → IsKnown a → IsKnown (option_map not a)
known-not (Some v) p = refl
known-not None p = p

known-ite : (o p q : Option Bool) → IsKnown o → IsKnown p → IsKnown q → IsKnown (settled_ite o p q)
known-ite (Some true) p q h i j = i
known-ite (Some false) p q h i j = j
known-ite None p q h i j = cc

known-all : (node : ℕ → Option Bool) → ((k : ℕ) → IsKnown (node k)) → (parts : List ℕ) → IsKnown (settled_all node parts)
known-all node h [] = refl
known-all node h (part ∷ parts) = known-and (node part) (settled_all node parts) (h part) (known-all node h parts)

known-any : (node : ℕ → Option Bool) → ((k : ℕ) → IsKnown (node k)) → (parts : List ℕ) → IsKnown (settled_any node parts)
known-any node h [] = refl
known-any node h (part ∷ parts) = known-or (node part) (settled_any node parts) (h part) (known-any node h parts)

known-input : (chosen : List Bool) (number : ℕ) → number < length chosen → IsKnown (slice_get chosen number)
known-input [] number h = absurd (omega arith)
known-input (v ∷ chosen) zero h = refl
known-input (v ∷ chosen) (suc number) h = known-input chosen number (omega arith)

known_at : (table : List (Option Bool)) → AllByRecursion IsKnown table → (k : ℕ) → IsKnown (settled_at table k)
known_at [] h k = refl
known_at (o ∷ table) h zero = h.0
known_at (o ∷ table) h (suc k) = known_at table h.1 k

known_push : (table : List (Option Bool)) (o : Option Bool) → AllByRecursion IsKnown table → IsKnown o → AllByRecursion IsKnown (table ++ o ∷ [])
known_push [] o h k = (k, tt)
known_push (p ∷ table) o h k = (h.0, known_push table o h.1 k)

known-gate : (chosen : List Bool) (table : List (Option Bool)) (g : Gate) → AllByRecursion IsKnown table → IsInputBelow (length chosen) g → IsKnown (settled_value chosen table g)
known-gate chosen table (gate.Input number) h below = known-input chosen number below
known-gate chosen table (gate.And parts) h below = known-all (settled_at table) (known_at table h) parts
known-gate chosen table (gate.Or parts) h below = known-any (settled_at table) (known_at table h) parts
known-gate chosen table (gate.Not part) h below = known-not (settled_at table part) (known_at table h part)
known-gate chosen table (gate.Ite condition a b) h below =
    known-ite (settled_at table condition) (settled_at table a) (settled_at table b) (known_at table h condition) (known_at table h a) (known_at table h b)

known_from : (chosen : List Bool) (so_far : List (Option Bool)) (gates : List Gate) → AllByRecursion IsKnown so_far → AllByRecursion (IsInputBelow (length chosen)) gates → AllByRecursion IsKnown (fold (step chosen) so_far gates)
known_from chosen so_far [] h below = h
known_from chosen so_far (g ∷ gates) h below =
    known_from chosen (step chosen so_far g) gates (known_push so_far (settled_value chosen so_far g) h (known-gate chosen so_far g h below.0)) below.1

below_next : (m n : ℕ) (g : Gate) → IsNumbered m g → m + cond (is_input g) 1 0 ≤ n → IsInputBelow n g
below_next m n (gate.Input number) e h = omega arith
below_next m n (gate.And parts) e h = tt
below_next m n (gate.Or parts) e h = tt
below_next m n (gate.Not part) e h = tt
below_next m n (gate.Ite condition a b) e h = tt

pub input_below : (gates : List Gate) → IsCircuit gates → (k : ℕ) (d : Gate) → k < length gates → IsInputBelow (input_count gates) (get_or gates k d)
input_below gates c k d h = below_next (input_count (take k gates)) (input_count gates) (get_or gates k d) (c k d h).number (sum_by_more_le (λ g. cond (is_input g) 1 0) gates k d h)

pub inputs_below : (gates : List Gate) → IsCircuit gates → AllByRecursion (IsInputBelow (input_count gates)) gates
inputs_below gates c = recursion_from_All (IsInputBelow (input_count gates)) gates (input_below gates c)

all_known : (gates : List Gate) (chosen : List Bool) → IsCircuit gates → length chosen ≡ input_count gates → AllByRecursion IsKnown (settled gates chosen)
unfolding settled
all_known gates chosen c e = known_from chosen [] gates tt (let P : ℕ → Type 0 = λ n. AllByRecursion (IsInputBelow n) gates in subst P (sym e) (inputs_below gates c))

unknown : (o : Option Bool) → IsKnown o → o ≡ None → ⊥
unknown (Some v) k e = cc
unknown None k e = cc

-- where a node is not settled, an input is not chosen
pub some_left : (gates : List Gate) (chosen : List Bool) (node : ℕ) → IsCircuit gates → length chosen ≤ input_count gates → settled_at (settled gates chosen) node ≡ None → length chosen < input_count gates
some_left gates chosen node c h e =
    elim (cases_lt (length chosen) (input_count gates)) [
      | inl lt ↦ lt
      | inr ge ↦ absurd (unknown (settled_at (settled gates chosen) node) (known_at (settled gates chosen) (all_known gates chosen c (omega arith)) node) e)
    ]
