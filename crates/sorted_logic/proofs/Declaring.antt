-- What names stand for where one more is declared.
use Rattle.std.specs.Prelude.{◌≡◌, ℕ, suc, Bool, true, false, ◌||◌, cond, List, [], ◌∷◌, ◌++◌, Option, Some, None, length, map, find, is_some, option_map, position, refl}
use Rattle.std.specs.List.{AllByRecursion, IsDistinct, list_any}
use Rattle.std.specs.Option.{option_or}
use Rattle.std.specs.Str.{bytes_eq}
use Rattle.std.proofs.Common.{ap, sym, subst, ◌∙◌}
use Rattle.std.proofs.lemmas.Map.Keys.{IsDistinct-head, IsDistinct-tail, IsDistinct-cons}
use Rattle.sorted_logic.specs.declared.declarations.FuncDecl.{FuncDecl}
use Rattle.sorted_logic.specs.declared.declarations.RelDecl.{RelDecl}
use Rattle.sorted_logic.specs.declared.declarations.SortDecl.{SortDecl}
use Rattle.sorted_logic.specs.declared.declarations.Symbol.{Symbol}
use Rattle.sorted_logic.specs.declared.declarations.Symbol.TheVariants as symbol
use Rattle.sorted_logic.specs.Adding.{is_taken, any_taken, symbol_of, with_sorts, with_function, with_relation}
use Rattle.sorted_logic.specs.Field.{field_names}
use Rattle.sorted_logic.specs.Inside.Kept.{Meant, meaning, is_known, any_known, meant_sort, meant_sorts}
use Rattle.sorted_logic.specs.Signature.{Signature, names}
use Rattle.sorted_logic.proofs.Places.{position_step, same_bytes, differ_flipped, all_false, neither}

-- Lists.

pub any_append : {A : Type 0} (p : A → Bool) (xs ys : List A) → list_any p (xs ++ ys) ≡ (list_any p xs || list_any p ys)
any_append p [] ys = refl
any_append p (x ∷ xs) ys = go (p x) (any_append p xs ys)
  where
    go : (b : Bool) → list_any p (xs ++ ys) ≡ (list_any p xs || list_any p ys) → (b || list_any p (xs ++ ys)) ≡ ((b || list_any p xs) || list_any p ys)
    go true h = refl
    go false h = h

pub any_mapped : {A B : Type 0} (p : B → Bool) (f : A → B) (xs : List A) → list_any p (map f xs) ≡ list_any (λ x. p (f x)) xs
any_mapped p f [] = refl
any_mapped p f (x ∷ xs) = ap (λ rest. p (f x) || rest) (any_mapped p f xs)

pub map_push : {A B : Type 0} (f : A → B) (xs : List A) (x : A) → map f (xs ++ x ∷ []) ≡ map f xs ++ f x ∷ []
map_push f [] x = refl
map_push f (y ∷ ys) x = ap (λ rest. f y ∷ rest) (map_push f ys x)

pub push_then : {A : Type 0} (xs : List A) (x : A) (ys : List A) → (xs ++ x ∷ []) ++ ys ≡ xs ++ x ∷ ys
push_then [] x ys = refl
push_then (y ∷ xs) x ys = ap (λ rest. y ∷ rest) (push_then xs x ys)

pub append_thrice : {A : Type 0} (xs ys zs : List A) → (xs ++ ys) ++ zs ≡ xs ++ (ys ++ zs)
append_thrice [] ys zs = refl
append_thrice (x ∷ xs) ys zs = ap (λ rest. x ∷ rest) (append_thrice xs ys zs)

pub length_push : {A : Type 0} (xs : List A) (x : A) → length (xs ++ x ∷ []) ≡ suc (length xs)
length_push [] x = refl
length_push (y ∷ ys) x = ap suc (length_push ys x)

pub append_none : {A : Type 0} (xs : List A) → xs ++ [] ≡ xs
append_none [] = refl
append_none (x ∷ xs) = ap (λ rest. x ∷ rest) (append_none xs)

pub all_inserted : {A : Type 0} (P : A → Type 0) (xs ys : List A) (x : A) → AllByRecursion P (xs ++ ys) → P x → AllByRecursion P (xs ++ x ∷ ys)
all_inserted P [] ys x h p = (p, h)
all_inserted P (y ∷ xs) ys x h p = (h.0, all_inserted P xs ys x h.1 p)

pub distinct_inserted : (xs ys : List (List ℕ)) (x : List ℕ) → IsDistinct bytes_eq (xs ++ ys) → list_any (bytes_eq x) (xs ++ ys) ≡ false
    → IsDistinct bytes_eq (xs ++ x ∷ ys)
distinct_inserted [] ys x h n = IsDistinct-cons bytes_eq x ys (all_false (bytes_eq x) ys n) h
distinct_inserted (y ∷ xs) ys x h n =
    let m : (bytes_eq x y ≡ false) × (list_any (bytes_eq x) (xs ++ ys) ≡ false) = neither (bytes_eq x y) _ n in
    IsDistinct-cons bytes_eq y (xs ++ x ∷ ys)
    (all_inserted (λ z. bytes_eq y z ≡ false) xs ys x (IsDistinct-head bytes_eq y (xs ++ ys) h) (differ_flipped x y m.0))
    (distinct_inserted xs ys x (IsDistinct-tail bytes_eq y (xs ++ ys) h) m.1)

-- Look-ups.

option_or_none : {A : Type 0} (x : Option A) → option_or x None ≡ x
option_or_none None = refl
option_or_none (Some x) = refl

pub position_push : {A : Type 0} (p : A → Bool) (xs : List A) (x : A)
    → position p (xs ++ x ∷ []) ≡ option_or (position p xs) (cond (p x) (Some (length xs)) None)
position_push p [] x = position_step p x [] ∙ go (p x)
  where
    go : (b : Bool) → cond b (Some 0) (option_map suc (position p [])) ≡ option_or (position p []) (cond b (Some 0) None)
    go true = refl
    go false = refl
position_push p (y ∷ ys) x = position_step p y (ys ++ x ∷ []) ∙ go (p y) (position p ys) (position_push p ys x)
    ∙ ap (λ o. option_or o (cond (p x) (Some (suc (length ys))) None)) (sym (position_step p y ys))
  where
    last : (b : Bool) → option_map suc (cond b (Some (length ys)) None) ≡ cond b (Some (suc (length ys))) None
    last true = refl
    last false = refl

    go : (b : Bool) (o : Option ℕ) → position p (ys ++ x ∷ []) ≡ option_or o (cond (p x) (Some (length ys)) None)
        → cond b (Some 0) (option_map suc (position p (ys ++ x ∷ []))) ≡ option_or (cond b (Some 0) (option_map suc o)) (cond (p x) (Some (suc (length ys))) None)
    go true o h = refl
    go false None h = ap (option_map suc) h ∙ last (p x)
    go false (Some k) h = ap (option_map suc) h

pub position_some : {A : Type 0} (p : A → Bool) (xs : List A) → is_some (position p xs) ≡ list_any p xs
position_some p [] = refl
position_some p (x ∷ xs) = ap is_some (position_step p x xs) ∙ go (p x) (position p xs) (position_some p xs)
  where
    go : (b : Bool) (o : Option ℕ) → is_some o ≡ list_any p xs → is_some (cond b (Some 0) (option_map suc o)) ≡ (b || list_any p xs)
    go true o h = refl
    go false None h = h
    go false (Some k) h = h

pub meaning_push : (map : List Meant) (m : Meant) (name : List ℕ)
    → meaning (map ++ m ∷ []) name ≡ option_or (meaning map name) (cond (bytes_eq name m.name) (Some m.symbol) None)
meaning_push [] m name = go (bytes_eq name m.name)
  where
    go : (b : Bool) → option_map (λ m. m.symbol) (cond b (Some m) None) ≡ cond b (Some m.symbol) None
    go true = refl
    go false = refl
meaning_push (x ∷ map) m name = go (bytes_eq name x.name) (meaning_push map m name)
  where
    go : (b : Bool) → meaning (map ++ m ∷ []) name ≡ option_or (meaning map name) (cond (bytes_eq name m.name) (Some m.symbol) None)
        → option_map (λ m. m.symbol) (cond b (Some x) (find (λ m. bytes_eq name m.name) (map ++ m ∷ [])))
        ≡ option_or (option_map (λ m. m.symbol) (cond b (Some x) (find (λ m. bytes_eq name m.name) map))) (cond (bytes_eq name m.name) (Some m.symbol) None)
    go true h = refl
    go false h = h

some_of_three : {A B C D : Type 0} (f : A → D) (g : B → D) (h : C → D) (x : Option A) (y : Option B) (z : Option C)
    → is_some (option_or (option_map f x) (option_or (option_map g y) (option_map h z))) ≡ (is_some x || is_some y || is_some z)
some_of_three f g h None None None = refl
some_of_three f g h None None (Some z) = refl
some_of_three f g h None (Some y) z = refl
some_of_three f g h (Some x) y z = refl

-- a name stands for something exactly where it is declared
pub declared_name : (sig : Signature) (name : List ℕ) → is_some (symbol_of sig name) ≡ list_any (bytes_eq name) (names sig)
declared_name sig name =
    some_of_three _ _ _ (position (λ d. bytes_eq name d.name) sig.sorts) (position (λ d. bytes_eq name d.name) sig.functions)
    (position (λ d. bytes_eq name d.name) sig.relations)
    ∙ (λ i. (in_sorts i || in_functions i) || in_relations i)
    ∙ ap (λ b. b || list_any (bytes_eq name) (map (λ d. d.name) sig.relations))
    (sym (any_append (bytes_eq name) (map (λ d. d.name) sig.sorts) (map (λ d. d.name) sig.functions)))
    ∙ sym (any_append (bytes_eq name) (map (λ d. d.name) sig.sorts ++ map (λ d. d.name) sig.functions) (map (λ d. d.name) sig.relations))
  where
    in_sorts : is_some (position (λ d. bytes_eq name d.name) sig.sorts) ≡ list_any (bytes_eq name) (map (λ d. d.name) sig.sorts)
    in_sorts = position_some (λ d. bytes_eq name d.name) sig.sorts ∙ sym (any_mapped (bytes_eq name) (λ (d : SortDecl). d.name) sig.sorts)

    in_functions : is_some (position (λ d. bytes_eq name d.name) sig.functions) ≡ list_any (bytes_eq name) (map (λ d. d.name) sig.functions)
    in_functions = position_some (λ d. bytes_eq name d.name) sig.functions ∙ sym (any_mapped (bytes_eq name) (λ (d : FuncDecl). d.name) sig.functions)

    in_relations : is_some (position (λ d. bytes_eq name d.name) sig.relations) ≡ list_any (bytes_eq name) (map (λ d. d.name) sig.relations)
    in_relations = position_some (λ d. bytes_eq name d.name) sig.relations ∙ sym (any_mapped (bytes_eq name) (λ (d : RelDecl). d.name) sig.relations)

-- Names.

abbrev pub MeansAll : List Meant → Signature → Type 0
MeansAll map sig = (name : List ℕ) → meaning map name ≡ symbol_of sig name

pub known_is_taken : (map : List Meant) (sig : Signature) → MeansAll map sig → (name : List ℕ) → is_known map name ≡ is_taken sig name
known_is_taken map sig h name = ap (λ b. b || list_any (bytes_eq name) field_names) (ap is_some (h name) ∙ declared_name sig name)

none_of : {A : Type 0} (x : Option A) → is_some x ≡ false → x ≡ None
none_of None h = refl
none_of (Some x) h = cc

untaken : (sig : Signature) (name : List ℕ) → is_taken sig name ≡ false → symbol_of sig name ≡ None
untaken sig name h = none_of (symbol_of sig name) (declared_name sig name ∙ (neither _ _ h).0)

untaken_same : (sig : Signature) (name other : List ℕ) → is_taken sig name ≡ false → bytes_eq other name ≡ true → symbol_of sig other ≡ None
untaken_same sig name other h e = ap (symbol_of sig) (same_bytes other name e) ∙ untaken sig name h

at_sorts : (x : Option ℕ) (rest : Option Symbol) (b : Bool) (n : ℕ)
    → (b ≡ true → option_or (option_map (λ s. symbol.Sort (record { 0 = s })) x) rest ≡ None)
    → option_or (option_or (option_map (λ s. symbol.Sort (record { 0 = s })) x) rest) (cond b (Some (symbol.Sort (record { 0 = n }))) None)
    ≡ option_or (option_map (λ s. symbol.Sort (record { 0 = s })) (option_or x (cond b (Some n) None))) rest
at_sorts (Some x) rest b n h = refl
at_sorts None None true n h = refl
at_sorts None None false n h = refl
at_sorts None (Some y) true n h = let z : option_or None (Some y) ≡ None = h refl in cc
at_sorts None (Some y) false n h = refl

at_functions : (x : Option Symbol) (y : Option ℕ) (rest : Option Symbol) (b : Bool) (n : ℕ)
    → (b ≡ true → option_or x (option_or (option_map (λ f. symbol.Func (record { 0 = f })) y) rest) ≡ None)
    → option_or (option_or x (option_or (option_map (λ f. symbol.Func (record { 0 = f })) y) rest)) (cond b (Some (symbol.Func (record { 0 = n }))) None)
    ≡ option_or x (option_or (option_map (λ f. symbol.Func (record { 0 = f })) (option_or y (cond b (Some n) None))) rest)
at_functions (Some x) y rest b n h = refl
at_functions None (Some y) rest b n h = refl
at_functions None None None true n h = refl
at_functions None None None false n h = refl
at_functions None None (Some z) true n h = let w : option_or None (option_or None (Some z)) ≡ None = h refl in cc
at_functions None None (Some z) false n h = refl

at_relations : (x y : Option Symbol) (z : Option ℕ) (b : Bool) (n : ℕ)
    → option_or (option_or x (option_or y (option_map (λ r. symbol.Rel (record { 0 = r })) z))) (cond b (Some (symbol.Rel (record { 0 = n }))) None)
    ≡ option_or x (option_or y (option_map (λ r. symbol.Rel (record { 0 = r })) (option_or z (cond b (Some n) None))))
at_relations (Some x) y z b n = refl
at_relations None (Some y) z b n = refl
at_relations None None (Some z) b n = refl
at_relations None None None true n = refl
at_relations None None None false n = refl

pub means_sort : (map : List Meant) (sig : Signature) (d : SortDecl) → MeansAll map sig → is_taken sig d.name ≡ false
    → MeansAll (map ++ meant_sort (length sig.sorts) d ∷ []) (with_sorts sig (d ∷ []))
means_sort map sig d h free name =
    meaning_push map (meant_sort (length sig.sorts) d) name
    ∙ ap (λ o. option_or o (cond (bytes_eq name d.name) (Some (symbol.Sort (record { 0 = length sig.sorts }))) None)) (h name)
    ∙ at_sorts (position (λ d. bytes_eq name d.name) sig.sorts) _ (bytes_eq name d.name) (length sig.sorts) (untaken_same sig d.name name free)
    ∙ ap (λ o. option_or (option_map (λ s. symbol.Sort (record { 0 = s })) o)
    (option_or (option_map (λ f. symbol.Func (record { 0 = f })) (position (λ d. bytes_eq name d.name) sig.functions))
    (option_map (λ r. symbol.Rel (record { 0 = r })) (position (λ d. bytes_eq name d.name) sig.relations))))
    (sym (position_push (λ d. bytes_eq name d.name) sig.sorts d))

pub means_function : (map : List Meant) (sig : Signature) (d : FuncDecl) → MeansAll map sig → is_taken sig d.name ≡ false
    → MeansAll (map ++ (record { name = d.name; symbol = symbol.Func (record { 0 = length sig.functions }) }) ∷ []) (with_function sig d)
means_function map sig d h free name =
    meaning_push map (record { name = d.name; symbol = symbol.Func (record { 0 = length sig.functions }) }) name
    ∙ ap (λ o. option_or o (cond (bytes_eq name d.name) (Some (symbol.Func (record { 0 = length sig.functions }))) None)) (h name)
    ∙ at_functions _ (position (λ d. bytes_eq name d.name) sig.functions) _ (bytes_eq name d.name) (length sig.functions) (untaken_same sig d.name name free)
    ∙ ap (λ o. option_or (option_map (λ s. symbol.Sort (record { 0 = s })) (position (λ d. bytes_eq name d.name) sig.sorts))
    (option_or (option_map (λ f. symbol.Func (record { 0 = f })) o)
    (option_map (λ r. symbol.Rel (record { 0 = r })) (position (λ d. bytes_eq name d.name) sig.relations))))
    (sym (position_push (λ d. bytes_eq name d.name) sig.functions d))

pub means_relation : (map : List Meant) (sig : Signature) (d : RelDecl) → MeansAll map sig
    → MeansAll (map ++ (record { name = d.name; symbol = symbol.Rel (record { 0 = length sig.relations }) }) ∷ []) (with_relation sig d)
means_relation map sig d h name =
    meaning_push map (record { name = d.name; symbol = symbol.Rel (record { 0 = length sig.relations }) }) name
    ∙ ap (λ o. option_or o (cond (bytes_eq name d.name) (Some (symbol.Rel (record { 0 = length sig.relations }))) None)) (h name)
    ∙ at_relations _ _ (position (λ d. bytes_eq name d.name) sig.relations) (bytes_eq name d.name) (length sig.relations)
    ∙ ap (λ o. option_or (option_map (λ s. symbol.Sort (record { 0 = s })) (position (λ d. bytes_eq name d.name) sig.sorts))
    (option_or (option_map (λ f. symbol.Func (record { 0 = f })) (position (λ d. bytes_eq name d.name) sig.functions))
    (option_map (λ r. symbol.Rel (record { 0 = r })) o)))
    (sym (position_push (λ d. bytes_eq name d.name) sig.relations d))

-- names that differ, none of them that of a field
pub record AreFree (all : List (List ℕ)) : Type 0 where
  pub differ : IsDistinct bytes_eq all
  pub free : AllByRecursion (λ name. list_any (bytes_eq name) field_names ≡ false) all

inserted_free : (xs ys : List (List ℕ)) (x : List ℕ) → AreFree (xs ++ ys) → list_any (bytes_eq x) (xs ++ ys) ≡ false
    → list_any (bytes_eq x) field_names ≡ false → AreFree (xs ++ x ∷ ys)
inserted_free xs ys x h n f = record {
  differ = distinct_inserted xs ys x h.differ n;
  free = all_inserted (λ name. list_any (bytes_eq name) field_names ≡ false) xs ys x h.free f;
}

pub free_sort : (sig : Signature) (d : SortDecl) → AreFree (names sig) → is_taken sig d.name ≡ false → AreFree (names (with_sorts sig (d ∷ [])))
free_sort sig d h free =
    let n : _ = neither (list_any (bytes_eq d.name) (names sig)) _ free in
    let own : List (List ℕ) = map (λ d. d.name) sig.sorts in
    let middle : List (List ℕ) = map (λ d. d.name) sig.functions in
    let last : List (List ℕ) = map (λ d. d.name) sig.relations in
    let same : names sig ≡ own ++ (middle ++ last) = append_thrice own middle last in
    subst AreFree (sym (ap (λ xs. (xs ++ middle) ++ last) (map_push (λ (d : SortDecl). d.name) sig.sorts d)
    ∙ append_thrice (own ++ d.name ∷ []) middle last ∙ push_then own d.name (middle ++ last)))
    (inserted_free own (middle ++ last) d.name (subst AreFree same h) (subst (λ xs. list_any (bytes_eq d.name) xs ≡ false) same n.0) n.1)

pub free_function : (sig : Signature) (d : FuncDecl) → AreFree (names sig) → is_taken sig d.name ≡ false → AreFree (names (with_function sig d))
free_function sig d h free =
    let n : _ = neither (list_any (bytes_eq d.name) (names sig)) _ free in
    let front : List (List ℕ) = map (λ d. d.name) sig.sorts in
    let own : List (List ℕ) = map (λ d. d.name) sig.functions in
    let last : List (List ℕ) = map (λ d. d.name) sig.relations in
    subst AreFree (sym (ap (λ xs. (front ++ xs) ++ last) (map_push (λ (d : FuncDecl). d.name) sig.functions d)
    ∙ ap (λ xs. xs ++ last) (sym (append_thrice front own (d.name ∷ []))) ∙ push_then (front ++ own) d.name last))
    (inserted_free (front ++ own) last d.name h n.0 n.1)

pub free_relation : (sig : Signature) (d : RelDecl) → AreFree (names sig) → is_taken sig d.name ≡ false → AreFree (names (with_relation sig d))
free_relation sig d h free =
    let n : _ = neither (list_any (bytes_eq d.name) (names sig)) _ free in
    let front : List (List ℕ) = map (λ d. d.name) sig.sorts ++ map (λ d. d.name) sig.functions in
    let own : List (List ℕ) = map (λ d. d.name) sig.relations in
    let same : names sig ≡ (front ++ own) ++ [] = sym (append_none (front ++ own)) in
    subst AreFree (sym (ap (λ xs. front ++ xs) (map_push (λ (d : RelDecl). d.name) sig.relations d) ∙ sym (append_thrice front own (d.name ∷ []))))
    (inserted_free (front ++ own) [] d.name (subst AreFree same h) (subst (λ xs. list_any (bytes_eq d.name) xs ≡ false) same n.0) n.1)

-- Several sorts.

pub sorts_then : (sig : Signature) (d : SortDecl) (more : List SortDecl) → with_sorts (with_sorts sig (d ∷ [])) more ≡ with_sorts sig (d ∷ more)
sorts_then sig d more = ap (λ sorts. record sig { sorts = sorts }) (push_then sig.sorts d more)

no_more_sorts : (sig : Signature) → with_sorts sig [] ≡ sig
no_more_sorts sig = ap (λ sorts. record sig { sorts = sorts }) (append_none sig.sorts)

pub any_known_is_taken : (map : List Meant) (sig : Signature) (decls : List SortDecl) → MeansAll map sig
    → any_known map (length sig.sorts) decls ≡ any_taken sig decls
any_known_is_taken map sig [] h = refl
any_known_is_taken map sig (d ∷ more) h =
    ap (λ b. b || any_known (map ++ meant_sort (length sig.sorts) d ∷ []) (suc (length sig.sorts)) more) (known_is_taken map sig h d.name)
    ∙ go (is_taken sig d.name) refl
    (λ free. any_known_is_taken (map ++ meant_sort (length sig.sorts) d ∷ []) (with_sorts sig (d ∷ [])) more (means_sort map sig d h free))
  where
    go : (b : Bool) → is_taken sig d.name ≡ b
        → (is_taken sig d.name ≡ false → any_known (map ++ meant_sort (length sig.sorts) d ∷ []) (length (with_sorts sig (d ∷ [])).sorts) more
        ≡ any_taken (with_sorts sig (d ∷ [])) more)
        → (b || any_known (map ++ meant_sort (length sig.sorts) d ∷ []) (suc (length sig.sorts)) more) ≡ (b || any_taken (with_sorts sig (d ∷ [])) more)
    go true e rec = refl
    go false e rec = ap (λ n. any_known (map ++ meant_sort (length sig.sorts) d ∷ []) n more) (sym (length_push sig.sorts d)) ∙ rec e

pub means_sorts : (map : List Meant) (sig : Signature) (decls : List SortDecl) → MeansAll map sig → any_taken sig decls ≡ false
    → MeansAll (map ++ meant_sorts (length sig.sorts) decls) (with_sorts sig decls)
means_sorts map sig [] h free name = ap (λ m. meaning m name) (append_none map) ∙ h name ∙ ap (λ s. symbol_of s name) (sym (no_more_sorts sig))
means_sorts map sig (d ∷ more) h free name =
    let n : _ = neither (is_taken sig d.name) _ free in
    ap (λ m. meaning m name) (sym (push_then map (meant_sort (length sig.sorts) d) (meant_sorts (suc (length sig.sorts)) more))
    ∙ ap (λ k. (map ++ meant_sort (length sig.sorts) d ∷ []) ++ meant_sorts k more) (sym (length_push sig.sorts d)))
    ∙ means_sorts (map ++ meant_sort (length sig.sorts) d ∷ []) (with_sorts sig (d ∷ [])) more (means_sort map sig d h n.0) n.1 name
    ∙ ap (λ s. symbol_of s name) (sorts_then sig d more)

pub free_sorts : (sig : Signature) (decls : List SortDecl) → AreFree (names sig) → any_taken sig decls ≡ false → AreFree (names (with_sorts sig decls))
free_sorts sig [] h free = subst (λ s. AreFree (names s)) (sym (no_more_sorts sig)) h
free_sorts sig (d ∷ more) h free =
    let n : _ = neither (is_taken sig d.name) _ free in
    subst (λ s. AreFree (names s)) (sorts_then sig d more) (free_sorts (with_sorts sig (d ∷ [])) more (free_sort sig d h n.0) n.1)
