-- Names as the map of their bytes has them, and with some more.
use Rattle.std.proofs.Common.{◌≡◌, ℕ, ◌+◌, ◌≤◌, ◌<◌, Bool, true, false, cond, ◌||◌, not, nat_lt, List, [], ◌∷◌, ◌++◌, Option, Some, None, length, map, take, drop, position, refl, sym, ap, ap₂, ◌∙◌, arith, is_some, length-append, drop-cons, add-one, get_or, suc}
use Rattle.std.specs.List.{IsDistinct, AllByRecursion, list_any, position_or_len}
use Rattle.std.specs.Str.{bytes_eq}
use Rattle.std.specs.Map.{keys_of, lookup, values_of}
use Rattle.std.proofs.lemmas.List.{length-map, take-append-le, take-map}
use Rattle.std.proofs.lemmas.Map.Made.{is_some-lookup}
use Rattle.ios_names.specs.Names.{with_name, with_names}

or_len_map : {A B : Type 0} (p : B → Bool) (f : A → B) (xs : List A) → position_or_len p (map f xs) ≡ position_or_len (λ x. p (f x)) xs
or_len_map p f [] = refl
or_len_map p f (x ∷ xs) = ap (λ (n : ℕ). cond (not (p (f x))) (1 + n) 0) (or_len_map p f xs)

-- a key's place among the keys in another form
pub position_map : {A B : Type 0} (p : B → Bool) (f : A → B) (xs : List A) → position p (map f xs) ≡ position (λ x. p (f x)) xs
position_map p f xs = ap₂ (λ (n m : ℕ). cond (nat_lt n m) (Some n) None) (or_len_map p f xs) (length-map xs f)

pub any_map : {A B : Type 0} (p : B → Bool) (f : A → B) (xs : List A) → list_any p (map f xs) ≡ list_any (λ x. p (f x)) xs
any_map p f [] = refl
any_map p f (x ∷ xs) = ap (λ rest. p (f x) || rest) (any_map p f xs)

all_differ : {A B : Type 0} (same : B → B → Bool) (f : A → B) (x : A) (xs : List A) → AllByRecursion (λ y. same (f x) (f y) ≡ false) xs → AllByRecursion (λ y. same (f x) y ≡ false) (map f xs)
all_differ same f x [] all = tt
all_differ same f x (y ∷ ys) all = (all.0, all_differ same f x ys all.1)

-- keys that differ in another form differ there
pub distinct_map : {A B : Type 0} (same : B → B → Bool) (f : A → B) (xs : List A) → IsDistinct (λ x y. same (f x) (f y)) xs → IsDistinct same (map f xs)
unfolding IsDistinct
distinct_map same f [] distinct = tt
distinct_map same f (x ∷ xs) distinct = (all_differ same f x xs distinct.0, distinct_map same f xs distinct.1)

pub map_push : {A B : Type 0} (f : A → B) (xs : List A) (x : A) → map f (xs ++ x ∷ []) ≡ map f xs ++ f x ∷ []
map_push f [] x = refl
map_push f (y ∷ ys) x = ap (λ rest. f y ∷ rest) (map_push f ys x)

pub absent : {X : Type 0} (x : Option X) → is_some x ≡ false → x ≡ None
absent None none = refl
absent (Some x) none = cc none

-- whether a name is there, as the map answers
pub known_is : {K : Type 0} (form : K → List ℕ) (bytes name : List ℕ) (es : List (K × List ℕ)) (known : List (List ℕ)) (answer : Bool) → map form (keys_of es) ≡ values_of es → values_of es ≡ known
    → bytes ≡ name → answer ≡ is_some (lookup (λ k. bytes_eq bytes (form k)) es) → list_any (bytes_eq name) known ≡ answer
known_is form bytes name es known answer named view same is =
    sym (is ∙ is_some-lookup (λ k. bytes_eq bytes (form k)) es ∙ sym (any_map (bytes_eq bytes) form (keys_of es)) ∙ ap (list_any (bytes_eq bytes)) (named ∙ view) ∙ ap (λ b. list_any (bytes_eq b) known) same)

pub kept : (known : List (List ℕ)) (name : List ℕ) → list_any (bytes_eq name) known ≡ true → with_name known name ≡ known
kept known name there = rw there refl

pub pushed : (known : List (List ℕ)) (name : List ℕ) → list_any (bytes_eq name) known ≡ false → with_name known name ≡ known ++ name ∷ []
pushed known name new = rw new refl

-- the keys still stand for the names where some at the end go
pub named_first : {K : Type 0} (form : K → List ℕ) (n : ℕ) (es : List (K × List ℕ)) → map form (keys_of es) ≡ values_of es → map form (keys_of (take n es)) ≡ values_of (take n es)
named_first form n es named =
    ap (map form) (sym (take-map (λ e. e.0) n es)) ∙ sym (take-map form n (keys_of es)) ∙ ap (take n) named ∙ take-map (λ e. e.1) n es

-- and where one comes behind them
pub named_push : {K : Type 0} (form : K → List ℕ) (es : List (K × List ℕ)) (k : K) (name : List ℕ) → form k ≡ name → map form (keys_of es) ≡ values_of es
    → map form (keys_of (es ++ (k, name) ∷ [])) ≡ values_of (es ++ (k, name) ∷ [])
named_push form es k name same named =
    ap (map form) (map_push (λ e. e.0) es (k, name)) ∙ map_push form (keys_of es) k ∙ (λ i. named i ++ same i ∷ []) ∙ sym (map_push (λ e. e.1) es (k, name))

-- the names of the map behind an insertion of a new one
pub view_push : {K : Type 0} (es new : List (K × List ℕ)) (k : K) (word name : List ℕ) (known : List (List ℕ)) → new ≡ es ++ (k, word) ∷ [] → values_of es ≡ known → word ≡ name
    → list_any (bytes_eq name) known ≡ false → values_of new ≡ with_name known name
view_push es new k word name known more view same absent =
    ap values_of more ∙ map_push (λ e. e.1) es (k, word) ∙ (λ i. view i ++ same i ∷ []) ∙ sym (pushed known name absent)

-- a name is never taken away
name_grows : (known : List (List ℕ)) (name : List ℕ) → length known ≤ length (with_name known name)
name_grows known name = by (list_any (bytes_eq name) known)
  where
    by : (there : Bool) → length known ≤ length (cond there known (known ++ name ∷ []))
    by true = omega arith
    by false = omega (arith, length-append known (name ∷ []))

pub names_grow : (known names : List (List ℕ)) → length known ≤ length (with_names known names)
names_grow known [] = omega arith
names_grow known (name ∷ names) = omega (arith, name_grows known name, names_grow (with_name known name) names)

-- one name more is taken
pub name_taken : (known names : List (List ℕ)) (i : ℕ) (name : List ℕ) → i < length names → name ≡ get_or names i name → with_names known (drop i names) ≡ with_names (with_name known name) (drop (i + 1) names)
name_taken known names i name within is =
    rw add-one (ap (with_names known) (drop-cons names i name within) ∙ ap (λ n. with_names (with_name known n) (drop (suc i) names)) (sym is))

pub name_fits : (known names whole : List (List ℕ)) (i : ℕ) (name : List ℕ) (most : ℕ) → i < length names → name ≡ get_or names i name → with_names known (drop i names) ≡ whole → length whole ≤ most
    → length (with_name known name) ≤ most
name_fits known names whole i name most within is rest few =
    let later = names_grow (with_name known name) (drop (i + 1) names) in
    let same : length (with_names (with_name known name) (drop (i + 1) names)) ≡ length whole = ap length (sym (name_taken known names i name within is) ∙ rest) in
    omega arith

-- the first names stay
pub first_stay : (known : List (List ℕ)) (name : List ℕ) (n : ℕ) → n ≤ length known → take n (with_name known name) ≡ take n known
first_stay known name n within = by (list_any (bytes_eq name) known)
  where
    by : (there : Bool) → take n (cond there known (known ++ name ∷ [])) ≡ take n known
    by true = refl
    by false = take-append-le n known (name ∷ []) within
