-- The numbers of interfaces: places of names among those that were known and those of the blocks.
use Rattle.std.proofs.Common.{◌≡◌, ℕ, zero, suc, ◌+◌, ◌≤◌, ◌<◌, Bool, true, false, ◌⊎◌, inl, inr, ◌||◌, List, [], ◌∷◌, ◌++◌, Some, None, length, map, position, slice_get, set, get_or, refl, sym, ap, ◌∙◌, subst, arith, append_assoc, length-append}
use Rattle.std.specs.List.{AllByRecursion, IsDistinct, list_any, position_or_len}
use Rattle.std.specs.Str.{bytes_eq}
use Rattle.std.proofs.Math.ListN.{get_or-append}
use Rattle.std.proofs.Math.Seq.{get_or-append_seam}
use Rattle.std.proofs.lemmas.List.{append-nil}
use Rattle.std.proofs.lemmas.Cmp.{nat_list_eq_equiv}
use Rattle.std.proofs.lemmas.List.Folds.{list_any-append}
use Rattle.std.proofs.lemmas.List.Quantifiers.{position-Some}
use Rattle.std.proofs.lemmas.List.Sums.{passes_at_first, position_or_len_is}
use Rattle.std.proofs.lemmas.Map.Keys.{IsDistinct-push}
use Rattle.std.proofs.lemmas.Option.{same_Some, slice_get-get_or, slice_get_within}
use Rattle.std.proofs.lemmas.Slice.Eq.{bytes_eq-Decides}
use Rattle.ios_names.specs.Names.{most_names, with_name, with_names}
use Rattle.ios_route.specs.Interfaces.{Interface}
use Rattle.ios_names.proofs.AddedNames.{kept, map_push, pushed}
use Rattle.ios_interface.specs.Block.{Block, interface_of, no_lines}
use Rattle.ios_interface.specs.Interfaces.{HasNumber, IsNumberOf, block_named, block_names, names_so_far, number_of}
use Rattle.ios_interface.specs.Kept.{AreKept, HasItsNumber}
use Rattle.ios_interface.proofs.NamedBlocks.{names_put, no_name, none_any, none_found}

-- names that are added stand behind those that are there

with_name_front : (known : List (List ℕ)) (name : List ℕ) → (rest : List (List ℕ)) × (with_name known name ≡ known ++ rest)
with_name_front known name = decide (list_any (bytes_eq name) known) refl
  where
    decide : (b : Bool) → b ≡ list_any (bytes_eq name) known → (rest : List (List ℕ)) × (with_name known name ≡ known ++ rest)
    decide true is = ([], kept known name (sym is) ∙ sym (append-nil known))
    decide false is = (name ∷ [], pushed known name (sym is))

pub with_names_front : (known names : List (List ℕ)) → (rest : List (List ℕ)) × (with_names known names ≡ known ++ rest)
with_names_front known [] = ([], sym (append-nil known))
with_names_front known (name ∷ names) =
    let one = with_name_front known name in
    let more = with_names_front (with_name known name) names in
    (one.0 ++ more.0, more.1 ∙ ap (λ (front : List (List ℕ)). front ++ more.0) one.1 ∙ append_assoc known one.0 more.0)

pub with_names_push : (known names : List (List ℕ)) (name : List ℕ) → with_names known (names ++ name ∷ []) ≡ with_name (with_names known names) name
with_names_push known [] name = refl
with_names_push known (first ∷ names) name = with_names_push (with_name known first) names name

-- a name that is in neither is in none of both
any_with_name : (known : List (List ℕ)) (other name : List ℕ) → list_any (bytes_eq name) known ≡ false → bytes_eq name other ≡ false → list_any (bytes_eq name) (with_name known other) ≡ false
any_with_name known other name unknown differs = decide (list_any (bytes_eq other) known) refl
  where
    decide : (b : Bool) → b ≡ list_any (bytes_eq other) known → list_any (bytes_eq name) (with_name known other) ≡ false
    decide true is = rw (kept known other (sym is)) unknown
    decide false is = rw (pushed known other (sym is)) (rw (list_any-append (bytes_eq name) known (other ∷ []), unknown, differs) refl)

or_none : (a b : Bool) → (a || b) ≡ false → (a ≡ false) × (b ≡ false)
or_none true b none = absurd (cc none)
or_none false b none = (refl, none)

pub any_with_names : (known names : List (List ℕ)) (name : List ℕ) → list_any (bytes_eq name) known ≡ false → list_any (bytes_eq name) names ≡ false → list_any (bytes_eq name) (with_names known names) ≡ false
any_with_names known [] name unknown none = unknown
any_with_names known (first ∷ names) name unknown none =
    let parts = or_none (bytes_eq name first) (list_any (bytes_eq name) names) none in
    any_with_names (with_name known first) names name (any_with_name known first name unknown parts.0) parts.1

-- the place of a name

none_past : {X : Type 0} (p : X → Bool) (xs : List X) → list_any p xs ≡ false → position_or_len p xs ≡ length xs
none_past p [] none = refl
none_past p (x ∷ xs) none =
    let parts = or_none (p x) (list_any p xs) none in
    rw parts.0 (ap (λ (n : ℕ). 1 + n) (none_past p xs parts.1) ∙ omega arith)

any_within : {X : Type 0} (p : X → Bool) (xs : List X) → list_any p xs ≡ true → position_or_len p xs < length xs
any_within p [] any = absurd (cc any)
any_within p (x ∷ xs) any = decide (any_within p xs) (p x) refl
  where
    decide : (list_any p xs ≡ true → position_or_len p xs < length xs) → (b : Bool) → b ≡ p x → position_or_len p (x ∷ xs) < length (x ∷ xs)
    decide behind true is = rw (← is) (omega arith)
    decide behind false is =
        let later : position_or_len p xs < length xs = behind (rw (← is) at any) in
        rw (← is) (omega arith)

-- the place of a name that was known
pub number_known : (known : List (List ℕ)) (blocks : List Block) (name : List ℕ) (place : ℕ) → position (bytes_eq name) known ≡ Some place → place ≡ number_of known blocks name
number_known known blocks name place at =
    let parts = position-Some (bytes_eq name) known place [] at in
    let front = with_names_front known (block_names blocks) in
    let within : place ≤ length (known ++ front.0) = omega (arith, parts.0, length-append known front.0) in
    sym (ap (position_or_len (bytes_eq name)) front.1 ∙ position_or_len_is (bytes_eq name) (known ++ front.0) place [] within
    (λ k before. rw (get_or-append known front.0 [] k (omega (arith, parts.0))) (parts.2 k before))
    (λ inside. rw (get_or-append known front.0 [] place parts.0) parts.1))

-- and of one that neither was known nor is that of a block
pub number_new : (known : List (List ℕ)) (blocks : List Block) (name : List ℕ) → position (bytes_eq name) known ≡ None → block_named blocks name ≡ None → number_of known blocks name ≡ length (names_so_far known blocks)
number_new known blocks name unknown absent =
    none_past (bytes_eq name) (names_so_far known blocks)
    (any_with_names known (block_names blocks) name (none_any (bytes_eq name) known (none_found (bytes_eq name) known unknown)) (no_name blocks name absent))

-- names keep their places where one is added

slice_front : (names rest : List (List ℕ)) (place : ℕ) (name : List ℕ) → slice_get names place ≡ Some name → slice_get (names ++ rest) place ≡ Some name
slice_front names rest place name there =
    let within : place < length names = slice_get_within names place name there in
    let same : get_or names place [] ≡ name = same_Some _ _ (sym (slice_get-get_or names place [] within) ∙ there) in
    slice_get-get_or (names ++ rest) place [] (omega (arith, within, length-append names rest)) ∙ ap Some (get_or-append names rest [] place within ∙ same)

number_stays : (names : List (List ℕ)) (name other : List ℕ) (number : ℕ) → IsNumberOf names number other → IsNumberOf (with_name names name) number other
number_stays names name other number there =
    let front = with_name_front names name in
    rw front.1 (slice_front names front.0 number other there)

-- what one more name makes of the names, where this is its place
record IsAdded (names : List (List ℕ)) (name : List ℕ) (number : ℕ) : Type 0 where
  there : IsNumberOf (with_name names name) number name
  new : number ≡ length names → length (with_name names name) ≡ length names + 1
  old : (number ≡ length names → ⊥) → length (with_name names name) ≡ length names

added : (names : List (List ℕ)) (name : List ℕ) → IsAdded names name (position_or_len (bytes_eq name) names)
added names name = decide (list_any (bytes_eq name) names) refl
  where
    decide : (b : Bool) → b ≡ list_any (bytes_eq name) names → IsAdded names name (position_or_len (bytes_eq name) names)
    decide true is =
        let within = any_within (bytes_eq name) names (sym is) in
        let same : name ≡ get_or names (position_or_len (bytes_eq name) names) [] = (bytes_eq-Decides _ _).0 (passes_at_first (bytes_eq name) names [] within) in
        let stays : with_name names name ≡ names = kept names name (sym is) in
        record {
          there = rw stays (slice_get-get_or names (position_or_len (bytes_eq name) names) [] within ∙ ap Some (sym same));
          new = λ end. absurd (omega (arith, within, end));
          old = λ _. ap length stays;
        }
    decide false is =
        let end : position_or_len (bytes_eq name) names ≡ length names = none_past (bytes_eq name) names (sym is) in
        let more : with_name names name ≡ names ++ name ∷ [] = pushed names name (sym is) in
        let longer : length (names ++ name ∷ []) ≡ length names + 1 = length-append names (name ∷ []) in
        record {
          there = rw (more, end) (slice_get-get_or (names ++ name ∷ []) (length names) [] (omega (arith, longer)) ∙ ap Some (get_or-append_seam names name [] []));
          new = λ _. rw more longer;
          old = λ other. absurd (other end);
        }

-- the interfaces stay kept

all_set : {X : Type 0} (P : X → Type 0) (xs : List X) (place : ℕ) (old new : X) → slice_get xs place ≡ Some old → (P old → P new) → AllByRecursion P xs → AllByRecursion P (set xs place new)
all_set P [] place old new there keeps all = absurd (cc there)
all_set P (x ∷ xs) zero old new there keeps all = (keeps (subst P (same_Some x old there) all.0), all.1)
all_set P (x ∷ xs) (suc place) old new there keeps all = (all.0, all_set P xs place old new there keeps all.1)

all_push : {X : Type 0} (P Q : X → Type 0) (xs : List X) (x : X) → ((y : X) → P y → Q y) → AllByRecursion P xs → Q x → AllByRecursion Q (xs ++ x ∷ [])
all_push P Q [] x weaker all one = (one, tt)
all_push P Q (y ∷ xs) x weaker all one = (weaker y all.0, all_push P Q xs x weaker all.1 one)

pub kept_empty : (known : List (List ℕ)) → length known ≤ most_names → AreKept known [] [] (length known)
unfolding IsDistinct
kept_empty known few = record { indexed = refl; different = tt; counted = refl; few = few; numbered = tt }

pub kept_line : (known : List (List ℕ)) (blocks : List Block) (index : List (List ℕ)) (count place : ℕ) (old new : Block) → AreKept known blocks index count → slice_get blocks place ≡ Some old
    → new.name ≡ old.name → new.number ≡ old.number → AreKept known (set blocks place new) index count
kept_line known blocks index count place old new kept there same_name same_number =
    let names : block_names (set blocks place new) ≡ block_names blocks = names_put blocks place old new there same_name in
    record {
      indexed = names ∙ kept.indexed;
      different = rw names kept.different;
      counted = rw names kept.counted;
      few = rw names kept.few;
      numbered = rw names (all_set (HasItsNumber (names_so_far known blocks)) blocks place old new there (λ at. rw (same_name, same_number) at) kept.numbered);
    }

pub kept_begun : (known : List (List ℕ)) (blocks : List Block) (index new_index : List (List ℕ)) (count new_count : ℕ) (name : List ℕ) (number : ℕ) → AreKept known blocks index count → block_named blocks name ≡ None
    → number ≡ number_of known blocks name → number < most_names → new_index ≡ with_name index name → (number ≡ count → new_count ≡ count + 1) → ((number ≡ count → ⊥) → new_count ≡ count)
    → (number ≡ count) ⊎ (number ≡ count → ⊥) → AreKept known (blocks ++ no_lines name number ∷ []) new_index new_count
kept_begun known blocks index new_index count new_count name number kept absent is below added_name one_more none_more which =
    let none : list_any (bytes_eq name) (block_names blocks) ≡ false = no_name blocks name absent in
    let names : block_names (blocks ++ no_lines name number ∷ []) ≡ block_names blocks ++ name ∷ [] = map_push (λ (b : Block). b.name) blocks (no_lines name number) in
    let all : names_so_far known (blocks ++ no_lines name number ∷ []) ≡ with_name (names_so_far known blocks) name = ap (with_names known) names ∙ with_names_push known (block_names blocks) name in
    let more : IsAdded (names_so_far known blocks) name number = rw is (added (names_so_far known blocks) name) in
    record {
      indexed = names ∙ sym (added_name ∙ ap (λ (i : List (List ℕ)). with_name i name) (sym kept.indexed) ∙ pushed (block_names blocks) name none);
      different = rw names (IsDistinct-push nat_list_eq_equiv (block_names blocks) name kept.different none);
      counted = counted_by all more which;
      few = few_by all more which;
      numbered = rw all (all_push (HasItsNumber (names_so_far known blocks)) (HasItsNumber (with_name (names_so_far known blocks) name)) blocks (no_lines name number)
          (λ b at. number_stays (names_so_far known blocks) name b.name b.number at) kept.numbered more.there);
    }
  where
    counted_by : names_so_far known (blocks ++ no_lines name number ∷ []) ≡ with_name (names_so_far known blocks) name → IsAdded (names_so_far known blocks) name number
        → (number ≡ count) ⊎ (number ≡ count → ⊥) → new_count ≡ length (names_so_far known (blocks ++ no_lines name number ∷ []))
    counted_by all more (inl end) = one_more end ∙ sym (ap length all ∙ more.new (end ∙ kept.counted) ∙ ap (λ (n : ℕ). n + 1) (sym kept.counted))
    counted_by all more (inr other) = none_more other ∙ kept.counted ∙ sym (ap length all ∙ more.old (λ end. other (end ∙ sym kept.counted)))

    few_by : names_so_far known (blocks ++ no_lines name number ∷ []) ≡ with_name (names_so_far known blocks) name → IsAdded (names_so_far known blocks) name number
        → (number ≡ count) ⊎ (number ≡ count → ⊥) → length (names_so_far known (blocks ++ no_lines name number ∷ [])) ≤ most_names
    few_by all more (inl end) =
        let longer : length (with_name (names_so_far known blocks) name) ≡ length (names_so_far known blocks) + 1 = more.new (end ∙ kept.counted) in
        rw (all, longer) (omega (arith, kept.counted, end, below))
    few_by all more (inr other) = rw (all, more.old (λ end. other (end ∙ sym kept.counted))) kept.few

-- the interfaces that they make have the numbers and names of their blocks

all_map : {A B : Type 0} (P : B → Type 0) (f : A → B) (xs : List A) → AllByRecursion (λ x. P (f x)) xs → AllByRecursion P (map f xs)
all_map P f [] all = tt
all_map P f (x ∷ xs) all = (all.0, all_map P f xs all.1)

map_twice : {A B C : Type 0} (g : B → C) (f : A → B) (xs : List A) → map g (map f xs) ≡ map (λ x. g (f x)) xs
map_twice g f [] = refl
map_twice g f (x ∷ xs) = ap (λ rest. g (f x) ∷ rest) (map_twice g f xs)

pub made_numbers : (known : List (List ℕ)) (blocks : List Block) (index : List (List ℕ)) (count : ℕ) (all : List Interface) → AreKept known blocks index count → all ≡ map interface_of blocks
    → AllByRecursion (HasNumber (names_so_far known blocks)) all
made_numbers known blocks index count all kept made = rw made (all_map (HasNumber (names_so_far known blocks)) interface_of blocks kept.numbered)

pub made_names : (known : List (List ℕ)) (blocks : List Block) (index : List (List ℕ)) (count : ℕ) (all : List Interface) → AreKept known blocks index count → all ≡ map interface_of blocks
    → IsDistinct bytes_eq (map (λ (i : Interface). i.name) all)
made_names known blocks index count all kept made = rw (made, map_twice (λ (i : Interface). i.name) interface_of blocks) kept.different

pub made_few : (known : List (List ℕ)) (blocks : List Block) (index : List (List ℕ)) (count : ℕ) (all : List Interface) → AreKept known blocks index count → all ≡ map interface_of blocks
    → length (with_names known (map (λ (i : Interface). i.name) all)) ≤ most_names
made_few known blocks index count all kept made = rw (made, map_twice (λ (i : Interface). i.name) interface_of blocks) kept.few
