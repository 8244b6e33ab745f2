-- Blocks by their names: the one of a name, its place, and another in its place.
use Rattle.std.proofs.Common.{◌≡◌, ℕ, ◌<◌, zero, suc, Bool, true, false, cond, nat_lt, List, [], ◌∷◌, Option, Some, None, length, position, slice_get, set, get_or, option_map, refl, sym, ap, ◌∙◌, arith, is_some}
use Rattle.std.specs.List.{AllByRecursion, IsDistinct, find, list_any, position_or_len}
use Rattle.std.specs.Str.{bytes_eq}
use Rattle.std.proofs.Math.Seq.{map-set_same}
use Rattle.std.proofs.lemmas.Bool.Decides.{nat_tests}
use Rattle.std.proofs.lemmas.Cmp.{nat_list_eq_equiv}
use Rattle.std.proofs.lemmas.List.Folds.{find_at}
use Rattle.std.proofs.lemmas.List.Quantifiers.{position-Some}
use Rattle.std.proofs.lemmas.Map.Keys.{IsDistinct-head, IsDistinct-tail}
use Rattle.std.proofs.lemmas.Option.{cond_some, get_or_from_slice_get, same_Some, slice_get-get_or, slice_get-map, slice_get_past}
use Rattle.std.proofs.lemmas.Slice.Eq.{bytes_eq-Decides}
use Rattle.ios_names.proofs.AddedNames.{any_map, position_map}
use Rattle.ios_interface.specs.Block.{Block, no_lines}
use Rattle.ios_interface.specs.Interfaces.{block_named, block_names, has_name, name_at, with_block}

-- one byte text differs from another both ways
pub differ_back : (a b : List ℕ) → bytes_eq a b ≡ false → bytes_eq b a ≡ false
differ_back a b differ = nat_list_eq_equiv.symm b a ∙ differ

cond_none : (b : Bool) (place : ℕ) → cond b (Some place) None ≡ None → b ≡ false
cond_none true place none = cc none
cond_none false place none = refl

block_place : (blocks : List Block) (index : List (List ℕ)) (name : List ℕ) (place : Option ℕ) → block_names blocks ≡ index → position (bytes_eq name) index ≡ place → position (has_name name) blocks ≡ place
block_place blocks index name place is at = sym (position_map (bytes_eq name) (λ (block : Block). block.name) blocks) ∙ ap (position (bytes_eq name)) is ∙ at

-- the name of the block at a place
pub name_there : (blocks : List Block) (place : ℕ) (block : Block) → slice_get blocks place ≡ Some block → name_at blocks place ≡ Some block.name
name_there blocks place block there = ap (option_map (λ (b : Block). b.name)) there

-- where there is a name, there is a block
pub place_within : (blocks : List Block) (place : ℕ) (name : List ℕ) → name_at blocks place ≡ Some name → place < length blocks
place_within [] place name at = absurd (cc at)
place_within (block ∷ blocks) zero name at = omega arith
place_within (block ∷ blocks) (suc place) name at =
    let behind : place < length blocks = place_within blocks place name at in
    omega arith

-- as it is among the names
pub at_names : (blocks : List Block) (place : ℕ) → slice_get (block_names blocks) place ≡ name_at blocks place
at_names blocks place = slice_get-map (λ (b : Block). b.name) blocks place

-- the block of a name that the index has
pub record IsThere (blocks : List Block) (name : List ℕ) (place : ℕ) : Type 0 where
  pub block : Block
  pub found : block_named blocks name ≡ Some block
  pub at : name_at blocks place ≡ Some name

pub block_there : (blocks : List Block) (index : List (List ℕ)) (name : List ℕ) (place : ℕ) → block_names blocks ≡ index → position (bytes_eq name) index ≡ Some place → IsThere blocks name place
block_there blocks index name place is at =
    let first : position (has_name name) blocks ≡ Some place = block_place blocks index name (Some place) is at in
    let parts = position-Some (has_name name) blocks place (no_lines [] 0) first in
    let same : position_or_len (has_name name) blocks ≡ place = (cond_some _ _ _ first).1 in
    let block = get_or blocks place (no_lines [] 0) in
    let there : slice_get blocks place ≡ Some block = slice_get-get_or blocks place (no_lines [] 0) parts.0 in
    let named : name ≡ block.name = (bytes_eq-Decides name block.name).0 parts.1 in
    record {
      block = block;
      found = find_at (has_name name) blocks ∙ ap (slice_get blocks) same ∙ there;
      at = name_there blocks place block there ∙ ap Some (sym named);
    }

-- nothing passes where there is no first place that does
pub none_found : {X : Type 0} (p : X → Bool) (xs : List X) → position p xs ≡ None → find p xs ≡ None
none_found p xs at =
    let past : nat_lt (position_or_len p xs) (length xs) ≡ false = cond_none _ _ at in
    find_at p xs ∙ slice_get_past xs (position_or_len p xs) (grind (arith, nat_tests))

pub none_any : {X : Type 0} (p : X → Bool) (xs : List X) → find p xs ≡ None → list_any p xs ≡ false
none_any p [] none = refl
none_any p (x ∷ xs) none = decide (none_any p xs) (p x) refl
  where
    decide : (find p xs ≡ None → list_any p xs ≡ false) → (b : Bool) → b ≡ p x → list_any p (x ∷ xs) ≡ false
    decide behind true is = absurd (cc (rw (← is) at none))
    decide behind false is = rw (← is) (behind (rw (← is) at none))

pub block_absent : (blocks : List Block) (index : List (List ℕ)) (name : List ℕ) → block_names blocks ≡ index → position (bytes_eq name) index ≡ None → block_named blocks name ≡ None
block_absent blocks index name is at = none_found (has_name name) blocks (block_place blocks index name None is at)

-- no block has the name
pub no_name : (blocks : List Block) (name : List ℕ) → block_named blocks name ≡ None → list_any (bytes_eq name) (block_names blocks) ≡ false
no_name blocks name absent = any_map (bytes_eq name) (λ (block : Block). block.name) blocks ∙ none_any (has_name name) blocks absent

apart_at : (name other : List ℕ) (names : List (List ℕ)) (place : ℕ) → AllByRecursion (λ y. bytes_eq name y ≡ false) names → slice_get names place ≡ Some other → bytes_eq name other ≡ false
apart_at name other [] place all there = absurd (cc there)
apart_at name other (n ∷ names) zero all there = ap (bytes_eq name) (sym (same_Some n other there)) ∙ all.0
apart_at name other (n ∷ names) (suc place) all there = apart_at name other names place all.1 there

-- the block at a place, among those of different names
pub block_at : (blocks : List Block) (place : ℕ) (block : Block) → IsDistinct bytes_eq (block_names blocks) → slice_get blocks place ≡ Some block → block_named blocks block.name ≡ Some block
block_at [] place block distinct there = absurd (cc there)
block_at (first ∷ blocks) zero block distinct there =
    let test : bytes_eq block.name first.name ≡ true = (bytes_eq-Decides block.name first.name).1 (ap (λ (b : Block). b.name) (sym (same_Some first block there))) in
    rw test there
block_at (first ∷ blocks) (suc place) block distinct there =
    let heads = IsDistinct-head bytes_eq first.name (block_names blocks) distinct in
    let test : bytes_eq block.name first.name ≡ false = differ_back first.name block.name (apart_at first.name block.name (block_names blocks) place heads (at_names blocks place ∙ name_there blocks place block there)) in
    rw test (block_at blocks place block (IsDistinct-tail bytes_eq first.name (block_names blocks) distinct) there)

-- the block of a name is at some place
found_passes : {X : Type 0} (p : X → Bool) (xs : List X) (x : X) → find p xs ≡ Some x → p x ≡ true
found_passes p [] x found = absurd (cc found)
found_passes p (first ∷ xs) x found = decide (found_passes p xs x) (p first) refl
  where
    decide : (find p xs ≡ Some x → p x ≡ true) → (b : Bool) → b ≡ p first → p x ≡ true
    decide behind true is = ap p (sym (same_Some first x (rw (← is) at found))) ∙ sym is
    decide behind false is = behind (rw (← is) at found)

pub named_at : (blocks : List Block) (name : List ℕ) (block : Block) → block_named blocks name ≡ Some block → (place : ℕ) × (name_at blocks place ≡ Some name)
named_at blocks name block found =
    let named : name ≡ block.name = (bytes_eq-Decides name block.name).0 (found_passes (has_name name) blocks block found) in
    let at : slice_get blocks (position_or_len (has_name name) blocks) ≡ Some block = sym (find_at (has_name name) blocks) ∙ found in
    (position_or_len (has_name name) blocks, name_there blocks (position_or_len (has_name name) blocks) block at ∙ ap Some (sym named))

-- another block of the same name in its place
pub put_at : (blocks : List Block) (place : ℕ) (old new : Block) → IsDistinct bytes_eq (block_names blocks) → slice_get blocks place ≡ Some old → new.name ≡ old.name → set blocks place new ≡ with_block blocks new
put_at [] place old new distinct there same = absurd (cc there)
put_at (first ∷ blocks) zero old new distinct there same =
    let test : bytes_eq new.name first.name ≡ true = (bytes_eq-Decides new.name first.name).1 (same ∙ ap (λ (b : Block). b.name) (sym (same_Some first old there))) in
    rw test refl
put_at (first ∷ blocks) (suc place) old new distinct there same =
    let heads = IsDistinct-head bytes_eq first.name (block_names blocks) distinct in
    let apart : bytes_eq old.name first.name ≡ false = differ_back first.name old.name (apart_at first.name old.name (block_names blocks) place heads (at_names blocks place ∙ name_there blocks place old there)) in
    let test : bytes_eq new.name first.name ≡ false = rw same apart in
    rw test (ap (λ rest. first ∷ rest) (put_at blocks place old new (IsDistinct-tail bytes_eq first.name (block_names blocks) distinct) there same))

pub names_put : (blocks : List Block) (place : ℕ) (old new : Block) → slice_get blocks place ≡ Some old → new.name ≡ old.name → block_names (set blocks place new) ≡ block_names blocks
names_put blocks place old new there same =
    map-set_same (λ (b : Block). b.name) blocks place new old (same ∙ ap (λ (b : Block). b.name) (sym (get_or_from_slice_get blocks place old old there)))

-- a name of the index is that of a block
pub has_named : (blocks : List Block) (index : List (List ℕ)) (name : List ℕ) → block_names blocks ≡ index → is_some (position (bytes_eq name) index) ≡ is_some (block_named blocks name)
has_named blocks index name is = by_place (position (bytes_eq name) index) refl
  where
    by_place : (place : Option ℕ) → position (bytes_eq name) index ≡ place → is_some place ≡ is_some (block_named blocks name)
    by_place None at = rw (block_absent blocks index name is at) refl
    by_place (Some place) at = rw ((block_there blocks index name place is at).found) refl
