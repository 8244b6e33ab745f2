-- Blocks by their names, blocks that stay open, and routes under another line's number.
use Rattle.std.proofs.Common.{◌≡◌, ℕ, Bool, true, false, List, [], ◌∷◌, ◌++◌, Some, None, refl, sym, ap, ◌∙◌}
use Rattle.std.specs.Str.{bytes_eq}
use Rattle.std.proofs.lemmas.Slice.Eq.{bytes_eq-Decides}
use Rattle.ios_lex.specs.Phrases.{Words}
use Rattle.ios_lex.specs.declared.taken.Taken.{Taken}
use Rattle.ios_interface.specs.Block.{Block, no_lines}
use Rattle.ios_interface.specs.Interfaces.{Begins, Interfaces, ReadsLine, block_named, block_names, has_name, number_of, with_block}
use Rattle.ios_interface.proofs.InterfaceLines.{read_same}
use Rattle.ios_route.specs.RouteLines.{IsRoute}
use Rattle.ios_route.specs.declared.static_route.StaticRoute.{StaticRoute}
use Rattle.ios_config.proofs.NamedLists.{same_name}

-- there is a block of this name
abbrev pub HasBlock : List Block → List ℕ → Type 0
HasBlock blocks name = (block : Block) × (block_named blocks name ≡ Some block)

pub block_with : (blocks : List Block) (new : Block) → block_named (with_block blocks new) new.name ≡ Some new
block_with [] new = rw (same_name new.name) refl
block_with (block ∷ blocks) new = decide (block_with blocks new) (has_name new.name block) refl
  where
    decide : block_named (with_block blocks new) new.name ≡ Some new → (b : Bool) → b ≡ has_name new.name block → block_named (with_block (block ∷ blocks) new) new.name ≡ Some new
    decide behind true is = rw (← is) (rw (same_name new.name) refl)
    decide behind false is = rw (← is) (rw (← is) behind)

pub block_push : (blocks : List Block) (new : Block) (name : List ℕ) → new.name ≡ name → block_named blocks name ≡ None → block_named (blocks ++ new ∷ []) name ≡ Some new
block_push [] new name named absent =
    let own : has_name name new ≡ true = rw named (same_name name) in
    rw own refl
block_push (block ∷ blocks) new name named absent = decide (block_push blocks new name named) (has_name name block) refl
  where
    decide : (block_named blocks name ≡ None → block_named (blocks ++ new ∷ []) name ≡ Some new) → (b : Bool) → b ≡ has_name name block
        → block_named (block ∷ (blocks ++ new ∷ [])) name ≡ Some new
    decide behind true is = absurd (cc (rw (← is) at absent))
    decide behind false is = rw (← is) (behind (rw (← is) at absent))

-- the blocks of other names stay

pub others_with : (blocks : List Block) (made : Block) (name : List ℕ) → bytes_eq name made.name ≡ false → block_named (with_block blocks made) name ≡ block_named blocks name
others_with [] made name other = rw other refl
others_with (block ∷ blocks) made name other = decide (others_with blocks made name other) (bytes_eq made.name block.name) (bytes_eq name block.name) refl refl
  where
    decide : block_named (with_block blocks made) name ≡ block_named blocks name → (here own : Bool) → here ≡ bytes_eq made.name block.name → own ≡ bytes_eq name block.name
        → block_named (with_block (block ∷ blocks) made) name ≡ block_named (block ∷ blocks) name
    decide behind true own is own_is =
        let made_is : made.name ≡ block.name = (bytes_eq-Decides made.name block.name).0 (sym is) in
        let apart : bytes_eq name block.name ≡ false = rw (← made_is) other in
        rw (← is) (rw (other, apart) refl)
    decide behind false true is own_is = rw (← is) (rw (← own_is) refl)
    decide behind false false is own_is = rw (← is) (rw (← own_is) behind)

pub others_push : (blocks : List Block) (made : Block) (name : List ℕ) → bytes_eq name made.name ≡ false → block_named (blocks ++ made ∷ []) name ≡ block_named blocks name
others_push [] made name other = rw other refl
others_push (block ∷ blocks) made name other = decide (others_push blocks made name other) (bytes_eq name block.name) refl
  where
    decide : block_named (blocks ++ made ∷ []) name ≡ block_named blocks name → (own : Bool) → own ≡ bytes_eq name block.name
        → block_named (block ∷ (blocks ++ made ∷ [])) name ≡ block_named (block ∷ blocks) name
    decide behind true own_is = rw (← own_is) refl
    decide behind false own_is = rw (← own_is) behind

-- and their names

pub names_with : (blocks : List Block) (made old : Block) → block_named blocks made.name ≡ Some old → block_names (with_block blocks made) ≡ block_names blocks
names_with [] made old there = absurd (cc there)
names_with (block ∷ blocks) made old there = decide (names_with blocks made old) (has_name made.name block) refl
  where
    decide : (block_named blocks made.name ≡ Some old → block_names (with_block blocks made) ≡ block_names blocks) → (b : Bool) → b ≡ has_name made.name block
        → block_names (with_block (block ∷ blocks) made) ≡ block_names (block ∷ blocks)
    decide behind true is =
        let same : made.name ≡ block.name = (bytes_eq-Decides made.name block.name).0 (sym is) in
        rw (← is) (ap (λ (name : List ℕ). name ∷ block_names blocks) same)
    decide behind false is = rw (← is) (ap (λ (names : List (List ℕ)). block.name ∷ names) (behind (rw (← is) at there)))

pub names_push : (blocks : List Block) (made : Block) → block_names (blocks ++ made ∷ []) ≡ block_names blocks ++ made.name ∷ []
names_push [] made = refl
names_push (block ∷ blocks) made = ap (λ (names : List (List ℕ)). block.name ∷ names) (names_push blocks made)

-- the block of a name has that name
pub found_name : (blocks : List Block) (name : List ℕ) (block : Block) → block_named blocks name ≡ Some block → block.name ≡ name
found_name [] name block found = absurd (cc found)
found_name (first ∷ blocks) name block found = decide (found_name blocks name block) (has_name name first) refl
  where
    decide : (block_named blocks name ≡ Some block → block.name ≡ name) → (b : Bool) → b ≡ has_name name first → block.name ≡ name
    decide behind true is =
        let own : first ≡ block = cc (rw (← is) at found) in
        rw (← own) (sym ((bytes_eq-Decides name first.name).0 (sym is)))
    decide behind false is = behind (rw (← is) at found)

pub set_interface : (blocks : List Block) (name : List ℕ) (words : Words) (new : List Block) (taken : Taken) → ReadsLine blocks name words new taken → HasBlock new name
set_interface blocks name words new taken reads =
    let named : reads.old_block.name ≡ name = found_name blocks name reads.old_block reads.there in
    let kept : reads.new_block.name ≡ name = (read_same reads.old_block reads.new_block words taken reads.reads).name ∙ named in
    (reads.new_block, rw (reads.put, ← kept) (block_with blocks reads.new_block))

pub begun_interface : (old new : Interfaces) (name : List ℕ) → Begins old name new → HasBlock new.blocks name
begun_interface old new name (Begins.there block found is) = rw is (block, found)
begun_interface old new name (Begins.new absent few is) =
    let block : Block = no_lines name (number_of old.known old.blocks name) in
    rw is (block, block_push old.blocks block name refl absent)

-- the words of a route say nothing of its line
pub with_line : (route : StaticRoute) (line : ℕ) (words : Words) → IsRoute false route words → IsRoute false (record route { line = line }) words
with_line route line words is = record {
  prefix_word = is.prefix_word;
  mask_word = is.mask_word;
  mask = is.mask;
  more = is.more;
  whole = is.whole;
  prefix = is.prefix;
  mask_is = is.mask_is;
  len = is.len;
  exit = is.exit;
}
