-- Blocks that are opened by their headings.
use Rattle.std.proofs.Common.{◌≡◌, ℕ, ◌<◌, List, [], ◌∷◌, ◌++◌, Some, None, length, position, slice_get, refl, ap, ◌∙◌, arith, length-append}
use Rattle.std.specs.Str.{bytes_eq}
use Rattle.std.proofs.Math.Seq.{get_or-append_seam}
use Rattle.std.proofs.lemmas.Option.{slice_get-get_or}
use Rattle.ios_lex.specs.Phrases.{Words}
use Rattle.ios_names.specs.Names.{most_names}
use Rattle.ios_interface.specs.Block.{Block, no_lines}
use Rattle.ios_interface.specs.Headings.{IsHeading}
use Rattle.ios_interface.specs.Interfaces.{Begins, Interfaces, Opens, block_named, block_names, number_of, with_new}
use Rattle.ios_interface.proofs.NamedBlocks.{IsThere, block_there, name_there}

-- again
pub opened_again : (old : Interfaces) (index : List (List ℕ)) (words : Words) (name : List ℕ) (place : ℕ) → block_names old.blocks ≡ index → position (bytes_eq name) index ≡ Some place → IsHeading words name
    → Opens old words old place
opened_again old index words name place indexed at heading =
    let there : IsThere old.blocks name place = block_there old.blocks index name place indexed at in
    record { name = name; heading = heading; begins = Begins.there there.block there.found refl; there = there.at }

pub last_block : (blocks : List Block) (block : Block) → slice_get (blocks ++ block ∷ []) (length blocks) ≡ Some block
last_block blocks block =
    slice_get-get_or (blocks ++ block ∷ []) (length blocks) block (omega (arith, length-append blocks (block ∷ []))) ∙ ap Some (get_or-append_seam blocks block [] block)

-- for the first time
pub opened_new : (old new : Interfaces) (words : Words) (name : List ℕ) (place : ℕ) → block_named old.blocks name ≡ None → number_of old.known old.blocks name < most_names → new ≡ with_new old name
    → place ≡ length old.blocks → IsHeading words name → Opens old words new place
opened_new old new words name place absent few begun end heading =
    let block = no_lines name (number_of old.known old.blocks name) in
    record {
      name = name;
      heading = heading;
      begins = Begins.new absent few begun;
      there = rw (begun, end) (name_there (old.blocks ++ block ∷ []) (length old.blocks) block (last_block old.blocks block));
    }
