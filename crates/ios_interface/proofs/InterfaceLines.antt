-- Lines of the block at a place.
use Rattle.std.proofs.Common.{◌≡◌, ℕ, ◌<◌, true, false, List, Result, Ok, Err, IfOk, OnErr, Some, length, slice_get, set, get_or, refl, sym, ap, ◌∙◌}
use Rattle.std.specs.List.{IsDistinct}
use Rattle.std.specs.Str.{bytes_eq}
use Rattle.std.proofs.lemmas.Option.{slice_get-get_or}
use Rattle.ios_lex.specs.Phrases.{Words}
use Rattle.ios_lex.specs.declared.fault.LineFault.{LineFault}
use Rattle.ios_lex.specs.declared.taken.Taken.{Taken}
use Rattle.ios_lex.specs.declared.taken.Taken.TheVariants as taken
use Rattle.ios_interface.specs.declared.kind.Direction.TheVariants as directions
use Rattle.ios_interface.specs.declared.kind.Kind.{Kind}
use Rattle.ios_interface.specs.declared.kind.Setting.TheVariants as settings
use Rattle.ios_interface.specs.Block.{Block}
use Rattle.ios_interface.specs.Interfaces.{ReadsLineAt, block_names, name_at}
use Rattle.ios_interface.specs.Reading.{Makes, Reads}
use Rattle.ios_interface.proofs.NamedBlocks.{at_names, block_at, name_there, names_put, put_at}

-- a line leaves the name and the number of a block
pub record IsSame (old new : Block) : Type 0 where
  pub name : new.name ≡ old.name
  pub number : new.number ≡ old.number

same : (old new : Block) → new ≡ old → IsSame old new
same old new is = rw is (record { name = refl; number = refl })

made_same : (block new : Block) (rest : Words) (kind : Kind) → Makes block rest new kind → IsSame block new
made_same block new rest kind (Makes.address address true line is) = rw is (record { name = refl; number = refl })
made_same block new rest kind (Makes.address address false line is) = rw is (record { name = refl; number = refl })
made_same block new rest kind (Makes.group name directions.In line is) = rw is (record { name = refl; number = refl })
made_same block new rest kind (Makes.group name directions.Out line is) = rw is (record { name = refl; number = refl })
made_same block new rest kind (Makes.setting settings.NoAddress line is) = rw is (record { name = refl; number = refl })
made_same block new rest kind (Makes.setting settings.Inside line is) = rw is (record { name = refl; number = refl })
made_same block new rest kind (Makes.setting settings.Outside line is) = rw is (record { name = refl; number = refl })
made_same block new rest kind (Makes.setting settings.Shutdown line is) = rw is (record { name = refl; number = refl })
made_same block new rest kind (Makes.setting settings.NoShutdown line is) = rw is (record { name = refl; number = refl })

pub read_same : (old new : Block) (words : Words) (what : Taken) → Reads old words new what → IsSame old new
read_same old new words taken.Modelled takes = made_same old new takes.rest takes.kind takes.makes
read_same old new words taken.Ignored reads = same old new reads.1

pub line_same : (result : Result Taken LineFault) (old new : Block) (words : Words) → IfOk result (Reads old words new) → OnErr result (new ≡ old) → IsSame old new
line_same (Ok what) old new words reads unchanged = read_same old new words what reads
line_same (Err fault) old new words reads unchanged = same old new unchanged

pub block_there : (blocks : List Block) (place : ℕ) (block : Block) → block ≡ get_or blocks place block → place < length blocks → slice_get blocks place ≡ Some block
block_there blocks place block value within = slice_get-get_or blocks place block within ∙ ap Some (sym value)

pub line_read : (known : List (List ℕ)) (blocks : List Block) (place : ℕ) (words : Words) (old new : Block) (what : Taken) → IsDistinct bytes_eq (block_names blocks) → slice_get blocks place ≡ Some old
    → Reads old words new what → ReadsLineAt (record { known = known; blocks = blocks }) place words (record { known = known; blocks = set blocks place new }) what
line_read known blocks place words old new what different there reads =
    let one : IsSame old new = read_same old new words what reads in
    let names : block_names (set blocks place new) ≡ block_names blocks = names_put blocks place old new there one.name in
    let at : name_at blocks place ≡ Some old.name = name_there blocks place old there in
    record {
      name = old.name;
      there = at;
      line = record {
        old_block = old;
        new_block = new;
        there = block_at blocks place old different there;
        reads = reads;
        put = put_at blocks place old new different there one.name;
      };
      stays = sym (at_names (set blocks place new) place) ∙ ap (λ (all : List (List ℕ)). slice_get all place) names ∙ at_names blocks place ∙ at;
      known = refl;
    }
