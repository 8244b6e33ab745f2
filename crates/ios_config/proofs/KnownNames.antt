-- The names that were known before a configuration, and those of its interfaces.
use Rattle.std.proofs.Common.{◌≡◌, ℕ, List, [], ◌∷◌, map, refl, ap, ◌∙◌}
use Rattle.ios_lex.specs.Lines.{Reading}
use Rattle.ios_lex.specs.Phrases.{Words}
use Rattle.ios_interface.specs.Block.{Block, interface_of}
use Rattle.ios_interface.specs.Interfaces.{Begins, Interfaces, block_names}
use Rattle.ios_config.specs.Line.{Makes, Rule}
use Rattle.ios_config.specs.Reading.{TakesAll}
use Rattle.ios_config.specs.Router.{Draft, names_of}

begun_known : (old new : Interfaces) (name : List ℕ) → Begins old name new → new.known ≡ old.known
begun_known old new name (Begins.there block found is) = rw is refl
begun_known old new name (Begins.new absent few is) = rw is refl

made_known : (draft new : Draft) (number : ℕ) (words : Words) (rule : Rule) → Makes draft number words rule new → new.interfaces.known ≡ draft.interfaces.known
made_known draft new number words rule Makes.ignored = refl
made_known draft new number words rule (Makes.entry name lists reads) = refl
made_known draft new number words rule (Makes.setting name blocks taken reads) = refl
made_known draft new number words rule (Makes.numbered rest lists taken reads) = refl
made_known draft new number words rule (Makes.list rest name extended head) = refl
made_known draft new number words rule (Makes.interface rest interfaces name heading begins) = begun_known draft.interfaces interfaces name begins
made_known draft new number words rule (Makes.route rest route is line) = refl
made_known draft new number words rule (Makes.pool rest table reads) = refl
made_known draft new number words rule (Makes.source word rest table reads) = refl
made_known draft new number words rule Makes.cut = refl

-- the lines leave them
pub known_of : {draft end : Draft} {lines : List Reading} → TakesAll draft lines end → end.interfaces.known ≡ draft.interfaces.known
known_of (TakesAll.end draft) = refl
known_of (TakesAll.next draft next end line lines takes rest) =
    known_of rest ∙ made_known draft next line.number line.words takes.rule takes.makes

pub names_made : (blocks : List Block) → names_of (map interface_of blocks) ≡ block_names blocks
names_made [] = refl
names_made (block ∷ blocks) = ap (λ (names : List (List ℕ)). block.name ∷ names) (names_made blocks)
