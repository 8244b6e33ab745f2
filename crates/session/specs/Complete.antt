-- When a run has nothing to refuse.
use Rattle.std.specs.Prelude.{◌≡◌, ℕ, ◌≤◌, List, length, Option, Some, IsSome}
use Rattle.std.specs.List.{AllByRecursion}
use Rattle.mg_outside.specs.Effects.{Effects}
use Rattle.session.specs.declared.ended.Cause.TheVariants as cause
use Rattle.session.specs.Run.{AreCarriedOut, NeverCut, no_routers}
use Rattle.query_lang.specs.declared.script.Kind.{Kind}
use Rattle.query_lang.specs.declared.script.Kind.TheVariants as kind
use Rattle.query_lang.specs.declared.script.Script.{Script}
use Rattle.query_lang.specs.declared.script.Statement.{Statement}
use Rattle.query_lang.specs.Readings as query
use Rattle.session.specs.Steps.{max_bytes}
use Rattle.session.specs.Words.{IsForm}

-- the file that a statement loads is told
abbrev pub TellsFile : (List ℕ → Option (List ℕ)) → Kind → Type 0
TellsFile told (kind.LoadIos file name) = IsSome (told file)
TellsFile told other = Unit {0}

-- the words name a script that is told, as are its files, and its statements are carried out to the end
pub record IsAnswerable (words : List (List ℕ)) (told : List ℕ → Option (List ℕ)) : Type 0 where
  pub name : List ℕ
  pub is_form : IsForm words name
  pub bytes : List ℕ
  pub is_told : told name ≡ Some bytes
  pub within : length bytes ≤ max_bytes
  pub script : Script
  pub reads : query.Reads bytes script
  pub files : AllByRecursion (λ (statement : Statement). TellsFile told statement.kind) script.statements
  pub done : Effects
  pub carried : AreCarriedOut NeverCut name told no_routers script.statements done cause.Done
