-- The access list of a file that has just one.
use Rattle.std.specs.Prelude.{◌≡◌, ℕ, ◌==◌, Bool, not, List, [], ◌∷◌, length, Option}
use Rattle.std.specs.List.{filter}
use Rattle.mg_outside.specs.Reading.{Gives}
use Rattle.ios_lex.specs.declared.reason.IosReason.{IosReason}
use Rattle.ios_acl.specs.declared.entry.Entry.{Entry}
use Rattle.ios_acl.specs.List.{AccessList}
use Rattle.ios_config.specs.Reading.{IsRefused, Reads}
use Rattle.ios_config.specs.Router.{Router}
use Rattle.solver_run.specs.declared.reason.Reason.{Reason}
use Rattle.solver_run.specs.declared.reason.Reason.TheVariants as reason
use Rattle.solver_run.specs.TooLong.{IsTooLong, max_bytes}

abbrev pub has_entries : AccessList → Bool
has_entries list = not (length list.entries == 0)

-- of these lists it alone has entries
abbrev pub IsOnlyList : List AccessList → AccessList → Type 0
IsOnlyList lists list = filter has_entries lists ≡ list ∷ []

-- the file's bytes are a configuration, which is read by itself, and these are the entries of its one list that has any
pub record HoldsList (told : List ℕ → Option (List ℕ)) (file : List ℕ) (entries : List Entry) : Type 0 where
  pub bytes : List ℕ
  pub gives : Gives (told file) max_bytes bytes
  pub router : Router
  pub reads : Reads [] bytes router
  pub list : AccessList
  pub only : IsOnlyList router.lists list
  pub are : entries ≡ list.entries

-- the file's bytes are no configuration, at this line for this reason, or they are one in which no list has entries or more
-- than one list has
pub data IsNoList (told : List ℕ → Option (List ℕ)) (file : List ℕ) : ℕ → Reason → Type 0 where
  long_list : IsTooLong (told file) → IsNoList told file 0 reason.TooLong
  no_configuration : (bytes : List ℕ) (line : ℕ) (why : IosReason) → Gives (told file) max_bytes bytes
      → IsRefused [] bytes line why → IsNoList told file line reason.NoConfiguration
  not_one_list : (bytes : List ℕ) (router : Router) → Gives (told file) max_bytes bytes
      → Reads [] bytes router → ((list : AccessList) → IsOnlyList router.lists list → ⊥)
      → IsNoList told file 0 reason.NotOneList
