-- Files that gave a value, and files that gave none.
use Rattle.std.proofs.Common.{◌≡◌, ℕ, List, [], ◌∷◌, Option, None, refl}
use Rattle.mg_outside.specs.Effects.{HasRead}
use Rattle.mg_outside.specs.Logs.{FileLog}
use Rattle.certificates.specs.declared.derivation.Certificate.{Certificate}
use Rattle.solver_run.specs.declared.reason.Reason.{Reason}
use Rattle.solver_run.specs.declared.unread.Unread.{Unread}
use Rattle.solver_run.specs.declared.unread.Unread.TheVariants as unread
use Rattle.ios_acl.specs.declared.entry.Entry.{Entry}
use Rattle.solver_run.specs.Lists.{HoldsList, IsNoList}
use Rattle.solver_run.specs.Lists as lists
use Rattle.solver_run.specs.Run.{HoldsCertificate, IsNoCertificate, IsNoFormula}
use Rattle.solver_run.specs.TooLong.{IsTooLongAt}
use Rattle.solver_run.specs.Run as run
use Rattle.solver_run.specs.Inside.Endings.{IsUnread, WantsReads}

pub unread_weaker : (P Q : ℕ → Reason → Type 0) (file : List ℕ) (before now : FileLog) → ((line : ℕ) (why : Reason) → P line why → Q line why) → (why : Unread) → IsUnread P file before now why → IsUnread Q file before now why
unread_weaker P Q file before now weaker unread.Failed is = is
unread_weaker P Q file before now weaker (unread.Refused line why) is = (weaker line why is.0, is.1)
unread_weaker P Q file before now weaker unread.NoMemory is = is

pub long_is_no_formula : (told : List ℕ → Option (List ℕ)) (file : List ℕ) (line : ℕ) (why : Reason) → IsTooLongAt (told file) line why → IsNoFormula told file line why
long_is_no_formula told file line why is = rw (is.0, is.1) (run.long_formula is.2)

pub long_is_no_certificate : (told : List ℕ → Option (List ℕ)) (file : List ℕ) (line : ℕ) (why : Reason) → IsTooLongAt (told file) line why → IsNoCertificate told file line why
long_is_no_certificate told file line why is = rw (is.0, is.1) (run.long_certificate is.2)

pub long_is_no_list : (told : List ℕ → Option (List ℕ)) (file : List ℕ) (line : ℕ) (why : Reason) → IsTooLongAt (told file) line why → IsNoList told file line why
long_is_no_list told file line why is = rw (is.0, is.1) (lists.long_list is.2)

-- memory was wanting when the file had been read
pub wants_behind : (file : List ℕ) (before now : FileLog) → HasRead before now (file ∷ []) None → WantsReads file before now
wants_behind file before now read = record { reads = file ∷ []; rest = []; are = refl; on_files = read }

-- what is said of a file holds where the same is told of it
module _ (told told' : List ℕ → Option (List ℕ)) (name : List ℕ) (same : told' name ≡ told name) where
  pub certificate_moves : (certificate : Certificate) → HoldsCertificate told' name certificate → HoldsCertificate told name certificate
  certificate_moves certificate holds = record { bytes = holds.bytes; gives = rw same at holds.gives; reads = holds.reads }

  pub no_certificate_moves : (line : ℕ) (why : Reason) → IsNoCertificate told' name line why → IsNoCertificate told name line why
  no_certificate_moves _ _ (run.long_certificate is) = run.long_certificate (rw same at is)
  no_certificate_moves _ _ (run.bad_certificate bytes line gives refuses) = run.bad_certificate bytes line (rw same at gives) refuses
  no_certificate_moves _ _ (run.other_version bytes line gives refuses) = run.other_version bytes line (rw same at gives) refuses

  pub list_moves : (entries : List Entry) → HoldsList told' name entries → HoldsList told name entries
  list_moves entries holds = record {
    bytes = holds.bytes;
    gives = rw same at holds.gives;
    router = holds.router;
    reads = holds.reads;
    list = holds.list;
    only = holds.only;
    are = holds.are;
  }

  pub no_list_moves : (line : ℕ) (why : Reason) → IsNoList told' name line why → IsNoList told name line why
  no_list_moves _ _ (lists.long_list is) = lists.long_list (rw same at is)
  no_list_moves _ _ (lists.no_configuration bytes line why gives refused) = lists.no_configuration bytes line why (rw same at gives) refused
  no_list_moves _ _ (lists.not_one_list bytes router gives reads none) = lists.not_one_list bytes router (rw same at gives) reads none
