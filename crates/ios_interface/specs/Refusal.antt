-- Why a line of the block of an interface is refused at a word.
use Rattle.std.specs.Prelude.{Bool, List, [], ℕ}
use Rattle.ios_lex.specs.declared.reason.IosReason.{IosReason}
use Rattle.ios_lex.specs.declared.reason.IosReason.TheVariants as reason
use Rattle.ios_lex.specs.Following.{Expected}
use Rattle.ios_lex.specs.Refusal.{reason_of}
use Rattle.ios_interface.specs.declared.kind.Kind.{Kind}
use Rattle.ios_interface.specs.declared.kind.Kind.TheVariants as kinds

-- where only a lax line goes on: an address that is no mask, or a word that is no name
abbrev pub lax_reason : Kind → IosReason
lax_reason kinds.Address = reason.BadMask
lax_reason kinds.AccessGroup = reason.BadEntry
lax_reason (kinds.Setting setting) = reason.BadEntry

-- the reason of a word of a line of a kind
abbrev pub reason_at : Kind → Expected → Bool → List ℕ → IosReason
reason_at kind expected over word = reason_of [] (lax_reason kind) expected over word
