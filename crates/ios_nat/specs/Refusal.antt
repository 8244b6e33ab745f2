-- Why a line on address translation is refused at a word.
use Rattle.std.specs.Prelude.{ℕ, ◌==◌, Bool, List}
use Rattle.std.specs.Bool.{if◌then◌else◌}
use Rattle.ios_lex.specs.declared.reason.IosReason.{IosReason}
use Rattle.ios_lex.specs.declared.reason.IosReason.TheVariants as reason
use Rattle.ios_lex.specs.Following.{Expected}
use Rattle.ios_lex.specs.Refusal.{reason_of}
use Rattle.ios_nat.specs.declared.kind.Kind.{Kind}
use Rattle.ios_nat.specs.Grammar.{unmodelled}

-- the place of a pool's mask, behind its name, its two addresses and `netmask`
abbrev pub mask_place : ℕ
mask_place = 4

-- where only a lax line goes on: a mask, or else a name, or an address before the first of a pool
abbrev pub lax_reason : ℕ → IosReason
lax_reason place = if place == mask_place then reason.BadMask else reason.BadEntry

-- the reason of a word at this place behind the opening of the line. The unmodelled words of its kind are tested at each
abbrev pub reason_at : Kind → ℕ → Expected → Bool → List ℕ → IosReason
reason_at kind place expected over word =
    reason_of (unmodelled kind) (lax_reason place) expected over word
