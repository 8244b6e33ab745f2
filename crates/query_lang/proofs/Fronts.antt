-- From tokens to bytes.
use Rattle.std.proofs.Common.{◌≡◌, ℕ, List, [], ◌∷◌, refl}
use Rattle.query_tokens.specs.declared.token.Placed.{Placed}
use Rattle.query_tokens.specs.Lines.{last_line}
use Rattle.query_tokens.specs.Tokens.{AreTokens}
use Rattle.query_lang.specs.declared.script.ScriptReason.{ScriptReason}
use Rattle.query_lang.specs.declared.script.Statement.{Statement}
use Rattle.query_lang.specs.Words.{Tokens}
use Rattle.query_lang.specs.Readings.{Reads, Refuses, line_at}
use Rattle.query_lang.specs.Machine.Outcome.{strict}
use Rattle.query_lang.specs.Machine.Going.{IsRead, IsStopped}
use Rattle.query_lang.proofs.Accepted.{read_as}
use Rattle.query_lang.proofs.Refusing.{refused_as}

pub line_there : (bytes : List ℕ) (t : Placed) (ts rest : Tokens) → ts ≡ t ∷ rest → t.line ≡ line_at bytes ts
line_there bytes t ts rest is = rw is refl

pub line_at_end : (bytes : List ℕ) (ts : Tokens) → ts ≡ [] → last_line bytes ≡ line_at bytes ts
line_at_end bytes ts is = rw is refl

pub reads_as : (bytes : List ℕ) (tokens : Tokens) (all : List Statement) → AreTokens bytes tokens → IsRead tokens all → Reads bytes (record { statements = all })
reads_as bytes tokens all cut r = record { tokens = tokens; cut = cut; is = read_as strict (record { statements = all }) tokens r.is }

pub refuses_as : (bytes : List ℕ) (tokens back : Tokens) (line : ℕ) (why : ScriptReason) → AreTokens bytes tokens → IsStopped tokens back why → line ≡ line_at bytes back → Refuses bytes line why
refuses_as bytes tokens back line why cut s at = record { tokens = tokens; cut = cut; back = back; refused = refused_as tokens back why s.is; at = at }
