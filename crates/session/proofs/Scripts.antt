-- Bytes are one script, or are refused, and not both.
use Rattle.std.proofs.Common.{◌≡◌, ℕ, List, length, arith}
use Rattle.query_tokens.proofs.OneList.{list_is_one, list_is_some}
use Rattle.query_lang.specs.declared.script.Script.{Script}
use Rattle.query_lang.specs.declared.script.ScriptReason.{ScriptReason}
use Rattle.query_lang.specs.Readings.{Reads, Refuses}
use Rattle.query_lang.proofs.OneReading as one

pub same_script : (bytes : List ℕ) (first second : Script) → Reads bytes first → Reads bytes second → first ≡ second
same_script = one.same_script (list_is_one 1)

pub not_both : (bytes : List ℕ) (script : Script) (line : ℕ) (why : ScriptReason) → Reads bytes script → Refuses bytes line why → ⊥
not_both = one.not_both (list_is_one 1)

pub not_neither : (bytes : List ℕ) → ((script : Script) → Reads bytes script → ⊥) → ((line : ℕ) (why : ScriptReason) → Refuses bytes line why → ⊥) → ⊥
not_neither = one.not_neither (list_is_one 1) (λ bytes. list_is_some (length bytes) 1 bytes (omega arith))
