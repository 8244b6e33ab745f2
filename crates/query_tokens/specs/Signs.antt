-- Signs of scripts.
use Rattle.std.specs.Prelude.{ℕ, List, codes}
use Rattle.query_tokens.specs.declared.token.Sign.{Sign}
use Rattle.query_tokens.specs.declared.token.Sign.TheVariants as sign

-- how a sign is written
abbrev pub sign_text : Sign → List ℕ
sign_text sign.Semicolon = codes ";"
sign_text sign.Colon = codes ":"
sign_text sign.Comma = codes ","
sign_text sign.Dot = codes "."
sign_text sign.Equals = codes "="
sign_text sign.Question = codes "?"
sign_text sign.Open = codes "("
sign_text sign.Close = codes ")"
sign_text sign.OpenBracket = codes "["
sign_text sign.CloseBracket = codes "]"
sign_text sign.Request = codes "<req>"
