use Rattle.query_tokens.specs.Tokens.IsToken.{word, sign}
use Rattle.query_tokens.specs.Signs.{sign_text}
use Rattle.query_tokens.proofs.FirstTokens.{quoted_begins, no_token}
use Rattle.query_tokens.proofs.scan.first_token.Goals as goal

pub returns-in-Some-clause-found : goal.returns-in-Some-clause-found
returns-in-Some-clause-found c =
    (c.in-Some.word.now, record { whole = c.in-Some.ensures.whole; is = word _ _ _ c.in-Some.ensures.word c.in-Some.ensures.stops c.in_ok-word_token.ensures })

pub returns-in-Some-first_quoted-clause-found : goal.returns-in-Some-first_quoted-clause-found
returns-in-Some-first_quoted-clause-found c =
    rw c.in_ok-ascii_text.ensures (quoted_begins _ _ _ c.in-Some-first_quoted.ensures.whole c.in-Some-first_quoted.ensures.quotable)

pub returns-in-Some-first_sign-clause-found : goal.returns-in-Some-first_sign-clause-found
returns-in-Some-first_sign-clause-found c =
    (sign_text c.in-Some-first_sign.sign, record { whole = c.in-Some-first_sign.ensures.found; is = sign _ _ })

pub returns-clause-none : goal.returns-clause-none
returns-clause-none c = no_token _ c.in_default.ensures.none c.in_default-first_quoted.ensures.none c.in_default-first_sign.ensures.none
