-- What a token was, where it moved the reader.
use Rattle.std.proofs.Common.{◌≡◌, ℕ, Bool, true, false, cond, List, refl, sym, subst}
use denote.Enum.Bare.{sameb, same_true, true_same}
use Rattle.query_tokens.specs.contracts.keyword.Keyword.{the_type as the_keywords}
use Rattle.query_tokens.specs.contracts.token.Sign.{the_type as the_signs}
use Rattle.query_tokens.specs.declared.keyword.Keyword.{Keyword}
use Rattle.query_tokens.specs.declared.token.Sign.{Sign}
use Rattle.query_tokens.specs.declared.token.Token.{Token}
use Rattle.query_tokens.specs.declared.token.Token.TheVariants as token
use Rattle.query_lang.specs.declared.script.Script.{Script}
use Rattle.query_lang.specs.Rules.{Rules}
use Rattle.query_lang.specs.Words.{Tokens, number, is_number}
use Rattle.query_lang.specs.Machine.Due.{Moved}
use Rattle.query_lang.specs.Machine.Steps.{is_word, is_sign, named_by, quoted_by, numbered_by, by_word}
use Rattle.query_lang.proofs.Accepting.{AcceptsBy}

-- the token is this one, or the test says that it is not
pub data At (test : Token → Bool) (which : Token) : Token → Type 0 where
  here : test which ≡ true → At test which which
  away : (t : Token) → test t ≡ false → At test which t

word_from : (w v : Keyword) (b : Bool) → sameb the_keywords v w ≡ b → At (is_word w) (token.Keyword w) (token.Keyword v)
word_from w v true e = subst (λ (x : Keyword). At (is_word w) (token.Keyword w) (token.Keyword x)) (sym (same_true the_keywords tt v w e)) (At.here (true_same the_keywords w w refl))
word_from w v false e = At.away (token.Keyword v) e

pub at_word : (w : Keyword) (t : Token) → At (is_word w) (token.Keyword w) t
at_word w (token.Keyword v) = word_from w v (sameb the_keywords v w) refl
at_word w (token.Name text) = At.away (token.Name text) refl
at_word w (token.Digits text) = At.away (token.Digits text) refl
at_word w (token.Word text) = At.away (token.Word text) refl
at_word w (token.Quoted text) = At.away (token.Quoted text) refl
at_word w (token.Sign s) = At.away (token.Sign s) refl
at_word w token.Bad = At.away token.Bad refl

sign_from : (s v : Sign) (b : Bool) → sameb the_signs v s ≡ b → At (is_sign s) (token.Sign s) (token.Sign v)
sign_from s v true e = subst (λ (x : Sign). At (is_sign s) (token.Sign s) (token.Sign x)) (sym (same_true the_signs tt v s e)) (At.here (true_same the_signs s s refl))
sign_from s v false e = At.away (token.Sign v) e

pub at_sign : (s : Sign) (t : Token) → At (is_sign s) (token.Sign s) t
at_sign s (token.Sign v) = sign_from s v (sameb the_signs v s) refl
at_sign s (token.Keyword v) = At.away (token.Keyword v) refl
at_sign s (token.Name text) = At.away (token.Name text) refl
at_sign s (token.Digits text) = At.away (token.Digits text) refl
at_sign s (token.Word text) = At.away (token.Word text) refl
at_sign s (token.Quoted text) = At.away (token.Quoted text) refl
at_sign s token.Bad = At.away token.Bad refl

module _ (rules : Rules) (ts : Tokens) (x : Script) (Goal : Token → Type 0) where
  pub choose : (test : Token → Bool) (which t : Token) → At test which t → (taken other : Moved) → AcceptsBy rules (cond (test t) taken other) ts x
      → (AcceptsBy rules taken ts x → Goal which) → (AcceptsBy rules other ts x → Goal t) → Goal t
  choose test which t (At.here hit) taken other a take skip = take (subst (λ (b : Bool). AcceptsBy rules (cond b taken other) ts x) hit a)
  choose test which t (At.away _ miss) taken other a take skip = skip (subst (λ (b : Bool). AcceptsBy rules (cond b taken other) ts x) miss a)

  pub if_word : (w : Keyword) (t : Token) (taken other : Moved) → AcceptsBy rules (cond (is_word w t) taken other) ts x
      → (AcceptsBy rules taken ts x → Goal (token.Keyword w)) → (AcceptsBy rules other ts x → Goal t) → Goal t
  if_word w t taken other a take skip = choose (is_word w) (token.Keyword w) t (at_word w t) taken other a take skip

  pub if_sign : (s : Sign) (t : Token) (taken other : Moved) → AcceptsBy rules (cond (is_sign s t) taken other) ts x
      → (AcceptsBy rules taken ts x → Goal (token.Sign s)) → (AcceptsBy rules other ts x → Goal t) → Goal t
  if_sign s t taken other a take skip = choose (is_sign s) (token.Sign s) t (at_sign s t) taken other a take skip

  pub if_name : (go : List ℕ → Moved) (t : Token) → AcceptsBy rules (named_by go t) ts x → ((text : List ℕ) → AcceptsBy rules (go text) ts x → Goal (token.Name text)) → Goal t
  if_name go (token.Name text) a take = take text a
  if_name go (token.Keyword w) a take = absurd a
  if_name go (token.Digits text) a take = absurd a
  if_name go (token.Word text) a take = absurd a
  if_name go (token.Quoted text) a take = absurd a
  if_name go (token.Sign s) a take = absurd a
  if_name go token.Bad a take = absurd a

  pub if_quoted : (go : List ℕ → Moved) (t : Token) → AcceptsBy rules (quoted_by go t) ts x → ((text : List ℕ) → AcceptsBy rules (go text) ts x → Goal (token.Quoted text)) → Goal t
  if_quoted go (token.Quoted text) a take = take text a
  if_quoted go (token.Keyword w) a take = absurd a
  if_quoted go (token.Name text) a take = absurd a
  if_quoted go (token.Digits text) a take = absurd a
  if_quoted go (token.Word text) a take = absurd a
  if_quoted go (token.Sign s) a take = absurd a
  if_quoted go token.Bad a take = absurd a

  of_number : (low high : ℕ) (go : ℕ → Moved) (text : List ℕ) (b : Bool) → is_number low high text ≡ b → AcceptsBy rules (cond b (go (number text)) Moved.stops) ts x
      → ((text : List ℕ) → is_number low high text ≡ true → AcceptsBy rules (go (number text)) ts x → Goal (token.Digits text)) → Goal (token.Digits text)
  of_number low high go text true e a take = take text e a
  of_number low high go text false e a take = absurd a

  pub if_number : (low high : ℕ) (go : ℕ → Moved) (t : Token) → AcceptsBy rules (numbered_by low high go t) ts x
      → ((text : List ℕ) → is_number low high text ≡ true → AcceptsBy rules (go (number text)) ts x → Goal (token.Digits text)) → Goal t
  if_number low high go (token.Digits text) a take = of_number low high go text (is_number low high text) refl a take
  if_number low high go (token.Name text) a take = absurd a
  if_number low high go (token.Keyword w) a take = absurd a
  if_number low high go (token.Word text) a take = absurd a
  if_number low high go (token.Quoted text) a take = absurd a
  if_number low high go (token.Sign s) a take = absurd a
  if_number low high go token.Bad a take = absurd a

  pub if_some_word : (go : Keyword → Moved) (t : Token) → AcceptsBy rules (by_word go t) ts x → ((w : Keyword) → AcceptsBy rules (go w) ts x → Goal (token.Keyword w)) → Goal t
  if_some_word go (token.Keyword w) a take = take w a
  if_some_word go (token.Name text) a take = absurd a
  if_some_word go (token.Digits text) a take = absurd a
  if_some_word go (token.Word text) a take = absurd a
  if_some_word go (token.Quoted text) a take = absurd a
  if_some_word go (token.Sign s) a take = absurd a
  if_some_word go token.Bad a take = absurd a
