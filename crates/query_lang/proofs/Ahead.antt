-- One token, as the reader takes it.
use Rattle.std.proofs.Common.{◌≡◌, ℕ, Bool, true, false, cond, List, [], ◌∷◌, length, refl, ap, ◌∙◌}
use denote.Enum.Bare.{true_same, false_same}
use Rattle.query_tokens.specs.contracts.keyword.Keyword.{the_type as the_keywords}
use Rattle.query_tokens.specs.contracts.token.Sign.{the_type as the_signs}
use Rattle.query_tokens.specs.declared.keyword.Keyword.{Keyword}
use Rattle.query_tokens.specs.declared.token.Placed.{Placed}
use Rattle.query_tokens.specs.declared.token.Sign.{Sign}
use Rattle.query_tokens.specs.declared.token.Token.TheVariants as token
use Rattle.query_lang.specs.declared.script.ScriptReason.TheVariants as reason
use Rattle.query_lang.specs.Words.{Tokens, on, number, is_number}
use Rattle.query_lang.specs.Machine.Due.{Due, State, Moved}
use Rattle.query_lang.specs.Machine.Steps.{is_word, is_sign}
use Rattle.query_lang.specs.Machine.Outcome.{outcome, settled, strict}
use Rattle.query_lang.specs.Machine.Going.{Goes, GoesNumber, Stops, StopsNumber, Starts, NoWord, NoSign, NoKeyword, is_keyword}

pub word_starts : (w v : Keyword) (line : ℕ) (ts rest : Tokens) → ts ≡ on line (token.Keyword v) ∷ rest → v ≡ w → Starts (token.Keyword w) ts rest
word_starts w v line ts rest is e = record { line = line; is = is ∙ ap (λ (x : Keyword). on line (token.Keyword x) ∷ rest) e }

pub sign_starts : (w v : Sign) (line : ℕ) (ts rest : Tokens) → ts ≡ on line (token.Sign v) ∷ rest → v ≡ w → Starts (token.Sign w) ts rest
sign_starts w v line ts rest is e = record { line = line; is = is ∙ ap (λ (x : Sign). on line (token.Sign x) ∷ rest) e }

-- the tokens end, the first is another keyword, or it is none
pub word_at_end : (w : Keyword) (ts : Tokens) → ts ≡ [] → NoWord w ts
word_at_end w ts is = rw is (record { away = tt })

pub no_word : (w v : Keyword) (line : ℕ) (ts rest : Tokens) → ts ≡ on line (token.Keyword v) ∷ rest → (v ≡ w → ⊥) → NoWord w ts
no_word w v line ts rest is other = rw is (record { away = false_same the_keywords tt v w other })

pub other_word : (w : Keyword) (t : Placed) (ts rest : Tokens) → ts ≡ t ∷ rest → is_word w t.token ≡ false → NoWord w ts
other_word w t ts rest is other = rw is (record { away = other })

pub sign_at_end : (s : Sign) (ts : Tokens) → ts ≡ [] → NoSign s ts
sign_at_end s ts is = rw is (record { away = tt })

pub no_sign : (s v : Sign) (line : ℕ) (ts rest : Tokens) → ts ≡ on line (token.Sign v) ∷ rest → (v ≡ s → ⊥) → NoSign s ts
no_sign s v line ts rest is other = rw is (record { away = false_same the_signs tt v s other })

pub other_sign : (s : Sign) (t : Placed) (ts rest : Tokens) → ts ≡ t ∷ rest → is_sign s t.token ≡ false → NoSign s ts
other_sign s t ts rest is other = rw is (record { away = other })

pub word_read : (w : Keyword) (ts rest : Tokens) → Starts (token.Keyword w) ts rest → Goes (Unit {0}) (State.want (Due.word w)) tt ts rest
word_read w ts rest s = rw s.is (record { goes = λ k. ap (λ (b : Bool). settled strict (on s.line (token.Keyword w) ∷ rest) (length rest) (outcome strict rest) (cond b (Moved.moves (k tt)) Moved.stops)) (true_same the_keywords w w refl) })

pub sign_read : (s : Sign) (ts rest : Tokens) → Starts (token.Sign s) ts rest → Goes (Unit {0}) (State.want (Due.sign s)) tt ts rest
sign_read w ts rest s = rw s.is (record { goes = λ k. ap (λ (b : Bool). settled strict (on s.line (token.Sign w) ∷ rest) (length rest) (outcome strict rest) (cond b (Moved.moves (k tt)) Moved.stops)) (true_same the_signs w w refl) })

pub word_stops : (w : Keyword) (ts : Tokens) → NoWord w ts → Stops (Unit {0}) (State.want (Due.word w)) ts ts reason.Syntax
word_stops w [] e = record { stops = λ k. refl }
word_stops w (t ∷ ts) e = record { stops = λ k. ap (λ (b : Bool). settled strict (t ∷ ts) (length ts) (outcome strict ts) (cond b (Moved.moves (k tt)) Moved.stops)) e.away }

pub sign_stops : (s : Sign) (ts : Tokens) → NoSign s ts → Stops (Unit {0}) (State.want (Due.sign s)) ts ts reason.Syntax
sign_stops s [] e = record { stops = λ k. refl }
sign_stops s (t ∷ ts) e = record { stops = λ k. ap (λ (b : Bool). settled strict (t ∷ ts) (length ts) (outcome strict ts) (cond b (Moved.moves (k tt)) Moved.stops)) e.away }

pub number_read : (low high line : ℕ) (text : List ℕ) (ts rest : Tokens) → is_number low high text ≡ true → ts ≡ on line (token.Digits text) ∷ rest → GoesNumber low high (number text) ts rest
number_read low high line text ts rest e is =
    rw is (record { goes = λ fits k. ap (λ (b : Bool). settled strict (on line (token.Digits text) ∷ rest) (length rest) (outcome strict rest) (cond b (Moved.moves (k (number text))) Moved.stops)) e })

pub number_stops : (low high line : ℕ) (text : List ℕ) (ts rest : Tokens) → is_number low high text ≡ false → ts ≡ on line (token.Digits text) ∷ rest → StopsNumber low high ts ts reason.Syntax
number_stops low high line text ts rest e is =
    rw is (record { stops = λ fits k. ap (λ (b : Bool). settled strict (on line (token.Digits text) ∷ rest) (length rest) (outcome strict rest) (cond b (Moved.moves (k (number text))) Moved.stops)) e })

pub number_at_end : (low high : ℕ) (ts : Tokens) → ts ≡ [] → StopsNumber low high ts ts reason.Syntax
number_at_end low high ts is = rw is (record { stops = λ fits k. refl })

pub word_here : (w : Keyword) (line : ℕ) (ts rest : Tokens) → ts ≡ on line (token.Keyword w) ∷ rest → Starts (token.Keyword w) ts rest
word_here w line ts rest is = record { line = line; is = is }

pub no_keyword_at_end : (ts : Tokens) → ts ≡ [] → NoKeyword ts
no_keyword_at_end ts is = rw is (record { away = tt })

pub no_keyword_here : (t : Placed) (ts rest : Tokens) → ts ≡ t ∷ rest → is_keyword t.token ≡ false → NoKeyword ts
no_keyword_here t ts rest is other = rw is (record { away = other })
