-- Literals and number tests, as the reader takes them.
use Rattle.std.proofs.Common.{◌≡◌, ℕ, ◌^◌, ◌-◌, Bool, true, false, cond, List, [], ◌∷◌, refl, ap, ◌∙◌}
use Rattle.query_tokens.specs.declared.keyword.Keyword.TheVariants as keyword
use Rattle.query_tokens.specs.declared.token.Placed.{Placed}
use Rattle.query_tokens.specs.declared.token.Sign.TheVariants as sign_of
use Rattle.query_tokens.specs.declared.token.Token.{Token}
use Rattle.query_tokens.specs.declared.token.Token.TheVariants as token
use Rattle.query_lang.specs.declared.literal.Literal.{Literal}
use Rattle.query_lang.specs.declared.literal.Literal.TheVariants as literal
use Rattle.query_lang.specs.declared.read.stop.Stop.{Stop}
use Rattle.query_lang.specs.declared.read.stop.Stop.TheVariants as stop
use Rattle.query_lang.specs.declared.script.ScriptReason.TheVariants as reason
use Rattle.query_lang.specs.Words.{Tokens, on, number, is_number}
use Rattle.query_lang.specs.Literals.{NumberTest, dotted_number}
use Rattle.query_lang.specs.Machine.Due.{Due, State, Moved}
use Rattle.query_lang.specs.Machine.Steps
use Rattle.query_lang.specs.Machine.Tests.{begins_literal, BeginsLiteral, NoLiteral}
use Rattle.query_lang.specs.Machine.Steps.{is_word, is_sign, Behind, step}
use Rattle.query_lang.specs.Machine.Outcome.{outcome, strict}
use Rattle.query_lang.specs.Machine.Going.{Goes, GoesNumber, Stops, Halts, HaltsNumber, Starts, NoWord, NoSign}
use Rattle.query_lang.proofs.PhraseRuns.{skipped, left_out}
use Rattle.query_lang.proofs.Leading.{by}

pub byte_read : (n : ℕ) (t0 t1 t2 : Tokens) → Goes (Unit {0}) (State.want (Due.sign sign_of.Dot)) tt t0 t1 → GoesNumber 0 255 n t1 t2 → Goes ℕ Steps.dotted_byte n t0 t2
byte_read n t0 t1 t2 h0 h1 = record { goes = λ k. h0.goes (λ _. State.want (Due.number 0 (255) refl) (λ n. k n)) ∙ h1.goes refl (λ n. k n) }

pub byte_stops0 : (t0 tokens : Tokens) (s : Stop) → Halts (Unit {0}) (State.want (Due.sign sign_of.Dot)) t0 tokens s → Halts ℕ Steps.dotted_byte t0 tokens s
byte_stops0 t0 tokens (stop.Refused at why) h = record { stops = λ k. h.stops (λ _. State.want (Due.number 0 (255) refl) (λ n. k n)) }
byte_stops0 t0 tokens stop.NoMemory h = tt

pub byte_stops1 : (t0 t1 tokens : Tokens) (s : Stop) → Goes (Unit {0}) (State.want (Due.sign sign_of.Dot)) tt t0 t1 → HaltsNumber 0 255 t1 tokens s → Halts ℕ Steps.dotted_byte t0 tokens s
byte_stops1 t0 t1 tokens (stop.Refused at why) h0 h = record { stops = λ k. h0.goes (λ _. State.want (Due.number 0 (255) refl) (λ n. k n)) ∙ h.stops refl (λ n. k n) }
byte_stops1 t0 t1 tokens stop.NoMemory h0 h = tt

pub three_read : (first : ℕ) (second : ℕ) (third : ℕ) (fourth : ℕ) (t0 t1 t2 t3 : Tokens) → Goes ℕ Steps.dotted_byte second t0 t1 → Goes ℕ Steps.dotted_byte third t1 t2 → Goes ℕ Steps.dotted_byte fourth t2 t3 → Goes Literal (Steps.dotted_bytes first) (literal.Number (dotted_number first second third fourth)) t0 t3
three_read first second third fourth t0 t1 t2 t3 h0 h1 h2 = record { goes = λ k. h0.goes (λ second. Steps.dotted_byte (λ third. Steps.dotted_byte (λ fourth. k (literal.Number (dotted_number first second third fourth))))) ∙ h1.goes (λ third. Steps.dotted_byte (λ fourth. k (literal.Number (dotted_number first second third fourth)))) ∙ h2.goes (λ fourth. k (literal.Number (dotted_number first second third fourth))) }

pub three_stops0 : (first : ℕ) (t0 tokens : Tokens) (s : Stop) → Halts ℕ Steps.dotted_byte t0 tokens s → Halts Literal (Steps.dotted_bytes first) t0 tokens s
three_stops0 first t0 tokens (stop.Refused at why) h = record { stops = λ k. h.stops (λ second. Steps.dotted_byte (λ third. Steps.dotted_byte (λ fourth. k (literal.Number (dotted_number first second third fourth))))) }
three_stops0 first t0 tokens stop.NoMemory h = tt

pub three_stops1 : (first : ℕ) (second : ℕ) (t0 t1 tokens : Tokens) (s : Stop) → Goes ℕ Steps.dotted_byte second t0 t1 → Halts ℕ Steps.dotted_byte t1 tokens s → Halts Literal (Steps.dotted_bytes first) t0 tokens s
three_stops1 first second t0 t1 tokens (stop.Refused at why) h0 h = record { stops = λ k. h0.goes (λ second. Steps.dotted_byte (λ third. Steps.dotted_byte (λ fourth. k (literal.Number (dotted_number first second third fourth))))) ∙ h.stops (λ third. Steps.dotted_byte (λ fourth. k (literal.Number (dotted_number first second third fourth)))) }
three_stops1 first second t0 t1 tokens stop.NoMemory h0 h = tt

pub three_stops2 : (first : ℕ) (second : ℕ) (third : ℕ) (t0 t1 t2 tokens : Tokens) (s : Stop) → Goes ℕ Steps.dotted_byte second t0 t1 → Goes ℕ Steps.dotted_byte third t1 t2 → Halts ℕ Steps.dotted_byte t2 tokens s → Halts Literal (Steps.dotted_bytes first) t0 tokens s
three_stops2 first second third t0 t1 t2 tokens (stop.Refused at why) h0 h1 h = record { stops = λ k. h0.goes (λ second. Steps.dotted_byte (λ third. Steps.dotted_byte (λ fourth. k (literal.Number (dotted_number first second third fourth))))) ∙ h1.goes (λ third. Steps.dotted_byte (λ fourth. k (literal.Number (dotted_number first second third fourth)))) ∙ h.stops (λ fourth. k (literal.Number (dotted_number first second third fourth))) }
three_stops2 first second third t0 t1 t2 tokens stop.NoMemory h0 h1 h = tt

-- A text of digits.

pub digits_start : (line : ℕ) (text : List ℕ) (ts rest : Tokens) → ts ≡ on line (token.Digits text) ∷ rest → Starts (token.Digits text) ts rest
digits_start line text ts rest is = record { line = line; is = is }

abbrev numbered : List ℕ → Behind Literal → Bool → Bool → Moved
numbered text k a b = cond a (Moved.moves (State.want (Due.dots text) k)) (cond b (Moved.moves (k (literal.Number (number text)))) Moved.stops)

digits_step : (ts rest : Tokens) (text : List ℕ) (k : Behind Literal) (a : Bool) → Starts (token.Digits text) ts rest → is_number 0 255 text ≡ a
    → outcome strict ts (State.want Due.literal k) ≡ by ts rest (numbered text k a (is_number 0 (2 ^ 128 - 1) text))
digits_step ts rest text k a s e = rw s.is (ap (λ (x : Bool). by (on s.line (token.Digits text) ∷ rest) rest (numbered text k x (is_number 0 (2 ^ 128 - 1) text))) e)

dotted_on : (text : List ℕ) (first : ℕ) (t1 t2 : Tokens) (k : Behind Literal) → first ≡ number text → Starts (token.Sign sign_of.Dot) t1 t2
    → outcome strict t1 (State.want (Due.dots text) k) ≡ outcome strict t1 (Steps.dotted_bytes first k)
dotted_on text first t1 t2 k n d =
    rw n (rw d.is refl)

pub byte_dotted : (text : List ℕ) (first : ℕ) (v : Literal) (t0 t1 t2 t3 : Tokens) → Starts (token.Digits text) t0 t1 → is_number 0 255 text ≡ true → first ≡ number text → Starts (token.Sign sign_of.Dot) t1 t2
    → Goes Literal (Steps.dotted_bytes first) v t1 t3 → Goes Literal (State.want Due.literal) v t0 t3
byte_dotted text first v t0 t1 t2 t3 s e n d g = record { goes = λ k. digits_step t0 t1 text k true s e ∙ dotted_on text first t1 t2 k n d ∙ g.goes k }

pub byte_dotted_stops : (text : List ℕ) (first : ℕ) (t0 t1 t2 tokens : Tokens) (s : Stop) → Starts (token.Digits text) t0 t1 → is_number 0 255 text ≡ true → first ≡ number text → Starts (token.Sign sign_of.Dot) t1 t2
    → Halts Literal (Steps.dotted_bytes first) t1 tokens s → Halts Literal (State.want Due.literal) t0 tokens s
byte_dotted_stops text first t0 t1 t2 tokens (stop.Refused at why) s e n d h = record { stops = λ k. digits_step t0 t1 text k true s e ∙ dotted_on text first t1 t2 k n d ∙ h.stops k }
byte_dotted_stops text first t0 t1 t2 tokens stop.NoMemory s e n d h = tt

pub byte_alone : (text : List ℕ) (n : ℕ) (t0 t1 : Tokens) → Starts (token.Digits text) t0 t1 → is_number 0 255 text ≡ true → n ≡ number text → NoSign sign_of.Dot t1 → Goes Literal (State.want Due.literal) (literal.Number n) t0 t1
byte_alone text n t0 t1 s e is none =
    rw is (record { goes = λ k. digits_step t0 t1 text k true s e ∙ skipped strict (is_sign sign_of.Dot) (State.want (Due.dots text) k) (k (literal.Number (number text))) refl (λ line t e. left_out strict (is_sign sign_of.Dot t) _ _ e) t1 none.away })

pub long_number : (text : List ℕ) (n : ℕ) (t0 t1 : Tokens) → Starts (token.Digits text) t0 t1 → is_number 0 255 text ≡ false → is_number 0 (2 ^ 128 - 1) text ≡ true → n ≡ number text → Goes Literal (State.want Due.literal) (literal.Number n) t0 t1
long_number text n t0 t1 s e f is =
    rw is (record { goes = λ k. digits_step t0 t1 text k false s e ∙ ap (λ (x : Bool). by t0 t1 (numbered text k false x)) f })

pub no_number : (text : List ℕ) (t0 t1 : Tokens) → Starts (token.Digits text) t0 t1 → is_number 0 255 text ≡ false → is_number 0 (2 ^ 128 - 1) text ≡ false → Stops Literal (State.want Due.literal) t0 t0 reason.Syntax
no_number text t0 t1 s e f = record { stops = λ k. digits_step t0 t1 text k false s e ∙ ap (λ (x : Bool). by t0 t1 (numbered text k false x)) f }

-- Where a literal begins.

pub digits_begin : (line : ℕ) (text : List ℕ) (ts rest : Tokens) → ts ≡ on line (token.Digits text) ∷ rest → BeginsLiteral ts
digits_begin line text ts rest is = rw is (BeginsLiteral.digits line text rest)

pub quoted_begins : (line : ℕ) (text : List ℕ) (ts rest : Tokens) → ts ≡ on line (token.Quoted text) ∷ rest → BeginsLiteral ts
quoted_begins line text ts rest is = rw is (BeginsLiteral.quoted line text rest)

pub none_begins : (ts : Tokens) → ts ≡ [] → NoLiteral ts
none_begins ts is = rw is (record { away = tt })

pub other_begins : (t : Placed) (ts rest : Tokens) → ts ≡ t ∷ rest → begins_literal t.token ≡ false → NoLiteral ts
other_begins t ts rest is e = rw is (record { away = e })

-- Number tests.

pub test_stops0 : (t0 tokens : Tokens) (s : Stop) → Halts Literal (State.want Due.literal) t0 tokens s → Halts NumberTest Steps.number_test t0 tokens s
test_stops0 t0 tokens (stop.Refused at why) h = record { stops = λ k. h.stops (λ first. State.want (Due.second first) k) }
test_stops0 t0 tokens stop.NoMemory h = tt

to_step : (first : Literal) (t1 t2 : Tokens) (k : Behind NumberTest) → Starts (token.Keyword keyword.To) t1 t2 → outcome strict t1 (State.want (Due.second first) k) ≡ outcome strict t2 (State.want Due.literal (λ high. k (NumberTest.range first high)))
to_step first t1 t2 k s = rw s.is refl

pub to_read : (first high : Literal) (t0 t1 t2 t3 : Tokens) → Goes Literal (State.want Due.literal) first t0 t1 → Starts (token.Keyword keyword.To) t1 t2 → Goes Literal (State.want Due.literal) high t2 t3 → Goes NumberTest Steps.number_test (NumberTest.range first high) t0 t3
to_read first high t0 t1 t2 t3 h s g = record { goes = λ k. h.goes (λ first. State.want (Due.second first) k) ∙ to_step first t1 t2 k s ∙ g.goes (λ high. k (NumberTest.range first high)) }

pub to_stops : (first : Literal) (t0 t1 t2 tokens : Tokens) (s : Stop) → Goes Literal (State.want Due.literal) first t0 t1 → Starts (token.Keyword keyword.To) t1 t2 → Halts Literal (State.want Due.literal) t2 tokens s → Halts NumberTest Steps.number_test t0 tokens s
to_stops first t0 t1 t2 tokens (stop.Refused at why) h s g = record { stops = λ k. h.goes (λ first. State.want (Due.second first) k) ∙ to_step first t1 t2 k s ∙ g.stops (λ high. k (NumberTest.range first high)) }
to_stops first t0 t1 t2 tokens stop.NoMemory h s g = tt

masked_step : (first : Literal) (t1 : Tokens) (k : Behind NumberTest) → BeginsLiteral t1 → outcome strict t1 (State.want (Due.second first) k) ≡ outcome strict t1 (State.want Due.literal (λ other. k (NumberTest.masked first other)))
masked_step first t1 k (BeginsLiteral.digits line text rest) = refl
masked_step first t1 k (BeginsLiteral.quoted line text rest) = refl

pub masked_read : (first other : Literal) (t0 t1 t2 : Tokens) → Goes Literal (State.want Due.literal) first t0 t1 → BeginsLiteral t1 → Goes Literal (State.want Due.literal) other t1 t2 → Goes NumberTest Steps.number_test (NumberTest.masked first other) t0 t2
masked_read first other t0 t1 t2 h b g = record { goes = λ k. h.goes (λ first. State.want (Due.second first) k) ∙ masked_step first t1 k b ∙ g.goes (λ other. k (NumberTest.masked first other)) }

pub masked_stops : (first : Literal) (t0 t1 tokens : Tokens) (s : Stop) → Goes Literal (State.want Due.literal) first t0 t1 → BeginsLiteral t1 → Halts Literal (State.want Due.literal) t1 tokens s → Halts NumberTest Steps.number_test t0 tokens s
masked_stops first t0 t1 tokens (stop.Refused at why) h b g = record { stops = λ k. h.goes (λ first. State.want (Due.second first) k) ∙ masked_step first t1 k b ∙ g.stops (λ other. k (NumberTest.masked first other)) }
masked_stops first t0 t1 tokens stop.NoMemory h b g = tt

second_left : (first : Literal) (k : Behind NumberTest) (line : ℕ) (t : Token) → is_word keyword.To t ≡ false → begins_literal t ≡ false → step (State.want (Due.second first) k) line t ≡ step (k (NumberTest.range first first)) line t
second_left first k line (token.Keyword w) e f = left_out strict (is_word keyword.To (token.Keyword w)) _ _ e
second_left first k line (token.Digits text) e f = absurd (cc f)
second_left first k line (token.Quoted text) e f = absurd (cc f)
second_left first k line (token.Name text) e f = refl
second_left first k line (token.Word text) e f = refl
second_left first k line (token.Sign s) e f = refl
second_left first k line token.Bad e f = refl

alone_step : (first : Literal) (t1 : Tokens) (k : Behind NumberTest) → NoWord keyword.To t1 → NoLiteral t1 → outcome strict t1 (State.want (Due.second first) k) ≡ outcome strict t1 (k (NumberTest.range first first))
alone_step first [] k a b = refl
alone_step first (t ∷ ts) k a b = ap (λ (m : Moved). by (t ∷ ts) ts m) (second_left first k t.line t.token a.away b.away)

pub alone_read : (first same : Literal) (t0 t1 : Tokens) → Goes Literal (State.want Due.literal) first t0 t1 → NoWord keyword.To t1 → NoLiteral t1 → same ≡ first → Goes NumberTest Steps.number_test (NumberTest.range first same) t0 t1
alone_read first same t0 t1 h a b e = rw e (record { goes = λ k. h.goes (λ first. State.want (Due.second first) k) ∙ alone_step first t1 k a b })
