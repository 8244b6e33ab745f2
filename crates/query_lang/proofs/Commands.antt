-- Statements but EXPLORE, as the reader takes them behind their first word.
use Rattle.std.proofs.Common.{◌≡◌, ℕ, false, List, [], ◌∷◌, ◌++◌, refl, ap, ◌∙◌}
use Rattle.query_tokens.specs.declared.keyword.Keyword.{Keyword}
use Rattle.query_tokens.specs.declared.keyword.Keyword.TheVariants as keyword
use Rattle.query_tokens.specs.declared.token.Sign.TheVariants as sign_of
use Rattle.query_tokens.specs.declared.token.Token.{Token}
use Rattle.query_tokens.specs.declared.token.Token.TheVariants as token
use Rattle.query_lang.specs.declared.literal.Literal.{Literal}
use Rattle.query_lang.specs.declared.literal.Path.{Path}
use Rattle.query_lang.specs.declared.read.stop.Stop.{Stop}
use Rattle.query_lang.specs.declared.read.stop.Stop.TheVariants as stop
use Rattle.query_lang.specs.declared.script.ScriptReason.TheVariants as reason
use Rattle.query_lang.specs.Words.{Tokens, on}
use Rattle.query_lang.specs.Machine.Due.{Due, State, Moved}
use Rattle.query_lang.specs.Machine.Steps
use Rattle.query_lang.specs.Machine.Steps.{is_word, is_sign, Behind, step}
use Rattle.query_lang.specs.Machine.Outcome.{Outcome, outcome, strict}
use Rattle.query_lang.specs.Machine.Going.{Goes, GoesNumber, Stops, Halts, HaltsNumber, Starts, NoSign, NoKeyword, is_keyword}
use Rattle.query_lang.proofs.PhraseRuns.{skipped, left_out}
use Rattle.query_lang.specs.declared.literal.NamedTest.{NamedTest}
use Rattle.query_lang.specs.declared.script.Kind.{Kind}
use Rattle.query_lang.specs.declared.script.Kind.TheVariants as kind
use Rattle.query_lang.specs.Literals.{NumberTest}
use Rattle.query_lang.specs.Statements.{field_tested}
use Rattle.query_lang.proofs.Leading.{Leads, by}

pub file_read : (file : List ℕ) (text : List ℕ) (t0 t1 t2 t3 : Tokens) → Goes (List ℕ) (State.want Due.quoted) file t0 t1 → Goes (Unit {0}) (State.want (Due.word keyword.As)) tt t1 t2 → Goes (List ℕ) (State.want Due.name) text t2 t3 → Goes (List ℕ × List ℕ) Steps.file_and_name (file, text) t0 t3
file_read file text t0 t1 t2 t3 h0 h1 h2 = record { goes = λ k. h0.goes (λ file. State.want (Due.word keyword.As) (λ _. State.want Due.name (λ text. k (file, text)))) ∙ h1.goes (λ _. State.want Due.name (λ text. k (file, text))) ∙ h2.goes (λ text. k (file, text)) }

pub file_stops0 : (t0 tokens : Tokens) (s : Stop) → Halts (List ℕ) (State.want Due.quoted) t0 tokens s → Halts (List ℕ × List ℕ) Steps.file_and_name t0 tokens s
file_stops0 t0 tokens (stop.Refused at why) h = record { stops = λ k. h.stops (λ file. State.want (Due.word keyword.As) (λ _. State.want Due.name (λ text. k (file, text)))) }
file_stops0 t0 tokens stop.NoMemory h = tt

pub file_stops1 : (file : List ℕ) (t0 t1 tokens : Tokens) (s : Stop) → Goes (List ℕ) (State.want Due.quoted) file t0 t1 → Halts (Unit {0}) (State.want (Due.word keyword.As)) t1 tokens s → Halts (List ℕ × List ℕ) Steps.file_and_name t0 tokens s
file_stops1 file t0 t1 tokens (stop.Refused at why) h0 h = record { stops = λ k. h0.goes (λ file. State.want (Due.word keyword.As) (λ _. State.want Due.name (λ text. k (file, text)))) ∙ h.stops (λ _. State.want Due.name (λ text. k (file, text))) }
file_stops1 file t0 t1 tokens stop.NoMemory h0 h = tt

pub file_stops2 : (file : List ℕ) (t0 t1 t2 tokens : Tokens) (s : Stop) → Goes (List ℕ) (State.want Due.quoted) file t0 t1 → Goes (Unit {0}) (State.want (Due.word keyword.As)) tt t1 t2 → Halts (List ℕ) (State.want Due.name) t2 tokens s → Halts (List ℕ × List ℕ) Steps.file_and_name t0 tokens s
file_stops2 file t0 t1 t2 tokens (stop.Refused at why) h0 h1 h = record { stops = λ k. h0.goes (λ file. State.want (Due.word keyword.As) (λ _. State.want Due.name (λ text. k (file, text)))) ∙ h1.goes (λ _. State.want Due.name (λ text. k (file, text))) ∙ h.stops (λ text. k (file, text)) }
file_stops2 file t0 t1 t2 tokens stop.NoMemory h0 h1 h = tt

pub vocab_read : (file : List ℕ) (t0 t1 t2 : Tokens) → Starts (token.Keyword keyword.Vocab) t0 t1 → Goes (List ℕ) (State.want Due.quoted) file t1 t2 → Goes Kind (State.want Due.load) (kind.LoadVocab file) t0 t2
vocab_read file t0 t1 t2 e h0 = rw e.is (record { goes = λ k. h0.goes (λ file. k (kind.LoadVocab file)) })

pub vocab_stops0 : (t0 t1 tokens : Tokens) (s : Stop) → Starts (token.Keyword keyword.Vocab) t0 t1 → Halts (List ℕ) (State.want Due.quoted) t1 tokens s → Halts Kind (State.want Due.load) t0 tokens s
vocab_stops0 t0 t1 tokens (stop.Refused at why) e h = rw e.is (record { stops = λ k. h.stops (λ file. k (kind.LoadVocab file)) })
vocab_stops0 t0 t1 tokens stop.NoMemory e h = tt

pub policy_read : (file : List ℕ) (t0 t1 t2 : Tokens) → Starts (token.Keyword keyword.Policy) t0 t1 → Goes (List ℕ) (State.want Due.quoted) file t1 t2 → Goes Kind (State.want Due.load) (kind.LoadPolicy file) t0 t2
policy_read file t0 t1 t2 e h0 = rw e.is (record { goes = λ k. h0.goes (λ file. k (kind.LoadPolicy file)) })

pub policy_stops0 : (t0 t1 tokens : Tokens) (s : Stop) → Starts (token.Keyword keyword.Policy) t0 t1 → Halts (List ℕ) (State.want Due.quoted) t1 tokens s → Halts Kind (State.want Due.load) t0 tokens s
policy_stops0 t0 t1 tokens (stop.Refused at why) e h = rw e.is (record { stops = λ k. h.stops (λ file. k (kind.LoadPolicy file)) })
policy_stops0 t0 t1 tokens stop.NoMemory e h = tt

pub ios_read : (both : List ℕ × List ℕ) (t0 t1 t2 : Tokens) → Starts (token.Keyword keyword.Ios) t0 t1 → Goes (List ℕ × List ℕ) Steps.file_and_name both t1 t2 → Goes Kind (State.want Due.load) (kind.LoadIos both.0 both.1) t0 t2
ios_read both t0 t1 t2 e h0 = rw e.is (record { goes = λ k. h0.goes (λ both. k (kind.LoadIos both.0 both.1)) })

pub ios_stops0 : (t0 t1 tokens : Tokens) (s : Stop) → Starts (token.Keyword keyword.Ios) t0 t1 → Halts (List ℕ × List ℕ) Steps.file_and_name t1 tokens s → Halts Kind (State.want Due.load) t0 tokens s
ios_stops0 t0 t1 tokens (stop.Refused at why) e h = rw e.is (record { stops = λ k. h.stops (λ both. k (kind.LoadIos both.0 both.1)) })
ios_stops0 t0 t1 tokens stop.NoMemory e h = tt

pub iptables_read : (both : List ℕ × List ℕ) (t0 t1 t2 : Tokens) → Starts (token.Keyword keyword.Iptables) t0 t1 → Goes (List ℕ × List ℕ) Steps.file_and_name both t1 t2 → Goes Kind (State.want Due.load) (kind.LoadIptables both.0 both.1) t0 t2
iptables_read both t0 t1 t2 e h0 = rw e.is (record { goes = λ k. h0.goes (λ both. k (kind.LoadIptables both.0 both.1)) })

pub iptables_stops0 : (t0 t1 tokens : Tokens) (s : Stop) → Starts (token.Keyword keyword.Iptables) t0 t1 → Halts (List ℕ × List ℕ) Steps.file_and_name t1 tokens s → Halts Kind (State.want Due.load) t0 tokens s
iptables_stops0 t0 t1 tokens (stop.Refused at why) e h = rw e.is (record { stops = λ k. h.stops (λ both. k (kind.LoadIptables both.0 both.1)) })
iptables_stops0 t0 t1 tokens stop.NoMemory e h = tt

other_load : (k : Behind Kind) (w : Keyword) → (w ≡ keyword.Vocab → ⊥) → (w ≡ keyword.Policy → ⊥) → (w ≡ keyword.Ios → ⊥) → (w ≡ keyword.Iptables → ⊥) → Steps.load_word k w ≡ Moved.stops
other_load k keyword.Vocab a b c d = absurd (a refl)
other_load k keyword.Policy a b c d = absurd (b refl)
other_load k keyword.Ios a b c d = absurd (c refl)
other_load k keyword.Iptables a b c d = absurd (d refl)
other_load k w a b c d = refl

pub no_load : (w : Keyword) (t0 t1 : Tokens) → Starts (token.Keyword w) t0 t1 → (w ≡ keyword.Vocab → ⊥) → (w ≡ keyword.Policy → ⊥) → (w ≡ keyword.Ios → ⊥) → (w ≡ keyword.Iptables → ⊥) → Stops Kind (State.want Due.load) t0 t0 reason.Syntax
no_load w t0 t1 s a b c d = rw s.is (record { stops = λ k. ap (λ (m : Moved). by (on s.line (token.Keyword w) ∷ t1) t1 m) (other_load k w a b c d) })

load_no_word : (k : Behind Kind) (line : ℕ) (t : Token) → is_keyword t ≡ false → step (State.want Due.load k) line t ≡ Moved.stops
load_no_word k line (token.Keyword w) e = absurd (cc e)
load_no_word k line (token.Sign s) e = refl
load_no_word k line (token.Name text) e = refl
load_no_word k line (token.Digits text) e = refl
load_no_word k line (token.Word text) e = refl
load_no_word k line (token.Quoted text) e = refl
load_no_word k line token.Bad e = refl

load_ends : (t0 : Tokens) → NoKeyword t0 → (k : Behind Kind) → outcome strict t0 (State.want Due.load k) ≡ Outcome.refuses t0 reason.Syntax
load_ends [] none k = refl
load_ends (t ∷ ts) none k = ap (λ (m : Moved). by (t ∷ ts) ts m) (load_no_word k t.line t.token none.away)

pub load_none : (t0 : Tokens) → NoKeyword t0 → Stops Kind (State.want Due.load) t0 t0 reason.Syntax
load_none t0 none = record { stops = load_ends t0 none }

pub one_read : (t0 t1 : Tokens) → Starts (token.Keyword keyword.One) t0 t1 → Goes Kind (State.want Due.show) kind.ShowOne t0 t1
one_read t0 t1 e = rw e.is (record { goes = λ k. refl })

pub all_read : (t0 t1 : Tokens) → Starts (token.Keyword keyword.All) t0 t1 → Goes Kind (State.want Due.show) kind.ShowAll t0 t1
all_read t0 t1 e = rw e.is (record { goes = λ k. refl })

pub full_read : (t0 t1 : Tokens) → Starts (token.Keyword keyword.Full) t0 t1 → Goes Kind (State.want Due.show) kind.ShowFull t0 t1
full_read t0 t1 e = rw e.is (record { goes = λ k. refl })

pub realized_read : (t0 t1 : Tokens) → Starts (token.Keyword keyword.Realized) t0 t1 → Goes Kind (State.want Due.show) kind.ShowRealized t0 t1
realized_read t0 t1 e = rw e.is (record { goes = λ k. refl })

pub unrealized_read : (t0 t1 : Tokens) → Starts (token.Keyword keyword.Unrealized) t0 t1 → Goes Kind (State.want Due.show) kind.ShowUnrealized t0 t1
unrealized_read t0 t1 e = rw e.is (record { goes = λ k. refl })

pub bounds_read : (t0 t1 : Tokens) → Starts (token.Keyword keyword.Bounds) t0 t1 → Goes Kind (State.want Due.show) kind.ShowBounds t0 t1
bounds_read t0 t1 e = rw e.is (record { goes = λ k. refl })

pub proof_read : (t0 t1 : Tokens) → Starts (token.Keyword keyword.Proof) t0 t1 → Goes Kind (State.want Due.show) kind.ShowProof t0 t1
proof_read t0 t1 e = rw e.is (record { goes = λ k. refl })

pub first_read : (n : ℕ) (t0 t1 t2 : Tokens) → Starts (token.Keyword keyword.First) t0 t1 → GoesNumber 1 1000000 n t1 t2 → Goes Kind (State.want Due.show) (kind.ShowFirst n) t0 t2
first_read n t0 t1 t2 e h0 = rw e.is (record { goes = λ k. h0.goes refl (λ n. k (kind.ShowFirst n)) })

pub first_stops0 : (t0 t1 tokens : Tokens) (s : Stop) → Starts (token.Keyword keyword.First) t0 t1 → HaltsNumber 1 1000000 t1 tokens s → Halts Kind (State.want Due.show) t0 tokens s
first_stops0 t0 t1 tokens (stop.Refused at why) e h = rw e.is (record { stops = λ k. h.stops refl (λ n. k (kind.ShowFirst n)) })
first_stops0 t0 t1 tokens stop.NoMemory e h = tt

pub up_read : (n : ℕ) (t0 t1 t2 t3 : Tokens) → Starts (token.Keyword keyword.Up) t0 t1 → Goes (Unit {0}) (State.want (Due.word keyword.To)) tt t1 t2 → GoesNumber 1 100 n t2 t3 → Goes Kind (State.want Due.show) (kind.ShowUpTo n) t0 t3
up_read n t0 t1 t2 t3 e h0 h1 = rw e.is (record { goes = λ k. h0.goes (λ _. State.want (Due.number 1 (100) refl) (λ n. k (kind.ShowUpTo n))) ∙ h1.goes refl (λ n. k (kind.ShowUpTo n)) })

pub up_stops0 : (t0 t1 tokens : Tokens) (s : Stop) → Starts (token.Keyword keyword.Up) t0 t1 → Halts (Unit {0}) (State.want (Due.word keyword.To)) t1 tokens s → Halts Kind (State.want Due.show) t0 tokens s
up_stops0 t0 t1 tokens (stop.Refused at why) e h = rw e.is (record { stops = λ k. h.stops (λ _. State.want (Due.number 1 (100) refl) (λ n. k (kind.ShowUpTo n))) })
up_stops0 t0 t1 tokens stop.NoMemory e h = tt

pub up_stops1 : (t0 t1 t2 tokens : Tokens) (s : Stop) → Starts (token.Keyword keyword.Up) t0 t1 → Goes (Unit {0}) (State.want (Due.word keyword.To)) tt t1 t2 → HaltsNumber 1 100 t2 tokens s → Halts Kind (State.want Due.show) t0 tokens s
up_stops1 t0 t1 t2 tokens (stop.Refused at why) e h0 h = rw e.is (record { stops = λ k. h0.goes (λ _. State.want (Due.number 1 (100) refl) (λ n. k (kind.ShowUpTo n))) ∙ h.stops refl (λ n. k (kind.ShowUpTo n)) })
up_stops1 t0 t1 t2 tokens stop.NoMemory e h0 h = tt

other_show : (k : Behind Kind) (w : Keyword) → (w ≡ keyword.One → ⊥) → (w ≡ keyword.First → ⊥) → (w ≡ keyword.All → ⊥) → (w ≡ keyword.Full → ⊥) → (w ≡ keyword.Up → ⊥) → (w ≡ keyword.Realized → ⊥) → (w ≡ keyword.Unrealized → ⊥) → (w ≡ keyword.Bounds → ⊥) → (w ≡ keyword.Proof → ⊥) → Steps.show_word k w ≡ Moved.stops
other_show k keyword.One a b c d e f g h i = absurd (a refl)
other_show k keyword.First a b c d e f g h i = absurd (b refl)
other_show k keyword.All a b c d e f g h i = absurd (c refl)
other_show k keyword.Full a b c d e f g h i = absurd (d refl)
other_show k keyword.Up a b c d e f g h i = absurd (e refl)
other_show k keyword.Realized a b c d e f g h i = absurd (f refl)
other_show k keyword.Unrealized a b c d e f g h i = absurd (g refl)
other_show k keyword.Bounds a b c d e f g h i = absurd (h refl)
other_show k keyword.Proof a b c d e f g h i = absurd (i refl)
other_show k w a b c d e f g h i = refl

pub no_show : (w : Keyword) (t0 t1 : Tokens) → Starts (token.Keyword w) t0 t1 → (w ≡ keyword.One → ⊥) → (w ≡ keyword.First → ⊥) → (w ≡ keyword.All → ⊥) → (w ≡ keyword.Full → ⊥) → (w ≡ keyword.Up → ⊥) → (w ≡ keyword.Realized → ⊥) → (w ≡ keyword.Unrealized → ⊥) → (w ≡ keyword.Bounds → ⊥) → (w ≡ keyword.Proof → ⊥) → Stops Kind (State.want Due.show) t0 t0 reason.Syntax
no_show w t0 t1 s a b c d e f g h i = rw s.is (record { stops = λ k. ap (λ (m : Moved). by (on s.line (token.Keyword w) ∷ t1) t1 m) (other_show k w a b c d e f g h i) })

show_no_word : (k : Behind Kind) (line : ℕ) (t : Token) → is_keyword t ≡ false → step (State.want Due.show k) line t ≡ Moved.stops
show_no_word k line (token.Keyword w) e = absurd (cc e)
show_no_word k line (token.Sign s) e = refl
show_no_word k line (token.Name text) e = refl
show_no_word k line (token.Digits text) e = refl
show_no_word k line (token.Word text) e = refl
show_no_word k line (token.Quoted text) e = refl
show_no_word k line token.Bad e = refl

show_ends : (t0 : Tokens) → NoKeyword t0 → (k : Behind Kind) → outcome strict t0 (State.want Due.show k) ≡ Outcome.refuses t0 reason.Syntax
show_ends [] none k = refl
show_ends (t ∷ ts) none k = ap (λ (m : Moved). by (t ∷ ts) ts m) (show_no_word k t.line t.token none.away)

pub show_none : (t0 : Tokens) → NoKeyword t0 → Stops Kind (State.want Due.show) t0 t0 reason.Syntax
show_none t0 none = record { stops = show_ends t0 none }

pub possible_read : (t0 t1 t2 : Tokens) → Goes (Unit {0}) (State.want (Due.word keyword.Possible)) tt t0 t1 → Goes (Unit {0}) (State.want (Due.sign sign_of.Question)) tt t1 t2 → Goes Kind Steps.possible kind.IsPossible t0 t2
possible_read t0 t1 t2 h0 h1 = record { goes = λ k. h0.goes (λ _. State.want (Due.sign sign_of.Question) (λ _. k kind.IsPossible)) ∙ h1.goes (λ _. k kind.IsPossible) }

pub possible_stops0 : (t0 tokens : Tokens) (s : Stop) → Halts (Unit {0}) (State.want (Due.word keyword.Possible)) t0 tokens s → Halts Kind Steps.possible t0 tokens s
possible_stops0 t0 tokens (stop.Refused at why) h = record { stops = λ k. h.stops (λ _. State.want (Due.sign sign_of.Question) (λ _. k kind.IsPossible)) }
possible_stops0 t0 tokens stop.NoMemory h = tt

pub possible_stops1 : (t0 t1 tokens : Tokens) (s : Stop) → Goes (Unit {0}) (State.want (Due.word keyword.Possible)) tt t0 t1 → Halts (Unit {0}) (State.want (Due.sign sign_of.Question)) t1 tokens s → Halts Kind Steps.possible t0 tokens s
possible_stops1 t0 t1 tokens (stop.Refused at why) h0 h = record { stops = λ k. h0.goes (λ _. State.want (Due.sign sign_of.Question) (λ _. k kind.IsPossible)) ∙ h.stops (λ _. k kind.IsPossible) }
possible_stops1 t0 t1 tokens stop.NoMemory h0 h = tt

pub compare_read : (left : Path) (right : Path) (t0 t1 t2 : Tokens) → Goes Path Steps.path left t0 t1 → Goes Path Steps.path right t1 t2 → Goes Kind Steps.compare (kind.Compare left right) t0 t2
compare_read left right t0 t1 t2 h0 h1 = record { goes = λ k. h0.goes (λ left. Steps.path (λ right. k (kind.Compare left right))) ∙ h1.goes (λ right. k (kind.Compare left right)) }

pub compare_stops0 : (t0 tokens : Tokens) (s : Stop) → Halts Path Steps.path t0 tokens s → Halts Kind Steps.compare t0 tokens s
compare_stops0 t0 tokens (stop.Refused at why) h = record { stops = λ k. h.stops (λ left. Steps.path (λ right. k (kind.Compare left right))) }
compare_stops0 t0 tokens stop.NoMemory h = tt

pub compare_stops1 : (left : Path) (t0 t1 tokens : Tokens) (s : Stop) → Goes Path Steps.path left t0 t1 → Halts Path Steps.path t1 tokens s → Halts Kind Steps.compare t0 tokens s
compare_stops1 left t0 t1 tokens (stop.Refused at why) h0 h = record { stops = λ k. h0.goes (λ left. Steps.path (λ right. k (kind.Compare left right))) ∙ h.stops (λ right. k (kind.Compare left right)) }
compare_stops1 left t0 t1 tokens stop.NoMemory h0 h = tt

-- where no part follows, the end is due
literals_closes : (parts : List Literal) (mid : Tokens) → NoSign sign_of.Comma mid → (k : Behind (List Literal)) → outcome strict mid (State.want (Due.more_literals parts) k) ≡ outcome strict mid (State.want (Due.sign sign_of.Close) (λ _. k parts))
literals_closes parts mid none k = skipped strict (is_sign sign_of.Comma) (State.want (Due.more_literals parts) k) (State.want (Due.sign sign_of.Close) (λ _. k parts)) refl (λ line t e. left_out strict (is_sign sign_of.Comma t) _ _ e) mid none.away

pub literals_begin : (parts : List Literal) (ts : Tokens) → Leads (List Literal) (State.want (Due.more_literals parts)) (State.want (Due.more_literals parts)) ts ts
literals_begin parts ts = record { leads = λ k. refl }

pub literals_more : (before parts : List Literal) (part : Literal) (ts mid t0 t1 : Tokens) → Leads (List Literal) (State.want (Due.more_literals before)) (State.want (Due.more_literals parts)) ts mid → Starts (token.Sign sign_of.Comma) mid t0 → Goes Literal (State.want Due.literal) part t0 t1 → Leads (List Literal) (State.want (Due.more_literals before)) (State.want (Due.more_literals (parts ++ part ∷ []))) ts t1
literals_more before parts part ts mid t0 t1 l e h0 = record { leads = λ k. l.leads k ∙ ap (λ (x : Tokens). outcome strict x (State.want (Due.more_literals parts) k)) e.is ∙ h0.goes (λ part. State.want (Due.more_literals (parts ++ part ∷ [])) k) }

pub literals_stop0 : (before parts : List Literal) (ts mid t0 tokens : Tokens) (s : Stop) → Leads (List Literal) (State.want (Due.more_literals before)) (State.want (Due.more_literals parts)) ts mid → Starts (token.Sign sign_of.Comma) mid t0 → Halts Literal (State.want Due.literal) t0 tokens s → Halts (List Literal) (State.want (Due.more_literals before)) ts tokens s
literals_stop0 before parts ts mid t0 tokens (stop.Refused at why) l e h = record { stops = λ k. l.leads k ∙ ap (λ (x : Tokens). outcome strict x (State.want (Due.more_literals parts) k)) e.is ∙ h.stops (λ part. State.want (Due.more_literals (parts ++ part ∷ [])) k) }
literals_stop0 before parts ts mid t0 tokens stop.NoMemory l e h = tt

pub literals_end : (before parts : List Literal) (ts mid rest : Tokens) → Leads (List Literal) (State.want (Due.more_literals before)) (State.want (Due.more_literals parts)) ts mid → Goes (Unit {0}) (State.want (Due.sign sign_of.Close)) tt mid rest → NoSign sign_of.Comma mid → Goes (List Literal) (State.want (Due.more_literals before)) parts ts rest
literals_end before parts ts mid rest l e none = record { goes = λ k. l.leads k ∙ literals_closes parts mid none k ∙ e.goes (λ _. k parts) }

pub literals_unended : (before parts : List Literal) (ts mid tokens : Tokens) (s : Stop) → Leads (List Literal) (State.want (Due.more_literals before)) (State.want (Due.more_literals parts)) ts mid → Halts (Unit {0}) (State.want (Due.sign sign_of.Close)) mid tokens s → NoSign sign_of.Comma mid → Halts (List Literal) (State.want (Due.more_literals before)) ts tokens s
literals_unended before parts ts mid tokens (stop.Refused at why) l h none = record { stops = λ k. l.leads k ∙ literals_closes parts mid none k ∙ h.stops (λ _. k parts) }
literals_unended before parts ts mid tokens stop.NoMemory l h none = tt

pub decide_read : (list : Path) (first : Literal) (packet : List Literal) (t0 t1 t2 t3 t4 : Tokens) → Goes Path Steps.path list t0 t1 → Goes (Unit {0}) (State.want (Due.sign sign_of.Open)) tt t1 t2 → Goes Literal (State.want Due.literal) first t2 t3 → Goes (List Literal) (State.want (Due.more_literals (first ∷ []))) packet t3 t4 → Goes Kind Steps.decide (kind.Decide list packet) t0 t4
decide_read list first packet t0 t1 t2 t3 t4 h0 h1 h2 h3 = record { goes = λ k. h0.goes (λ list. State.want (Due.sign sign_of.Open) (λ _. State.want Due.literal (λ first. State.want (Due.more_literals (first ∷ [])) (λ packet. k (kind.Decide list packet))))) ∙ h1.goes (λ _. State.want Due.literal (λ first. State.want (Due.more_literals (first ∷ [])) (λ packet. k (kind.Decide list packet)))) ∙ h2.goes (λ first. State.want (Due.more_literals (first ∷ [])) (λ packet. k (kind.Decide list packet))) ∙ h3.goes (λ packet. k (kind.Decide list packet)) }

pub decide_stops0 : (t0 tokens : Tokens) (s : Stop) → Halts Path Steps.path t0 tokens s → Halts Kind Steps.decide t0 tokens s
decide_stops0 t0 tokens (stop.Refused at why) h = record { stops = λ k. h.stops (λ list. State.want (Due.sign sign_of.Open) (λ _. State.want Due.literal (λ first. State.want (Due.more_literals (first ∷ [])) (λ packet. k (kind.Decide list packet))))) }
decide_stops0 t0 tokens stop.NoMemory h = tt

pub decide_stops1 : (list : Path) (t0 t1 tokens : Tokens) (s : Stop) → Goes Path Steps.path list t0 t1 → Halts (Unit {0}) (State.want (Due.sign sign_of.Open)) t1 tokens s → Halts Kind Steps.decide t0 tokens s
decide_stops1 list t0 t1 tokens (stop.Refused at why) h0 h = record { stops = λ k. h0.goes (λ list. State.want (Due.sign sign_of.Open) (λ _. State.want Due.literal (λ first. State.want (Due.more_literals (first ∷ [])) (λ packet. k (kind.Decide list packet))))) ∙ h.stops (λ _. State.want Due.literal (λ first. State.want (Due.more_literals (first ∷ [])) (λ packet. k (kind.Decide list packet)))) }
decide_stops1 list t0 t1 tokens stop.NoMemory h0 h = tt

pub decide_stops2 : (list : Path) (t0 t1 t2 tokens : Tokens) (s : Stop) → Goes Path Steps.path list t0 t1 → Goes (Unit {0}) (State.want (Due.sign sign_of.Open)) tt t1 t2 → Halts Literal (State.want Due.literal) t2 tokens s → Halts Kind Steps.decide t0 tokens s
decide_stops2 list t0 t1 t2 tokens (stop.Refused at why) h0 h1 h = record { stops = λ k. h0.goes (λ list. State.want (Due.sign sign_of.Open) (λ _. State.want Due.literal (λ first. State.want (Due.more_literals (first ∷ [])) (λ packet. k (kind.Decide list packet))))) ∙ h1.goes (λ _. State.want Due.literal (λ first. State.want (Due.more_literals (first ∷ [])) (λ packet. k (kind.Decide list packet)))) ∙ h.stops (λ first. State.want (Due.more_literals (first ∷ [])) (λ packet. k (kind.Decide list packet))) }
decide_stops2 list t0 t1 t2 tokens stop.NoMemory h0 h1 h = tt

pub decide_stops3 : (list : Path) (first : Literal) (t0 t1 t2 t3 tokens : Tokens) (s : Stop) → Goes Path Steps.path list t0 t1 → Goes (Unit {0}) (State.want (Due.sign sign_of.Open)) tt t1 t2 → Goes Literal (State.want Due.literal) first t2 t3 → Halts (List Literal) (State.want (Due.more_literals (first ∷ []))) t3 tokens s → Halts Kind Steps.decide t0 tokens s
decide_stops3 list first t0 t1 t2 t3 tokens (stop.Refused at why) h0 h1 h2 h = record { stops = λ k. h0.goes (λ list. State.want (Due.sign sign_of.Open) (λ _. State.want Due.literal (λ first. State.want (Due.more_literals (first ∷ [])) (λ packet. k (kind.Decide list packet))))) ∙ h1.goes (λ _. State.want Due.literal (λ first. State.want (Due.more_literals (first ∷ [])) (λ packet. k (kind.Decide list packet)))) ∙ h2.goes (λ first. State.want (Due.more_literals (first ∷ [])) (λ packet. k (kind.Decide list packet))) ∙ h.stops (λ packet. k (kind.Decide list packet)) }
decide_stops3 list first t0 t1 t2 t3 tokens stop.NoMemory h0 h1 h2 h = tt

pub generate_read : (n : ℕ) (seed : ℕ) (text : List ℕ) (t0 t1 t2 t3 t4 : Tokens) → GoesNumber 1 5000 n t0 t1 → GoesNumber 0 2147483647 seed t1 t2 → Goes (Unit {0}) (State.want (Due.word keyword.As)) tt t2 t3 → Goes (List ℕ) (State.want Due.name) text t3 t4 → Goes Kind Steps.generate (kind.Generate n seed text) t0 t4
generate_read n seed text t0 t1 t2 t3 t4 h0 h1 h2 h3 = record { goes = λ k. h0.goes refl (λ n. State.want (Due.number 0 (2147483647) refl) (λ seed. State.want (Due.word keyword.As) (λ _. State.want Due.name (λ text. k (kind.Generate n seed text))))) ∙ h1.goes refl (λ seed. State.want (Due.word keyword.As) (λ _. State.want Due.name (λ text. k (kind.Generate n seed text)))) ∙ h2.goes (λ _. State.want Due.name (λ text. k (kind.Generate n seed text))) ∙ h3.goes (λ text. k (kind.Generate n seed text)) }

pub generate_stops0 : (t0 tokens : Tokens) (s : Stop) → HaltsNumber 1 5000 t0 tokens s → Halts Kind Steps.generate t0 tokens s
generate_stops0 t0 tokens (stop.Refused at why) h = record { stops = λ k. h.stops refl (λ n. State.want (Due.number 0 (2147483647) refl) (λ seed. State.want (Due.word keyword.As) (λ _. State.want Due.name (λ text. k (kind.Generate n seed text))))) }
generate_stops0 t0 tokens stop.NoMemory h = tt

pub generate_stops1 : (n : ℕ) (t0 t1 tokens : Tokens) (s : Stop) → GoesNumber 1 5000 n t0 t1 → HaltsNumber 0 2147483647 t1 tokens s → Halts Kind Steps.generate t0 tokens s
generate_stops1 n t0 t1 tokens (stop.Refused at why) h0 h = record { stops = λ k. h0.goes refl (λ n. State.want (Due.number 0 (2147483647) refl) (λ seed. State.want (Due.word keyword.As) (λ _. State.want Due.name (λ text. k (kind.Generate n seed text))))) ∙ h.stops refl (λ seed. State.want (Due.word keyword.As) (λ _. State.want Due.name (λ text. k (kind.Generate n seed text)))) }
generate_stops1 n t0 t1 tokens stop.NoMemory h0 h = tt

pub generate_stops2 : (n : ℕ) (seed : ℕ) (t0 t1 t2 tokens : Tokens) (s : Stop) → GoesNumber 1 5000 n t0 t1 → GoesNumber 0 2147483647 seed t1 t2 → Halts (Unit {0}) (State.want (Due.word keyword.As)) t2 tokens s → Halts Kind Steps.generate t0 tokens s
generate_stops2 n seed t0 t1 t2 tokens (stop.Refused at why) h0 h1 h = record { stops = λ k. h0.goes refl (λ n. State.want (Due.number 0 (2147483647) refl) (λ seed. State.want (Due.word keyword.As) (λ _. State.want Due.name (λ text. k (kind.Generate n seed text))))) ∙ h1.goes refl (λ seed. State.want (Due.word keyword.As) (λ _. State.want Due.name (λ text. k (kind.Generate n seed text)))) ∙ h.stops (λ _. State.want Due.name (λ text. k (kind.Generate n seed text))) }
generate_stops2 n seed t0 t1 t2 tokens stop.NoMemory h0 h1 h = tt

pub generate_stops3 : (n : ℕ) (seed : ℕ) (t0 t1 t2 t3 tokens : Tokens) (s : Stop) → GoesNumber 1 5000 n t0 t1 → GoesNumber 0 2147483647 seed t1 t2 → Goes (Unit {0}) (State.want (Due.word keyword.As)) tt t2 t3 → Halts (List ℕ) (State.want Due.name) t3 tokens s → Halts Kind Steps.generate t0 tokens s
generate_stops3 n seed t0 t1 t2 t3 tokens (stop.Refused at why) h0 h1 h2 h = record { stops = λ k. h0.goes refl (λ n. State.want (Due.number 0 (2147483647) refl) (λ seed. State.want (Due.word keyword.As) (λ _. State.want Due.name (λ text. k (kind.Generate n seed text))))) ∙ h1.goes refl (λ seed. State.want (Due.word keyword.As) (λ _. State.want Due.name (λ text. k (kind.Generate n seed text)))) ∙ h2.goes (λ _. State.want Due.name (λ text. k (kind.Generate n seed text))) ∙ h.stops (λ text. k (kind.Generate n seed text)) }
generate_stops3 n seed t0 t1 t2 t3 tokens stop.NoMemory h0 h1 h2 h = tt

pub end_read : (router : List ℕ) (interface : List ℕ) (t0 t1 t2 : Tokens) → Goes (List ℕ) (State.want Due.name) router t0 t1 → Goes (List ℕ) (State.want Due.quoted) interface t1 t2 → Goes (List ℕ × List ℕ) Steps.interface (router, interface) t0 t2
end_read router interface t0 t1 t2 h0 h1 = record { goes = λ k. h0.goes (λ router. State.want Due.quoted (λ interface. k (router, interface))) ∙ h1.goes (λ interface. k (router, interface)) }

pub end_stops0 : (t0 tokens : Tokens) (s : Stop) → Halts (List ℕ) (State.want Due.name) t0 tokens s → Halts (List ℕ × List ℕ) Steps.interface t0 tokens s
end_stops0 t0 tokens (stop.Refused at why) h = record { stops = λ k. h.stops (λ router. State.want Due.quoted (λ interface. k (router, interface))) }
end_stops0 t0 tokens stop.NoMemory h = tt

pub end_stops1 : (router : List ℕ) (t0 t1 tokens : Tokens) (s : Stop) → Goes (List ℕ) (State.want Due.name) router t0 t1 → Halts (List ℕ) (State.want Due.quoted) t1 tokens s → Halts (List ℕ × List ℕ) Steps.interface t0 tokens s
end_stops1 router t0 t1 tokens (stop.Refused at why) h0 h = record { stops = λ k. h0.goes (λ router. State.want Due.quoted (λ interface. k (router, interface))) ∙ h.stops (λ interface. k (router, interface)) }
end_stops1 router t0 t1 tokens stop.NoMemory h0 h = tt

pub ends_read : (from : List ℕ × List ℕ) (to : List ℕ × List ℕ) (t0 t1 t2 t3 : Tokens) → Goes (List ℕ × List ℕ) Steps.interface from t0 t1 → Goes (Unit {0}) (State.want (Due.word keyword.To)) tt t1 t2 → Goes (List ℕ × List ℕ) Steps.interface to t2 t3 → Goes ((List ℕ × List ℕ) × (List ℕ × List ℕ)) Steps.both_ends (from, to) t0 t3
ends_read from to t0 t1 t2 t3 h0 h1 h2 = record { goes = λ k. h0.goes (λ from. State.want (Due.word keyword.To) (λ _. Steps.interface (λ to. k (from, to)))) ∙ h1.goes (λ _. Steps.interface (λ to. k (from, to))) ∙ h2.goes (λ to. k (from, to)) }

pub ends_stops0 : (t0 tokens : Tokens) (s : Stop) → Halts (List ℕ × List ℕ) Steps.interface t0 tokens s → Halts ((List ℕ × List ℕ) × (List ℕ × List ℕ)) Steps.both_ends t0 tokens s
ends_stops0 t0 tokens (stop.Refused at why) h = record { stops = λ k. h.stops (λ from. State.want (Due.word keyword.To) (λ _. Steps.interface (λ to. k (from, to)))) }
ends_stops0 t0 tokens stop.NoMemory h = tt

pub ends_stops1 : (from : List ℕ × List ℕ) (t0 t1 tokens : Tokens) (s : Stop) → Goes (List ℕ × List ℕ) Steps.interface from t0 t1 → Halts (Unit {0}) (State.want (Due.word keyword.To)) t1 tokens s → Halts ((List ℕ × List ℕ) × (List ℕ × List ℕ)) Steps.both_ends t0 tokens s
ends_stops1 from t0 t1 tokens (stop.Refused at why) h0 h = record { stops = λ k. h0.goes (λ from. State.want (Due.word keyword.To) (λ _. Steps.interface (λ to. k (from, to)))) ∙ h.stops (λ _. Steps.interface (λ to. k (from, to))) }
ends_stops1 from t0 t1 tokens stop.NoMemory h0 h = tt

pub ends_stops2 : (from : List ℕ × List ℕ) (t0 t1 t2 tokens : Tokens) (s : Stop) → Goes (List ℕ × List ℕ) Steps.interface from t0 t1 → Goes (Unit {0}) (State.want (Due.word keyword.To)) tt t1 t2 → Halts (List ℕ × List ℕ) Steps.interface t2 tokens s → Halts ((List ℕ × List ℕ) × (List ℕ × List ℕ)) Steps.both_ends t0 tokens s
ends_stops2 from t0 t1 t2 tokens (stop.Refused at why) h0 h1 h = record { stops = λ k. h0.goes (λ from. State.want (Due.word keyword.To) (λ _. Steps.interface (λ to. k (from, to)))) ∙ h1.goes (λ _. Steps.interface (λ to. k (from, to))) ∙ h.stops (λ to. k (from, to)) }
ends_stops2 from t0 t1 t2 tokens stop.NoMemory h0 h1 h = tt

pub link_read : (both : (List ℕ × List ℕ) × (List ℕ × List ℕ)) (t0 t1 : Tokens) → Goes ((List ℕ × List ℕ) × (List ℕ × List ℕ)) Steps.both_ends both t0 t1 → Goes Kind Steps.link (kind.Link both.0.0 both.0.1 both.1.0 both.1.1) t0 t1
link_read both t0 t1 h0 = record { goes = λ k. h0.goes (λ both. k (kind.Link both.0.0 both.0.1 both.1.0 both.1.1)) }

pub link_stops0 : (t0 tokens : Tokens) (s : Stop) → Halts ((List ℕ × List ℕ) × (List ℕ × List ℕ)) Steps.both_ends t0 tokens s → Halts Kind Steps.link t0 tokens s
link_stops0 t0 tokens (stop.Refused at why) h = record { stops = λ k. h.stops (λ both. k (kind.Link both.0.0 both.0.1 both.1.0 both.1.1)) }
link_stops0 t0 tokens stop.NoMemory h = tt

pub paths_read : (both : (List ℕ × List ℕ) × (List ℕ × List ℕ)) (within : ℕ) (t0 t1 t2 t3 : Tokens) → Goes ((List ℕ × List ℕ) × (List ℕ × List ℕ)) Steps.both_ends both t0 t1 → Goes (Unit {0}) (State.want (Due.word keyword.Within)) tt t1 t2 → GoesNumber 1 8 within t2 t3 → Goes Kind Steps.paths (kind.Paths both.0.0 both.0.1 both.1.0 both.1.1 within) t0 t3
paths_read both within t0 t1 t2 t3 h0 h1 h2 = record { goes = λ k. h0.goes (λ both. State.want (Due.word keyword.Within) (λ _. State.want (Due.number 1 (8) refl) (λ within. k (kind.Paths both.0.0 both.0.1 both.1.0 both.1.1 within)))) ∙ h1.goes (λ _. State.want (Due.number 1 (8) refl) (λ within. k (kind.Paths both.0.0 both.0.1 both.1.0 both.1.1 within))) ∙ h2.goes refl (λ within. k (kind.Paths both.0.0 both.0.1 both.1.0 both.1.1 within)) }

pub paths_stops0 : (t0 tokens : Tokens) (s : Stop) → Halts ((List ℕ × List ℕ) × (List ℕ × List ℕ)) Steps.both_ends t0 tokens s → Halts Kind Steps.paths t0 tokens s
paths_stops0 t0 tokens (stop.Refused at why) h = record { stops = λ k. h.stops (λ both. State.want (Due.word keyword.Within) (λ _. State.want (Due.number 1 (8) refl) (λ within. k (kind.Paths both.0.0 both.0.1 both.1.0 both.1.1 within)))) }
paths_stops0 t0 tokens stop.NoMemory h = tt

pub paths_stops1 : (both : (List ℕ × List ℕ) × (List ℕ × List ℕ)) (t0 t1 tokens : Tokens) (s : Stop) → Goes ((List ℕ × List ℕ) × (List ℕ × List ℕ)) Steps.both_ends both t0 t1 → Halts (Unit {0}) (State.want (Due.word keyword.Within)) t1 tokens s → Halts Kind Steps.paths t0 tokens s
paths_stops1 both t0 t1 tokens (stop.Refused at why) h0 h = record { stops = λ k. h0.goes (λ both. State.want (Due.word keyword.Within) (λ _. State.want (Due.number 1 (8) refl) (λ within. k (kind.Paths both.0.0 both.0.1 both.1.0 both.1.1 within)))) ∙ h.stops (λ _. State.want (Due.number 1 (8) refl) (λ within. k (kind.Paths both.0.0 both.0.1 both.1.0 both.1.1 within))) }
paths_stops1 both t0 t1 tokens stop.NoMemory h0 h = tt

pub paths_stops2 : (both : (List ℕ × List ℕ) × (List ℕ × List ℕ)) (t0 t1 t2 tokens : Tokens) (s : Stop) → Goes ((List ℕ × List ℕ) × (List ℕ × List ℕ)) Steps.both_ends both t0 t1 → Goes (Unit {0}) (State.want (Due.word keyword.Within)) tt t1 t2 → HaltsNumber 1 8 t2 tokens s → Halts Kind Steps.paths t0 tokens s
paths_stops2 both t0 t1 t2 tokens (stop.Refused at why) h0 h1 h = record { stops = λ k. h0.goes (λ both. State.want (Due.word keyword.Within) (λ _. State.want (Due.number 1 (8) refl) (λ within. k (kind.Paths both.0.0 both.0.1 both.1.0 both.1.1 within)))) ∙ h1.goes (λ _. State.want (Due.number 1 (8) refl) (λ within. k (kind.Paths both.0.0 both.0.1 both.1.0 both.1.1 within))) ∙ h.stops refl (λ within. k (kind.Paths both.0.0 both.0.1 both.1.0 both.1.1 within)) }
paths_stops2 both t0 t1 t2 tokens stop.NoMemory h0 h1 h = tt

pub audit_read : (list : Path) (t0 t1 : Tokens) → Goes Path Steps.path list t0 t1 → Goes Kind Steps.audit (kind.Audit list) t0 t1
audit_read list t0 t1 h0 = record { goes = λ k. h0.goes (λ list. k (kind.Audit list)) }

pub audit_stops0 : (t0 tokens : Tokens) (s : Stop) → Halts Path Steps.path t0 tokens s → Halts Kind Steps.audit t0 tokens s
audit_stops0 t0 tokens (stop.Refused at why) h = record { stops = λ k. h.stops (λ list. k (kind.Audit list)) }
audit_stops0 t0 tokens stop.NoMemory h = tt

pub field_read : (field : List ℕ) (test : NumberTest) (t0 t1 t2 t3 : Tokens) → Goes (List ℕ) (State.want Due.name) field t0 t1 → Goes (Unit {0}) (State.want (Due.word keyword.In)) tt t1 t2 → Goes NumberTest Steps.number_test test t2 t3 → Goes NamedTest Steps.field_test (field_tested field test) t0 t3
field_read field test t0 t1 t2 t3 h0 h1 h2 = record { goes = λ k. h0.goes (λ field. State.want (Due.word keyword.In) (λ _. Steps.number_test (λ test. k (field_tested field test)))) ∙ h1.goes (λ _. Steps.number_test (λ test. k (field_tested field test))) ∙ h2.goes (λ test. k (field_tested field test)) }

pub field_stops0 : (t0 tokens : Tokens) (s : Stop) → Halts (List ℕ) (State.want Due.name) t0 tokens s → Halts NamedTest Steps.field_test t0 tokens s
field_stops0 t0 tokens (stop.Refused at why) h = record { stops = λ k. h.stops (λ field. State.want (Due.word keyword.In) (λ _. Steps.number_test (λ test. k (field_tested field test)))) }
field_stops0 t0 tokens stop.NoMemory h = tt

pub field_stops1 : (field : List ℕ) (t0 t1 tokens : Tokens) (s : Stop) → Goes (List ℕ) (State.want Due.name) field t0 t1 → Halts (Unit {0}) (State.want (Due.word keyword.In)) t1 tokens s → Halts NamedTest Steps.field_test t0 tokens s
field_stops1 field t0 t1 tokens (stop.Refused at why) h0 h = record { stops = λ k. h0.goes (λ field. State.want (Due.word keyword.In) (λ _. Steps.number_test (λ test. k (field_tested field test)))) ∙ h.stops (λ _. Steps.number_test (λ test. k (field_tested field test))) }
field_stops1 field t0 t1 tokens stop.NoMemory h0 h = tt

pub field_stops2 : (field : List ℕ) (t0 t1 t2 tokens : Tokens) (s : Stop) → Goes (List ℕ) (State.want Due.name) field t0 t1 → Goes (Unit {0}) (State.want (Due.word keyword.In)) tt t1 t2 → Halts NumberTest Steps.number_test t2 tokens s → Halts NamedTest Steps.field_test t0 tokens s
field_stops2 field t0 t1 t2 tokens (stop.Refused at why) h0 h1 h = record { stops = λ k. h0.goes (λ field. State.want (Due.word keyword.In) (λ _. Steps.number_test (λ test. k (field_tested field test)))) ∙ h1.goes (λ _. Steps.number_test (λ test. k (field_tested field test))) ∙ h.stops (λ test. k (field_tested field test)) }
field_stops2 field t0 t1 t2 tokens stop.NoMemory h0 h1 h = tt

pub tests_begin : (parts : List NamedTest) (ts : Tokens) → Leads (List NamedTest) (State.want (Due.more_tests parts)) (State.want (Due.more_tests parts)) ts ts
tests_begin parts ts = record { leads = λ k. refl }

pub tests_more : (before parts : List NamedTest) (part : NamedTest) (ts mid t0 t1 : Tokens) → Leads (List NamedTest) (State.want (Due.more_tests before)) (State.want (Due.more_tests parts)) ts mid → Starts (token.Sign sign_of.Comma) mid t0 → Goes NamedTest Steps.field_test part t0 t1 → Leads (List NamedTest) (State.want (Due.more_tests before)) (State.want (Due.more_tests (parts ++ part ∷ []))) ts t1
tests_more before parts part ts mid t0 t1 l e h0 = record { leads = λ k. l.leads k ∙ ap (λ (x : Tokens). outcome strict x (State.want (Due.more_tests parts) k)) e.is ∙ h0.goes (λ part. State.want (Due.more_tests (parts ++ part ∷ [])) k) }

pub tests_stop0 : (before parts : List NamedTest) (ts mid t0 tokens : Tokens) (s : Stop) → Leads (List NamedTest) (State.want (Due.more_tests before)) (State.want (Due.more_tests parts)) ts mid → Starts (token.Sign sign_of.Comma) mid t0 → Halts NamedTest Steps.field_test t0 tokens s → Halts (List NamedTest) (State.want (Due.more_tests before)) ts tokens s
tests_stop0 before parts ts mid t0 tokens (stop.Refused at why) l e h = record { stops = λ k. l.leads k ∙ ap (λ (x : Tokens). outcome strict x (State.want (Due.more_tests parts) k)) e.is ∙ h.stops (λ part. State.want (Due.more_tests (parts ++ part ∷ [])) k) }
tests_stop0 before parts ts mid t0 tokens stop.NoMemory l e h = tt

pub tests_done : (before parts : List NamedTest) (ts rest : Tokens) → Leads (List NamedTest) (State.want (Due.more_tests before)) (State.want (Due.more_tests parts)) ts rest → NoSign sign_of.Comma rest → Goes (List NamedTest) (State.want (Due.more_tests before)) parts ts rest
tests_done before parts ts rest l none = record { goes = λ k. l.leads k ∙ skipped strict (is_sign sign_of.Comma) (State.want (Due.more_tests parts) k) (k parts) refl (λ line t e. left_out strict (is_sign sign_of.Comma t) _ _ e) rest none.away }

pub core_read : (list : Path) (verdict : List ℕ) (first : NamedTest) (tests : List NamedTest) (t0 t1 t2 t3 t4 t5 t6 : Tokens) → Goes Path Steps.path list t0 t1 → Goes (Unit {0}) (State.want (Due.sign sign_of.Colon)) tt t1 t2 → Goes (List ℕ) (State.want Due.name) verdict t2 t3 → Goes (Unit {0}) (State.want (Due.word keyword.Where)) tt t3 t4 → Goes NamedTest Steps.field_test first t4 t5 → Goes (List NamedTest) (State.want (Due.more_tests (first ∷ []))) tests t5 t6 → Goes Kind Steps.core (kind.Core list verdict tests) t0 t6
core_read list verdict first tests t0 t1 t2 t3 t4 t5 t6 h0 h1 h2 h3 h4 h5 = record { goes = λ k. h0.goes (λ list. State.want (Due.sign sign_of.Colon) (λ _. State.want Due.name (λ verdict. State.want (Due.word keyword.Where) (λ _. Steps.field_test (λ first. State.want (Due.more_tests (first ∷ [])) (λ tests. k (kind.Core list verdict tests))))))) ∙ h1.goes (λ _. State.want Due.name (λ verdict. State.want (Due.word keyword.Where) (λ _. Steps.field_test (λ first. State.want (Due.more_tests (first ∷ [])) (λ tests. k (kind.Core list verdict tests)))))) ∙ h2.goes (λ verdict. State.want (Due.word keyword.Where) (λ _. Steps.field_test (λ first. State.want (Due.more_tests (first ∷ [])) (λ tests. k (kind.Core list verdict tests))))) ∙ h3.goes (λ _. Steps.field_test (λ first. State.want (Due.more_tests (first ∷ [])) (λ tests. k (kind.Core list verdict tests)))) ∙ h4.goes (λ first. State.want (Due.more_tests (first ∷ [])) (λ tests. k (kind.Core list verdict tests))) ∙ h5.goes (λ tests. k (kind.Core list verdict tests)) }

pub core_stops0 : (t0 tokens : Tokens) (s : Stop) → Halts Path Steps.path t0 tokens s → Halts Kind Steps.core t0 tokens s
core_stops0 t0 tokens (stop.Refused at why) h = record { stops = λ k. h.stops (λ list. State.want (Due.sign sign_of.Colon) (λ _. State.want Due.name (λ verdict. State.want (Due.word keyword.Where) (λ _. Steps.field_test (λ first. State.want (Due.more_tests (first ∷ [])) (λ tests. k (kind.Core list verdict tests))))))) }
core_stops0 t0 tokens stop.NoMemory h = tt

pub core_stops1 : (list : Path) (t0 t1 tokens : Tokens) (s : Stop) → Goes Path Steps.path list t0 t1 → Halts (Unit {0}) (State.want (Due.sign sign_of.Colon)) t1 tokens s → Halts Kind Steps.core t0 tokens s
core_stops1 list t0 t1 tokens (stop.Refused at why) h0 h = record { stops = λ k. h0.goes (λ list. State.want (Due.sign sign_of.Colon) (λ _. State.want Due.name (λ verdict. State.want (Due.word keyword.Where) (λ _. Steps.field_test (λ first. State.want (Due.more_tests (first ∷ [])) (λ tests. k (kind.Core list verdict tests))))))) ∙ h.stops (λ _. State.want Due.name (λ verdict. State.want (Due.word keyword.Where) (λ _. Steps.field_test (λ first. State.want (Due.more_tests (first ∷ [])) (λ tests. k (kind.Core list verdict tests)))))) }
core_stops1 list t0 t1 tokens stop.NoMemory h0 h = tt

pub core_stops2 : (list : Path) (t0 t1 t2 tokens : Tokens) (s : Stop) → Goes Path Steps.path list t0 t1 → Goes (Unit {0}) (State.want (Due.sign sign_of.Colon)) tt t1 t2 → Halts (List ℕ) (State.want Due.name) t2 tokens s → Halts Kind Steps.core t0 tokens s
core_stops2 list t0 t1 t2 tokens (stop.Refused at why) h0 h1 h = record { stops = λ k. h0.goes (λ list. State.want (Due.sign sign_of.Colon) (λ _. State.want Due.name (λ verdict. State.want (Due.word keyword.Where) (λ _. Steps.field_test (λ first. State.want (Due.more_tests (first ∷ [])) (λ tests. k (kind.Core list verdict tests))))))) ∙ h1.goes (λ _. State.want Due.name (λ verdict. State.want (Due.word keyword.Where) (λ _. Steps.field_test (λ first. State.want (Due.more_tests (first ∷ [])) (λ tests. k (kind.Core list verdict tests)))))) ∙ h.stops (λ verdict. State.want (Due.word keyword.Where) (λ _. Steps.field_test (λ first. State.want (Due.more_tests (first ∷ [])) (λ tests. k (kind.Core list verdict tests))))) }
core_stops2 list t0 t1 t2 tokens stop.NoMemory h0 h1 h = tt

pub core_stops3 : (list : Path) (verdict : List ℕ) (t0 t1 t2 t3 tokens : Tokens) (s : Stop) → Goes Path Steps.path list t0 t1 → Goes (Unit {0}) (State.want (Due.sign sign_of.Colon)) tt t1 t2 → Goes (List ℕ) (State.want Due.name) verdict t2 t3 → Halts (Unit {0}) (State.want (Due.word keyword.Where)) t3 tokens s → Halts Kind Steps.core t0 tokens s
core_stops3 list verdict t0 t1 t2 t3 tokens (stop.Refused at why) h0 h1 h2 h = record { stops = λ k. h0.goes (λ list. State.want (Due.sign sign_of.Colon) (λ _. State.want Due.name (λ verdict. State.want (Due.word keyword.Where) (λ _. Steps.field_test (λ first. State.want (Due.more_tests (first ∷ [])) (λ tests. k (kind.Core list verdict tests))))))) ∙ h1.goes (λ _. State.want Due.name (λ verdict. State.want (Due.word keyword.Where) (λ _. Steps.field_test (λ first. State.want (Due.more_tests (first ∷ [])) (λ tests. k (kind.Core list verdict tests)))))) ∙ h2.goes (λ verdict. State.want (Due.word keyword.Where) (λ _. Steps.field_test (λ first. State.want (Due.more_tests (first ∷ [])) (λ tests. k (kind.Core list verdict tests))))) ∙ h.stops (λ _. Steps.field_test (λ first. State.want (Due.more_tests (first ∷ [])) (λ tests. k (kind.Core list verdict tests)))) }
core_stops3 list verdict t0 t1 t2 t3 tokens stop.NoMemory h0 h1 h2 h = tt

pub core_stops4 : (list : Path) (verdict : List ℕ) (t0 t1 t2 t3 t4 tokens : Tokens) (s : Stop) → Goes Path Steps.path list t0 t1 → Goes (Unit {0}) (State.want (Due.sign sign_of.Colon)) tt t1 t2 → Goes (List ℕ) (State.want Due.name) verdict t2 t3 → Goes (Unit {0}) (State.want (Due.word keyword.Where)) tt t3 t4 → Halts NamedTest Steps.field_test t4 tokens s → Halts Kind Steps.core t0 tokens s
core_stops4 list verdict t0 t1 t2 t3 t4 tokens (stop.Refused at why) h0 h1 h2 h3 h = record { stops = λ k. h0.goes (λ list. State.want (Due.sign sign_of.Colon) (λ _. State.want Due.name (λ verdict. State.want (Due.word keyword.Where) (λ _. Steps.field_test (λ first. State.want (Due.more_tests (first ∷ [])) (λ tests. k (kind.Core list verdict tests))))))) ∙ h1.goes (λ _. State.want Due.name (λ verdict. State.want (Due.word keyword.Where) (λ _. Steps.field_test (λ first. State.want (Due.more_tests (first ∷ [])) (λ tests. k (kind.Core list verdict tests)))))) ∙ h2.goes (λ verdict. State.want (Due.word keyword.Where) (λ _. Steps.field_test (λ first. State.want (Due.more_tests (first ∷ [])) (λ tests. k (kind.Core list verdict tests))))) ∙ h3.goes (λ _. Steps.field_test (λ first. State.want (Due.more_tests (first ∷ [])) (λ tests. k (kind.Core list verdict tests)))) ∙ h.stops (λ first. State.want (Due.more_tests (first ∷ [])) (λ tests. k (kind.Core list verdict tests))) }
core_stops4 list verdict t0 t1 t2 t3 t4 tokens stop.NoMemory h0 h1 h2 h3 h = tt

pub core_stops5 : (list : Path) (verdict : List ℕ) (first : NamedTest) (t0 t1 t2 t3 t4 t5 tokens : Tokens) (s : Stop) → Goes Path Steps.path list t0 t1 → Goes (Unit {0}) (State.want (Due.sign sign_of.Colon)) tt t1 t2 → Goes (List ℕ) (State.want Due.name) verdict t2 t3 → Goes (Unit {0}) (State.want (Due.word keyword.Where)) tt t3 t4 → Goes NamedTest Steps.field_test first t4 t5 → Halts (List NamedTest) (State.want (Due.more_tests (first ∷ []))) t5 tokens s → Halts Kind Steps.core t0 tokens s
core_stops5 list verdict first t0 t1 t2 t3 t4 t5 tokens (stop.Refused at why) h0 h1 h2 h3 h4 h = record { stops = λ k. h0.goes (λ list. State.want (Due.sign sign_of.Colon) (λ _. State.want Due.name (λ verdict. State.want (Due.word keyword.Where) (λ _. Steps.field_test (λ first. State.want (Due.more_tests (first ∷ [])) (λ tests. k (kind.Core list verdict tests))))))) ∙ h1.goes (λ _. State.want Due.name (λ verdict. State.want (Due.word keyword.Where) (λ _. Steps.field_test (λ first. State.want (Due.more_tests (first ∷ [])) (λ tests. k (kind.Core list verdict tests)))))) ∙ h2.goes (λ verdict. State.want (Due.word keyword.Where) (λ _. Steps.field_test (λ first. State.want (Due.more_tests (first ∷ [])) (λ tests. k (kind.Core list verdict tests))))) ∙ h3.goes (λ _. Steps.field_test (λ first. State.want (Due.more_tests (first ∷ [])) (λ tests. k (kind.Core list verdict tests)))) ∙ h4.goes (λ first. State.want (Due.more_tests (first ∷ [])) (λ tests. k (kind.Core list verdict tests))) ∙ h.stops (λ tests. k (kind.Core list verdict tests)) }
core_stops5 list verdict first t0 t1 t2 t3 t4 t5 tokens stop.NoMemory h0 h1 h2 h3 h4 h = tt
