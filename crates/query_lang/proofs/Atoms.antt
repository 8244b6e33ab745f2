-- Atoms, as the reader takes them.
use Rattle.std.proofs.Common.{◌≡◌, ℕ, List, [], ◌∷◌, refl, ap, ◌∙◌}
use Rattle.query_tokens.specs.declared.keyword.Keyword.TheVariants as keyword
use Rattle.query_tokens.specs.declared.token.Sign.TheVariants as sign_of
use Rattle.query_tokens.specs.declared.token.Token.TheVariants as token
use Rattle.query_lang.specs.declared.literal.Path.{Path}
use Rattle.query_lang.specs.declared.read.stop.Stop.{Stop}
use Rattle.query_lang.specs.declared.read.stop.Stop.TheVariants as stop
use Rattle.query_lang.specs.declared.script.ScriptReason.TheVariants as reason
use Rattle.query_lang.specs.Words.{Tokens}
use Rattle.query_lang.specs.Machine.Due.{Due, State, Moved}
use Rattle.query_lang.specs.Machine.Steps
use Rattle.query_lang.specs.Machine.Steps.{is_word, is_sign, Behind, step}
use Rattle.query_lang.specs.Machine.Outcome.{Outcome, outcome, strict}
use Rattle.query_lang.specs.Machine.Going.{Goes, Stops, Halts, Starts, NoWord, NoSign}
use Rattle.query_lang.proofs.PhraseRuns.{left_out}
use Rattle.query_lang.specs.declared.formula.Named.{Named}
use Rattle.query_lang.specs.declared.formula.Named.TheVariants as named
use Rattle.query_lang.specs.declared.term.Arg.{Arg}
use Rattle.query_lang.specs.declared.term.NamedTerm.{NamedTerm}
use Rattle.query_lang.specs.declared.term.NamedTerm.TheVariants as term
use Rattle.query_lang.specs.Literals.{NumberTest}
use Rattle.query_lang.specs.Formulas.{tested}
use Rattle.query_lang.proofs.Leading.{by}

pub equal_read : (level : ℕ) (left : NamedTerm) (right : NamedTerm) (t0 t1 : Tokens) → Goes NamedTerm (Steps.a_term level) right t0 t1 → Goes Named (Steps.equal_to level left) (named.Equal left right) t0 t1
equal_read level left right t0 t1 h0 = record { goes = λ k. h0.goes (λ right. k (named.Equal left right)) }

pub equal_stops0 : (level : ℕ) (left : NamedTerm) (t0 tokens : Tokens) (s : Stop) → Halts NamedTerm (Steps.a_term level) t0 tokens s → Halts Named (Steps.equal_to level left) t0 tokens s
equal_stops0 level left t0 tokens (stop.Refused at why) h = record { stops = λ k. h.stops (λ right. k (named.Equal left right)) }
equal_stops0 level left t0 tokens stop.NoMemory h = tt

pub in_read : (left : NamedTerm) (test : NumberTest) (t0 t1 : Tokens) → Goes NumberTest Steps.number_test test t0 t1 → Goes Named (Steps.tested_in left) (tested left test) t0 t1
in_read left test t0 t1 h0 = record { goes = λ k. h0.goes (λ test. k (tested left test)) }

pub in_stops0 : (left : NamedTerm) (t0 tokens : Tokens) (s : Stop) → Halts NumberTest Steps.number_test t0 tokens s → Halts Named (Steps.tested_in left) t0 tokens s
in_stops0 left t0 tokens (stop.Refused at why) h = record { stops = λ k. h.stops (λ test. k (tested left test)) }
in_stops0 left t0 tokens stop.NoMemory h = tt

pub decided_read : (level : ℕ) (path : Path) (verdict : List ℕ) (args : List Arg) (t0 t1 t2 : Tokens) → Goes (List ℕ) (State.want Due.name) verdict t0 t1 → Goes (List Arg) (State.want (Due.args level)) args t1 t2 → Goes Named (Steps.decided level path) (named.AtPath path verdict args) t0 t2
decided_read level path verdict args t0 t1 t2 h0 h1 = record { goes = λ k. h0.goes (λ verdict. State.want (Due.args level) (λ args. k (named.AtPath path verdict args))) ∙ h1.goes (λ args. k (named.AtPath path verdict args)) }

pub decided_stops0 : (level : ℕ) (path : Path) (t0 tokens : Tokens) (s : Stop) → Halts (List ℕ) (State.want Due.name) t0 tokens s → Halts Named (Steps.decided level path) t0 tokens s
decided_stops0 level path t0 tokens (stop.Refused at why) h = record { stops = λ k. h.stops (λ verdict. State.want (Due.args level) (λ args. k (named.AtPath path verdict args))) }
decided_stops0 level path t0 tokens stop.NoMemory h = tt

pub decided_stops1 : (level : ℕ) (path : Path) (verdict : List ℕ) (t0 t1 tokens : Tokens) (s : Stop) → Goes (List ℕ) (State.want Due.name) verdict t0 t1 → Halts (List Arg) (State.want (Due.args level)) t1 tokens s → Halts Named (Steps.decided level path) t0 tokens s
decided_stops1 level path verdict t0 t1 tokens (stop.Refused at why) h0 h = record { stops = λ k. h0.goes (λ verdict. State.want (Due.args level) (λ args. k (named.AtPath path verdict args))) ∙ h.stops (λ args. k (named.AtPath path verdict args)) }
decided_stops1 level path verdict t0 t1 tokens stop.NoMemory h0 h = tt

unopened : (level : ℕ) (t1 : Tokens) → NoSign sign_of.Open t1 → (k : Behind (List Arg)) → outcome strict t1 (State.want (Due.args level) k) ≡ Outcome.refuses t1 reason.Syntax
unopened level [] none k = refl
unopened level (t ∷ ts) none k = ap (λ (m : Moved). by (t ∷ ts) ts m) (left_out strict (is_sign sign_of.Open t.token) _ _ none.away)

pub decided_unopened : (level : ℕ) (path : Path) (verdict : List ℕ) (t0 t1 : Tokens) → Goes (List ℕ) (State.want Due.name) verdict t0 t1 → NoSign sign_of.Open t1 → Stops Named (Steps.decided level path) t0 t1 reason.Syntax
decided_unopened level path verdict t0 t1 h none = record { stops = λ k. h.goes (λ verdict. State.want (Due.args level) (λ args. k (named.AtPath path verdict args))) ∙ unopened level t1 none (λ args. k (named.AtPath path verdict args)) }

pub pathed_read : (level : ℕ) (text : List ℕ) (list : Path) (value : Named) (t0 t1 t2 t3 : Tokens) → Goes Path (State.want (Due.components (text ∷ []))) list t0 t1 → Goes (Unit {0}) (State.want (Due.sign sign_of.Colon)) tt t1 t2 → Goes Named (Steps.decided level list) value t2 t3 → Goes Named (Steps.pathed level text) value t0 t3
pathed_read level text list value t0 t1 t2 t3 h0 h1 h2 = record { goes = λ k. h0.goes (λ list. State.want (Due.sign sign_of.Colon) (λ _. Steps.decided level list (λ value. k value))) ∙ h1.goes (λ _. Steps.decided level list (λ value. k value)) ∙ h2.goes (λ value. k value) }

pub pathed_stops0 : (level : ℕ) (text : List ℕ) (t0 tokens : Tokens) (s : Stop) → Halts Path (State.want (Due.components (text ∷ []))) t0 tokens s → Halts Named (Steps.pathed level text) t0 tokens s
pathed_stops0 level text t0 tokens (stop.Refused at why) h = record { stops = λ k. h.stops (λ list. State.want (Due.sign sign_of.Colon) (λ _. Steps.decided level list (λ value. k value))) }
pathed_stops0 level text t0 tokens stop.NoMemory h = tt

pub pathed_stops1 : (level : ℕ) (text : List ℕ) (list : Path) (t0 t1 tokens : Tokens) (s : Stop) → Goes Path (State.want (Due.components (text ∷ []))) list t0 t1 → Halts (Unit {0}) (State.want (Due.sign sign_of.Colon)) t1 tokens s → Halts Named (Steps.pathed level text) t0 tokens s
pathed_stops1 level text list t0 t1 tokens (stop.Refused at why) h0 h = record { stops = λ k. h0.goes (λ list. State.want (Due.sign sign_of.Colon) (λ _. Steps.decided level list (λ value. k value))) ∙ h.stops (λ _. Steps.decided level list (λ value. k value)) }
pathed_stops1 level text list t0 t1 tokens stop.NoMemory h0 h = tt

pub pathed_stops2 : (level : ℕ) (text : List ℕ) (list : Path) (t0 t1 t2 tokens : Tokens) (s : Stop) → Goes Path (State.want (Due.components (text ∷ []))) list t0 t1 → Goes (Unit {0}) (State.want (Due.sign sign_of.Colon)) tt t1 t2 → Halts Named (Steps.decided level list) t2 tokens s → Halts Named (Steps.pathed level text) t0 tokens s
pathed_stops2 level text list t0 t1 t2 tokens (stop.Refused at why) h0 h1 h = record { stops = λ k. h0.goes (λ list. State.want (Due.sign sign_of.Colon) (λ _. Steps.decided level list (λ value. k value))) ∙ h1.goes (λ _. Steps.decided level list (λ value. k value)) ∙ h.stops (λ value. k value) }
pathed_stops2 level text list t0 t1 t2 tokens stop.NoMemory h0 h1 h = tt

pub calling_read : (level : ℕ) (text : List ℕ) (args : List Arg) (value : Named) (t0 t1 t2 : Tokens) → Goes (List Arg) (State.want (Due.args level)) args t0 t1 → Goes Named (State.want (Due.holds_tail level text args)) value t1 t2 → Goes Named (Steps.calling level text) value t0 t2
calling_read level text args value t0 t1 t2 h0 h1 = record { goes = λ k. h0.goes (λ args. State.want (Due.holds_tail level text args) (λ value. k value)) ∙ h1.goes (λ value. k value) }

pub calling_stops0 : (level : ℕ) (text : List ℕ) (t0 tokens : Tokens) (s : Stop) → Halts (List Arg) (State.want (Due.args level)) t0 tokens s → Halts Named (Steps.calling level text) t0 tokens s
calling_stops0 level text t0 tokens (stop.Refused at why) h = record { stops = λ k. h.stops (λ args. State.want (Due.holds_tail level text args) (λ value. k value)) }
calling_stops0 level text t0 tokens stop.NoMemory h = tt

pub calling_stops1 : (level : ℕ) (text : List ℕ) (args : List Arg) (t0 t1 tokens : Tokens) (s : Stop) → Goes (List Arg) (State.want (Due.args level)) args t0 t1 → Halts Named (State.want (Due.holds_tail level text args)) t1 tokens s → Halts Named (Steps.calling level text) t0 tokens s
calling_stops1 level text args t0 t1 tokens (stop.Refused at why) h0 h = record { stops = λ k. h0.goes (λ args. State.want (Due.holds_tail level text args) (λ value. k value)) ∙ h.stops (λ value. k value) }
calling_stops1 level text args t0 t1 tokens stop.NoMemory h0 h = tt

pub atom_read : (level : ℕ) (text : List ℕ) (value : Named) (t0 t1 t2 : Tokens) → Goes (List ℕ) (State.want Due.name) text t0 t1 → Goes Named (State.want (Due.atom_tail level text)) value t1 t2 → Goes Named (Steps.atom level) value t0 t2
atom_read level text value t0 t1 t2 h0 h1 = record { goes = λ k. h0.goes (λ text. State.want (Due.atom_tail level text) (λ value. k value)) ∙ h1.goes (λ value. k value) }

pub atom_stops0 : (level : ℕ) (t0 tokens : Tokens) (s : Stop) → Halts (List ℕ) (State.want Due.name) t0 tokens s → Halts Named (Steps.atom level) t0 tokens s
atom_stops0 level t0 tokens (stop.Refused at why) h = record { stops = λ k. h.stops (λ text. State.want (Due.atom_tail level text) (λ value. k value)) }
atom_stops0 level t0 tokens stop.NoMemory h = tt

pub atom_stops1 : (level : ℕ) (text : List ℕ) (t0 t1 tokens : Tokens) (s : Stop) → Goes (List ℕ) (State.want Due.name) text t0 t1 → Halts Named (State.want (Due.atom_tail level text)) t1 tokens s → Halts Named (Steps.atom level) t0 tokens s
atom_stops1 level text t0 t1 tokens (stop.Refused at why) h0 h = record { stops = λ k. h0.goes (λ text. State.want (Due.atom_tail level text) (λ value. k value)) ∙ h.stops (λ value. k value) }
atom_stops1 level text t0 t1 tokens stop.NoMemory h0 h = tt

holds_equal_step : (level : ℕ) (text : List ℕ) (args : List Arg) (t0 t1 : Tokens) (k : Behind Named) → Starts (token.Sign sign_of.Equals) t0 t1 → outcome strict t0 (State.want (Due.holds_tail level text args) k) ≡ outcome strict t1 (Steps.equal_to level (term.Call text args) k)
holds_equal_step level text args t0 t1 k s = rw s.is refl

pub holds_equal : (level : ℕ) (text : List ℕ) (args : List Arg) (value : Named) (t0 t1 t2 : Tokens) → Starts (token.Sign sign_of.Equals) t0 t1 → Goes Named (Steps.equal_to level (term.Call text args)) value t1 t2 → Goes Named (State.want (Due.holds_tail level text args)) value t0 t2
holds_equal level text args value t0 t1 t2 s g = record { goes = λ k. holds_equal_step level text args t0 t1 k s ∙ g.goes k }

pub holds_equal_stops : (level : ℕ) (text : List ℕ) (args : List Arg) (t0 t1 tokens : Tokens) (s : Stop) → Starts (token.Sign sign_of.Equals) t0 t1 → Halts Named (Steps.equal_to level (term.Call text args)) t1 tokens s → Halts Named (State.want (Due.holds_tail level text args)) t0 tokens s
holds_equal_stops level text args t0 t1 tokens (stop.Refused at why) s h = record { stops = λ k. holds_equal_step level text args t0 t1 k s ∙ h.stops k }
holds_equal_stops level text args t0 t1 tokens stop.NoMemory s h = tt

holds_in_step : (level : ℕ) (text : List ℕ) (args : List Arg) (t0 t1 : Tokens) (k : Behind Named) → Starts (token.Keyword keyword.In) t0 t1 → outcome strict t0 (State.want (Due.holds_tail level text args) k) ≡ outcome strict t1 (Steps.tested_in (term.Call text args) k)
holds_in_step level text args t0 t1 k s = rw s.is refl

pub holds_in : (level : ℕ) (text : List ℕ) (args : List Arg) (value : Named) (t0 t1 t2 : Tokens) → Starts (token.Keyword keyword.In) t0 t1 → Goes Named (Steps.tested_in (term.Call text args)) value t1 t2 → Goes Named (State.want (Due.holds_tail level text args)) value t0 t2
holds_in level text args value t0 t1 t2 s g = record { goes = λ k. holds_in_step level text args t0 t1 k s ∙ g.goes k }

pub holds_in_stops : (level : ℕ) (text : List ℕ) (args : List Arg) (t0 t1 tokens : Tokens) (s : Stop) → Starts (token.Keyword keyword.In) t0 t1 → Halts Named (Steps.tested_in (term.Call text args)) t1 tokens s → Halts Named (State.want (Due.holds_tail level text args)) t0 tokens s
holds_in_stops level text args t0 t1 tokens (stop.Refused at why) s h = record { stops = λ k. holds_in_step level text args t0 t1 k s ∙ h.stops k }
holds_in_stops level text args t0 t1 tokens stop.NoMemory s h = tt

no_comparison : (level : ℕ) (text : List ℕ) (args : List Arg) (k : Behind Named) (t0 : Tokens) → NoSign sign_of.Equals t0 → NoWord keyword.In t0 → outcome strict t0 (State.want (Due.holds_tail level text args) k) ≡ outcome strict t0 (k (named.Holds text args))
no_comparison level text args k [] a b = refl
no_comparison level text args k (t ∷ ts) a b =
    ap (λ (m : Moved). by (t ∷ ts) ts m) (left_out strict (is_sign sign_of.Equals t.token) _ _ a.away ∙ left_out strict (is_word keyword.In t.token) _ _ b.away)

pub holds_alone : (level : ℕ) (text : List ℕ) (args : List Arg) (t0 : Tokens) → NoSign sign_of.Equals t0 → NoWord keyword.In t0 → Goes Named (State.want (Due.holds_tail level text args)) (named.Holds text args) t0 t0
holds_alone level text args t0 a b = record { goes = λ k. no_comparison level text args k t0 a b }

tail_path_step : (level : ℕ) (text : List ℕ) (t0 t1 : Tokens) (k : Behind Named) → Starts (token.Sign sign_of.Dot) t0 t1 → outcome strict t0 (State.want (Due.atom_tail level text) k) ≡ outcome strict t0 (Steps.pathed level text k)
tail_path_step level text t0 t1 k s = rw s.is refl

pub tail_path : (level : ℕ) (text : List ℕ) (value : Named) (t0 t1 t2 : Tokens) → Starts (token.Sign sign_of.Dot) t0 t1 → Goes Named (Steps.pathed level text) value t0 t2 → Goes Named (State.want (Due.atom_tail level text)) value t0 t2
tail_path level text value t0 t1 t2 s g = record { goes = λ k. tail_path_step level text t0 t1 k s ∙ g.goes k }

pub tail_path_stops : (level : ℕ) (text : List ℕ) (t0 t1 tokens : Tokens) (s : Stop) → Starts (token.Sign sign_of.Dot) t0 t1 → Halts Named (Steps.pathed level text) t0 tokens s → Halts Named (State.want (Due.atom_tail level text)) t0 tokens s
tail_path_stops level text t0 t1 tokens (stop.Refused at why) s h = record { stops = λ k. tail_path_step level text t0 t1 k s ∙ h.stops k }
tail_path_stops level text t0 t1 tokens stop.NoMemory s h = tt

tail_colon_step : (level : ℕ) (text : List ℕ) (t0 t1 : Tokens) (k : Behind Named) → Starts (token.Sign sign_of.Colon) t0 t1 → outcome strict t0 (State.want (Due.atom_tail level text) k) ≡ outcome strict t0 (Steps.pathed level text k)
tail_colon_step level text t0 t1 k s = rw s.is refl

pub tail_colon : (level : ℕ) (text : List ℕ) (value : Named) (t0 t1 t2 : Tokens) → Starts (token.Sign sign_of.Colon) t0 t1 → Goes Named (Steps.pathed level text) value t0 t2 → Goes Named (State.want (Due.atom_tail level text)) value t0 t2
tail_colon level text value t0 t1 t2 s g = record { goes = λ k. tail_colon_step level text t0 t1 k s ∙ g.goes k }

pub tail_colon_stops : (level : ℕ) (text : List ℕ) (t0 t1 tokens : Tokens) (s : Stop) → Starts (token.Sign sign_of.Colon) t0 t1 → Halts Named (Steps.pathed level text) t0 tokens s → Halts Named (State.want (Due.atom_tail level text)) t0 tokens s
tail_colon_stops level text t0 t1 tokens (stop.Refused at why) s h = record { stops = λ k. tail_colon_step level text t0 t1 k s ∙ h.stops k }
tail_colon_stops level text t0 t1 tokens stop.NoMemory s h = tt

tail_call_step : (level : ℕ) (text : List ℕ) (t0 t1 : Tokens) (k : Behind Named) → Starts (token.Sign sign_of.Open) t0 t1 → outcome strict t0 (State.want (Due.atom_tail level text) k) ≡ outcome strict t0 (Steps.calling level text k)
tail_call_step level text t0 t1 k s = rw s.is refl

pub tail_call : (level : ℕ) (text : List ℕ) (value : Named) (t0 t1 t2 : Tokens) → Starts (token.Sign sign_of.Open) t0 t1 → Goes Named (Steps.calling level text) value t0 t2 → Goes Named (State.want (Due.atom_tail level text)) value t0 t2
tail_call level text value t0 t1 t2 s g = record { goes = λ k. tail_call_step level text t0 t1 k s ∙ g.goes k }

pub tail_call_stops : (level : ℕ) (text : List ℕ) (t0 t1 tokens : Tokens) (s : Stop) → Starts (token.Sign sign_of.Open) t0 t1 → Halts Named (Steps.calling level text) t0 tokens s → Halts Named (State.want (Due.atom_tail level text)) t0 tokens s
tail_call_stops level text t0 t1 tokens (stop.Refused at why) s h = record { stops = λ k. tail_call_step level text t0 t1 k s ∙ h.stops k }
tail_call_stops level text t0 t1 tokens stop.NoMemory s h = tt

tail_equal_step : (level : ℕ) (text : List ℕ) (t0 t1 : Tokens) (k : Behind Named) → Starts (token.Sign sign_of.Equals) t0 t1 → outcome strict t0 (State.want (Due.atom_tail level text) k) ≡ outcome strict t1 (Steps.equal_to level (term.Name text) k)
tail_equal_step level text t0 t1 k s = rw s.is refl

pub tail_equal : (level : ℕ) (text : List ℕ) (value : Named) (t0 t1 t2 : Tokens) → Starts (token.Sign sign_of.Equals) t0 t1 → Goes Named (Steps.equal_to level (term.Name text)) value t1 t2 → Goes Named (State.want (Due.atom_tail level text)) value t0 t2
tail_equal level text value t0 t1 t2 s g = record { goes = λ k. tail_equal_step level text t0 t1 k s ∙ g.goes k }

pub tail_equal_stops : (level : ℕ) (text : List ℕ) (t0 t1 tokens : Tokens) (s : Stop) → Starts (token.Sign sign_of.Equals) t0 t1 → Halts Named (Steps.equal_to level (term.Name text)) t1 tokens s → Halts Named (State.want (Due.atom_tail level text)) t0 tokens s
tail_equal_stops level text t0 t1 tokens (stop.Refused at why) s h = record { stops = λ k. tail_equal_step level text t0 t1 k s ∙ h.stops k }
tail_equal_stops level text t0 t1 tokens stop.NoMemory s h = tt

tail_in_step : (level : ℕ) (text : List ℕ) (t0 t1 : Tokens) (k : Behind Named) → Starts (token.Keyword keyword.In) t0 t1 → outcome strict t0 (State.want (Due.atom_tail level text) k) ≡ outcome strict t1 (Steps.tested_in (term.Name text) k)
tail_in_step level text t0 t1 k s = rw s.is refl

pub tail_in : (level : ℕ) (text : List ℕ) (value : Named) (t0 t1 t2 : Tokens) → Starts (token.Keyword keyword.In) t0 t1 → Goes Named (Steps.tested_in (term.Name text)) value t1 t2 → Goes Named (State.want (Due.atom_tail level text)) value t0 t2
tail_in level text value t0 t1 t2 s g = record { goes = λ k. tail_in_step level text t0 t1 k s ∙ g.goes k }

pub tail_in_stops : (level : ℕ) (text : List ℕ) (t0 t1 tokens : Tokens) (s : Stop) → Starts (token.Keyword keyword.In) t0 t1 → Halts Named (Steps.tested_in (term.Name text)) t1 tokens s → Halts Named (State.want (Due.atom_tail level text)) t0 tokens s
tail_in_stops level text t0 t1 tokens (stop.Refused at why) s h = record { stops = λ k. tail_in_step level text t0 t1 k s ∙ h.stops k }
tail_in_stops level text t0 t1 tokens stop.NoMemory s h = tt

no_tail : (level : ℕ) (text : List ℕ) (k : Behind Named) (t0 : Tokens) → NoSign sign_of.Dot t0 → NoSign sign_of.Colon t0 → NoSign sign_of.Open t0 → NoSign sign_of.Equals t0 → NoWord keyword.In t0
    → outcome strict t0 (State.want (Due.atom_tail level text) k) ≡ Outcome.refuses t0 reason.Syntax
no_tail level text k [] a b c d e = refl
no_tail level text k (t ∷ ts) a b c d e =
    ap (λ (m : Moved). by (t ∷ ts) ts m)
    (left_out strict (is_sign sign_of.Dot t.token) _ _ a.away ∙ left_out strict (is_sign sign_of.Colon t.token) _ _ b.away ∙ left_out strict (is_sign sign_of.Open t.token) _ _ c.away
    ∙ left_out strict (is_sign sign_of.Equals t.token) _ _ d.away ∙ left_out strict (is_word keyword.In t.token) _ _ e.away)

pub tail_none : (level : ℕ) (text : List ℕ) (t0 : Tokens) → NoSign sign_of.Dot t0 → NoSign sign_of.Colon t0 → NoSign sign_of.Open t0 → NoSign sign_of.Equals t0 → NoWord keyword.In t0 → Stops Named (State.want (Due.atom_tail level text)) t0 t0 reason.Syntax
tail_none level text t0 a b c d e = record { stops = λ k. no_tail level text k t0 a b c d e }
