-- Statements, as the reader takes them.
use Rattle.std.proofs.Common.{◌≡◌, ℕ, ◌<◌, Bool, true, false, cond, ◌==◌, Option, Some, None, List, [], ◌∷◌, ◌++◌, length, drop, refl, ap, ◌∙◌, arith}
use Rattle.query_tokens.specs.declared.keyword.Keyword.{Keyword}
use Rattle.query_tokens.specs.declared.keyword.Keyword.TheVariants as keyword
use Rattle.query_tokens.specs.declared.token.Sign.TheVariants as sign_of
use Rattle.query_tokens.specs.declared.token.Token.{Token}
use Rattle.query_tokens.specs.declared.token.Token.TheVariants as token
use Rattle.query_lang.specs.declared.read.stop.Stop.{Stop}
use Rattle.query_lang.specs.declared.read.stop.Stop.TheVariants as stop
use Rattle.query_lang.specs.declared.script.ScriptReason.TheVariants as reason
use Rattle.query_lang.specs.Words.{Tokens, on}
use Rattle.query_lang.specs.Machine.Due.{Due, State, Moved}
use Rattle.query_lang.specs.Machine.Steps
use Rattle.query_lang.specs.Machine.Steps.{is_word, is_sign, Behind, step}
use Rattle.query_lang.specs.Machine.Outcome.{outcome, strict, of_script}
use Rattle.query_lang.specs.Machine.Going.{Goes, Halts, StartsOn, Begun, Stated, Unstated, HaltsStatement, IsFresh, IsRead, HaltsScript, is_keyword}
use Rattle.query_tokens.specs.declared.token.Placed.{Placed}
use Rattle.query_lang.specs.declared.script.Explore.{Explore}
use Rattle.query_lang.specs.declared.script.Kind.{Kind}
use Rattle.query_lang.specs.declared.script.Kind.TheVariants as kind
use Rattle.query_lang.specs.declared.script.Statement.{Statement}
use Rattle.query_lang.proofs.Leading.{by}
use Rattle.std.proofs.lemmas.Bool.{eqb-false, ne_eqb}
use Rattle.std.proofs.lemmas.List.{length-drop}
use Rattle.query_lang.specs.Scripts.{IsOffLine}
use Rattle.query_lang.specs.Machine.Steps.{finished, exploring}

pub load_begun : (explored : Option ℕ) (line : ℕ) (what : Kind) (t0 t1 t2 : Tokens) → StartsOn line (token.Keyword keyword.Load) t0 t1 → Goes Kind (State.want Due.load) what t1 t2 → Begun explored explored line what t0 t2
load_begun explored line what t0 t1 t2 s g = rw s.is (record { begun = λ parts. g.goes (finished explored parts line) })

pub load_halts : (explored : Option ℕ) (line : ℕ) (t0 t1 tokens : Tokens) (s : Stop) → StartsOn line (token.Keyword keyword.Load) t0 t1 → Halts Kind (State.want Due.load) t1 tokens s → HaltsStatement explored t0 tokens s
load_halts explored line t0 t1 tokens (stop.Refused at why) s h = rw s.is (record { unstated = λ parts. h.stops (finished explored parts line) })
load_halts explored line t0 t1 tokens stop.NoMemory s h = tt

pub compare_begun : (explored : Option ℕ) (line : ℕ) (what : Kind) (t0 t1 t2 : Tokens) → StartsOn line (token.Keyword keyword.Compare) t0 t1 → Goes Kind (Steps.compare) what t1 t2 → Begun explored explored line what t0 t2
compare_begun explored line what t0 t1 t2 s g = rw s.is (record { begun = λ parts. g.goes (finished explored parts line) })

pub compare_halts : (explored : Option ℕ) (line : ℕ) (t0 t1 tokens : Tokens) (s : Stop) → StartsOn line (token.Keyword keyword.Compare) t0 t1 → Halts Kind (Steps.compare) t1 tokens s → HaltsStatement explored t0 tokens s
compare_halts explored line t0 t1 tokens (stop.Refused at why) s h = rw s.is (record { unstated = λ parts. h.stops (finished explored parts line) })
compare_halts explored line t0 t1 tokens stop.NoMemory s h = tt

pub decide_begun : (explored : Option ℕ) (line : ℕ) (what : Kind) (t0 t1 t2 : Tokens) → StartsOn line (token.Keyword keyword.Decide) t0 t1 → Goes Kind (Steps.decide) what t1 t2 → Begun explored explored line what t0 t2
decide_begun explored line what t0 t1 t2 s g = rw s.is (record { begun = λ parts. g.goes (finished explored parts line) })

pub decide_halts : (explored : Option ℕ) (line : ℕ) (t0 t1 tokens : Tokens) (s : Stop) → StartsOn line (token.Keyword keyword.Decide) t0 t1 → Halts Kind (Steps.decide) t1 tokens s → HaltsStatement explored t0 tokens s
decide_halts explored line t0 t1 tokens (stop.Refused at why) s h = rw s.is (record { unstated = λ parts. h.stops (finished explored parts line) })
decide_halts explored line t0 t1 tokens stop.NoMemory s h = tt

pub generate_begun : (explored : Option ℕ) (line : ℕ) (what : Kind) (t0 t1 t2 : Tokens) → StartsOn line (token.Keyword keyword.Generate) t0 t1 → Goes Kind (Steps.generate) what t1 t2 → Begun explored explored line what t0 t2
generate_begun explored line what t0 t1 t2 s g = rw s.is (record { begun = λ parts. g.goes (finished explored parts line) })

pub generate_halts : (explored : Option ℕ) (line : ℕ) (t0 t1 tokens : Tokens) (s : Stop) → StartsOn line (token.Keyword keyword.Generate) t0 t1 → Halts Kind (Steps.generate) t1 tokens s → HaltsStatement explored t0 tokens s
generate_halts explored line t0 t1 tokens (stop.Refused at why) s h = rw s.is (record { unstated = λ parts. h.stops (finished explored parts line) })
generate_halts explored line t0 t1 tokens stop.NoMemory s h = tt

pub link_begun : (explored : Option ℕ) (line : ℕ) (what : Kind) (t0 t1 t2 : Tokens) → StartsOn line (token.Keyword keyword.Link) t0 t1 → Goes Kind (Steps.link) what t1 t2 → Begun explored explored line what t0 t2
link_begun explored line what t0 t1 t2 s g = rw s.is (record { begun = λ parts. g.goes (finished explored parts line) })

pub link_halts : (explored : Option ℕ) (line : ℕ) (t0 t1 tokens : Tokens) (s : Stop) → StartsOn line (token.Keyword keyword.Link) t0 t1 → Halts Kind (Steps.link) t1 tokens s → HaltsStatement explored t0 tokens s
link_halts explored line t0 t1 tokens (stop.Refused at why) s h = rw s.is (record { unstated = λ parts. h.stops (finished explored parts line) })
link_halts explored line t0 t1 tokens stop.NoMemory s h = tt

pub paths_begun : (explored : Option ℕ) (line : ℕ) (what : Kind) (t0 t1 t2 : Tokens) → StartsOn line (token.Keyword keyword.Path) t0 t1 → Goes Kind (Steps.paths) what t1 t2 → Begun explored explored line what t0 t2
paths_begun explored line what t0 t1 t2 s g = rw s.is (record { begun = λ parts. g.goes (finished explored parts line) })

pub paths_halts : (explored : Option ℕ) (line : ℕ) (t0 t1 tokens : Tokens) (s : Stop) → StartsOn line (token.Keyword keyword.Path) t0 t1 → Halts Kind (Steps.paths) t1 tokens s → HaltsStatement explored t0 tokens s
paths_halts explored line t0 t1 tokens (stop.Refused at why) s h = rw s.is (record { unstated = λ parts. h.stops (finished explored parts line) })
paths_halts explored line t0 t1 tokens stop.NoMemory s h = tt

pub audit_begun : (explored : Option ℕ) (line : ℕ) (what : Kind) (t0 t1 t2 : Tokens) → StartsOn line (token.Keyword keyword.Audit) t0 t1 → Goes Kind (Steps.audit) what t1 t2 → Begun explored explored line what t0 t2
audit_begun explored line what t0 t1 t2 s g = rw s.is (record { begun = λ parts. g.goes (finished explored parts line) })

pub audit_halts : (explored : Option ℕ) (line : ℕ) (t0 t1 tokens : Tokens) (s : Stop) → StartsOn line (token.Keyword keyword.Audit) t0 t1 → Halts Kind (Steps.audit) t1 tokens s → HaltsStatement explored t0 tokens s
audit_halts explored line t0 t1 tokens (stop.Refused at why) s h = rw s.is (record { unstated = λ parts. h.stops (finished explored parts line) })
audit_halts explored line t0 t1 tokens stop.NoMemory s h = tt

pub core_begun : (explored : Option ℕ) (line : ℕ) (what : Kind) (t0 t1 t2 : Tokens) → StartsOn line (token.Keyword keyword.Core) t0 t1 → Goes Kind (Steps.core) what t1 t2 → Begun explored explored line what t0 t2
core_begun explored line what t0 t1 t2 s g = rw s.is (record { begun = λ parts. g.goes (finished explored parts line) })

pub core_halts : (explored : Option ℕ) (line : ℕ) (t0 t1 tokens : Tokens) (s : Stop) → StartsOn line (token.Keyword keyword.Core) t0 t1 → Halts Kind (Steps.core) t1 tokens s → HaltsStatement explored t0 tokens s
core_halts explored line t0 t1 tokens (stop.Refused at why) s h = rw s.is (record { unstated = λ parts. h.stops (finished explored parts line) })
core_halts explored line t0 t1 tokens stop.NoMemory s h = tt

pub show_begun : (old line : ℕ) (what : Kind) (t0 t1 t2 : Tokens) → StartsOn line (token.Keyword keyword.Show) t0 t1 → Goes Kind (State.want Due.show) what t1 t2 → Begun (Some old) (Some old) line what t0 t2
show_begun old line what t0 t1 t2 s g = rw s.is (record { begun = λ parts. g.goes (finished (Some old) parts line) })

pub show_halts : (old line : ℕ) (t0 t1 tokens : Tokens) (s : Stop) → StartsOn line (token.Keyword keyword.Show) t0 t1 → Halts Kind (State.want Due.show) t1 tokens s → HaltsStatement (Some old) t0 tokens s
show_halts old line t0 t1 tokens (stop.Refused at why) s h = rw s.is (record { unstated = λ parts. h.stops (finished (Some old) parts line) })
show_halts old line t0 t1 tokens stop.NoMemory s h = tt

pub show_unasked : (line : ℕ) (t0 t1 : Tokens) → StartsOn line (token.Keyword keyword.Show) t0 t1 → Unstated None t0 t0 reason.NoExplore
show_unasked line t0 t1 s = rw s.is (record { unstated = λ parts. refl })

pub possible_begun : (old line : ℕ) (what : Kind) (t0 t1 t2 : Tokens) → StartsOn line (token.Keyword keyword.Is) t0 t1 → Goes Kind (Steps.possible) what t1 t2 → Begun (Some old) (Some old) line what t0 t2
possible_begun old line what t0 t1 t2 s g = rw s.is (record { begun = λ parts. g.goes (finished (Some old) parts line) })

pub possible_halts : (old line : ℕ) (t0 t1 tokens : Tokens) (s : Stop) → StartsOn line (token.Keyword keyword.Is) t0 t1 → Halts Kind (Steps.possible) t1 tokens s → HaltsStatement (Some old) t0 tokens s
possible_halts old line t0 t1 tokens (stop.Refused at why) s h = rw s.is (record { unstated = λ parts. h.stops (finished (Some old) parts line) })
possible_halts old line t0 t1 tokens stop.NoMemory s h = tt

pub possible_unasked : (line : ℕ) (t0 t1 : Tokens) → StartsOn line (token.Keyword keyword.Is) t0 t1 → Unstated None t0 t0 reason.NoExplore
possible_unasked line t0 t1 s = rw s.is (record { unstated = λ parts. refl })

pub none_fresh : (line : ℕ) → IsFresh None line
none_fresh line = record { off = tt }

pub other_fresh : (old line : ℕ) → (old ≡ line → ⊥) → IsFresh (Some old) line
other_fresh old line other = record { off = other }

fresh_step : (explored : Option ℕ) (line : ℕ) (state : State) → IsOffLine explored line → exploring explored line state ≡ Moved.moves state
fresh_step None line state off = refl
fresh_step (Some old) line state off = ap (λ (b : Bool). cond b Moved.stops (Moved.moves state)) (ne_eqb old line off)

same_step : (line : ℕ) (state : State) (b : Bool) → (line == line) ≡ b → cond b Moved.stops (Moved.moves state) ≡ Moved.stops
same_step line state true e = refl
same_step line state false e = absurd (eqb-false line line e refl)

pub same_line : (old line : ℕ) (t0 t1 : Tokens) → StartsOn line (token.Keyword keyword.Explore) t0 t1 → old ≡ line → Unstated (Some old) t0 t0 reason.Syntax
same_line old line t0 t1 s e =
    rw (e, s.is) (record { unstated = λ parts. ap (λ (m : Moved). by (on line (token.Keyword keyword.Explore) ∷ t1) t1 m) (same_step line (Steps.explore (λ what. finished (Some line) parts line (kind.Explore what))) (line == line) refl) })

explore_step : (explored : Option ℕ) (line : ℕ) (t0 t1 : Tokens) (parts : List Statement) → StartsOn line (token.Keyword keyword.Explore) t0 t1 → IsFresh explored line
    → outcome strict t0 (State.statements explored parts) ≡ outcome strict t1 (Steps.explore (λ what. finished (Some line) parts line (kind.Explore what)))
explore_step explored line t0 t1 parts s f =
    rw s.is (ap (λ (m : Moved). by (on line (token.Keyword keyword.Explore) ∷ t1) t1 m) (fresh_step explored line (Steps.explore (λ what. finished (Some line) parts line (kind.Explore what))) f.off))

pub explore_begun : (explored : Option ℕ) (line : ℕ) (what : Explore) (t0 t1 t2 : Tokens) → StartsOn line (token.Keyword keyword.Explore) t0 t1 → IsFresh explored line → Goes Explore Steps.explore what t1 t2
    → Begun explored (Some line) line (kind.Explore what) t0 t2
explore_begun explored line what t0 t1 t2 s f g = record { begun = λ parts. explore_step explored line t0 t1 parts s f ∙ g.goes (λ what. finished (Some line) parts line (kind.Explore what)) }

pub explore_halts : (explored : Option ℕ) (line : ℕ) (t0 t1 tokens : Tokens) (s : Stop) → StartsOn line (token.Keyword keyword.Explore) t0 t1 → IsFresh explored line → Halts Explore Steps.explore t1 tokens s → HaltsStatement explored t0 tokens s
explore_halts explored line t0 t1 tokens (stop.Refused at why) s f h = record { unstated = λ parts. explore_step explored line t0 t1 parts s f ∙ h.stops (λ what. finished (Some line) parts line (kind.Explore what)) }
explore_halts explored line t0 t1 tokens stop.NoMemory s f h = tt

other_statement : (explored : Option ℕ) (parts : List Statement) (line : ℕ) (w : Keyword) → (w ≡ keyword.Explore → ⊥) → (w ≡ keyword.Show → ⊥) → (w ≡ keyword.Is → ⊥) → (w ≡ keyword.Load → ⊥) → (w ≡ keyword.Compare → ⊥) → (w ≡ keyword.Decide → ⊥) → (w ≡ keyword.Generate → ⊥) → (w ≡ keyword.Link → ⊥) → (w ≡ keyword.Path → ⊥) → (w ≡ keyword.Audit → ⊥) → (w ≡ keyword.Core → ⊥) → Steps.statement_word explored parts line w ≡ Moved.stops
other_statement explored parts line keyword.Explore a b c d e f g h i j k = absurd (a refl)
other_statement explored parts line keyword.Show a b c d e f g h i j k = absurd (b refl)
other_statement explored parts line keyword.Is a b c d e f g h i j k = absurd (c refl)
other_statement explored parts line keyword.Load a b c d e f g h i j k = absurd (d refl)
other_statement explored parts line keyword.Compare a b c d e f g h i j k = absurd (e refl)
other_statement explored parts line keyword.Decide a b c d e f g h i j k = absurd (f refl)
other_statement explored parts line keyword.Generate a b c d e f g h i j k = absurd (g refl)
other_statement explored parts line keyword.Link a b c d e f g h i j k = absurd (h refl)
other_statement explored parts line keyword.Path a b c d e f g h i j k = absurd (i refl)
other_statement explored parts line keyword.Audit a b c d e f g h i j k = absurd (j refl)
other_statement explored parts line keyword.Core a b c d e f g h i j k = absurd (k refl)
other_statement explored parts line w a b c d e f g h i j k = refl

pub no_statement : (explored : Option ℕ) (line : ℕ) (w : Keyword) (t0 t1 : Tokens) → StartsOn line (token.Keyword w) t0 t1 → (w ≡ keyword.Explore → ⊥) → (w ≡ keyword.Show → ⊥) → (w ≡ keyword.Is → ⊥) → (w ≡ keyword.Load → ⊥) → (w ≡ keyword.Compare → ⊥) → (w ≡ keyword.Decide → ⊥) → (w ≡ keyword.Generate → ⊥) → (w ≡ keyword.Link → ⊥) → (w ≡ keyword.Path → ⊥) → (w ≡ keyword.Audit → ⊥) → (w ≡ keyword.Core → ⊥) → Unstated explored t0 t0 reason.Syntax
no_statement explored line w t0 t1 s a b c d e f g h i j k = rw s.is (record { unstated = λ parts. ap (λ (m : Moved). by (on line (token.Keyword w) ∷ t1) t1 m) (other_statement explored parts line w a b c d e f g h i j k) })

pub word_on : (line : ℕ) (w : Keyword) (ts rest : Tokens) → ts ≡ on line (token.Keyword w) ∷ rest → StartsOn line (token.Keyword w) ts rest
word_on line w ts rest is = record { is = is }

pub stated_read : (explored next : Option ℕ) (line : ℕ) (what : Kind) (t0 t1 t2 : Tokens) → Begun explored next line what t0 t1 → Goes (Unit {0}) (State.want (Due.sign sign_of.Semicolon)) tt t1 t2 → Stated explored next (record { line = line; kind = what }) t0 t2
stated_read explored next line what t0 t1 t2 b g = record { stated = λ parts. b.begun parts ∙ g.goes (λ _. State.statements next (parts ++ record { line = line; kind = what } ∷ [])) }

pub stated_stops1 : (explored next : Option ℕ) (line : ℕ) (what : Kind) (t0 t1 tokens : Tokens) (s : Stop) → Begun explored next line what t0 t1 → Halts (Unit {0}) (State.want (Due.sign sign_of.Semicolon)) t1 tokens s → HaltsStatement explored t0 tokens s
stated_stops1 explored next line what t0 t1 tokens (stop.Refused at why) b h = record { unstated = λ parts. b.begun parts ∙ h.stops (λ _. State.statements next (parts ++ record { line = line; kind = what } ∷ [])) }
stated_stops1 explored next line what t0 t1 tokens stop.NoMemory b h = tt

no_word : (explored : Option ℕ) (parts : List Statement) (line : ℕ) (t : Token) → is_keyword t ≡ false → step (State.statements explored parts) line t ≡ Moved.stops
no_word explored parts line (token.Keyword w) e = absurd (cc e)
no_word explored parts line (token.Sign s) e = refl
no_word explored parts line (token.Name text) e = refl
no_word explored parts line (token.Digits text) e = refl
no_word explored parts line (token.Word text) e = refl
no_word explored parts line (token.Quoted text) e = refl
no_word explored parts line token.Bad e = refl

pub other_stated : (explored : Option ℕ) (t : Placed) (t0 t1 : Tokens) → t0 ≡ t ∷ t1 → is_keyword t.token ≡ false → Unstated explored t0 t0 reason.Syntax
other_stated explored t t0 t1 is e = rw is (record { unstated = λ parts. ap (λ (m : Moved). by (t ∷ t1) t1 m) (no_word explored parts t.line t.token e) })

pub end_stated : (explored : Option ℕ) (at : ℕ) (tokens : Tokens) → at < length tokens → drop at tokens ≡ [] → Unstated explored (drop at tokens) (drop at tokens) reason.Syntax
end_stated explored at tokens less e = absurd (omega (arith, length-drop at tokens, ap (λ (x : Tokens). length x) e))

-- Where the loop over statements stands.

pub record Stands (tokens : Tokens) (explored : Option ℕ) (parts : List Statement) (mid : Tokens) : Type 0 where
  pub stands : outcome strict tokens of_script ≡ outcome strict mid (State.statements explored parts)

pub script_begins : (tokens : Tokens) → Stands tokens None [] tokens
script_begins tokens = record { stands = refl }

pub script_more : (tokens : Tokens) (explored next : Option ℕ) (parts : List Statement) (statement : Statement) (mid rest : Tokens) → Stands tokens explored parts mid → Stated explored next statement mid rest → Stands tokens next (parts ++ statement ∷ []) rest
script_more tokens explored next parts statement mid rest s g = record { stands = s.stands ∙ g.stated parts }

pub script_ends : (tokens : Tokens) (explored : Option ℕ) (parts : List Statement) (mid : Tokens) → Stands tokens explored parts mid → mid ≡ [] → IsRead tokens parts
script_ends tokens explored parts mid s e = record { is = s.stands ∙ ap (λ (x : Tokens). outcome strict x (State.statements explored parts)) e }

pub script_stops : (tokens : Tokens) (explored : Option ℕ) (parts : List Statement) (mid : Tokens) (s : Stop) → Stands tokens explored parts mid → HaltsStatement explored mid tokens s → HaltsScript tokens s
script_stops tokens explored parts mid (stop.Refused at why) s h = record { is = s.stands ∙ h.unstated parts }
script_stops tokens explored parts mid stop.NoMemory s h = tt
