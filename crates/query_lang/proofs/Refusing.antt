-- Where the machine stops, no script goes on, and for the reason that it says.
use Rattle.std.proofs.Common.{◌≡◌, ℕ, suc, Bool, true, false, cond, ◌||◌, ◌⊎◌, nat_lt, [], ◌∷◌, ◌++◌, length, Option, Some, None, inl, inr, refl, ap, ◌∙◌, sym, subst, arith}
use Rattle.std.proofs.lemmas.Bool.{ltb-true, ltb-false, lt-ltb, le-ltb}
use Rattle.std.proofs.lemmas.List.{append-nil}
use Rattle.query_tokens.specs.declared.token.Placed.{Placed}
use Rattle.query_lang.specs.declared.formula.Named.TheVariants as named
use Rattle.query_lang.specs.declared.literal.Literal.TheVariants as literal
use Rattle.query_lang.specs.declared.script.Script.{Script}
use Rattle.query_lang.specs.declared.script.ScriptReason.{ScriptReason}
use Rattle.query_lang.specs.declared.script.ScriptReason.TheVariants as reason
use Rattle.query_lang.specs.declared.term.NamedTerm.TheVariants as term
use Rattle.query_lang.specs.Rules.{levelled}
use Rattle.query_lang.specs.Words.{Tokens, number}
use Rattle.query_lang.specs.Literals.{NumberTest}
use Rattle.query_lang.specs.Formulas.{conjunction, disjunction, equivalence}
use Rattle.query_lang.specs.Scripts.{IsScript}
use Rattle.query_lang.specs.Refusal.{Begins, GoesOn, IsReason, IsRefused, first_of}
use Rattle.query_lang.specs.Machine.Due.{Due, State, Moved}
use Rattle.query_lang.specs.Machine.Steps.{step}
use Rattle.query_lang.specs.Machine.Outcome.{Outcome, outcome, settled, ends, strict, of_script}
use Rattle.query_lang.proofs.Accepted.{accepted, script_accepted}
use Rattle.query_lang.proofs.Completing.{IsFree, complement, completed, completes}
use Rattle.query_lang.proofs.ScriptRuns.{script_runs}
use Rattle.query_lang.proofs.Passing.{allowed, onward, passed, behind_front, through, same_state, wider, then_one, split}

-- what stops the machine in a state
pub data Blocked : State → Tokens → ScriptReason → Type 0 where
  ended : (state : State) → ends state ≡ Outcome.refuses [] reason.Syntax → Blocked state [] reason.Syntax
  stopped : (state : State) (t : Placed) (ts : Tokens) → step state t.line t.token ≡ Moved.stops → Blocked state (t ∷ ts) reason.Syntax
  too_deep : (state next : State) (level : ℕ) (t : Placed) (ts : Tokens) → step state t.line t.token ≡ Moved.opens level next → nat_lt level 64 ≡ false → Blocked state (t ∷ ts) reason.Depth
  asking : (state next : State) (t : Placed) (ts : Tokens) → step state t.line t.token ≡ Moved.asks next → Blocked state (t ∷ ts) reason.NoExplore

pub record Stopped (state : State) (ts back : Tokens) (why : ScriptReason) : Type 0 where
  pub front : Tokens
  pub to : State
  pub whole : ts ≡ front ++ back
  pub passes : passed 64 false front state ≡ Some to
  pub blocked : Blocked to back why

same_back : (a b : Tokens) (v w : ScriptReason) → Outcome.refuses a v ≡ Outcome.refuses b w → a ≡ b
same_back a b v w e = cc e

same_why : (a b : Tokens) (v w : ScriptReason) → Outcome.refuses a v ≡ Outcome.refuses b w → v ≡ w
same_why a b v w e = cc e

pub read_refused : (A : Type 0) (x : Script) (ts : Tokens) (why : ScriptReason) → Outcome.reads x ≡ Outcome.refuses ts why → A
read_refused A x ts why e = absurd (cc e)

stopped_here : (state : State) (ts back : Tokens) (v why : ScriptReason) → Outcome.refuses ts v ≡ Outcome.refuses back why → Blocked state ts v → Stopped state ts back why
stopped_here state ts back v why e b = record {
  front = [];
  to = state;
  whole = same_back ts back v why e;
  passes = refl;
  blocked = subst (λ (w : ScriptReason). Blocked state back w) (same_why ts back v why e) (subst (λ (l : Tokens). Blocked state l v) (same_back ts back v why e) b);
}

-- an end is a script, or a refusal as Syntax
ends_tell : (state : State) → ((x : Script) × (ends state ≡ Outcome.reads x)) ⊎ (ends state ≡ Outcome.refuses [] reason.Syntax)
ends_tell (State.statements explored parts) = inl (record { statements = parts }, refl)
ends_tell (State.want (Due.dots text) k) = ends_tell (k (literal.Number (number text)))
ends_tell (State.want (Due.second first) k) = ends_tell (k (NumberTest.range first first))
ends_tell (State.want (Due.components parts) k) = ends_tell (k (record { parts = parts }))
ends_tell (State.want (Due.called level text) k) = ends_tell (k (term.Name text))
ends_tell (State.want (Due.holds_tail level text arguments) k) = ends_tell (k (named.Holds text arguments))
ends_tell (State.want (Due.more_and level parts) k) = ends_tell (k (conjunction parts))
ends_tell (State.want (Due.more_or level parts) k) = ends_tell (k (disjunction parts))
ends_tell (State.want (Due.implies level left) k) = ends_tell (k left)
ends_tell (State.want (Due.more_iff level parts) k) = ends_tell (k (equivalence parts))
ends_tell (State.want Due.vars k) = ends_tell (k [])
ends_tell (State.want Due.under k) = ends_tell (k [])
ends_tell (State.want (Due.more_names parts) k) = ends_tell (k parts)
ends_tell (State.want Due.include k) = ends_tell (k [])
ends_tell (State.want (Due.more_atoms parts) k) = ends_tell (k parts)
ends_tell (State.want (Due.more_tests parts) k) = ends_tell (k parts)
ends_tell (State.want due k) = inr refl

at_end : (state : State) (back : Tokens) (why : ScriptReason) → ends state ≡ Outcome.refuses back why → ((x : Script) × (ends state ≡ Outcome.reads x)) ⊎ (ends state ≡ Outcome.refuses [] reason.Syntax) → Stopped state [] back why
at_end state back why e (inl r) = read_refused _ r.0 back why (sym r.1 ∙ e)
at_end state back why e (inr r) = stopped_here state [] back reason.Syntax why (sym r ∙ e) (Blocked.ended state r)

later : (t : Placed) (ts : Tokens) (state next : State) (back : Tokens) (why : ScriptReason) → allowed 64 false (step state t.line t.token) ≡ Some next → Stopped next ts back why → Stopped state (t ∷ ts) back why
later t ts state next back why e s = record {
  front = t ∷ s.front;
  to = s.to;
  whole = ap (λ (l : Tokens). t ∷ l) s.whole;
  passes = ap (λ (m : Option State). onward (passed 64 false s.front) m) e ∙ s.passes;
  blocked = s.blocked;
}

nothing_less : (n : ℕ) → nat_lt n 0 ≡ false
nothing_less n = le-ltb n 0 (omega arith)

at_level : (t : Placed) (ts : Tokens) (state next : State) (level : ℕ) (back : Tokens) (why : ScriptReason) (b c : Bool) → nat_lt level 64 ≡ b → nat_lt (length ts) 0 ≡ c → c ≡ false → step state t.line t.token ≡ Moved.opens level next
    → cond (b || c) (outcome strict ts next) (Outcome.refuses (t ∷ ts) reason.Depth) ≡ Outcome.refuses back why → (outcome strict ts next ≡ Outcome.refuses back why → Stopped next ts back why) → Stopped state (t ∷ ts) back why
at_level t ts state next level back why true c b_is c_is none is e rest = later t ts state next back why (ap (allowed 64 false) is ∙ ap (λ (d : Bool). cond d (Some next) None) b_is) (rest e)
at_level t ts state next level back why false true b_is c_is none is e rest = absurd (cc none)
at_level t ts state next level back why false false b_is c_is none is e rest = stopped_here state (t ∷ ts) back reason.Depth why e (Blocked.too_deep state next level t ts is b_is)

by_move : (t : Placed) (ts : Tokens) (state : State) (back : Tokens) (why : ScriptReason) (moved : Moved) → step state t.line t.token ≡ moved
    → settled strict (t ∷ ts) (length ts) (outcome strict ts) moved ≡ Outcome.refuses back why → ((next : State) → outcome strict ts next ≡ Outcome.refuses back why → Stopped next ts back why) → Stopped state (t ∷ ts) back why
by_move t ts state back why Moved.stops is e rest = stopped_here state (t ∷ ts) back reason.Syntax why e (Blocked.stopped state t ts is)
by_move t ts state back why (Moved.moves next) is e rest = later t ts state next back why (ap (allowed 64 false) is) (rest next e)
by_move t ts state back why (Moved.opens level next) is e rest = at_level t ts state next level back why (nat_lt level 64) (nat_lt (length ts) 0) refl refl (nothing_less (length ts)) is e (rest next)
by_move t ts state back why (Moved.asks next) is e rest = stopped_here state (t ∷ ts) back reason.NoExplore why e (Blocked.asking state next t ts is)

pub stopped_at : (ts : Tokens) (state : State) (back : Tokens) (why : ScriptReason) → outcome strict ts state ≡ Outcome.refuses back why → Stopped state ts back why
stopped_at [] state back why e = at_end state back why e (ends_tell state)
stopped_at (t ∷ ts) state back why e = by_move t ts state back why (step state t.line t.token) refl e (λ next q. stopped_at ts next back why q)

-- A front that passes begins a script.

pub or_free : (a b : Bool) → b ≡ true → (a || b) ≡ true
or_free true b e = refl
or_free false b e = e

pub begins_so : (levels : ℕ) (asks : Bool) (front : Tokens) (to : State) → passed levels asks front of_script ≡ Some to → Begins levels asks front
begins_so levels asks front to p =
    let more = complement to in
    let free : IsFree (levelled levels (length more) asks) (length more) = λ level behind less. or_free (nat_lt level levels) (nat_lt behind (length more)) (lt-ltb behind (length more) less) in
    (more, completed to, script_accepted (levelled levels (length more) asks) (completed to) (front ++ more) (behind_front levels asks (completed to) more front of_script to p (completes (levelled levels (length more) asks) to free)))

-- what goes on in a state
abbrev Enters : ℕ → Bool → State → Option Placed → Type 0
Enters levels asks state None = (x : Script) × (ends state ≡ Outcome.reads x)
Enters levels asks state (Some t) = (next : State) × (allowed levels asks (step state t.line t.token) ≡ Some next)

record Onto (levels : ℕ) (asks : Bool) (front : Tokens) (next : Option Placed) : Type 0 where
  to : State
  passes : passed levels asks front of_script ≡ Some to
  enters : Enters levels asks to next

onto : (levels : ℕ) (asks : Bool) (front : Tokens) (next : Option Placed) → GoesOn levels asks front next → Onto levels asks front next
onto levels asks front None goes =
    let run = script_runs (levelled levels 0 asks) goes.0 front goes.1 in
    let t = through levels asks goes.0 [] front of_script (subst (λ (l : Tokens). outcome (levelled levels 0 asks) l of_script ≡ Outcome.reads goes.0) (sym (append-nil front)) run) in
    record { to = t.to; passes = t.passes; enters = (goes.0, t.then) }
onto levels asks front (Some t) goes =
    let more = goes.0 in
    let run = script_runs (levelled levels (length more) asks) goes.1 ((front ++ t ∷ []) ++ more) goes.2 in
    let r = through levels asks goes.1 more (front ++ t ∷ []) of_script run in
    let s = split levels asks front t of_script r.to r.passes in
    record { to = s.to; passes = s.passes; enters = (r.to, s.last) }

onto_same : (levels : ℕ) (asks : Bool) (front : Tokens) (next : Option Placed) (to : State) → passed 64 false front of_script ≡ Some to → GoesOn levels asks front next → Enters levels asks to next
onto_same levels asks front next to p goes =
    let o = onto levels asks front next goes in
    subst (λ (s : State). Enters levels asks s next) (same_state levels 64 asks false front of_script o.to to o.passes p) o.enters

abbrev no_one : Option State
no_one = None

nowhere : (A : Type 0) (s : State) → no_one ≡ Some s → A
nowhere A s e = absurd (cc e)

never_ended : (levels : ℕ) (asks : Bool) (state : State) → ends state ≡ Outcome.refuses [] reason.Syntax → Enters levels asks state None → ⊥
never_ended levels asks state e enters = read_refused ⊥ enters.0 [] reason.Syntax (sym enters.1 ∙ e)

never_stopped : (levels : ℕ) (asks : Bool) (state : State) (t : Placed) → step state t.line t.token ≡ Moved.stops → Enters levels asks state (Some t) → ⊥
never_stopped levels asks state t is enters = nowhere ⊥ enters.0 (sym (ap (allowed levels asks) is) ∙ enters.1)

never_deep : (state next : State) (level : ℕ) (t : Placed) → step state t.line t.token ≡ Moved.opens level next → nat_lt level 64 ≡ false → Enters 64 false state (Some t) → ⊥
never_deep state next level t is deep enters = nowhere ⊥ enters.0 (sym (ap (allowed 64 false) is ∙ ap (λ (d : Bool). cond d (Some next) None) deep) ∙ enters.1)

never_asks : (state next : State) (t : Placed) → step state t.line t.token ≡ Moved.asks next → Enters 64 false state (Some t) → ⊥
never_asks state next t is enters = nowhere ⊥ enters.0 (sym (ap (allowed 64 false) is) ∙ enters.1)

stops : (front back : Tokens) (why : ScriptReason) (to : State) → passed 64 false front of_script ≡ Some to → Blocked to back why → GoesOn 64 false front (first_of back) → ⊥
stops front back why to p (Blocked.ended _ e) goes = never_ended 64 false to e (onto_same 64 false front None to p goes)
stops front back why to p (Blocked.stopped _ t ts is) goes = never_stopped 64 false to t is (onto_same 64 false front (Some t) to p goes)
stops front back why to p (Blocked.too_deep _ next level t ts is deep) goes = never_deep to next level t is deep (onto_same 64 false front (Some t) to p goes)
stops front back why to p (Blocked.asking _ next t ts is) goes = never_asks to next t is (onto_same 64 false front (Some t) to p goes)

deeper : (level n : ℕ) → nat_lt level 64 ≡ false → nat_lt n 64 ≡ true → nat_lt n (suc level) ≡ true
deeper level n deep less =
    let a = ltb-false level 64 deep in
    let b = ltb-true n 64 less in
    lt-ltb n (suc level) (omega arith)

deep_goes : (front : Tokens) (to next : State) (level : ℕ) (t : Placed) → passed 64 false front of_script ≡ Some to → step to t.line t.token ≡ Moved.opens level next → nat_lt level 64 ≡ false → GoesOn (suc level) false front (Some t)
deep_goes front to next level t p is deep =
    let fits : nat_lt level (suc level) ≡ true = lt-ltb level (suc level) (omega arith) in
    begins_so (suc level) false (front ++ t ∷ []) next
    (then_one (suc level) false front t of_script to next (wider 64 (suc level) false false (λ n less. deeper level n deep less) (λ e. e) front of_script to p)
    (ap (allowed (suc level) false) is ∙ ap (λ (d : Bool). cond d (Some next) None) fits))

asking_goes : (front : Tokens) (to next : State) (t : Placed) → passed 64 false front of_script ≡ Some to → step to t.line t.token ≡ Moved.asks next → GoesOn 64 true front (Some t)
asking_goes front to next t p is =
    begins_so 64 true (front ++ t ∷ []) next (then_one 64 true front t of_script to next (wider 64 64 false true (λ n less. less) (λ e. absurd (cc e)) front of_script to p) (ap (allowed 64 true) is))

reason_is : (front back : Tokens) (why : ScriptReason) (to : State) → passed 64 false front of_script ≡ Some to → Blocked to back why → IsReason why front (first_of back)
reason_is front back why to p (Blocked.ended _ e) = λ levels asks goes. never_ended levels asks to e (onto_same levels asks front None to p goes)
reason_is front back why to p (Blocked.stopped _ t ts is) = λ levels asks goes. never_stopped levels asks to t is (onto_same levels asks front (Some t) to p goes)
reason_is front back why to p (Blocked.too_deep _ next level t ts is deep) = (suc level, deep_goes front to next level t p is deep)
reason_is front back why to p (Blocked.asking _ next t ts is) = asking_goes front to next t p is

pub refused_as : (tokens back : Tokens) (why : ScriptReason) → outcome strict tokens of_script ≡ Outcome.refuses back why → IsRefused tokens back why
refused_as tokens back why e =
    let s = stopped_at tokens of_script back why e in
    record {
      front = s.front;
      whole = s.whole;
      begun = begins_so 64 false s.front s.to s.passes;
      stops = stops s.front back why s.to s.passes s.blocked;
      reason = reason_is s.front back why s.to s.passes s.blocked;
    }

-- a front that begins a script passes
pub front_passes : (front : Tokens) → Begins 64 false front → (to : State) × (passed 64 false front of_script ≡ Some to)
front_passes front begun =
    let r = through 64 false begun.1 begun.0 front of_script (script_runs (levelled 64 (length begun.0) false) begun.1 (front ++ begun.0) begun.2) in
    (r.to, r.passes)

ended_script : (front : Tokens) (to : State) (x : Script) → passed 64 false front of_script ≡ Some to → ends to ≡ Outcome.reads x → IsScript (levelled 64 0 false) x front
ended_script front to x p e =
    subst (λ (l : Tokens). IsScript (levelled 64 0 false) x l) (append-nil front)
    (script_accepted (levelled 64 0 false) x (front ++ []) (behind_front 64 false x [] front of_script to p (accepted (levelled 64 0 false) x [] to e)))

opened_too : (next r : State) (b : Bool) → cond b (Some next) None ≡ Some r → cond b (Some next) None ≡ Some next
opened_too next r true p = refl
opened_too next r false p = nowhere _ r p

-- what goes on with more levels, and where a statement may ask, goes on without
both_allow : (levels : ℕ) (moved : Moved) (r r' : State) → allowed levels false moved ≡ Some r → allowed 64 true moved ≡ Some r' → (next : State) × (allowed 64 false moved ≡ Some next)
both_allow levels Moved.stops r r' p q = nowhere _ r p
both_allow levels (Moved.moves next) r r' p q = (next, refl)
both_allow levels (Moved.opens level next) r r' p q = (next, opened_too next r' (nat_lt level 64) q)
both_allow levels (Moved.asks next) r r' p q = nowhere _ r p

pub both_go : (levels : ℕ) (front : Tokens) (next : Option Placed) → Begins 64 false front → GoesOn levels false front next → GoesOn 64 true front next → GoesOn 64 false front next
both_go levels front None begun deep asks =
    let f = front_passes front begun in
    let e = onto_same levels false front None f.0 f.1 deep in
    (e.0, ended_script front f.0 e.0 f.1 e.1)
both_go levels front (Some t) begun deep asks =
    let f = front_passes front begun in
    let d = onto_same levels false front (Some t) f.0 f.1 deep in
    let a = onto_same 64 true front (Some t) f.0 f.1 asks in
    let b = both_allow levels (step f.0 t.line t.token) d.0 a.0 d.1 a.1 in
    begins_so 64 false (front ++ t ∷ []) b.0 (then_one 64 false front t of_script f.0 b.0 f.1 b.1)
