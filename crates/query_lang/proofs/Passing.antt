-- Fronts of scripts: what the machine does on some tokens with any behind them.
use Rattle.std.proofs.Common.{◌≡◌, ℕ, ◌≤◌, Bool, true, false, cond, ◌||◌, nat_lt, [], ◌∷◌, ◌++◌, length, Option, Some, None, refl, ap, ◌∙◌, sym, subst, length-append, arith}
use Rattle.std.proofs.lemmas.Bool.{ltb-true}
use Rattle.query_tokens.specs.declared.token.Placed.{Placed}
use Rattle.query_lang.specs.declared.script.Script.{Script}
use Rattle.query_lang.specs.declared.script.ScriptReason.{ScriptReason}
use Rattle.query_lang.specs.declared.script.ScriptReason.TheVariants as reason
use Rattle.query_lang.specs.Rules.{Rules, levelled}
use Rattle.query_lang.specs.Words.{Tokens}
use Rattle.query_lang.specs.Machine.Due.{State, Moved}
use Rattle.query_lang.specs.Machine.Steps.{step}
use Rattle.query_lang.specs.Machine.Outcome.{Outcome, outcome, settled}
use Rattle.query_lang.proofs.Accepting.{Accepts, AcceptsBy}
use Rattle.query_lang.proofs.Backward.{backward}

-- the state that a token leads to, with at most so many levels
abbrev pub allowed : ℕ → Bool → Moved → Option State
allowed levels asks Moved.stops = None
allowed levels asks (Moved.moves state) = Some state
allowed levels asks (Moved.opens level state) = cond (nat_lt level levels) (Some state) None
allowed levels asks (Moved.asks state) = cond asks (Some state) None

abbrev pub onward : (State → Option State) → Option State → Option State
onward go None = None
onward go (Some state) = go state

-- the state that these tokens lead to
abbrev pub passed : ℕ → Bool → Tokens → State → Option State
passed levels asks [] state = Some state
passed levels asks (t ∷ ts) state = onward (passed levels asks ts) (allowed levels asks (step state t.line t.token))

one_state : (a b : State) → Some a ≡ Some b → a ≡ b
one_state a b e = cc e

abbrev nowhere : Option State
nowhere = None

no_state : (A : Type 0) (s : State) → nowhere ≡ Some s → A
no_state A s e = absurd (cc e)

-- What is accepted behind a front is accepted with it.

module _ (levels : ℕ) (asks : Bool) (x : Script) (more : Tokens) where
  abbrev free : Rules
  free = levelled levels (length more) asks

  opening : (ts : Tokens) (level : ℕ) (next goal : State) (front : Tokens) (b : Bool) → nat_lt level levels ≡ b → onward (passed levels asks front) (cond b (Some next) None) ≡ Some goal
      → (passed levels asks front next ≡ Some goal → Accepts free next ts x) → (free.opens level (length ts) ≡ true) × Accepts free next ts x
  opening ts level next goal front true e p rest = (ap (λ (c : Bool). c || nat_lt (length ts) (length more)) e, rest p)
  opening ts level next goal front false e p rest = no_state _ goal p

  asking : (ts : Tokens) (next goal : State) (front : Tokens) (b : Bool) → asks ≡ b → onward (passed levels asks front) (cond b (Some next) None) ≡ Some goal
      → (passed levels asks front next ≡ Some goal → Accepts free next ts x) → (asks ≡ true) × Accepts free next ts x
  asking ts next goal front true e p rest = (e, rest p)
  asking ts next goal front false e p rest = no_state _ goal p

  by_moved : (ts front : Tokens) (goal : State) (moved : Moved) → onward (passed levels asks front) (allowed levels asks moved) ≡ Some goal
      → ((next : State) → passed levels asks front next ≡ Some goal → Accepts free next ts x) → AcceptsBy free moved ts x
  by_moved ts front goal Moved.stops p rest = no_state _ goal p
  by_moved ts front goal (Moved.moves next) p rest = rest next p
  by_moved ts front goal (Moved.opens level next) p rest = opening ts level next goal front (nat_lt level levels) refl p (rest next)
  by_moved ts front goal (Moved.asks next) p rest = asking ts next goal front asks refl p (rest next)

  pub behind_front : (front : Tokens) (state goal : State) → passed levels asks front state ≡ Some goal → Accepts free goal more x → Accepts free state (front ++ more) x
  behind_front [] state goal p a = subst (λ (s : State). Accepts free s more x) (sym (one_state state goal p)) a
  behind_front (t ∷ front) state goal p a =
      backward free x state t.line t.token (front ++ more) (by_moved (front ++ more) front goal (step state t.line t.token) p (λ next q. behind_front front next goal q a))

-- What is read goes through its fronts.

pub record Through (levels : ℕ) (asks : Bool) (rules : Rules) (front more : Tokens) (state : State) (x : Script) : Type 0 where
  pub to : State
  pub passes : passed levels asks front state ≡ Some to
  pub then : outcome rules more to ≡ Outcome.reads x

refused : (A : Type 0) (ts : Tokens) (why : ScriptReason) (x : Script) → Outcome.refuses ts why ≡ Outcome.reads x → A
refused A ts why x e = absurd (cc e)

not_less : (a b : ℕ) (c : Bool) → nat_lt a b ≡ c → b ≤ a → c ≡ false
not_less a b true e more = let less = ltb-true a b e in absurd (omega arith)
not_less a b false e more = refl

not_behind : (more front : Tokens) → nat_lt (length (front ++ more)) (length more) ≡ false
not_behind more front = not_less (length (front ++ more)) (length more) (nat_lt (length (front ++ more)) (length more)) refl (omega (arith, length-append front more))

module _ (levels : ℕ) (asks : Bool) (x : Script) (more : Tokens) where
  abbrev over : Rules
  over = levelled levels (length more) asks

  Step : Tokens → Tokens → Moved → Type 0
  Step tokens front moved = (goal : State) × (onward (passed levels asks front) (allowed levels asks moved) ≡ Some goal) × (outcome over more goal ≡ Outcome.reads x)

  through_opening : (tokens front : Tokens) (level : ℕ) (next : State) (b c : Bool) → nat_lt level levels ≡ b → nat_lt (length (front ++ more)) (length more) ≡ c → c ≡ false
      → cond (b || c) (outcome over (front ++ more) next) (Outcome.refuses tokens reason.Depth) ≡ Outcome.reads x
      → (outcome over (front ++ more) next ≡ Outcome.reads x → Through levels asks over front more next x)
      → (goal : State) × (onward (passed levels asks front) (cond (nat_lt level levels) (Some next) None) ≡ Some goal) × (outcome over more goal ≡ Outcome.reads x)
  through_opening tokens front level next true c e f none r rest =
      let t = rest r in (t.to, ap (λ (d : Bool). onward (passed levels asks front) (cond d (Some next) None)) e ∙ t.passes, t.then)
  through_opening tokens front level next false true e f none r rest = absurd (cc none)
  through_opening tokens front level next false false e f none r rest = refused _ tokens reason.Depth x r

  through_asking : (tokens front : Tokens) (next : State) (b : Bool) → asks ≡ b
      → cond b (outcome over (front ++ more) next) (Outcome.refuses tokens reason.NoExplore) ≡ Outcome.reads x
      → (outcome over (front ++ more) next ≡ Outcome.reads x → Through levels asks over front more next x)
      → (goal : State) × (onward (passed levels asks front) (cond asks (Some next) None) ≡ Some goal) × (outcome over more goal ≡ Outcome.reads x)
  through_asking tokens front next true e r rest =
      let t = rest r in (t.to, ap (λ (d : Bool). onward (passed levels asks front) (cond d (Some next) None)) e ∙ t.passes, t.then)
  through_asking tokens front next false e r rest = refused _ tokens reason.NoExplore x r

  through_move : (tokens front : Tokens) (moved : Moved) → settled over tokens (length (front ++ more)) (outcome over (front ++ more)) moved ≡ Outcome.reads x
      → ((next : State) → outcome over (front ++ more) next ≡ Outcome.reads x → Through levels asks over front more next x)
      → (goal : State) × (onward (passed levels asks front) (allowed levels asks moved) ≡ Some goal) × (outcome over more goal ≡ Outcome.reads x)
  through_move tokens front Moved.stops r rest = refused _ tokens reason.Syntax x r
  through_move tokens front (Moved.moves next) r rest = let t = rest next r in (t.to, t.passes, t.then)
  through_move tokens front (Moved.opens level next) r rest =
      through_opening tokens front level next (nat_lt level levels) (nat_lt (length (front ++ more)) (length more)) refl refl (not_behind more front) r (rest next)
  through_move tokens front (Moved.asks next) r rest = through_asking tokens front next asks refl r (rest next)

  pub through : (front : Tokens) (state : State) → outcome over (front ++ more) state ≡ Outcome.reads x → Through levels asks over front more state x
  through [] state r = record { to = state; passes = refl; then = r }
  through (t ∷ front) state r =
      let s = through_move (t ∷ (front ++ more)) front (step state t.line t.token) r (λ next q. through front next q) in
      record { to = s.0; passes = s.1; then = s.2 }

-- More levels, and questions before any EXPLORE, change no state.

both_open : (A : State → State → Type 0) (levels levels' : ℕ) (asks asks' : Bool) (front : Tokens) (next r r' : State) (b c : Bool)
    → onward (passed levels asks front) (cond b (Some next) None) ≡ Some r → onward (passed levels' asks' front) (cond c (Some next) None) ≡ Some r'
    → (passed levels asks front next ≡ Some r → passed levels' asks' front next ≡ Some r' → r ≡ r') → r ≡ r'
both_open A levels levels' asks asks' front next r r' true true p q rest = rest p q
both_open A levels levels' asks asks' front next r r' true false p q rest = no_state _ r' q
both_open A levels levels' asks asks' front next r r' false c p q rest = no_state _ r p

module _ (levels levels' : ℕ) (asks asks' : Bool) where
  both_move : (front : Tokens) (moved : Moved) (r r' : State) → onward (passed levels asks front) (allowed levels asks moved) ≡ Some r → onward (passed levels' asks' front) (allowed levels' asks' moved) ≡ Some r'
      → ((next : State) → passed levels asks front next ≡ Some r → passed levels' asks' front next ≡ Some r' → r ≡ r') → r ≡ r'
  both_move front Moved.stops r r' p q rest = no_state _ r p
  both_move front (Moved.moves next) r r' p q rest = rest next p q
  both_move front (Moved.opens level next) r r' p q rest = both_open (λ a b. a ≡ b) levels levels' asks asks' front next r r' (nat_lt level levels) (nat_lt level levels') p q (rest next)
  both_move front (Moved.asks next) r r' p q rest = both_open (λ a b. a ≡ b) levels levels' asks asks' front next r r' asks asks' p q (rest next)

  pub same_state : (front : Tokens) (state r r' : State) → passed levels asks front state ≡ Some r → passed levels' asks' front state ≡ Some r' → r ≡ r'
  same_state [] state r r' p q = sym (one_state state r p) ∙ one_state state r' q
  same_state (t ∷ front) state r r' p q = both_move front (step state t.line t.token) r r' p q (λ next a b. same_state front next r r' a b)

  wider_open : (front : Tokens) (next r : State) (b c : Bool) → (b ≡ true → c ≡ true) → onward (passed levels asks front) (cond b (Some next) None) ≡ Some r
      → (passed levels asks front next ≡ Some r → passed levels' asks' front next ≡ Some r) → onward (passed levels' asks' front) (cond c (Some next) None) ≡ Some r
  wider_open front next r true c more p rest = ap (λ (d : Bool). onward (passed levels' asks' front) (cond d (Some next) None)) (more refl) ∙ rest p
  wider_open front next r false c more p rest = no_state _ r p

  wider_move : ((level : ℕ) → nat_lt level levels ≡ true → nat_lt level levels' ≡ true) → (asks ≡ true → asks' ≡ true) → (front : Tokens) (moved : Moved) (r : State)
      → onward (passed levels asks front) (allowed levels asks moved) ≡ Some r
      → ((next : State) → passed levels asks front next ≡ Some r → passed levels' asks' front next ≡ Some r) → onward (passed levels' asks' front) (allowed levels' asks' moved) ≡ Some r
  wider_move more may front Moved.stops r p rest = no_state _ r p
  wider_move more may front (Moved.moves next) r p rest = rest next p
  wider_move more may front (Moved.opens level next) r p rest = wider_open front next r (nat_lt level levels) (nat_lt level levels') (more level) p (rest next)
  wider_move more may front (Moved.asks next) r p rest = wider_open front next r asks asks' may p (rest next)

  pub wider : ((level : ℕ) → nat_lt level levels ≡ true → nat_lt level levels' ≡ true) → (asks ≡ true → asks' ≡ true) → (front : Tokens) (state r : State)
      → passed levels asks front state ≡ Some r → passed levels' asks' front state ≡ Some r
  wider more may [] state r p = p
  wider more may (t ∷ front) state r p = wider_move more may front (step state t.line t.token) r p (λ next q. wider more may front next r q)

-- One token behind a front.

pub record Split (levels : ℕ) (asks : Bool) (front : Tokens) (t : Placed) (state r : State) : Type 0 where
  pub to : State
  pub passes : passed levels asks front state ≡ Some to
  pub last : allowed levels asks (step to t.line t.token) ≡ Some r

module _ (levels : ℕ) (asks : Bool) where
  -- a token behind the front
  after_one : (m : Option State) (front : Tokens) (t : Placed) (to r : State) → ((state : State) → passed levels asks front state ≡ Some to → passed levels asks (front ++ t ∷ []) state ≡ Some r)
      → onward (passed levels asks front) m ≡ Some to → onward (passed levels asks (front ++ t ∷ [])) m ≡ Some r
  after_one None front t to r rest p = no_state _ to p
  after_one (Some next) front t to r rest p = rest next p

  pub then_one : (front : Tokens) (t : Placed) (state to r : State) → passed levels asks front state ≡ Some to → allowed levels asks (step to t.line t.token) ≡ Some r → passed levels asks (front ++ t ∷ []) state ≡ Some r
  then_one [] t state to r p q =
      subst (λ (s : State). onward (passed levels asks []) (allowed levels asks (step s t.line t.token)) ≡ Some r) (sym (one_state state to p)) (ap (onward (λ s. Some s)) q)
  then_one (u ∷ front) t state to r p q = after_one (allowed levels asks (step state u.line u.token)) front t to r (λ next a. then_one front t next to r a q) p

  split_one : (m : Option State) (front : Tokens) (t : Placed) (r : State) → ((state : State) → passed levels asks (front ++ t ∷ []) state ≡ Some r → Split levels asks front t state r)
      → onward (passed levels asks (front ++ t ∷ [])) m ≡ Some r → (to : State) × (onward (passed levels asks front) m ≡ Some to) × (allowed levels asks (step to t.line t.token) ≡ Some r)
  split_one None front t r rest p = no_state _ r p
  split_one (Some next) front t r rest p = let s = rest next p in (s.to, s.passes, s.last)

  reached : (m : Option State) (r : State) → onward (λ s. Some s) m ≡ Some r → m ≡ Some r
  reached None r p = p
  reached (Some next) r p = p

  pub split : (front : Tokens) (t : Placed) (state r : State) → passed levels asks (front ++ t ∷ []) state ≡ Some r → Split levels asks front t state r
  split [] t state r p = record { to = state; passes = refl; last = reached (allowed levels asks (step state t.line t.token)) r p }
  split (u ∷ front) t state r p =
      let s = split_one (allowed levels asks (step state u.line u.token)) front t r (λ next a. split front t next r a) p in
      record { to = s.0; passes = s.1; last = s.2 }
