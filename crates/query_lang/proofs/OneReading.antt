-- Bytes are one script, or are refused once.
use Rattle.std.proofs.Common.{◌≡◌, ℕ, Bool, true, false, cond, ◌||◌, nat_lt, List, [], ◌∷◌, ◌++◌, length, Option, Some, refl, ap, ◌∙◌, sym, subst, append_assoc, length-append, arith}
use Rattle.std.proofs.lemmas.Bool.{ltb-true, lt-ltb}
use Rattle.std.proofs.lemmas.List.{append-nil}
use Rattle.query_tokens.specs.declared.token.Placed.{Placed}
use Rattle.query_tokens.specs.Tokens.{AreTokens}
use Rattle.query_lang.specs.declared.script.Script.{Script}
use Rattle.query_lang.specs.declared.script.ScriptReason.{ScriptReason}
use Rattle.query_lang.specs.declared.script.ScriptReason.TheVariants as reason
use Rattle.query_lang.specs.Rules.{levelled}
use Rattle.query_lang.specs.Words.{Tokens}
use Rattle.query_lang.specs.Scripts.{IsScript}
use Rattle.query_lang.specs.Refusal.{Begins, GoesOn, IsReason, IsRefused, first_of}
use Rattle.query_lang.specs.Readings.{Reads, Refuses, line_at}
use Rattle.query_lang.specs.Machine.Due.{State, Moved}
use Rattle.query_lang.specs.Machine.Steps.{step}
use Rattle.query_lang.specs.Machine.Outcome.{Outcome, outcome, settled, strict, of_script}
use Rattle.query_lang.proofs.Accepted.{one_script, read_as}
use Rattle.query_lang.proofs.ScriptRuns.{script_runs}
use Rattle.query_lang.proofs.Refusing.{refused_as, read_refused, both_go}

-- A script that opens levels only where it may is one where it may open more.

module _ (levels less more : ℕ) (asks : Bool) (wide : (behind : ℕ) → nat_lt behind less ≡ true → nat_lt behind more ≡ true) (x : Script) where
  kept : (tokens ts : Tokens) (state : State) (level : ℕ) (b c : Bool) → nat_lt (length ts) less ≡ c → cond (b || c) (outcome (levelled levels less asks) ts state) (Outcome.refuses tokens reason.Depth) ≡ Outcome.reads x
      → (outcome (levelled levels less asks) ts state ≡ Outcome.reads x → outcome (levelled levels more asks) ts state ≡ Outcome.reads x)
      → cond (b || nat_lt (length ts) more) (outcome (levelled levels more asks) ts state) (Outcome.refuses tokens reason.Depth) ≡ Outcome.reads x
  kept tokens ts state level true c e r rest = rest r
  kept tokens ts state level false true e r rest = ap (λ (d : Bool). cond d (outcome (levelled levels more asks) ts state) (Outcome.refuses tokens reason.Depth)) (wide (length ts) e) ∙ rest r
  kept tokens ts state level false false e r rest = read_refused _ x tokens reason.Depth (sym r)

  kept_asks : (tokens ts : Tokens) (state : State) (b : Bool) → cond b (outcome (levelled levels less asks) ts state) (Outcome.refuses tokens reason.NoExplore) ≡ Outcome.reads x
      → (outcome (levelled levels less asks) ts state ≡ Outcome.reads x → outcome (levelled levels more asks) ts state ≡ Outcome.reads x)
      → cond b (outcome (levelled levels more asks) ts state) (Outcome.refuses tokens reason.NoExplore) ≡ Outcome.reads x
  kept_asks tokens ts state true r rest = rest r
  kept_asks tokens ts state false r rest = r

  kept_move : (tokens ts : Tokens) (moved : Moved) → settled (levelled levels less asks) tokens (length ts) (outcome (levelled levels less asks) ts) moved ≡ Outcome.reads x
      → ((state : State) → outcome (levelled levels less asks) ts state ≡ Outcome.reads x → outcome (levelled levels more asks) ts state ≡ Outcome.reads x)
      → settled (levelled levels more asks) tokens (length ts) (outcome (levelled levels more asks) ts) moved ≡ Outcome.reads x
  kept_move tokens ts Moved.stops r rest = r
  kept_move tokens ts (Moved.moves state) r rest = rest state r
  kept_move tokens ts (Moved.opens level state) r rest = kept tokens ts state level (nat_lt level levels) (nat_lt (length ts) less) refl r (rest state)
  kept_move tokens ts (Moved.asks state) r rest = kept_asks tokens ts state asks r (rest state)

  freed : (ts : Tokens) (state : State) → outcome (levelled levels less asks) ts state ≡ Outcome.reads x → outcome (levelled levels more asks) ts state ≡ Outcome.reads x
  freed [] state r = r
  freed (t ∷ ts) state r = kept_move (t ∷ ts) ts (step state t.line t.token) r (λ next q. freed ts next q)

  pub script_freed : (ts : Tokens) → IsScript (levelled levels less asks) x ts → IsScript (levelled levels more asks) x ts
  script_freed ts is = read_as (levelled levels more asks) x ts (freed ts of_script (script_runs (levelled levels less asks) x ts is))

-- A script goes on from each of its fronts.

none_less : (more behind : ℕ) → nat_lt behind 0 ≡ true → nat_lt behind more ≡ true
none_less more behind e = let less = ltb-true behind 0 e in absurd (omega arith)

goes : (x : Script) (tokens front back : Tokens) → tokens ≡ front ++ back → IsScript strict x tokens → GoesOn 64 false front (first_of back)
goes x tokens front [] whole is = (x, subst (λ (l : Tokens). IsScript strict x l) (whole ∙ append-nil front) is)
goes x tokens front (t ∷ more) whole is =
    (more, x, script_freed 64 0 (length more) false (none_less (length more)) x ((front ++ t ∷ []) ++ more) (subst (λ (l : Tokens). IsScript strict x l) (whole ∙ sym (append_assoc front (t ∷ []) more)) is))

pub tokens_not_both : (x : Script) (tokens back : Tokens) (why : ScriptReason) → IsScript strict x tokens → IsRefused tokens back why → ⊥
tokens_not_both x tokens back why is r = r.stops (goes x tokens r.front back r.whole is)

pub tokens_one_script : (x y : Script) (tokens : Tokens) → IsScript strict x tokens → IsScript strict y tokens → x ≡ y
tokens_one_script x y tokens is other = one_script x y (sym (script_runs strict x tokens is) ∙ script_runs strict y tokens other)

by_outcome : (tokens : Tokens) (o : Outcome) → outcome strict tokens of_script ≡ o → ((x : Script) → IsScript strict x tokens → ⊥) → ((back : Tokens) (why : ScriptReason) → IsRefused tokens back why → ⊥) → ⊥
by_outcome tokens (Outcome.reads x) e none unrefused = none x (read_as strict x tokens e)
by_outcome tokens (Outcome.refuses back why) e none unrefused = unrefused back why (refused_as tokens back why e)

pub tokens_not_neither : (tokens : Tokens) → ((x : Script) → IsScript strict x tokens → ⊥) → ((back : Tokens) (why : ScriptReason) → IsRefused tokens back why → ⊥) → ⊥
tokens_not_neither tokens none unrefused = by_outcome tokens (outcome strict tokens of_script) refl none unrefused

-- Two fronts of the same tokens are one, or one goes on to the other.

data Cuts (a b c d : Tokens) : Type 0 where
  same : a ≡ c → b ≡ d → Cuts a b c d
  before : (t : Placed) (x : Tokens) → c ≡ a ++ (t ∷ x) → first_of b ≡ Some t → Cuts a b c d
  beyond_it : (t : Placed) (x : Tokens) → a ≡ c ++ (t ∷ x) → first_of d ≡ Some t → Cuts a b c d

both_longer : (x y : Placed) (a b c d : Tokens) → x ∷ (a ++ b) ≡ y ∷ (c ++ d) → Cuts a b c d → Cuts (x ∷ a) b (y ∷ c) d
both_longer x y a b c d is (Cuts.same p q) = Cuts.same (cc (is, p)) q
both_longer x y a b c d is (Cuts.before t z p q) = Cuts.before t z (cc (is, p)) q
both_longer x y a b c d is (Cuts.beyond_it t z p q) = Cuts.beyond_it t z (cc (is, p)) q

cuts : (a b c d : Tokens) → a ++ b ≡ c ++ d → Cuts a b c d
cuts [] b [] d is = Cuts.same refl is
cuts [] b (y ∷ c) d is = Cuts.before y c refl (ap first_of is)
cuts (x ∷ a) b [] d is = Cuts.beyond_it x a refl (ap first_of (sym is))
cuts (x ∷ a) b (y ∷ c) d is = both_longer x y a b c d is (cuts a b c d (cc is))

longer_behind : (x more : Tokens) (behind : ℕ) → nat_lt behind (length more) ≡ true → nat_lt behind (length (x ++ more)) ≡ true
longer_behind x more behind e = let less = ltb-true behind (length more) e in lt-ltb behind (length (x ++ more)) (omega (arith, length-append x more))

-- a front that goes beyond another goes on from it
beyond : (a b c : Tokens) (t : Placed) (x : Tokens) → c ≡ a ++ (t ∷ x) → first_of b ≡ Some t → Begins 64 false c → GoesOn 64 false a (first_of b)
beyond a b c t x whole next begun =
    subst (λ (n : Option Placed). GoesOn 64 false a n) (sym next) (
      x ++ begun.0,
      begun.1,
      script_freed 64 (length begun.0) (length (x ++ begun.0)) false (longer_behind x begun.0) begun.1 ((a ++ t ∷ []) ++ (x ++ begun.0))
          (subst (λ (l : Tokens). IsScript (levelled 64 (length begun.0) false) begun.1 l) (ap (λ (l : Tokens). l ++ begun.0) (whole ∙ sym (append_assoc a (t ∷ []) x)) ∙ append_assoc (a ++ t ∷ []) x begun.0) begun.2),
    )

one_reason : (r s : ScriptReason) (front : Tokens) (next : Option Placed) → Begins 64 false front → (GoesOn 64 false front next → ⊥) → IsReason r front next → IsReason s front next → r ≡ s
one_reason reason.Syntax reason.Syntax front next begun stops p q = refl
one_reason reason.Depth reason.Depth front next begun stops p q = refl
one_reason reason.NoExplore reason.NoExplore front next begun stops p q = refl
one_reason reason.Syntax reason.Depth front next begun stops p q = absurd (p q.0 false q.1)
one_reason reason.Depth reason.Syntax front next begun stops p q = absurd (q p.0 false p.1)
one_reason reason.Syntax reason.NoExplore front next begun stops p q = absurd (p 64 true q)
one_reason reason.NoExplore reason.Syntax front next begun stops p q = absurd (q 64 true p)
one_reason reason.Depth reason.NoExplore front next begun stops p q = absurd (stops (both_go p.0 front next begun p.1 q))
one_reason reason.NoExplore reason.Depth front next begun stops p q = absurd (stops (both_go q.0 front next begun q.1 p))

by_cuts : (tokens b d : Tokens) (why other : ScriptReason) → (r : IsRefused tokens b why) → (s : IsRefused tokens d other) → Cuts r.front b s.front d → (b ≡ d) × (why ≡ other)
by_cuts tokens b d why other r s (Cuts.same p q) =
    let back = subst (λ (x : Tokens). IsReason other s.front (first_of x)) (sym q) s.reason in
    let same = subst (λ (x : Tokens). IsReason other x (first_of b)) (sym p) back in
    (q, one_reason why other r.front (first_of b) r.begun r.stops r.reason same)
by_cuts tokens b d why other r s (Cuts.before t x p q) = absurd (r.stops (beyond r.front b s.front t x p q s.begun))
by_cuts tokens b d why other r s (Cuts.beyond_it t x p q) = absurd (s.stops (beyond s.front d r.front t x p q r.begun))

pub tokens_one_refusal : (tokens b d : Tokens) (why other : ScriptReason) → IsRefused tokens b why → IsRefused tokens d other → (b ≡ d) × (why ≡ other)
tokens_one_refusal tokens b d why other r s = by_cuts tokens b d why other r s (cuts r.front b s.front d (sym r.whole ∙ s.whole))

-- The same of bytes, whose tokens are one list.

module _ (one : (bytes : List ℕ) (a b : Tokens) → AreTokens bytes a → AreTokens bytes b → a ≡ b) where
  pub same_script : (bytes : List ℕ) (first second : Script) → Reads bytes first → Reads bytes second → first ≡ second
  same_script bytes first second r s = tokens_one_script first second r.tokens r.is (subst (λ (l : Tokens). IsScript strict second l) (one bytes s.tokens r.tokens s.cut r.cut) s.is)

  one_refusal : (bytes : List ℕ) (line other : ℕ) (why reason : ScriptReason) → (r : Refuses bytes line why) → (s : Refuses bytes other reason) → (r.back ≡ s.back) × (why ≡ reason)
  one_refusal bytes line other why reason r s =
      tokens_one_refusal r.tokens r.back s.back why reason r.refused (subst (λ (l : Tokens). IsRefused l s.back reason) (one bytes s.tokens r.tokens s.cut r.cut) s.refused)

  pub same_line : (bytes : List ℕ) (line other : ℕ) (why reason : ScriptReason) → Refuses bytes line why → Refuses bytes other reason → line ≡ other
  same_line bytes line other why reason r s = r.at ∙ ap (line_at bytes) (one_refusal bytes line other why reason r s).0 ∙ sym s.at

  pub same_reason : (bytes : List ℕ) (line other : ℕ) (why reason : ScriptReason) → Refuses bytes line why → Refuses bytes other reason → why ≡ reason
  same_reason bytes line other why reason r s = (one_refusal bytes line other why reason r s).1

  pub not_both : (bytes : List ℕ) (script : Script) (line : ℕ) (why : ScriptReason) → Reads bytes script → Refuses bytes line why → ⊥
  not_both bytes script line why r s = tokens_not_both script s.tokens s.back why (subst (λ (l : Tokens). IsScript strict script l) (one bytes r.tokens s.tokens r.cut s.cut) r.is) s.refused

  pub not_neither : ((bytes : List ℕ) → ((tokens : Tokens) → AreTokens bytes tokens → ⊥) → ⊥) → (bytes : List ℕ) → ((script : Script) → Reads bytes script → ⊥)
      → ((line : ℕ) (why : ScriptReason) → Refuses bytes line why → ⊥) → ⊥
  not_neither some bytes unread unrefused =
      some bytes (λ tokens cut. tokens_not_neither tokens (λ script is. unread script (record { tokens = tokens; cut = cut; is = is }))
      (λ back why is. unrefused (line_at bytes back) why (record { tokens = tokens; cut = cut; back = back; refused = is; at = refl })))
