-- What the machine reads is accepted.
use Rattle.std.proofs.Common.{◌≡◌, ℕ, Bool, true, false, cond, List, [], ◌∷◌, length, None, refl, sym, ◌∙◌, ap, subst}
use Rattle.std.proofs.lemmas.List.{append-nil}
use Rattle.query_tokens.specs.declared.keyword.Keyword.TheVariants as keyword
use Rattle.query_tokens.specs.declared.token.Token.TheVariants as token
use Rattle.query_lang.specs.declared.formula.Named.{Named}
use Rattle.query_lang.specs.declared.formula.Named.TheVariants as named
use Rattle.query_lang.specs.declared.literal.Literal.TheVariants as literal
use Rattle.query_lang.specs.declared.script.Script.{Script}
use Rattle.query_lang.specs.declared.script.ScriptReason.{ScriptReason}
use Rattle.query_lang.specs.declared.script.Statement.{Statement}
use Rattle.query_lang.specs.declared.term.NamedTerm.TheVariants as term
use Rattle.query_lang.specs.Rules.{Rules}
use Rattle.query_lang.specs.Words.{Tokens, number}
use Rattle.query_lang.specs.Literals.{NumberTest}
use Rattle.query_lang.specs.Formulas.{IsAtom, IsConjunction, IsDisjunction, IsEquivalence, conjunction, disjunction, equivalence}
use Rattle.query_lang.specs.Statements.{AreDeclared, AreUnder, AreIncluded}
use Rattle.query_lang.specs.Scripts.{AreStatements, IsScript}
use Rattle.query_lang.specs.Machine.Due.{Due, State, Moved}
use Rattle.query_lang.specs.Machine.Steps.{step}
use Rattle.query_lang.specs.Machine.Outcome.{Outcome, outcome, ends, settled, of_script}
use Rattle.query_lang.proofs.Accepting.{AfterLeft, Accepts, AcceptsBy}
use Rattle.query_lang.proofs.Joining.{no_more}
use Rattle.query_lang.proofs.ListSteps.{dots_left, second_left, components_left, call_left, names_left, atoms_left, tests_left}
use Rattle.query_lang.proofs.Backward.{backward}

refused : (ts : Tokens) (why : ScriptReason) (x : Script) → Outcome.refuses ts why ≡ Outcome.reads x → ⊥
refused ts why x e = cc e

pub one_script : (a b : Script) → Outcome.reads a ≡ Outcome.reads b → a ≡ b
one_script a b e = cc e

module _ (rules : Rules) (x : Script) where
  at_end : (state : State) → ends state ≡ Outcome.reads x → Accepts rules state [] x
  at_end (State.statements explored parts) e = ([], ap (λ (s : Script). s.statements) (sym (one_script (record { statements = parts }) x e)) ∙ sym (append-nil parts), AreStatements.none explored)
  at_end (State.want (Due.dots text) k) e = dots_left rules x text k [] (at_end (k (literal.Number (number text))) e)
  at_end (State.want (Due.second first) k) e = second_left rules x first k [] (at_end (k (NumberTest.range first first)) e)
  at_end (State.want (Due.components parts) k) e = components_left rules x parts k [] (at_end (k (record { parts = parts })) e)
  at_end (State.want (Due.called level text) k) e = call_left rules x level text k [] (at_end (k (term.Name text)) e)
  at_end (State.want (Due.holds_tail level text parts) k) e = (named.Holds text parts, [], λ i tokens args. IsAtom.holds level i text parts tokens [] args, at_end (k (named.Holds text parts)) e)
  at_end (State.want (Due.more_and level parts) k) e = (conjunction parts, [], (parts, refl, no_more Named (token.Keyword keyword.And) (IsConjunction rules level) parts []), at_end (k (conjunction parts)) e)
  at_end (State.want (Due.more_or level parts) k) e = (disjunction parts, [], (parts, refl, no_more Named (token.Keyword keyword.Or) (IsDisjunction rules level) parts []), at_end (k (disjunction parts)) e)
  at_end (State.want (Due.implies level left) k) e = (left, [], AfterLeft.alone [], at_end (k left) e)
  at_end (State.want (Due.more_iff level parts) k) e = (equivalence parts, [], (parts, refl, no_more Named (token.Keyword keyword.Iff) (IsEquivalence rules level) parts []), at_end (k (equivalence parts)) e)
  at_end (State.want Due.vars k) e = ([], [], AreDeclared.none [], at_end (k []) e)
  at_end (State.want Due.under k) e = ([], [], AreUnder.none [], at_end (k []) e)
  at_end (State.want (Due.more_names parts) k) e = names_left rules x parts k [] (at_end (k parts) e)
  at_end (State.want Due.include k) e = ([], [], AreIncluded.none [], at_end (k []) e)
  at_end (State.want (Due.more_atoms parts) k) e = atoms_left rules x parts k [] (at_end (k parts) e)
  at_end (State.want (Due.more_tests parts) k) e = tests_left rules x parts k [] (at_end (k parts) e)
  at_end (State.want due k) e = absurd (refused [] _ x e)

  opened : (tokens ts : Tokens) (why : ScriptReason) (state : State) (level : ℕ) (b : Bool) → rules.opens level (length ts) ≡ b → cond b (outcome rules ts state) (Outcome.refuses tokens why) ≡ Outcome.reads x
      → (outcome rules ts state ≡ Outcome.reads x → Accepts rules state ts x) → (rules.opens level (length ts) ≡ true) × Accepts rules state ts x
  opened tokens ts why state level true may e rest = (may, rest e)
  opened tokens ts why state level false may e rest = absurd (refused tokens why x e)

  asked : (tokens ts : Tokens) (why : ScriptReason) (state : State) (b : Bool) → rules.asks ≡ b → cond b (outcome rules ts state) (Outcome.refuses tokens why) ≡ Outcome.reads x
      → (outcome rules ts state ≡ Outcome.reads x → Accepts rules state ts x) → (rules.asks ≡ true) × Accepts rules state ts x
  asked tokens ts why state true may e rest = (may, rest e)
  asked tokens ts why state false may e rest = absurd (refused tokens why x e)

  by_move : (tokens ts : Tokens) (moved : Moved) → settled rules tokens (length ts) (outcome rules ts) moved ≡ Outcome.reads x
      → ((state : State) → outcome rules ts state ≡ Outcome.reads x → Accepts rules state ts x) → AcceptsBy rules moved ts x
  by_move tokens ts Moved.stops e rest = absurd (refused tokens _ x e)
  by_move tokens ts (Moved.moves state) e rest = rest state e
  by_move tokens ts (Moved.opens level state) e rest = opened tokens ts _ state level (rules.opens level (length ts)) refl e (rest state)
  by_move tokens ts (Moved.asks state) e rest = asked tokens ts _ state rules.asks refl e (rest state)

  pub accepted : (ts : Tokens) (state : State) → outcome rules ts state ≡ Outcome.reads x → Accepts rules state ts x
  accepted [] state e = at_end state e
  accepted (t ∷ ts) state e = backward rules x state t.line t.token ts (by_move (t ∷ ts) ts (step state t.line t.token) e (accepted ts))

  pub script_accepted : (ts : Tokens) → Accepts rules of_script ts x → IsScript rules x ts
  script_accepted ts (more, e, are) = subst (λ (l : List Statement). AreStatements rules None l ts) (sym e) are

  pub read_as : (ts : Tokens) → outcome rules ts of_script ≡ Outcome.reads x → IsScript rules x ts
  read_as ts e = script_accepted ts (accepted ts of_script e)
