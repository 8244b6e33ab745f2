-- Tokens that are read as a script are one.
use Rattle.std.proofs.Common.{ℕ, [], ◌∷◌, ◌++◌, refl}
use Rattle.query_tokens.specs.declared.keyword.Keyword.TheVariants as keyword
use Rattle.query_tokens.specs.declared.token.Sign.TheVariants as sign_of
use Rattle.query_tokens.specs.declared.token.Token.{Token}
use Rattle.query_tokens.specs.declared.token.Token.TheVariants as token
use Rattle.query_lang.specs.declared.formula.Named.{Named}
use Rattle.query_lang.specs.declared.formula.Named.TheVariants as named
use Rattle.query_lang.specs.declared.literal.Literal.TheVariants as literal
use Rattle.query_lang.specs.declared.script.Script.{Script}
use Rattle.query_lang.specs.declared.term.NamedTerm.TheVariants as term
use Rattle.query_lang.specs.Rules.{Rules}
use Rattle.query_lang.specs.Words.{Tokens, on, number}
use Rattle.query_lang.specs.Literals.{NumberTest}
use Rattle.query_lang.specs.Formulas.{IsAtom, IsConjunction, IsDisjunction, IsEquivalence, conjunction, disjunction, equivalence}
use Rattle.query_lang.specs.Statements.{IsName, AreDeclared, AreUnder, AreIncluded}
use Rattle.query_lang.specs.Machine.Due.{Due, State, Moved}
use Rattle.query_lang.specs.Machine.Steps.{step, load_word, show_word, statement_word}
use Rattle.query_lang.proofs.Accepting.{IsOne, IsQuoted, IsNumber, AfterLeft, Accepts, AcceptsBy}
use Rattle.query_lang.proofs.Choices.{if_word, if_sign, if_name, if_quoted, if_number, if_some_word}
use Rattle.query_lang.proofs.Joining.{no_more}
use Rattle.query_lang.proofs.FormulaSteps.{atom_found, atom_read, call_equal, call_tested, unary_read, and_more, or_more, iff_more, implies_more}
use Rattle.query_lang.proofs.ListSteps.{literal_found, dots_read, dots_left, second_read, component_found, components_read, components_left, call_read, call_left, args_read, arg_found, first_arg_read, more_args_read, args_end, vars_read, more_vars_read, vars_end, under_read, more_names_read, names_left, include_read, more_atoms_read, atoms_left, more_literals_read, literals_end, more_tests_read, tests_left}
use Rattle.query_lang.proofs.StatementSteps.{load_file, show_what, statement_read}

module _ (rules : Rules) (x : Script) where
  pub backward : (state : State) (line : ℕ) (t : Token) (ts : Tokens) → AcceptsBy rules (step state line t) ts x → Accepts rules state (on line t ∷ ts) x
  backward (State.want (Due.word w) k) line t ts a = if_word rules ts x (λ t. Accepts rules (State.want (Due.word w) k) (on line t ∷ ts) x) w t _ _ a (λ b. (tt, ts, IsOne.one line ts, b)) (λ b. absurd b)
  backward (State.want (Due.sign s) k) line t ts a = if_sign rules ts x (λ t. Accepts rules (State.want (Due.sign s) k) (on line t ∷ ts) x) s t _ _ a (λ b. (tt, ts, IsOne.one line ts, b)) (λ b. absurd b)
  backward (State.want Due.name k) line t ts a = if_name rules ts x (λ t. Accepts rules (State.want Due.name k) (on line t ∷ ts) x) _ t a (λ text b. (text, ts, IsName.plain line text ts, b))
  backward (State.want Due.quoted k) line t ts a = if_quoted rules ts x (λ t. Accepts rules (State.want Due.quoted k) (on line t ∷ ts) x) _ t a (λ text b. (text, ts, IsQuoted.enclosed line text ts, b))
  backward (State.want Due.component k) line t ts a = component_found rules x line k ts t a
  backward (State.want (Due.number low high fits) k) line t ts a =
      if_number rules ts x (λ t. Accepts rules (State.want (Due.number low high fits) k) (on line t ∷ ts) x) low high (λ n. Moved.moves (k n)) t a (λ text e b. (number text, ts, IsNumber.numeral line text ts e, b))
  backward (State.want Due.literal k) line t ts a = literal_found rules x line k ts t a
  backward (State.want (Due.dots text) k) line t ts a =
      if_sign rules ts x (λ t. Accepts rules (State.want (Due.dots text) k) (on line t ∷ ts) x) sign_of.Dot t _ _ a (λ b. dots_read rules x line text k ts b)
      (λ b. dots_left rules x text k (on line t ∷ ts) (backward (k (literal.Number (number text))) line t ts b))
  backward (State.want (Due.second first) k) line t ts a = second_read rules x line first k ts t (backward (k (NumberTest.range first first)) line t ts) a
  backward (State.want (Due.components parts) k) line t ts a =
      if_sign rules ts x (λ t. Accepts rules (State.want (Due.components parts) k) (on line t ∷ ts) x) sign_of.Dot t _ _ a (λ b. components_read rules x line parts k ts b)
      (λ b. components_left rules x parts k (on line t ∷ ts) (backward (k (record { parts = parts })) line t ts b))
  backward (State.want (Due.called level text) k) line t ts a =
      if_sign rules ts x (λ t. Accepts rules (State.want (Due.called level text) k) (on line t ∷ ts) x) sign_of.Open t _ _ a (λ b. call_read rules x level line text k ts b.0 b.1)
      (λ b. call_left rules x level text k (on line t ∷ ts) (backward (k (term.Name text)) line t ts b))
  backward (State.want (Due.args level) k) line t ts a =
      if_sign rules ts x (λ t. Accepts rules (State.want (Due.args level) k) (on line t ∷ ts) x) sign_of.Open t _ _ a (λ b. args_read rules x level line k ts b.0 b.1) (λ b. absurd b)
  backward (State.want (Due.first_arg level) k) line t ts a = first_arg_read rules x level line k ts t a
  backward (State.want (Due.arg level) k) line t ts a = arg_found rules x level line k ts t a
  backward (State.want (Due.more_args level parts) k) line t ts a =
      let Goal : Token → Type 0 = λ t. Accepts rules (State.want (Due.more_args level parts) k) (on line t ∷ ts) x in
      if_sign rules ts x Goal sign_of.Comma t _ _ a (λ b. more_args_read rules x level line parts k ts b)
      (λ c. if_sign rules ts x Goal sign_of.Close t _ _ c (λ b. args_end rules x level line parts k ts b) (λ b. absurd b))
  backward (State.want (Due.atom_tail level text) k) line t ts a = atom_read rules x level line text k ts t a
  backward (State.want (Due.holds_tail level text parts) k) line t ts a =
      let Goal : Token → Type 0 = λ t. Accepts rules (State.want (Due.holds_tail level text parts) k) (on line t ∷ ts) x in
      if_sign rules ts x Goal sign_of.Equals t _ _ a (λ b. call_equal rules x level line text parts k ts b)
      (λ c. if_word rules ts x Goal keyword.In t _ _ c (λ b. call_tested rules x level line text parts k ts b)
      (λ b. (named.Holds text parts, on line t ∷ ts, λ i tokens args. IsAtom.holds level i text parts tokens (on line t ∷ ts) args, backward (k (named.Holds text parts)) line t ts b)))
  backward (State.want (Due.unary level) k) line t ts a = unary_read rules x level line k ts t a
  backward (State.want (Due.more_and level parts) k) line t ts a =
      if_word rules ts x (λ t. Accepts rules (State.want (Due.more_and level parts) k) (on line t ∷ ts) x) keyword.And t _ _ a (λ b. and_more rules x level line parts k ts b)
      (λ b. (conjunction parts, on line t ∷ ts, (parts, refl, no_more Named (token.Keyword keyword.And) (IsConjunction rules level) parts (on line t ∷ ts)), backward (k (conjunction parts)) line t ts b))
  backward (State.want (Due.more_or level parts) k) line t ts a =
      if_word rules ts x (λ t. Accepts rules (State.want (Due.more_or level parts) k) (on line t ∷ ts) x) keyword.Or t _ _ a (λ b. or_more rules x level line parts k ts b)
      (λ b. (disjunction parts, on line t ∷ ts, (parts, refl, no_more Named (token.Keyword keyword.Or) (IsDisjunction rules level) parts (on line t ∷ ts)), backward (k (disjunction parts)) line t ts b))
  backward (State.want (Due.implies level left) k) line t ts a =
      if_word rules ts x (λ t. Accepts rules (State.want (Due.implies level left) k) (on line t ∷ ts) x) keyword.Implies t _ _ a (λ b. implies_more rules x level line left k ts b.0 b.1)
      (λ b. (left, on line t ∷ ts, AfterLeft.alone (on line t ∷ ts), backward (k left) line t ts b))
  backward (State.want (Due.more_iff level parts) k) line t ts a =
      if_word rules ts x (λ t. Accepts rules (State.want (Due.more_iff level parts) k) (on line t ∷ ts) x) keyword.Iff t _ _ a (λ b. iff_more rules x level line parts k ts b)
      (λ b. (equivalence parts, on line t ∷ ts, (parts, refl, no_more Named (token.Keyword keyword.Iff) (IsEquivalence rules level) parts (on line t ∷ ts)), backward (k (equivalence parts)) line t ts b))
  backward (State.want Due.vars k) line t ts a =
      if_sign rules ts x (λ t. Accepts rules (State.want Due.vars k) (on line t ∷ ts) x) sign_of.OpenBracket t _ _ a (λ b. vars_read rules x line k ts b)
      (λ b. ([], on line t ∷ ts, AreDeclared.none (on line t ∷ ts), backward (k []) line t ts b))
  backward (State.want (Due.more_vars parts) k) line t ts a =
      let Goal : Token → Type 0 = λ t. Accepts rules (State.want (Due.more_vars parts) k) (on line t ∷ ts) x in
      if_sign rules ts x Goal sign_of.Comma t _ _ a (λ b. more_vars_read rules x line parts k ts b)
      (λ c. if_sign rules ts x Goal sign_of.CloseBracket t _ _ c (λ b. vars_end rules x line parts k ts b) (λ b. absurd b))
  backward (State.want Due.under k) line t ts a =
      if_word rules ts x (λ t. Accepts rules (State.want Due.under k) (on line t ∷ ts) x) keyword.Under t _ _ a (λ b. under_read rules x line k ts b)
      (λ b. ([], on line t ∷ ts, AreUnder.none (on line t ∷ ts), backward (k []) line t ts b))
  backward (State.want (Due.more_names parts) k) line t ts a =
      if_sign rules ts x (λ t. Accepts rules (State.want (Due.more_names parts) k) (on line t ∷ ts) x) sign_of.Comma t _ _ a (λ b. more_names_read rules x line parts k ts b)
      (λ b. names_left rules x parts k (on line t ∷ ts) (backward (k parts) line t ts b))
  backward (State.want Due.include k) line t ts a =
      if_word rules ts x (λ t. Accepts rules (State.want Due.include k) (on line t ∷ ts) x) keyword.Include t _ _ a
      (λ b. include_read rules x line k ts (atom_found rules x 0 (λ part. State.want (Due.more_atoms (part ∷ [])) k) ts b))
      (λ b. ([], on line t ∷ ts, AreIncluded.none (on line t ∷ ts), backward (k []) line t ts b))
  backward (State.want (Due.more_atoms parts) k) line t ts a =
      if_sign rules ts x (λ t. Accepts rules (State.want (Due.more_atoms parts) k) (on line t ∷ ts) x) sign_of.Comma t _ _ a
      (λ b. more_atoms_read rules x line parts k ts (atom_found rules x 0 (λ part. State.want (Due.more_atoms (parts ++ part ∷ [])) k) ts b))
      (λ b. atoms_left rules x parts k (on line t ∷ ts) (backward (k parts) line t ts b))
  backward (State.want (Due.more_literals parts) k) line t ts a =
      let Goal : Token → Type 0 = λ t. Accepts rules (State.want (Due.more_literals parts) k) (on line t ∷ ts) x in
      if_sign rules ts x Goal sign_of.Comma t _ _ a (λ b. more_literals_read rules x line parts k ts b)
      (λ c. if_sign rules ts x Goal sign_of.Close t _ _ c (λ b. literals_end rules x line parts k ts b) (λ b. absurd b))
  backward (State.want (Due.more_tests parts) k) line t ts a =
      if_sign rules ts x (λ t. Accepts rules (State.want (Due.more_tests parts) k) (on line t ∷ ts) x) sign_of.Comma t _ _ a (λ b. more_tests_read rules x line parts k ts b)
      (λ b. tests_left rules x parts k (on line t ∷ ts) (backward (k parts) line t ts b))
  backward (State.want Due.load k) line t ts a = if_some_word rules ts x (λ t. Accepts rules (State.want Due.load k) (on line t ∷ ts) x) (load_word k) t a (λ w b. load_file rules x line k ts w b)
  backward (State.want Due.show k) line t ts a = if_some_word rules ts x (λ t. Accepts rules (State.want Due.show k) (on line t ∷ ts) x) (show_word k) t a (λ w b. show_what rules x line k ts w b)
  backward (State.statements explored parts) line t ts a =
      if_some_word rules ts x (λ t. Accepts rules (State.statements explored parts) (on line t ∷ ts) x) (statement_word explored parts line) t a (λ w b. statement_read rules x explored parts line ts w b)
