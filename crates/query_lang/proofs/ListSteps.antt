-- Literals, terms and lists: what is accepted behind a token is accepted with it.
use Rattle.std.proofs.Common.{◌≡◌, ℕ, suc, ◌≤◌, ◌^◌, ◌-◌, Bool, true, false, cond, List, [], ◌∷◌, ◌++◌, length, refl, arith}
use Rattle.query_tokens.specs.declared.keyword.Keyword.TheVariants as keyword
use Rattle.query_tokens.specs.declared.token.Sign.TheVariants as sign_of
use Rattle.query_tokens.specs.declared.token.Token.{Token}
use Rattle.query_tokens.specs.declared.token.Token.TheVariants as token
use Rattle.query_tokens.specs.Keywords.{letters}
use Rattle.query_lang.specs.declared.formula.Named.{Named}
use Rattle.query_lang.specs.declared.literal.Literal.{Literal}
use Rattle.query_lang.specs.declared.literal.Literal.TheVariants as literal
use Rattle.query_lang.specs.declared.literal.NamedTest.{NamedTest}
use Rattle.query_lang.specs.declared.literal.Path.{Path}
use Rattle.query_lang.specs.declared.script.Script.{Script}
use Rattle.query_lang.specs.declared.term.Arg.{Arg}
use Rattle.query_lang.specs.declared.term.Arg.TheVariants as arg
use Rattle.query_lang.specs.declared.term.NamedTerm.{NamedTerm}
use Rattle.query_lang.specs.declared.term.NamedTerm.TheVariants as term
use Rattle.query_lang.specs.Rules.{Rules}
use Rattle.query_lang.specs.Words.{Tokens, on, word, sign, name, digits, quoted, number, is_number}
use Rattle.query_lang.specs.Chains.{IsChain}
use Rattle.query_lang.specs.Literals.{IsLiteral, NumberTest, IsNumberTest, dotted_number}
use Rattle.query_lang.specs.Paths.{IsComponent}
use Rattle.query_lang.specs.Terms.{IsTerm, IsArg, IsArgChain}
use Rattle.query_lang.specs.Formulas.{IsAtom}
use Rattle.query_lang.specs.Statements.{IsName, IsDeclared, AreDeclared, AreUnder, AreIncluded, IsFieldTest, field_tested}
use Rattle.query_lang.specs.Machine.Due.{Due, State, Moved}
use Rattle.query_lang.specs.Machine.Steps
use Rattle.query_lang.specs.Machine.Steps.{Behind, step, is_word, is_sign, literal_by, number_read, three_bytes, arg_by, unary_word, unary_by, load_word, show_word, statement_word, finished, a_term, a_conjunction, a_disjunction, implication, an_equivalence, number_test, at_path, decided, equal_to, tested_in, quantified, exploring, asking}
use Rattle.query_lang.proofs.Accepting.{IsOne, IsNumber, IsInside, Accepts, AcceptsBy, comma, dot}
use Rattle.query_lang.proofs.Choices.{if_word, if_sign}
use Rattle.query_lang.proofs.Joining.{chain_of, args_of, enclosed, no_more, one_more, from_first}
use Rattle.std.proofs.lemmas.Bool.{and_parts, and_from, leb-true, le-leb}
use Rattle.query_lang.specs.Machine.Steps.{declared}
use Rattle.query_lang.proofs.FormulaSteps.{Found, test_found}

pub byte_number : (text : List ℕ) → is_number 0 255 text ≡ true → is_number 0 (2 ^ 128 - 1) text ≡ true
byte_number text e =
    let p = and_parts _ _ e in
    let q = and_parts _ _ p.1 in
    let few : number text ≤ 255 = leb-true _ _ q.1 in
    let fits : number text ≤ 2 ^ 128 - 1 = omega arith in
    and_from _ _ p.0 (and_from _ _ q.0 (le-leb (number text) (2 ^ 128 - 1) fits))

module _ (rules : Rules) (x : Script) where
  big_literal : (line : ℕ) (text : List ℕ) (k : Behind Literal) (ts : Tokens) (b : Bool) → is_number 0 (2 ^ 128 - 1) text ≡ b
      → AcceptsBy rules (cond b (Moved.moves (k (literal.Number (number text)))) Moved.stops) ts x → Found rules x Literal IsLiteral k (digits line text ∷ ts)
  big_literal line text k ts true e a = (literal.Number (number text), ts, IsLiteral.decimal line text ts e, a)
  big_literal line text k ts false e a = absurd a

  any_literal : (line : ℕ) (text : List ℕ) (k : Behind Literal) (ts : Tokens) (b : Bool) → is_number 0 255 text ≡ b
      → AcceptsBy rules (cond b (Moved.moves (State.want (Due.dots text) k)) (cond (is_number 0 (2 ^ 128 - 1) text) (Moved.moves (k (literal.Number (number text)))) Moved.stops)) ts x
      → Found rules x Literal IsLiteral k (digits line text ∷ ts)
  any_literal line text k ts true e (v, rest, is, a) = (v, rest, is e line, a)
  any_literal line text k ts false e a = big_literal line text k ts (is_number 0 (2 ^ 128 - 1) text) refl a

  number_found : (line : ℕ) (text : List ℕ) (k : Behind Literal) (ts : Tokens) → AcceptsBy rules (number_read text k) ts x → Found rules x Literal IsLiteral k (digits line text ∷ ts)
  number_found line text k ts a = any_literal line text k ts (is_number 0 255 text) refl a

  pub literal_found : (line : ℕ) (k : Behind Literal) (ts : Tokens) (t : Token) → AcceptsBy rules (literal_by k Moved.stops t) ts x → Found rules x Literal IsLiteral k (on line t ∷ ts)
  literal_found line k ts (token.Digits text) a = number_found line text k ts a
  literal_found line k ts (token.Quoted text) a = (literal.Interface text, ts, IsLiteral.interface line text ts, a)
  literal_found line k ts (token.Keyword w) a = absurd a
  literal_found line k ts (token.Name text) a = absurd a
  literal_found line k ts (token.Word text) a = absurd a
  literal_found line k ts (token.Sign s) a = absurd a
  literal_found line k ts token.Bad a = absurd a

  pub dots_read : (j : ℕ) (text : List ℕ) (k : Behind Literal) (ts : Tokens) → Accepts rules (three_bytes (number text) k) ts x → Accepts rules (State.want (Due.dots text) k) (sign j sign_of.Dot ∷ ts) x
  dots_read j text k _ (_, _, IsNumber.numeral h b _ eb, (c1, _, IsOne.one l _, (_, _, IsNumber.numeral m c _ ec, (c2, _, IsOne.one n _, (_, _, IsNumber.numeral o d rest ed, a))))) =
      (literal.Number (dotted_number (number text) (number b) (number c) (number d)), rest, λ e i. IsLiteral.dotted i j h l m n o text b c d rest e eb ec ed, a)

  pub dots_left : (text : List ℕ) (k : Behind Literal) (ts : Tokens) → Accepts rules (k (literal.Number (number text))) ts x → Accepts rules (State.want (Due.dots text) k) ts x
  dots_left text k ts a = (literal.Number (number text), ts, λ e i. IsLiteral.decimal i text ts (byte_number text e), a)

  second_literal : (first : Literal) (k : Behind NumberTest) (ts : Tokens) → Found rules x Literal IsLiteral (λ other. k (NumberTest.masked first other)) ts
      → Accepts rules (State.want (Due.second first) k) ts x
  second_literal first k ts (w, rest, is, a) = (NumberTest.masked first w, rest, λ tokens before. IsNumberTest.wildcard first w tokens ts rest before is, a)

  second_to : (line : ℕ) (first : Literal) (k : Behind NumberTest) (ts : Tokens) → Accepts rules (State.want Due.literal (λ high. k (NumberTest.range first high))) ts x
      → Accepts rules (State.want (Due.second first) k) (word line keyword.To ∷ ts) x
  second_to line first k ts (high, rest, is, a) = (NumberTest.range first high, rest, λ tokens before. IsNumberTest.range line first high tokens ts rest before is, a)

  pub second_left : (first : Literal) (k : Behind NumberTest) (ts : Tokens) → Accepts rules (k (NumberTest.range first first)) ts x → Accepts rules (State.want (Due.second first) k) ts x
  second_left first k ts a = (NumberTest.range first first, ts, λ tokens before. IsNumberTest.value first tokens ts before, a)

  second_other : (line : ℕ) (first : Literal) (k : Behind NumberTest) (ts : Tokens) (t : Token) (left : Moved)
      → (AcceptsBy rules left ts x → Accepts rules (k (NumberTest.range first first)) (on line t ∷ ts) x)
      → AcceptsBy rules (cond (is_word keyword.To t) (Moved.moves (State.want Due.literal (λ high. k (NumberTest.range first high)))) left) ts x
      → Accepts rules (State.want (Due.second first) k) (on line t ∷ ts) x
  second_other line first k ts t left behind a =
      if_word rules ts x (λ t. Accepts rules (State.want (Due.second first) k) (on line t ∷ ts) x) keyword.To t (Moved.moves (State.want Due.literal (λ high. k (NumberTest.range first high)))) left a
      (λ b. second_to line first k ts b) (λ b. second_left first k (on line t ∷ ts) (behind b))

  pub second_read : (line : ℕ) (first : Literal) (k : Behind NumberTest) (ts : Tokens) (t : Token)
      → (AcceptsBy rules (step (k (NumberTest.range first first)) line t) ts x → Accepts rules (k (NumberTest.range first first)) (on line t ∷ ts) x)
      → AcceptsBy rules (step (State.want (Due.second first) k) line t) ts x → Accepts rules (State.want (Due.second first) k) (on line t ∷ ts) x
  second_read line first k ts (token.Digits text) behind a = second_literal first k (digits line text ∷ ts) (number_found line text (λ other. k (NumberTest.masked first other)) ts a)
  second_read line first k ts (token.Quoted text) behind a = second_literal first k (quoted line text ∷ ts) (literal.Interface text, ts, IsLiteral.interface line text ts, a)
  second_read line first k ts (token.Keyword w) behind a = second_other line first k ts (token.Keyword w) (step (k (NumberTest.range first first)) line (token.Keyword w)) behind a
  second_read line first k ts (token.Name text) behind a = second_left first k (name line text ∷ ts) (behind a)
  second_read line first k ts (token.Word text) behind a = second_left first k (on line (token.Word text) ∷ ts) (behind a)
  second_read line first k ts (token.Sign s) behind a = second_left first k (sign line s ∷ ts) (behind a)
  second_read line first k ts token.Bad behind a = second_left first k (on line token.Bad ∷ ts) (behind a)

  pub component_found : (line : ℕ) (k : Behind (List ℕ)) (ts : Tokens) (t : Token) → AcceptsBy rules (Steps.component_by (λ text. Moved.moves (k text)) t) ts x → Found rules x (List ℕ) IsComponent k (on line t ∷ ts)
  component_found line k ts (token.Keyword w) a = (letters w, ts, IsComponent.keyword line w ts, a)
  component_found line k ts (token.Name text) a = (text, ts, IsComponent.plain line text ts, a)
  component_found line k ts (token.Digits text) a = (text, ts, IsComponent.numeral line text ts, a)
  component_found line k ts (token.Word text) a = (text, ts, IsComponent.other line text ts, a)
  component_found line k ts (token.Quoted text) a = (text, ts, IsComponent.text line text ts, a)
  component_found line k ts (token.Sign s) a = absurd a
  component_found line k ts token.Bad a = absurd a

  pub components_read : (line : ℕ) (parts : List (List ℕ)) (k : Behind Path) (ts : Tokens) → Accepts rules (State.want Due.component (λ part. State.want (Due.components (parts ++ part ∷ [])) k)) ts x
      → Accepts rules (State.want (Due.components parts) k) (sign line sign_of.Dot ∷ ts) x
  components_read line parts k ts (part, mid, is, (v, rest, j, a)) =
      (v, rest, one_more (List ℕ) dot (IsChain (List ℕ) dot IsComponent) line part parts v.parts ts mid rest (λ more m. chain_of (List ℕ) dot IsComponent part more ts mid rest is m) j, a)

  pub components_left : (parts : List (List ℕ)) (k : Behind Path) (ts : Tokens) → Accepts rules (k (record { parts = parts })) ts x → Accepts rules (State.want (Due.components parts) k) ts x
  components_left parts k ts a = (record { parts = parts }, ts, no_more (List ℕ) dot (IsChain (List ℕ) dot IsComponent) parts ts, a)

  pub call_read : (level line : ℕ) (text : List ℕ) (k : Behind NamedTerm) (ts : Tokens) → rules.opens level (length ts) ≡ true
      → Accepts rules (State.want (Due.first_arg (suc level)) (λ parts. k (term.Call text parts))) ts x → Accepts rules (State.want (Due.called level text) k) (sign line sign_of.Open ∷ ts) x
  call_read level line text k ts may (parts, rest, inside, a) = (term.Call text parts, rest, λ i. IsTerm.call level i text parts (sign line sign_of.Open ∷ ts) rest (enclosed rules level line parts ts rest may inside), a)

  pub call_left : (level : ℕ) (text : List ℕ) (k : Behind NamedTerm) (ts : Tokens) → Accepts rules (k (term.Name text)) ts x → Accepts rules (State.want (Due.called level text) k) ts x
  call_left level text k ts a = (term.Name text, ts, λ i. IsTerm.plain level i text ts, a)

  pub args_read : (level line : ℕ) (k : Behind (List Arg)) (ts : Tokens) → rules.opens level (length ts) ≡ true → Accepts rules (State.want (Due.first_arg (suc level)) k) ts x
      → Accepts rules (State.want (Due.args level) k) (sign line sign_of.Open ∷ ts) x
  args_read level line k ts may (parts, rest, inside, a) = (parts, rest, enclosed rules level line parts ts rest may inside, a)

  arg_term : (level line : ℕ) (text : List ℕ) (k : Behind Arg) (ts : Tokens) → Accepts rules (State.want (Due.called level text) (λ value. k (arg.Term value))) ts x
      → Found rules x Arg (IsArg rules level) k (name line text ∷ ts)
  arg_term level line text k ts (v, rest, is, a) = (arg.Term v, rest, IsArg.of_term level v (name line text ∷ ts) rest (is line), a)

  pub arg_found : (level line : ℕ) (k : Behind Arg) (ts : Tokens) (t : Token) → AcceptsBy rules (arg_by level k Moved.stops t) ts x → Found rules x Arg (IsArg rules level) k (on line t ∷ ts)
  arg_found level line k ts (token.Name text) a = arg_term level line text k ts a
  arg_found level line k ts (token.Sign s) a =
      if_sign rules ts x (λ t. Found rules x Arg (IsArg rules level) k (on line t ∷ ts)) sign_of.Request (token.Sign s) (Moved.moves (k arg.Req)) Moved.stops a
      (λ b. (arg.Req, ts, IsArg.request level line ts, b)) (λ b. absurd b)
  arg_found level line k ts (token.Keyword w) a = absurd a
  arg_found level line k ts (token.Digits text) a = absurd a
  arg_found level line k ts (token.Word text) a = absurd a
  arg_found level line k ts (token.Quoted text) a = absurd a
  arg_found level line k ts token.Bad a = absurd a

  filled : (level : ℕ) (k : Behind (List Arg)) (ts : Tokens) → Found rules x Arg (IsArg rules level) (λ part. State.want (Due.more_args level (part ∷ [])) k) ts
      → Accepts rules (State.want (Due.first_arg level) k) ts x
  filled level k ts (part, mid, is, (v, rest, (line, j), a)) =
      let tokens = sign line sign_of.Close ∷ rest in
      (v, rest, IsInside.full line v ts rest (from_first Arg comma (IsArgChain rules level) part v ts mid tokens (λ more m. args_of rules level part more ts mid tokens is m) j), a)

  pub first_arg_read : (level line : ℕ) (k : Behind (List Arg)) (ts : Tokens) (t : Token) → AcceptsBy rules (step (State.want (Due.first_arg level) k) line t) ts x
      → Accepts rules (State.want (Due.first_arg level) k) (on line t ∷ ts) x
  first_arg_read level line k ts (token.Name text) a = filled level k (name line text ∷ ts) (arg_term level line text (λ part. State.want (Due.more_args level (part ∷ [])) k) ts a)
  first_arg_read level line k ts (token.Sign s) a =
      let Goal : Token → Type 0 = λ t. Accepts rules (State.want (Due.first_arg level) k) (on line t ∷ ts) x in
      if_sign rules ts x Goal sign_of.Request (token.Sign s) _ _ a
      (λ b. filled level k (sign line sign_of.Request ∷ ts) (arg.Req, ts, IsArg.request level line ts, b))
      (λ c. if_sign rules ts x Goal sign_of.Close (token.Sign s) _ _ c (λ b. ([], ts, IsInside.empty line ts, b)) (λ b. absurd b))
  first_arg_read level line k ts (token.Keyword w) a = absurd a
  first_arg_read level line k ts (token.Digits text) a = absurd a
  first_arg_read level line k ts (token.Word text) a = absurd a
  first_arg_read level line k ts (token.Quoted text) a = absurd a
  first_arg_read level line k ts token.Bad a = absurd a

  pub more_args_read : (level i : ℕ) (parts : List Arg) (k : Behind (List Arg)) (ts : Tokens) → Accepts rules (State.want (Due.arg level) (λ part. State.want (Due.more_args level (parts ++ part ∷ [])) k)) ts x
      → Accepts rules (State.want (Due.more_args level parts) k) (on i comma ∷ ts) x
  more_args_read level i parts k ts (part, mid, is, (v, rest, (line, j), a)) =
      let tokens = sign line sign_of.Close ∷ rest in
      (v, rest, (line, one_more Arg comma (IsArgChain rules level) i part parts v ts mid tokens (λ more m. args_of rules level part more ts mid tokens is m) j), a)

  pub args_end : (level line : ℕ) (parts : List Arg) (k : Behind (List Arg)) (ts : Tokens) → Accepts rules (k parts) ts x → Accepts rules (State.want (Due.more_args level parts) k) (sign line sign_of.Close ∷ ts) x
  args_end level line parts k ts a = (parts, ts, (line, no_more Arg comma (IsArgChain rules level) parts (sign line sign_of.Close ∷ ts)), a)

  -- Lists of an EXPLORE and of other statements.

  pub vars_read : (line : ℕ) (k : Behind (List (List ℕ × List ℕ))) (ts : Tokens) → Accepts rules (declared [] k) ts x → Accepts rules (State.want Due.vars k) (sign line sign_of.OpenBracket ∷ ts) x
  vars_read line k _ (variable, _, IsName.plain g _ _, (c, _, IsOne.one h _, (sort, _, IsName.plain i _ mid, (v, rest, (end_line, j), a)))) =
      let tokens = sign end_line sign_of.CloseBracket ∷ rest in
      let ts = name g variable ∷ sign h sign_of.Colon ∷ name i sort ∷ mid in (
        v,
        rest,
        AreDeclared.some line end_line v ts rest
            (from_first (List ℕ × List ℕ) comma (IsChain (List ℕ × List ℕ) comma IsDeclared) (variable, sort) v ts mid tokens
            (λ more m. chain_of (List ℕ × List ℕ) comma IsDeclared (variable, sort) more ts mid tokens (IsDeclared.declared g h i variable sort mid) m) j),
        a,
      )

  pub more_vars_read : (line : ℕ) (parts : List (List ℕ × List ℕ)) (k : Behind (List (List ℕ × List ℕ))) (ts : Tokens) → Accepts rules (declared parts k) ts x
      → Accepts rules (State.want (Due.more_vars parts) k) (on line comma ∷ ts) x
  more_vars_read line parts k _ (variable, _, IsName.plain g _ _, (c, _, IsOne.one h _, (sort, _, IsName.plain i _ mid, (v, rest, (end_line, j), a)))) =
      let tokens = sign end_line sign_of.CloseBracket ∷ rest in
      let ts = name g variable ∷ sign h sign_of.Colon ∷ name i sort ∷ mid in (
        v,
        rest,
        (
          end_line,
          one_more (List ℕ × List ℕ) comma (IsChain (List ℕ × List ℕ) comma IsDeclared) line (variable, sort) parts v ts mid tokens
              (λ more m. chain_of (List ℕ × List ℕ) comma IsDeclared (variable, sort) more ts mid tokens (IsDeclared.declared g h i variable sort mid) m) j,
        ),
        a,
      )

  pub vars_end : (line : ℕ) (parts : List (List ℕ × List ℕ)) (k : Behind (List (List ℕ × List ℕ))) (ts : Tokens) → Accepts rules (k parts) ts x
      → Accepts rules (State.want (Due.more_vars parts) k) (sign line sign_of.CloseBracket ∷ ts) x
  vars_end line parts k ts a = (parts, ts, (line, no_more (List ℕ × List ℕ) comma (IsChain (List ℕ × List ℕ) comma IsDeclared) parts (sign line sign_of.CloseBracket ∷ ts)), a)

  pub under_read : (line : ℕ) (k : Behind (List (List ℕ))) (ts : Tokens) → Accepts rules (State.want Due.name (λ text. State.want (Due.more_names (text ∷ [])) k)) ts x
      → Accepts rules (State.want Due.under k) (word line keyword.Under ∷ ts) x
  under_read line k ts (text, mid, is, (v, rest, j, a)) =
      (v, rest, AreUnder.some line v ts rest (from_first (List ℕ) comma (IsChain (List ℕ) comma IsName) text v ts mid rest (λ more m. chain_of (List ℕ) comma IsName text more ts mid rest is m) j), a)

  pub more_names_read : (line : ℕ) (parts : List (List ℕ)) (k : Behind (List (List ℕ))) (ts : Tokens) → Accepts rules (State.want Due.name (λ text. State.want (Due.more_names (parts ++ text ∷ [])) k)) ts x
      → Accepts rules (State.want (Due.more_names parts) k) (on line comma ∷ ts) x
  more_names_read line parts k ts (text, mid, is, (v, rest, j, a)) =
      (v, rest, one_more (List ℕ) comma (IsChain (List ℕ) comma IsName) line text parts v ts mid rest (λ more m. chain_of (List ℕ) comma IsName text more ts mid rest is m) j, a)

  pub names_left : (parts : List (List ℕ)) (k : Behind (List (List ℕ))) (ts : Tokens) → Accepts rules (k parts) ts x → Accepts rules (State.want (Due.more_names parts) k) ts x
  names_left parts k ts a = (parts, ts, no_more (List ℕ) comma (IsChain (List ℕ) comma IsName) parts ts, a)

  pub include_read : (line : ℕ) (k : Behind (List Named)) (ts : Tokens) → Found rules x Named (IsAtom rules 0) (λ part. State.want (Due.more_atoms (part ∷ [])) k) ts
      → Accepts rules (State.want Due.include k) (word line keyword.Include ∷ ts) x
  include_read line k ts (part, mid, is, (v, rest, j, a)) =
      (v, rest, AreIncluded.some line v ts rest (from_first Named comma (IsChain Named comma (IsAtom rules 0)) part v ts mid rest (λ more m. chain_of Named comma (IsAtom rules 0) part more ts mid rest is m) j), a)

  pub more_atoms_read : (line : ℕ) (parts : List Named) (k : Behind (List Named)) (ts : Tokens) → Found rules x Named (IsAtom rules 0) (λ part. State.want (Due.more_atoms (parts ++ part ∷ [])) k) ts
      → Accepts rules (State.want (Due.more_atoms parts) k) (on line comma ∷ ts) x
  more_atoms_read line parts k ts (part, mid, is, (v, rest, j, a)) =
      (v, rest, one_more Named comma (IsChain Named comma (IsAtom rules 0)) line part parts v ts mid rest (λ more m. chain_of Named comma (IsAtom rules 0) part more ts mid rest is m) j, a)

  pub atoms_left : (parts : List Named) (k : Behind (List Named)) (ts : Tokens) → Accepts rules (k parts) ts x → Accepts rules (State.want (Due.more_atoms parts) k) ts x
  atoms_left parts k ts a = (parts, ts, no_more Named comma (IsChain Named comma (IsAtom rules 0)) parts ts, a)

  pub more_literals_read : (i : ℕ) (parts : List Literal) (k : Behind (List Literal)) (ts : Tokens) → Accepts rules (State.want Due.literal (λ part. State.want (Due.more_literals (parts ++ part ∷ [])) k)) ts x
      → Accepts rules (State.want (Due.more_literals parts) k) (on i comma ∷ ts) x
  more_literals_read i parts k ts (part, mid, is, (v, rest, (line, j), a)) =
      let tokens = sign line sign_of.Close ∷ rest in
      (v, rest, (line, one_more Literal comma (IsChain Literal comma IsLiteral) i part parts v ts mid tokens (λ more m. chain_of Literal comma IsLiteral part more ts mid tokens is m) j), a)

  pub literals_end : (line : ℕ) (parts : List Literal) (k : Behind (List Literal)) (ts : Tokens) → Accepts rules (k parts) ts x
      → Accepts rules (State.want (Due.more_literals parts) k) (sign line sign_of.Close ∷ ts) x
  literals_end line parts k ts a = (parts, ts, (line, no_more Literal comma (IsChain Literal comma IsLiteral) parts (sign line sign_of.Close ∷ ts)), a)

  pub field_found : (k : Behind NamedTest) (ts : Tokens) → Accepts rules (Steps.field_test k) ts x → Found rules x NamedTest IsFieldTest k ts
  field_found k _ (field, _, IsName.plain i _ _, (c, _, IsOne.one j ts, a)) =
      let t = test_found rules x (λ test. k (field_tested field test)) ts a in
      (field_tested field t.0, t.1, IsFieldTest.field_test i j field t.0 ts t.1 t.2, t.3)

  tests_joined : (line : ℕ) (parts : List NamedTest) (k : Behind (List NamedTest)) (ts : Tokens) → Found rules x NamedTest IsFieldTest (λ test. State.want (Due.more_tests (parts ++ test ∷ [])) k) ts
      → Accepts rules (State.want (Due.more_tests parts) k) (on line comma ∷ ts) x
  tests_joined line parts k ts (part, mid, is, (v, rest, j, a)) =
      (v, rest, one_more NamedTest comma (IsChain NamedTest comma IsFieldTest) line part parts v ts mid rest (λ more m. chain_of NamedTest comma IsFieldTest part more ts mid rest is m) j, a)

  pub more_tests_read : (line : ℕ) (parts : List NamedTest) (k : Behind (List NamedTest)) (ts : Tokens) → Accepts rules (Steps.tests parts k) ts x
      → Accepts rules (State.want (Due.more_tests parts) k) (on line comma ∷ ts) x
  more_tests_read line parts k ts a = tests_joined line parts k ts (field_found (λ test. State.want (Due.more_tests (parts ++ test ∷ [])) k) ts a)

  pub tests_left : (parts : List NamedTest) (k : Behind (List NamedTest)) (ts : Tokens) → Accepts rules (k parts) ts x → Accepts rules (State.want (Due.more_tests parts) k) ts x
  tests_left parts k ts a = (parts, ts, no_more NamedTest comma (IsChain NamedTest comma IsFieldTest) parts ts, a)

  pub first_tests : (k : Behind (List NamedTest)) (ts : Tokens) → Found rules x NamedTest IsFieldTest (λ test. State.want (Due.more_tests (test ∷ [])) k) ts
      → Found rules x (List NamedTest) (IsChain NamedTest comma IsFieldTest) k ts
  first_tests k ts (part, mid, is, (v, rest, j, a)) =
      (v, rest, from_first NamedTest comma (IsChain NamedTest comma IsFieldTest) part v ts mid rest (λ more m. chain_of NamedTest comma IsFieldTest part more ts mid rest is m) j, a)

  pub first_literals : (k : Behind (List Literal)) (ts : Tokens) → Found rules x Literal IsLiteral (λ first. State.want (Due.more_literals (first ∷ [])) k) ts
      → (v : List Literal) × (rest : Tokens) × (line : ℕ) × IsChain Literal comma IsLiteral v ts (sign line sign_of.Close ∷ rest) × Accepts rules (k v) rest x
  first_literals k ts (part, mid, is, (v, rest, (line, j), a)) =
      let tokens = sign line sign_of.Close ∷ rest in
      (v, rest, line, from_first Literal comma (IsChain Literal comma IsLiteral) part v ts mid tokens (λ more m. chain_of Literal comma IsLiteral part more ts mid tokens is m) j, a)
