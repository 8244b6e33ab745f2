-- Where something is due, some tokens are accepted.
use Rattle.std.proofs.Common.{◌≡◌, ℕ, suc, ◌<◌, ◌≤◌, true, List, [], ◌∷◌, length, refl, sym, arith}
use Rattle.std.proofs.lemmas.List.{append-nil}
use Rattle.query_tokens.specs.declared.keyword.Keyword.TheVariants as keyword
use Rattle.query_tokens.specs.declared.token.Sign.TheVariants as sign_of
use Rattle.query_tokens.specs.declared.token.Token.TheVariants as token
use Rattle.query_lang.specs.declared.formula.Named.{Named}
use Rattle.query_lang.specs.declared.formula.Named.TheVariants as named
use Rattle.query_lang.specs.declared.literal.Literal.{Literal}
use Rattle.query_lang.specs.declared.literal.Literal.TheVariants as literal
use Rattle.query_lang.specs.declared.script.Kind.TheVariants as kind
use Rattle.query_lang.specs.declared.script.Script.{Script}
use Rattle.query_lang.specs.declared.term.Arg.{Arg}
use Rattle.query_lang.specs.declared.term.Arg.TheVariants as arg
use Rattle.query_lang.specs.declared.term.NamedTerm.TheVariants as term
use Rattle.query_lang.specs.Rules.{Rules}
use Rattle.query_lang.specs.Words.{Tokens, word, sign, name, digits, quoted, number}
use Rattle.query_lang.specs.Chains.{IsChain}
use Rattle.query_lang.specs.Literals.{IsLiteral, NumberTest, IsNumberTest}
use Rattle.query_lang.specs.Paths.{IsComponent}
use Rattle.query_lang.specs.Terms.{IsTerm, IsArgs, IsArg, IsArgChain}
use Rattle.query_lang.specs.Formulas.{IsAtom, IsUnary, IsConjunction, IsDisjunction, IsEquivalence, conjunction, disjunction, equivalence}
use Rattle.query_lang.specs.Statements.{IsAsk, IsCommand, IsName, IsDeclared, AreDeclared, AreUnder, AreIncluded, IsFieldTest}
use Rattle.query_lang.specs.Scripts.{AreStatements}
use Rattle.query_lang.specs.Machine.Due.{Due, Value, State, one}
use Rattle.query_lang.specs.Statements.{IsFieldTest}
use Rattle.query_lang.specs.declared.literal.NamedTest.{NamedTest}
use Rattle.query_lang.proofs.Accepting.{IsOne, IsQuoted, IsNumber, IsInside, AfterLeft, Fits, Accepts, comma, dot}
use Rattle.query_lang.proofs.Joining.{no_more}
use Rattle.query_lang.proofs.ListSteps.{byte_number}

-- a value for what is due
abbrev pub blank : (due : Due) → Value due
blank (Due.word w) = tt
blank (Due.sign s) = tt
blank Due.name = []
blank Due.quoted = []
blank Due.component = []
blank (Due.number low high fits) = number one
blank Due.literal = literal.Interface []
blank (Due.dots text) = literal.Number (number text)
blank (Due.second first) = NumberTest.range first first
blank (Due.components parts) = record { parts = parts }
blank (Due.called level text) = term.Name text
blank (Due.args level) = []
blank (Due.first_arg level) = []
blank (Due.arg level) = arg.Req
blank (Due.more_args level parts) = parts
blank (Due.atom_tail level text) = named.Equal (term.Name text) (term.Name [])
blank (Due.holds_tail level text parts) = named.Holds text parts
blank (Due.unary level) = named.True
blank (Due.more_and level parts) = conjunction parts
blank (Due.more_or level parts) = disjunction parts
blank (Due.implies level left) = left
blank (Due.more_iff level parts) = equivalence parts
blank Due.vars = []
blank (Due.more_vars parts) = parts
blank Due.under = []
blank (Due.more_names parts) = parts
blank Due.include = []
blank (Due.more_atoms parts) = parts
blank (Due.more_literals parts) = parts
blank (Due.more_tests parts) = parts
blank Due.load = kind.LoadVocab []
blank Due.show = kind.ShowAll

-- its tokens, before what follows
abbrev pub filling : Due → Tokens → Tokens
filling (Due.word w) rest = word 1 w ∷ rest
filling (Due.sign s) rest = sign 1 s ∷ rest
filling Due.name rest = name 1 [] ∷ rest
filling Due.quoted rest = quoted 1 [] ∷ rest
filling Due.component rest = quoted 1 [] ∷ rest
filling (Due.number low high fits) rest = digits 1 one ∷ rest
filling Due.literal rest = quoted 1 [] ∷ rest
filling (Due.dots text) rest = rest
filling (Due.second first) rest = rest
filling (Due.components parts) rest = rest
filling (Due.called level text) rest = rest
filling (Due.args level) rest = sign 1 sign_of.Open ∷ sign 1 sign_of.Close ∷ rest
filling (Due.first_arg level) rest = sign 1 sign_of.Close ∷ rest
filling (Due.arg level) rest = sign 1 sign_of.Request ∷ rest
filling (Due.more_args level parts) rest = sign 1 sign_of.Close ∷ rest
filling (Due.atom_tail level text) rest = sign 1 sign_of.Equals ∷ name 1 [] ∷ rest
filling (Due.holds_tail level text parts) rest = rest
filling (Due.unary level) rest = word 1 keyword.True ∷ rest
filling (Due.more_and level parts) rest = rest
filling (Due.more_or level parts) rest = rest
filling (Due.implies level left) rest = rest
filling (Due.more_iff level parts) rest = rest
filling Due.vars rest = rest
filling (Due.more_vars parts) rest = sign 1 sign_of.CloseBracket ∷ rest
filling Due.under rest = rest
filling (Due.more_names parts) rest = rest
filling Due.include rest = rest
filling (Due.more_atoms parts) rest = rest
filling (Due.more_literals parts) rest = sign 1 sign_of.Close ∷ rest
filling (Due.more_tests parts) rest = rest
filling Due.load rest = word 1 keyword.Vocab ∷ quoted 1 [] ∷ rest
filling Due.show rest = word 1 keyword.All ∷ rest

abbrev pub complement : State → Tokens
complement (State.statements explored parts) = []
complement (State.want due k) = filling due (complement (k (blank due)))

abbrev pub completed : State → Script
completed (State.statements explored parts) = record { statements = parts }
completed (State.want due k) = completed (k (blank due))

-- any level may be opened before so many tokens
abbrev pub IsFree : Rules → ℕ → Type 0
IsFree rules free = (level behind : ℕ) → behind < free → rules.opens level behind ≡ true

module _ (rules : Rules) where
  fitting : (due : Due) (rest : Tokens) → IsFree rules (length (filling due rest)) → Fits rules due (blank due) (filling due rest) rest
  fitting (Due.word w) rest free = IsOne.one 1 rest
  fitting (Due.sign s) rest free = IsOne.one 1 rest
  fitting Due.name rest free = IsName.plain 1 [] rest
  fitting Due.quoted rest free = IsQuoted.enclosed 1 [] rest
  fitting Due.component rest free = IsComponent.text 1 [] rest
  fitting (Due.number low high fits) rest free = IsNumber.numeral 1 one rest fits
  fitting Due.literal rest free = IsLiteral.interface 1 [] rest
  fitting (Due.dots text) rest free = λ e i. IsLiteral.decimal i text rest (byte_number text e)
  fitting (Due.second first) rest free = λ tokens before. IsNumberTest.value first tokens rest before
  fitting (Due.components parts) rest free = no_more (List ℕ) dot (IsChain (List ℕ) dot IsComponent) parts rest
  fitting (Due.called level text) rest free = λ i. IsTerm.plain level i text rest
  fitting (Due.args level) rest free = IsArgs.none level 1 1 rest (free level (suc (length rest)) (omega arith))
  fitting (Due.first_arg level) rest free = IsInside.empty 1 rest
  fitting (Due.arg level) rest free = IsArg.request level 1 rest
  fitting (Due.more_args level parts) rest free = (1, no_more Arg comma (IsArgChain rules level) parts (sign 1 sign_of.Close ∷ rest))
  fitting (Due.atom_tail level text) rest free = λ i. IsAtom.equal level 1 (term.Name text) (term.Name []) (name i text ∷ sign 1 sign_of.Equals ∷ name 1 [] ∷ rest) (name 1 [] ∷ rest) rest (IsTerm.plain level i text (sign 1 sign_of.Equals ∷ name 1 [] ∷ rest)) (IsTerm.plain level 1 [] rest)
  fitting (Due.holds_tail level text parts) rest free = λ i tokens args. IsAtom.holds level i text parts tokens rest args
  fitting (Due.unary level) rest free = IsUnary.always level 1 rest
  fitting (Due.more_and level parts) rest free = (parts, refl, no_more Named (token.Keyword keyword.And) (IsConjunction rules level) parts rest)
  fitting (Due.more_or level parts) rest free = (parts, refl, no_more Named (token.Keyword keyword.Or) (IsDisjunction rules level) parts rest)
  fitting (Due.implies level left) rest free = AfterLeft.alone rest
  fitting (Due.more_iff level parts) rest free = (parts, refl, no_more Named (token.Keyword keyword.Iff) (IsEquivalence rules level) parts rest)
  fitting Due.vars rest free = AreDeclared.none rest
  fitting (Due.more_vars parts) rest free = (1, no_more (List ℕ × List ℕ) comma (IsChain (List ℕ × List ℕ) comma IsDeclared) parts (sign 1 sign_of.CloseBracket ∷ rest))
  fitting Due.under rest free = AreUnder.none rest
  fitting (Due.more_names parts) rest free = no_more (List ℕ) comma (IsChain (List ℕ) comma IsName) parts rest
  fitting Due.include rest free = AreIncluded.none rest
  fitting (Due.more_atoms parts) rest free = no_more Named comma (IsChain Named comma (IsAtom rules 0)) parts rest
  fitting (Due.more_literals parts) rest free = (1, no_more Literal comma (IsChain Literal comma IsLiteral) parts (sign 1 sign_of.Close ∷ rest))
  fitting (Due.more_tests parts) rest free = no_more NamedTest comma (IsChain NamedTest comma IsFieldTest) parts rest
  fitting Due.load rest free = λ h. IsCommand.load_vocab h 1 1 [] rest
  fitting Due.show rest free = λ h. IsAsk.all h 1 rest

  longer : (due : Due) (rest : Tokens) → length rest ≤ length (filling due rest)
  longer (Due.word w) rest = omega arith
  longer (Due.sign s) rest = omega arith
  longer Due.name rest = omega arith
  longer Due.quoted rest = omega arith
  longer Due.component rest = omega arith
  longer (Due.number low high fits) rest = omega arith
  longer Due.literal rest = omega arith
  longer (Due.dots text) rest = omega arith
  longer (Due.second first) rest = omega arith
  longer (Due.components parts) rest = omega arith
  longer (Due.called level text) rest = omega arith
  longer (Due.args level) rest = omega arith
  longer (Due.first_arg level) rest = omega arith
  longer (Due.arg level) rest = omega arith
  longer (Due.more_args level parts) rest = omega arith
  longer (Due.atom_tail level text) rest = omega arith
  longer (Due.holds_tail level text parts) rest = omega arith
  longer (Due.unary level) rest = omega arith
  longer (Due.more_and level parts) rest = omega arith
  longer (Due.more_or level parts) rest = omega arith
  longer (Due.implies level left) rest = omega arith
  longer (Due.more_iff level parts) rest = omega arith
  longer Due.vars rest = omega arith
  longer (Due.more_vars parts) rest = omega arith
  longer Due.under rest = omega arith
  longer (Due.more_names parts) rest = omega arith
  longer Due.include rest = omega arith
  longer (Due.more_atoms parts) rest = omega arith
  longer (Due.more_literals parts) rest = omega arith
  longer (Due.more_tests parts) rest = omega arith
  longer Due.load rest = omega arith
  longer Due.show rest = omega arith

  pub completes : (state : State) → IsFree rules (length (complement state)) → Accepts rules state (complement state) (completed state)
  completes (State.statements explored parts) free = ([], sym (append-nil parts), AreStatements.none explored)
  completes (State.want due k) free =
      let rest = complement (k (blank due)) in
      let more = longer due rest in
      (blank due, rest, fitting due rest free, completes (k (blank due)) (λ level behind less. free level behind (omega arith)))
