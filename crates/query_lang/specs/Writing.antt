-- How scripts are written: the tokens of each statement, and a line for each statement.
use Rattle.std.specs.Prelude.{ℕ, ◌+◌, Bool, false, if◌then◌else◌, nat_le, nat_eq, List, [], ◌∷◌, ◌++◌, map}
use Rattle.std.specs.Fmt.{decimal}
use Rattle.std.specs.List.{join_by, flat_map}
use Rattle.std.specs.Str.{bytes_eq}
use Rattle.query_tokens.specs.declared.keyword.Keyword.TheVariants as keyword
use Rattle.query_tokens.specs.declared.token.Sign.TheVariants as sign_of
use Rattle.query_tokens.specs.declared.token.Token.{Token}
use Rattle.query_tokens.specs.declared.token.Token.TheVariants as token
use Rattle.query_tokens.specs.Words.{is_name}
use Rattle.query_tokens.specs.Writing.{lines_text}
use Rattle.query_lang.specs.declared.formula.Named.{Named}
use Rattle.query_lang.specs.declared.formula.Named.TheFolds.{fold-Named}
use Rattle.query_lang.specs.declared.formula.Named.TheOpen.{Named-F}
use Rattle.query_lang.specs.declared.literal.Literal.{Literal}
use Rattle.query_lang.specs.declared.literal.Literal.TheVariants as literal_of
use Rattle.query_lang.specs.declared.literal.NamedTest.{NamedTest}
use Rattle.query_lang.specs.declared.literal.NamedTest.TheVariants as test_of
use Rattle.query_lang.specs.declared.literal.Path.{Path}
use Rattle.query_lang.specs.declared.script.Explore.{Explore}
use Rattle.query_lang.specs.declared.script.Kind.{Kind}
use Rattle.query_lang.specs.declared.script.Kind.TheVariants as kind
use Rattle.query_lang.specs.declared.script.Script.{Script}
use Rattle.query_lang.specs.declared.script.Statement.{Statement}
use Rattle.query_lang.specs.declared.term.Arg.{Arg}
use Rattle.query_lang.specs.declared.term.Arg.TheFolds.{fold-Arg, fold-NamedTerm}
use Rattle.query_lang.specs.declared.term.Arg.TheOpen.{Arg-F, NamedTerm-F}
use Rattle.query_lang.specs.declared.term.NamedTerm.{NamedTerm}
use Rattle.query_lang.specs.Words.{is_numeral}

-- parts with a sign or a word between each two
abbrev pub parted : {Part : Type 0} → Token → (Part → List Token) → List Part → List Token
parted between tokens parts = join_by tokens (between ∷ []) parts

abbrev pub by_commas : {Part : Type 0} → (Part → List Token) → List Part → List Token
by_commas tokens parts = parted (token.Sign sign_of.Comma) tokens parts

-- a number, in decimal
abbrev pub numeral : ℕ → Token
numeral n = token.Digits (decimal n)

-- a component of a path: as it is where it is a name or a numeral, else between quotes
abbrev pub component : List ℕ → Token
component text =
    if is_name text then token.Name text else if is_numeral text then token.Digits text else
    token.Quoted text

-- a name, and each component behind a dot
abbrev pub components : List (List ℕ) → List Token
components [] = []
components (text ∷ more) =
    token.Name text ∷ flat_map (λ part. token.Sign sign_of.Dot ∷ component part ∷ []) more

abbrev pub path : Path → List Token
path list = components list.parts

abbrev pub literal : Literal → Token
literal (literal_of.Number n) = numeral n
literal (literal_of.Interface text) = token.Quoted text

abbrev pub same_literal : Literal → Literal → Bool
same_literal (literal_of.Number m) (literal_of.Number n) = nat_eq m n
same_literal (literal_of.Interface a) (literal_of.Interface b) = bytes_eq a b
same_literal _ _ = false

-- what lies between two: one of them where they are the same
abbrev pub range : Literal → Literal → List Token
range lo hi =
    if same_literal lo hi then literal lo ∷ [] else literal lo ∷ token.Keyword keyword.To
    ∷ literal hi ∷ []

-- tokens between parentheses
abbrev pub enclosed : List Token → List Token
enclosed tokens = token.Sign sign_of.Open ∷ (tokens ++ token.Sign sign_of.Close ∷ [])

-- Terms.

abbrev pub arg_step : Arg-F (List Token) (List Token) → List Token
arg_step Arg-F.Req = token.Sign sign_of.Request ∷ []
arg_step (Arg-F.Term tokens) = tokens

abbrev pub term_step : NamedTerm-F (List Token) (List Token) → List Token
term_step (NamedTerm-F.Name text) = token.Name text ∷ []
term_step (NamedTerm-F.Call text args) = token.Name text ∷ enclosed (by_commas (λ arg. arg) args)

abbrev pub term : NamedTerm → List Token
term = fold-NamedTerm (List Token) (List Token) arg_step term_step

abbrev pub argument : Arg → List Token
argument = fold-Arg (List Token) (List Token) arg_step term_step

-- a name and its arguments
abbrev pub call : List ℕ → List Arg → List Token
call text args = token.Name text ∷ enclosed (by_commas argument args)

-- Formulas.

-- the tokens of a formula, and how loosely they join its parts: 0 not at all, 1 by AND, 2 by OR, 3 by IMPLIES, 4 by IFF
pub record Written : Type 0 where
  pub joins : ℕ
  pub tokens : List Token

-- a part as it is, if it joins its own parts no more loosely than `most`, or else between parentheses
abbrev pub at_most : ℕ → Written → List Token
at_most most part = if nat_le part.joins most then part.tokens else enclosed part.tokens

abbrev pub unjoined : List Token → Written
unjoined tokens = record { joins = 0; tokens = tokens }

abbrev pub quantified : Token → List ℕ → List ℕ → Written → Written
quantified quantifier variable sort body =
    unjoined (quantifier ∷ token.Name variable ∷ token.Sign sign_of.Colon ∷ token.Name sort
    ∷ at_most 0 body)

abbrev pub formula_step : Named-F Written → Written
formula_step Named-F.True = unjoined (token.Keyword keyword.True ∷ [])
formula_step Named-F.False = unjoined (token.Keyword keyword.False ∷ [])
formula_step (Named-F.Not body) = unjoined (token.Keyword keyword.Not ∷ at_most 0 body)
formula_step (Named-F.And parts) =
    record { joins = 1; tokens = parted (token.Keyword keyword.And) (at_most 0) parts }
formula_step (Named-F.Or parts) =
    record { joins = 2; tokens = parted (token.Keyword keyword.Or) (at_most 1) parts }
formula_step (Named-F.Implies left right) =
    record { joins = 3; tokens = at_most 2 left ++ token.Keyword keyword.Implies ∷ at_most 3 right }
formula_step (Named-F.Iff parts) =
    record { joins = 4; tokens = parted (token.Keyword keyword.Iff) (at_most 3) parts }
formula_step (Named-F.Forall variable sort body) =
    quantified (token.Keyword keyword.Forall) variable sort body
formula_step (Named-F.Exists variable sort body) =
    quantified (token.Keyword keyword.Exists) variable sort body
formula_step (Named-F.AtPath list verdict args) =
    unjoined (path list ++ token.Sign sign_of.Colon ∷ call verdict args)
formula_step (Named-F.Equal left right) =
    unjoined (term left ++ token.Sign sign_of.Equals ∷ term right)
formula_step (Named-F.Masked of value wildcard) =
    unjoined (term of ++ token.Keyword keyword.In ∷ literal value ∷ literal wildcard ∷ [])
formula_step (Named-F.Range of lo hi) = unjoined (term of ++ token.Keyword keyword.In ∷ range lo hi)
formula_step (Named-F.Holds text args) = unjoined (call text args)

abbrev pub written : Named → Written
written = fold-Named Written formula_step

-- a formula by itself
abbrev pub formula : Named → List Token
formula whole = (written whole).tokens

-- Statements.

abbrev pub declared : List ℕ × List ℕ → List Token
declared variable = token.Name variable.0 ∷ token.Sign sign_of.Colon ∷ token.Name variable.1 ∷ []

abbrev pub variables : List (List ℕ × List ℕ) → List Token
variables [] = []
variables all =
    token.Sign sign_of.OpenBracket
    ∷ (by_commas declared all ++ token.Sign sign_of.CloseBracket ∷ [])

abbrev pub under : List (List ℕ) → List Token
under [] = []
under names = token.Keyword keyword.Under ∷ by_commas (λ text. token.Name text ∷ []) names

abbrev pub included : List Named → List Token
included [] = []
included atoms = token.Keyword keyword.Include ∷ by_commas formula atoms

abbrev pub explore : Explore → List Token
explore what =
    token.Keyword keyword.Explore
    ∷ (variables what.vars ++ (formula what.formula ++ (under what.under ++ included what.include)))

abbrev pub field_test : NamedTest → List Token
field_test (test_of.Masked field value wildcard) =
    token.Name field ∷ token.Keyword keyword.In ∷ literal value ∷ literal wildcard ∷ []
field_test (test_of.Range field lo hi) = token.Name field ∷ token.Keyword keyword.In ∷ range lo hi

abbrev pub ends : List ℕ → List ℕ → List ℕ → List ℕ → List Token
ends from from_interface to to_interface =
    token.Name from ∷ token.Quoted from_interface ∷ token.Keyword keyword.To ∷ token.Name to
    ∷ token.Quoted to_interface ∷ []

abbrev pub show : List Token → List Token
show what = token.Keyword keyword.Show ∷ what

abbrev pub load : List Token → List Token
load what = token.Keyword keyword.Load ∷ what

-- a statement, without the semicolon
abbrev pub statement : Kind → List Token
statement (kind.LoadVocab file) = load (token.Keyword keyword.Vocab ∷ token.Quoted file ∷ [])
statement (kind.LoadPolicy file) = load (token.Keyword keyword.Policy ∷ token.Quoted file ∷ [])
statement (kind.LoadIos file text) =
    load (token.Keyword keyword.Ios ∷ token.Quoted file ∷ token.Keyword keyword.As ∷ token.Name text
    ∷ [])
statement (kind.LoadIptables file text) =
    load (token.Keyword keyword.Iptables ∷ token.Quoted file ∷ token.Keyword keyword.As
    ∷ token.Name text ∷ [])
statement (kind.Explore what) = explore what
statement kind.IsPossible =
    token.Keyword keyword.Is ∷ token.Keyword keyword.Possible ∷ token.Sign sign_of.Question ∷ []
statement kind.ShowOne = show (token.Keyword keyword.One ∷ [])
statement (kind.ShowFirst n) = show (token.Keyword keyword.First ∷ numeral n ∷ [])
statement kind.ShowAll = show (token.Keyword keyword.All ∷ [])
statement kind.ShowFull = show (token.Keyword keyword.Full ∷ [])
statement (kind.ShowUpTo n) =
    show (token.Keyword keyword.Up ∷ token.Keyword keyword.To ∷ numeral n ∷ [])
statement kind.ShowRealized = show (token.Keyword keyword.Realized ∷ [])
statement kind.ShowUnrealized = show (token.Keyword keyword.Unrealized ∷ [])
statement kind.ShowBounds = show (token.Keyword keyword.Bounds ∷ [])
statement kind.ShowProof = show (token.Keyword keyword.Proof ∷ [])
statement (kind.Compare left right) = token.Keyword keyword.Compare ∷ (path left ++ path right)
statement (kind.Decide list packet) =
    token.Keyword keyword.Decide
    ∷ (path list ++ enclosed (by_commas (λ one. literal one ∷ []) packet))
statement (kind.Generate n seed text) =
    token.Keyword keyword.Generate ∷ numeral n ∷ numeral seed ∷ token.Keyword keyword.As
    ∷ token.Name text ∷ []
statement (kind.Link from from_interface to to_interface) =
    token.Keyword keyword.Link ∷ ends from from_interface to to_interface
statement (kind.Paths from from_interface to to_interface within) =
    token.Keyword keyword.Path
    ∷ (ends from from_interface to to_interface ++ token.Keyword keyword.Within ∷ numeral within
    ∷ [])
statement (kind.Audit list) = token.Keyword keyword.Audit ∷ path list
statement (kind.Core list verdict tests) =
    token.Keyword keyword.Core
    ∷ (path list ++ token.Sign sign_of.Colon ∷ token.Name verdict ∷ token.Keyword keyword.Where
    ∷ by_commas field_test tests)

-- the tokens of its line
abbrev pub line_of : Kind → List Token
line_of what = statement what ++ token.Sign sign_of.Semicolon ∷ []

abbrev pub kinds : Script → List Kind
kinds script = map (λ one. one.kind) script.statements

-- the text of a script of these kinds
abbrev pub script_text : List Kind → List ℕ
script_text all = lines_text (map line_of all)

-- statements of these kinds, the first on this line, and each other on the line behind the one before it
abbrev pub numbered : ℕ → List Kind → List Statement
numbered line [] = []
numbered line (what ∷ more) = record { line = line; kind = what } ∷ numbered (line + 1) more

-- a script of the same kinds, each statement on a line of its own
abbrev pub renumbered : Script → Script
renumbered script = record { statements = numbered 1 (kinds script) }
