-- What is due when a script is read token by token. Private calls are stated by it, and no public one.
use Rattle.std.specs.Prelude.{◌≡◌, ℕ, true, List, Option, codes}
use Rattle.query_tokens.specs.declared.keyword.Keyword.{Keyword}
use Rattle.query_tokens.specs.declared.token.Sign.{Sign}
use Rattle.query_lang.specs.declared.formula.Named.{Named}
use Rattle.query_lang.specs.declared.literal.Literal.{Literal}
use Rattle.query_lang.specs.declared.literal.NamedTest.{NamedTest}
use Rattle.query_lang.specs.declared.literal.Path.{Path}
use Rattle.query_lang.specs.declared.script.Kind.{Kind}
use Rattle.query_lang.specs.declared.script.Statement.{Statement}
use Rattle.query_lang.specs.declared.term.Arg.{Arg}
use Rattle.query_lang.specs.declared.term.NamedTerm.{NamedTerm}
use Rattle.query_lang.specs.Words.{is_number}
use Rattle.query_lang.specs.Literals.{NumberTest}

abbrev pub one : List ℕ
one = codes "1"

-- the parts of scripts by their first tokens, and what may stand behind such a token. Numbers are levels that are
-- open; lists hold what of a chain was read. A number is due only between two that 1 lies between
pub data Due : Type 0 where
  word : Keyword → Due
  sign : Sign → Due
  name : Due
  quoted : Due
  component : Due
  number : (low high : ℕ) → is_number low high one ≡ true → Due
  literal : Due
  dots : List ℕ → Due
  second : Literal → Due
  components : List (List ℕ) → Due
  called : ℕ → List ℕ → Due
  args : ℕ → Due
  first_arg : ℕ → Due
  arg : ℕ → Due
  more_args : ℕ → List Arg → Due
  atom_tail : ℕ → List ℕ → Due
  holds_tail : ℕ → List ℕ → List Arg → Due
  unary : ℕ → Due
  more_and : ℕ → List Named → Due
  more_or : ℕ → List Named → Due
  implies : ℕ → Named → Due
  more_iff : ℕ → List Named → Due
  vars : Due
  more_vars : List (List ℕ × List ℕ) → Due
  under : Due
  more_names : List (List ℕ) → Due
  include : Due
  more_atoms : List Named → Due
  more_literals : List Literal → Due
  more_tests : List NamedTest → Due
  load : Due
  show : Due

-- what is read for it
abbrev pub Value : Due → Type 0
Value (Due.word w) = Unit {0}
Value (Due.sign s) = Unit {0}
Value Due.name = List ℕ
Value Due.quoted = List ℕ
Value Due.component = List ℕ
Value (Due.number low high fits) = ℕ
Value Due.literal = Literal
Value (Due.dots text) = Literal
Value (Due.second first) = NumberTest
Value (Due.components parts) = Path
Value (Due.called level text) = NamedTerm
Value (Due.args level) = List Arg
Value (Due.first_arg level) = List Arg
Value (Due.arg level) = Arg
Value (Due.more_args level parts) = List Arg
Value (Due.atom_tail level text) = Named
Value (Due.holds_tail level text parts) = Named
Value (Due.unary level) = Named
Value (Due.more_and level parts) = Named
Value (Due.more_or level parts) = Named
Value (Due.implies level left) = Named
Value (Due.more_iff level parts) = Named
Value Due.vars = List (List ℕ × List ℕ)
Value (Due.more_vars parts) = List (List ℕ × List ℕ)
Value Due.under = List (List ℕ)
Value (Due.more_names parts) = List (List ℕ)
Value Due.include = List Named
Value (Due.more_atoms parts) = List Named
Value (Due.more_literals parts) = List Literal
Value (Due.more_tests parts) = List NamedTest
Value Due.load = Kind
Value Due.show = Kind

-- something is due, and what comes behind it; or so many statements were read, behind an EXPLORE on this line
pub data State : Type 0 where
  want : (due : Due) → (Value due → State) → State
  statements : Option ℕ → List Statement → State

-- what one token does: nothing is read on, it is read, it opens a level where so many are open, or it begins a
-- statement that asks before any EXPLORE
pub data Moved : Type 0 where
  stops : Moved
  moves : State → Moved
  opens : ℕ → State → Moved
  asks : State → Moved
