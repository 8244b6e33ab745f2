-- What a token does where something is due.
use Rattle.std.specs.Prelude.{ℕ, suc, ◌^◌, ◌-◌, ◌==◌, Bool, true, false, cond, List, [], ◌∷◌, ◌++◌, Option, Some, None, refl}
use denote.Enum.Bare.{sameb}
use Rattle.query_tokens.specs.contracts.keyword.Keyword.{the_type as the_keywords}
use Rattle.query_tokens.specs.contracts.token.Sign.{the_type as the_signs}
use Rattle.query_tokens.specs.declared.keyword.Keyword.{Keyword}
use Rattle.query_tokens.specs.declared.keyword.Keyword.TheVariants as keyword
use Rattle.query_tokens.specs.declared.token.Sign.{Sign}
use Rattle.query_tokens.specs.declared.token.Sign.TheVariants as sign_of
use Rattle.query_tokens.specs.declared.token.Token.{Token}
use Rattle.query_tokens.specs.declared.token.Token.TheVariants as token
use Rattle.query_tokens.specs.Keywords.{letters}
use Rattle.query_lang.specs.declared.formula.Named.{Named}
use Rattle.query_lang.specs.declared.formula.Named.TheVariants as named
use Rattle.query_lang.specs.declared.literal.Literal.{Literal}
use Rattle.query_lang.specs.declared.literal.Literal.TheVariants as literal
use Rattle.query_lang.specs.declared.literal.NamedTest.{NamedTest}
use Rattle.query_lang.specs.declared.literal.Path.{Path}
use Rattle.query_lang.specs.declared.script.Explore.{Explore}
use Rattle.query_lang.specs.declared.script.Kind.{Kind}
use Rattle.query_lang.specs.declared.script.Kind.TheVariants as kind
use Rattle.query_lang.specs.declared.script.Statement.{Statement}
use Rattle.query_lang.specs.declared.term.Arg.{Arg}
use Rattle.query_lang.specs.declared.term.Arg.TheVariants as arg
use Rattle.query_lang.specs.declared.term.NamedTerm.{NamedTerm}
use Rattle.query_lang.specs.declared.term.NamedTerm.TheVariants as term
use Rattle.query_lang.specs.Words.{number, is_number}
use Rattle.query_lang.specs.Literals.{NumberTest, dotted_number}
use Rattle.query_lang.specs.Formulas.{tested, conjunction, disjunction, equivalence}
use Rattle.query_lang.specs.Statements.{field_tested}
use Rattle.query_lang.specs.Machine.Due.{Due, State, Moved}

-- Tests of a token.

abbrev pub is_word : Keyword → Token → Bool
is_word w (token.Keyword v) = sameb the_keywords v w
is_word w (token.Name text) = false
is_word w (token.Digits text) = false
is_word w (token.Word text) = false
is_word w (token.Quoted text) = false
is_word w (token.Sign s) = false
is_word w token.Bad = false

abbrev pub is_sign : Sign → Token → Bool
is_sign s (token.Keyword v) = false
is_sign s (token.Name text) = false
is_sign s (token.Digits text) = false
is_sign s (token.Word text) = false
is_sign s (token.Quoted text) = false
is_sign s (token.Sign t) = sameb the_signs t s
is_sign s token.Bad = false

-- What is due, one thing behind another, where `k` comes behind all.

abbrev pub Behind : Type 0 → Type 0
Behind Result = Result → State

abbrev pub path : Behind Path → State
path k = State.want Due.name (λ text. State.want (Due.components (text ∷ [])) k)

abbrev pub number_test : Behind NumberTest → State
number_test k = State.want Due.literal (λ first. State.want (Due.second first) k)

abbrev pub a_term : ℕ → Behind NamedTerm → State
a_term level k = State.want Due.name (λ text. State.want (Due.called level text) k)

abbrev pub atom : ℕ → Behind Named → State
atom level k = State.want Due.name (λ text. State.want (Due.atom_tail level text) k)

-- behind a path: its verdict and arguments
abbrev pub decided : ℕ → Path → Behind Named → State
decided level list k =
    State.want Due.name (λ verdict. State.want (Due.args level)
    (λ arguments. k (named.AtPath list verdict arguments)))

-- behind a dot: the other components, then a colon and the rest
abbrev pub at_path : ℕ → List ℕ → Behind Named → State
at_path level text k =
    State.want Due.component
    (λ part. State.want (Due.components (text ∷ part ∷ []))
    (λ list. State.want (Due.sign sign_of.Colon) (λ _. decided level list k)))

-- an atom whose first name begins a path, from behind the name; and one whose first name is called
abbrev pub pathed : ℕ → List ℕ → Behind Named → State
pathed level text k =
    State.want (Due.components (text ∷ []))
    (λ list. State.want (Due.sign sign_of.Colon) (λ _. decided level list k))

abbrev pub calling : ℕ → List ℕ → Behind Named → State
calling level text k =
    State.want (Due.args level) (λ arguments. State.want (Due.holds_tail level text arguments) k)

-- behind a term: EQUALS or IN was read
abbrev pub equal_to : ℕ → NamedTerm → Behind Named → State
equal_to level left k = a_term level (λ right. k (named.Equal left right))

abbrev pub tested_in : NamedTerm → Behind Named → State
tested_in left k = number_test (λ test. k (tested left test))

abbrev pub a_conjunction : ℕ → List Named → Behind Named → State
a_conjunction level parts k =
    State.want (Due.unary level) (λ part. State.want (Due.more_and level (parts ++ part ∷ [])) k)

abbrev pub a_disjunction : ℕ → List Named → Behind Named → State
a_disjunction level parts k =
    a_conjunction level [] (λ part. State.want (Due.more_or level (parts ++ part ∷ [])) k)

abbrev pub implication : ℕ → Behind Named → State
implication level k = a_disjunction level [] (λ left. State.want (Due.implies level left) k)

abbrev pub an_equivalence : ℕ → List Named → Behind Named → State
an_equivalence level parts k =
    implication level (λ part. State.want (Due.more_iff level (parts ++ part ∷ [])) k)

abbrev pub quantified : ℕ → (List ℕ → List ℕ → Named → Named) → Behind Named → State
quantified level of k =
    State.want Due.name (λ variable. State.want (Due.sign sign_of.Colon)
    (λ _. State.want Due.name
    (λ sort. State.want (Due.unary (suc level)) (λ body. k (of variable sort body)))))

-- a declared variable and its sort
abbrev pub variable : Behind (List ℕ × List ℕ) → State
variable k =
    State.want Due.name (λ text. State.want (Due.sign sign_of.Colon)
    (λ _. State.want Due.name (λ sort. k (text, sort))))

abbrev pub declared : List (List ℕ × List ℕ) → Behind (List (List ℕ × List ℕ)) → State
declared parts k =
    State.want Due.name (λ variable. State.want (Due.sign sign_of.Colon)
    (λ _. State.want Due.name
    (λ sort. State.want (Due.more_vars (parts ++ (variable, sort) ∷ [])) k)))

-- a file, and the name that it is loaded as
abbrev pub file_and_name : Behind (List ℕ × List ℕ) → State
file_and_name k =
    State.want Due.quoted
    (λ file. State.want (Due.word keyword.As) (λ _. State.want Due.name (λ text. k (file, text))))

abbrev pub named_file : (List ℕ → List ℕ → Kind) → Behind Kind → State
named_file of k =
    State.want Due.quoted
    (λ file. State.want (Due.word keyword.As) (λ _. State.want Due.name (λ text. k (of file text))))

abbrev pub field_test : Behind NamedTest → State
field_test k =
    State.want Due.name (λ field. State.want (Due.word keyword.In)
    (λ _. number_test (λ test. k (field_tested field test))))

abbrev pub tests : List NamedTest → Behind (List NamedTest) → State
tests parts k = field_test (λ test. State.want (Due.more_tests (parts ++ test ∷ [])) k)

-- Statements behind their first word.

-- what a question is asked under, and the atoms that are shown beside
abbrev pub shown : Behind (List (List ℕ) × List Named) → State
shown k = State.want Due.under (λ under. State.want Due.include (λ include. k (under, include)))

abbrev pub explore : Behind Explore → State
explore k =
    State.want Due.vars (λ vars. an_equivalence 0 []
    (λ formula. State.want Due.under (λ under. State.want Due.include (λ include.
    k (record { vars = vars; formula = formula; under = under; include = include })))))

abbrev pub compare : Behind Kind → State
compare k = path (λ left. path (λ right. k (kind.Compare left right)))

abbrev pub decide : Behind Kind → State
decide k =
    path (λ list. State.want (Due.sign sign_of.Open)
    (λ _. State.want Due.literal
    (λ first. State.want (Due.more_literals (first ∷ [])) (λ packet. k (kind.Decide list packet)))))

abbrev pub generate : Behind Kind → State
generate k =
    State.want (Due.number 1 5000 refl)
    (λ n. State.want (Due.number 0 (2 ^ 31 - 1) refl)
    (λ seed. State.want (Due.word keyword.As)
    (λ _. State.want Due.name (λ text. k (kind.Generate n seed text)))))

abbrev pub possible : Behind Kind → State
possible k =
    State.want (Due.word keyword.Possible)
    (λ _. State.want (Due.sign sign_of.Question) (λ _. k kind.IsPossible))

-- a router and an interface of it
abbrev pub interface : Behind (List ℕ × List ℕ) → State
interface k = State.want Due.name (λ router. State.want Due.quoted (λ port. k (router, port)))

abbrev pub both_ends : Behind ((List ℕ × List ℕ) × (List ℕ × List ℕ)) → State
both_ends k =
    interface (λ from. State.want (Due.word keyword.To) (λ _. interface (λ to. k (from, to))))

abbrev pub audit : Behind Kind → State
audit k = path (λ list. k (kind.Audit list))

-- an interface of a router, and one of another
abbrev pub two_ends : (List ℕ → List ℕ → List ℕ → List ℕ → State) → State
two_ends k =
    State.want Due.name (λ from. State.want Due.quoted
    (λ from_interface. State.want (Due.word keyword.To) (λ _.
    State.want Due.name (λ to. State.want Due.quoted
    (λ to_interface. k from from_interface to to_interface)))))

abbrev pub link : Behind Kind → State
link k =
    two_ends (λ from from_interface to to_interface. k
    (kind.Link from from_interface to to_interface))

abbrev pub paths : Behind Kind → State
paths k =
    two_ends (λ from from_interface to to_interface. State.want (Due.word keyword.Within)
    (λ _. State.want (Due.number 1 8 refl)
    (λ within. k (kind.Paths from from_interface to to_interface within))))

abbrev pub core : Behind Kind → State
core k =
    path (λ list. State.want (Due.sign sign_of.Colon)
    (λ _. State.want Due.name (λ verdict. State.want (Due.word keyword.Where) (λ _.
    tests [] (λ all. k (kind.Core list verdict all))))))

-- behind a statement: its semicolon, and the statements that follow
abbrev pub finished : Option ℕ → List Statement → ℕ → Behind Kind
finished explored parts line what =
    State.want (Due.sign sign_of.Semicolon)
    (λ _. State.statements explored (parts ++ record { line = line; kind = what } ∷ []))

-- The steps.

abbrev pub named_by : (List ℕ → Moved) → Token → Moved
named_by go (token.Name text) = go text
named_by go (token.Keyword w) = Moved.stops
named_by go (token.Digits text) = Moved.stops
named_by go (token.Word text) = Moved.stops
named_by go (token.Quoted text) = Moved.stops
named_by go (token.Sign s) = Moved.stops
named_by go token.Bad = Moved.stops

abbrev pub quoted_by : (List ℕ → Moved) → Token → Moved
quoted_by go (token.Quoted text) = go text
quoted_by go (token.Keyword w) = Moved.stops
quoted_by go (token.Name text) = Moved.stops
quoted_by go (token.Digits text) = Moved.stops
quoted_by go (token.Word text) = Moved.stops
quoted_by go (token.Sign s) = Moved.stops
quoted_by go token.Bad = Moved.stops

abbrev pub component_by : (List ℕ → Moved) → Token → Moved
component_by go (token.Keyword w) = go (letters w)
component_by go (token.Name text) = go text
component_by go (token.Digits text) = go text
component_by go (token.Word text) = go text
component_by go (token.Quoted text) = go text
component_by go (token.Sign s) = Moved.stops
component_by go token.Bad = Moved.stops

abbrev pub numbered_by : ℕ → ℕ → (ℕ → Moved) → Token → Moved
numbered_by low high go (token.Digits text) =
    cond (is_number low high text) (go (number text)) Moved.stops
numbered_by low high go (token.Keyword w) = Moved.stops
numbered_by low high go (token.Name text) = Moved.stops
numbered_by low high go (token.Word text) = Moved.stops
numbered_by low high go (token.Quoted text) = Moved.stops
numbered_by low high go (token.Sign s) = Moved.stops
numbered_by low high go token.Bad = Moved.stops

-- a literal; where the number is that of a byte, three others may follow
abbrev pub number_read : List ℕ → Behind Literal → Moved
number_read text k =
    cond (is_number 0 255 text) (Moved.moves (State.want (Due.dots text) k))
    (cond (is_number 0 (2 ^ 128 - 1) text) (Moved.moves (k (literal.Number (number text))))
    Moved.stops)

abbrev pub literal_by : Behind Literal → Moved → Token → Moved
literal_by k other (token.Digits text) = number_read text k
literal_by k other (token.Quoted text) = Moved.moves (k (literal.Interface text))
literal_by k other (token.Keyword w) = other
literal_by k other (token.Name text) = other
literal_by k other (token.Word text) = other
literal_by k other (token.Sign s) = other
literal_by k other token.Bad = other

-- a dot, and the number of one byte
abbrev pub dotted_byte : Behind ℕ → State
dotted_byte k = State.want (Due.sign sign_of.Dot) (λ _. State.want (Due.number 0 255 refl) k)

-- three bytes more, each behind a dot
abbrev pub dotted_bytes : ℕ → Behind Literal → State
dotted_bytes a k =
    dotted_byte (λ b. dotted_byte
    (λ c. dotted_byte (λ d. k (literal.Number (dotted_number a b c d)))))

-- the same behind the first dot
abbrev pub three_bytes : ℕ → Behind Literal → State
three_bytes a k =
    State.want (Due.number 0 255 refl)
    (λ b. dotted_byte (λ c. dotted_byte (λ d. k (literal.Number (dotted_number a b c d)))))

-- an argument, or else
abbrev pub arg_by : ℕ → Behind Arg → Moved → Token → Moved
arg_by level k other (token.Name text) =
    Moved.moves (State.want (Due.called level text) (λ value. k (arg.Term value)))
arg_by level k other (token.Sign s) =
    cond (is_sign sign_of.Request (token.Sign s)) (Moved.moves (k arg.Req)) other
arg_by level k other (token.Keyword w) = other
arg_by level k other (token.Digits text) = other
arg_by level k other (token.Word text) = other
arg_by level k other (token.Quoted text) = other
arg_by level k other token.Bad = other

abbrev pub is_quantifier : Keyword → Bool
is_quantifier keyword.Forall = true
is_quantifier keyword.Exists = true
is_quantifier w = false

-- the formula of a quantifier, by its word
abbrev pub quantify : Keyword → List ℕ → List ℕ → Named → Named
quantify keyword.Exists variable sort body = named.Exists variable sort body
quantify w variable sort body = named.Forall variable sort body

abbrev pub unary_word : ℕ → Behind Named → Keyword → Moved
unary_word level k keyword.True = Moved.moves (k named.True)
unary_word level k keyword.False = Moved.moves (k named.False)
unary_word level k keyword.Not =
    Moved.opens level (State.want (Due.unary (suc level)) (λ body. k (named.Not body)))
unary_word level k keyword.Forall = Moved.opens level (quantified level named.Forall k)
unary_word level k keyword.Exists = Moved.opens level (quantified level named.Exists k)
unary_word level k w = Moved.stops

abbrev pub unary_by : ℕ → Behind Named → Token → Moved
unary_by level k (token.Keyword w) = unary_word level k w
unary_by level k (token.Name text) = Moved.moves (State.want (Due.atom_tail level text) k)
unary_by level k (token.Sign s) =
    cond (is_sign sign_of.Open (token.Sign s))
    (Moved.opens level (an_equivalence (suc level) []
    (λ value. State.want (Due.sign sign_of.Close) (λ _. k value)))) Moved.stops
unary_by level k (token.Digits text) = Moved.stops
unary_by level k (token.Word text) = Moved.stops
unary_by level k (token.Quoted text) = Moved.stops
unary_by level k token.Bad = Moved.stops

abbrev pub load_word : Behind Kind → Keyword → Moved
load_word k keyword.Vocab = Moved.moves (State.want Due.quoted (λ file. k (kind.LoadVocab file)))
load_word k keyword.Policy = Moved.moves (State.want Due.quoted (λ file. k (kind.LoadPolicy file)))
load_word k keyword.Ios = Moved.moves (named_file kind.LoadIos k)
load_word k keyword.Iptables = Moved.moves (named_file kind.LoadIptables k)
load_word k w = Moved.stops

abbrev pub show_word : Behind Kind → Keyword → Moved
show_word k keyword.One = Moved.moves (k kind.ShowOne)
show_word k keyword.First =
    Moved.moves (State.want (Due.number 1 1000000 refl) (λ n. k (kind.ShowFirst n)))
show_word k keyword.All = Moved.moves (k kind.ShowAll)
show_word k keyword.Full = Moved.moves (k kind.ShowFull)
show_word k keyword.Up =
    Moved.moves (State.want (Due.word keyword.To)
    (λ _. State.want (Due.number 1 100 refl) (λ n. k (kind.ShowUpTo n))))
show_word k keyword.Realized = Moved.moves (k kind.ShowRealized)
show_word k keyword.Unrealized = Moved.moves (k kind.ShowUnrealized)
show_word k keyword.Bounds = Moved.moves (k kind.ShowBounds)
show_word k keyword.Proof = Moved.moves (k kind.ShowProof)
show_word k w = Moved.stops

-- a statement that asks
abbrev pub asking : Option ℕ → State → Moved
asking None state = Moved.asks state
asking (Some explored) state = Moved.moves state

-- an EXPLORE on this line
abbrev pub exploring : Option ℕ → ℕ → State → Moved
exploring None line state = Moved.moves state
exploring (Some explored) line state = cond (explored == line) Moved.stops (Moved.moves state)

abbrev pub statement_word : Option ℕ → List Statement → ℕ → Keyword → Moved
statement_word explored parts line keyword.Load =
    Moved.moves (State.want Due.load (finished explored parts line))
statement_word explored parts line keyword.Explore =
    exploring explored line (explore (λ what. finished (Some line) parts line (kind.Explore what)))
statement_word explored parts line keyword.Is =
    asking explored (State.want (Due.word keyword.Possible)
    (λ _. State.want (Due.sign sign_of.Question)
    (λ _. finished explored parts line kind.IsPossible)))
statement_word explored parts line keyword.Show =
    asking explored (State.want Due.show (finished explored parts line))
statement_word explored parts line keyword.Compare =
    Moved.moves (compare (finished explored parts line))
statement_word explored parts line keyword.Decide =
    Moved.moves (decide (finished explored parts line))
statement_word explored parts line keyword.Generate =
    Moved.moves (generate (finished explored parts line))
statement_word explored parts line keyword.Link = Moved.moves (link (finished explored parts line))
statement_word explored parts line keyword.Path = Moved.moves (paths (finished explored parts line))
statement_word explored parts line keyword.Audit =
    Moved.moves (path (λ list. finished explored parts line (kind.Audit list)))
statement_word explored parts line keyword.Core = Moved.moves (core (finished explored parts line))
statement_word explored parts line w = Moved.stops

-- a word, or else
abbrev pub by_word : (Keyword → Moved) → Token → Moved
by_word go (token.Keyword w) = go w
by_word go (token.Name text) = Moved.stops
by_word go (token.Digits text) = Moved.stops
by_word go (token.Word text) = Moved.stops
by_word go (token.Quoted text) = Moved.stops
by_word go (token.Sign s) = Moved.stops
by_word go token.Bad = Moved.stops

-- what the token does on this line
abbrev pub step : State → ℕ → Token → Moved
step (State.want (Due.word w) k) line t = cond (is_word w t) (Moved.moves (k tt)) Moved.stops
step (State.want (Due.sign s) k) line t = cond (is_sign s t) (Moved.moves (k tt)) Moved.stops
step (State.want Due.name k) line t = named_by (λ text. Moved.moves (k text)) t
step (State.want Due.quoted k) line t = quoted_by (λ text. Moved.moves (k text)) t
step (State.want Due.component k) line t = component_by (λ text. Moved.moves (k text)) t
step (State.want (Due.number low high fits) k) line t =
    numbered_by low high (λ n. Moved.moves (k n)) t
step (State.want Due.literal k) line t = literal_by k Moved.stops t
step (State.want (Due.dots text) k) line t =
    cond (is_sign sign_of.Dot t) (Moved.moves (three_bytes (number text) k))
    (step (k (literal.Number (number text))) line t)
step (State.want (Due.second first) k) line t =
    literal_by (λ other. k (NumberTest.masked first other))
    (cond (is_word keyword.To t)
    (Moved.moves (State.want Due.literal (λ high. k (NumberTest.range first high))))
    (step (k (NumberTest.range first first)) line t)) t
step (State.want (Due.components parts) k) line t =
    cond (is_sign sign_of.Dot t)
    (Moved.moves (State.want Due.component
    (λ part. State.want (Due.components (parts ++ part ∷ [])) k)))
    (step (k (record { parts = parts })) line t)
step (State.want (Due.called level text) k) line t =
    cond (is_sign sign_of.Open t)
    (Moved.opens level (State.want (Due.first_arg (suc level))
    (λ arguments. k (term.Call text arguments)))) (step (k (term.Name text)) line t)
step (State.want (Due.args level) k) line t =
    cond (is_sign sign_of.Open t) (Moved.opens level (State.want (Due.first_arg (suc level)) k))
    Moved.stops
step (State.want (Due.first_arg level) k) line t =
    arg_by level (λ part. State.want (Due.more_args level (part ∷ [])) k)
    (cond (is_sign sign_of.Close t) (Moved.moves (k [])) Moved.stops) t
step (State.want (Due.arg level) k) line t = arg_by level k Moved.stops t
step (State.want (Due.more_args level parts) k) line t =
    cond (is_sign sign_of.Comma t)
    (Moved.moves (State.want (Due.arg level)
    (λ part. State.want (Due.more_args level (parts ++ part ∷ [])) k)))
    (cond (is_sign sign_of.Close t) (Moved.moves (k parts)) Moved.stops)
step (State.want (Due.atom_tail level text) k) line t =
    cond (is_sign sign_of.Dot t) (Moved.moves (at_path level text k))
    (cond (is_sign sign_of.Colon t) (Moved.moves (decided level (record { parts = text ∷ [] }) k))
    (cond (is_sign sign_of.Open t)
    (Moved.opens level (State.want (Due.first_arg (suc level))
    (λ arguments. State.want (Due.holds_tail level text arguments) k)))
    (cond (is_sign sign_of.Equals t) (Moved.moves (equal_to level (term.Name text) k))
    (cond (is_word keyword.In t) (Moved.moves (tested_in (term.Name text) k)) Moved.stops))))
step (State.want (Due.holds_tail level text arguments) k) line t =
    cond (is_sign sign_of.Equals t) (Moved.moves (equal_to level (term.Call text arguments) k))
    (cond (is_word keyword.In t) (Moved.moves (tested_in (term.Call text arguments) k))
    (step (k (named.Holds text arguments)) line t))
step (State.want (Due.unary level) k) line t = unary_by level k t
step (State.want (Due.more_and level parts) k) line t =
    cond (is_word keyword.And t) (Moved.moves (a_conjunction level parts k))
    (step (k (conjunction parts)) line t)
step (State.want (Due.more_or level parts) k) line t =
    cond (is_word keyword.Or t) (Moved.moves (a_disjunction level parts k))
    (step (k (disjunction parts)) line t)
step (State.want (Due.implies level left) k) line t =
    cond (is_word keyword.Implies t)
    (Moved.opens level (implication (suc level) (λ right. k (named.Implies left right))))
    (step (k left) line t)
step (State.want (Due.more_iff level parts) k) line t =
    cond (is_word keyword.Iff t) (Moved.moves (an_equivalence level parts k))
    (step (k (equivalence parts)) line t)
step (State.want Due.vars k) line t =
    cond (is_sign sign_of.OpenBracket t) (Moved.moves (declared [] k)) (step (k []) line t)
step (State.want (Due.more_vars parts) k) line t =
    cond (is_sign sign_of.Comma t) (Moved.moves (declared parts k))
    (cond (is_sign sign_of.CloseBracket t) (Moved.moves (k parts)) Moved.stops)
step (State.want Due.under k) line t =
    cond (is_word keyword.Under t)
    (Moved.moves (State.want Due.name (λ text. State.want (Due.more_names (text ∷ [])) k)))
    (step (k []) line t)
step (State.want (Due.more_names parts) k) line t =
    cond (is_sign sign_of.Comma t)
    (Moved.moves (State.want Due.name (λ text. State.want (Due.more_names (parts ++ text ∷ [])) k)))
    (step (k parts) line t)
step (State.want Due.include k) line t =
    cond (is_word keyword.Include t)
    (Moved.moves (atom 0 (λ part. State.want (Due.more_atoms (part ∷ [])) k))) (step (k []) line t)
step (State.want (Due.more_atoms parts) k) line t =
    cond (is_sign sign_of.Comma t)
    (Moved.moves (atom 0 (λ part. State.want (Due.more_atoms (parts ++ part ∷ [])) k)))
    (step (k parts) line t)
step (State.want (Due.more_literals parts) k) line t =
    cond (is_sign sign_of.Comma t)
    (Moved.moves (State.want Due.literal
    (λ part. State.want (Due.more_literals (parts ++ part ∷ [])) k)))
    (cond (is_sign sign_of.Close t) (Moved.moves (k parts)) Moved.stops)
step (State.want (Due.more_tests parts) k) line t =
    cond (is_sign sign_of.Comma t) (Moved.moves (tests parts k)) (step (k parts) line t)
step (State.want Due.load k) line t = by_word (load_word k) t
step (State.want Due.show k) line t = by_word (show_word k) t
step (State.statements explored parts) line t = by_word (statement_word explored parts line) t
