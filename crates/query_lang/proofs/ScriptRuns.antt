-- Scripts of the grammar are what the machine reads.
use Rattle.std.proofs.Common.{◌≡◌, ℕ, ◌^◌, ◌-◌, Bool, cond, List, [], ◌∷◌, ◌++◌, length, Option, Some, None, refl, ap, ◌∙◌, sym, append_assoc, arith}
use Rattle.query_tokens.specs.declared.keyword.Keyword.TheVariants as keyword
use Rattle.query_tokens.specs.declared.token.Placed.{Placed}
use Rattle.query_tokens.specs.declared.token.Sign.TheVariants as sign_of
use Rattle.query_tokens.specs.declared.token.Token.{Token}
use Rattle.query_tokens.specs.declared.token.Token.TheVariants as token
use Rattle.query_lang.specs.declared.formula.Named.{Named}
use Rattle.query_lang.specs.declared.literal.Literal.{Literal}
use Rattle.query_lang.specs.declared.literal.NamedTest.{NamedTest}
use Rattle.query_lang.specs.declared.literal.Path.{Path}
use Rattle.query_lang.specs.declared.script.Explore.{Explore}
use Rattle.query_lang.specs.declared.script.Kind.{Kind}
use Rattle.query_lang.specs.declared.script.Kind.TheVariants as kind
use Rattle.query_lang.specs.declared.script.Script.{Script}
use Rattle.query_lang.specs.declared.script.Statement.{Statement}
use Rattle.query_lang.specs.declared.term.NamedTerm.{NamedTerm}
use Rattle.query_lang.specs.Rules.{Rules}
use Rattle.query_lang.specs.Words.{Tokens, word, sign, name, digits, number}
use Rattle.query_lang.specs.Chains.{IsChain}
use Rattle.query_lang.specs.Literals.{IsLiteral}
use Rattle.query_lang.specs.Paths.{IsPath}
use Rattle.query_lang.specs.Terms.{IsTerm}
use Rattle.query_lang.specs.Formulas.{IsAtom, IsUnary, IsConjunction, IsDisjunction, IsImplication, IsEquivalence, equivalence}
use Rattle.query_lang.specs.Statements.{IsAsk, IsCommand, IsExplore, IsName, IsDeclared, AreDeclared, AreUnder, AreIncluded, IsFieldTest, field_tested}
use Rattle.query_lang.specs.Scripts.{AreStatements, MayAsk, IsOffLine}
use Rattle.query_lang.specs.Machine.Due.{Due, State, Moved}
use Rattle.query_lang.specs.Machine.Steps
use Rattle.query_lang.specs.Machine.Steps.{Behind, step, is_word, is_sign, literal_by, number_read, three_bytes, arg_by, unary_word, unary_by, load_word, show_word, statement_word, finished, a_term, a_conjunction, a_disjunction, implication, an_equivalence, number_test, at_path, decided, equal_to, tested_in, quantified, exploring, asking}
use Rattle.std.proofs.lemmas.Bool.{ne_eqb}
use Rattle.std.proofs.lemmas.List.{append-nil}
use Rattle.query_lang.specs.Machine.Outcome.{Outcome, outcome, settled}
use Rattle.query_lang.specs.declared.script.ScriptReason.TheVariants as reason
use Rattle.query_lang.specs.Statements.{IsFieldTest}
use Rattle.query_lang.proofs.Accepting.{comma}
use Rattle.query_lang.specs.Machine.Outcome.{of_script}
use Rattle.query_lang.specs.Scripts.{IsScript}
use Rattle.query_lang.specs.Machine.Steps.{declared, field_test}
use Rattle.query_lang.proofs.PhraseRuns.{Away, Free, skipped, left_out, number_step, literal_runs, test_runs, seconds, chain_runs, path_runs, atom_runs, no_iff, equivalence_runs}

before_path : (path : Path) (ts rest : Tokens) → IsPath path ts rest → Away (is_sign sign_of.Dot) ts
before_path path ts rest (IsPath.alone line text _) = refl
before_path path ts rest (IsPath.longer i j text parts tokens _ is) = refl

module _ (rules : Rules) where
  abbrev out : Tokens → State → Outcome
  out ts state = outcome rules ts state

  -- Formulas begin with no bracket.

  path_begins : (path : Path) (ts rest : Tokens) → IsPath path ts rest → Away (is_sign sign_of.OpenBracket) ts
  path_begins path ts rest (IsPath.alone line text _) = refl
  path_begins path ts rest (IsPath.longer i j text parts tokens _ is) = refl

  term_begins : (level : ℕ) (v : NamedTerm) (ts rest : Tokens) → IsTerm rules level v ts rest → Away (is_sign sign_of.OpenBracket) ts
  term_begins level v ts rest (IsTerm.plain _ line text _) = refl
  term_begins level v ts rest (IsTerm.call _ line text args tokens _ is) = refl

  atom_begins : (level : ℕ) (v : Named) (ts rest : Tokens) → IsAtom rules level v ts rest → Away (is_sign sign_of.OpenBracket) ts
  atom_begins level v ts rest (IsAtom.decided _ i j path verdict args _ others _ is are) = path_begins path ts (sign i sign_of.Colon ∷ name j verdict ∷ others) is
  atom_begins level v ts rest (IsAtom.equal _ line left right _ others _ is other) = term_begins level left ts (sign line sign_of.Equals ∷ others) is
  atom_begins level v ts rest (IsAtom.number_test _ line left test _ others _ is tests) = term_begins level left ts (word line keyword.In ∷ others) is
  atom_begins level v ts rest (IsAtom.holds _ line text args tokens _ are) = refl

  unary_begins : (level : ℕ) (v : Named) (ts rest : Tokens) → IsUnary rules level v ts rest → Away (is_sign sign_of.OpenBracket) ts
  unary_begins level v ts rest (IsUnary.always _ line _) = refl
  unary_begins level v ts rest (IsUnary.never _ line _) = refl
  unary_begins level v ts rest (IsUnary.not _ line body tokens _ may is) = refl
  unary_begins level v ts rest (IsUnary.forall _ g h i j variable sort body tokens _ may is) = refl
  unary_begins level v ts rest (IsUnary.exists _ g h i j variable sort body tokens _ may is) = refl
  unary_begins level v ts rest (IsUnary.group _ i j parts tokens _ may is) = refl
  unary_begins level v ts rest (IsUnary.atom _ _ _ _ is) = atom_begins level v ts rest is

  conjunction_begins : (level : ℕ) (parts : List Named) (ts rest : Tokens) → IsConjunction rules level parts ts rest → Away (is_sign sign_of.OpenBracket) ts
  conjunction_begins level parts ts rest (IsConjunction.and_one _ part _ _ is) = unary_begins level part ts rest is
  conjunction_begins level parts ts rest (IsConjunction.and_more _ line part more _ others _ is chain) = unary_begins level part ts (word line keyword.And ∷ others) is

  disjunction_begins : (level : ℕ) (parts : List Named) (ts rest : Tokens) → IsDisjunction rules level parts ts rest → Away (is_sign sign_of.OpenBracket) ts
  disjunction_begins level parts ts rest (IsDisjunction.or_one _ some _ _ is) = conjunction_begins level some ts rest is
  disjunction_begins level parts ts rest (IsDisjunction.or_more _ line some more _ others _ is chain) = conjunction_begins level some ts (word line keyword.Or ∷ others) is

  implication_begins : (level : ℕ) (v : Named) (ts rest : Tokens) → IsImplication rules level v ts rest → Away (is_sign sign_of.OpenBracket) ts
  implication_begins level v ts rest (IsImplication.alone _ parts _ _ is) = disjunction_begins level parts ts rest is
  implication_begins level v ts rest (IsImplication.implies _ line parts right _ others _ may is other) = disjunction_begins level parts ts (word line keyword.Implies ∷ others) is

  equivalence_begins : (level : ℕ) (parts : List Named) (ts rest : Tokens) → IsEquivalence rules level parts ts rest → Away (is_sign sign_of.OpenBracket) ts
  equivalence_begins level parts ts rest (IsEquivalence.iff_one _ part _ _ is) = implication_begins level part ts rest is
  equivalence_begins level parts ts rest (IsEquivalence.iff_more _ line part more _ others _ is chain) = implication_begins level part ts (word line keyword.Iff ∷ others) is

  -- An EXPLORE.

  abbrev Vars : Type 0
  Vars = List (List ℕ × List ℕ)

  var_runs : (part : List ℕ × List ℕ) (ts rest : Tokens) (before : List (List ℕ × List ℕ)) (k : Behind (List (List ℕ × List ℕ))) → IsDeclared part ts rest → out ts (declared before k) ≡ out rest (State.want (Due.more_vars (before ++ part ∷ [])) k)
  var_runs part ts rest before k (IsDeclared.declared g h i variable sort _) = refl

  vars_run : (vars : List (List ℕ × List ℕ)) (ts rest : Tokens) → AreDeclared vars ts rest → Away (is_sign sign_of.OpenBracket) rest → (k : Behind (List (List ℕ × List ℕ))) → out ts (State.want Due.vars k) ≡ out rest (k vars)
  vars_run vars ts rest (AreDeclared.none _) away k = skipped rules (is_sign sign_of.OpenBracket) (State.want Due.vars k) (k []) refl (λ line t e. left_out rules (is_sign sign_of.OpenBracket t) _ _ e) rest away
  vars_run vars ts rest (AreDeclared.some i j _ tokens _ chain) away k =
      chain_runs rules (List ℕ × List ℕ) comma IsDeclared (λ before. declared before k) (λ before. State.want (Due.more_vars before) k) (λ _. Unit {0})
      (λ part ts mid before is end. var_runs part ts mid before k is) (λ line before ts. refl) (λ line ts. tt) vars tokens (sign j sign_of.CloseBracket ∷ rest) chain tt []

  name_runs : (part : List ℕ) (ts rest : Tokens) → IsName part ts rest → (k : Behind (List ℕ)) → out ts (State.want Due.name k) ≡ out rest (k part)
  name_runs part ts rest (IsName.plain line text _) k = refl

  under_runs : (under : List (List ℕ)) (ts rest : Tokens) → AreUnder under ts rest → Away (is_word keyword.Under) rest → Away (is_sign sign_of.Comma) rest → (k : Behind (List (List ℕ))) → out ts (State.want Due.under k) ≡ out rest (k under)
  under_runs under ts rest (AreUnder.none _) away behind k = skipped rules (is_word keyword.Under) (State.want Due.under k) (k []) refl (λ line t e. left_out rules (is_word keyword.Under t) _ _ e) rest away
  under_runs under ts rest (AreUnder.some line _ tokens _ chain) away behind k =
      chain_runs rules (List ℕ) comma IsName (λ before. State.want Due.name (λ text. State.want (Due.more_names (before ++ text ∷ [])) k)) (λ before. State.want (Due.more_names before) k) (λ _. Unit {0})
      (λ part ts mid before is end. name_runs part ts mid is (λ text. State.want (Due.more_names (before ++ text ∷ [])) k)) (λ line before ts. refl) (λ line ts. tt) under tokens rest chain tt []
      ∙ skipped rules (is_sign sign_of.Comma) (State.want (Due.more_names under) k) (k under) refl (λ line t e. left_out rules (is_sign sign_of.Comma t) _ _ e) rest behind

  include_runs : (atoms : List Named) (line : ℕ) (ts rest : Tokens) → AreIncluded rules atoms ts (sign line sign_of.Semicolon ∷ rest) → (k : Behind (List Named)) → out ts (State.want Due.include k) ≡ out (sign line sign_of.Semicolon ∷ rest) (k atoms)
  include_runs atoms line ts rest (AreIncluded.none _) k = refl
  include_runs atoms line ts rest (AreIncluded.some i _ tokens _ chain) k =
      chain_runs rules Named comma (IsAtom rules 0) (λ before. Steps.atom 0 (λ part. State.want (Due.more_atoms (before ++ part ∷ [])) k)) (λ before. State.want (Due.more_atoms before) k) (Free 4)
      (λ part ts mid before is end. atom_runs rules 0 part ts mid is end (Steps.atom 0 (λ part. State.want (Due.more_atoms (before ++ part ∷ [])) k)) (λ part. State.want (Due.more_atoms (before ++ part ∷ [])) k) (λ line text. refl))
      (λ line before ts. refl) (λ line ts. omega arith) atoms tokens (sign line sign_of.Semicolon ∷ rest) chain (omega arith) []

  before_include : (atoms : List Named) (line : ℕ) (ts rest : Tokens) → AreIncluded rules atoms ts (sign line sign_of.Semicolon ∷ rest) → (Free 0 ts) × (Away (is_word keyword.Under) ts) × (Away (is_sign sign_of.Comma) ts)
  before_include atoms line ts rest (AreIncluded.none _) = (omega arith, refl, refl)
  before_include atoms line ts rest (AreIncluded.some i _ tokens _ chain) = (omega arith, refl, refl)

  before_under : (under : List (List ℕ)) (ts rest : Tokens) → AreUnder under ts rest → Free 0 rest → Free 0 ts
  before_under under ts rest (AreUnder.none _) free = free
  before_under under ts rest (AreUnder.some line _ tokens _ chain) free = omega arith

  explore_runs : (h line : ℕ) (what : Explore) (ts rest : Tokens) (first : Placed) → IsExplore rules what (first ∷ ts) (sign line sign_of.Semicolon ∷ rest) → (k : Behind Explore)
      → (first.token ≡ token.Keyword keyword.Explore) × (out ts (Steps.explore k) ≡ out (sign line sign_of.Semicolon ∷ rest) (k what))
  explore_runs h line what ts rest first (IsExplore.explore i vars parts under atoms _ b c d _ declared is names included) k =
      let last = before_include atoms line d rest included in
      let free = before_under under c d names last.0 in
      let with_include : Vars → Named → List (List ℕ) → State = λ vars formula under. State.want Due.include (λ include. k (record { vars = vars; formula = formula; under = under; include = include })) in
      let with_under : Vars → Behind Named = λ vars formula. State.want Due.under (λ under. with_include vars formula under) in (
        refl,
        vars_run vars ts b declared (equivalence_begins 0 parts b c is) (λ vars. an_equivalence 0 [] (with_under vars))
            ∙ equivalence_runs rules 0 parts b c is free [] (with_under vars) ∙ no_iff rules 0 parts (with_under vars) c free
            ∙ under_runs under c d names last.1 last.2 (with_include vars (equivalence parts))
            ∙ include_runs atoms line d rest included (λ include. k (record { vars = vars; formula = equivalence parts; under = under; include = include })),
      )

  -- Other statements.

  literals_run : (packet : List Literal) (line : ℕ) (ts rest : Tokens) → IsChain Literal comma IsLiteral packet ts (sign line sign_of.Close ∷ rest) → (k : Behind (List Literal))
      → out ts (State.want Due.literal (λ first. State.want (Due.more_literals (first ∷ [])) k)) ≡ out rest (k packet)
  literals_run packet line ts rest chain k =
      chain_runs rules Literal comma IsLiteral (λ before. State.want Due.literal (λ part. State.want (Due.more_literals (before ++ part ∷ [])) k)) (λ before. State.want (Due.more_literals before) k) (Away (is_sign sign_of.Dot))
      (λ part ts mid before is end. literal_runs rules part ts mid is end (State.want Due.literal (λ part. State.want (Due.more_literals (before ++ part ∷ [])) k)) (λ part. State.want (Due.more_literals (before ++ part ∷ [])) k) (λ line t. Moved.stops) (λ line t. refl))
      (λ line before ts. refl) (λ line ts. refl) packet ts (sign line sign_of.Close ∷ rest) chain refl []

  field_runs : (part : NamedTest) (ts rest : Tokens) → IsFieldTest part ts rest → Away (is_sign sign_of.Dot) rest → Away seconds rest → (k : Behind NamedTest) → out ts (field_test k) ≡ out rest (k part)
  field_runs part ts rest (IsFieldTest.field_test i j field test tokens _ is) away free k = test_runs rules test tokens rest is away free (λ test. k (field_tested field test))

  tests_run : (all : List NamedTest) (line : ℕ) (ts rest : Tokens) → IsChain NamedTest comma IsFieldTest all ts (sign line sign_of.Semicolon ∷ rest) → (k : Behind (List NamedTest))
      → out ts (Steps.tests [] k) ≡ out (sign line sign_of.Semicolon ∷ rest) (k all)
  tests_run all line ts rest chain k =
      chain_runs rules NamedTest comma IsFieldTest (λ before. Steps.tests before k) (λ before. State.want (Due.more_tests before) k) (λ ts. Away (is_sign sign_of.Dot) ts × Away seconds ts)
      (λ part ts mid before is end. field_runs part ts mid is end.0 end.1 (λ test. State.want (Due.more_tests (before ++ test ∷ [])) k))
      (λ line before ts. refl) (λ line ts. (refl, refl)) all ts (sign line sign_of.Semicolon ∷ rest) chain (refl, refl) []

  command_runs : (explored : Option ℕ) (parts : List Statement) (line : ℕ) (what : Kind) (first : Placed) (ts rest : Tokens) → IsCommand what (first ∷ ts) (sign line sign_of.Semicolon ∷ rest)
      → out (first ∷ ts) (State.statements explored parts) ≡ out (sign line sign_of.Semicolon ∷ rest) (finished explored parts first.line what)
  command_runs explored parts line what first ts rest (IsCommand.load_vocab h i j file _) = refl
  command_runs explored parts line what first ts rest (IsCommand.load_policy h i j file _) = refl
  command_runs explored parts line what first ts rest (IsCommand.load_ios h i j l m file text _) = refl
  command_runs explored parts line what first ts rest (IsCommand.load_iptables h i j l m file text _) = refl
  command_runs explored parts line what first ts rest (IsCommand.compare h left right _ others _ is other) =
      path_runs rules left ts others is (before_path right others (sign line sign_of.Semicolon ∷ rest) other) (λ left. Steps.path (λ right. finished explored parts h (kind.Compare left right)))
      ∙ path_runs rules right others (sign line sign_of.Semicolon ∷ rest) other refl (λ right. finished explored parts h (kind.Compare left right))
  command_runs explored parts line what first ts rest (IsCommand.decide h i j list packet _ others _ is chain) =
      path_runs rules list ts (sign i sign_of.Open ∷ others) is refl
      (λ list. State.want (Due.sign sign_of.Open) (λ _. State.want Due.literal (λ first. State.want (Due.more_literals (first ∷ [])) (λ packet. finished explored parts h (kind.Decide list packet)))))
      ∙ literals_run packet j others (sign line sign_of.Semicolon ∷ rest) chain (λ packet. finished explored parts h (kind.Decide list packet))
  command_runs explored parts line what first ts rest (IsCommand.generate h i j l m n seed text _ e f) =
      let last : ℕ → Behind ℕ = λ n seed. State.want (Due.word keyword.As) (λ _. State.want Due.name (λ text. finished explored parts h (kind.Generate n seed text))) in
      number_step rules 1 5000 refl (λ n. State.want (Due.number 0 (2 ^ 31 - 1) refl) (last n)) i n (digits j seed ∷ word l keyword.As ∷ name m text ∷ sign line sign_of.Semicolon ∷ rest) e
      ∙ number_step rules 0 (2 ^ 31 - 1) refl (last (number n)) j seed (word l keyword.As ∷ name m text ∷ sign line sign_of.Semicolon ∷ rest) f
  command_runs explored parts line what first ts rest (IsCommand.link h i j l m n from from_interface to to_interface _) = refl
  command_runs explored parts line what first ts rest (IsCommand.path h i j l m n o p from from_interface to to_interface within _ e) =
      number_step rules 1 8 refl (λ within. finished explored parts h (kind.Paths from from_interface to to_interface within)) p within (sign line sign_of.Semicolon ∷ rest) e
  command_runs explored parts line what first ts rest (IsCommand.audit h list _ _ is) = path_runs rules list ts (sign line sign_of.Semicolon ∷ rest) is refl (λ list. finished explored parts h (kind.Audit list))
  command_runs explored parts line what first ts rest (IsCommand.core h i j l list verdict tests _ others _ is chain) =
      path_runs rules list ts (sign i sign_of.Colon ∷ name j verdict ∷ word l keyword.Where ∷ others) is refl
      (λ list. State.want (Due.sign sign_of.Colon) (λ _. State.want Due.name (λ verdict. State.want (Due.word keyword.Where) (λ _. Steps.tests [] (λ all. finished explored parts h (kind.Core list verdict all))))))
      ∙ tests_run tests line others rest chain (λ all. finished explored parts h (kind.Core list verdict all))

  asked_by : (explored : Option ℕ) (tokens ts : Tokens) (state : State) → MayAsk rules explored → settled rules tokens (length ts) (outcome rules ts) (asking explored state) ≡ out ts state
  asked_by None tokens ts state may = ap (λ (b : Bool). cond b (out ts state) (Outcome.refuses tokens reason.NoExplore)) may
  asked_by (Some old) tokens ts state may = refl

  explored_by : (explored : Option ℕ) (line : ℕ) (tokens ts : Tokens) (state : State) → IsOffLine explored line → settled rules tokens (length ts) (outcome rules ts) (exploring explored line state) ≡ out ts state
  explored_by None line tokens ts state off = refl
  explored_by (Some old) line tokens ts state off = ap (λ (b : Bool). settled rules tokens (length ts) (outcome rules ts) (cond b Moved.stops (Moved.moves state))) (ne_eqb old line off)

  ask_runs : (explored : Option ℕ) (parts : List Statement) (line : ℕ) (what : Kind) (first : Placed) (ts rest : Tokens) → MayAsk rules explored → IsAsk what (first ∷ ts) (sign line sign_of.Semicolon ∷ rest)
      → out (first ∷ ts) (State.statements explored parts) ≡ out (sign line sign_of.Semicolon ∷ rest) (finished explored parts first.line what)
  ask_runs explored parts line what first ts rest may (IsAsk.possible h i j _) =
      asked_by explored (first ∷ ts) ts (State.want (Due.word keyword.Possible) (λ _. State.want (Due.sign sign_of.Question) (λ _. finished explored parts h kind.IsPossible))) may
  ask_runs explored parts line what first ts rest may (IsAsk.one h i _) = asked_by explored (first ∷ ts) ts (State.want Due.show (finished explored parts h)) may
  ask_runs explored parts line what first ts rest may (IsAsk.first h i j n _ e) =
      asked_by explored (first ∷ ts) ts (State.want Due.show (finished explored parts h)) may
      ∙ number_step rules 1 1000000 refl (λ n. finished explored parts h (kind.ShowFirst n)) j n (sign line sign_of.Semicolon ∷ rest) e
  ask_runs explored parts line what first ts rest may (IsAsk.all h i _) = asked_by explored (first ∷ ts) ts (State.want Due.show (finished explored parts h)) may
  ask_runs explored parts line what first ts rest may (IsAsk.full h i _) = asked_by explored (first ∷ ts) ts (State.want Due.show (finished explored parts h)) may
  ask_runs explored parts line what first ts rest may (IsAsk.up_to h i j l n _ e) =
      asked_by explored (first ∷ ts) ts (State.want Due.show (finished explored parts h)) may
      ∙ number_step rules 1 100 refl (λ n. finished explored parts h (kind.ShowUpTo n)) l n (sign line sign_of.Semicolon ∷ rest) e
  ask_runs explored parts line what first ts rest may (IsAsk.realized h i _) = asked_by explored (first ∷ ts) ts (State.want Due.show (finished explored parts h)) may
  ask_runs explored parts line what first ts rest may (IsAsk.unrealized h i _) = asked_by explored (first ∷ ts) ts (State.want Due.show (finished explored parts h)) may
  ask_runs explored parts line what first ts rest may (IsAsk.bounds h i _) = asked_by explored (first ∷ ts) ts (State.want Due.show (finished explored parts h)) may
  ask_runs explored parts line what first ts rest may (IsAsk.proof h i _) = asked_by explored (first ∷ ts) ts (State.want Due.show (finished explored parts h)) may

  exploring_runs : (explored : Option ℕ) (parts : List Statement) (line : ℕ) (what : Explore) (first : Placed) (ts rest : Tokens) → IsOffLine explored first.line → IsExplore rules what (first ∷ ts) (sign line sign_of.Semicolon ∷ rest)
      → out (first ∷ ts) (State.statements explored parts) ≡ out (sign line sign_of.Semicolon ∷ rest) (finished (Some first.line) parts first.line (kind.Explore what))
  exploring_runs explored parts line what first ts rest off is =
      let k : Behind Explore = λ what. finished (Some first.line) parts first.line (kind.Explore what) in
      let e = explore_runs 0 line what ts rest first is k in
      ap (λ (t : Token). settled rules (first ∷ ts) (length ts) (outcome rules ts) (step (State.statements explored parts) first.line t)) e.0
      ∙ explored_by explored first.line (first ∷ ts) ts (Steps.explore k) off ∙ e.1

  one_later : (explored : Option ℕ) (parts more : List Statement) (statement : Statement) (ts : Tokens) → out ts (State.statements explored (parts ++ statement ∷ [])) ≡ Outcome.reads (record { statements = (parts ++ statement ∷ []) ++ more })
      → out ts (State.statements explored (parts ++ statement ∷ [])) ≡ Outcome.reads (record { statements = parts ++ statement ∷ more })
  one_later explored parts more statement ts e = e ∙ ap (λ (l : List Statement). Outcome.reads (record { statements = l })) (append_assoc parts (statement ∷ []) more)

  statements_run : (explored : Option ℕ) (more : List Statement) (ts : Tokens) → AreStatements rules explored more ts → (parts : List Statement) → out ts (State.statements explored parts) ≡ Outcome.reads (record { statements = parts ++ more })
  statements_run explored more ts (AreStatements.none _) parts = ap (λ (l : List Statement). Outcome.reads (record { statements = l })) (sym (append-nil parts))
  statements_run explored more ts (AreStatements.ask _ line what first others tokens rest may is are) parts =
      let statement : Statement = record { line = first.line; kind = what } in
      ask_runs explored parts line what first tokens rest may is ∙ one_later explored parts others statement rest (statements_run explored others rest are (parts ++ statement ∷ []))
  statements_run explored more ts (AreStatements.explore _ line what first others tokens rest off is are) parts =
      let statement : Statement = record { line = first.line; kind = kind.Explore what } in
      exploring_runs explored parts line what first tokens rest off is ∙ one_later (Some first.line) parts others statement rest (statements_run (Some first.line) others rest are (parts ++ statement ∷ []))
  statements_run explored more ts (AreStatements.command _ line what first others tokens rest is are) parts =
      let statement : Statement = record { line = first.line; kind = what } in
      command_runs explored parts line what first tokens rest is ∙ one_later explored parts others statement rest (statements_run explored others rest are (parts ++ statement ∷ []))

  pub script_runs : (x : Script) (ts : Tokens) → IsScript rules x ts → outcome rules ts of_script ≡ Outcome.reads x
  script_runs x ts is = statements_run None x.statements ts is []
