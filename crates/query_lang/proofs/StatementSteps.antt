-- Statements: what is accepted behind a token is accepted with it.
use Rattle.std.proofs.Common.{◌≡◌, ℕ, ◌==◌, Bool, true, false, cond, List, [], ◌∷◌, Option, Some, None, refl, ◌∙◌, append_assoc}
use Rattle.query_tokens.specs.declared.keyword.Keyword.{Keyword}
use Rattle.query_tokens.specs.declared.keyword.Keyword.TheVariants as keyword
use Rattle.query_tokens.specs.declared.token.Sign.TheVariants as sign_of
use Rattle.query_tokens.specs.declared.token.Token.{Token}
use Rattle.query_tokens.specs.declared.token.Token.TheVariants as token
use Rattle.query_lang.specs.declared.formula.Named.{Named}
use Rattle.query_lang.specs.declared.literal.Path.{Path}
use Rattle.query_lang.specs.declared.script.Explore.{Explore}
use Rattle.query_lang.specs.declared.script.Kind.{Kind}
use Rattle.query_lang.specs.declared.script.Kind.TheVariants as kind
use Rattle.query_lang.specs.declared.script.Script.{Script}
use Rattle.query_lang.specs.declared.script.Statement.{Statement}
use Rattle.query_lang.specs.Rules.{Rules}
use Rattle.query_lang.specs.Words.{Tokens, on, word, sign, number}
use Rattle.query_lang.specs.Paths.{IsPath}
use Rattle.query_lang.specs.Formulas.{IsEquivalence, equivalence}
use Rattle.query_lang.specs.Statements.{IsAsk, IsCommand, IsExplore, IsName, AreDeclared}
use Rattle.query_lang.specs.Scripts.{AreStatements, MayAsk, IsOffLine}
use Rattle.query_lang.specs.Machine.Due.{Due, State, Moved}
use Rattle.query_lang.specs.Machine.Steps
use Rattle.query_lang.specs.Machine.Steps.{Behind, step, is_word, is_sign, literal_by, number_read, three_bytes, arg_by, unary_word, unary_by, load_word, show_word, statement_word, finished, a_term, a_conjunction, a_disjunction, implication, an_equivalence, number_test, at_path, decided, equal_to, tested_in, quantified, exploring, asking}
use Rattle.query_lang.proofs.Accepting.{IsOne, IsQuoted, IsNumber, Accepts, AcceptsBy}
use Rattle.std.proofs.lemmas.Bool.{eqb-false}
use Rattle.query_lang.specs.Machine.Steps.{named_file}
use Rattle.query_lang.proofs.FormulaSteps.{Found, path_found, equivalence_found}
use Rattle.query_lang.proofs.ListSteps.{first_tests, first_literals, field_found}

module _ (rules : Rules) (x : Script) where
  -- The end of a statement.

  command_done : (explored : Option ℕ) (parts : List Statement) (line : ℕ) (t : Token) (what : Kind) (ts mid : Tokens) → IsCommand what (on line t ∷ ts) mid
      → Accepts rules (finished explored parts line what) mid x → Accepts rules (State.statements explored parts) (on line t ∷ ts) x
  command_done explored parts line t what ts _ is (c, _, IsOne.one semi behind, (more, e, are)) = (
    record { line = line; kind = what } ∷ more,
    e ∙ append_assoc parts (record { line = line; kind = what } ∷ []) more,
    AreStatements.command explored semi what (on line t) more ts behind is are,
  )

  ask_done : (explored : Option ℕ) (parts : List Statement) (line : ℕ) (t : Token) (what : Kind) (ts mid : Tokens) → MayAsk rules explored → IsAsk what (on line t ∷ ts) mid
      → Accepts rules (finished explored parts line what) mid x → Accepts rules (State.statements explored parts) (on line t ∷ ts) x
  ask_done explored parts line t what ts _ may is (c, _, IsOne.one semi behind, (more, e, are)) = (
    record { line = line; kind = what } ∷ more,
    e ∙ append_assoc parts (record { line = line; kind = what } ∷ []) more,
    AreStatements.ask explored semi what (on line t) more ts behind may is are,
  )

  explore_done : (explored : Option ℕ) (parts : List Statement) (line : ℕ) (t : Token) (what : Explore) (ts mid : Tokens) → IsOffLine explored line → IsExplore rules what (on line t ∷ ts) mid
      → Accepts rules (finished (Some line) parts line (kind.Explore what)) mid x → Accepts rules (State.statements explored parts) (on line t ∷ ts) x
  explore_done explored parts line t what ts _ off is (c, _, IsOne.one semi behind, (more, e, are)) = (
    record { line = line; kind = kind.Explore what } ∷ more,
    e ∙ append_assoc parts (record { line = line; kind = kind.Explore what } ∷ []) more,
    AreStatements.explore explored semi what (on line t) more ts behind off is are,
  )

  -- Statements behind their first word.

  pub load_file : (line : ℕ) (k : Behind Kind) (ts : Tokens) (w : Keyword) → AcceptsBy rules (load_word k w) ts x → Accepts rules (State.want Due.load k) (word line w ∷ ts) x
  load_file line k _ keyword.Vocab (file, _, IsQuoted.enclosed i _ rest, a) = (kind.LoadVocab file, rest, λ h. IsCommand.load_vocab h line i file rest, a)
  load_file line k _ keyword.Policy (file, _, IsQuoted.enclosed i _ rest, a) = (kind.LoadPolicy file, rest, λ h. IsCommand.load_policy h line i file rest, a)
  load_file line k _ keyword.Ios (file, _, IsQuoted.enclosed i _ _, (c, _, IsOne.one j _, (text, _, IsName.plain l _ rest, a))) = (kind.LoadIos file text, rest, λ h. IsCommand.load_ios h line i j l file text rest, a)
  load_file line k _ keyword.Iptables (file, _, IsQuoted.enclosed i _ _, (c, _, IsOne.one j _, (text, _, IsName.plain l _ rest, a))) = (kind.LoadIptables file text, rest, λ h. IsCommand.load_iptables h line i j l file text rest, a)
  load_file line k ts w a = absurd a

  pub show_what : (line : ℕ) (k : Behind Kind) (ts : Tokens) (w : Keyword) → AcceptsBy rules (show_word k w) ts x → Accepts rules (State.want Due.show k) (word line w ∷ ts) x
  show_what line k ts keyword.One a = (kind.ShowOne, ts, λ h. IsAsk.one h line ts, a)
  show_what line k _ keyword.First (_, _, IsNumber.numeral i n rest e, a) = (kind.ShowFirst (number n), rest, λ h. IsAsk.first h line i n rest e, a)
  show_what line k ts keyword.All a = (kind.ShowAll, ts, λ h. IsAsk.all h line ts, a)
  show_what line k ts keyword.Full a = (kind.ShowFull, ts, λ h. IsAsk.full h line ts, a)
  show_what line k _ keyword.Up (c, _, IsOne.one j _, (_, _, IsNumber.numeral i n rest e, a)) = (kind.ShowUpTo (number n), rest, λ h. IsAsk.up_to h line j i n rest e, a)
  show_what line k ts keyword.Realized a = (kind.ShowRealized, ts, λ h. IsAsk.realized h line ts, a)
  show_what line k ts keyword.Unrealized a = (kind.ShowUnrealized, ts, λ h. IsAsk.unrealized h line ts, a)
  show_what line k ts keyword.Bounds a = (kind.ShowBounds, ts, λ h. IsAsk.bounds h line ts, a)
  show_what line k ts keyword.Proof a = (kind.ShowProof, ts, λ h. IsAsk.proof h line ts, a)
  show_what line k ts w a = absurd a

  asked : (explored : Option ℕ) (state : State) (ts : Tokens) → AcceptsBy rules (asking explored state) ts x → MayAsk rules explored × Accepts rules state ts x
  asked None state ts a = a
  asked (Some line) state ts a = (tt, a)

  off_line : (old line : ℕ) (state : State) (ts : Tokens) (b : Bool) → (old == line) ≡ b → AcceptsBy rules (cond b Moved.stops (Moved.moves state)) ts x → IsOffLine (Some old) line × Accepts rules state ts x
  off_line old line state ts true e a = absurd a
  off_line old line state ts false e a = (eqb-false old line e, a)

  explored_here : (explored : Option ℕ) (line : ℕ) (state : State) (ts : Tokens) → AcceptsBy rules (exploring explored line state) ts x → IsOffLine explored line × Accepts rules state ts x
  explored_here None line state ts a = (tt, a)
  explored_here (Some old) line state ts a = off_line old line state ts (old == line) refl a

  explore_tail : (line : ℕ) (vars : List (List ℕ × List ℕ)) (k : Behind Explore) (ts b : Tokens) → AreDeclared vars ts b → (all : List Named) (c : Tokens) → IsEquivalence rules 0 all b c
      → Accepts rules (State.want Due.under (λ under. State.want Due.include (λ include. k (record { vars = vars; formula = equivalence all; under = under; include = include })))) c x
      → Found rules x Explore (IsExplore rules) k (word line keyword.Explore ∷ ts)
  explore_tail line vars k ts b declared all c is (under, d, names, (include, rest, atoms, a)) =
      (record { vars = vars; formula = equivalence all; under = under; include = include }, rest, IsExplore.explore line vars all under include ts b c d rest declared is names atoms, a)

  explore_found : (line : ℕ) (k : Behind Explore) (ts : Tokens) → Accepts rules (Steps.explore k) ts x → Found rules x Explore (IsExplore rules) k (word line keyword.Explore ∷ ts)
  explore_found line k ts (vars, b, declared, a) =
      let e = equivalence_found rules x 0 (λ formula. State.want Due.under (λ under. State.want Due.include (λ include. k (record { vars = vars; formula = formula; under = under; include = include })))) b a in
      explore_tail line vars k ts b declared e.0 e.1 e.2 e.3

  compare_found : (line : ℕ) (k : Behind Kind) (ts : Tokens) → Accepts rules (Steps.compare k) ts x → Found rules x Kind IsCommand k (word line keyword.Compare ∷ ts)
  compare_found line k ts a =
      let p = path_found rules x (λ left. Steps.path (λ right. k (kind.Compare left right))) ts a in
      let q = path_found rules x (λ right. k (kind.Compare p.0 right)) p.1 p.3 in
      (kind.Compare p.0 q.0, q.1, IsCommand.compare line p.0 q.0 ts p.1 q.1 p.2 q.2, q.3)

  decide_tail : (line : ℕ) (k : Behind Kind) (ts : Tokens) (list : Path) (mid : Tokens) → IsPath list ts mid
      → Accepts rules (State.want (Due.sign sign_of.Open) (λ _. State.want Due.literal (λ first. State.want (Due.more_literals (first ∷ [])) (λ packet. k (kind.Decide list packet))))) mid x
      → Found rules x Kind IsCommand k (word line keyword.Decide ∷ ts)
  decide_tail line k ts list _ is (c, _, IsOne.one i others, a) =
      let l = first_literals rules x (λ packet. k (kind.Decide list packet)) others a in
      (kind.Decide list l.0, l.1, IsCommand.decide line i l.2 list l.0 ts others l.1 is l.3, l.4)

  decide_found : (line : ℕ) (k : Behind Kind) (ts : Tokens) → Accepts rules (Steps.decide k) ts x → Found rules x Kind IsCommand k (word line keyword.Decide ∷ ts)
  decide_found line k ts a =
      let p = path_found rules x (λ list. State.want (Due.sign sign_of.Open) (λ _. State.want Due.literal (λ first. State.want (Due.more_literals (first ∷ [])) (λ packet. k (kind.Decide list packet))))) ts a in
      decide_tail line k ts p.0 p.1 p.2 p.3

  generate_found : (line : ℕ) (k : Behind Kind) (ts : Tokens) → Accepts rules (Steps.generate k) ts x → Found rules x Kind IsCommand k (word line keyword.Generate ∷ ts)
  generate_found line k _ (_, _, IsNumber.numeral h n _ e, (_, _, IsNumber.numeral i seed _ f, (c, _, IsOne.one j _, (text, _, IsName.plain l _ rest, a)))) =
      (kind.Generate (number n) (number seed) text, rest, IsCommand.generate line h i j l n seed text rest e f, a)

  link_found : (line : ℕ) (k : Behind Kind) (ts : Tokens) → Accepts rules (Steps.link k) ts x → Found rules x Kind IsCommand k (word line keyword.Link ∷ ts)
  link_found line k _ (from, _, IsName.plain h _ _, (from_interface, _, IsQuoted.enclosed i _ _, (c, _, IsOne.one j _, (to, _, IsName.plain l _ _, (to_interface, _, IsQuoted.enclosed m _ rest, a))))) =
      (kind.Link from from_interface to to_interface, rest, IsCommand.link line h i j l m from from_interface to to_interface rest, a)

  paths_found : (line : ℕ) (k : Behind Kind) (ts : Tokens) → Accepts rules (Steps.paths k) ts x → Found rules x Kind IsCommand k (word line keyword.Path ∷ ts)
  paths_found line k _ (from, _, IsName.plain h _ _, (from_interface, _, IsQuoted.enclosed i _ _, (c, _, IsOne.one j _, (to, _, IsName.plain l _ _, (to_interface, _, IsQuoted.enclosed m _ _, (c2, _, IsOne.one n _, (_, _, IsNumber.numeral o within rest e, a))))))) =
      (kind.Paths from from_interface to to_interface (number within), rest, IsCommand.path line h i j l m n o from from_interface to to_interface within rest e, a)

  audit_found : (line : ℕ) (k : Behind Kind) (ts : Tokens) → Accepts rules (Steps.path (λ list. k (kind.Audit list))) ts x → Found rules x Kind IsCommand k (word line keyword.Audit ∷ ts)
  audit_found line k ts a =
      let p = path_found rules x (λ list. k (kind.Audit list)) ts a in
      (kind.Audit p.0, p.1, IsCommand.audit line p.0 ts p.1 p.2, p.3)

  core_tail : (line : ℕ) (k : Behind Kind) (ts : Tokens) (list : Path) (mid : Tokens) → IsPath list ts mid
      → Accepts rules (State.want (Due.sign sign_of.Colon) (λ _. State.want Due.name (λ verdict. State.want (Due.word keyword.Where) (λ _. Steps.tests [] (λ all. k (kind.Core list verdict all)))))) mid x
      → Found rules x Kind IsCommand k (word line keyword.Core ∷ ts)
  core_tail line k ts list _ is (c, _, IsOne.one i _, (verdict, _, IsName.plain j _ _, (c2, _, IsOne.one h others, a))) =
      let t = first_tests rules x (λ all. k (kind.Core list verdict all)) others (field_found rules x (λ test. State.want (Due.more_tests (test ∷ [])) (λ all. k (kind.Core list verdict all))) others a) in
      (kind.Core list verdict t.0, t.1, IsCommand.core line i j h list verdict t.0 ts others t.1 is t.2, t.3)

  core_found : (line : ℕ) (k : Behind Kind) (ts : Tokens) → Accepts rules (Steps.core k) ts x → Found rules x Kind IsCommand k (word line keyword.Core ∷ ts)
  core_found line k ts a =
      let p = path_found rules x (λ list. State.want (Due.sign sign_of.Colon) (λ _. State.want Due.name (λ verdict. State.want (Due.word keyword.Where) (λ _. Steps.tests [] (λ all. k (kind.Core list verdict all)))))) ts a in
      core_tail line k ts p.0 p.1 p.2 p.3

  possible_read : (explored : Option ℕ) (parts : List Statement) (line : ℕ) (ts : Tokens) → MayAsk rules explored
      → Accepts rules (State.want (Due.word keyword.Possible) (λ _. State.want (Due.sign sign_of.Question) (λ _. finished explored parts line kind.IsPossible))) ts x
      → Accepts rules (State.statements explored parts) (word line keyword.Is ∷ ts) x
  possible_read explored parts line _ may (c, _, IsOne.one i _, (c2, _, IsOne.one j rest, a)) =
      ask_done explored parts line (token.Keyword keyword.Is) kind.IsPossible (word i keyword.Possible ∷ sign j sign_of.Question ∷ rest) rest may (IsAsk.possible line i j rest) a

  show_read : (explored : Option ℕ) (parts : List Statement) (line : ℕ) (ts : Tokens) → MayAsk rules explored → Accepts rules (State.want Due.show (finished explored parts line)) ts x
      → Accepts rules (State.statements explored parts) (word line keyword.Show ∷ ts) x
  show_read explored parts line ts may (what, rest, is, a) = ask_done explored parts line (token.Keyword keyword.Show) what ts rest may (is line) a

  load_read : (explored : Option ℕ) (parts : List Statement) (line : ℕ) (ts : Tokens) → Accepts rules (State.want Due.load (finished explored parts line)) ts x
      → Accepts rules (State.statements explored parts) (word line keyword.Load ∷ ts) x
  load_read explored parts line ts (what, rest, is, a) = command_done explored parts line (token.Keyword keyword.Load) what ts rest (is line) a

  command_found : (explored : Option ℕ) (parts : List Statement) (line : ℕ) (w : Keyword) (ts : Tokens) → Found rules x Kind IsCommand (finished explored parts line) (word line w ∷ ts)
      → Accepts rules (State.statements explored parts) (word line w ∷ ts) x
  command_found explored parts line w ts (what, rest, is, a) = command_done explored parts line (token.Keyword w) what ts rest is a

  explore_read : (explored : Option ℕ) (parts : List Statement) (line : ℕ) (ts : Tokens) → IsOffLine explored line
      → Found rules x Explore (IsExplore rules) (λ what. finished (Some line) parts line (kind.Explore what)) (word line keyword.Explore ∷ ts)
      → Accepts rules (State.statements explored parts) (word line keyword.Explore ∷ ts) x
  explore_read explored parts line ts off (what, rest, is, a) = explore_done explored parts line (token.Keyword keyword.Explore) what ts rest off is a

  pub statement_read : (explored : Option ℕ) (parts : List Statement) (line : ℕ) (ts : Tokens) (w : Keyword) → AcceptsBy rules (statement_word explored parts line w) ts x
      → Accepts rules (State.statements explored parts) (word line w ∷ ts) x
  statement_read explored parts line ts keyword.Load a = load_read explored parts line ts a
  statement_read explored parts line ts keyword.Explore a =
      let e = explored_here explored line (Steps.explore (λ what. finished (Some line) parts line (kind.Explore what))) ts a in
      explore_read explored parts line ts e.0 (explore_found line (λ what. finished (Some line) parts line (kind.Explore what)) ts e.1)
  statement_read explored parts line ts keyword.Is a = let e = asked explored _ ts a in possible_read explored parts line ts e.0 e.1
  statement_read explored parts line ts keyword.Show a = let e = asked explored _ ts a in show_read explored parts line ts e.0 e.1
  statement_read explored parts line ts keyword.Compare a = command_found explored parts line keyword.Compare ts (compare_found line (finished explored parts line) ts a)
  statement_read explored parts line ts keyword.Decide a = command_found explored parts line keyword.Decide ts (decide_found line (finished explored parts line) ts a)
  statement_read explored parts line ts keyword.Generate a = command_found explored parts line keyword.Generate ts (generate_found line (finished explored parts line) ts a)
  statement_read explored parts line ts keyword.Link a = command_found explored parts line keyword.Link ts (link_found line (finished explored parts line) ts a)
  statement_read explored parts line ts keyword.Path a = command_found explored parts line keyword.Path ts (paths_found line (finished explored parts line) ts a)
  statement_read explored parts line ts keyword.Audit a = command_found explored parts line keyword.Audit ts (audit_found line (finished explored parts line) ts a)
  statement_read explored parts line ts keyword.Core a = command_found explored parts line keyword.Core ts (core_found line (finished explored parts line) ts a)
  statement_read explored parts line ts w a = absurd a
