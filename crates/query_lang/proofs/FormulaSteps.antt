-- Formulas: what is accepted behind a token is accepted with it.
use Rattle.std.proofs.Common.{◌≡◌, ℕ, suc, true, List, [], ◌∷◌, ◌++◌, length, subst}
use Rattle.query_tokens.specs.declared.keyword.Keyword.{Keyword}
use Rattle.query_tokens.specs.declared.keyword.Keyword.TheVariants as keyword
use Rattle.query_tokens.specs.declared.token.Sign.TheVariants as sign_of
use Rattle.query_tokens.specs.declared.token.Token.{Token}
use Rattle.query_tokens.specs.declared.token.Token.TheVariants as token
use Rattle.query_lang.specs.declared.formula.Named.{Named}
use Rattle.query_lang.specs.declared.formula.Named.TheVariants as named
use Rattle.query_lang.specs.declared.literal.Path.{Path}
use Rattle.query_lang.specs.declared.script.Script.{Script}
use Rattle.query_lang.specs.declared.term.Arg.{Arg}
use Rattle.query_lang.specs.declared.term.NamedTerm.{NamedTerm}
use Rattle.query_lang.specs.declared.term.NamedTerm.TheVariants as term
use Rattle.query_lang.specs.Rules.{Rules}
use Rattle.query_lang.specs.Words.{Tokens, on, word, sign, name}
use Rattle.query_lang.specs.Chains.{IsChain}
use Rattle.query_lang.specs.Literals.{NumberTest, IsNumberTest}
use Rattle.query_lang.specs.Paths.{IsPath, IsComponent}
use Rattle.query_lang.specs.Terms.{IsTerm}
use Rattle.query_lang.specs.Formulas.{IsAtom, IsUnary, IsConjunction, IsDisjunction, IsImplication, IsEquivalence, conjunction, disjunction, equivalence, tested}
use Rattle.query_lang.specs.Statements.{IsName}
use Rattle.query_lang.specs.Machine.Due.{Due, State, Moved}
use Rattle.query_lang.specs.Machine.Steps
use Rattle.query_lang.specs.Machine.Steps.{Behind, step, is_word, is_sign, literal_by, number_read, three_bytes, arg_by, unary_word, unary_by, load_word, show_word, statement_word, finished, a_term, a_conjunction, a_disjunction, implication, an_equivalence, number_test, at_path, decided, equal_to, tested_in, quantified, exploring, asking}
use Rattle.query_lang.proofs.Accepting.{IsOne, AfterLeft, Accepts, AcceptsBy, dot}
use Rattle.query_lang.proofs.Choices.{if_word, if_sign}
use Rattle.query_lang.proofs.Joining.{chain_of, conjunction_of, disjunction_of, equivalence_of, enclosed, one_more, from_first, path_of}

module _ (rules : Rules) (x : Script) where
  -- a value that is read at the front of the tokens, and what comes behind it accepts the rest
  abbrev pub Found : (Result : Type 0) → (Result → Tokens → Tokens → Type 0) → Behind Result → Tokens → Type 0
  Found Result Is k ts = (v : Result) × (rest : Tokens) × Is v ts rest × Accepts rules (k v) rest x

  pub path_found : (k : Behind Path) (ts : Tokens) → Accepts rules (Steps.path k) ts x → Found Path IsPath k ts
  path_found k _ (text, _, IsName.plain line _ mid, (v, rest, joined, a)) = (v, rest, path_of line text v mid rest joined, a)

  pub term_found : (level : ℕ) (k : Behind NamedTerm) (ts : Tokens) → Accepts rules (a_term level k) ts x → Found NamedTerm (IsTerm rules level) k ts
  term_found level k _ (text, _, IsName.plain line _ mid, (v, rest, is, a)) = (v, rest, is line, a)

  pub atom_found : (level : ℕ) (k : Behind Named) (ts : Tokens) → Accepts rules (Steps.atom level k) ts x → Found Named (IsAtom rules level) k ts
  atom_found level k _ (text, _, IsName.plain line _ mid, (v, rest, is, a)) = (v, rest, is line, a)

  pub test_found : (k : Behind NumberTest) (ts : Tokens) → Accepts rules (number_test k) ts x → Found NumberTest IsNumberTest k ts
  test_found k ts (first, mid, is, (v, rest, more, a)) = (v, rest, more ts is, a)

  pub conjunction_found : (level : ℕ) (k : Behind Named) (ts : Tokens) → Accepts rules (a_conjunction level [] k) ts x
      → (all : List Named) × (rest : Tokens) × IsConjunction rules level all ts rest × Accepts rules (k (conjunction all)) rest x
  conjunction_found level k ts (part, mid, is, (v, rest, (all, e, j), a)) = (
    all,
    rest,
    from_first Named (token.Keyword keyword.And) (IsConjunction rules level) part all ts mid rest (λ more m. conjunction_of rules level part more ts mid rest is m) j,
    subst (λ (w : Named). Accepts rules (k w) rest x) e a,
  )

  pub disjoined : (level : ℕ) (k : Behind Named) (ts : Tokens) (parts : List Named) (mid : Tokens) → IsConjunction rules level parts ts mid
      → Accepts rules (State.want (Due.more_or level (conjunction parts ∷ [])) k) mid x
      → (all : List Named) × (rest : Tokens) × IsDisjunction rules level all ts rest × Accepts rules (k (disjunction all)) rest x
  disjoined level k ts parts mid is (v, rest, (all, e, j), a) = (
    all,
    rest,
    from_first Named (token.Keyword keyword.Or) (IsDisjunction rules level) (conjunction parts) all ts mid rest (λ more m. disjunction_of rules level parts more ts mid rest is m) j,
    subst (λ (w : Named). Accepts rules (k w) rest x) e a,
  )

  pub disjunction_found : (level : ℕ) (k : Behind Named) (ts : Tokens) → Accepts rules (a_disjunction level [] k) ts x
      → (all : List Named) × (rest : Tokens) × IsDisjunction rules level all ts rest × Accepts rules (k (disjunction all)) rest x
  disjunction_found level k ts a =
      let c = conjunction_found level (λ part. State.want (Due.more_or level (part ∷ [])) k) ts a in
      disjoined level k ts c.0 c.1 c.2 c.3

  pub implied : (level : ℕ) (parts : List Named) (v : Named) (ts mid rest : Tokens) → IsDisjunction rules level parts ts mid → AfterLeft rules level (disjunction parts) v mid rest
      → IsImplication rules level v ts rest
  implied level parts v ts mid rest is (AfterLeft.alone _) = IsImplication.alone level parts ts mid is
  implied level parts v ts mid rest is (AfterLeft.implies line right tokens _ may r) = IsImplication.implies level line parts right ts tokens rest may is r

  pub implying : (level : ℕ) (k : Behind Named) (ts : Tokens) (parts : List Named) (mid : Tokens) → IsDisjunction rules level parts ts mid
      → Accepts rules (State.want (Due.implies level (disjunction parts)) k) mid x → Found Named (IsImplication rules level) k ts
  implying level k ts parts mid is (v, rest, after, a) = (v, rest, implied level parts v ts mid rest is after, a)

  pub implication_found : (level : ℕ) (k : Behind Named) (ts : Tokens) → Accepts rules (implication level k) ts x → Found Named (IsImplication rules level) k ts
  implication_found level k ts a =
      let d = disjunction_found level (λ left. State.want (Due.implies level left) k) ts a in
      implying level k ts d.0 d.1 d.2 d.3

  pub equating : (level : ℕ) (k : Behind Named) (ts : Tokens) (part : Named) (mid : Tokens) → IsImplication rules level part ts mid
      → Accepts rules (State.want (Due.more_iff level (part ∷ [])) k) mid x
      → (all : List Named) × (rest : Tokens) × IsEquivalence rules level all ts rest × Accepts rules (k (equivalence all)) rest x
  equating level k ts part mid is (v, rest, (all, e, j), a) = (
    all,
    rest,
    from_first Named (token.Keyword keyword.Iff) (IsEquivalence rules level) part all ts mid rest (λ more m. equivalence_of rules level part more ts mid rest is m) j,
    subst (λ (w : Named). Accepts rules (k w) rest x) e a,
  )

  pub equivalence_found : (level : ℕ) (k : Behind Named) (ts : Tokens) → Accepts rules (an_equivalence level [] k) ts x
      → (all : List Named) × (rest : Tokens) × IsEquivalence rules level all ts rest × Accepts rules (k (equivalence all)) rest x
  equivalence_found level k ts a =
      let i = implication_found level (λ part. State.want (Due.more_iff level (part ∷ [])) k) ts a in
      equating level k ts i.0 i.1 i.2 i.3

  -- One part more of a chain.

  pub and_more : (level line : ℕ) (parts : List Named) (k : Behind Named) (ts : Tokens) → Accepts rules (a_conjunction level parts k) ts x
      → Accepts rules (State.want (Due.more_and level parts) k) (word line keyword.And ∷ ts) x
  and_more level line parts k ts (part, mid, is, (v, rest, (all, e, j), a)) =
      (v, rest, (all, e, one_more Named (token.Keyword keyword.And) (IsConjunction rules level) line part parts all ts mid rest (λ more m. conjunction_of rules level part more ts mid rest is m) j), a)

  pub or_joined : (level line : ℕ) (parts : List Named) (k : Behind Named) (ts : Tokens) (some : List Named) (mid : Tokens) → IsConjunction rules level some ts mid
      → Accepts rules (State.want (Due.more_or level (parts ++ conjunction some ∷ [])) k) mid x → Accepts rules (State.want (Due.more_or level parts) k) (word line keyword.Or ∷ ts) x
  or_joined level line parts k ts some mid is (v, rest, (all, e, j), a) =
      (v, rest, (all, e, one_more Named (token.Keyword keyword.Or) (IsDisjunction rules level) line (conjunction some) parts all ts mid rest (λ more m. disjunction_of rules level some more ts mid rest is m) j), a)

  pub or_more : (level line : ℕ) (parts : List Named) (k : Behind Named) (ts : Tokens) → Accepts rules (a_disjunction level parts k) ts x
      → Accepts rules (State.want (Due.more_or level parts) k) (word line keyword.Or ∷ ts) x
  or_more level line parts k ts a =
      let c = conjunction_found level (λ part. State.want (Due.more_or level (parts ++ part ∷ [])) k) ts a in
      or_joined level line parts k ts c.0 c.1 c.2 c.3

  pub iff_joined : (level line : ℕ) (parts : List Named) (k : Behind Named) (ts : Tokens) (part : Named) (mid : Tokens) → IsImplication rules level part ts mid
      → Accepts rules (State.want (Due.more_iff level (parts ++ part ∷ [])) k) mid x → Accepts rules (State.want (Due.more_iff level parts) k) (word line keyword.Iff ∷ ts) x
  iff_joined level line parts k ts part mid is (v, rest, (all, e, j), a) =
      (v, rest, (all, e, one_more Named (token.Keyword keyword.Iff) (IsEquivalence rules level) line part parts all ts mid rest (λ more m. equivalence_of rules level part more ts mid rest is m) j), a)

  pub iff_more : (level line : ℕ) (parts : List Named) (k : Behind Named) (ts : Tokens) → Accepts rules (an_equivalence level parts k) ts x
      → Accepts rules (State.want (Due.more_iff level parts) k) (word line keyword.Iff ∷ ts) x
  iff_more level line parts k ts a =
      let i = implication_found level (λ part. State.want (Due.more_iff level (parts ++ part ∷ [])) k) ts a in
      iff_joined level line parts k ts i.0 i.1 i.2 i.3

  pub implies_more : (level line : ℕ) (left : Named) (k : Behind Named) (ts : Tokens) → rules.opens level (length ts) ≡ true → Accepts rules (implication (suc level) (λ right. k (named.Implies left right))) ts x
      → Accepts rules (State.want (Due.implies level left) k) (word line keyword.Implies ∷ ts) x
  implies_more level line left k ts may a =
      let i = implication_found (suc level) (λ right. k (named.Implies left right)) ts a in
      (named.Implies left i.0, i.1, AfterLeft.implies line i.0 ts i.1 may i.2, i.3)

  -- A unary behind its first token.

  pub not_read : (level line : ℕ) (k : Behind Named) (ts : Tokens) → rules.opens level (length ts) ≡ true → Accepts rules (State.want (Due.unary (suc level)) (λ body. k (named.Not body))) ts x
      → Accepts rules (State.want (Due.unary level) k) (word line keyword.Not ∷ ts) x
  not_read level line k ts may (body, rest, is, a) = (named.Not body, rest, IsUnary.not level line body ts rest may is, a)

  pub forall_read : (level line : ℕ) (k : Behind Named) (ts : Tokens) → rules.opens level (length ts) ≡ true → Accepts rules (quantified level named.Forall k) ts x
      → Accepts rules (State.want (Due.unary level) k) (word line keyword.Forall ∷ ts) x
  forall_read level line k _ may (variable, _, IsName.plain i _ _, (c, _, IsOne.one j _, (sort, _, IsName.plain h _ mid, (body, rest, is, a)))) =
      (named.Forall variable sort body, rest, IsUnary.forall level line i j h variable sort body mid rest may is, a)

  pub exists_read : (level line : ℕ) (k : Behind Named) (ts : Tokens) → rules.opens level (length ts) ≡ true → Accepts rules (quantified level named.Exists k) ts x
      → Accepts rules (State.want (Due.unary level) k) (word line keyword.Exists ∷ ts) x
  exists_read level line k _ may (variable, _, IsName.plain i _ _, (c, _, IsOne.one j _, (sort, _, IsName.plain h _ mid, (body, rest, is, a)))) =
      (named.Exists variable sort body, rest, IsUnary.exists level line i j h variable sort body mid rest may is, a)

  pub grouped : (level line : ℕ) (k : Behind Named) (ts : Tokens) → rules.opens level (length ts) ≡ true → (all : List Named) (mid : Tokens) → IsEquivalence rules (suc level) all ts mid
      → Accepts rules (State.want (Due.sign sign_of.Close) (λ _. k (equivalence all))) mid x → Accepts rules (State.want (Due.unary level) k) (sign line sign_of.Open ∷ ts) x
  grouped level line k ts may all _ is (c, _, IsOne.one j rest, a) = (equivalence all, rest, IsUnary.group level line j all ts rest may is, a)

  pub group_read : (level line : ℕ) (k : Behind Named) (ts : Tokens) → rules.opens level (length ts) ≡ true
      → Accepts rules (an_equivalence (suc level) [] (λ value. State.want (Due.sign sign_of.Close) (λ _. k value))) ts x
      → Accepts rules (State.want (Due.unary level) k) (sign line sign_of.Open ∷ ts) x
  group_read level line k ts may a =
      let e = equivalence_found (suc level) (λ value. State.want (Due.sign sign_of.Close) (λ _. k value)) ts a in
      grouped level line k ts may e.0 e.1 e.2 e.3

  pub unary_word_read : (level line : ℕ) (k : Behind Named) (ts : Tokens) (w : Keyword) → AcceptsBy rules (unary_word level k w) ts x
      → Accepts rules (State.want (Due.unary level) k) (word line w ∷ ts) x
  unary_word_read level line k ts keyword.True a = (named.True, ts, IsUnary.always level line ts, a)
  unary_word_read level line k ts keyword.False a = (named.False, ts, IsUnary.never level line ts, a)
  unary_word_read level line k ts keyword.Not a = not_read level line k ts a.0 a.1
  unary_word_read level line k ts keyword.Forall a = forall_read level line k ts a.0 a.1
  unary_word_read level line k ts keyword.Exists a = exists_read level line k ts a.0 a.1
  unary_word_read level line k ts w a = absurd a

  pub unary_atom : (level line : ℕ) (text : List ℕ) (k : Behind Named) (ts : Tokens) → Accepts rules (State.want (Due.atom_tail level text) k) ts x
      → Accepts rules (State.want (Due.unary level) k) (name line text ∷ ts) x
  unary_atom level line text k ts (v, rest, is, a) = (v, rest, IsUnary.atom level v (name line text ∷ ts) rest (is line), a)

  pub unary_read : (level line : ℕ) (k : Behind Named) (ts : Tokens) (t : Token) → AcceptsBy rules (unary_by level k t) ts x
      → Accepts rules (State.want (Due.unary level) k) (on line t ∷ ts) x
  unary_read level line k ts (token.Keyword w) a = unary_word_read level line k ts w a
  unary_read level line k ts (token.Name text) a = unary_atom level line text k ts a
  unary_read level line k ts (token.Sign s) a =
      if_sign rules ts x (λ t. Accepts rules (State.want (Due.unary level) k) (on line t ∷ ts) x) sign_of.Open (token.Sign s)
      (Moved.opens level (an_equivalence (suc level) [] (λ value. State.want (Due.sign sign_of.Close) (λ _. k value)))) Moved.stops a
      (λ b. group_read level line k ts b.0 b.1) (λ b. absurd b)
  unary_read level line k ts (token.Digits text) a = absurd a
  unary_read level line k ts (token.Word text) a = absurd a
  unary_read level line k ts (token.Quoted text) a = absurd a
  unary_read level line k ts token.Bad a = absurd a

  -- Atoms behind their first name.

  pub path_read : (level j : ℕ) (text : List ℕ) (k : Behind Named) (ts : Tokens) → Accepts rules (at_path level text k) ts x
      → Accepts rules (State.want (Due.atom_tail level text) k) (sign j sign_of.Dot ∷ ts) x
  path_read level j text k ts (part, mid, is, (list, _, joined, (c, _, IsOne.one line _, (verdict, _, IsName.plain h _ behind, (parts, rest, args, a))))) =
      let tokens = sign line sign_of.Colon ∷ name h verdict ∷ behind in (
        named.AtPath list verdict parts,
        rest,
        λ i. IsAtom.decided level line h list verdict parts (name i text ∷ sign j sign_of.Dot ∷ ts) behind rest
            (path_of i text list (sign j sign_of.Dot ∷ ts) tokens
            (one_more (List ℕ) dot (IsChain (List ℕ) dot IsComponent) j part (text ∷ []) list.parts ts mid tokens (λ more m. chain_of (List ℕ) dot IsComponent part more ts mid tokens is m) joined))
            args,
        a,
      )

  pub verdict_read : (level j : ℕ) (text : List ℕ) (k : Behind Named) (ts : Tokens) → Accepts rules (decided level (record { parts = text ∷ [] }) k) ts x
      → Accepts rules (State.want (Due.atom_tail level text) k) (sign j sign_of.Colon ∷ ts) x
  verdict_read level j text k _ (verdict, _, IsName.plain h _ behind, (parts, rest, args, a)) = (
    named.AtPath (record { parts = text ∷ [] }) verdict parts,
    rest,
    λ i. IsAtom.decided level j h (record { parts = text ∷ [] }) verdict parts (name i text ∷ sign j sign_of.Colon ∷ name h verdict ∷ behind) behind rest (IsPath.alone i text (sign j sign_of.Colon ∷ name h verdict ∷ behind)) args,
    a,
  )

  pub arguments_read : (level j : ℕ) (text : List ℕ) (k : Behind Named) (ts : Tokens) → rules.opens level (length ts) ≡ true
      → Accepts rules (State.want (Due.first_arg (suc level)) (λ parts. State.want (Due.holds_tail level text parts) k)) ts x
      → Accepts rules (State.want (Due.atom_tail level text) k) (sign j sign_of.Open ∷ ts) x
  arguments_read level j text k ts may (parts, mid, inside, (v, rest, is, a)) =
      (v, rest, λ i. is i (sign j sign_of.Open ∷ ts) (enclosed rules level j parts ts mid may inside), a)

  pub name_equal : (level j : ℕ) (text : List ℕ) (k : Behind Named) (ts : Tokens) → Accepts rules (equal_to level (term.Name text) k) ts x
      → Accepts rules (State.want (Due.atom_tail level text) k) (sign j sign_of.Equals ∷ ts) x
  name_equal level j text k ts a =
      let t = term_found level (λ right. k (named.Equal (term.Name text) right)) ts a in
      (named.Equal (term.Name text) t.0, t.1, λ i. IsAtom.equal level j (term.Name text) t.0 (name i text ∷ sign j sign_of.Equals ∷ ts) ts t.1 (IsTerm.plain level i text (sign j sign_of.Equals ∷ ts)) t.2, t.3)

  pub name_tested : (level j : ℕ) (text : List ℕ) (k : Behind Named) (ts : Tokens) → Accepts rules (tested_in (term.Name text) k) ts x
      → Accepts rules (State.want (Due.atom_tail level text) k) (word j keyword.In ∷ ts) x
  name_tested level j text k ts a =
      let t = test_found (λ test. k (tested (term.Name text) test)) ts a in
      (tested (term.Name text) t.0, t.1, λ i. IsAtom.number_test level j (term.Name text) t.0 (name i text ∷ word j keyword.In ∷ ts) ts t.1 (IsTerm.plain level i text (word j keyword.In ∷ ts)) t.2, t.3)

  pub call_equal : (level j : ℕ) (text : List ℕ) (parts : List Arg) (k : Behind Named) (ts : Tokens) → Accepts rules (equal_to level (term.Call text parts) k) ts x
      → Accepts rules (State.want (Due.holds_tail level text parts) k) (sign j sign_of.Equals ∷ ts) x
  call_equal level j text parts k ts a =
      let t = term_found level (λ right. k (named.Equal (term.Call text parts) right)) ts a in
      (named.Equal (term.Call text parts) t.0, t.1, λ i tokens args. IsAtom.equal level j (term.Call text parts) t.0 (name i text ∷ tokens) ts t.1 (IsTerm.call level i text parts tokens (sign j sign_of.Equals ∷ ts) args) t.2, t.3)

  pub call_tested : (level j : ℕ) (text : List ℕ) (parts : List Arg) (k : Behind Named) (ts : Tokens) → Accepts rules (tested_in (term.Call text parts) k) ts x
      → Accepts rules (State.want (Due.holds_tail level text parts) k) (word j keyword.In ∷ ts) x
  call_tested level j text parts k ts a =
      let t = test_found (λ test. k (tested (term.Call text parts) test)) ts a in
      (tested (term.Call text parts) t.0, t.1, λ i tokens args. IsAtom.number_test level j (term.Call text parts) t.0 (name i text ∷ tokens) ts t.1 (IsTerm.call level i text parts tokens (word j keyword.In ∷ ts) args) t.2, t.3)

  pub atom_read : (level line : ℕ) (text : List ℕ) (k : Behind Named) (ts : Tokens) (t : Token) → AcceptsBy rules (step (State.want (Due.atom_tail level text) k) line t) ts x
      → Accepts rules (State.want (Due.atom_tail level text) k) (on line t ∷ ts) x
  atom_read level line text k ts t a =
      let Goal : Token → Type 0 = λ t. Accepts rules (State.want (Due.atom_tail level text) k) (on line t ∷ ts) x in
      if_sign rules ts x Goal sign_of.Dot t _ _ a (λ b. path_read level line text k ts b)
      (λ a. if_sign rules ts x Goal sign_of.Colon t _ _ a (λ b. verdict_read level line text k ts b)
      (λ a. if_sign rules ts x Goal sign_of.Open t _ _ a (λ b. arguments_read level line text k ts b.0 b.1)
      (λ a. if_sign rules ts x Goal sign_of.Equals t _ _ a (λ b. name_equal level line text k ts b)
      (λ a. if_word rules ts x Goal keyword.In t _ _ a (λ b. name_tested level line text k ts b) (λ b. absurd b)))))
