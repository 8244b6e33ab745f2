-- Formulas are read again as they are written.
use Rattle.std.proofs.Common.{◌≡◌, ℕ, suc, ◌≤◌, ◌<◌, Bool, true, false, if◌then◌else◌, nat_le, List, [], ◌∷◌, ◌++◌, length, refl, sym, ap, ◌∙◌, subst, arith}
use Rattle.std.proofs.lemmas.Bool.{leb-true, leb-false}
use Rattle.query_tokens.specs.declared.keyword.Keyword.TheVariants as keyword
use Rattle.query_tokens.specs.declared.token.Sign.TheVariants as sign_of
use Rattle.query_tokens.specs.declared.token.Token.{Token}
use Rattle.query_tokens.specs.declared.token.Token.TheVariants as token
use Rattle.query_tokens.specs.Writing.{IsWritable}
use Rattle.query_tokens.proofs.Writable.{keyword_writable}
use Rattle.query_lang.specs.declared.formula.Named.{Named}
use Rattle.query_lang.specs.declared.formula.Named.TheVariants as named
use Rattle.query_lang.specs.declared.literal.Path.{Path}
use Rattle.query_lang.specs.declared.term.Arg.{Arg}
use Rattle.query_lang.specs.declared.term.NamedTerm.{NamedTerm}
use Rattle.query_lang.specs.Words.{Tokens, word, sign, name}
use Rattle.query_lang.specs.Literals.{NumberTest, IsNumberTest}
use Rattle.query_lang.specs.Paths.{IsPath}
use Rattle.query_lang.specs.Formulas.{tested, IsAtom, conjunction, disjunction, equivalence, IsUnary, IsConjunction, IsDisjunction, IsImplication, IsEquivalence}
use Rattle.query_lang.specs.Writing.{argument, at_most, by_commas, call, enclosed, formula, path, term, unjoined, Written, written}
use Rattle.query_lang.proofs.LiteralsAgain.{test_tokens, test_again}
use Rattle.query_lang.proofs.PathsAgain.{path_again}
use Rattle.query_lang.proofs.ReadAgain.{laid, both_laid, Spelt, Known, Then, behind, known_name, none_written, one_written, sign_written, word_written, both_written, strict, opens_lower, Below, fewer, Each, longer, each_map, chain_spelt}
use Rattle.query_lang.proofs.TermsAgain.{TermSpelt, ArgsSpelt, term_again, args_again}
use Rattle.query_lang.proofs.WrittenFormulas.{placed_parts, written_true, written_false, written_not, written_and, written_or, written_iff, written_implies, written_forall, written_exists, written_at_path, written_equal, written_masked, written_range, written_holds}

-- Where formulas stand.

-- a part of NOT or AND, of OR, on the left of IMPLIES, of IFF, and a whole formula
pub data Place : Type 0 where
  in_and : Place
  in_or : Place
  in_implies : Place
  in_iff : Place
  top : Place

-- how loosely what stands there may join its parts
abbrev pub rank : Place → ℕ
rank Place.in_and = 0
rank Place.in_or = 1
rank Place.in_implies = 2
rank Place.in_iff = 3
rank Place.top = 4

abbrev pub IsAt : Place → ℕ → Named → Tokens → Tokens → Type 0
IsAt Place.in_and level v ts rest = IsUnary strict level v ts rest
IsAt Place.in_or level v ts rest = (parts : List Named) × (v ≡ conjunction parts) × IsConjunction strict level parts ts rest
IsAt Place.in_implies level v ts rest = (parts : List Named) × (v ≡ disjunction parts) × IsDisjunction strict level parts ts rest
IsAt Place.in_iff level v ts rest = IsImplication strict level v ts rest
IsAt Place.top level v ts rest = (parts : List Named) × (v ≡ equivalence parts) × IsEquivalence strict level parts ts rest

to_conjunction : (level : ℕ) (v : Named) (ts rest : Tokens) → IsAt Place.in_and level v ts rest → IsAt Place.in_or level v ts rest
to_conjunction level v ts rest is = (v ∷ [], refl, IsConjunction.and_one level v ts rest is)

to_disjunction : (level : ℕ) (v : Named) (ts rest : Tokens) → IsAt Place.in_or level v ts rest → IsAt Place.in_implies level v ts rest
to_disjunction level v ts rest (parts, e, is) = (conjunction parts ∷ [], e, IsDisjunction.or_one level parts ts rest is)

to_implication : (level : ℕ) (v : Named) (ts rest : Tokens) → IsAt Place.in_implies level v ts rest → IsAt Place.in_iff level v ts rest
to_implication level v ts rest (parts, e, is) = subst (λ (w : Named). IsImplication strict level w ts rest) (sym e) (IsImplication.alone level parts ts rest is)

to_equivalence : (level : ℕ) (v : Named) (ts rest : Tokens) → IsAt Place.in_iff level v ts rest → IsAt Place.top level v ts rest
to_equivalence level v ts rest is = (v ∷ [], refl, IsEquivalence.iff_one level v ts rest is)

-- what stands at a place may stand at each looser one
at_looser : (p q : Place) (level : ℕ) (v : Named) (ts rest : Tokens) → rank p ≤ rank q → IsAt p level v ts rest → IsAt q level v ts rest
at_looser Place.in_and Place.in_and level v ts rest le is = is
at_looser Place.in_and Place.in_or level v ts rest le is = to_conjunction level v ts rest is
at_looser Place.in_and Place.in_implies level v ts rest le is = to_disjunction level v ts rest (to_conjunction level v ts rest is)
at_looser Place.in_and Place.in_iff level v ts rest le is = to_implication level v ts rest (to_disjunction level v ts rest (to_conjunction level v ts rest is))
at_looser Place.in_and Place.top level v ts rest le is = to_equivalence level v ts rest (to_implication level v ts rest (to_disjunction level v ts rest (to_conjunction level v ts rest is)))
at_looser Place.in_or Place.in_and level v ts rest le is = absurd (omega (arith, le))
at_looser Place.in_or Place.in_or level v ts rest le is = is
at_looser Place.in_or Place.in_implies level v ts rest le is = to_disjunction level v ts rest is
at_looser Place.in_or Place.in_iff level v ts rest le is = to_implication level v ts rest (to_disjunction level v ts rest is)
at_looser Place.in_or Place.top level v ts rest le is = to_equivalence level v ts rest (to_implication level v ts rest (to_disjunction level v ts rest is))
at_looser Place.in_implies Place.in_and level v ts rest le is = absurd (omega (arith, le))
at_looser Place.in_implies Place.in_or level v ts rest le is = absurd (omega (arith, le))
at_looser Place.in_implies Place.in_implies level v ts rest le is = is
at_looser Place.in_implies Place.in_iff level v ts rest le is = to_implication level v ts rest is
at_looser Place.in_implies Place.top level v ts rest le is = to_equivalence level v ts rest (to_implication level v ts rest is)
at_looser Place.in_iff Place.in_and level v ts rest le is = absurd (omega (arith, le))
at_looser Place.in_iff Place.in_or level v ts rest le is = absurd (omega (arith, le))
at_looser Place.in_iff Place.in_implies level v ts rest le is = absurd (omega (arith, le))
at_looser Place.in_iff Place.in_iff level v ts rest le is = is
at_looser Place.in_iff Place.top level v ts rest le is = to_equivalence level v ts rest is
at_looser Place.top Place.in_and level v ts rest le is = absurd (omega (arith, le))
at_looser Place.top Place.in_or level v ts rest le is = absurd (omega (arith, le))
at_looser Place.top Place.in_implies level v ts rest le is = absurd (omega (arith, le))
at_looser Place.top Place.in_iff level v ts rest le is = absurd (omega (arith, le))
at_looser Place.top Place.top level v ts rest le is = is

rank_small : (p : Place) → rank p ≤ 4
rank_small Place.in_and = omega arith
rank_small Place.in_or = omega arith
rank_small Place.in_implies = omega arith
rank_small Place.in_iff = omega arith
rank_small Place.top = omega arith

-- Formulas as they are written.

-- the tokens of the formula are it, at the place that its own joining wants, at so many open levels and fewer
pub record Bare (level : ℕ) (v : Named) : Type 0 where
  pub place : Place
  pub joins : (written v).joins ≡ rank place
  pub spelt : Spelt (Below level (λ lower. IsAt place lower v)) (formula v)

-- the same one level deeper, and the level may be opened
pub record Deeper (level : ℕ) (v : Named) : Type 0 where
  pub bare : Bare (suc level) v
  pub behind : ℕ
  pub may : strict.opens level behind ≡ true

-- the formula may stand at the place, between parentheses if it joins its parts too loosely
pub record Fits (place : Place) (level : ℕ) (v : Named) : Type 0 where
  pub bare : Bare level v
  pub deeper : rank place < (written v).joins → Deeper level v

less_deep : (level : ℕ) (v : Named) → Bare (suc level) v → Bare level v
less_deep level v b = record { place = b.place; joins = b.joins; spelt = fewer level (λ lower. IsAt b.place lower v) (formula v) b.spelt }

no_looser : (a b c : ℕ) → a ≡ b → a ≤ c → b ≤ c
no_looser a b c e le = omega (arith, e, le)

not_beyond : (A : Type 0) (a b : ℕ) → b ≤ a → a < b → A
not_beyond A a b le less = absurd (omega (arith, le, less))

bare_of : (place : Place) (level : ℕ) (v : Named) (w : Written) → written v ≡ w → w.joins ≡ rank place → Spelt (Below level (λ lower. IsAt place lower v)) w.tokens → Bare level v
bare_of place level v w e joins s = record {
  place = place;
  joins = ap (λ (x : Written). x.joins) e ∙ joins;
  spelt = subst (λ (x : Written). Spelt (Below level (λ lower. IsAt place lower v)) x.tokens) (sym e) s;
}

fits_of : (place : Place) (level : ℕ) (v : Named) (w : Written) → written v ≡ w → w.joins ≡ rank place → Spelt (Below level (λ lower. IsAt place lower v)) w.tokens → Fits place level v
fits_of place level v w e joins s = record {
  bare = bare_of place level v w e joins s;
  deeper = λ less. not_beyond (Deeper level v) (rank place) (written v).joins (no_looser (rank place) (written v).joins (rank place) (sym (ap (λ (x : Written). x.joins) e ∙ joins)) (omega arith)) less;
}

looser : (p q : Place) (level : ℕ) (v : Named) → rank p ≤ rank q → Fits p level v → Fits q level v
looser p q level v le f = record { bare = f.bare; deeper = λ less. f.deeper (omega (arith, le, less)) }

grouped : (place : Place) (level : ℕ) (v : Named) → Deeper level v → Spelt (Below level (λ lower. IsAt place lower v)) (enclosed (formula v))
grouped place level v d = record {
  reads = λ line rest lower le.
      let inner : Tokens = laid line (formula v) (sign line sign_of.Close ∷ rest) in
      let tokens : Tokens = laid line (formula v ++ token.Sign sign_of.Close ∷ []) rest in
      let e : IsAt Place.top (suc lower) v inner (sign line sign_of.Close ∷ rest) =
      at_looser d.bare.place Place.top (suc lower) v inner (sign line sign_of.Close ∷ rest) (rank_small d.bare.place) (d.bare.spelt.reads line (sign line sign_of.Close ∷ rest) (suc lower) (omega (arith, le))) in
      at_looser Place.in_and place lower v (sign line sign_of.Open ∷ tokens) rest (omega arith)
      (subst (λ (w : Named). IsUnary strict lower w (sign line sign_of.Open ∷ tokens) rest) (sym e.1)
      (IsUnary.group lower line line e.0 tokens rest (opens_lower level lower d.behind (length tokens) le d.may)
      (both_laid (λ (l : Tokens). IsEquivalence strict (suc lower) e.0 l (sign line sign_of.Close ∷ rest)) line (formula v) (token.Sign sign_of.Close ∷ []) rest e.2)));
  writable =
      sign_written sign_of.Open (formula v ++ token.Sign sign_of.Close ∷ [])
      (both_written (formula v) (token.Sign sign_of.Close ∷ []) d.bare.spelt.writable (sign_written sign_of.Close [] none_written));
}

by_rank : (place : Place) (level : ℕ) (v : Named) (b : Bool) → nat_le (written v).joins (rank place) ≡ b → Fits place level v
    → Spelt (Below level (λ lower. IsAt place lower v)) (if b then formula v else enclosed (formula v))
by_rank place level v true e f = record {
  reads = λ line rest lower le.
      at_looser f.bare.place place lower v (laid line (formula v) rest) rest (no_looser (written v).joins (rank f.bare.place) (rank place) f.bare.joins (leb-true (written v).joins (rank place) e))
      (f.bare.spelt.reads line rest lower le);
  writable = f.bare.spelt.writable;
}
by_rank place level v false e f = grouped place level v (f.deeper (leb-false (written v).joins (rank place) e))

pub fits_spelt : (place : Place) (level : ℕ) (v : Named) → Fits place level v → Spelt (Below level (λ lower. IsAt place lower v)) (at_most (rank place) (written v))
fits_spelt place level v f = by_rank place level v (nat_le (written v).joins (rank place)) refl f

unjoined_fits : (level : ℕ) (v : Named) (tokens : List Token) → written v ≡ unjoined tokens → Spelt (Below level (λ lower. IsUnary strict lower v)) tokens → Fits Place.in_and level v
unjoined_fits level v tokens e s = fits_of Place.in_and level v (unjoined tokens) e refl s

-- Chains.

and_fits : (level : ℕ) (parts : List Named) → Each Named (λ part. Fits Place.in_and level part) parts → Fits Place.in_or level (conjunction parts)
and_fits level _ (Each.one part f) = looser Place.in_and Place.in_or level part (omega arith) f
and_fits level _ (Each.more part second more f each) =
    let parts : List Named = part ∷ second ∷ more in
    let all : Each Named (λ part. Spelt (Below level (λ lower. IsAt Place.in_and lower part)) (at_most 0 (written part))) parts =
    each_map Named (λ part. Fits Place.in_and level part) (λ part. Spelt (Below level (λ lower. IsAt Place.in_and lower part)) (at_most 0 (written part)))
    (λ part f. fits_spelt Place.in_and level part f) parts (Each.more part second more f each) in
    let chain =
    chain_spelt Named (token.Keyword keyword.And) (λ part. at_most 0 (written part)) (λ part. Below level (λ lower. IsAt Place.in_and lower part)) (λ parts. Below level (λ lower. IsConjunction strict lower parts))
    (λ part ts rest is lower le. IsConjunction.and_one lower part ts rest (is lower le))
    (λ line part parts ts others rest is chain lower le. IsConjunction.and_more lower line part parts ts others rest (is lower le) (chain lower le))
    (keyword_writable keyword.And) parts all in
    fits_of Place.in_or level (named.And parts) (record { joins = 1; tokens = placed_parts (token.Keyword keyword.And) 0 parts }) (written_and parts) refl
    (record { reads = λ line rest lower le. (parts, refl, chain.reads line rest lower le); writable = chain.writable })

or_first : (level : ℕ) (part : Named) (ts rest : Tokens) → IsAt Place.in_or level part ts rest → IsDisjunction strict level (part ∷ []) ts rest
or_first level part ts rest (parts, e, is) = subst (λ (w : Named). IsDisjunction strict level (w ∷ []) ts rest) (sym e) (IsDisjunction.or_one level parts ts rest is)

or_next : (level line : ℕ) (part : Named) (others : List Named) (ts back rest : Tokens) → IsAt Place.in_or level part ts (word line keyword.Or ∷ back) → IsDisjunction strict level others back rest
    → IsDisjunction strict level (part ∷ others) ts rest
or_next level line part others ts back rest (parts, e, is) more =
    subst (λ (w : Named). IsDisjunction strict level (w ∷ others) ts rest) (sym e) (IsDisjunction.or_more level line parts others ts back rest is more)

or_fits : (level : ℕ) (parts : List Named) → Each Named (λ part. Fits Place.in_or level part) parts → Fits Place.in_implies level (disjunction parts)
or_fits level _ (Each.one part f) = looser Place.in_or Place.in_implies level part (omega arith) f
or_fits level _ (Each.more part second more f each) =
    let parts : List Named = part ∷ second ∷ more in
    let all : Each Named (λ part. Spelt (Below level (λ lower. IsAt Place.in_or lower part)) (at_most 1 (written part))) parts =
    each_map Named (λ part. Fits Place.in_or level part) (λ part. Spelt (Below level (λ lower. IsAt Place.in_or lower part)) (at_most 1 (written part)))
    (λ part f. fits_spelt Place.in_or level part f) parts (Each.more part second more f each) in
    let chain =
    chain_spelt Named (token.Keyword keyword.Or) (λ part. at_most 1 (written part)) (λ part. Below level (λ lower. IsAt Place.in_or lower part)) (λ parts. Below level (λ lower. IsDisjunction strict lower parts))
    (λ part ts rest is lower le. or_first lower part ts rest (is lower le))
    (λ line part parts ts others rest is chain lower le. or_next lower line part parts ts others rest (is lower le) (chain lower le))
    (keyword_writable keyword.Or) parts all in
    fits_of Place.in_implies level (named.Or parts) (record { joins = 2; tokens = placed_parts (token.Keyword keyword.Or) 1 parts }) (written_or parts) refl
    (record { reads = λ line rest lower le. (parts, refl, chain.reads line rest lower le); writable = chain.writable })

iff_fits : (level : ℕ) (parts : List Named) → Each Named (λ part. Fits Place.in_iff level part) parts → Fits Place.top level (equivalence parts)
iff_fits level _ (Each.one part f) = looser Place.in_iff Place.top level part (omega arith) f
iff_fits level _ (Each.more part second more f each) =
    let parts : List Named = part ∷ second ∷ more in
    let all : Each Named (λ part. Spelt (Below level (λ lower. IsAt Place.in_iff lower part)) (at_most 3 (written part))) parts =
    each_map Named (λ part. Fits Place.in_iff level part) (λ part. Spelt (Below level (λ lower. IsAt Place.in_iff lower part)) (at_most 3 (written part)))
    (λ part f. fits_spelt Place.in_iff level part f) parts (Each.more part second more f each) in
    let chain =
    chain_spelt Named (token.Keyword keyword.Iff) (λ part. at_most 3 (written part)) (λ part. Below level (λ lower. IsAt Place.in_iff lower part)) (λ parts. Below level (λ lower. IsEquivalence strict lower parts))
    (λ part ts rest is lower le. IsEquivalence.iff_one lower part ts rest (is lower le))
    (λ line part parts ts others rest is chain lower le. IsEquivalence.iff_more lower line part parts ts others rest (is lower le) (chain lower le))
    (keyword_writable keyword.Iff) parts all in
    fits_of Place.top level (named.Iff parts) (record { joins = 4; tokens = placed_parts (token.Keyword keyword.Iff) 3 parts }) (written_iff parts) refl
    (record { reads = λ line rest lower le. (parts, refl, chain.reads line rest lower le); writable = chain.writable })

-- Atoms.

pub record AtomAgain (level : ℕ) (v : Named) : Type 0 where
  pub tokens : List Token
  pub whole : written v ≡ unjoined tokens
  pub spelt : Spelt (Below level (λ lower. IsAtom strict lower v)) tokens

decided_again : (level : ℕ) (list : Path) (verdict : List ℕ) (args : List Arg) → Spelt (IsPath list) (path list) → IsWritable (token.Name verdict) → ArgsSpelt level args (enclosed (by_commas argument args))
    → AtomAgain level (named.AtPath list verdict args)
decided_again level list verdict args s is a = record {
  tokens = path list ++ token.Sign sign_of.Colon ∷ call verdict args;
  whole = written_at_path list verdict args;
  spelt = record {
    reads = λ line rest lower le.
        let back : Tokens = laid line (enclosed (by_commas argument args)) rest in
        let front : Tokens = sign line sign_of.Colon ∷ name line verdict ∷ back in
        both_laid (λ (l : Tokens). IsAtom strict lower (named.AtPath list verdict args) l rest) line (path list) (token.Sign sign_of.Colon ∷ call verdict args) rest
        (IsAtom.decided lower line line list verdict args (laid line (path list) front) back rest (s.reads line front) (a.reads line rest lower le));
    writable = both_written (path list) (token.Sign sign_of.Colon ∷ call verdict args) s.writable
        (sign_written sign_of.Colon (call verdict args) (one_written (token.Name verdict) (enclosed (by_commas argument args)) is a.writable));
  };
}

equal_again : (level : ℕ) (left right : NamedTerm) → TermSpelt level left (term left) → TermSpelt level right (term right) → AtomAgain level (named.Equal left right)
equal_again level left right a b = record {
  tokens = term left ++ token.Sign sign_of.Equals ∷ term right;
  whole = written_equal left right;
  spelt = record {
    reads = λ line rest lower le.
        let back : Tokens = laid line (term right) rest in
        both_laid (λ (l : Tokens). IsAtom strict lower (named.Equal left right) l rest) line (term left) (token.Sign sign_of.Equals ∷ term right) rest
        (IsAtom.equal lower line left right (laid line (term left) (sign line sign_of.Equals ∷ back)) back rest (a.reads line (sign line sign_of.Equals ∷ back) lower le) (b.reads line rest lower le));
    writable = both_written (term left) (token.Sign sign_of.Equals ∷ term right) a.writable (sign_written sign_of.Equals (term right) b.writable);
  };
}

tested_whole : (of : NamedTerm) (test : NumberTest) → written (tested of test) ≡ unjoined (term of ++ token.Keyword keyword.In ∷ test_tokens test)
tested_whole of (NumberTest.masked v w) = written_masked of v w
tested_whole of (NumberTest.range lo hi) = written_range of lo hi

tested_again : (level : ℕ) (of : NamedTerm) (test : NumberTest) → TermSpelt level of (term of) → Spelt (IsNumberTest test) (test_tokens test) → AtomAgain level (tested of test)
tested_again level of test a b = record {
  tokens = term of ++ token.Keyword keyword.In ∷ test_tokens test;
  whole = tested_whole of test;
  spelt = record {
    reads = λ line rest lower le.
        let back : Tokens = laid line (test_tokens test) rest in
        both_laid (λ (l : Tokens). IsAtom strict lower (tested of test) l rest) line (term of) (token.Keyword keyword.In ∷ test_tokens test) rest
        (IsAtom.number_test lower line of test (laid line (term of) (word line keyword.In ∷ back)) back rest (a.reads line (word line keyword.In ∷ back) lower le) (b.reads line rest));
    writable = both_written (term of) (token.Keyword keyword.In ∷ test_tokens test) a.writable (word_written keyword.In (test_tokens test) b.writable);
  };
}

holds_again : (level : ℕ) (text : List ℕ) (args : List Arg) → IsWritable (token.Name text) → ArgsSpelt level args (enclosed (by_commas argument args)) → AtomAgain level (named.Holds text args)
holds_again level text args is a = record {
  tokens = call text args;
  whole = written_holds text args;
  spelt = record {
    reads = λ line rest lower le. IsAtom.holds lower line text args (laid line (enclosed (by_commas argument args)) rest) rest (a.reads line rest lower le);
    writable = one_written (token.Name text) (enclosed (by_commas argument args)) is a.writable;
  };
}

pub atom_again : (level : ℕ) (v : Named) (ts rest : Tokens) → IsAtom strict level v ts rest → Known ts → Then (AtomAgain level v) rest
atom_again level v ts rest (IsAtom.decided _ i j list verdict args _ others _ is are) known =
    let a = path_again list ts (sign i sign_of.Colon ∷ name j verdict ∷ others) is known in
    let b = args_again level args others rest are (behind (behind a.behind)) in
    record { is = decided_again level list verdict args a.is (known_name (behind a.behind)) b.is; behind = b.behind }
atom_again level v ts rest (IsAtom.equal _ line left right _ others _ is more) known =
    let a = term_again level left ts (sign line sign_of.Equals ∷ others) is known in
    let b = term_again level right others rest more (behind a.behind) in
    record { is = equal_again level left right a.is b.is; behind = b.behind }
atom_again level v ts rest (IsAtom.number_test _ line of test _ others _ is more) known =
    let a = term_again level of ts (word line keyword.In ∷ others) is known in
    let b = test_again test others rest more (behind a.behind) in
    record { is = tested_again level of test a.is b.is; behind = b.behind }
atom_again level v ts rest (IsAtom.holds _ line text args tokens _ are) known =
    let a = args_again level args tokens rest are (behind known) in
    record { is = holds_again level text args (known_name known) a.is; behind = a.behind }

-- Formulas.

atom_fits : (level : ℕ) (v : Named) → AtomAgain level v → Fits Place.in_and level v
atom_fits level v a = unjoined_fits level v a.tokens a.whole (record {
  reads = λ line rest lower le. IsUnary.atom lower v (laid line a.tokens rest) rest (a.spelt.reads line rest lower le);
  writable = a.spelt.writable;
})

always_fits : (level : ℕ) → Fits Place.in_and level named.True
always_fits level = unjoined_fits level named.True (token.Keyword keyword.True ∷ []) written_true
    (record { reads = λ line rest lower le. IsUnary.always lower line rest; writable = word_written keyword.True [] none_written })

never_fits : (level : ℕ) → Fits Place.in_and level named.False
never_fits level = unjoined_fits level named.False (token.Keyword keyword.False ∷ []) written_false
    (record { reads = λ line rest lower le. IsUnary.never lower line rest; writable = word_written keyword.False [] none_written })

not_fits : (level : ℕ) (body : Named) (b : ℕ) → strict.opens level b ≡ true → Fits Place.in_and (suc level) body → Fits Place.in_and level (named.Not body)
not_fits level body b may f =
    let s = fits_spelt Place.in_and (suc level) body f in
    let inner : List Token = at_most 0 (written body) in
    unjoined_fits level (named.Not body) (token.Keyword keyword.Not ∷ inner) (written_not body) (record {
      reads = λ line rest lower le. IsUnary.not lower line body (laid line inner rest) rest (opens_lower level lower b (length (laid line inner rest)) le may) (s.reads line rest (suc lower) (omega (arith, le)));
      writable = word_written keyword.Not inner s.writable;
    })

forall_fits : (level : ℕ) (variable sort : List ℕ) (body : Named) (b : ℕ) → strict.opens level b ≡ true → IsWritable (token.Name variable) → IsWritable (token.Name sort) → Fits Place.in_and (suc level) body
    → Fits Place.in_and level (named.Forall variable sort body)
forall_fits level variable sort body b may first second f =
    let s = fits_spelt Place.in_and (suc level) body f in
    let inner : List Token = at_most 0 (written body) in
    unjoined_fits level (named.Forall variable sort body) (token.Keyword keyword.Forall ∷ token.Name variable ∷ token.Sign sign_of.Colon ∷ token.Name sort ∷ inner) (written_forall variable sort body) (record {
      reads = λ line rest lower le.
          IsUnary.forall lower line line line line variable sort body (laid line inner rest) rest (opens_lower level lower b (suc (suc (suc (length (laid line inner rest))))) le may)
          (s.reads line rest (suc lower) (omega (arith, le)));
      writable =
          word_written keyword.Forall (token.Name variable ∷ token.Sign sign_of.Colon ∷ token.Name sort ∷ inner)
          (one_written (token.Name variable) (token.Sign sign_of.Colon ∷ token.Name sort ∷ inner) first
          (sign_written sign_of.Colon (token.Name sort ∷ inner) (one_written (token.Name sort) inner second s.writable)));
    })

exists_fits : (level : ℕ) (variable sort : List ℕ) (body : Named) (b : ℕ) → strict.opens level b ≡ true → IsWritable (token.Name variable) → IsWritable (token.Name sort) → Fits Place.in_and (suc level) body
    → Fits Place.in_and level (named.Exists variable sort body)
exists_fits level variable sort body b may first second f =
    let s = fits_spelt Place.in_and (suc level) body f in
    let inner : List Token = at_most 0 (written body) in
    unjoined_fits level (named.Exists variable sort body) (token.Keyword keyword.Exists ∷ token.Name variable ∷ token.Sign sign_of.Colon ∷ token.Name sort ∷ inner) (written_exists variable sort body) (record {
      reads = λ line rest lower le.
          IsUnary.exists lower line line line line variable sort body (laid line inner rest) rest (opens_lower level lower b (suc (suc (suc (length (laid line inner rest))))) le may)
          (s.reads line rest (suc lower) (omega (arith, le)));
      writable =
          word_written keyword.Exists (token.Name variable ∷ token.Sign sign_of.Colon ∷ token.Name sort ∷ inner)
          (one_written (token.Name variable) (token.Sign sign_of.Colon ∷ token.Name sort ∷ inner) first
          (sign_written sign_of.Colon (token.Name sort ∷ inner) (one_written (token.Name sort) inner second s.writable)));
    })

group_fits : (level : ℕ) (v : Named) (b : ℕ) → strict.opens level b ≡ true → Fits Place.top (suc level) v → Fits Place.in_and level v
group_fits level v b may f = record { bare = less_deep level v f.bare; deeper = λ less. record { bare = f.bare; behind = b; may = may } }

implies_fits : (level : ℕ) (left right : Named) (b : ℕ) → strict.opens level b ≡ true → Fits Place.in_implies level left → Fits Place.in_iff (suc level) right → Fits Place.in_iff level (named.Implies left right)
implies_fits level left right b may f g =
    let a = fits_spelt Place.in_implies level left f in
    let c = fits_spelt Place.in_iff (suc level) right g in
    let front : List Token = at_most 2 (written left) in
    let inner : List Token = at_most 3 (written right) in
    fits_of Place.in_iff level (named.Implies left right) (record { joins = 3; tokens = front ++ token.Keyword keyword.Implies ∷ inner }) (written_implies left right) refl (record {
      reads = λ line rest lower le.
          let back : Tokens = laid line inner rest in
          let all : Tokens = laid line front (word line keyword.Implies ∷ back) in
          let d : IsAt Place.in_implies lower left all (word line keyword.Implies ∷ back) = a.reads line (word line keyword.Implies ∷ back) lower le in
          both_laid (λ (l : Tokens). IsImplication strict lower (named.Implies left right) l rest) line front (token.Keyword keyword.Implies ∷ inner) rest
          (subst (λ (w : Named). IsImplication strict lower (named.Implies w right) all rest) (sym d.1)
          (IsImplication.implies lower line d.0 right all back rest (opens_lower level lower b (length back) le may) d.2 (c.reads line rest (suc lower) (omega (arith, le)))));
      writable = both_written front (token.Keyword keyword.Implies ∷ inner) a.writable (word_written keyword.Implies inner c.writable);
    })

mutual
  unary_again : (level : ℕ) (v : Named) (ts rest : Tokens) → IsUnary strict level v ts rest → Known ts → Then (Fits Place.in_and level v) rest
  unary_again level v ts rest (IsUnary.always _ line _) known = record { is = always_fits level; behind = behind known }
  unary_again level v ts rest (IsUnary.never _ line _) known = record { is = never_fits level; behind = behind known }
  unary_again level v ts rest (IsUnary.not _ line body tokens _ may is) known =
      let a = unary_again (suc level) body tokens rest is (behind known) in
      record { is = not_fits level body (length tokens) may a.is; behind = a.behind }
  unary_again level v ts rest (IsUnary.forall _ h i j k variable sort body tokens _ may is) known =
      let a = unary_again (suc level) body tokens rest is (behind (behind (behind (behind known)))) in
      record { is = forall_fits level variable sort body (suc (suc (suc (length tokens)))) may (known_name (behind known)) (known_name (behind (behind (behind known)))) a.is; behind = a.behind }
  unary_again level v ts rest (IsUnary.exists _ h i j k variable sort body tokens _ may is) known =
      let a = unary_again (suc level) body tokens rest is (behind (behind (behind (behind known)))) in
      record { is = exists_fits level variable sort body (suc (suc (suc (length tokens)))) may (known_name (behind known)) (known_name (behind (behind (behind known)))) a.is; behind = a.behind }
  unary_again level v ts rest (IsUnary.group _ i j parts tokens _ may is) known =
      let a = equivalence_again (suc level) parts tokens (sign j sign_of.Close ∷ rest) is (behind known) in
      record { is = group_fits level (equivalence parts) (length tokens) may (iff_fits (suc level) parts a.is); behind = behind a.behind }
  unary_again level v ts rest (IsUnary.atom _ _ _ _ is) known =
      let a = atom_again level v ts rest is known in
      record { is = atom_fits level v a.is; behind = a.behind }

  conjunction_again : (level : ℕ) (parts : List Named) (ts rest : Tokens) → IsConjunction strict level parts ts rest → Known ts → Then (Each Named (λ part. Fits Place.in_and level part) parts) rest
  conjunction_again level parts ts rest (IsConjunction.and_one _ part _ _ is) known =
      let a = unary_again level part ts rest is known in
      record { is = Each.one part a.is; behind = a.behind }
  conjunction_again level parts ts rest (IsConjunction.and_more _ line part others _ back _ is more) known =
      let a = unary_again level part ts (word line keyword.And ∷ back) is known in
      let b = conjunction_again level others back rest more (behind a.behind) in
      record { is = longer Named (λ one. Fits Place.in_and level one) part others a.is b.is; behind = b.behind }

  disjunction_again : (level : ℕ) (parts : List Named) (ts rest : Tokens) → IsDisjunction strict level parts ts rest → Known ts → Then (Each Named (λ part. Fits Place.in_or level part) parts) rest
  disjunction_again level parts ts rest (IsDisjunction.or_one _ first _ _ is) known =
      let a = conjunction_again level first ts rest is known in
      record { is = Each.one (conjunction first) (and_fits level first a.is); behind = a.behind }
  disjunction_again level parts ts rest (IsDisjunction.or_more _ line first others _ back _ is more) known =
      let a = conjunction_again level first ts (word line keyword.Or ∷ back) is known in
      let b = disjunction_again level others back rest more (behind a.behind) in
      record { is = longer Named (λ one. Fits Place.in_or level one) (conjunction first) others (and_fits level first a.is) b.is; behind = b.behind }

  implication_again : (level : ℕ) (v : Named) (ts rest : Tokens) → IsImplication strict level v ts rest → Known ts → Then (Fits Place.in_iff level v) rest
  implication_again level v ts rest (IsImplication.alone _ parts _ _ is) known =
      let a = disjunction_again level parts ts rest is known in
      record { is = looser Place.in_implies Place.in_iff level (disjunction parts) (omega arith) (or_fits level parts a.is); behind = a.behind }
  implication_again level v ts rest (IsImplication.implies _ line parts right _ others _ may is more) known =
      let a = disjunction_again level parts ts (word line keyword.Implies ∷ others) is known in
      let b = implication_again (suc level) right others rest more (behind a.behind) in
      record { is = implies_fits level (disjunction parts) right (length others) may (or_fits level parts a.is) b.is; behind = b.behind }

  pub equivalence_again : (level : ℕ) (parts : List Named) (ts rest : Tokens) → IsEquivalence strict level parts ts rest → Known ts → Then (Each Named (λ part. Fits Place.in_iff level part) parts) rest
  equivalence_again level parts ts rest (IsEquivalence.iff_one _ part _ _ is) known =
      let a = implication_again level part ts rest is known in
      record { is = Each.one part a.is; behind = a.behind }
  equivalence_again level parts ts rest (IsEquivalence.iff_more _ line part others _ back _ is more) known =
      let a = implication_again level part ts (word line keyword.Iff ∷ back) is known in
      let b = equivalence_again level others back rest more (behind a.behind) in
      record { is = longer Named (λ one. Fits Place.in_iff level one) part others a.is b.is; behind = b.behind }

-- a whole formula is read again where no level is open
pub formula_spelt : (v : Named) (parts : List Named) → v ≡ equivalence parts → Each Named (λ part. Fits Place.in_iff 0 part) parts
    → Spelt (λ ts rest. (all : List Named) × (v ≡ equivalence all) × IsEquivalence strict 0 all ts rest) (formula v)
formula_spelt v parts e each =
    let f : Fits Place.top 0 v = subst (λ (w : Named). Fits Place.top 0 w) (sym e) (iff_fits 0 parts each) in
    record {
      reads = λ line rest.
          at_looser f.bare.place Place.top 0 v (laid line (formula v) rest) rest (rank_small f.bare.place) (f.bare.spelt.reads line rest 0 (omega arith));
      writable = f.bare.spelt.writable;
    }
