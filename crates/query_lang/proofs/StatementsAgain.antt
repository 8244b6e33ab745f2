-- Statements are read again as they are written.
use Rattle.std.proofs.Common.{◌≡◌, ℕ, ◌≤◌, ◌^◌, ◌-◌, List, [], ◌∷◌, ◌++◌, refl, sym, ap, subst, arith}
use Rattle.std.specs.Fmt.{decimal}
use Rattle.query_tokens.specs.declared.keyword.Keyword.TheVariants as keyword
use Rattle.query_tokens.specs.declared.token.Sign.TheVariants as sign_of
use Rattle.query_tokens.specs.declared.token.Token.{Token}
use Rattle.query_tokens.specs.declared.token.Token.TheVariants as token
use Rattle.query_tokens.specs.Writing.{IsWritable}
use Rattle.query_tokens.proofs.Writable.{sign_writable}
use Rattle.query_lang.specs.declared.formula.Named.{Named}
use Rattle.query_lang.specs.declared.literal.Literal.{Literal}
use Rattle.query_lang.specs.declared.literal.NamedTest.{NamedTest}
use Rattle.query_lang.specs.declared.literal.Path.{Path}
use Rattle.query_lang.specs.declared.script.Explore.{Explore}
use Rattle.query_lang.specs.declared.script.Kind.{Kind}
use Rattle.query_lang.specs.declared.script.Kind.TheVariants as kind
use Rattle.query_lang.specs.Chains.{IsChain}
use Rattle.query_lang.specs.Words.{Tokens, word, sign, name, digits, quoted, number}
use Rattle.query_lang.specs.Literals.{IsLiteral, NumberTest, IsNumberTest}
use Rattle.query_lang.specs.Paths.{IsPath}
use Rattle.query_lang.specs.Formulas.{IsAtom, IsEquivalence, equivalence}
use Rattle.query_lang.specs.Statements.{IsAsk, IsDeclared, AreDeclared, IsName, AreUnder, AreIncluded, IsExplore, field_tested, IsFieldTest, IsCommand}
use Rattle.query_lang.specs.Writing.{by_commas, declared, enclosed, explore, field_test, formula, included, literal, numeral, path, statement, under, variables}
use Rattle.query_lang.proofs.FormulasAgain.{AtomAgain, atom_again, equivalence_again, formula_spelt}
use Rattle.query_lang.proofs.LiteralsAgain.{at_least, at_most_high, decimal_value, decimal_within, literal_again, numeral_written, test_again, test_tokens}
use Rattle.query_lang.proofs.PathsAgain.{path_again}
use Rattle.query_lang.proofs.ReadAgain.{laid, both_laid, Spelt, Known, Then, behind, known_name, known_quoted, none_written, one_written, sign_written, word_written, both_written, strict, Each, chain_again, chains_spelt}

abbrev comma : Token
comma = token.Sign sign_of.Comma

-- Questions of what was explored.

abbrev AskSpelt : Kind → Type 0
AskSpelt what = Spelt (IsAsk what) (statement what)

first_spelt : (n : ℕ) → 1 ≤ n → n ≤ 1000000 → AskSpelt (kind.ShowFirst n)
first_spelt n low high = record {
  reads = λ line rest. subst (λ (m : ℕ). IsAsk (kind.ShowFirst m) (word line keyword.Show ∷ word line keyword.First ∷ digits line (decimal n) ∷ rest) rest) (decimal_value n (omega (arith, high)))
      (IsAsk.first line line line (decimal n) rest (decimal_within 1 1000000 n low high (omega (arith, high))));
  writable = word_written keyword.Show (token.Keyword keyword.First ∷ numeral n ∷ []) (word_written keyword.First (numeral n ∷ []) (one_written (numeral n) ([]) (numeral_written n (omega (arith, high))) none_written));
}

up_to_spelt : (n : ℕ) → 1 ≤ n → n ≤ 100 → AskSpelt (kind.ShowUpTo n)
up_to_spelt n low high = record {
  reads = λ line rest. subst (λ (m : ℕ). IsAsk (kind.ShowUpTo m) (word line keyword.Show ∷ word line keyword.Up ∷ word line keyword.To ∷ digits line (decimal n) ∷ rest) rest) (decimal_value n (omega (arith, high)))
      (IsAsk.up_to line line line line (decimal n) rest (decimal_within 1 100 n low high (omega (arith, high))));
  writable = word_written keyword.Show (token.Keyword keyword.Up ∷ token.Keyword keyword.To ∷ numeral n ∷ []) (word_written keyword.Up (token.Keyword keyword.To ∷ numeral n ∷ []) (word_written keyword.To (numeral n ∷ []) (one_written (numeral n) ([]) (numeral_written n (omega (arith, high))) none_written)));
}

pub ask_again : (what : Kind) (ts rest : Tokens) → IsAsk what ts rest → Known ts → Then (AskSpelt what) rest
ask_again what ts rest (IsAsk.possible h i j _) known = record {
  is = record { reads = λ line rest. IsAsk.possible line line line rest; writable = word_written keyword.Is (token.Keyword keyword.Possible ∷ token.Sign sign_of.Question ∷ []) (word_written keyword.Possible (token.Sign sign_of.Question ∷ []) (sign_written sign_of.Question ([]) none_written)) };
  behind = behind (behind (behind known));
}
ask_again what ts rest (IsAsk.one h i _) known = record {
  is = record { reads = λ line rest. IsAsk.one line line rest; writable = word_written keyword.Show (token.Keyword keyword.One ∷ []) (word_written keyword.One ([]) none_written) };
  behind = behind (behind known);
}
ask_again what ts rest (IsAsk.all h i _) known = record {
  is = record { reads = λ line rest. IsAsk.all line line rest; writable = word_written keyword.Show (token.Keyword keyword.All ∷ []) (word_written keyword.All ([]) none_written) };
  behind = behind (behind known);
}
ask_again what ts rest (IsAsk.full h i _) known = record {
  is = record { reads = λ line rest. IsAsk.full line line rest; writable = word_written keyword.Show (token.Keyword keyword.Full ∷ []) (word_written keyword.Full ([]) none_written) };
  behind = behind (behind known);
}
ask_again what ts rest (IsAsk.realized h i _) known = record {
  is = record { reads = λ line rest. IsAsk.realized line line rest; writable = word_written keyword.Show (token.Keyword keyword.Realized ∷ []) (word_written keyword.Realized ([]) none_written) };
  behind = behind (behind known);
}
ask_again what ts rest (IsAsk.unrealized h i _) known = record {
  is = record { reads = λ line rest. IsAsk.unrealized line line rest; writable = word_written keyword.Show (token.Keyword keyword.Unrealized ∷ []) (word_written keyword.Unrealized ([]) none_written) };
  behind = behind (behind known);
}
ask_again what ts rest (IsAsk.bounds h i _) known = record {
  is = record { reads = λ line rest. IsAsk.bounds line line rest; writable = word_written keyword.Show (token.Keyword keyword.Bounds ∷ []) (word_written keyword.Bounds ([]) none_written) };
  behind = behind (behind known);
}
ask_again what ts rest (IsAsk.proof h i _) known = record {
  is = record { reads = λ line rest. IsAsk.proof line line rest; writable = word_written keyword.Show (token.Keyword keyword.Proof ∷ []) (word_written keyword.Proof ([]) none_written) };
  behind = behind (behind known);
}
ask_again what ts rest (IsAsk.first h i j n _ fits) known =
    record { is = first_spelt (number n) (at_least 1 1000000 n fits) (at_most_high 1 1000000 n fits); behind = behind (behind (behind known)) }
ask_again what ts rest (IsAsk.up_to h i j k n _ fits) known =
    record { is = up_to_spelt (number n) (at_least 1 100 n fits) (at_most_high 1 100 n fits); behind = behind (behind (behind (behind known))) }

-- EXPLORE.

declared_again : (variable : List ℕ × List ℕ) (ts rest : Tokens) → IsDeclared variable ts rest → Known ts → Then (Spelt (IsDeclared variable) (declared variable)) rest
declared_again variable ts rest (IsDeclared.declared h i j text sort _) known = record {
  is = record {
    reads = λ line rest. IsDeclared.declared line line line text sort rest;
    writable = one_written (token.Name text) (token.Sign sign_of.Colon ∷ token.Name sort ∷ []) (known_name known)
        (sign_written sign_of.Colon (token.Name sort ∷ []) (one_written (token.Name sort) [] (known_name (behind (behind known))) none_written));
  };
  behind = behind (behind (behind known));
}

bracketed : (vars : List (List ℕ × List ℕ)) → Each (List ℕ × List ℕ) (λ one. Spelt (IsDeclared one) (declared one)) vars
    → token.Sign sign_of.OpenBracket ∷ (by_commas declared vars ++ token.Sign sign_of.CloseBracket ∷ []) ≡ variables vars
bracketed _ (Each.one one s) = refl
bracketed _ (Each.more one second more s each) = refl

vars_spelt : (vars : List (List ℕ × List ℕ)) → Each (List ℕ × List ℕ) (λ one. Spelt (IsDeclared one) (declared one)) vars → Spelt (AreDeclared vars) (variables vars)
vars_spelt vars each =
    let chain = chains_spelt (List ℕ × List ℕ) comma declared IsDeclared (sign_writable sign_of.Comma) vars each in
    let inner : List Token = by_commas declared vars in
    subst (λ (ts : List Token). Spelt (AreDeclared vars) ts) (bracketed vars each) (record {
      reads = λ line rest.
          AreDeclared.some line line vars (laid line (inner ++ token.Sign sign_of.CloseBracket ∷ []) rest) rest
          (both_laid (λ (l : Tokens). IsChain (List ℕ × List ℕ) comma IsDeclared vars l (sign line sign_of.CloseBracket ∷ rest)) line inner (token.Sign sign_of.CloseBracket ∷ []) rest
          (chain.reads line (sign line sign_of.CloseBracket ∷ rest)));
      writable = sign_written sign_of.OpenBracket (inner ++ token.Sign sign_of.CloseBracket ∷ [])
          (both_written inner (token.Sign sign_of.CloseBracket ∷ []) chain.writable (sign_written sign_of.CloseBracket [] none_written));
    })

vars_again : (vars : List (List ℕ × List ℕ)) (ts rest : Tokens) → AreDeclared vars ts rest → Known ts → Then (Spelt (AreDeclared vars) (variables vars)) rest
vars_again vars ts rest (AreDeclared.none _) known = record { is = record { reads = λ line rest. AreDeclared.none rest; writable = none_written }; behind = known }
vars_again vars ts rest (AreDeclared.some h i _ tokens _ chain) known =
    let a = chain_again (List ℕ × List ℕ) comma declared IsDeclared declared_again vars tokens (sign i sign_of.CloseBracket ∷ rest) chain (behind known) in
    record { is = vars_spelt vars a.is; behind = behind a.behind }

abbrev one_name : List ℕ → List Token
one_name text = token.Name text ∷ []

name_again : (text : List ℕ) (ts rest : Tokens) → IsName text ts rest → Known ts → Then (Spelt (IsName text) (one_name text)) rest
name_again text ts rest (IsName.plain line _ _) known = record {
  is = record { reads = λ line rest. IsName.plain line text rest; writable = one_written (token.Name text) [] (known_name known) none_written };
  behind = behind known;
}

under_names : (names : List (List ℕ)) → Each (List ℕ) (λ text. Spelt (IsName text) (one_name text)) names → token.Keyword keyword.Under ∷ by_commas one_name names ≡ under names
under_names _ (Each.one one s) = refl
under_names _ (Each.more one second more s each) = refl

names_spelt : (names : List (List ℕ)) → Each (List ℕ) (λ text. Spelt (IsName text) (one_name text)) names → Spelt (AreUnder names) (under names)
names_spelt names each =
    let chain = chains_spelt (List ℕ) comma one_name IsName (sign_writable sign_of.Comma) names each in
    subst (λ (ts : List Token). Spelt (AreUnder names) ts) (under_names names each) (record {
      reads = λ line rest. AreUnder.some line names (laid line (by_commas one_name names) rest) rest (chain.reads line rest);
      writable = word_written keyword.Under (by_commas one_name names) chain.writable;
    })

under_again : (names : List (List ℕ)) (ts rest : Tokens) → AreUnder names ts rest → Known ts → Then (Spelt (AreUnder names) (under names)) rest
under_again names ts rest (AreUnder.none _) known = record { is = record { reads = λ line rest. AreUnder.none rest; writable = none_written }; behind = known }
under_again names ts rest (AreUnder.some line _ tokens _ chain) known =
    let a = chain_again (List ℕ) comma one_name IsName name_again names tokens rest chain (behind known) in
    record { is = names_spelt names a.is; behind = a.behind }

whole_atom : (v : Named) → AtomAgain 0 v → Spelt (IsAtom strict 0 v) (formula v)
whole_atom v a =
    subst (λ (ts : List Token). Spelt (IsAtom strict 0 v) ts) (sym (ap (λ w. w.tokens) a.whole))
    (record { reads = λ line rest. a.spelt.reads line rest 0 (omega arith); writable = a.spelt.writable })

shown_again : (v : Named) (ts rest : Tokens) → IsAtom strict 0 v ts rest → Known ts → Then (Spelt (IsAtom strict 0 v) (formula v)) rest
shown_again v ts rest is known = let a = atom_again 0 v ts rest is known in record { is = whole_atom v a.is; behind = a.behind }

included_atoms : (atoms : List Named) → Each Named (λ v. Spelt (IsAtom strict 0 v) (formula v)) atoms → token.Keyword keyword.Include ∷ by_commas formula atoms ≡ included atoms
included_atoms _ (Each.one one s) = refl
included_atoms _ (Each.more one second more s each) = refl

atoms_spelt : (atoms : List Named) → Each Named (λ v. Spelt (IsAtom strict 0 v) (formula v)) atoms → Spelt (AreIncluded strict atoms) (included atoms)
atoms_spelt atoms each =
    let chain = chains_spelt Named comma formula (IsAtom strict 0) (sign_writable sign_of.Comma) atoms each in
    subst (λ (ts : List Token). Spelt (AreIncluded strict atoms) ts) (included_atoms atoms each) (record {
      reads = λ line rest. AreIncluded.some line atoms (laid line (by_commas formula atoms) rest) rest (chain.reads line rest);
      writable = word_written keyword.Include (by_commas formula atoms) chain.writable;
    })

included_again : (atoms : List Named) (ts rest : Tokens) → AreIncluded strict atoms ts rest → Known ts → Then (Spelt (AreIncluded strict atoms) (included atoms)) rest
included_again atoms ts rest (AreIncluded.none _) known = record { is = record { reads = λ line rest. AreIncluded.none rest; writable = none_written }; behind = known }
included_again atoms ts rest (AreIncluded.some line _ tokens _ chain) known =
    let a = chain_again Named comma formula (IsAtom strict 0) shown_again atoms tokens rest chain (behind known) in
    record { is = atoms_spelt atoms a.is; behind = a.behind }

abbrev question : List (List ℕ × List ℕ) → Named → List (List ℕ) → List Named → Explore
question vars whole names atoms = record { vars = vars; formula = whole; under = names; include = atoms }

question_spelt : (vars : List (List ℕ × List ℕ)) (whole : Named) (names : List (List ℕ)) (atoms : List Named)
    → Spelt (AreDeclared vars) (variables vars) → Spelt (λ ts rest. (all : List Named) × (whole ≡ equivalence all) × IsEquivalence strict 0 all ts rest) (formula whole)
    → Spelt (AreUnder names) (under names) → Spelt (AreIncluded strict atoms) (included atoms)
    → Spelt (IsExplore strict (question vars whole names atoms)) (explore (question vars whole names atoms))
question_spelt vars whole names atoms v f u i = record {
  reads = λ line rest.
      let d : Tokens = laid line (included atoms) rest in
      let c : Tokens = laid line (under names) d in
      let b : Tokens = laid line (formula whole) c in
      let a : Tokens = laid line (variables vars) b in
      let e = f.reads line c in
      both_laid (λ (l : Tokens). IsExplore strict (question vars whole names atoms) (word line keyword.Explore ∷ l) rest) line (variables vars) (formula whole ++ (under names ++ included atoms)) rest
      (both_laid (λ (l : Tokens). IsExplore strict (question vars whole names atoms) (word line keyword.Explore ∷ laid line (variables vars) l) rest) line (formula whole) (under names ++ included atoms) rest
      (both_laid (λ (l : Tokens). IsExplore strict (question vars whole names atoms) (word line keyword.Explore ∷ laid line (variables vars) (laid line (formula whole) l)) rest) line (under names) (included atoms) rest
      (subst (λ (w : Named). IsExplore strict (question vars w names atoms) (word line keyword.Explore ∷ a) rest) (sym e.1)
      (IsExplore.explore line vars e.0 names atoms a b c d rest (v.reads line b) e.2 (u.reads line d) (i.reads line rest)))));
  writable =
      word_written keyword.Explore (variables vars ++ (formula whole ++ (under names ++ included atoms)))
      (both_written (variables vars) (formula whole ++ (under names ++ included atoms)) v.writable
      (both_written (formula whole) (under names ++ included atoms) f.writable (both_written (under names) (included atoms) u.writable i.writable)));
}

pub explore_again : (what : Explore) (ts rest : Tokens) → IsExplore strict what ts rest → Known ts → Then (Spelt (IsExplore strict what) (explore what)) rest
explore_again what ts rest (IsExplore.explore line vars parts names atoms a b c d _ first is third last) known =
    let v = vars_again vars a b first (behind known) in
    let f = equivalence_again 0 parts b c is v.behind in
    let u = under_again names c d third f.behind in
    let i = included_again atoms d rest last u.behind in
    record { is = question_spelt vars (equivalence parts) names atoms v.is (formula_spelt (equivalence parts) parts refl f.is) u.is i.is; behind = i.behind }

-- Other statements.

field_tokens : (field : List ℕ) (test : NumberTest) → token.Name field ∷ token.Keyword keyword.In ∷ test_tokens test ≡ field_test (field_tested field test)
field_tokens field (NumberTest.masked v w) = refl
field_tokens field (NumberTest.range lo hi) = refl

field_spelt : (field : List ℕ) (test : NumberTest) → IsWritable (token.Name field) → Spelt (IsNumberTest test) (test_tokens test) → Spelt (IsFieldTest (field_tested field test)) (field_test (field_tested field test))
field_spelt field test is s =
    subst (λ (ts : List Token). Spelt (IsFieldTest (field_tested field test)) ts) (field_tokens field test) (record {
      reads = λ line rest. IsFieldTest.field_test line line field test (laid line (test_tokens test) rest) rest (s.reads line rest);
      writable = one_written (token.Name field) (token.Keyword keyword.In ∷ test_tokens test) is (word_written keyword.In (test_tokens test) s.writable);
    })

field_again : (one : NamedTest) (ts rest : Tokens) → IsFieldTest one ts rest → Known ts → Then (Spelt (IsFieldTest one) (field_test one)) rest
field_again one ts rest (IsFieldTest.field_test i j field test tokens _ is) known =
    let a = test_again test tokens rest is (behind (behind known)) in
    record { is = field_spelt field test (known_name known) a.is; behind = a.behind }

abbrev one_literal : Literal → List Token
one_literal v = literal v ∷ []

abbrev CommandSpelt : Kind → Type 0
CommandSpelt what = Spelt (IsCommand what) (statement what)

compare_spelt : (left right : Path) → Spelt (IsPath left) (path left) → Spelt (IsPath right) (path right) → CommandSpelt (kind.Compare left right)
compare_spelt left right a b = record {
  reads = λ line rest.
      let back : Tokens = laid line (path right) rest in
      both_laid (λ (l : Tokens). IsCommand (kind.Compare left right) (word line keyword.Compare ∷ l) rest) line (path left) (path right) rest
      (IsCommand.compare line left right (laid line (path left) back) back rest (a.reads line back) (b.reads line rest));
  writable = word_written keyword.Compare (path left ++ path right) (both_written (path left) (path right) a.writable b.writable);
}

decide_spelt : (list : Path) (packet : List Literal) → Spelt (IsPath list) (path list) → Each Literal (λ v. Spelt (IsLiteral v) (one_literal v)) packet → CommandSpelt (kind.Decide list packet)
decide_spelt list packet a each =
    let chain = chains_spelt Literal comma one_literal IsLiteral (sign_writable sign_of.Comma) packet each in
    let inner : List Token = by_commas one_literal packet in
    record {
      reads = λ line rest.
          let tokens : Tokens = laid line (inner ++ token.Sign sign_of.Close ∷ []) rest in
          both_laid (λ (l : Tokens). IsCommand (kind.Decide list packet) (word line keyword.Decide ∷ l) rest) line (path list) (enclosed inner) rest
          (IsCommand.decide line line line list packet (laid line (path list) (sign line sign_of.Open ∷ tokens)) tokens rest (a.reads line (sign line sign_of.Open ∷ tokens))
          (both_laid (λ (l : Tokens). IsChain Literal comma IsLiteral packet l (sign line sign_of.Close ∷ rest)) line inner (token.Sign sign_of.Close ∷ []) rest (chain.reads line (sign line sign_of.Close ∷ rest))));
      writable = word_written keyword.Decide (path list ++ enclosed inner) (both_written (path list) (enclosed inner) a.writable
          (sign_written sign_of.Open (inner ++ token.Sign sign_of.Close ∷ []) (both_written inner (token.Sign sign_of.Close ∷ []) chain.writable (sign_written sign_of.Close [] none_written))));
    }

generate_spelt : (n seed : ℕ) (text : List ℕ) → 1 ≤ n → n ≤ 5000 → seed ≤ 2 ^ 31 - 1 → IsWritable (token.Name text) → CommandSpelt (kind.Generate n seed text)
generate_spelt n seed text low high small is = record {
  reads = λ line rest.
      let tokens : Tokens = word line keyword.Generate ∷ digits line (decimal n) ∷ digits line (decimal seed) ∷ word line keyword.As ∷ name line text ∷ rest in
      subst (λ (m : ℕ). IsCommand (kind.Generate m seed text) tokens rest) (decimal_value n (omega (arith, high)))
      (subst (λ (m : ℕ). IsCommand (kind.Generate (number (decimal n)) m text) tokens rest) (decimal_value seed (omega (arith, small)))
      (IsCommand.generate line line line line line (decimal n) (decimal seed) text rest (decimal_within 1 5000 n low high (omega (arith, high))) (decimal_within 0 (2 ^ 31 - 1) seed (omega arith) small (omega (arith, small)))));
  writable = word_written keyword.Generate (numeral n ∷ numeral seed ∷ token.Keyword keyword.As ∷ token.Name text ∷ []) (one_written (numeral n) (numeral seed ∷ token.Keyword keyword.As ∷ token.Name text ∷ []) (numeral_written n (omega (arith, high))) (one_written (numeral seed) (token.Keyword keyword.As ∷ token.Name text ∷ []) (numeral_written seed (omega (arith, small))) (word_written keyword.As (token.Name text ∷ []) (one_written (token.Name text) ([]) is none_written))));
}

paths_spelt : (from from_interface to to_interface : List ℕ) (n : ℕ) → 1 ≤ n → n ≤ 8 → IsWritable (token.Name from) → IsWritable (token.Quoted from_interface) → IsWritable (token.Name to) → IsWritable (token.Quoted to_interface)
    → CommandSpelt (kind.Paths from from_interface to to_interface n)
paths_spelt from from_interface to to_interface n low high a b c d = record {
  reads = λ line rest.
      subst (λ (m : ℕ). IsCommand (kind.Paths from from_interface to to_interface m)
      (word line keyword.Path ∷ name line from ∷ quoted line from_interface ∷ word line keyword.To ∷ name line to ∷ quoted line to_interface ∷ word line keyword.Within ∷ digits line (decimal n) ∷ rest) rest)
      (decimal_value n (omega (arith, high)))
      (IsCommand.path line line line line line line line line from from_interface to to_interface (decimal n) rest (decimal_within 1 8 n low high (omega (arith, high))));
  writable = word_written keyword.Path (token.Name from ∷ token.Quoted from_interface ∷ token.Keyword keyword.To ∷ token.Name to ∷ token.Quoted to_interface ∷ token.Keyword keyword.Within ∷ numeral n ∷ []) (one_written (token.Name from) (token.Quoted from_interface ∷ token.Keyword keyword.To ∷ token.Name to ∷ token.Quoted to_interface ∷ token.Keyword keyword.Within ∷ numeral n ∷ []) a (one_written (token.Quoted from_interface) (token.Keyword keyword.To ∷ token.Name to ∷ token.Quoted to_interface ∷ token.Keyword keyword.Within ∷ numeral n ∷ []) b (word_written keyword.To (token.Name to ∷ token.Quoted to_interface ∷ token.Keyword keyword.Within ∷ numeral n ∷ []) (one_written (token.Name to) (token.Quoted to_interface ∷ token.Keyword keyword.Within ∷ numeral n ∷ []) c (one_written (token.Quoted to_interface) (token.Keyword keyword.Within ∷ numeral n ∷ []) d (word_written keyword.Within (numeral n ∷ []) (one_written (numeral n) ([]) (numeral_written n (omega (arith, high))) none_written)))))));
}

core_spelt : (list : Path) (verdict : List ℕ) (tests : List NamedTest) → Spelt (IsPath list) (path list) → IsWritable (token.Name verdict) → Each NamedTest (λ one. Spelt (IsFieldTest one) (field_test one)) tests
    → CommandSpelt (kind.Core list verdict tests)
core_spelt list verdict tests a is each =
    let chain = chains_spelt NamedTest comma field_test IsFieldTest (sign_writable sign_of.Comma) tests each in
    let inner : List Token = by_commas field_test tests in
    record {
      reads = λ line rest.
          let back : Tokens = laid line inner rest in
          let front : Tokens = sign line sign_of.Colon ∷ name line verdict ∷ word line keyword.Where ∷ back in
          both_laid (λ (l : Tokens). IsCommand (kind.Core list verdict tests) (word line keyword.Core ∷ l) rest) line (path list) (token.Sign sign_of.Colon ∷ token.Name verdict ∷ token.Keyword keyword.Where ∷ inner) rest
          (IsCommand.core line line line line list verdict tests (laid line (path list) front) back rest (a.reads line front) (chain.reads line rest));
      writable = word_written keyword.Core (path list ++ token.Sign sign_of.Colon ∷ token.Name verdict ∷ token.Keyword keyword.Where ∷ inner)
          (both_written (path list) (token.Sign sign_of.Colon ∷ token.Name verdict ∷ token.Keyword keyword.Where ∷ inner) a.writable
          (sign_written sign_of.Colon (token.Name verdict ∷ token.Keyword keyword.Where ∷ inner) (one_written (token.Name verdict) (token.Keyword keyword.Where ∷ inner) is (word_written keyword.Where (inner) chain.writable))));
    }

pub command_again : (what : Kind) (ts rest : Tokens) → IsCommand what ts rest → Known ts → Then (CommandSpelt what) rest
command_again what ts rest (IsCommand.load_vocab h i j file _) known = record {
  is = record {
    reads = λ line rest. IsCommand.load_vocab line line line file rest;
    writable = word_written keyword.Load (token.Keyword keyword.Vocab ∷ token.Quoted file ∷ []) (word_written keyword.Vocab (token.Quoted file ∷ []) (one_written (token.Quoted file) ([]) (known_quoted (behind (behind known))) none_written));
  };
  behind = behind (behind (behind known));
}
command_again what ts rest (IsCommand.load_policy h i j file _) known = record {
  is = record {
    reads = λ line rest. IsCommand.load_policy line line line file rest;
    writable = word_written keyword.Load (token.Keyword keyword.Policy ∷ token.Quoted file ∷ []) (word_written keyword.Policy (token.Quoted file ∷ []) (one_written (token.Quoted file) ([]) (known_quoted (behind (behind known))) none_written));
  };
  behind = behind (behind (behind known));
}
command_again what ts rest (IsCommand.load_ios h i j k l file text _) known = record {
  is = record {
    reads = λ line rest. IsCommand.load_ios line line line line line file text rest;
    writable = word_written keyword.Load (token.Keyword keyword.Ios ∷ token.Quoted file ∷ token.Keyword keyword.As ∷ token.Name text ∷ []) (word_written keyword.Ios (token.Quoted file ∷ token.Keyword keyword.As ∷ token.Name text ∷ []) (one_written (token.Quoted file) (token.Keyword keyword.As ∷ token.Name text ∷ []) (known_quoted (behind (behind known))) (word_written keyword.As (token.Name text ∷ []) (one_written (token.Name text) ([]) (known_name (behind (behind (behind (behind known))))) none_written))));
  };
  behind = behind (behind (behind (behind (behind known))));
}
command_again what ts rest (IsCommand.load_iptables h i j k l file text _) known = record {
  is = record {
    reads = λ line rest. IsCommand.load_iptables line line line line line file text rest;
    writable = word_written keyword.Load (token.Keyword keyword.Iptables ∷ token.Quoted file ∷ token.Keyword keyword.As ∷ token.Name text ∷ []) (word_written keyword.Iptables (token.Quoted file ∷ token.Keyword keyword.As ∷ token.Name text ∷ []) (one_written (token.Quoted file) (token.Keyword keyword.As ∷ token.Name text ∷ []) (known_quoted (behind (behind known))) (word_written keyword.As (token.Name text ∷ []) (one_written (token.Name text) ([]) (known_name (behind (behind (behind (behind known))))) none_written))));
  };
  behind = behind (behind (behind (behind (behind known))));
}
command_again what ts rest (IsCommand.compare line left right tokens others _ is more) known =
    let a = path_again left tokens others is (behind known) in
    let b = path_again right others rest more a.behind in
    record { is = compare_spelt left right a.is b.is; behind = b.behind }
command_again what ts rest (IsCommand.decide h i j list packet tokens others _ is chain) known =
    let a = path_again list tokens (sign i sign_of.Open ∷ others) is (behind known) in
    let b = chain_again Literal comma one_literal IsLiteral literal_again packet others (sign j sign_of.Close ∷ rest) chain (behind a.behind) in
    record { is = decide_spelt list packet a.is b.is; behind = behind b.behind }
command_again what ts rest (IsCommand.generate h i j k l n seed text _ fits small) known =
    record { is = generate_spelt (number n) (number seed) text (at_least 1 5000 n fits) (at_most_high 1 5000 n fits) (at_most_high 0 (2 ^ 31 - 1) seed small) (known_name (behind (behind (behind (behind known))))); behind = (behind (behind (behind (behind (behind known))))) }
command_again what ts rest (IsCommand.link h i j k l m from from_interface to to_interface _) known = record {
  is = record {
    reads = λ line rest. IsCommand.link line line line line line line from from_interface to to_interface rest;
    writable = word_written keyword.Link (token.Name from ∷ token.Quoted from_interface ∷ token.Keyword keyword.To ∷ token.Name to ∷ token.Quoted to_interface ∷ []) (one_written (token.Name from) (token.Quoted from_interface ∷ token.Keyword keyword.To ∷ token.Name to ∷ token.Quoted to_interface ∷ []) (known_name (behind known)) (one_written (token.Quoted from_interface) (token.Keyword keyword.To ∷ token.Name to ∷ token.Quoted to_interface ∷ []) (known_quoted (behind (behind known))) (word_written keyword.To (token.Name to ∷ token.Quoted to_interface ∷ []) (one_written (token.Name to) (token.Quoted to_interface ∷ []) (known_name (behind (behind (behind (behind known))))) (one_written (token.Quoted to_interface) ([]) (known_quoted (behind (behind (behind (behind (behind known)))))) none_written)))));
  };
  behind = (behind (behind (behind (behind (behind (behind known))))));
}
command_again what ts rest (IsCommand.path h i j k l m n o from from_interface to to_interface within _ fits) known = record {
  is = paths_spelt from from_interface to to_interface (number within) (at_least 1 8 within fits) (at_most_high 1 8 within fits)
      (known_name (behind known)) (known_quoted (behind (behind known))) (known_name (behind (behind (behind (behind known))))) (known_quoted (behind (behind (behind (behind (behind known))))));
  behind = (behind (behind (behind (behind (behind (behind (behind (behind known))))))));
}
command_again what ts rest (IsCommand.audit line list tokens _ is) known =
    let a = path_again list tokens rest is (behind known) in
    record {
      is = record { reads = λ line rest. IsCommand.audit line list (laid line (path list) rest) rest (a.is.reads line rest); writable = word_written keyword.Audit (path list) a.is.writable };
      behind = a.behind;
    }
command_again what ts rest (IsCommand.core h i j k list verdict tests tokens others _ is chain) known =
    let a = path_again list tokens (sign i sign_of.Colon ∷ name j verdict ∷ word k keyword.Where ∷ others) is (behind known) in
    let b = chain_again NamedTest comma field_test IsFieldTest field_again tests others rest chain (behind (behind (behind a.behind))) in
    record { is = core_spelt list verdict tests a.is (known_name (behind a.behind)) b.is; behind = b.behind }
