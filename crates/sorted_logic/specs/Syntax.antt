-- Terms and formulas as plain trees. The parts of a term, an AND, an OR or an IFF are a chain, each with those behind it.
use Rattle.std.specs.Prelude.{ℕ}
use Rattle.sorted_logic.specs.declared.formula.Test.{Test}

mutual
  pub data TermTree : Type 0 where
    variable : ℕ → TermTree
    call : ℕ → TermChain → TermTree

  pub data TermChain : Type 0 where
    no_terms : TermChain
    and_term : TermTree → TermChain → TermChain

-- what a formula asks of a set of policies: whether a policy makes a decision, or a rule of it matches, or applies
pub data PolicyAtom : Type 0 where
  decides : ℕ → ℕ → PolicyAtom
  matches : ℕ → ℕ → PolicyAtom
  applies : ℕ → ℕ → PolicyAtom

pub data FormulaTree : Type 0 where
  truth : FormulaTree
  falsity : FormulaTree
  negation : FormulaTree → FormulaTree
  no_conjuncts : FormulaTree
  conjunct : FormulaTree → FormulaTree → FormulaTree
  no_disjuncts : FormulaTree
  disjunct : FormulaTree → FormulaTree → FormulaTree
  implication : FormulaTree → FormulaTree → FormulaTree
  no_equals : FormulaTree
  equals : FormulaTree → FormulaTree → FormulaTree
  for_all : ℕ → FormulaTree → FormulaTree
  there_is : ℕ → FormulaTree → FormulaTree
  same : TermTree → TermTree → FormulaTree
  in_sort : ℕ → TermTree → FormulaTree
  related : ℕ → TermChain → FormulaTree
  number_test : TermTree → Test → FormulaTree
  asks : PolicyAtom → TermChain → FormulaTree
