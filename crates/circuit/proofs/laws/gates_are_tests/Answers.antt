use Rattle.circuit.proofs.Comparison.{range_test}
use Rattle.circuit.proofs.Extend.{Grows-extends}
use Rattle.circuit.proofs.Pairs.{equal_test}
use Rattle.circuit.proofs.Tests.{gate_test}
use Rattle.circuit.proofs.Wildcard.{masked_test}
use Rattle.circuit.proofs.laws.gates_are_tests.Goals as goal

pub returns-clause-older : goal.returns-clause-older
returns-clause-older c = Grows-extends

pub returns-clause-gate : goal.returns-clause-gate
returns-clause-gate c = λ gates inputs g circuit next other. (gate_test gates g circuit next other).value inputs

pub returns-clause-masked : goal.returns-clause-masked
returns-clause-masked c = λ gates inputs bits wanted wildcard circuit nodes. (masked_test gates bits wanted wildcard circuit nodes).value inputs

pub returns-clause-range : goal.returns-clause-range
returns-clause-range c = λ gates inputs bits lo hi circuit nodes. (range_test gates bits lo hi circuit nodes).value inputs

pub returns-clause-equal : goal.returns-clause-equal
returns-clause-equal c = λ gates inputs a b circuit first second same. (equal_test gates a b circuit first second same).value inputs
