use Rattle.std.proofs.Common.{◌+◌, ◌*◌, ◌==◌, length, map, sym, ◌∙◌}
use Rattle.circuit.specs.Gates.{with_equal}
use Rattle.circuit.specs.Number.{number}
use Rattle.circuit.specs.Sharing.{made}
use Rattle.circuit.specs.Value.{value}
use Rattle.circuit.proofs.Extend.{Grows-extends}
use Rattle.circuit.proofs.Pairs.{equal_test, equal_lists}
use Rattle.circuit.proofs.Tests.{IsTest, test_at}
use Rattle.circuit.proofs.circuit.Circuit.equal.Goals as goal
use Rattle.circuit.proofs.circuit.Circuit.equal.Goals.{In-Ok}

test : (c : In-Ok) → IsTest c.args.self.now (made c.add_equal.new.circuit c.in-Ok.node) (2 * length c.args.a.now + 1)
    (λ inputs. number (map (value c.args.self.now inputs) c.args.a.now) == number (map (value c.args.self.now inputs) c.args.b.now))
test c =
    test_at c.args.self.now (made c.add_equal.new.circuit c.in-Ok.node) (with_equal c.args.self.now c.args.a.now c.args.b.now) (2 * length c.args.a.now + 1) _ c.in-Ok.ensures.made
    (equal_test c.args.self.now c.args.a.now c.args.b.now c.nodes-before.ensures.circuit c.requires.first c.requires.second c.requires.same)

pub returns-in-Ok-clause-within : goal.returns-in-Ok-clause-within
returns-in-Ok-clause-within c = (test c).within

pub returns-in-Ok-clause-value : goal.returns-in-Ok-clause-value
returns-in-Ok-clause-value c = (test c).value

pub returns-in-Ok-clause-same : goal.returns-in-Ok-clause-same
returns-in-Ok-clause-same c = λ inputs.
    let lists = equal_lists (value c.args.self.now inputs) c.args.a.now c.args.b.now c.requires.same in
    (λ t. lists.0 (sym ((test c).value inputs) ∙ t), λ same. (test c).value inputs ∙ lists.1 same)

pub returns-in-Ok-clause-few : goal.returns-in-Ok-clause-few
returns-in-Ok-clause-few c = (test c).few

pub returns-in-Ok-clause-older : goal.returns-in-Ok-clause-older
returns-in-Ok-clause-older c = Grows-extends _ _ c.in-Ok.ensures.grown
