use Rattle.std.proofs.Common.{◌≡◌, ◌<◌, ◌+◌, None, ◌++◌, ◌∷◌, [], inl, inr, refl, rules, arith}
use Rattle.ios_names.specs.Names.{most_names, with_name}
use Rattle.ios_interface.specs.Block.{no_lines}
use Rattle.ios_interface.specs.Interfaces.{block_named, number_of}
use Rattle.ios_interface.proofs.InterfaceNumbers.{kept_begun}
use Rattle.ios_interface.proofs.interfaces.Interfaces.begin.Goals as goal

pub invariant_of-self-then-from-self : goal.invariant_of-self-then-from-self
invariant_of-self-then-from-self c =
    let absent : block_named c.self.inside.drafts.items c.args.name.now ≡ None = rw (← c.self.view_is) at c.requires.absent in
    let is : c.args.number ≡ number_of c.self.inside.known.now c.self.inside.drafts.items c.args.name.now = rw (← c.self.view_is) at c.requires.number in
    let pushed : c.push.new.self.items ≡ c.self.inside.drafts.items ++ no_lines c.args.name.now c.args.number ∷ [] = search rules in
    let below : c.args.number < most_names = omega arith in
    let named : c.add.new.self ≡ with_name c.self.inside.index c.args.name.now = search rules in
    let last : c.args.number ≡ c.self.inside.count = search rules in
    rw pushed (kept_begun c.self.inside.known.now c.self.inside.drafts.items c.self.inside.index c.add.new.self c.self.inside.count (c.self.inside.count + 1) c.args.name.now c.args.number c.self.invariant absent is below named
    (λ _. refl) (λ other. absurd (other last)) (inl last))

pub invariant_of-self-else-from-self : goal.invariant_of-self-else-from-self
invariant_of-self-else-from-self c =
    let absent : block_named c.self.inside.drafts.items c.args.name.now ≡ None = rw (← c.self.view_is) at c.requires.absent in
    let is : c.args.number ≡ number_of c.self.inside.known.now c.self.inside.drafts.items c.args.name.now = rw (← c.self.view_is) at c.requires.number in
    let pushed : c.push.new.self.items ≡ c.self.inside.drafts.items ++ no_lines c.args.name.now c.args.number ∷ [] = search rules in
    let below : c.args.number < most_names = omega arith in
    let named : c.add.new.self ≡ with_name c.self.inside.index c.args.name.now = search rules in
    let other : c.args.number ≡ c.self.inside.count → ⊥ = search rules in
    rw pushed (kept_begun c.self.inside.known.now c.self.inside.drafts.items c.self.inside.index c.add.new.self c.self.inside.count c.self.inside.count c.args.name.now c.args.number c.self.invariant absent is below named
    (λ last. absurd (other last)) (λ _. refl) (inr other))
