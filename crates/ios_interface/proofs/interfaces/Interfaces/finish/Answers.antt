use Rattle.std.proofs.Common.{◌≡◌, map, map-id, rules}
use Rattle.std.proofs.lemmas.Iterator.Adapters.{YieldsList-from_vec}
use Rattle.std.proofs.lemmas.Iterator.Consumers.{YieldsList-end}
use Rattle.ios_interface.specs.Block.{interface_of}
use Rattle.ios_interface.proofs.InterfaceNumbers.{made_few, made_names, made_numbers}
use Rattle.ios_interface.proofs.interfaces.Interfaces.finish.Goals as goal

pub returns-clause-numbers : goal.returns-clause-numbers
returns-clause-numbers c =
    let end = YieldsList-end (YieldsList-from_vec {s = c.into_iter-draft-iterator.result} c.self.inside.drafts.items (search rules) (search rules))
    c.loop-draft.yielded c.loop-draft.draft-iterator c.loop-draft.yielded_by c.next.result c.next.new.self c.in-None.is c.next.ensures.steps in
    let made : c.loop-draft.all.items ≡ map interface_of c.self.inside.drafts.items = rw (← end.0, map-id) c.loop-draft.invariant.made in
    rw (← c.self.view_is) (made_numbers c.self.inside.known.now c.self.inside.drafts.items c.self.inside.index c.self.inside.count c.loop-draft.all.items c.self.invariant made)

pub returns-clause-names : goal.returns-clause-names
returns-clause-names c =
    let end = YieldsList-end (YieldsList-from_vec {s = c.into_iter-draft-iterator.result} c.self.inside.drafts.items (search rules) (search rules))
    c.loop-draft.yielded c.loop-draft.draft-iterator c.loop-draft.yielded_by c.next.result c.next.new.self c.in-None.is c.next.ensures.steps in
    let made : c.loop-draft.all.items ≡ map interface_of c.self.inside.drafts.items = rw (← end.0, map-id) c.loop-draft.invariant.made in
    made_names c.self.inside.known.now c.self.inside.drafts.items c.self.inside.index c.self.inside.count c.loop-draft.all.items c.self.invariant made

pub returns-clause-few : goal.returns-clause-few
returns-clause-few c =
    let end = YieldsList-end (YieldsList-from_vec {s = c.into_iter-draft-iterator.result} c.self.inside.drafts.items (search rules) (search rules))
    c.loop-draft.yielded c.loop-draft.draft-iterator c.loop-draft.yielded_by c.next.result c.next.new.self c.in-None.is c.next.ensures.steps in
    let made : c.loop-draft.all.items ≡ map interface_of c.self.inside.drafts.items = rw (← end.0, map-id) c.loop-draft.invariant.made in
    rw (← c.self.view_is) (made_few c.self.inside.known.now c.self.inside.drafts.items c.self.inside.index c.self.inside.count c.loop-draft.all.items c.self.invariant made)
