use Rattle.std.proofs.Common.{◌≡◌, None, ap, ◌∙◌, length, rules}
use Rattle.ios_acl.specs.Block.{empty_list}
use Rattle.ios_lists.specs.Lists.{kind_named, with_list}
use Rattle.ios_lists.proofs.Found.{found, not_found}
use Rattle.ios_lists.proofs.Growing.{begun_found, begun_new}
use Rattle.ios_lists.proofs.lists.Lists.begin.Goals as goal

pub returns-in-Some-clause-begun : goal.returns-in-Some-clause-begun
returns-in-Some-clause-begun c =
    rw (← c.self.view_is)
    (begun_found c.self.inside.lists.items c.args.name.now c.args.extended c.in-Some.place
    (found c.self.inside.lists.items c.self.inside.index c.args.name.now c.in-Some.place c.self.invariant (rw c.bytes.ensures at c.in-Some.ensures.place)))

pub push-requires : goal.push-requires
push-requires c =
    rw (c.new-list.ensures, c.in_ok-copy.ensures, ← c.self.view_is)
    (not_found c.self.inside.lists.items c.self.inside.index c.args.name.now c.self.invariant (rw c.bytes.ensures at c.in_default.ensures.place))

pub returns-clause-begun : goal.returns-clause-begun
returns-clause-begun c =
    let list : c.new-list.result ≡ empty_list c.args.name.now c.args.extended = c.new-list.ensures ∙ ap (λ n. empty_list n c.args.extended) c.in_ok-copy.ensures in
    let none : kind_named c.args.self.now c.args.name.now ≡ None =
    rw (← c.self.view_is) (not_found c.self.inside.lists.items c.self.inside.index c.args.name.now c.self.invariant (rw c.bytes.ensures at c.in_default.ensures.place)) in
    let end : c.len-place.result ≡ length c.args.self.now = rw (← c.self.view_is) (search rules) in
    begun_new c.args.self.now c.push.new.self c.args.name.now c.args.extended c.len-place.result none (c.in_ok-push.ensures.pushed ∙ ap (with_list c.args.self.now) list)
    end
