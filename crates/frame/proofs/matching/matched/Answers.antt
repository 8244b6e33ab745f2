use Rattle.std.proofs.Common.{◌≡◌, ◌∙◌, ◌∷◌, [], rules, length, ap, sym}
use Rattle.ios_acl.specs.Matching.{matches}
use Rattle.frame.specs.Meaning.{AllMean, Narrows}
use Rattle.frame.proofs.Narrowing.{all_adds, all_mean, narrows_to_match, only_adds, only_one}
use Rattle.frame.proofs.matching.matched.Goals as goal

pub returns-then-len-eq1 : goal.returns-then-len-eq1
returns-then-len-eq1 c =
    let narrows : Narrows c.args.circuit.now c.narrow_to_established.new.circuit c.new-parts.result.items c.narrow_to_established.new.parts.items (matches c.args.entry.now) =
    narrows_to_match c.args.entry.now c.in_ok-narrow_to_number.ensures c.in_ok-narrow_to_place.ensures c.in_ok-narrow_to_place-2.ensures c.in_ok-narrow_to_ports.ensures c.in_ok-narrow_to_ports-2.ensures c.in_ok-narrow_to_message.ensures c.in_ok-narrow_to_established.ensures in
    let long : length c.narrow_to_established.new.parts.items ≡ 1 = search rules in
    only_adds _ _ c.narrow_to_established.new.parts.items _ _ narrows.older (all_mean _ _ _ _ _ c.new-parts.ensures.items narrows) (only_one c.narrow_to_established.new.parts.items c.index.result.now long ∙ ap (λ node. node ∷ []) (sym c.index.ensures))

pub and-requires : goal.and-requires
and-requires c =
    let narrows : Narrows c.args.circuit.now c.narrow_to_established.new.circuit c.new-parts.result.items c.narrow_to_established.new.parts.items (matches c.args.entry.now) =
    narrows_to_match c.args.entry.now c.in_ok-narrow_to_number.ensures c.in_ok-narrow_to_place.ensures c.in_ok-narrow_to_place-2.ensures c.in_ok-narrow_to_ports.ensures c.in_ok-narrow_to_ports-2.ensures c.in_ok-narrow_to_message.ensures c.in_ok-narrow_to_established.ensures in
    let all : AllMean c.narrow_to_established.new.circuit c.narrow_to_established.new.parts.items (matches c.args.entry.now) = all_mean _ _ _ _ _ c.new-parts.ensures.items narrows in
    rw c.as_slice.ensures.value all.within

pub returns : goal.returns
returns c =
    let narrows : Narrows c.args.circuit.now c.narrow_to_established.new.circuit c.new-parts.result.items c.narrow_to_established.new.parts.items (matches c.args.entry.now) =
    narrows_to_match c.args.entry.now c.in_ok-narrow_to_number.ensures c.in_ok-narrow_to_place.ensures c.in_ok-narrow_to_place-2.ensures c.in_ok-narrow_to_ports.ensures c.in_ok-narrow_to_ports-2.ensures c.in_ok-narrow_to_message.ensures c.in_ok-narrow_to_established.ensures in
    let all : AllMean c.narrow_to_established.new.circuit c.narrow_to_established.new.parts.items (matches c.args.entry.now) = all_mean _ _ _ _ _ c.new-parts.ensures.items narrows in
    all_adds c.and.result _ _ _ _ _ narrows.older (rw c.as_slice.ensures.value all) c.and.ensures.older c.and.ensures.node c.and.ensures.value
