use Rattle.std.proofs.Common.{◌≡◌, [], ◌∷◌, ◌++◌, drop, take, length, ap, sym, ◌∙◌, rules}
use Rattle.std.specs.Map.{lookup}
use Rattle.ios_route.proofs.FirstEntries.{drop_before_last, found_first, take_before_last}
use Rattle.ios_route.proofs.first.first_of_each.Goals as goal

pub loop-key-preserved : goal.loop-key-preserved
loop-key-preserved g c =
    let entries = c.args.entries.now in
    let others = c.in-Some.others.now in
    let n = length c.loop-key.rest.now in
    let whole : c.loop-key.rest.now ≡ others ++ c.in-Some.field-0-0.now ∷ [] = search rules in
    let taken : take n entries ≡ others ++ c.in-Some.field-0-0.now ∷ [] = sym c.loop-key.invariant.1 ∙ whole in (
      λ q. c.in_ok-insert.ensures.updates.0 q
          ∙ found_first g.K.PartialEq.eq g.met.K.Eq.laws q c.in-Some.field-0-0.now.0 c.in-Some.field-0-0.now.1 _ (drop n entries) (c.loop-key.invariant.0 q)
          ∙ ap (lookup (g.K.PartialEq.eq q)) (sym (drop_before_last n entries others c.in-Some.field-0-0.now taken)),
      take_before_last n entries others c.in-Some.field-0-0.now taken,
    )
