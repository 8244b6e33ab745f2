use Rattle.std.proofs.Common.{◌≡◌, ◌++◌, ◌∷◌, [], rules}
use Rattle.std.proofs.lemmas.Result.{err_from_is_err_and}
use Rattle.ios_config.proofs.Taken.{route_fault, routed}
use Rattle.ios_config.proofs.draft.Draft.take_route.Goals as goal

pub returns-in_err-route-clause-refused : goal.returns-in_err-route-clause-refused
returns-in_err-route-clause-refused c =
    let p = err_from_is_err_and c.from_residual.result c.from_residual.ensures.1 in
    rw (p.1, p.2) (λ words. route_fault c.args.self.now c.args.rest.now words c.in_err-route.field-0.0 c.in_err-route.ensures.refused)

pub returns-clause-taken : goal.returns-clause-taken
returns-clause-taken c words =
    let items : c.push.new.self.items ≡ c.self.inside.routes.items ++ c.in_ok-route.route ∷ [] = search rules in
    rw (items, ← c.self.view_is)
    (routed c.self.inside.lists c.self.inside.interfaces c.self.inside.routes.items c.self.inside.nat c.self.inside.block c.self.inside.ignored c.args.rest.now c.in_ok-route.route c.args.number
    c.in_ok-route.ensures.read.0 c.in_ok-route.ensures.read.1 words)
