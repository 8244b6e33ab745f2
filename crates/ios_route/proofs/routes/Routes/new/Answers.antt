use Rattle.std.proofs.Common.{◌++◌, refl, ap, sym, ◌∙◌, append_assoc}
use Rattle.std.proofs.lemmas.Result.{err_from_is_err_and}
use Rattle.ios_route.specs.ActiveRoutes.{active_static, connected}
use Rattle.ios_route.specs.Faults as first
use Rattle.ios_route.specs.Faults.{fault_of}
use Rattle.ios_route.proofs.StaticRoutes.{first_given, given_more}
use Rattle.ios_route.proofs.routes.Routes.new.Goals as goal

pub returns-in_err-active-clause-refused : goal.returns-in_err-active-clause-refused
returns-in_err-active-clause-refused c =
    let p = err_from_is_err_and c.from_residual.result c.from_residual.ensures.1 in
    rw (p.1, p.2) first.memory

pub returns-in_err-exits-clause-refused : goal.returns-in_err-exits-clause-refused
returns-in_err-exits-clause-refused c =
    let p = err_from_is_err_and c.from_residual-in_err-exits.result c.from_residual-in_err-exits.ensures.1 in
    rw (p.1, p.2) first.memory

pub returns-in_err-active-2-clause-refused : goal.returns-in_err-active-2-clause-refused
returns-in_err-active-2-clause-refused c =
    let p = err_from_is_err_and c.from_residual-in_err-active-2.result c.from_residual-in_err-active-2.ensures.1 in
    let is = c.in_err-active-2.ensures.refused c.args.interfaces.now c.in_ok-exits.ensures c.requires.lengths in
    let route = c.route-item.result in
    let given = ap (fault_of c.args.interfaces.now) (sym c.route-item.is) ∙ is in
    rw (p.1, p.2) (first.first _ _ (first_given (fault_of c.args.interfaces.now) c.args.routes.now c.loop-route.route-index route _ c.loop-route-test.true c.loop-route.invariant.1 given))

pub returns-in_err-add-clause-refused : goal.returns-in_err-add-clause-refused
returns-in_err-add-clause-refused c =
    let p = err_from_is_err_and c.from_residual-in_err-add.result c.from_residual-in_err-add.ensures.1 in
    rw (p.1, p.2) first.memory

pub loop-route-preserved : goal.loop-route-preserved
loop-route-preserved c =
    let route = c.route-item.result in
    let interfaces = c.args.interfaces.now in
    let is = c.in_ok-active-2.ensures.active c.args.interfaces.now c.in_ok-exits.ensures c.requires.lengths in
    let active = is.0 ∙ ap (active_static interfaces) c.route-item.is in
    let none = ap (fault_of interfaces) (sym c.route-item.is) ∙ is.1 in (
      c.in_ok-add.ensures ∙ rw (c.loop-route.invariant.0, active)
          (append_assoc (connected interfaces) _ _ ∙ ap (λ more. connected interfaces ++ more) (sym (given_more (active_static interfaces) c.args.routes.now c.loop-route.route-index route c.loop-route-test.true))),
      given_more (fault_of interfaces) c.args.routes.now c.loop-route.route-index route c.loop-route-test.true ∙ rw (c.loop-route.invariant.1, none) refl,
    )
