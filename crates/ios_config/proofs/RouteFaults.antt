-- The faults of static routes are refusals of lines.
use Rattle.std.proofs.Common.{◌≡◌, ℕ, List, [], ◌∷◌, Option, Some, None, refl, ap, ◌∙◌}
use Rattle.ios_lex.specs.declared.reason.IosReason.{IosReason}
use Rattle.ios_route.specs.Faults.{fault_of, fault_towards, faults}
use Rattle.ios_route.specs.Interfaces.{Interface}
use Rattle.ios_route.specs.ActiveRoutes.{exit_towards, named}
use Rattle.ios_route.specs.declared.routes.RouteFault.{RouteFault}
use Rattle.ios_route.specs.declared.routes.RouteFault.TheVariants as route_fault
use Rattle.ios_route.specs.declared.static_route.RouteExit.{RouteExit}
use Rattle.ios_route.specs.declared.static_route.RouteExit.TheVariants as exits
use Rattle.ios_route.specs.declared.static_route.StaticRoute.{StaticRoute}
use Rattle.ios_config.specs.Reading.{route_faults}
use Rattle.ios_config.specs.Router.{Draft, interfaces_of}
use Rattle.ios_config.specs.Whole.{IsRouteRefusal}

pub record Refusal (fault : RouteFault) : Type 0 where
  pub at : ℕ
  pub why : IosReason
  pub is : IsRouteRefusal fault at why

-- the fault of one route is a refusal
one_refusal : (interfaces : List Interface) (line : ℕ) (exit : RouteExit) (fault : RouteFault) → fault_towards interfaces line exit ≡ Some fault → Refusal fault
one_refusal interfaces line (exits.Hop hop) fault is = by_exit (exit_towards interfaces hop) refl
  where
    by_exit : (out : Option ℕ) → exit_towards interfaces hop ≡ out → Refusal fault
    by_exit None none =
        let same : route_fault.NextHopNotConnected line ≡ fault = cc (rw none at is) in
        rw (← same) (record { at = line; why = _; is = IsRouteRefusal.not_connected line })
    by_exit (Some out) some = absurd (cc (rw some at is))
one_refusal interfaces line (exits.Out name hop) fault is = by_name (named interfaces name) refl
  where
    by_name : (found : Option Interface) → named interfaces name ≡ found → Refusal fault
    by_name None none =
        let same : route_fault.UnknownInterface line ≡ fault = cc (rw none at is) in
        rw (← same) (record { at = line; why = _; is = IsRouteRefusal.unknown line })
    by_name (Some found) some = absurd (cc (rw some at is))
one_refusal interfaces line exits.Null fault is = absurd (cc is)

first_refusal : (interfaces : List Interface) (routes : List StaticRoute) (fault : RouteFault) (more : List RouteFault) → faults interfaces routes ≡ fault ∷ more → Refusal fault
first_refusal interfaces [] fault more is = absurd (cc is)
first_refusal interfaces (route ∷ routes) fault more is = by_fault (first_refusal interfaces routes fault more) (fault_of interfaces route) refl
  where
    by_fault : (faults interfaces routes ≡ fault ∷ more → Refusal fault) → (own : Option RouteFault) → fault_of interfaces route ≡ own → Refusal fault
    by_fault later None none = later (rw none at is)
    by_fault later (Some own) some =
        let same : own ≡ fault = cc (rw some at is) in
        one_refusal interfaces route.line route.exit fault (some ∙ ap Some same)

pub route_refusal : (draft : Draft) (fault : RouteFault) (more : List RouteFault) → route_faults draft ≡ fault ∷ more → Refusal fault
route_refusal draft fault more is = first_refusal (interfaces_of draft) draft.routes fault more is
