-- Interfaces of a router, as a configuration says them.
use Rattle.std.specs.Prelude.{ℕ, Bool, List, Option}
use Rattle.ios_route.specs.declared.interface.NatMark.{NatMark}

-- an address is a number and the length of its mask. The lists of both directions are named
pub record Interface : Type 0 where
  pub name : List ℕ
  pub number : ℕ
  pub addresses : List (ℕ × ℕ)
  pub list_in : Option (List ℕ)
  pub list_out : Option (List ℕ)
  pub mark : NatMark
  pub shut : Bool
