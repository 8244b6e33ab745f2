-- What the lines of a block say of an interface (Cisco IOS command references, `interface`).
use Rattle.std.specs.Prelude.{ℕ, ◌++◌, Bool, false, List, [], Option, None}
use Rattle.std.specs.List.{AllByRecursion}
use Rattle.std.specs.Option.{option_to_list}
use Rattle.ios_route.specs.Interfaces.{Interface}
use Rattle.ios_route.specs.declared.interface.NatMark.{NatMark}
use Rattle.ios_route.specs.declared.interface.NatMark.TheVariants as marks
use Rattle.ios_route.specs.ActiveRoutes.{IsLength}

-- the name and the number of the interface, and what was read so far. An address is a number and the length of its mask
pub record Block : Type 0 where
  pub name : List ℕ
  pub number : ℕ
  pub plain : Option (ℕ × ℕ)
  pub secondary : List (ℕ × ℕ)
  pub list_in : Option (List ℕ)
  pub list_out : Option (List ℕ)
  pub mark : NatMark
  pub shut : Bool

-- before the first line
abbrev pub no_lines : List ℕ → ℕ → Block
no_lines name number = record {
  name = name;
  number = number;
  plain = None;
  secondary = [];
  list_in = None;
  list_out = None;
  mark = marks.Plain;
  shut = false;
}

-- the plain address, and then the secondary ones in the order of their lines
abbrev pub addresses : Block → List (ℕ × ℕ)
addresses block = option_to_list block.plain ++ block.secondary

-- a mask has at most 32 ones
abbrev pub HaveLengths : List (ℕ × ℕ) → Type 0
HaveLengths all = AllByRecursion (λ (address : ℕ × ℕ). IsLength address.1) all

-- the interface that the block says
abbrev pub interface_of : Block → Interface
interface_of block = record {
  name = block.name;
  number = block.number;
  addresses = addresses block;
  list_in = block.list_in;
  list_out = block.list_out;
  mark = block.mark;
  shut = block.shut;
}
