-- The base signature, which is part of every problem, and the sorts of a request's fields.
use Rattle.std.specs.Prelude.{ℕ, List, [], ◌∷◌, Some, None, codes}
use Rattle.sorted_logic.specs.declared.declarations.SortDecl.{SortDecl}
use Rattle.sorted_logic.specs.declared.request.Field.{Field}
use Rattle.sorted_logic.specs.declared.request.Field.TheVariants as field
use Rattle.sorted_logic.specs.Signature.{Signature}

-- a root whose elements carry numbers of so many bits
abbrev pub interpreted : List ℕ → ℕ → SortDecl
interpreted name bits = record { name = name; under = None; bits = Some bits }

-- addresses, ports, protocols, flags, types and codes of ICMP, and interfaces
abbrev pub base : Signature
base = record {
  sorts =
      interpreted (codes "Address") 32 ∷ interpreted (codes "Port") 16 ∷ interpreted (codes "Protocol") 8
      ∷ interpreted (codes "Flags") 6 ∷ interpreted (codes "IcmpType") 8 ∷ interpreted (codes "IcmpCode") 8
      ∷ interpreted (codes "Interface") 16 ∷ [];
  functions = [];
  relations = [];
  disjoint = [];
}

-- the place of a field's sort in the base signature
abbrev pub field_sort : Field → ℕ
field_sort field.Entry = 6
field_sort field.SrcIn = 0
field_sort field.DstIn = 0
field_sort field.SportIn = 1
field_sort field.DportIn = 1
field_sort field.Proto = 2
field_sort field.Flags = 3
field_sort field.IcmpType = 4
field_sort field.IcmpCode = 5
field_sort field.SrcOut = 0
field_sort field.DstOut = 0
field_sort field.SportOut = 1
field_sort field.DportOut = 1
field_sort field.NextHop = 0
field_sort field.Exit = 6
