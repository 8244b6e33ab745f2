-- The fifteen fields of a request: their order, their bits and their names, and which are of the packet as it comes in.
use Rattle.std.specs.Prelude.{◌≡◌, ℕ, List, [], ◌∷◌, map, Contains, codes}
use Rattle.sorted_logic.specs.declared.request.Field.{Field}
use Rattle.sorted_logic.specs.declared.request.Field.TheVariants as field

-- how many bits a field has: an address 32, a port or an interface 16, the flags 6, and each other 8
abbrev pub bits : Field → ℕ
bits field.Entry = 16
bits field.SrcIn = 32
bits field.DstIn = 32
bits field.SportIn = 16
bits field.DportIn = 16
bits field.Proto = 8
bits field.Flags = 6
bits field.IcmpType = 8
bits field.IcmpCode = 8
bits field.SrcOut = 32
bits field.DstOut = 32
bits field.SportOut = 16
bits field.DportOut = 16
bits field.NextHop = 32
bits field.Exit = 16

-- the fields in order
abbrev pub fields : List Field
fields =
    field.Entry ∷ field.SrcIn ∷ field.DstIn ∷ field.SportIn ∷ field.DportIn
    ∷ field.Proto ∷ field.Flags ∷ field.IcmpType ∷ field.IcmpCode
    ∷ field.SrcOut ∷ field.DstOut ∷ field.SportOut ∷ field.DportOut
    ∷ field.NextHop ∷ field.Exit ∷ []

-- the place of a field, from 0
abbrev pub place : Field → ℕ
place field.Entry = 0
place field.SrcIn = 1
place field.DstIn = 2
place field.SportIn = 3
place field.DportIn = 4
place field.Proto = 5
place field.Flags = 6
place field.IcmpType = 7
place field.IcmpCode = 8
place field.SrcOut = 9
place field.DstOut = 10
place field.SportOut = 11
place field.DportOut = 12
place field.NextHop = 13
place field.Exit = 14

-- the fields of the packet as it comes in, in the order of a packet
abbrev pub packet_fields : List Field
packet_fields =
    field.SrcIn ∷ field.DstIn ∷ field.SportIn ∷ field.DportIn
    ∷ field.Proto ∷ field.Flags ∷ field.IcmpType ∷ field.IcmpCode ∷ []

-- the name of a field, as tests write it and scenarios print it
abbrev pub field_name : Field → List ℕ
field_name field.Entry = codes "entry"
field_name field.SrcIn = codes "src_in"
field_name field.DstIn = codes "dst_in"
field_name field.SportIn = codes "sport_in"
field_name field.DportIn = codes "dport_in"
field_name field.Proto = codes "proto"
field_name field.Flags = codes "flags"
field_name field.IcmpType = codes "icmp_type"
field_name field.IcmpCode = codes "icmp_code"
field_name field.SrcOut = codes "src_out"
field_name field.DstOut = codes "dst_out"
field_name field.SportOut = codes "sport_out"
field_name field.DportOut = codes "dport_out"
field_name field.NextHop = codes "next_hop"
field_name field.Exit = codes "exit"

-- the names of the fields in order
abbrev pub field_names : List (List ℕ)
field_names = map field_name fields

-- the field of the packet as it comes in that has the name
pub record IsNamed (name : List ℕ) (f : Field) : Type 0 where
  pub of_packet : Contains packet_fields f
  pub named : name ≡ field_name f
