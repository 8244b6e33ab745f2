-- The bits of a packet: those of its fields in order, of each the highest first. No public call is stated by this.
use Rattle.std.specs.Prelude.{◌≡◌, ℕ, Bool, List, length, slice_range}
use Rattle.circuit.specs.Number.{number}
use Rattle.ios_acl.specs.declared.packet.Packet.{Packet}
use Rattle.sorted_logic.specs.declared.request.Field.{Field}
use Rattle.sorted_logic.specs.declared.request.Field.TheVariants as field
use Rattle.frame.specs.Scenario.{request_of}

-- the first bit of a field, and the first after it; the same for a field that is not the packet's
abbrev pub first_bit : Field → ℕ
first_bit field.Entry = 0
first_bit field.SrcIn = 0
first_bit field.DstIn = 32
first_bit field.SportIn = 64
first_bit field.DportIn = 80
first_bit field.Proto = 96
first_bit field.Flags = 104
first_bit field.IcmpType = 110
first_bit field.IcmpCode = 118
first_bit field.SrcOut = 0
first_bit field.DstOut = 0
first_bit field.SportOut = 0
first_bit field.DportOut = 0
first_bit field.NextHop = 0
first_bit field.Exit = 0

abbrev pub end_bit : Field → ℕ
end_bit field.Entry = 0
end_bit field.SrcIn = 32
end_bit field.DstIn = 64
end_bit field.SportIn = 80
end_bit field.DportIn = 96
end_bit field.Proto = 104
end_bit field.Flags = 110
end_bit field.IcmpType = 118
end_bit field.IcmpCode = 126
end_bit field.SrcOut = 0
end_bit field.DstOut = 0
end_bit field.SportOut = 0
end_bit field.DportOut = 0
end_bit field.NextHop = 0
end_bit field.Exit = 0

-- what belongs to a field in a list with an item for each bit of a packet
abbrev pub field_bits : {A : Type 0} → Field → List A → List A
field_bits f items = slice_range items (first_bit f) (end_bit f)

-- the bits are those of the packet
pub record IsPacketOf (bits : List Bool) (packet : Packet) : Type 0 where
  pub count : length bits ≡ 126
  pub fields : (f : Field) → number (field_bits f bits) ≡ request_of packet f
