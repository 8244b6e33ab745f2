-- The packet of a model of the clauses of two lists.
use Rattle.std.proofs.Common.{◌≡◌, Bool, List, ◌≤◌, length, drop, slice_range, refl, arith, length-take, length-drop}
use Rattle.circuit.specs.Number.{number}
use Rattle.ios_acl.specs.declared.packet.Packet.{Packet}
use Rattle.sorted_logic.specs.declared.request.Field.TheVariants as field
use Rattle.frame.specs.Bits.{IsPacketOf, field_bits}
use Rattle.frame.proofs.FieldPlaces.{IsPacketOf-numbers, field_bound}

packet_of : List Bool → Packet
packet_of bits = record {
  src = number (field_bits field.SrcIn bits);
  dst = number (field_bits field.DstIn bits);
  sport = number (field_bits field.SportIn bits);
  dport = number (field_bits field.DportIn bits);
  proto = number (field_bits field.Proto bits);
  flags = number (field_bits field.Flags bits);
  icmp_type = number (field_bits field.IcmpType bits);
  icmp_code = number (field_bits field.IcmpCode bits);
  flags_in_range = field_bound field.Flags bits;
}

count : (values : List Bool) → 128 ≤ length values → length (slice_range values 2 128) ≡ 126
count values many = omega (arith, many, length-take 126 (drop 2 values), length-drop 2 values)

-- enough values have the bits of a packet behind the first two
pub model_has_packet : (values : List Bool) → 128 ≤ length values → (packet : Packet) × IsPacketOf (slice_range values 2 128) packet
unfolding packet_of
model_has_packet values many =
    let bits = slice_range values 2 128 in
    (packet_of bits, IsPacketOf-numbers bits (packet_of bits) (count values many) refl refl refl refl refl refl refl refl)
