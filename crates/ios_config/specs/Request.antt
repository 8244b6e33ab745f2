-- The request that the policies of a router speak of: a number for each of the fifteen fields.
use Rattle.std.specs.Prelude.{◌≡◌, ℕ, ◌<◌, ◌^◌}
use Rattle.ios_acl.specs.declared.packet.Packet.{Packet}
use Rattle.sorted_logic.specs.declared.request.Field.{Field}
use Rattle.sorted_logic.specs.declared.request.Field.TheVariants as field
use Rattle.sorted_logic.specs.Field.{bits}

-- the value of each field
abbrev pub Request : Type 0
Request = Field → ℕ

abbrev pub IsRequest : Request → Type 0
IsRequest request = (f : Field) → request f < 2 ^ bits f

-- the packet as it comes in
pub record IsPacketIn (request : Request) (packet : Packet) : Type 0 where
  pub src : packet.src ≡ request field.SrcIn
  pub dst : packet.dst ≡ request field.DstIn
  pub sport : packet.sport ≡ request field.SportIn
  pub dport : packet.dport ≡ request field.DportIn
  pub proto : packet.proto ≡ request field.Proto
  pub flags : packet.flags ≡ request field.Flags
  pub icmp_type : packet.icmp_type ≡ request field.IcmpType
  pub icmp_code : packet.icmp_code ≡ request field.IcmpCode
