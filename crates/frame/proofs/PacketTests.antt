-- Diagrams over the bits of a packet that test its fields.
use Rattle.std.proofs.Common.{◌≡◌, ℕ, zero, suc, ◌+◌, ◌-◌, ◌^◌, ◌≤◌, ◌&&◌, not, Bool, true, false, List, ◌∷◌, length, drop, take, get_or, Result, Ok, Err, IfOk, Option, Some, None, refl, sym, ap, ◌∙◌, arith, if◌then◌else◌}
use Rattle.std.proofs.lemmas.List.{drop_more, length-drop, length-take}
use Rattle.circuit.specs.Number.{number}
use Rattle.circuit.specs.Value.{value_at}
use Rattle.ios_acl.specs.declared.packet.Packet.{Packet}
use Rattle.ios_acl.specs.declared.entry.Entry.{Entry}
use Rattle.ios_acl.specs.Matching.{matches, matches_code, matches_established, matches_icmp, matches_port, matches_protocol}
use Rattle.bit_patterns.specs.Patterns.{agrees}
use Rattle.sorted_logic.specs.declared.request.Field.{Field}
use Rattle.sorted_logic.specs.declared.request.Field.TheVariants as field
use Rattle.decision_diagram.specs.Table.{HasValue, LooksFrom, Table, choice, value_in}
use Rattle.decision_diagram.specs.Tests.{number_of}
use Rattle.decision_diagram.proofs.Extending.{looks_earlier}
use Rattle.frame.specs.Bits.{IsPacketOf, end_bit, first_bit}
use Rattle.frame.specs.PacketDiagrams.{IsBehind, MeansIn, Narrows}
use Rattle.frame.specs.Scenario.{request_of}

-- where the bits of a field end
pub field_ends : (f : Field) → (first_bit f + (end_bit f - first_bit f) ≡ end_bit f) × (end_bit f ≤ 126) × (end_bit f - first_bit f ≤ 32)
field_ends field.Entry = (refl, omega arith, omega arith)
field_ends field.SrcIn = (refl, omega arith, omega arith)
field_ends field.DstIn = (refl, omega arith, omega arith)
field_ends field.SportIn = (refl, omega arith, omega arith)
field_ends field.DportIn = (refl, omega arith, omega arith)
field_ends field.Proto = (refl, omega arith, omega arith)
field_ends field.Flags = (refl, omega arith, omega arith)
field_ends field.IcmpType = (refl, omega arith, omega arith)
field_ends field.IcmpCode = (refl, omega arith, omega arith)
field_ends field.SrcOut = (refl, omega arith, omega arith)
field_ends field.DstOut = (refl, omega arith, omega arith)
field_ends field.SportOut = (refl, omega arith, omega arith)
field_ends field.DportOut = (refl, omega arith, omega arith)
field_ends field.NextHop = (refl, omega arith, omega arith)
field_ends field.Exit = (refl, omega arith, omega arith)

-- a number that is read at its place, and the same of the bits that are cut out
number_at_place : (bits : List Bool) (first width : ℕ) → first + width ≤ length bits → number_of bits first width ≡ number (take width (drop first bits))
number_at_place bits first zero inside = refl
number_at_place bits first (suc width) inside =
    let rest : number_of bits (first + 1) width ≡ number (take width (drop (first + 1) bits)) = number_at_place bits (first + 1) width (omega (arith, inside)) in
    let more : drop first bits ≡ get_or bits first false ∷ drop (first + 1) bits = drop_more bits first false (omega (arith, inside)) in
    let long : length (take width (drop (first + 1) bits)) ≡ width = omega (arith, inside, length-take width (drop (first + 1) bits), length-drop (first + 1) bits) in
    rw (more, long) (ap (λ n. (if value_at bits first then 2 ^ width else 0) + n) rest)

-- among the bits of a packet it is the field's value
pub field_number : (bits : List Bool) (packet : Packet) (f : Field) → IsPacketOf bits packet → number_of bits (first_bit f) (end_bit f - first_bit f) ≡ request_of packet f
field_number bits packet f is =
    let ends = field_ends f in
    number_at_place bits (first_bit f) (end_bit f - first_bit f) (omega (arith, ends.0, ends.1, is.count)) ∙ is.fields f

-- a test of a field's number narrows
pub narrows_by : (old new : Table) (f : Field) (test : ℕ → Bool) (other d : ℕ) → HasValue new (λ bits. test (number_of bits (first_bit f) (end_bit f - first_bit f)) && value_in old other bits) d → LooksFrom new (first_bit f) d → Narrows old new f (λ packet. test (request_of packet f)) other d
narrows_by old new f test other d has from = record {
  within = has.within;
  from = from;
  value = λ bits packet is. has.value bits ∙ ap (λ n. test n && value_in old other bits) (field_number bits packet f is);
}

pub narrows_if_made : {E F : Type 0} (r : Result ℕ E) (made : Result ℕ F) (old new : Table) (f : Field) (test : ℕ → Bool) (other : ℕ) → IfOk r (λ d. made ≡ Ok d)
    → IfOk made (HasValue new (λ bits. test (number_of bits (first_bit f) (end_bit f - first_bit f)) && value_in old other bits)) → IfOk made (LooksFrom new (first_bit f))
    → IfOk r (Narrows old new f (λ packet. test (request_of packet f)) other)
narrows_if_made (Ok d) made old new f test other is has from = narrows_by old new f test other d (rw is at has) (rw is at from)
narrows_if_made (Err e) made old new f test other is has from = tt

-- another test with the same answers narrows as well
pub narrows_as : (old new : Table) (f : Field) (m n : Packet → Bool) (other d : ℕ) → ((bits : List Bool) (packet : Packet) → IsPacketOf bits packet → m packet ≡ n packet) → Narrows old new f m other d → Narrows old new f n other d
narrows_as old new f m n other d same narrows = record {
  within = narrows.within;
  from = narrows.from;
  value = λ bits packet is. narrows.value bits packet is ∙ ap (λ b. b && value_in old other bits) (same bits packet is);
}

-- a test that all packets pass
pub narrows_nothing : (table : Table) (f : Field) (test : Packet → Bool) (other : ℕ) → ((packet : Packet) → test packet ≡ true) → IsBehind table f other → Narrows table table f test other other
narrows_nothing table f test other all behind = record {
  within = behind.within;
  from = looks_earlier table (first_bit f) (end_bit f) other (omega (arith, (field_ends f).0)) behind.later;
  value = λ bits packet is. sym (ap (λ b. b && value_in table other bits) (all packet));
}

-- where the field is not the value, and the other diagram is true
pub unmasked_by : (first mid new : Table) (f : Field) (test : Packet → Bool) (always same never other d : ℕ)
    → Narrows first mid f test always same → ((bits : List Bool) → value_in first always bits ≡ true)
    → ((bits : List Bool) → value_in mid never bits ≡ false) → ((bits : List Bool) → value_in mid other bits ≡ value_in first other bits)
    → HasValue new (choice mid same never other) d → LooksFrom new (first_bit f) d
    → Narrows first new f (λ packet. not (test packet)) other d
unmasked_by first mid new f test always same never other d narrows is_true is_false stays has from = record {
  within = has.within;
  from = from;
  value = λ bits packet is.
      has.value bits
      ∙ rw (narrows.value bits packet is, is_true bits, is_false bits, stays bits) (turned (test packet) (value_in first other bits));
}
  where
    turned : (t v : Bool) → (if t && true then false else v) ≡ (not t && v)
    turned true v = refl
    turned false v = refl

under_no_protocol : (src dst sport dport flags message : Bool) → (src && (dst && (sport && (dport && (false && (flags && (message && true))))))) ≡ (false && src && dst && sport && dport && message && flags)
under_no_protocol false dst sport dport flags message = refl
under_no_protocol true false sport dport flags message = refl
under_no_protocol true true false dport flags message = refl
under_no_protocol true true true false flags message = refl
under_no_protocol true true true true flags message = refl

-- the tests of an entry in the order of a packet's bits, and in their own
reordered : (src dst sport dport proto flags message : Bool) → (src && (dst && (sport && (dport && (proto && (flags && (message && true))))))) ≡ (proto && src && dst && sport && dport && message && flags)
reordered src dst sport dport false flags message = under_no_protocol src dst sport dport flags message
reordered false dst sport dport true flags message = refl
reordered true false sport dport true flags message = refl
reordered true true false dport true flags message = refl
reordered true true true false true flags message = refl
reordered true true true true true true true = refl
reordered true true true true true true false = refl
reordered true true true true true false true = refl
reordered true true true true true false false = refl

protocol_as_code : (protocol : ℕ) (wanted : Option ℕ) → matches_code protocol wanted ≡ matches_protocol protocol wanted
protocol_as_code protocol None = refl
protocol_as_code protocol (Some value) = refl

-- all tests of an entry, one behind the other
pub all_narrow : (t0 t1 t2 t3 t4 t5 t6 t7 : Table) (entry : Entry) (always message flags proto dport sport dst src : ℕ)
    → ((bits : List Bool) → value_in t0 always bits ≡ true)
    → Narrows t0 t1 field.IcmpType (λ packet. matches_icmp packet.icmp_type packet.icmp_code entry.icmp) always message
    → Narrows t1 t2 field.Flags (λ packet. matches_established packet.flags entry.established) message flags
    → Narrows t2 t3 field.Proto (λ packet. matches_code packet.proto entry.proto) flags proto
    → Narrows t3 t4 field.DportIn (λ packet. matches_port packet.dport entry.dport) proto dport
    → Narrows t4 t5 field.SportIn (λ packet. matches_port packet.sport entry.sport) dport sport
    → Narrows t5 t6 field.DstIn (λ packet. agrees packet.dst entry.dst.0 entry.dst.1) sport dst
    → Narrows t6 t7 field.SrcIn (λ packet. agrees packet.src entry.src.0 entry.src.1) dst src
    → MeansIn t7 src (matches entry)
all_narrow t0 t1 t2 t3 t4 t5 t6 t7 entry always message flags proto dport sport dst src is_true n1 n2 n3 n4 n5 n6 n7 = record {
  within = n7.within;
  value = λ bits packet is.
      n7.value bits packet is
      ∙ rw (n6.value bits packet is, n5.value bits packet is, n4.value bits packet is, n3.value bits packet is, n2.value bits packet is, n1.value bits packet is, is_true bits, protocol_as_code packet.proto entry.proto)
      (reordered (agrees packet.src entry.src.0 entry.src.1) (agrees packet.dst entry.dst.0 entry.dst.1) (matches_port packet.sport entry.sport) (matches_port packet.dport entry.dport)
      (matches_protocol packet.proto entry.proto) (matches_established packet.flags entry.established) (matches_icmp packet.icmp_type packet.icmp_code entry.icmp));
}
