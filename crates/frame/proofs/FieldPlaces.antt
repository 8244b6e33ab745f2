-- Where the fields of a packet stand among its bits.
use Rattle.std.proofs.Common.{◌≡◌, ℕ, suc, ◌+◌, ◌-◌, ◌<◌, ◌≤◌, ◌^◌, min, Bool, true, false, List, [], ◌∷◌, ◌++◌, length, map, take, drop, refl, sym, ap, ◌∙◌, ◌⊎◌, inl, inr, arith}
use Rattle.std.specs.List.{flat_map}
use Rattle.std.proofs.Math.Path.{fun_ext, subst₂}
use Rattle.std.proofs.Math.Pow.{pow_mono}
use Rattle.std.proofs.lemmas.List.{take-map, drop-map, drop-drop, drop_all, length-take, length-drop, take-append-drop}
use Rattle.circuit.specs.declared.gate.Gate.{Gate}
use Rattle.cnf.specs.Order.{LexLe}
use Rattle.circuit.specs.Least.{IsLeast, Satisfies}
use Rattle.circuit.specs.Number.{number}
use Rattle.circuit.specs.Value.{value}
use Rattle.circuit.proofs.Numbers.{number-lt, bits_of, number-bits_of}
use Rattle.ios_acl.specs.declared.packet.Packet.{Packet}
use Rattle.sorted_logic.specs.declared.request.Field.{Field}
use Rattle.sorted_logic.specs.declared.request.Field.TheVariants as field
use Rattle.sorted_logic.specs.Field.{bits, packet_fields}
use Rattle.ios_config.specs.Request.{IsRequest}
use Rattle.frame.specs.Bits.{IsPacketOf, end_bit, field_bits, first_bit}
use Rattle.frame.specs.Meaning.{HasBits, HoldsFor, IsLeastPacket, Means}
use Rattle.frame.specs.Scenario.{IsNotBehind, request_of}
use Rattle.frame.proofs.NumberBits.{number_is_small}

-- a field's bits are at most those of its width
pub length-field_bits : {A : Type 0} (f : Field) (items : List A) → length (field_bits f items) ≡ min (end_bit f - first_bit f) (length items - first_bit f)
length-field_bits f items =
    length-take (end_bit f - first_bit f) (drop (first_bit f) items) ∙ ap (min (end_bit f - first_bit f)) (length-drop (first_bit f) items)

pub same_lengths : {A B : Type 0} (f : Field) (xs : List A) (ys : List B) → length xs ≡ length ys → length (field_bits f xs) ≡ length (field_bits f ys)
same_lengths f xs ys same = length-field_bits f xs ∙ ap (λ n. min (end_bit f - first_bit f) (n - first_bit f)) same ∙ sym (length-field_bits f ys)

-- the packet's fields have all their bits, and no field more than 32
widths : (f : Field) → (end_bit f - first_bit f ≤ bits f) × (bits f ≤ 32)
widths field.Entry = (omega arith, omega arith)
widths field.SrcIn = (omega arith, omega arith)
widths field.DstIn = (omega arith, omega arith)
widths field.SportIn = (omega arith, omega arith)
widths field.DportIn = (omega arith, omega arith)
widths field.Proto = (omega arith, omega arith)
widths field.Flags = (omega arith, omega arith)
widths field.IcmpType = (omega arith, omega arith)
widths field.IcmpCode = (omega arith, omega arith)
widths field.SrcOut = (omega arith, omega arith)
widths field.DstOut = (omega arith, omega arith)
widths field.SportOut = (omega arith, omega arith)
widths field.DportOut = (omega arith, omega arith)
widths field.NextHop = (omega arith, omega arith)
widths field.Exit = (omega arith, omega arith)

pub few_bits : {A : Type 0} (f : Field) (items : List A) → length (field_bits f items) ≤ 32
few_bits f items = let w = widths f in omega (arith, length-field_bits f items, w.0, w.1)

-- so their number is within the bound of the field
pub field_bound : (f : Field) (xs : List Bool) → number (field_bits f xs) < 2 ^ (end_bit f - first_bit f)
field_bound f xs = number_is_small (field_bits f xs) (end_bit f - first_bit f) (omega (arith, length-field_bits f xs))

pub map-field_bits : {A B : Type 0} (g : A → B) (f : Field) (items : List A) → map g (field_bits f items) ≡ field_bits f (map g items)
map-field_bits g f items =
    sym (take-map g (end_bit f - first_bit f) (drop (first_bit f) items)) ∙ ap (take (end_bit f - first_bit f)) (sym (drop-map g (first_bit f) items))

-- in a circuit over the bits of a packet, the bits of a field are worth its number
pub field_value : (gates : List Gate) (nodes : List ℕ) (inputs : List Bool) (packet : Packet) (f : Field) → HasBits gates nodes → IsPacketOf inputs packet →
    number (map (value gates inputs) (field_bits f nodes)) ≡ request_of packet f
field_value gates nodes inputs packet f has is =
    ap number (map-field_bits (value gates inputs) f nodes ∙ ap (field_bits f) (has.values inputs is.count)) ∙ is.fields f

-- the bits of a packet
abbrev pub bits_of_packet : Packet → List Bool
bits_of_packet packet = flat_map (λ f. bits_of (bits f) (request_of packet f)) packet_fields

pub IsPacketOf-bits : (packet : Packet) → IsRequest (request_of packet) → IsPacketOf (bits_of_packet packet) packet
IsPacketOf-bits packet small = record { count = refl; fields = fields packet small }
  where
    fields : (packet : Packet) → IsRequest (request_of packet) → (f : Field) → number (field_bits f (bits_of_packet packet)) ≡ request_of packet f
    fields packet small field.Entry = refl
    fields packet small field.SrcIn = number-bits_of 32 packet.src (small field.SrcIn)
    fields packet small field.DstIn = number-bits_of 32 packet.dst (small field.DstIn)
    fields packet small field.SportIn = number-bits_of 16 packet.sport (small field.SportIn)
    fields packet small field.DportIn = number-bits_of 16 packet.dport (small field.DportIn)
    fields packet small field.Proto = number-bits_of 8 packet.proto (small field.Proto)
    fields packet small field.Flags = number-bits_of 6 packet.flags (small field.Flags)
    fields packet small field.IcmpType = number-bits_of 8 packet.icmp_type (small field.IcmpType)
    fields packet small field.IcmpCode = number-bits_of 8 packet.icmp_code (small field.IcmpCode)
    fields packet small field.SrcOut = refl
    fields packet small field.DstOut = refl
    fields packet small field.SportOut = refl
    fields packet small field.DportOut = refl
    fields packet small field.NextHop = refl
    fields packet small field.Exit = refl

-- a packet with these numbers in its fields
pub IsPacketOf-numbers : (bits : List Bool) (packet : Packet) → length bits ≡ 126
    → packet.src ≡ number (field_bits field.SrcIn bits) → packet.dst ≡ number (field_bits field.DstIn bits)
    → packet.sport ≡ number (field_bits field.SportIn bits) → packet.dport ≡ number (field_bits field.DportIn bits)
    → packet.proto ≡ number (field_bits field.Proto bits) → packet.flags ≡ number (field_bits field.Flags bits)
    → packet.icmp_type ≡ number (field_bits field.IcmpType bits) → packet.icmp_code ≡ number (field_bits field.IcmpCode bits)
    → IsPacketOf bits packet
IsPacketOf-numbers bits packet count src dst sport dport proto flags kind code = record { count = count; fields = fields bits packet src dst sport dport proto flags kind code }
  where
    fields : (bits : List Bool) (packet : Packet)
        → packet.src ≡ number (field_bits field.SrcIn bits) → packet.dst ≡ number (field_bits field.DstIn bits)
        → packet.sport ≡ number (field_bits field.SportIn bits) → packet.dport ≡ number (field_bits field.DportIn bits)
        → packet.proto ≡ number (field_bits field.Proto bits) → packet.flags ≡ number (field_bits field.Flags bits)
        → packet.icmp_type ≡ number (field_bits field.IcmpType bits) → packet.icmp_code ≡ number (field_bits field.IcmpCode bits)
        → (f : Field) → number (field_bits f bits) ≡ request_of packet f
    fields bits packet src dst sport dport proto flags kind code field.Entry = refl
    fields bits packet src dst sport dport proto flags kind code field.SrcIn = sym src
    fields bits packet src dst sport dport proto flags kind code field.DstIn = sym dst
    fields bits packet src dst sport dport proto flags kind code field.SportIn = sym sport
    fields bits packet src dst sport dport proto flags kind code field.DportIn = sym dport
    fields bits packet src dst sport dport proto flags kind code field.Proto = sym proto
    fields bits packet src dst sport dport proto flags kind code field.Flags = sym flags
    fields bits packet src dst sport dport proto flags kind code field.IcmpType = sym kind
    fields bits packet src dst sport dport proto flags kind code field.IcmpCode = sym code
    fields bits packet src dst sport dport proto flags kind code field.SrcOut = refl
    fields bits packet src dst sport dport proto flags kind code field.DstOut = refl
    fields bits packet src dst sport dport proto flags kind code field.SportOut = refl
    fields bits packet src dst sport dport proto flags kind code field.DportOut = refl
    fields bits packet src dst sport dport proto flags kind code field.NextHop = refl
    fields bits packet src dst sport dport proto flags kind code field.Exit = refl

suc_same : (m n : ℕ) → suc m ≡ suc n → m ≡ n
suc_same m n e = omega arith

both : (m n p q : ℕ) → p ≡ q → (us vs : List Bool) → (m < n) ⊎ ((m ≡ n) × LexLe us vs) → (p + m < q + n) ⊎ ((p + m ≡ q + n) × LexLe us vs)
both m n p q same us vs (inl less) = inl (omega arith)
both m n p q same us vs (inr equal) = inr (omega (arith, equal.0), equal.1)

-- where lists of bits are in the order of the dictionary, their fronts decide, or are the same and the rest decides
LexLe-append : (xs ys : List Bool) (us vs : List Bool) → length xs ≡ length ys → LexLe (xs ++ us) (ys ++ vs) → (number xs < number ys) ⊎ ((number xs ≡ number ys) × LexLe us vs)
LexLe-append [] [] us vs same h = inr (refl, h)
LexLe-append [] (y ∷ ys) us vs same h = absurd (omega arith)
LexLe-append (x ∷ xs) [] us vs same h = absurd (omega arith)
LexLe-append (false ∷ xs) (true ∷ ys) us vs same h = inl (omega (arith, number-lt xs, ap (λ n. 2 ^ n) (suc_same (length xs) (length ys) same)))
LexLe-append (true ∷ xs) (false ∷ ys) us vs same h = absurd h
LexLe-append (false ∷ xs) (false ∷ ys) us vs same h = both (number xs) (number ys) 0 0 refl us vs (LexLe-append xs ys us vs (suc_same (length xs) (length ys) same) h)
LexLe-append (true ∷ xs) (true ∷ ys) us vs same h = both (number xs) (number ys) (2 ^ length xs) (2 ^ length ys) (ap (λ n. 2 ^ n) (suc_same (length xs) (length ys) same)) us vs (LexLe-append xs ys us vs (suc_same (length xs) (length ys) same) h)

-- the dictionary of the bits of all fields is that of their numbers
IsNotBehind-fields : (fs : List Field) (x y : Field → List Bool) → ((f : Field) → length (x f) ≡ length (y f)) → LexLe (flat_map x fs) (flat_map y fs) → IsNotBehind (map (λ f. number (x f)) fs) (map (λ f. number (y f)) fs)
IsNotBehind-fields [] x y same h = tt
IsNotBehind-fields (f ∷ fs) x y same h =
    elim (LexLe-append (x f) (y f) (flat_map x fs) (flat_map y fs) (same f) h) [
      | inl less ↦ inl less
      | inr rest ↦ inr (rest.0, IsNotBehind-fields fs x y same rest.1)
    ]

split : {A : Type 0} (n m : ℕ) (xs rest : List A) → drop (m + n) xs ≡ rest → drop m xs ≡ take n (drop m xs) ++ rest
split n m xs rest is = sym (take-append-drop n (drop m xs)) ∙ ap (λ r. take n (drop m xs) ++ r) (drop-drop n m xs ∙ is)

-- the bits of a packet are those of its fields, one after the other
fields_of_bits : (xs : List Bool) → length xs ≡ 126 → xs ≡ flat_map (λ f. field_bits f xs) packet_fields
fields_of_bits xs long =
    split 32 0 xs _ (split 32 32 xs _ (split 16 64 xs _ (split 16 80 xs _ (split 8 96 xs _ (split 6 104 xs _ (split 8 110 xs _ (split 8 118 xs [] (drop_all 126 xs (omega arith)))))))))

-- of packets whose bits are in the order of the dictionary, the first is not behind the other
pub packets_in_order : (xs ys : List Bool) (packet other : Packet) → IsPacketOf xs packet → IsPacketOf ys other → LexLe xs ys → IsNotBehind (map (request_of packet) packet_fields) (map (request_of other) packet_fields)
packets_in_order xs ys packet other is was h =
    let one : (λ f. number (field_bits f xs)) ≡ request_of packet = fun_ext is.fields in
    let two : (λ f. number (field_bits f ys)) ≡ request_of other = fun_ext was.fields in
    let lists : LexLe (flat_map (λ f. field_bits f xs) packet_fields) (flat_map (λ f. field_bits f ys) packet_fields) = subst₂ LexLe (fields_of_bits xs is.count) (fields_of_bits ys was.count) h in
    let whole = IsNotBehind-fields packet_fields (λ f. field_bits f xs) (λ f. field_bits f ys) (λ f. same_lengths f xs ys (is.count ∙ sym was.count)) lists in
    subst₂ (λ (f g : Field → ℕ). IsNotBehind (map f packet_fields) (map g packet_fields)) one two whole

numbers_small : (xs : List Bool) (packet : Packet) → IsPacketOf xs packet → IsRequest (request_of packet)
numbers_small xs packet is = λ f.
    let w = widths f in
    let most : 2 ^ (end_bit f - first_bit f) ≤ 2 ^ bits f = pow_mono {i = end_bit f - first_bit f} {j = bits f} w.0 in
    omega (arith, most, field_bound f xs, is.fields f)

satisfied : (gates : List Gate) (nodes : List ℕ) (root : ℕ) (packet : Packet) (meaning : Packet → Bool) → HasBits gates nodes → Means gates root meaning → HoldsFor meaning packet → Satisfies gates root (bits_of_packet packet)
satisfied gates nodes root packet meaning has means holds =
    let is = IsPacketOf-bits packet holds.is_request in
    record { count = is.count ∙ sym has.inputs; holds = means.value (bits_of_packet packet) packet is ∙ holds.passes }

-- the least bits that make a node true are those of the least packet
pub least_packet : (gates : List Gate) (nodes : List ℕ) (root : ℕ) (inputs : List Bool) (packet : Packet) (meaning : Packet → Bool) → HasBits gates nodes → IsLeast gates root inputs → IsPacketOf inputs packet → Means gates root meaning → IsLeastPacket meaning packet
least_packet gates nodes root inputs packet meaning has found is means = record {
  holds = record { is_request = numbers_small inputs packet is; passes = sym (means.value inputs packet is) ∙ found.satisfies.holds };
  least = λ other holds.
      let was = IsPacketOf-bits other holds.is_request in
      packets_in_order inputs (bits_of_packet other) packet other is was (found.least (bits_of_packet other) (satisfied gates nodes root other meaning has means holds));
}

pub no_packet : (gates : List Gate) (nodes : List ℕ) (root : ℕ) (meaning : Packet → Bool) (packet : Packet) → HasBits gates nodes → ((inputs : List Bool) → Satisfies gates root inputs → ⊥) → Means gates root meaning → HoldsFor meaning packet → ⊥
no_packet gates nodes root meaning packet has none means holds = none (bits_of_packet packet) (satisfied gates nodes root packet meaning has means holds)
