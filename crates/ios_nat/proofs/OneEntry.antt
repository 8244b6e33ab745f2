-- The words of a line spell one entry.
use Rattle.std.proofs.Common.{◌≡◌, ℕ, Bool, false, ◌++◌, codes, refl, sym, ap, ◌∙◌}
use Rattle.ios_lex.specs.Phrases.{Words}
use Rattle.ios_lex.proofs.OneWord.{one_address, one_name, one_number, one_word}
use Rattle.ios_lex.proofs.WordForms.{other_no_address, words_differ}
use Rattle.ios_nat.specs.declared.entry.AddressEntry.{AddressEntry}
use Rattle.ios_nat.specs.declared.entry.DynamicEntry.{DynamicEntry}
use Rattle.ios_nat.specs.declared.entry.DynamicFrom.{DynamicFrom}
use Rattle.ios_nat.specs.declared.entry.DynamicFrom.TheVariants as from
use Rattle.ios_nat.specs.declared.entry.PortEntry.{PortEntry}
use Rattle.ios_nat.specs.declared.kind.Kind.TheVariants as kinds
use Rattle.ios_nat.specs.Grammar.{from_name, from_word, IsAddressEntry, IsDynamic, IsOverload, IsPool, IsPortEntry, IsProto, unmodelled}
use Rattle.ios_nat.specs.Table.{Pool}
use Rattle.ios_nat.proofs.StaticLines.{proto_word}

one_proto : (p q : ℕ) (front back front' back' : Words) → IsProto p front → IsProto q front' → front ++ back ≡ front' ++ back' → (p ≡ q) × (back ≡ back')
one_proto p q front back front' back' (IsProto.tcp whole is) (IsProto.tcp whole' is') same = (is ∙ sym is', (one_word front back front' back' (codes "tcp") (codes "tcp") whole whole' same).1)
one_proto p q front back front' back' (IsProto.udp whole is) (IsProto.udp whole' is') same = (is ∙ sym is', (one_word front back front' back' (codes "udp") (codes "udp") whole whole' same).1)
one_proto p q front back front' back' (IsProto.tcp whole is) (IsProto.udp whole' is') same =
    absurd (words_differ (codes "tcp") (codes "udp") refl (one_word front back front' back' (codes "tcp") (codes "udp") whole whole' same).0)
one_proto p q front back front' back' (IsProto.udp whole is) (IsProto.tcp whole' is') same =
    absurd (words_differ (codes "udp") (codes "tcp") refl (one_word front back front' back' (codes "udp") (codes "tcp") whole whole' same).0)

pub one_port_entry : (entry other : PortEntry) (words : Words) → IsPortEntry entry words → IsPortEntry other words → entry ≡ other
one_port_entry entry other words h k =
    let proto = one_proto entry.proto other.proto h.front h.back k.front k.back h.first k.first (sym h.whole ∙ k.whole) in
    let h1 = h.second in
    let k1 = k.second in
    let local = one_address entry.local other.local h1.front h1.back k1.front k1.back h1.first k1.first (sym h1.whole ∙ proto.1 ∙ k1.whole) in
    let h2 = h1.second in
    let k2 = k1.second in
    let local_port = one_number 0 65535 entry.local_port other.local_port h2.front h2.back k2.front k2.back h2.first k2.first (sym h2.whole ∙ local.1 ∙ k2.whole) in
    let h3 = h2.second in
    let k3 = k2.second in
    let global = one_address entry.global other.global h3.front h3.back k3.front k3.back h3.first k3.first (sym h3.whole ∙ local_port.1 ∙ k3.whole) in
    let h4 = h3.second in
    let k4 = k3.second in
    let global_port = one_number 0 65535 entry.global_port other.global_port h4.front h4.back k4.front k4.back h4.first k4.first (sym h4.whole ∙ global.1 ∙ k4.whole) in
    λ i. record { proto = proto.0 i; local = local.0 i; local_port = local_port.0 i; global = global.0 i; global_port = global_port.0 i }

pub one_address_entry : (entry other : AddressEntry) (words : Words) → IsAddressEntry entry words → IsAddressEntry other words → entry ≡ other
one_address_entry entry other words h k =
    let local = one_address entry.local other.local h.front h.back k.front k.back h.first k.first (sym h.whole ∙ k.whole) in
    let h1 = h.second in
    let k1 = k.second in
    let global = one_address entry.global other.global h1.front h1.back k1.front k1.back h1.first k1.first (sym h1.whole ∙ local.1 ∙ k1.whole) in
    λ i. record { local = local.0 i; global = global.0 i }

-- a line is not of both forms
pub no_two_forms : (entry : PortEntry) (other : AddressEntry) (words : Words) → IsPortEntry entry words → IsAddressEntry other words → ⊥
no_two_forms entry other words h k =
    let w = proto_word entry.proto h.front h.first in
    let word = one_word h.front h.back k.front k.back w.0 k.first.0 w.1 k.first.1 (sym h.whole ∙ k.whole) in
    other_no_address w.0 other.local w.2 (rw word.0 k.first.2)

pub one_pool : (pool other : Pool) (words : Words) → IsPool false pool words → IsPool false other words → pool ≡ other
one_pool pool other words h k =
    let name = one_name (unmodelled kinds.Pool) pool.0 other.0 h.front h.back k.front k.back h.first k.first (sym h.whole ∙ k.whole) in
    let h1 = h.second in
    let k1 = k.second in
    let first = one_address pool.1.0 other.1.0 h1.front h1.back k1.front k1.back h1.first k1.first (sym h1.whole ∙ name.1 ∙ k1.whole) in
    let h2 = h1.second in
    let k2 = k1.second in
    let last = one_address pool.1.1 other.1.1 h2.front h2.back k2.front k2.back h2.first.0 k2.first.0 (sym h2.whole ∙ first.1 ∙ k2.whole) in
    λ i. (name.0 i, (first.0 i, last.0 i))

one_from : (source other : DynamicFrom) → from_word source ≡ from_word other → from_name source ≡ from_name other → source ≡ other
one_from (from.Pool name) (from.Pool name') word same = ap from.Pool same
one_from (from.Interface name) (from.Interface name') word same = ap from.Interface same
one_from (from.Pool name) (from.Interface name') word same = absurd (let no : codes "pool" ≡ codes "interface" = word in cc no)
one_from (from.Interface name) (from.Pool name') word same = absurd (let no : codes "interface" ≡ codes "pool" = word in cc no)

one_overload : (overload other : Bool) (words words' : Words) → words ≡ words' → IsOverload overload words → IsOverload other words' → overload ≡ other
one_overload overload other words words' same (IsOverload.none whole is) (IsOverload.none whole' is') = is ∙ sym is'
one_overload overload other words words' same (IsOverload.some whole is) (IsOverload.some whole' is') = is ∙ sym is'
one_overload overload other words words' same (IsOverload.none whole is) (IsOverload.some whole' is') = cc (whole, whole', same)
one_overload overload other words words' same (IsOverload.some whole is) (IsOverload.none whole' is') = cc (whole, whole', same)

-- a line of one number
pub one_dynamic_entry : (entry other : DynamicEntry) (words : Words) → entry.line ≡ other.line → IsDynamic false entry words → IsDynamic false other words → entry ≡ other
one_dynamic_entry entry other words line h k =
    let list = one_name (unmodelled kinds.Dynamic) entry.list other.list h.front h.back k.front k.back h.first k.first (sym h.whole ∙ k.whole) in
    let h1 = h.second in
    let k1 = k.second in
    let word = one_word h1.front h1.back k1.front k1.back (from_word entry.from) (from_word other.from) h1.first k1.first (sym h1.whole ∙ list.1 ∙ k1.whole) in
    let h2 = h1.second in
    let k2 = k1.second in
    let name = one_name (unmodelled kinds.Dynamic) (from_name entry.from) (from_name other.from) h2.front h2.back k2.front k2.back h2.first k2.first (sym h2.whole ∙ word.1 ∙ k2.whole) in
    let source = one_from entry.from other.from word.0 name.0 in
    let overload = one_overload entry.overload other.overload h2.back k2.back name.1 h2.second k2.second in
    λ i. record { line = line i; list = list.0 i; from = source i; overload = overload i }
