-- What the source of a packet may become, as a choice has it.
use Rattle.std.proofs.Common.{◌≡◌, ℕ, ◌≤◌, ◌↔◌, Bool, true, false, cond, nat_lt, List, Option, Some, None, ◌&&◌, refl, sym, ap, ◌∙◌, arith}
use Rattle.std.specs.Option.{option_and_then}
use Rattle.std.proofs.lemmas.Bool.Decides.{nat_tests}
use Rattle.ios_acl.specs.List.{AccessList}
use Rattle.ios_acl.specs.declared.packet.Packet.{Packet}
use Rattle.ios_nat.specs.Table.{Table}
use Rattle.ios_nat.specs.declared.entry.DynamicEntry.{DynamicEntry}
use Rattle.ios_route.specs.Interfaces.{Interface}
use Rattle.ios_config.specs.declared.source_choice.SourceChoice.{SourceChoice}
use Rattle.ios_config.specs.Sources as specs
use Rattle.ios_config.specs.Choices.{alone, ranged, shared}
use Rattle.ios_config.specs.Sources.{counting, fixed, global_range, goes_out, has_ports, IsAmong, IsShared, IsSource, IsWithin, own, port_range}

not_below : (first last n : ℕ) → IsWithin (first, last) n → nat_lt last first ≡ false
not_below first last n within = grind (arith, nat_tests)

at_most : (first last : ℕ) → nat_lt last first ≡ false → first ≤ last
at_most first last is = grind (arith, nat_tests)

-- a choice of one source
alone_is : (source : ℕ × ℕ) (address port : ℕ) → IsAmong (Some (alone source)) address port → (address, port) ≡ source
alone_is source address port among =
    let a : address ≡ source.0 = omega (arith, among.0.0, among.0.1) in
    let p : port ≡ source.1 = omega (arith, among.1.0, among.1.1) in
    λ i. (a i, p i)

is_alone : (source : ℕ × ℕ) (address port : ℕ) → (address, port) ≡ source → IsAmong (Some (alone source)) address port
is_alone source address port same =
    let a : address ≡ source.0 = ap (λ (s : ℕ × ℕ). s.0) same in
    let p : port ≡ source.1 = ap (λ (s : ℕ × ℕ). s.1) same in
    ((omega arith, omega arith), (omega arith, omega arith))

-- some source lies within the choice
abbrev pub IsFull : Option SourceChoice → Type 0
IsFull None = Unit {0}
IsFull (Some choice) = (choice.first ≤ choice.last) × (choice.low ≤ choice.high)

pub alone_full : (source : ℕ × ℕ) → IsFull (Some (alone source))
alone_full source = (omega arith, omega arith)

-- no source where there is no choice, and only there
pub no_source : (IsOne : ℕ → ℕ → Type 0) (result : Option SourceChoice) → IsFull result → ((address port : ℕ) → IsAmong result address port ↔ IsOne address port)
    → (result ≡ None) ↔ ((address port : ℕ) → IsOne address port → ⊥)
no_source IsOne None full some = (λ _ address port one. (some address port).1 one, λ _. refl)
no_source IsOne (Some choice) full some =
    (λ none address port one. absurd (cc none), λ no. absurd (no choice.first choice.low ((some choice.first choice.low).0 ((omega arith, full.0), (omega arith, full.1)))))

-- the choice between addresses and ports
ranged_within : (addresses ports : ℕ × ℕ) (address port : ℕ) → IsAmong (ranged addresses ports) address port → IsWithin addresses address × IsWithin ports port
ranged_within addresses ports address port = by (nat_lt addresses.1 addresses.0)
  where
    by : (empty : Bool) → IsAmong (cond empty None (Some (record { first = addresses.0; last = addresses.1; low = ports.0; high = ports.1 }))) address port → IsWithin addresses address × IsWithin ports port
    by true among = absurd among
    by false among = among

within_ranged : (addresses ports : ℕ × ℕ) (address port : ℕ) → IsWithin addresses address → IsWithin ports port → IsAmong (ranged addresses ports) address port
within_ranged addresses ports address port one given = let whole : nat_lt addresses.1 addresses.0 ≡ false = not_below addresses.0 addresses.1 address one in rw whole (one, given)

ranged_full : (addresses ports : ℕ × ℕ) → ports.0 ≤ ports.1 → IsFull (ranged addresses ports)
ranged_full addresses ports order = by (nat_lt addresses.1 addresses.0) refl
  where
    by : (empty : Bool) → nat_lt addresses.1 addresses.0 ≡ empty → IsFull (cond empty None (Some (record { first = addresses.0; last = addresses.1; low = ports.0; high = ports.1 })))
    by true is = tt
    by false is = (at_most addresses.0 addresses.1 is, order)

ports_rise : (overload : Bool) (packet : Packet) → (port_range overload packet).0 ≤ (port_range overload packet).1
ports_rise overload packet = by (overload && has_ports packet)
  where
    by : (many : Bool) → (let range : ℕ × ℕ = cond many (1, 65535) (packet.sport, packet.sport) in range.0 ≤ range.1)
    by true = omega arith
    by false = omega arith

-- what a dynamic entry gives
among_shared : (interfaces : List Interface) (table : Table) (packet : Packet) (dynamic : DynamicEntry) (address port : ℕ) → IsAmong (shared interfaces table packet dynamic) address port
    → IsShared interfaces table packet dynamic address port
among_shared interfaces table packet dynamic address port = by (global_range interfaces table dynamic.from) refl
  where
    by : (range : Option (ℕ × ℕ)) → global_range interfaces table dynamic.from ≡ range
        → IsAmong (option_and_then (λ (addresses : ℕ × ℕ). ranged addresses (port_range dynamic.overload packet)) range) address port → IsShared interfaces table packet dynamic address port
    by None is among = absurd among
    by (Some addresses) is among =
        let within = ranged_within addresses (port_range dynamic.overload packet) address port among in
        record { addresses = addresses; are_global = is; one_of_them = within.0; one_of_its = within.1 }

shared_among : (interfaces : List Interface) (table : Table) (packet : Packet) (dynamic : DynamicEntry) (address port : ℕ) → IsShared interfaces table packet dynamic address port
    → IsAmong (shared interfaces table packet dynamic) address port
shared_among interfaces table packet dynamic address port gives =
    let is = gives.are_global in rw is (within_ranged gives.addresses (port_range dynamic.overload packet) address port gives.one_of_them gives.one_of_its)

pub shared_full : (interfaces : List Interface) (table : Table) (packet : Packet) (dynamic : DynamicEntry) → IsFull (shared interfaces table packet dynamic)
shared_full interfaces table packet dynamic = by (global_range interfaces table dynamic.from)
  where
    by : (range : Option (ℕ × ℕ)) → IsFull (option_and_then (λ (addresses : ℕ × ℕ). ranged addresses (port_range dynamic.overload packet)) range)
    by None = tt
    by (Some addresses) = ranged_full addresses (port_range dynamic.overload packet) (ports_rise dynamic.overload packet)

module _ (lists : List AccessList) (interfaces : List Interface) (table : Table) (entry exit : ℕ) (packet : Packet) where
  abbrev IsOne : ℕ → ℕ → Type 0
  IsOne = IsSource lists interfaces table entry exit packet

  pub stays : goes_out interfaces entry exit ≡ false → (address port : ℕ) → IsAmong (Some (alone (own packet))) address port ↔ IsOne address port
  stays inner address port = (λ among. specs.stays inner (alone_is (own packet) address port among), back)
    where
      back : IsOne address port → IsAmong (Some (alone (own packet))) address port
      back (specs.stays _ same) = is_alone (own packet) address port same
      back (specs.by_static out _) = absurd (cc (out, inner))
      back (specs.by_dynamic _ out _ _ _) = absurd (cc (out, inner))
      back (specs.uncounted out _ _ _) = absurd (cc (out, inner))

  pub by_static : goes_out interfaces entry exit ≡ true → (source : ℕ × ℕ) → fixed table packet ≡ Some source → (address port : ℕ) → IsAmong (Some (alone source)) address port ↔ IsOne address port
  by_static out source is address port = (λ among. specs.by_static out (is ∙ ap Some (sym (alone_is source address port among))), back)
    where
      back : IsOne address port → IsAmong (Some (alone source)) address port
      back (specs.stays inner _) = absurd (cc (out, inner))
      back (specs.by_static _ other) = let same : (address, port) ≡ source = cc (is, other) in is_alone source address port same
      back (specs.by_dynamic _ _ none _ _) = absurd (cc (none, is))
      back (specs.uncounted _ none _ _) = absurd (cc (none, is))

  pub uncounted : goes_out interfaces entry exit ≡ true → fixed table packet ≡ None → counting lists table.dynamic packet ≡ None
      → (address port : ℕ) → IsAmong (Some (alone (own packet))) address port ↔ IsOne address port
  uncounted out none counts address port = (λ among. specs.uncounted out none counts (alone_is (own packet) address port among), back)
    where
      back : IsOne address port → IsAmong (Some (alone (own packet))) address port
      back (specs.stays _ same) = is_alone (own packet) address port same
      back (specs.by_static _ is) = absurd (cc (none, is))
      back (specs.by_dynamic _ _ _ is _) = absurd (cc (counts, is))
      back (specs.uncounted _ _ _ same) = is_alone (own packet) address port same

  pub by_dynamic : goes_out interfaces entry exit ≡ true → fixed table packet ≡ None → (dynamic : DynamicEntry) → counting lists table.dynamic packet ≡ Some dynamic
      → (address port : ℕ) → IsAmong (shared interfaces table packet dynamic) address port ↔ IsOne address port
  by_dynamic out none dynamic counts address port = (λ among. specs.by_dynamic dynamic out none counts (among_shared interfaces table packet dynamic address port among), back)
    where
      back : IsOne address port → IsAmong (shared interfaces table packet dynamic) address port
      back (specs.stays inner _) = absurd (cc (out, inner))
      back (specs.by_static _ is) = absurd (cc (none, is))
      back (specs.by_dynamic other _ _ is gives) = let same : other ≡ dynamic = cc (counts, is) in shared_among interfaces table packet dynamic address port (rw same at gives)
      back (specs.uncounted _ _ is _) = absurd (cc (counts, is))
