-- The first packet that answers a question gives the first request that does.
use Rattle.std.proofs.Common.{◌≡◌, ℕ, zero, suc, ◌<◌, ◌^◌, ◌&&◌, not, Bool, true, false, cond, List, [], ◌∷◌, ◌++◌, length, map, get_or, refl, sym, subst, ap, ap₂, ◌∙◌, ◌⊎◌, inl, inr, arith}
use Rattle.std.specs.List.{filter, list_all, AllByRecursion}
use Rattle.std.proofs.Math.Nat.{eq-zero-or-pos}
use Rattle.std.proofs.lemmas.Bool.{and_from, and_parts, false≢true}
use Rattle.cnf.specs.Order.{LexLe}
use Rattle.ios_acl.specs.declared.entry.Entry.{Entry}
use Rattle.ios_acl.specs.declared.entry.Verdict.{Verdict}
use Rattle.ios_acl.specs.declared.entry.Verdict.TheVariants as verdict
use Rattle.ios_acl.specs.declared.packet.Packet.{Packet}
use Rattle.ios_acl.specs.Decision.{decision}
use Rattle.sorted_logic.specs.declared.request.Field.{Field}
use Rattle.sorted_logic.specs.declared.request.Field.TheVariants as field
use Rattle.sorted_logic.specs.Field.{bits, packet_fields}
use Rattle.ios_config.specs.Request.{IsPacketIn, IsRequest, Request}
use Rattle.frame.specs.declared.question.Test.{Test}
use Rattle.frame.specs.Meaning.{HoldsFor, IsLeastPacket, decides, is_permit}
use Rattle.frame.specs.Question.{IsOfPacket, asked, passes}
use Rattle.frame.specs.Solution.{Solves}
use Rattle.frame.specs.Scenario.{IsFirst, IsNotBehind, request_of, same_test, signature, values, visible}

-- whether the list decides the packet so, and it passes the tests
abbrev pub answers : List Entry → Verdict → List Test → Packet → Bool
answers entries verdict tests packet = decides entries verdict packet && list_all (passes (request_of packet)) tests

is_permitted : (v : Verdict) → is_permit v ≡ true → v ≡ verdict.Permit
is_permitted verdict.Permit is_so = refl
is_permitted verdict.Deny is_so = absurd (false≢true is_so)

is_denied : (v : Verdict) → not (is_permit v) ≡ true → v ≡ verdict.Deny
is_denied verdict.Permit is_so = absurd (false≢true is_so)
is_denied verdict.Deny is_so = refl

decided_so : (entries : List Entry) (v : Verdict) (packet : Packet) → decides entries v packet ≡ true → (decision entries packet).0 ≡ v
decided_so entries verdict.Permit packet is_so = is_permitted (decision entries packet).0 is_so
decided_so entries verdict.Deny packet is_so = is_denied (decision entries packet).0 is_so

decides_so : (entries : List Entry) (v : Verdict) (packet : Packet) → (decision entries packet).0 ≡ v → decides entries v packet ≡ true
decides_so entries verdict.Permit packet is = ap is_permit is
decides_so entries verdict.Deny packet is = ap (λ v. not (is_permit v)) is

-- a request and the request of its packet have the same values in the fields of the packet
same_fields : (request : Request) (packet : Packet) → IsPacketIn request packet → AllByRecursion (λ f. request_of packet f ≡ request f) packet_fields
same_fields request packet is = (is.src, (is.dst, (is.sport, (is.dport, (is.proto, (is.flags, (is.icmp_type, (is.icmp_code, tt))))))))

contained : (P : Field → Type 0) (fs : List Field) (f : Field) → AllByRecursion P fs → (k : ℕ) → k < length fs → get_or fs k f ≡ f → P f
contained P [] f all k inside is = absurd (omega arith)
contained P (g ∷ fs) f all zero inside is = subst P is all.0
contained P (g ∷ fs) f all (suc k) inside is = contained P fs f all.1 k (omega arith) is

passes_same : (request : Request) (packet : Packet) (test : Test) → IsPacketIn request packet → IsOfPacket test → passes (request_of packet) test ≡ passes request test
passes_same request packet test is of =
    let same : request_of packet test.field ≡ request test.field = contained (λ f. request_of packet f ≡ request f) packet_fields test.field (same_fields request packet is) of.0 of.1 of.2 in
    rw same refl

pass_same : (request : Request) (packet : Packet) (tests : List Test) → IsPacketIn request packet → AllByRecursion IsOfPacket tests → list_all (passes (request_of packet)) tests ≡ list_all (passes request) tests
pass_same request packet [] is all = refl
pass_same request packet (test ∷ tests) is all = ap₂ ◌&&◌ (passes_same request packet test is all.0) (pass_same request packet tests is all.1)

within_bounds : (request : Request) (packet : Packet) → IsRequest request → IsPacketIn request packet → IsRequest (request_of packet)
within_bounds request packet small is = bounds
  where
    bounds : (f : Field) → request_of packet f < 2 ^ bits f
    bounds field.Entry = omega arith
    bounds field.SrcIn = omega (arith, is.src, small field.SrcIn)
    bounds field.DstIn = omega (arith, is.dst, small field.DstIn)
    bounds field.SportIn = omega (arith, is.sport, small field.SportIn)
    bounds field.DportIn = omega (arith, is.dport, small field.DportIn)
    bounds field.Proto = omega (arith, is.proto, small field.Proto)
    bounds field.Flags = omega (arith, is.flags, small field.Flags)
    bounds field.IcmpType = omega (arith, is.icmp_type, small field.IcmpType)
    bounds field.IcmpCode = omega (arith, is.icmp_code, small field.IcmpCode)
    bounds field.SrcOut = omega arith
    bounds field.DstOut = omega arith
    bounds field.SportOut = omega arith
    bounds field.DportOut = omega arith
    bounds field.NextHop = omega arith
    bounds field.Exit = omega arith

-- the packet of a request that solves the question answers it
pub packet_answers : (entries : List Entry) (v : Verdict) (tests : List Test) (request : Request) → AllByRecursion IsOfPacket tests → (solves : Solves (asked entries v tests) request) → HoldsFor (answers entries v tests) solves.packet
packet_answers entries v tests request of solves = record {
  is_request = within_bounds request solves.packet solves.is_request solves.comes_in;
  passes =
      and_from (decides entries v solves.packet) (list_all (passes (request_of solves.packet)) tests) (decides_so entries v solves.packet solves.decided)
      (pass_same request solves.packet tests solves.comes_in of ∙ solves.tests);
}

-- and the request of a packet that answers it solves it
packet_solves : (entries : List Entry) (v : Verdict) (tests : List Test) (packet : Packet) → HoldsFor (answers entries v tests) packet → Solves (asked entries v tests) (request_of packet)
packet_solves entries v tests packet holds =
    let parts = and_parts (decides entries v packet) (list_all (passes (request_of packet)) tests) holds.passes in
    record {
      is_request = holds.is_request;
      packet = packet;
      comes_in = record { src = refl; dst = refl; sport = refl; dport = refl; proto = refl; flags = refl; icmp_type = refl; icmp_code = refl };
      decided = decided_so entries v packet parts.0;
      tests = parts.1;
    }

list_all-filter : (p keep : Test → Bool) (tests : List Test) → list_all p tests ≡ true → list_all p (filter keep tests) ≡ true
list_all-filter p keep [] all = refl
list_all-filter p keep (test ∷ tests) all =
    let parts = and_parts (p test) (list_all p tests) all in
    kept (keep test) parts.0 (list_all-filter p keep tests parts.1)
  where
    kept : (b : Bool) → p test ≡ true → list_all p (filter keep tests) ≡ true → list_all p (cond b (test ∷ filter keep tests) (filter keep tests)) ≡ true
    kept true one rest = and_from (p test) (list_all p (filter keep tests)) one rest
    kept false one rest = rest

list_all-visible : (p : Test → Bool) (tests : List Test) → list_all p tests ≡ true → list_all p (visible tests) ≡ true
list_all-visible p [] all = refl
list_all-visible p (test ∷ tests) all =
    let parts = and_parts (p test) (list_all p tests) all in
    and_from (p test) (list_all p (filter (λ other. not (same_test test other)) (visible tests))) parts.0
    (list_all-filter p (λ other. not (same_test test other)) (visible tests) (list_all-visible p tests parts.1))

map_true : (p : Test → Bool) (tests : List Test) → list_all p tests ≡ true → map p tests ≡ map (λ test. true) tests
map_true p [] all = refl
map_true p (test ∷ tests) all =
    let parts = and_parts (p test) (list_all p tests) all in
    ap₂ ◌∷◌ parts.0 (map_true p tests parts.1)

-- all solutions pass all tests
full_signature : (entries : List Entry) (v : Verdict) (tests : List Test) (request : Request) → Solves (asked entries v tests) request → signature (asked entries v tests) request ≡ map (λ test. true) (visible tests)
full_signature entries v tests request solves = map_true (passes request) (visible tests) (list_all-visible (passes request) tests solves.tests)

LexLe-refl : (xs : List Bool) → LexLe xs xs
LexLe-refl [] = tt
LexLe-refl (true ∷ xs) = LexLe-refl xs
LexLe-refl (false ∷ xs) = LexLe-refl xs

map_same : (one other : Field → ℕ) (fs : List Field) → AllByRecursion (λ f. one f ≡ other f) fs → map one fs ≡ map other fs
map_same one other [] all = refl
map_same one other (f ∷ fs) all = ap₂ ◌∷◌ all.0 (map_same one other fs all.1)

-- where the fronts are not behind, nor are the rests, the lists are not
IsNotBehind-append : (xs ys us vs : List ℕ) → length xs ≡ length ys → IsNotBehind xs ys → IsNotBehind us vs → IsNotBehind (xs ++ us) (ys ++ vs)
IsNotBehind-append [] [] us vs same front rest = rest
IsNotBehind-append [] (y ∷ ys) us vs same front rest = absurd (omega arith)
IsNotBehind-append (x ∷ xs) [] us vs same front rest = absurd front
IsNotBehind-append (x ∷ xs) (y ∷ ys) us vs same (inl less) rest = inl less
IsNotBehind-append (x ∷ xs) (y ∷ ys) us vs same (inr equal) rest = inr (equal.0, IsNotBehind-append xs ys us vs (omega arith) equal.1 rest)

zeros_first : (fs : List Field) (request : Request) → IsNotBehind (map (λ f. 0) fs) (map request fs)
zeros_first [] request = tt
zeros_first (f ∷ fs) request = next (eq-zero-or-pos (request f)) (zeros_first fs request)
  where
    next : (request f ≡ 0) ⊎ (0 < request f) → IsNotBehind (map (λ g. 0) fs) (map request fs) → (0 < request f) ⊎ ((0 ≡ request f) × IsNotBehind (map (λ g. 0) fs) (map request fs))
    next (inl none) rest = inr (sym none, rest)
    next (inr some) rest = inl some

-- the fields that come after those of the packet
abbrev later_fields : List Field
later_fields = field.SrcOut ∷ field.DstOut ∷ field.SportOut ∷ field.DportOut ∷ field.NextHop ∷ field.Exit ∷ []

-- the other fields are 0, which no value is before
values_first : (packet : Packet) (request : Request) → IsNotBehind (map (request_of packet) packet_fields) (map request packet_fields) → IsNotBehind (values (request_of packet)) (values request)
values_first packet request front = next (eq-zero-or-pos (request field.Entry))
  where
    rest : IsNotBehind (map (request_of packet) packet_fields ++ map (λ f. 0) later_fields) (map request packet_fields ++ map request later_fields)
    rest = IsNotBehind-append (map (request_of packet) packet_fields) (map request packet_fields) (map (λ f. 0) later_fields) (map request later_fields) refl front (zeros_first later_fields request)

    next : (request field.Entry ≡ 0) ⊎ (0 < request field.Entry) → IsNotBehind (values (request_of packet)) (values request)
    next (inl none) = inr (sym none, rest)
    next (inr some) = inl some

pub first_request : (entries : List Entry) (v : Verdict) (tests : List Test) (packet : Packet) → AllByRecursion IsOfPacket tests → IsLeastPacket (answers entries v tests) packet → IsFirst (asked entries v tests) (request_of packet)
first_request entries v tests packet of found =
    let solves = packet_solves entries v tests packet found.holds in
    record {
      solves = solves;
      least_signature = λ other solved.
          subst (LexLe (signature (asked entries v tests) (request_of packet))) (full_signature entries v tests (request_of packet) solves ∙ sym (full_signature entries v tests other solved))
          (LexLe-refl (signature (asked entries v tests) (request_of packet)));
      least_values = λ other solved same.
          let fields : map (request_of solved.packet) packet_fields ≡ map other packet_fields = map_same (request_of solved.packet) other packet_fields (same_fields other solved.packet solved.comes_in) in
          values_first packet other (subst (IsNotBehind (map (request_of packet) packet_fields)) fields (found.least solved.packet (packet_answers entries v tests other of solved)));
    }
