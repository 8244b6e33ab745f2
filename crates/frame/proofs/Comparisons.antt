-- Clauses of two lists: their models show packets, and packets have models.
use Rattle.std.proofs.Common.{◌≡◌, ℕ, ◌<◌, ◌&&◌, not, Bool, true, false, List, [], ◌∷◌, length, map, take, drop, get_or, zero, suc, refl, sym, subst, ap, ap₂, ◌∙◌, arith, if◌then◌else◌}
use Rattle.std.specs.Bool.{beq}
use Rattle.std.specs.List.{list_all, slice_range}
use Rattle.std.proofs.lemmas.Bool.{and_from, and_parts, false≢true}
use Rattle.std.proofs.lemmas.List.{drop-map, get_or-map, length-map}
use Rattle.std.proofs.lemmas.List.Sums.{count_by-le-length}
use Rattle.circuit.specs.declared.gate.Gate.{Gate}
use Rattle.circuit.specs.Clauses.{circuit_formula, completion}
use Rattle.circuit.specs.Least.{Satisfies}
use Rattle.circuit.specs.Least as inputs
use Rattle.circuit.specs.Value.{AreNodes, Grows, IsCircuit, is_input, value}
use Rattle.circuit.proofs.Completion.{begins_least, models_of}
use Rattle.circuit.proofs.Extend.{Grows-extends}
use Rattle.ios_acl.specs.declared.entry.Entry.{Entry}
use Rattle.ios_acl.specs.declared.packet.Packet.{Packet}
use Rattle.decision_diagram.specs.Table.{Table, value_in}
use Rattle.frame.specs.declared.comparison.Comparison.{Comparison}
use Rattle.frame.specs.declared.comparison.Comparison.TheVariants as comparison
use Rattle.frame.specs.Bits.{IsPacketOf}
use Rattle.frame.specs.Comparing.{AreClausesOfTwo, IsShown, asks, compared}
use Rattle.frame.specs.Meaning.{HasInputs, Means, permits}
use Rattle.frame.specs.PacketDiagrams.{AreDifferences}
use Rattle.frame.specs.Verdicts.{AsksFor, chosen, shows, shows_nodes}
use Rattle.frame.proofs.Nodes.{HasInputs-extends}
use Rattle.frame.proofs.FieldPlaces.{IsPacketOf-bits, bits_of_packet}

-- the bits behind the first two values
bits_behind : (values : List Bool) → drop 2 (take 128 values) ≡ slice_range values 2 128
bits_behind [] = refl
bits_behind (a ∷ []) = refl
bits_behind (a ∷ (b ∷ values)) = refl

first_kept : (values : List Bool) → get_or (take 128 values) 0 false ≡ get_or values 0 false
first_kept [] = refl
first_kept (a ∷ values) = refl

second_kept : (values : List Bool) → get_or (take 128 values) 1 false ≡ get_or values 1 false
second_kept [] = refl
second_kept (a ∷ []) = refl
second_kept (a ∷ (b ∷ values)) = refl

same_bits : (a b : Bool) → beq a b ≡ true → a ≡ b
same_bits true true same = refl
same_bits false false same = refl
same_bits true false same = absurd (false≢true same)
same_bits false true same = absurd (false≢true same)

same_itself : (a : Bool) → beq a a ≡ true
same_itself true = refl
same_itself false = refl

-- values that show a packet
is_shown : (asked : Comparison) (first second : List Entry) (values : List Bool) (packet : Packet) → shows asked values (permits first packet) (permits second packet) ≡ true → IsShown asked first second values packet
is_shown asked first second values packet holds =
    let v = get_or values 0 false in
    let w = get_or values 1 false in
    let both = and_parts (asks asked v w) (beq v (permits first packet) && beq w (permits second packet)) holds in
    let each = and_parts (beq v (permits first packet)) (beq w (permits second packet)) both.1 in
    let one = same_bits v (permits first packet) each.0 in
    let two = same_bits w (permits second packet) each.1 in
    record { first_permits = one; second_permits = two; as_asked = ap₂ (asks asked) (sym one) (sym two) ∙ both.0 }

shows_itself : (asked : Comparison) (p q : Bool) (bits : List Bool) → asks asked p q ≡ true → shows asked (p ∷ (q ∷ bits)) p q ≡ true
shows_itself asked p q bits so = and_from (asks asked p q) (beq p p && beq q q) so (and_from (beq p p) (beq q q) (same_itself p) (same_itself q))

unless_true : (b : Bool) → (b ≡ true → ⊥) → b ≡ false
unless_true true never = absurd (never refl)
unless_true false never = refl

-- clauses of a root that asks for it
pub clauses_of_two : (gates : List Gate) (root : ℕ) (asked : Comparison) (first second : List Entry) → AsksFor asked first second gates root → IsCircuit gates → AreClausesOfTwo asked first second (circuit_formula gates root)
clauses_of_two gates root asked first second asks circuit =
    let models = models_of gates root circuit asks.within in
    let few = count_by-le-length is_input gates in
    let solves : (bits : List Bool) (packet : Packet) → IsPacketOf bits packet → compared asked first second packet ≡ true → Satisfies gates root (permits first packet ∷ (permits second packet ∷ bits)) = λ bits packet is so. record {
      count = omega (arith, is.count, asks.inputs);
      holds = asks.value (permits first packet ∷ (permits second packet ∷ bits)) packet (omega (arith, is.count)) is ∙ shows_itself asked (permits first packet) (permits second packet) bits so;
    } in
    record {
      bits = omega (arith, few, asks.inputs);
      shown = λ values packet model is.
          let given : Satisfies gates root (take 128 values) = subst (λ n. Satisfies gates root (take n values)) asks.inputs (models.given values model) in
          let shown : shows asked (take 128 values) (permits first packet) (permits second packet) ≡ true = sym (asks.value (take 128 values) packet (given.count ∙ asks.inputs) (rw (bits_behind values) is)) ∙ given.holds in
          is_shown asked first second values packet (rw (first_kept values, second_kept values) at shown);
      least = λ values bits packet is_least is so.
          let begins : inputs.IsLeast gates root (take 128 values) = subst (λ n. inputs.IsLeast gates root (take n values)) asks.inputs (begins_least gates root circuit asks.within values is_least) in
          begins.least (permits first packet ∷ (permits second packet ∷ bits)) (solves bits packet is so);
      none = λ no_model packet small. unless_true (compared asked first second packet) (λ so.
          let satisfies = solves (bits_of_packet packet) packet (IsPacketOf-bits packet small) so in
          no_model (completion gates (permits first packet ∷ (permits second packet ∷ bits_of_packet packet))) (models.model (permits first packet ∷ (permits second packet ∷ bits_of_packet packet)) satisfies));
    }

-- a root over the nodes of what two lists permit
pub asks_by_nodes : (lists gates : List Gate) (nodes verdicts : List ℕ) (root : ℕ) (asked : Comparison) (first second : List Entry) → HasInputs 128 gates nodes → root < length gates
    → Means lists (get_or verdicts 0 0) (permits first) → Means lists (get_or verdicts 1 0) (permits second)
    → ((values : List Bool) → length values ≡ 128 → value gates values root ≡ shows_nodes asked lists verdicts values)
    → AsksFor asked first second gates root
asks_by_nodes lists gates nodes verdicts root asked first second has within means also worth = record {
  inputs = has.inputs;
  within = within;
  value = λ values packet long is. worth values long ∙ ap₂ (shows asked values) (means.value (drop 2 values) packet is) (also.value (drop 2 values) packet is);
}

-- where one of two lists alone permits, their verdicts are told by the first value
told : (asked : Comparison) (v w p q : Bool) → (asks asked v w && (if v then p && not q else not p && q)) ≡ (asks asked v w && (beq v p && beq w q))
told comparison.Differs true true p q = refl
told comparison.Differs false false p q = refl
told comparison.Differs true false true true = refl
told comparison.Differs true false true false = refl
told comparison.Differs true false false q = refl
told comparison.Differs false true true q = refl
told comparison.Differs false true false true = refl
told comparison.Differs false true false false = refl
told comparison.Widens true w p q = refl
told comparison.Widens false false p q = refl
told comparison.Widens false true true q = refl
told comparison.Widens false true false true = refl
told comparison.Widens false true false false = refl

-- a root over the diagrams of what each list alone permits
pub asks_by_differences : (table : Table) (gates : List Gate) (nodes : List ℕ) (only_first only_second root : ℕ) (asked : Comparison) (first second : List Entry) → HasInputs 128 gates nodes → root < length gates
    → AreDifferences first second table only_first only_second
    → ((values : List Bool) → length values ≡ 128 → value gates values root ≡ chosen asked values (value_in table only_first (drop 2 values)) (value_in table only_second (drop 2 values)))
    → AsksFor asked first second gates root
asks_by_differences table gates nodes only_first only_second root asked first second has within differ worth = record {
  inputs = has.inputs;
  within = within;
  value = λ values packet long is.
      worth values long
      ∙ ap₂ (chosen asked values) (differ.first_alone.value (drop 2 values) packet is) (differ.second_alone.value (drop 2 values) packet is)
      ∙ told asked (get_or values 0 false) (get_or values 1 false) (permits first packet) (permits second packet);
}

pub all_moved : (f g : ℕ → Bool) (xs ys : List ℕ) → map f xs ≡ map g ys → length xs ≡ length ys
all_moved f g xs ys moved = sym (length-map xs f) ∙ ap length moved ∙ length-map ys g

-- what inputs and the bits behind the first two are worth
input_at : (gates : List Gate) (nodes : List ℕ) (values : List Bool) (i : ℕ) → HasInputs 128 gates nodes → length values ≡ 128 → i < 128 → value gates values (get_or nodes i 0) ≡ get_or values i false
input_at gates nodes values i has long inside = sym (get_or-map (value gates values) nodes i 0 false (omega (arith, inside, has.count_is))) ∙ ap (λ vs. get_or vs i false) (has.values values long)

bits_at : (gates : List Gate) (nodes : List ℕ) (values : List Bool) → HasInputs 128 gates nodes → length values ≡ 128 → map (value gates values) (drop 2 nodes) ≡ drop 2 values
bits_at gates nodes values has long = sym (drop-map (value gates values) 2 nodes) ∙ ap (drop 2) (has.values values long)

-- what the nodes of a comparison are worth
pub gates_show : (lists g0 g1 g2 g3 g4 : List Gate) (nodes verdicts permitted : List ℕ) (asked_node first_node second_node : ℕ) (asked : Comparison) (root : Bool) (values : List Bool)
    → HasInputs 128 g0 nodes → Grows g0 g1 → Grows g1 g2 → Grows g2 g3 → Grows g3 g4 → length values ≡ 128 → length verdicts ≡ 2
    → AreNodes g1 permitted → map (value g1 values) permitted ≡ map (value lists (map (value g0 values) (drop 2 nodes))) verdicts
    → asked_node < length g2 → value g2 values asked_node ≡ asks asked (value g1 values (get_or nodes 0 0)) (value g1 values (get_or nodes 1 0))
    → first_node < length g3 → value g3 values first_node ≡ beq (value g2 values (get_or nodes 0 0)) (value g2 values (get_or permitted 0 0))
    → value g4 values second_node ≡ beq (value g3 values (get_or nodes 1 0)) (value g3 values (get_or permitted 1 0))
    → root ≡ list_all (value g4 values) (asked_node ∷ (first_node ∷ (second_node ∷ [])))
    → root ≡ shows asked values (value lists (drop 2 values) (get_or verdicts 0 0)) (value lists (drop 2 values) (get_or verdicts 1 0))
gates_show lists g0 g1 g2 g3 g4 nodes verdicts permitted asked_node first_node second_node asked root values has w1 w2 w3 w4 long two within moved asked_in asked_is first_in first_is second_is root_is =
    let e2 = Grows-extends g1 g2 w2 in
    let e3 = Grows-extends g2 g3 w3 in
    let e4 = Grows-extends g3 g4 w4 in
    let h1 = HasInputs-extends 128 g0 g1 nodes has w1 in
    let h2 = HasInputs-extends 128 g1 g2 nodes h1 w2 in
    let h3 = HasInputs-extends 128 g2 g3 nodes h2 w3 in
    let some : length permitted ≡ 2 = all_moved (value g1 values) (value lists (map (value g0 values) (drop 2 nodes))) permitted verdicts moved ∙ two in
    let bits : map (value g0 values) (drop 2 nodes) ≡ drop 2 values = bits_at g0 nodes values has long in
    let worth : map (value g1 values) permitted ≡ map (value lists (drop 2 values)) verdicts = moved ∙ ap (λ bs. map (value lists bs) verdicts) bits in
    let verdict : (i : ℕ) → i < 2 → value g1 values (get_or permitted i 0) ≡ value lists (drop 2 values) (get_or verdicts i 0) = λ i inside.
    sym (get_or-map (value g1 values) permitted i 0 false (omega (arith, inside, some))) ∙ ap (λ vs. get_or vs i false) worth ∙ get_or-map (value lists (drop 2 values)) verdicts i 0 false (omega (arith, inside, two)) in
    let node_in : (i : ℕ) → i < 2 → get_or permitted i 0 < length g1 = λ i inside. node_within g1 permitted i within (omega (arith, inside, some)) in
    let one = e2.older values (get_or permitted 0 0) (node_in 0 (omega arith)) ∙ verdict 0 (omega arith) in
    let other = e3.older values (get_or permitted 1 0) (omega (arith, node_in 1 (omega arith), e2.longer)) ∙ e2.older values (get_or permitted 1 0) (node_in 1 (omega arith)) ∙ verdict 1 (omega arith) in
    let asked_now = e4.older values asked_node (omega (arith, asked_in, e3.longer)) ∙ e3.older values asked_node asked_in ∙ asked_is ∙ ap₂ (asks asked) (input_at g1 nodes values 0 h1 long (omega arith)) (input_at g1 nodes values 1 h1 long (omega arith)) in
    let first_now = e4.older values first_node first_in ∙ first_is ∙ ap₂ beq (input_at g2 nodes values 0 h2 long (omega arith)) one in
    let second_now = second_is ∙ ap₂ beq (input_at g3 nodes values 1 h3 long (omega arith)) other in
    root_is ∙ rw (asked_now, first_now, second_now) (all_three (asks asked (get_or values 0 false) (get_or values 1 false)) (beq (get_or values 0 false) (value lists (drop 2 values) (get_or verdicts 0 0))) (beq (get_or values 1 false) (value lists (drop 2 values) (get_or verdicts 1 0))))
  where
    all_three : (a b c : Bool) → (a && (b && (c && true))) ≡ (a && (b && c))
    all_three true true true = refl
    all_three true true false = refl
    all_three true false c = refl
    all_three false b c = refl

    node_within : (gates : List Gate) (nodes : List ℕ) (i : ℕ) → AreNodes gates nodes → i < length nodes → get_or nodes i 0 < length gates
    node_within gates [] i all inside = absurd (omega (arith, inside))
    node_within gates (n ∷ nodes) zero all inside = all.0
    node_within gates (n ∷ nodes) (suc i) all inside = node_within gates nodes i all.1 (omega (arith, inside))

-- what the nodes of two diagrams are worth, of which the first input chooses one
pub one_of_two_is : (table : Table) (g0 g1 g2 g3 g4 : List Gate) (nodes : List ℕ) (first second choice_node asked_node only_first only_second : ℕ) (asked : Comparison) (root : Bool) (values : List Bool)
    → HasInputs 128 g0 nodes → Grows g0 g1 → Grows g1 g2 → Grows g2 g3 → Grows g3 g4 → length values ≡ 128
    → first < length g1 → value g1 values first ≡ value_in table only_first (map (value g0 values) (drop 2 nodes))
    → second < length g2 → value g2 values second ≡ value_in table only_second (map (value g1 values) (drop 2 nodes))
    → choice_node < length g3 → value g3 values choice_node ≡ (if value g2 values (get_or nodes 0 0) then value g2 values first else value g2 values second)
    → value g4 values asked_node ≡ asks asked (value g3 values (get_or nodes 0 0)) (value g3 values (get_or nodes 1 0))
    → root ≡ list_all (value g4 values) (asked_node ∷ (choice_node ∷ []))
    → root ≡ chosen asked values (value_in table only_first (drop 2 values)) (value_in table only_second (drop 2 values))
one_of_two_is table g0 g1 g2 g3 g4 nodes first second choice_node asked_node only_first only_second asked root values has w1 w2 w3 w4 long first_in first_is second_in second_is choice_in choice_is asked_is root_is =
    let e2 = Grows-extends g1 g2 w2 in
    let e4 = Grows-extends g3 g4 w4 in
    let h1 = HasInputs-extends 128 g0 g1 nodes has w1 in
    let h2 = HasInputs-extends 128 g1 g2 nodes h1 w2 in
    let h3 = HasInputs-extends 128 g2 g3 nodes h2 w3 in
    let one = e2.older values first first_in ∙ first_is ∙ ap (value_in table only_first) (bits_at g0 nodes values has long) in
    let other = second_is ∙ ap (value_in table only_second) (bits_at g1 nodes values h1 long) in
    let choice_now = e4.older values choice_node choice_in ∙ choice_is ∙ rw (one, other, input_at g2 nodes values 0 h2 long (omega arith)) refl in
    let asked_now = asked_is ∙ ap₂ (asks asked) (input_at g3 nodes values 0 h3 long (omega arith)) (input_at g3 nodes values 1 h3 long (omega arith)) in
    root_is ∙ rw (asked_now, choice_now) (both_of (asks asked (get_or values 0 false) (get_or values 1 false)) (if get_or values 0 false then value_in table only_first (drop 2 values) else value_in table only_second (drop 2 values)))
  where
    both_of : (a b : Bool) → (a && (b && true)) ≡ (a && b)
    both_of true true = refl
    both_of true false = refl
    both_of false b = refl
