-- The nodes of a circuit over the bits of a packet: what new ones mean, and that older ones keep their meaning.
use Rattle.std.proofs.Common.{◌≡◌, ℕ, ◌+◌, ◌<◌, ◌&&◌, not, Bool, true, false, List, [], ◌∷◌, ◌++◌, length, map, take, Result, Ok, Err, IfOk, sym, ap, ap₂, ◌∙◌, arith}
use Rattle.std.specs.List.{list_all}
use Rattle.std.proofs.lemmas.List.{map_push, take_more}
use Rattle.circuit.specs.declared.gate.Gate.{Gate}
use Rattle.circuit.specs.declared.gate.Gate.TheVariants as gate
use Rattle.circuit.specs.Gates.{with_input}
use Rattle.circuit.specs.Number.{number}
use Rattle.circuit.specs.Value.{AreNodes, Extends, Grows, input_count, value, value_at}
use Rattle.circuit.proofs.Extend.{AreNodes-extends, Extends-trans, Grows-extends, map-extends, input_count-append}
use Rattle.ios_acl.specs.declared.packet.Packet.{Packet}
use Rattle.sorted_logic.specs.declared.request.Field.{Field}
use Rattle.frame.specs.Bits.{field_bits}
use Rattle.frame.specs.Meaning.{Adds, HasBits, HasInputs, Means}
use Rattle.frame.specs.Scenario.{request_of}
use Rattle.frame.proofs.FieldPlaces.{field_value}

-- more gates without inputs leave the bits as they are
pub HasInputs-extends : (count : ℕ) (old new : List Gate) (bits : List ℕ) → HasInputs count old bits → Grows old new → HasInputs count new bits
HasInputs-extends count old new bits has grows =
    let extends : Extends old new = Grows-extends old new grows in
    record {
      nodes_within = AreNodes-extends old new extends bits has.nodes_within;
      count_is = has.count_is;
      inputs = grows.inputs ∙ has.inputs;
      values = λ inputs long. map-extends old new extends inputs bits has.nodes_within ∙ has.values inputs long;
    }

pub HasBits-extends : (old new : List Gate) (bits : List ℕ) → HasBits old bits → Grows old new → HasBits new bits
HasBits-extends old new bits has grows = HasInputs-extends 126 old new bits has grows

-- a circuit with one input more
pub input_more : (gates : List Gate) → input_count (with_input gates) ≡ input_count gates + 1
input_more gates = input_count-append gates (gate.Input (input_count gates) ∷ [])

-- the bits so far with the next input behind them
pub bits_more : (old new : List Gate) (bits : List ℕ) (node count : ℕ) (inputs : List Bool) → Extends old new → AreNodes old bits → map (value old inputs) bits ≡ take count inputs → value new inputs node ≡ value_at inputs count → count < length inputs → map (value new inputs) (bits ++ node ∷ []) ≡ take (count + 1) inputs
bits_more old new bits node count inputs extends nodes front next inside =
    map_push (value new inputs) bits node
    ∙ rw (map-extends old new extends inputs bits nodes, front, next) (sym (take_more inputs count false inside))

-- a node over the bits of a field means what it says of their number
pub means_of_field : (old new : List Gate) (bits nodes : List ℕ) (f : Field) (node : ℕ) (test : ℕ → Bool) → HasBits old bits → nodes ≡ field_bits f bits → node < length new
    → ((inputs : List Bool) → value new inputs node ≡ test (number (map (value old inputs) nodes)))
    → Means new node (λ packet. test (request_of packet f))
means_of_field old new bits nodes f node test has are within worth = record {
  within = within;
  value = λ inputs packet is.
      worth inputs
      ∙ ap (λ ns. test (number (map (value old inputs) ns))) are
      ∙ ap test (field_value old bits inputs packet f has is);
}

pub field_adds : {E : Type 0} (r : Result ℕ E) (old new : List Gate) (bits nodes : List ℕ) (f : Field) (test : ℕ → Bool) → HasBits old bits → nodes ≡ field_bits f bits → Extends old new
    → IfOk r (λ node. node < length new)
    → IfOk r (λ node. (inputs : List Bool) → value new inputs node ≡ test (number (map (value old inputs) nodes)))
    → IfOk r (λ node. Adds old new node (λ packet. test (request_of packet f)))
field_adds (Ok node) old new bits nodes f test has are extends within worth = record {
  older = extends;
  means = means_of_field old new bits nodes f node test has are within worth;
}
field_adds (Err e) old new bits nodes f test has are extends within worth = tt

-- a node keeps its meaning behind further gates
pub Means-extends : (old new : List Gate) (node : ℕ) (meaning : Packet → Bool) → Extends old new → Means old node meaning → Means new node meaning
Means-extends old new node meaning extends means = record {
  within = omega (arith, extends.longer, means.within);
  value = λ inputs packet is. extends.older inputs node means.within ∙ means.value inputs packet is;
}

pub Means-as : (gates : List Gate) (node : ℕ) (m n : Packet → Bool) → ((packet : Packet) → m packet ≡ n packet) → Means gates node m → Means gates node n
Means-as gates node m n same means = record { within = means.within; value = λ inputs packet is. means.value inputs packet is ∙ same packet }

pub Adds-as : (old new : List Gate) (node : ℕ) (m n : Packet → Bool) → ((packet : Packet) → m packet ≡ n packet) → Adds old new node m → Adds old new node n
Adds-as old new node m n same adds = record { older = adds.older; means = Means-as new node m n same adds.means }

-- behind gates that were added before
pub Adds-after : (old mid new : List Gate) (node : ℕ) (meaning : Packet → Bool) → Extends old mid → Adds mid new node meaning → Adds old new node meaning
Adds-after old mid new node meaning extends adds = record { older = Extends-trans old mid new extends adds.older; means = adds.means }

-- a node over two others
pub means_both : (old new : List Gate) (first second node : ℕ) (m n : Packet → Bool) → Means old first m → Means old second n → node < length new
    → ((inputs : List Bool) → value new inputs node ≡ list_all (value old inputs) (first ∷ second ∷ []))
    → Means new node (λ packet. m packet && (n packet && true))
means_both old new first second node m n one two within worth = record {
  within = within;
  value = λ inputs packet is. worth inputs ∙ ap₂ (λ a b. a && (b && true)) (one.value inputs packet is) (two.value inputs packet is);
}

-- a node over another one
pub not_adds : (old mid new : List Gate) (part node : ℕ) (m : Packet → Bool) → Adds old mid part m → Extends mid new → node < length new
    → ((inputs : List Bool) → value new inputs node ≡ not (value mid inputs part))
    → Adds old new node (λ packet. not (m packet))
not_adds old mid new part node m adds extends within worth = record {
  older = Extends-trans old mid new adds.older extends;
  means = record {
    within = within;
    value = λ inputs packet is. worth inputs ∙ ap not (adds.means.value inputs packet is);
  };
}
