-- Nodes that are all true for the packets that an entry matches, one part of the entry after another.
use Rattle.std.proofs.Common.{◌≡◌, ℕ, ◌<◌, ◌&&◌, Bool, true, List, [], ◌∷◌, ◌++◌, length, get_or, Result, Ok, Err, IfOk, sym, refl, subst, ap, ap₂, ◌∙◌, arith}
use Rattle.std.specs.List.{list_all}
use Rattle.std.proofs.Math.Bool.{and-true, and_assoc}
use Rattle.std.proofs.lemmas.List.Folds.{list_all-append}
use Rattle.bit_patterns.specs.Patterns.{agrees}
use Rattle.circuit.specs.declared.gate.Gate.{Gate}
use Rattle.circuit.specs.Value.{Extends, value}
use Rattle.circuit.proofs.Below.{below_push}
use Rattle.circuit.proofs.Extend.{AreNodes-extends, Extends-refl, Extends-trans}
use Rattle.circuit.proofs.Wildcard.{all_agree}
use Rattle.ios_acl.specs.declared.entry.Entry.{Entry}
use Rattle.ios_acl.specs.declared.packet.Packet.{Packet}
use Rattle.ios_acl.specs.Matching.{matches, matches_code, matches_established, matches_icmp, matches_port}
use Rattle.frame.specs.Bits.{IsPacketOf}
use Rattle.frame.specs.Meaning.{Adds, AllMean, Narrows}

-- one node more, which means the test
pub narrows_push : (old new : List Gate) (nodes after : List ℕ) (node : ℕ) (m test : Packet → Bool) → Adds old new node m → ((packet : Packet) → m packet ≡ test packet) → after ≡ nodes ++ node ∷ [] → Narrows old new nodes after test
narrows_push old new nodes after node m test adds same is = record {
  older = adds.older;
  parts = λ meaning all. record {
    within = rw is (below_push (length new) nodes node adds.means.within (AreNodes-extends old new adds.older nodes all.within));
    value = λ inputs packet of.
        let kept = all_agree (length old) (value new inputs) (value old inputs) (λ k inside. adds.older.older inputs k inside) nodes all.within in
        ap (list_all (value new inputs)) is ∙ list_all-append (value new inputs) nodes (node ∷ [])
        ∙ ap₂ (λ a b. a && (b && true)) (kept ∙ all.value inputs packet of) (adds.means.value inputs packet of ∙ same packet)
        ∙ ap (λ b. meaning packet && b) (and-true (test packet));
  };
}

-- none, where all packets pass the test
pub narrows_none : (gates : List Gate) (nodes : List ℕ) (test : Packet → Bool) → ((inputs : List Bool) (packet : Packet) → IsPacketOf inputs packet → test packet ≡ true) → Narrows gates gates nodes nodes test
narrows_none gates nodes test passed = record {
  older = Extends-refl gates;
  parts = λ meaning all. record {
    within = all.within;
    value = λ inputs packet of. all.value inputs packet of ∙ sym (and-true (meaning packet)) ∙ ap (λ b. meaning packet && b) (sym (passed inputs packet of));
  };
}

-- one part and then another
pub narrows_then : (old mid new : List Gate) (before between after : List ℕ) (first second : Packet → Bool) → Narrows old mid before between first → Narrows mid new between after second
    → Narrows old new before after (λ packet. first packet && second packet)
narrows_then old mid new before between after first second one two = record {
  older = Extends-trans old mid new one.older two.older;
  parts = λ meaning all.
      let both = two.parts (λ packet. meaning packet && first packet) (one.parts meaning all) in
      record {
        within = both.within;
        value = λ inputs packet of. both.value inputs packet of ∙ and_assoc (meaning packet) (first packet) (second packet);
      };
}

-- the nodes alone
pub all_mean : (old new : List Gate) (before after : List ℕ) (test : Packet → Bool) → before ≡ [] → Narrows old new before after test → AllMean new after test
all_mean old new before after test none narrows = narrows.parts (λ packet. true) (rw none record { within = tt; value = λ inputs packet of. refl })

-- a node over them
pub all_adds : {E : Type 0} (r : Result ℕ E) (old mid new : List Gate) (nodes : List ℕ) (test : Packet → Bool) → Extends old mid → AllMean mid nodes test → Extends mid new
    → IfOk r (λ node. node < length new) → IfOk r (λ node. (inputs : List Bool) → value new inputs node ≡ list_all (value mid inputs) nodes)
    → IfOk r (λ node. Adds old new node test)
all_adds (Ok node) old mid new nodes test before all extends within worth = record {
  older = Extends-trans old mid new before extends;
  means = record { within = within; value = λ inputs packet of. worth inputs ∙ all.value inputs packet of };
}
all_adds (Err e) old mid new nodes test before all extends within worth = tt

-- a node that is alone among them
pub only_adds : (old new : List Gate) (nodes : List ℕ) (node : ℕ) (test : Packet → Bool) → Extends old new → AllMean new nodes test → nodes ≡ node ∷ [] → Adds old new node test
only_adds old new nodes node test extends all is =
    let alone : AllMean new (node ∷ []) test = subst (λ ns. AllMean new ns test) is all in
    record {
      older = extends;
      means = record { within = alone.within.0; value = λ inputs packet of. sym (and-true (value new inputs node)) ∙ alone.value inputs packet of };
    }

pub only_one : (nodes : List ℕ) (d : ℕ) → length nodes ≡ 1 → nodes ≡ get_or nodes 0 d ∷ []
only_one [] d long = absurd (omega arith)
only_one (node ∷ []) d long = refl
only_one (node ∷ other ∷ nodes) d long = absurd (omega arith)

-- the seven parts of an entry
pub narrows_to_match : {a b c d e f g h : List Gate} {n o p q r s t u : List ℕ} (entry : Entry)
    → Narrows a b n o (λ packet. matches_code packet.proto entry.proto)
    → Narrows b c o p (λ packet. agrees packet.src entry.src.0 entry.src.1)
    → Narrows c d p q (λ packet. agrees packet.dst entry.dst.0 entry.dst.1)
    → Narrows d e q r (λ packet. matches_port packet.sport entry.sport)
    → Narrows e f r s (λ packet. matches_port packet.dport entry.dport)
    → Narrows f g s t (λ packet. matches_icmp packet.icmp_type packet.icmp_code entry.icmp)
    → Narrows g h t u (λ packet. matches_established packet.flags entry.established)
    → Narrows a h n u (matches entry)
narrows_to_match entry proto src dst sport dport icmp established =
    narrows_then _ _ _ _ _ _ _ _ (narrows_then _ _ _ _ _ _ _ _ (narrows_then _ _ _ _ _ _ _ _ (narrows_then _ _ _ _ _ _ _ _ (narrows_then _ _ _ _ _ _ _ _ (narrows_then _ _ _ _ _ _ _ _ proto src) dst) sport) dport) icmp) established
