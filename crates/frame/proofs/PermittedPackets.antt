-- What a list permits, from its last entry on.
use Rattle.std.proofs.Common.{◌≡◌, ℕ, ◌+◌, ◌-◌, ◌<◌, ◌≤◌, true, false, cond, Some, List, ◌∷◌, length, drop, get_or, refl, sym, ◌∙◌, arith, if◌then◌else◌}
use Rattle.std.proofs.lemmas.List.{at_drop_more}
use Rattle.ios_acl.specs.declared.entry.Entry.{Entry}
use Rattle.ios_acl.specs.declared.packet.Packet.{Packet}
use Rattle.ios_acl.specs.Decision.{first_match, verdict_by}
use Rattle.ios_acl.specs.Matching.{matches}
use Rattle.frame.specs.Meaning.{is_permit, permits}

-- the first entry that matches decides
permits-cons : (entry : Entry) (entries : List Entry) (packet : Packet) → permits (entry ∷ entries) packet ≡ (if matches entry packet then is_permit entry.verdict else permits entries packet)
permits-cons entry entries packet =
    elim (matches entry packet) as (λ b. is_permit (verdict_by (cond b (Some entry) (first_match entries packet))).0 ≡ (if b then is_permit entry.verdict else permits entries packet)) [ true ↦ refl | false ↦ refl ]

-- what the entries from this one on permit
pub permits_from : (entries : List Entry) (left : ℕ) (d : Entry) (packet : Packet) → 0 < left → left ≤ length entries →
    (if matches (get_or entries (left - 1) d) packet then is_permit (get_or entries (left - 1) d).verdict else permits (drop left entries) packet) ≡ permits (drop (left - 1) entries) packet
permits_from entries left d packet some within =
    let next : left - 1 + 1 ≡ left = omega arith in
    let inside : left - 1 < length entries = omega arith in
    let step = at_drop_more (λ es. permits es packet) entries (left - 1) d inside in
    sym (rw next at (step ∙ permits-cons (get_or entries (left - 1) d) (drop (left - 1 + 1) entries) packet))
