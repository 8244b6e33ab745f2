use Rattle.std.proofs.Common.{◌≡◌, eqb, arith, ap, ◌∙◌, subst}
use Rattle.std.specs.List.{filter}
use Rattle.std.specs.List.Sorted.{IsPermutation}
use Rattle.std.proofs.lemmas.List.{take_all}
use Rattle.std.proofs.lemmas.List.Filters.{dedup_is}
use Rattle.proof_check.specs.Inside.Trim.{is_taken}
use Rattle.proof_check.proofs.Rising.{last_named_is}
use Rattle.proof_check.proofs.trimming.last_named.Goals as goal

pub returns : goal.returns
returns c =
    let given = c.args.given in
    let named = c.args.named.now in
    let place = c.args.place in
    let hints = c.args.hints.now in
    let taken : c.loop-hint.numbers.items ≡ filter (is_taken given named place) hints = c.loop-hint.invariant ∙ ap (filter (is_taken given named place)) (take_all c.loop-hint.hint-index hints (omega arith)) in
    last_named_is given place named hints c.sort_unstable.new.self.items c.dedup.new.self.items
    (subst (λ xs. IsPermutation xs c.sort_unstable.new.self.items) taken c.sort_unstable.ensures.permutation)
    c.sort_unstable.ensures.sorted
    (dedup_is eqb c.sort_unstable.new.self.items c.dedup.new.self.items c.dedup.ensures.filtered)
