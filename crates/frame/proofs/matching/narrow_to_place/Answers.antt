use Rattle.std.proofs.Common.{refl}
use Rattle.frame.specs.Bits.{field_bits}
use Rattle.frame.specs.Scenario.{request_of}
use Rattle.frame.proofs.FieldPlaces.{few_bits}
use Rattle.frame.proofs.MatchTests.{agrees_anyhow}
use Rattle.frame.proofs.Narrowing.{narrows_none, narrows_push}
use Rattle.frame.proofs.NumberBits.{number_is_small}
use Rattle.frame.proofs.matching.narrow_to_place.Goals as goal

pub returns-then-wildcard-eq4294967295 : goal.returns-then-wildcard-eq4294967295
returns-then-wildcard-eq4294967295 c = narrows_none _ _ _ (λ inputs packet is.
    let small = number_is_small (field_bits c.args.field inputs) 32 (few_bits c.args.field inputs) in
    rw c.if-wildcard-eq4294967295.true (agrees_anyhow (request_of packet c.args.field) c.args.address (rw (is.fields c.args.field) at small) c.ranges.address.fits))

pub returns : goal.returns
returns c = narrows_push _ _ _ _ _ _ _ c.in_ok-masked.ensures (λ packet. refl) c.in_ok-push.ensures.items
