use Rattle.std.proofs.Common.{arith, rules}
use Rattle.query_tokens.proofs.Scanned.{so_far_gap, so_far_token, so_far_bad, so_far_end, gap_shortens, token_shortens}
use Rattle.query_tokens.proofs.scan.tokens.Goals as goal

pub loop-rest-preserved-in-Some : goal.loop-rest-preserved-in-Some
loop-rest-preserved-in-Some c =
    let shorter = gap_shortens c.loop-rest.rest.now _ _ c.in-Some.ensures.found in
    record {
      so_far = rw c.line_feeds-line.ensures.value (so_far_gap c.args.bytes.now _ c.loop-rest.line c.loop-rest.rest.now _ _ c.loop-rest.invariant.so_far c.in-Some.ensures.found);
      fits = omega (arith, shorter.0, c.line_feeds-line.ensures.few, c.loop-rest.invariant.fits);
    }

pub loop-rest-preserved : goal.loop-rest-preserved
loop-rest-preserved c =
    let found = rw c.in-Some-2.is at c.in_ok-token.ensures.found in
    let shorter = token_shortens c.loop-rest.rest.now found.0 _ _ found.1 in
    record {
      so_far = rw c.in_ok-push-2.ensures.items (so_far_token c.args.bytes.now _ c.loop-rest.line c.loop-rest.rest.now found.0 _ _ c.loop-rest.invariant.so_far found.1);
      fits = omega (arith, shorter, c.loop-rest.invariant.fits);
    }

pub loop-rest-smaller-in-Some : goal.loop-rest-smaller-in-Some
loop-rest-smaller-in-Some c = (gap_shortens c.loop-rest.rest.now _ _ c.in-Some.ensures.found).1

pub loop-rest-smaller : goal.loop-rest-smaller
loop-rest-smaller c =
    let found = rw c.in-Some-2.is at c.in_ok-token.ensures.found in
    token_shortens c.loop-rest.rest.now found.0 _ _ found.1

pub returns-in_default-2 : goal.returns-in_default-2
returns-in_default-2 c =
    let no_token = rw c.in_default-2.is at c.in_ok-token.ensures.none in
    rw c.in_ok-push.ensures.items (so_far_bad c.args.bytes.now _ c.loop-rest.line c.loop-rest.rest.now c.loop-rest.invariant.so_far (record { some = search rules; no_gap = c.in_default.ensures.none; no_token = no_token }))

pub returns : goal.returns
returns c = so_far_end c.args.bytes.now _ c.loop-rest.line c.loop-rest.rest.now c.loop-rest.invariant.so_far (search rules)
