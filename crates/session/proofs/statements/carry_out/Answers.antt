use Rattle.std.proofs.Common.{refl}
use Rattle.mg_outside.proofs.EffectLaws.{has_read_nothing}
use Rattle.session.specs.declared.ended.Reason.TheVariants as reason
use Rattle.session.specs.Steps.{not_built, refused}
use Rattle.session.proofs.Built.{not_among, reads_nothing}
use Rattle.session.proofs.Ends.{stops_here}
use Rattle.session.proofs.Progress.{refusal}
use Rattle.session.proofs.statements.carry_out.Goals as goal

pub returns-in_default : goal.returns-in_default
returns-in_default g c =
    let script = c.args.at.now.script.now in
    let line = c.args.at.now.number in
    let what = c.args.what.now in
    let missing = not_among what c.in_default.not-LoadIos c.in_default.not-Explore c.in_default.not-ShowOne c.in_default.not-Decide in
    record {
      carried = tt;
      stopped = stops_here script _ line c.args.state.now what _ _ _ _ _ _ c.refuse_line.result
          (refused what _ _ _ (not_built what missing) (refusal script line reason.NotBuilt))
          (rw (reads_nothing c.args.state.now what missing) (has_read_nothing _)) c.refuse_line.ensures;
      same = λ other. refl;
    }
