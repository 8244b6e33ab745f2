use Rattle.std.proofs.Common.{◌∙◌, ◌+◌, drop, refl, [], ◌≡◌}
use Rattle.std.proofs.lemmas.List.{drop_all}
use Rattle.session.specs.Run.{IsCutShort}
use Rattle.session.proofs.Carried.{so_far_none, so_far_more, so_far_stops, so_far_done, left_at}
use Rattle.session.proofs.Moves.{carried_moves, ends_move}
use Rattle.session.proofs.Ordered.{rest_ordered}
use Rattle.session.proofs.statements.carry_out_all.Goals as goal

pub loop-place-init : goal.loop-place-init
loop-place-init g c = record {
  so_far = rw c.new-state.ensures (so_far_none (g.F.Files.holds c.args.files.now) c.args.statements.now (g.F.Files.log c.args.files.now) (g.S.Sink.log c.args.out.now));
  same = λ file. refl;
  ordered = rw c.new-state.ensures c.requires;
}

pub returns-in-Err : goal.returns-in-Err
returns-in-Err g c =
    let i = c.loop-place.place in
    let statements = c.args.statements.now in
    let statement = c.index-statements-place.result in
    let left = left_at statements i statement c.loop-place-test.true c.index-statements-place.is in
    let holds = g.F.Files.holds in
    let stopped = c.in-Err.ensures.stopped in
    so_far_stops c.args.script.now (holds c.args.files.now) statements statement (drop (i + 1) statements) c.loop-place.state _ _ _ _ _ _
    (rw left at c.loop-place.invariant.so_far) c.in-Err.end
    (record {
      effects = stopped.effects;
      is_run = ends_move (holds c.loop-place.files) (holds c.args.files.now) c.loop-place.invariant.same IsCutShort c.args.script.now statement.line c.loop-place.state statement.kind stopped.effects c.in-Err.end stopped.is_run;
      on_files = stopped.on_files;
      on_sink = stopped.on_sink;
    })

pub loop-place-preserved : goal.loop-place-preserved
loop-place-preserved g c =
    let i = c.loop-place.place in
    let statements = c.args.statements.now in
    let statement = c.index-statements-place.result in
    let left = left_at statements i statement c.loop-place-test.true c.index-statements-place.is in
    let holds = g.F.Files.holds in
    let others = drop (i + 1) statements in
    let carried = carried_moves (holds c.loop-place.files) (holds c.args.files.now) c.loop-place.invariant.same c.loop-place.state statement.kind c.carry_out.new.state _ _ _ _ c.in-Ok.ensures.carried in
    record {
      so_far = so_far_more (holds c.args.files.now) statements statement others c.loop-place.state c.carry_out.new.state _ _ _ _ _ _ (rw left at c.loop-place.invariant.so_far) carried;
      same = λ file. c.carry_out.ensures.same file ∙ c.loop-place.invariant.same file;
      ordered = rest_ordered (holds c.args.files.now) c.loop-place.state statement carried.pieces c.carry_out.new.state carried.carries others (rw left at c.loop-place.invariant.ordered);
    }

pub returns : goal.returns
returns g c =
    let i = c.loop-place.place in
    let statements = c.args.statements.now in
    let none : drop i statements ≡ [] = drop_all i statements c.loop-place-test.false in
    so_far_done c.args.script.now (g.F.Files.holds c.args.files.now) statements c.loop-place.state _ _ _ _ (rw none at c.loop-place.invariant.so_far)
