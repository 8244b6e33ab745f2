use Rattle.std.proofs.Common.{subst}
use Rattle.ios_acl.specs.List.{AccessList}
use Rattle.ios_config.specs.Router.{Router}
use Rattle.std.proofs.lemmas.Result.{err_from_is_err_and}
use Rattle.solver_run.specs.Lists.{IsOnlyList, no_configuration, not_one_list}
use Rattle.solver_run.proofs.Readings.{long_is_no_list, unread_weaker}
use Rattle.solver_run.proofs.unread.read_list.Goals as goal

pub returns-in_err-bytes-clause-unread : goal.returns-in_err-bytes-clause-unread
returns-in_err-bytes-clause-unread g c =
    let p = err_from_is_err_and c.from_residual.result c.from_residual.ensures.1 in
    rw (p.1, p.2) (unread_weaker _ _ c.args.file.now _ _ (long_is_no_list (g.F.Files.holds c.args.files.now) c.args.file.now) c.in_err-bytes.field-0.0 c.in_err-bytes.ensures.unread)

pub returns-in-Ok-clause-unread : goal.returns-in-Ok-clause-unread
returns-in-Ok-clause-unread g c =
    let reads = rw (c.new.ensures, c.as_slice.ensures.value) at c.in-Ok.ensures.read in
    let none = rw c.in-None.is at c.only_list.ensures.none in
    let other = subst (λ (router : Router). (list : AccessList) → IsOnlyList router.lists list → ⊥) c.router.view_is none in
    (not_one_list c.in_ok-bytes.bytes.items c.in-Ok.router c.in_ok-bytes.ensures.gives reads other, c.in_ok-bytes.ensures.read)

pub returns-in-Err-At-clause-unread : goal.returns-in-Err-At-clause-unread
returns-in-Err-At-clause-unread g c =
    let refused = rw (c.new.ensures, c.as_slice.ensures.value, c.in-Err-At.field-0-is) at c.in-Err-At.ensures.refused in
    (no_configuration c.in_ok-bytes.bytes.items c.in-Err-At.line _ c.in_ok-bytes.ensures.gives refused, c.in_ok-bytes.ensures.read)
