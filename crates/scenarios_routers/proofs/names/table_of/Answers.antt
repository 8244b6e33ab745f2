use Rattle.std.proofs.Common.{length, ap, arith}
use Rattle.scenarios_routers.proofs.NameCounts.{names_count}
use Rattle.scenarios_routers.proofs.names.table_of.Goals as goal

pub add_all-requires : goal.add_all-requires
add_all-requires c = omega (arith, names_count c.new-table.result c.args.known.now, ap length c.new-table.ensures, c.if-known-gt8.false)

pub add_all-requires-2 : goal.add_all-requires-2
add_all-requires-2 c =
    omega (
      arith,
      names_count c.add_all.new.self c.args.added.now,
      ap length c.in_ok-add_all.ensures.added,
      names_count c.new-table.result c.args.known.now,
      ap length c.new-table.ensures,
      c.if-known-gt8.false,
      c.if-added-gt8.false,
    )
