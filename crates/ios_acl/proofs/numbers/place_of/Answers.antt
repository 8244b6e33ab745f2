use Rattle.std.proofs.Common.{nat_lt, rules}
use Rattle.std.proofs.lemmas.List.Sorted.{IsPartitionPoint-from_clause, IsPartitionedBy-ltb}
use Rattle.ios_acl.specs.declared.entry.Entry.{Entry}
use Rattle.ios_acl.proofs.Rising.{place_is_before, rising_in_order}
use Rattle.ios_acl.proofs.numbers.place_of.Goals as goal

pub returns : goal.returns
returns c =
    let n = c.args.number in
    let entries = c.args.entries.now in
    let place = c.partition_point.result in
    place_is_before n place entries c.partition_point.ensures.bound
    (IsPartitionPoint-from_clause (λ (e : Entry). nat_lt e.number n) entries place c.partition_point.ensures.partitioned
    (IsPartitionedBy-ltb (λ (e : Entry). e.number) entries n (rising_in_order entries c.requires))
    (λ a r f k. search rules))
