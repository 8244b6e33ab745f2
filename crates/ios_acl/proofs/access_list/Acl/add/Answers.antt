use Rattle.std.proofs.Common.{◌≡◌, ◌∙◌, length, ap, arith}
use Rattle.std.specs.List.{insert}
use Rattle.ios_acl.specs.List.{AccessList}
use Rattle.ios_acl.specs.Adding.{overflow, full, memory, with_number}
use Rattle.ios_acl.proofs.Rising.{before, before_within}
use Rattle.ios_acl.proofs.Insertion.{IsAddable, with_items, inserted_list, inserted_entry}
use Rattle.ios_acl.proofs.access_list.Acl.add.Goals as goal

pub returns-in_default-clause-refused : goal.returns-in_default-clause-refused
returns-in_default-clause-refused c =
    let none = c.in_default.ensures.none in
    rw (← c.self.view_is) (overflow none.0 (rw c.as_slice.ensures.value at none.1))

pub returns-then-len-ge-MOST_ENTRIES-clause-refused : goal.returns-then-len-ge-MOST_ENTRIES-clause-refused
returns-then-len-ge-MOST_ENTRIES-clause-refused c =
    let found = rw c.as_slice.ensures.value at c.in-Some.ensures.found in
    let same = ap length c.as_slice.ensures.value in
    rw (← c.self.view_is) (full c.in-Some.number found c.in-Some.ensures.small (omega arith))

pub insert-requires : goal.insert-requires
insert-requires c = omega (arith, before_within c.in-Some.number c.as_slice-2.result.now)

pub returns-then-is_err-clause-refused : goal.returns-then-is_err-clause-refused
returns-then-is_err-clause-refused c = memory

abbrev inside : goal.Else-is_err → AccessList
inside c = record { name = c.self.inside.name; extended = c.self.inside.extended; entries = c.self.inside.entries.items }

addable : (c : goal.Else-is_err) → IsAddable (inside c) c.args.entry c.in-Some.number
addable c =
    record {
      spelled = rw (← c.self.view_is) at c.requires.spelled;
      some = c.in-Some.ensures.some;
      small = c.in-Some.ensures.small;
      free = rw c.as_slice.ensures.value at c.in-Some.ensures.free;
      room = omega (arith, ap length c.as_slice.ensures.value);
    }

items : (c : goal.Else-is_err)
    → c.insert.new.self.items ≡ insert c.self.inside.entries.items (length (before c.in-Some.number c.self.inside.entries.items)) (with_number c.args.entry c.in-Some.number)
items c =
    let place = rw c.as_slice-2.ensures.value at c.place_of-place.ensures in
    rw (c.insert.ensures.items, c.if-is_err.ensures.negation, place)

pub invariant_of-self-2 : goal.invariant_of-self-2
invariant_of-self-2 c = rw (items c) (inserted_list (inside c) c.args.entry c.in-Some.number c.self.invariant (addable c))

pub returns-clause-added : goal.returns-clause-added
returns-clause-added c =
    let free = rw c.as_slice.ensures.value at c.in-Some.ensures.free in
    rw (← c.self.view_is)
    (record {
      n = c.in-Some.number;
      is_number = rw c.as_slice.ensures.value at c.in-Some.ensures.found;
      small = c.in-Some.ensures.small;
      room = omega (arith, ap length c.as_slice.ensures.value);
      added = ap (with_items (inside c)) (items c) ∙ inserted_entry (inside c) c.args.entry c.in-Some.number c.self.invariant free;
    })
