use denote.Text.{Utf8}
use denote.Param.Always.{always_mut}
use denote.Shadow.{shadow}
use Rattle.test_tables.proofs.table.answered.Given as goal

-- what is left of the table is text, and rows may still be answered
abbrev pub invariant-loop : goal.invariant-loop
invariant-loop g l = (always_mut g.F.FnMut l.initial.answer → always_mut g.F.FnMut l.answer) × shadow (Utf8 l.rest)
