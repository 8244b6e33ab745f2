use Rattle.std.proofs.Common.{◌≡◌, ◌++◌, drop}
use Rattle.std.specs.List.{flat_map}
use Rattle.frame.specs.Scenario.{request_of}
use Rattle.session.specs.Text.{value_line}
use Rattle.session.proofs.text.push_values.Given as goal

-- the text so far and the lines that are left are all of it
abbrev pub invariant-loop-field : goal.invariant-loop-field
invariant-loop-field l =
    l.text.items ++ flat_map (value_line l.names (request_of l.packet)) (drop l.field-index l.fields) ≡ l.initial.text.items ++ flat_map (value_line l.names (request_of l.packet)) l.fields
