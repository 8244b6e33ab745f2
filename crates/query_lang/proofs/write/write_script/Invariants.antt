use Rattle.std.proofs.Common.{◌≡◌, ◌++◌, drop, map}
use Rattle.query_lang.specs.Writing.{kinds, script_text}
use Rattle.query_lang.proofs.write.write_script.Given as goal

-- with the lines of the statements to come, the text is whole
abbrev pub invariant-loop-statement : goal.invariant-loop-statement
invariant-loop-statement l = l.text.items ++ script_text (map (λ one. one.kind) (drop l.statement-index l.script.statements)) ≡ script_text (kinds l.script)
