use Rattle.std.proofs.Common.{◌≡◌, arith}
use Rattle.std.proofs.lemmas.Grind.{common_steps}
use Rattle.query_lang.specs.Writing.{kinds, script_text}
use Rattle.query_lang.proofs.ScriptsAgain.{read_back}
use Rattle.query_lang.proofs.write.write_script.Goals as goal

pub returns-clause-read_back : goal.returns-clause-read_back
returns-clause-read_back c =
    let whole : c.loop-statement.text.items ≡ script_text (kinds c.args.script.now) = grind (arith, common_steps) in
    read_back c.args.script.now c.loop-statement.text.items whole
