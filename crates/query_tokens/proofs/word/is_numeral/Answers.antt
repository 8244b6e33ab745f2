use Rattle.std.proofs.Common.{◌≡◌, rules, tests}
use Rattle.std.specs.Char.{is_ascii_digit}
use Rattle.std.specs.List.{list_all}
use Rattle.std.proofs.lemmas.Iterator.{YieldsList-from_slice}
use Rattle.std.proofs.lemmas.Iterator.Search.{all_from_yields_List}
use Rattle.query_tokens.proofs.Digits.{numeral_test}
use Rattle.query_tokens.proofs.word.is_numeral.Goals as goal

pub returns : goal.returns
returns c =
    let test : c.all.result ≡ list_all is_ascii_digit c.args.word.now =
    all_from_yields_List is_ascii_digit _ _ c.all.result c.all.ensures.ran (YieldsList-from_slice c.args.word.now cc) (λ x b q k. search (rules, tests)) in
    numeral_test c.args.word.now _ c.requires test
