use Rattle.std.proofs.Common.{◌≡◌, true, false, codes, rules}
use Rattle.std.specs.Str.{bytes_eq}
use Rattle.std.proofs.lemmas.Result.{IfErr-weaker}
use Rattle.ios_lex.specs.NextWords.{NoName}
use Rattle.ios_lex.specs.Stops.{IsStop}
use Rattle.ios_lex.proofs.FirstStops.{begins_with_text}
use Rattle.ios_lex.proofs.WordForms.{words_differ}
use Rattle.ios_nat.specs.Parts.{Options}
use Rattle.ios_nat.proofs.OptionWords.{alias_stop, extendable_stop, options_stop}
use Rattle.ios_nat.proofs.statics.+options.Goals as goal
use Rattle.ios_nat.proofs.statics.+options.Goals.{else-extendable-via-then-extendable+else-is, else-extendable-via-else-extendable, else-alias-via-then-alias+else-is-2, else-alias-via-else-alias}

pub returns-then-is-clause-stop : goal.returns-then-is-clause-stop
returns-then-is-clause-stop t c =
    let test : bytes_eq c.in-Some.first.now (codes "extendable") ≡ true = search rules in
    let whole = begins_with_text c.args.words.now c.in-Some.rest.now c.in-Some.first.now (codes "extendable") c.in-Some.ensures.cases.0 test in
    IfErr-weaker c.options.result (IsStop NoName (Options false c.args.alias) c.in-Some.rest.now) (IsStop NoName (Options c.args.extendable c.args.alias) c.args.words.now)
    (λ stop stops. rw c.if-extendable.true (extendable_stop c.args.alias c.args.words.now c.in-Some.rest.now stop whole stops))
    c.options.ensures.stop

pub returns-then-is-2-clause-stop : goal.returns-then-is-2-clause-stop
returns-then-is-2-clause-stop t c =
    let test : bytes_eq c.in-Some.first.now (codes "no-alias") ≡ true = search rules in
    let whole = begins_with_text c.args.words.now c.in-Some.rest.now c.in-Some.first.now (codes "no-alias") c.in-Some.ensures.cases.0 test in
    IfErr-weaker c.options-then-is-2.result (IsStop NoName (Options c.args.extendable false) c.in-Some.rest.now) (IsStop NoName (Options c.args.extendable c.args.alias) c.args.words.now)
    (λ stop stops. rw c.if-alias.true (alias_stop c.args.extendable c.args.words.now c.in-Some.rest.now stop whole stops))
    c.options-then-is-2.ensures.stop

pub returns-clause-stop : goal.returns-clause-stop
returns-clause-stop t c =
    options_stop c.args.extendable c.args.alias c.args.words.now c.in-Some.rest.now c.in-Some.first.now c.stop_before.result c.in-Some.ensures.cases.0 c.stop_before.ensures.left c.stop_before.ensures.due
    no_extendable no_alias
  where
    no_extendable : c.args.extendable ≡ true → c.in-Some.first.now ≡ codes "extendable" → ⊥
    no_extendable may is = elim c.else-extendable.branch [
      | else-extendable-via-then-extendable+else-is w ↦ (let test : bytes_eq c.in-Some.first.now (codes "extendable") ≡ false = search rules in words_differ c.in-Some.first.now (codes "extendable") test is)
      | else-extendable-via-else-extendable w ↦ (let no = w.if-extendable.false in cc (may, no))
    ]

    no_alias : c.args.alias ≡ true → c.in-Some.first.now ≡ codes "no-alias" → ⊥
    no_alias may is = elim c.else-alias.branch [
      | else-alias-via-then-alias+else-is-2 w ↦ (let test : bytes_eq c.in-Some.first.now (codes "no-alias") ≡ false = search rules in words_differ c.in-Some.first.now (codes "no-alias") test is)
      | else-alias-via-else-alias w ↦ (let no = w.if-alias.false in cc (may, no))
    ]
