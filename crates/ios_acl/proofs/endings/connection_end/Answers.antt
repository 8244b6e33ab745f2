use Rattle.std.proofs.Common.{◌≡◌, ℕ, List, ◌∷◌, sym, ◌∙◌, rules, arith, codes}
use Rattle.std.proofs.lemmas.Slice.Eq.{bytes_eq-Decides}
use Rattle.ios_lex.specs.Phrases.{Words}
use Rattle.ios_acl.specs.Stops.{IsStop}
use Rattle.ios_acl.specs.Parts.{SomeConnectionEnd}
use Rattle.ios_acl.proofs.EndWords.{connection, stop_behind_established, stop_not_established}
use Rattle.ios_acl.proofs.endings.connection_end.Goals as goal
use Rattle.ios_acl.proofs.endings.connection_end.Goals.{in_default-via-in-Some+else-is, in_default-via-in_default}

pub returns-in_err-end-in-Some-clause-stop : goal.returns-in_err-end-in-Some-clause-stop
returns-in_err-end-in-Some-clause-stop c =
    let whole : c.args.words.now ≡ c.in-Some.first.now ∷ c.in-Some.rest.now = search rules in
    let same = (bytes_eq-Decides c.in-Some.first.now (codes "established")).0 (sym c.is.ensures ∙ c.if-is.true) in
    let stop : IsStop SomeConnectionEnd c.args.words.now c.in_err-end-in-Some.field-0.0 =
    stop_behind_established c.args.words.now c.in-Some.rest.now c.in_err-end-in-Some.field-0.0 (rw same at whole) c.in_err-end-in-Some.ensures.stop in
    search rules

pub returns-in_ok-end-in-Some-clause-read : goal.returns-in_ok-end-in-Some-clause-read
returns-in_ok-end-in-Some-clause-read c =
    let whole : c.args.words.now ≡ c.in-Some.first.now ∷ c.in-Some.rest.now = search rules in
    let same = (bytes_eq-Decides c.in-Some.first.now (codes "established")).0 (sym c.is.ensures ∙ c.if-is.true) in
    connection c.args.words.now c.in-Some.rest.now (rw same at whole) c.in_ok-end-in-Some.ensures.read

pub returns-in_err-end-in_default-clause-stop : goal.returns-in_err-end-in_default-clause-stop
returns-in_err-end-in_default-clause-stop c =
    let other : (word : List ℕ) (more : Words) → c.args.words.now ≡ word ∷ more → word ≡ codes "established" → ⊥ =
    λ word more whole same. elim c.in_default.branch [
      | in_default-via-in-Some+else-is w ↦
          let named : w.in-Some.first.now ≡ word = cc (w.in-Some.ensures.cases.0, whole) in
          let is = (bytes_eq-Decides w.in-Some.first.now (codes "established")).1 (named ∙ same) in
          cc (is, w.is.ensures, w.if-is.false)
      | in_default-via-in_default w ↦ let none = rw whole at w.in_default.ensures.cases in absurd (omega arith)
    ] in
    let stop : IsStop SomeConnectionEnd c.args.words.now c.in_err-end-in_default.field-0.0 =
    stop_not_established c.args.words.now c.in_err-end-in_default.field-0.0 other c.in_err-end-in_default.ensures.stop in
    search rules
