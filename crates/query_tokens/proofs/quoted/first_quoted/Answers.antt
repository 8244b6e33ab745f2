use Rattle.std.proofs.Common.{◌≡◌, ℕ, List, ◌∷◌, [], ◌++◌}
use Rattle.std.specs.List.{AllPass}
use Rattle.std.proofs.lemmas.List.{take_rest}
use Rattle.std.proofs.lemmas.Bool.Decides.{Decides-eqb}
use Rattle.std.proofs.lemmas.Slice.Eq.{strip_prefix_is}
use Rattle.query_tokens.specs.Tokens.{is_quotable}
use Rattle.query_tokens.proofs.Beginnings.{quoted_passes, no_quoted}
use Rattle.query_tokens.proofs.quoted.first_quoted.Goals as goal

pub returns-in_err-rest-clause-none : goal.returns-in_err-rest-clause-none
returns-in_err-rest-clause-none c =
    let no_quote = rw c.in_err-rest.was at (strip_prefix_is Decides-eqb c.split_at.result.1.now (34 ∷ []) c.strip_prefix.result c.strip_prefix.ensures.cases) in
    let refuted : (inner rest : List ℕ) → c.args.text.now ≡ 34 ∷ (inner ++ 34 ∷ rest) → AllPass is_quotable inner → ⊥ =
    no_quoted c.args.text.now _ c.split_at.result.1.now _ (take_rest c.args.text.now 1) c.quotable_len.ensures.value c.split_at.ensures.back no_quote in
    rw c.from_residual.ensures refuted

pub returns-clause-quotable : goal.returns-clause-quotable
returns-clause-quotable c = quoted_passes _ _ _ c.quotable_len.ensures.value c.split_at.ensures.front
