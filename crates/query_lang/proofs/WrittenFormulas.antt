-- The tokens of each kind of formula, and how loosely it joins its parts.
use Rattle.std.proofs.Common.{◌≡◌, ℕ, List, [], ◌∷◌, ◌++◌, sym, ap, ◌∙◌}
use Rattle.query_tokens.specs.declared.keyword.Keyword.TheVariants as keyword
use Rattle.query_tokens.specs.declared.token.Sign.TheVariants as sign_of
use Rattle.query_tokens.specs.declared.token.Token.{Token}
use Rattle.query_tokens.specs.declared.token.Token.TheVariants as token
use Rattle.query_lang.specs.declared.formula.Named.{Named}
use Rattle.query_lang.specs.declared.formula.Named.TheFolds.{fold-roll-Named}
use Rattle.query_lang.specs.declared.formula.Named.TheOpen.{Named-F}
use Rattle.query_lang.specs.declared.formula.Named.TheVariants as named
use Rattle.query_lang.specs.declared.literal.Literal.{Literal}
use Rattle.query_lang.specs.declared.literal.Path.{Path}
use Rattle.query_lang.specs.declared.term.Arg.{Arg}
use Rattle.query_lang.specs.declared.term.NamedTerm.{NamedTerm}
use Rattle.query_lang.specs.Writing.{Written, written, formula_step, at_most, unjoined, quantified, parted, path, call, term, literal, range}
use Rattle.query_lang.proofs.WrittenTerms.{joined_map}

pub written_true : written named.True ≡ unjoined (token.Keyword keyword.True ∷ [])
written_true = ap written (sym named.rolls-True) ∙ fold-roll-Named Written formula_step Named-F.True

pub written_false : written named.False ≡ unjoined (token.Keyword keyword.False ∷ [])
written_false = ap written (sym named.rolls-False) ∙ fold-roll-Named Written formula_step Named-F.False

pub written_not : (body : Named) → written (named.Not body) ≡ unjoined (token.Keyword keyword.Not ∷ at_most 0 (written body))
written_not body = ap written (sym (named.rolls-Not body)) ∙ fold-roll-Named Written formula_step (Named-F.Not body)

-- parts, where each stands
abbrev pub placed_parts : Token → ℕ → List Named → List Token
placed_parts between most parts = parted between (λ part. at_most most (written part)) parts

pub written_and : (parts : List Named) → written (named.And parts) ≡ record { joins = 1; tokens = placed_parts (token.Keyword keyword.And) 0 parts }
written_and parts =
    ap written (sym (named.rolls-And parts)) ∙ fold-roll-Named Written formula_step (Named-F.And parts) ∙ ap (λ tokens. record { joins = 1; tokens = tokens }) (joined_map written (at_most 0) (token.Keyword keyword.And ∷ []) parts)

pub written_or : (parts : List Named) → written (named.Or parts) ≡ record { joins = 2; tokens = placed_parts (token.Keyword keyword.Or) 1 parts }
written_or parts =
    ap written (sym (named.rolls-Or parts)) ∙ fold-roll-Named Written formula_step (Named-F.Or parts) ∙ ap (λ tokens. record { joins = 2; tokens = tokens }) (joined_map written (at_most 1) (token.Keyword keyword.Or ∷ []) parts)

pub written_iff : (parts : List Named) → written (named.Iff parts) ≡ record { joins = 4; tokens = placed_parts (token.Keyword keyword.Iff) 3 parts }
written_iff parts =
    ap written (sym (named.rolls-Iff parts)) ∙ fold-roll-Named Written formula_step (Named-F.Iff parts) ∙ ap (λ tokens. record { joins = 4; tokens = tokens }) (joined_map written (at_most 3) (token.Keyword keyword.Iff ∷ []) parts)

pub written_implies : (left right : Named) → written (named.Implies left right) ≡ record { joins = 3; tokens = at_most 2 (written left) ++ token.Keyword keyword.Implies ∷ at_most 3 (written right) }
written_implies left right = ap written (sym (named.rolls-Implies left right)) ∙ fold-roll-Named Written formula_step (Named-F.Implies left right)

pub written_forall : (variable sort : List ℕ) (body : Named) → written (named.Forall variable sort body) ≡ quantified (token.Keyword keyword.Forall) variable sort (written body)
written_forall variable sort body = ap written (sym (named.rolls-Forall variable sort body)) ∙ fold-roll-Named Written formula_step (Named-F.Forall variable sort body)

pub written_exists : (variable sort : List ℕ) (body : Named) → written (named.Exists variable sort body) ≡ quantified (token.Keyword keyword.Exists) variable sort (written body)
written_exists variable sort body = ap written (sym (named.rolls-Exists variable sort body)) ∙ fold-roll-Named Written formula_step (Named-F.Exists variable sort body)

pub written_at_path : (list : Path) (verdict : List ℕ) (args : List Arg) → written (named.AtPath list verdict args) ≡ unjoined (path list ++ token.Sign sign_of.Colon ∷ call verdict args)
written_at_path list verdict args = ap written (sym (named.rolls-AtPath list verdict args)) ∙ fold-roll-Named Written formula_step (Named-F.AtPath list verdict args)

pub written_equal : (left right : NamedTerm) → written (named.Equal left right) ≡ unjoined (term left ++ token.Sign sign_of.Equals ∷ term right)
written_equal left right = ap written (sym (named.rolls-Equal left right)) ∙ fold-roll-Named Written formula_step (Named-F.Equal left right)

pub written_masked : (of : NamedTerm) (value wildcard : Literal) → written (named.Masked of value wildcard) ≡ unjoined (term of ++ token.Keyword keyword.In ∷ literal value ∷ literal wildcard ∷ [])
written_masked of value wildcard = ap written (sym (named.rolls-Masked of value wildcard)) ∙ fold-roll-Named Written formula_step (Named-F.Masked of value wildcard)

pub written_range : (of : NamedTerm) (lo hi : Literal) → written (named.Range of lo hi) ≡ unjoined (term of ++ token.Keyword keyword.In ∷ range lo hi)
written_range of lo hi = ap written (sym (named.rolls-Range of lo hi)) ∙ fold-roll-Named Written formula_step (Named-F.Range of lo hi)

pub written_holds : (text : List ℕ) (args : List Arg) → written (named.Holds text args) ≡ unjoined (call text args)
written_holds text args = ap written (sym (named.rolls-Holds text args)) ∙ fold-roll-Named Written formula_step (Named-F.Holds text args)

pub ruleset formula_equations = (written_true, written_false, written_not, written_and, written_or, written_iff, written_implies, written_forall, written_exists, written_at_path, written_equal, written_masked, written_range, written_holds)
