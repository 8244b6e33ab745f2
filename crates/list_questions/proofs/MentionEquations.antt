-- The policy atoms of each kind of formula.
use Rattle.std.proofs.Common.{◌≡◌, ℕ, List, [], ◌∷◌, ◌++◌, sym, ap, ◌∙◌, refl, map}
use Rattle.std.specs.List.{flat_map}
use Rattle.query_lang.specs.declared.formula.Named.{Named}
use Rattle.query_lang.specs.declared.formula.Named.TheOpen.{Named-F}
use Rattle.query_lang.specs.declared.formula.Named.TheFolds.{fold-roll-Named}
use Rattle.query_lang.specs.declared.formula.Named.TheVariants as named
use Rattle.list_questions.specs.Mentions.{PolicyAtom, mentions, mentions_step}

joined_once : (parts : List Named) → flat_map (λ (atoms : List PolicyAtom). atoms) (map mentions parts) ≡ flat_map mentions parts
joined_once [] = refl
joined_once (part ∷ parts) = ap (λ (atoms : List PolicyAtom). mentions part ++ atoms) (joined_once parts)

pub mentions_not : (body : Named) → mentions (named.Not body) ≡ mentions body
mentions_not body = ap mentions (sym (named.rolls-Not body)) ∙ fold-roll-Named (List PolicyAtom) mentions_step (Named-F.Not body)

pub mentions_and : (parts : List Named) → mentions (named.And parts) ≡ flat_map mentions parts
mentions_and parts = ap mentions (sym (named.rolls-And parts)) ∙ fold-roll-Named (List PolicyAtom) mentions_step (Named-F.And parts) ∙ joined_once parts

pub mentions_or : (parts : List Named) → mentions (named.Or parts) ≡ flat_map mentions parts
mentions_or parts = ap mentions (sym (named.rolls-Or parts)) ∙ fold-roll-Named (List PolicyAtom) mentions_step (Named-F.Or parts) ∙ joined_once parts

pub mentions_iff : (parts : List Named) → mentions (named.Iff parts) ≡ flat_map mentions parts
mentions_iff parts = ap mentions (sym (named.rolls-Iff parts)) ∙ fold-roll-Named (List PolicyAtom) mentions_step (Named-F.Iff parts) ∙ joined_once parts

pub mentions_implies : (left right : Named) → mentions (named.Implies left right) ≡ mentions left ++ mentions right
mentions_implies left right = ap mentions (sym (named.rolls-Implies left right)) ∙ fold-roll-Named (List PolicyAtom) mentions_step (Named-F.Implies left right)

pub mentions_forall : (name sort : List ℕ) (body : Named) → mentions (named.Forall name sort body) ≡ mentions body
mentions_forall name sort body = ap mentions (sym (named.rolls-Forall name sort body)) ∙ fold-roll-Named (List PolicyAtom) mentions_step (Named-F.Forall name sort body)

pub mentions_exists : (name sort : List ℕ) (body : Named) → mentions (named.Exists name sort body) ≡ mentions body
mentions_exists name sort body = ap mentions (sym (named.rolls-Exists name sort body)) ∙ fold-roll-Named (List PolicyAtom) mentions_step (Named-F.Exists name sort body)

pub ruleset mention_rules = (mentions_not, mentions_and, mentions_or, mentions_iff, mentions_implies, mentions_forall, mentions_exists)
