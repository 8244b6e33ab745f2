-- Lines of no kind.
use Rattle.std.proofs.Common.{◌≡◌, ◌++◌}
use Rattle.ios_lex.specs.Phrases.{Words}
use Rattle.ios_nat.specs.declared.kind.Kind.{Kind}
use Rattle.ios_nat.specs.declared.kind.Kind.TheVariants as kinds
use Rattle.ios_nat.specs.Grammar.{opening_words}

-- a line that begins as no kind does is of none
pub none_opens : (words : Words) → ((rest : Words) → words ≡ opening_words kinds.Static ++ rest → ⊥) → ((rest : Words) → words ≡ opening_words kinds.Dynamic ++ rest → ⊥)
    → ((rest : Words) → words ≡ opening_words kinds.Pool ++ rest → ⊥) → (kind : Kind) (rest : Words) → words ≡ opening_words kind ++ rest → ⊥
none_opens words no_static no_dynamic no_pool kinds.Static = no_static
none_opens words no_static no_dynamic no_pool kinds.Dynamic = no_dynamic
none_opens words no_static no_dynamic no_pool kinds.Pool = no_pool
