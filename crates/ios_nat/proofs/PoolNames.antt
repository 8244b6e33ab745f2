-- Pools as the map of their names has them, and lines that begin with a name.
use Rattle.std.proofs.Common.{◌≡◌, Bool, cond, List, [], ◌∷◌, ◌++◌, map, Some, refl, ap, ℕ, false, sym, ◌∙◌}
use Rattle.std.specs.Map.{lookup}
use Rattle.ios_lex.specs.declared.stop.Stop.{Stop}
use Rattle.ios_lex.specs.Following.{Begins}
use Rattle.ios_lex.specs.NextWords.{IsNameBeside, NoName, SomeName}
use Rattle.ios_lex.specs.Phrases.{Words}
use Rattle.ios_lex.specs.Stops as specs
use Rattle.ios_lex.specs.Stops.{expected_of, StopsBefore, IsStop}
use Rattle.ios_lex.proofs.Fronts.{append_none}

-- a look-up by another form of the keys
pub lookup_renamed : {K L X : Type 0} (form : K → L) (test : L → Bool) (entries : List (K × X)) → lookup test (map {B = L × X} (λ e. (form e.0, e.1)) entries) ≡ lookup (λ k. test (form k)) entries
lookup_renamed form test [] = refl
lookup_renamed form test (e ∷ es) = ap (cond (test (form e.0)) (Some e.1)) (lookup_renamed form test es)

-- where a line begins with a name, it does not stop before one
pub no_name_stop : (table rest more : Words) (name : List ℕ) (stop : Stop) → rest ≡ name ∷ more → IsNameBeside table name → (expected_of stop.due).whole ≡ false
    → IsStop NoName (SomeName table) rest stop → ⊥
no_name_stop table rest more name stop whole is part stops = by stops.front stops.back (sym whole ∙ stops.whole) stops.stops
  where
    named : SomeName table false (name ∷ [])
    named = (name, (refl, λ strict. is))

    not_first : (back : Words) → back ≡ name ∷ more → StopsBefore NoName (SomeName table) [] stop.due back → ⊥
    not_first back same (specs.short begins none) = cc same
    not_first back same (specs.word word others stopped) = let one : word ≡ name = cc same in stopped.stops ([], rw one named)

    whole_name : (word : List ℕ) (front back : Words) → name ∷ more ≡ (word ∷ front) ++ back → Begins (SomeName table false) (word ∷ front) → SomeName table false (word ∷ front)
    whole_name word front back same begins =
        let one : word ≡ name = cc same in
        let alone : word ∷ (front ++ begins.0) ≡ begins.1.0 ∷ [] = begins.1.1.0 in
        let none = append_none front begins.0 (cc alone) in
        rw (one, none.0) named

    by : (front back : Words) → name ∷ more ≡ front ++ back → StopsBefore NoName (SomeName table) front stop.due back → ⊥
    by [] back same before = not_first back (sym same) before
    by (word ∷ front) back same (specs.short begins none) = none (whole_name word front back same begins)
    by (word ∷ front) back same (specs.word other others stopped) =
        let ends = stopped.expected.whole.1 (whole_name word front back same stopped.begins) in cc (ends, part)
