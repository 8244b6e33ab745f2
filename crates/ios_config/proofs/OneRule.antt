-- A line falls under one rule.
use Rattle.std.proofs.Common.{◌≡◌, ◌&&◌, Bool, true, false, List, [], ◌∷◌, ◌++◌, Option, Some, None, Contains, refl, sym, ap, ◌∙◌}
use Rattle.std.specs.Bool.{if◌then◌else◌}
use Rattle.std.specs.List.{AllByRecursion}
use Rattle.std.specs.Str.{bytes_eq}
use Rattle.std.proofs.lemmas.List.Elements.{All-contains, All-from_recursion}
use Rattle.ios_lex.specs.Lines.{Reading}
use Rattle.ios_lex.specs.Phrases.{Words}
use Rattle.ios_config.specs.Commands.{opening_words, unmodelled_openings, IsUnmodelled}
use Rattle.ios_config.specs.Line.{Rule, IsCommand, IsOfRule, FallsUnder, rule_within}
use Rattle.ios_config.specs.Router.{OpenBlock}
use Rattle.ios_config.specs.declared.command.Command.{Command}
use Rattle.ios_config.specs.declared.command.Command.TheVariants as commands

-- the words begin with these
abbrev begins_so : Words → Words → Bool
begins_so words [] = true
begins_so [] (other ∷ others) = false
begins_so (word ∷ words) (other ∷ others) = bytes_eq word other && begins_so words others

abbrev first_command : List Command → Words → Option Command
first_command [] words = None
first_command (command ∷ commands) words = if begins_so words (opening_words command) then Some command else first_command commands words

abbrev first_opening : List Words → Words → Option Words
first_opening [] words = None
first_opening (opening ∷ openings) words = if begins_so words opening then Some opening else first_opening openings words

abbrev all_commands : List Command
all_commands =
    commands.NumberedList ∷ commands.ListBlock ∷ commands.InterfaceBlock ∷ commands.Route ∷ commands.Pool ∷ commands.Source ∷ []

command_of_line : (command : Command) (rest : Words) → first_command all_commands (opening_words command ++ rest) ≡ Some command
command_of_line commands.NumberedList rest = refl
command_of_line commands.ListBlock rest = refl
command_of_line commands.InterfaceBlock rest = refl
command_of_line commands.Route rest = refl
command_of_line commands.Pool rest = refl
command_of_line commands.Source rest = refl

same_behind : (front rest other : Words) → front ++ rest ≡ front ++ other → rest ≡ other
same_behind [] rest other same = same
same_behind (word ∷ front) rest other same = same_behind front rest other (cc same)

pub one_command : (command other : Command) (rest rest' : Words) → opening_words command ++ rest ≡ opening_words other ++ rest'
    → Rule.command command rest ≡ Rule.command other rest'
one_command command other rest rest' same =
    let found : Some command ≡ Some other = sym (command_of_line command rest) ∙ ap (first_command all_commands) same ∙ command_of_line other rest' in
    let one : command ≡ other = cc found in
    cc (one, same_behind (opening_words command) rest rest' (rw (← one) at same))

abbrev IsFound : Words → Type 0
IsFound opening = (rest : Words) → first_opening unmodelled_openings (opening ++ rest) ≡ Some opening

openings_of_lines : AllByRecursion IsFound unmodelled_openings
openings_of_lines = (λ rest. refl, (λ rest. refl, (λ rest. refl, (λ rest. refl, (λ rest. refl, (λ rest. refl, tt))))))

opening_of_line : (opening : Words) → Contains unmodelled_openings opening → (rest : Words) → first_opening unmodelled_openings (opening ++ rest) ≡ Some opening
opening_of_line opening has = All-contains IsFound unmodelled_openings opening (All-from_recursion IsFound unmodelled_openings openings_of_lines) has

one_unmodelled : (words opening other : Words) → IsUnmodelled words opening → IsUnmodelled words other → opening ≡ other
one_unmodelled words opening other is is' =
    let found : Some opening ≡ Some other = sym (opening_of_line opening is.0 is.1) ∙ ap (first_opening unmodelled_openings) (sym is.2 ∙ is'.2) ∙ opening_of_line other is'.0 is'.1 in
    cc found

no_opening : (command : Command) (rest : Words) → first_opening unmodelled_openings (opening_words command ++ rest) ≡ None
no_opening commands.NumberedList rest = refl
no_opening commands.ListBlock rest = refl
no_opening commands.InterfaceBlock rest = refl
no_opening commands.Route rest = refl
no_opening commands.Pool rest = refl
no_opening commands.Source rest = refl

modelled : (command : Command) (words rest opening : Words) → words ≡ opening_words command ++ rest → IsUnmodelled words opening → ⊥
modelled command words rest opening opened is =
    let found : None ≡ Some opening = sym (no_opening command rest) ∙ ap (first_opening unmodelled_openings) (sym opened ∙ is.2) ∙ opening_of_line opening is.0 is.1 in
    cc found

rule_of_words : (words : Words) (rule other : Rule) → IsOfRule words rule → IsOfRule words other → rule ≡ other
rule_of_words words rule other (IsOfRule.command command rest opened) (IsOfRule.command command' rest' opened') =
    one_command command command' rest rest' (sym opened ∙ opened')
rule_of_words words rule other (IsOfRule.command command rest opened) (IsOfRule.unmodelled opening is) = absurd (modelled command words rest opening opened is)
rule_of_words words rule other (IsOfRule.command command rest opened) (IsOfRule.other none harmless) = absurd (none command rest opened)
rule_of_words words rule other (IsOfRule.unmodelled opening is) (IsOfRule.command command rest opened) = absurd (modelled command words rest opening opened is)
rule_of_words words rule other (IsOfRule.unmodelled opening is) (IsOfRule.unmodelled opening' is') = ap Rule.unmodelled (one_unmodelled words opening opening' is is')
rule_of_words words rule other (IsOfRule.unmodelled opening is) (IsOfRule.other none harmless) = absurd (harmless opening is)
rule_of_words words rule other (IsOfRule.other none harmless) (IsOfRule.command command rest opened) = absurd (none command rest opened)
rule_of_words words rule other (IsOfRule.other none harmless) (IsOfRule.unmodelled opening is) = absurd (harmless opening is)
rule_of_words words rule other (IsOfRule.other none harmless) (IsOfRule.other none' harmless') = refl

apart : (b : Bool) → b ≡ true → b ≡ false → ⊥
apart b is_true is_false = cc

pub one_rule : (block : OpenBlock) (line : Reading) (rule other : Rule) → FallsUnder block line rule → FallsUnder block line other → rule ≡ other
one_rule block line rule other (FallsUnder.banner is) (FallsUnder.banner is') = refl
one_rule block line rule other (FallsUnder.banner is) (FallsUnder.within within) = absurd (apart line.banner is within.outside)
one_rule block line rule other (FallsUnder.banner is) (FallsUnder.outside other' outside of) = absurd (apart line.banner is outside.outside)
one_rule block line rule other (FallsUnder.within within) (FallsUnder.banner is) = absurd (apart line.banner is within.outside)
one_rule block line rule other (FallsUnder.within within) (FallsUnder.within within') = refl
one_rule block line rule other (FallsUnder.within within) (FallsUnder.outside other' outside of) = absurd (apart line.indented within.indented outside.unindented)
one_rule block line rule other (FallsUnder.outside rule' outside of) (FallsUnder.banner is) = absurd (apart line.banner is outside.outside)
one_rule block line rule other (FallsUnder.outside rule' outside of) (FallsUnder.within within) = absurd (apart line.indented within.indented outside.unindented)
one_rule block line rule other (FallsUnder.outside rule' outside of) (FallsUnder.outside other' outside' of') = rule_of_words line.words rule other of of'

-- and under some rule

some_outside : (block : OpenBlock) (line : Reading) → IsCommand line → ((rule : Rule) → FallsUnder block line rule → ⊥) → ⊥
some_outside block line outside none =
    none Rule.ignored (FallsUnder.outside Rule.ignored outside (IsOfRule.other
    (λ command rest opened. none (Rule.command command rest) (FallsUnder.outside (Rule.command command rest) outside (IsOfRule.command command rest opened)))
    (λ opening is. none (Rule.unmodelled opening) (FallsUnder.outside (Rule.unmodelled opening) outside (IsOfRule.unmodelled opening is)))))

by_indent : (block : OpenBlock) (line : Reading) (indented : Bool) → line.banner ≡ false → line.indented ≡ indented → ((rule : Rule) → FallsUnder block line rule → ⊥) → ⊥
by_indent block line true outside is none = none (rule_within block) (FallsUnder.within (record { indented = is; outside = outside }))
by_indent block line false outside is none = some_outside block line (record { unindented = is; outside = outside }) none

by_banner : (block : OpenBlock) (line : Reading) (banner : Bool) → line.banner ≡ banner → ((rule : Rule) → FallsUnder block line rule → ⊥) → ⊥
by_banner block line true is none = none Rule.ignored (FallsUnder.banner is)
by_banner block line false is none = by_indent block line line.indented is refl none

pub some_rule : (block : OpenBlock) (line : Reading) → ((rule : Rule) → FallsUnder block line rule → ⊥) → ⊥
some_rule block line none = by_banner block line line.banner refl none
