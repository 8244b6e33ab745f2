-- Drafts behind some lines.
use Rattle.std.proofs.Common.{◌≡◌, ℕ, ◌+◌, ◌≤◌, ◌<◌, List, [], ◌∷◌, ◌++◌, length, map, take, drop, get_or, sym, ap, ◌∙◌, append_assoc, arith}
use Rattle.std.proofs.lemmas.List.{take_more, take-append-drop, map-append}
use Rattle.ios_lex.specs.declared.line.Line.{Line}
use Rattle.ios_lex.specs.LineReadings.{reading_of}
use Rattle.ios_lex.specs.Lines.{Reading}
use Rattle.ios_lex.specs.Phrases.{Words}
use Rattle.ios_lex.specs.declared.fault.LineFault.{LineFault}
use Rattle.ios_lex.specs.declared.taken.Taken.{Taken}
use Rattle.ios_lex.specs.declared.taken.Taken.TheVariants as taken
use Rattle.ios_config.specs.Router.{Draft, no_lines}
use Rattle.ios_config.specs.Line.{Makes, Rule, Takes, ignored_by}
use Rattle.ios_config.specs.Reading.{TakesAll}
use Rattle.ios_config.specs.Reading as reading
use Rattle.ios_config.specs.Taking.{IsLineFault, StopsAmong, located}
use Rattle.ios_config.specs.Taking as taking

-- one line more is taken
pub takes_more : {draft next new : Draft} {lines : List Reading} (line : Reading) → TakesAll draft lines next → Takes next line new → TakesAll draft (lines ++ line ∷ []) new
takes_more line (reading.end draft) takes = reading.next draft _ _ line [] takes (reading.end _)
takes_more line (reading.next draft next end other lines first rest) takes = reading.next draft next _ other (lines ++ line ∷ []) first (takes_more line rest takes)

-- a line is ignored once at most
once : (taken : Taken) → ignored_by taken ≤ 1
once taken.Modelled = omega arith
once taken.Ignored = omega arith

makes_most : (draft new : Draft) (number : ℕ) (words : Words) (rule : Rule) → Makes draft number words rule new → new.ignored ≤ draft.ignored + 1
makes_most draft new number words rule Makes.ignored = omega arith
makes_most draft new number words rule (Makes.entry name lists reads) = omega arith
makes_most draft new number words rule (Makes.setting name blocks taken reads) = omega (arith, once taken)
makes_most draft new number words rule (Makes.numbered rest lists taken reads) = omega (arith, once taken)
makes_most draft new number words rule (Makes.list rest name extended head) = omega arith
makes_most draft new number words rule (Makes.interface rest interfaces name heading begins) = omega arith
makes_most draft new number words rule (Makes.route rest route is line) = omega arith
makes_most draft new number words rule (Makes.pool rest table reads) = omega arith
makes_most draft new number words rule (Makes.source word rest table reads) = omega arith
makes_most draft new number words rule Makes.cut = omega arith

ignored_most : (draft new : Draft) (line : Reading) → Takes draft line new → new.ignored ≤ draft.ignored + 1
ignored_most draft new line takes = makes_most draft new line.number line.words takes.rule takes.makes

pub record SoFar (known : List (List ℕ)) (lines : List Line) (count : ℕ) (draft : Draft) : Type 0 where
  pub taken : TakesAll (no_lines known) (map reading_of (take count lines)) draft
  pub few : draft.ignored ≤ count

pub so_far_none : (known : List (List ℕ)) (lines : List Line) (draft : Draft) → draft ≡ no_lines known → SoFar known lines 0 draft
so_far_none known lines draft is = rw is (record { taken = reading.end (no_lines known); few = omega arith })

pub so_far_more : (known : List (List ℕ)) (lines : List Line) (count : ℕ) (draft new : Draft) (line : Line) → count < length lines → line ≡ get_or lines count line
    → SoFar known lines count draft → Takes draft (reading_of line) new → SoFar known lines (count + 1) new
so_far_more known lines count draft new line inside is so_far takes =
    let more : map reading_of (take (count + 1) lines) ≡ map reading_of (take count lines) ++ reading_of line ∷ [] =
    ap (map reading_of) (take_more lines count line inside ∙ ap (λ l. take count lines ++ l ∷ []) (sym is)) ∙ map-append reading_of (take count lines) (line ∷ []) in
    record { taken = rw more (takes_more (reading_of line) so_far.taken takes); few = omega (arith, so_far.few, ignored_most draft new (reading_of line) takes) }

pub stops_there : (known : List (List ℕ)) (lines : List Line) (count : ℕ) (draft : Draft) (line : Line) (fault : LineFault) → count < length lines → line ≡ get_or lines count line
    → SoFar known lines count draft → IsLineFault draft (reading_of line) fault → StopsAmong (no_lines known) (map reading_of lines) (located line.number fault)
stops_there known lines count draft line fault inside is so_far refused =
    let whole : take count lines ++ line ∷ drop (count + 1) lines ≡ lines =
    sym (append_assoc (take count lines) (line ∷ []) (drop (count + 1) lines))
    ∙ ap (λ front. front ++ drop (count + 1) lines) (sym (take_more lines count line inside ∙ ap (λ l. take count lines ++ l ∷ []) (sym is)))
    ∙ take-append-drop (count + 1) lines in
    taking.line (map reading_of (take count lines)) (map reading_of (drop (count + 1) lines)) (reading_of line) draft fault
    (ap (map reading_of) (sym whole) ∙ map-append reading_of (take count lines) (line ∷ drop (count + 1) lines)) so_far.taken refused
