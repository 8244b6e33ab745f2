-- A line opens in one way.
use Rattle.std.proofs.Common.{◌≡◌, ℕ, false, List, [], ◌∷◌, ◌++◌, Some, None, Contains, codes, refl, sym, ap, ◌∙◌}
use Rattle.std.specs.List.{AllByRecursion}
use Rattle.std.specs.Str.{bytes_eq}
use Rattle.std.proofs.lemmas.Bool.{false_from_ne_true}
use Rattle.std.proofs.lemmas.List.Elements.{All-contains, All-from_recursion}
use Rattle.std.proofs.lemmas.Slice.Eq.{bytes_eq-Decides}
use Rattle.ios_lex.specs.Address.{IsAddress}
use Rattle.ios_lex.specs.Phrases.{Words}
use Rattle.ios_lex.specs.Refusal.{begins_with_digit}
use Rattle.ios_lex.proofs.OneOpening.{IsFound, SameOpening, first_kind, one_kind, one_opening}
use Rattle.ios_lex.proofs.WordForms.{other_no_address}
use Rattle.ios_interface.specs.Block.{Block}
use Rattle.ios_interface.specs.declared.kind.Kind.{Kind}
use Rattle.ios_interface.specs.declared.kind.Kind.TheVariants as kinds
use Rattle.ios_interface.specs.declared.kind.Setting.{Setting}
use Rattle.ios_interface.specs.declared.kind.Setting.TheVariants as settings
use Rattle.ios_interface.specs.Grammar.{opening_words, unmodelled_openings}
use Rattle.ios_interface.specs.Reading.{IsUnmodelled, Makes}

abbrev all_kinds : List Kind
all_kinds =
    kinds.Address
    ∷ kinds.AccessGroup
    ∷ kinds.Setting settings.NoAddress
    ∷ kinds.Setting settings.Inside
    ∷ kinds.Setting settings.Outside
    ∷ kinds.Setting settings.Shutdown
    ∷ kinds.Setting settings.NoShutdown
    ∷ []

kind_of_line : (kind : Kind) → IsFound opening_words all_kinds kind
kind_of_line kinds.Address rest = refl
kind_of_line kinds.AccessGroup rest = refl
kind_of_line (kinds.Setting settings.NoAddress) rest = refl
kind_of_line (kinds.Setting settings.Inside) rest = refl
kind_of_line (kinds.Setting settings.Outside) rest = refl
kind_of_line (kinds.Setting settings.Shutdown) rest = refl
kind_of_line (kinds.Setting settings.NoShutdown) rest = refl

pub one_line_opening : (kind other : Kind) (rest rest' : Words) → opening_words kind ++ rest ≡ opening_words other ++ rest' → SameOpening kind other rest rest'
one_line_opening = one_opening opening_words all_kinds kind_of_line

-- lines that are not modelled

abbrev itself : Words → Words
itself opening = opening

abbrev IsFirst : Words → Type 0
IsFirst opening = IsFound itself unmodelled_openings opening

openings_of_lines : AllByRecursion IsFirst unmodelled_openings
openings_of_lines =
    (λ rest. refl, (λ rest. refl, (λ rest. refl, (λ rest. refl, (λ rest. refl, (λ rest. refl, (λ rest. refl, (λ rest. refl, (λ rest. refl, (λ rest. refl, (λ rest. refl, tt)))))))))))

opening_of_line : (opening : Words) → Contains unmodelled_openings opening → IsFirst opening
opening_of_line opening has = All-contains IsFirst unmodelled_openings opening (All-from_recursion IsFirst unmodelled_openings openings_of_lines) has

pub one_unmodelled : (words opening other : Words) → IsUnmodelled words opening → IsUnmodelled words other → opening ≡ other
one_unmodelled words opening other is is' =
    one_kind itself unmodelled_openings opening other is.1 is'.1 (opening_of_line opening is.0) (opening_of_line other is'.0) (sym is.2 ∙ is'.2)

-- lines that are read

word_differs : (word other : List ℕ) (n : ℕ) → begins_with_digit other ≡ false → IsAddress word n → bytes_eq word other ≡ false
word_differs word other n letter address =
    false_from_ne_true (bytes_eq word other) (λ same. let is = (bytes_eq-Decides word other).0 same in other_no_address other n letter (rw is at address))

no_opening_of_address : (word : List ℕ) (n : ℕ) (rest : Words) → IsAddress word n → first_kind itself unmodelled_openings (codes "ip" ∷ codes "address" ∷ word ∷ rest) ≡ None
no_opening_of_address word n rest address =
    rw (word_differs word (codes "dhcp") n refl address, word_differs word (codes "negotiated") n refl address) refl

no_opening_of_setting : (setting : Setting) (rest : Words) → first_kind itself unmodelled_openings (opening_words (kinds.Setting setting) ++ rest) ≡ None
no_opening_of_setting settings.NoAddress rest = refl
no_opening_of_setting settings.Inside rest = refl
no_opening_of_setting settings.Outside rest = refl
no_opening_of_setting settings.Shutdown rest = refl
no_opening_of_setting settings.NoShutdown rest = refl

no_opening : (block new : Block) (kind : Kind) (rest : Words) → Makes block rest new kind → first_kind itself unmodelled_openings (opening_words kind ++ rest) ≡ None
no_opening block new kind rest (Makes.address address secondary is made) =
    let word = is.first.0 in
    let whole : rest ≡ word ∷ is.back = is.whole ∙ ap (λ front. front ++ is.back) is.first.1 in
    rw whole (no_opening_of_address word address.0 is.back is.first.2)
no_opening block new kind rest (Makes.group name direction is made) = refl
no_opening block new kind rest (Makes.setting setting none made) = no_opening_of_setting setting rest

pub no_modelled_opening : (block new : Block) (kind : Kind) (words rest opening : Words) → words ≡ opening_words kind ++ rest → Makes block rest new kind → IsUnmodelled words opening → ⊥
no_modelled_opening block new kind words rest opening opened makes is =
    let found : None ≡ Some opening = sym (no_opening block new kind rest makes) ∙ ap (first_kind itself unmodelled_openings) (sym opened ∙ is.2) ∙ opening_of_line opening is.0 is.1 in
    cc found
