-- Words with which a line begins, one list of them after the other.
use Rattle.std.proofs.Common.{ℕ, ◌+◌, ◌<◌, List, [], ◌∷◌, length, map, drop, slice_index_or, Option, Some, None, IfSome, add-one, drop-cons}
use Rattle.std.specs.Borrow.{Bor}
use Rattle.std.specs.List.{AllByRecursion}
use Rattle.std.proofs.lemmas.List.Elements.{Contains-append_right}
use Rattle.ios_lex.specs.Phrases.{Words}
use Rattle.ios_lex.specs.Refusal.{texts}
use Rattle.ios_lex.specs.Openings.{BeginsAmong, LacksOpening}

among_others : (openings : List Words) (words first opening : Words) → BeginsAmong openings words opening → BeginsAmong (first ∷ openings) words opening
among_others openings words first opening is = (Contains-append_right (first ∷ []) openings opening is.0, is.1, is.2)

pub among_more : (openings : List Words) (words first : Words) (found : Option (Bor (List (Bor (List ℕ))))) → IfSome found (λ opening. BeginsAmong openings words (texts opening.now))
    → IfSome found (λ opening. BeginsAmong (first ∷ openings) words (texts opening.now))
among_more openings words first None is = is
among_more openings words first (Some opening) is = among_others openings words first (texts opening.now) is

-- where the line begins with none from a place on, and not with the one before
pub lacks_earlier : {A : Type 0} (f : A → Words) (words : Words) (items : List A) (place : ℕ) (d : A) → place < length items → LacksOpening words (f (slice_index_or items place d))
    → AllByRecursion (LacksOpening words) (map f (drop (place + 1) items)) → AllByRecursion (LacksOpening words) (map f (drop place items))
lacks_earlier f words items place d within lacks later = rw (drop-cons items place d within) (lacks, rw add-one at later)
