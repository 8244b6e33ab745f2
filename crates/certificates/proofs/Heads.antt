-- The first line of a text that begins as a head does.
use Rattle.std.proofs.Common.{◌≡◌, ℕ, ◌+◌, List, [], ◌∷◌, ◌++◌, length, refl, sym, ap, ◌∙◌, append_assoc, length-append, append-nil, arith}
use Rattle.std.specs.List.{All}
use Rattle.std.proofs.lemmas.List.Elements.{All-nil, All-head, All-tail, All-push}
use Rattle.certificates.specs.Text.{head_word}
use Rattle.certificates.specs.Reading.{IsBeforeHead}
use Rattle.certificates.specs.Parts.Places.{IsHeadAt, HasNoHead}

-- lines before the head so far, and those that are left
pub record SkippedSoFar (lines : List (List ℕ)) (number : ℕ) (left : List (List ℕ)) : Type 0 where
  pub skipped : List (List ℕ)
  pub whole : lines ≡ skipped ++ left
  pub before : All IsBeforeHead skipped
  pub place : number ≡ length skipped + 1

pub skipped_none : (lines : List (List ℕ)) → SkippedSoFar lines 1 lines
skipped_none lines = record { skipped = []; whole = refl; before = All-nil IsBeforeHead; place = refl }

pub skipped_more : (lines left more : List (List ℕ)) (line : List ℕ) (number : ℕ) → SkippedSoFar lines number left → left ≡ line ∷ more → IsBeforeHead line → SkippedSoFar lines (number + 1) more
skipped_more lines left more line number so_far first before = record {
  skipped = so_far.skipped ++ line ∷ [];
  whole = so_far.whole ∙ ap (λ l. so_far.skipped ++ l) first ∙ sym (simp append_assoc);
  before = All-push IsBeforeHead so_far.skipped line so_far.before before;
  place = simp length-append (omega (arith, so_far.place));
}

pub skipped_head : (lines left behind : List (List ℕ)) (line words : List ℕ) (number : ℕ) → SkippedSoFar lines number left → left ≡ line ∷ behind → line ≡ head_word ++ words → IsHeadAt lines number words behind
skipped_head lines left behind line words number so_far first begins = record {
  skipped = so_far.skipped;
  whole = so_far.whole ∙ ap (λ l. so_far.skipped ++ l) (first ∙ ap (λ l. l ∷ behind) begins);
  before = so_far.before;
  place = so_far.place;
}

pub skipped_all : (lines left : List (List ℕ)) (number : ℕ) → SkippedSoFar lines number left → left ≡ [] → HasNoHead lines number
skipped_all lines left number so_far none =
    let whole : lines ≡ so_far.skipped = so_far.whole ∙ ap (λ l. so_far.skipped ++ l) none ∙ simp append-nil in
    record { before = rw whole (so_far.before); place = rw whole (so_far.place) }

-- two lists of lines agree up to the first line that begins as a head does
pub heads_agree : (skipped skipped' behind behind' : List (List ℕ)) (words words' : List ℕ) → All IsBeforeHead skipped → All IsBeforeHead skipped' → skipped ++ (head_word ++ words) ∷ behind ≡ skipped' ++ (head_word ++ words') ∷ behind' → (skipped ≡ skipped') × (head_word ++ words ≡ head_word ++ words') × (behind ≡ behind')
heads_agree [] [] behind behind' words words' before before' same = (refl, cc, cc)
heads_agree [] (l ∷ skipped') behind behind' words words' before before' same = absurd (All-head IsBeforeHead l skipped' before' words (cc))
heads_agree (l ∷ skipped) [] behind behind' words words' before before' same = absurd (All-head IsBeforeHead l skipped before words' (cc))
heads_agree (l ∷ skipped) (k ∷ skipped') behind behind' words words' before before' same =
    let first : l ≡ k = cc in
    let tails : skipped ++ (head_word ++ words) ∷ behind ≡ skipped' ++ (head_word ++ words') ∷ behind' = cc in
    let agree = heads_agree skipped skipped' behind behind' words words' (All-tail IsBeforeHead l skipped before) (All-tail IsBeforeHead k skipped' before') tails in
    let others = agree.0 in
    (cc, agree.1, agree.2)

-- lines before the head have none among them
pub no_head_among : (lines skipped behind : List (List ℕ)) (words : List ℕ) → All IsBeforeHead lines → lines ≡ skipped ++ (head_word ++ words) ∷ behind → ⊥
no_head_among [] [] behind words before same = cc
no_head_among [] (k ∷ skipped) behind words before same = cc
no_head_among (l ∷ lines) [] behind words before same = All-head IsBeforeHead l lines before words (cc)
no_head_among (l ∷ lines) (k ∷ skipped) behind words before same = no_head_among lines skipped behind words (All-tail IsBeforeHead l lines before) (cc)
