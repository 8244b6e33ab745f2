-- A configuration is read in one way.
use Rattle.std.proofs.Common.{◌≡◌, ℕ, ◌+◌, List, [], ◌∷◌, ◌++◌, length, refl, sym, ap, subst, ◌∙◌}
use Rattle.ios_lex.specs.Banner.{Occurs, IsNowhere, EndsWith, IsBanner, IsOpen, delimiter_of, behind_delimiter}
use Rattle.ios_lex.specs.Lines.{Reading, IsPart, plain, banner, AreLines, end, part, IsUnclosed, here, later}
use Rattle.ios_lex.proofs.OpenedTexts.{opens_third}

-- the first of some texts in which the delimiter occurs is one
first_is_one : (delimiter last last' : List ℕ) (front front' left left' : List (List ℕ)) → IsNowhere delimiter front → IsNowhere delimiter front' → Occurs delimiter last → Occurs delimiter last' → front ++ last ∷ left ≡ front' ++ last' ∷ left' → (front ++ last ∷ [] ≡ front' ++ last' ∷ []) × (left ≡ left')
first_is_one delimiter last last' [] [] left left' before before' occurs occurs' same = (cc, cc)
first_is_one delimiter last last' [] (y ∷ front') left left' before before' occurs occurs' same =
    let first : last ≡ y = cc in
    absurd (before'.0 (rw first at occurs))
first_is_one delimiter last last' (x ∷ front) [] left left' before before' occurs occurs' same =
    let first : last' ≡ x = cc in
    absurd (before.0 (rw first at occurs'))
first_is_one delimiter last last' (x ∷ front) (y ∷ front') left left' before before' occurs occurs' same =
    let first : x ≡ y = cc in
    let rest : front ++ last ∷ left ≡ front' ++ last' ∷ left' = cc in
    let ones = first_is_one delimiter last last' front front' left left' before.1 before'.1 occurs occurs' rest in
    (cc (first, ones.0), ones.1)

one_more : (front left : List (List ℕ)) (last : List ℕ) → (front ++ last ∷ []) ++ left ≡ front ++ last ∷ left
one_more [] left last = refl
one_more (x ∷ front) left last = ap (λ more. x ∷ more) (one_more front left last)

ends_once : (delimiter : List ℕ) (texts texts' left left' : List (List ℕ)) → EndsWith delimiter texts → EndsWith delimiter texts' → texts ++ left ≡ texts' ++ left' → (texts ≡ texts') × (left ≡ left')
ends_once delimiter texts texts' left left' ends ends' same =
    let is : texts ++ left ≡ ends.front ++ ends.last ∷ left = ap (λ t. t ++ left) ends.whole ∙ one_more ends.front left ends.last in
    let is' : texts' ++ left' ≡ ends'.front ++ ends'.last ∷ left' = ap (λ t. t ++ left') ends'.whole ∙ one_more ends'.front left' ends'.last in
    let ones = first_is_one delimiter ends.last ends'.last ends.front ends'.front left left' ends.before ends'.before ends.occurs ends'.occurs (sym is ∙ same ∙ is') in
    (ends.whole ∙ ones.0 ∙ sym ends'.whole, ones.1)

-- a delimiter that occurs in none of some texts ends none of them
no_end : (delimiter last : List ℕ) (front left : List (List ℕ)) → IsNowhere delimiter (front ++ last ∷ left) → Occurs delimiter last → ⊥
no_end delimiter last [] left nowhere occurs = nowhere.0 occurs
no_end delimiter last (x ∷ front) left nowhere occurs = no_end delimiter last front left nowhere.1 occurs

-- a banner ends in one way
banner_is_one : (line : List ℕ) (body body' left left' : List (List ℕ)) → IsBanner line body → IsBanner line body' → body ++ left ≡ body' ++ left' → (body ≡ body') × (left ≡ left')
banner_is_one line body body' left left' is is' same =
    let text : is'.text ≡ is.text = opens_third line is'.text is'.opens ∙ sym (opens_third line is.text is.opens) in
    let ends' : EndsWith (delimiter_of is.text) (behind_delimiter is.text ∷ body') =
    subst (λ (t : List ℕ). EndsWith (delimiter_of t) (behind_delimiter t ∷ body')) text is'.ends in
    let ones = ends_once (delimiter_of is.text) (behind_delimiter is.text ∷ body) (behind_delimiter is.text ∷ body') left left' is.ends ends' (ap (λ more. behind_delimiter is.text ∷ more) same) in
    (cc ones.0, ones.1)

banner_is_not_open : (line : List ℕ) (body left : List (List ℕ)) → IsBanner line body → IsOpen line (body ++ left) → ⊥
banner_is_not_open line body left is unended =
    let text : unended.text ≡ is.text = opens_third line unended.text unended.opens ∙ sym (opens_third line is.text is.opens) in
    let nowhere : IsNowhere (delimiter_of is.text) (behind_delimiter is.text ∷ (body ++ left)) =
    subst (λ (t : List ℕ). IsNowhere (delimiter_of t) (behind_delimiter t ∷ (body ++ left))) text unended.open_ended in
    let whole : behind_delimiter is.text ∷ (body ++ left) ≡ is.ends.front ++ is.ends.last ∷ left = ap (λ t. t ++ left) is.ends.whole ∙ one_more is.ends.front left is.ends.last in
    no_end (delimiter_of is.text) is.ends.last is.ends.front left (subst (λ (t : List (List ℕ)). IsNowhere (delimiter_of is.text) t) whole nowhere) is.ends.occurs

pub record SamePart (gives gives' : List Reading) (next next' : ℕ) (left left' : List (List ℕ)) : Type 0 where
  pub gives_same : gives ≡ gives'
  pub next_same : next ≡ next'
  pub left_same : left ≡ left'

part_is_one : (number : ℕ) (lines left left' : List (List ℕ)) (gives gives' : List Reading) (next next' : ℕ) → IsPart number lines gives next left → IsPart number lines gives' next' left' → SamePart gives gives' next next' left left'
part_is_one number lines left left' gives gives' next next' (plain line whole none gives_is next_is) (plain line' whole' none' gives_is' next_is') =
    let first : line ≡ line' = cc in
    record { gives_same = cc; next_same = cc; left_same = cc }
part_is_one number lines left left' gives gives' next next' (plain line whole none gives_is next_is) (banner line' body' whole' is' gives_is' next_is') =
    let first : line' ≡ line = cc in
    absurd (none is'.text (rw first at is'.opens))
part_is_one number lines left left' gives gives' next next' (banner line body whole is gives_is next_is) (plain line' whole' none' gives_is' next_is') =
    let first : line ≡ line' = cc in
    absurd (none' is.text (rw first at is.opens))
part_is_one number lines left left' gives gives' next next' (banner line body whole is gives_is next_is) (banner line' body' whole' is' gives_is' next_is') =
    let first : line' ≡ line = cc in
    let rest : body ++ left ≡ body' ++ left' = cc in
    let ones = banner_is_one line body body' left left' is (rw first at is') rest in
    record {
      gives_same = gives_is ∙ (rw (first, ones.0) refl) ∙ sym gives_is';
      next_same = next_is ∙ ap (λ b. number + 1 + length b) ones.0 ∙ sym next_is';
      left_same = ones.1;
    }

open_is_no_part : (number : ℕ) (line : List ℕ) (behind left : List (List ℕ)) (gives : List Reading) (next : ℕ) → IsPart number (line ∷ behind) gives next left → IsOpen line behind → ⊥
open_is_no_part number line behind left gives next (plain line' whole none gives_is next_is) unended =
    let first : line ≡ line' = cc in
    none unended.text (rw first at unended.opens)
open_is_no_part number line behind left gives next (banner line' body whole is gives_is next_is) unended =
    let first : line' ≡ line = cc in
    let rest : behind ≡ body ++ left = cc in
    banner_is_not_open line body left (rw first at is) (rw rest at unended)

nothing_is_no_part : (number : ℕ) (left : List (List ℕ)) (gives : List Reading) (next : ℕ) → IsPart number [] gives next left → ⊥
nothing_is_no_part number left gives next (plain line whole none gives_is next_is) = cc
nothing_is_no_part number left gives next (banner line body whole is gives_is next_is) = cc

lines_from : (next next' : ℕ) (left left' : List (List ℕ)) (more : List Reading) → next ≡ next' → left ≡ left' → AreLines next' left' more → AreLines next left more
lines_from next next' left left' more next_same left_same are = rw (next_same, left_same) are

unclosed_from : (next next' : ℕ) (left left' : List (List ℕ)) (at : ℕ) → next ≡ next' → left ≡ left' → IsUnclosed next' left' at → IsUnclosed next left at
unclosed_from next next' left left' at next_same left_same unclosed = rw (next_same, left_same) unclosed

-- lines are read in one way
pub lines_are_one : {number : ℕ} {lines : List (List ℕ)} {answer answer' : List Reading} → AreLines number lines answer → AreLines number lines answer' → answer ≡ answer'
lines_are_one (end number) (end number') = refl
lines_are_one (end number) (part number' lines gives next left more is rest) = absurd (nothing_is_no_part number' left gives next is)
lines_are_one (part number lines gives next left more is rest) (end number') = absurd (nothing_is_no_part number left gives next is)
lines_are_one (part number lines gives next left more is rest) (part number' lines' gives' next' left' more' is' rest') =
    let same = part_is_one number lines left left' gives gives' next next' is is' in
    let more_same = lines_are_one rest (lines_from next next' left left' more' same.next_same same.left_same rest') in
    cc (same.gives_same, more_same)

pub unclosed_is_one : {number : ℕ} {lines : List (List ℕ)} {at at' : ℕ} → IsUnclosed number lines at → IsUnclosed number lines at' → at ≡ at'
unclosed_is_one (here number line behind unended) (here number' line' behind' unended') = refl
unclosed_is_one (here number line behind unended) (later number' lines gives next left at is rest) = absurd (open_is_no_part number line behind left gives next is unended)
unclosed_is_one (later number lines gives next left at is rest) (here number' line behind unended) = absurd (open_is_no_part number line behind left gives next is unended)
unclosed_is_one (later number lines gives next left at is rest) (later number' lines' gives' next' left' at' is' rest') =
    let same = part_is_one number lines left left' gives gives' next next' is is' in
    unclosed_is_one rest (unclosed_from next next' left left' at' same.next_same same.left_same rest')

-- and not in both
pub not_both_kinds : {number : ℕ} {lines : List (List ℕ)} {answer : List Reading} {at : ℕ} → AreLines number lines answer → IsUnclosed number lines at → ⊥
not_both_kinds (end number) (later number' lines gives next left at is rest) = nothing_is_no_part number' left gives next is
not_both_kinds (part number lines gives next left more is rest) (here number' line behind unended) = open_is_no_part number line behind left gives next is unended
not_both_kinds (part number lines gives next left more is rest) (later number' lines' gives' next' left' at is' rest') =
    let same = part_is_one number lines left left' gives gives' next next' is is' in
    not_both_kinds rest (unclosed_from next next' left left' at same.next_same same.left_same rest')
