-- Lists within a line: entries, each with a blank behind it, and a 0.
use Rattle.std.proofs.Common.{◌≡◌, ℕ, List, [], ◌∷◌, ◌++◌, codes, length, refl, sym, arith, ap, ◌∙◌, append_assoc, append-nil}
use Rattle.std.specs.List.{All, flat_map}
use Rattle.std.proofs.lemmas.List.Elements.{All-nil, All-head, All-tail, All-push}
use Rattle.std.proofs.lemmas.List.Concat.{flat_map-append}
use Rattle.certificates.specs.Text.{listed}
use Rattle.certificates.specs.Parts.Cuts.{IsCut, IsFree}
use Rattle.certificates.specs.Parts.Entries.{BeginsEntry, BeginsList}
use Rattle.certificates.proofs.Cuts.{cut_is_one, cut_is_not_free}

-- texts that can be told apart within a list
pub record AreEntries {X : Type 0} (Fits : X → Type 0) (entry_text : X → List ℕ) : Type 0 where
  pub free : (x : X) → Fits x → IsFree 32 (entry_text x)
  pub one : (x y : X) → Fits x → Fits y → entry_text x ≡ entry_text y → x ≡ y
  pub begins : (x : X) (rest rest' : List ℕ) → Fits x → entry_text x ++ rest ≡ 48 ∷ rest' → ⊥

-- the first entry of a text is what stands before its first blank
pub entry_of_cut : {X : Type 0} (Fits : X → Type 0) (entry_text : X → List ℕ) → AreEntries Fits entry_text → (text word rest rest' : List ℕ) (x : X) → IsCut 32 text word rest → BeginsEntry Fits entry_text text x rest' → word ≡ entry_text x
entry_of_cut Fits entry_text are text word rest rest' x cut begins =
    (cut_is_one 32 word rest (entry_text x) rest' cut.free (are.free x begins.fits) (sym cut.whole ∙ begins.whole)).0

-- a text without a blank begins with none
pub no_entry : {X : Type 0} (Fits : X → Type 0) (entry_text : X → List ℕ) (text rest : List ℕ) (x : X) → IsFree 32 text → BeginsEntry Fits entry_text text x rest → ⊥
no_entry Fits entry_text text rest x free begins = cut_is_not_free 32 text (entry_text x) rest free begins.whole

pub empty_list : (xs : List ℕ) → length xs ≡ 0 → xs ≡ []
empty_list [] none = refl
empty_list (x ∷ xs) none = absurd (omega arith)

pub listed-nil : {X : Type 0} (entry_text : X → List ℕ) (rest : List ℕ) → listed entry_text [] ++ rest ≡ 48 ∷ rest
unfolding listed
listed-nil entry_text rest = refl

pub listed-cons : {X : Type 0} (entry_text : X → List ℕ) (x : X) (xs : List X) (rest : List ℕ) → listed entry_text (x ∷ xs) ++ rest ≡ entry_text x ++ 32 ∷ (listed entry_text xs ++ rest)
unfolding listed
listed-cons entry_text x xs rest = simp append_assoc

-- the text begins with the entries, and what is left of it stands behind them
pub record ReadSoFar {X : Type 0} (Fits : X → Type 0) (entry_text : X → List ℕ) (text : List ℕ) (xs : List X) (rest : List ℕ) : Type 0 where
  pub fit : All Fits xs
  pub whole : text ≡ flat_map (λ x. entry_text x ++ codes " ") xs ++ rest

pub so_far_none : {X : Type 0} (Fits : X → Type 0) (entry_text : X → List ℕ) (text : List ℕ) → ReadSoFar Fits entry_text text [] text
so_far_none Fits entry_text text = record { fit = All-nil Fits; whole = refl }

pub so_far_more : {X : Type 0} (Fits : X → Type 0) (entry_text : X → List ℕ) (text rest rest' : List ℕ) (xs : List X) (x : X) → ReadSoFar Fits entry_text text xs rest → BeginsEntry Fits entry_text rest x rest' → ReadSoFar Fits entry_text text (xs ++ x ∷ []) rest'
so_far_more Fits entry_text text rest rest' xs x so_far first = record {
  fit = All-push Fits xs x so_far.fit first.fits;
  whole = so_far.whole ∙ ap (λ r. flat_map (λ x. entry_text x ++ codes " ") xs ++ r) first.whole ∙ sym (simp (flat_map-append, append_assoc, append-nil));
}

pub so_far_end : {X : Type 0} (Fits : X → Type 0) (entry_text : X → List ℕ) (text rest rest' : List ℕ) (xs : List X) → ReadSoFar Fits entry_text text xs rest → rest ≡ 48 ∷ rest' → BeginsList Fits entry_text text xs rest'
unfolding listed
so_far_end Fits entry_text text rest rest' xs so_far zero = record {
  fit = so_far.fit;
  whole = so_far.whole ∙ ap (λ r. flat_map (λ x. entry_text x ++ codes " ") xs ++ r) zero ∙ sym (simp append_assoc);
}

-- entries that begin a text are the first of any list that begins it
pub left_of_list : {X : Type 0} (Fits : X → Type 0) (entry_text : X → List ℕ) → AreEntries Fits entry_text → (xs ys : List X) (rest rest' : List ℕ) → All Fits xs → All Fits ys
    → flat_map (λ x. entry_text x ++ codes " ") xs ++ rest ≡ listed entry_text ys ++ rest'
    → (more : List X) × (ys ≡ xs ++ more) × BeginsList Fits entry_text rest more rest'
left_of_list Fits entry_text are [] ys rest rest' fit fit' same = (ys, refl, record { fit = fit'; whole = same })
left_of_list Fits entry_text are (x ∷ xs) [] rest rest' fit fit' same =
    absurd (are.begins x (codes " " ++ (flat_map (λ x. entry_text x ++ codes " ") xs ++ rest)) rest' (All-head Fits x xs fit) (sym (simp append_assoc) ∙ same ∙ listed-nil entry_text rest'))
left_of_list Fits entry_text are (x ∷ xs) (y ∷ ys) rest rest' fit fit' same =
    let cut : entry_text x ++ 32 ∷ (flat_map (λ x. entry_text x ++ codes " ") xs ++ rest) ≡ entry_text y ++ 32 ∷ (listed entry_text ys ++ rest') = sym (simp append_assoc) ∙ same ∙ listed-cons entry_text y ys rest' in
    let ones = cut_is_one 32 (entry_text x) (flat_map (λ x. entry_text x ++ codes " ") xs ++ rest) (entry_text y) (listed entry_text ys ++ rest') (are.free x (All-head Fits x xs fit)) (are.free y (All-head Fits y ys fit')) cut in
    let first : x ≡ y = are.one x y (All-head Fits x xs fit) (All-head Fits y ys fit') ones.0 in
    let more = left_of_list Fits entry_text are xs ys rest rest' (All-tail Fits x xs fit) (All-tail Fits y ys fit') ones.1 in
    let whole = more.1 in
    (more.0, cc, more.2)

-- a text begins with one list
pub list_is_one : {X : Type 0} (Fits : X → Type 0) (entry_text : X → List ℕ) → AreEntries Fits entry_text → (xs ys : List X) (rest rest' : List ℕ) → All Fits xs → All Fits ys
    → listed entry_text xs ++ rest ≡ listed entry_text ys ++ rest' → (xs ≡ ys) × (rest ≡ rest')
list_is_one Fits entry_text are [] [] rest rest' fit fit' same =
    let both : 48 ∷ rest ≡ 48 ∷ rest' = sym (listed-nil entry_text rest) ∙ same ∙ listed-nil entry_text rest' in (refl, cc)
list_is_one Fits entry_text are [] (y ∷ ys) rest rest' fit fit' same =
    absurd (are.begins y (32 ∷ (listed entry_text ys ++ rest')) rest (All-head Fits y ys fit') (sym (listed-cons entry_text y ys rest') ∙ sym same ∙ listed-nil entry_text rest))
list_is_one Fits entry_text are (x ∷ xs) [] rest rest' fit fit' same =
    absurd (are.begins x (32 ∷ (listed entry_text xs ++ rest)) rest' (All-head Fits x xs fit) (sym (listed-cons entry_text x xs rest) ∙ same ∙ listed-nil entry_text rest'))
list_is_one Fits entry_text are (x ∷ xs) (y ∷ ys) rest rest' fit fit' same =
    let ones = cut_is_one 32 (entry_text x) (listed entry_text xs ++ rest) (entry_text y) (listed entry_text ys ++ rest') (are.free x (All-head Fits x xs fit)) (are.free y (All-head Fits y ys fit')) (sym (listed-cons entry_text x xs rest) ∙ same ∙ listed-cons entry_text y ys rest') in
    let first : x ≡ y = are.one x y (All-head Fits x xs fit) (All-head Fits y ys fit') ones.0 in
    let more = list_is_one Fits entry_text are xs ys rest rest' (All-tail Fits x xs fit) (All-tail Fits y ys fit') ones.1 in
    let others = more.0 in
    (cc, more.1)

-- where no entry and no 0 begin what is left, no list begins it
no_list : {X : Type 0} (Fits : X → Type 0) (entry_text : X → List ℕ) (rest rest' : List ℕ)
    → ((x : X) (behind : List ℕ) → BeginsEntry Fits entry_text rest x behind → ⊥) → ((behind : List ℕ) → rest ≡ 48 ∷ behind → ⊥)
    → (xs : List X) → BeginsList Fits entry_text rest xs rest' → ⊥
no_list Fits entry_text rest rest' none no_zero [] left = no_zero rest' (left.whole ∙ listed-nil entry_text rest')
no_list Fits entry_text rest rest' none no_zero (x ∷ xs) left =
    none x (listed entry_text xs ++ rest') (record { fits = All-head Fits x xs left.fit; whole = left.whole ∙ listed-cons entry_text x xs rest' })

pub no_other_list : {X : Type 0} (Fits : X → Type 0) (entry_text : X → List ℕ) → AreEntries Fits entry_text → (text rest : List ℕ) (xs : List X) → ReadSoFar Fits entry_text text xs rest
    → ((x : X) (behind : List ℕ) → BeginsEntry Fits entry_text rest x behind → ⊥) → ((behind : List ℕ) → rest ≡ 48 ∷ behind → ⊥)
    → (ys : List X) (rest' : List ℕ) → BeginsList Fits entry_text text ys rest' → ⊥
no_other_list Fits entry_text are text rest xs so_far none no_zero ys rest' begins =
    let more = left_of_list Fits entry_text are xs ys rest rest' so_far.fit begins.fit (sym so_far.whole ∙ begins.whole) in
    no_list Fits entry_text rest rest' none no_zero more.0 more.2
