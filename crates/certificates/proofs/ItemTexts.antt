-- The texts of items.
use Rattle.std.proofs.Common.{◌≡◌, ℕ, ◌+◌, ◌^◌, ◌<◌, ◌≤◌, Bool, true, false, List, [], ◌∷◌, ◌++◌, codes, get_or, refl, sym, ap, ◌∙◌, append-nil, arith}
use Rattle.std.specs.Fmt.{decimal}
use Rattle.std.specs.List.{All}
use Rattle.std.proofs.lemmas.List.Elements.{All-head, All-tail}
use Rattle.std.proofs.lemmas.Str.Parse.{digit_from_value}
use Rattle.cnf.specs.declared.lit.Lit.{Lit}
use Rattle.certificates.specs.declared.derivation.Step.{Step}
use Rattle.certificates.specs.declared.derivation.Item.{Item}
use Rattle.certificates.specs.declared.derivation.Item.TheVariants as item
use Rattle.certificates.specs.Writable.{IsWritableNumber, IsWritableStep, IsWritableDelete, IsWritableItem}
use Rattle.certificates.specs.Text.{minus, lit_text, lits_text, numbers_text, listed, step_text, delete_text, item_text, qed_text}
use Rattle.certificates.specs.Parts.Cuts.{IsFree}
use Rattle.certificates.specs.Parts.Places.{IsItemLine}
use Rattle.certificates.specs.Parts.Entries.{BeginsList, IsWritableLit}
use Rattle.certificates.proofs.Cuts.{free_append}
use Rattle.certificates.proofs.Decimals.{number_is_free}
use Rattle.certificates.proofs.Entries.{digit_value_first, lits_are_entries, numbers_are_entries}
use Rattle.certificates.proofs.Listed.{list_is_one, listed-nil, listed-cons}

-- a step begins with its literals
pub step_begins : (step : Step) (line : List ℕ) → IsWritableStep step → line ≡ step_text step → BeginsList IsWritableLit lit_text line step.clause (32 ∷ numbers_text step.hints)
unfolding step_text
step_begins step line writable same = record { fit = writable.vars; whole = same }

-- what stands behind the literals of a step
pub step_rest : (step : Step) (line : List ℕ) (lits : List Lit) (rest : List ℕ) → IsWritableStep step → line ≡ step_text step → BeginsList IsWritableLit lit_text line lits rest → (step.clause ≡ lits) × (32 ∷ numbers_text step.hints ≡ rest)
step_rest step line lits rest writable same begins =
    let own = step_begins step line writable same in
    list_is_one IsWritableLit lit_text lits_are_entries step.clause lits (32 ∷ numbers_text step.hints) rest own.fit begins.fit (sym own.whole ∙ begins.whole)

pub step_spelled : (line : List ℕ) (lits : List Lit) (rest text : List ℕ) (hints : List ℕ) → BeginsList IsWritableLit lit_text line lits rest → rest ≡ 32 ∷ text → All IsWritableNumber hints → text ≡ numbers_text hints
    → IsWritableStep (record { clause = lits; hints = hints }) × (line ≡ step_text (record { clause = lits; hints = hints }))
unfolding step_text
step_spelled line lits rest text hints begins blank fit whole =
    (record { vars = begins.fit; hints = fit }, begins.whole ∙ ap (λ r. lits_text lits ++ r) (blank ∙ ap (λ t. 32 ∷ t) whole))

pub numbers_are_one : (m n : List ℕ) → All IsWritableNumber m → All IsWritableNumber n → numbers_text m ≡ numbers_text n → m ≡ n
numbers_are_one m n fit fit' same =
    (list_is_one IsWritableNumber decimal numbers_are_entries m n [] [] fit fit' (append-nil (numbers_text m) ∙ same ∙ sym (append-nil (numbers_text n)))).0

step_from_parts : (s t : Step) → s.clause ≡ t.clause → s.hints ≡ t.hints → s ≡ t
step_from_parts s t clause hints =
    let step : List Lit → List ℕ → Step = λ c h. record { clause = c; hints = h } in
    ap (λ c. step c s.hints) clause ∙ ap (λ h. step t.clause h) hints

step_is_one : (s t : Step) → IsWritableStep s → IsWritableStep t → step_text s ≡ step_text t → s ≡ t
step_is_one s t writable writable' same =
    let ones = step_rest s (step_text s) t.clause (32 ∷ numbers_text t.hints) writable refl (step_begins t (step_text s) writable' same) in
    let numbers : numbers_text s.hints ≡ numbers_text t.hints = cc (ones.1) in
    step_from_parts s t ones.0 (numbers_are_one s.hints t.hints writable.hints writable'.hints numbers)

pub delete_is_one : (m n : List ℕ) → IsWritableDelete m → IsWritableDelete n → delete_text m ≡ delete_text n → m ≡ n
unfolding delete_text
delete_is_one m n writable writable' same =
    let numbers : numbers_text m ≡ numbers_text n = cc in
    numbers_are_one m n writable.all writable'.all numbers

-- a step begins with a digit or a minus sign
sign_first : (b : Bool) (n : ℕ) (rest rest' : List ℕ) (x : ℕ) → n < 2 ^ 62 → (minus b ++ decimal n) ++ rest ≡ x ∷ rest' → x ≤ 57
sign_first true n rest rest' x small same = omega (arith, ap (λ (t : List ℕ). get_or t 0 0) same)
sign_first false n rest rest' x small same = (digit_from_value x (digit_value_first n rest rest' x small same)).1

lit_first : (l : Lit) (rest rest' : List ℕ) (x : ℕ) → IsWritableLit l → lit_text l ++ rest ≡ x ∷ rest' → x ≤ 57
unfolding lit_text
lit_first l rest rest' x fits same = sign_first l.negative (l.var + 1) rest rest' x fits same

lits_first : (lits : List Lit) (rest rest' : List ℕ) (x : ℕ) → All IsWritableLit lits → lits_text lits ++ rest ≡ x ∷ rest' → x ≤ 57
lits_first [] rest rest' x fit same = omega (arith, ap (λ (t : List ℕ). get_or t 0 0) (sym (listed-nil lit_text rest) ∙ same))
lits_first (l ∷ lits) rest rest' x fit same =
    lit_first l (32 ∷ (lits_text lits ++ rest)) rest' x (All-head IsWritableLit l lits fit) (sym (listed-cons lit_text l lits rest) ∙ same)

pub step_first : (step : Step) (x : ℕ) (rest : List ℕ) → IsWritableStep step → step_text step ≡ x ∷ rest → x ≤ 57
unfolding step_text
step_first step x rest writable same = lits_first step.clause (32 ∷ numbers_text step.hints) rest x writable.vars same

delete_first : (numbers : List ℕ) (x : ℕ) (rest : List ℕ) → delete_text numbers ≡ x ∷ rest → x ≡ 100
unfolding delete_text
delete_first numbers x rest same = sym (ap (λ (t : List ℕ). get_or t 0 0) same)

-- a step is no deletion
pub step_is_no_deletion : (step : Step) (text : List ℕ) → IsWritableStep step → codes "d " ++ text ≡ step_text step → ⊥
step_is_no_deletion step text writable same = absurd (omega (arith, step_first step 100 (32 ∷ text) writable (sym same)))

step_is_no_delete : (step : Step) (numbers : List ℕ) → IsWritableStep step → step_text step ≡ delete_text numbers → ⊥
unfolding delete_text
step_is_no_delete step numbers writable same = step_is_no_deletion step (numbers_text numbers) writable (sym same)

pub item_is_one : (i j : Item) → IsWritableItem i → IsWritableItem j → item_text i ≡ item_text j → i ≡ j
item_is_one (item.Add s) (item.Add t) writable writable' same = ap (λ s. item.Add s) (step_is_one s t writable writable' same)
item_is_one (item.Add s) (item.Delete n) writable writable' same = absurd (step_is_no_delete s n writable same)
item_is_one (item.Delete m) (item.Add t) writable writable' same = absurd (step_is_no_delete t m writable' (sym same))
item_is_one (item.Delete m) (item.Delete n) writable writable' same = ap (λ n. item.Delete n) (delete_is_one m n writable writable' same)

pub item_is_not_qed : (i : Item) → IsWritableItem i → item_text i ≡ qed_text → ⊥
unfolding qed_text
item_is_not_qed (item.Add s) writable same = absurd (omega (arith, step_first s 113 (codes "ed") writable same))
item_is_not_qed (item.Delete m) writable same = absurd (omega (arith, delete_first m 113 (codes "ed") same))

-- no line feed stands in an item
listed_free : {X : Type 0} (Fits : X → Type 0) (entry_text : X → List ℕ) → ((x : X) → Fits x → IsFree 10 (entry_text x)) → (xs : List X) → All Fits xs → IsFree 10 (listed entry_text xs)
listed_free Fits entry_text free [] fit = rw (sym (append-nil (listed entry_text [])) ∙ listed-nil entry_text []) refl
listed_free Fits entry_text free (x ∷ xs) fit =
    rw (sym (append-nil (listed entry_text (x ∷ xs))) ∙ listed-cons entry_text x xs [] ∙ ap (λ t. entry_text x ++ 32 ∷ t) (append-nil (listed entry_text xs)))
    (free_append 10 (entry_text x) (32 ∷ listed entry_text xs) (free x (All-head Fits x xs fit)) (listed_free Fits entry_text free xs (All-tail Fits x xs fit)))

numbers_free : (numbers : List ℕ) → All IsWritableNumber numbers → IsFree 10 (numbers_text numbers)
numbers_free numbers fit = listed_free IsWritableNumber decimal (λ n fits. number_is_free 10 n (search (arith)) fits.1) numbers fit

lit_free : (l : Lit) → IsWritableLit l → IsFree 10 (lit_text l)
unfolding lit_text
lit_free l fits = free_append 10 (minus l.negative) (decimal (l.var + 1)) (minus_free l.negative) (number_is_free 10 (l.var + 1) (search (arith)) fits)
  where
    minus_free : (b : Bool) → IsFree 10 (minus b)
    minus_free true = refl
    minus_free false = refl

pub item_free : (i : Item) → IsWritableItem i → IsFree 10 (item_text i)
unfolding step_text delete_text
item_free (item.Add s) writable = free_append 10 (lits_text s.clause) (32 ∷ numbers_text s.hints) (listed_free IsWritableLit lit_text lit_free s.clause writable.vars) (numbers_free s.hints writable.hints)
item_free (item.Delete m) writable = numbers_free m writable.all

-- a line that does not begin as a deletion is a step or nothing
pub only_step : (version : ℕ) (line : List ℕ) → ((rest : List ℕ) → line ≡ codes "d " ++ rest → ⊥) → ((s : Step) → IsWritableStep s → line ≡ step_text s → ⊥) → (i : Item) → IsItemLine version line i → ⊥
unfolding delete_text
only_step version line other none (item.Add s) is = none s is.writable is.text
only_step version line other none (item.Delete m) is = other (numbers_text m) is.text

-- a line that begins as a deletion is one or nothing
pub only_deletion : (version : ℕ) (line text : List ℕ) → line ≡ codes "d " ++ text → ((m : List ℕ) → IsWritableDelete m → codes "d " ++ text ≡ delete_text m → ⊥) → (i : Item) → IsItemLine version line i → ⊥
only_deletion version line text begins none (item.Add s) is = step_is_no_deletion s text is.writable (sym begins ∙ is.text)
only_deletion version line text begins none (item.Delete m) is = none m is.writable (sym begins ∙ is.text)

-- and nothing where the version has no deletions
pub no_deletion : (version : ℕ) (line text : List ℕ) → line ≡ codes "d " ++ text → (version ≡ 2 → ⊥) → (i : Item) → IsItemLine version line i → ⊥
no_deletion version line text begins other (item.Add s) is = step_is_no_deletion s text is.writable (sym begins ∙ is.text)
no_deletion version line text begins other (item.Delete m) is = other is.of_version

pub deletion_spelled : (text : List ℕ) (m : List ℕ) → text ≡ numbers_text m → codes "d " ++ text ≡ delete_text m
unfolding delete_text
deletion_spelled text m same = ap (λ t. codes "d " ++ t) same

pub deleted_text : (text : List ℕ) (m : List ℕ) → codes "d " ++ text ≡ delete_text m → text ≡ numbers_text m
unfolding delete_text
deleted_text text m same = cc
