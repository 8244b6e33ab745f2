-- The lines of items, one after the other.
use Rattle.std.proofs.Common.{◌≡◌, ℕ, ◌+◌, List, [], ◌∷◌, ◌++◌, length, map, refl, sym, ap, ◌∙◌, append_assoc, append-nil, length-append, arith}
use Rattle.std.proofs.lemmas.List.{map-append}
use Rattle.std.specs.List.{All}
use Rattle.std.proofs.lemmas.List.Elements.{All-nil, All-cons, All-head, All-tail, All-push}
use Rattle.certificates.specs.declared.derivation.Item.{Item}
use Rattle.certificates.specs.Writable.{IsWritableItem}
use Rattle.certificates.specs.Text.{item_text, qed_text}
use Rattle.certificates.specs.Reading.{IsItemOf}
use Rattle.certificates.specs.Parts.Places.{IsItemLine, AreItems, EndsItems, StopsItems, at, end}
use Rattle.certificates.proofs.ItemTexts.{item_is_one, item_is_not_qed}

pub no_items : (version : ℕ) → AreItems version []
no_items version = record { writable = All-nil IsWritableItem; of_version = All-nil (IsItemOf version) }

pub first_item : (version : ℕ) (i : Item) (items : List Item) → AreItems version (i ∷ items) → IsItemLine version (item_text i) i
first_item version i items are = record { writable = All-head IsWritableItem i items are.writable; of_version = All-head (IsItemOf version) i items are.of_version; text = refl }

pub other_items : (version : ℕ) (i : Item) (items : List Item) → AreItems version (i ∷ items) → AreItems version items
other_items version i items are = record { writable = All-tail IsWritableItem i items are.writable; of_version = All-tail (IsItemOf version) i items are.of_version }

pub item_before : (version : ℕ) (line : List ℕ) (i : Item) (items : List Item) → IsItemLine version line i → AreItems version items → AreItems version (i ∷ items)
item_before version line i items is are = record { writable = All-cons IsWritableItem i items is.writable are.writable; of_version = All-cons (IsItemOf version) i items is.of_version are.of_version }

-- the items so far, and the lines that are left
pub record ItemsSoFar (version first : ℕ) (lines : List (List ℕ)) (items : List Item) (number : ℕ) (left : List (List ℕ)) : Type 0 where
  pub are : AreItems version items
  pub whole : lines ≡ map item_text items ++ left
  pub place : number ≡ first + length items

pub items_none : (version first : ℕ) (lines : List (List ℕ)) → ItemsSoFar version first lines [] first lines
items_none version first lines = record { are = no_items version; whole = refl; place = omega arith }

pub items_more : (version first number : ℕ) (lines left more : List (List ℕ)) (items : List Item) (line : List ℕ) (i : Item) → ItemsSoFar version first lines items number left → left ≡ line ∷ more → IsItemLine version line i → ItemsSoFar version first lines (items ++ i ∷ []) (number + 1) more
items_more version first number lines left more items line i so_far begins is = record {
  are = record { writable = All-push IsWritableItem items i so_far.are.writable is.writable; of_version = All-push (IsItemOf version) items i so_far.are.of_version is.of_version };
  whole = so_far.whole ∙ ap (λ l. map item_text items ++ l) (begins ∙ ap (λ l. l ∷ more) is.text) ∙ sym (simp (map-append, append_assoc));
  place = simp length-append (omega (arith, so_far.place));
}

pub items_end : (version first number : ℕ) (lines left more : List (List ℕ)) (items : List Item) (line : List ℕ) → ItemsSoFar version first lines items number left → left ≡ line ∷ more → line ≡ qed_text → EndsItems version lines items
items_end version first number lines left more items line so_far begins qed = record {
  are = so_far.are;
  behind = more;
  whole = so_far.whole ∙ ap (λ l. map item_text items ++ l) (begins ∙ ap (λ l. l ∷ more) qed);
}

pub items_stop : (version first number : ℕ) (lines left more : List (List ℕ)) (items : List Item) (line : List ℕ) → ItemsSoFar version first lines items number left → left ≡ line ∷ more → ((i : Item) → IsItemLine version line i → ⊥) → (line ≡ qed_text → ⊥) → StopsItems version lines first number
items_stop version first number lines left more items line so_far begins none other =
    at items line more so_far.are (so_far.whole ∙ ap (λ l. map item_text items ++ l) begins) none other so_far.place

pub items_all : (version first number : ℕ) (lines left : List (List ℕ)) (items : List Item) → ItemsSoFar version first lines items number left → left ≡ [] → StopsItems version lines first number
items_all version first number lines left items so_far none =
    end items so_far.are (so_far.whole ∙ ap (λ l. map item_text items ++ l) none ∙ append-nil (map item_text items)) so_far.place

-- lines that end with qed are those of one list of items
pub items_agree : (version : ℕ) (items items' : List Item) (behind behind' : List (List ℕ)) → AreItems version items → AreItems version items' → map item_text items ++ qed_text ∷ behind ≡ map item_text items' ++ qed_text ∷ behind' → items ≡ items'
items_agree version [] [] behind behind' are are' same = refl
items_agree version [] (i ∷ items') behind behind' are are' same =
    let qed : item_text i ≡ qed_text = cc in absurd (item_is_not_qed i (All-head IsWritableItem i items' are'.writable) qed)
items_agree version (i ∷ items) [] behind behind' are are' same =
    let qed : item_text i ≡ qed_text = cc in absurd (item_is_not_qed i (All-head IsWritableItem i items are.writable) qed)
items_agree version (i ∷ items) (j ∷ items') behind behind' are are' same =
    let first : item_text i ≡ item_text j = cc in
    let tails : map item_text items ++ qed_text ∷ behind ≡ map item_text items' ++ qed_text ∷ behind' = cc in
    let one : i ≡ j = item_is_one i j (All-head IsWritableItem i items are.writable) (All-head IsWritableItem j items' are'.writable) first in
    let others = items_agree version items items' behind behind' (other_items version i items are) (other_items version j items' are') tails in
    cc (one, others)

-- no lines that end with qed have such a line, or none, behind the items
pub bad_line : (version : ℕ) (items items' : List Item) (bad : List ℕ) (behind behind' : List (List ℕ)) → AreItems version items → AreItems version items' → ((i : Item) → IsItemLine version bad i → ⊥) → (bad ≡ qed_text → ⊥) → map item_text items ++ bad ∷ behind ≡ map item_text items' ++ qed_text ∷ behind' → ⊥
bad_line version [] [] bad behind behind' are are' none other same = other (cc)
bad_line version [] (i ∷ items') bad behind behind' are are' none other same =
    let first : bad ≡ item_text i = cc in
    let is = first_item version i items' are' in
    none i (record { writable = is.writable; of_version = is.of_version; text = first })
bad_line version (i ∷ items) [] bad behind behind' are are' none other same =
    let qed : item_text i ≡ qed_text = cc in item_is_not_qed i (All-head IsWritableItem i items are.writable) qed
bad_line version (i ∷ items) (j ∷ items') bad behind behind' are are' none other same =
    bad_line version items items' bad behind behind' (other_items version i items are) (other_items version j items' are') none other (cc)

pub no_qed : (items items' : List Item) (behind : List (List ℕ)) → All IsWritableItem items → map item_text items ≡ map item_text items' ++ qed_text ∷ behind → ⊥
no_qed [] [] behind writable same = cc
no_qed [] (i ∷ items') behind writable same = cc
no_qed (i ∷ items) [] behind writable same =
    let qed : item_text i ≡ qed_text = cc in item_is_not_qed i (All-head IsWritableItem i items writable) qed
no_qed (i ∷ items) (j ∷ items') behind writable same = no_qed items items' behind (All-tail IsWritableItem i items writable) (cc)
