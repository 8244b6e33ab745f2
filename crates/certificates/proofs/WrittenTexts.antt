-- Texts that are written piece by piece.
use Rattle.std.proofs.Common.{◌≡◌, ℕ, ◌+◌, ◌<◌, List, [], ◌∷◌, ◌++◌, codes, length, map, take, get_or, refl, sym, ap, ◌∙◌, append_assoc}
use Rattle.std.specs.List.{flat_map}
use Rattle.std.proofs.lemmas.List.{flat_map_more, take_more}
use Rattle.certificates.specs.declared.derivation.Item.{Item}
use Rattle.certificates.specs.declared.derivation.Certificate.{Certificate}
use Rattle.certificates.specs.Text.{head_text, item_text, qed_text, listed, lines_text, certificate_text}

-- one more element, and its text behind the others
pub pushed_more : {X : Type 0} (f : X → List ℕ) (start text next : List ℕ) (xs : List X) (i : ℕ) (x : X) → i < length xs → x ≡ get_or xs i x → text ≡ start ++ flat_map f (take i xs) → next ≡ text ++ f x → next ≡ start ++ flat_map f (take (i + 1) xs)
pushed_more f start text next xs i x inside is so_far pushed =
    pushed ∙ ap (λ t. t ++ f x) so_far ∙ flat_map_more f start (take i xs) x
    ∙ ap (λ ys. start ++ flat_map f ys) (ap (λ y. take i xs ++ y ∷ []) is ∙ sym (take_more xs i x inside))

-- an element and the byte behind it are written one after the other
pub pushed_twice : (text first next piece behind : List ℕ) → first ≡ text ++ piece → next ≡ first ++ behind → next ≡ text ++ (piece ++ behind)
pushed_twice text first next piece behind one two = two ∙ ap (λ t. t ++ behind) one ∙ simp append_assoc

-- entries, and the 0 behind them, are a list
pub pushed_list : {X : Type 0} (entry_text : X → List ℕ) (start text next : List ℕ) (xs : List X) → text ≡ start ++ flat_map (λ x. entry_text x ++ codes " ") xs → next ≡ text ++ codes "0" → next ≡ start ++ listed entry_text xs
unfolding listed
pushed_list entry_text start text next xs so_far pushed = pushed ∙ ap (λ t. t ++ codes "0") so_far ∙ simp append_assoc

-- the lines of the items are those of their texts
lines_of_items : (items : List Item) → lines_text (map item_text items ++ qed_text ∷ []) ≡ flat_map (λ i. item_text i ++ codes "\n") items ++ codes "qed\n"
unfolding qed_text
lines_of_items [] = refl
lines_of_items (i ∷ items) = ap (λ t. (item_text i ++ codes "\n") ++ t) (lines_of_items items) ∙ sym (simp append_assoc)

pub pushed_certificate : (certificate : Certificate) (text next : List ℕ) → text ≡ (head_text 2 certificate.line ++ codes "\n") ++ flat_map (λ i. item_text i ++ codes "\n") certificate.derivation → next ≡ text ++ codes "qed\n" → next ≡ certificate_text certificate
unfolding certificate_text
pushed_certificate certificate text next so_far pushed =
    pushed ∙ ap (λ t. t ++ codes "qed\n") so_far ∙ append_assoc (head_text 2 certificate.line ++ codes "\n") (flat_map (λ i. item_text i ++ codes "\n") certificate.derivation) (codes "qed\n") ∙ sym (ap (λ t. (head_text 2 certificate.line ++ codes "\n") ++ t) (lines_of_items certificate.derivation))
