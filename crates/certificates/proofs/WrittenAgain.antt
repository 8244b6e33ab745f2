-- What is written is read as the same.
use Rattle.std.proofs.Common.{◌≡◌, inr, List, [], ◌∷◌, ◌++◌, map, refl, sym, ◌∙◌, append-nil, arith}
use Rattle.std.specs.List.{All}
use Rattle.std.proofs.lemmas.List.Elements.{All-nil, All-cons, All-head, All-tail}
use Rattle.certificates.specs.declared.derivation.Item.{Item}
use Rattle.certificates.specs.declared.derivation.Item.TheVariants as item
use Rattle.certificates.specs.declared.derivation.Certificate.{Certificate}
use Rattle.certificates.specs.Writable.{IsWritableItem, IsWritableCertificate}
use Rattle.certificates.specs.Lines.{text_lines}
use Rattle.certificates.specs.Text.{head_text, item_text, qed_text, certificate_lines, certificate_text}
use Rattle.certificates.specs.Reading.{IsBeforeHead, IsItemOf, Reads}
use Rattle.certificates.specs.Parts.Cuts.{IsFree}
use Rattle.certificates.proofs.HeadTexts.{head_free}
use Rattle.certificates.proofs.ItemTexts.{item_free}
use Rattle.certificates.proofs.LineTexts.{written_lines}

items_free : (items : List Item) → All IsWritableItem items → All (IsFree 10) (map item_text items ++ qed_text ∷ [])
unfolding qed_text
items_free [] writable = All-cons (IsFree 10) qed_text [] refl (All-nil (IsFree 10))
items_free (i ∷ items) writable =
    All-cons (IsFree 10) (item_text i) (map item_text items ++ qed_text ∷ []) (item_free i (All-head IsWritableItem i items writable)) (items_free items (All-tail IsWritableItem i items writable))

item_of_two : (i : Item) → IsItemOf 2 i
item_of_two (item.Add s) = tt
item_of_two (item.Delete m) = refl

items_of_two : (items : List Item) → All (IsItemOf 2) items
items_of_two [] = All-nil (IsItemOf 2)
items_of_two (i ∷ items) = All-cons (IsItemOf 2) i items (item_of_two i) (items_of_two items)

written_text : (c : Certificate) → IsWritableCertificate c → text_lines (certificate_text c) ≡ certificate_lines 2 c
unfolding certificate_text
written_text c writable =
    written_lines (certificate_lines 2 c) (All-cons (IsFree 10) (head_text 2 c.line) (map item_text c.derivation ++ qed_text ∷ []) (head_free 2 c.line (omega arith) writable.line) (items_free c.derivation writable.items))

pub written_is_read : (c : Certificate) → IsWritableCertificate c → Reads (certificate_text c) c
written_is_read c writable = record {
  version = 2;
  skipped = [];
  behind = [];
  whole = written_text c writable ∙ sym (append-nil (certificate_lines 2 c));
  before = All-nil IsBeforeHead;
  is_version = inr refl;
  writable = writable;
  items = items_of_two c.derivation;
}
