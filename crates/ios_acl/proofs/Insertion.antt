-- How a list stands with one more entry.
use Rattle.std.proofs.Common.{◌≡◌, ℕ, ◌<◌, ◌≤◌, Bool, true, false, List, ◌∷◌, length, take, drop, ap, arith}
use Rattle.std.specs.List.{insert, AllByRecursion}
use Rattle.std.proofs.lemmas.List.Edits.{length-insert}
use Rattle.std.proofs.lemmas.List.Elements.{All-append, All-cons, All-take, All-drop, All-from_recursion, recursion_from_All}
use Rattle.ios_lex.specs.Phrases.{Words}
use Rattle.ios_acl.specs.declared.entry.Entry.{Entry}
use Rattle.ios_acl.specs.Grammar.{IsEntry}
use Rattle.ios_acl.specs.List.{AccessList, IsAccessList, IsWritable, has_number, with_entry, greatest_sequence, most_entries}
use Rattle.ios_acl.specs.Adding.{with_number}
use Rattle.ios_acl.proofs.Rising.{before, before_within, insert_in_order, rising_in_between}

-- the words of an entry do not have its number
pub spelled_numbered : (extended backward : Bool) (entry : Entry) (n : ℕ) (words : Words) → IsEntry extended backward entry words → IsEntry extended backward (with_number entry n) words
spelled_numbered true backward entry n words h = h
spelled_numbered false backward entry n words h =
    record {
      front = h.front;
      back = h.back;
      whole = h.whole;
      first = h.first;
      second = record {
        source = h.second.source;
        proto = h.second.proto;
        dst = h.second.dst;
        sport = h.second.sport;
        dport = h.second.dport;
        icmp = h.second.icmp;
        established = h.second.established;
      };
    }

all_inserted : {X : Type 0} (P : X → Type 0) (xs : List X) (i : ℕ) (x : X) → AllByRecursion P xs → P x → AllByRecursion P (insert xs i x)
all_inserted P xs i x all here =
    let every = All-from_recursion P xs all in
    recursion_from_All P (insert xs i x) (All-append P (take i xs) (x ∷ drop i xs) (All-take P i xs every) (All-cons P x (drop i xs) here (All-drop P i xs every)))

-- the entry may come into the list under this number
pub record IsAddable (list : AccessList) (entry : Entry) (n : ℕ) : Type 0 where
  pub spelled : (words : Words) × IsEntry list.extended false entry words
  pub some : 0 < n
  pub small : n ≤ greatest_sequence
  pub free : has_number list.entries n ≡ false
  pub room : length list.entries < most_entries

abbrev pub with_items : AccessList → List Entry → AccessList
with_items list items = record list { entries = items }

pub inserted_list : (list : AccessList) (entry : Entry) (n : ℕ) → IsAccessList list → IsAddable list entry n
    → IsAccessList (with_items list (insert list.entries (length (before n list.entries)) (with_number entry n)))
inserted_list list entry n is addable =
    let new = with_number entry n in
    record {
      rising = rw (insert_in_order list.entries new is.rising addable.free) (rising_in_between list.entries new is.rising);
      few = omega (arith, length-insert list.entries (length (before n list.entries)) new (before_within n list.entries), addable.room);
      writable = all_inserted (IsWritable list.extended) list.entries (length (before n list.entries)) new is.writable
          (record { words = addable.spelled.0; spelled = spelled_numbered list.extended false entry n addable.spelled.0 addable.spelled.1; some = addable.some; small = addable.small });
    }

pub inserted_entry : (list : AccessList) (entry : Entry) (n : ℕ) → IsAccessList list → has_number list.entries n ≡ false
    → with_items list (insert list.entries (length (before n list.entries)) (with_number entry n)) ≡ with_entry list (with_number entry n)
inserted_entry list entry n is free = ap (with_items list) (insert_in_order list.entries (with_number entry n) is.rising free)
