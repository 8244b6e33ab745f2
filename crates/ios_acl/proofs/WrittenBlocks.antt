-- What is written of a list is a block of it.
use Rattle.std.proofs.Common.{◌≡◌, ℕ, ◌==◌, not, true, List, [], ◌∷◌, ◌++◌, refl, sym, subst}
use Rattle.std.specs.List.{list_all}
use Rattle.std.proofs.lemmas.Bool.{and_parts, and_from}
use Rattle.ios_lex.specs.Phrases.{Words}
use Rattle.ios_lex.specs.ListNames.{is_name, is_name_byte}
use Rattle.ios_acl.specs.List.{AccessList, IsAccessList}
use Rattle.ios_acl.specs.Block.{IsBlock, IsBlockName, ReadsAll, empty_list}
use Rattle.ios_acl.specs.Spelling.{block_text, opening_line, entry_lines}
use Rattle.ios_acl.proofs.PlainWords.{is_printed, plain_from}
use Rattle.ios_acl.proofs.BlockLines.{block_lines, first_line, entries_read, opening_read, within_block, block_words}
use Rattle.ios_acl.proofs.AppendedEntries.{reads_rest}

name_printed : (name : List ℕ) → is_name name ≡ true → list_all is_printed name ≡ true
name_printed [] bytes = refl
name_printed (x ∷ xs) bytes =
    let parts = and_parts (is_name_byte x) (is_name xs) bytes in
    and_from (is_printed x) (list_all is_printed xs) (and_parts (is_printed x) (not (x == 34)) parts.0).0 (name_printed xs parts.1)

pub written_block : (list : AccessList) → IsAccessList list → IsBlockName list.extended list.name → IsBlock (block_text list) list
unfolding block_text
written_block list whole name = record {
  opening = first_line list.extended list.name;
  lines = block_lines list.extended 2 list.entries;
  whole = opening_read list.extended list.name (entry_lines list.extended list.entries) (block_lines list.extended 2 list.entries)
      (plain_from list.name name.some (name_printed list.name name.bytes)) (entries_read list.extended 2 list.entries whole.writable);
  opens = record { words = refl; unindented = refl; outside = refl };
  within = within_block list.extended 2 list.entries;
  reads = subst (λ (lines : List Words). ReadsAll (empty_list list.name list.extended) lines list) (sym (block_words list.extended 2 list.entries))
      (reads_rest list.name list.extended [] list.entries whole.rising whole.few whole.writable);
}

-- the text that was written, line by line
pub whole_text : (list : AccessList) (text : List ℕ) → text ≡ opening_line list.extended list.name ++ entry_lines list.extended list.entries → text ≡ block_text list
unfolding block_text
whole_text list text same = same
