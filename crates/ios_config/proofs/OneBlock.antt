-- The block of one list, read as a configuration.
use Rattle.std.proofs.Common.{◌≡◌, ℕ, true, List, [], ◌∷◌, map, refl, sym, ap, subst}
use Rattle.std.specs.List.{AllByRecursion}
use Rattle.std.specs.Str.{bytes_eq}
use Rattle.ios_lex.specs.Lines.{Reading}
use Rattle.ios_acl.specs.Block.{IsBlock, IsBlockName, IsWithinBlock, OpensBlock, ReadsAll, empty_list, kind_word}
use Rattle.ios_acl.specs.List.{AccessList, IsAccessList}
use Rattle.ios_acl.specs.Reading.{Reads as ReadsRule}
use Rattle.ios_acl.specs.Spelling.{block_text}
use Rattle.ios_acl.proofs.WrittenBlocks.{written_block}
use Rattle.ios_lists.proofs.BlockEntries.{reads_keeps}
use Rattle.ios_config.specs.Line.{FallsUnder, IsOfRule, Makes, Rule, Takes}
use Rattle.ios_config.specs.Reading.{Reads, TakesAll}
use Rattle.ios_config.specs.Router.{Draft, OpenBlock, no_entries, no_lines, of_list}
use Rattle.ios_config.specs.declared.command.Command.TheVariants as commands
use Rattle.ios_config.proofs.NamedLists.{same_name}

-- the draft of one list, whose block is open
abbrev one_list : List (List ℕ) → AccessList → Draft
one_list known list = record {
  lists = list ∷ [];
  interfaces = record { known = known; blocks = [] };
  routes = [];
  nat = no_entries;
  block = OpenBlock.list_block list.name;
  ignored = 0;
}

line_taken : (known : List (List ℕ)) (list new : AccessList) (line : Reading) → IsWithinBlock line → ReadsRule list line.words new → Takes (one_list known list) line (one_list known new)
line_taken known list new line within reads =
    let kept = (reads_keeps list new line.words reads).name in
    let own : bytes_eq list.name list.name ≡ true = same_name list.name in
    let put : bytes_eq new.name list.name ≡ true = rw kept (same_name list.name) in
    let grown : (record (one_list known new) { block = OpenBlock.list_block list.name }) ≡ one_list known new =
    ap (λ (name : List ℕ). let d : Draft = record (one_list known new) { block = OpenBlock.list_block name } in d) (sym kept) in
    subst (λ (next : Draft). Takes (one_list known list) line next) grown
    (record {
      rule = Rule.entry list.name;
      falls = FallsUnder.within within;
      makes = Makes.entry list.name (new ∷ [])
          (record { extended = list.extended; kind = rw own refl; reads = record { made = new; reads = rw own reads; put = rw put refl } });
    })

lines_taken : (known : List (List ℕ)) (lines : List Reading) (list new : AccessList) → AllByRecursion IsWithinBlock lines
    → ReadsAll list (map (λ (line : Reading). line.words) lines) new → TakesAll (one_list known list) lines (one_list known new)
lines_taken known [] list new within (ReadsAll.end same) = TakesAll.end (one_list known list)
lines_taken known (line ∷ lines) list new within (ReadsAll.line first next end words more reads rest) =
    TakesAll.next (one_list known list) (one_list known next) (one_list known new) line lines (line_taken known list next line within.0 reads)
    (lines_taken known lines next new within.1 rest)

opening_taken : (known : List (List ℕ)) (list : AccessList) (line : Reading) → OpensBlock list line → IsBlockName list.extended list.name
    → Takes (no_lines known) line (one_list known (empty_list list.name list.extended))
opening_taken known list line opens name = record {
  rule = Rule.command commands.ListBlock (kind_word list.extended ∷ list.name ∷ []);
  falls = FallsUnder.outside (Rule.command commands.ListBlock (kind_word list.extended ∷ list.name ∷ [])) (record { unindented = opens.unindented; outside = opens.outside })
      (IsOfRule.command commands.ListBlock (kind_word list.extended ∷ list.name ∷ []) opens.words);
  makes = Makes.list (kind_word list.extended ∷ list.name ∷ []) list.name list.extended
      (record { whole = refl; fits_name = name.fits; fits_lists = λ other. cc; bytes = name.bytes });
}

pub block_is_read : (known : List (List ℕ)) (text : List ℕ) (list : AccessList) → IsBlock text list → IsBlockName list.extended list.name → Reads known text (of_list list)
block_is_read known text list is name = record {
  draft = one_list known list;
  taken = record {
    readings = is.opening ∷ is.lines;
    are_lines = is.whole;
    taken = TakesAll.next (no_lines known) (one_list known (empty_list list.name list.extended)) (one_list known list) is.opening is.lines
        (opening_taken known list is.opening is.opens name) (lines_taken known is.lines (empty_list list.name list.extended) list is.within is.reads);
  };
  lead = refl;
  found = refl;
  is = refl;
}

pub written_is_read : (known : List (List ℕ)) (list : AccessList) → IsAccessList list → IsBlockName list.extended list.name → Reads known (block_text list) (of_list list)
written_is_read known list whole name = block_is_read known (block_text list) list (written_block list whole name) name
