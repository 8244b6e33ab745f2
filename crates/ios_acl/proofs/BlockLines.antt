-- The lines of a written block, and their words.
use Rattle.std.proofs.Common.{◌≡◌, ℕ, zero, suc, ◌+◌, ◌-◌, ◌^◌, ◌<◌, ◌==◌, ◌&&◌, nat_le, Bool, true, false, List, [], ◌∷◌, ◌++◌, length, map, get_or, codes, refl, sym, ap, subst, ◌∙◌, append_assoc, arith}
use Rattle.std.specs.Fmt.{decimal}
use Rattle.std.specs.List.{All, AllByRecursion, filter, list_all, list_any, slice_split}
use Rattle.std.proofs.lemmas.Bool.{and_parts, and_from, or_parts, or_from, leb-true, le-leb, ne_eqb}
use Rattle.std.proofs.lemmas.Fmt.{first_decimal}
use Rattle.std.proofs.lemmas.List.{append-nil}
use Rattle.std.proofs.lemmas.List.Elements.{All-nil, All-cons, filter-append}
use Rattle.std.proofs.lemmas.List.Folds.{list_all-append}
use Rattle.std.proofs.lemmas.List.Splits.{slice_split_none, slice_split_at}
use Rattle.ios_lex.specs.Cut.{IsFree}
use Rattle.ios_lex.specs.Banner.{Opens}
use Rattle.ios_lex.specs.Lines.{Reading, AreLines, IsPart, is_indented, outside}
use Rattle.ios_lex.specs.RawLines.{raw_lines, without_return}
use Rattle.ios_lex.specs.Words.{is_gap, is_some_text, words_of}
use Rattle.ios_lex.specs.Phrases.{Words}
use Rattle.ios_lex.proofs.LineWords.{kept}
use Rattle.ios_lex.proofs.OpeningWords.{opens_unindented, opens_words}
use Rattle.ios_lex.proofs.RawTexts.{ended_line}
use Rattle.ios_acl.specs.declared.entry.Entry.{Entry}
use Rattle.ios_acl.specs.List.{IsWritable}
use Rattle.ios_acl.specs.Block.{kind_word, IsWithinBlock}
use Rattle.ios_acl.specs.Spelling.{behind_blanks, sentence_words, entry_words, entry_line, opening_line, entry_lines}
use Rattle.ios_acl.proofs.PlainWords.{is_printed, is_plain, plain_some, plain_printed}
use Rattle.ios_acl.proofs.WrittenEntries.{entry_plain}

-- a byte of a line: a printed one, or a blank
abbrev is_line_byte : ℕ → Bool
is_line_byte byte = nat_le 32 byte && nat_le byte 126

line_byte : (byte : ℕ) → is_printed byte ≡ true → is_line_byte byte ≡ true
line_byte byte printed =
    let parts = and_parts (nat_le 33 byte) (nat_le byte 126) printed in
    and_from (nat_le 32 byte) (nat_le byte 126) (le-leb 32 byte (omega (arith, leb-true 33 byte parts.0))) parts.1

line_bytes : (text : List ℕ) → list_all is_printed text ≡ true → list_all is_line_byte text ≡ true
line_bytes [] printed = refl
line_bytes (x ∷ xs) printed =
    let parts = and_parts (is_printed x) (list_all is_printed xs) printed in
    and_from (is_line_byte x) (list_all is_line_byte xs) (line_byte x parts.0) (line_bytes xs parts.1)

blanks_line : (words : Words) → list_all is_plain words ≡ true → list_all is_line_byte (behind_blanks words) ≡ true
blanks_line [] plain = refl
blanks_line (word ∷ words) plain =
    let parts = and_parts (is_plain word) (list_all is_plain words) plain in
    list_all-append is_line_byte word (behind_blanks words) ∙ and_from (list_all is_line_byte word) (list_all is_line_byte (behind_blanks words)) (line_bytes word (plain_printed word parts.0)) (blanks_line words parts.1)

line_free : (byte : ℕ) → byte < 32 → (text : List ℕ) → list_all is_line_byte text ≡ true → IsFree byte text
line_free byte low [] is = refl
line_free byte low (x ∷ xs) is =
    let parts = and_parts (is_line_byte x) (list_all is_line_byte xs) is in
    let least = leb-true 32 x (and_parts (nat_le 32 x) (nat_le x 126) parts.0).0 in
    or_from (x == byte) (list_any (λ b. b == byte) xs) (ne_eqb x byte (λ same. omega (arith, same, least))) (line_free byte low xs parts.1)

free_at : (byte : ℕ) → 0 < byte → (text : List ℕ) (k : ℕ) → IsFree byte text → (get_or text k 0 == byte) ≡ false
free_at byte some [] k free = ne_eqb 0 byte (λ same. omega (arith, same))
free_at byte some (x ∷ xs) zero free = (or_parts (x == byte) (list_any (λ b. b == byte) xs) free).0
free_at byte some (x ∷ xs) (suc k) free = free_at byte some xs k (or_parts (x == byte) (list_any (λ b. b == byte) xs) free).1

no_return : (text : List ℕ) → IsFree 13 text → without_return text ≡ text
no_return text free = rw (free_at 13 (omega arith) text (length text - 1) free) refl

line_raw : (line rest : List ℕ) → list_all is_line_byte line ≡ true → raw_lines (line ++ 10 ∷ rest) ≡ line ∷ raw_lines rest
line_raw line rest is =
    ended_line (line ++ 10 ∷ rest) line rest (record { whole = refl; free = line_free 10 (omega arith) line is })
    ∙ ap (λ l. l ∷ raw_lines rest) (no_return line (line_free 13 (omega arith) line is))

not_gap : (byte : ℕ) → is_printed byte ≡ true → is_gap byte ≡ false
not_gap byte printed =
    let least = leb-true 33 byte (and_parts (nat_le 33 byte) (nat_le byte 126) printed).0 in
    or_from (byte == 32) (byte == 9) (ne_eqb byte 32 (λ same. omega (arith, same, least))) (ne_eqb byte 9 (λ same. omega (arith, same, least)))

no_gaps : (text : List ℕ) → list_all is_printed text ≡ true → All (λ b. is_gap b ≡ false) text
no_gaps [] printed = All-nil (λ (b : ℕ). is_gap b ≡ false)
no_gaps (x ∷ xs) printed =
    let parts = and_parts (is_printed x) (list_all is_printed xs) printed in
    All-cons (λ (b : ℕ). is_gap b ≡ false) x xs (not_gap x parts.0) (no_gaps xs parts.1)

-- the words of a text of words behind blanks are these
words_behind : (front : List ℕ) (words : Words) → list_all is_printed front ≡ true → list_all is_plain words ≡ true
    → words_of (front ++ behind_blanks words) ≡ filter is_some_text (front ∷ []) ++ words
words_behind front [] printed plain =
    ap words_of (append-nil front) ∙ ap (filter is_some_text) (slice_split_none is_gap front (no_gaps front printed)) ∙ sym (append-nil (filter is_some_text (front ∷ [])))
words_behind front (word ∷ words) printed plain =
    let parts = and_parts (is_plain word) (list_all is_plain words) plain in
    ap (filter is_some_text) (slice_split_at is_gap front 32 (word ++ behind_blanks words) (no_gaps front printed) refl)
    ∙ filter-append is_some_text (front ∷ []) (slice_split is_gap (word ++ behind_blanks words))
    ∙ ap (λ more. filter is_some_text (front ∷ []) ++ more) (words_behind word words (plain_printed word parts.0) parts.1 ∙ ap (λ first. first ++ words) (kept word (plain_some word parts.0)))

read_as : (number : ℕ) (line first : List ℕ) (words : Words) → words_of line ≡ first ∷ words → (get_or first 0 0 == 33) ≡ false
    → outside number line ≡ record { number = number; indented = is_indented line; banner = false; words = first ∷ words } ∷ []
read_as number line first words is no_comment = rw (is, no_comment) refl

one_line : (number : ℕ) (line : List ℕ) (lines : List (List ℕ)) (one : Reading) (more : List Reading) → ((text : List ℕ) → Opens line text → ⊥)
    → outside number line ≡ one ∷ [] → AreLines (number + 1) lines more → AreLines number (line ∷ lines) (one ∷ more)
one_line number line lines one more none gives rest =
    AreLines.part number (line ∷ lines) (one ∷ []) (number + 1) lines more (IsPart.plain line refl none (sym gives) refl) rest

-- what the lines of the entries are read as
abbrev pub block_line : ℕ → Words → Reading
block_line number words = record { number = number; indented = true; banner = false; words = words }

abbrev pub block_lines : Bool → ℕ → List Entry → List Reading
block_lines extended number [] = []
block_lines extended number (entry ∷ entries) = block_line number (entry_words extended entry) ∷ block_lines extended (number + 1) entries

no_banner : (line text : List ℕ) → is_indented line ≡ true → Opens line text → ⊥
no_banner line text indented opens = let unindented = opens_unindented line text opens in cc

no_comment : (n : ℕ) → 0 < n → n < 2 ^ 64 → (get_or (decimal n) 0 0 == 33) ≡ false
no_comment n some small = ne_eqb (get_or (decimal n) 0 0) 33 (λ same. omega (arith, same, first_decimal n some small))

entry_read : (extended : Bool) (number : ℕ) (entry : Entry) → IsWritable extended entry
    → outside number (behind_blanks (entry_words extended entry)) ≡ block_line number (entry_words extended entry) ∷ []
entry_read extended number entry writable =
    read_as number (behind_blanks (entry_words extended entry)) (decimal entry.number) (sentence_words extended entry)
    (words_behind [] (entry_words extended entry) refl (entry_plain extended entry writable))
    (no_comment entry.number writable.some (omega (arith, writable.small)))

pub entries_read : (extended : Bool) (number : ℕ) (entries : List Entry) → AllByRecursion (IsWritable extended) entries
    → AreLines number (raw_lines (entry_lines extended entries)) (block_lines extended number entries)
unfolding entry_line
entries_read extended number [] all = AreLines.end number
entries_read extended number (entry ∷ entries) all =
    let line : List ℕ = behind_blanks (entry_words extended entry) in
    let raw : raw_lines (entry_lines extended (entry ∷ entries)) ≡ line ∷ raw_lines (entry_lines extended entries) =
    ap raw_lines (append_assoc line (10 ∷ []) (entry_lines extended entries)) ∙ line_raw line (entry_lines extended entries) (blanks_line (entry_words extended entry) (entry_plain extended entry all.0)) in
    subst (λ lines. AreLines number lines (block_lines extended number (entry ∷ entries))) (sym raw)
    (one_line number line (raw_lines (entry_lines extended entries)) (block_line number (entry_words extended entry)) (block_lines extended (number + 1) entries)
    (λ text opens. no_banner line text refl opens) (entry_read extended number entry all.0) (entries_read extended (number + 1) entries all.1))

-- the line that opens the block, before others
abbrev pub opening_words : Bool → List ℕ → Words
opening_words extended name = codes "access-list" ∷ kind_word extended ∷ name ∷ []

abbrev pub first_line : Bool → List ℕ → Reading
first_line extended name = record { number = 1; indented = false; banner = false; words = codes "ip" ∷ opening_words extended name }

kind_plain : (extended : Bool) → is_plain (kind_word extended) ≡ true
kind_plain true = refl
kind_plain false = refl

opening_plain : (extended : Bool) (name : List ℕ) → is_plain name ≡ true → list_all is_plain (opening_words extended name) ≡ true
opening_plain extended name plain =
    and_from (is_plain (kind_word extended)) (list_all is_plain (name ∷ [])) (kind_plain extended) (and_from (is_plain name) true plain refl)

pub opening_read : (extended : Bool) (name rest : List ℕ) (more : List Reading) → is_plain name ≡ true → AreLines 2 (raw_lines rest) more
    → AreLines 1 (raw_lines (opening_line extended name ++ rest)) (first_line extended name ∷ more)
unfolding opening_line
opening_read extended name rest more plain read =
    let words : Words = opening_words extended name in
    let line : List ℕ = codes "ip" ++ behind_blanks words in
    let are : words_of line ≡ codes "ip" ∷ words = words_behind (codes "ip") words refl (opening_plain extended name plain) in
    let raw : raw_lines (opening_line extended name ++ rest) ≡ line ∷ raw_lines rest =
    ap raw_lines (append_assoc line (10 ∷ []) rest) ∙ line_raw line rest (blanks_line words (opening_plain extended name plain)) in
    subst (λ lines. AreLines 1 lines (first_line extended name ∷ more)) (sym raw)
    (one_line 1 line (raw_lines rest) (first_line extended name) more (no_opening line words are) (read_as 1 line (codes "ip") words are refl) read)
  where
    no_opening : (line : List ℕ) (words : Words) → words_of line ≡ codes "ip" ∷ words → (text : List ℕ) → Opens line text → ⊥
    no_opening line words are text opens =
        let banner = opens_words line text opens in
        let same : codes "ip" ∷ words ≡ codes "banner" ∷ banner.0 ∷ banner.1 ∷ banner.2 = sym are ∙ banner.3 in
        let first : codes "ip" ≡ codes "banner" = cc in
        omega (arith, ap length first)

pub within_block : (extended : Bool) (number : ℕ) (entries : List Entry) → AllByRecursion IsWithinBlock (block_lines extended number entries)
within_block extended number [] = tt
within_block extended number (entry ∷ entries) = (record { indented = refl; outside = refl }, within_block extended (number + 1) entries)

pub block_words : (extended : Bool) (number : ℕ) (entries : List Entry) → map (λ (line : Reading). line.words) (block_lines extended number entries) ≡ map (entry_words extended) entries
block_words extended number [] = refl
block_words extended number (entry ∷ entries) = ap (λ more. entry_words extended entry ∷ more) (block_words extended (number + 1) entries)
