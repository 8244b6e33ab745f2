-- Words behind blanks.
use Rattle.std.proofs.Common.{◌≡◌, ℕ, ◌<◌, ◌+◌, Bool, List, [], ◌∷◌, ◌++◌, take, get_or, length, codes, refl, ap, ◌∙◌, sym, append_assoc}
use Rattle.std.proofs.lemmas.List.{append-nil, take_more}
use Rattle.ios_lex.specs.Phrases.{Words}
use Rattle.ios_acl.specs.declared.entry.Entry.{Entry}
use Rattle.ios_acl.specs.Block.{kind_word}
use Rattle.ios_acl.specs.Spelling.{behind_blanks, opening_line, entry_line, entry_lines, entry_words}

pub behind_blanks-append : (words more : Words) → behind_blanks (words ++ more) ≡ behind_blanks words ++ behind_blanks more
behind_blanks-append [] more = refl
behind_blanks-append (word ∷ words) more =
    ap (λ text. 32 ∷ (word ++ text)) (behind_blanks-append words more) ∙ ap (λ text. 32 ∷ text) (sym (append_assoc word (behind_blanks words) (behind_blanks more)))

-- some words are written, and then more
pub written_first : (old text new : List ℕ) (words more : Words) → text ≡ old ++ behind_blanks words → new ≡ text ++ behind_blanks more → new ≡ old ++ behind_blanks (words ++ more)
written_first old text new words more first rest =
    rest ∙ ap (λ front. front ++ behind_blanks more) first ∙ append_assoc old (behind_blanks words) (behind_blanks more) ∙ ap (λ back. old ++ back) (sym (behind_blanks-append words more))

pub written_opening : (old first text new : List ℕ) (extended : Bool) (name : List ℕ) → first ≡ old ++ codes "ip"
    → text ≡ first ++ behind_blanks (codes "access-list" ∷ kind_word extended ∷ name ∷ []) → new ≡ text ++ 10 ∷ [] → new ≡ old ++ opening_line extended name
unfolding opening_line
written_opening old first text new extended name begins words ends =
    ends ∙ ap (λ front. front ++ 10 ∷ []) (words ∙ ap (λ front. front ++ behind_blanks (codes "access-list" ∷ kind_word extended ∷ name ∷ [])) begins)
    ∙ append_assoc (old ++ codes "ip") (behind_blanks (codes "access-list" ∷ kind_word extended ∷ name ∷ [])) (10 ∷ [])
    ∙ append_assoc old (codes "ip") (behind_blanks (codes "access-list" ∷ kind_word extended ∷ name ∷ []) ++ 10 ∷ [])

pub written_entry : (old text new : List ℕ) (extended : Bool) (entry : Entry) → text ≡ old ++ behind_blanks (entry_words extended entry) → new ≡ text ++ 10 ∷ [] → new ≡ old ++ entry_line extended entry
unfolding entry_line
written_entry old text new extended entry words ends =
    ends ∙ ap (λ front. front ++ 10 ∷ []) words ∙ append_assoc old (behind_blanks (entry_words extended entry)) (10 ∷ [])

entry_lines-push : (extended : Bool) (entries : List Entry) (entry : Entry) → entry_lines extended (entries ++ entry ∷ []) ≡ entry_lines extended entries ++ entry_line extended entry
entry_lines-push extended [] entry = append-nil (entry_line extended entry)
entry_lines-push extended (first ∷ entries) entry =
    ap (λ text. entry_line extended first ++ text) (entry_lines-push extended entries entry) ∙ sym (append_assoc (entry_line extended first) (entry_lines extended entries) (entry_line extended entry))

-- one entry more
pub lines_more : (opening old new : List ℕ) (extended : Bool) (entries : List Entry) (i : ℕ) (d : Entry) → i < length entries → old ≡ opening ++ entry_lines extended (take i entries)
    → new ≡ old ++ entry_line extended (get_or entries i d) → new ≡ opening ++ entry_lines extended (take (i + 1) entries)
lines_more opening old new extended entries i d inside before written =
    let last : List ℕ = entry_line extended (get_or entries i d) in
    written ∙ ap (λ front. front ++ last) before ∙ append_assoc opening (entry_lines extended (take i entries)) last
    ∙ ap (λ back. opening ++ back) (sym (ap (entry_lines extended) (take_more entries i d inside) ∙ entry_lines-push extended (take i entries) (get_or entries i d)))
