-- Lines behind their number: their first words, and what stands behind a verdict.
use Rattle.std.proofs.Common.{◌≡◌, ◌↔◌, ℕ, ◌^◌, ◌-◌, Bool, true, false, List, [], ◌∷◌, Option, Some, None, codes, length, refl}
use Rattle.ios_lex.specs.declared.stop.Due.TheVariants as due
use Rattle.ios_lex.specs.declared.stop.Stop.{Stop}
use Rattle.ios_lex.specs.Phrases.{Words}
use Rattle.ios_lex.specs.Following.{Begins, MayFollow, IsAddressWord, IsNumberWord}
use Rattle.ios_lex.specs.Refusal.{begins_with_digit}
use Rattle.ios_lex.specs.Stops.{LacksFirst}
use Rattle.ios_lex.proofs.FirstStops.{unexpected, stop_at}
use Rattle.ios_lex.proofs.Stopping.{stop_behind}
use Rattle.ios_lex.proofs.WordForms.{other_no_address, other_no_number}
use Rattle.ios_acl.specs.declared.entry.Entry.{Entry}
use Rattle.ios_acl.specs.declared.entry.Ports.TheVariants as ports
use Rattle.ios_acl.specs.declared.entry.Verdict.{Verdict}
use Rattle.ios_acl.specs.declared.entry.Verdict.TheVariants as verdict
use Rattle.ios_acl.specs.Grammar.{IsExtended, IsSentence, IsStandard, verdict_word}
use Rattle.ios_acl.specs.Reading.{Sentence}
use Rattle.ios_acl.specs.Stops.{IsStop}
use Rattle.ios_acl.specs.Parts.{SomeExtended, SomeSourceEnd}
use Rattle.ios_acl.proofs.OneEntry.{entry_begins, no_verdict_remark}

-- the words with which a line begins
pub data IsFirst (word : List ℕ) : Type 0 where
  remark : word ≡ codes "remark" → IsFirst word
  decides : (v : Verdict) → word ≡ verdict_word v → IsFirst word

first_of_sentence : (extended b : Bool) (word : List ℕ) (more : Words) (line : Option Entry) → IsSentence extended b (word ∷ more) line → IsFirst word
first_of_sentence extended b word more line (IsSentence.entry entry is) =
    let begins = entry_begins extended b entry (word ∷ more) is in IsFirst.decides entry.verdict (cc (begins.1))
first_of_sentence extended b word more line (IsSentence.remark is) = IsFirst.remark (cc (is.whole))

no_sentence : (extended b : Bool) (line : Option Entry) → IsSentence extended b [] line → ⊥
no_sentence extended b line (IsSentence.entry entry is) = let begins = entry_begins extended b entry [] is in cc (begins.1)
no_sentence extended b line (IsSentence.remark is) = cc (is.whole)

-- they begin with no digit
first_letter : (word : List ℕ) → IsFirst word → begins_with_digit word ≡ false
first_letter word (IsFirst.remark is) = rw is refl
first_letter word (IsFirst.decides verdict.Permit is) = rw is refl
first_letter word (IsFirst.decides verdict.Deny is) = rw is refl

pub no_sentence_begins : (extended : Bool) (word : List ℕ) → (word ≡ codes "remark" → ⊥) → ((v : Verdict) → word ≡ verdict_word v → ⊥) → (b : Bool) → Begins (Sentence extended b) (word ∷ []) → ⊥
no_sentence_begins extended word no_remark no_verdict b (more, (line, is)) = by (first_of_sentence extended b word more line is)
  where
    by : IsFirst word → ⊥
    by (IsFirst.remark same) = no_remark same
    by (IsFirst.decides v same) = no_verdict v same

-- no first word stands there
pub sentence_stop : (extended : Bool) (words : Words) (stop : Stop) → stop.left ≡ length words → stop.due ≡ due.Keyword → ((b : Bool) → LacksFirst (Sentence extended b) words) → IsStop (Sentence extended) words stop
sentence_stop extended words stop left is lacks = stop_at (Sentence extended) words stop due.Keyword left is refl (codes "remark" ∷ [], (None, IsSentence.remark (record { text = []; whole = refl })))
    (record { address = unexpected no_address; number = unexpected no_number; name = unexpected (λ h. none h.0); whole = unexpected none })
    (λ empty. none) lacks
  where
    none : Sentence extended false [] → ⊥
    none (line, is) = no_sentence extended false line is

    letter : (word : List ℕ) → Begins (Sentence extended false) (word ∷ []) → begins_with_digit word ≡ false
    letter word (more, (line, is)) = first_letter word (first_of_sentence extended false word more line is)

    no_address : MayFollow (Sentence extended false) [] IsAddressWord → ⊥
    no_address (word, (n, address), begins) = other_no_address word n (letter word begins) address

    no_number : MayFollow (Sentence extended false) [] IsNumberWord → ⊥
    no_number (word, number, begins) = other_no_number word (letter word begins) number

-- behind a verdict stands the rest of an entry
behind_extended : (v : Verdict) (b : Bool) (x : Words) → Sentence true b (verdict_word v ∷ x) ↔ SomeExtended b x
behind_extended v b x = (λ h. forth h.0 h.1, λ h. (Some (record h.0 { verdict = v }), IsSentence.entry (record h.0 { verdict = v }) (record { front = verdict_word v ∷ []; back = x; whole = refl; first = refl; second = h.1 })))
  where
    forth : (line : Option Entry) → IsSentence true b (verdict_word v ∷ x) line → SomeExtended b x
    forth line (IsSentence.entry entry is) =
        let same : is.back ≡ x = cc (rw is.first at is.whole) in
        (entry, rw same at is.second)
    forth line (IsSentence.remark is) = absurd (no_verdict_remark v (verdict_word v ∷ x) x refl is)

behind_standard : (v : Verdict) (b : Bool) (x : Words) → Sentence false b (verdict_word v ∷ x) ↔ SomeSourceEnd b x
behind_standard v b x = (λ h. forth h.0 h.1, back)
  where
    forth : (line : Option Entry) → IsSentence false b (verdict_word v ∷ x) line → SomeSourceEnd b x
    forth line (IsSentence.entry entry is) =
        let same : is.back ≡ x = cc (rw is.first at is.whole) in
        (entry.src, rw same at is.second.source)
    forth line (IsSentence.remark is) = absurd (no_verdict_remark v (verdict_word v ∷ x) x refl is)

    back : SomeSourceEnd b x → Sentence false b (verdict_word v ∷ x)
    back (source, is) =
        let entry : Entry = record {
          number = 0;
          verdict = v;
          proto = None;
          src = source;
          dst = (0, 2 ^ 32 - 1);
          sport = ports.Any;
          dport = ports.Any;
          icmp = None;
          established = false;
        } in (
          Some entry,
          IsSentence.entry entry (record {
            front = verdict_word v ∷ [];
            back = x;
            whole = refl;
            first = refl;
            second = record { source = is; proto = refl; dst = refl; sport = refl; dport = refl; icmp = refl; established = refl };
          }),
        )

abbrev pub BehindVerdict : Bool → Bool → Words → Type 0
BehindVerdict true = SomeExtended
BehindVerdict false = SomeSourceEnd

behind_verdict : (extended : Bool) (v : Verdict) (b : Bool) (x : Words) → Sentence extended b (verdict_word v ∷ x) ↔ BehindVerdict extended b x
behind_verdict true v b x = behind_extended v b x
behind_verdict false v b x = behind_standard v b x

pub stop_behind_verdict : (extended : Bool) (v : Verdict) (words rest : Words) (word : List ℕ) (stop : Stop) → words ≡ word ∷ rest → word ≡ verdict_word v
    → IsStop (BehindVerdict extended) rest stop → IsStop (Sentence extended) words stop
stop_behind_verdict extended v words rest word stop whole is stops =
    stop_behind (Sentence extended) (BehindVerdict extended) words (verdict_word v ∷ []) rest stop (rw (whole, is) refl) (behind_verdict extended v) stops

pub remark_read : (extended b : Bool) (words rest : Words) → words ≡ codes "remark" ∷ rest → IsSentence extended b words None
remark_read extended b words rest whole = IsSentence.remark (record { text = rest; whole = whole })

pub extended_read : (v : Verdict) (entry : Entry) (words rest : Words) (word : List ℕ) → words ≡ word ∷ rest → word ≡ verdict_word v → entry.verdict ≡ v → IsExtended false entry rest → IsSentence true false words (Some entry)
extended_read v entry words rest word whole is verdict second =
    IsSentence.entry entry (record { front = word ∷ []; back = rest; whole = whole; first = rw (is, verdict) refl; second = second })

pub standard_read : (v : Verdict) (entry : Entry) (words rest : Words) (word : List ℕ) → words ≡ word ∷ rest → word ≡ verdict_word v → entry.verdict ≡ v → IsStandard entry rest → IsSentence false false words (Some entry)
standard_read v entry words rest word whole is verdict second =
    IsSentence.entry entry (record { front = word ∷ []; back = rest; whole = whole; first = rw (is, verdict) refl; second = second })
