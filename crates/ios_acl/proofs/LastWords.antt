-- What the last words of an entry spell, and where they stop to spell it.
use Rattle.std.proofs.Common.{◌≡◌, inl, inr, ◌↔◌, ℕ, Bool, true, false, List, [], ◌∷◌, ◌++◌, length, Option, Some, None, refl, sym, Contains, codes, lit<}
use Rattle.ios_lex.specs.Address.{IsAddress}
use Rattle.ios_lex.specs.Decimal.{IsNumber}
use Rattle.ios_lex.specs.Names.{icmp_messages, IsMessage, IsMessageName}
use Rattle.ios_lex.specs.declared.stop.Due.TheVariants as due
use Rattle.ios_lex.specs.declared.stop.Stop.{Stop}
use Rattle.ios_lex.specs.Phrases.{Words}
use Rattle.ios_lex.specs.Following.{Begins, MayFollow, IsAddressWord}
use Rattle.ios_lex.specs.Stops.{expecting}
use Rattle.ios_lex.specs.Stops as stopping
use Rattle.ios_lex.proofs.Stopping.{stop_first, stop_behind}
use Rattle.ios_lex.proofs.WordForms.{zero_number, number_word, numeral_digit, no_number_address, no_address_message, message_name_form}
use Rattle.ios_lex.proofs.FirstStops.{stop_ahead}
use Rattle.ios_acl.specs.Grammar.{AreMessages, AreMessagesOf, IsLog}
use Rattle.ios_acl.specs.Stops.{IsExpected, StopsBefore, IsStop}
use Rattle.ios_acl.specs.Parts.{SomeLog, IsCodeEnd, SomeCodeEnd, IsMessageEnd, SomeMessageEnd, is_log_word, is_log_next}
use Rattle.ios_acl.proofs.LogWords.{log_test, log_read, no_log_address, no_log_number, no_log_message}

-- words before the last ones: none, or one
pub behind_none : (words front back : Words) → words ≡ front ++ back → front ≡ [] → back ≡ words
behind_none words front back whole none = let same = rw none at whole in sym same

pub behind_one : (word first : List ℕ) (x front back : Words) → word ∷ x ≡ front ++ back → front ≡ first ∷ [] → (first ≡ word) × (back ≡ x)
behind_one word first x front back whole one = let same = rw one at whole in (cc same, cc same)

-- a stop behind a word on logging, where that word begins a line only as it begins a log
stop_at_log : (Line : Bool → Words → Type 0) (words : Words) (stop : Stop) → is_log_next words ≡ true
    → ((b : Bool) (word : List ℕ) (x : Words) → IsLog true (word ∷ []) → Line b (word ∷ x) ↔ IsLog true (word ∷ x))
    → IsStop (SomeLog true) words stop → IsStop Line words stop
stop_at_log Line [] stop next same stops = absurd (no_stop stops.front stops.back stops.whole stops.stops)
  where
    no_stop : (front back : Words) → [] ≡ front ++ back → StopsBefore (SomeLog true) front stop.due back → ⊥
    no_stop [] [] whole (stopping.short begun short) = short (IsLog.none refl)
    no_stop [] (word ∷ more) whole before = cc whole
    no_stop (word ∷ more) back whole before = cc whole
stop_at_log Line (word ∷ rest) stop next same stops =
    stop_behind Line (λ b x. SomeLog true b (word ∷ x)) (word ∷ rest) (word ∷ []) rest stop refl (λ b x. same b word x (log_read true word next))
    (stop_ahead (SomeLog true) (word ∷ rest) rest word stop refl ([], log_read true word next) stops)

-- the code of an ICMP message

pub data IsCodeFirst (word : List ℕ) (x : Words) : Type 0 where
  log : IsLog true (word ∷ x) → IsCodeFirst word x
  number : (n : ℕ) → IsNumber 255 word n → IsLog true x → IsCodeFirst word x

code_first : (code : Option ℕ) (word : List ℕ) (x : Words) → IsCodeEnd code (word ∷ x) → IsCodeFirst word x
code_first None word x m = let same = behind_none (word ∷ x) m.front m.back m.whole m.first in IsCodeFirst.log (rw same at m.second)
code_first (Some n) word x m =
    let same = behind_one word m.first.0 x m.front m.back m.whole m.first.1 in
    IsCodeFirst.number n (rw same.0 at m.first.2) (rw same.1 at m.second)

pub no_code : (words : Words) → IsLog true words → IsCodeEnd None words
no_code words logs = record { front = []; back = words; whole = refl; first = refl; second = logs }

pub one_code : (word : List ℕ) (n : ℕ) (x : Words) → IsNumber 255 word n → IsLog true x → IsCodeEnd (Some n) (word ∷ x)
one_code word n x is logs = record { front = word ∷ []; back = x; whole = refl; first = (word, refl, is); second = logs }

pub stop_log_code : (words : Words) (stop : Stop) → is_log_next words ≡ true → IsStop (SomeLog true) words stop → IsStop SomeCodeEnd words stop
stop_log_code words stop next stops = stop_at_log SomeCodeEnd words stop next same stops
  where
    same : (b : Bool) (word : List ℕ) (x : Words) → IsLog true (word ∷ []) → SomeCodeEnd b (word ∷ x) ↔ IsLog true (word ∷ x)
    same b word x logs = (forth, λ longer. (None, no_code (word ∷ x) longer))
      where
        by_case : IsCodeFirst word x → IsLog true (word ∷ x)
        by_case (IsCodeFirst.log longer) = longer
        by_case (IsCodeFirst.number n is longer) = absurd (no_log_number true word [] logs (number_word 255 word n is))

        forth : SomeCodeEnd b (word ∷ x) → IsLog true (word ∷ x)
        forth m = by_case (code_first m.0 word x m.1)

pub stop_behind_code : (word : List ℕ) (n : ℕ) (words rest : Words) (stop : Stop) → words ≡ word ∷ rest → IsNumber 255 word n
    → IsStop (SomeLog true) rest stop → IsStop SomeCodeEnd words stop
stop_behind_code word n words rest stop whole is stops = stop_behind SomeCodeEnd (SomeLog true) words (word ∷ []) rest stop whole same stops
  where
    by_case : (x : Words) → IsCodeFirst word x → IsLog true x
    by_case x (IsCodeFirst.log longer) = absurd (no_log_number true word x longer (number_word 255 word n is))
    by_case x (IsCodeFirst.number n' is' logs) = logs

    same : (b : Bool) (x : Words) → SomeCodeEnd b (word ∷ x) ↔ SomeLog true b x
    same b x = (λ m. by_case x (code_first m.0 word x m.1), λ logs. (Some n, one_code word n x is logs))

code_expected : IsExpected (SomeCodeEnd false) [] (expecting false true false true)
code_expected = record {
  address = (λ e. absurd (cc e), λ m. absurd (no_address m));
  number = (λ e. (codes "0", number_word 255 (codes "0") 0 (zero_number 255), ([], (Some 0, one_code (codes "0") 0 [] (zero_number 255) (IsLog.none refl)))), λ m. refl);
  name = (λ e. absurd (cc e), λ m. absurd (no_message m.1));
  whole = (λ e. (None, no_code [] (IsLog.none refl)), λ m. refl);
}
  where
    no_address : MayFollow (SomeCodeEnd false) [] IsAddressWord → ⊥
    no_address m = by_case (code_first m.2.1.0 m.0 m.2.0 m.2.1.1)
      where
        by_case : IsCodeFirst m.0 m.2.0 → ⊥
        by_case (IsCodeFirst.log logs) = no_log_address true m.0 m.2.0 m.1.0 logs m.1.1
        by_case (IsCodeFirst.number n is logs) = no_number_address m.0 m.1.0 (number_word 255 m.0 n is) m.1.1

    no_message : MayFollow (SomeCodeEnd false) [] IsMessageName → ⊥
    no_message m = by_case (code_first m.2.1.0 m.0 m.2.0 m.2.1.1)
      where
        by_case : IsCodeFirst m.0 m.2.0 → ⊥
        by_case (IsCodeFirst.log logs) = no_log_message true m.0 m.2.0 m.1.0 logs (inl m.1.1)
        by_case (IsCodeFirst.number n is logs) =
            let digit = numeral_digit m.0 (number_word 255 m.0 n is) in
            let letter = message_name_form m.0 m.1 in
            cc (digit, letter)

-- a stop before a word that is no code and not on logging
pub stop_no_code : (words : Words) (stop : Stop) (word : List ℕ) (rest : Words) → words ≡ word ∷ rest → is_log_next words ≡ false → ((n : ℕ) → IsNumber 255 word n → ⊥)
    → stop.due ≡ due.NumberOrEnd → stop.left ≡ length words → IsStop SomeCodeEnd words stop
stop_no_code words stop word rest whole next none is_due left = stop_first SomeCodeEnd words stop left (rw (is_due, whole) at_word)
  where
    other : is_log_word true word ≡ false
    other = rw whole at next

    by_case : (x : Words) → IsCodeFirst word x → ⊥
    by_case x (IsCodeFirst.log logs) = let is = log_test true word x logs in cc (is, other)
    by_case x (IsCodeFirst.number n is logs) = none n is

    stops : (b : Bool) → Begins (SomeCodeEnd b) (word ∷ []) → ⊥
    stops b m = by_case m.0 (code_first m.1.0 word m.0 m.1.1)

    at_word : StopsBefore SomeCodeEnd [] due.NumberOrEnd (word ∷ rest)
    at_word = stopping.word word rest record {
      begins = ([], (None, no_code [] (IsLog.none refl)));
      stops = stops false;
      expected = code_expected;
      lax = (λ e. absurd (cc e), λ m. absurd (stops true m));
    }

-- an ICMP message

-- what words with a first word spell at the end of an entry for ICMP
data IsMessageFirst (word : List ℕ) (x : Words) : Type 0 where
  log : IsLog true (word ∷ x) → IsMessageFirst word x
  number : (n : ℕ) → IsNumber 255 word n → SomeCodeEnd false x → IsMessageFirst word x
  name : (message : ℕ × Option ℕ) → Contains icmp_messages (word, message) → IsLog true x → IsMessageFirst word x

message_first : (icmp : Option (ℕ × Option ℕ)) (word : List ℕ) (x : Words) → IsMessageEnd icmp (word ∷ x) → IsMessageFirst word x
message_first icmp word x m = by_case m.first
  where
    by_form : (message : ℕ × Option ℕ) → IsMessage word message → IsLog true x → IsMessageFirst word x
    by_form message (inl is) logs = IsMessageFirst.name message is logs
    by_form message (inr is) logs = IsMessageFirst.number message.0 is.0 (None, no_code x logs)

    by_words : (message : ℕ × Option ℕ) → AreMessages message m.front → IsMessageFirst word x
    by_words message (AreMessages.one first one is) =
        let same = behind_one word first x m.front m.back m.whole one in
        by_form message (rw same.0 at is) (rw same.1 at m.second)
    by_words message (AreMessages.code first other n both is is' value) =
        let whole = rw both at m.whole in
        let same : first ≡ word = cc whole in
        let rest : x ≡ other ∷ m.back = cc whole in
        IsMessageFirst.number message.0 (rw same at is) (Some n, rw rest (one_code other n m.back is' m.second))

    by_case : AreMessagesOf (Some 1) icmp m.front → IsMessageFirst word x
    by_case (AreMessagesOf.none none value) = let same = behind_none (word ∷ x) m.front m.back m.whole none in IsMessageFirst.log (rw same at m.second)
    by_case (AreMessagesOf.some message proto are value) = by_words message are

pub no_message : (words : Words) → IsLog true words → IsMessageEnd None words
no_message words logs = record { front = []; back = words; whole = refl; first = AreMessagesOf.none refl refl; second = logs }

pub one_message : (word : List ℕ) (message : ℕ × Option ℕ) (x : Words) → IsMessage word message → IsLog true x → IsMessageEnd (Some message) (word ∷ x)
one_message word message x is logs = record {
  front = word ∷ [];
  back = x;
  whole = refl;
  first = AreMessagesOf.some message refl (AreMessages.one word refl is) refl;
  second = logs;
}

-- a type, and a code where there is one
pub with_code : (word : List ℕ) (n : ℕ) (code : Option ℕ) (x : Words) → IsNumber 255 word n → IsCodeEnd code x → IsMessageEnd (Some (n, code)) (word ∷ x)
with_code word n None x is m =
    let same = behind_none x m.front m.back m.whole m.first in
    one_message word (n, None) x (inr (is, refl)) (rw same at m.second)
with_code word n (Some k) x is m = record {
  front = word ∷ m.first.0 ∷ [];
  back = m.back;
  whole = rw (m.whole, m.first.1) refl;
  first = AreMessagesOf.some (n, Some k) refl (AreMessages.code word m.first.0 k refl is m.first.2 refl) refl;
  second = m.second;
}

pub stop_log_message : (words : Words) (stop : Stop) → is_log_next words ≡ true → IsStop (SomeLog true) words stop → IsStop SomeMessageEnd words stop
stop_log_message words stop next stops = stop_at_log SomeMessageEnd words stop next same stops
  where
    by_case : (word : List ℕ) (x : Words) → IsLog true (word ∷ []) → IsMessageFirst word x → IsLog true (word ∷ x)
    by_case word x logs (IsMessageFirst.log longer) = longer
    by_case word x logs (IsMessageFirst.number n is code) = absurd (no_log_number true word [] logs (number_word 255 word n is))
    by_case word x logs (IsMessageFirst.name message is more) = absurd (no_log_message true word [] message logs (inl is))

    same : (b : Bool) (word : List ℕ) (x : Words) → IsLog true (word ∷ []) → SomeMessageEnd b (word ∷ x) ↔ IsLog true (word ∷ x)
    same b word x logs = (λ m. by_case word x logs (message_first m.0 word x m.1), λ longer. (None, no_message (word ∷ x) longer))

-- behind a number a line goes on with a code
pub stop_behind_type : (word : List ℕ) (n : ℕ) (words rest : Words) (stop : Stop) → words ≡ word ∷ rest → IsNumber 255 word n
    → IsStop SomeCodeEnd rest stop → IsStop SomeMessageEnd words stop
stop_behind_type word n words rest stop whole is stops = stop_behind SomeMessageEnd SomeCodeEnd words (word ∷ []) rest stop whole same stops
  where
    by_case : (x : Words) → IsMessageFirst word x → SomeCodeEnd false x
    by_case x (IsMessageFirst.log longer) = absurd (no_log_number true word x longer (number_word 255 word n is))
    by_case x (IsMessageFirst.number n' is' code) = code
    by_case x (IsMessageFirst.name message named logs) =
        let digit = numeral_digit word (number_word 255 word n is) in
        let letter = message_name_form word (message, named) in
        cc (digit, letter)

    same : (b : Bool) (x : Words) → SomeMessageEnd b (word ∷ x) ↔ SomeCodeEnd b x
    same b x = (λ m. by_case x (message_first m.0 word x m.1), λ code. (Some (n, code.0), with_code word n code.0 x is code.1))

-- and behind a name with a word on logging
pub stop_behind_message : (word : List ℕ) (message : ℕ × Option ℕ) (words rest : Words) (stop : Stop) → words ≡ word ∷ rest
    → ((n : ℕ) → IsNumber 255 word n → ⊥) → IsMessage word message → IsStop (SomeLog true) rest stop → IsStop SomeMessageEnd words stop
stop_behind_message word message words rest stop whole none is stops = stop_behind SomeMessageEnd (SomeLog true) words (word ∷ []) rest stop whole same stops
  where
    by_case : (x : Words) → IsMessageFirst word x → IsLog true x
    by_case x (IsMessageFirst.log longer) = absurd (no_log_message true word x message longer is)
    by_case x (IsMessageFirst.number n is code) = absurd (none n is)
    by_case x (IsMessageFirst.name message' named logs) = logs

    same : (b : Bool) (x : Words) → SomeMessageEnd b (word ∷ x) ↔ SomeLog true b x
    same b x = (λ m. by_case x (message_first m.0 word x m.1), λ logs. (Some message, one_message word message x is logs))

echo_reply : Contains icmp_messages (codes "echo-reply", (0, None))
unfolding icmp_messages
echo_reply = (0, lit< tt, refl)

message_expected : IsExpected (SomeMessageEnd false) [] (expecting false true true true)
message_expected = record {
  address = (λ e. absurd (cc e), λ m. absurd (no_address m));
  number = (λ e. (codes "0", number_word 255 (codes "0") 0 (zero_number 255), ([], (Some (0, None), one_message (codes "0") (0, None) [] (inr (zero_number 255, refl)) (IsLog.none refl)))), λ m. refl);
  name = (λ e. (nothing, (codes "echo-reply", ((0, None), echo_reply), ([], (Some (0, None), one_message (codes "echo-reply") (0, None) [] (inl echo_reply) (IsLog.none refl))))), λ m. refl);
  whole = (λ e. nothing, λ m. refl);
}
  where
    nothing : SomeMessageEnd false []
    nothing = (None, no_message [] (IsLog.none refl))

    by_case : (word : List ℕ) (n : ℕ) (x : Words) → IsAddress word n → IsMessageFirst word x → ⊥
    by_case word n x is (IsMessageFirst.log logs) = no_log_address true word x n logs is
    by_case word n x is (IsMessageFirst.number k type code) = no_number_address word n (number_word 255 word k type) is
    by_case word n x is (IsMessageFirst.name message named logs) = no_address_message word n message is (inl named)

    no_address : MayFollow (SomeMessageEnd false) [] IsAddressWord → ⊥
    no_address m = by_case m.0 m.1.0 m.2.0 m.1.1 (message_first m.2.1.0 m.0 m.2.0 m.2.1.1)

-- a stop before a word that is no message and not on logging
pub stop_no_message : (words : Words) (stop : Stop) (word : List ℕ) (rest : Words) → words ≡ word ∷ rest → is_log_next words ≡ false
    → ((message : ℕ × Option ℕ) → IsMessage word message → ⊥) → stop.due ≡ due.NameOrEnd → stop.left ≡ length words → IsStop SomeMessageEnd words stop
stop_no_message words stop word rest whole next none is_due left = stop_first SomeMessageEnd words stop left (rw (is_due, whole) at_word)
  where
    other : is_log_word true word ≡ false
    other = rw whole at next

    by_case : (x : Words) → IsMessageFirst word x → ⊥
    by_case x (IsMessageFirst.log logs) = let is = log_test true word x logs in cc (is, other)
    by_case x (IsMessageFirst.number n is code) = none (n, None) (inr (is, refl))
    by_case x (IsMessageFirst.name message is logs) = none message (inl is)

    stops : (b : Bool) → Begins (SomeMessageEnd b) (word ∷ []) → ⊥
    stops b m = by_case m.0 (message_first m.1.0 word m.0 m.1.1)

    at_word : StopsBefore SomeMessageEnd [] due.NameOrEnd (word ∷ rest)
    at_word = stopping.word word rest record {
      begins = ([], (None, no_message [] (IsLog.none refl)));
      stops = stops false;
      expected = message_expected;
      lax = (λ e. absurd (cc e), λ m. absurd (stops true m));
    }
