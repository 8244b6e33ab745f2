-- What stands behind the destination of an entry, protocol by protocol, and where it stops.
use Rattle.std.proofs.Common.{◌≡◌, ◌⊎◌, inl, inr, ◌↔◌, ℕ, ◌<◌, Bool, true, false, List, [], ◌∷◌, length, Option, Some, None, refl, sym, ◌∙◌, codes}
use Rattle.std.specs.Map.{lookup}
use Rattle.std.specs.Str.{bytes_eq}
use Rattle.ios_lex.specs.Names.{icmp_messages, IsMessageName}
use Rattle.ios_lex.specs.declared.stop.Stop.{Stop}
use Rattle.ios_lex.specs.Phrases.{Words, Then}
use Rattle.ios_lex.specs.Following.{Begins, IsAddressWord, IsNumberWord}
use Rattle.ios_lex.specs.Refusal.{is_among, begins_with_digit}
use Rattle.ios_lex.specs.Stops.{expected_of, BeginsWith, LacksFirst}
use Rattle.ios_lex.proofs.NameTables.{name_is_found}
use Rattle.ios_lex.proofs.Spellings.{message_names}
use Rattle.ios_lex.proofs.Stopping.{stop_behind}
use Rattle.ios_lex.proofs.WordForms.{numeral_digit, address_digit}
use Rattle.ios_lex.proofs.Choices.{IsChoice, stop_behind_part, stop_in_part, stop_without_part}
use Rattle.ios_acl.specs.declared.entry.Ports.{Ports}
use Rattle.ios_acl.specs.declared.entry.Ports.TheVariants as ports
use Rattle.ios_acl.specs.Grammar.{ArePorts, ArePortsOf, AreMessagesOf, IsEstablishedOf, IsLog, with_ports}
use Rattle.ios_acl.specs.Stops.{IsStop}
use Rattle.ios_acl.specs.Parts.{SomePorts, SomeLog, IsMessageEnd, SomeMessageEnd, IsConnectionEnd, SomeConnectionEnd, IsEnd, SomeEnd, port_words}
use Rattle.ios_acl.proofs.LastWords.{behind_none, behind_one}
use Rattle.ios_acl.proofs.PortWords.{IsTestWord, test_word, lacks_test, no_ports_nowhere, more_ports}
use Rattle.ios_acl.proofs.LogWords.{log_text}
use Rattle.ios_acl.proofs.PrefixFree.{ports_prefix_free}

-- a keyword that is no name of a message is no address, no number and no such name
record IsKeyword (word : List ℕ) : Type 0 where
  pub letter : begins_with_digit word ≡ false
  pub unnamed : lookup (bytes_eq word) icmp_messages ≡ None

keyword_form : (word : List ℕ) → IsKeyword word → IsAddressWord word ⊎ IsNumberWord word ⊎ IsMessageName word → ⊥
keyword_form word keyword (inl (n, address)) = let digit = address_digit word n address in cc (digit, keyword.letter)
keyword_form word keyword (inr (inl number)) = let digit = numeral_digit word number in cc (digit, keyword.letter)
keyword_form word keyword (inr (inr (message, named))) = let found = name_is_found icmp_messages message_names word message named in cc (found, keyword.unnamed)

-- the keyword of connections

abbrev IsEstablishedWord : Bool → Words → Type 0
IsEstablishedWord backward words = words ≡ codes "established" ∷ []

established_keyword : IsKeyword (codes "established")
unfolding icmp_messages
established_keyword = record { letter = refl; unnamed = refl }

established_choice : IsChoice IsEstablishedWord (SomeLog true) SomeConnectionEnd
established_choice = record {
  same = λ b x. (λ m. forth b x m.0 m.1, back b x);
  empty = λ b. IsLog.none refl;
  apart = λ b word part rest. apart word part.0 rest.0 part.1 rest.1;
  some = λ b none. cc none;
  free = λ b words more one longer. let whole = rw one at longer in cc whole;
  more = λ x one. one;
}
  where
    forth : (b : Bool) (x : Words) (established : Bool) → IsConnectionEnd established x → SomeLog true b x ⊎ Then (IsEstablishedWord b) (SomeLog true b) x
    forth b x established m = by_case m.first
      where
        by_case : IsEstablishedOf (Some 6) established m.front → SomeLog true b x ⊎ Then (IsEstablishedWord b) (SomeLog true b) x
        by_case (IsEstablishedOf.none none value) = let same = behind_none x m.front m.back m.whole none in inl (rw same at m.second)
        by_case (IsEstablishedOf.some proto one value) = inr record { front = m.front; back = m.back; whole = m.whole; first = one; second = m.second }

    back : (b : Bool) (x : Words) → SomeLog true b x ⊎ Then (IsEstablishedWord b) (SomeLog true b) x → SomeConnectionEnd b x
    back b x (inl logs) = (false, record { front = []; back = x; whole = refl; first = IsEstablishedOf.none refl refl; second = logs })
    back b x (inr m) = (true, record { front = m.front; back = m.back; whole = m.whole; first = IsEstablishedOf.some refl m.first refl; second = m.second })

    apart : (word : List ℕ) (more more' : Words) → word ∷ more ≡ codes "established" ∷ [] → IsLog true (word ∷ more') → ⊥
    apart word more more' part logs =
        let named : word ≡ codes "established" = cc part in
        elim (log_text true word more' logs) [ inl same ↦ let no : codes "established" ≡ codes "log" = sym named ∙ same in cc no | inr same ↦ let no : codes "established" ≡ codes "log-input" = sym named ∙ same in cc no ]

pub no_connection : (words : Words) → IsLog true words → IsConnectionEnd false words
no_connection words logs = record { front = []; back = words; whole = refl; first = IsEstablishedOf.none refl refl; second = logs }

pub connection : (words rest : Words) → words ≡ codes "established" ∷ rest → IsLog true rest → IsConnectionEnd true words
connection words rest whole logs =
    record { front = codes "established" ∷ []; back = rest; whole = whole; first = IsEstablishedOf.some refl refl refl; second = logs }

pub stop_behind_established : (words rest : Words) (stop : Stop) → words ≡ codes "established" ∷ rest → IsStop (SomeLog true) rest stop → IsStop SomeConnectionEnd words stop
stop_behind_established words rest stop whole stops =
    stop_behind_part IsEstablishedWord (SomeLog true) SomeConnectionEnd established_choice words (codes "established" ∷ []) rest stop whole refl stops

pub stop_not_established : (words : Words) (stop : Stop) → ((word : List ℕ) (more : Words) → words ≡ word ∷ more → word ≡ codes "established" → ⊥)
    → IsStop (SomeLog true) words stop → IsStop SomeConnectionEnd words stop
stop_not_established words stop other stops =
    stop_without_part IsEstablishedWord (SomeLog true) SomeConnectionEnd established_choice words stop lacks forms stops
  where
    lacks : LacksFirst (IsEstablishedWord true) words
    lacks word more whole begins = other word more whole (cc begins.1)

    forms : (word : List ℕ) → IsAddressWord word ⊎ IsNumberWord word ⊎ IsMessageName word → Begins (IsEstablishedWord false) (word ∷ []) → ⊥
    forms word form begins = let same : word ≡ codes "established" = cc begins.1 in keyword_form (codes "established") established_keyword (rw same at form)

-- a test of ports

test_keyword : (word : List ℕ) → IsTestWord word → IsKeyword word
unfolding icmp_messages
test_keyword word (IsTestWord.eq same) = rw same record { letter = refl; unnamed = refl }
test_keyword word (IsTestWord.neq same) = rw same record { letter = refl; unnamed = refl }
test_keyword word (IsTestWord.lt same) = rw same record { letter = refl; unnamed = refl }
test_keyword word (IsTestWord.gt same) = rw same record { letter = refl; unnamed = refl }
test_keyword word (IsTestWord.range same) = rw same record { letter = refl; unnamed = refl }

test_form : (tcp : Bool) (word : List ℕ) → IsAddressWord word ⊎ IsNumberWord word ⊎ IsMessageName word → Begins (SomePorts tcp false) (word ∷ []) → ⊥
test_form tcp word form begins = keyword_form word (test_keyword word (test_word word (lacks_test tcp false word begins.0 begins.1))) form

no_log_test : (word : List ℕ) (x : Words) → is_among port_words word ≡ true → IsLog true (word ∷ x) → ⊥
no_log_test word x among logs =
    elim (log_text true word x logs) [ inl same ↦ let no = rw same at among in cc no | inr same ↦ let no = rw same at among in cc no ]

no_connection_test : (established : Bool) (word : List ℕ) (x : Words) → is_among port_words word ≡ true → IsConnectionEnd established (word ∷ x) → ⊥
no_connection_test established word x among m = by_case m.first
  where
    by_case : IsEstablishedOf (Some 6) established m.front → ⊥
    by_case (IsEstablishedOf.none none value) = let same = behind_none (word ∷ x) m.front m.back m.whole none in no_log_test word x among (rw same at m.second)
    by_case (IsEstablishedOf.some proto one value) =
        let same = behind_one word (codes "established") x m.front m.back m.whole one in
        let no = rw (← same.0) at among in
        cc no

-- what stands behind the ports

record AreEnds (proto : Option ℕ) (words : Words) : Type 0 where
  pub icmp : Option (ℕ × Option ℕ)
  pub established : Bool
  pub ends : Then (AreMessagesOf proto icmp) (Then (IsEstablishedOf proto established) (IsLog true)) words

-- a test of ports may stand before the rest, for TCP and for UDP
ends_or_ports : (proto : Option ℕ) (b : Bool) (x : Words) → SomeEnd proto b x
    → AreEnds proto x ⊎ ((tcp : Bool) × (proto ≡ with_ports tcp) × Then (SomePorts tcp b) (AreEnds proto) x)
ends_or_ports proto b x (tested, icmp, established, m) = by_case m.first
  where
    by_case : ArePortsOf b proto tested m.front → AreEnds proto x ⊎ ((tcp : Bool) × (proto ≡ with_ports tcp) × Then (SomePorts tcp b) (AreEnds proto) x)
    by_case (ArePortsOf.none none value) =
        let same = behind_none x m.front m.back m.whole none in
        inl record { icmp = icmp; established = established; ends = rw same at m.second }
    by_case (ArePortsOf.test tcp is test) = inr (
      tcp,
      is,
      record {
        front = m.front;
        back = m.back;
        whole = m.whole;
        first = (tested, test);
        second = record { icmp = icmp; established = established; ends = m.second };
      },
    )

end_of_ends : (proto : Option ℕ) (b : Bool) (x : Words) → AreEnds proto x → SomeEnd proto b x
end_of_ends proto b x m = (
  ports.Any,
  m.icmp,
  m.established,
  record {
    front = [];
    back = x;
    whole = refl;
    first = ArePortsOf.none refl refl;
    second = m.ends;
  },
)

end_of_ports : (proto : Option ℕ) (tcp b : Bool) (x : Words) → proto ≡ with_ports tcp → Then (SomePorts tcp b) (AreEnds proto) x → SomeEnd proto b x
end_of_ports proto tcp b x is m = (
  m.first.0,
  m.second.icmp,
  m.second.established,
  record {
    front = m.front;
    back = m.back;
    whole = m.whole;
    first = ArePortsOf.test tcp is m.first.1;
    second = m.second.ends;
  },
)

-- messages, a connection or nothing before a word on logging

without_connection : (proto : Option ℕ) (icmp : Option (ℕ × Option ℕ)) (words : Words) → Then (AreMessagesOf proto icmp) (IsLog true) words
    → Then (AreMessagesOf proto icmp) (Then (IsEstablishedOf proto false) (IsLog true)) words
without_connection proto icmp words m = record {
  front = m.front;
  back = m.back;
  whole = m.whole;
  first = m.first;
  second = record { front = []; back = m.back; whole = refl; first = IsEstablishedOf.none refl refl; second = m.second };
}

without_messages : (proto : Option ℕ) (established : Bool) (words : Words) → Then (IsEstablishedOf proto established) (IsLog true) words
    → Then (AreMessagesOf proto None) (Then (IsEstablishedOf proto established) (IsLog true)) words
without_messages proto established words m = record { front = []; back = words; whole = refl; first = AreMessagesOf.none refl refl; second = m }

with_log : (proto : Option ℕ) (words : Words) → IsLog true words → Then (AreMessagesOf proto None) (Then (IsEstablishedOf proto false) (IsLog true)) words
with_log proto words logs =
    without_messages proto false words record { front = []; back = words; whole = refl; first = IsEstablishedOf.none refl refl; second = logs }

-- without ICMP there are no messages
no_messages : (proto : Option ℕ) (icmp : Option (ℕ × Option ℕ)) (established : Bool) (words : Words) → (proto ≡ Some 1 → ⊥)
    → Then (AreMessagesOf proto icmp) (Then (IsEstablishedOf proto established) (IsLog true)) words → Then (IsEstablishedOf proto established) (IsLog true) words
no_messages proto icmp established words other m = by_case m.first
  where
    by_case : AreMessagesOf proto icmp m.front → Then (IsEstablishedOf proto established) (IsLog true) words
    by_case (AreMessagesOf.none none value) = let same = behind_none words m.front m.back m.whole none in rw same at m.second
    by_case (AreMessagesOf.some message is are value) = absurd (other is)

-- without TCP there is no connection
no_established : (proto : Option ℕ) (established : Bool) (words : Words) → (proto ≡ Some 6 → ⊥) → Then (IsEstablishedOf proto established) (IsLog true) words → IsLog true words
no_established proto established words other m = by_case m.first
  where
    by_case : IsEstablishedOf proto established m.front → IsLog true words
    by_case (IsEstablishedOf.none none value) = let same = behind_none words m.front m.back m.whole none in rw same at m.second
    by_case (IsEstablishedOf.some is one value) = absurd (other is)

icmp_ends : (words : Words) → AreEnds (Some 1) words → SomeMessageEnd false words
icmp_ends words m = (
  m.icmp,
  record {
    front = m.ends.front;
    back = m.ends.back;
    whole = m.ends.whole;
    first = m.ends.first;
    second = no_established (Some 1) m.established m.ends.back (λ e. cc e) m.ends.second;
  },
)

tcp_ends : (b : Bool) (words : Words) → AreEnds (Some 6) words ↔ SomeConnectionEnd b words
tcp_ends b words = (
  λ m. (m.established, no_messages (Some 6) m.icmp m.established words (λ e. cc e) m.ends),
  λ m. record {
    icmp = None;
    established = m.0;
    ends = without_messages (Some 6) m.0 words m.1;
  },
)

other_ends : (proto : Option ℕ) (words : Words) → (proto ≡ Some 1 → ⊥) → (proto ≡ Some 6 → ⊥) → AreEnds proto words ↔ IsLog true words
other_ends proto words no_icmp no_tcp = (
  λ m. no_established proto m.established words no_tcp (no_messages proto m.icmp m.established words no_icmp m.ends),
  λ logs. record {
    icmp = None;
    established = false;
    ends = with_log proto words logs;
  },
)

-- protocol by protocol

pub icmp_end : (b : Bool) (words : Words) → SomeEnd (Some 1) b words ↔ SomeMessageEnd b words
icmp_end b words = (
  λ m. by_case (ends_or_ports (Some 1) b words m),
  λ m. end_of_ends (Some 1) b words record {
    icmp = m.0;
    established = false;
    ends = without_connection (Some 1) m.0 words m.1;
  },
)
  where
    by_case : AreEnds (Some 1) words ⊎ ((tcp : Bool) × (Some 1 ≡ with_ports tcp) × Then (SomePorts tcp b) (AreEnds (Some 1)) words) → SomeMessageEnd b words
    by_case (inl m) = icmp_ends words m
    by_case (inr (true, is, m)) = cc is
    by_case (inr (false, is, m)) = cc is

-- every protocol, or one with neither ports nor messages
pub record IsOther (proto : Option ℕ) : Type 0 where
  pub no_icmp : proto ≡ Some 1 → ⊥
  pub no_tcp : proto ≡ Some 6 → ⊥
  pub no_udp : proto ≡ Some 17 → ⊥

pub other_number : (proto : Option ℕ) (n : ℕ) → proto ≡ Some n → (n ≡ 1 → ⊥) → (n ≡ 6 → ⊥) → (n ≡ 17 → ⊥) → IsOther proto
other_number proto n is no_icmp no_tcp no_udp =
    record { no_icmp = λ e. no_icmp (cc (is, e)); no_tcp = λ e. no_tcp (cc (is, e)); no_udp = λ e. no_udp (cc (is, e)) }

pub no_protocol : (proto : Option ℕ) → proto ≡ None → IsOther proto
no_protocol proto none = record { no_icmp = λ e. cc (none, e); no_tcp = λ e. cc (none, e); no_udp = λ e. cc (none, e) }

pub other_end : (proto : Option ℕ) (b : Bool) (words : Words) → IsOther proto → SomeEnd proto b words ↔ SomeLog true b words
other_end proto b words other =
    (λ m. by_case (ends_or_ports proto b words m), λ logs. end_of_ends proto b words ((other_ends proto words other.no_icmp other.no_tcp).1 logs))
  where
    by_case : AreEnds proto words ⊎ ((tcp : Bool) × (proto ≡ with_ports tcp) × Then (SomePorts tcp b) (AreEnds proto) words) → IsLog true words
    by_case (inl m) = (other_ends proto words other.no_icmp other.no_tcp).0 m
    by_case (inr (true, is, m)) = absurd (other.no_tcp is)
    by_case (inr (false, is, m)) = absurd (other.no_udp is)

-- what stands behind one part can be said in other words
then_weaker : (First Second Other : Words → Type 0) (words : Words) → ((x : Words) → Second x → Other x) → Then First Second words → Then First Other words
then_weaker First Second Other words weaker m =
    record { front = m.front; back = m.back; whole = m.whole; first = m.first; second = weaker m.back m.second }

pub tcp_end : (b : Bool) (words : Words) → SomeEnd (Some 6) b words ↔ (SomeConnectionEnd b words ⊎ Then (SomePorts true b) (SomeConnectionEnd b) words)
tcp_end b words = (λ m. forth (ends_or_ports (Some 6) b words m), back)
  where
    forth : AreEnds (Some 6) words ⊎ ((tcp : Bool) × (Some 6 ≡ with_ports tcp) × Then (SomePorts tcp b) (AreEnds (Some 6)) words)
        → SomeConnectionEnd b words ⊎ Then (SomePorts true b) (SomeConnectionEnd b) words
    forth (inl m) = inl ((tcp_ends b words).0 m)
    forth (inr (true, is, m)) = inr (then_weaker (SomePorts true b) (AreEnds (Some 6)) (SomeConnectionEnd b) words (λ x. (tcp_ends b x).0) m)
    forth (inr (false, is, m)) = cc is

    back : SomeConnectionEnd b words ⊎ Then (SomePorts true b) (SomeConnectionEnd b) words → SomeEnd (Some 6) b words
    back (inl m) = end_of_ends (Some 6) b words ((tcp_ends b words).1 m)
    back (inr m) = end_of_ports (Some 6) true b words refl (then_weaker (SomePorts true b) (SomeConnectionEnd b) (AreEnds (Some 6)) words (λ x. (tcp_ends b x).1) m)

pub udp_end : (b : Bool) (words : Words) → SomeEnd (Some 17) b words ↔ (SomeLog true b words ⊎ Then (SomePorts false b) (SomeLog true b) words)
udp_end b words = (λ m. forth (ends_or_ports (Some 17) b words m), back)
  where
    ends : (x : Words) → AreEnds (Some 17) x ↔ IsLog true x
    ends x = other_ends (Some 17) x (λ e. cc e) (λ e. cc e)

    forth : AreEnds (Some 17) words ⊎ ((tcp : Bool) × (Some 17 ≡ with_ports tcp) × Then (SomePorts tcp b) (AreEnds (Some 17)) words)
        → SomeLog true b words ⊎ Then (SomePorts false b) (SomeLog true b) words
    forth (inl m) = inl ((ends words).0 m)
    forth (inr (true, is, m)) = cc is
    forth (inr (false, is, m)) = inr (then_weaker (SomePorts false b) (AreEnds (Some 17)) (SomeLog true b) words (λ x. (ends x).0) m)

    back : SomeLog true b words ⊎ Then (SomePorts false b) (SomeLog true b) words → SomeEnd (Some 17) b words
    back (inl m) = end_of_ends (Some 17) b words ((ends words).1 m)
    back (inr m) = end_of_ports (Some 17) false b words refl (then_weaker (SomePorts false b) (SomeLog true b) (AreEnds (Some 17)) words (λ x. (ends x).1) m)

pub tcp_choice : IsChoice (SomePorts true) SomeConnectionEnd (SomeEnd (Some 6))
tcp_choice = record {
  same = tcp_end;
  empty = λ b. (false, no_connection [] (IsLog.none refl));
  apart = λ b word part rest. no_connection_test rest.1.0 word rest.0 (lacks_test true b word part.0 part.1) rest.1.1;
  some = no_ports_nowhere true;
  free = ports_prefix_free true;
  more = more_ports true;
}

pub udp_choice : IsChoice (SomePorts false) (SomeLog true) (SomeEnd (Some 17))
udp_choice = record {
  same = udp_end;
  empty = λ b. IsLog.none refl;
  apart = λ b word part rest. no_log_test word rest.0 (lacks_test false b word part.0 part.1) rest.1;
  some = no_ports_nowhere false;
  free = ports_prefix_free false;
  more = more_ports false;
}

-- what a reader of ports has read: a test, or none where none begins
abbrev pub ArePortsRead : Bool → Ports → Words → Words → Type 0
ArePortsRead tcp tested words rest =
    BeginsWith (ArePorts false tcp tested) words rest ⊎ (tested ≡ ports.Any) × (rest ≡ words) × LacksFirst (SomePorts tcp true) words

stop_after_ports : (tcp : Bool) (Rest Line : Bool → Words → Type 0) → IsChoice (SomePorts tcp) Rest Line
    → (tested : Ports) (words rest : Words) (stop : Stop) → ArePortsRead tcp tested words rest → IsStop Rest rest stop → IsStop Line words stop
stop_after_ports tcp Rest Line choice tested words rest stop (inl (front, whole, test)) stops =
    stop_behind_part (SomePorts tcp) Rest Line choice words front rest stop whole (tested, test) stops
stop_after_ports tcp Rest Line choice tested words rest stop (inr (any, same, lacks)) stops =
    stop_without_part (SomePorts tcp) Rest Line choice words stop lacks (test_form tcp) (rw same at stops)

-- where an entry stops behind its destination

pub stop_icmp : (proto : Option ℕ) (words : Words) (stop : Stop) → proto ≡ Some 1 → IsStop SomeMessageEnd words stop → IsStop (SomeEnd proto) words stop
stop_icmp proto words stop is stops = rw is (stop_behind (SomeEnd (Some 1)) SomeMessageEnd words [] words stop refl icmp_end stops)

pub stop_tcp_ports : (proto : Option ℕ) (words : Words) (stop : Stop) → proto ≡ Some 6 → (expected_of stop.due).whole ≡ false → stop.left < length words
    → IsStop (SomePorts true) words stop → IsStop (SomeEnd proto) words stop
stop_tcp_ports proto words stop is part later stops =
    rw is (stop_in_part (SomePorts true) SomeConnectionEnd (SomeEnd (Some 6)) tcp_choice words stop part later stops)

pub stop_udp_ports : (proto : Option ℕ) (words : Words) (stop : Stop) → proto ≡ Some 17 → (expected_of stop.due).whole ≡ false → stop.left < length words
    → IsStop (SomePorts false) words stop → IsStop (SomeEnd proto) words stop
stop_udp_ports proto words stop is part later stops =
    rw is (stop_in_part (SomePorts false) (SomeLog true) (SomeEnd (Some 17)) udp_choice words stop part later stops)

pub stop_tcp : (proto : Option ℕ) (tested : Ports) (words rest : Words) (stop : Stop) → proto ≡ Some 6 → ArePortsRead true tested words rest
    → IsStop SomeConnectionEnd rest stop → IsStop (SomeEnd proto) words stop
stop_tcp proto tested words rest stop is read stops =
    rw is (stop_after_ports true SomeConnectionEnd (SomeEnd (Some 6)) tcp_choice tested words rest stop read stops)

pub stop_udp : (proto : Option ℕ) (tested : Ports) (words rest : Words) (stop : Stop) → proto ≡ Some 17 → ArePortsRead false tested words rest
    → IsStop (SomeLog true) rest stop → IsStop (SomeEnd proto) words stop
stop_udp proto tested words rest stop is read stops =
    rw is (stop_after_ports false (SomeLog true) (SomeEnd (Some 17)) udp_choice tested words rest stop read stops)

pub stop_other : (proto : Option ℕ) (words : Words) (stop : Stop) → IsOther proto → IsStop (SomeLog true) words stop → IsStop (SomeEnd proto) words stop
stop_other proto words stop other stops =
    stop_behind (SomeEnd proto) (SomeLog true) words [] words stop refl (λ b x. other_end proto b x other) stops

-- what an entry says behind its destination

pub read_icmp : (proto : Option ℕ) (icmp : Option (ℕ × Option ℕ)) (words : Words) → proto ≡ Some 1 → IsMessageEnd icmp words → IsEnd false proto ports.Any icmp false words
read_icmp proto icmp words is m = record {
  front = [];
  back = words;
  whole = refl;
  first = ArePortsOf.none refl refl;
  second = rw is (without_connection (Some 1) icmp words m);
}

read_ports : (proto : Option ℕ) (tcp established : Bool) (tested : Ports) (words rest : Words) → proto ≡ with_ports tcp → ArePortsRead tcp tested words rest
    → Then (IsEstablishedOf proto established) (IsLog true) rest → IsEnd false proto tested None established words
read_ports proto tcp established tested words rest is (inl (front, whole, test)) m = record {
  front = front;
  back = rest;
  whole = whole;
  first = ArePortsOf.test tcp is test;
  second = without_messages proto established rest m;
}
read_ports proto tcp established tested words rest is (inr (any, same, lacks)) m = record {
  front = [];
  back = words;
  whole = refl;
  first = ArePortsOf.none refl any;
  second = rw same at (without_messages proto established rest m);
}

pub read_tcp : (proto : Option ℕ) (established : Bool) (tested : Ports) (words rest : Words) → proto ≡ Some 6 → ArePortsRead true tested words rest
    → IsConnectionEnd established rest → IsEnd false proto tested None established words
read_tcp proto established tested words rest is read m = rw is (read_ports (Some 6) true established tested words rest refl read m)

pub read_udp : (proto : Option ℕ) (tested : Ports) (words rest : Words) → proto ≡ Some 17 → ArePortsRead false tested words rest
    → IsLog true rest → IsEnd false proto tested None false words
read_udp proto tested words rest is read logs =
    rw is (read_ports (Some 17) false false tested words rest refl read record { front = []; back = rest; whole = refl; first = IsEstablishedOf.none refl refl; second = logs })
