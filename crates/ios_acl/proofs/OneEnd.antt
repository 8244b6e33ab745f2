-- The parts of a line that may be left out show where they end by what stands behind them.
use Rattle.std.proofs.Common.{◌≡◌, inl, inr, ℕ, Bool, true, false, List, [], ◌∷◌, ◌++◌, Option, Some, None, refl, sym, ap, ◌∙◌, codes}
use Rattle.ios_lex.specs.Address.{IsAddress}
use Rattle.ios_lex.specs.Names.{IsMessage}
use Rattle.ios_lex.specs.Phrases.{Words, Then}
use Rattle.ios_lex.proofs.AddressParts.{address_is_one}
use Rattle.ios_lex.proofs.Spellings.{message_is_one, number_is_one}
use Rattle.ios_lex.proofs.WordForms.{number_word, words_differ}
use Rattle.ios_lex.proofs.OneCut.{IsOneCutBefore, same_cut, same_first}
use Rattle.ios_acl.specs.declared.entry.Ports.{Ports}
use Rattle.ios_acl.specs.Grammar.{IsPlace, IsSource, ArePorts, ArePortsOf, AreMessages, AreMessagesOf, IsEstablishedOf, IsLog, with_ports}
use Rattle.ios_acl.specs.Parts.{IsEnd}
use Rattle.ios_acl.proofs.LogWords.{log_text, no_log_address, no_log_number, no_log_message}
use Rattle.ios_acl.proofs.OnePart.{no_address_keyword, pair_is_one, place_is_one, ports_are_one, ports_begin, no_key_ports}

-- behind a source stands at most a word on logging, which is no wildcard
no_single_place : (place : ℕ × ℕ) (n : ℕ) (word : List ℕ) (p r s : Words) → IsPlace place p → IsAddress word n → IsLog false s → p ++ r ≡ word ∷ s → ⊥
no_single_place place n word p r s (IsPlace.any whole is) address behind same =
    no_address_keyword word (codes "any") n refl (sym (same_first (codes "any") word r s (rw whole at same))) address
no_single_place place n word p r s (IsPlace.host w whole a z) address behind same =
    no_address_keyword word (codes "host") n refl (sym (same_first (codes "host") word (w ∷ r) s (rw whole at same))) address
no_single_place place n word p r s (IsPlace.some w o whole a b) address behind same =
    let e = rw whole at same in
    let f : s ≡ o ∷ r = cc in
    no_log_address false o r place.1 (rw f at behind) b

pub source_is_one : IsOneCutBefore (IsLog false) IsSource
source_is_one v u p q r s (IsSource.place is) (IsSource.place is') behind behind' same = place_is_one v u p q r s is is' same
source_is_one v u p q r s (IsSource.place is) (IsSource.single w whole a z) behind behind' same =
    absurd (no_single_place v u.0 w p r s is a behind' (rw whole at same))
source_is_one v u p q r s (IsSource.single w whole a z) (IsSource.place is) behind behind' same =
    absurd (no_single_place u v.0 w q s r is a behind (sym (rw whole at same)))
source_is_one v u p q r s (IsSource.single w whole a z) (IsSource.single w' whole' a' z') behind behind' same =
    let e = rw (whole, whole') at same in
    let f : w' ≡ w = cc in
    same_cut v u p q r s (pair_is_one v u (address_is_one w v.0 u.0 a (rw (← f) a')) (z ∙ sym z')) (cc) same

-- the words begin no test of ports, where the protocol has any
abbrev pub LacksPorts : Option ℕ → Words → Type 0
LacksPorts proto words = (b tcp : Bool) (tested : Ports) (q s : Words) → proto ≡ with_ports tcp → ArePorts b tcp tested q → words ≡ q ++ s → ⊥

pub tcp_is_one : (t t' : Bool) → with_ports t ≡ with_ports t' → t ≡ t'
tcp_is_one true true same = refl
tcp_is_one true false same = absurd (cc)
tcp_is_one false true same = absurd (cc)
tcp_is_one false false same = refl

pub ports_of_are_one : (b : Bool) (proto : Option ℕ) → IsOneCutBefore (LacksPorts proto) (ArePortsOf b proto)
ports_of_are_one b proto v u p q r s (ArePortsOf.none whole is) (ArePortsOf.none whole' is') lacks lacks' same = same_cut v u p q r s (is ∙ sym is') (whole ∙ sym whole') same
ports_of_are_one b proto v u p q r s (ArePortsOf.none whole is) (ArePortsOf.test tcp has are) lacks lacks' same =
    absurd (lacks b tcp u q s has are (rw whole at same))
ports_of_are_one b proto v u p q r s (ArePortsOf.test tcp has are) (ArePortsOf.none whole is) lacks lacks' same =
    absurd (lacks' b tcp v p r has are (sym (rw whole at same)))
ports_of_are_one b proto v u p q r s (ArePortsOf.test tcp has are) (ArePortsOf.test tcp' has' are') lacks lacks' same =
    let f : tcp' ≡ tcp = tcp_is_one tcp' tcp (sym has' ∙ has) in
    ports_are_one b tcp v u p q r s are (rw (← f) are') same

-- an end without messages begins no test of ports
no_log_ports : (extended : Bool) (words : Words) (b tcp : Bool) (tested : Ports) (q s : Words) → IsLog extended words → ArePorts b tcp tested q → words ≡ q ++ s → ⊥
no_log_ports extended words b tcp tested q s (IsLog.none whole) are same =
    let begin = ports_begin b tcp tested q are in
    let e = rw (whole, begin.1) at same in
    absurd (cc)
no_log_ports extended words b tcp tested q s (IsLog.log whole) are same =
    no_key_ports (codes "log") [] refl b tcp tested q s are (rw whole at same)
no_log_ports extended words b tcp tested q s (IsLog.input is whole) are same =
    no_key_ports (codes "log-input") [] refl b tcp tested q s are (rw whole at same)

no_icmp_ports : (tcp : Bool) → Some 1 ≡ with_ports tcp → ⊥
no_icmp_ports true same = cc
no_icmp_ports false same = cc

no_connection_ports : (proto : Option ℕ) (established : Bool) (words : Words) (b tcp : Bool) (tested : Ports) (q s : Words)
    → Then (IsEstablishedOf proto established) (IsLog true) words → ArePorts b tcp tested q → words ≡ q ++ s → ⊥
no_connection_ports proto established words b tcp tested q s line are same = go line.first
  where
    go : IsEstablishedOf proto established line.front → ⊥
    go (IsEstablishedOf.none whole is) = no_log_ports true line.back b tcp tested q s line.second are (sym (ap (λ (x : Words). x ++ line.back) whole) ∙ sym line.whole ∙ same)
    go (IsEstablishedOf.some has whole is) =
        no_key_ports (codes "established") line.back refl b tcp tested q s are (sym (ap (λ (x : Words). x ++ line.back) whole) ∙ sym line.whole ∙ same)

pub end_lacks_ports : (proto : Option ℕ) (icmp : Option (ℕ × Option ℕ)) (established : Bool) (words : Words)
    → Then (AreMessagesOf proto icmp) (Then (IsEstablishedOf proto established) (IsLog true)) words → LacksPorts proto words
end_lacks_ports proto icmp established words line b tcp tested q s has are same = go line.first
  where
    go : AreMessagesOf proto icmp line.front → ⊥
    go (AreMessagesOf.none whole is) = no_connection_ports proto established line.back b tcp tested q s line.second are (sym (ap (λ (x : Words). x ++ line.back) whole) ∙ sym line.whole ∙ same)
    go (AreMessagesOf.some message is messages none) = no_icmp_ports tcp (sym is ∙ has)

-- the first word of messages is one
record BeginsMessage (words : Words) : Type 0 where
  pub word : List ℕ
  pub more : Words
  pub message : ℕ × Option ℕ
  pub whole : words ≡ word ∷ more
  pub names : IsMessage word message

begins_message : (message : ℕ × Option ℕ) (words : Words) → AreMessages message words → BeginsMessage words
begins_message message words (AreMessages.one w whole names) = record { word = w; more = []; message = message; whole = whole; names = names }
begins_message message words (AreMessages.code w o n whole number number' is) =
    record { word = w; more = o ∷ []; message = (message.0, None); whole = whole; names = inr (number, refl) }

no_log_messages : (message : ℕ × Option ℕ) (words q s : Words) → IsLog true words → AreMessages message q → words ≡ q ++ s → ⊥
no_log_messages message words q s behind are same =
    let begin = begins_message message q are in
    no_log_message true begin.word (begin.more ++ s) begin.message (rw (rw begin.whole at same) at behind) begin.names

pub messages_are_one : IsOneCutBefore (IsLog true) AreMessages
messages_are_one v u p q r s (AreMessages.one w whole names) (AreMessages.one w' whole' names') behind behind' same =
    let e = rw (whole, whole') at same in
    let f : w' ≡ w = cc in
    same_cut v u p q r s (message_is_one w v u names (rw (← f) names')) (cc) same
messages_are_one v u p q r s (AreMessages.one w whole names) (AreMessages.code w' o n whole' number number' is) behind behind' same =
    let e = rw (whole, whole') at same in
    let f : r ≡ o ∷ s = cc in
    absurd (no_log_number true o s (rw f at behind) (number_word 255 o n number'))
messages_are_one v u p q r s (AreMessages.code w o n whole number number' is) (AreMessages.one w' whole' names') behind behind' same =
    let e = rw (whole, whole') at same in
    let f : s ≡ o ∷ r = cc in
    absurd (no_log_number true o r (rw f at behind') (number_word 255 o n number'))
messages_are_one (t, c) (t', c') p q r s (AreMessages.code w o n whole number code is) (AreMessages.code w' o' n' whole' number' code' is') behind behind' same =
    let e = rw (whole, whole') at same in
    let f : w' ≡ w = cc in
    let g : o' ≡ o = cc in
    let x : t ≡ t' = number_is_one 255 w t t' number (rw (← f) number') in
    let y : n ≡ n' = number_is_one 255 o n n' code (rw (← g) code') in
    same_cut (t, c) (t', c') p q r s (cc) (cc) same

pub messages_of_are_one : (proto : Option ℕ) → IsOneCutBefore (λ words. proto ≡ Some 1 → IsLog true words) (AreMessagesOf proto)
messages_of_are_one proto v u p q r s (AreMessagesOf.none whole is) (AreMessagesOf.none whole' is') behind behind' same =
    same_cut v u p q r s (is ∙ sym is') (whole ∙ sym whole') same
messages_of_are_one proto v u p q r s (AreMessagesOf.none whole is) (AreMessagesOf.some m has are is') behind behind' same =
    absurd (no_log_messages m r q s (behind has) are (rw whole at same))
messages_of_are_one proto v u p q r s (AreMessagesOf.some m has are is) (AreMessagesOf.none whole is') behind behind' same =
    absurd (no_log_messages m s p r (behind' has) are (sym (rw whole at same)))
messages_of_are_one proto v u p q r s (AreMessagesOf.some m has are is) (AreMessagesOf.some m' has' are' is') behind behind' same =
    let one = messages_are_one m m' p q r s are are' (behind has) (behind' has') same in
    same_cut v u p q r s (is ∙ ap Some one.value ∙ sym is') one.front same

no_log_established : (words more : Words) → IsLog true words → words ≡ codes "established" ∷ more → ⊥
no_log_established words more behind same =
    elim (log_text true (codes "established") more (rw same at behind)) [
      | inl is ↦ words_differ (codes "established") (codes "log") refl is
      | inr is ↦ words_differ (codes "established") (codes "log-input") refl is
    ]

pub established_is_one : (proto : Option ℕ) → IsOneCutBefore (IsLog true) (IsEstablishedOf proto)
established_is_one proto v u p q r s (IsEstablishedOf.none whole is) (IsEstablishedOf.none whole' is') behind behind' same =
    same_cut v u p q r s (is ∙ sym is') (whole ∙ sym whole') same
established_is_one proto v u p q r s (IsEstablishedOf.none whole is) (IsEstablishedOf.some has whole' is') behind behind' same =
    absurd (no_log_established r s behind (rw (whole, whole') at same))
established_is_one proto v u p q r s (IsEstablishedOf.some has whole is) (IsEstablishedOf.none whole' is') behind behind' same =
    absurd (no_log_established s r behind' (sym (rw (whole, whole') at same)))
established_is_one proto v u p q r s (IsEstablishedOf.some has whole is) (IsEstablishedOf.some has' whole' is') behind behind' same =
    same_cut v u p q r s (is ∙ sym is') (whole ∙ sym whole') same

-- with ICMP, nothing but a word on logging stands behind the messages
icmp_log : (proto : Option ℕ) (established : Bool) (words : Words) → Then (IsEstablishedOf proto established) (IsLog true) words → proto ≡ Some 1 → IsLog true words
icmp_log proto established words line is = go line.first
  where
    go : IsEstablishedOf proto established line.front → IsLog true words
    go (IsEstablishedOf.none whole off) =
        let e : words ≡ line.back = line.whole ∙ ap (λ (x : Words). x ++ line.back) whole in
        rw e line.second
    go (IsEstablishedOf.some has whole on) = let e : ◌≡◌ {A = Option ℕ} (Some 1) (Some 6) = sym is ∙ has in absurd (cc)

-- what stands behind the destination spells one of each
pub record SameEnd (tested tested' : Ports) (icmp icmp' : Option (ℕ × Option ℕ)) (established established' : Bool) : Type 0 where
  pub tested_same : tested ≡ tested'
  pub icmp_same : icmp ≡ icmp'
  pub established_same : established ≡ established'

pub end_is_one : (b : Bool) (proto : Option ℕ) (tested tested' : Ports) (icmp icmp' : Option (ℕ × Option ℕ)) (established established' : Bool) (words : Words)
    → IsEnd b proto tested icmp established words → IsEnd b proto tested' icmp' established' words → SameEnd tested tested' icmp icmp' established established'
end_is_one b proto tested tested' icmp icmp' established established' words x y =
    let ports = ports_of_are_one b proto tested tested' x.front y.front x.back y.back x.first y.first
    (end_lacks_ports proto icmp established x.back x.second) (end_lacks_ports proto icmp' established' y.back y.second) (sym x.whole ∙ y.whole) in
    let messages = messages_of_are_one proto icmp icmp' x.second.front y.second.front x.second.back y.second.back x.second.first y.second.first
    (icmp_log proto established x.second.back x.second.second) (icmp_log proto established' y.second.back y.second.second)
    (sym x.second.whole ∙ ports.back ∙ y.second.whole) in
    let connections = established_is_one proto established established' x.second.second.front y.second.second.front x.second.second.back y.second.second.back
    x.second.second.first y.second.second.first x.second.second.second y.second.second.second (sym x.second.second.whole ∙ messages.back ∙ y.second.second.whole) in
    record { tested_same = ports.value; icmp_same = messages.value; established_same = connections.value }
