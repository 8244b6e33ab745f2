-- The parts of a line that show where they end: places, protocols and tests of ports.
use Rattle.std.proofs.Common.{◌≡◌, ℕ, Bool, true, false, List, [], ◌∷◌, ◌++◌, refl, sym, ap, ◌∙◌, codes}
use Rattle.ios_lex.specs.Address.{IsAddress}
use Rattle.ios_lex.specs.Phrases.{Words}
use Rattle.ios_lex.specs.Refusal.{begins_with_digit, is_among}
use Rattle.ios_lex.proofs.AddressParts.{address_is_one}
use Rattle.ios_lex.proofs.Spellings.{protocol_is_one, port_is_one}
use Rattle.ios_lex.proofs.WordForms.{address_digit, no_ip_protocol, words_differ}
use Rattle.ios_lex.proofs.OneCut.{IsOneCut, same_cut, same_first}
use Rattle.ios_acl.specs.declared.entry.Ports.{Ports}
use Rattle.ios_acl.specs.Grammar.{IsPlace, IsProto, ArePorts, ports_below, ports_above}
use Rattle.ios_acl.specs.Parts.{port_words}

-- a word that begins with no digit is no address
pub no_address_keyword : (word key : List ℕ) (n : ℕ) → begins_with_digit key ≡ false → word ≡ key → IsAddress word n → ⊥
no_address_keyword word key n letter is address =
    let digit = address_digit word n address in
    let digit' : begins_with_digit key ≡ true = rw (← is) digit in
    cc

pub pair_is_one : (v u : ℕ × ℕ) → v.0 ≡ u.0 → v.1 ≡ u.1 → v ≡ u
pair_is_one (a, b) (a', b') first second = cc

pub place_is_one : IsOneCut IsPlace
place_is_one v u p q r s (IsPlace.any whole is) (IsPlace.any whole' is') same = same_cut v u p q r s (is ∙ sym is') (whole ∙ sym whole') same
place_is_one v u p q r s (IsPlace.any whole is) (IsPlace.host w whole' a' z') same =
    let e = rw (whole, whole') at same in absurd (cc)
place_is_one v u p q r s (IsPlace.any whole is) (IsPlace.some w o whole' a' b') same =
    let e = rw (whole, whole') at same in
    let f : w ≡ codes "any" = cc in
    absurd (no_address_keyword w (codes "any") u.0 refl f a')
place_is_one v u p q r s (IsPlace.host w whole a z) (IsPlace.any whole' is') same =
    let e = rw (whole, whole') at same in absurd (cc)
place_is_one v u p q r s (IsPlace.host w whole a z) (IsPlace.host w' whole' a' z') same =
    let e = rw (whole, whole') at same in
    let f : w' ≡ w = cc in
    same_cut v u p q r s (pair_is_one v u (address_is_one w v.0 u.0 a (rw (← f) a')) (z ∙ sym z')) (cc) same
place_is_one v u p q r s (IsPlace.host w whole a z) (IsPlace.some w' o' whole' a' b') same =
    let e = rw (whole, whole') at same in
    let f : w' ≡ codes "host" = cc in
    absurd (no_address_keyword w' (codes "host") u.0 refl f a')
place_is_one v u p q r s (IsPlace.some w o whole a b) (IsPlace.any whole' is') same =
    let e = rw (whole, whole') at same in
    let f : w ≡ codes "any" = cc in
    absurd (no_address_keyword w (codes "any") v.0 refl f a)
place_is_one v u p q r s (IsPlace.some w o whole a b) (IsPlace.host w' whole' a' z') same =
    let e = rw (whole, whole') at same in
    let f : w ≡ codes "host" = cc in
    absurd (no_address_keyword w (codes "host") v.0 refl f a)
place_is_one v u p q r s (IsPlace.some w o whole a b) (IsPlace.some w' o' whole' a' b') same =
    let e = rw (whole, whole') at same in
    let f : w' ≡ w = cc in
    let g : o' ≡ o = cc in
    same_cut v u p q r s (pair_is_one v u (address_is_one w v.0 u.0 a (rw (← f) a')) (address_is_one o v.1 u.1 b (rw (← g) b'))) (cc) same

pub proto_is_one : IsOneCut IsProto
proto_is_one v u p q r s (IsProto.every whole is) (IsProto.every whole' is') same = same_cut v u p q r s (is ∙ sym is') (whole ∙ sym whole') same
proto_is_one v u p q r s (IsProto.every whole is) (IsProto.one w n whole' names is') same =
    let e = rw (whole, whole') at same in
    let f : w ≡ codes "ip" = cc in
    absurd (no_ip_protocol n (rw f at names))
proto_is_one v u p q r s (IsProto.one w n whole names is) (IsProto.every whole' is') same =
    let e = rw (whole, whole') at same in
    let f : w ≡ codes "ip" = cc in
    absurd (no_ip_protocol n (rw f at names))
proto_is_one v u p q r s (IsProto.one w n whole names is) (IsProto.one w' n' whole' names' is') same =
    let e = rw (whole, whole') at same in
    let f : w' ≡ w = cc in
    let g : n ≡ n' = protocol_is_one w n n' names (rw (← f) names') in
    same_cut v u p q r s (cc) (cc) same

-- the word that begins a test of ports, and the words behind it
pub ports_word : (b tcp : Bool) (tested : Ports) (words : Words) → ArePorts b tcp tested words → List ℕ
ports_word b tcp tested words (ArePorts.eq w n whole names is) = codes "eq"
ports_word b tcp tested words (ArePorts.neq w n whole names is) = codes "neq"
ports_word b tcp tested words (ArePorts.lt w n whole names is) = codes "lt"
ports_word b tcp tested words (ArePorts.gt w n whole names is) = codes "gt"
ports_word b tcp tested words (ArePorts.range w o n m whole names names' order is) = codes "range"

pub ports_begin : (b tcp : Bool) (tested : Ports) (words : Words) (are : ArePorts b tcp tested words) → (more : Words) × (words ≡ ports_word b tcp tested words are ∷ more)
unfolding ports_word
ports_begin b tcp tested words (ArePorts.eq w n whole names is) = (w ∷ [], whole)
ports_begin b tcp tested words (ArePorts.neq w n whole names is) = (w ∷ [], whole)
ports_begin b tcp tested words (ArePorts.lt w n whole names is) = (w ∷ [], whole)
ports_begin b tcp tested words (ArePorts.gt w n whole names is) = (w ∷ [], whole)
ports_begin b tcp tested words (ArePorts.range w o n m whole names names' order is) = (w ∷ o ∷ [], whole)

pub ports_word_letter : (b tcp : Bool) (tested : Ports) (words : Words) (are : ArePorts b tcp tested words) → begins_with_digit (ports_word b tcp tested words are) ≡ false
unfolding ports_word
ports_word_letter b tcp tested words (ArePorts.eq w n whole names is) = refl
ports_word_letter b tcp tested words (ArePorts.neq w n whole names is) = refl
ports_word_letter b tcp tested words (ArePorts.lt w n whole names is) = refl
ports_word_letter b tcp tested words (ArePorts.gt w n whole names is) = refl
ports_word_letter b tcp tested words (ArePorts.range w o n m whole names names' order is) = refl

pub ports_word_among : (b tcp : Bool) (tested : Ports) (words : Words) (are : ArePorts b tcp tested words) → is_among port_words (ports_word b tcp tested words are) ≡ true
unfolding ports_word
ports_word_among b tcp tested words (ArePorts.eq w n whole names is) = refl
ports_word_among b tcp tested words (ArePorts.neq w n whole names is) = refl
ports_word_among b tcp tested words (ArePorts.lt w n whole names is) = refl
ports_word_among b tcp tested words (ArePorts.gt w n whole names is) = refl
ports_word_among b tcp tested words (ArePorts.range w o n m whole names names' order is) = refl

pub ports_are_one : (b tcp : Bool) → IsOneCut (ArePorts b tcp)
unfolding ports_word
ports_are_one b tcp v u p q r s (ArePorts.eq w n whole names is) (ArePorts.eq w' n' whole' names' is') same =
    let e = rw (whole, whole') at same in
    let f : w' ≡ w = cc in
    let g : n ≡ n' = port_is_one tcp w n n' names (rw (← f) names') in
    same_cut v u p q r s (cc) (cc) same
ports_are_one b tcp v u p q r s (ArePorts.neq w n whole names is) (ArePorts.neq w' n' whole' names' is') same =
    let e = rw (whole, whole') at same in
    let f : w' ≡ w = cc in
    let g : n ≡ n' = port_is_one tcp w n n' names (rw (← f) names') in
    same_cut v u p q r s (cc) (cc) same
ports_are_one b tcp v u p q r s (ArePorts.lt w n whole names is) (ArePorts.lt w' n' whole' names' is') same =
    let e = rw (whole, whole') at same in
    let f : w' ≡ w = cc in
    let g : n ≡ n' = port_is_one tcp w n n' names (rw (← f) names') in
    same_cut v u p q r s (is ∙ ap ports_below g ∙ sym is') (cc) same
ports_are_one b tcp v u p q r s (ArePorts.gt w n whole names is) (ArePorts.gt w' n' whole' names' is') same =
    let e = rw (whole, whole') at same in
    let f : w' ≡ w = cc in
    let g : n ≡ n' = port_is_one tcp w n n' names (rw (← f) names') in
    same_cut v u p q r s (is ∙ ap ports_above g ∙ sym is') (cc) same
ports_are_one b tcp v u p q r s (ArePorts.range w o n m whole names others order is) (ArePorts.range w' o' n' m' whole' names' others' order' is') same =
    let e = rw (whole, whole') at same in
    let f : w' ≡ w = cc in
    let f' : o' ≡ o = cc in
    let g : n ≡ n' = port_is_one tcp w n n' names (rw (← f) names') in
    let g' : m ≡ m' = port_is_one tcp o m m' others (rw (← f') others') in
    same_cut v u p q r s (cc) (cc) same
ports_are_one b tcp v u p q r s are are' same =
    let first = ports_begin b tcp v p are in
    let first' = ports_begin b tcp u q are' in
    let word = ports_word b tcp v p are in
    let word' = ports_word b tcp u q are' in
    absurd (words_differ word word' refl (same_first word word' (first.0 ++ r) (first'.0 ++ s) (rw (first.1, first'.1) at same)))

-- another keyword begins no test of ports, and neither does a place
pub no_key_ports : (key : List ℕ) (more : Words) → is_among port_words key ≡ false
    → (b tcp : Bool) (tested : Ports) (q s : Words) → ArePorts b tcp tested q → key ∷ more ≡ q ++ s → ⊥
no_key_ports key more other b tcp tested q s are same =
    let begin = ports_begin b tcp tested q are in
    let word = ports_word b tcp tested q are in
    let first : key ≡ word = same_first key word more (begin.0 ++ s) (rw begin.1 at same) in
    let among = ports_word_among b tcp tested q are in
    cc

pub no_place_ports : (place : ℕ × ℕ) (b tcp : Bool) (tested : Ports) (p q r s : Words) → IsPlace place p → ArePorts b tcp tested q → p ++ r ≡ q ++ s → ⊥
no_place_ports place b tcp tested p q r s (IsPlace.any whole is) are same =
    no_key_ports (codes "any") r refl b tcp tested q s are (rw whole at same)
no_place_ports place b tcp tested p q r s (IsPlace.host w whole a z) are same =
    no_key_ports (codes "host") (w ∷ r) refl b tcp tested q s are (rw whole at same)
no_place_ports place b tcp tested p q r s (IsPlace.some w o whole a b') are same =
    let begin = ports_begin b tcp tested q are in
    let word = ports_word b tcp tested q are in
    let first : w ≡ word = same_first w word (o ∷ r) (begin.0 ++ s) (rw (whole, begin.1) at same) in
    no_address_keyword w word place.0 (ports_word_letter b tcp tested q are) first a
