-- Protocols: the words that spell one, and where words stop to begin one.
use Rattle.std.proofs.Common.{◌≡◌, inr, ℕ, Bool, false, List, [], ◌∷◌, Option, Some, None, codes, length, refl}
use Rattle.ios_lex.specs.Names.{IsProtocol}
use Rattle.ios_lex.specs.declared.stop.Due.TheVariants as due
use Rattle.ios_lex.specs.declared.stop.Stop.{Stop}
use Rattle.ios_lex.specs.Phrases.{Words}
use Rattle.ios_lex.specs.Following.{Begins, MayFollow, IsAddressWord, IsNumberWord}
use Rattle.ios_lex.specs.Stops.{BeginsWith, LacksFirst}
use Rattle.ios_lex.proofs.FirstStops.{expected, unexpected, stop_at}
use Rattle.ios_lex.proofs.WordForms.{no_address_protocol, number_word, other_no_address, zero_number}
use Rattle.ios_acl.specs.Grammar.{IsProto}
use Rattle.ios_acl.specs.Stops.{IsStop}
use Rattle.ios_acl.specs.Parts.{SomeProto}

pub every_read : (words rest : Words) → words ≡ codes "ip" ∷ rest → BeginsWith (IsProto None) words rest
every_read words rest whole = (codes "ip" ∷ [], whole, IsProto.every refl refl)

pub protocol_read : (words rest : Words) (word : List ℕ) (n : ℕ) → words ≡ word ∷ rest → IsProtocol word n → BeginsWith (IsProto (Some n)) words rest
protocol_read words rest word n whole is = (word ∷ [], whole, IsProto.one word n refl is refl)

no_proto : (proto : Option ℕ) → IsProto proto [] → ⊥
no_proto proto (IsProto.every whole is) = cc
no_proto proto (IsProto.one word n whole names is) = cc

pub no_proto_begins : (word : List ℕ) → (word ≡ codes "ip" → ⊥) → ((n : ℕ) → IsProtocol word n → ⊥) → (b : Bool) → Begins (SomeProto b) (word ∷ []) → ⊥
no_proto_begins word other none b (more, (proto, is)) = by is
  where
    by : IsProto proto (word ∷ more) → ⊥
    by (IsProto.every whole value) = other (cc)
    by (IsProto.one word' n whole names value) = let same : word' ≡ word = cc in none n (rw same at names)

no_address_proto : MayFollow (SomeProto false) [] IsAddressWord → ⊥
no_address_proto (word, (n, address), begins) = no_proto_begins word ip (λ m is. no_address_protocol word n m address is) false begins
  where
    ip : word ≡ codes "ip" → ⊥
    ip same = other_no_address (codes "ip") n refl (rw same at address)

number_proto : MayFollow (SomeProto false) [] IsNumberWord
number_proto = (codes "0", number_word 255 (codes "0") 0 (zero_number 255), ([], (Some 0, IsProto.one (codes "0") 0 refl (inr (zero_number 255)) refl)))

pub proto_stop : (words : Words) (stop : Stop) → stop.left ≡ length words → stop.due ≡ due.Number → ((b : Bool) → LacksFirst (SomeProto b) words) → IsStop SomeProto words stop
proto_stop words stop left is lacks =
    let none : SomeProto false [] → ⊥ = λ proto. no_proto proto.0 proto.1 in
    stop_at SomeProto words stop due.Number left is refl (codes "ip" ∷ [], (None, IsProto.every refl refl))
    (record { address = unexpected no_address_proto; number = expected number_proto; name = unexpected (λ h. none h.0); whole = unexpected none })
    (λ empty. none) lacks
