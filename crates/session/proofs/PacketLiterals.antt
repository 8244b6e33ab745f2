-- Eight literals that stand for numbers of their fields are a packet.
use Rattle.std.proofs.Common.{◌≡◌, ℕ, Bool, true, false, List, [], ◌∷◌, length, Option, Some, None, refl, arith}
use Rattle.std.specs.Bool.{if◌then◌else◌}
use Rattle.std.specs.Option.{option_map_or}
use Rattle.std.proofs.lemmas.Bool.{ltb-true}
use Rattle.ios_acl.specs.declared.packet.Packet.{Packet}
use Rattle.sorted_logic.specs.declared.request.Field.{Field}
use Rattle.sorted_logic.specs.declared.request.Field.TheVariants as field
use Rattle.sorted_logic.specs.Field.{packet_fields}
use Rattle.query_lang.specs.declared.literal.Literal.{Literal}
use Rattle.list_questions.specs.declared.packet.LiteralFault.TheVariants as fault
use Rattle.list_questions.specs.Ranges.{ArePacket, fault_of, is_number_of, literal_fault, number_fault, number_in}
use Rattle.list_questions.proofs.Literals.{eight_same, neither}

no_fault : (is : Bool) → (if is then None else Some fault.OutOfRange) ≡ None → is ≡ true
no_fault true fits = refl
no_fault false fits = absurd cc

module _ (names : List (List ℕ)) where
  number_fits : (f : Field) (number : Option ℕ) → option_map_or (number_fault f) number (Some fault.UnknownName) ≡ None
      → (n : ℕ) × (number ≡ Some n) × (is_number_of f n ≡ true)
  number_fits f (Some n) fits = (n, refl, no_fault (is_number_of f n) fits)
  number_fits f None fits = absurd cc

  -- the first number, and what is said of the others
  record First (f : Field) (l : Literal) (fields : List Field) (literals : List Literal) : Type 0 where
    number : ℕ
    is : number_in names l ≡ Some number
    within : is_number_of f number ≡ true
    others : literal_fault names fields literals ≡ None

  first_number : (f : Field) (l : Literal) (fields : List Field) (literals : List Literal) → literal_fault names (f ∷ fields) (l ∷ literals) ≡ None → First f l fields literals
  first_number f l fields literals fits =
      let both = neither (fault_of names f l) (literal_fault names fields literals) fits in
      let is = number_fits f (number_in names l) both.0 in
      record { number = is.0; is = is.1; within = is.2; others = both.1 }

  pub literals_are : (literals : List Literal) → length literals ≡ 8 → literal_fault names packet_fields literals ≡ None → (packet : Packet) × ArePacket names literals packet
  literals_are (a ∷ b ∷ c ∷ d ∷ e ∷ f ∷ g ∷ h ∷ []) eight fits =
      let src = first_number field.SrcIn a (field.DstIn ∷ field.SportIn ∷ field.DportIn ∷ field.Proto ∷ field.Flags ∷ field.IcmpType ∷ field.IcmpCode ∷ []) (b ∷ c ∷ d ∷ e ∷ f ∷ g ∷ h ∷ []) fits in
      let dst = first_number field.DstIn b (field.SportIn ∷ field.DportIn ∷ field.Proto ∷ field.Flags ∷ field.IcmpType ∷ field.IcmpCode ∷ []) (c ∷ d ∷ e ∷ f ∷ g ∷ h ∷ []) src.others in
      let sport = first_number field.SportIn c (field.DportIn ∷ field.Proto ∷ field.Flags ∷ field.IcmpType ∷ field.IcmpCode ∷ []) (d ∷ e ∷ f ∷ g ∷ h ∷ []) dst.others in
      let dport = first_number field.DportIn d (field.Proto ∷ field.Flags ∷ field.IcmpType ∷ field.IcmpCode ∷ []) (e ∷ f ∷ g ∷ h ∷ []) sport.others in
      let proto = first_number field.Proto e (field.Flags ∷ field.IcmpType ∷ field.IcmpCode ∷ []) (f ∷ g ∷ h ∷ []) dport.others in
      let flags = first_number field.Flags f (field.IcmpType ∷ field.IcmpCode ∷ []) (g ∷ h ∷ []) proto.others in
      let icmp_type = first_number field.IcmpType g (field.IcmpCode ∷ []) (h ∷ []) flags.others in
      let icmp_code = first_number field.IcmpCode h ([]) ([]) icmp_type.others in (
        record {
          src = src.number;
          dst = dst.number;
          sport = sport.number;
          dport = dport.number;
          proto = proto.number;
          flags = flags.number;
          icmp_type = icmp_type.number;
          icmp_code = icmp_code.number;
          flags_in_range = ltb-true flags.number 64 flags.within;
        },
        eight_same _ _ _ _ _ _ _ _ _ _ _ _ _ _ _ _ src.is dst.is sport.is dport.is proto.is flags.is icmp_type.is icmp_code.is,
      )
  literals_are literals eight fits = absurd (omega arith)
