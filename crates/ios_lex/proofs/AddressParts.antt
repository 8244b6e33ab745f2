-- The four parts of an address.
use Rattle.std.proofs.Common.{◌≡◌, ℕ, List, [], ◌∷◌, ◌++◌, refl, sym, ◌∙◌, arith}
use Rattle.std.specs.Int.{w32, from_be_bytes}
use Rattle.ios_lex.specs.Cut.{IsFree, IsCut}
use Rattle.ios_lex.specs.Decimal.{IsByte}
use Rattle.ios_lex.specs.Address.{AreParts, IsAddress, IsDotted}
use Rattle.ios_lex.proofs.Cuts.{cut_is_one, cut_is_not_free, digits_are_free}
use Rattle.ios_lex.proofs.DecimalTexts.{decimal_is_one}

-- a text without a dot, with one and with two has no four parts
pub no_first_cut : (text : List ℕ) → IsFree 46 text → (first second third fourth : List ℕ) → AreParts text first second third fourth → ⊥
no_first_cut text free first second third fourth h =
    cut_is_not_free 46 first (second ++ 46 ∷ (third ++ 46 ∷ fourth)) (rw h.whole at free)

after_first : (text front rest first second third fourth : List ℕ) → IsCut 46 text front rest → AreParts text first second third fourth → rest ≡ second ++ 46 ∷ (third ++ 46 ∷ fourth)
after_first text front rest first second third fourth cut h =
    (cut_is_one 46 front rest first (second ++ 46 ∷ (third ++ 46 ∷ fourth)) cut.free h.first_free (sym cut.whole ∙ h.whole)).1

pub no_second_cut : (text front rest : List ℕ) → IsCut 46 text front rest → IsFree 46 rest → (first second third fourth : List ℕ) → AreParts text first second third fourth → ⊥
no_second_cut text front rest cut free first second third fourth h =
    cut_is_not_free 46 second (third ++ 46 ∷ fourth) (rw (after_first text front rest first second third fourth cut h) at free)

pub no_third_cut : (text front rest front' rest' : List ℕ) → IsCut 46 text front rest → IsCut 46 rest front' rest' → IsFree 46 rest' → (first second third fourth : List ℕ) → AreParts text first second third fourth → ⊥
no_third_cut text front rest front' rest' cut cut' free first second third fourth h =
    let same = cut_is_one 46 front' rest' second (third ++ 46 ∷ fourth) cut'.free h.second_free (sym cut'.whole ∙ after_first text front rest first second third fourth cut h) in
    cut_is_not_free 46 third fourth (rw same.1 at free)

-- a text has four parts in one way
pub record SameParts (first second third fourth first' second' third' fourth' : List ℕ) : Type 0 where
  pub first_same : first ≡ first'
  pub second_same : second ≡ second'
  pub third_same : third ≡ third'
  pub fourth_same : fourth ≡ fourth'

pub parts_are_one : (text first second third fourth first' second' third' fourth' : List ℕ) → AreParts text first second third fourth → AreParts text first' second' third' fourth' → SameParts first second third fourth first' second' third' fourth'
parts_are_one text first second third fourth first' second' third' fourth' g h =
    let one = cut_is_one 46 first (second ++ 46 ∷ (third ++ 46 ∷ fourth)) first' (second' ++ 46 ∷ (third' ++ 46 ∷ fourth')) g.first_free h.first_free (sym g.whole ∙ h.whole) in
    let two = cut_is_one 46 second (third ++ 46 ∷ fourth) second' (third' ++ 46 ∷ fourth') g.second_free h.second_free one.1 in
    let three = cut_is_one 46 third fourth third' fourth' g.third_free h.third_free two.1 in
    record { first_same = one.0; second_same = two.0; third_same = three.0; fourth_same = three.1 }

-- in a text that spells a byte there is no dot
abbrev pub SpellsFree : (List ℕ → ℕ → Type 0) → Type 0
SpellsFree Spells = (text : List ℕ) (n : ℕ) → Spells text n → IsFree 46 text

-- a text spells one byte at most
abbrev pub SpellsOne : (List ℕ → ℕ → Type 0) → Type 0
SpellsOne Spells = (text : List ℕ) (m n : ℕ) → Spells text m → Spells text n → m ≡ n

-- the parts of four bytes joined by dots are those of the text
pub dotted_parts : (Spells : List ℕ → ℕ → Type 0) → SpellsFree Spells → (text : List ℕ) (n : ℕ) (h : IsDotted Spells text n) → AreParts text h.first h.second h.third h.fourth
dotted_parts Spells free text n h = record {
  whole = h.spelled;
  first_free = free h.first h.a h.first_byte;
  second_free = free h.second h.b h.second_byte;
  third_free = free h.third h.c h.third_byte;
}

-- a text without a dot is not four bytes joined by dots
pub no_dotted : (Spells : List ℕ → ℕ → Type 0) → SpellsFree Spells → (text : List ℕ) → IsFree 46 text → (n : ℕ) → IsDotted Spells text n → ⊥
no_dotted Spells is_free text free n h = no_first_cut text free h.first h.second h.third h.fourth (dotted_parts Spells is_free text n h)

-- the four parts of a text, and what its number says of them
pub record HasBytes (Spells : List ℕ → ℕ → Type 0) (first second third fourth : List ℕ) (n : ℕ) : Type 0 where
  pub a : ℕ
  pub b : ℕ
  pub c : ℕ
  pub d : ℕ
  pub first_byte : Spells first a
  pub second_byte : Spells second b
  pub third_byte : Spells third c
  pub fourth_byte : Spells fourth d
  pub value : n ≡ from_be_bytes w32 (a ∷ b ∷ c ∷ d ∷ [])

pub bytes_of_dotted : (Spells : List ℕ → ℕ → Type 0) → SpellsFree Spells → (text first second third fourth : List ℕ) (n : ℕ) → AreParts text first second third fourth → IsDotted Spells text n
    → HasBytes Spells first second third fourth n
bytes_of_dotted Spells free text first second third fourth n parts h =
    let same = parts_are_one text first second third fourth h.first h.second h.third h.fourth parts (dotted_parts Spells free text n h) in
    record {
      a = h.a;
      b = h.b;
      c = h.c;
      d = h.d;
      first_byte = rw same.first_same h.first_byte;
      second_byte = rw same.second_same h.second_byte;
      third_byte = rw same.third_same h.third_byte;
      fourth_byte = rw same.fourth_same h.fourth_byte;
      value = h.value;
    }

same_bytes : (a a' b b' c c' d d' : ℕ) → a ≡ a' → b ≡ b' → c ≡ c' → d ≡ d' → from_be_bytes w32 (a ∷ b ∷ c ∷ d ∷ []) ≡ from_be_bytes w32 (a' ∷ b' ∷ c' ∷ d' ∷ [])
same_bytes a a' b b' c c' d d' first second third fourth = rw (first, second, third, fourth) refl

pub dotted_is_one : (Spells : List ℕ → ℕ → Type 0) → SpellsFree Spells → SpellsOne Spells → (text : List ℕ) (m n : ℕ) → IsDotted Spells text m → IsDotted Spells text n → m ≡ n
dotted_is_one Spells free one text m n g h =
    let p = bytes_of_dotted Spells free text g.first g.second g.third g.fourth n (dotted_parts Spells free text m g) h in
    let a = one g.first g.a p.a g.first_byte p.first_byte in
    let b = one g.second g.b p.b g.second_byte p.second_byte in
    let c = one g.third g.c p.c g.third_byte p.third_byte in
    let d = one g.fourth g.d p.d g.fourth_byte p.fourth_byte in
    g.value ∙ same_bytes g.a p.a g.b p.b g.c p.c g.d p.d a b c d ∙ sym p.value

byte_is_free : SpellsFree IsByte
byte_is_free text n byte = digits_are_free 46 (omega arith) text byte.decimal.digits.1

byte_is_one : SpellsOne IsByte
byte_is_one text m n first second = decimal_is_one 3 text m n first.decimal second.decimal

-- the same of addresses
pub address_parts : (text : List ℕ) (n : ℕ) (h : IsAddress text n) → AreParts text h.first h.second h.third h.fourth
address_parts = dotted_parts IsByte byte_is_free

pub no_address : (text : List ℕ) → IsFree 46 text → (n : ℕ) → IsAddress text n → ⊥
no_address = no_dotted IsByte byte_is_free

pub bytes_of_parts : (text first second third fourth : List ℕ) (n : ℕ) → AreParts text first second third fourth → IsAddress text n → HasBytes IsByte first second third fourth n
bytes_of_parts = bytes_of_dotted IsByte byte_is_free

pub address_is_one : (word : List ℕ) (m n : ℕ) → IsAddress word m → IsAddress word n → m ≡ n
address_is_one = dotted_is_one IsByte byte_is_free byte_is_one
