-- Numbers, literals and number tests are read again as they are written.
use Rattle.std.proofs.Common.{◌≡◌, ℕ, ◌≤◌, ◌<◌, ◌^◌, ◌-◌, Bool, true, false, ◌&&◌, if◌then◌else◌, nat_le, List, [], ◌∷◌, refl, sym, ap, subst, arith}
use Rattle.std.proofs.lemmas.Bool.{and_parts, leb-true, eqb-true}
use Rattle.std.proofs.lemmas.Fmt.{decimal_is_IsNumeral_wide}
use Rattle.std.proofs.lemmas.List.Elements.{All-head}
use Rattle.std.proofs.lemmas.Slice.Eq.{bytes_eq-Decides}
use Rattle.std.specs.Fmt.{decimal}
use Rattle.std.specs.Str.Parse.{IsNumeral}
use Rattle.query_tokens.specs.declared.keyword.Keyword.TheVariants as keyword
use Rattle.query_tokens.specs.declared.token.Token.{Token}
use Rattle.query_tokens.specs.declared.token.Token.TheVariants as token
use Rattle.query_tokens.specs.Writing.{IsWritable}
use Rattle.query_tokens.proofs.Writable.{numeral_writable}
use Rattle.query_lang.specs.declared.literal.Literal.{Literal}
use Rattle.query_lang.specs.declared.literal.Literal.TheVariants as literal_of
use Rattle.query_lang.specs.Words.{Tokens, on, word, digits, number, is_numeral, is_number}
use Rattle.query_lang.specs.Literals.{IsLiteral, NumberTest, IsNumberTest, dotted_number}
use Rattle.query_lang.specs.Writing.{numeral, literal, same_literal, range}
use Rattle.query_lang.proofs.Numerals.{within}
use Rattle.query_lang.proofs.ReadAgain.{Spelt, Known, Then, behind, known_quoted, none_written, one_written, word_written}

-- Numbers.

pub decimal_value : (n : ℕ) → n < 2 ^ 128 → number (decimal n) ≡ n
decimal_value n small = (decimal_is_IsNumeral_wide n (omega arith)).1

pub decimal_numeral : (n : ℕ) → n < 2 ^ 128 → IsNumeral 10 (decimal n)
decimal_numeral n small = (decimal_is_IsNumeral_wide n (omega arith)).0

pub decimal_within : (low high n : ℕ) → low ≤ n → n ≤ high → n < 2 ^ 128 → is_number low high (decimal n) ≡ true
decimal_within low high n from to small = within low high n (decimal n) (decimal_numeral n small) (sym (decimal_value n small)) from to

pub numeral_written : (n : ℕ) → n < 2 ^ 128 → IsWritable (numeral n)
numeral_written n small = numeral_writable (decimal n) (decimal_numeral n small)

-- what a number between two is
pub at_least : (low high : ℕ) (text : List ℕ) → is_number low high text ≡ true → low ≤ number text
at_least low high text e =
    let parts = and_parts (is_numeral text) (nat_le low (number text) && nat_le (number text) high) e in
    leb-true low (number text) (and_parts (nat_le low (number text)) (nat_le (number text) high) parts.1).0

pub at_most_high : (low high : ℕ) (text : List ℕ) → is_number low high text ≡ true → number text ≤ high
at_most_high low high text e =
    let parts = and_parts (is_numeral text) (nat_le low (number text) && nat_le (number text) high) e in
    leb-true (number text) high (and_parts (nat_le low (number text)) (nat_le (number text) high) parts.1).1

-- Literals.

number_spelt : (n : ℕ) → n < 2 ^ 128 → Spelt (IsLiteral (literal_of.Number n)) (numeral n ∷ [])
number_spelt n small = record {
  reads = λ line rest. subst (λ (m : ℕ). IsLiteral (literal_of.Number m) (digits line (decimal n) ∷ rest) rest) (decimal_value n small)
      (IsLiteral.decimal line (decimal n) rest (decimal_within 0 (2 ^ 128 - 1) n (omega arith) (omega (arith, small)) small));
  writable = one_written (numeral n) [] (numeral_written n small) none_written;
}

dotted_small : (a b c d : ℕ) → a ≤ 255 → b ≤ 255 → c ≤ 255 → d ≤ 255 → dotted_number a b c d < 2 ^ 128
dotted_small a b c d p q r s = omega (arith, p, q, r, s)

pub literal_again : (v : Literal) (ts rest : Tokens) → IsLiteral v ts rest → Known ts → Then (Spelt (IsLiteral v) (literal v ∷ [])) rest
literal_again v ts rest (IsLiteral.decimal line text _ fits) known =
    let most = at_most_high 0 (2 ^ 128 - 1) text fits in
    record { is = number_spelt (number text) (omega (arith, most)); behind = behind known }
literal_again v ts rest (IsLiteral.dotted i j k l m n o a b c d _ p q r s) known = record {
  is = number_spelt (dotted_number (number a) (number b) (number c) (number d))
      (dotted_small (number a) (number b) (number c) (number d) (at_most_high 0 255 a p) (at_most_high 0 255 b q) (at_most_high 0 255 c r) (at_most_high 0 255 d s));
  behind = behind (behind (behind (behind (behind (behind (behind known))))));
}
literal_again v ts rest (IsLiteral.interface line text _) known = record {
  is = record { reads = λ i r. IsLiteral.interface i text r; writable = one_written (token.Quoted text) [] (known_quoted known) none_written };
  behind = behind known;
}

-- Number tests.

same_is : (v w : Literal) → same_literal v w ≡ true → v ≡ w
same_is (literal_of.Number m) (literal_of.Number n) e = ap (λ (k : ℕ). literal_of.Number k) (eqb-true m n e)
same_is (literal_of.Interface a) (literal_of.Interface b) e = ap (λ (t : List ℕ). literal_of.Interface t) ((bytes_eq-Decides a b).0 e)
same_is (literal_of.Number m) (literal_of.Interface b) e = absurd (cc e)
same_is (literal_of.Interface a) (literal_of.Number n) e = absurd (cc e)

abbrev pub LiteralSpelt : Literal → Type 0
LiteralSpelt v = Spelt (IsLiteral v) (literal v ∷ [])

value_spelt : (v : Literal) → LiteralSpelt v → Spelt (IsNumberTest (NumberTest.range v v)) (literal v ∷ [])
value_spelt v s = record { reads = λ line rest. IsNumberTest.value v (on line (literal v) ∷ rest) rest (s.reads line rest); writable = s.writable }

one_of : (v : Literal) → LiteralSpelt v → IsWritable (literal v)
one_of v s = All-head IsWritable (literal v) [] s.writable

by_same : (lo hi : Literal) (b : Bool) → same_literal lo hi ≡ b → LiteralSpelt lo → LiteralSpelt hi
    → Spelt (IsNumberTest (NumberTest.range lo hi)) (if b then literal lo ∷ [] else literal lo ∷ token.Keyword keyword.To ∷ literal hi ∷ [])
by_same lo hi true e s t = subst (λ (w : Literal). Spelt (IsNumberTest (NumberTest.range lo w)) (literal lo ∷ [])) (same_is lo hi e) (value_spelt lo s)
by_same lo hi false e s t = record {
  reads = λ line rest. IsNumberTest.range line lo hi (on line (literal lo) ∷ word line keyword.To ∷ on line (literal hi) ∷ rest) (on line (literal hi) ∷ rest) rest (s.reads line (word line keyword.To ∷ on line (literal hi) ∷ rest)) (t.reads line rest);
  writable = one_written (literal lo) (token.Keyword keyword.To ∷ literal hi ∷ []) (one_of lo s) (word_written keyword.To (literal hi ∷ []) t.writable);
}

-- the tokens of a number test
abbrev pub test_tokens : NumberTest → List Token
test_tokens (NumberTest.masked v w) = literal v ∷ literal w ∷ []
test_tokens (NumberTest.range lo hi) = range lo hi

pub test_again : (test : NumberTest) (ts rest : Tokens) → IsNumberTest test ts rest → Known ts → Then (Spelt (IsNumberTest test) (test_tokens test)) rest
test_again test ts rest (IsNumberTest.value v _ _ is) known =
    let a = literal_again v ts rest is known in
    record { is = by_same v v (same_literal v v) refl a.is a.is; behind = a.behind }
test_again test ts rest (IsNumberTest.wildcard v w _ others _ is more) known =
    let a = literal_again v ts others is known in
    let b = literal_again w others rest more a.behind in
    record {
      is = record {
        reads = λ line rest. IsNumberTest.wildcard v w (on line (literal v) ∷ on line (literal w) ∷ rest) (on line (literal w) ∷ rest) rest (a.is.reads line (on line (literal w) ∷ rest)) (b.is.reads line rest);
        writable = one_written (literal v) (literal w ∷ []) (one_of v a.is) b.is.writable;
      };
      behind = b.behind;
    }
test_again test ts rest (IsNumberTest.range line lo hi _ others _ is more) known =
    let a = literal_again lo ts (word line keyword.To ∷ others) is known in
    let b = literal_again hi others rest more (behind a.behind) in
    record { is = by_same lo hi (same_literal lo hi) refl a.is b.is; behind = b.behind }
