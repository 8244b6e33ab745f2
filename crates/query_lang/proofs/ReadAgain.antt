-- Tokens that are read as something wherever they stand on a line.
use Rattle.std.proofs.Common.{◌≡◌, ℕ, suc, ◌≤◌, Bool, true, false, ◌||◌, nat_lt, List, [], ◌∷◌, ◌++◌, All, refl, sym, ap, subst, arith}
use Rattle.std.proofs.lemmas.Bool.{ltb-true, lt-ltb}
use Rattle.std.proofs.lemmas.List.Elements.{All-nil, All-cons, All-head, All-tail, All-append}
use Rattle.query_tokens.specs.declared.keyword.Keyword.{Keyword}
use Rattle.query_tokens.specs.declared.token.Placed.{Placed}
use Rattle.query_tokens.specs.declared.token.Sign.{Sign}
use Rattle.query_tokens.specs.declared.token.Token.{Token}
use Rattle.query_tokens.specs.declared.token.Token.TheVariants as token
use Rattle.query_tokens.specs.Writing.{IsWritable}
use Rattle.query_tokens.proofs.Writable.{sign_writable, keyword_writable}
use Rattle.query_tokens.proofs.WrittenLines.{WritableUnlessBad}
use Rattle.query_lang.specs.Chains.{IsChain}
use Rattle.query_lang.specs.Rules.{Rules, levelled}
use Rattle.query_lang.specs.Words.{Tokens, on, word, name, digits, quoted}
use Rattle.query_lang.specs.Writing.{parted}

-- tokens on one line, before what stands behind them
abbrev pub laid : ℕ → List Token → Tokens → Tokens
laid line [] rest = rest
laid line (t ∷ ts) rest = on line t ∷ laid line ts rest

pub laid_append : (line : ℕ) (ts us : List Token) (rest : Tokens) → laid line (ts ++ us) rest ≡ laid line ts (laid line us rest)
laid_append line [] us rest = refl
laid_append line (t ∷ ts) us rest = ap (λ (l : Tokens). on line t ∷ l) (laid_append line ts us rest)

pub both_laid : (P : Tokens → Type 0) (line : ℕ) (ts us : List Token) (rest : Tokens) → P (laid line ts (laid line us rest)) → P (laid line (ts ++ us) rest)
both_laid P line ts us rest p = subst P (sym (laid_append line ts us rest)) p

-- the tokens are such a phrase on any line and whatever stands behind, and can be written
pub record Spelt (Is : Tokens → Tokens → Type 0) (ts : List Token) : Type 0 where
  pub reads : (line : ℕ) (rest : Tokens) → Is (laid line ts rest) rest
  pub writable : All IsWritable ts

-- what is read is of tokens that can be written
pub data Known : Tokens → Type 0 where
  none : Known []
  some : (t : Placed) (ts : Tokens) → WritableUnlessBad t → Known ts → Known (t ∷ ts)

pub known : (ts : Tokens) → All WritableUnlessBad ts → Known ts
known [] all = Known.none
known (t ∷ ts) all = Known.some t ts (All-head WritableUnlessBad t ts all) (known ts (All-tail WritableUnlessBad t ts all))

pub record Then (A : Type 0) (rest : Tokens) : Type 0 where
  pub is : A
  pub behind : Known rest

pub behind : {t : Placed} {ts : Tokens} → Known (t ∷ ts) → Known ts
behind (Known.some t ts is more) = more

first_known : {t : Placed} {ts : Tokens} → Known (t ∷ ts) → WritableUnlessBad t
first_known (Known.some t ts is more) = is

pub known_name : {line : ℕ} {text : List ℕ} {ts : Tokens} → Known (name line text ∷ ts) → IsWritable (token.Name text)
known_name k = first_known k (λ e. cc e)

pub known_digits : {line : ℕ} {text : List ℕ} {ts : Tokens} → Known (digits line text ∷ ts) → IsWritable (token.Digits text)
known_digits k = first_known k (λ e. cc e)

pub known_quoted : {line : ℕ} {text : List ℕ} {ts : Tokens} → Known (quoted line text ∷ ts) → IsWritable (token.Quoted text)
known_quoted k = first_known k (λ e. cc e)

pub known_other : {line : ℕ} {text : List ℕ} {ts : Tokens} → Known (on line (token.Word text) ∷ ts) → IsWritable (token.Word text)
known_other k = first_known k (λ e. cc e)

pub known_word : {line : ℕ} {w : Keyword} {ts : Tokens} → Known (word line w ∷ ts) → IsWritable (token.Keyword w)
known_word k = first_known k (λ e. cc e)

-- Tokens that can be written.

pub none_written : All IsWritable []
none_written = All-nil IsWritable

pub one_written : (t : Token) (ts : List Token) → IsWritable t → All IsWritable ts → All IsWritable (t ∷ ts)
one_written t ts is all = All-cons IsWritable t ts is all

pub sign_written : (s : Sign) (ts : List Token) → All IsWritable ts → All IsWritable (token.Sign s ∷ ts)
sign_written s ts all = All-cons IsWritable (token.Sign s) ts (sign_writable s) all

pub word_written : (w : Keyword) (ts : List Token) → All IsWritable ts → All IsWritable (token.Keyword w ∷ ts)
word_written w ts all = All-cons IsWritable (token.Keyword w) ts (keyword_writable w) all

pub both_written : (ts us : List Token) → All IsWritable ts → All IsWritable us → All IsWritable (ts ++ us)
both_written ts us all more = All-append IsWritable ts us all more

-- Levels.

-- the rules of scripts
abbrev pub strict : Rules
strict = levelled 64 0 false

may_open : (level lower b c : ℕ) (first : Bool) → nat_lt level 64 ≡ first → lower ≤ level → (first || nat_lt b 0) ≡ true → (nat_lt lower 64 || nat_lt c 0) ≡ true
may_open level lower b c true e le may =
    let less = ltb-true level 64 e in
    ap (λ (d : Bool). d || nat_lt c 0) (lt-ltb lower 64 (omega (arith, less, le)))
may_open level lower b c false e le may = let less = ltb-true b 0 may in absurd (omega (arith, less))

-- where a level may be opened, fewer may be open, and any tokens behind
pub opens_lower : (level lower b c : ℕ) → lower ≤ level → strict.opens level b ≡ true → strict.opens lower c ≡ true
opens_lower level lower b c le may = may_open level lower b c (nat_lt level 64) refl le may

-- at so many open levels, and at fewer
abbrev pub Below : ℕ → (ℕ → Tokens → Tokens → Type 0) → Tokens → Tokens → Type 0
Below level Is tokens rest = (lower : ℕ) → lower ≤ level → Is lower tokens rest

pub fewer : (level : ℕ) (Is : ℕ → Tokens → Tokens → Type 0) (ts : List Token) → Spelt (Below (suc level) Is) ts → Spelt (Below level Is) ts
fewer level Is ts s = record { reads = λ line rest lower le. s.reads line rest lower (omega (arith, le)); writable = s.writable }

-- Chains.

-- a fact of each part, of which there is one or more
pub data Each (Part : Type 0) (P : Part → Type 0) : List Part → Type 0 where
  one : (part : Part) → P part → Each Part P (part ∷ [])
  more : (part second : Part) (parts : List Part) → P part → Each Part P (second ∷ parts) → Each Part P (part ∷ second ∷ parts)

pub longer : (Part : Type 0) (P : Part → Type 0) (part : Part) (parts : List Part) → P part → Each Part P parts → Each Part P (part ∷ parts)
longer Part P part _ p (Each.one second q) = Each.more part second [] p (Each.one second q)
longer Part P part _ p (Each.more second third parts q each) = Each.more part second (third ∷ parts) p (Each.more second third parts q each)

pub each_map : (Part : Type 0) (P Q : Part → Type 0) → ((part : Part) → P part → Q part) → (parts : List Part) → Each Part P parts → Each Part Q parts
each_map Part P Q f _ (Each.one part p) = Each.one part (f part p)
each_map Part P Q f _ (Each.more part second parts p each) = Each.more part second parts (f part p) (each_map Part P Q f (second ∷ parts) each)

module _ (Part : Type 0) (separator : Token) (tokens : Part → List Token) (Is : Part → Tokens → Tokens → Type 0) (Chain : List Part → Tokens → Tokens → Type 0)
    (one : (part : Part) (ts rest : Tokens) → Is part ts rest → Chain (part ∷ []) ts rest)
    (more : (line : ℕ) (part : Part) (parts : List Part) (ts others rest : Tokens) → Is part ts (on line separator ∷ others) → Chain parts others rest → Chain (part ∷ parts) ts rest) where
  chain_reads : (parts : List Part) → Each Part (λ part. Spelt (Is part) (tokens part)) parts → (line : ℕ) (rest : Tokens) → Chain parts (laid line (parted separator tokens parts) rest) rest
  chain_reads _ (Each.one part s) line rest =
      both_laid (λ l. Chain (part ∷ []) l rest) line (tokens part) [] rest (one part (laid line (tokens part) rest) rest (s.reads line rest))
  chain_reads _ (Each.more part second parts s each) line rest =
      let back : Tokens = laid line (parted separator tokens (second ∷ parts)) rest in
      both_laid (λ l. Chain (part ∷ second ∷ parts) l rest) line (tokens part) (separator ∷ parted separator tokens (second ∷ parts)) rest
      (more line part (second ∷ parts) (laid line (tokens part) (on line separator ∷ back)) back rest (s.reads line (on line separator ∷ back)) (chain_reads (second ∷ parts) each line rest))

  chain_written : IsWritable separator → (parts : List Part) → Each Part (λ part. Spelt (Is part) (tokens part)) parts → All IsWritable (parted separator tokens parts)
  chain_written is _ (Each.one part s) = both_written (tokens part) [] s.writable none_written
  chain_written is _ (Each.more part second parts s each) =
      both_written (tokens part) (separator ∷ parted separator tokens (second ∷ parts)) s.writable
      (one_written separator (parted separator tokens (second ∷ parts)) is (chain_written is (second ∷ parts) each))

  pub chain_spelt : IsWritable separator → (parts : List Part) → Each Part (λ part. Spelt (Is part) (tokens part)) parts → Spelt (Chain parts) (parted separator tokens parts)
  chain_spelt is parts each = record { reads = chain_reads parts each; writable = chain_written is parts each }

-- the parts of a chain, each of which is read again
pub chain_again : (Part : Type 0) (separator : Token) (tokens : Part → List Token) (Is : Part → Tokens → Tokens → Type 0)
    → ((part : Part) (ts rest : Tokens) → Is part ts rest → Known ts → Then (Spelt (Is part) (tokens part)) rest)
    → (parts : List Part) (ts rest : Tokens) → IsChain Part separator Is parts ts rest → Known ts → Then (Each Part (λ part. Spelt (Is part) (tokens part)) parts) rest
chain_again Part separator tokens Is again parts ts rest (IsChain.one part _ _ is) known =
    let a = again part ts rest is known in
    record { is = Each.one part a.is; behind = a.behind }
chain_again Part separator tokens Is again parts ts rest (IsChain.more line part others _ back _ is chain) known =
    let a = again part ts (on line separator ∷ back) is known in
    let b = chain_again Part separator tokens Is again others back rest chain (behind a.behind) in
    record { is = longer Part (λ one. Spelt (Is one) (tokens one)) part others a.is b.is; behind = b.behind }

pub chains_spelt : (Part : Type 0) (separator : Token) (tokens : Part → List Token) (Is : Part → Tokens → Tokens → Type 0) → IsWritable separator
    → (parts : List Part) → Each Part (λ part. Spelt (Is part) (tokens part)) parts → Spelt (IsChain Part separator Is parts) (parted separator tokens parts)
chains_spelt Part separator tokens Is = chain_spelt Part separator tokens Is (IsChain Part separator Is) IsChain.one IsChain.more
