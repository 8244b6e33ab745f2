-- The words without effect behind a route, and where they stop.
use Rattle.std.proofs.Common.{◌≡◌, ◌↔◌, ◌&&◌, ◌||◌, ℕ, Bool, true, false, List, [], ◌∷◌, length, Result, Ok, Err, IfOk, IfErr, refl, codes, arith}
use Rattle.std.specs.Str.{bytes_eq}
use Rattle.std.proofs.lemmas.Bool.{and_parts}
use Rattle.std.proofs.lemmas.List.{append-nil}
use Rattle.std.proofs.lemmas.Slice.Eq.{bytes_eq-Decides}
use Rattle.ios_lex.specs.Decimal.{IsNumber}
use Rattle.ios_lex.specs.declared.stop.Due.TheVariants as due
use Rattle.ios_lex.specs.declared.stop.Stop.{Stop}
use Rattle.ios_lex.specs.NextWords.{NoName, IsNameBeside, IsNameOf, IsNumberOf, SomeName, SomeNumber}
use Rattle.ios_lex.specs.Phrases.{Words}
use Rattle.ios_lex.specs.Refusal.{begins_with_digit}
use Rattle.ios_lex.specs.Stops.{BeginsWith, expected_of, IsStop}
use Rattle.ios_lex.proofs.FirstStops.{begins_with_text, expected, unexpected, stop_at, lacks_word}
use Rattle.ios_lex.proofs.OneCut.{single_word_prefix_free}
use Rattle.ios_lex.proofs.Stopping.{IsFirstPart, stop_behind, stop_within}
use Rattle.ios_lex.proofs.WordForms.{words_differ, other_no_address, other_no_number}
use Rattle.ios_route.specs.RouteLines.{AreOptions, greatest_tag, unmodelled}
use Rattle.ios_route.specs.RouteParts.{is_option, SomeOptions}

-- what a call hands on
pub ok_then : {A E : Type 0} (found : Result A E) (Of To : A → Type 0) → ((value : A) → Of value → To value) → IfOk found Of → IfOk found To
ok_then (Ok value) Of To more is = more value is
ok_then (Err error) Of To more is = tt

pub err_then : {A E : Type 0} (found : Result A E) (Of To : E → Type 0) → ((error : E) → Of error → To error) → IfErr found Of → IfErr found To
err_then (Ok value) Of To more is = tt
err_then (Err error) Of To more is = more error is

-- a test with a condition
pub may_test : (words rest : Words) (word text : List ℕ) (may : Bool) → words ≡ word ∷ rest → (may && bytes_eq word text) ≡ true → (may ≡ true) × (words ≡ text ∷ rest)
may_test words rest word text may whole test =
    let parts = and_parts may (bytes_eq word text) test in
    (parts.0, begins_with_text words rest word text whole parts.1)

pub may_not : (word text : List ℕ) (may : Bool) → (may && bytes_eq word text) ≡ false → may ≡ true → word ≡ text → ⊥
may_not word text may test is same =
    let eq = (bytes_eq-Decides word text).1 same in
    let both : (may && bytes_eq word text) ≡ true = rw (is, eq) refl in
    cc

-- what stands first, and behind it
pub data OptionFirst (lax permanent name tag : Bool) (word : List ℕ) (rest : Words) : Type 0 where
  fixed : permanent ≡ true → word ≡ codes "permanent" → AreOptions lax false name tag rest → OptionFirst lax permanent name tag word rest
  named : (other : List ℕ) (more : Words) → name ≡ true → word ≡ codes "name" → rest ≡ other ∷ more → (lax ≡ false → IsNameBeside unmodelled other)
      → AreOptions lax permanent false tag more → OptionFirst lax permanent name tag word rest
  tagged : (other : List ℕ) (n : ℕ) (more : Words) → tag ≡ true → word ≡ codes "tag" → rest ≡ other ∷ more → IsNumber greatest_tag other n
      → AreOptions lax permanent name false more → OptionFirst lax permanent name tag word rest

pub first_option : (lax permanent name tag : Bool) (words : Words) → AreOptions lax permanent name tag words → (word : List ℕ) (rest : Words) → words ≡ word ∷ rest
    → OptionFirst lax permanent name tag word rest
first_option lax permanent name tag words (AreOptions.none p n t) word rest whole = absurd (cc whole)
first_option lax permanent name tag words (AreOptions.permanent n t more are) word rest whole =
    let first : word ≡ codes "permanent" = cc in
    let same : more ≡ rest = cc in
    OptionFirst.fixed refl first (rw same at are)
first_option lax permanent name tag words (AreOptions.name p t other more is are) word rest whole =
    let first : word ≡ codes "name" = cc in
    let same : rest ≡ other ∷ more = cc in
    OptionFirst.named other more refl first same is are
first_option lax permanent name tag words (AreOptions.tag p n other k more is are) word rest whole =
    let first : word ≡ codes "tag" = cc in
    let same : rest ≡ other ∷ more = cc in
    OptionFirst.tagged other k more refl first same is are

pub option_word : (lax permanent name tag : Bool) (word : List ℕ) (rest : Words) → AreOptions lax permanent name tag (word ∷ rest) → is_option word ≡ true
option_word lax permanent name tag word rest are = by (first_option lax permanent name tag (word ∷ rest) are word rest refl)
  where
    by : OptionFirst lax permanent name tag word rest → is_option word ≡ true
    by (OptionFirst.fixed may is more) = rw is refl
    by (OptionFirst.named other more may is same beside behind) = rw is refl
    by (OptionFirst.tagged other n more may is same number behind) = rw is refl

-- no such word begins with a digit
pub option_no_digit : (word : List ℕ) → is_option word ≡ true → begins_with_digit word ≡ false
option_no_digit word is = by (bytes_eq word (codes "permanent")) (bytes_eq word (codes "name")) (bytes_eq word (codes "tag")) refl refl refl is
  where
    by : (p n t : Bool) → bytes_eq word (codes "permanent") ≡ p → bytes_eq word (codes "name") ≡ n → bytes_eq word (codes "tag") ≡ t → (p || (n || t)) ≡ true → begins_with_digit word ≡ false
    by true n t is_p is_n is_t some = rw ((bytes_eq-Decides word (codes "permanent")).0 is_p) refl
    by false true t is_p is_n is_t some = rw ((bytes_eq-Decides word (codes "name")).0 is_n) refl
    by false false true is_p is_n is_t some = rw ((bytes_eq-Decides word (codes "tag")).0 is_t) refl
    by false false false is_p is_n is_t some = absurd (cc some)

-- what is behind each of them
permanent_same : (name tag b : Bool) (x : Words) → AreOptions b true name tag (codes "permanent" ∷ x) ↔ AreOptions b false name tag x
permanent_same name tag b x = (λ are. by (first_option b true name tag (codes "permanent" ∷ x) are (codes "permanent") x refl), λ are. AreOptions.permanent name tag x are)
  where
    by : OptionFirst b true name tag (codes "permanent") x → AreOptions b false name tag x
    by (OptionFirst.fixed may is more) = more
    by (OptionFirst.named other more may is same beside behind) = absurd (words_differ (codes "permanent") (codes "name") refl is)
    by (OptionFirst.tagged other n more may is same number behind) = absurd (words_differ (codes "permanent") (codes "tag") refl is)

name_behind : (permanent tag b : Bool) (x : Words) → AreOptions b permanent true tag (codes "name" ∷ x)
    → (other : List ℕ) × (more : Words) × (x ≡ other ∷ more) × (b ≡ false → IsNameBeside unmodelled other) × AreOptions b permanent false tag more
name_behind permanent tag b x are = by (first_option b permanent true tag (codes "name" ∷ x) are (codes "name") x refl)
  where
    by : OptionFirst b permanent true tag (codes "name") x
        → (other : List ℕ) × (more : Words) × (x ≡ other ∷ more) × (b ≡ false → IsNameBeside unmodelled other) × AreOptions b permanent false tag more
    by (OptionFirst.fixed may is more) = absurd (words_differ (codes "name") (codes "permanent") refl is)
    by (OptionFirst.named other more may is same beside behind) = (other, more, same, beside, behind)
    by (OptionFirst.tagged other n more may is same number behind) = absurd (words_differ (codes "name") (codes "tag") refl is)

tag_behind : (permanent name b : Bool) (x : Words) → AreOptions b permanent name true (codes "tag" ∷ x)
    → (other : List ℕ) × (more : Words) × (x ≡ other ∷ more) × ((n : ℕ) × IsNumber greatest_tag other n) × AreOptions b permanent name false more
tag_behind permanent name b x are = by (first_option b permanent name true (codes "tag" ∷ x) are (codes "tag") x refl)
  where
    by : OptionFirst b permanent name true (codes "tag") x
        → (other : List ℕ) × (more : Words) × (x ≡ other ∷ more) × ((n : ℕ) × IsNumber greatest_tag other n) × AreOptions b permanent name false more
    by (OptionFirst.fixed may is more) = absurd (words_differ (codes "tag") (codes "permanent") refl is)
    by (OptionFirst.named other more may is same beside behind) = absurd (words_differ (codes "tag") (codes "name") refl is)
    by (OptionFirst.tagged other n more may is same number behind) = (other, more, same, (n, number), behind)

behind_same : (other word : List ℕ) (more x : Words) → word ∷ x ≡ other ∷ more → more ≡ x
behind_same other word more x same = cc

name_same : (permanent tag : Bool) (name : List ℕ) → IsNameBeside unmodelled name → (b : Bool) (x : Words)
    → AreOptions b permanent true tag (codes "name" ∷ name ∷ x) ↔ AreOptions b permanent false tag x
name_same permanent tag name is b x = (to, λ are. AreOptions.name permanent tag name x (λ strict. is) are)
  where
    to : AreOptions b permanent true tag (codes "name" ∷ name ∷ x) → AreOptions b permanent false tag x
    to are = let behind = name_behind permanent tag b (name ∷ x) are in rw (behind_same behind.0 name behind.1 x behind.2) at behind.4

tag_same : (permanent name : Bool) (word : List ℕ) (n : ℕ) → IsNumber greatest_tag word n → (b : Bool) (x : Words)
    → AreOptions b permanent name true (codes "tag" ∷ word ∷ x) ↔ AreOptions b permanent name false x
tag_same permanent name word n is b x = (to, λ are. AreOptions.tag permanent name word n x is are)
  where
    to : AreOptions b permanent name true (codes "tag" ∷ word ∷ x) → AreOptions b permanent name false x
    to are = let behind = tag_behind permanent name b (word ∷ x) are in rw (behind_same behind.0 word behind.1 x behind.2) at behind.4

-- `permanent`
pub permanent_read : (permanent name tag : Bool) (words rest : Words) → permanent ≡ true → words ≡ codes "permanent" ∷ rest → AreOptions false false name tag rest
    → AreOptions false permanent name tag words
permanent_read permanent name tag words rest may whole are = rw (may, whole) (AreOptions.permanent name tag rest are)

pub permanent_stop : (permanent name tag : Bool) (words rest : Words) (stop : Stop) → permanent ≡ true → words ≡ codes "permanent" ∷ rest → IsStop NoName (SomeOptions false name tag) rest stop
    → IsStop NoName (SomeOptions permanent name tag) words stop
permanent_stop permanent name tag words rest stop may whole stops =
    rw may (stop_behind (SomeOptions true name tag) (SomeOptions false name tag) words (codes "permanent" ∷ []) rest stop whole (permanent_same name tag) stops)

-- `name` and a name
abbrev BehindName : Bool → Bool → Bool → Words → Type 0
BehindName permanent tag b x = AreOptions b permanent true tag (codes "name" ∷ x)

name_first : (permanent tag b : Bool) → IsFirstPart (SomeName unmodelled b) (BehindName permanent tag b)
name_first permanent tag b = record {
  goes_on = λ words is. ([], rw append-nil (rw is.1.0 (AreOptions.name permanent tag is.0 [] is.1.1 (AreOptions.none permanent false tag))));
  splits = λ words are. let behind = name_behind permanent tag b words are in (behind.0 ∷ [], behind.1, behind.2, (behind.0, (refl, behind.3)));
}

pub name_within_stop : (permanent name tag : Bool) (words rest : Words) (stop : Stop) → name ≡ true → words ≡ codes "name" ∷ rest → (expected_of stop.due).whole ≡ false
    → IsStop NoName (SomeName unmodelled) rest stop → IsStop NoName (SomeOptions permanent name tag) words stop
name_within_stop permanent name tag words rest stop may whole part stops =
    rw may (stop_behind (SomeOptions permanent true tag) (BehindName permanent tag) words (codes "name" ∷ []) rest stop whole (λ b x. (λ h. h, λ h. h))
    (stop_within (SomeName unmodelled) (BehindName permanent tag) rest stop (name_first permanent tag)
    (λ b. single_word_prefix_free (SomeName unmodelled b) (λ front is. (is.0, is.1.0)))
    (λ front is. (is.0, (is.1.0, λ strict. absurd (cc strict)))) part stops))

name_front : (words rest behind : Words) (name : List ℕ) → words ≡ codes "name" ∷ rest → BeginsWith (IsNameOf unmodelled false name) rest behind
    → words ≡ codes "name" ∷ name ∷ behind
name_front words rest behind name whole begins = let same : rest ≡ name ∷ behind = rw begins.2.0 at begins.1 in rw (whole, same) refl

pub name_read : (permanent name tag : Bool) (words rest behind : Words) (other : List ℕ) → name ≡ true → words ≡ codes "name" ∷ rest
    → BeginsWith (IsNameOf unmodelled false other) rest behind → AreOptions false permanent false tag behind → AreOptions false permanent name tag words
name_read permanent name tag words rest behind other may whole begins are =
    rw (may, name_front words rest behind other whole begins) (AreOptions.name permanent tag other behind begins.2.1 are)

pub name_stop : (permanent name tag : Bool) (words rest behind : Words) (other : List ℕ) (stop : Stop) → name ≡ true → words ≡ codes "name" ∷ rest
    → BeginsWith (IsNameOf unmodelled false other) rest behind → IsStop NoName (SomeOptions permanent false tag) behind stop → IsStop NoName (SomeOptions permanent name tag) words stop
name_stop permanent name tag words rest behind other stop may whole begins stops =
    rw may (stop_behind (SomeOptions permanent true tag) (SomeOptions permanent false tag) words (codes "name" ∷ other ∷ []) behind stop (name_front words rest behind other whole begins)
    (name_same permanent tag other (begins.2.1 refl)) stops)

-- `tag` and a number
abbrev BehindTag : Bool → Bool → Bool → Words → Type 0
BehindTag permanent name b x = AreOptions b permanent name true (codes "tag" ∷ x)

tag_first : (permanent name b : Bool) → IsFirstPart (SomeNumber 0 greatest_tag b) (BehindTag permanent name b)
tag_first permanent name b = record {
  goes_on = λ words is. ([], rw append-nil (rw is.1.1 (AreOptions.tag permanent name is.1.0 is.0 [] is.1.2 (AreOptions.none permanent name false))));
  splits = λ words are. let behind = tag_behind permanent name b words are in (behind.0 ∷ [], behind.1, behind.2, (behind.3.0, (behind.0, refl, behind.3.1, omega arith)));
}

pub tag_within_stop : (permanent name tag : Bool) (words rest : Words) (stop : Stop) → tag ≡ true → words ≡ codes "tag" ∷ rest → (expected_of stop.due).whole ≡ false
    → IsStop NoName (SomeNumber 0 greatest_tag) rest stop → IsStop NoName (SomeOptions permanent name tag) words stop
tag_within_stop permanent name tag words rest stop may whole part stops =
    rw may (stop_behind (SomeOptions permanent name true) (BehindTag permanent name) words (codes "tag" ∷ []) rest stop whole (λ b x. (λ h. h, λ h. h))
    (stop_within (SomeNumber 0 greatest_tag) (BehindTag permanent name) rest stop (tag_first permanent name)
    (λ b. single_word_prefix_free (SomeNumber 0 greatest_tag b) (λ front is. (is.1.0, is.1.1)))
    (λ front is. is) part stops))

tag_front : (n : ℕ) (words rest behind : Words) → words ≡ codes "tag" ∷ rest → (begins : BeginsWith (IsNumberOf 0 greatest_tag n) rest behind)
    → words ≡ codes "tag" ∷ begins.2.0 ∷ behind
tag_front n words rest behind whole begins = let same : rest ≡ begins.2.0 ∷ behind = rw begins.2.1 at begins.1 in rw (whole, same) refl

pub tag_read : (permanent name tag : Bool) (words rest behind : Words) (n : ℕ) → tag ≡ true → words ≡ codes "tag" ∷ rest
    → BeginsWith (IsNumberOf 0 greatest_tag n) rest behind → AreOptions false permanent name false behind → AreOptions false permanent name tag words
tag_read permanent name tag words rest behind n may whole begins are =
    rw (may, tag_front n words rest behind whole begins) (AreOptions.tag permanent name begins.2.0 n behind begins.2.2 are)

pub tag_stop : (permanent name tag : Bool) (words rest behind : Words) (n : ℕ) (stop : Stop) → tag ≡ true → words ≡ codes "tag" ∷ rest
    → BeginsWith (IsNumberOf 0 greatest_tag n) rest behind → IsStop NoName (SomeOptions permanent name false) behind stop → IsStop NoName (SomeOptions permanent name tag) words stop
tag_stop permanent name tag words rest behind n stop may whole begins stops =
    rw may (stop_behind (SomeOptions permanent name true) (SomeOptions permanent name false) words (codes "tag" ∷ begins.2.0 ∷ []) behind stop (tag_front n words rest behind whole begins)
    (tag_same permanent name begins.2.0 n begins.2.2) stops)

-- another word, or none
pub options_none : (permanent name tag : Bool) (words : Words) → words ≡ [] → AreOptions false permanent name tag words
options_none permanent name tag words none = rw none (AreOptions.none permanent name tag)

pub option_stop : (permanent name tag : Bool) (words rest : Words) (word : List ℕ) (stop : Stop) → stop.left ≡ length words → stop.due ≡ due.Nothing → words ≡ word ∷ rest
    → (permanent ≡ true → word ≡ codes "permanent" → ⊥) → (name ≡ true → word ≡ codes "name" → ⊥) → (tag ≡ true → word ≡ codes "tag" → ⊥)
    → IsStop NoName (SomeOptions permanent name tag) words stop
option_stop permanent name tag words rest word stop left is whole no_permanent no_name no_tag =
    stop_at (SomeOptions permanent name tag) words stop due.Nothing left is refl ([], AreOptions.none permanent name tag)
    (record {
      address = unexpected (λ h. other_no_address h.0 h.1.0 (option_no_digit h.0 (option_word false permanent name tag h.0 h.2.0 h.2.1)) h.1.1);
      number = unexpected (λ h. other_no_number h.0 (option_no_digit h.0 (option_word false permanent name tag h.0 h.2.0 h.2.1)) h.1);
      name = unexpected (λ h. h.1.1);
      whole = expected (AreOptions.none permanent name tag);
    })
    (λ empty. absurd (cc))
    (λ b. lacks_word (SomeOptions permanent name tag b) words rest word whole (λ begins. by b begins.0 (first_option b permanent name tag (word ∷ begins.0) begins.1 word begins.0 refl)))
  where
    by : (b : Bool) (more : Words) → OptionFirst b permanent name tag word more → ⊥
    by b more (OptionFirst.fixed may same behind) = no_permanent may same
    by b more (OptionFirst.named other others may same first beside behind) = no_name may same
    by b more (OptionFirst.tagged other n others may same first number behind) = no_tag may same
