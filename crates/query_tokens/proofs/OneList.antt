-- A text has one list of tokens.
use Rattle.std.proofs.Common.{◌≡◌, ℕ, ◌+◌, ◌<◌, ◌≤◌, zero, suc, List, [], ◌∷◌, ◌++◌, length, refl, ap, arith}
use Rattle.query_tokens.specs.declared.token.Placed.{Placed}
use Rattle.query_tokens.specs.declared.token.Token.{Token}
use Rattle.query_tokens.specs.declared.token.Token.TheVariants as variant
use Rattle.query_tokens.specs.Lines.{line_feeds, RiseFrom}
use Rattle.query_tokens.specs.Tokens.{AreTokensFrom, IsToken}
use Rattle.query_tokens.specs.Tokens.AreTokensFrom.{end as end_of, gap as gap_of, token as token_of, bad as bad_of}
use Rattle.query_tokens.specs.Tokens.IsToken.{word, quoted, sign}
use Rattle.query_tokens.specs.Words.{IsWordToken}
use Rattle.query_tokens.specs.Words.IsWordToken.{keyword, name, digits, other}
use Rattle.query_tokens.proofs.OneToken.{gap_is_one, token_is_one, gap_no_token}
use Rattle.query_tokens.proofs.Scanned.{gap_shortens, token_shortens}

nothing_begins : (rest : List ℕ) → length rest < length {A = ℕ} [] → ⊥
nothing_begins rest less = omega arith

-- two lists of tokens of one text are equal
pub list_is_one : (line : ℕ) (bytes : List ℕ) (first second : List Placed) → AreTokensFrom line bytes first → AreTokensFrom line bytes second → first ≡ second
list_is_one line bytes first second (end_of l) (end_of m) = refl
list_is_one line bytes first second (end_of l) (gap_of m b gap rest tokens begins more) = absurd (nothing_begins rest (gap_shortens _ gap rest begins).1)
list_is_one line bytes first second (end_of l) (token_of m b text token rest tokens begins more) = absurd (nothing_begins rest (token_shortens _ text token rest begins))
list_is_one line bytes first second (end_of l) (bad_of m b bad) = absurd (nothing_begins [] bad.some)
list_is_one line bytes first second (gap_of l b gap rest tokens begins more) (end_of m) = absurd (nothing_begins rest (gap_shortens _ gap rest begins).1)
list_is_one line bytes first second (gap_of l b gap rest tokens begins more) (gap_of m c gap' rest' tokens' begins' more') =
    let one = gap_is_one bytes gap gap' rest rest' begins begins' in
    list_is_one (line + line_feeds gap) rest first second more (rw (one.0, one.1) more')
list_is_one line bytes first second (gap_of l b gap rest tokens begins more) (token_of m c text token rest' tokens' begins' more') = absurd (gap_no_token bytes gap text token rest rest' begins begins')
list_is_one line bytes first second (gap_of l b gap rest tokens begins more) (bad_of m c bad) = absurd (bad.no_gap gap rest begins)
list_is_one line bytes first second (token_of l b text token rest tokens begins more) (end_of m) = absurd (nothing_begins rest (token_shortens _ text token rest begins))
list_is_one line bytes first second (token_of l b text token rest tokens begins more) (gap_of m c gap rest' tokens' begins' more') = absurd (gap_no_token bytes gap text token rest' rest begins' begins)
list_is_one line bytes first second (token_of l b text token rest tokens begins more) (token_of m c text' token' rest' tokens' begins' more') =
    let one = token_is_one bytes text text' token token' rest rest' begins begins' in
    let same : tokens ≡ tokens' = list_is_one line rest tokens tokens' more (rw one.1 more') in
    let token_same = one.0 in
    cc
list_is_one line bytes first second (token_of l b text token rest tokens begins more) (bad_of m c bad) = absurd (bad.no_token text token rest begins)
list_is_one line bytes first second (bad_of l b bad) (end_of m) = absurd (nothing_begins [] bad.some)
list_is_one line bytes first second (bad_of l b bad) (gap_of m c gap rest tokens begins more) = absurd (bad.no_gap gap rest begins)
list_is_one line bytes first second (bad_of l b bad) (token_of m c text token rest tokens begins more) = absurd (bad.no_token text token rest begins)
list_is_one line bytes first second (bad_of l b bad) (bad_of m c bad') = refl

-- that a text has none is absurd
pub list_is_some : (n line : ℕ) (bytes : List ℕ) → length bytes ≤ n → ((tokens : List Placed) → AreTokensFrom line bytes tokens → ⊥) → ⊥
list_is_some n line [] short none = none [] (end_of line)
list_is_some zero line (x ∷ xs) short none = absurd (omega arith)
list_is_some (suc n) line (x ∷ xs) short none =
    none (record { line = line; token = variant.Bad } ∷ []) (bad_of line (x ∷ xs) (record {
      some = omega arith;
      no_gap = λ gap rest begins. let less = gap_shortens (x ∷ xs) gap rest begins in
          list_is_some n (line + line_feeds gap) rest (omega arith) (λ tokens are. none tokens (gap_of line (x ∷ xs) gap rest tokens begins are));
      no_token = λ text token rest begins. let less = token_shortens (x ∷ xs) text token rest begins in
          list_is_some n line rest (omega arith) (λ tokens are. none (record { line = line; token = token } ∷ tokens) (token_of line (x ∷ xs) text token rest tokens begins are));
    }))

rise_from_below : (low high : ℕ) (tokens : List Placed) → low ≤ high → RiseFrom high tokens → RiseFrom low tokens
rise_from_below low high [] below rise = tt
rise_from_below low high (x ∷ xs) below rise = let more = rise.0 in (omega arith, rise.1)

-- the lines of tokens never fall
pub lines_rise : (line : ℕ) (bytes : List ℕ) (tokens : List Placed) → AreTokensFrom line bytes tokens → RiseFrom line tokens
lines_rise line bytes tokens (end_of l) = tt
lines_rise line bytes tokens (gap_of l b gap rest ts begins more) = rise_from_below line (line + line_feeds gap) tokens (omega arith) (lines_rise (line + line_feeds gap) rest tokens more)
lines_rise line bytes tokens (token_of l b text token rest ts begins more) = (omega arith, lines_rise line rest ts more)
lines_rise line bytes tokens (bad_of l b bad) = (omega arith, tt)

nothing_before : (front : List Placed) (placed : Placed) (behind : List Placed) → [] ≡ front ++ placed ∷ behind → ⊥
nothing_before [] placed behind same = cc
nothing_before (x ∷ xs) placed behind same = cc

abbrev token_at : List Placed → Token
token_at [] = variant.Bad
token_at (placed ∷ more) = placed.token

no_bad_word : (text : List ℕ) (token : Token) → IsWordToken text token → token ≡ variant.Bad → ⊥
no_bad_word text token (keyword k is) same = cc
no_bad_word text token (name none letter) same = cc
no_bad_word text token (digits numeral) same = cc
no_bad_word text token (other no_letter no_numeral) same = cc

pub no_bad : (text : List ℕ) (token : Token) (rest : List ℕ) → IsToken text token rest → token ≡ variant.Bad → ⊥
no_bad text token rest (word one behind its is stops kind) same = no_bad_word text token kind same
no_bad text token rest (quoted inner behind passes) same = cc
no_bad text token rest (sign its behind) same = cc

-- no token stands behind bytes that are none
pub bad_stands_last : (line : ℕ) (bytes : List ℕ) (front behind : List Placed) (at : ℕ) (tokens : List Placed) → tokens ≡ front ++ record { line = at; token = variant.Bad } ∷ behind → AreTokensFrom line bytes tokens → behind ≡ []
bad_stands_last line bytes front behind at tokens same (end_of l) = absurd (nothing_before front _ behind same)
bad_stands_last line bytes front behind at tokens same (gap_of l b gap rest ts begins more) = bad_stands_last (line + line_feeds gap) rest front behind at tokens same more
bad_stands_last line bytes [] behind at tokens same (token_of l b text token rest ts begins more) = let e : token ≡ variant.Bad = ap token_at same in absurd (no_bad text token rest begins.is e)
bad_stands_last line bytes (x ∷ xs) behind at tokens same (token_of l b text token rest ts begins more) = bad_stands_last line rest xs behind at ts (cc) more
bad_stands_last line bytes [] behind at tokens same (bad_of l b bad) = cc
bad_stands_last line bytes (x ∷ xs) behind at tokens same (bad_of l b bad) = absurd (nothing_before xs (record { line = at; token = variant.Bad }) behind (cc))
