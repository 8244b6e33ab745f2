-- Lines of tokens, as they are written.
use Rattle.std.proofs.Common.{◌≡◌, ◌≢◌, ℕ, ◌+◌, Bool, true, false, if◌then◌else◌, List, [], ◌∷◌, ◌++◌, map, All, append_assoc, add-zero, refl, subst}
use Rattle.std.proofs.lemmas.List.Elements.{All-nil, All-cons, All-head, All-tail}
use Rattle.query_tokens.specs.declared.token.Placed.{Placed}
use Rattle.query_tokens.specs.declared.token.Sign.{Sign}
use Rattle.query_tokens.specs.declared.token.Sign.TheVariants as sign_variant
use Rattle.query_tokens.specs.declared.token.Token.{Token}
use Rattle.query_tokens.specs.declared.token.Token.TheVariants as variant
use Rattle.query_tokens.specs.Fronts.{Stops}
use Rattle.query_tokens.specs.Lines.{line_feeds}
use Rattle.query_tokens.specs.Signs.{sign_text}
use Rattle.query_tokens.specs.Tokens.{AreTokensFrom, IsToken}
use Rattle.query_tokens.specs.Tokens.AreTokensFrom.{end as end_of, gap as gap_of, token as token_of, bad as bad_of}
use Rattle.query_tokens.specs.Tokens.IsGap.{blank}
use Rattle.query_tokens.specs.Tokens.IsToken.{word, quoted, sign}
use Rattle.query_tokens.specs.Words.{IsWordToken, continues_word}
use Rattle.query_tokens.specs.Words.IsWordToken.{keyword, name, digits, other}
use Rattle.query_tokens.specs.Writing.{spelling, is_text, has_blank, next_text, text_behind, line_text, lines_text, tokens_of_lines, IsWritable}
use Rattle.query_tokens.proofs.OneList.{no_bad}

text_of_word : (text : List ℕ) (token : Token) → IsWordToken text token → is_text token ≡ true
text_of_word text token (keyword k is) = refl
text_of_word text token (name none letter) = refl
text_of_word text token (digits numeral) = refl
text_of_word text token (other no_letter no_numeral) = refl

moved : (text : List ℕ) (token : Token) (end rest : List ℕ) → IsToken text token end → (is_text token ≡ true → Stops continues_word rest) → IsToken text token rest
moved text token end rest (word one xs its is stops kind) apart = word text rest token is (apart (text_of_word text token kind)) kind
moved text token end rest (quoted inner xs passes) apart = quoted inner rest passes
moved text token end rest (sign its xs) apart = sign its rest

stops_at_sign : (its : Sign) (rest : List ℕ) → Stops continues_word (sign_text its ++ rest)
stops_at_sign sign_variant.Semicolon rest = refl
stops_at_sign sign_variant.Colon rest = refl
stops_at_sign sign_variant.Comma rest = refl
stops_at_sign sign_variant.Dot rest = refl
stops_at_sign sign_variant.Equals rest = refl
stops_at_sign sign_variant.Question rest = refl
stops_at_sign sign_variant.Open rest = refl
stops_at_sign sign_variant.Close rest = refl
stops_at_sign sign_variant.OpenBracket rest = refl
stops_at_sign sign_variant.CloseBracket rest = refl
stops_at_sign sign_variant.Request rest = refl

stops_at_next : (blank : Bool) (its : Sign) (rest : List ℕ) → Stops continues_word ((if blank then 32 ∷ sign_text its else sign_text its) ++ rest)
stops_at_next true its rest = refl
stops_at_next false its rest = stops_at_sign its rest

stops_behind_text : (token next : Token) (rest : List ℕ) → is_text token ≡ true → IsWritable next → Stops continues_word (next_text token next ++ rest)
unfolding has_blank
stops_behind_text token (variant.Keyword its) rest text next = rw text refl
stops_behind_text token (variant.Name its) rest text next = rw text refl
stops_behind_text token (variant.Digits its) rest text next = rw text refl
stops_behind_text token (variant.Word its) rest text next = rw text refl
stops_behind_text token (variant.Quoted its) rest text next = rw text refl
stops_behind_text token (variant.Sign its) rest text next = stops_at_next (has_blank token (variant.Sign its)) its rest
stops_behind_text token variant.Bad rest text next = absurd (no_bad [] variant.Bad [] next refl)

stops_behind : (token : Token) (more : List Token) (rest : List ℕ) → All IsWritable more → is_text token ≡ true → Stops continues_word (text_behind token more ++ rest)
stops_behind token [] rest all text = refl
stops_behind token (next ∷ more) rest all text =
    rw (append_assoc (next_text token next) (text_behind next more) rest) (stops_behind_text token next (text_behind next more ++ rest) text (All-head IsWritable next more all))

token_are : (line : ℕ) (token : Token) (more : List Token) (rest : List ℕ) (after : List Placed) → IsWritable token → All IsWritable more → AreTokensFrom line (text_behind token more ++ rest) after
    → AreTokensFrom line ((spelling token ++ text_behind token more) ++ rest) (record { line = line; token = token } ∷ after)
token_are line token more rest after is all behind =
    token_of line ((spelling token ++ text_behind token more) ++ rest) (spelling token) token (text_behind token more ++ rest) after
    (record { whole = append_assoc (spelling token) (text_behind token more) rest; is = moved (spelling token) token [] (text_behind token more ++ rest) is (stops_behind token more rest all) }) behind

blank_are : (blank : Bool) (line : ℕ) (text behind rest : List ℕ) (after : List Placed) → AreTokensFrom line ((text ++ behind) ++ rest) after
    → AreTokensFrom line (((if blank then 32 ∷ text else text) ++ behind) ++ rest) after
blank_are true line text behind rest after are =
    let same : AreTokensFrom (line + 0) ((text ++ behind) ++ rest) after = rw (add-zero line) are in
    gap_of line (((32 ∷ text) ++ behind) ++ rest) (32 ∷ []) ((text ++ behind) ++ rest) after (record { whole = refl; is = blank 32 ((text ++ behind) ++ rest) refl }) same
blank_are false line text behind rest after are = are

line_feed_are : (line : ℕ) (rest : List ℕ) (after : List Placed) → AreTokensFrom (line + 1) rest after → AreTokensFrom line ((10 ∷ []) ++ rest) after
line_feed_are line rest after are = gap_of line (10 ∷ rest) (10 ∷ []) rest after (record { whole = refl; is = blank 10 rest refl }) are

behind_are : (line : ℕ) (token : Token) (more : List Token) (rest : List ℕ) (after : List Placed) → All IsWritable more → AreTokensFrom (line + 1) rest after
    → AreTokensFrom line (text_behind token more ++ rest) (map (λ next. record { line = line; token = next }) more ++ after)
behind_are line token [] rest after all are = line_feed_are line rest after are
behind_are line token (next ∷ more) rest after all are =
    blank_are (has_blank token next) line (spelling next) (text_behind next more) rest (map (λ one. record { line = line; token = one }) (next ∷ more) ++ after)
    (token_are line next more rest (map (λ one. record { line = line; token = one }) more ++ after) (All-head IsWritable next more all) (All-tail IsWritable next more all)
    (behind_are line next more rest after (All-tail IsWritable next more all) are))

-- lines of tokens that are what their spellings are have these tokens
pub lines_are : (line : ℕ) (lines : List (List Token)) → All (All IsWritable) lines → AreTokensFrom line (lines_text lines) (tokens_of_lines line lines)
unfolding line_text
lines_are line [] all = end_of line
lines_are line ([] ∷ more) all = line_feed_are line (lines_text more) (tokens_of_lines (line + 1) more) (lines_are (line + 1) more (All-tail (All IsWritable) [] more all))
lines_are line ((token ∷ others) ∷ more) all =
    let writable : All IsWritable (token ∷ others) = All-head (All IsWritable) (token ∷ others) more all in
    token_are line token others (lines_text more) (map (λ one. record { line = line; token = one }) others ++ tokens_of_lines (line + 1) more) (All-head IsWritable token others writable) (All-tail IsWritable token others writable)
    (behind_are line token others (lines_text more) (tokens_of_lines (line + 1) more) (All-tail IsWritable token others writable) (lines_are (line + 1) more (All-tail (All IsWritable) (token ∷ others) more all)))

spelling_of_word : (text : List ℕ) (token : Token) → IsWordToken text token → text ≡ spelling token
spelling_of_word text token (keyword k is) = is
spelling_of_word text token (name none letter) = refl
spelling_of_word text token (digits numeral) = refl
spelling_of_word text token (other no_letter no_numeral) = refl

spelling_of : (text : List ℕ) (token : Token) (rest : List ℕ) → IsToken text token rest → text ≡ spelling token
spelling_of text token rest (word one xs its is stops kind) = spelling_of_word text token kind
spelling_of text token rest (quoted inner xs passes) = refl
spelling_of text token rest (sign its xs) = refl

read_is_writable : (text : List ℕ) (token : Token) (rest : List ℕ) → IsToken text token rest → IsWritable token
read_is_writable text token rest is =
    let P : List ℕ → Type 0 = λ xs. IsToken xs token [] in
    subst P (spelling_of text token rest is) (moved text token rest [] is (λ _. tt))

-- a placed token that is not `Bad` is what its spelling is
abbrev pub WritableUnlessBad : Placed → Type 0
WritableUnlessBad placed = placed.token ≢ variant.Bad → IsWritable placed.token

-- what is read can be written
pub read_are_writable : (line : ℕ) (bytes : List ℕ) (tokens : List Placed) → AreTokensFrom line bytes tokens → All WritableUnlessBad tokens
read_are_writable line bytes tokens (end_of l) = All-nil WritableUnlessBad
read_are_writable line bytes tokens (gap_of l b gap rest ts begins more) = read_are_writable (line + line_feeds gap) rest tokens more
read_are_writable line bytes tokens (token_of l b text token rest ts begins more) =
    All-cons WritableUnlessBad (record { line = line; token = token }) ts (λ _. read_is_writable text token rest begins.is) (read_are_writable line rest ts more)
read_are_writable line bytes tokens (bad_of l b bad) = All-cons WritableUnlessBad (record { line = line; token = variant.Bad }) [] (λ differs. absurd (differs refl)) (All-nil WritableUnlessBad)
