-- Paths are read again as they are written.
use Rattle.std.proofs.Common.{◌≡◌, ℕ, Bool, true, false, if◌then◌else◌, List, [], ◌∷◌, refl, subst}
use Rattle.std.specs.List.{AllPass, flat_map}
use Rattle.query_tokens.specs.declared.token.Sign.TheVariants as sign_of
use Rattle.query_tokens.specs.declared.token.Token.{Token}
use Rattle.query_tokens.specs.declared.token.Token.TheVariants as token
use Rattle.query_tokens.specs.Tokens.{is_quotable}
use Rattle.query_tokens.specs.Words.{is_name}
use Rattle.query_tokens.specs.Writing.{IsWritable}
use Rattle.query_tokens.proofs.Writable.{sign_writable, name_writable, numeral_writable, quoted_writable, writable_quotable}
use Rattle.query_lang.specs.declared.literal.Path.{Path}
use Rattle.query_lang.specs.Paths.{IsComponent, IsPath}
use Rattle.query_lang.specs.Words.{Tokens, is_numeral}
use Rattle.query_lang.specs.Writing.{component, components, parted, path}
use Rattle.query_lang.proofs.Numerals.{numeral_is}
use Rattle.query_lang.proofs.ReadAgain.{laid, Spelt, Known, Then, behind, known_word, known_name, known_digits, known_other, known_quoted, none_written, one_written, sign_written, Each, chain_again, chains_spelt}

abbrev dot : Token
dot = token.Sign sign_of.Dot

spelled_alone : (text : List ℕ) (t : Token) → ((line : ℕ) (rest : Tokens) → IsComponent text (laid line (t ∷ []) rest) rest) → IsWritable t → Spelt (IsComponent text) (t ∷ [])
spelled_alone text t reads is = record { reads = reads; writable = one_written t [] is none_written }

by_numeral : (text : List ℕ) (b : Bool) → is_numeral text ≡ b → AllPass is_quotable text → Spelt (IsComponent text) ((if b then token.Digits text else token.Quoted text) ∷ [])
by_numeral text true e passes = spelled_alone text (token.Digits text) (λ line rest. IsComponent.numeral line text rest) (numeral_writable text (numeral_is text e))
by_numeral text false e passes = spelled_alone text (token.Quoted text) (λ line rest. IsComponent.text line text rest) (quoted_writable text passes)

by_name : (text : List ℕ) (b : Bool) → is_name text ≡ b → AllPass is_quotable text
    → Spelt (IsComponent text) ((if b then token.Name text else if is_numeral text then token.Digits text else token.Quoted text) ∷ [])
by_name text true e passes = spelled_alone text (token.Name text) (λ line rest. IsComponent.plain line text rest) (name_writable text e)
by_name text false e passes = by_numeral text (is_numeral text) refl passes

component_spelt : (text : List ℕ) → AllPass is_quotable text → Spelt (IsComponent text) (component text ∷ [])
component_spelt text passes = by_name text (is_name text) refl passes

component_again : (text : List ℕ) (ts rest : Tokens) → IsComponent text ts rest → Known ts → Then (Spelt (IsComponent text) (component text ∷ [])) rest
component_again text ts rest (IsComponent.keyword line w _) known = record { is = component_spelt text (writable_quotable (token.Keyword w) (known_word known)); behind = behind known }
component_again text ts rest (IsComponent.plain line _ _) known = record { is = component_spelt text (writable_quotable (token.Name text) (known_name known)); behind = behind known }
component_again text ts rest (IsComponent.numeral line _ _) known = record { is = component_spelt text (writable_quotable (token.Digits text) (known_digits known)); behind = behind known }
component_again text ts rest (IsComponent.other line _ _) known = record { is = component_spelt text (writable_quotable (token.Word text) (known_other known)); behind = behind known }
component_again text ts rest (IsComponent.text line _ _) known = record { is = component_spelt text (writable_quotable (token.Quoted text) (known_quoted known)); behind = behind known }

abbrev one_component : List ℕ → List Token
one_component part = component part ∷ []

abbrev PathSpelt : Path → List Token → Type 0
PathSpelt list ts = Spelt (IsPath list) ts

-- the components behind the first
behind_dots : (parts : List (List ℕ)) → Each (List ℕ) (λ part. Spelt (IsComponent part) (one_component part)) parts
    → dot ∷ parted dot one_component parts ≡ flat_map (λ part. token.Sign sign_of.Dot ∷ component part ∷ []) parts
behind_dots _ (Each.one part s) = refl
behind_dots _ (Each.more part second parts s each) = refl

longer_spelt : (text : List ℕ) (parts : List (List ℕ)) → IsWritable (token.Name text) → Each (List ℕ) (λ part. Spelt (IsComponent part) (one_component part)) parts
    → PathSpelt (record { parts = text ∷ parts }) (components (text ∷ parts))
longer_spelt text parts is each =
    let chain = chains_spelt (List ℕ) dot one_component IsComponent (sign_writable sign_of.Dot) parts each in
    subst (λ (ts : List Token). PathSpelt (record { parts = text ∷ parts }) (token.Name text ∷ ts)) (behind_dots parts each) (record {
      reads = λ line rest. IsPath.longer line line text parts (laid line (parted dot one_component parts) rest) rest (chain.reads line rest);
      writable = one_written (token.Name text) (dot ∷ parted dot one_component parts) is (sign_written sign_of.Dot (parted dot one_component parts) chain.writable);
    })

pub path_again : (list : Path) (ts rest : Tokens) → IsPath list ts rest → Known ts → Then (Spelt (IsPath list) (path list)) rest
path_again list ts rest (IsPath.alone line text _) known = record {
  is = record { reads = λ i r. IsPath.alone i text r; writable = one_written (token.Name text) [] (known_name known) none_written };
  behind = behind known;
}
path_again list ts rest (IsPath.longer i j text parts tokens _ chain) known =
    let a = chain_again (List ℕ) dot one_component IsComponent component_again parts tokens rest chain (behind (behind known)) in
    record { is = longer_spelt text parts (known_name known) a.is; behind = a.behind }
