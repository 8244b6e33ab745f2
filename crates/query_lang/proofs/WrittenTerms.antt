-- The tokens of each kind of term and argument.
use Rattle.std.proofs.Common.{◌≡◌, ℕ, List, [], ◌∷◌, ◌++◌, map, refl, sym, ap, ◌∙◌}
use Rattle.std.specs.List.{flat_map, join_by}
use Rattle.query_tokens.specs.declared.token.Sign.TheVariants as sign_of
use Rattle.query_tokens.specs.declared.token.Token.{Token}
use Rattle.query_tokens.specs.declared.token.Token.TheVariants as token
use Rattle.query_lang.specs.declared.term.Arg.{Arg}
use Rattle.query_lang.specs.declared.term.Arg.TheFolds.{fold-roll-Arg, fold-roll-NamedTerm}
use Rattle.query_lang.specs.declared.term.Arg.TheOpen.{Arg-F, NamedTerm-F}
use Rattle.query_lang.specs.declared.term.Arg.TheVariants as arg
use Rattle.query_lang.specs.declared.term.NamedTerm.{NamedTerm}
use Rattle.query_lang.specs.declared.term.NamedTerm.TheVariants as term_of
use Rattle.query_lang.specs.Writing.{term, argument, arg_step, term_step, call}

behind_map : {A B : Type 0} (f : A → B) (g : B → List Token) (between : List Token) (parts : List A)
    → flat_map (λ y. between ++ g y) (map f parts) ≡ flat_map (λ x. between ++ g (f x)) parts
behind_map f g between [] = refl
behind_map f g between (part ∷ parts) = ap (λ tokens. (between ++ g (f part)) ++ tokens) (behind_map f g between parts)

pub joined_map : {A B : Type 0} (f : A → B) (g : B → List Token) (between : List Token) (parts : List A)
    → join_by g between (map f parts) ≡ join_by (λ x. g (f x)) between parts
joined_map f g between [] = refl
joined_map f g between (part ∷ parts) = ap (λ tokens. g (f part) ++ tokens) (behind_map f g between parts)

pub term_name : (text : List ℕ) → term (term_of.Name text) ≡ token.Name text ∷ []
term_name text = ap term (sym (term_of.rolls-Name text)) ∙ fold-roll-NamedTerm (List Token) (List Token) arg_step term_step (NamedTerm-F.Name text)

pub term_call : (text : List ℕ) (args : List Arg) → term (term_of.Call text args) ≡ call text args
term_call text args =
    ap term (sym (term_of.rolls-Call text args)) ∙ fold-roll-NamedTerm (List Token) (List Token) arg_step term_step (NamedTerm-F.Call text args)
    ∙ ap (λ tokens. token.Name text ∷ token.Sign sign_of.Open ∷ (tokens ++ token.Sign sign_of.Close ∷ [])) (joined_map argument (λ tokens. tokens) (token.Sign sign_of.Comma ∷ []) args)

pub argument_request : argument arg.Req ≡ token.Sign sign_of.Request ∷ []
argument_request = ap argument (sym arg.rolls-Req) ∙ fold-roll-Arg (List Token) (List Token) arg_step term_step Arg-F.Req

pub argument_term : (value : NamedTerm) → argument (arg.Term value) ≡ term value
argument_term value = ap argument (sym (arg.rolls-Term value)) ∙ fold-roll-Arg (List Token) (List Token) arg_step term_step (Arg-F.Term value)

pub ruleset term_equations = (term_name, term_call, argument_request, argument_term)
