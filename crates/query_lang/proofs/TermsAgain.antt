-- Terms and arguments are read again as they are written.
use Rattle.std.proofs.Common.{◌≡◌, ℕ, suc, true, List, [], ◌∷◌, ◌++◌, length, sym, subst, arith}
use Rattle.query_tokens.specs.declared.token.Sign.TheVariants as sign_of
use Rattle.query_tokens.specs.declared.token.Token.{Token}
use Rattle.query_tokens.specs.declared.token.Token.TheVariants as token
use Rattle.query_tokens.proofs.Writable.{sign_writable}
use Rattle.query_lang.specs.declared.term.Arg.{Arg}
use Rattle.query_lang.specs.declared.term.Arg.TheVariants as arg
use Rattle.query_lang.specs.declared.term.NamedTerm.{NamedTerm}
use Rattle.query_lang.specs.declared.term.NamedTerm.TheVariants as term_of
use Rattle.query_lang.specs.Words.{Tokens, sign, name}
use Rattle.query_lang.specs.Terms.{IsTerm, IsArgs, IsArgChain, IsArg}
use Rattle.query_lang.specs.Writing.{term, argument, by_commas, enclosed}
use Rattle.query_lang.proofs.ReadAgain.{laid, both_laid, Spelt, Known, Then, behind, known_name, none_written, one_written, sign_written, both_written, strict, opens_lower, Below, Each, longer, chain_spelt}
use Rattle.query_lang.proofs.WrittenTerms.{term_name, term_call, argument_request, argument_term}

abbrev pub TermSpelt : ℕ → NamedTerm → List Token → Type 0
TermSpelt level value ts = Spelt (Below level (λ lower. IsTerm strict lower value)) ts

abbrev pub ArgSpelt : ℕ → Arg → List Token → Type 0
ArgSpelt level value ts = Spelt (Below level (λ lower. IsArg strict lower value)) ts

abbrev pub ArgsSpelt : ℕ → List Arg → List Token → Type 0
ArgsSpelt level args ts = Spelt (Below level (λ lower. IsArgs strict lower args)) ts

abbrev comma : Token
comma = token.Sign sign_of.Comma

args_spelt : (level : ℕ) (args : List Arg) → Each Arg (λ part. ArgSpelt level part (argument part)) args → Spelt (Below level (λ lower. IsArgChain strict lower args)) (by_commas argument args)
args_spelt level args each =
    chain_spelt Arg comma argument (λ part. Below level (λ lower. IsArg strict lower part)) (λ parts. Below level (λ lower. IsArgChain strict lower parts))
    (λ part ts rest is lower le. IsArgChain.one lower part ts rest (is lower le))
    (λ line part parts ts others rest is chain lower le. IsArgChain.more lower line part parts ts others rest (is lower le) (chain lower le))
    (sign_writable sign_of.Comma) args each

no_args : (level : ℕ) (b : ℕ) → strict.opens level b ≡ true → ArgsSpelt level [] (enclosed (by_commas argument []))
no_args level b may = record {
  reads = λ line rest lower le. IsArgs.none lower line line rest (opens_lower level lower b (suc (length rest)) le may);
  writable = sign_written sign_of.Open (token.Sign sign_of.Close ∷ []) (sign_written sign_of.Close [] none_written);
}

some_args : (level : ℕ) (args : List Arg) (b : ℕ) → strict.opens level b ≡ true → Each Arg (λ part. ArgSpelt (suc level) part (argument part)) args → ArgsSpelt level args (enclosed (by_commas argument args))
some_args level args b may each =
    let chain = args_spelt (suc level) args each in
    let inner : List Token = by_commas argument args in
    record {
      reads = λ line rest lower le.
          let tokens : Tokens = laid line (inner ++ token.Sign sign_of.Close ∷ []) rest in
          IsArgs.some lower line line args tokens rest (opens_lower level lower b (length tokens) le may)
          (both_laid (λ l. IsArgChain strict (suc lower) args l (sign line sign_of.Close ∷ rest)) line inner (token.Sign sign_of.Close ∷ []) rest (chain.reads line (sign line sign_of.Close ∷ rest) (suc lower) (omega (arith, le))));
      writable = sign_written sign_of.Open (inner ++ token.Sign sign_of.Close ∷ []) (both_written inner (token.Sign sign_of.Close ∷ []) chain.writable (sign_written sign_of.Close [] none_written));
    }

plain_spelt : (level : ℕ) (line : ℕ) (text : List ℕ) (rest : Tokens) → Known (name line text ∷ rest) → TermSpelt level (term_of.Name text) (term (term_of.Name text))
plain_spelt level line text rest known =
    subst (TermSpelt level (term_of.Name text)) (sym (term_name text)) (record {
      reads = λ i r lower le. IsTerm.plain lower i text r;
      writable = one_written (token.Name text) [] (known_name known) none_written;
    })

call_spelt : (level : ℕ) (line : ℕ) (text : List ℕ) (args : List Arg) (rest : Tokens) → Known (name line text ∷ rest) → ArgsSpelt level args (enclosed (by_commas argument args))
    → TermSpelt level (term_of.Call text args) (term (term_of.Call text args))
call_spelt level line text args rest known s =
    subst (TermSpelt level (term_of.Call text args)) (sym (term_call text args)) (record {
      reads = λ i r lower le. IsTerm.call lower i text args (laid i (enclosed (by_commas argument args)) r) r (s.reads i r lower le);
      writable = one_written (token.Name text) (enclosed (by_commas argument args)) (known_name known) s.writable;
    })

request_spelt : (level : ℕ) → ArgSpelt level arg.Req (argument arg.Req)
request_spelt level =
    subst (ArgSpelt level arg.Req) (sym argument_request) (record { reads = λ i r lower le. IsArg.request lower i r; writable = sign_written sign_of.Request [] none_written })

of_term_spelt : (level : ℕ) (value : NamedTerm) → TermSpelt level value (term value) → ArgSpelt level (arg.Term value) (argument (arg.Term value))
of_term_spelt level value s =
    subst (ArgSpelt level (arg.Term value)) (sym (argument_term value))
    (record { reads = λ i r lower le. IsArg.of_term lower value (laid i (term value) r) r (s.reads i r lower le); writable = s.writable })

mutual
  pub term_again : (level : ℕ) (value : NamedTerm) (ts rest : Tokens) → IsTerm strict level value ts rest → Known ts → Then (TermSpelt level value (term value)) rest
  term_again level value ts rest (IsTerm.plain _ line text _) known = record { is = plain_spelt level line text rest known; behind = behind known }
  term_again level value ts rest (IsTerm.call _ line text args tokens _ are) known =
      let a = args_again level args tokens rest are (behind known) in
      record { is = call_spelt level line text args tokens known a.is; behind = a.behind }

  pub args_again : (level : ℕ) (args : List Arg) (ts rest : Tokens) → IsArgs strict level args ts rest → Known ts → Then (ArgsSpelt level args (enclosed (by_commas argument args))) rest
  args_again level args ts rest (IsArgs.none _ i j _ may) known =
      record { is = no_args level _ may; behind = behind (behind known) }
  args_again level args ts rest (IsArgs.some _ i j _ tokens _ may chain) known =
      let a = chain_again (suc level) args tokens (sign j sign_of.Close ∷ rest) chain (behind known) in
      record { is = some_args level args _ may a.is; behind = behind a.behind }

  chain_again : (level : ℕ) (args : List Arg) (ts rest : Tokens) → IsArgChain strict level args ts rest → Known ts → Then (Each Arg (λ part. ArgSpelt level part (argument part)) args) rest
  chain_again level args ts rest (IsArgChain.one _ part _ _ is) known =
      let a = arg_again level part ts rest is known in
      record { is = Each.one part a.is; behind = a.behind }
  chain_again level args ts rest (IsArgChain.more _ line part more _ others _ is chain) known =
      let a = arg_again level part ts (sign line sign_of.Comma ∷ others) is known in
      let b = chain_again level more others rest chain (behind a.behind) in
      record { is = longer Arg (λ one. ArgSpelt level one (argument one)) part more a.is b.is; behind = b.behind }

  arg_again : (level : ℕ) (part : Arg) (ts rest : Tokens) → IsArg strict level part ts rest → Known ts → Then (ArgSpelt level part (argument part)) rest
  arg_again level part ts rest (IsArg.request _ line _) known = record { is = request_spelt level; behind = behind known }
  arg_again level part ts rest (IsArg.of_term _ value _ _ is) known =
      let a = term_again level value ts rest is known in
      record { is = of_term_spelt level value a.is; behind = a.behind }
