-- Terms and arguments, as the reader takes them.
use Rattle.std.proofs.Common.{◌≡◌, ℕ, suc, add-one, ◌+◌, ◌<◌, ◌≤◌, false, cond, List, [], ◌∷◌, ◌++◌, refl, ap, ◌∙◌}
use Rattle.query_tokens.specs.declared.token.Sign.TheVariants as sign_of
use Rattle.query_tokens.specs.declared.token.Token.{Token}
use Rattle.query_tokens.specs.declared.token.Token.TheVariants as token
use Rattle.query_lang.specs.declared.read.stop.Stop.{Stop}
use Rattle.query_lang.specs.declared.read.stop.Stop.TheVariants as stop
use Rattle.query_lang.specs.declared.script.ScriptReason.TheVariants as reason
use Rattle.query_lang.specs.Words.{Tokens}
use Rattle.query_lang.specs.Machine.Due.{Due, State, Moved}
use Rattle.query_lang.specs.Machine.Steps
use Rattle.query_lang.specs.Machine.Steps.{is_word, is_sign, Behind, step}
use Rattle.query_lang.specs.Machine.Outcome.{outcome, strict}
use Rattle.query_lang.specs.Machine.Going.{Goes, Stops, Halts, Starts, NoSign}
use Rattle.query_lang.proofs.PhraseRuns.{skipped, left_out}
use Rattle.query_lang.specs.declared.term.Arg.{Arg}
use Rattle.query_lang.specs.declared.term.Arg.TheVariants as arg
use Rattle.query_lang.specs.declared.term.NamedTerm.{NamedTerm}
use Rattle.query_lang.specs.declared.term.NamedTerm.TheVariants as term
use Rattle.query_lang.proofs.Leading.{Leads, opened, too_deep}

pub term_read : (level : ℕ) (text : List ℕ) (value : NamedTerm) (t0 t1 t2 : Tokens) → Goes (List ℕ) (State.want Due.name) text t0 t1 → Goes NamedTerm (State.want (Due.called level text)) value t1 t2 → Goes NamedTerm (Steps.a_term level) value t0 t2
term_read level text value t0 t1 t2 h0 h1 = record { goes = λ k. h0.goes (λ text. State.want (Due.called level text) (λ value. k value)) ∙ h1.goes (λ value. k value) }

pub term_stops0 : (level : ℕ) (t0 tokens : Tokens) (s : Stop) → Halts (List ℕ) (State.want Due.name) t0 tokens s → Halts NamedTerm (Steps.a_term level) t0 tokens s
term_stops0 level t0 tokens (stop.Refused at why) h = record { stops = λ k. h.stops (λ text. State.want (Due.called level text) (λ value. k value)) }
term_stops0 level t0 tokens stop.NoMemory h = tt

pub term_stops1 : (level : ℕ) (text : List ℕ) (t0 t1 tokens : Tokens) (s : Stop) → Goes (List ℕ) (State.want Due.name) text t0 t1 → Halts NamedTerm (State.want (Due.called level text)) t1 tokens s → Halts NamedTerm (Steps.a_term level) t0 tokens s
term_stops1 level text t0 t1 tokens (stop.Refused at why) h0 h = record { stops = λ k. h0.goes (λ text. State.want (Due.called level text) (λ value. k value)) ∙ h.stops (λ value. k value) }
term_stops1 level text t0 t1 tokens stop.NoMemory h0 h = tt

-- arguments stand behind the name
call_step : (level : ℕ) (text : List ℕ) (t0 t1 : Tokens) (k : Behind NamedTerm) → Starts (token.Sign sign_of.Open) t0 t1
    → outcome strict t0 (State.want (Due.called level text) k) ≡ outcome strict t0 (State.want (Due.args level) (λ parts. k (term.Call text parts)))
call_step level text t0 t1 k s = rw s.is refl

pub called_read : (level : ℕ) (text : List ℕ) (parts : List Arg) (t0 t1 t2 : Tokens) → Starts (token.Sign sign_of.Open) t0 t1 → Goes (List Arg) (State.want (Due.args level)) parts t0 t2 → Goes NamedTerm (State.want (Due.called level text)) (term.Call text parts) t0 t2
called_read level text parts t0 t1 t2 s g = record { goes = λ k. call_step level text t0 t1 k s ∙ g.goes (λ parts. k (term.Call text parts)) }

pub called_stops0 : (level : ℕ) (text : List ℕ) (t0 t1 tokens : Tokens) (s : Stop) → Starts (token.Sign sign_of.Open) t0 t1 → Halts (List Arg) (State.want (Due.args level)) t0 tokens s → Halts NamedTerm (State.want (Due.called level text)) t0 tokens s
called_stops0 level text t0 t1 tokens (stop.Refused at why) s h = record { stops = λ k. call_step level text t0 t1 k s ∙ h.stops (λ parts. k (term.Call text parts)) }
called_stops0 level text t0 t1 tokens stop.NoMemory s h = tt

pub called_left : (level : ℕ) (text : List ℕ) (t0 : Tokens) → NoSign sign_of.Open t0 → Goes NamedTerm (State.want (Due.called level text)) (term.Name text) t0 t0
called_left level text t0 none = record { goes = λ k. skipped strict (is_sign sign_of.Open) (State.want (Due.called level text) k) (k (term.Name text)) refl (λ line t e. left_out strict (is_sign sign_of.Open t) _ _ e) t0 none.away }

pub args_deep : (level : ℕ) (t0 t1 : Tokens) → Starts (token.Sign sign_of.Open) t0 t1 → 64 ≤ level → Stops (List Arg) (State.want (Due.args level)) t0 t0 reason.Depth
args_deep level t0 t1 s more = rw s.is (record { stops = λ k. too_deep t1 (State.want (Due.first_arg (suc level)) k) s.line (token.Sign sign_of.Open) level more })

args_step : (level : ℕ) (t0 t1 : Tokens) (k : Behind (List Arg)) → Starts (token.Sign sign_of.Open) t0 t1 → level < 64 → outcome strict t0 (State.want (Due.args level) k) ≡ outcome strict t1 (State.want (Due.first_arg (level + 1)) k)
args_step level t0 t1 k s less = rw (s.is, add-one level) (opened t1 (State.want (Due.first_arg (suc level)) k) s.line (token.Sign sign_of.Open) level less)

pub args_empty : (level : ℕ) (t0 t1 t2 : Tokens) → Starts (token.Sign sign_of.Open) t0 t1 → level < 64 → Starts (token.Sign sign_of.Close) t1 t2 → Goes (List Arg) (State.want (Due.args level)) [] t0 t2
args_empty level t0 t1 t2 s less e = record { goes = λ k. args_step level t0 t1 k s less ∙ ap (λ (x : Tokens). outcome strict x (State.want (Due.first_arg (level + 1)) k)) e.is }

-- a first argument is one like the others
first_is_arg : (level : ℕ) (k : Behind (List Arg)) (line : ℕ) (t : Token) → is_sign sign_of.Close t ≡ false → step (State.want (Due.first_arg level) k) line t ≡ step (State.want (Due.arg level) (λ part. State.want (Due.more_args level (part ∷ [])) k)) line t
first_is_arg level k line (token.Sign s) e = ap (λ (m : Moved). cond (is_sign sign_of.Request (token.Sign s)) (Moved.moves (State.want (Due.more_args level (arg.Req ∷ [])) k)) m) (left_out strict (is_sign sign_of.Close (token.Sign s)) (Moved.moves (k [])) Moved.stops e)
first_is_arg level k line (token.Name text) e = refl
first_is_arg level k line (token.Keyword w) e = refl
first_is_arg level k line (token.Digits text) e = refl
first_is_arg level k line (token.Word text) e = refl
first_is_arg level k line (token.Quoted text) e = refl
first_is_arg level k line token.Bad e = refl

first_step : (level : ℕ) (t1 : Tokens) (k : Behind (List Arg)) → NoSign sign_of.Close t1 → outcome strict t1 (State.want (Due.first_arg level) k) ≡ outcome strict t1 (State.want (Due.arg level) (λ part. State.want (Due.more_args level (part ∷ [])) k))
first_step level t1 k none = skipped strict (is_sign sign_of.Close) (State.want (Due.first_arg level) k) (State.want (Due.arg level) (λ part. State.want (Due.more_args level (part ∷ [])) k)) refl (first_is_arg level k) t1 none.away

pub args_read : (level : ℕ) (first : Arg) (parts : List Arg) (t0 t1 t2 t3 : Tokens) → Starts (token.Sign sign_of.Open) t0 t1 → level < 64 → NoSign sign_of.Close t1 → Goes Arg (State.want (Due.arg (level + 1))) first t1 t2
    → Goes (List Arg) (State.want (Due.more_args (level + 1) (first ∷ []))) parts t2 t3 → Goes (List Arg) (State.want (Due.args level)) parts t0 t3
args_read level first parts t0 t1 t2 t3 s less none g h =
    record { goes = λ k. args_step level t0 t1 k s less ∙ first_step (level + 1) t1 k none ∙ g.goes (λ part. State.want (Due.more_args (level + 1) (part ∷ [])) k) ∙ h.goes k }

pub args_stops0 : (level : ℕ) (t0 t1 tokens : Tokens) (s : Stop) → Starts (token.Sign sign_of.Open) t0 t1 → level < 64 → NoSign sign_of.Close t1 → Halts Arg (State.want (Due.arg (level + 1))) t1 tokens s → Halts (List Arg) (State.want (Due.args level)) t0 tokens s
args_stops0 level t0 t1 tokens (stop.Refused at why) s less none h = record { stops = λ k. args_step level t0 t1 k s less ∙ first_step (level + 1) t1 k none ∙ h.stops (λ part. State.want (Due.more_args (level + 1) (part ∷ [])) k) }
args_stops0 level t0 t1 tokens stop.NoMemory s less none h = tt

pub args_stops1 : (level : ℕ) (first : Arg) (t0 t1 t2 tokens : Tokens) (s : Stop) → Starts (token.Sign sign_of.Open) t0 t1 → level < 64 → NoSign sign_of.Close t1 → Goes Arg (State.want (Due.arg (level + 1))) first t1 t2
    → Halts (List Arg) (State.want (Due.more_args (level + 1) (first ∷ []))) t2 tokens s → Halts (List Arg) (State.want (Due.args level)) t0 tokens s
args_stops1 level first t0 t1 t2 tokens (stop.Refused at why) s less none g h =
    record { stops = λ k. args_step level t0 t1 k s less ∙ first_step (level + 1) t1 k none ∙ g.goes (λ part. State.want (Due.more_args (level + 1) (part ∷ [])) k) ∙ h.stops k }
args_stops1 level first t0 t1 t2 tokens stop.NoMemory s less none g h = tt

pub arg_request : (level : ℕ) (t0 t1 : Tokens) → Starts (token.Sign sign_of.Request) t0 t1 → Goes Arg (State.want (Due.arg level)) arg.Req t0 t1
arg_request level t0 t1 s = rw s.is (record { goes = λ k. refl })

-- what is no request is a term
arg_is_term : (level : ℕ) (k : Behind Arg) (line : ℕ) (t : Token) → is_sign sign_of.Request t ≡ false → step (State.want (Due.arg level) k) line t ≡ step (Steps.a_term level (λ value. k (arg.Term value))) line t
arg_is_term level k line (token.Sign s) e = left_out strict (is_sign sign_of.Request (token.Sign s)) (Moved.moves (k arg.Req)) Moved.stops e
arg_is_term level k line (token.Name text) e = refl
arg_is_term level k line (token.Keyword w) e = refl
arg_is_term level k line (token.Digits text) e = refl
arg_is_term level k line (token.Word text) e = refl
arg_is_term level k line (token.Quoted text) e = refl
arg_is_term level k line token.Bad e = refl

arg_step : (level : ℕ) (t0 : Tokens) (k : Behind Arg) → NoSign sign_of.Request t0 → outcome strict t0 (State.want (Due.arg level) k) ≡ outcome strict t0 (Steps.a_term level (λ value. k (arg.Term value)))
arg_step level t0 k none = skipped strict (is_sign sign_of.Request) (State.want (Due.arg level) k) (Steps.a_term level (λ value. k (arg.Term value))) refl (arg_is_term level k) t0 none.away

pub arg_term : (level : ℕ) (value : NamedTerm) (t0 t1 : Tokens) → NoSign sign_of.Request t0 → Goes NamedTerm (Steps.a_term level) value t0 t1 → Goes Arg (State.want (Due.arg level)) (arg.Term value) t0 t1
arg_term level value t0 t1 none g = record { goes = λ k. arg_step level t0 k none ∙ g.goes (λ value. k (arg.Term value)) }

pub arg_stops : (level : ℕ) (t0 tokens : Tokens) (s : Stop) → NoSign sign_of.Request t0 → Halts NamedTerm (Steps.a_term level) t0 tokens s → Halts Arg (State.want (Due.arg level)) t0 tokens s
arg_stops level t0 tokens (stop.Refused at why) none h = record { stops = λ k. arg_step level t0 k none ∙ h.stops (λ value. k (arg.Term value)) }
arg_stops level t0 tokens stop.NoMemory none h = tt

-- where no part follows, the end is due
args_chain_closes : (level : ℕ) (parts : List Arg) (mid : Tokens) → NoSign sign_of.Comma mid → (k : Behind (List Arg)) → outcome strict mid (State.want (Due.more_args level parts) k) ≡ outcome strict mid (State.want (Due.sign sign_of.Close) (λ _. k parts))
args_chain_closes level parts mid none k = skipped strict (is_sign sign_of.Comma) (State.want (Due.more_args level parts) k) (State.want (Due.sign sign_of.Close) (λ _. k parts)) refl (λ line t e. left_out strict (is_sign sign_of.Comma t) _ _ e) mid none.away

pub args_chain_begin : (level : ℕ) (parts : List Arg) (ts : Tokens) → Leads (List Arg) (State.want (Due.more_args level parts)) (State.want (Due.more_args level parts)) ts ts
args_chain_begin level parts ts = record { leads = λ k. refl }

pub args_chain_more : (level : ℕ) (before parts : List Arg) (part : Arg) (ts mid t0 t1 : Tokens) → Leads (List Arg) (State.want (Due.more_args level before)) (State.want (Due.more_args level parts)) ts mid → Starts (token.Sign sign_of.Comma) mid t0 → Goes Arg (State.want (Due.arg level)) part t0 t1 → Leads (List Arg) (State.want (Due.more_args level before)) (State.want (Due.more_args level (parts ++ part ∷ []))) ts t1
args_chain_more level before parts part ts mid t0 t1 l e h0 = record { leads = λ k. l.leads k ∙ ap (λ (x : Tokens). outcome strict x (State.want (Due.more_args level parts) k)) e.is ∙ h0.goes (λ part. State.want (Due.more_args level (parts ++ part ∷ [])) k) }

pub args_chain_stop0 : (level : ℕ) (before parts : List Arg) (ts mid t0 tokens : Tokens) (s : Stop) → Leads (List Arg) (State.want (Due.more_args level before)) (State.want (Due.more_args level parts)) ts mid → Starts (token.Sign sign_of.Comma) mid t0 → Halts Arg (State.want (Due.arg level)) t0 tokens s → Halts (List Arg) (State.want (Due.more_args level before)) ts tokens s
args_chain_stop0 level before parts ts mid t0 tokens (stop.Refused at why) l e h = record { stops = λ k. l.leads k ∙ ap (λ (x : Tokens). outcome strict x (State.want (Due.more_args level parts) k)) e.is ∙ h.stops (λ part. State.want (Due.more_args level (parts ++ part ∷ [])) k) }
args_chain_stop0 level before parts ts mid t0 tokens stop.NoMemory l e h = tt

pub args_chain_end : (level : ℕ) (before parts : List Arg) (ts mid rest : Tokens) → Leads (List Arg) (State.want (Due.more_args level before)) (State.want (Due.more_args level parts)) ts mid → Goes (Unit {0}) (State.want (Due.sign sign_of.Close)) tt mid rest → NoSign sign_of.Comma mid → Goes (List Arg) (State.want (Due.more_args level before)) parts ts rest
args_chain_end level before parts ts mid rest l e none = record { goes = λ k. l.leads k ∙ args_chain_closes level parts mid none k ∙ e.goes (λ _. k parts) }

pub args_chain_unended : (level : ℕ) (before parts : List Arg) (ts mid tokens : Tokens) (s : Stop) → Leads (List Arg) (State.want (Due.more_args level before)) (State.want (Due.more_args level parts)) ts mid → Halts (Unit {0}) (State.want (Due.sign sign_of.Close)) mid tokens s → NoSign sign_of.Comma mid → Halts (List Arg) (State.want (Due.more_args level before)) ts tokens s
args_chain_unended level before parts ts mid tokens (stop.Refused at why) l h none = record { stops = λ k. l.leads k ∙ args_chain_closes level parts mid none k ∙ h.stops (λ _. k parts) }
args_chain_unended level before parts ts mid tokens stop.NoMemory l h none = tt
