-- EXPLOREs, as the reader takes them.
use Rattle.std.proofs.Common.{◌≡◌, ℕ, List, [], ◌∷◌, ◌++◌, refl, ap, ◌∙◌}
use Rattle.query_tokens.specs.declared.keyword.Keyword.TheVariants as keyword
use Rattle.query_tokens.specs.declared.token.Sign.TheVariants as sign_of
use Rattle.query_tokens.specs.declared.token.Token.TheVariants as token
use Rattle.query_lang.specs.declared.read.stop.Stop.{Stop}
use Rattle.query_lang.specs.declared.read.stop.Stop.TheVariants as stop
use Rattle.query_lang.specs.Words.{Tokens}
use Rattle.query_lang.specs.Machine.Due.{Due, State}
use Rattle.query_lang.specs.Machine.Steps
use Rattle.query_lang.specs.Machine.Steps.{is_word, is_sign, Behind, step}
use Rattle.query_lang.specs.Machine.Outcome.{outcome, strict}
use Rattle.query_lang.specs.Machine.Going.{Goes, Halts, Starts, NoWord, NoSign}
use Rattle.query_lang.proofs.PhraseRuns.{skipped, left_out}
use Rattle.query_lang.specs.declared.formula.Named.{Named}
use Rattle.query_lang.specs.declared.script.Explore.{Explore}
use Rattle.query_lang.proofs.Leading.{Leads}

-- where no part follows, the end is due
vars_closes : (parts : List (List ℕ × List ℕ)) (mid : Tokens) → NoSign sign_of.Comma mid → (k : Behind (List (List ℕ × List ℕ))) → outcome strict mid (State.want (Due.more_vars parts) k) ≡ outcome strict mid (State.want (Due.sign sign_of.CloseBracket) (λ _. k parts))
vars_closes parts mid none k = skipped strict (is_sign sign_of.Comma) (State.want (Due.more_vars parts) k) (State.want (Due.sign sign_of.CloseBracket) (λ _. k parts)) refl (λ line t e. left_out strict (is_sign sign_of.Comma t) _ _ e) mid none.away

pub vars_begin : (parts : List (List ℕ × List ℕ)) (ts : Tokens) → Leads (List (List ℕ × List ℕ)) (State.want (Due.more_vars parts)) (State.want (Due.more_vars parts)) ts ts
vars_begin parts ts = record { leads = λ k. refl }

pub vars_more : (before parts : List (List ℕ × List ℕ)) (part : List ℕ × List ℕ) (ts mid t0 t1 : Tokens) → Leads (List (List ℕ × List ℕ)) (State.want (Due.more_vars before)) (State.want (Due.more_vars parts)) ts mid → Starts (token.Sign sign_of.Comma) mid t0 → Goes (List ℕ × List ℕ) Steps.variable part t0 t1 → Leads (List (List ℕ × List ℕ)) (State.want (Due.more_vars before)) (State.want (Due.more_vars (parts ++ part ∷ []))) ts t1
vars_more before parts part ts mid t0 t1 l e h0 = record { leads = λ k. l.leads k ∙ ap (λ (x : Tokens). outcome strict x (State.want (Due.more_vars parts) k)) e.is ∙ h0.goes (λ part. State.want (Due.more_vars (parts ++ part ∷ [])) k) }

pub vars_stop0 : (before parts : List (List ℕ × List ℕ)) (ts mid t0 tokens : Tokens) (s : Stop) → Leads (List (List ℕ × List ℕ)) (State.want (Due.more_vars before)) (State.want (Due.more_vars parts)) ts mid → Starts (token.Sign sign_of.Comma) mid t0 → Halts (List ℕ × List ℕ) Steps.variable t0 tokens s → Halts (List (List ℕ × List ℕ)) (State.want (Due.more_vars before)) ts tokens s
vars_stop0 before parts ts mid t0 tokens (stop.Refused at why) l e h = record { stops = λ k. l.leads k ∙ ap (λ (x : Tokens). outcome strict x (State.want (Due.more_vars parts) k)) e.is ∙ h.stops (λ part. State.want (Due.more_vars (parts ++ part ∷ [])) k) }
vars_stop0 before parts ts mid t0 tokens stop.NoMemory l e h = tt

pub vars_end : (before parts : List (List ℕ × List ℕ)) (ts mid rest : Tokens) → Leads (List (List ℕ × List ℕ)) (State.want (Due.more_vars before)) (State.want (Due.more_vars parts)) ts mid → Goes (Unit {0}) (State.want (Due.sign sign_of.CloseBracket)) tt mid rest → NoSign sign_of.Comma mid → Goes (List (List ℕ × List ℕ)) (State.want (Due.more_vars before)) parts ts rest
vars_end before parts ts mid rest l e none = record { goes = λ k. l.leads k ∙ vars_closes parts mid none k ∙ e.goes (λ _. k parts) }

pub vars_unended : (before parts : List (List ℕ × List ℕ)) (ts mid tokens : Tokens) (s : Stop) → Leads (List (List ℕ × List ℕ)) (State.want (Due.more_vars before)) (State.want (Due.more_vars parts)) ts mid → Halts (Unit {0}) (State.want (Due.sign sign_of.CloseBracket)) mid tokens s → NoSign sign_of.Comma mid → Halts (List (List ℕ × List ℕ)) (State.want (Due.more_vars before)) ts tokens s
vars_unended before parts ts mid tokens (stop.Refused at why) l h none = record { stops = λ k. l.leads k ∙ vars_closes parts mid none k ∙ h.stops (λ _. k parts) }
vars_unended before parts ts mid tokens stop.NoMemory l h none = tt

declared_step : (t0 t1 : Tokens) (k : Behind (List (List ℕ × List ℕ))) → Starts (token.Sign sign_of.OpenBracket) t0 t1 → outcome strict t0 (State.want Due.vars k) ≡ outcome strict t1 (Steps.variable (λ part. State.want (Due.more_vars (part ∷ [])) k))
declared_step t0 t1 k s = rw s.is refl

pub declared_read : (first : List ℕ × List ℕ) (all : List (List ℕ × List ℕ)) (t0 t1 t2 t3 : Tokens) → Starts (token.Sign sign_of.OpenBracket) t0 t1 → Goes (List ℕ × List ℕ) (Steps.variable) first t1 t2 → Goes (List (List ℕ × List ℕ)) (State.want (Due.more_vars (first ∷ []))) all t2 t3 → Goes (List (List ℕ × List ℕ)) (State.want Due.vars) all t0 t3
declared_read first all t0 t1 t2 t3 s g h = record { goes = λ k. declared_step t0 t1 k s ∙ g.goes (λ part. State.want (Due.more_vars (part ∷ [])) k) ∙ h.goes k }

pub declared_stops0 : (t0 t1 tokens : Tokens) (s : Stop) → Starts (token.Sign sign_of.OpenBracket) t0 t1 → Halts (List ℕ × List ℕ) (Steps.variable) t1 tokens s → Halts (List (List ℕ × List ℕ)) (State.want Due.vars) t0 tokens s
declared_stops0 t0 t1 tokens (stop.Refused at why) s h = record { stops = λ k. declared_step t0 t1 k s ∙ h.stops (λ part. State.want (Due.more_vars (part ∷ [])) k) }
declared_stops0 t0 t1 tokens stop.NoMemory s h = tt

pub declared_stops1 : (first : List ℕ × List ℕ) (t0 t1 t2 tokens : Tokens) (s : Stop) → Starts (token.Sign sign_of.OpenBracket) t0 t1 → Goes (List ℕ × List ℕ) (Steps.variable) first t1 t2 → Halts (List (List ℕ × List ℕ)) (State.want (Due.more_vars (first ∷ []))) t2 tokens s → Halts (List (List ℕ × List ℕ)) (State.want Due.vars) t0 tokens s
declared_stops1 first t0 t1 t2 tokens (stop.Refused at why) s g h = record { stops = λ k. declared_step t0 t1 k s ∙ g.goes (λ part. State.want (Due.more_vars (part ∷ [])) k) ∙ h.stops k }
declared_stops1 first t0 t1 t2 tokens stop.NoMemory s g h = tt

pub declared_none : (t0 : Tokens) → NoSign sign_of.OpenBracket t0 → Goes (List (List ℕ × List ℕ)) (State.want Due.vars) [] t0 t0
declared_none t0 none = record { goes = λ k. skipped strict (is_sign sign_of.OpenBracket) (State.want Due.vars k) (k []) refl (λ line t e. left_out strict (is_sign sign_of.OpenBracket t) _ _ e) t0 none.away }

pub names_begin : (parts : List (List ℕ)) (ts : Tokens) → Leads (List (List ℕ)) (State.want (Due.more_names parts)) (State.want (Due.more_names parts)) ts ts
names_begin parts ts = record { leads = λ k. refl }

pub names_more : (before parts : List (List ℕ)) (part : List ℕ) (ts mid t0 t1 : Tokens) → Leads (List (List ℕ)) (State.want (Due.more_names before)) (State.want (Due.more_names parts)) ts mid → Starts (token.Sign sign_of.Comma) mid t0 → Goes (List ℕ) (State.want Due.name) part t0 t1 → Leads (List (List ℕ)) (State.want (Due.more_names before)) (State.want (Due.more_names (parts ++ part ∷ []))) ts t1
names_more before parts part ts mid t0 t1 l e h0 = record { leads = λ k. l.leads k ∙ ap (λ (x : Tokens). outcome strict x (State.want (Due.more_names parts) k)) e.is ∙ h0.goes (λ part. State.want (Due.more_names (parts ++ part ∷ [])) k) }

pub names_stop0 : (before parts : List (List ℕ)) (ts mid t0 tokens : Tokens) (s : Stop) → Leads (List (List ℕ)) (State.want (Due.more_names before)) (State.want (Due.more_names parts)) ts mid → Starts (token.Sign sign_of.Comma) mid t0 → Halts (List ℕ) (State.want Due.name) t0 tokens s → Halts (List (List ℕ)) (State.want (Due.more_names before)) ts tokens s
names_stop0 before parts ts mid t0 tokens (stop.Refused at why) l e h = record { stops = λ k. l.leads k ∙ ap (λ (x : Tokens). outcome strict x (State.want (Due.more_names parts) k)) e.is ∙ h.stops (λ part. State.want (Due.more_names (parts ++ part ∷ [])) k) }
names_stop0 before parts ts mid t0 tokens stop.NoMemory l e h = tt

pub names_done : (before parts : List (List ℕ)) (ts rest : Tokens) → Leads (List (List ℕ)) (State.want (Due.more_names before)) (State.want (Due.more_names parts)) ts rest → NoSign sign_of.Comma rest → Goes (List (List ℕ)) (State.want (Due.more_names before)) parts ts rest
names_done before parts ts rest l none = record { goes = λ k. l.leads k ∙ skipped strict (is_sign sign_of.Comma) (State.want (Due.more_names parts) k) (k parts) refl (λ line t e. left_out strict (is_sign sign_of.Comma t) _ _ e) rest none.away }

under_step : (t0 t1 : Tokens) (k : Behind (List (List ℕ))) → Starts (token.Keyword keyword.Under) t0 t1 → outcome strict t0 (State.want Due.under k) ≡ outcome strict t1 (State.want Due.name (λ part. State.want (Due.more_names (part ∷ [])) k))
under_step t0 t1 k s = rw s.is refl

pub under_read : (first : List ℕ) (all : List (List ℕ)) (t0 t1 t2 t3 : Tokens) → Starts (token.Keyword keyword.Under) t0 t1 → Goes (List ℕ) (State.want Due.name) first t1 t2 → Goes (List (List ℕ)) (State.want (Due.more_names (first ∷ []))) all t2 t3 → Goes (List (List ℕ)) (State.want Due.under) all t0 t3
under_read first all t0 t1 t2 t3 s g h = record { goes = λ k. under_step t0 t1 k s ∙ g.goes (λ part. State.want (Due.more_names (part ∷ [])) k) ∙ h.goes k }

pub under_stops0 : (t0 t1 tokens : Tokens) (s : Stop) → Starts (token.Keyword keyword.Under) t0 t1 → Halts (List ℕ) (State.want Due.name) t1 tokens s → Halts (List (List ℕ)) (State.want Due.under) t0 tokens s
under_stops0 t0 t1 tokens (stop.Refused at why) s h = record { stops = λ k. under_step t0 t1 k s ∙ h.stops (λ part. State.want (Due.more_names (part ∷ [])) k) }
under_stops0 t0 t1 tokens stop.NoMemory s h = tt

pub under_stops1 : (first : List ℕ) (t0 t1 t2 tokens : Tokens) (s : Stop) → Starts (token.Keyword keyword.Under) t0 t1 → Goes (List ℕ) (State.want Due.name) first t1 t2 → Halts (List (List ℕ)) (State.want (Due.more_names (first ∷ []))) t2 tokens s → Halts (List (List ℕ)) (State.want Due.under) t0 tokens s
under_stops1 first t0 t1 t2 tokens (stop.Refused at why) s g h = record { stops = λ k. under_step t0 t1 k s ∙ g.goes (λ part. State.want (Due.more_names (part ∷ [])) k) ∙ h.stops k }
under_stops1 first t0 t1 t2 tokens stop.NoMemory s g h = tt

pub under_none : (t0 : Tokens) → NoWord keyword.Under t0 → Goes (List (List ℕ)) (State.want Due.under) [] t0 t0
under_none t0 none = record { goes = λ k. skipped strict (is_word keyword.Under) (State.want Due.under k) (k []) refl (λ line t e. left_out strict (is_word keyword.Under t) _ _ e) t0 none.away }

pub atoms_begin : (parts : List Named) (ts : Tokens) → Leads (List Named) (State.want (Due.more_atoms parts)) (State.want (Due.more_atoms parts)) ts ts
atoms_begin parts ts = record { leads = λ k. refl }

pub atoms_more : (before parts : List Named) (part : Named) (ts mid t0 t1 : Tokens) → Leads (List Named) (State.want (Due.more_atoms before)) (State.want (Due.more_atoms parts)) ts mid → Starts (token.Sign sign_of.Comma) mid t0 → Goes Named (Steps.atom 0) part t0 t1 → Leads (List Named) (State.want (Due.more_atoms before)) (State.want (Due.more_atoms (parts ++ part ∷ []))) ts t1
atoms_more before parts part ts mid t0 t1 l e h0 = record { leads = λ k. l.leads k ∙ ap (λ (x : Tokens). outcome strict x (State.want (Due.more_atoms parts) k)) e.is ∙ h0.goes (λ part. State.want (Due.more_atoms (parts ++ part ∷ [])) k) }

pub atoms_stop0 : (before parts : List Named) (ts mid t0 tokens : Tokens) (s : Stop) → Leads (List Named) (State.want (Due.more_atoms before)) (State.want (Due.more_atoms parts)) ts mid → Starts (token.Sign sign_of.Comma) mid t0 → Halts Named (Steps.atom 0) t0 tokens s → Halts (List Named) (State.want (Due.more_atoms before)) ts tokens s
atoms_stop0 before parts ts mid t0 tokens (stop.Refused at why) l e h = record { stops = λ k. l.leads k ∙ ap (λ (x : Tokens). outcome strict x (State.want (Due.more_atoms parts) k)) e.is ∙ h.stops (λ part. State.want (Due.more_atoms (parts ++ part ∷ [])) k) }
atoms_stop0 before parts ts mid t0 tokens stop.NoMemory l e h = tt

pub atoms_done : (before parts : List Named) (ts rest : Tokens) → Leads (List Named) (State.want (Due.more_atoms before)) (State.want (Due.more_atoms parts)) ts rest → NoSign sign_of.Comma rest → Goes (List Named) (State.want (Due.more_atoms before)) parts ts rest
atoms_done before parts ts rest l none = record { goes = λ k. l.leads k ∙ skipped strict (is_sign sign_of.Comma) (State.want (Due.more_atoms parts) k) (k parts) refl (λ line t e. left_out strict (is_sign sign_of.Comma t) _ _ e) rest none.away }

include_step : (t0 t1 : Tokens) (k : Behind (List Named)) → Starts (token.Keyword keyword.Include) t0 t1 → outcome strict t0 (State.want Due.include k) ≡ outcome strict t1 (Steps.atom 0 (λ part. State.want (Due.more_atoms (part ∷ [])) k))
include_step t0 t1 k s = rw s.is refl

pub include_read : (first : Named) (all : List Named) (t0 t1 t2 t3 : Tokens) → Starts (token.Keyword keyword.Include) t0 t1 → Goes (Named) (Steps.atom 0) first t1 t2 → Goes (List Named) (State.want (Due.more_atoms (first ∷ []))) all t2 t3 → Goes (List Named) (State.want Due.include) all t0 t3
include_read first all t0 t1 t2 t3 s g h = record { goes = λ k. include_step t0 t1 k s ∙ g.goes (λ part. State.want (Due.more_atoms (part ∷ [])) k) ∙ h.goes k }

pub include_stops0 : (t0 t1 tokens : Tokens) (s : Stop) → Starts (token.Keyword keyword.Include) t0 t1 → Halts (Named) (Steps.atom 0) t1 tokens s → Halts (List Named) (State.want Due.include) t0 tokens s
include_stops0 t0 t1 tokens (stop.Refused at why) s h = record { stops = λ k. include_step t0 t1 k s ∙ h.stops (λ part. State.want (Due.more_atoms (part ∷ [])) k) }
include_stops0 t0 t1 tokens stop.NoMemory s h = tt

pub include_stops1 : (first : Named) (t0 t1 t2 tokens : Tokens) (s : Stop) → Starts (token.Keyword keyword.Include) t0 t1 → Goes (Named) (Steps.atom 0) first t1 t2 → Halts (List Named) (State.want (Due.more_atoms (first ∷ []))) t2 tokens s → Halts (List Named) (State.want Due.include) t0 tokens s
include_stops1 first t0 t1 t2 tokens (stop.Refused at why) s g h = record { stops = λ k. include_step t0 t1 k s ∙ g.goes (λ part. State.want (Due.more_atoms (part ∷ [])) k) ∙ h.stops k }
include_stops1 first t0 t1 t2 tokens stop.NoMemory s g h = tt

pub include_none : (t0 : Tokens) → NoWord keyword.Include t0 → Goes (List Named) (State.want Due.include) [] t0 t0
include_none t0 none = record { goes = λ k. skipped strict (is_word keyword.Include) (State.want Due.include k) (k []) refl (λ line t e. left_out strict (is_word keyword.Include t) _ _ e) t0 none.away }

pub shown_read : (under : List (List ℕ)) (include : List Named) (t0 t1 t2 : Tokens)
    → Goes (List (List ℕ)) (State.want Due.under) under t0 t1 → Goes (List Named) (State.want Due.include) include t1 t2
    → Goes (List (List ℕ) × List Named) Steps.shown (under, include) t0 t2
shown_read under include t0 t1 t2 h0 h1 = record { goes = λ k. h0.goes (λ under. State.want Due.include (λ include. k (under, include))) ∙ h1.goes (λ include. k (under, include)) }

pub shown_stops0 : (t0 tokens : Tokens) (s : Stop) → Halts (List (List ℕ)) (State.want Due.under) t0 tokens s → Halts (List (List ℕ) × List Named) Steps.shown t0 tokens s
shown_stops0 t0 tokens (stop.Refused at why) h = record { stops = λ k. h.stops (λ under. State.want Due.include (λ include. k (under, include))) }
shown_stops0 t0 tokens stop.NoMemory h = tt

pub shown_stops1 : (under : List (List ℕ)) (t0 t1 tokens : Tokens) (s : Stop)
    → Goes (List (List ℕ)) (State.want Due.under) under t0 t1 → Halts (List Named) (State.want Due.include) t1 tokens s
    → Halts (List (List ℕ) × List Named) Steps.shown t0 tokens s
shown_stops1 under t0 t1 tokens (stop.Refused at why) h0 h = record { stops = λ k. h0.goes (λ under. State.want Due.include (λ include. k (under, include))) ∙ h.stops (λ include. k (under, include)) }
shown_stops1 under t0 t1 tokens stop.NoMemory h0 h = tt

-- what is due behind the formula, and before it
abbrev behind_formula : Behind Explore → List (List ℕ × List ℕ) → Named → State
behind_formula k vars formula = Steps.shown (λ all. k (record { vars = vars; formula = formula; under = all.0; include = all.1 }))

abbrev behind_vars : Behind Explore → List (List ℕ × List ℕ) → State
behind_vars k vars = Steps.an_equivalence 0 [] (behind_formula k vars)

pub explore_read : (vars : List (List ℕ × List ℕ)) (formula : Named) (under : List (List ℕ)) (include : List Named) (t0 t1 t2 t3 : Tokens)
    → Goes (List (List ℕ × List ℕ)) (State.want Due.vars) vars t0 t1 → Goes Named (Steps.an_equivalence 0 []) formula t1 t2
    → Goes (List (List ℕ) × List Named) Steps.shown (under, include) t2 t3
    → Goes Explore Steps.explore (record { vars = vars; formula = formula; under = under; include = include }) t0 t3
explore_read vars formula under include t0 t1 t2 t3 h0 h1 h2 =
    record { goes = λ k. h0.goes (behind_vars k) ∙ h1.goes (behind_formula k vars) ∙ h2.goes (λ all. k (record { vars = vars; formula = formula; under = all.0; include = all.1 })) }

pub explore_stops0 : (t0 tokens : Tokens) (s : Stop) → Halts (List (List ℕ × List ℕ)) (State.want Due.vars) t0 tokens s → Halts Explore Steps.explore t0 tokens s
explore_stops0 t0 tokens (stop.Refused at why) h = record { stops = λ k. h.stops (behind_vars k) }
explore_stops0 t0 tokens stop.NoMemory h = tt

pub explore_stops1 : (vars : List (List ℕ × List ℕ)) (t0 t1 tokens : Tokens) (s : Stop)
    → Goes (List (List ℕ × List ℕ)) (State.want Due.vars) vars t0 t1 → Halts Named (Steps.an_equivalence 0 []) t1 tokens s
    → Halts Explore Steps.explore t0 tokens s
explore_stops1 vars t0 t1 tokens (stop.Refused at why) h0 h = record { stops = λ k. h0.goes (behind_vars k) ∙ h.stops (behind_formula k vars) }
explore_stops1 vars t0 t1 tokens stop.NoMemory h0 h = tt

pub explore_stops2 : (vars : List (List ℕ × List ℕ)) (formula : Named) (t0 t1 t2 tokens : Tokens) (s : Stop)
    → Goes (List (List ℕ × List ℕ)) (State.want Due.vars) vars t0 t1 → Goes Named (Steps.an_equivalence 0 []) formula t1 t2
    → Halts (List (List ℕ) × List Named) Steps.shown t2 tokens s → Halts Explore Steps.explore t0 tokens s
explore_stops2 vars formula t0 t1 t2 tokens (stop.Refused at why) h0 h1 h =
    record { stops = λ k. h0.goes (behind_vars k) ∙ h1.goes (behind_formula k vars) ∙ h.stops (λ all. k (record { vars = vars; formula = formula; under = all.0; include = all.1 })) }
explore_stops2 vars formula t0 t1 t2 tokens stop.NoMemory h0 h1 h = tt
