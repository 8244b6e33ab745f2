-- Paths, as the reader takes them.
use Rattle.std.proofs.Common.{◌≡◌, ℕ, List, [], ◌∷◌, ◌++◌, refl, ap, ◌∙◌}
use Rattle.query_tokens.specs.declared.token.Sign.TheVariants as sign_of
use Rattle.query_tokens.specs.declared.token.Token.TheVariants as token
use Rattle.query_lang.specs.declared.literal.Path.{Path}
use Rattle.query_lang.specs.declared.read.stop.Stop.{Stop}
use Rattle.query_lang.specs.declared.read.stop.Stop.TheVariants as stop
use Rattle.query_lang.specs.Words.{Tokens}
use Rattle.query_lang.specs.Machine.Due.{Due, State}
use Rattle.query_lang.specs.Machine.Steps
use Rattle.query_lang.specs.Machine.Steps.{is_word, is_sign, Behind, step}
use Rattle.query_lang.specs.Machine.Outcome.{outcome, strict}
use Rattle.query_lang.specs.Machine.Going.{Goes, Halts, Starts, NoSign}
use Rattle.query_lang.proofs.PhraseRuns.{skipped, left_out}

-- from these parts on, what is due goes on as from those
pub record Leads (before : List (List ℕ)) (ts : Tokens) (parts : List (List ℕ)) (mid : Tokens) : Type 0 where
  pub leads : (k : Behind Path) → outcome strict ts (State.want (Due.components before) k) ≡ outcome strict mid (State.want (Due.components parts) k)

pub components_begin : (parts : List (List ℕ)) (ts : Tokens) → Leads parts ts parts ts
components_begin parts ts = record { leads = λ k. refl }

pub components_more : (before parts : List (List ℕ)) (part : List ℕ) (ts mid next rest : Tokens) → Leads before ts parts mid → Starts (token.Sign sign_of.Dot) mid next → Goes (List ℕ) (State.want Due.component) part next rest
    → Leads before ts (parts ++ part ∷ []) rest
components_more before parts part ts mid next rest l s g =
    record { leads = λ k. l.leads k ∙ ap (λ (x : Tokens). outcome strict x (State.want (Due.components parts) k)) s.is ∙ g.goes (λ part. State.want (Due.components (parts ++ part ∷ [])) k) }

pub components_done : (before parts : List (List ℕ)) (ts rest : Tokens) → Leads before ts parts rest → NoSign sign_of.Dot rest → Goes Path (State.want (Due.components before)) (record { parts = parts }) ts rest
components_done before parts ts rest l none =
    record { goes = λ k. l.leads k ∙ skipped strict (is_sign sign_of.Dot) (State.want (Due.components parts) k) (k (record { parts = parts })) refl (λ line t e. left_out strict (is_sign sign_of.Dot t) _ _ e) rest none.away }

pub components_stop : (before parts : List (List ℕ)) (ts mid next tokens : Tokens) (s : Stop) → Leads before ts parts mid → Starts (token.Sign sign_of.Dot) mid next → Halts (List ℕ) (State.want Due.component) next tokens s
    → Halts Path (State.want (Due.components before)) ts tokens s
components_stop before parts ts mid next tokens (stop.Refused at why) l s h =
    record { stops = λ k. l.leads k ∙ ap (λ (x : Tokens). outcome strict x (State.want (Due.components parts) k)) s.is ∙ h.stops (λ part. State.want (Due.components (parts ++ part ∷ [])) k) }
components_stop before parts ts mid next tokens stop.NoMemory l s h = tt

pub path_read : (text : List ℕ) (path : Path) (t0 t1 t2 : Tokens) → Goes (List ℕ) (State.want Due.name) text t0 t1 → Goes Path (State.want (Due.components (text ∷ []))) path t1 t2 → Goes Path Steps.path path t0 t2
path_read text path t0 t1 t2 h0 h1 = record { goes = λ k. h0.goes (λ text. State.want (Due.components (text ∷ [])) (λ path. k path)) ∙ h1.goes (λ path. k path) }

pub path_stops0 : (t0 tokens : Tokens) (s : Stop) → Halts (List ℕ) (State.want Due.name) t0 tokens s → Halts Path Steps.path t0 tokens s
path_stops0 t0 tokens (stop.Refused at why) h = record { stops = λ k. h.stops (λ text. State.want (Due.components (text ∷ [])) (λ path. k path)) }
path_stops0 t0 tokens stop.NoMemory h = tt

pub path_stops1 : (text : List ℕ) (t0 t1 tokens : Tokens) (s : Stop) → Goes (List ℕ) (State.want Due.name) text t0 t1 → Halts Path (State.want (Due.components (text ∷ []))) t1 tokens s → Halts Path Steps.path t0 tokens s
path_stops1 text t0 t1 tokens (stop.Refused at why) h0 h = record { stops = λ k. h0.goes (λ text. State.want (Due.components (text ∷ [])) (λ path. k path)) ∙ h.stops (λ path. k path) }
path_stops1 text t0 t1 tokens stop.NoMemory h0 h = tt
