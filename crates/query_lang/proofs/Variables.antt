-- A declared variable and its sort, as the reader takes them.
use Rattle.std.proofs.Common.{ℕ, List, ◌∙◌}
use Rattle.query_tokens.specs.declared.token.Sign.TheVariants as sign_of
use Rattle.query_lang.specs.declared.read.stop.Stop.{Stop}
use Rattle.query_lang.specs.declared.read.stop.Stop.TheVariants as stop
use Rattle.query_lang.specs.Words.{Tokens}
use Rattle.query_lang.specs.Machine.Due.{Due, State}
use Rattle.query_lang.specs.Machine.Steps
use Rattle.query_lang.specs.Machine.Going.{Goes, Halts}

pub variable_read : (variable : List ℕ) (sort : List ℕ) (t0 t1 t2 t3 : Tokens) → Goes (List ℕ) (State.want Due.name) variable t0 t1 → Goes (Unit {0}) (State.want (Due.sign sign_of.Colon)) tt t1 t2 → Goes (List ℕ) (State.want Due.name) sort t2 t3 → Goes (List ℕ × List ℕ) Steps.variable (variable, sort) t0 t3
variable_read variable sort t0 t1 t2 t3 h0 h1 h2 = record { goes = λ k. h0.goes (λ variable. State.want (Due.sign sign_of.Colon) (λ _. State.want Due.name (λ sort. k (variable, sort)))) ∙ h1.goes (λ _. State.want Due.name (λ sort. k (variable, sort))) ∙ h2.goes (λ sort. k (variable, sort)) }

pub variable_stops0 : (t0 tokens : Tokens) (s : Stop) → Halts (List ℕ) (State.want Due.name) t0 tokens s → Halts (List ℕ × List ℕ) Steps.variable t0 tokens s
variable_stops0 t0 tokens (stop.Refused at why) h = record { stops = λ k. h.stops (λ variable. State.want (Due.sign sign_of.Colon) (λ _. State.want Due.name (λ sort. k (variable, sort)))) }
variable_stops0 t0 tokens stop.NoMemory h = tt

pub variable_stops1 : (variable : List ℕ) (t0 t1 tokens : Tokens) (s : Stop) → Goes (List ℕ) (State.want Due.name) variable t0 t1 → Halts (Unit {0}) (State.want (Due.sign sign_of.Colon)) t1 tokens s → Halts (List ℕ × List ℕ) Steps.variable t0 tokens s
variable_stops1 variable t0 t1 tokens (stop.Refused at why) h0 h = record { stops = λ k. h0.goes (λ variable. State.want (Due.sign sign_of.Colon) (λ _. State.want Due.name (λ sort. k (variable, sort)))) ∙ h.stops (λ _. State.want Due.name (λ sort. k (variable, sort))) }
variable_stops1 variable t0 t1 tokens stop.NoMemory h0 h = tt

pub variable_stops2 : (variable : List ℕ) (t0 t1 t2 tokens : Tokens) (s : Stop) → Goes (List ℕ) (State.want Due.name) variable t0 t1 → Goes (Unit {0}) (State.want (Due.sign sign_of.Colon)) tt t1 t2 → Halts (List ℕ) (State.want Due.name) t2 tokens s → Halts (List ℕ × List ℕ) Steps.variable t0 tokens s
variable_stops2 variable t0 t1 t2 tokens (stop.Refused at why) h0 h1 h = record { stops = λ k. h0.goes (λ variable. State.want (Due.sign sign_of.Colon) (λ _. State.want Due.name (λ sort. k (variable, sort)))) ∙ h1.goes (λ _. State.want Due.name (λ sort. k (variable, sort))) ∙ h.stops (λ sort. k (variable, sort)) }
variable_stops2 variable t0 t1 t2 tokens stop.NoMemory h0 h1 h = tt
