-- Formulas, as the reader takes them.
use Rattle.std.proofs.Common.{◌≡◌, ℕ, suc, add-one, ◌+◌, ◌<◌, ◌≤◌, true, false, List, [], ◌∷◌, ◌++◌, refl, ap, ◌∙◌}
use Rattle.query_tokens.specs.declared.keyword.Keyword.{Keyword}
use Rattle.query_tokens.specs.declared.keyword.Keyword.TheVariants as keyword
use Rattle.query_tokens.specs.declared.token.Sign.TheVariants as sign_of
use Rattle.query_tokens.specs.declared.token.Token.{Token}
use Rattle.query_tokens.specs.declared.token.Token.TheVariants as token
use Rattle.query_lang.specs.declared.read.stop.Stop.{Stop}
use Rattle.query_lang.specs.declared.read.stop.Stop.TheVariants as stop
use Rattle.query_lang.specs.declared.script.ScriptReason.TheVariants as reason
use Rattle.query_lang.specs.Words.{Tokens, on}
use Rattle.query_lang.specs.Machine.Due.{Due, State, Moved}
use Rattle.query_lang.specs.Machine.Steps
use Rattle.query_lang.specs.Machine.Steps.{is_word, is_sign, Behind, step}
use Rattle.query_lang.specs.Machine.Outcome.{outcome, strict}
use Rattle.query_lang.specs.Machine.Going.{Goes, Stops, Halts, Starts, NoWord, NoSign, NoKeyword, is_keyword}
use Rattle.query_lang.proofs.PhraseRuns.{skipped, left_out}
use Rattle.query_lang.specs.declared.formula.Named.{Named}
use Rattle.query_lang.specs.declared.formula.Named.TheVariants as named
use Rattle.query_lang.specs.Formulas.{conjunction, disjunction, equivalence}
use Rattle.query_lang.proofs.Leading.{Leads, opened, too_deep, by}

pub not_deep : (level : ℕ) (t0 t1 : Tokens) → Starts (token.Keyword keyword.Not) t0 t1 → 64 ≤ level → Stops Named (State.want (Due.unary level)) t0 t0 reason.Depth
not_deep level t0 t1 s more = rw s.is (record { stops = λ k. too_deep t1 (State.want (Due.unary (suc level)) (λ body. k (named.Not body))) s.line (token.Keyword keyword.Not) level more })

not_step : (level : ℕ) (t0 t1 : Tokens) (k : Behind Named) → Starts (token.Keyword keyword.Not) t0 t1 → level < 64 → outcome strict t0 (State.want (Due.unary level) k) ≡ outcome strict t1 (State.want (Due.unary ((level + 1))) (λ body. k (named.Not body)))
not_step level t0 t1 k s less = rw (s.is, add-one level) (opened t1 (State.want (Due.unary (suc level)) (λ body. k (named.Not body))) s.line (token.Keyword keyword.Not) level less)

pub not_read : (level : ℕ) (body : Named) (t0 t1 t2 : Tokens) → Starts (token.Keyword keyword.Not) t0 t1 → level < 64 → Goes (Named) (State.want (Due.unary (level + 1))) body t1 t2 → Goes Named (State.want (Due.unary level)) (named.Not body) t0 t2
not_read level body t0 t1 t2 s less h0 = record { goes = λ k. not_step level t0 t1 k s less ∙ h0.goes (λ body. k (named.Not body)) }

pub not_stops : (level : ℕ) (t0 t1 tokens : Tokens) (s : Stop) → Starts (token.Keyword keyword.Not) t0 t1 → level < 64 → Halts (Named) (State.want (Due.unary (level + 1))) t1 tokens s → Halts Named (State.want (Due.unary level)) t0 tokens s
not_stops level t0 t1 tokens (stop.Refused at why) s less h = record { stops = λ k. not_step level t0 t1 k s less ∙ h.stops (λ body. k (named.Not body)) }
not_stops level t0 t1 tokens stop.NoMemory s less h = tt

-- what is due behind the variable of a quantifier
abbrev quantified_body : ℕ → Keyword → Behind Named → List ℕ × List ℕ → State
quantified_body level w k bound = State.want (Due.unary level) (λ body. k (Steps.quantify w bound.0 bound.1 body))

by_quantifier : (level : ℕ) (w : Keyword) (k : Behind Named) → Steps.is_quantifier w ≡ true → Steps.unary_word level k w ≡ Moved.opens level (Steps.variable (quantified_body (suc level) w k))
by_quantifier level keyword.Forall k is = refl
by_quantifier level keyword.Exists k is = refl
by_quantifier level w k is = absurd (cc is)

pub quantified_deep : (level : ℕ) (w : Keyword) (t0 t1 : Tokens) → Steps.is_quantifier w ≡ true → Starts (token.Keyword w) t0 t1 → 64 ≤ level → Stops Named (State.want (Due.unary level)) t0 t0 reason.Depth
quantified_deep level w t0 t1 is s more =
    rw s.is (record {
      stops = λ k. ap (λ (m : Moved). by (on s.line (token.Keyword w) ∷ t1) t1 m) (by_quantifier level w k is)
          ∙ too_deep t1 (Steps.variable (quantified_body (suc level) w k)) s.line (token.Keyword w) level more;
    })

quantified_step : (level : ℕ) (w : Keyword) (t0 t1 : Tokens) (k : Behind Named) → Steps.is_quantifier w ≡ true → Starts (token.Keyword w) t0 t1 → level < 64
    → outcome strict t0 (State.want (Due.unary level) k) ≡ outcome strict t1 (Steps.variable (quantified_body (level + 1) w k))
quantified_step level w t0 t1 k is s less =
    rw (s.is, add-one level) (ap (λ (m : Moved). by (on s.line (token.Keyword w) ∷ t1) t1 m) (by_quantifier level w k is)
    ∙ opened t1 (Steps.variable (quantified_body (suc level) w k)) s.line (token.Keyword w) level less)

pub quantified_read : (level : ℕ) (w : Keyword) (variable sort : List ℕ) (body : Named) (t0 t1 t2 t3 : Tokens) → Steps.is_quantifier w ≡ true → Starts (token.Keyword w) t0 t1 → level < 64
    → Goes (List ℕ × List ℕ) Steps.variable (variable, sort) t1 t2 → Goes Named (State.want (Due.unary (level + 1))) body t2 t3
    → Goes Named (State.want (Due.unary level)) (Steps.quantify w variable sort body) t0 t3
quantified_read level w variable sort body t0 t1 t2 t3 is s less h0 h1 =
    record { goes = λ k. quantified_step level w t0 t1 k is s less ∙ h0.goes (quantified_body (level + 1) w k) ∙ h1.goes (λ body. k (Steps.quantify w variable sort body)) }

pub quantified_stops0 : (level : ℕ) (w : Keyword) (t0 t1 tokens : Tokens) (s : Stop) → Steps.is_quantifier w ≡ true → Starts (token.Keyword w) t0 t1 → level < 64
    → Halts (List ℕ × List ℕ) Steps.variable t1 tokens s → Halts Named (State.want (Due.unary level)) t0 tokens s
quantified_stops0 level w t0 t1 tokens (stop.Refused at why) is s less h = record { stops = λ k. quantified_step level w t0 t1 k is s less ∙ h.stops (quantified_body (level + 1) w k) }
quantified_stops0 level w t0 t1 tokens stop.NoMemory is s less h = tt

pub quantified_stops1 : (level : ℕ) (w : Keyword) (variable sort : List ℕ) (t0 t1 t2 tokens : Tokens) (s : Stop) → Steps.is_quantifier w ≡ true → Starts (token.Keyword w) t0 t1 → level < 64
    → Goes (List ℕ × List ℕ) Steps.variable (variable, sort) t1 t2 → Halts Named (State.want (Due.unary (level + 1))) t2 tokens s
    → Halts Named (State.want (Due.unary level)) t0 tokens s
quantified_stops1 level w variable sort t0 t1 t2 tokens (stop.Refused at why) is s less h0 h =
    record { stops = λ k. quantified_step level w t0 t1 k is s less ∙ h0.goes (quantified_body (level + 1) w k) ∙ h.stops (λ body. k (Steps.quantify w variable sort body)) }
quantified_stops1 level w variable sort t0 t1 t2 tokens stop.NoMemory is s less h0 h = tt

pub group_deep : (level : ℕ) (t0 t1 : Tokens) → Starts (token.Sign sign_of.Open) t0 t1 → 64 ≤ level → Stops Named (State.want (Due.unary level)) t0 t0 reason.Depth
group_deep level t0 t1 s more = rw s.is (record { stops = λ k. too_deep t1 (Steps.an_equivalence (suc level) [] (λ value. State.want (Due.sign sign_of.Close) (λ _. k value))) s.line (token.Sign sign_of.Open) level more })

group_step : (level : ℕ) (t0 t1 : Tokens) (k : Behind Named) → Starts (token.Sign sign_of.Open) t0 t1 → level < 64 → outcome strict t0 (State.want (Due.unary level) k) ≡ outcome strict t1 (Steps.an_equivalence ((level + 1)) [] (λ value. State.want (Due.sign sign_of.Close) (λ _. k value)))
group_step level t0 t1 k s less = rw (s.is, add-one level) (opened t1 (Steps.an_equivalence (suc level) [] (λ value. State.want (Due.sign sign_of.Close) (λ _. k value))) s.line (token.Sign sign_of.Open) level less)

pub group_read : (level : ℕ) (value : Named) (t0 t1 t2 t3 : Tokens) → Starts (token.Sign sign_of.Open) t0 t1 → level < 64 → Goes (Named) (Steps.an_equivalence (level + 1) []) value t1 t2 → Goes (Unit {0}) (State.want (Due.sign sign_of.Close)) tt t2 t3 → Goes Named (State.want (Due.unary level)) (value) t0 t3
group_read level value t0 t1 t2 t3 s less h0 h1 = record { goes = λ k. group_step level t0 t1 k s less ∙ h0.goes (λ value. State.want (Due.sign sign_of.Close) (λ _. k value)) ∙ h1.goes (λ _. k value) }

pub group_stops0 : (level : ℕ) (t0 t1 tokens : Tokens) (s : Stop) → Starts (token.Sign sign_of.Open) t0 t1 → level < 64 → Halts (Named) (Steps.an_equivalence (level + 1) []) t1 tokens s → Halts Named (State.want (Due.unary level)) t0 tokens s
group_stops0 level t0 t1 tokens (stop.Refused at why) s less h = record { stops = λ k. group_step level t0 t1 k s less ∙ h.stops (λ value. State.want (Due.sign sign_of.Close) (λ _. k value)) }
group_stops0 level t0 t1 tokens stop.NoMemory s less h = tt

pub group_stops1 : (level : ℕ) (value : Named) (t0 t1 t2 tokens : Tokens) (s : Stop) → Starts (token.Sign sign_of.Open) t0 t1 → level < 64 → Goes (Named) (Steps.an_equivalence (level + 1) []) value t1 t2 → Halts (Unit {0}) (State.want (Due.sign sign_of.Close)) t2 tokens s → Halts Named (State.want (Due.unary level)) t0 tokens s
group_stops1 level value t0 t1 t2 tokens (stop.Refused at why) s less h0 h = record { stops = λ k. group_step level t0 t1 k s less ∙ h0.goes (λ value. State.want (Due.sign sign_of.Close) (λ _. k value)) ∙ h.stops (λ _. k value) }
group_stops1 level value t0 t1 t2 tokens stop.NoMemory s less h0 h = tt

pub true_read : (level : ℕ) (t0 t1 : Tokens) → Starts (token.Keyword keyword.True) t0 t1 → Goes Named (State.want (Due.unary level)) named.True t0 t1
true_read level t0 t1 s = rw s.is (record { goes = λ k. refl })

pub false_read : (level : ℕ) (t0 t1 : Tokens) → Starts (token.Keyword keyword.False) t0 t1 → Goes Named (State.want (Due.unary level)) named.False t0 t1
false_read level t0 t1 s = rw s.is (record { goes = λ k. refl })

other_word : (level : ℕ) (k : Behind Named) (w : Keyword) → (w ≡ keyword.True → ⊥) → (w ≡ keyword.False → ⊥) → (w ≡ keyword.Not → ⊥) → (w ≡ keyword.Forall → ⊥) → (w ≡ keyword.Exists → ⊥) → Steps.unary_word level k w ≡ Moved.stops
other_word level k keyword.True a b c d e = absurd (a refl)
other_word level k keyword.False a b c d e = absurd (b refl)
other_word level k keyword.Not a b c d e = absurd (c refl)
other_word level k keyword.Forall a b c d e = absurd (d refl)
other_word level k keyword.Exists a b c d e = absurd (e refl)
other_word level k w a b c d e = refl

pub no_unary : (level : ℕ) (w : Keyword) (t0 t1 : Tokens) → Starts (token.Keyword w) t0 t1 → (w ≡ keyword.True → ⊥) → (w ≡ keyword.False → ⊥) → (w ≡ keyword.Not → ⊥) → (w ≡ keyword.Forall → ⊥) → (w ≡ keyword.Exists → ⊥)
    → Stops Named (State.want (Due.unary level)) t0 t0 reason.Syntax
no_unary level w t0 t1 s a b c d e = rw s.is (record { stops = λ k. ap (λ (m : Moved). by (on s.line (token.Keyword w) ∷ t1) t1 m) (other_word level k w a b c d e) })

-- what is neither a keyword nor a parenthesis is an atom
unary_is_atom : (level : ℕ) (k : Behind Named) (line : ℕ) (t : Token) → is_keyword t ≡ false → is_sign sign_of.Open t ≡ false → step (State.want (Due.unary level) k) line t ≡ step (Steps.atom level k) line t
unary_is_atom level k line (token.Keyword w) e f = absurd (cc e)
unary_is_atom level k line (token.Sign s) e f = left_out strict (is_sign sign_of.Open (token.Sign s)) _ _ f
unary_is_atom level k line (token.Name text) e f = refl
unary_is_atom level k line (token.Digits text) e f = refl
unary_is_atom level k line (token.Word text) e f = refl
unary_is_atom level k line (token.Quoted text) e f = refl
unary_is_atom level k line token.Bad e f = refl

atom_step : (level : ℕ) (t0 : Tokens) (k : Behind Named) → NoKeyword t0 → NoSign sign_of.Open t0 → outcome strict t0 (State.want (Due.unary level) k) ≡ outcome strict t0 (Steps.atom level k)
atom_step level [] k a b = refl
atom_step level (t ∷ ts) k a b = ap (λ (m : Moved). by (t ∷ ts) ts m) (unary_is_atom level k t.line t.token a.away b.away)

pub unary_atom : (level : ℕ) (value : Named) (t0 t1 : Tokens) → NoKeyword t0 → NoSign sign_of.Open t0 → Goes Named (Steps.atom level) value t0 t1 → Goes Named (State.want (Due.unary level)) value t0 t1
unary_atom level value t0 t1 a b g = record { goes = λ k. atom_step level t0 k a b ∙ g.goes k }

pub unary_atom_stops : (level : ℕ) (t0 tokens : Tokens) (s : Stop) → NoKeyword t0 → NoSign sign_of.Open t0 → Halts Named (Steps.atom level) t0 tokens s → Halts Named (State.want (Due.unary level)) t0 tokens s
unary_atom_stops level t0 tokens (stop.Refused at why) a b h = record { stops = λ k. atom_step level t0 k a b ∙ h.stops k }
unary_atom_stops level t0 tokens stop.NoMemory a b h = tt

pub more_and_begin : (level : ℕ) (parts : List Named) (ts : Tokens) → Leads Named (State.want (Due.more_and level parts)) (State.want (Due.more_and level parts)) ts ts
more_and_begin level parts ts = record { leads = λ k. refl }

pub more_and_more : (level : ℕ) (before parts : List Named) (part : Named) (ts mid t0 t1 : Tokens) → Leads Named (State.want (Due.more_and level before)) (State.want (Due.more_and level parts)) ts mid → Starts (token.Keyword keyword.And) mid t0 → Goes Named (State.want (Due.unary level)) part t0 t1 → Leads Named (State.want (Due.more_and level before)) (State.want (Due.more_and level (parts ++ part ∷ []))) ts t1
more_and_more level before parts part ts mid t0 t1 l e h0 = record { leads = λ k. l.leads k ∙ ap (λ (x : Tokens). outcome strict x (State.want (Due.more_and level parts) k)) e.is ∙ h0.goes (λ part. State.want (Due.more_and level (parts ++ part ∷ [])) k) }

pub more_and_stop0 : (level : ℕ) (before parts : List Named) (ts mid t0 tokens : Tokens) (s : Stop) → Leads Named (State.want (Due.more_and level before)) (State.want (Due.more_and level parts)) ts mid → Starts (token.Keyword keyword.And) mid t0 → Halts Named (State.want (Due.unary level)) t0 tokens s → Halts Named (State.want (Due.more_and level before)) ts tokens s
more_and_stop0 level before parts ts mid t0 tokens (stop.Refused at why) l e h = record { stops = λ k. l.leads k ∙ ap (λ (x : Tokens). outcome strict x (State.want (Due.more_and level parts) k)) e.is ∙ h.stops (λ part. State.want (Due.more_and level (parts ++ part ∷ [])) k) }
more_and_stop0 level before parts ts mid t0 tokens stop.NoMemory l e h = tt

pub more_and_done : (level : ℕ) (before parts : List Named) (ts rest : Tokens) → Leads Named (State.want (Due.more_and level before)) (State.want (Due.more_and level parts)) ts rest → NoWord keyword.And rest → Goes Named (State.want (Due.more_and level before)) (conjunction parts) ts rest
more_and_done level before parts ts rest l none = record { goes = λ k. l.leads k ∙ skipped strict (is_word keyword.And) (State.want (Due.more_and level parts) k) (k (conjunction parts)) refl (λ line t e. left_out strict (is_word keyword.And t) _ _ e) rest none.away }

pub conjunction_read : (level : ℕ) (first : Named) (value : Named) (t0 t1 t2 : Tokens) → Goes Named (State.want (Due.unary level)) first t0 t1 → Goes Named (State.want (Due.more_and level (first ∷ []))) value t1 t2 → Goes Named (Steps.a_conjunction level []) value t0 t2
conjunction_read level first value t0 t1 t2 h0 h1 = record { goes = λ k. h0.goes (λ first. State.want (Due.more_and level (first ∷ [])) (λ value. k value)) ∙ h1.goes (λ value. k value) }

pub conjunction_stops0 : (level : ℕ) (t0 tokens : Tokens) (s : Stop) → Halts Named (State.want (Due.unary level)) t0 tokens s → Halts Named (Steps.a_conjunction level []) t0 tokens s
conjunction_stops0 level t0 tokens (stop.Refused at why) h = record { stops = λ k. h.stops (λ first. State.want (Due.more_and level (first ∷ [])) (λ value. k value)) }
conjunction_stops0 level t0 tokens stop.NoMemory h = tt

pub conjunction_stops1 : (level : ℕ) (first : Named) (t0 t1 tokens : Tokens) (s : Stop) → Goes Named (State.want (Due.unary level)) first t0 t1 → Halts Named (State.want (Due.more_and level (first ∷ []))) t1 tokens s → Halts Named (Steps.a_conjunction level []) t0 tokens s
conjunction_stops1 level first t0 t1 tokens (stop.Refused at why) h0 h = record { stops = λ k. h0.goes (λ first. State.want (Due.more_and level (first ∷ [])) (λ value. k value)) ∙ h.stops (λ value. k value) }
conjunction_stops1 level first t0 t1 tokens stop.NoMemory h0 h = tt

pub more_or_begin : (level : ℕ) (parts : List Named) (ts : Tokens) → Leads Named (State.want (Due.more_or level parts)) (State.want (Due.more_or level parts)) ts ts
more_or_begin level parts ts = record { leads = λ k. refl }

pub more_or_more : (level : ℕ) (before parts : List Named) (part : Named) (ts mid t0 t1 : Tokens) → Leads Named (State.want (Due.more_or level before)) (State.want (Due.more_or level parts)) ts mid → Starts (token.Keyword keyword.Or) mid t0 → Goes Named (Steps.a_conjunction level []) part t0 t1 → Leads Named (State.want (Due.more_or level before)) (State.want (Due.more_or level (parts ++ part ∷ []))) ts t1
more_or_more level before parts part ts mid t0 t1 l e h0 = record { leads = λ k. l.leads k ∙ ap (λ (x : Tokens). outcome strict x (State.want (Due.more_or level parts) k)) e.is ∙ h0.goes (λ part. State.want (Due.more_or level (parts ++ part ∷ [])) k) }

pub more_or_stop0 : (level : ℕ) (before parts : List Named) (ts mid t0 tokens : Tokens) (s : Stop) → Leads Named (State.want (Due.more_or level before)) (State.want (Due.more_or level parts)) ts mid → Starts (token.Keyword keyword.Or) mid t0 → Halts Named (Steps.a_conjunction level []) t0 tokens s → Halts Named (State.want (Due.more_or level before)) ts tokens s
more_or_stop0 level before parts ts mid t0 tokens (stop.Refused at why) l e h = record { stops = λ k. l.leads k ∙ ap (λ (x : Tokens). outcome strict x (State.want (Due.more_or level parts) k)) e.is ∙ h.stops (λ part. State.want (Due.more_or level (parts ++ part ∷ [])) k) }
more_or_stop0 level before parts ts mid t0 tokens stop.NoMemory l e h = tt

pub more_or_done : (level : ℕ) (before parts : List Named) (ts rest : Tokens) → Leads Named (State.want (Due.more_or level before)) (State.want (Due.more_or level parts)) ts rest → NoWord keyword.Or rest → Goes Named (State.want (Due.more_or level before)) (disjunction parts) ts rest
more_or_done level before parts ts rest l none = record { goes = λ k. l.leads k ∙ skipped strict (is_word keyword.Or) (State.want (Due.more_or level parts) k) (k (disjunction parts)) refl (λ line t e. left_out strict (is_word keyword.Or t) _ _ e) rest none.away }

pub disjunction_read : (level : ℕ) (first : Named) (value : Named) (t0 t1 t2 : Tokens) → Goes Named (Steps.a_conjunction level []) first t0 t1 → Goes Named (State.want (Due.more_or level (first ∷ []))) value t1 t2 → Goes Named (Steps.a_disjunction level []) value t0 t2
disjunction_read level first value t0 t1 t2 h0 h1 = record { goes = λ k. h0.goes (λ first. State.want (Due.more_or level (first ∷ [])) (λ value. k value)) ∙ h1.goes (λ value. k value) }

pub disjunction_stops0 : (level : ℕ) (t0 tokens : Tokens) (s : Stop) → Halts Named (Steps.a_conjunction level []) t0 tokens s → Halts Named (Steps.a_disjunction level []) t0 tokens s
disjunction_stops0 level t0 tokens (stop.Refused at why) h = record { stops = λ k. h.stops (λ first. State.want (Due.more_or level (first ∷ [])) (λ value. k value)) }
disjunction_stops0 level t0 tokens stop.NoMemory h = tt

pub disjunction_stops1 : (level : ℕ) (first : Named) (t0 t1 tokens : Tokens) (s : Stop) → Goes Named (Steps.a_conjunction level []) first t0 t1 → Halts Named (State.want (Due.more_or level (first ∷ []))) t1 tokens s → Halts Named (Steps.a_disjunction level []) t0 tokens s
disjunction_stops1 level first t0 t1 tokens (stop.Refused at why) h0 h = record { stops = λ k. h0.goes (λ first. State.want (Due.more_or level (first ∷ [])) (λ value. k value)) ∙ h.stops (λ value. k value) }
disjunction_stops1 level first t0 t1 tokens stop.NoMemory h0 h = tt

pub implies_deep : (level : ℕ) (left : Named) (t0 t1 : Tokens) → Starts (token.Keyword keyword.Implies) t0 t1 → 64 ≤ level → Stops Named (State.want (Due.implies level left)) t0 t0 reason.Depth
implies_deep level left t0 t1 s more = rw s.is (record { stops = λ k. too_deep t1 (Steps.implication (suc level) (λ right. k (named.Implies left right))) s.line (token.Keyword keyword.Implies) level more })

implies_step : (level : ℕ) (left : Named) (t0 t1 : Tokens) (k : Behind Named) → Starts (token.Keyword keyword.Implies) t0 t1 → level < 64 → outcome strict t0 (State.want (Due.implies level left) k) ≡ outcome strict t1 (Steps.implication (level + 1) (λ right. k (named.Implies left right)))
implies_step level left t0 t1 k s less = rw (s.is, add-one level) (opened t1 (Steps.implication (suc level) (λ right. k (named.Implies left right))) s.line (token.Keyword keyword.Implies) level less)

pub implies_read : (level : ℕ) (left right : Named) (t0 t1 t2 : Tokens) → Starts (token.Keyword keyword.Implies) t0 t1 → level < 64 → Goes Named (Steps.implication (level + 1)) right t1 t2 → Goes Named (State.want (Due.implies level left)) (named.Implies left right) t0 t2
implies_read level left right t0 t1 t2 s less g = record { goes = λ k. implies_step level left t0 t1 k s less ∙ g.goes (λ right. k (named.Implies left right)) }

pub implies_stops0 : (level : ℕ) (left : Named) (t0 t1 tokens : Tokens) (s : Stop) → Starts (token.Keyword keyword.Implies) t0 t1 → level < 64 → Halts Named (Steps.implication (level + 1)) t1 tokens s → Halts Named (State.want (Due.implies level left)) t0 tokens s
implies_stops0 level left t0 t1 tokens (stop.Refused at why) s less h = record { stops = λ k. implies_step level left t0 t1 k s less ∙ h.stops (λ right. k (named.Implies left right)) }
implies_stops0 level left t0 t1 tokens stop.NoMemory s less h = tt

pub implies_left : (level : ℕ) (left : Named) (t0 : Tokens) → NoWord keyword.Implies t0 → Goes Named (State.want (Due.implies level left)) left t0 t0
implies_left level left t0 none = record { goes = λ k. skipped strict (is_word keyword.Implies) (State.want (Due.implies level left) k) (k left) refl (λ line t e. left_out strict (is_word keyword.Implies t) _ _ e) t0 none.away }

pub implication_read : (level : ℕ) (left : Named) (value : Named) (t0 t1 t2 : Tokens) → Goes Named (Steps.a_disjunction level []) left t0 t1 → Goes Named (State.want (Due.implies level left)) value t1 t2 → Goes Named (Steps.implication level) value t0 t2
implication_read level left value t0 t1 t2 h0 h1 = record { goes = λ k. h0.goes (λ left. State.want (Due.implies level left) (λ value. k value)) ∙ h1.goes (λ value. k value) }

pub implication_stops0 : (level : ℕ) (t0 tokens : Tokens) (s : Stop) → Halts Named (Steps.a_disjunction level []) t0 tokens s → Halts Named (Steps.implication level) t0 tokens s
implication_stops0 level t0 tokens (stop.Refused at why) h = record { stops = λ k. h.stops (λ left. State.want (Due.implies level left) (λ value. k value)) }
implication_stops0 level t0 tokens stop.NoMemory h = tt

pub implication_stops1 : (level : ℕ) (left : Named) (t0 t1 tokens : Tokens) (s : Stop) → Goes Named (Steps.a_disjunction level []) left t0 t1 → Halts Named (State.want (Due.implies level left)) t1 tokens s → Halts Named (Steps.implication level) t0 tokens s
implication_stops1 level left t0 t1 tokens (stop.Refused at why) h0 h = record { stops = λ k. h0.goes (λ left. State.want (Due.implies level left) (λ value. k value)) ∙ h.stops (λ value. k value) }
implication_stops1 level left t0 t1 tokens stop.NoMemory h0 h = tt

pub more_iff_begin : (level : ℕ) (parts : List Named) (ts : Tokens) → Leads Named (State.want (Due.more_iff level parts)) (State.want (Due.more_iff level parts)) ts ts
more_iff_begin level parts ts = record { leads = λ k. refl }

pub more_iff_more : (level : ℕ) (before parts : List Named) (part : Named) (ts mid t0 t1 : Tokens) → Leads Named (State.want (Due.more_iff level before)) (State.want (Due.more_iff level parts)) ts mid → Starts (token.Keyword keyword.Iff) mid t0 → Goes Named (Steps.implication level) part t0 t1 → Leads Named (State.want (Due.more_iff level before)) (State.want (Due.more_iff level (parts ++ part ∷ []))) ts t1
more_iff_more level before parts part ts mid t0 t1 l e h0 = record { leads = λ k. l.leads k ∙ ap (λ (x : Tokens). outcome strict x (State.want (Due.more_iff level parts) k)) e.is ∙ h0.goes (λ part. State.want (Due.more_iff level (parts ++ part ∷ [])) k) }

pub more_iff_stop0 : (level : ℕ) (before parts : List Named) (ts mid t0 tokens : Tokens) (s : Stop) → Leads Named (State.want (Due.more_iff level before)) (State.want (Due.more_iff level parts)) ts mid → Starts (token.Keyword keyword.Iff) mid t0 → Halts Named (Steps.implication level) t0 tokens s → Halts Named (State.want (Due.more_iff level before)) ts tokens s
more_iff_stop0 level before parts ts mid t0 tokens (stop.Refused at why) l e h = record { stops = λ k. l.leads k ∙ ap (λ (x : Tokens). outcome strict x (State.want (Due.more_iff level parts) k)) e.is ∙ h.stops (λ part. State.want (Due.more_iff level (parts ++ part ∷ [])) k) }
more_iff_stop0 level before parts ts mid t0 tokens stop.NoMemory l e h = tt

pub more_iff_done : (level : ℕ) (before parts : List Named) (ts rest : Tokens) → Leads Named (State.want (Due.more_iff level before)) (State.want (Due.more_iff level parts)) ts rest → NoWord keyword.Iff rest → Goes Named (State.want (Due.more_iff level before)) (equivalence parts) ts rest
more_iff_done level before parts ts rest l none = record { goes = λ k. l.leads k ∙ skipped strict (is_word keyword.Iff) (State.want (Due.more_iff level parts) k) (k (equivalence parts)) refl (λ line t e. left_out strict (is_word keyword.Iff t) _ _ e) rest none.away }

pub equivalence_read : (level : ℕ) (first : Named) (value : Named) (t0 t1 t2 : Tokens) → Goes Named (Steps.implication level) first t0 t1 → Goes Named (State.want (Due.more_iff level (first ∷ []))) value t1 t2 → Goes Named (Steps.an_equivalence level []) value t0 t2
equivalence_read level first value t0 t1 t2 h0 h1 = record { goes = λ k. h0.goes (λ first. State.want (Due.more_iff level (first ∷ [])) (λ value. k value)) ∙ h1.goes (λ value. k value) }

pub equivalence_stops0 : (level : ℕ) (t0 tokens : Tokens) (s : Stop) → Halts Named (Steps.implication level) t0 tokens s → Halts Named (Steps.an_equivalence level []) t0 tokens s
equivalence_stops0 level t0 tokens (stop.Refused at why) h = record { stops = λ k. h.stops (λ first. State.want (Due.more_iff level (first ∷ [])) (λ value. k value)) }
equivalence_stops0 level t0 tokens stop.NoMemory h = tt

pub equivalence_stops1 : (level : ℕ) (first : Named) (t0 t1 tokens : Tokens) (s : Stop) → Goes Named (Steps.implication level) first t0 t1 → Halts Named (State.want (Due.more_iff level (first ∷ []))) t1 tokens s → Halts Named (Steps.an_equivalence level []) t0 tokens s
equivalence_stops1 level first t0 t1 tokens (stop.Refused at why) h0 h = record { stops = λ k. h0.goes (λ first. State.want (Due.more_iff level (first ∷ [])) (λ value. k value)) ∙ h.stops (λ value. k value) }
equivalence_stops1 level first t0 t1 tokens stop.NoMemory h0 h = tt
