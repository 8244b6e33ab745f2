-- The order of a script's statements, as they are carried out.
use Rattle.std.proofs.Common.{◌≡◌, ℕ, Bool, true, false, not, ◌||◌, List, ◌∷◌, Option, Some, None, is_some, refl, sym, ◌∙◌}
use Rattle.std.proofs.lemmas.Bool.{and_parts, false≢true}
use Rattle.query_lang.specs.declared.script.Kind.{Kind}
use Rattle.query_lang.specs.declared.script.Statement.{Statement}
use Rattle.query_lang.specs.Rules.{Rules}
use Rattle.query_lang.specs.Scripts as scripts
use Rattle.query_lang.specs.Statements.{IsCommand, load_vocab, load_policy, load_ios, load_iptables, compare, decide, generate, link, path, audit, core}
use Rattle.query_lang.specs.Words.{Tokens}
use Rattle.session.specs.Order.{is_explore, is_ordered, is_show}
use Rattle.session.specs.Steps.{State, Carries, loads, explores, shows, decides}

or_false : (b : Bool) → (b || false) ≡ b
or_false true = refl
or_false false = refl

or_true : (b : Bool) → (b || true) ≡ true
or_true true = refl
or_true false = refl

-- a question is asked behind a statement where one was before, or it explores
asked_after : (told : List ℕ → Option (List ℕ)) (state : State) (what : Kind) (pieces : List (List ℕ)) (new : State) → Carries told state what pieces new → is_some new.question ≡ (is_some state.question || is_explore what)
asked_after told state _ _ _ (loads file name bytes router free gives reads) = sym (or_false (is_some state.question))
asked_after told state _ _ _ (explores explore question found known is_asked named fit) = sym (or_true (is_some state.question))
asked_after told state _ _ _ (shows question text kept shown) = sym (or_false (is_some state.question))
asked_after told state _ _ _ (decides list packet found is named eight fit are) = sym (or_false (is_some state.question))

pub rest_ordered : (told : List ℕ → Option (List ℕ)) (state : State) (statement : Statement) (pieces : List (List ℕ)) (new : State) → Carries told state statement.kind pieces new → (statements : List Statement) → is_ordered (is_some state.question) (statement ∷ statements) ≡ true → is_ordered (is_some new.question) statements ≡ true
rest_ordered told state statement pieces new carries statements ordered =
    rw (asked_after told state statement.kind pieces new carries) (and_parts _ _ ordered).1

pub first_ordered : (asked : Bool) (statement : Statement) (statements : List Statement) → is_ordered asked (statement ∷ statements) ≡ true → (not (is_show statement.kind) || asked) ≡ true
first_ordered asked statement statements ordered = (and_parts _ _ ordered).0

-- no command asks or explores
command_is_plain : (what : Kind) (tokens rest : Tokens) → IsCommand what tokens rest → (is_show what ≡ false) × (is_explore what ≡ false)
command_is_plain _ _ _ (load_vocab h i j file rest) = (refl, refl)
command_is_plain _ _ _ (load_policy h i j file rest) = (refl, refl)
command_is_plain _ _ _ (load_ios h i j k l file text rest) = (refl, refl)
command_is_plain _ _ _ (load_iptables h i j k l file text rest) = (refl, refl)
command_is_plain _ _ _ (compare line left right tokens others rest first second) = (refl, refl)
command_is_plain _ _ _ (decide h i j list packet tokens others rest is_list are) = (refl, refl)
command_is_plain _ _ _ (generate h i j k l n seed text rest first second) = (refl, refl)
command_is_plain _ _ _ (link h i j k l m from from_interface to to_interface rest) = (refl, refl)
command_is_plain _ _ _ (path h i j k l m n o from from_interface to to_interface within rest is) = (refl, refl)
command_is_plain _ _ _ (audit line list tokens rest is) = (refl, refl)
command_is_plain _ _ _ (core h i j k list verdict tests tokens others rest is are) = (refl, refl)

-- the statements of a script are in order
pub are_ordered : (rules : Rules) → rules.asks ≡ false → (explored : Option ℕ) (statements : List Statement) (tokens : Tokens) → scripts.AreStatements rules explored statements tokens → is_ordered (is_some explored) statements ≡ true
are_ordered rules off _ _ _ (scripts.none explored) = refl
are_ordered rules off _ _ _ (scripts.ask None line what first statements tokens rest may is more) = absurd (false≢true (sym off ∙ may))
are_ordered rules off _ _ _ (scripts.ask (Some explored) line what first statements tokens rest may is more) =
    rw (or_true (not (is_show what))) (are_ordered rules off (Some explored) statements rest more)
are_ordered rules off _ _ _ (scripts.explore explored line what first statements tokens rest elsewhere is more) =
    rw (or_true (is_some explored)) (are_ordered rules off (Some first.line) statements rest more)
are_ordered rules off _ _ _ (scripts.command explored line what first statements tokens rest is more) =
    let plain = command_is_plain what _ _ is in
    rw (plain.0, plain.1, or_false (is_some explored)) (are_ordered rules off explored statements rest more)
