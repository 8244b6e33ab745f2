-- The first fault of items is the one of the first item, or the first of the others.
use Rattle.std.proofs.Common.{◌≡◌, ◌+◌, ℕ, Bool, true, false, Option, Some, None, List, ◌∷◌, refl, ap, sym, ◌∙◌, if◌then◌else◌}
use Rattle.std.specs.Option.{option_map}
use Rattle.certificates.specs.declared.derivation.Step.{Step}
use Rattle.certificates.specs.declared.derivation.Item.{Item}
use Rattle.certificates.specs.declared.derivation.Item.TheVariants as item
use Rattle.proof_check.specs.declared.fault.CheckFault.{CheckFault}
use Rattle.proof_check.specs.declared.fault.CheckFault.TheVariants as fault
use Rattle.proof_check.specs.Derivations.{by_option, is_in_range, step_fault, delete_fault, after_step, after_delete, first_fault}
use Rattle.proof_check.specs.Inside.Judging.{Checking, item_fault, after_item}

mapped : {A : Type 0} (o : Option ℕ) (f : ℕ → A) (others : Option A) → by_option o others (λ place. Some (f place)) ≡ by_option (option_map f o) others (λ a. Some a)
mapped None f others = refl
mapped (Some place) f others = refl

ranged : {A : Type 0} (b : Bool) (o : Option ℕ) (f : ℕ → A) (out : A) (others : Option A)
    → (if b then by_option o others (λ place. Some (f place)) else Some out) ≡ by_option (if b then option_map f o else Some out) others (λ a. Some a)
ranged true o f out others = mapped o f others
ranged false o f out others = refl

pub first_fault-cons : (c : Checking) (x : Item) (items : List Item)
    → first_fault c.vars c.progress (x ∷ items) ≡ by_option (item_fault c x) (first_fault c.vars (after_item c x).progress items) (λ a. Some a)
first_fault-cons c (item.Add step) items =
    ranged (is_in_range c.vars step.clause) (step_fault c.vars c.progress.live step) (λ place. fault.Hint (c.progress.steps + 1) place) (fault.VarRange (c.progress.steps + 1)) (first_fault c.vars (after_step c.progress step) items)
first_fault-cons c (item.Delete numbers) items =
    mapped (delete_fault c.progress.live numbers 1) (λ place. fault.NotLive (c.progress.items + 1) place) (first_fault c.vars (after_delete c.progress numbers) items)

pub hint_is_fault : (c : Checking) (step : Step) (place : ℕ) → is_in_range c.vars step.clause ≡ true → Some place ≡ step_fault c.vars c.progress.live step
    → item_fault c (item.Add step) ≡ Some (fault.Hint (c.progress.steps + 1) place)
hint_is_fault c step place ranged e =
    let of_place : ℕ → CheckFault = λ k. fault.Hint (c.progress.steps + 1) k in
    ap (λ b. if b then option_map of_place (step_fault c.vars c.progress.live step) else Some (fault.VarRange (c.progress.steps + 1))) ranged ∙ ap (option_map of_place) (sym e)

pub step_is_right : (c : Checking) (step : Step) → is_in_range c.vars step.clause ≡ true → None ≡ step_fault c.vars c.progress.live step → item_fault c (item.Add step) ≡ None
step_is_right c step ranged e =
    let of_place : ℕ → CheckFault = λ k. fault.Hint (c.progress.steps + 1) k in
    ap (λ b. if b then option_map of_place (step_fault c.vars c.progress.live step) else Some (fault.VarRange (c.progress.steps + 1))) ranged ∙ ap (option_map of_place) (sym e)
