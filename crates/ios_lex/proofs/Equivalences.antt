-- Facts that follow from each other.
use Rattle.std.proofs.Common.{◌↔◌}

pub iff_sym : {A B : Type 0} → A ↔ B → B ↔ A
iff_sym same = (same.1, same.0)

pub iff_trans : {A B C : Type 0} → A ↔ B → B ↔ C → A ↔ C
iff_trans first second = (λ a. second.0 (first.0 a), λ c. first.1 (second.1 c))

pub iff_both : {A B C D : Type 0} → A ↔ C → B ↔ D → (A × B) ↔ (C × D)
iff_both first second = (λ h. (first.0 h.0, second.0 h.1), λ h. (first.1 h.0, second.1 h.1))

-- what is refuted on both sides
pub iff_neither : {A B : Type 0} → (A → ⊥) → (B → ⊥) → A ↔ B
iff_neither no_first no_second = (λ a. absurd (no_first a), λ b. absurd (no_second b))
