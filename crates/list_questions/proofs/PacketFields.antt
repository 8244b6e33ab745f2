-- A name is that of one field of the packet at most.
use Rattle.std.proofs.Common.{◌≡◌, ℕ, suc, Bool, true, false, cond, List, [], ◌∷◌, Option, Some, None, sym, refl, subst, arith}
use Rattle.std.specs.List.{find, Contains, AllByRecursion}
use Rattle.std.specs.Option.{IfSome, IfNone}
use Rattle.std.specs.Str.{bytes_eq}
use Rattle.std.proofs.lemmas.List.Elements.{All-contains, All-from_recursion}
use Rattle.std.proofs.lemmas.Slice.Eq.{bytes_eq-Decides}
use Rattle.sorted_logic.specs.declared.request.Field.{Field}
use Rattle.sorted_logic.specs.Field.{IsNamed, field_name, packet_fields}
use Rattle.list_questions.specs.Shapes.{packet_field}

record IsFound {X : Type 0} (p : X → Bool) (xs : List X) (y : X) : Type 0 where
  within : Contains xs y
  passes : p y ≡ true

-- what is found is in the list, and passes
found : {X : Type 0} (p : X → Bool) (xs : List X) (y : X) → find p xs ≡ Some y → IsFound p xs y
found p [] y is = cc
found {X} p (x ∷ xs) y is =
    let cases = elim (p x) as (λ b. p x ≡ b → cond b (Some x) (find p xs) ≡ Some y → IsFound p (x ∷ xs) y) [
      | true ↦ λ passes same.
          let e : x ≡ y = cc in
          record { within = (0, omega arith, e); passes = subst (λ (z : X). p z ≡ true) e passes }
      | false ↦ λ fails later.
          let behind = found p xs y later in
          record { within = (suc behind.within.0, omega (arith, behind.within.1), behind.within.2); passes = behind.passes }
    ] in
    cases refl is

pub packet_field_named : (name : List ℕ) (f : Field) → packet_field name ≡ Some f → IsNamed name f
packet_field_named name f is =
    let got = found (λ g. bytes_eq name (field_name g)) packet_fields f is in
    record { of_packet = got.within; named = (bytes_eq-Decides name (field_name f)).0 got.passes }

pub named_packet_field : (name : List ℕ) (f : Field) → IsNamed name f → packet_field name ≡ Some f
named_packet_field name f is =
    let each : AllByRecursion (λ g. packet_field (field_name g) ≡ Some g) packet_fields = (refl, (refl, (refl, (refl, (refl, (refl, (refl, (refl, tt)))))))) in
    let own = All-contains (λ g. packet_field (field_name g) ≡ Some g) packet_fields f (All-from_recursion (λ g. packet_field (field_name g) ≡ Some g) packet_fields each) is.of_packet in
    rw is.named own

pub packet_field_is : (name : List ℕ) (r : Option Field) → IfSome r (IsNamed name) → IfNone r ((f : Field) → IsNamed name f → ⊥) → r ≡ packet_field name
packet_field_is name (Some f) some none = sym (named_packet_field name f some)
packet_field_is name None some none =
    elim (packet_field name) as (λ o. packet_field name ≡ o → None ≡ o) [
      | Some f ↦ λ is. absurd (none f (packet_field_named name f is))
      | None ↦ λ is. refl
    ] refl
