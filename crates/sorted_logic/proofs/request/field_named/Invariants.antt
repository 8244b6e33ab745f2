use Rattle.std.proofs.Common.{◌≡◌, drop}
use Rattle.std.specs.List.{find}
use Rattle.std.specs.Str.{bytes_eq}
use Rattle.sorted_logic.specs.Field.{field_name}
use Rattle.sorted_logic.proofs.request.field_named.Given as goal

-- the fields so far have other names
abbrev pub invariant-loop-field : goal.invariant-loop-field
invariant-loop-field l =
    find (λ f. bytes_eq l.name (field_name f)) (drop l.field-index l.fields) ≡ find (λ f. bytes_eq l.name (field_name f)) l.fields
