-- A diagram of another table in this one: the copy that is read at a diagram's place.
use Rattle.std.proofs.Common.{◌≡◌, ℕ, ◌<◌, List, length, get_or, Option, Some, ◌∙◌, arith}
use Rattle.decision_diagram.specs.Table.{Table, IsOf, diagram}
use Rattle.decision_diagram.specs.Inside.Copying.{AreAdopted, copy_at}
use Rattle.decision_diagram.proofs.Copying.{read_at}

pub adopted_before : (source table : Table) (copies : List (Option ℕ)) (root place copy : ℕ) (found : Option ℕ) → AreAdopted source table copies → IsOf source root →
    place ≡ root → found ≡ get_or copies place found → found ≡ Some copy → IsOf table copy × (diagram table copy ≡ diagram source root)
adopted_before source table copies root place copy found are within is read some =
    let at : root < length copies = omega (arith, within, are.count) in
    let there : copy_at copies root ≡ Some copy = read_at copies root place found is at read ∙ some in
    (are.within root copy there, are.same root copy there)
