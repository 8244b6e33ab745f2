-- A table that grows: what its older diagrams keep.
use Rattle.std.proofs.Common.{◌≡◌, ℕ, ◌≤◌, Bool, List, refl, ◌∙◌, arith}
use Rattle.decision_diagram.specs.Tree.{Tree, leaf, branch, IsReduced}
use Rattle.decision_diagram.specs.Table.{Table, Extends, IsOf, LooksFrom, diagram, value_in}

pub extends_itself : (table : Table) → Extends table table
extends_itself table = record { bits = refl; longer = omega arith; older = λ d within. refl }

-- two extensions in a row are one
pub extends_twice : (first second third : Table) → Extends first second → Extends second third → Extends first third
extends_twice first second third before after = record {
  bits = after.bits ∙ before.bits;
  longer = omega (arith, before.longer, after.longer);
  older = λ d within. after.older d (omega (arith, within, before.longer)) ∙ before.older d within;
}

pub stays_within : (old new : Table) (d : ℕ) → Extends old new → IsOf old d → IsOf new d
stays_within old new d grown within = omega (arith, grown.longer, within)

pub value_stays : (old new : Table) (d : ℕ) (bits : List Bool) → Extends old new → IsOf old d → value_in new d bits ≡ value_in old d bits
value_stays old new d bits grown within = rw (grown.older d within) refl

-- an order that starts at a later bit starts at each one before it
pub reduced_earlier : (earlier first count : ℕ) (t : Tree) → earlier ≤ first → IsReduced first count t → IsReduced earlier count t
reduced_earlier earlier first count (leaf constant) before reduced = reduced
reduced_earlier earlier first count (branch bit low high) before reduced = (omega (arith, before, reduced.0), reduced.1, reduced.2, reduced.3, reduced.4)

pub looks_earlier : (table : Table) (earlier first d : ℕ) → earlier ≤ first → LooksFrom table first d → LooksFrom table earlier d
looks_earlier table earlier first d before looks = reduced_earlier earlier first table.bits (diagram table d) before looks

pub looks_later : (old new : Table) (first d : ℕ) → Extends old new → IsOf old d → LooksFrom old first d → LooksFrom new first d
looks_later old new first d grown within looks = rw (grown.bits, grown.older d within) looks
