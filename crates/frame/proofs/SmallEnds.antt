-- Ends of a list whose diagrams are small.
use Rattle.std.proofs.Common.{◌≡◌, ℕ, ◌+◌, ◌-◌, ◌<◌, ◌≤◌, List, [], length, drop, get_or, sym, subst, ◌∙◌, inl, inr, arith, if◌then◌else◌}
use Rattle.std.proofs.lemmas.List.{drop_all}
use Rattle.std.proofs.lemmas.Bool.{cases_lt}
use Rattle.ios_acl.specs.declared.entry.Entry.{Entry}
use Rattle.ios_acl.specs.Matching.{matches}
use Rattle.decision_diagram.specs.Tree.{IsReduced}
use Rattle.decision_diagram.specs.Table.{IsOf, IsTable, Table, diagram}
use Rattle.decision_diagram.specs.Listing.{size}
use Rattle.frame.specs.Meaning.{is_permit, permits}
use Rattle.frame.specs.PacketDiagrams.{AreDifferences, IsSmallIn, MeansIn}
use Rattle.frame.specs.SmallLists.{IsDiagramOf, IsGreatestSmallEnd, IsLarge, IsSmall}
use Rattle.frame.proofs.PermittedPackets.{permits_from}

pub means_permits : (most : ℕ) (table : Table) (entries : List Entry) (d : ℕ) → IsSmallIn most table entries d → MeansIn table d (permits entries)
means_permits most table entries d small = record { within = small.within; value = small.is.permitted }

-- an end from the first entry on is the list
pub means_whole : (most : ℕ) (table : Table) (entries : List Entry) (from d : ℕ) → from ≡ 0 → IsSmallIn most table (drop from entries) d → MeansIn table d (permits entries)
means_whole most table entries from d none small = means_permits most table entries d (subst (λ n. IsSmallIn most table (drop n entries) d) none small)

-- a diagram of the table with the meaning of a list is that list's
pub diagram_of : (table : Table) (entries : List Entry) (d : ℕ) → IsTable table → table.bits ≡ 126 → MeansIn table d (permits entries) → IsDiagramOf entries (diagram table d)
diagram_of table entries d is_table bits means = record {
  reduced = subst (λ n. IsReduced 0 n (diagram table d)) bits (is_table.reduced d means.within);
  permitted = means.value;
}

-- one entry more
pub one_more : (table : Table) (entries : List Entry) (from : ℕ) (missing : Entry) (d : ℕ) → 0 < from → from ≤ length entries
    → MeansIn table d (λ packet. if matches (get_or entries (from - 1) missing) packet then is_permit (get_or entries (from - 1) missing).verdict else permits (drop from entries) packet)
    → MeansIn table d (permits (drop (from - 1) entries))
one_more table entries from missing d some within means = record {
  within = means.within;
  value = λ bits packet is. means.value bits packet is ∙ permits_from entries from missing packet some within;
}

pub small_by : (most : ℕ) (table : Table) (entries : List Entry) (d nodes : ℕ) → IsTable table → table.bits ≡ 126 → MeansIn table d (permits entries) → size (diagram table d) ≤ nodes → nodes ≤ most → IsSmallIn most table entries d
small_by most table entries d nodes is_table bits means few small = record { within = means.within; is = diagram_of table entries d is_table bits means; small = omega (arith, few, small) }

pub small_as : (most : ℕ) (old new : Table) (entries : List Entry) (d e : ℕ) → IsOf new e → diagram new e ≡ diagram old d → IsDiagramOf entries (diagram old d) → size (diagram old d) ≤ most → IsSmallIn most new entries e
small_as most old new entries d e within same is small = record {
  within = within;
  is = subst (IsDiagramOf entries) (sym same) is;
  small = subst (λ t. size t ≤ most) (sym same) small;
}

-- all ends from a place on are small
abbrev pub AreSmallFrom : ℕ → List Entry → ℕ → Type 0
AreSmallFrom most entries from = (place : ℕ) → from ≤ place → place ≤ length entries → IsSmall most (drop place entries)

pub is_small : (most : ℕ) (table : Table) (entries : List Entry) (d : ℕ) → IsSmallIn most table entries d → IsSmall most entries
is_small most table entries d small = (diagram table d, small.is, small.small)

pub last_is_small : (most : ℕ) (table : Table) (entries : List Entry) (from d : ℕ) → from ≡ length entries → IsSmallIn most table [] d → AreSmallFrom most entries from
last_is_small most table entries from d at small = λ place after within.
    subst (IsSmall most) (sym (drop_all place entries (omega (arith, at, after)))) (is_small most table [] d small)

pub more_are_small : (most : ℕ) (table : Table) (entries : List Entry) (from before d : ℕ) → from + 1 ≡ before → AreSmallFrom most entries before → IsSmallIn most table (drop from entries) d → AreSmallFrom most entries from
more_are_small most table entries from before d next all small = λ place after within. elim (cases_lt from place) [
  | inl later ↦ all place (omega (arith, next, later)) within
  | inr not_later ↦ subst (λ n. IsSmall most (drop n entries)) (let same : from ≡ place = omega (arith, after, not_later) in same) (is_small most table (drop from entries) d small)
]

pub greatest : (most : ℕ) (entries : List Entry) (from : ℕ) → from ≤ length entries → AreSmallFrom most entries from → ((0 < from) → IsLarge most (drop (from - 1) entries)) → IsGreatestSmallEnd most entries from
greatest most entries from within all large = record {
  within = within;
  small = all;
  large = λ place next. subst (λ n. IsLarge most (drop n entries)) (let same : from - 1 ≡ place = omega (arith, next) in same) (large (omega (arith, next)));
}

-- two whole lists, and where they differ
pub lists_differ : (most : ℕ) (first second : List Entry) (one two table : Table) (one_root one_from two_root two_from only_first only_second : ℕ) → one_from ≡ 0 → two_from ≡ 0
    → IsSmallIn most one (drop one_from first) one_root → IsSmallIn most two (drop two_from second) two_root
    → ((first second : List Entry) → MeansIn one one_root (permits first) → MeansIn two two_root (permits second) → AreDifferences first second table only_first only_second)
    → AreDifferences first second table only_first only_second
lists_differ most first second one two table one_root one_from two_root two_from only_first only_second one_whole two_whole one_small two_small differ =
    differ first second (means_whole most one first one_from one_root one_whole one_small) (means_whole most two second two_from two_root two_whole two_small)
