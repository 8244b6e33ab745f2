-- What holds of truth, of sorts and of finite universes, whatever the universe is.
use Rattle.std.specs.Prelude.{◌≡◌, ◌<◌, ◌↔◌, ℕ, Bool, true, false, ◌&&◌, ◌==◌, if◌then◌else◌, List, [], ◌∷◌, ◌++◌, ◌⊎◌, Some, None, IsTrue, length}
use Rattle.std.specs.Str.{bytes_eq}
use Rattle.sorted_logic.specs.declared.request.Field.{Field}
use Rattle.sorted_logic.specs.declared.term.Sort.{Sort}
use Rattle.sorted_logic.specs.Base.{base, field_sort}
use Rattle.sorted_logic.specs.Field.{bits}
use Rattle.sorted_logic.specs.Finite.{Table, answers, with_value}
use Rattle.sorted_logic.specs.Numbers.{is_numeric, true_on, Carry}
use Rattle.sorted_logic.specs.Signature.{Signature, IsSignature, may_overlap, sort_bits}
use Rattle.sorted_logic.specs.Sorting.{IsWellSorted, first_fault}
use Rattle.sorted_logic.specs.Syntax.{FormulaTree, equals, no_equals, PolicyAtom}
use Rattle.sorted_logic.specs.Trees.{equivalence}
use Rattle.sorted_logic.specs.Truth.{Policies, HasTruthValue}
use Rattle.sorted_logic.specs.Universe.{Universe, IsUniverse}
use Rattle.sorted_logic.specs.Variables.{AgreeOn}

-- of policies: nothing is said to be both true and false
abbrev pub NeverContradict : Policies → Type 0
NeverContradict policies = (atom : PolicyAtom) (elements : List ℕ) → policies atom true elements → policies atom false elements → ⊥

-- of policies: everything is said to be true or false
abbrev pub DecideAll : Policies → Type 0
DecideAll policies = (atom : PolicyAtom) (elements : List ℕ) → policies atom true elements ⊎ policies atom false elements

-- nothing is both true and false
abbrev pub IsNeverBoth : Universe → Policies → Type 0
IsNeverBoth u policies = NeverContradict policies → (f : FormulaTree) (env : List ℕ)
    → HasTruthValue u policies f true env → HasTruthValue u policies f false env → ⊥

-- over a finite universe everything is one of them
abbrev pub IsDecided : Policies → Type 0
IsDecided policies = DecideAll policies → (table : Table) (f : FormulaTree) (env : List ℕ)
    → HasTruthValue (answers table) policies f true env ⊎ HasTruthValue (answers table) policies f false env

-- truth looks at the variables that occur alone
abbrev pub LooksAtOccurring : Universe → Policies → Type 0
LooksAtOccurring u policies = (f : FormulaTree) (value : Bool) (env other : List ℕ) → length env ≡ length other
    → AgreeOn f env other → HasTruthValue u policies f value env → HasTruthValue u policies f value other

-- what is said of numbers alone is true exactly where it is true of the numbers, and false exactly where it is not
abbrev pub IsOfNumbers : Universe → Policies → Type 0
IsOfNumbers u policies = (sig : Signature) → IsSignature sig → IsUniverse sig u
    → (f : FormulaTree) (vars : List Sort) (env numbers : List ℕ) → IsTrue (is_numeric sig vars f)
    → IsWellSorted sig vars f → Carry sig u vars env numbers
    → (value : Bool) → HasTruthValue u policies f value env ↔ (true_on f numbers ≡ value)

-- sorts that share an element may overlap
abbrev pub SharersOverlap : Universe → Type 0
SharersOverlap u = (sig : Signature) → IsSignature sig → IsUniverse sig u → (s t e : ℕ) → s < length sig.sorts
    → t < length sig.sorts → IsTrue (u.has s e) → IsTrue (u.has t e) → IsTrue (may_overlap sig s t)

-- an IFF of two parts is true where both are true or both are false, and false where one is true and the other false
abbrev pub IsIffOfTwo : Universe → Policies → Type 0
IsIffOfTwo u policies = (f g : FormulaTree) (env : List ℕ)
    → (HasTruthValue u policies (equals f (equals g no_equals)) true env
    ↔ ((HasTruthValue u policies f true env × HasTruthValue u policies g true env)
    ⊎ (HasTruthValue u policies f false env × HasTruthValue u policies g false env)))
    × (HasTruthValue u policies (equals f (equals g no_equals)) false env
    ↔ ((HasTruthValue u policies f true env × HasTruthValue u policies g false env)
    ⊎ (HasTruthValue u policies f false env × HasTruthValue u policies g true env)))

-- a longer one is the IFF of all parts but the last, and the last
abbrev pub IsGroupedLeft : Universe → Policies → Type 0
IsGroupedLeft u policies = (parts : List FormulaTree) (last : FormulaTree) (value : Bool) (env : List ℕ)
    → HasTruthValue u policies (equivalence (parts ++ last ∷ [])) value env
    ↔ HasTruthValue u policies (equals (equivalence parts) (equals last no_equals)) value env

-- a formula has no fault exactly where it is well-sorted
abbrev pub IsFaultless : Type 0
IsFaultless = (sig : Signature) (vars : List Sort) (f : FormulaTree)
    → (first_fault sig vars f ≡ None) ↔ IsWellSorted sig vars f

-- what was put last at some elements is the value there, and all other values are as before
abbrev pub LastIsAnswered : Type 0
LastIsAnswered = (table : Table) (f : ℕ) (elements : List ℕ) (e : ℕ) → f < length table.values
    → (g : ℕ) (others : List ℕ) → (answers (with_value table f elements e)).value g others
    ≡ (if g == f && bytes_eq elements others then Some e else (answers table).value g others)

-- the fields' sorts in the base signature have the fields' bits
abbrev pub FieldsHaveBits : Type 0
FieldsHaveBits = (f : Field) → sort_bits base (field_sort f) ≡ Some (bits f)
