-- A question has one first request at most.
use Rattle.std.proofs.Common.{◌≡◌, ℕ, List, [], ◌∷◌, map, sym}
use Rattle.std.specs.List.{AllByRecursion}
use Rattle.std.proofs.Math.Path.{fun_ext}
use Rattle.sorted_logic.specs.declared.request.Field.{Field}
use Rattle.sorted_logic.specs.declared.request.Field.TheVariants as field
use Rattle.sorted_logic.specs.Field.{fields}
use Rattle.ios_config.specs.Request.{Request}
use Rattle.frame.specs.Question.{Question}
use Rattle.frame.specs.Scenario.{IsFirst, signature, values}
use Rattle.frame.proofs.Dictionary.{IsNotBehind-antisym, LexLe-antisym}

map_apart : (one other : Field → ℕ) (fs : List Field) → map one fs ≡ map other fs → AllByRecursion (λ f. one f ≡ other f) fs
map_apart one other [] same = tt
map_apart one other (f ∷ fs) same = (cc, map_apart one other fs cc)

-- a request is its values: it is a function of the fields, and these are all of them
pub same_request : (one other : Request) → values one ≡ values other → one ≡ other
same_request one other same = fun_ext (each (map_apart one other fields same))
  where
    each : AllByRecursion (λ f. one f ≡ other f) fields → (f : Field) → one f ≡ other f
    each all field.Entry = all.0
    each all field.SrcIn = all.1.0
    each all field.DstIn = all.1.1.0
    each all field.SportIn = all.1.1.1.0
    each all field.DportIn = all.1.1.1.1.0
    each all field.Proto = all.1.1.1.1.1.0
    each all field.Flags = all.1.1.1.1.1.1.0
    each all field.IcmpType = all.1.1.1.1.1.1.1.0
    each all field.IcmpCode = all.1.1.1.1.1.1.1.1.0
    each all field.SrcOut = all.1.1.1.1.1.1.1.1.1.0
    each all field.DstOut = all.1.1.1.1.1.1.1.1.1.1.0
    each all field.SportOut = all.1.1.1.1.1.1.1.1.1.1.1.0
    each all field.DportOut = all.1.1.1.1.1.1.1.1.1.1.1.1.0
    each all field.NextHop = all.1.1.1.1.1.1.1.1.1.1.1.1.1.0
    each all field.Exit = all.1.1.1.1.1.1.1.1.1.1.1.1.1.1.0

pub one_first : (question : Question) (request other : Request) → IsFirst question request → IsFirst question other → request ≡ other
one_first question request other is was =
    let same : signature question request ≡ signature question other =
    LexLe-antisym (signature question request) (signature question other) (is.least_signature other was.solves) (was.least_signature request is.solves) in
    same_request request other
    (IsNotBehind-antisym (values request) (values other) (is.least_values other was.solves (sym same)) (was.least_values request is.solves same))
