-- The texts of statements.
use Rattle.std.specs.Prelude.{ℕ, ◌+◌, Bool, true, false, List, ◌++◌, length, Option, Some, None, codes}
use Rattle.std.specs.Fmt.{decimal}
use Rattle.std.specs.List.{flat_map}
use Rattle.ios_acl.specs.declared.entry.Verdict.{Verdict}
use Rattle.ios_acl.specs.declared.entry.Verdict.TheVariants as verdict
use Rattle.sorted_logic.specs.declared.request.Field.{Field}
use Rattle.sorted_logic.specs.Field.{field_name, fields}
use Rattle.ios_config.specs.Request.{Request}
use Rattle.frame.specs.declared.question.Test.{Test}
use Rattle.frame.specs.Question.{passes}
use Rattle.frame.specs.Scenario.{visible}
use Rattle.ios_config.specs.Router.{Router}
use Rattle.ios_nat.specs.Table.{Table}
use Rattle.session.specs.Library.{defined_lists}
use Rattle.session.specs.Value.{pattern_text, value_text}
use Rattle.session.specs.declared.counts.Counts.{Counts}

-- a field and its value
abbrev pub value_line : List (List ℕ) → Request → Field → List ℕ
value_line names request f =
    codes "  " ++ (field_name f ++ (codes " = " ++ (value_text names f (request f) ++ codes "\n")))

-- before a test: a plus where the request passes it, and a minus where not
abbrev pub sign : Bool → List ℕ
sign true = codes "  + "
sign false = codes "  - "

-- a test, and whether the request passes it
abbrev pub test_line : Request → Test → List ℕ
test_line request test =
    sign (passes request test)
    ++ (field_name test.field ++ (codes " IN " ++ (pattern_text test.field test.pattern ++ codes "\n")))

-- the first scenario: a line for each field of the request, in their order, and one for each visible test; where these
-- names of interfaces are known
unfoldable pub scenario : List (List ℕ) → List Test → Request → List ℕ
scenario names tests request =
    codes "scenario 1\n"
    ++ (flat_map (value_line names request) fields ++ flat_map (test_line request) (visible tests))

-- that no request answers the question
unfoldable pub no_scenario : List ℕ
no_scenario = codes "no scenario\n"

abbrev pub verdict_text : Verdict → List ℕ
verdict_text verdict.Permit = codes "permit"
verdict_text verdict.Deny = codes "deny"

-- the number of the entry that decides, or that none does
abbrev pub entry_text : Option ℕ → List ℕ
entry_text (Some number) = decimal number
entry_text None = codes "default"

-- how a packet is decided, and by which entry
unfoldable pub decision_line : Verdict × Option ℕ → List ℕ
decision_line decided =
    verdict_text decided.0 ++ (codes " by " ++ (entry_text decided.1 ++ codes "\n"))

-- how many interfaces, lists and translations a router has
unfoldable pub parts_text : Counts → List ℕ
parts_text counts =
    decimal counts.interfaces ++ (codes " interfaces, "
    ++ (decimal counts.lists ++ (codes " lists, "
    ++ (decimal counts.translations ++ codes " translations"))))

-- a router that was loaded under this name, with so many of each
unfoldable pub loaded_line : List ℕ → Counts → List ℕ
loaded_line name counts =
    codes "loaded " ++ (name ++ (codes ": "
    ++ (parts_text counts ++ (codes ", "
    ++ (decimal counts.routes ++ (codes " routes, "
    ++ (decimal counts.ignored ++ codes " lines ignored\n")))))))

-- the entries of a table of address translation, static and dynamic
abbrev pub translation_count : Table → ℕ
translation_count table = length table.ports + length table.addresses + length table.dynamic

-- what is told of a router: its interfaces, its lists that have an entry, its translations, its static routes, and the
-- lines that were ignored
abbrev pub counts_of : Router → Counts
counts_of router = record {
  interfaces = length router.interfaces;
  lists = length (defined_lists router);
  translations = translation_count router.nat;
  routes = router.static_routes;
  ignored = router.ignored;
}

abbrev pub router_line : List ℕ → Router → List ℕ
router_line name router = loaded_line name (counts_of router)
