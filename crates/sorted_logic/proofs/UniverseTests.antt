-- All tests of being a universe hold exactly where the table is one of the signature.
use Rattle.std.specs.Prelude.{◌≡◌, ◌↔◌, true, length}
use Rattle.std.specs.List.{list_all}
use Rattle.sorted_logic.specs.Finite.{Table, answers}
use Rattle.sorted_logic.specs.Inside.Evaluation.{all_below}
use Rattle.sorted_logic.specs.Inside.UniverseTests.{is_in_parent, are_apart, values_fit, relation_fits, numbers_fit, fits_numbers, fits_sorts, fits_symbols}
use Rattle.sorted_logic.specs.Signature.{Signature}
use Rattle.sorted_logic.specs.Universe.{IsUniverse}
use Rattle.sorted_logic.proofs.Below.{both_true}
use Rattle.sorted_logic.proofs.EvaluatedTruths.{within_size}
use Rattle.sorted_logic.proofs.UniverseNumbers.{numbers_of, of_numbers, differ, all_differ}
use Rattle.sorted_logic.proofs.UniverseSorts.{together, subsorts_in, in_subsorts, roots_apart, apart_roots, pairs_apart, apart_pairs}
use Rattle.sorted_logic.proofs.UniverseSymbols.{values_of_all, all_values, arguments_of, of_arguments, relations_of, of_relations}

module _ (table : Table) (sig : Signature) where
  fitting : fits_sorts (answers table) table.size sig ≡ true → fits_symbols table sig ≡ true → IsUniverse sig (answers table)
  fitting h k =
      let sorts : _ = both_true _ (fits_numbers (answers table) table.size sig) h in
      let roots : _ = both_true _ (list_all (λ pair. are_apart
      (answers table) table.size pair.0.0 pair.1.0) sig.disjoint) sorts.0 in
      let subsorts : _ = both_true (all_below (length sig.sorts)
      (is_in_parent (answers table) table.size sig.sorts)) _ roots.0 in
      let numbers : _ = both_true (all_below (length sig.sorts)
      (numbers_fit (answers table) table.size sig.sorts)) _ sorts.1 in
      let symbols : _ = both_true _ (all_below (length sig.relations) (relation_fits table sig.relations)) k in
      let functions : _ = both_true (all_below (length sig.functions)
      (values_fit (answers table) table.size sig.functions)) _ symbols.0 in
      record {
        subsorts = subsorts_in (answers table) table.size (within_size table) sig subsorts.0;
        roots = roots_apart (answers table) table.size (within_size table) sig subsorts.1;
        disjoint = pairs_apart (answers table) table.size (within_size table) sig.disjoint roots.1;
        values = values_of_all table sig functions.0;
        arguments = arguments_of table sig functions.1;
        relations = relations_of table sig symbols.1;
        numbers = numbers_of (answers table) table.size (within_size table) sig numbers.0;
        numbers_differ = differ (answers table) table.size (within_size table) sig numbers.1;
      }

  pub sorts_of : IsUniverse sig (answers table) → fits_sorts (answers table) table.size sig ≡ true
  sorts_of h = together _ _ (together _ _ (together _ _
      (in_subsorts (answers table) table.size (within_size table) sig h)
      (apart_roots (answers table) table.size (within_size table) sig h))
      (apart_pairs (answers table) table.size (within_size table) sig.disjoint h.disjoint))
      (together _ _ (of_numbers (answers table) table.size (within_size table) sig h)
      (all_differ (answers table) table.size (within_size table) sig h))

  symbols_of : IsUniverse sig (answers table) → fits_symbols table sig ≡ true
  symbols_of h = together _ _ (together _ _ (all_values table sig h) (of_arguments table sig h)) (of_relations table sig h)

  pub fits_exactly : fits_sorts (answers table) table.size sig ≡ true
      → (fits_symbols table sig ≡ true) ↔ IsUniverse sig (answers table)
  fits_exactly h = (fitting h, symbols_of)
