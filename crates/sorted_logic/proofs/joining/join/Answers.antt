use Rattle.std.proofs.Common.{rules, ◌≡◌, ◌++◌, false, length, map, sym, ap, subst, ◌∙◌}
use Rattle.std.specs.List.{AllByRecursion}
use Rattle.sorted_logic.specs.Adding.{with_sorts}
use Rattle.sorted_logic.specs.Inside.Joins.{places, sort_by, function_by, relation_by, pair_by, new_sorts, new_functions, new_relations, with_functions, with_relations, with_pairs}
use Rattle.sorted_logic.specs.Joining.{clash, moved_sort}
use Rattle.sorted_logic.specs.Signature.{AreBits}
use Rattle.sorted_logic.proofs.JoinedSignatures.{sorts_moved, bits_of_join, hierarchy_of_join, functions_fit, relations_fit, pairs_fit, built}
use Rattle.sorted_logic.proofs.joining.join.Goals as goal

pub add_sorts-requires-clause-hierarchy : goal.add_sorts-requires-clause-hierarchy
add_sorts-requires-clause-hierarchy c =
    let apart : clash c.args.a.now c.args.b.now ≡ false = search rules in
    let made : c.as_slice.result.now ≡ places c.args.a.now (length c.args.a.now.sorts) c.args.b.now.sorts = search rules in
    let decls : c.as_slice-2.result.now ≡ map (sort_by c.as_slice.result.now) (new_sorts c.args.a.now c.args.b.now.sorts) = search rules in
    let moved : c.as_slice-2.result.now ≡ map (moved_sort c.args.a.now c.args.b.now) (new_sorts c.args.a.now c.args.b.now.sorts) =
    decls ∙ ap (λ p. map (sort_by p) (new_sorts c.args.a.now c.args.b.now.sorts)) made ∙ sorts_moved c.args.a.now c.args.b.now c.signature_is_kept-2.ensures in
    rw (c.in_ok-joined.ensures, moved)
    (hierarchy_of_join c.args.a.now c.args.b.now c.signature_is_kept.ensures c.signature_is_kept-2.ensures apart)

pub add_sorts-requires-clause-bits : goal.add_sorts-requires-clause-bits
add_sorts-requires-clause-bits c =
    let made : c.as_slice.result.now ≡ places c.args.a.now (length c.args.a.now.sorts) c.args.b.now.sorts = search rules in
    let decls : c.as_slice-2.result.now ≡ map (sort_by c.as_slice.result.now) (new_sorts c.args.a.now c.args.b.now.sorts) = search rules in
    subst (AllByRecursion AreBits) (sym (decls ∙ ap (λ p. map (sort_by p) (new_sorts c.args.a.now c.args.b.now.sorts)) made
    ∙ sorts_moved c.args.a.now c.args.b.now c.signature_is_kept-2.ensures)) (bits_of_join c.args.a.now c.args.b.now c.signature_is_kept-2.ensures)

pub add_functions-requires : goal.add_functions-requires
add_functions-requires c =
    let apart : clash c.args.a.now c.args.b.now ≡ false = search rules in
    let made : c.as_slice.result.now ≡ places c.args.a.now (length c.args.a.now.sorts) c.args.b.now.sorts = search rules in
    let decls : c.as_slice-2.result.now ≡ map (sort_by c.as_slice.result.now) (new_sorts c.args.a.now c.args.b.now.sorts) = search rules in
    let sorts : c.add_sorts.new.self ≡ with_sorts c.args.a.now c.as_slice-2.result.now = search rules in
    let again : c.as_slice-3.result.now ≡ c.as_slice.result.now = search rules in
    functions_fit c.args.a.now c.args.b.now c.signature_is_kept.ensures c.signature_is_kept-2.ensures apart _ (again ∙ made) _
    (ap (λ s. s.sorts) sorts ∙ ap (λ d. c.args.a.now.sorts ++ d) (decls ∙ ap (λ p. map (sort_by p) (new_sorts c.args.a.now c.args.b.now.sorts)) made
    ∙ sorts_moved c.args.a.now c.args.b.now c.signature_is_kept-2.ensures))

pub add_relations-requires : goal.add_relations-requires
add_relations-requires c =
    let apart : clash c.args.a.now c.args.b.now ≡ false = search rules in
    let made : c.as_slice.result.now ≡ places c.args.a.now (length c.args.a.now.sorts) c.args.b.now.sorts = search rules in
    let decls : c.as_slice-2.result.now ≡ map (sort_by c.as_slice.result.now) (new_sorts c.args.a.now c.args.b.now.sorts) = search rules in
    let sorts : c.add_sorts.new.self ≡ with_sorts c.args.a.now c.as_slice-2.result.now = search rules in
    let functions : c.add_functions.new.joined ≡ with_functions c.add_sorts.new.self
    (map (function_by c.as_slice-3.result.now) (new_functions c.args.a.now c.args.b.now.functions)) = search rules in
    let again : c.as_slice-4.result.now ≡ c.as_slice.result.now = search rules in
    relations_fit c.args.a.now c.args.b.now c.signature_is_kept.ensures c.signature_is_kept-2.ensures apart _ (again ∙ made) _
    (ap (λ s. s.sorts) functions ∙ ap (λ s. s.sorts) sorts
    ∙ ap (λ d. c.args.a.now.sorts ++ d) (decls ∙ ap (λ p. map (sort_by p) (new_sorts c.args.a.now c.args.b.now.sorts)) made
    ∙ sorts_moved c.args.a.now c.args.b.now c.signature_is_kept-2.ensures))

pub add_pairs-requires : goal.add_pairs-requires
add_pairs-requires c =
    let apart : clash c.args.a.now c.args.b.now ≡ false = search rules in
    let made : c.as_slice.result.now ≡ places c.args.a.now (length c.args.a.now.sorts) c.args.b.now.sorts = search rules in
    let decls : c.as_slice-2.result.now ≡ map (sort_by c.as_slice.result.now) (new_sorts c.args.a.now c.args.b.now.sorts) = search rules in
    let sorts : c.add_sorts.new.self ≡ with_sorts c.args.a.now c.as_slice-2.result.now = search rules in
    let functions : c.add_functions.new.joined ≡ with_functions c.add_sorts.new.self
    (map (function_by c.as_slice-3.result.now) (new_functions c.args.a.now c.args.b.now.functions)) = search rules in
    let relations : c.add_relations.new.joined ≡ with_relations c.add_functions.new.joined
    (map (relation_by c.as_slice-4.result.now) (new_relations c.args.a.now c.args.b.now.relations)) = search rules in
    let again : c.as_slice-5.result.now ≡ c.as_slice.result.now = search rules in
    pairs_fit c.args.a.now c.args.b.now c.signature_is_kept.ensures c.signature_is_kept-2.ensures apart _ (again ∙ made) _
    (ap (λ s. s.sorts) relations ∙ ap (λ s. s.sorts) functions ∙ ap (λ s. s.sorts) sorts
    ∙ ap (λ d. c.args.a.now.sorts ++ d) (decls ∙ ap (λ p. map (sort_by p) (new_sorts c.args.a.now c.args.b.now.sorts)) made
    ∙ sorts_moved c.args.a.now c.args.b.now c.signature_is_kept-2.ensures))

pub returns-clause-joined : goal.returns-clause-joined
returns-clause-joined c =
    let made : c.as_slice.result.now ≡ places c.args.a.now (length c.args.a.now.sorts) c.args.b.now.sorts = search rules in
    let decls : c.as_slice-2.result.now ≡ map (sort_by c.as_slice.result.now) (new_sorts c.args.a.now c.args.b.now.sorts) = search rules in
    let sorts : c.add_sorts.new.self ≡ with_sorts c.args.a.now c.as_slice-2.result.now = search rules in
    let functions : c.add_functions.new.joined ≡ with_functions c.add_sorts.new.self
    (map (function_by c.as_slice.result.now) (new_functions c.args.a.now c.args.b.now.functions)) = search rules in
    let relations : c.add_relations.new.joined ≡ with_relations c.add_functions.new.joined
    (map (relation_by c.as_slice.result.now) (new_relations c.args.a.now c.args.b.now.relations)) = search rules in
    let pairs : c.add_pairs.new.joined ≡ with_pairs c.add_relations.new.joined (map (pair_by c.as_slice.result.now) c.args.b.now.disjoint) = search rules in
    rw (pairs, relations, functions, sorts, decls) (built c.args.a.now c.args.b.now c.signature_is_kept-2.ensures c.as_slice.result.now made)
