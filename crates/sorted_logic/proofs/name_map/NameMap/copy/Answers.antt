use Rattle.std.proofs.Common.{rules, ◌≡◌, Some, slice_get, take, sym, ap, ◌∙◌}
use Rattle.sorted_logic.specs.Inside.Kept.{meaning}
use Rattle.sorted_logic.proofs.NameMaps.{new_at, seen_at, take_one}
use Rattle.sorted_logic.proofs.name_map.NameMap.copy.Goals as goal
use Rattle.sorted_logic.proofs.name_map.NameMap.copy.Goals.{in-Some+in_ok-put, in_default}

pub put-requires : goal.put-requires
put-requires c =
    let at : slice_get c.self.inside.symbols.entries c.loop-place.place ≡ Some (c.in-Some.name.now, c.in-Some.symbol.now) = search rules in
    ap (meaning c.loop-place.copy) c.as_slice.ensures.value
    ∙ ap (λ map. meaning map c.in-Some.name.now.items) (c.loop-place.invariant ∙ ap (take c.loop-place.place) (sym c.self.view_is))
    ∙ new_at (λ key. key.items) c.self.inside.symbols.entries c.loop-place.place (c.in-Some.name.now, c.in-Some.symbol.now)
    c.len-place-end.ensures.unique at

pub loop-place-preserved : goal.loop-place-preserved
loop-place-preserved c = elim c.match-get_index.branch [
  | in-Some+in_ok-put w ↦
      let at : slice_get c.self.inside.symbols.entries c.loop-place.place ≡ Some (w.in-Some.name.now, w.in-Some.symbol.now) = search rules in
      search (
        rules,
        take_one c.args.self.now c.loop-place.place _
            (ap (λ map. slice_get map c.loop-place.place) (sym c.self.view_is) ∙ seen_at (λ key. key.items) c.self.inside.symbols.entries c.loop-place.place _ at),
      )
  | in_default w ↦ search rules
]
