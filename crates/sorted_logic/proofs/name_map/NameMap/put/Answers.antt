use Rattle.std.proofs.Common.{◌≡◌, ◌∙◌, sym, ap, map, None, ◌∷◌, ◌++◌, []}
use Rattle.std.specs.Map.{lookup}
use Rattle.std.specs.Str.{bytes_eq}
use Rattle.indexmap.proofs.CallerLemmas.{insert_entry-new}
use Rattle.sorted_logic.specs.Inside.Kept.{meaning}
use Rattle.sorted_logic.proofs.NameMaps.{looked_up, seen, seen_push}
use Rattle.sorted_logic.proofs.name_map.NameMap.put.Goals as goal

pub returns-clause-added : goal.returns-clause-added
returns-clause-added c =
    let items : c.in_ok-key.key.items ≡ c.args.name.now = c.in_ok-key.ensures.items in
    let none : lookup (λ key. bytes_eq c.in_ok-key.key.items key.items) c.self.inside.symbols.entries ≡ None =
    rw items (sym (looked_up (λ key. key.items) c.args.name.now c.self.inside.symbols.entries)
    ∙ ap (λ map. meaning map c.args.name.now) c.self.view_is ∙ c.requires) in
    ap (map (seen (λ key. key.items))) (c.in_ok-insert.ensures.entries
    ∙ insert_entry-new (λ key other. bytes_eq key.items other.items) c.self.inside.symbols c.in_ok-key.key c.args.symbol none)
    ∙ seen_push (λ key. key.items) c.self.inside.symbols.entries c.in_ok-key.key c.args.symbol c.args.name.now items
    ∙ ap (λ before. before ++ (record { name = c.args.name.now; symbol = c.args.symbol }) ∷ []) c.self.view_is
