use Rattle.std.proofs.Common.{◌≡◌, None, [], ◌∷◌, ◌++◌, sym, ◌∙◌, ap, map}
use Rattle.std.specs.Str.{bytes_eq}
use Rattle.std.proofs.lemmas.List.{map-append}
use Rattle.std.specs.Map.{lookup}
use Rattle.indexmap.proofs.CallerLemmas.{insert_entry-new}
use Rattle.ios_nat.specs.Table.{Pool, pool_named}
use Rattle.ios_nat.proofs.Index.{absent}
use Rattle.ios_nat.proofs.PoolNames.{lookup_renamed}
use Rattle.ios_nat.proofs.pools.Pools.add.Goals as goal

pub returns-clause-added : goal.returns-clause-added
returns-clause-added c =
    let named = c.in_ok-name.ensures.items in
    let none : lookup (λ key. bytes_eq c.in_ok-name.name.items key.items) c.self.inside.ranges.entries ≡ None =
    sym (lookup_renamed (λ key. key.items) (bytes_eq c.in_ok-name.name.items) c.self.inside.ranges.entries) ∙ rw (named, c.bytes.ensures) (rw c.self.view_is (absent (pool_named c.args.self.now c.args.name.now) c.requires)) in
    let pushed = c.in_ok-insert.ensures.entries ∙ insert_entry-new (λ key other. bytes_eq key.items other.items) c.self.inside.ranges c.in_ok-name.name (c.args.first, c.args.last) none in
    ap (λ entries. map {B = Pool} (λ e. (e.0.items, e.1)) entries) pushed
    ∙ map-append {B = Pool} (λ e. (e.0.items, e.1)) c.self.inside.ranges.entries ((c.in_ok-name.name, (c.args.first, c.args.last)) ∷ [])
    ∙ (λ i. c.self.view_is i ++ ((named ∙ c.bytes.ensures) i, (c.args.first, c.args.last)) ∷ [])
