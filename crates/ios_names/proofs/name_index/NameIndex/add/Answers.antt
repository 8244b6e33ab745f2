use Rattle.std.proofs.Common.{◌≡◌, ◌∙◌, sym, true, false, None}
use Rattle.std.specs.Map.{lookup}
use Rattle.std.specs.Str.{bytes_eq}
use Rattle.indexmap.proofs.CallerLemmas.{insert_entry-new}
use Rattle.ios_names.proofs.AddedNames.{absent, kept, known_is, named_push, view_push}
use Rattle.ios_names.proofs.name_index.NameIndex.add.Goals as goal

pub returns-then-contains_key-clause-added : goal.returns-then-contains_key-clause-added
returns-then-contains_key-clause-added c =
    sym (kept c.args.self.now c.args.name.now
    (known_is (λ key. key.items) c.bytes.result.now c.args.name.now c.self.inside.names.entries c.args.self.now true c.self.invariant c.self.view_is c.bytes.ensures c.if-contains_key.ensures))

pub invariant_of-self-2 : goal.invariant_of-self-2
invariant_of-self-2 c =
    let items : c.in_ok-key.key.items ≡ c.bytes.result.now = c.in_ok-key.ensures.items ∙ c.bytes-2.ensures ∙ sym c.bytes.ensures in
    let none : lookup (λ key. bytes_eq c.in_ok-key.key.items key.items) c.self.inside.names.entries ≡ None = rw items (absent _ (sym c.if-contains_key.ensures)) in
    let more = c.in_ok-insert.ensures.entries ∙ insert_entry-new (λ key other. bytes_eq key.items other.items) c.self.inside.names c.in_ok-key.key c.in_ok-word.word none in
    rw more (named_push (λ key. key.items) c.self.inside.names.entries c.in_ok-key.key c.in_ok-word.word (items ∙ c.bytes.ensures ∙ sym c.in_ok-word.ensures) c.self.invariant)

pub returns-clause-added : goal.returns-clause-added
returns-clause-added c =
    let items : c.in_ok-key.key.items ≡ c.bytes.result.now = c.in_ok-key.ensures.items ∙ c.bytes-2.ensures ∙ sym c.bytes.ensures in
    let none : lookup (λ key. bytes_eq c.in_ok-key.key.items key.items) c.self.inside.names.entries ≡ None = rw items (absent _ (sym c.if-contains_key.ensures)) in
    let more = c.in_ok-insert.ensures.entries ∙ insert_entry-new (λ key other. bytes_eq key.items other.items) c.self.inside.names c.in_ok-key.key c.in_ok-word.word none in
    let new = known_is (λ key. key.items) c.bytes.result.now c.args.name.now c.self.inside.names.entries c.args.self.now false c.self.invariant c.self.view_is c.bytes.ensures c.if-contains_key.ensures in
    view_push c.self.inside.names.entries c.insert.new.self.entries c.in_ok-key.key c.in_ok-word.word c.args.name.now c.args.self.now more c.self.view_is c.in_ok-word.ensures new
