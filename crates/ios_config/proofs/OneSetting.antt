-- Lines of the block of an interface.
use Rattle.std.proofs.Common.{◌≡◌, ℕ, List, Some, refl, sym, ap, ◌∙◌}
use Rattle.ios_lex.specs.Phrases.{Words}
use Rattle.ios_lex.specs.declared.reason.IosReason.{IosReason}
use Rattle.ios_lex.specs.declared.taken.Taken.{Taken}
use Rattle.ios_lex.specs.declared.taken.Taken.TheVariants as taken
use Rattle.ios_interface.specs.Block.{Block}
use Rattle.ios_interface.specs.Interfaces.{ReadsLine, block_named, with_block}
use Rattle.ios_interface.specs.Reading.{IsRefused, Reads}
use Rattle.ios_interface.proofs.OneLine.{blocks_are_one, ignored_not_refused, some_line, taken_not_ignored, taken_not_refused}

reads_are_one : (old new other : Block) (words : Words) (taken taken' : Taken) → Reads old words new taken → Reads old words other taken' → (new ≡ other) × (taken ≡ taken')
reads_are_one old new other words taken.Modelled taken.Modelled reads reads' = (blocks_are_one old new other words reads reads', refl)
reads_are_one old new other words taken.Modelled taken.Ignored reads reads' = absurd (taken_not_ignored old new words reads reads'.0)
reads_are_one old new other words taken.Ignored taken.Modelled reads reads' = absurd (taken_not_ignored old other words reads' reads.0)
reads_are_one old new other words taken.Ignored taken.Ignored reads reads' = (reads.1 ∙ sym reads'.1, refl)

pub settings_are_one : (old : List Block) (name : List ℕ) (words : Words) (new other : List Block) (taken taken' : Taken) → ReadsLine old name words new taken → ReadsLine old name words other taken'
    → (new ≡ other) × (taken ≡ taken')
settings_are_one old name words new other taken taken' reads reads' =
    let same : reads'.old_block ≡ reads.old_block = cc (reads.there, reads'.there) in
    let one = reads_are_one reads.old_block reads.new_block reads'.new_block words taken taken' reads.reads (rw same at reads'.reads) in
    (reads.put ∙ ap (with_block old) one.0 ∙ sym reads'.put, one.1)

not_refused : (old new : Block) (words : Words) (taken : Taken) (why : IosReason) → Reads old words new taken → IsRefused words why → ⊥
not_refused old new words taken.Modelled why reads refused = taken_not_refused old new words why reads refused
not_refused old new words taken.Ignored why reads refused = ignored_not_refused words why reads.0 refused

pub setting_not_both : (old : List Block) (name : List ℕ) (words : Words) (new : List Block) (taken : Taken) (why : IosReason) → ReadsLine old name words new taken → IsRefused words why → ⊥
setting_not_both old name words new taken why reads refused = not_refused reads.old_block reads.new_block words taken why reads.reads refused

pub some_setting : (old : List Block) (name : List ℕ) (words : Words) (block : Block) → block_named old name ≡ Some block
    → ((new : List Block) (taken : Taken) → ReadsLine old name words new taken → ⊥) → ((why : IosReason) → IsRefused words why → ⊥) → ⊥
some_setting old name words block there unread unrefused =
    some_line block words
    (λ new takes. unread (with_block old new) taken.Modelled (record { old_block = block; new_block = new; there = there; reads = takes; put = refl }))
    (λ ignored. unread (with_block old block) taken.Ignored (record { old_block = block; new_block = block; there = there; reads = (ignored, refl); put = refl }))
    unrefused
