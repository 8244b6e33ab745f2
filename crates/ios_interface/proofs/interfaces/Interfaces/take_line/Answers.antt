use Rattle.std.proofs.Common.{◌≡◌, Some, slice_get}
use Rattle.std.proofs.lemmas.Result.{IfOk-weaker}
use Rattle.ios_interface.specs.Reading.{Reads}
use Rattle.ios_interface.proofs.InterfaceLines.{IsSame, block_there, line_read, line_same}
use Rattle.ios_interface.proofs.InterfaceNumbers.{kept_line}
use Rattle.ios_interface.proofs.interfaces.Interfaces.take_line.Goals as goal

pub invariant_of-self : goal.invariant_of-self
invariant_of-self c =
    let there : slice_get c.self.inside.drafts.items c.args.place ≡ Some c.index_mut.result.now = block_there c.self.inside.drafts.items c.args.place c.index_mut.result.now c.index_mut.ensures.value (rw (← c.self.view_is) at c.requires) in
    let same : IsSame c.index_mut.result.now c.read_line.new.self = line_same c.read_line.result c.index_mut.result.now c.read_line.new.self c.args.words.now c.read_line.ensures.read c.read_line.ensures.unchanged in
    kept_line c.self.inside.known.now c.self.inside.drafts.items c.self.inside.index c.self.inside.count c.args.place c.index_mut.result.now c.read_line.new.self c.self.invariant there same.name same.number

pub returns-clause-read : goal.returns-clause-read
returns-clause-read c =
    let there : slice_get c.self.inside.drafts.items c.args.place ≡ Some c.index_mut.result.now = block_there c.self.inside.drafts.items c.args.place c.index_mut.result.now c.index_mut.ensures.value (rw (← c.self.view_is) at c.requires) in
    rw (← c.self.view_is) (IfOk-weaker c.read_line.result (Reads c.index_mut.result.now c.args.words.now c.read_line.new.self) _
    (λ what. line_read c.self.inside.known.now c.self.inside.drafts.items c.args.place c.args.words.now c.index_mut.result.now c.read_line.new.self what c.self.invariant.different there)
    c.read_line.ensures.read)
