use Rattle.std.proofs.Common.{◌≡◌, ◌∙◌, is_some, position, rules}
use Rattle.std.specs.Str.{bytes_eq}
use Rattle.ios_interface.specs.Interfaces.{block_names}
use Rattle.ios_interface.proofs.NamedBlocks.{has_named}
use Rattle.ios_interface.proofs.interfaces.Interfaces.has.Goals as goal

pub returns : goal.returns
returns c =
    let indexed : block_names c.args.self.now.blocks ≡ c.self.inside.index = rw (← c.self.view_is) c.self.invariant.indexed in
    let found : c.is_some.result ≡ is_some (position (bytes_eq c.args.name.now) c.self.inside.index) = search rules in
    found ∙ has_named c.args.self.now.blocks c.self.inside.index c.args.name.now indexed
