use Rattle.std.proofs.Common.{◌∙◌, ap, map}
use Rattle.std.specs.Map.{lookup}
use Rattle.ios_route.specs.Exits.{network_exit, same_network}
use Rattle.ios_route.proofs.ExitTables.{found_name, found_network}
use Rattle.ios_route.proofs.exits.Exits.new.Goals as goal

pub returns : goal.returns
returns c =
    let names = rw c.as_slice.ensures.value at c.in_ok-first_of_each.ensures in
    let networks = rw c.as_slice-2.ensures.value at c.in_ok-first_of_each-2.ensures in
    record {
      outlets = λ name. names name ∙ found_name name c.in_ok-names.names.items c.args.interfaces.now c.in_ok-names.ensures;
      networks = λ network. networks network
          ∙ ap (lookup (same_network network)) (c.in_ok-networks.ensures ∙ ap (map network_exit) c.requires) ∙ found_network network _;
    }
