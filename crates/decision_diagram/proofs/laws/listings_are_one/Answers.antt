use Rattle.std.proofs.Common.{ap}
use Rattle.decision_diagram.specs.Listing.{listing}
use Rattle.decision_diagram.proofs.Canonical.{canonical}
use Rattle.decision_diagram.proofs.laws.listings_are_one.Goals as goal

pub returns : goal.returns
returns c = λ count a b a_reduced b_reduced same. ap listing (canonical count a b a_reduced b_reduced same)
