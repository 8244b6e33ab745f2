use Rattle.std.proofs.Common.{inl, inr}
use Rattle.std.proofs.lemmas.Bool.{ltb-true}
use Rattle.std.proofs.lemmas.Nat.{le_or_r}
use Rattle.frame.proofs.MissedNumbers.{outside}
use Rattle.frame.proofs.relevance.is_outside.Goals as goal

pub overflow_sub-least : goal.overflow_sub-least
overflow_sub-least c = le_or_r c.args.place.0 c.args.place.1

pub returns-then-greatest-low : goal.returns-then-greatest-low
returns-then-greatest-low c = λ past. outside c.args.place.0 c.args.place.1 c.args.low c.args.high (inl (ltb-true _ _ past))

pub returns-else-greatest-low : goal.returns-else-greatest-low
returns-else-greatest-low c = λ past. outside c.args.place.0 c.args.place.1 c.args.low c.args.high (inr (ltb-true _ _ past))
