-- What follows from an answer that is absent.
use Rattle.std.proofs.Common.{Option, Some, None, IfNone}

pub none_weaker : {A P Q : Type 0} (o : Option A) → (P → Q) → IfNone o P → IfNone o Q
none_weaker None f h = f h
none_weaker (Some x) f h = tt
