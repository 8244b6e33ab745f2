-- What a clause says of an answer that is not there.
use Rattle.std.proofs.Common.{◌≡◌, Option, Some, None}
use Rattle.std.specs.Option.{MatchOption, IfNone, IfSome, is_some}

pub none_holds : {X P : Type 0} (r : Option X) → P → IfNone r P
none_holds None p = p
none_holds (Some x) p = tt

pub none_weaker : {X P Q : Type 0} (r : Option X) → (P → Q) → IfNone r P → IfNone r Q
none_weaker None f p = f p
none_weaker (Some x) f p = tt

pub some_from_match : {X : Type 0} (P : Type 0) (Q : X → Type 0) (r : Option X) → MatchOption r P Q → IfSome r Q
some_from_match P Q None p = tt
some_from_match P Q (Some x) q = q

pub none_from_match : {X : Type 0} (P : Type 0) (Q : X → Type 0) (r : Option X) → MatchOption r P Q → IfNone r P
none_from_match P Q None p = p
none_from_match P Q (Some x) q = tt

-- an answer that is there where another is
pub none_from_other : {X Y P Q : Type 0} (o : Option X) (r : Option Y) → is_some r ≡ is_some o → (P → Q) → IfNone o P → IfNone r Q
none_from_other None None same f p = f p
none_from_other None (Some y) same f p = tt
none_from_other (Some x) None same f p = absurd (cc)
none_from_other (Some x) (Some y) same f p = tt
