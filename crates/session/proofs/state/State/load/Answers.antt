use Rattle.std.proofs.Common.{refl}
use Rattle.session.proofs.KeptQuestions.{question_stays, still_kept}
use Rattle.session.proofs.state.State.load.Goals as goal

pub invariant_of-self-2 : goal.invariant_of-self-2
invariant_of-self-2 c = rw c.in_ok-push.ensures.items (still_kept c.self.inside.library.items _ c.self.inside.names c.self.inside.kept c.self.invariant)

pub returns : goal.returns
returns c =
    rw (← c.self.view_is) (rw (c.in_ok-push.ensures.items, question_stays c.self.inside.library.items _ c.self.inside.names c.self.inside.kept c.self.invariant, c.new.ensures) refl)
