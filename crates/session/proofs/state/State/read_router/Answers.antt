use Rattle.std.proofs.lemmas.Result.{IfOk-weaker}
use Rattle.ios_config.specs.Router.{Router, names_of}
use Rattle.session.proofs.KeptQuestions.{kept_behind, names_known}
use Rattle.session.proofs.state.State.read_router.Goals as goal

pub invariant_of-self : goal.invariant_of-self
invariant_of-self c =
    kept_behind c.read_config.result (λ (router : Router). names_of router.interfaces) c.self.inside.library.items c.self.inside.names c.read_config.new.names c.self.inside.kept
    c.read_config.ensures.names c.read_config.ensures.unchanged c.self.invariant

pub returns-clause-names : goal.returns-clause-names
returns-clause-names c =
    IfOk-weaker c.read_config.result _ _
    (λ router is. rw (← c.self.view_is) (names_known c.self.inside.library.items c.self.inside.names c.read_config.new.names c.self.inside.kept router c.self.invariant is))
    c.read_config.ensures.names
