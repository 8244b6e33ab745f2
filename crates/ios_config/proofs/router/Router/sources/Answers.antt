use Rattle.ios_config.proofs.router.Router.sources.Goals as goal

-- src/source_choice.rt:25:5
pub returns-clause-some : goal.returns-clause-some
returns-clause-some c =
    rw (← c.self.view_is)
    (rw (c.as_slice-lists.ensures.value, c.as_slice-interfaces.ensures.value) at c.sources.ensures.some)

-- src/source_choice.rt:25:5
pub returns-clause-none : goal.returns-clause-none
returns-clause-none c =
    rw (← c.self.view_is)
    (rw (c.as_slice-lists.ensures.value, c.as_slice-interfaces.ensures.value) at c.sources.ensures.none)
