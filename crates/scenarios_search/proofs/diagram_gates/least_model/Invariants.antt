use Rattle.scenarios_search.proofs.diagram_gates.least_model.Given as goal

abbrev pub ghosts-counted_model : goal.ghosts-counted_model
ghosts-counted_model a = record { name = a.blank.name; parts = a.blank.parts }
