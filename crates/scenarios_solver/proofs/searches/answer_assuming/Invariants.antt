use Rattle.scenarios_solver.proofs.searches.answer_assuming.Given as goal

abbrev pub ghosts-found : goal.ghosts-found
ghosts-found a = record { name = a.blank.name; parts = a.blank.parts }
