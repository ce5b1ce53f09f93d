use Rattle.merging_tests.proofs.class_halves_tests.have_references.Given as goal

abbrev pub ghosts-are_references : goal.ghosts-are_references
ghosts-are_references a = record { name = a.blank.name; parts = a.blank.parts }
