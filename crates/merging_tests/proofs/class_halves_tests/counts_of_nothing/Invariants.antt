use Rattle.merging_tests.proofs.class_halves_tests.counts_of_nothing.Given as goal

abbrev pub ghosts-classes_of_nothing : goal.ghosts-classes_of_nothing
ghosts-classes_of_nothing g a = record { name = a.blank.name; parts = a.blank.parts }
