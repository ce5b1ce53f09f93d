use Rattle.merging_tests.proofs.class_halves_tests.has_three.Given as goal

abbrev pub ghosts-has_three_both_ways : goal.ghosts-has_three_both_ways
ghosts-has_three_both_ways g a = record { name = a.blank.name; parts = a.blank.parts }
