use Rattle.merging_tests.proofs.class_halves_tests.members_hold.Given as goal

abbrev pub ghosts-moved : goal.ghosts-moved
ghosts-moved a = record { name = a.blank.name; parts = a.blank.parts }
