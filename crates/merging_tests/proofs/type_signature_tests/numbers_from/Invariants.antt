use Rattle.merging_tests.proofs.type_signature_tests.numbers_from.Given as goal

abbrev pub ghosts-numbers_by_labels : goal.ghosts-numbers_by_labels
ghosts-numbers_by_labels a = record { name = a.blank.name; parts = a.blank.parts }
