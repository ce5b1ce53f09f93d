use Rattle.graph_tests.proofs.class_refine_tests.is_related.Given as goal

abbrev pub ghosts-classes_of : goal.ghosts-classes_of
ghosts-classes_of g a = record { name = a.blank.name; parts = a.blank.parts }
