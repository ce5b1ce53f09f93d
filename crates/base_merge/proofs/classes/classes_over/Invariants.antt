use Rattle.base_merge.proofs.classes.classes_over.Given as goal

abbrev pub ghosts-count_classes_over : goal.ghosts-count_classes_over
ghosts-count_classes_over g a = record { name = a.blank.name; parts = a.blank.parts }
