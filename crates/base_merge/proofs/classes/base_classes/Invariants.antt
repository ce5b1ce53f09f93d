use Rattle.base_merge.proofs.classes.base_classes.Given as goal

abbrev pub ghosts-count_base_classes : goal.ghosts-count_base_classes
ghosts-count_base_classes g a = record { name = a.blank.name; parts = a.blank.parts }
