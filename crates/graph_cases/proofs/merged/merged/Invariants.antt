use Rattle.graph_cases.proofs.merged.merged.Given as goal

abbrev pub ghosts-merged_over : goal.ghosts-merged_over
ghosts-merged_over g a = record { name = a.blank.name; parts = a.blank.parts }
