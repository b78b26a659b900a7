use Rattle.value_rows.proofs.trees.paths_lead_where_the_rows_say.Given as goal

abbrev pub ghosts-walks : goal.ghosts-walks
ghosts-walks a = record { name = a.blank.name; parts = a.blank.parts }
