use Rattle.value_rows.proofs.places.places_are_given_and_freed.Given as goal

abbrev pub ghosts-gives_and_frees : goal.ghosts-gives_and_frees
ghosts-gives_and_frees a = record { name = a.blank.name; parts = a.blank.parts }
