use Rattle.ref_rules.proofs.kinds.free_number.Given as goal

abbrev pub ghosts-free_counted : goal.ghosts-free_counted
ghosts-free_counted a = record { name = a.blank.name; parts = a.blank.parts }
