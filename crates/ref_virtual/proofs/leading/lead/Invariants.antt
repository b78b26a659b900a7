use Rattle.ref_virtual.proofs.leading.lead.Given as goal

abbrev pub ghosts-lead_counted : goal.ghosts-lead_counted
ghosts-lead_counted a = record { name = a.blank.name; parts = a.blank.parts }
