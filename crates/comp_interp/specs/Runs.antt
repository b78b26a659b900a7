-- A run between two calls.
use Rattle.std.specs.Prelude.{◌≡◌, ℕ, []}
use Rattle.host_port.specs.Hosts.{Kept}
use Rattle.comp_link.specs.declared.linked.Linked.{Linked}
use Rattle.comp_interp.specs.declared.run.Run.{Run}

abbrev pub host_in : {H : Type 0} → Run H → H
host_in run = run.assembly.world.host

-- nothing of a component is made yet, over a host in this state, with that many steps left
pub record IsNew {H S : Type 0} (linked : Linked) (kept : Kept S) (budget : ℕ) (now : Kept S) (run : Run H) : Type 0 where
  pub component : run.linked ≡ linked
  pub host : now ≡ kept
  pub steps : run.assembly.world.budget ≡ budget
  pub instances : run.assembly.world.instances.items ≡ []
  pub frames : run.assembly.world.frames.items ≡ []
  pub made : run.assembly.made.items ≡ []
