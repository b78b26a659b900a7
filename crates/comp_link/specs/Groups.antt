-- The group of instances that a linked component makes.
use Rattle.std.specs.Prelude.{[]}
use Rattle.comp_link.specs.Linking.{Making, begun, link, all_known, behind_known, all_outside, known_in, canon_in, owner_in, target_in, resource_of, exported}
use Rattle.comp_worlds.specs.Groups.{Group}
use Rattle.comp_link.specs.declared.linked.Linked.{Linked}
use Rattle.comp_link.specs.Planned.{plan_in}

abbrev pub making_of : Linked → Making
making_of linked = link (plan_in linked)
    (begun (record { next_instance = 0; next_resource = behind_known (all_known [] linked.imports); stages = []; canons = []; owners = [] }) (all_outside [] linked.imports))

abbrev pub linked_group : Linked → Group
linked_group linked =
    let m = making_of linked in
    record {
      canons = canon_in m.whole.canons;
      owner = owner_in m.whole.owners;
      imported = known_in (all_known [] linked.imports);
      exports = λ interface name. target_in (exported m.exports interface name);
      given = λ r. resource_of (exported m.exports r.interface r.name);
      stages = m.whole.stages;
    }
