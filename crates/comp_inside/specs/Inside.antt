-- What a plan makes where other instances stand before it: what it makes alone, at other numbers of instances. (This project's own.)
use Rattle.std.specs.Prelude.{◌≡◌, ℕ, ◌+◌, ◌++◌, map}
use Rattle.std.specs.Option.{option_map}
use Rattle.comp_worlds.specs.Groups.{Import, Target}
use Rattle.comp_worlds.specs.Parts.{target_to, func_to, owner_to, stages_to}
use Rattle.comp_link.specs.Plans.{Plan}
use Rattle.comp_link.specs.Linking.{Given, Givens, GivenFunc, GivenInstance, GivenResource, GivenType, Nothing, Giving, Placed, Owned, Whole, Making, link}

-- where a plan is carried out: after that many instances, what was made before, and where its imports lead
pub record Standing : Type 0 where
  pub instances : ℕ
  pub before : Whole
  pub import : Import → Target

abbrev pub place : Standing → ℕ → ℕ
place at k = at.instances + k

abbrev pub target_in : Standing → Target → Target
target_in at target = target_to (place at) at.import target

abbrev mutual
  pub given_in : Standing → Given → Given
  given_in at (GivenFunc target) = GivenFunc (target_in at target)
  given_in at (GivenInstance items) = GivenInstance (givens_in at items)
  given_in at (GivenResource r) = GivenResource r
  given_in at GivenType = GivenType

  pub givens_in : Standing → Givens → Givens
  givens_in at Nothing = Nothing
  givens_in at (Giving name item rest) = Giving name (given_in at item) (givens_in at rest)

abbrev pub placed_in : Standing → Placed → Placed
placed_in at p = record { instance = place at p.instance; number = p.number; canon = func_to (place at) at.import p.canon }

abbrev pub owned_in : Standing → Owned → Owned
owned_in at o = record { resource = o.resource; owner = owner_to (place at) o.owner }

-- after what was made before
abbrev pub whole_in : Standing → Whole → Whole
whole_in at w = record {
  next_instance = place at w.next_instance;
  next_resource = w.next_resource;
  stages = at.before.stages ++ stages_to (place at) w.stages;
  canons = at.before.canons ++ map (placed_in at) w.canons;
  owners = at.before.owners ++ map (owned_in at) w.owners;
}

abbrev pub making_in : Standing → Making → Making
making_in at m = record {
  whole = whole_in at m.whole;
  instance = place at m.instance;
  given = givens_in at m.given;
  shadow = m.shadow;
  canons = m.canons;
  core_functions = m.core_functions;
  core_tables = m.core_tables;
  core_memories = m.core_memories;
  core_globals = m.core_globals;
  core_instances = m.core_instances;
  functions = map (option_map (target_in at)) m.functions;
  instances = map (givens_in at) m.instances;
  resources = m.resources;
  exports = givens_in at m.exports;
}

-- Where a plan is given what it is given alone, at the numbers and with the functions that stand there, it makes what it makes alone.
abbrev pub LinkedInside : Type 0
LinkedInside = (at : Standing) (plan : Plan) (m : Making) → link plan (making_in at m) ≡ making_in at (link plan m)
