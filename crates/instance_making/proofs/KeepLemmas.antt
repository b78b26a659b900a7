-- An instance that is made with one item more.
use Rattle.std.proofs.Common.{◌≡◌, ◌∙◌, ap, sym, refl, subst, ℕ, List, [], ◌∷◌, ◌++◌, Option, Some, None, map}
use Rattle.std.proofs.lemmas.List.{map-append}
use Rattle.wasm_ast.specs.declared.component.CanonOption.{CanonOption}
use Rattle.wit_types.specs.Plain.{PlainFunc}
use Rattle.comp_worlds.specs.Groups.{Target as GroupTarget, Mine}
use Rattle.comp_link.specs.Plans.{Lifts}
use Rattle.comp_link.specs.Linking.{Given as GroupGiven, Givens as GroupGivens, GivenFunc, GivenInstance, GivenResource, GivenType, Making as GroupMaking, Whole, and_item, and_bound, lifting_of, link_item}
use Rattle.instance_state.specs.Targets.{target_of}
use Rattle.instance_state.specs.declared.target.Target.{Target}
use Rattle.instance_making.specs.declared.making.Making.{Making}
use Rattle.instance_making.specs.Made.{Holds}
use Rattle.instance_making.specs.Shown.{some_target, SamePartners, Stands}

functions_and : (ts : List Target) (gs : List (Option GroupTarget)) (t : Target) → map some_target ts ≡ gs → map some_target (ts ++ t ∷ []) ≡ gs ++ Some (target_of t) ∷ []
functions_and ts gs t h = map-append some_target ts (t ∷ []) ∙ ap (λ xs. xs ++ Some (target_of t) ∷ []) h

pub and_function : (made : List GroupGivens) (m n : Making) (g : GroupMaking) (t : Target) → Stands made m g → n ≡ record m { functions = n.functions } → n.functions.items ≡ m.functions.items ++ t ∷ [] → Stands made n (and_item g (Some (GivenFunc (target_of t))))
and_function made m n g t h same f = subst (λ (k : Making). Stands made k (and_item g (Some (GivenFunc (target_of t))))) (sym same) (record {
  instance = h.instance;
  given = h.given;
  canons = h.canons;
  core_functions = h.core_functions;
  core_tables = h.core_tables;
  core_memories = h.core_memories;
  core_globals = h.core_globals;
  core_instances = h.core_instances;
  functions = ap (map some_target) f ∙ functions_and m.functions.items g.functions t h.functions;
  instances = h.instances;
  resources = h.resources;
  exports = h.exports;
})

-- resources with other numbers
pub with_bound : (made : List GroupGivens) (m n : Making) (g : GroupMaking) (by : List (ℕ × ℕ)) → Stands made m g → n ≡ record m { resources = n.resources } → SamePartners n.resources (g.resources ++ by) → Stands made n (and_bound g by)
with_bound made m n g by h same f = subst (λ (k : Making). Stands made k (and_bound g by)) (sym same) (record {
  instance = h.instance;
  given = h.given;
  canons = h.canons;
  core_functions = h.core_functions;
  core_tables = h.core_tables;
  core_memories = h.core_memories;
  core_globals = h.core_globals;
  core_instances = h.core_instances;
  functions = h.functions;
  instances = h.instances;
  resources = f;
  exports = h.exports;
})

-- other exports
pub with_exports : (made : List GroupGivens) (m n : Making) (g : GroupMaking) (exports : GroupGivens) → Stands made m g → n ≡ record m { exports = n.exports } → Holds made n.exports exports → Stands made n (record g { exports = exports })
with_exports made m n g exports h same f = subst (λ (k : Making). Stands made k (record g { exports = exports })) (sym same) (record {
  instance = h.instance;
  given = h.given;
  canons = h.canons;
  core_functions = h.core_functions;
  core_tables = h.core_tables;
  core_memories = h.core_memories;
  core_globals = h.core_globals;
  core_instances = h.core_instances;
  functions = h.functions;
  instances = h.instances;
  resources = h.resources;
  exports = f;
})

-- whatever the whole group is
pub in_whole : (made : List GroupGivens) (m : Making) (g : GroupMaking) (whole : Whole) → Stands made m g → Stands made m (record g { whole = whole })
in_whole made m g whole h = record {
  instance = h.instance;
  given = h.given;
  canons = h.canons;
  core_functions = h.core_functions;
  core_tables = h.core_tables;
  core_memories = h.core_memories;
  core_globals = h.core_globals;
  core_instances = h.core_instances;
  functions = h.functions;
  instances = h.instances;
  resources = h.resources;
  exports = h.exports;
}

-- items and resources with numbers, in either order
pub item_bound : (g : GroupMaking) (o : Option GroupGiven) (by : List (ℕ × ℕ)) → and_item (and_bound g by) o ≡ and_bound (and_item g o) by
item_bound g None by = refl
item_bound g (Some (GivenFunc t)) by = refl
item_bound g (Some (GivenInstance items)) by = refl
item_bound g (Some (GivenResource r)) by = refl
item_bound g (Some GivenType) by = refl

pub item_export : (g : GroupMaking) (x : GroupGiven) (by : List (ℕ × ℕ)) (exports : GroupGivens) → and_item (record (and_bound g by) { exports = exports }) (Some x) ≡ record (and_bound (and_item g (Some x)) by) { exports = exports }
item_export g (GivenFunc t) by exports = refl
item_export g (GivenInstance items) by exports = refl
item_export g (GivenResource r) by exports = refl
item_export g GivenType by exports = refl

-- no item
pub keep_none : (made : List GroupGivens) (m : Making) (g : GroupMaking) (o : Option GroupGiven) → o ≡ None → Stands made m g → Stands made m (and_item g o)
keep_none made m g o e h = subst (λ p. Stands made m (and_item g p)) (sym e) h

pub lift_one : (made : List GroupGivens) (m n : Making) (g : GroupMaking) (t : Target) (func : ℕ) (os : List CanonOption) (ty : PlainFunc) → Stands made m g → target_of t ≡ Mine g.instance (lifting_of g func os ty)
    → n ≡ record m { functions = n.functions } → n.functions.items ≡ m.functions.items ++ t ∷ [] → Stands made n (link_item (Lifts func os ty) g)
lift_one made m n g t func os ty h e same f = subst (λ (x : GroupTarget). Stands made n (and_item g (Some (GivenFunc x)))) e (and_function made m n g t h same f)
