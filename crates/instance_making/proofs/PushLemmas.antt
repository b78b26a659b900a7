-- An instance with one more item of a core sort.
use Rattle.std.proofs.Common.{◌≡◌, ◌∙◌, ap, sym, subst, ℕ, ◌+◌, List, [], ◌∷◌, ◌++◌, length, Option, Some, slice_get}
use Rattle.wasm_ast.specs.declared.module.CoreFunc.{CoreFunc}
use Rattle.std.specs.Option.{option_and_then}
use Rattle.core_instance.specs.declared.external.Extern.{Extern}
use Rattle.core_instance.specs.declared.external.Extern.TheVariants.{Func, Table, Memory, Global}
use Rattle.core_instance.specs.declared.external.NamedExtern.{NamedExtern}
use Rattle.wit_types.specs.Plain.{Name}
use Rattle.comp_worlds.specs.Groups.{Func as Canon}
use Rattle.comp_link.specs.Linking.{Givens as GroupGivens, Making as GroupMaking, core_find, and_core_item, and_core_instance, with_canon}
use Rattle.instance_making.specs.declared.named.Named.{Named}
use Rattle.instance_making.specs.declared.making.Making.{Making}
use Rattle.instance_making.specs.Named.{named_item}
use Rattle.instance_making.specs.Shown.{IsCoreInstance, AreCoreInstances, Stands}
use Rattle.instance_making.proofs.CoreLemmas.{core_there, cores_and}

-- what an item of a core instance is
pub item_here : (made : List GroupGivens) (m n : Making) (g : GroupMaking) (k : ℕ) (q : Name) (o : Option Extern) → Stands made m g → named_item m.core_instances.items (Some k) q ≡ o → Stands made n (and_core_item g o)
    → Stands made n (and_core_item g (option_and_then (core_find q) (slice_get g.core_instances k)))
item_here made m n g k q o h e s = subst (λ p. Stands made n (and_core_item g p)) (sym e ∙ core_there m.core_instances.items g.core_instances k q h.core_instances) s

pub and_core_function : (made : List GroupGivens) (m n : Making) (g : GroupMaking) (at : ℕ) → Stands made m g → n ≡ record m { core_functions = n.core_functions } → n.core_functions.items ≡ m.core_functions.items ++ at ∷ [] → Stands made n (and_core_item g (Some (Func at)))
and_core_function made m n g at h same e = subst (λ (k : Making). Stands made k (and_core_item g (Some (Func at)))) (sym same) (record {
  instance = h.instance;
  given = h.given;
  canons = h.canons;
  core_functions = e ∙ ap (λ xs. xs ++ at ∷ []) h.core_functions;
  core_tables = h.core_tables;
  core_memories = h.core_memories;
  core_globals = h.core_globals;
  core_instances = h.core_instances;
  functions = h.functions;
  instances = h.instances;
  resources = h.resources;
  exports = h.exports;
})

pub and_core_table : (made : List GroupGivens) (m n : Making) (g : GroupMaking) (at : ℕ) → Stands made m g → n ≡ record m { core_tables = n.core_tables } → n.core_tables.items ≡ m.core_tables.items ++ at ∷ [] → Stands made n (and_core_item g (Some (Table at)))
and_core_table made m n g at h same e = subst (λ (k : Making). Stands made k (and_core_item g (Some (Table at)))) (sym same) (record {
  instance = h.instance;
  given = h.given;
  canons = h.canons;
  core_functions = h.core_functions;
  core_tables = e ∙ ap (λ xs. xs ++ at ∷ []) h.core_tables;
  core_memories = h.core_memories;
  core_globals = h.core_globals;
  core_instances = h.core_instances;
  functions = h.functions;
  instances = h.instances;
  resources = h.resources;
  exports = h.exports;
})

pub and_core_memory : (made : List GroupGivens) (m n : Making) (g : GroupMaking) (at : ℕ) → Stands made m g → n ≡ record m { core_memories = n.core_memories } → n.core_memories.items ≡ m.core_memories.items ++ at ∷ [] → Stands made n (and_core_item g (Some (Memory at)))
and_core_memory made m n g at h same e = subst (λ (k : Making). Stands made k (and_core_item g (Some (Memory at)))) (sym same) (record {
  instance = h.instance;
  given = h.given;
  canons = h.canons;
  core_functions = h.core_functions;
  core_tables = h.core_tables;
  core_memories = e ∙ ap (λ xs. xs ++ at ∷ []) h.core_memories;
  core_globals = h.core_globals;
  core_instances = h.core_instances;
  functions = h.functions;
  instances = h.instances;
  resources = h.resources;
  exports = h.exports;
})

pub and_core_global : (made : List GroupGivens) (m n : Making) (g : GroupMaking) (at : ℕ) → Stands made m g → n ≡ record m { core_globals = n.core_globals } → n.core_globals.items ≡ m.core_globals.items ++ at ∷ [] → Stands made n (and_core_item g (Some (Global at)))
and_core_global made m n g at h same e = subst (λ (k : Making). Stands made k (and_core_item g (Some (Global at)))) (sym same) (record {
  instance = h.instance;
  given = h.given;
  canons = h.canons;
  core_functions = h.core_functions;
  core_tables = h.core_tables;
  core_memories = h.core_memories;
  core_globals = e ∙ ap (λ xs. xs ++ at ∷ []) h.core_globals;
  core_instances = h.core_instances;
  functions = h.functions;
  instances = h.instances;
  resources = h.resources;
  exports = h.exports;
})

pub and_core_items : (made : List GroupGivens) (m n : Making) (g : GroupMaking) (items : Named Extern) (exports : List NamedExtern) → Stands made m g → n ≡ record m { core_instances = n.core_instances } → n.core_instances.items ≡ m.core_instances.items ++ items ∷ [] → IsCoreInstance items exports → Stands made n (and_core_instance g exports)
and_core_items made m n g items exports h same e i = subst (λ (k : Making). Stands made k (and_core_instance g exports)) (sym same) (record {
  instance = h.instance;
  given = h.given;
  canons = h.canons;
  core_functions = h.core_functions;
  core_tables = h.core_tables;
  core_memories = h.core_memories;
  core_globals = h.core_globals;
  core_instances = subst (λ is. AreCoreInstances is (g.core_instances ++ exports ∷ [])) (sym e) (cores_and m.core_instances.items g.core_instances items exports h.core_instances i);
  functions = h.functions;
  instances = h.instances;
  resources = h.resources;
  exports = h.exports;
})

-- a canonical function more
pub and_canon : (made : List GroupGivens) (m n : Making) (g : GroupMaking) (at : ℕ) (ty : CoreFunc) (canon : Canon) → at ≡ length g.shadow.functions → Stands made m g → n ≡ record m { core_functions = n.core_functions; canons = n.canons }
    → n.core_functions.items ≡ m.core_functions.items ++ at ∷ [] → n.canons ≡ m.canons + 1 → Stands made n (with_canon g ty canon)
and_canon made m n g at ty canon place h same e count = subst (λ (k : Making). Stands made k (with_canon g ty canon)) (sym same) (record {
  instance = h.instance;
  given = h.given;
  canons = count ∙ ap (λ c. c + 1) h.canons;
  core_functions = e ∙ ap (λ xs. xs ++ at ∷ []) h.core_functions ∙ ap (λ x. g.core_functions ++ x ∷ []) place;
  core_tables = h.core_tables;
  core_memories = h.core_memories;
  core_globals = h.core_globals;
  core_instances = h.core_instances;
  functions = h.functions;
  instances = h.instances;
  resources = h.resources;
  exports = h.exports;
})
