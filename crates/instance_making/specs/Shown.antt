-- For which instance of the definition an instance stands that is made.
use Rattle.std.specs.Prelude.{◌≡◌, ℕ, List, [], ◌∷◌, Option, Some, map}
use Rattle.wit_types.specs.Plain.{Name}
use Rattle.core_instance.specs.declared.external.Extern.{Extern}
use Rattle.core_instance.specs.declared.external.NamedExtern.{NamedExtern}
use Rattle.comp_types.specs.Substitution.{partner_of}
use Rattle.comp_worlds.specs.Groups.{Target as GroupTarget}
use Rattle.comp_link.specs.Linking.{Givens as GroupGivens, Making as GroupMaking, core_find}
use Rattle.instance_state.specs.Targets.{target_of}
use Rattle.instance_state.specs.declared.target.Target.{Target}
use Rattle.instance_making.specs.declared.named.Named.{Named}
use Rattle.instance_making.specs.declared.making.Making.{Making}
use Rattle.instance_making.specs.Named.{found}
use Rattle.instance_making.specs.Made.{IsInstance, Holds}

abbrev pub some_target : Target → Option GroupTarget
some_target t = Some (target_of t)

-- a core instance has these items
abbrev pub IsCoreInstance : Named Extern → List NamedExtern → Type 0
IsCoreInstance items exports = (name : Name) → found items name ≡ core_find name exports

abbrev pub AreCoreInstances : List (Named Extern) → List (List NamedExtern) → Type 0
AreCoreInstances [] [] = Unit {0}
AreCoreInstances (i ∷ is) (e ∷ es) = IsCoreInstance i e × AreCoreInstances is es
AreCoreInstances [] (e ∷ es) = ⊥
AreCoreInstances (i ∷ is) [] = ⊥

abbrev pub AreInstances : List GroupGivens → List ℕ → List GroupGivens → Type 0
AreInstances made [] [] = Unit {0}
AreInstances made (n ∷ ns) (g ∷ gs) = IsInstance made n g × AreInstances made ns gs
AreInstances made [] (g ∷ gs) = ⊥
AreInstances made (n ∷ ns) [] = ⊥

-- the same resources have a partner, and the same one
abbrev pub SamePartners : List (ℕ × ℕ) → List (ℕ × ℕ) → Type 0
SamePartners xs ys = (r : ℕ) → partner_of xs r ≡ partner_of ys r

-- The two stand at the same place of the plan: under each name and at each index is the same. What the other keeps of the whole group, and
-- the store that has as many items as its own, are not in it.
pub record Stands (made : List GroupGivens) (m : Making) (g : GroupMaking) : Type 0 where
  pub instance : m.instance ≡ g.instance
  pub given : IsInstance made m.given g.given
  pub canons : m.canons ≡ g.canons
  pub core_functions : m.core_functions.items ≡ g.core_functions
  pub core_tables : m.core_tables.items ≡ g.core_tables
  pub core_memories : m.core_memories.items ≡ g.core_memories
  pub core_globals : m.core_globals.items ≡ g.core_globals
  pub core_instances : AreCoreInstances m.core_instances.items g.core_instances
  pub functions : map some_target m.functions.items ≡ g.functions
  pub instances : AreInstances made m.instances.items g.instances
  pub resources : SamePartners m.resources g.resources
  pub exports : Holds made m.exports g.exports
