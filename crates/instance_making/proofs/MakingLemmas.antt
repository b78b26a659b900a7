-- An instance that is made with one instance more.
use Rattle.std.proofs.Common.{◌≡◌, sym, subst, ℕ, List, [], ◌∷◌, ◌++◌, Some}
use Rattle.comp_link.specs.Linking.{Given as GroupGiven, Givens as GroupGivens, GivenInstance, Making as GroupMaking, and_item}
use Rattle.instance_making.specs.declared.given.Given.TheVariants.{Instance}
use Rattle.instance_making.specs.declared.making.Making.{Making}
use Rattle.instance_making.specs.Made.{IsInstance, IsGiven}
use Rattle.instance_making.specs.Shown.{AreInstances, Stands}

instances_and : (made : List GroupGivens) (ns : List ℕ) (gs : List GroupGivens) (n : ℕ) (g : GroupGivens) → AreInstances made ns gs → IsInstance made n g → AreInstances made (ns ++ n ∷ []) (gs ++ g ∷ [])
instances_and made [] [] n g h k = (k, tt)
instances_and made (x ∷ ns) (y ∷ gs) n g h k = (h.0, instances_and made ns gs n g h.1 k)
instances_and made [] (y ∷ gs) n g h k = absurd h
instances_and made (x ∷ ns) [] n g h k = absurd h

pub and_instance : (made : List GroupGivens) (m n : Making) (g : GroupMaking) (number : ℕ) (items : GroupGivens) → Stands made m g → IsInstance made number items → n ≡ record m { instances = n.instances } → n.instances.items ≡ m.instances.items ++ number ∷ [] → Stands made n (and_item g (Some (GivenInstance items)))
and_instance made m n g number items h i same f = subst (λ (k : Making). Stands made k (and_item g (Some (GivenInstance items)))) (sym same) (record {
  instance = h.instance;
  given = h.given;
  canons = h.canons;
  core_functions = h.core_functions;
  core_tables = h.core_tables;
  core_memories = h.core_memories;
  core_globals = h.core_globals;
  core_instances = h.core_instances;
  functions = h.functions;
  instances = subst (λ ns. AreInstances made ns (g.instances ++ items ∷ [])) (sym f) (instances_and made m.instances.items g.instances number items h.instances i);
  resources = h.resources;
  exports = h.exports;
})

pub keep_instance : (made : List GroupGivens) (m n : Making) (g : GroupMaking) (number : ℕ) (given : GroupGiven) → IsGiven made (Instance number) given → Stands made m g → n ≡ record m { instances = n.instances } → n.instances.items ≡ m.instances.items ++ number ∷ [] → Stands made n (and_item g (Some given))
keep_instance made m n g number given e h same f = subst (λ x. Stands made n (and_item g (Some x))) e.2 (and_instance made m n g number e.0 h e.1 same f)
