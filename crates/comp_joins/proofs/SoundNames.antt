-- Core items by their names: what is found in the type of an instance is found in the instance.
use Rattle.std.proofs.Common.{◌≡◌, ◌∙◌, List, [], ◌∷◌, Some, None, Bool, true, false, cond, refl, sym, ap, subst}
use Rattle.std.proofs.lemmas.Bool.{false≢true, and_parts}
use Rattle.std.specs.Prelude.{slice_get}
use Rattle.std.specs.List.{list_all}
use Rattle.std.specs.Option.{option_and_then}
use Rattle.std.proofs.lemmas.Slice.Eq.{bytes_eq-Decides}
use Rattle.wasm_ast.specs.declared.component.CoreArg.{CoreArg}
use Rattle.wasm_ast.specs.declared.component.CoreExport.{CoreExport as CoreNamed}
use Rattle.core_validate.specs.declared.item.CoreItem.{CoreItem}
use Rattle.core_validate.specs.declared.item.CoreItem.TheVariants as item
use Rattle.core_validate.specs.declared.item.CoreExport.{CoreExport}
use Rattle.core_store.specs.State.{State}
use Rattle.core_instance.specs.declared.external.Extern.{Extern}
use Rattle.core_instance.specs.declared.external.Extern.TheVariants.{Func, Table, Memory, Global}
use Rattle.core_instance.specs.declared.external.NamedExtern.{NamedExtern}
use Rattle.core_instance.specs.Exported.{IsGiven, AreGiven}
use Rattle.wit_types.specs.Plain.{Name}
use Rattle.comp_types.specs.Items.{same_name}
use Rattle.comp_types.proofs.ValueLaws.{name-sound, name-same}
use Rattle.comp_types.specs.CoreMatching.{same_text, core_look_up}
use Rattle.comp_types.specs.Spaces.{Space, and_core_item}
use Rattle.comp_types.specs.Added.{and_core_named, core_named}
use Rattle.comp_types.specs.Rules.{lengths_of, core_item_stands}
use Rattle.comp_scopes.specs.Arguments.{instance_named}
use Rattle.comp_link.specs.Linking.{Making, core_find, named_core, arg_instance, and_core_item as and_made}
use Rattle.comp_link.proofs.Shapes.{some_same}
use Rattle.comp_link.proofs.ItemLaws.{both_and}
use Rattle.comp_joins.proofs.Core.{places_in, core_of, FuncGiven, TableGiven, MemoryGiven, GlobalGiven, CoreFits, item_at_index}

-- the two tests of names are one
pub one_test : (m n : Name) → same_text m n ≡ same_name m n
one_test m n = at_test (same_text m n) (same_name m n) refl refl
  where
    at_test : (a b : Bool) → same_text m n ≡ a → same_name m n ≡ b → a ≡ b
    at_test true true e f = refl
    at_test false false e f = refl
    at_test true false e f = absurd (false≢true (sym f ∙ subst (λ z. same_name m z ≡ true) ((bytes_eq-Decides m n).0 e) (name-same m)))
    at_test false true e f = absurd (false≢true (sym e ∙ (bytes_eq-Decides m n).1 (name-sound m n f)))

-- ---- what an instance gives

pub record FoundGiven (s : State) (xs : List NamedExtern) (name : Name) (x : CoreItem) : Type 0 where
  pub extern : Extern
  pub there : core_find name xs ≡ Some extern
  pub given : IsGiven s x extern

pub found_given : (s : State) (es : List CoreExport) (xs : List NamedExtern) (name : Name) (x : CoreItem) → AreGiven s es xs → core_look_up name es ≡ Some x → FoundGiven s xs name x
found_given s [] [] name x h is = absurd (let q : None ≡ Some x = is in cc)
found_given s [] (y ∷ xs) name x h is = absurd h
found_given s (e ∷ es) [] name x h is = absurd h
found_given s (e ∷ es) (y ∷ xs) name x h is = at_test (same_name e.name name) (subst (λ b. cond b (Some e.item) (core_look_up name es) ≡ Some x) (one_test e.name name) is) (λ is'. found_given s es xs name x h.2 is') named
  where
    named : same_name y.name name ≡ same_name e.name name
    named = ap (λ z. same_name z name) h.0

    at_test : (b : Bool) → cond b (Some e.item) (core_look_up name es) ≡ Some x → (core_look_up name es ≡ Some x → FoundGiven s xs name x) → same_name y.name name ≡ b → FoundGiven s (y ∷ xs) name x
    at_test true is' later e' =
        record { extern = y.item; there = ap (λ b. cond b (Some y.item) (core_find name xs)) e'; given = subst (λ z. IsGiven s z y.item) (some_same e.item x is') h.1 }
    at_test false is' later e' =
        let f = later is' in
        record { extern = f.extern; there = ap (λ b. cond b (Some y.item) (core_find name xs)) e' ∙ f.there; given = f.given }

-- the argument of a name
pub arg_is : (m : Making) (name : Name) (args : List CoreArg) → arg_instance m name args ≡ option_and_then (slice_get m.core_instances) (instance_named args name)
arg_is m name [] = refl
arg_is m name (a ∷ args) = at_test (same_name a.name name) (one_test a.name name) (arg_is m name args)
  where
    at_test : (b : Bool) → same_text a.name name ≡ b → arg_instance m name args ≡ option_and_then (slice_get m.core_instances) (instance_named args name) → cond b (slice_get m.core_instances a.instance) (arg_instance m name args) ≡ option_and_then (slice_get m.core_instances) (cond (same_text a.name name) (Some a.instance) (instance_named args name))
    at_test true e later = sym (ap (λ b. option_and_then (slice_get m.core_instances) (cond b (Some a.instance) (instance_named args name))) e)
    at_test false e later = later ∙ sym (ap (λ b. option_and_then (slice_get m.core_instances) (cond b (Some a.instance) (instance_named args name))) e)

-- ---- an item more

pub extern_fits : (m : Making) (s : Space) (x : CoreItem) (e : Extern) → CoreFits (places_in m) (core_of s) → IsGiven m.shadow x e → CoreFits (places_in (and_made m (Some e))) (core_of (and_core_item s x))
extern_fits m s (item.Func ty) (Func at) h g = record { functions = both_and (FuncGiven m.shadow) m.core_functions s.core_functions at (item.Func ty) h.functions g; tables = h.tables; memories = h.memories; globals = h.globals; instances = h.instances }
extern_fits m s (item.Table ty limits) (Table at) h g = record { functions = h.functions; tables = both_and (TableGiven m.shadow) m.core_tables s.core_tables at (item.Table ty limits) h.tables g; memories = h.memories; globals = h.globals; instances = h.instances }
extern_fits m s (item.Memory limits) (Memory at) h g = record { functions = h.functions; tables = h.tables; memories = both_and (MemoryGiven m.shadow) m.core_memories s.core_memories at (item.Memory limits) h.memories g; globals = h.globals; instances = h.instances }
extern_fits m s (item.Global ty variable) (Global at) h g = record { functions = h.functions; tables = h.tables; memories = h.memories; globals = both_and (GlobalGiven m.shadow) m.core_globals s.core_globals at (item.Global ty variable) h.globals g; instances = h.instances }
extern_fits m s (item.Func ty) (Table at) h g = absurd g
extern_fits m s (item.Func ty) (Memory at) h g = absurd g
extern_fits m s (item.Func ty) (Global at) h g = absurd g
extern_fits m s (item.Table ty limits) (Func at) h g = absurd g
extern_fits m s (item.Table ty limits) (Memory at) h g = absurd g
extern_fits m s (item.Table ty limits) (Global at) h g = absurd g
extern_fits m s (item.Memory limits) (Func at) h g = absurd g
extern_fits m s (item.Memory limits) (Table at) h g = absurd g
extern_fits m s (item.Memory limits) (Global at) h g = absurd g
extern_fits m s (item.Global ty variable) (Func at) h g = absurd g
extern_fits m s (item.Global ty variable) (Table at) h g = absurd g
extern_fits m s (item.Global ty variable) (Memory at) h g = absurd g

-- an instance of items
pub items_given : (m : Making) (s : Space) (es : List CoreNamed) → CoreFits (places_in m) (core_of s) → list_all (λ e. core_item_stands (lengths_of s) e.sort e.index) es ≡ true → AreGiven m.shadow (core_named s es) (named_core m es)
items_given m s [] h stand = tt
items_given m s (e ∷ es) h stand =
    let p = and_parts (core_item_stands (lengths_of s) e.sort e.index) (list_all (λ x. core_item_stands (lengths_of s) x.sort x.index) es) stand in
    let x = item_at_index m s e.sort e.index h p.0 in
    subst (λ z. AreGiven m.shadow (and_core_named z e.name (core_named s es)) (named_core m (e ∷ es))) (sym x.is) (refl, x.given, items_given m s es h p.1)
