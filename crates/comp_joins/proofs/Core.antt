-- What core items stand at each index of a component as it is made: each is in the store of its instance, of the type that the index
-- spaces have for it.
use Rattle.std.proofs.Common.{◌≡◌, ◌∙◌, ℕ, ◌<◌, List, [], ◌∷◌, ◌++◌, length, Option, Some, None, true, refl, sym, ap, subst, arith}
use Rattle.std.specs.Prelude.{nat_lt, slice_get}
use Rattle.std.specs.Option.{option_and_then}
use Rattle.std.proofs.lemmas.List.{append-nil}
use Rattle.std.proofs.lemmas.Option.{get_or_from_slice_get}
use Rattle.wasm_ast.specs.declared.module.CoreFunc.{CoreFunc}
use Rattle.wasm_ast.specs.declared.component.CoreSort.{CoreSort}
use Rattle.wasm_ast.specs.declared.component.CoreSort.TheVariants as core_sorts
use Rattle.core_validate.specs.declared.item.CoreItem.{CoreItem}
use Rattle.core_validate.specs.declared.item.CoreItem.TheVariants as item
use Rattle.core_validate.specs.declared.item.CoreExport.{CoreExport}
use Rattle.core_store.specs.declared.value.StoreFunc.{StoreFunc}
use Rattle.core_store.specs.State.{State}
use Rattle.core_store.specs.Eval.{type_of as type_of_function}
use Rattle.core_store.specs.Scene.{Grew}
use Rattle.core_store.proofs.Growing.{get_more}
use Rattle.core_instance.specs.declared.external.Extern.{Extern}
use Rattle.core_instance.specs.declared.external.Extern.TheVariants.{Func, Table, Memory, Global}
use Rattle.core_instance.specs.declared.external.NamedExtern.{NamedExtern}
use Rattle.core_instance.specs.Exported.{IsGiven, AreGiven}
use Rattle.core_instance.specs.Matching.{IsOfType}
use Rattle.comp_types.specs.Spaces.{Space, core_item_at, core_type_of, core_func_at}
use Rattle.comp_types.specs.Rules.{lengths_of, core_item_stands}
use Rattle.comp_link.specs.Linking.{Making, place_at, core_item}
use Rattle.comp_link.proofs.ItemLaws.{Both, both_get, get_there}
use Rattle.comp_joins.specs.Fits.{HasCode}

-- ---- the core items of a component as it is made, and their types

pub record Places : Type 0 where
  pub shadow : State
  pub functions : List ℕ
  pub tables : List ℕ
  pub memories : List ℕ
  pub globals : List ℕ
  pub instances : List (List NamedExtern)

abbrev pub places_in : Making → Places
places_in m = record { shadow = m.shadow; functions = m.core_functions; tables = m.core_tables; memories = m.core_memories; globals = m.core_globals; instances = m.core_instances }

pub record CoreTypes : Type 0 where
  pub functions : List CoreItem
  pub tables : List CoreItem
  pub memories : List CoreItem
  pub globals : List CoreItem
  pub instances : List (List CoreExport)

abbrev pub core_of : Space → CoreTypes
core_of s = record { functions = s.core_functions; tables = s.core_tables; memories = s.core_memories; globals = s.core_globals; instances = s.core_instances }

abbrev pub FuncGiven : State → ℕ → CoreItem → Type 0
FuncGiven s at x = IsGiven s x (Func at)

abbrev pub TableGiven : State → ℕ → CoreItem → Type 0
TableGiven s at x = IsGiven s x (Table at)

abbrev pub MemoryGiven : State → ℕ → CoreItem → Type 0
MemoryGiven s at x = IsGiven s x (Memory at)

abbrev pub GlobalGiven : State → ℕ → CoreItem → Type 0
GlobalGiven s at x = IsGiven s x (Global at)

abbrev pub InstanceGiven : State → List NamedExtern → List CoreExport → Type 0
InstanceGiven s xs es = AreGiven s es xs

pub record CoreFits (p : Places) (t : CoreTypes) : Type 0 where
  pub functions : Both (FuncGiven p.shadow) p.functions t.functions
  pub tables : Both (TableGiven p.shadow) p.tables t.tables
  pub memories : Both (MemoryGiven p.shadow) p.memories t.memories
  pub globals : Both (GlobalGiven p.shadow) p.globals t.globals
  pub instances : Both (InstanceGiven p.shadow) p.instances t.instances

-- ---- stores that grow

pub both_map : {A B : Type 0} (R Q : A → B → Type 0) → ((x : A) (y : B) → R x y → Q x y) → (xs : List A) (ys : List B) → Both R xs ys → Both Q xs ys
both_map R Q f [] [] h = tt
both_map R Q f (x ∷ xs) (y ∷ ys) h = (f x y h.0, both_map R Q f xs ys h.1)
both_map R Q f [] (y ∷ ys) h = absurd h
both_map R Q f (x ∷ xs) [] h = absurd h

-- a function of a type is there
pub record Typed (ty : CoreFunc) (o : Option StoreFunc) : Type 0 where
  pub callee : StoreFunc
  pub there : o ≡ Some callee
  pub typed : ty ≡ type_of_function callee

pub typed : (ty : CoreFunc) (o : Option StoreFunc) → IsOfType (Some ty) o → Typed ty o
typed ty None h = absurd h
typed ty (Some g) h = record { callee = g; there = refl; typed = h }

pub code_later : (s t : State) → Grew s t → (ty : CoreFunc) (at : ℕ) → HasCode s at ty → HasCode t at ty
code_later s t g ty at h =
    let f = typed ty (slice_get s.functions at) h in
    let there : slice_get t.functions at ≡ Some f.callee = ap (λ fs. slice_get fs at) g.functions ∙ get_more s.functions g.new_functions at f.callee f.there in
    subst (IsOfType (Some ty)) (sym there) f.typed

module _ (s t : State) (g : Grew s t) where
  pub given_later : (x : CoreItem) (e : Extern) → IsGiven s x e → IsGiven t x e
  given_later (item.Func ty) (Func at) h = code_later s t g ty at h
  given_later (item.Table ty limits) (Table at) h = omega (arith, h, g.tables)
  given_later (item.Memory limits) (Memory at) h = omega (arith, h, g.memories)
  given_later (item.Global ty variable) (Global at) h = omega (arith, h, g.globals)
  given_later (item.Func ty) (Table at) h = absurd h
  given_later (item.Func ty) (Memory at) h = absurd h
  given_later (item.Func ty) (Global at) h = absurd h
  given_later (item.Table ty limits) (Func at) h = absurd h
  given_later (item.Table ty limits) (Memory at) h = absurd h
  given_later (item.Table ty limits) (Global at) h = absurd h
  given_later (item.Memory limits) (Func at) h = absurd h
  given_later (item.Memory limits) (Table at) h = absurd h
  given_later (item.Memory limits) (Global at) h = absurd h
  given_later (item.Global ty variable) (Func at) h = absurd h
  given_later (item.Global ty variable) (Table at) h = absurd h
  given_later (item.Global ty variable) (Memory at) h = absurd h

  all_given_later : (es : List CoreExport) (xs : List NamedExtern) → AreGiven s es xs → AreGiven t es xs
  all_given_later [] [] h = tt
  all_given_later (e ∷ es) (x ∷ xs) h = (h.0, given_later e.item x.item h.1, all_given_later es xs h.2)
  all_given_later [] (x ∷ xs) h = absurd h
  all_given_later (e ∷ es) [] h = absurd h

  pub functions_later : (ats : List ℕ) (xs : List CoreItem) → Both (FuncGiven s) ats xs → Both (FuncGiven t) ats xs
  functions_later ats xs h = both_map (FuncGiven s) (FuncGiven t) (λ at x. given_later x (Func at)) ats xs h

  pub instances_later : (xs : List (List NamedExtern)) (es : List (List CoreExport)) → Both (InstanceGiven s) xs es → Both (InstanceGiven t) xs es
  instances_later xs es h = both_map (InstanceGiven s) (InstanceGiven t) (λ x e. all_given_later e x) xs es h

  pub tables_later : (ats : List ℕ) (xs : List CoreItem) → Both (TableGiven s) ats xs → Both (TableGiven t) ats xs
  tables_later ats xs h = both_map (TableGiven s) (TableGiven t) (λ at x. given_later x (Table at)) ats xs h

  pub memories_later : (ats : List ℕ) (xs : List CoreItem) → Both (MemoryGiven s) ats xs → Both (MemoryGiven t) ats xs
  memories_later ats xs h = both_map (MemoryGiven s) (MemoryGiven t) (λ at x. given_later x (Memory at)) ats xs h

  pub globals_later : (ats : List ℕ) (xs : List CoreItem) → Both (GlobalGiven s) ats xs → Both (GlobalGiven t) ats xs
  globals_later ats xs h = both_map (GlobalGiven s) (GlobalGiven t) (λ at x. given_later x (Global at)) ats xs h

-- one function more
pub grew_function : (s : State) (f : StoreFunc) → Grew s (record s { functions = s.functions ++ f ∷ [] })
grew_function s f = record {
  new_functions = f ∷ [];
  functions = refl;
  new_instances = [];
  instances = sym (append-nil s.instances);
  globals = omega arith;
  tables = omega arith;
  memories = omega arith;
  segments = omega arith;
  elements = omega arith;
  deepest = refl;
}

-- ---- what stands at an index

pub func_typed : (s : State) (x : CoreItem) (at : ℕ) → IsGiven s x (Func at) → (ty : CoreFunc) × (x ≡ item.Func ty) × HasCode s at ty
func_typed s (item.Func ty) at h = (ty, refl, h)
func_typed s (item.Table ty limits) at h = absurd h
func_typed s (item.Memory limits) at h = absurd h
func_typed s (item.Global ty variable) at h = absurd h

pub memory_below : (s : State) (x : CoreItem) (at : ℕ) → IsGiven s x (Memory at) → at < length s.memories
memory_below s (item.Memory limits) at h = h
memory_below s (item.Func ty) at h = absurd h
memory_below s (item.Table ty limits) at h = absurd h
memory_below s (item.Global ty variable) at h = absurd h

-- the item at an index
pub record At (m : Making) (s : Space) (sort : CoreSort) (i : ℕ) : Type 0 where
  pub entry : CoreItem
  pub is : core_item_at s sort i ≡ Some entry
  pub given : IsGiven m.shadow entry (core_item m sort i)

stands_at : (R : ℕ → CoreItem → Type 0) (ats : List ℕ) (xs : List CoreItem) (i : ℕ) → Both R ats xs → nat_lt i (length xs) ≡ true → (x : CoreItem) × (slice_get xs i ≡ Some x) × R (place_at ats i) x
stands_at R ats xs i h lt =
    let x = get_there xs i lt in
    let p = both_get R ats xs i x.0 h x.1 in
    (x.0, x.1, subst (λ k. R k x.0) (sym (get_or_from_slice_get ats i p.0 0 p.1)) p.2)

pub item_at_index : (m : Making) (s : Space) (sort : CoreSort) (i : ℕ) → CoreFits (places_in m) (core_of s) → core_item_stands (lengths_of s) sort i ≡ true → At m s sort i
item_at_index m s core_sorts.Func i h lt = let x = stands_at (FuncGiven m.shadow) m.core_functions s.core_functions i h.functions lt in record { entry = x.0; is = x.1; given = x.2 }
item_at_index m s core_sorts.Table i h lt = let x = stands_at (TableGiven m.shadow) m.core_tables s.core_tables i h.tables lt in record { entry = x.0; is = x.1; given = x.2 }
item_at_index m s core_sorts.Memory i h lt = let x = stands_at (MemoryGiven m.shadow) m.core_memories s.core_memories i h.memories lt in record { entry = x.0; is = x.1; given = x.2 }
item_at_index m s core_sorts.Global i h lt = let x = stands_at (GlobalGiven m.shadow) m.core_globals s.core_globals i h.globals lt in record { entry = x.0; is = x.1; given = x.2 }

-- the function at an index
pub record CodeAt (m : Making) (s : Space) (i : ℕ) : Type 0 where
  pub ty : CoreFunc
  pub is : core_func_at s i ≡ Some ty
  pub code : HasCode m.shadow (place_at m.core_functions i) ty

pub code_at_index : (m : Making) (s : Space) (i : ℕ) → CoreFits (places_in m) (core_of s) → nat_lt i (length s.core_functions) ≡ true → CodeAt m s i
code_at_index m s i h lt =
    let x = item_at_index m s core_sorts.Func i h lt in
    let f = func_typed m.shadow x.entry (place_at m.core_functions i) x.given in
    record { ty = f.0; is = ap (option_and_then core_type_of) (x.is ∙ ap Some f.1); code = f.2 }
