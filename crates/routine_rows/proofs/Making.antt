-- What is known of the emitted modules and their instances.
use Rattle.std.proofs.Common.{◌≡◌, ℕ, ◌+◌, ◌<◌, ◌≤◌, List, [], ◌∷◌, ◌++◌, length, map, sym, ap, subst, ◌∙◌, arith}
use Rattle.std.specs.Prelude.{slice_index_or}
use Rattle.std.specs.List.{All}
use Rattle.std.proofs.lemmas.List.Elements.{All-nil, All-cons}
use Rattle.std.proofs.lemmas.List.{length-map}
use Rattle.wasm_ast.specs.declared.module.CoreFunc.{CoreFunc}
use Rattle.wasm_ast.specs.declared.module.Module.{Module}
use Rattle.core_instance.specs.Spaces.{IsThere}
use Rattle.core_validate.specs.declared.item.CoreItem.{CoreItem}
use Rattle.core_validate.specs.declared.item.CoreItem.TheVariants as item
use Rattle.core_validate.specs.declared.item.CoreExport.{CoreExport}
use Rattle.core_store.specs.declared.value.StoreFunc.TheVariants.{Outside}
use Rattle.core_store.specs.State.{State}
use Rattle.core_store.specs.Scene.{scene_of}
use Rattle.core_store.specs.Fine.{IsFine}
use Rattle.core_store.proofs.Starting.{outside_fine}
use Rattle.core_instance.specs.declared.external.Extern.{Extern}
use Rattle.core_instance.specs.declared.external.Extern.TheVariants.{Memory}
use Rattle.core_instance.specs.declared.external.NamedExtern.{NamedExtern}
use Rattle.core_instance.specs.Matching.{HasCounts}
use Rattle.core_instance.specs.Exported.{IsGiven, AreGiven}
use Rattle.adapter_transfer.specs.declared.module.Defined.{Defined}
use Rattle.adapter_transfer.specs.declared.module.Parts.{Parts}
use Rattle.adapter_code.specs.declared.layout.Layout.{Layout}
use Rattle.adapter_transfer.specs.Module.{module_of}
use Rattle.adapter_state.specs.declared.parts.Presence.{Presence}
use Rattle.adapter_stubs.specs.declared.stub.Stub.{Stub}
use Rattle.adapter_stubs.specs.Stubs.{calls_in, first_host, host_types, stub_functions, stubs_parts, stubs_of}
use Rattle.routine_rows.specs.Somewhere.{AreSomewhere}

pub counts : (p : Parts) (ds : List Defined) → HasCounts (module_of p ds)
counts p ds = record {
  bodies = length-map ds (λ (d : Defined). d.body) ∙ sym (length-map ds (λ (d : Defined). d.ty));
  segments = λ count e. absurd (cc);
}

memory_given : (t : State) (i : CoreItem) (at : ℕ) → IsGiven t i (Memory at) → at < length t.memories
memory_given t (item.Func ty) at p = absurd p
memory_given t (item.Table ty limits) at p = absurd p
memory_given t (item.Memory limits) at p = p
memory_given t (item.Global ty variable) at p = absurd p

pub memory_there : (t : State) (es : List CoreExport) (x : NamedExtern) (xs : List NamedExtern) (at : ℕ) → AreGiven t es (x ∷ xs) → x.item ≡ Memory at → at < length t.memories
memory_there t [] x xs at are e = absurd are
memory_there t (i ∷ es) x xs at are e = memory_given t i.item at (subst (IsGiven t i.item) e are.1)

-- the memory that is the first export
pub memory_first : (t : State) (xs ys : List NamedExtern) (x : NamedExtern) (at : ℕ) → AreSomewhere t ys → xs ≡ ys → 1 ≤ length xs → x ≡ slice_index_or xs 0 x → x.item ≡ Memory at → at < length t.memories
memory_first t [] ys x at are same le first item = absurd (omega (arith, le))
memory_first t (y ∷ xs) ys x at (es, are) same le first item = memory_there t es y xs at (subst (AreGiven t es) (sym same) are) (ap (λ (z : NamedExtern). z.item) (sym first) ∙ item)

-- a function more of the embedder
pub still_fine : (s t : State) (ty : CoreFunc) (number : ℕ) → IsFine (scene_of s) → t ≡ record s { functions = s.functions ++ Outside ty number ∷ [] } → IsFine (scene_of t)
still_fine s t ty number fine e = subst (λ (x : State). IsFine (scene_of x)) (sym e) (outside_fine s ty number fine)

pub memory_alone : (t : State) (at : ℕ) (list : List Extern) → at < length t.memories → list ≡ Memory at ∷ [] → All (IsThere t) list
memory_alone t at list there e = subst (All (IsThere t)) (sym e) (All-cons (IsThere t) (Memory at) [] there (All-nil (IsThere t)))

pub counts_stubs : (m : Module) (kinds : List Presence) (l : Layout) (stubs : List Stub) → m ≡ stubs_of kinds l stubs → HasCounts m
counts_stubs m kinds l stubs e = subst HasCounts (sym e) (counts (stubs_parts kinds l stubs) (stub_functions (calls_in kinds) 0 (first_host kinds) (3 + length (host_types stubs)) stubs))
