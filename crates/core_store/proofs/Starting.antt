-- Stores without functions of a module are fine.
use Rattle.std.proofs.Common.{◌≡◌, ℕ, zero, suc, ◌+◌, [], ◌∷◌, ◌++◌, length, Some, refl, sym, subst, arith, Option}
use Rattle.std.proofs.lemmas.List.{append-nil}
use Rattle.std.specs.Prelude.{slice_get}
use Rattle.wasm_ast.specs.declared.module.CoreFunc.{CoreFunc}
use Rattle.core_store.specs.declared.value.StoreFunc.{StoreFunc}
use Rattle.core_store.specs.declared.value.StoreFunc.TheVariants.{Outside}
use Rattle.core_store.specs.State.{empty_with}
use Rattle.core_store.specs.Scene.{Scene, Grows, scene_of}
use Rattle.core_store.specs.Fine.{FineFunction}
use Rattle.core_store.specs.Laws.{EmptyStoresAreFine, EmbeddersFunctionsAreFine}
use Rattle.core_store.proofs.Growing.{fine_store}

none_there : (deepest : Option ℕ) (f : ℕ) (g : StoreFunc) → slice_get (empty_with deepest).functions f ≡ Some g → ⊥
none_there deepest f g e = cc

pub empty_fine : EmptyStoresAreFine
empty_fine deepest = record { each = λ f g e. absurd (none_there deepest f g e) }

one_outside : (w : Scene) (ty : CoreFunc) (number k i : ℕ) (g : StoreFunc) → slice_get (Outside ty number ∷ []) i ≡ Some g → FineFunction w k g
one_outside w ty number k zero g e = let same : Outside ty number ≡ g = cc in subst (FineFunction w k) same tt
one_outside w ty number k (suc i) g e = absurd (cc)

pub outside_fine : EmbeddersFunctionsAreFine
outside_fine s ty number fine =
    let w = scene_of (record s { functions = s.functions ++ Outside ty number ∷ [] }) in
    let more : Grows (scene_of s) w = record {
      new_functions = Outside ty number ∷ [];
      functions = refl;
      new_instances = [];
      instances = sym (append-nil s.instances);
      globals = omega arith;
      tables = omega arith;
      memories = omega arith;
      segments = omega arith;
      elements = omega arith;
      deepest = refl;
    } in
    fine_store (scene_of s) w more fine (λ i g e. one_outside w ty number (length s.functions + i) i g e)
