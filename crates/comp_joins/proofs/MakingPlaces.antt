-- Stores are as planned: each part of the law.
use Rattle.std.proofs.Common.{◌≡◌, ℕ, List, [], ◌∷◌, ◌++◌, length, map, refl, sym, ◌∙◌, ap, subst, arith}
use Rattle.std.specs.Option.{option_map}
use Rattle.std.specs.List.{flat_map, range_with_len}
use Rattle.wasm_ast.specs.declared.module.Module.{Module}
use Rattle.core_store.specs.State.{State as Store}
use Rattle.core_store.specs.declared.value.CoreSpaces.{CoreSpaces}
use Rattle.core_instance.specs.declared.external.Extern.{Extern}
use Rattle.core_instance.specs.declared.external.CoreInstance.{CoreInstance}
use Rattle.core_instance.specs.Spaces.{functions_of, tables_of, memories_of, globals_of, place_at, named_extern}
use Rattle.core_instance.specs.Instantiation.{instance_of}
use Rattle.host_port.specs.Calls.{PlainObservation}
use Rattle.host_port.specs.Hosts.{HostStep}
use Rattle.comp_worlds.specs.Acts.{Next}
use Rattle.comp_worlds.specs.Groups.{Nesting, Stage, Group, World, Ports}
use Rattle.comp_worlds.specs.Calls.{runs, does_all}
use Rattle.comp_worlds.specs.Hosts.{hosted}
use Rattle.comp_worlds.specs.Observed.{stack}
use Rattle.comp_link.specs.Plans.{Plan}
use Rattle.comp_link.specs.Linking.{Making, link}
use Rattle.comp_joins.specs.Made.{Items, items_of, IsAsPlanned, StoresAreAsPlanned}
use Rattle.comp_joins.proofs.Acts.{Kept}
use Rattle.comp_joins.proofs.Running.{runs_keep, calls_keep}
use Rattle.comp_joins.proofs.MakingLaws.{all_did, plan_adds}

cancelled : {A : Type 0} → (xs ys zs : List A) → xs ++ ys ≡ xs ++ zs → ys ≡ zs
cancelled [] ys zs e = e
cancelled (x ∷ xs) ys zs e = let q : xs ++ ys ≡ xs ++ zs = cc in cancelled xs ys zs q

-- a module's places go by the number of items alone
abbrev spaces_by : Module → List Extern → Items → CoreSpaces
spaces_by m imports i = record {
  types = [];
  functions = flat_map functions_of imports ++ range_with_len i.functions (length m.code);
  tables = flat_map tables_of imports ++ range_with_len i.tables (length m.tables);
  memories = flat_map memories_of imports ++ range_with_len i.memories (length m.memories);
  globals = flat_map globals_of imports ++ range_with_len i.globals (length m.globals);
  segments = range_with_len i.segments (length m.segments);
  elements = range_with_len i.elements (length m.elements);
}

abbrev instance_by : Module → List Extern → Items → CoreInstance
instance_by m imports i = record {
  number = i.instances;
  exports = map (named_extern (spaces_by m imports i)) m.exports;
  start = option_map (λ n. place_at (spaces_by m imports i).functions n) m.start;
}

same_places : (s t : Store) (m : Module) (imports : List Extern) → items_of s ≡ items_of t → instance_of s m imports ≡ instance_of t m imports
same_places s t m imports e = ap (instance_by m imports) e

module _ {S : Type 0} (G : Group) (p : Ports S) (d : Nesting) (fuel : ℕ) where
  as_planned : (plan : Plan) (m : Making) (stages : List Stage) (w w' : World S) (n left : ℕ) (seen : List PlainObservation) → IsAsPlanned m w → (link plan m).whole.stages ≡ m.whole.stages ++ stages
      → does_all G p (runs G p fuel) d stages w n ≡ Next seen left w' tt → IsAsPlanned (link plan m) w'
  as_planned plan m stages w w' n left seen is are did =
      let a = plan_adds G p (runs G p fuel) (runs_keep G p fuel) d plan m in
      let same : stages ≡ a.stages = cancelled m.whole.stages stages a.stages (sym are ∙ a.are) in
      (a.goes w w' is (all_did G p (runs G p fuel) (runs_keep G p fuel) d a.stages w w' (n, seen, left, ap (λ z. does_all G p (runs G p fuel) d z w n) (sym same) ∙ did))).0

pub stores_as_planned : {S : Type 0} → (h : HostStep S) → StoresAreAsPlanned h
stores_as_planned h = record {
  begins = λ c groups s. record { begun = omega arith; store = refl; later = λ k le. refl };
  goes_on = λ G groups d fuel plan m stages w w' n left seen is are did. as_planned G (stack groups (hosted h)) d fuel plan m stages w w' n left seen is are did;
  stays = λ G groups d calls w w' n left seen did. subst (Kept w) did (calls_keep G (stack groups (hosted h)) d calls w n);
  places = same_places;
}
