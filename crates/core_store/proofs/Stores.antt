-- Stores that only grow.
use Rattle.std.proofs.Common.{◌≡◌, ℕ, ◌+◌, ◌-◌, ◌≤◌, List, [], ◌∷◌, ◌++◌, length, refl, sym, ap, ◌∙◌, subst, arith, append_assoc, length-append, Result, Ok, Err}
use Rattle.std.proofs.lemmas.List.{append-nil}
use Rattle.core_store.specs.declared.value.CoreValue.{CoreValue}
use Rattle.core_store.specs.declared.value.CoreSpaces.{CoreSpaces}
use Rattle.core_store.specs.declared.value.StoreFunc.{StoreFunc}
use Rattle.core_store.specs.declared.value.TooDeep.{TooDeep as IsTooDeep}
use Rattle.virt_base.specs.declared.fault.NoMemory.{NoMemory}
use Rattle.core_store.specs.State.{State, Adds, Enters, memory_at, table_at}
use Rattle.core_store.specs.Config.{Reply, Outcome, Done, Trapped, Asks, Spent, TooDeep}
use Rattle.core_store.specs.Eval.{entered_store, left_store, eval}
use Rattle.core_store.specs.Scene.{Scene, Grows, Grew, CameBack, scene_of}
use Rattle.core_store.specs.Laws.{IsReflexive, IsTransitive, StoreCallsGrow, IsNestedAs, NestingIs, NestingComesBack, StoreIs, StoresComeBack}
use Rattle.core_store.proofs.Keeping.{Same, same_memory, same_table, same_globals, same_segments, same_elements, Ends, eval_ends}

pub scene_grows : (w : Scene) → Grows w w
scene_grows w = record {
  new_functions = [];
  functions = sym (append-nil w.functions);
  new_instances = [];
  instances = sym (append-nil w.instances);
  globals = omega arith;
  tables = omega arith;
  memories = omega arith;
  segments = omega arith;
  elements = omega arith;
  deepest = refl;
}

pub scenes_grow : (u v w : Scene) → Grows u v → Grows v w → Grows u w
scenes_grow u v w x y = record {
  new_functions = x.new_functions ++ y.new_functions;
  functions = y.functions ∙ ap (λ fs. fs ++ y.new_functions) x.functions ∙ append_assoc u.functions x.new_functions y.new_functions;
  new_instances = x.new_instances ++ y.new_instances;
  instances = y.instances ∙ ap (λ is. is ++ y.new_instances) x.instances ∙ append_assoc u.instances x.new_instances y.new_instances;
  globals = omega (arith, x.globals, y.globals);
  tables = omega (arith, x.tables, y.tables);
  memories = omega (arith, x.memories, y.memories);
  segments = omega (arith, x.segments, y.segments);
  elements = omega (arith, x.elements, y.elements);
  deepest = x.deepest ∙ y.deepest;
}

pub grew_self : IsReflexive Grew
grew_self s = scene_grows (scene_of s)

pub grew_on : IsTransitive Grew
grew_on s t u x y = scenes_grow (scene_of s) (scene_of t) (scene_of u) x y

pub back_self : IsReflexive CameBack
back_self s = record { grew = grew_self s; nesting = refl }

pub back_on : IsTransitive CameBack
back_on s t u x y = record { grew = grew_on s t u x.grew y.grew; nesting = x.nesting ∙ y.nesting }

pub grew_same : (s t : State) → scene_of s ≡ scene_of t → Grew s t
grew_same s t e = subst (Grows (scene_of s)) e (scene_grows (scene_of s))

pub back_same : (s t : State) → scene_of s ≡ scene_of t → s.nesting ≡ t.nesting → CameBack s t
back_same s t e n = record { grew = grew_same s t e; nesting = n }

-- ---- the calls of the store

longer_list : {A : Type 0} (xs : List A) (x : A) → length xs ≤ length (xs ++ x ∷ [])
longer_list xs x = omega (arith, length-append xs (x ∷ []))

added : (s t : State) (place : ℕ) (after : State) (r : Result ℕ NoMemory) → CameBack s after → Adds s t place after r → CameBack s t
added s t place after (Ok at) x h = subst (CameBack s) (sym h.2) x
added s t place after (Err e) x h = subst (CameBack s) (sym h) (back_self s)

entering : (s t : State) (r : Result (Unit {0}) IsTooDeep) → Enters s t r → Grew s t
entering s t (Ok done) h = subst (Grew s) (sym h.1) (grew_self s)
entering s t (Err e) h = subst (Grew s) (sym h.1) (grew_self s)

of_same : (s t : State) → Same s t → CameBack s t
of_same s t x = back_same s t x.scene x.nesting

-- the lists of a store with more items
more_items : (s t : State) (fs : List StoreFunc) (is : List CoreSpaces) → t.functions ≡ s.functions ++ fs → t.instances ≡ s.instances ++ is → length s.globals ≤ length t.globals → length s.tables ≤ length t.tables → length s.memories ≤ length t.memories → length s.segments ≤ length t.segments → length s.elements ≤ length t.elements → s.nesting ≡ t.nesting → s.deepest ≡ t.deepest → CameBack s t
more_items s t fs is a b c d e f g h i = record {
  grew = record { new_functions = fs; functions = a; new_instances = is; instances = b; globals = c; tables = d; memories = e; segments = f; elements = g; deepest = i };
  nesting = h;
}

as_many : {A : Type 0} (xs : List A) → length xs ≤ length xs
as_many xs = omega arith

none_more : {A : Type 0} (xs : List A) → xs ≡ xs ++ []
none_more xs = sym (append-nil xs)

pub calls_grow : StoreCallsGrow
calls_grow = record {
  adds = added;
  function = λ s f. more_items s (record s { functions = s.functions ++ f ∷ [] }) (f ∷ []) [] refl (none_more s.instances) (as_many s.globals) (as_many s.tables) (as_many s.memories) (as_many s.segments) (as_many s.elements) refl refl;
  table = λ s t. more_items s (record s { tables = s.tables ++ t ∷ [] }) [] [] (none_more s.functions) (none_more s.instances) (as_many s.globals) (longer_list s.tables t) (as_many s.memories) (as_many s.segments) (as_many s.elements) refl refl;
  memory = λ s m. more_items s (record s { memories = s.memories ++ m ∷ [] }) [] [] (none_more s.functions) (none_more s.instances) (as_many s.globals) (as_many s.tables) (longer_list s.memories m) (as_many s.segments) (as_many s.elements) refl refl;
  global = λ s v. more_items s (record s { globals = s.globals ++ v ∷ [] }) [] [] (none_more s.functions) (none_more s.instances) (longer_list s.globals v) (as_many s.tables) (as_many s.memories) (as_many s.segments) (as_many s.elements) refl refl;
  segment = λ s bytes. more_items s (record s { segments = s.segments ++ bytes ∷ [] }) [] [] (none_more s.functions) (none_more s.instances) (as_many s.globals) (as_many s.tables) (as_many s.memories) (longer_list s.segments bytes) (as_many s.elements) refl refl;
  elements = λ s refs. more_items s (record s { elements = s.elements ++ refs ∷ [] }) [] [] (none_more s.functions) (none_more s.instances) (as_many s.globals) (as_many s.tables) (as_many s.memories) (as_many s.segments) (longer_list s.elements refs) refl refl;
  instance = λ s spaces. more_items s (record s { instances = s.instances ++ spaces ∷ [] }) [] (spaces ∷ []) (none_more s.functions) refl (as_many s.globals) (as_many s.tables) (as_many s.memories) (as_many s.segments) (as_many s.elements) refl refl;
  in_memory = λ s t k h. subst (CameBack s) (sym h) (of_same s _ (same_memory s k (memory_at t k)));
  in_table = λ s t k h. subst (CameBack s) (sym h) (of_same s _ (same_table s k (table_at t k)));
  global_set = λ s k v. of_same s _ (same_globals s k v);
  segment_dropped = λ s k. of_same s _ (same_segments s k []);
  elements_dropped = λ s k. of_same s _ (same_elements s k []);
  enters = entering;
  nesting = λ s n. grew_self s;
}

-- ---- what an evaluation does to the store

comes_back : (s t : State) → CameBack (entered_store s) t → CameBack s (left_store t)
comes_back s t x = let n = x.nesting in record { grew = x.grew; nesting = omega arith }

from_store : (s : State) (o : Outcome) → Ends CameBack Grew back_self back_on (λ s t x. x.grew) grew_on (λ s t x. back_same s t x.scene x.nesting) (λ s. grew_self s) comes_back s o → StoreIs s o
from_store s (Done values t left) h = h
from_store s Trapped h = tt
from_store s (Asks number args t left) h = h
from_store s Spent h = tt
from_store s TooDeep h = tt

pub stores_back : StoresComeBack
stores_back s f args rs n x =
    from_store s (eval s f args rs n) (eval_ends CameBack Grew back_self back_on (λ s t x. x.grew) grew_on (λ s t x. back_same s t x.scene x.nesting) (λ s. grew_self s) comes_back s f args rs n x)

abbrev IsNoDeeper : State → State → Type 0
IsNoDeeper s t = s.nesting ≤ t.nesting

nested_back : (s t : State) → IsNestedAs (entered_store s) t → IsNestedAs s (left_store t)
nested_back s t x = omega arith

from_nesting : (s : State) (o : Outcome) → Ends IsNestedAs IsNoDeeper (λ s. refl) (λ s t u x y. x ∙ y) (λ s t x. omega arith) (λ s t u x y. omega arith) (λ s t x. x.nesting) (λ s. omega arith) nested_back s o → NestingIs s o
from_nesting s (Done values t left) h = h
from_nesting s Trapped h = tt
from_nesting s (Asks number args t left) h = h
from_nesting s Spent h = tt
from_nesting s TooDeep h = tt

pub nesting_back : NestingComesBack
nesting_back s f args rs n x =
    from_nesting s (eval s f args rs n) (eval_ends IsNestedAs IsNoDeeper (λ s. refl) (λ s t u x y. x ∙ y) (λ s t x. omega arith) (λ s t u x y. omega arith) (λ s t x. x.nesting) (λ s. omega arith) nested_back s f args rs n x)
