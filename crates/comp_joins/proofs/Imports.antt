-- What a module of a component is given is what it imports.
use Rattle.std.proofs.Common.{◌≡◌, ◌∙◌, ℕ, List, [], ◌∷◌, ◌++◌, length, map, Bool, true, false, cond, is_some, Option, Some, None, refl, sym, ap, subst, arith}
use Rattle.std.proofs.lemmas.Bool.{false≢true, and_parts, ltb-true}
use Rattle.std.proofs.lemmas.List.Elements.{All-cons}
use Rattle.std.proofs.lemmas.Option.{slice_get_within}
use Rattle.std.specs.Prelude.{nat_lt, slice_get}
use Rattle.std.specs.List.{All, list_all, flat_map}
use Rattle.std.specs.Option.{option_and_then}
use Rattle.std.specs.Cmp.Lexicographic.{pointwise}
use Rattle.virt_base.specs.declared.core_type.CoreType.{CoreType}
use Rattle.virt_base.specs.declared.core_type.CoreType.TheVariants as types
use Rattle.wasm_ast.specs.declared.module.CoreFunc.{CoreFunc}
use Rattle.wasm_ast.specs.declared.module.Import.{Import}
use Rattle.wasm_ast.specs.declared.module.ImportItem.{ImportItem}
use Rattle.wasm_ast.specs.declared.module.ImportItem.TheVariants as imported
use Rattle.wasm_ast.specs.declared.module.Module.{Module}
use Rattle.wasm_ast.specs.declared.component.CoreArg.{CoreArg}
use Rattle.core_validate.specs.Gather.{with_earlier}
use Rattle.core_validate.specs.Items.{AnImport, import_items, first_items, later_items}
use Rattle.core_validate.specs.Spaces.{context, imported_memories}
use Rattle.core_validate.specs.Typed.{func_item, import_type, core_import}
use Rattle.core_validate.specs.Validity.{Holds, AllHold, IsValidModule}
use Rattle.core_validate.specs.declared.item.CoreItem.{CoreItem}
use Rattle.core_validate.specs.declared.item.CoreItem.TheVariants as item
use Rattle.core_validate.specs.declared.item.CoreExport.{CoreExport}
use Rattle.core_store.specs.State.{State}
use Rattle.core_store.proofs.Growing.{get_within}
use Rattle.core_instance.specs.declared.external.Extern.{Extern}
use Rattle.core_instance.specs.declared.external.Extern.TheVariants as externs
use Rattle.core_instance.specs.Exported.{IsGiven}
use Rattle.core_instance.specs.Matching.{IsOfType, MatchesItem, AllMatch, ImportsMatch}
use Rattle.core_instance.specs.Spaces.{IsThere}
use Rattle.core_instance.proofs.ValidLemmas.{before}
use Rattle.comp_types.specs.CoreMatching.{same_core, same_func, same_text, meets, core_look_up}
use Rattle.comp_types.specs.Spaces.{Space}
use Rattle.comp_types.specs.Rules.{if_there, core_import_given, core_import_met}
use Rattle.comp_scopes.specs.Arguments.{instance_named}
use Rattle.comp_scopes.proofs.ArgumentLemmas.{given_in, met_in, import_given, import_met}
use Rattle.comp_link.specs.Linking.{Making, core_find, arg_instance, extern_for, externs_for}
use Rattle.comp_link.proofs.Shapes.{some_same}
use Rattle.comp_link.proofs.ItemLaws.{both_get, get_there}
use Rattle.comp_joins.proofs.Core.{InstanceGiven, CoreFits, places_in, core_of, typed}
use Rattle.comp_joins.proofs.SoundNames.{found_given, arg_is}

-- ---- equal types

core_same : (a b : CoreType) → same_core a b ≡ true → a ≡ b
core_same types.I32 types.I32 h = refl
core_same types.I64 types.I64 h = refl
core_same types.Funcref types.Funcref h = refl
core_same types.Externref types.Externref h = refl
core_same types.I32 types.I64 h = absurd (false≢true h)
core_same types.I32 types.Funcref h = absurd (false≢true h)
core_same types.I32 types.Externref h = absurd (false≢true h)
core_same types.I64 types.I32 h = absurd (false≢true h)
core_same types.I64 types.Funcref h = absurd (false≢true h)
core_same types.I64 types.Externref h = absurd (false≢true h)
core_same types.Funcref types.I32 h = absurd (false≢true h)
core_same types.Funcref types.I64 h = absurd (false≢true h)
core_same types.Funcref types.Externref h = absurd (false≢true h)
core_same types.Externref types.I32 h = absurd (false≢true h)
core_same types.Externref types.I64 h = absurd (false≢true h)
core_same types.Externref types.Funcref h = absurd (false≢true h)

cores_same : (xs ys : List CoreType) → pointwise same_core xs ys ≡ true → xs ≡ ys
cores_same [] [] h = refl
cores_same [] (y ∷ ys) h = absurd (false≢true h)
cores_same (x ∷ xs) [] h = absurd (false≢true h)
cores_same (x ∷ xs) (y ∷ ys) h = let p = and_parts (same_core x y) (pointwise same_core xs ys) h in (λ i. core_same x y p.0 i ∷ cores_same xs ys p.1 i)

pub func_same : (f g : CoreFunc) → same_func f g ≡ true → f ≡ g
func_same f g h =
    let p = and_parts (pointwise same_core f.params g.params) (pointwise same_core f.results g.results) h in
    (λ i. record { params = cores_same f.params g.params p.0 i; results = cores_same f.results g.results p.1 i })

-- ---- one import

given_there : (s : State) (x : CoreItem) (e : Extern) → IsGiven s x e → IsThere s e
given_there s (item.Func ty) (externs.Func at) h = let f = typed ty (slice_get s.functions at) h in slice_get_within s.functions at f.callee f.there
given_there s (item.Table ty limits) (externs.Table at) h = h
given_there s (item.Memory limits) (externs.Memory at) h = h
given_there s (item.Global ty variable) (externs.Global at) h = h
given_there s (item.Func ty) (externs.Table at) h = absurd h
given_there s (item.Func ty) (externs.Memory at) h = absurd h
given_there s (item.Func ty) (externs.Global at) h = absurd h
given_there s (item.Table ty limits) (externs.Func at) h = absurd h
given_there s (item.Table ty limits) (externs.Memory at) h = absurd h
given_there s (item.Table ty limits) (externs.Global at) h = absurd h
given_there s (item.Memory limits) (externs.Func at) h = absurd h
given_there s (item.Memory limits) (externs.Table at) h = absurd h
given_there s (item.Memory limits) (externs.Global at) h = absurd h
given_there s (item.Global ty variable) (externs.Func at) h = absurd h
given_there s (item.Global ty variable) (externs.Table at) h = absurd h
given_there s (item.Global ty variable) (externs.Memory at) h = absurd h

module _ (s : State) (m : Module) where
  func_matches : (n : ℕ) (x : CoreItem) (e : Extern) (ty : CoreFunc) → slice_get m.types n ≡ Some ty → IsGiven s x e → meets x (item.Func ty) ≡ true → MatchesItem s m.types (imported.Func n) e
  func_matches n (item.Func f) (externs.Func at) ty is g same =
      subst (λ o. IsOfType o (slice_get s.functions at)) (sym is) (subst (λ z. IsOfType (Some z) (slice_get s.functions at)) (func_same f ty same) g)
  func_matches n (item.Func f) (externs.Table at) ty is g same = absurd g
  func_matches n (item.Func f) (externs.Memory at) ty is g same = absurd g
  func_matches n (item.Func f) (externs.Global at) ty is g same = absurd g
  func_matches n (item.Table t limits) e ty is g same = absurd (false≢true same)
  func_matches n (item.Memory limits) e ty is g same = absurd (false≢true same)
  func_matches n (item.Global t variable) e ty is g same = absurd (false≢true same)

  item_matches : (i : ImportItem) (x : CoreItem) (e : Extern) (earlier : ℕ) → ((rule : ℕ) → Holds (context m) (AnImport earlier i) rule) → IsGiven s x e → meets x (import_type (context m) i) ≡ true → MatchesItem s m.types i e
  item_matches (imported.Func n) x e earlier h g same =
      let ty = get_within m.types n (ltb-true n (length m.types) ((h 1).0.0 refl)) in
      func_matches n x e ty.0 ty.1 g (subst (λ o. meets x (func_item o) ≡ true) ty.1 same)
  item_matches (imported.Table t) (item.Table u limits) (externs.Table at) earlier h g same = tt
  item_matches (imported.Table t) (item.Table u limits) (externs.Func at) earlier h g same = absurd g
  item_matches (imported.Table t) (item.Table u limits) (externs.Memory at) earlier h g same = absurd g
  item_matches (imported.Table t) (item.Table u limits) (externs.Global at) earlier h g same = absurd g
  item_matches (imported.Table t) (item.Func f) e earlier h g same = absurd (false≢true same)
  item_matches (imported.Table t) (item.Memory limits) e earlier h g same = absurd (false≢true same)
  item_matches (imported.Table t) (item.Global u variable) e earlier h g same = absurd (false≢true same)
  item_matches (imported.Memory l) (item.Memory limits) (externs.Memory at) earlier h g same = tt
  item_matches (imported.Memory l) (item.Memory limits) (externs.Func at) earlier h g same = absurd g
  item_matches (imported.Memory l) (item.Memory limits) (externs.Table at) earlier h g same = absurd g
  item_matches (imported.Memory l) (item.Memory limits) (externs.Global at) earlier h g same = absurd g
  item_matches (imported.Memory l) (item.Func f) e earlier h g same = absurd (false≢true same)
  item_matches (imported.Memory l) (item.Table u limits) e earlier h g same = absurd (false≢true same)
  item_matches (imported.Memory l) (item.Global u variable) e earlier h g same = absurd (false≢true same)
  item_matches (imported.Global l) (item.Global u variable) (externs.Global at) earlier h g same = tt
  item_matches (imported.Global l) (item.Global u variable) (externs.Func at) earlier h g same = absurd g
  item_matches (imported.Global l) (item.Global u variable) (externs.Table at) earlier h g same = absurd g
  item_matches (imported.Global l) (item.Global u variable) (externs.Memory at) earlier h g same = absurd g
  item_matches (imported.Global l) (item.Func f) e earlier h g same = absurd (false≢true same)
  item_matches (imported.Global l) (item.Table u limits) e earlier h g same = absurd (false≢true same)
  item_matches (imported.Global l) (item.Memory limits) e earlier h g same = absurd (false≢true same)

named_stands : (n : ℕ) (args : List CoreArg) (name : List ℕ) (k : ℕ) → list_all (λ a. nat_lt a.instance n) args ≡ true → instance_named args name ≡ Some k → nat_lt k n ≡ true
named_stands n [] name k h is = absurd (let q : None ≡ Some k = is in cc)
named_stands n (a ∷ args) name k h is = at_test (same_text a.name name) is (named_stands n args name k each.1)
  where
    each : (nat_lt a.instance n ≡ true) × (list_all (λ x. nat_lt x.instance n) args ≡ true)
    each = and_parts (nat_lt a.instance n) (list_all (λ x. nat_lt x.instance n) args) h

    at_test : (b : Bool) → cond b (Some a.instance) (instance_named args name) ≡ Some k → (instance_named args name ≡ Some k → nat_lt k n ≡ true) → nat_lt k n ≡ true
    at_test true e later = subst (λ z. nat_lt z n ≡ true) (some_same a.instance k e) each.0
    at_test false e later = later e

extern_is : (m : Making) (args : List CoreArg) (i : Import) (e : Extern) → option_and_then (core_find i.name) (arg_instance m i.«module» args) ≡ Some e → extern_for m args i ≡ e ∷ []
extern_is m args i e p = ap (λ (o : Option Extern). elim o as (λ _. List Extern) [ None ↦ [] | Some z ↦ z ∷ [] ]) p

-- the extern that an import is given
record Matched (m : Making) (k : Module) (args : List CoreArg) (i : Import) : Type 0 where
  extern : Extern
  is : extern_for m args i ≡ extern ∷ []
  match : MatchesItem m.shadow k.types i.item extern
  there : IsThere m.shadow extern

module _ (m : Making) (s : Space) (k : Module) (args : List CoreArg) (h : CoreFits (places_in m) (core_of s)) (stand : list_all (λ a. nat_lt a.instance (length s.core_instances)) args ≡ true) where
  matched : (i : Import) (earlier : ℕ) → ((rule : ℕ) → Holds (context k) (AnImport earlier i.item) rule)
      → core_import_given s args (core_import (context k) i) ≡ true → core_import_met s args (core_import (context k) i) ≡ true → Matched m k args i
  matched i earlier holds given met = at_instance (instance_named args i.«module») refl
      (subst (λ b. b ≡ true) (import_given s args (core_import (context k) i)) given) (subst (λ b. b ≡ true) (import_met s args (core_import (context k) i)) met)
    where
      at_item : (n : ℕ) (es : List CoreExport) → instance_named args i.«module» ≡ Some n → slice_get s.core_instances n ≡ Some es → (o : Option CoreItem) → core_look_up i.name es ≡ o
          → is_some o ≡ true → if_there (λ x. meets x (import_type (context k) i.item)) o ≡ true → Matched m k args i
      at_item n es named is None e given' met' = absurd (false≢true given')
      at_item n es named is (Some x) e given' met' =
          let xs = both_get (InstanceGiven m.shadow) m.core_instances s.core_instances n es h.instances is in
          let f = found_given m.shadow es xs.0 i.name x xs.2 e in
          let arg : arg_instance m i.«module» args ≡ Some xs.0 = arg_is m i.«module» args ∙ (ap (option_and_then (slice_get m.core_instances)) named ∙ xs.1) in
          record {
            extern = f.extern;
            is = extern_is m args i f.extern (ap (option_and_then (core_find i.name)) arg ∙ f.there);
            match = item_matches m.shadow k i.item x f.extern earlier holds f.given met';
            there = given_there m.shadow x f.extern f.given;
          }

      at_instance : (o : Option ℕ) → instance_named args i.«module» ≡ o → given_in s i.name o ≡ true → met_in s (core_import (context k) i) o ≡ true → Matched m k args i
      at_instance None named given' met' = absurd (false≢true given')
      at_instance (Some n) named given' met' =
          let es = get_there s.core_instances n (named_stands (length s.core_instances) args i.«module» n stand named) in
          at_item n es.0 named es.1 (core_look_up i.name es.0) refl
          (subst (λ o. if_there (λ (exports : List CoreExport). is_some (core_look_up i.name exports)) o ≡ true) es.1 given')
          (subst (λ o. if_there (λ x. meets x (import_type (context k) i.item)) (option_and_then (core_look_up i.name) o) ≡ true) es.1 met')

  record AllMatched (is : List Import) : Type 0 where
    match : AllMatch m.shadow k.types is (flat_map (extern_for m args) is)
    there : All (IsThere m.shadow) (flat_map (extern_for m args) is)

  all_matched : (earlier is : List Import) → AllHold (context k) (with_earlier (λ before i. AnImport (length (imported_memories before)) i.item) earlier is)
      → list_all (core_import_given s args) (map (core_import (context k)) is) ≡ true → list_all (core_import_met s args) (map (core_import (context k)) is) ≡ true → AllMatched is
  all_matched earlier [] holds given met = record { match = tt; there = λ n d lt. absurd (omega (arith, lt)) }
  all_matched earlier (i ∷ is) holds given met =
      let g = and_parts (core_import_given s args (core_import (context k) i)) (list_all (core_import_given s args) (map (core_import (context k)) is)) given in
      let w = and_parts (core_import_met s args (core_import (context k) i)) (list_all (core_import_met s args) (map (core_import (context k)) is)) met in
      let one = matched i (length (imported_memories earlier)) holds.0 g.0 w.0 in
      let rest = all_matched (earlier ++ i ∷ []) is holds.1 g.1 w.1 in
      let more = flat_map (extern_for m args) is in
      record {
        match = subst (λ xs. AllMatch m.shadow k.types (i ∷ is) (xs ++ more)) (sym one.is) (one.match, rest.match);
        there = subst (λ xs. All (IsThere m.shadow) (xs ++ more)) (sym one.is) (All-cons (IsThere m.shadow) one.extern more one.there rest.there);
      }

  pub imports_given : IsValidModule k → list_all (core_import_given s args) (map (core_import (context k)) k.imports) ≡ true → list_all (core_import_met s args) (map (core_import (context k)) k.imports) ≡ true
      → ImportsMatch m.shadow k (externs_for m k args) × All (IsThere m.shadow) (externs_for m k args)
  imports_given v given met =
      let all = all_matched [] k.imports (before (context k) (import_items k.imports) _ (before (context k) (first_items k) (later_items k) v)) given met in
      (all.match, all.there)
