-- Imports that match stand in the index spaces as the module declares them.
use Rattle.std.proofs.Common.{◌≡◌, ℕ, zero, suc, ◌<◌, List, [], ◌∷◌, ◌++◌, length, length-append, Some, refl, arith}
use Rattle.std.specs.Prelude.{slice_get}
use Rattle.std.specs.List.{flat_map}
use Rattle.wasm_ast.specs.declared.module.CoreFunc.{CoreFunc}
use Rattle.wasm_ast.specs.declared.module.Import.{Import}
use Rattle.wasm_ast.specs.declared.module.ImportItem.{ImportItem}
use Rattle.wasm_ast.specs.declared.module.ImportItem.TheVariants as imported
use Rattle.core_store.specs.State.{State}
use Rattle.core_validate.specs.Gather.{gather}
use Rattle.core_validate.specs.Spaces as declared
use Rattle.core_instance.specs.declared.external.Extern.{Extern}
use Rattle.core_instance.specs.declared.external.Extern.TheVariants as externs
use Rattle.core_instance.specs.Spaces.{functions_of, tables_of, memories_of, globals_of}
use Rattle.core_instance.specs.Matching.{IsOfType, MatchesItem, AllMatch}

-- an imported function: the index of its type, and its place
pub record Imported (s : State) (types : List CoreFunc) (ns ats : List ℕ) (k : ℕ) : Type 0 where
  pub ty : ℕ
  pub place : ℕ
  pub declared : slice_get ns k ≡ Some ty
  pub placed : slice_get ats k ≡ Some place
  pub typed : IsOfType (slice_get types ty) (slice_get s.functions place)

module _ (s : State) (types : List CoreFunc) where
  abbrev Each : List ℕ → List ℕ → Type 0
  Each ns ats = (k : ℕ) → k < length ns → Imported s types ns ats k

  one_more : (i : ImportItem) (e : Extern) (ns ats : List ℕ) → MatchesItem s types i e → Each ns ats → Each (declared.functions_of i ++ ns) (functions_of e ++ ats)
  one_more (imported.Func n) (externs.Func at) ns ats m each zero lt = record { ty = n; place = at; declared = refl; placed = refl; typed = m }
  one_more (imported.Func n) (externs.Func at) ns ats m each (suc k) lt =
      let r = each k (omega (arith, lt)) in record { ty = r.ty; place = r.place; declared = r.declared; placed = r.placed; typed = r.typed }
  one_more (imported.Table t) (externs.Table at) ns ats m each k lt = each k lt
  one_more (imported.Memory l) (externs.Memory at) ns ats m each k lt = each k lt
  one_more (imported.Global g) (externs.Global at) ns ats m each k lt = each k lt
  one_more (imported.Func n) (externs.Table at) ns ats m each k lt = absurd m
  one_more (imported.Func n) (externs.Memory at) ns ats m each k lt = absurd m
  one_more (imported.Func n) (externs.Global at) ns ats m each k lt = absurd m
  one_more (imported.Table t) (externs.Func at) ns ats m each k lt = absurd m
  one_more (imported.Table t) (externs.Memory at) ns ats m each k lt = absurd m
  one_more (imported.Table t) (externs.Global at) ns ats m each k lt = absurd m
  one_more (imported.Memory l) (externs.Func at) ns ats m each k lt = absurd m
  one_more (imported.Memory l) (externs.Table at) ns ats m each k lt = absurd m
  one_more (imported.Memory l) (externs.Global at) ns ats m each k lt = absurd m
  one_more (imported.Global g) (externs.Func at) ns ats m each k lt = absurd m
  one_more (imported.Global g) (externs.Table at) ns ats m each k lt = absurd m
  one_more (imported.Global g) (externs.Memory at) ns ats m each k lt = absurd m

  pub imported_at : (is : List Import) (es : List Extern) → AllMatch s types is es → Each (declared.imported_functions is) (flat_map functions_of es)
  imported_at [] [] m k lt = absurd (omega (arith, lt))
  imported_at [] (e ∷ es) m k lt = absurd m
  imported_at (i ∷ is) [] m k lt = absurd m
  imported_at (i ∷ is) (e ∷ es) m k lt = one_more i.item e (declared.imported_functions is) (flat_map functions_of es) m.0 (imported_at is es m.1) k lt

  -- as many of each kind
  record Alike (i : ImportItem) (e : Extern) : Type 0 where
    functions : length (declared.functions_of i) ≡ length (functions_of e)
    tables : length (declared.tables_of i) ≡ length (tables_of e)
    memories : length (declared.memories_of i) ≡ length (memories_of e)
    globals : length (declared.globals_of i) ≡ length (globals_of e)

  alike : (i : ImportItem) (e : Extern) → MatchesItem s types i e → Alike i e
  alike (imported.Func n) (externs.Func at) m = record { functions = refl; tables = refl; memories = refl; globals = refl }
  alike (imported.Table t) (externs.Table at) m = record { functions = refl; tables = refl; memories = refl; globals = refl }
  alike (imported.Memory l) (externs.Memory at) m = record { functions = refl; tables = refl; memories = refl; globals = refl }
  alike (imported.Global g) (externs.Global at) m = record { functions = refl; tables = refl; memories = refl; globals = refl }
  alike (imported.Func n) (externs.Table at) m = absurd m
  alike (imported.Func n) (externs.Memory at) m = absurd m
  alike (imported.Func n) (externs.Global at) m = absurd m
  alike (imported.Table t) (externs.Func at) m = absurd m
  alike (imported.Table t) (externs.Memory at) m = absurd m
  alike (imported.Table t) (externs.Global at) m = absurd m
  alike (imported.Memory l) (externs.Func at) m = absurd m
  alike (imported.Memory l) (externs.Table at) m = absurd m
  alike (imported.Memory l) (externs.Global at) m = absurd m
  alike (imported.Global g) (externs.Func at) m = absurd m
  alike (imported.Global g) (externs.Table at) m = absurd m
  alike (imported.Global g) (externs.Memory at) m = absurd m

  same_count : {A : Type 0} (f : ImportItem → List A) (g : Extern → List ℕ) → ((i : ImportItem) (e : Extern) → MatchesItem s types i e → length (f i) ≡ length (g e)) →
      (is : List Import) (es : List Extern) → AllMatch s types is es → length (gather (λ (i : Import). f i.item) is) ≡ length (flat_map g es)
  same_count f g one [] [] m = refl
  same_count f g one [] (e ∷ es) m = absurd m
  same_count f g one (i ∷ is) [] m = absurd m
  same_count f g one (i ∷ is) (e ∷ es) m =
      omega (
        arith,
        length-append (f i.item) (gather (λ (i : Import). f i.item) is),
        length-append (g e) (flat_map g es),
        one i.item e m.0,
        same_count f g one is es m.1,
      )

  pub same_functions : (is : List Import) (es : List Extern) → AllMatch s types is es → length (declared.imported_functions is) ≡ length (flat_map functions_of es)
  same_functions is es m = same_count declared.functions_of functions_of (λ i e h. (alike i e h).functions) is es m

  pub same_tables : (is : List Import) (es : List Extern) → AllMatch s types is es → length (declared.imported_tables is) ≡ length (flat_map tables_of es)
  same_tables is es m = same_count declared.tables_of tables_of (λ i e h. (alike i e h).tables) is es m

  pub same_memories : (is : List Import) (es : List Extern) → AllMatch s types is es → length (declared.imported_memories is) ≡ length (flat_map memories_of es)
  same_memories is es m = same_count declared.memories_of memories_of (λ i e h. (alike i e h).memories) is es m

  pub same_globals : (is : List Import) (es : List Extern) → AllMatch s types is es → length (declared.imported_globals is) ≡ length (flat_map globals_of es)
  same_globals is es m = same_count declared.globals_of globals_of (λ i e h. (alike i e h).globals) is es m
