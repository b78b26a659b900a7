-- The calls that add a module's items, taken together.
use Rattle.std.proofs.Common.{◌≡◌, ℕ, ◌+◌, List, [], ◌∷◌, ◌++◌, ◌<◌, length, map, sym, ap, subst, ◌∙◌, arith}
use Rattle.std.specs.List.{All, flat_map, range_with_len}
use Rattle.wasm_ast.specs.declared.module.CoreFunc.{CoreFunc}
use Rattle.wasm_ast.specs.declared.module.Module.{Module}
use Rattle.core_memory.specs.Linear.{fresh}
use Rattle.core_store.specs.declared.value.CoreSpaces.{CoreSpaces}
use Rattle.core_store.specs.declared.value.CoreValue.{CoreValue}
use Rattle.core_store.specs.Table.{nulls}
use Rattle.core_store.specs.State.{State, IsStoreValue}
use Rattle.core_instance.specs.declared.external.Extern.{Extern}
use Rattle.core_instance.specs.declared.constants.Names.{Names}
use Rattle.core_instance.specs.Spaces.{places_of, functions_of, IsThere}
use Rattle.core_instance.specs.Constants.{constant, refs_of}
use Rattle.core_instance.specs.Instantiation.{functions_from, bytes_of, names_of, allocated, AreNames}
use Rattle.core_instance.proofs.PlaceLemmas.{functions_there, values_kept}

-- the store with a module's items, for any names and index spaces
abbrev made : State → Module → Names → CoreSpaces → State
made s m names v = record {
  functions = s.functions ++ functions_from m (length s.instances) 0 m.code;
  tables = s.tables ++ map (λ t. nulls t.limits.min t.limits.max) m.tables;
  memories = s.memories ++ map (λ l. fresh l.min l.max) m.memories;
  globals = s.globals ++ map (λ g. constant names g.init) m.globals;
  segments = s.segments ++ map bytes_of m.segments;
  elements = s.elements ++ map (refs_of names) m.elements;
  instances = s.instances ++ v ∷ [];
  nesting = s.nesting;
  deepest = s.deepest;
}

pub chain : (s : State) (m : Module) (imports : List Extern) (names : Names) (v : CoreSpaces) (a b c d e f g : State)
    → names ≡ names_of s m imports → v ≡ record (places_of s m imports) { types = m.types }
    → a ≡ record s { functions = s.functions ++ functions_from m (length s.instances) 0 m.code }
    → b ≡ record a { tables = a.tables ++ map (λ t. nulls t.limits.min t.limits.max) m.tables }
    → c ≡ record b { memories = b.memories ++ map (λ l. fresh l.min l.max) m.memories }
    → d ≡ record c { globals = c.globals ++ map (λ g. constant names g.init) m.globals }
    → e ≡ record d { segments = d.segments ++ map bytes_of m.segments }
    → f ≡ record e { elements = e.elements ++ map (refs_of names) m.elements }
    → g ≡ record f { instances = f.instances ++ v ∷ [] }
    → g ≡ allocated s m imports
chain s m imports names v a b c d e f g hn hv ha hb hc hd he hf hg =
    let to-b = hb ∙ ap (λ (x : State). record x { tables = x.tables ++ map (λ t. nulls t.limits.min t.limits.max) m.tables }) ha in
    let to-c = hc ∙ ap (λ (x : State). record x { memories = x.memories ++ map (λ l. fresh l.min l.max) m.memories }) to-b in
    let to-d = hd ∙ ap (λ (x : State). record x { globals = x.globals ++ map (λ g. constant names g.init) m.globals }) to-c in
    let to-e = he ∙ ap (λ (x : State). record x { segments = x.segments ++ map bytes_of m.segments }) to-d in
    let to-f = hf ∙ ap (λ (x : State). record x { elements = x.elements ++ map (refs_of names) m.elements }) to-e in
    let to-g = hg ∙ ap (λ (x : State). record x { instances = x.instances ++ v ∷ [] }) to-f in
    to-g ∙ (ap (λ (n : Names). made s m n v) hn ∙ ap (made s m (names_of s m imports)) hv)

pub names_are : (n : Names) (globals : List CoreValue) (functions : List ℕ) → n.globals ≡ globals → n.functions ≡ functions → n ≡ record { globals = globals; functions = functions }
names_are n globals functions eg ef =
    ap (λ (gs : List CoreValue). record n { globals = gs }) eg ∙ ap (λ (fs : List ℕ). record { globals = globals; functions = fs }) ef

-- what constant expressions may name is in a store that has the module's functions too
pub names_there : (s : State) (imports : List Extern) (count functions : ℕ) (values : List CoreValue) (places : List ℕ)
    → All (IsThere s) imports → All (IsStoreValue (length s.functions)) values → places ≡ flat_map functions_of imports ++ range_with_len (length s.functions) count
    → functions ≡ length s.functions + count → AreNames functions (record { globals = values; functions = places })
names_there s imports count functions values places there kept is enough =
    subst (λ (n : ℕ). AreNames n (record { globals = values; functions = places })) (sym enough) (
      values_kept (length s.functions) (length s.functions + count) values (omega arith) kept,
      subst (All (λ at. at < length s.functions + count)) (sym is) (functions_there s imports count there),
    )

pub place_list : {A : Type 0} (x a b : List ℕ) (n m : ℕ) (l k : List A) → x ≡ a ++ range_with_len n (length l) → a ≡ b → n ≡ m → l ≡ k → x ≡ b ++ range_with_len m (length k)
place_list {A} x a b n m l k e ea en el =
    e ∙ (ap (λ (y : List ℕ). y ++ range_with_len n (length l)) ea
    ∙ (ap (λ (i : ℕ). b ++ range_with_len i (length l)) en ∙ ap (λ (z : List A). b ++ range_with_len m (length z)) el))

pub spaces_are : (v : CoreSpaces) (types : List CoreFunc) (functions tables memories globals segments elements : List ℕ)
    → v.types ≡ types → v.functions ≡ functions → v.tables ≡ tables → v.memories ≡ memories → v.globals ≡ globals → v.segments ≡ segments → v.elements ≡ elements
    → v ≡ record { types = types; functions = functions; tables = tables; memories = memories; globals = globals; segments = segments; elements = elements }
spaces_are v types functions tables memories globals segments elements et ef eb em eg es ee =
    ap (λ (x : List CoreFunc). record v { types = x }) et
    ∙ (ap (λ (x : List ℕ). record v { types = types; functions = x }) ef
    ∙ (ap (λ (x : List ℕ). record v { types = types; functions = functions; tables = x }) eb
    ∙ (ap (λ (x : List ℕ). record v { types = types; functions = functions; tables = tables; memories = x }) em
    ∙ (ap (λ (x : List ℕ). record v { types = types; functions = functions; tables = tables; memories = memories; globals = x }) eg
    ∙ (ap (λ (x : List ℕ). record v { types = types; functions = functions; tables = tables; memories = memories; globals = globals; segments = x }) es
    ∙ ap (λ (x : List ℕ). record { types = types; functions = functions; tables = tables; memories = memories; globals = globals; segments = segments; elements = x }) ee)))))
