use Rattle.std.proofs.Common.{◌<◌, ◌++◌, [], List, ℕ, length, map, ap, sym, subst, ◌∙◌}
use Rattle.std.specs.Prelude.{slice_index_or}
use Rattle.std.specs.List.{All, flat_map, range_with_len}
use Rattle.wasm_ast.specs.declared.module.TableType.{TableType}
use Rattle.wasm_ast.specs.declared.module.Limits.{Limits}
use Rattle.wasm_ast.specs.declared.module.Global.{Global}
use Rattle.wasm_ast.specs.declared.module.Data.{Data}
use Rattle.wasm_ast.specs.declared.module.Elements.{Elements}
use Rattle.core_memory.specs.Linear.{fresh}
use Rattle.core_store.specs.declared.value.CoreSpaces.{CoreSpaces}
use Rattle.core_store.specs.declared.value.CoreValue.TheVariants.{I32}
use Rattle.core_store.specs.Table.{nulls}
use Rattle.core_store.specs.State.{State}
use Rattle.core_instance.specs.declared.external.Extern.{Extern}
use Rattle.core_instance.specs.declared.constants.Names.{Names}
use Rattle.core_instance.specs.Spaces.{globals_of, functions_of, tables_of, memories_of}
use Rattle.core_instance.specs.Constants.{constant, refs_of}
use Rattle.core_instance.specs.Instantiation.{bytes_of, functions_from}
use Rattle.core_instance.proofs.PlaceLemmas.{globals_there}
use Rattle.core_instance.proofs.FunctionLemmas.{functions_all}
use Rattle.core_instance.proofs.AllocateLemmas.{chain, names_are, names_there, place_list, spaces_are}
use Rattle.core_instance.proofs.instance.allocate.Goals as goal

pub imported_values-requires : goal.imported_values-requires
imported_values-requires c =
    let is = c.as_slice-2.ensures ∙ (ap (λ (v : CoreSpaces). v.globals) c.in_ok-places.ensures ∙ ap (λ (is : List Extern). flat_map globals_of is) c.as_slice.ensures) in
    subst (λ (l : List ℕ). All (λ at. at < length c.args.store.now.globals) l) (sym is) (globals_there c.args.store.now c.args.imports.now c.requires.imports)

pub add_globals-requires : goal.add_globals-requires
add_globals-requires c =
    let s = c.args.store.now in
    let m = c.args.core.now in
    let imported = ap (λ (v : CoreSpaces). v.functions) c.in_ok-places.ensures ∙ ap (λ (is : List Extern). flat_map functions_of is) c.as_slice.ensures in
    let places = c.in_ok-functions.ensures ∙ (c.in_ok-add_functions.ensures.places ∙ ap (λ (xs : List ℕ). xs ++ range_with_len (length s.functions) (length m.code)) imported) in
    let same = ap (λ (t : State). length t.functions) c.in_ok-add_memories.ensures.store ∙ ap (λ (t : State). length t.functions) c.in_ok-add_tables.ensures.store in
    let count = same ∙ (ap (λ (t : State). length t.functions) c.in_ok-add_functions.ensures.store ∙ functions_all m c.instances.result s.functions) in
    names_there s c.args.imports.now (length m.code) _ c.in_ok-globals.globals c.in_ok-functions.functions c.requires.imports c.in_ok-globals.ensures.names places count

pub add_references-requires : goal.add_references-requires
add_references-requires c =
    let s = c.args.store.now in
    let m = c.args.core.now in
    let imported = ap (λ (v : CoreSpaces). v.functions) c.in_ok-places.ensures ∙ ap (λ (is : List Extern). flat_map functions_of is) c.as_slice.ensures in
    let places = c.in_ok-functions.ensures ∙ (c.in_ok-add_functions.ensures.places ∙ ap (λ (xs : List ℕ). xs ++ range_with_len (length s.functions) (length m.code)) imported) in
    let low = ap (λ (t : State). length t.functions) c.in_ok-add_memories.ensures.store ∙ ap (λ (t : State). length t.functions) c.in_ok-add_tables.ensures.store in
    let same = ap (λ (t : State). length t.functions) c.in_ok-add_segments.ensures.store ∙ (ap (λ (t : State). length t.functions) c.in_ok-add_globals.ensures.store ∙ low) in
    let count = same ∙ (ap (λ (t : State). length t.functions) c.in_ok-add_functions.ensures.store ∙ functions_all m c.instances.result s.functions) in
    names_there s c.args.imports.now (length m.code) _ c.in_ok-globals.globals c.in_ok-functions.functions c.requires.imports c.in_ok-globals.ensures.names places count

pub returns-clause-names : goal.returns-clause-names
returns-clause-names c =
    let s = c.args.store.now in
    let m = c.args.core.now in
    let is = c.as_slice-2.ensures ∙ (ap (λ (v : CoreSpaces). v.globals) c.in_ok-places.ensures ∙ ap (λ (is : List Extern). flat_map globals_of is) c.as_slice.ensures) in
    let values = c.in_ok-globals.ensures.value ∙ ap (λ (ats : List ℕ). map (λ at. slice_index_or s.globals at (I32 0)) ats) is in
    let imported = ap (λ (v : CoreSpaces). v.functions) c.in_ok-places.ensures ∙ ap (λ (is : List Extern). flat_map functions_of is) c.as_slice.ensures in
    let places = c.in_ok-functions.ensures ∙ (c.in_ok-add_functions.ensures.places ∙ ap (λ (xs : List ℕ). xs ++ range_with_len (length s.functions) (length m.code)) imported) in
    names_are (record { globals = c.in_ok-globals.globals; functions = c.in_ok-functions.functions }) _ _ values places

pub returns-clause-store : goal.returns-clause-store
returns-clause-store c =
    let s = c.args.store.now in
    let m = c.args.core.now in
    let hf = c.in_ok-add_functions.ensures.store in
    let ht = c.in_ok-add_tables.ensures.store in
    let hm = c.in_ok-add_memories.ensures.store in
    let hg = c.in_ok-add_globals.ensures.store in
    let hs = c.in_ok-add_segments.ensures.store in
    let instance = c.instances.ensures in
    let imports = c.as_slice.ensures in
    let v = c.in_ok-spaces.spaces in
    let first = c.in_ok-places.ensures in
    let memories-there = ap (λ (t : State). length t.memories) ht ∙ ap (λ (t : State). length t.memories) hf in
    let globals-there = ap (λ (t : State). length t.globals) hm ∙ (ap (λ (t : State). length t.globals) ht ∙ ap (λ (t : State). length t.globals) hf) in
    let segments-there = ap (λ (t : State). length t.segments) hg ∙ (ap (λ (t : State). length t.segments) hm ∙ (ap (λ (t : State). length t.segments) ht ∙ ap (λ (t : State). length t.segments) hf)) in
    let elements-there = ap (λ (t : State). length t.elements) hs ∙ (ap (λ (t : State). length t.elements) hg ∙ (ap (λ (t : State). length t.elements) hm ∙ (ap (λ (t : State). length t.elements) ht ∙ ap (λ (t : State). length t.elements) hf))) in
    let spaces-is = spaces_are v m.types _ _ _ _ _ _
    (ap (λ (x : CoreSpaces). x.types) c.in_ok-spaces.ensures ∙ c.in_ok-types.ensures)
    (ap (λ (x : CoreSpaces). x.functions) c.in_ok-spaces.ensures ∙ (c.in_ok-add_functions.ensures.places ∙ ap (λ (xs : List ℕ). xs ++ range_with_len (length s.functions) (length m.code)) (ap (λ (x : CoreSpaces). x.functions) first ∙ ap (λ (is : List Extern). flat_map functions_of is) imports)))
    (ap (λ (x : CoreSpaces). x.tables) c.in_ok-spaces.ensures ∙ place_list _ _ (flat_map tables_of c.args.imports.now) _ (length s.tables) _ m.tables c.in_ok-add_tables.ensures.places (ap (λ (x : CoreSpaces). x.tables) first ∙ ap (λ (is : List Extern). flat_map tables_of is) imports) (ap (λ (t : State). length t.tables) hf) c.as_slice-3.ensures)
    (ap (λ (x : CoreSpaces). x.memories) c.in_ok-spaces.ensures ∙ place_list _ _ (flat_map memories_of c.args.imports.now) _ (length s.memories) _ m.memories c.in_ok-add_memories.ensures.places (ap (λ (x : CoreSpaces). x.memories) first ∙ ap (λ (is : List Extern). flat_map memories_of is) imports) memories-there c.as_slice-4.ensures)
    (ap (λ (x : CoreSpaces). x.globals) c.in_ok-spaces.ensures ∙ place_list _ _ (flat_map globals_of c.args.imports.now) _ (length s.globals) _ m.globals c.in_ok-add_globals.ensures.places (ap (λ (x : CoreSpaces). x.globals) first ∙ ap (λ (is : List Extern). flat_map globals_of is) imports) globals-there c.as_slice-5.ensures)
    (ap (λ (x : CoreSpaces). x.segments) c.in_ok-spaces.ensures ∙ place_list _ _ [] _ (length s.segments) _ m.segments c.in_ok-add_segments.ensures.places (ap (λ (x : CoreSpaces). x.segments) first) segments-there c.as_slice-6.ensures)
    (ap (λ (x : CoreSpaces). x.elements) c.in_ok-spaces.ensures ∙ place_list _ _ [] _ (length s.elements) _ m.elements c.in_ok-add_references.ensures.places (ap (λ (x : CoreSpaces). x.elements) first) elements-there c.as_slice-7.ensures) in
    let is = c.as_slice-2.ensures ∙ (ap (λ (x : CoreSpaces). x.globals) first ∙ ap (λ (is : List Extern). flat_map globals_of is) imports) in
    let values = c.in_ok-globals.ensures.value ∙ ap (λ (ats : List ℕ). map (λ at. slice_index_or s.globals at (I32 0)) ats) is in
    let places = c.in_ok-functions.ensures ∙ (c.in_ok-add_functions.ensures.places ∙ ap (λ (xs : List ℕ). xs ++ range_with_len (length s.functions) (length m.code)) (ap (λ (x : CoreSpaces). x.functions) first ∙ ap (λ (is : List Extern). flat_map functions_of is) imports)) in
    let names : Names = record { globals = c.in_ok-globals.globals; functions = c.in_ok-functions.functions } in
    chain s m c.args.imports.now names v _ _ _ _ _ _ _
    (names_are names _ _ values places)
    spaces-is
    (hf ∙ ap (λ (n : ℕ). record s { functions = s.functions ++ functions_from m n 0 m.code }) instance)
    (ht ∙ ap (λ (l : List TableType). record c.add_functions.new.store { tables = c.add_functions.new.store.tables ++ map (λ t. nulls t.limits.min t.limits.max) l }) c.as_slice-3.ensures)
    (hm ∙ ap (λ (l : List Limits). record c.add_tables.new.store { memories = c.add_tables.new.store.memories ++ map (λ x. fresh x.min x.max) l }) c.as_slice-4.ensures)
    (hg ∙ ap (λ (l : List Global). record c.add_memories.new.store { globals = c.add_memories.new.store.globals ++ map (λ g. constant names g.init) l }) c.as_slice-5.ensures)
    (hs ∙ ap (λ (l : List Data). record c.add_globals.new.store { segments = c.add_globals.new.store.segments ++ map bytes_of l }) c.as_slice-6.ensures)
    (c.in_ok-add_references.ensures.store ∙ ap (λ (l : List Elements). record c.add_segments.new.store { elements = c.add_segments.new.store.elements ++ map (refs_of names) l }) c.as_slice-7.ensures)
    c.in_ok-add_instance.ensures.2
