-- What is written of a piece spells its section.
use Rattle.std.proofs.Common.{◌≡◌, ℕ, ◌+◌, ◌<◌, ◌≤◌, ◌^◌, List, ◌∷◌, ◌++◌, length, Result, Ok, Err, refl, sym, ap, subst, ◌∙◌, append_assoc, arith}
use Rattle.std.specs.Prelude.{max, OnOk}
use Rattle.std.proofs.Math.Nat.{le-max_left, le-max_right}
use Rattle.wasm_format.specs.Format.{u32_format, sized, anything}
use Rattle.wasm_format.proofs.Laws.{exact_u32, u32_fits, exact_vec, exact_sized, to_end}
use Rattle.wasm_ast.specs.declared.component.Span.{Span}
use Rattle.wasm_ast.specs.declared.module.Module.{Module}
use Rattle.wasm_ast.specs.Modules.{core_module}
use Rattle.wasm_ast.specs.ComponentItems.{instance, alias, component_export}
use Rattle.wasm_ast.proofs.ComponentGrammar.{exact_instance, exact_alias, exact_component_export}
use Rattle.comp_grammar.specs.Trees.{Part, Tree, CoreModule, Nested, CoreInstances, Instances, Aliases, Types, Canons, Imports, Exports}
use Rattle.comp_grammar.specs.CoreInstances.{core_instance}
use Rattle.comp_grammar.specs.Items.{canon, component_import}
use Rattle.comp_grammar.specs.Components.{no_span, add, beside, placed_module, placed, nested_section, low_section, high_section, section, component, SpellsComponent}
use Rattle.comp_grammar.proofs.CoreInstanceLaws.{exact_core_instance}
use Rattle.comp_grammar.proofs.ItemLaws.{exact_canon, exact_component_import}
use Rattle.comp_grammar.proofs.TypeSectionLaws.{exact_type_items}
use Rattle.comp_grammar.proofs.DepthLaws.{deeper, spelled_once}
use Rattle.comp_write.specs.Copying.{bare_part, bare, SpellsBare}
use Rattle.comp_write.proofs.SectionFloats.{moved_to}
use Rattle.comp_write.proofs.FloatCore.{floating_core_module}
use Rattle.virt_output.specs.declared.piece.Piece.{Piece}
use Rattle.virt_output.specs.declared.piece.Piece.TheVariants as pieces
use Rattle.virt_output.specs.declared.fault.PieceFault.{PieceFault}
use Rattle.virt_output.specs.Pieces.{id_of, content_of, ItemsFit, IsPieceOf, Adds, head_of_component}
use Rattle.virt_output.proofs.Adding.{SpellsSection, added}

-- the bytes of a section
abbrev pub section_of : ℕ → List ℕ → List ℕ
section_of id content = id ∷ (sized anything).write content

-- a section that holds the bytes of a component
nested_spelled : (depth : ℕ) (bytes : List ℕ) (part : Part) (span : Span) (t u : Tree) → length bytes < 2 ^ 32 → part ≡ Nested span t → (component depth).Spells 0 u bytes → bare u ≡ bare t → SpellsSection depth part (section_of 4 bytes)
unfolding section nested_section placed bare_part
nested_spelled depth bytes part span t u long e s same at =
    let size : List ℕ = u32_format.write (length bytes) in
    let here : ℕ = at + 1 + length size in
    let moved = moved_to depth 0 here t bytes (u, s, same) in
    let place : Span × Tree = beside here (here + length bytes) moved.0 in (
      Nested place.0 moved.0,
      (place, refl, (size, bytes, exact_u32.written (length bytes) (at + 1) (u32_fits (length bytes) long), (moved.0, refl, moved.1), refl)),
      ap (Nested no_span) moved.2 ∙ sym (ap bare_part e),
    )

-- a section that holds the bytes of a core module
module_spelled : (depth : ℕ) (bytes : List ℕ) (part : Part) (span : Span) (m : Module) → length bytes < 2 ^ 32 → part ≡ CoreModule span m → core_module.Spells 0 m bytes → SpellsSection depth part (section_of 1 bytes)
unfolding section low_section placed_module bare_part
module_spelled depth bytes part span m long e s at =
    let size : List ℕ = u32_format.write (length bytes) in
    let here : ℕ = at + 1 + length size in
    let place : Span × Module = beside here (here + length bytes) m in (
      CoreModule place.0 m,
      (place, refl, (size, bytes, exact_u32.written (length bytes) (at + 1) (u32_fits (length bytes) long), (m, refl, floating_core_module.floats 0 here m bytes s), refl)),
      sym (ap bare_part e),
    )

items_spelled : (piece : Piece) (part : Part) → length (content_of piece) < 2 ^ 32 → ItemsFit piece → IsPieceOf piece part → (least : ℕ) → (d : ℕ) × (least ≤ d) × SpellsSection d part (section_of (id_of piece) (content_of piece))
unfolding section low_section high_section bare_part
items_spelled (pieces.CoreModule bytes) part long fits h least = (least, omega arith, module_spelled least bytes.now part h.0 h.1 long h.2 h.3)
items_spelled (pieces.Component bytes) part long fits h least =
    let u = h.3.0 in
    let own = h.3.1.0 in
    let d : ℕ = max least own in
    (d, le-max_left least own, nested_spelled d bytes.now part h.0 h.1 u long h.2 (deeper own d 0 u bytes.now (le-max_right least own) h.3.1.1) h.3.2)
items_spelled (pieces.CoreInstances items) part long fits h least =
    (least, omega arith, λ at. (CoreInstances items, (items, refl, (exact_sized _ (to_end _ (exact_vec core_instance exact_core_instance))).written items (at + 1) (long, fits)), sym (ap bare_part h)))
items_spelled (pieces.Instances items) part long fits h least =
    (least, omega arith, λ at. (Instances items, (items, refl, (exact_sized _ (to_end _ (exact_vec instance exact_instance))).written items (at + 1) (long, fits)), sym (ap bare_part h)))
items_spelled (pieces.Aliases items) part long fits h least =
    (least, omega arith, λ at. (Aliases items, (items, refl, (exact_sized _ (to_end _ (exact_vec alias exact_alias))).written items (at + 1) (long, fits)), sym (ap bare_part h)))
items_spelled (pieces.Types items) part long fits h least =
    (least, omega arith, λ at. (Types items, (items, refl, (exact_sized _ (to_end _ exact_type_items)).written items (at + 1) (long, fits)), sym (ap bare_part h)))
items_spelled (pieces.Canons items) part long fits h least =
    (least, omega arith, λ at. (Canons items, (items, refl, (exact_sized _ (to_end _ (exact_vec canon exact_canon))).written items (at + 1) (long, fits)), sym (ap bare_part h)))
items_spelled (pieces.Imports items) part long fits h least =
    (least, omega arith, λ at. (Imports items, (items, refl, (exact_sized _ (to_end _ (exact_vec component_import exact_component_import))).written items (at + 1) (long, fits)), sym (ap bare_part h)))
items_spelled (pieces.Exports items) part long fits h least =
    (least, omega arith, λ at. (Exports items, (items, refl, (exact_sized _ (to_end _ (exact_vec component_export exact_component_export))).written items (at + 1) (long, fits)), sym (ap bare_part h)))

-- a piece added to a component
pub piece_added : (piece : Piece) (old new : List ℕ) (r : Result (Unit {0}) PieceFault) → ItemsFit piece → Adds (id_of piece) (content_of piece) old new r
    → OnOk r ((t : Tree) → (part : Part) → IsPieceOf piece part → SpellsBare 0 t old → SpellsBare 0 (add t part) new)
piece_added piece old new (Ok done) fits a = λ t part h s.
    subst (SpellsBare 0 (add t part)) (sym a.1) (added t part old (section_of (id_of piece) (content_of piece)) (items_spelled piece part a.0 fits h) s)
piece_added piece old new (Err d) fits a = tt

-- the head of a component added to one, and then its bytes
pub head_added : (size : ℕ) (old new : List ℕ) → size < 2 ^ 32 → new ≡ old ++ head_of_component size → (t u : Tree) → (bytes : List ℕ) → length bytes ≡ size → SpellsBare 0 u bytes → SpellsBare 0 t old → SpellsBare 0 (add t (Nested no_span u)) (new ++ bytes)
head_added size old new low e t u bytes n v s =
    let long : length bytes < 2 ^ 32 = omega (arith, n, low) in
    let text : List ℕ = section_of 4 bytes in
    let nested : (least : ℕ) → (d : ℕ) × (least ≤ d) × SpellsSection d (Nested no_span u) text = λ least.
    let own = v.1.0 in
    let d : ℕ = max least own in
    (d, le-max_left least own, nested_spelled d bytes (Nested no_span u) no_span u v.0 long refl (deeper own d 0 v.0 bytes (le-max_right least own) v.1.1) v.2) in
    let head : head_of_component size ++ bytes ≡ text = ap (λ (k : ℕ). head_of_component k ++ bytes) (sym n) in
    let all : new ++ bytes ≡ old ++ text = ap (λ (z : List ℕ). z ++ bytes) e ∙ append_assoc old (head_of_component size) bytes ∙ ap (λ (z : List ℕ). old ++ z) head in
    subst (SpellsBare 0 (add t (Nested no_span u))) (sym all) (added t (Nested no_span u) old text nested s)

-- whatever component has a spelling of this one is this one, up to places
pub read_back : (t : Tree) (out : List ℕ) → SpellsBare 0 t out → (u : Tree) → SpellsComponent u out → bare u ≡ bare t
read_back t out w u s = ap bare (spelled_once u w.0 out s w.1) ∙ w.2
