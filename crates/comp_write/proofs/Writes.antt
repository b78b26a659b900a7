-- What is written spells the component, up to places.
use Rattle.std.proofs.Common.{ℕ, suc, ◌+◌, ◌-◌, List, [], ◌∷◌, length, drop, refl, ap, ◌∙◌, arith}
use Rattle.std.specs.List.{AllByRecursion}
use Rattle.std.proofs.lemmas.List.{length-take}
use Rattle.wasm_format.specs.Format.{Format, u32_format}
use Rattle.wasm_format.specs.Sections.{SectionsSpell, built}
use Rattle.wasm_format.proofs.Laws.{exact_u32, u32_fits, exact_vec, exact_sized, to_end}
use Rattle.wasm_ast.specs.declared.component.Span.{Span}
use Rattle.wasm_ast.specs.declared.module.Module.{Module}
use Rattle.wasm_ast.proofs.ComponentGrammar.{exact_instance, exact_alias, exact_component_export}
use Rattle.wasm_ast.specs.ComponentItems.{instance, alias, component_export}
use Rattle.comp_grammar.specs.Trees.{Part, Tree, CoreModule, Nested, CoreInstances, Instances, Aliases, Types, Canons, Imports, Exports, Custom, End}
use Rattle.comp_grammar.specs.CoreInstances.{core_instance}
use Rattle.comp_grammar.specs.Items.{canon, component_import}
use Rattle.comp_grammar.specs.Components.{no_span, add, beside, span_of, custom, placed_module, placed, nested_section, low_section, high_section, section, sections, parts_of, preamble, all_sections, component}
use Rattle.comp_grammar.proofs.CoreInstanceLaws.{exact_core_instance}
use Rattle.comp_grammar.proofs.ItemLaws.{exact_canon, exact_component_import}
use Rattle.comp_grammar.proofs.TypeSectionLaws.{exact_type_items}
use Rattle.comp_write.specs.Copying.{bare_part, bare, cut, LiesIn, section_bytes, all_bytes, component_bytes}
use Rattle.comp_write.proofs.Bounds.{SpellsWithin, CopiesWithin, WritesWithin}
use Rattle.comp_write.proofs.FloatCore.{floating_note, floating_core_module}
use Rattle.comp_grammar.proofs.BuiltLaws.{built_is, built_again}
use Rattle.comp_write.proofs.Bare.{AreSame, same_built}
use Rattle.comp_write.proofs.SectionFloats.{Floated, moved_to}
use Rattle.comp_write.proofs.SectionFits.{PartFits, all_fit}

cut_fits : (span : Span) (source : List ℕ) → LiesIn span source → u32_format.Fits (length (cut span source))
cut_fits span source h = u32_fits (length (cut span source)) (omega (arith, h.2, length-take (span.to - span.from) (drop span.from source)))

-- one section, as it is written
part_written : (depth : ℕ) (source : List ℕ) (p : Part) → CopiesWithin depth source p → PartFits p → (at : ℕ) → Floated (section (component depth)) at p (section_bytes source p)
unfolding section low_section high_section nested_section custom placed_module placed bare_part
part_written depth source (Custom span) c h at =
    let bytes : List ℕ = cut span source in
    let size : List ℕ = u32_format.write (length bytes) in
    let here : ℕ = at + 1 + length size in
    let place : Span = span_of {A = Unit {0}} here (here + length bytes) tt in
    (Custom place, (place, refl, (size, bytes, exact_u32.written (length bytes) (at + 1) (cut_fits span source c.0), (tt, refl, floating_note.floats span.from here tt bytes c.1), refl)), refl)
part_written depth source (CoreModule span m) c h at =
    let bytes : List ℕ = cut span source in
    let size : List ℕ = u32_format.write (length bytes) in
    let here : ℕ = at + 1 + length size in
    let place : Span × Module = beside here (here + length bytes) m in
    (CoreModule place.0 m, (place, refl, (size, bytes, exact_u32.written (length bytes) (at + 1) (cut_fits span source c.0), (m, refl, floating_core_module.floats span.from here m bytes c.1), refl)), refl)
part_written depth source (Nested span inner) c h at =
    let bytes : List ℕ = cut span source in
    let size : List ℕ = u32_format.write (length bytes) in
    let here : ℕ = at + 1 + length size in
    let moved = moved_to depth span.from here inner bytes c.1 in
    let place : Span × Tree = beside here (here + length bytes) moved.0 in
    (Nested place.0 moved.0, (place, refl, (size, bytes, exact_u32.written (length bytes) (at + 1) (cut_fits span source c.0), (moved.0, refl, moved.1), refl)), ap (Nested no_span) moved.2)
part_written depth source (CoreInstances items) c h at = (CoreInstances items, (items, refl, (exact_sized _ (to_end _ (exact_vec core_instance exact_core_instance))).written items (at + 1) h), refl)
part_written depth source (Instances items) c h at = (Instances items, (items, refl, (exact_sized _ (to_end _ (exact_vec instance exact_instance))).written items (at + 1) h), refl)
part_written depth source (Aliases items) c h at = (Aliases items, (items, refl, (exact_sized _ (to_end _ (exact_vec alias exact_alias))).written items (at + 1) h), refl)
part_written depth source (Types items) c h at = (Types items, (items, refl, (exact_sized _ (to_end _ exact_type_items)).written items (at + 1) h), refl)
part_written depth source (Canons items) c h at = (Canons items, (items, refl, (exact_sized _ (to_end _ (exact_vec canon exact_canon))).written items (at + 1) h), refl)
part_written depth source (Imports items) c h at = (Imports items, (items, refl, (exact_sized _ (to_end _ (exact_vec component_import exact_component_import))).written items (at + 1) h), refl)
part_written depth source (Exports items) c h at = (Exports items, (items, refl, (exact_sized _ (to_end _ (exact_vec component_export exact_component_export))).written items (at + 1) h), refl)

parts_written : (depth : ℕ) (source : List ℕ) (parts : List Part) → AllByRecursion (CopiesWithin depth source) parts → AllByRecursion PartFits parts → (s : Tree) (at : ℕ)
    → (placed : List Part) × SectionsSpell (sections (component depth)) s at placed (all_bytes source parts) × AreSame placed parts
unfolding sections
parts_written depth source [] c h s at = ([], refl, tt)
parts_written depth source (p ∷ parts) c h s at =
    let one = part_written depth source p c.0 h.0 at in
    let rest = parts_written depth source parts c.1 h.1 (add s one.0) (at + length (section_bytes source p)) in
    (one.0 ∷ rest.0, (section_bytes source p, all_bytes source parts, one.1, rest.1, refl), (one.2, rest.2))

pub spells : (depth : ℕ) (source : List ℕ) (t : Tree) → WritesWithin depth source t → SpellsWithin (suc depth) 0 t (component_bytes source t)
unfolding component all_sections sections
spells depth source t h =
    let inner : Format Tree = component depth in
    let w = parts_written depth source (parts_of t) h.copied (all_fit depth source t h) End (0 + length preamble) in
    let v : Tree = built (sections inner) End w.0 in (
      v,
      ((tt, v), refl, (preamble, all_bytes source (parts_of t), (refl, refl), (w.0, w.1, refl, refl), refl)),
      ap bare (built_is inner End w.0) ∙ same_built w.0 (parts_of t) w.2 ∙ ap bare (built_again t),
    )
