-- A component that bytes spell may be written, with these bytes as the input that it copies from.
use Rattle.std.proofs.Common.{◌≡◌, ℕ, zero, suc, ◌+◌, ◌-◌, ◌<◌, ◌^◌, Bool, true, false, eqb, ltb, List, [], ◌∷◌, ◌++◌, length, take, drop, refl, sym, ap, subst, ◌∙◌, append_assoc, arith}
use Rattle.std.specs.List.{AllByRecursion}
use Rattle.std.proofs.lemmas.List.{length-append, append-nil, take_at, drop_at}
use Rattle.wasm_format.specs.Format.{Format, AreBytes, choose, lacking, image, vec, sized}
use Rattle.wasm_format.specs.Sections.{SectionsSpell}
use Rattle.wasm_ast.specs.declared.component.Span.{Span}
use Rattle.wasm_ast.specs.declared.module.Module.{Module}
use Rattle.wasm_ast.specs.Modules.{note, core_module}
use Rattle.wasm_ast.specs.ComponentItems.{instance, alias, component_export}
use Rattle.comp_grammar.specs.Trees.{Part, Tree, CoreModule, Nested, CoreInstances, Instances, Aliases, Types, Canons, Imports, Exports, Custom, End}
use Rattle.comp_grammar.specs.CoreInstances.{core_instance}
use Rattle.comp_grammar.specs.Items.{canon, component_import}
use Rattle.comp_grammar.specs.TypeSections.{type_items}
use Rattle.comp_grammar.specs.Components.{custom_in, core_module_in, core_instances_in, instances_in, aliases_in, types_in, canons_in, imports_in, exports_in, span_of, custom, placed_module, placed, nested_section, low_section, high_section, section, sections, parts_of, all_sections, component, SpellsComponent}
use Rattle.comp_write.specs.Copying.{cut, LiesIn, MayWrite}
use Rattle.comp_write.proofs.Bounds.{CopiesWithin, WritesWithin, may_at_any}
use Rattle.comp_grammar.proofs.BuiltLaws.{built_is, parts_built}

-- the part of an input after a front and a size
stands : (source front size y more : List ℕ) (at : ℕ) → source ≡ front ++ ((size ++ y) ++ more) → at ≡ length front → length source < 2 ^ 32
    → LiesIn (span_of {A = Unit {0}} (at + length size) (at + length size + length y) tt) source × (cut (span_of {A = Unit {0}} (at + length size) (at + length size + length y) tt) source ≡ y)
stands source front size y more at e far small =
    let from : ℕ = at + length size in
    let group : source ≡ (front ++ size) ++ (y ++ more) = e ∙ ap (λ (z : List ℕ). front ++ z) (append_assoc size y more) ∙ sym (append_assoc front size (y ++ more)) in
    let head : length (front ++ size) ≡ from = omega (arith, far, length-append front size) in
    let whole : length source ≡ from + (length y + length more) = omega (arith, ap length group, length-append (front ++ size) (y ++ more), length-append y more, head) in
    let count : from + length y - from ≡ length y = omega arith in
    let behind : drop from source ≡ y ++ more = ap (drop from) group ∙ drop_at (front ++ size) (y ++ more) from head in (
      (omega arith, omega (arith, whole), omega (arith, whole, small)),
      ap (λ (n : ℕ). take n (drop from source)) count ∙ ap (take (length y)) behind ∙ take_at y more (length y) refl,
    )

-- What is spelled after a front of the input is copied from there.
pub record GivesCopy (depth : ℕ) (F : Format Part) : Type 0 where
  pub gives : (source front text more : List ℕ) (at : ℕ) (p : Part) → source ≡ front ++ (text ++ more) → at ≡ length front → length source < 2 ^ 32 → F.Spells at p text → CopiesWithin depth source p

copy_choose : (depth : ℕ) (b : Bool) (F G : Format Part) → GivesCopy depth F → GivesCopy depth G → GivesCopy depth (choose b F G)
copy_choose depth true F G f g = f
copy_choose depth false F G f g = g

copy_lacking : (depth tag : ℕ) → GivesCopy depth (lacking tag)
copy_lacking depth tag = record { gives = λ source front text more at p e far small s. absurd s }

-- nothing of it is copied
copy_items : {A : Type 0} (depth : ℕ) (make : A → Part) (from : Part → A) (F : Format A) → ((source : List ℕ) (a : A) → CopiesWithin depth source (make a)) → GivesCopy depth (image make from F)
copy_items depth make from F h = record { gives = λ source front text more at p e far small s. subst (CopiesWithin depth source) (sym s.1) (h source s.0) }

copy_custom : (depth : ℕ) → GivesCopy depth (image Custom custom_in (sized custom))
unfolding custom
copy_custom depth = record {
  gives = λ source front text more at p e far small s.
      let w = s.2 in
      let place = stands source front w.0 w.1 more at (e ∙ ap (λ (z : List ℕ). front ++ (z ++ more)) w.4) far small in
      let note_there : note.Spells (at + length w.0) tt (cut (span_of {A = Unit {0}} (at + length w.0) (at + length w.0 + length w.1) tt) source) = subst (λ (z : List ℕ). note.Spells (at + length w.0) tt z) (sym place.1) w.3.2 in
      subst (CopiesWithin depth source) (sym (s.1 ∙ ap Custom w.3.1)) (place.0, note_there);
}

copy_core_module : (depth : ℕ) → GivesCopy depth (image (λ p. CoreModule p.0 p.1) core_module_in (sized placed_module))
unfolding placed_module
copy_core_module depth = record {
  gives = λ source front text more at p e far small s.
      let w = s.2 in
      let m : Module = w.3.0 in
      let place = stands source front w.0 w.1 more at (e ∙ ap (λ (z : List ℕ). front ++ (z ++ more)) w.4) far small in
      let there : core_module.Spells (at + length w.0) m (cut (span_of {A = Unit {0}} (at + length w.0) (at + length w.0 + length w.1) tt) source) = subst (λ (z : List ℕ). core_module.Spells (at + length w.0) m z) (sym place.1) w.3.2 in
      subst (CopiesWithin depth source) (sym (s.1 ∙ ap (λ (x : Span × Module). CoreModule x.0 x.1) w.3.1)) (place.0, there);
}

copy_nested : (depth : ℕ) → GivesCopy depth (nested_section (component depth))
unfolding nested_section placed
copy_nested depth = record {
  gives = λ source front text more at p e far small s.
      let w = s.2 in
      let u : Tree = w.3.0 in
      let place = stands source front w.0 w.1 more at (e ∙ ap (λ (z : List ℕ). front ++ (z ++ more)) w.4) far small in
      let there : (component depth).Spells (at + length w.0) u (cut (span_of {A = Unit {0}} (at + length w.0) (at + length w.0 + length w.1) tt) source) = subst (λ (z : List ℕ). (component depth).Spells (at + length w.0) u z) (sym place.1) w.3.2 in
      subst (CopiesWithin depth source) (sym (s.1 ∙ ap (λ (x : Span × Tree). Nested x.0 x.1) w.3.1)) (place.0, (u, there, refl));
}

copy_low : (depth b : ℕ) → GivesCopy depth (low_section b)
unfolding low_section
copy_low depth b =
    copy_choose depth (eqb b 0) _ _ (copy_custom depth) (
    copy_choose depth (eqb b 1) _ _ (copy_core_module depth) (
    copy_choose depth (eqb b 2) _ _ (copy_items depth CoreInstances core_instances_in (sized (vec core_instance)) (λ source a. tt))
    (copy_lacking depth b)))

copy_high : (depth b : ℕ) → GivesCopy depth (high_section b)
unfolding high_section
copy_high depth b =
    copy_choose depth (eqb b 5) _ _ (copy_items depth Instances instances_in (sized (vec instance)) (λ source a. tt)) (
    copy_choose depth (eqb b 6) _ _ (copy_items depth Aliases aliases_in (sized (vec alias)) (λ source a. tt)) (
    copy_choose depth (eqb b 7) _ _ (copy_items depth Types types_in (sized type_items) (λ source a. tt)) (
    copy_choose depth (eqb b 8) _ _ (copy_items depth Canons canons_in (sized (vec canon)) (λ source a. tt)) (
    copy_choose depth (eqb b 10) _ _ (copy_items depth Imports imports_in (sized (vec component_import)) (λ source a. tt)) (
    copy_choose depth (eqb b 11) _ _ (copy_items depth Exports exports_in (sized (vec component_export)) (λ source a. tt))
    (copy_lacking depth b))))))

section_copied : (depth : ℕ) (source front text more : List ℕ) (at : ℕ) (p : Part) → source ≡ front ++ (text ++ more) → at ≡ length front → length source < 2 ^ 32 → (section (component depth)).Spells at p text → CopiesWithin depth source p
unfolding section
section_copied depth source front [] more at p e far small s = absurd s
section_copied depth source front (b ∷ text) more at p e far small s =
    (copy_choose depth (eqb b 4) (nested_section (component depth)) (choose (ltb b 5) (low_section b) (high_section b)) (copy_nested depth) (copy_choose depth (ltb b 5) (low_section b) (high_section b) (copy_low depth b) (copy_high depth b))).gives
    source (front ++ b ∷ []) text more (at + 1) p (e ∙ sym (append_assoc front (b ∷ []) (text ++ more))) (omega (arith, far, length-append front (b ∷ []))) small s

parts_copied : (depth : ℕ) (parts : List Part) (s : Tree) (source front text more : List ℕ) (at : ℕ) → source ≡ front ++ (text ++ more) → at ≡ length front → length source < 2 ^ 32 → SectionsSpell (sections (component depth)) s at parts text → AllByRecursion (CopiesWithin depth source) parts
unfolding sections
parts_copied depth [] s source front text more at e far small w = tt
parts_copied depth (p ∷ parts) s source front text more at e far small w =
    let x = w.0 in let y = w.1 in
    let one : source ≡ front ++ (x ++ (y ++ more)) = e ∙ ap (λ (z : List ℕ). front ++ (z ++ more)) w.4 ∙ ap (λ (z : List ℕ). front ++ z) (append_assoc x y more) in (
      section_copied depth source front x (y ++ more) at p one far small w.2,
      parts_copied depth parts _ source (front ++ x) y more (at + length x) (one ∙ sym (append_assoc front x (y ++ more))) (omega (arith, far, length-append front x)) small w.3,
    )

tree_copied : (depth : ℕ) (t : Tree) (text : List ℕ) → length text < 2 ^ 32 → (component (suc depth)).Spells 0 t text → AllByRecursion (CopiesWithin depth text) (parts_of t)
unfolding component all_sections
tree_copied depth t text small s =
    let pair = s.2 in
    let inner : Format Tree = component depth in
    let far : 0 + length pair.0 ≡ length pair.0 = omega arith in
    let split : text ≡ pair.0 ++ (pair.1 ++ []) = pair.4 ∙ ap (λ (z : List ℕ). pair.0 ++ z) (sym (append-nil pair.1)) in
    let copied = parts_copied depth pair.3.0 End text pair.0 pair.1 [] (0 + length pair.0) split far small pair.3.1 in
    let same : parts_of t ≡ pair.3.0 = ap parts_of (s.1 ∙ sym pair.3.2 ∙ built_is inner End pair.3.0) ∙ parts_built pair.3.0 in
    subst (λ (z : List Part). AllByRecursion (CopiesWithin depth text) z) (sym same) copied

-- A component that bytes spell may be written over these bytes.
may_write : (depth : ℕ) (t : Tree) (text : List ℕ) → AreBytes text → length text < 2 ^ 32 → (component (suc depth)).Spells 0 t text → WritesWithin depth text t
may_write depth t text h small s = record { spelled = (text, h, (t, s, refl)); copied = tree_copied depth t text small s }

-- what was read
pub read_may_be_written : (t : Tree) (text : List ℕ) → AreBytes text → length text < 2 ^ 32 → SpellsComponent t text → MayWrite text t
unfolding component
read_may_be_written t text h small (zero, s) = absurd s
read_may_be_written t text h small (suc depth, s) = may_at_any depth text t (may_write depth t text h small s)
