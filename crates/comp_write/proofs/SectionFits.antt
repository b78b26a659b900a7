-- What the sections of a component hold may be written where bytes spell the component, up to places.
use Rattle.std.proofs.Common.{◌≡◌, ℕ, zero, suc, ◌+◌, Bool, true, false, eqb, ltb, List, [], ◌∷◌, length, sym, ap, subst, ◌∙◌}
use Rattle.std.specs.List.{AllByRecursion}
use Rattle.wasm_format.specs.Format.{Format, AreBytes, choose, lacking, image, vec, sized}
use Rattle.wasm_format.specs.Sections.{SectionsSpell}
use Rattle.wasm_format.proofs.LeastLaws.{IsLeast, parts_bytes, least_sized, least_vec}
use Rattle.wasm_ast.specs.ComponentItems.{instance, alias, component_export}
use Rattle.comp_grammar.specs.Trees.{Part, Tree, CoreModule, Nested, CoreInstances, Instances, Aliases, Types, Canons, Imports, Exports, Custom, End}
use Rattle.comp_grammar.specs.CoreInstances.{core_instance}
use Rattle.comp_grammar.specs.Items.{canon, component_import}
use Rattle.comp_grammar.specs.TypeSections.{type_items}
use Rattle.comp_grammar.specs.Components.{custom_in, core_module_in, nested_in, core_instances_in, instances_in, aliases_in, types_in, canons_in, imports_in, exports_in, custom, placed_module, placed, nested_section, low_section, high_section, section, sections, parts_of, all_sections, component}
use Rattle.comp_write.specs.Copying.{bare_part, IsWritable}
use Rattle.comp_write.proofs.Bounds.{CopiesWithin, WritesWithin}
use Rattle.comp_write.proofs.LeastItems.{least_core_instance, least_instance, least_alias, least_type_items, least_canon, least_component_import, least_component_export}
use Rattle.comp_grammar.proofs.BuiltLaws.{built_is, parts_built}
use Rattle.comp_write.proofs.Bare.{AreSame, same_parts}

-- what a section holds may be written
abbrev pub PartFits : Part → Type 0
PartFits (Custom span) = Unit {0}
PartFits (CoreModule span m) = Unit {0}
PartFits (Nested span inner) = Unit {0}
PartFits (CoreInstances items) = (sized (vec core_instance)).Fits items
PartFits (Instances items) = (sized (vec instance)).Fits items
PartFits (Aliases items) = (sized (vec alias)).Fits items
PartFits (Types items) = (sized type_items).Fits items
PartFits (Canons items) = (sized (vec canon)).Fits items
PartFits (Imports items) = (sized (vec component_import)).Fits items
PartFits (Exports items) = (sized (vec component_export)).Fits items

pub record GivesFit (F : Format Part) : Type 0 where
  pub gives : (at : ℕ) (p : Part) (text : List ℕ) → AreBytes text → F.Spells at p text → PartFits p

fit_choose : (b : Bool) (F G : Format Part) → GivesFit F → GivesFit G → GivesFit (choose b F G)
fit_choose true F G f g = f
fit_choose false F G f g = g

fit_lacking : (tag : ℕ) → GivesFit (lacking tag)
fit_lacking tag = record { gives = λ at p text h s. absurd s }

-- items
fit_items : {A : Type 0} (make : A → Part) (from : Part → A) (F : Format A) → IsLeast F → ((a : A) → F.Fits a → PartFits (make a)) → GivesFit (image make from F)
fit_items make from F f e = record { gives = λ at p text h s. subst PartFits (sym s.1) (e s.0 (f.least at s.0 text h s.2).0) }

-- what is copied
fit_copied : {A : Type 0} (make : A → Part) (from : Part → A) (F : Format A) → ((a : A) → PartFits (make a)) → GivesFit (image make from F)
fit_copied make from F e = record { gives = λ at p text h s. subst PartFits (sym s.1) (e s.0) }

fit_low : (b : ℕ) → GivesFit (low_section b)
unfolding low_section
fit_low b =
    fit_choose (eqb b 0) _ _ (fit_copied Custom custom_in (sized custom) (λ a. tt)) (
    fit_choose (eqb b 1) _ _ (fit_copied (λ p. CoreModule p.0 p.1) core_module_in (sized placed_module) (λ a. tt)) (
    fit_choose (eqb b 2) _ _ (fit_items CoreInstances core_instances_in (sized (vec core_instance)) (least_sized _ (least_vec core_instance least_core_instance)) (λ a h. h))
    (fit_lacking b)))

fit_high : (b : ℕ) → GivesFit (high_section b)
unfolding high_section
fit_high b =
    fit_choose (eqb b 5) _ _ (fit_items Instances instances_in (sized (vec instance)) (least_sized _ (least_vec instance least_instance)) (λ a h. h)) (
    fit_choose (eqb b 6) _ _ (fit_items Aliases aliases_in (sized (vec alias)) (least_sized _ (least_vec alias least_alias)) (λ a h. h)) (
    fit_choose (eqb b 7) _ _ (fit_items Types types_in (sized type_items) (least_sized _ least_type_items) (λ a h. h)) (
    fit_choose (eqb b 8) _ _ (fit_items Canons canons_in (sized (vec canon)) (least_sized _ (least_vec canon least_canon)) (λ a h. h)) (
    fit_choose (eqb b 10) _ _ (fit_items Imports imports_in (sized (vec component_import)) (least_sized _ (least_vec component_import least_component_import)) (λ a h. h)) (
    fit_choose (eqb b 11) _ _ (fit_items Exports exports_in (sized (vec component_export)) (least_sized _ (least_vec component_export least_component_export)) (λ a h. h))
    (fit_lacking b))))))

fit_nested : (inner : Format Tree) → GivesFit (nested_section inner)
unfolding nested_section
fit_nested inner = fit_copied (λ p. Nested p.0 p.1) nested_in (sized (placed inner)) (λ a. tt)

section_fits : (inner : Format Tree) (at : ℕ) (p : Part) (text : List ℕ) → AreBytes text → (section inner).Spells at p text → PartFits p
unfolding section
section_fits inner at p [] h s = absurd s
section_fits inner at p (b ∷ text) h s =
    (fit_choose (eqb b 4) (nested_section inner) (choose (ltb b 5) (low_section b) (high_section b)) (fit_nested inner) (fit_choose (ltb b 5) (low_section b) (high_section b) (fit_low b) (fit_high b))).gives (at + 1) p text h.1 s

-- ---- all sections

parts_fit : (inner : Format Tree) (parts : List Part) (s : Tree) (at : ℕ) (text : List ℕ) → AreBytes text → SectionsSpell (sections inner) s at parts text → AllByRecursion PartFits parts
unfolding sections
parts_fit inner [] s at text h w = tt
parts_fit inner (p ∷ parts) s at text h w =
    let b = parts_bytes text w.0 w.1 w.4 h in
    (section_fits inner at p w.0 b.0 w.2, parts_fit inner parts _ (at + length w.0) w.1 b.1 w.3)

tree_fits : (depth at : ℕ) (u : Tree) (text : List ℕ) → AreBytes text → (component depth).Spells at u text → AllByRecursion PartFits (parts_of u)
unfolding component all_sections
tree_fits zero at u text h s = absurd s
tree_fits (suc depth) at u text h s =
    let pair = s.2 in
    let inner : Format Tree = component depth in
    let b = parts_bytes text pair.0 pair.1 pair.4 h in
    let fits = parts_fit inner pair.3.0 End (at + length pair.0) pair.1 b.1 pair.3.1 in
    let same : parts_of u ≡ pair.3.0 = ap parts_of (s.1 ∙ sym pair.3.2 ∙ built_is inner End pair.3.0) ∙ parts_built pair.3.0 in
    subst (λ (z : List Part). AllByRecursion PartFits z) (sym same) fits

-- ---- the same sections up to places

into_bare : (p : Part) → PartFits p → PartFits (bare_part p)
unfolding bare_part
into_bare (CoreModule span m) h = tt
into_bare (Nested span inner) h = tt
into_bare (CoreInstances items) h = h
into_bare (Instances items) h = h
into_bare (Aliases items) h = h
into_bare (Types items) h = h
into_bare (Canons items) h = h
into_bare (Imports items) h = h
into_bare (Exports items) h = h
into_bare (Custom span) h = tt

from_bare : (p : Part) → PartFits (bare_part p) → PartFits p
unfolding bare_part
from_bare (CoreModule span m) h = tt
from_bare (Nested span inner) h = tt
from_bare (CoreInstances items) h = h
from_bare (Instances items) h = h
from_bare (Aliases items) h = h
from_bare (Types items) h = h
from_bare (Canons items) h = h
from_bare (Imports items) h = h
from_bare (Exports items) h = h
from_bare (Custom span) h = tt

same_fit : (ps qs : List Part) → AreSame ps qs → AllByRecursion PartFits ps → AllByRecursion PartFits qs
same_fit [] [] e h = tt
same_fit [] (q ∷ qs) e h = absurd e
same_fit (p ∷ ps) [] e h = tt
same_fit (p ∷ ps) (q ∷ qs) e h = (from_bare q (subst PartFits e.0 (into_bare p h.0)), same_fit ps qs e.1 h.1)

pub all_fit : (depth : ℕ) (source : List ℕ) (t : Tree) → WritesWithin depth source t → AllByRecursion PartFits (parts_of t)
all_fit depth source t h =
    let s = h.spelled.2 in
    same_fit (parts_of s.0) (parts_of t) (same_parts s.0 t s.2) (tree_fits (suc depth) 0 s.0 h.spelled.0 h.spelled.1 s.1)

writable : (depth : ℕ) (source : List ℕ) (p : Part) → CopiesWithin depth source p → PartFits p → IsWritable source p
writable depth source (Custom span) c h = c.0
writable depth source (CoreModule span m) c h = c.0
writable depth source (Nested span inner) c h = c.0
writable depth source (CoreInstances items) c h = h
writable depth source (Instances items) c h = h
writable depth source (Aliases items) c h = h
writable depth source (Types items) c h = h
writable depth source (Canons items) c h = h
writable depth source (Imports items) c h = h
writable depth source (Exports items) c h = h

all_writable : (depth : ℕ) (source : List ℕ) (parts : List Part) → AllByRecursion (CopiesWithin depth source) parts → AllByRecursion PartFits parts → AllByRecursion (IsWritable source) parts
all_writable depth source [] c h = tt
all_writable depth source (p ∷ parts) c h = (writable depth source p c.0 h.0, all_writable depth source parts c.1 h.1)

pub may_be_written : (depth : ℕ) (source : List ℕ) (t : Tree) → WritesWithin depth source t → AllByRecursion (IsWritable source) (parts_of t)
may_be_written depth source t h = all_writable depth source (parts_of t) h.copied (all_fit depth source t h)
