-- What the format of modules writes is the preamble and a section for each list, and each list fits where the module does.
use Rattle.std.proofs.Common.{◌≡◌, ℕ, List, [], ◌∷◌, ◌++◌, Option, Some, None, inl, inr, refl, sym, ap, subst, ◌∙◌, append_assoc}
use Rattle.std.specs.List.{AllByRecursion}
use Rattle.std.proofs.lemmas.List.{append-nil}
use Rattle.wasm_format.specs.Format.{Format, vec, sized, u32_format}
use Rattle.wasm_format.specs.Sections.{PartsFit, write_parts}
use Rattle.wasm_ast.specs.declared.module.Module.{Module}
use Rattle.wasm_ast.specs.declared.section.CoreSection.{CoreSection}
use Rattle.wasm_ast.specs.declared.section.CoreSection.TheVariants as kind
use Rattle.wasm_ast.specs.Types.{core_func, limits, table_type}
use Rattle.wasm_ast.specs.Items.{import, export, global, elements, body, segment}
use Rattle.wasm_ast.specs.Modules.{Progress, counted, low_section, section, sections, no_sections, unless_empty, if_there, sections_of, preamble, all_sections, core_module}
use Rattle.core_write.specs.Written.{list_section, ListFits, number_section, NumberFits, front_bytes, back_bytes, module_bytes, ModuleFits}
use Rattle.core_write.proofs.SectionBytes.{ContentFits, section_bytes, is_custom, fits_as, fits_behind}
use Rattle.core_write.proofs.ModuleLeast.{rebuilt}

-- ---- one section

custom_written : (s : Progress) → (section s).write kind.Custom ≡ section_bytes kind.Custom
unfolding section low_section
custom_written s = refl

written_as : (s : Progress) (part : CoreSection) → (section s).Fits part → (section s).write part ≡ section_bytes part
written_as s part f =
    elim (is_custom part) [
      | inl e ↦ ap (section s).write e ∙ custom_written s ∙ ap section_bytes (sym e)
      | inr lt ↦ let a = fits_as s part f lt in (fits_behind s part lt a.1 a.0).1
    ]

-- what a section's content fits, whatever stands before
abbrev ListedFits : CoreSection → Type 0
ListedFits kind.Custom = Unit {0}
ListedFits (kind.Types x) = (sized (vec core_func)).Fits x
ListedFits (kind.Imports x) = (sized (vec import)).Fits x
ListedFits (kind.Functions x) = (sized (vec u32_format)).Fits x
ListedFits (kind.Tables x) = (sized (vec table_type)).Fits x
ListedFits (kind.Memories x) = (sized (vec limits)).Fits x
ListedFits (kind.Globals x) = (sized (vec global)).Fits x
ListedFits (kind.Exports x) = (sized (vec export)).Fits x
ListedFits (kind.Start x) = (sized u32_format).Fits x
ListedFits (kind.Elements x) = (sized (vec elements)).Fits x
ListedFits (kind.DataCount x) = (sized u32_format).Fits x
ListedFits (kind.Code x) = (sized (vec (sized body))).Fits x
ListedFits (kind.Segments x) = (sized (vec segment)).Fits x

counted_fits : (count : Option ℕ) (x : List _) → (sized (counted count)).Fits x → (sized (vec segment)).Fits x
counted_fits None x h = h
counted_fits (Some n) x h = (h.0, h.1.1)

content_fits : (m : Module) (part : CoreSection) → ContentFits m part → ListedFits part
content_fits m kind.Custom h = tt
content_fits m (kind.Types x) h = h
content_fits m (kind.Imports x) h = h
content_fits m (kind.Functions x) h = h
content_fits m (kind.Tables x) h = h
content_fits m (kind.Memories x) h = h
content_fits m (kind.Globals x) h = h
content_fits m (kind.Exports x) h = h
content_fits m (kind.Start x) h = h
content_fits m (kind.Elements x) h = h
content_fits m (kind.DataCount x) h = h
content_fits m (kind.Code x) h = (h.0, h.1.1)
content_fits m (kind.Segments x) h = counted_fits m.data_count x h

listed_fits : (s : Progress) (part : CoreSection) → (section s).Fits part → ListedFits part
listed_fits s part f =
    elim (is_custom part) [
      | inl e ↦ subst ListedFits (sym e) tt
      | inr lt ↦ content_fits s.found part (fits_as s part f lt).0
    ]

-- ---- all sections

abbrev bytes_of : List CoreSection → List ℕ
bytes_of [] = []
bytes_of (part ∷ parts) = section_bytes part ++ bytes_of parts

parts_written : (parts : List CoreSection) (s : Progress) → PartsFit sections s parts → write_parts sections s parts ≡ bytes_of parts
unfolding sections
parts_written [] s h = refl
parts_written (part ∷ parts) s h = rw (written_as s part h.0, parts_written parts _ h.1) refl

parts_listed : (parts : List CoreSection) (s : Progress) → PartsFit sections s parts → AllByRecursion ListedFits parts
unfolding sections
parts_listed [] s h = tt
parts_listed (part ∷ parts) s h = (listed_fits s part h.0, parts_listed parts _ h.1)

bytes_then : (xs ys : List CoreSection) → bytes_of (xs ++ ys) ≡ bytes_of xs ++ bytes_of ys
bytes_then [] ys = refl
bytes_then (x ∷ xs) ys = rw (bytes_then xs ys) (sym (append_assoc (section_bytes x) (bytes_of xs) (bytes_of ys)))

listed_then : (xs ys : List CoreSection) → AllByRecursion ListedFits (xs ++ ys) → AllByRecursion ListedFits xs × AllByRecursion ListedFits ys
listed_then [] ys h = (tt, h)
listed_then (x ∷ xs) ys h = let w = listed_then xs ys h.1 in ((h.0, w.0), w.1)

list_bytes : {A : Type 0} (id : ℕ) (F : Format A) (make : List A → CoreSection) → ((x : List A) → section_bytes (make x) ≡ id ∷ (sized (vec F)).write x) → (items : List A) → bytes_of (unless_empty make items) ≡ list_section id F items
list_bytes id F make e [] = refl
list_bytes id F make e (a ∷ items) = append-nil (section_bytes (make (a ∷ items))) ∙ e (a ∷ items)

number_bytes : (id : ℕ) (make : ℕ → CoreSection) → ((x : ℕ) → section_bytes (make x) ≡ id ∷ (sized u32_format).write x) → (n : Option ℕ) → bytes_of (if_there make n) ≡ number_section id n
number_bytes id make e None = refl
number_bytes id make e (Some n) = append-nil (section_bytes (make n)) ∙ e n

list_fits : {A : Type 0} (F : Format A) (make : List A → CoreSection) → ((x : List A) → ListedFits (make x) → (sized (vec F)).Fits x) → (items : List A) → AllByRecursion ListedFits (unless_empty make items) → ListFits F items
list_fits F make e [] h = tt
list_fits F make e (a ∷ items) h = e (a ∷ items) h.0

number_fits : (make : ℕ → CoreSection) → ((x : ℕ) → ListedFits (make x) → (sized u32_format).Fits x) → (n : Option ℕ) → AllByRecursion ListedFits (if_there make n) → NumberFits n
number_fits make e None h = tt
number_fits make e (Some n) h = e n h.0

all_bytes : (m : Module) → bytes_of (sections_of m) ≡ front_bytes m ++ back_bytes m
all_bytes m =
    simp (bytes_then, append_assoc, list_bytes 1 core_func kind.Types (λ x. refl) m.types, list_bytes 2 import kind.Imports (λ x. refl) m.imports, list_bytes 3 u32_format kind.Functions (λ x. refl) m.functions, list_bytes 4 table_type kind.Tables (λ x. refl) m.tables, list_bytes 5 limits kind.Memories (λ x. refl) m.memories, list_bytes 6 global kind.Globals (λ x. refl) m.globals, list_bytes 7 export kind.Exports (λ x. refl) m.exports, number_bytes 8 kind.Start (λ x. refl) m.start, list_bytes 9 elements kind.Elements (λ x. refl) m.elements, number_bytes 12 kind.DataCount (λ x. refl) m.data_count, list_bytes 10 (sized body) kind.Code (λ x. refl) m.code, list_bytes 11 segment kind.Segments (λ x. refl) m.segments)

all_fit : (m : Module) → AllByRecursion ListedFits (sections_of m) → ModuleFits m
all_fit m h =
    let s1 = listed_then _ _ h in
    let s2 = listed_then _ _ s1.1 in
    let s3 = listed_then _ _ s2.1 in
    let s4 = listed_then _ _ s3.1 in
    let s5 = listed_then _ _ s4.1 in
    let s6 = listed_then _ _ s5.1 in
    let s7 = listed_then _ _ s6.1 in
    let s8 = listed_then _ _ s7.1 in
    let s9 = listed_then _ _ s8.1 in
    let s10 = listed_then _ _ s9.1 in
    let s11 = listed_then _ _ s10.1 in
    record {
      types = list_fits core_func kind.Types (λ x y. y) m.types s1.0;
      imports = list_fits import kind.Imports (λ x y. y) m.imports s2.0;
      functions = list_fits u32_format kind.Functions (λ x y. y) m.functions s3.0;
      tables = list_fits table_type kind.Tables (λ x y. y) m.tables s4.0;
      memories = list_fits limits kind.Memories (λ x y. y) m.memories s5.0;
      globals = list_fits global kind.Globals (λ x y. y) m.globals s6.0;
      exports = list_fits export kind.Exports (λ x y. y) m.exports s7.0;
      start = number_fits kind.Start (λ x y. y) m.start s8.0;
      elements = list_fits elements kind.Elements (λ x y. y) m.elements s9.0;
      data_count = number_fits kind.DataCount (λ x y. y) m.data_count s10.0;
      code = list_fits (sized body) kind.Code (λ x y. y) m.code s11.0;
      segments = list_fits segment kind.Segments (λ x y. y) m.segments s11.1;
    }

-- ---- modules

parts_fit : (m : Module) → core_module.Fits m → PartsFit sections no_sections (sections_of m)
unfolding core_module all_sections
parts_fit m h = subst (λ (n : Module). PartsFit sections no_sections (sections_of n)) (sym h.0) h.1.1.0

pub module_fits : (m : Module) → core_module.Fits m → ModuleFits m
module_fits m h = all_fit m (parts_listed (sections_of m) no_sections (parts_fit m h))

format_writes : (m : Module) → m ≡ (rebuilt m).found → core_module.write m ≡ preamble ++ write_parts sections no_sections (sections_of m)
unfolding core_module all_sections
format_writes m e = ap (λ (n : Module). preamble ++ write_parts sections no_sections (sections_of n)) (sym e)

same_module : (m : Module) → core_module.Fits m → m ≡ (rebuilt m).found
unfolding core_module
same_module m h = h.0

pub module_written : (m : Module) → core_module.Fits m → core_module.write m ≡ module_bytes m
module_written m h =
    format_writes m (same_module m h) ∙ ap (λ (z : List ℕ). preamble ++ z) (parts_written (sections_of m) no_sections (parts_fit m h) ∙ all_bytes m)
