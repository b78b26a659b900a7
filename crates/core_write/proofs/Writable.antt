-- A module each list of which may be written fits the format of modules: what is written for it spells it.
use Rattle.std.proofs.Common.{◌≡◌, ℕ, zero, suc, ◌+◌, ◌≤◌, ◌<◌, true, List, [], ◌∷◌, length, Option, Some, None, refl, sym, ap, subst, ◌∙◌, arith}
use Rattle.std.specs.Prelude.{◌==◌}
use Rattle.std.proofs.lemmas.Bool.{eq-eqb}
use Rattle.wasm_format.specs.Format.{Format, vec, sized, u32_format}
use Rattle.wasm_format.proofs.LeastLaws.{u32_no_shorter}
use Rattle.wasm_ast.specs.declared.module.Module.{Module}
use Rattle.wasm_ast.specs.declared.section.CoreSection.TheVariants as kind
use Rattle.wasm_ast.specs.Types.{core_func, limits, table_type}
use Rattle.wasm_ast.specs.Items.{import, export, global, elements, body, segment}
use Rattle.wasm_ast.specs.Modules.{Progress, counted, is_count_of, has_counts, add_section, no_sections, core_module, SpellsModule}
use Rattle.wasm_ast.proofs.ModuleLaws.{exact_core_module}
use Rattle.core_write.specs.Written.{IsShortestOf, ListFits, NumberFits, IsCounted, IsWritable, module_bytes}
use Rattle.core_write.proofs.SectionBytes.{ContentFits, section_bytes, rank_of}
use Rattle.core_write.proofs.ModuleLeast.{Kept, kept_none, none_added, added, found_fits}
use Rattle.core_write.proofs.Shortest.{fits_is_shortest, fits_is_written}

-- a list that is not written fits too
none_fits : {A : Type 0} (F : Format A) → (sized (vec F)).Fits []
unfolding u32_format
none_fits F = (omega arith, (omega arith, tt))

content : {A : Type 0} (F : Format A) (items : List A) → ListFits F items → (sized (vec F)).Fits items
content F [] h = none_fits F
content F (a ∷ items) h = h

-- the sections of this part of a module are kept, whatever their size
abbrev AreKept : Progress → Type 0
AreKept s = (size : ℕ) × Kept s size

with_list : (s : Progress) (part : _) → AreKept s → 0 < rank_of part → s.rank < rank_of part → ContentFits s.found part → AreKept (add_section s part)
with_list s part k some lt fits = (k.0 + length (section_bytes part), added s k.0 (length (section_bytes part)) part k.1 some lt fits (omega arith))

with_start : (s : Progress) (n : Option ℕ) → AreKept s → s.rank < 8 → s.found.start ≡ None → NumberFits n → AreKept (record { rank = 8; found = record s.found { start = n } })
with_start s None k lt none fits = subst (λ (o : Option ℕ). AreKept (record { rank = 8; found = record s.found { start = o } })) none (k.0, none_added s.found s.rank 8 k.0 k.0 (omega (arith, lt)) (omega arith) k.1)
with_start s (Some n) k lt none fits = with_list s (kind.Start n) k (omega arith) lt fits

with_count : (s : Progress) (n : Option ℕ) → AreKept s → s.rank < 10 → s.found.data_count ≡ None → NumberFits n → AreKept (record { rank = 10; found = record s.found { data_count = n } })
with_count s None k lt none fits = subst (λ (o : Option ℕ). AreKept (record { rank = 10; found = record s.found { data_count = o } })) none (k.0, none_added s.found s.rank 10 k.0 k.0 (omega (arith, lt)) (omega arith) k.1)
with_count s (Some n) k lt none fits = with_list s (kind.DataCount n) k (omega arith) lt fits

segments_fit : (count : Option ℕ) (items : List _) → ListFits segment items → IsCounted count (length items) → (sized (counted count)).Fits items
segments_fit None items h c = content segment items h
segments_fit (Some n) items h c = let f = content segment items h in (f.0, (c, f.1))

all_kept : (m : Module) → IsWritable m → AreKept (record { rank = 12; found = m })
all_kept m w =
    let f = w.fits in
    let k1 = with_list no_sections (kind.Types m.types) (0, kept_none) (omega arith) (omega arith) (content core_func m.types f.types) in
    let k2 = with_list _ (kind.Imports m.imports) k1 (omega arith) (omega arith) (content import m.imports f.imports) in
    let k3 = with_list _ (kind.Functions m.functions) k2 (omega arith) (omega arith) (content u32_format m.functions f.functions) in
    let k4 = with_list _ (kind.Tables m.tables) k3 (omega arith) (omega arith) (content table_type m.tables f.tables) in
    let k5 = with_list _ (kind.Memories m.memories) k4 (omega arith) (omega arith) (content limits m.memories f.memories) in
    let k6 = with_list _ (kind.Globals m.globals) k5 (omega arith) (omega arith) (content global m.globals f.globals) in
    let k7 = with_list _ (kind.Exports m.exports) k6 (omega arith) (omega arith) (content export m.exports f.exports) in
    let k8 = with_start _ m.start k7 (omega arith) refl f.start in
    let k9 = with_list _ (kind.Elements m.elements) k8 (omega arith) (omega arith) (content elements m.elements f.elements) in
    let k10 = with_count _ m.data_count k9 (omega arith) refl f.data_count in
    let bodies = content (sized body) m.code f.code in
    let k11 = with_list _ (kind.Code m.code) k10 (omega arith) (omega arith) (bodies.0, (w.bodies, bodies.1)) in
    with_list _ (kind.Segments m.segments) k11 (omega arith) (omega arith) (segments_fit m.data_count m.segments f.segments w.segments)

is_counted : (count : Option ℕ) (n : ℕ) → IsCounted count n → is_count_of count n ≡ true
is_counted None n c = refl
is_counted (Some count) n c = eq-eqb n count c

counts : (m : Module) → IsWritable m → has_counts (record { rank = 12; found = m }) ≡ true
counts m w = rw (eq-eqb (length m.code) (length m.functions) w.bodies, is_counted m.data_count (length m.segments) w.segments) refl

pub writable_fits : (m : Module) → IsWritable m → core_module.Fits m
writable_fits m w = let k = all_kept m w in (found_fits (record { rank = 12; found = m }) (counts m w) k.0 k.1).0

pub writable_spelled : (m : Module) → IsWritable m → SpellsModule m (core_module.write m)
writable_spelled m w = exact_core_module.written m 0 (writable_fits m w)

pub fitting_is_written : (m : Module) (out : List ℕ) → IsWritable m → out ≡ module_bytes m → out ≡ core_module.write m
fitting_is_written m out w e = fits_is_written m out (writable_fits m w) e

pub fitting_is_shortest : (m : Module) (out : List ℕ) → IsWritable m → out ≡ module_bytes m → IsShortestOf m out
fitting_is_shortest m out w e = fits_is_shortest m out (writable_fits m w) e
