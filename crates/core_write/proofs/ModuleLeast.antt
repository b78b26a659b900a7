-- A module that bytes spell may be written, and in no more bytes: sections that hold nothing are left out, and each other section
-- is written after the same ones.
use Rattle.std.proofs.Common.{◌≡◌, ℕ, ◌+◌, ◌≤◌, ◌<◌, true, List, [], ◌∷◌, ◌++◌, length, Option, Some, None, inl, inr, refl, sym, ap, subst, ◌∙◌, arith}
use Rattle.std.proofs.lemmas.List.{length-append}
use Rattle.wasm_format.specs.Format.{AreBytes, name, anything, u32_format}
use Rattle.wasm_format.specs.Sections.{Sections, SectionsSpell, built, PartsFit, write_parts}
use Rattle.std.proofs.lemmas.Str.{IsUtf8-nil}
use Rattle.wasm_format.proofs.NameLaws.{is_text}
use Rattle.wasm_format.proofs.LeastLaws.{Least, IsLeast, HasTag, least_both, least_name, least_anything, u32_no_shorter, parts_bytes}
use Rattle.wasm_ast.specs.declared.module.Module.{Module}
use Rattle.wasm_ast.specs.declared.section.CoreSection.{CoreSection}
use Rattle.wasm_ast.specs.Modules.{Progress, note, counted, low_section, high_section, section_tag, section, sections, no_sections, sections_of, add_section, has_counts, all_sections, core_module}
use Rattle.core_write.proofs.TypeLeast.{tags, least, least_core_func, least_limits, least_table_type}
use Rattle.core_write.proofs.ItemLeast.{least_import, least_export, least_global, least_elements, least_body, least_segment}
use Rattle.core_write.proofs.SectionBytes.{rank_of, put_section, ContentFits, section_bytes, is_custom, add_is, fits_as, fits_behind, AllUpTo, up_to_both, up_to_more, empty_from, grows}

-- ---- one section

-- a custom section of the empty name
least_note : IsLeast note
unfolding note name
least_note = record {
  least = λ at u text h s.
      let w = (least_both name anything least_name least_anything).least at s.0 text h s.2 in
      let z = u32_no_shorter 0 (length s.0.0) (omega arith) in
      ((refl, ((is_text [] IsUtf8-nil, (omega arith, tt)), tt)), omega (arith, w.1, z, length-append (u32_format.write 0) [], length-append (u32_format.write 0 ++ []) [], length-append (u32_format.write (length s.0.0)) s.0.0, length-append (u32_format.write (length s.0.0) ++ s.0.0) s.0.1));
}

least_counted : (count : Option ℕ) → IsLeast (counted count)
least_counted None = search (least, least_segment) depth 4
least_counted (Some n) = search (least, least_segment) depth 4

least_low_section : (s : Progress) (b : ℕ) → IsLeast (low_section s b)
unfolding low_section
least_low_section s b = search (least, least_note, least_core_func, least_import, least_table_type, least_limits, least_global) depth 20

least_high_section : (s : Progress) (b : ℕ) → IsLeast (high_section s b)
unfolding high_section
least_high_section s b = search (least, least_export, least_elements, least_body, least_counted) depth 20

low_tags : (s : Progress) (b : ℕ) → HasTag section_tag b (low_section s b)
unfolding low_section
low_tags s b = search tags depth 14

high_tags : (s : Progress) (b : ℕ) → HasTag section_tag b (high_section s b)
unfolding high_section
high_tags s b = search tags depth 14

pub least_section : (s : Progress) → IsLeast (section s)
unfolding section
least_section s = search (least, low_tags, high_tags, least_low_section, least_high_section) depth 6

-- ---- one section more

fit_more : {S P : Type 0} (G : Sections S P) (s : S) (parts : List P) (part : P) → PartsFit G s parts → (G.form (built G s parts)).Fits part → PartsFit G s (parts ++ part ∷ [])
fit_more G s [] part h f = (f, tt)
fit_more G s (p ∷ parts) part h f = (h.0, fit_more G (G.next s p) parts part h.1 f)

built_more : {S P : Type 0} (G : Sections S P) (s : S) (parts : List P) (part : P) → built G s (parts ++ part ∷ []) ≡ G.next (built G s parts) part
built_more G s [] part = refl
built_more G s (p ∷ parts) part = built_more G (G.next s p) parts part

length_more : {S P : Type 0} (G : Sections S P) (s : S) (parts : List P) (part : P) → length (write_parts G s (parts ++ part ∷ [])) ≡ length (write_parts G s parts) + length ((G.form (built G s parts)).write part)
length_more G s [] part = omega (arith, length-append ((G.form s).write part) [])
length_more G s (p ∷ parts) part =
    omega (arith, length_more G (G.next s p) parts part, length-append ((G.form s).write p) (write_parts G (G.next s p) (parts ++ part ∷ [])), length-append ((G.form s).write p) (write_parts G (G.next s p) parts))

-- the state after the sections that are written for a module
abbrev pub rebuilt : Module → Progress
rebuilt m = built sections no_sections (sections_of m)

-- What is written for the module that is found so far is that module, after no later place, in no more bytes than these.
pub record Kept (s : Progress) (size : ℕ) : Type 0 where
  pub fits : PartsFit sections no_sections (sections_of s.found)
  pub found : (rebuilt s.found).found ≡ s.found
  pub rank : (rebuilt s.found).rank ≤ s.rank
  pub small : length (write_parts sections no_sections (sections_of s.found)) ≤ size
  pub later : AllUpTo s.rank (sections_of s.found)

wider : (s : Progress) (size total : ℕ) → size ≤ total → Kept s size → Kept s total
wider s size total le k = record { fits = k.fits; found = k.found; rank = k.rank; small = omega (arith, k.small, le); later = k.later }

pub none_added : (m : Module) (r n size total : ℕ) → r ≤ n → size ≤ total → Kept (record { rank = r; found = m }) size → Kept (record { rank = n; found = m }) total
none_added m r n size total up le k = record { fits = k.fits; found = k.found; rank = omega (arith, k.rank, up); small = omega (arith, k.small, le); later = up_to_more r n (sections_of m) up k.later }

one_added : (s : Progress) (size n : ℕ) (part : CoreSection) → Kept s size → 0 < rank_of part → s.rank < rank_of part → ContentFits s.found part → length (section_bytes part) ≤ n → sections_of (put_section s.found part) ≡ sections_of s.found ++ part ∷ []
    → Kept (record { rank = rank_of part; found = put_section s.found part }) (size + n)
unfolding sections
one_added s size n part k h lt content le e =
    let c : Progress = rebuilt s.found in
    let w = fits_behind c part h (omega (arith, k.rank, lt)) (subst (λ (m : Module). ContentFits m part) (sym k.found) content) in
    let next : rebuilt (put_section s.found part) ≡ record { rank = rank_of part; found = put_section s.found part } =
    ap (built sections no_sections) e ∙ built_more sections no_sections (sections_of s.found) part ∙ add_is c part h ∙ ap (λ (m : Module). record { rank = rank_of part; found = put_section m part }) k.found in
    record {
      fits = subst (PartsFit sections no_sections) (sym e) (fit_more sections no_sections (sections_of s.found) part k.fits w.0);
      found = ap (λ (p : Progress). p.found) next;
      rank = omega (arith, ap (λ (p : Progress). p.rank) next);
      small = omega (arith, ap (λ (z : List CoreSection). length (write_parts sections no_sections z)) e, length_more sections no_sections (sections_of s.found) part, ap length w.1, le, k.small);
      later = subst (AllUpTo (rank_of part)) (sym e) (up_to_both (rank_of part) (sections_of s.found) (part ∷ []) (up_to_more s.rank (rank_of part) (sections_of s.found) (omega (arith, lt)) k.later) (omega arith, tt));
    }

pub added : (s : Progress) (size n : ℕ) (part : CoreSection) → Kept s size → 0 < rank_of part → s.rank < rank_of part → ContentFits s.found part → length (section_bytes part) ≤ n → Kept (add_section s part) (size + n)
added s size n part k h lt content le =
    subst (λ (t : Progress). Kept t (size + n)) (sym (add_is s part h))
    (elim (grows s.found part s.rank (empty_from s.rank s.found k.later) lt) [
      | inl e ↦ one_added s size n part k h lt content le e
      | inr e ↦ subst (λ (m : Module). Kept (record { rank = rank_of part; found = m }) (size + n)) (sym e) (none_added s.found s.rank (rank_of part) size (size + n) (omega (arith, lt)) (omega arith) k)
    ])

-- ---- all sections

kept_parts : (parts : List CoreSection) (s : Progress) (size total at : ℕ) (text : List ℕ) → Kept s size → AreBytes text → SectionsSpell sections s at parts text → size + length text ≤ total → Kept (built sections s parts) total
unfolding sections
kept_parts [] s size total at text k h w le = wider s size total (omega (arith, le)) k
kept_parts (part ∷ parts) s size total at text k h w le =
    let b = parts_bytes text w.0 w.1 w.4 h in
    let split : length text ≡ length w.0 + length w.1 = omega (arith, ap length w.4, length-append w.0 w.1) in
    elim (is_custom part) [
      | inl e ↦
          let same : add_section s part ≡ s = ap (add_section s) e in
          let rest : SectionsSpell sections s (at + length w.0) parts w.1 = subst (λ (t : Progress). SectionsSpell sections t (at + length w.0) parts w.1) same w.3 in
          subst (λ (t : Progress). Kept (built sections t parts) total) (sym same) (kept_parts parts s size total (at + length w.0) w.1 k b.1 rest (omega (arith, le, split)))
      | inr lt ↦
          let one = (least_section s).least at part w.0 b.0 w.2 in
          let a = fits_as s part one.0 lt in
          let v = fits_behind s part lt a.1 a.0 in
          let k2 = added s size (length w.0) part k lt a.1 a.0 (omega (arith, one.1, ap length v.1)) in
          kept_parts parts (add_section s part) (size + length w.0) total (at + length w.0) w.1 k2 b.1 w.3 (omega (arith, le, split))
    ]

pub kept_none : Kept no_sections 0
unfolding sections
kept_none = record { fits = tt; found = refl; rank = omega arith; small = omega arith; later = tt }

pub found_fits : (t : Progress) → has_counts t ≡ true → (size : ℕ) → Kept t size → core_module.Fits t.found × (length (core_module.write t.found) ≤ 8 + size)
unfolding core_module all_sections sections
found_fits t may size k =
    let c : Progress = rebuilt t.found in
    let back : sections_of c.found ≡ sections_of t.found = ap sections_of k.found in
    let counts : has_counts c ≡ true = ap (λ (m : Module). has_counts (record { rank = 0; found = m })) k.found ∙ may in (
      (sym k.found, (refl, (subst (PartsFit sections no_sections) (sym back) k.fits, ap (built sections no_sections) back, counts))),
      omega (arith, ap (λ (z : List CoreSection). length (write_parts sections no_sections z)) back, k.small),
    )

module_fits : (at : ℕ) (m : Module) (text : List ℕ) → AreBytes text → core_module.Spells at m text → Least core_module m text
unfolding core_module all_sections sections
module_fits at m text h s =
    let pair = s.2 in
    let b = parts_bytes text pair.0 pair.1 pair.4 h in
    let k = kept_parts pair.3.0 no_sections 0 (length pair.1) (at + length pair.0) pair.1 kept_none b.1 pair.3.1 (omega arith) in
    let w = found_fits s.0.1 pair.3.3 (length pair.1) (subst (λ (t : Progress). Kept t (length pair.1)) pair.3.2 k) in
    let v : core_module.Fits m × (length (core_module.write m) ≤ 8 + length pair.1) = subst (λ (x : Module). core_module.Fits x × (length (core_module.write x) ≤ 8 + length pair.1)) (sym s.1) w in
    (v.0, omega (arith, v.1, ap length pair.4, ap length pair.2.1, length-append pair.0 pair.1))

-- What bytes spell as a module may be written, and in no more bytes.
pub least_core_module : IsLeast core_module
least_core_module = record { least = module_fits }
