-- One section of a module: where it may stand, what its content must fit, and its bytes.
use Rattle.std.proofs.Common.{◌≡◌, ℕ, ◌≤◌, ◌<◌, Bool, true, false, ltb, List, [], ◌∷◌, ◌++◌, length, Option, Some, None, ◌⊎◌, inl, inr, refl, sym, ap, append_assoc, arith}
use Rattle.std.specs.List.{AllByRecursion}
use Rattle.std.proofs.lemmas.Bool.{lt-ltb, ltb-true}
use Rattle.std.proofs.lemmas.List.{append-nil}
use Rattle.wasm_format.specs.Format.{Format, choose, misplaced, vec, vec_of, sized, u32_format}
use Rattle.wasm_ast.specs.declared.module.Module.{Module}
use Rattle.wasm_ast.specs.declared.section.CoreSection.{CoreSection}
use Rattle.wasm_ast.specs.declared.section.CoreSection.TheVariants as kind
use Rattle.wasm_ast.specs.Types.{core_func, limits, table_type}
use Rattle.wasm_ast.specs.Items.{import, export, global, elements, body, segment}
use Rattle.wasm_ast.specs.Modules.{Progress, note, ranked, counted, low_section, high_section, section, add_section, unless_empty, if_there, sections_of}

-- the place of a section in the order of sections; a custom section has none
abbrev pub rank_of : CoreSection → ℕ
rank_of kind.Custom = 0
rank_of (kind.Types x) = 1
rank_of (kind.Imports x) = 2
rank_of (kind.Functions x) = 3
rank_of (kind.Tables x) = 4
rank_of (kind.Memories x) = 5
rank_of (kind.Globals x) = 6
rank_of (kind.Exports x) = 7
rank_of (kind.Start x) = 8
rank_of (kind.Elements x) = 9
rank_of (kind.DataCount x) = 10
rank_of (kind.Code x) = 11
rank_of (kind.Segments x) = 12

-- the module with what a section holds
abbrev pub put_section : Module → CoreSection → Module
put_section m kind.Custom = m
put_section m (kind.Types x) = record m { types = x }
put_section m (kind.Imports x) = record m { imports = x }
put_section m (kind.Functions x) = record m { functions = x }
put_section m (kind.Tables x) = record m { tables = x }
put_section m (kind.Memories x) = record m { memories = x }
put_section m (kind.Globals x) = record m { globals = x }
put_section m (kind.Exports x) = record m { exports = x }
put_section m (kind.Start x) = record m { start = Some x }
put_section m (kind.Elements x) = record m { elements = x }
put_section m (kind.DataCount x) = record m { data_count = Some x }
put_section m (kind.Code x) = record m { code = x }
put_section m (kind.Segments x) = record m { segments = x }

-- what the content must fit, after the sections of this module
abbrev pub ContentFits : Module → CoreSection → Type 0
ContentFits m kind.Custom = ⊥
ContentFits m (kind.Types x) = (sized (vec core_func)).Fits x
ContentFits m (kind.Imports x) = (sized (vec import)).Fits x
ContentFits m (kind.Functions x) = (sized (vec u32_format)).Fits x
ContentFits m (kind.Tables x) = (sized (vec table_type)).Fits x
ContentFits m (kind.Memories x) = (sized (vec limits)).Fits x
ContentFits m (kind.Globals x) = (sized (vec global)).Fits x
ContentFits m (kind.Exports x) = (sized (vec export)).Fits x
ContentFits m (kind.Start x) = (sized u32_format).Fits x
ContentFits m (kind.Elements x) = (sized (vec elements)).Fits x
ContentFits m (kind.DataCount x) = (sized u32_format).Fits x
ContentFits m (kind.Code x) = (sized (vec_of (length m.functions) (sized body))).Fits x
ContentFits m (kind.Segments x) = (sized (counted m.data_count)).Fits x

abbrev pub section_bytes : CoreSection → List ℕ
section_bytes kind.Custom = 0 ∷ (sized note).write tt
section_bytes (kind.Types x) = 1 ∷ (sized (vec core_func)).write x
section_bytes (kind.Imports x) = 2 ∷ (sized (vec import)).write x
section_bytes (kind.Functions x) = 3 ∷ (sized (vec u32_format)).write x
section_bytes (kind.Tables x) = 4 ∷ (sized (vec table_type)).write x
section_bytes (kind.Memories x) = 5 ∷ (sized (vec limits)).write x
section_bytes (kind.Globals x) = 6 ∷ (sized (vec global)).write x
section_bytes (kind.Exports x) = 7 ∷ (sized (vec export)).write x
section_bytes (kind.Start x) = 8 ∷ (sized u32_format).write x
section_bytes (kind.Elements x) = 9 ∷ (sized (vec elements)).write x
section_bytes (kind.DataCount x) = 12 ∷ (sized u32_format).write x
section_bytes (kind.Code x) = 10 ∷ (sized (vec (sized body))).write x
section_bytes (kind.Segments x) = 11 ∷ (sized (vec segment)).write x

pub is_custom : (part : CoreSection) → (part ≡ kind.Custom) ⊎ (0 < rank_of part)
is_custom kind.Custom = inl refl
is_custom (kind.Types x) = inr (omega arith)
is_custom (kind.Imports x) = inr (omega arith)
is_custom (kind.Functions x) = inr (omega arith)
is_custom (kind.Tables x) = inr (omega arith)
is_custom (kind.Memories x) = inr (omega arith)
is_custom (kind.Globals x) = inr (omega arith)
is_custom (kind.Exports x) = inr (omega arith)
is_custom (kind.Start x) = inr (omega arith)
is_custom (kind.Elements x) = inr (omega arith)
is_custom (kind.DataCount x) = inr (omega arith)
is_custom (kind.Code x) = inr (omega arith)
is_custom (kind.Segments x) = inr (omega arith)

pub add_is : (s : Progress) (part : CoreSection) → 0 < rank_of part → add_section s part ≡ record { rank = rank_of part; found = put_section s.found part }
add_is s kind.Custom h = absurd (omega (arith, h))
add_is s (kind.Types x) h = refl
add_is s (kind.Imports x) h = refl
add_is s (kind.Functions x) h = refl
add_is s (kind.Tables x) h = refl
add_is s (kind.Memories x) h = refl
add_is s (kind.Globals x) h = refl
add_is s (kind.Exports x) h = refl
add_is s (kind.Start x) h = refl
add_is s (kind.Elements x) h = refl
add_is s (kind.DataCount x) h = refl
add_is s (kind.Code x) h = refl
add_is s (kind.Segments x) h = refl

-- ---- what fits after a place in the order

ranked_by : {A : Type 0} (b : Bool) (F : Format A) (a : A) → (choose b F misplaced).Fits a → F.Fits a × (b ≡ true)
ranked_by true F a h = (h, refl)
ranked_by false F a h = absurd h

ranked_fits : {A : Type 0} (last rank : ℕ) (F : Format A) (a : A) → (ranked last rank F).Fits a → F.Fits a × (last < rank)
ranked_fits last rank F a h = let w = ranked_by (ltb last rank) F a h in (w.0, ltb-true _ _ w.1)

pub fits_as : (s : Progress) (part : CoreSection) → (section s).Fits part → 0 < rank_of part → ContentFits s.found part × (s.rank < rank_of part)
unfolding section low_section high_section
fits_as s kind.Custom f h = absurd (omega (arith, h))
fits_as s (kind.Types x) f h = ranked_fits s.rank 1 (sized (vec core_func)) x f.1
fits_as s (kind.Imports x) f h = ranked_fits s.rank 2 (sized (vec import)) x f.1
fits_as s (kind.Functions x) f h = ranked_fits s.rank 3 (sized (vec u32_format)) x f.1
fits_as s (kind.Tables x) f h = ranked_fits s.rank 4 (sized (vec table_type)) x f.1
fits_as s (kind.Memories x) f h = ranked_fits s.rank 5 (sized (vec limits)) x f.1
fits_as s (kind.Globals x) f h = ranked_fits s.rank 6 (sized (vec global)) x f.1
fits_as s (kind.Exports x) f h = ranked_fits s.rank 7 (sized (vec export)) x f.1
fits_as s (kind.Start x) f h = ranked_fits s.rank 8 (sized u32_format) x f.1
fits_as s (kind.Elements x) f h = ranked_fits s.rank 9 (sized (vec elements)) x f.1
fits_as s (kind.DataCount x) f h = ranked_fits s.rank 10 (sized u32_format) x f.1
fits_as s (kind.Code x) f h = ranked_fits s.rank 11 (sized (vec_of (length s.found.functions) (sized body))) x f.1
fits_as s (kind.Segments x) f h = ranked_fits s.rank 12 (sized (counted s.found.data_count)) x f.1

pub counted_bytes : (count : Option ℕ) (x : List _) → (sized (counted count)).write x ≡ (sized (vec segment)).write x
counted_bytes None x = refl
counted_bytes (Some n) x = refl

pub fits_behind : (c : Progress) (part : CoreSection) → 0 < rank_of part → c.rank < rank_of part → ContentFits c.found part → (section c).Fits part × ((section c).write part ≡ section_bytes part)
unfolding section low_section high_section
fits_behind c kind.Custom h lt f = absurd (omega (arith, h))
fits_behind c (kind.Types x) h lt f = rw (lt-ltb _ _ lt) ((refl, f), refl)
fits_behind c (kind.Imports x) h lt f = rw (lt-ltb _ _ lt) ((refl, f), refl)
fits_behind c (kind.Functions x) h lt f = rw (lt-ltb _ _ lt) ((refl, f), refl)
fits_behind c (kind.Tables x) h lt f = rw (lt-ltb _ _ lt) ((refl, f), refl)
fits_behind c (kind.Memories x) h lt f = rw (lt-ltb _ _ lt) ((refl, f), refl)
fits_behind c (kind.Globals x) h lt f = rw (lt-ltb _ _ lt) ((refl, f), refl)
fits_behind c (kind.Exports x) h lt f = rw (lt-ltb _ _ lt) ((refl, f), refl)
fits_behind c (kind.Start x) h lt f = rw (lt-ltb _ _ lt) ((refl, f), refl)
fits_behind c (kind.Elements x) h lt f = rw (lt-ltb _ _ lt) ((refl, f), refl)
fits_behind c (kind.DataCount x) h lt f = rw (lt-ltb _ _ lt) ((refl, f), refl)
fits_behind c (kind.Code x) h lt f = rw (lt-ltb _ _ lt) ((refl, f), refl)
fits_behind c (kind.Segments x) h lt f = rw (lt-ltb _ _ lt) ((refl, f), ap (λ (z : List ℕ). 11 ∷ z) (counted_bytes c.found.data_count x))

-- ---- sections after all others

-- the lists and numbers whose sections stand after this place are not there
pub record EmptyFrom (r : ℕ) (m : Module) : Type 0 where
  pub types : r < 1 → m.types ≡ []
  pub imports : r < 2 → m.imports ≡ []
  pub functions : r < 3 → m.functions ≡ []
  pub tables : r < 4 → m.tables ≡ []
  pub memories : r < 5 → m.memories ≡ []
  pub globals : r < 6 → m.globals ≡ []
  pub exports : r < 7 → m.exports ≡ []
  pub start : r < 8 → m.start ≡ None
  pub elements : r < 9 → m.elements ≡ []
  pub data_count : r < 10 → m.data_count ≡ None
  pub code : r < 11 → m.code ≡ []
  pub segments : r < 12 → m.segments ≡ []

abbrev pub AllUpTo : ℕ → List CoreSection → Type 0
AllUpTo r parts = AllByRecursion (λ part. rank_of part ≤ r) parts

pub up_to_parts : (r : ℕ) (xs ys : List CoreSection) → AllUpTo r (xs ++ ys) → AllUpTo r xs × AllUpTo r ys
up_to_parts r [] ys h = (tt, h)
up_to_parts r (x ∷ xs) ys h = let w = up_to_parts r xs ys h.1 in ((h.0, w.0), w.1)

pub up_to_both : (r : ℕ) (xs ys : List CoreSection) → AllUpTo r xs → AllUpTo r ys → AllUpTo r (xs ++ ys)
up_to_both r [] ys h t = t
up_to_both r (x ∷ xs) ys h t = (h.0, up_to_both r xs ys h.1 t)

pub up_to_more : (r n : ℕ) (xs : List CoreSection) → r ≤ n → AllUpTo r xs → AllUpTo n xs
up_to_more r n [] le h = tt
up_to_more r n (x ∷ xs) le h = (omega (arith, h.0, le), up_to_more r n xs le h.1)

none_list : {A : Type 0} (r k : ℕ) (make : List A → CoreSection) (items : List A) → ((x : List A) → rank_of (make x) ≡ k) → AllUpTo r (unless_empty make items) → r < k → items ≡ []
none_list r k make [] e h lt = refl
none_list r k make (a ∷ items) e h lt = absurd (omega (arith, e (a ∷ items), h.0, lt))

none_number : (r k : ℕ) (make : ℕ → CoreSection) (n : Option ℕ) → ((x : ℕ) → rank_of (make x) ≡ k) → AllUpTo r (if_there make n) → r < k → n ≡ None
none_number r k make None e h lt = refl
none_number r k make (Some n) e h lt = absurd (omega (arith, e n, h.0, lt))

pub empty_from : (r : ℕ) (m : Module) → AllUpTo r (sections_of m) → EmptyFrom r m
empty_from r m h =
    let s1 = up_to_parts r _ _ h in
    let s2 = up_to_parts r _ _ s1.1 in
    let s3 = up_to_parts r _ _ s2.1 in
    let s4 = up_to_parts r _ _ s3.1 in
    let s5 = up_to_parts r _ _ s4.1 in
    let s6 = up_to_parts r _ _ s5.1 in
    let s7 = up_to_parts r _ _ s6.1 in
    let s8 = up_to_parts r _ _ s7.1 in
    let s9 = up_to_parts r _ _ s8.1 in
    let s10 = up_to_parts r _ _ s9.1 in
    let s11 = up_to_parts r _ _ s10.1 in
    record {
      types = none_list r 1 kind.Types m.types (λ x. refl) s1.0;
      imports = none_list r 2 kind.Imports m.imports (λ x. refl) s2.0;
      functions = none_list r 3 kind.Functions m.functions (λ x. refl) s3.0;
      tables = none_list r 4 kind.Tables m.tables (λ x. refl) s4.0;
      memories = none_list r 5 kind.Memories m.memories (λ x. refl) s5.0;
      globals = none_list r 6 kind.Globals m.globals (λ x. refl) s6.0;
      exports = none_list r 7 kind.Exports m.exports (λ x. refl) s7.0;
      start = none_number r 8 kind.Start m.start (λ x. refl) s8.0;
      elements = none_list r 9 kind.Elements m.elements (λ x. refl) s9.0;
      data_count = none_number r 10 kind.DataCount m.data_count (λ x. refl) s10.0;
      code = none_list r 11 kind.Code m.code (λ x. refl) s11.0;
      segments = none_list r 12 kind.Segments m.segments (λ x. refl) s11.1;
    }

-- A section after all others adds its part to what is written, or nothing where its list is empty.
pub grows : (m : Module) (part : CoreSection) (r : ℕ) → EmptyFrom r m → r < rank_of part → (sections_of (put_section m part) ≡ sections_of m ++ part ∷ []) ⊎ (put_section m part ≡ m)
grows m kind.Custom r e lt = inr refl
grows m (kind.Types []) r e lt = inr (ap (λ x. record m { types = x }) (sym (e.types lt)))
grows m (kind.Types (a ∷ x)) r e lt = inl (rw (e.types (omega (arith, lt)), e.imports (omega (arith, lt)), e.functions (omega (arith, lt)), e.tables (omega (arith, lt)), e.memories (omega (arith, lt)), e.globals (omega (arith, lt)), e.exports (omega (arith, lt)), e.start (omega (arith, lt)), e.elements (omega (arith, lt)), e.data_count (omega (arith, lt)), e.code (omega (arith, lt)), e.segments (omega (arith, lt))) refl)
grows m (kind.Imports []) r e lt = inr (ap (λ x. record m { imports = x }) (sym (e.imports lt)))
grows m (kind.Imports (a ∷ x)) r e lt = inl (rw (e.imports (omega (arith, lt)), e.functions (omega (arith, lt)), e.tables (omega (arith, lt)), e.memories (omega (arith, lt)), e.globals (omega (arith, lt)), e.exports (omega (arith, lt)), e.start (omega (arith, lt)), e.elements (omega (arith, lt)), e.data_count (omega (arith, lt)), e.code (omega (arith, lt)), e.segments (omega (arith, lt))) (simp append-nil))
grows m (kind.Functions []) r e lt = inr (ap (λ x. record m { functions = x }) (sym (e.functions lt)))
grows m (kind.Functions (a ∷ x)) r e lt = inl (rw (e.functions (omega (arith, lt)), e.tables (omega (arith, lt)), e.memories (omega (arith, lt)), e.globals (omega (arith, lt)), e.exports (omega (arith, lt)), e.start (omega (arith, lt)), e.elements (omega (arith, lt)), e.data_count (omega (arith, lt)), e.code (omega (arith, lt)), e.segments (omega (arith, lt))) (simp (append_assoc, append-nil)))
grows m (kind.Tables []) r e lt = inr (ap (λ x. record m { tables = x }) (sym (e.tables lt)))
grows m (kind.Tables (a ∷ x)) r e lt = inl (rw (e.tables (omega (arith, lt)), e.memories (omega (arith, lt)), e.globals (omega (arith, lt)), e.exports (omega (arith, lt)), e.start (omega (arith, lt)), e.elements (omega (arith, lt)), e.data_count (omega (arith, lt)), e.code (omega (arith, lt)), e.segments (omega (arith, lt))) (simp (append_assoc, append-nil)))
grows m (kind.Memories []) r e lt = inr (ap (λ x. record m { memories = x }) (sym (e.memories lt)))
grows m (kind.Memories (a ∷ x)) r e lt = inl (rw (e.memories (omega (arith, lt)), e.globals (omega (arith, lt)), e.exports (omega (arith, lt)), e.start (omega (arith, lt)), e.elements (omega (arith, lt)), e.data_count (omega (arith, lt)), e.code (omega (arith, lt)), e.segments (omega (arith, lt))) (simp (append_assoc, append-nil)))
grows m (kind.Globals []) r e lt = inr (ap (λ x. record m { globals = x }) (sym (e.globals lt)))
grows m (kind.Globals (a ∷ x)) r e lt = inl (rw (e.globals (omega (arith, lt)), e.exports (omega (arith, lt)), e.start (omega (arith, lt)), e.elements (omega (arith, lt)), e.data_count (omega (arith, lt)), e.code (omega (arith, lt)), e.segments (omega (arith, lt))) (simp (append_assoc, append-nil)))
grows m (kind.Exports []) r e lt = inr (ap (λ x. record m { exports = x }) (sym (e.exports lt)))
grows m (kind.Exports (a ∷ x)) r e lt = inl (rw (e.exports (omega (arith, lt)), e.start (omega (arith, lt)), e.elements (omega (arith, lt)), e.data_count (omega (arith, lt)), e.code (omega (arith, lt)), e.segments (omega (arith, lt))) (simp (append_assoc, append-nil)))
grows m (kind.Start x) r e lt = inl (rw (e.start (omega (arith, lt)), e.elements (omega (arith, lt)), e.data_count (omega (arith, lt)), e.code (omega (arith, lt)), e.segments (omega (arith, lt))) (simp (append_assoc, append-nil)))
grows m (kind.Elements []) r e lt = inr (ap (λ x. record m { elements = x }) (sym (e.elements lt)))
grows m (kind.Elements (a ∷ x)) r e lt = inl (rw (e.elements (omega (arith, lt)), e.data_count (omega (arith, lt)), e.code (omega (arith, lt)), e.segments (omega (arith, lt))) (simp (append_assoc, append-nil)))
grows m (kind.DataCount x) r e lt = inl (rw (e.data_count (omega (arith, lt)), e.code (omega (arith, lt)), e.segments (omega (arith, lt))) (simp (append_assoc, append-nil)))
grows m (kind.Code []) r e lt = inr (ap (λ x. record m { code = x }) (sym (e.code lt)))
grows m (kind.Code (a ∷ x)) r e lt = inl (rw (e.code (omega (arith, lt)), e.segments (omega (arith, lt))) (simp (append_assoc, append-nil)))
grows m (kind.Segments []) r e lt = inr (ap (λ x. record m { segments = x }) (sym (e.segments lt)))
grows m (kind.Segments (a ∷ x)) r e lt = inl (rw (e.segments (omega (arith, lt))) (simp (append_assoc, append-nil)))
