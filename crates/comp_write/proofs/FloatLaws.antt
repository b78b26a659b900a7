-- What is spelled at one offset is spelled so at every other: one law for each way to make a format that keeps no places.
use Rattle.std.proofs.Common.{ℕ, pos, ◌+◌, Bool, true, false, List, [], ◌∷◌, length}
use Rattle.std.specs.Str.{is_utf8}
use Rattle.wasm_format.specs.Format.{Format, choose, lacking, misplaced, TaggedSpells, tagged, PeekedSpells, peeked, literal, fixed, value, both, image, behind, closed_by, u32_format, ItemsSpell, vec, vec_of, sized, anything, checked, name}
use Rattle.wasm_format.specs.Numbers.{s32_format, s33_format, s64_format, is_natural, natural_of, s33_index}
use Rattle.wasm_format.specs.Sections.{Sections, SectionsSpell, to_the_end}
use Rattle.wasm_format.specs.Until.{UntilSpells, until}

pub record IsFloating {A : Type 0} (F : Format A) : Type 0 where
  pub floats : (at to : ℕ) (a : A) (text : List ℕ) → F.Spells at a text → F.Spells to a text

pub floating_choose : {A : Type 0} (b : Bool) (F G : Format A) → IsFloating F → IsFloating G → IsFloating (choose b F G)
floating_choose true F G f g = f
floating_choose false F G f g = g

pub floating_lacking : {A : Type 0} (tag : ℕ) → IsFloating (lacking {A = A} tag)
floating_lacking tag = record { floats = λ at to a text s. absurd s }

pub floating_misplaced : {A : Type 0} → IsFloating (misplaced {A = A})
floating_misplaced = record { floats = λ at to a text s. absurd s }

tagged_floats : {A : Type 0} (form : ℕ → Format A) → ((b : ℕ) → IsFloating (form b)) → (at to : ℕ) (a : A) (text : List ℕ) → TaggedSpells form at a text → TaggedSpells form to a text
tagged_floats form f at to a [] s = absurd s
tagged_floats form f at to a (b ∷ text) s = (f b).floats (at + 1) (to + 1) a text s

pub floating_tagged : {A : Type 0} (tag : A → ℕ) (form : ℕ → Format A) → ((b : ℕ) → IsFloating (form b)) → IsFloating (tagged tag form)
floating_tagged tag form f = record { floats = tagged_floats form f }

peeked_floats : {A : Type 0} (test : ℕ → Bool) (F G : Format A) → IsFloating F → IsFloating G → (at to : ℕ) (a : A) (text : List ℕ) → PeekedSpells test F G at a text → PeekedSpells test F G to a text
peeked_floats test F G f g at to a [] s = absurd s
peeked_floats test F G f g at to a (b ∷ text) s = (floating_choose (test b) F G f g).floats at to a (b ∷ text) s

pub floating_peeked : {A : Type 0} (test : ℕ → Bool) (is_first : A → Bool) (F G : Format A) → IsFloating F → IsFloating G → IsFloating (peeked test is_first F G)
floating_peeked test is_first F G f g = record { floats = peeked_floats test F G f g }

pub floating_literal : {A : Type 0} (tags : List ℕ) (v : A) → IsFloating (literal tags v)
floating_literal tags v = record { floats = λ at to a text s. s }

pub floating_fixed : {A : Type 0} (bytes : List ℕ) (v : A) → IsFloating (fixed bytes v)
floating_fixed bytes v = record { floats = λ at to a text s. s }

pub floating_value : {A : Type 0} (v : A) → IsFloating (value v)
floating_value v = record { floats = λ at to a text s. s }

pub floating_both : {A B : Type 0} (F : Format A) (G : Format B) → IsFloating F → IsFloating G → IsFloating (both F G)
floating_both F G f g = record { floats = λ at to c text s. (s.0, s.1, f.floats at to c.0 s.0 s.2, g.floats (at + length s.0) (to + length s.0) c.1 s.1 s.3, s.4) }

pub floating_image : {A B : Type 0} (to : A → B) (from : B → A) (F : Format A) → IsFloating F → IsFloating (image to from F)
floating_image to from F f = record { floats = λ at other b text s. (s.0, s.1, f.floats at other s.0 text s.2) }

pub floating_behind : {A : Type 0} (tags : List ℕ) (F : Format A) → IsFloating F → IsFloating (behind tags F)
floating_behind {A} tags F f = floating_image (λ p. p.1) (λ a. (tt, a)) (both (literal {A = Unit {0}} tags tt) F) (floating_both (literal {A = Unit {0}} tags tt) F (floating_literal tags tt) f)

pub floating_closed_by : {A : Type 0} (tags : List ℕ) (F : Format A) → IsFloating F → IsFloating (closed_by tags F)
floating_closed_by {A} tags F f = floating_image (λ p. p.0) (λ a. (a, tt)) (both F (literal {A = Unit {0}} tags tt)) (floating_both F (literal {A = Unit {0}} tags tt) f (floating_literal tags tt))

pub floating_checked : {A : Type 0} (test : A → Bool) (F : Format A) → IsFloating F → IsFloating (checked test F)
floating_checked test F f = record { floats = λ at to a text s. (s.0, f.floats at to a text s.1) }

pub floating_u32 : IsFloating u32_format
unfolding u32_format
floating_u32 = record { floats = λ at to n text s. s }

pub floating_s32 : IsFloating s32_format
unfolding s32_format
floating_s32 = record { floats = λ at to n text s. s }

pub floating_s33 : IsFloating s33_format
unfolding s33_format
floating_s33 = record { floats = λ at to n text s. s }

pub floating_s64 : IsFloating s64_format
unfolding s64_format
floating_s64 = record { floats = λ at to n text s. s }

pub floating_s33_index : IsFloating s33_index
unfolding s33_index
floating_s33_index = floating_image natural_of pos (checked is_natural s33_format) (floating_checked is_natural s33_format floating_s33)

items_float : {A : Type 0} (F : Format A) → IsFloating F → (at to : ℕ) (items : List A) (text : List ℕ) → ItemsSpell F at items text → ItemsSpell F to items text
items_float F f at to [] text s = s
items_float F f at to (a ∷ items) text s = (s.0, s.1, f.floats at to a s.0 s.2, items_float F f (at + length s.0) (to + length s.0) items s.1 s.3, s.4)

pub floating_vec : {A : Type 0} (F : Format A) → IsFloating F → IsFloating (vec F)
floating_vec F f = record {
  floats = λ at to items text s. (s.0, s.1, floating_u32.floats at to (length items) s.0 s.2, items_float F f (at + length s.0) (to + length s.0) items s.1 s.3, s.4);
}

pub floating_vec_of : {A : Type 0} (count : ℕ) (F : Format A) → IsFloating F → IsFloating (vec_of count F)
floating_vec_of count F f = record { floats = λ at to items text s. (s.0, (floating_vec F f).floats at to items text s.1) }

pub floating_sized : {A : Type 0} (F : Format A) → IsFloating F → IsFloating (sized F)
floating_sized F f = record {
  floats = λ at to a text s. (s.0, s.1, floating_u32.floats at to (length s.1) s.0 s.2, f.floats (at + length s.0) (to + length s.0) a s.1 s.3, s.4);
}

pub floating_anything : IsFloating anything
floating_anything = record { floats = λ at to a text s. s }

pub floating_name : IsFloating name
unfolding name
floating_name = floating_checked is_utf8 (sized anything) (floating_sized anything floating_anything)

until_floats : {S P : Type 0} (G : Sections S P) → ((s : S) → IsFloating (G.form s)) → (s : S) (at to : ℕ) (parts : List P) (text : List ℕ) → UntilSpells G s at parts text → UntilSpells G s to parts text
until_floats G g s at to [] text w = w
until_floats G g s at to (part ∷ parts) text w =
    (w.0, w.1, w.2, (g s).floats at to part w.0 w.3, until_floats G g (G.next s part) (at + length w.0) (to + length w.0) parts w.1 w.4, w.5)

pub floating_until : {S P : Type 0} (G : Sections S P) (s : S) → ((s : S) → IsFloating (G.form s)) → IsFloating (until G s)
floating_until G s g = record { floats = until_floats G g s }

parts_float : {S P : Type 0} (G : Sections S P) → ((s : S) → IsFloating (G.form s)) → (s : S) (at to : ℕ) (parts : List P) (text : List ℕ) → SectionsSpell G s at parts text → SectionsSpell G s to parts text
parts_float G g s at to [] text w = w
parts_float G g s at to (part ∷ parts) text w =
    (w.0, w.1, (g s).floats at to part w.0 w.2, parts_float G g (G.next s part) (at + length w.0) (to + length w.0) parts w.1 w.3, w.4)

pub floating_to_the_end : {S P : Type 0} (G : Sections S P) (s : S) (parts_of : S → List P) → ((s : S) → IsFloating (G.form s)) → IsFloating (to_the_end G s parts_of)
floating_to_the_end G s parts_of g = record { floats = λ at to t text w. (w.0, parts_float G g s at to w.0 text w.1, w.2, w.3) }
