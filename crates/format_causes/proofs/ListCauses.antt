-- Reading lists and content of a stated size stops at a tag for a cause.
use Rattle.std.proofs.Common.{◌≡◌, ℕ, zero, suc, ◌+◌, cond, eqb, ltb, List, [], ◌∷◌, ◌++◌, length, take, drop, Err, refl, sym, ap, ◌∙◌, append_assoc, arith, inl, inr}
use Rattle.std.proofs.lemmas.List.{take-append-drop}
use Rattle.std.specs.Str.{is_utf8}
use Rattle.virt_base.specs.Place.{Place}
use Rattle.wasm_format.specs.declared.stop.Stop.TheVariants.{Malformed, Unsupported}
use Rattle.wasm_format.specs.Format.{Format, ◌>>=◌, image, u32_format, ItemsSpell, read_items, vec, vec_of, whole, read_within, sized, anything, name}
use Rattle.wasm_format.proofs.Laws.{IsExact, exact_u32}
use Rattle.format_causes.specs.Causes.{IsCaused}
use Rattle.format_causes.proofs.Steps.{bind_err, ok_is_no_err, not_malformed, test_never, cond_err}
use Rattle.format_causes.proofs.CauseLaws.{never, led, caused_led, caused_as, caused_image, caused_checked, caused_anything, caused_u32}

-- that many items
abbrev rows : {A : Type 0} → Format A → ℕ → Format (List A)
rows F n = record { Spells = λ at items text. (length items ≡ n) × ItemsSpell F at items text; read = read_items F n; Fits = λ items. ⊥; write = λ items. [] }

-- an item in front of that many
abbrev in_front : {A : Type 0} → Format A → ℕ → A → Format (List A)
in_front F n a = image (λ items. a ∷ items) (λ items. items) (rows F n)

first_row : {A : Type 0} (F : Format A) (n at : ℕ) (items : List A) (text : List ℕ) → (rows F (suc n)).Spells at items text → (all : List A) × (led F (in_front F n)).Spells at all text
first_row F n at [] text s = absurd (omega (arith, s.0))
first_row F n at (a ∷ items) text s =
    let count : suc (length items) ≡ suc n = s.0 in
    (a ∷ items, (a, s.1.0, s.1.1, s.1.2, (items, refl {a = a ∷ items}, (omega (arith, count), s.1.3)), s.1.4))

caused_rows : {A : Type 0} (F : Format A) → IsExact F → IsCaused F → (n : ℕ) → IsCaused (rows F n)
unfolding read_items
caused_rows {A} F exact f zero = never (rows F zero) (λ p at byte e. ok_is_no_err {A = List A × Place} ([], p) (Unsupported at byte) e)
caused_rows {A} F exact f (suc n) =
    caused_as (led F (in_front F n)) (rows F (suc n)) (λ p at byte e. e) (λ at items text m s. first_row F n at items text s)
    (caused_led F (in_front F n) exact f (λ a. caused_image (λ items. a ∷ items) (λ items. items) (rows F n) (caused_rows F exact f n)))

pub caused_vec : {A : Type 0} (F : Format A) → IsExact F → IsCaused F → IsCaused (vec F)
caused_vec {A} F exact f =
    caused_as (led u32_format (rows F)) (vec F) (λ p at byte e. e) (λ at items text m s. (items, (length items, s.0, s.1, s.2, (refl {a = length items}, s.3), s.4)))
    (caused_led u32_format (rows F) exact_u32 caused_u32 (caused_rows F exact f))

-- that many items, where this many are due
abbrev due_rows : {A : Type 0} → ℕ → Format A → ℕ → Format (List A)
due_rows count F n = record { Spells = λ at items text. (length items ≡ n) × ItemsSpell F at items text; read = λ p. cond (eqb n count) (read_items F n p) (Err Malformed); Fits = λ items. ⊥; write = λ items. [] }

caused_due_rows : {A : Type 0} (count : ℕ) (F : Format A) → IsExact F → IsCaused F → (n : ℕ) → IsCaused (due_rows count F n)
caused_due_rows {A} count F exact f n = record {
  caused = λ p at byte e.
      elim (cond_err (eqb n count) (read_items F n p) (Err Malformed) (Unsupported at byte) e) [
        | inl w ↦ (caused_rows F exact f n).caused p at byte w.1
        | inr w ↦ absurd (not_malformed {A = List A × Place} at byte w.1)
      ];
}

pub caused_vec_of : {A : Type 0} (count : ℕ) (F : Format A) → IsExact F → IsCaused F → IsCaused (vec_of count F)
caused_vec_of {A} count F exact f =
    caused_as (led u32_format (due_rows count F)) (vec_of count F) (λ p at byte e. e) (λ at items text m s. (items, (length items, s.1.0, s.1.1, s.1.2, (refl {a = length items}, s.1.3), s.1.4)))
    (caused_led u32_format (due_rows count F) exact_u32 caused_u32 (caused_due_rows count F exact f))

-- content of this size
abbrev filling : {A : Type 0} → Format A → ℕ → Format A
filling F size = record { Spells = F.Spells; read = read_within F size; Fits = λ a. ⊥; write = λ a. [] }

caused_filling : {A : Type 0} (F : Format A) → IsCaused F → (size : ℕ) → IsCaused (filling F size)
caused_filling {A} F f size = record {
  caused = λ p at byte e.
      let inside : Place = record { at = p.at; rest = take size p.rest } in
      let after = drop size p.rest in
      elim (cond_err (ltb (length p.rest) size) (Err Malformed) (F.read inside >>= λ a. whole (p.at + size) after a) (Unsupported at byte) e) [
        | inl w ↦ absurd (not_malformed {A = A × Place} at byte w.1)
        | inr w ↦
            elim (bind_err (F.read inside) (λ a. whole (p.at + size) after a) (Unsupported at byte) w.1) [
              | inl r ↦
                  let c = f.caused inside at byte r in
                  (c.0, c.1 ++ after, sym (take-append-drop size p.rest) ∙ ap (λ (z : List ℕ). z ++ after) c.2 ∙ append_assoc c.0 (byte ∷ c.1) after, c.3, c.4)
              | inr x ↦
                  let end : Place = record { at = p.at + size; rest = after } in
                  absurd (test_never (eqb (length x.0.1.rest) 0) (x.0.0, end) at byte x.2)
            ]
      ];
}

pub caused_sized : {A : Type 0} (F : Format A) → IsCaused F → IsCaused (sized F)
caused_sized F f =
    caused_as (led u32_format (filling F)) (sized F) (λ p at byte e. e) (λ at a text m s. (a, (length s.1, s.0, s.1, s.2, s.3, s.4)))
    (caused_led u32_format (filling F) exact_u32 caused_u32 (caused_filling F f))

pub caused_name : IsCaused name
unfolding name
caused_name = caused_checked is_utf8 (sized anything) (caused_sized anything caused_anything)
