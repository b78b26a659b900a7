-- What bytes spell may be written, and what is written is no longer than any spelling: one law for each way to make a format.
use Rattle.std.proofs.Common.{◌≡◌, ℕ, zero, suc, ◌+◌, ◌/◌, ◌^◌, ◌<◌, ◌≤◌, Bool, true, false, eqb, List, [], ◌∷◌, ◌++◌, length, refl, sym, ap, subst, ◌∙◌, arith, inl, inr}
use Rattle.std.specs.List.{AllByRecursion}
use Rattle.std.specs.Str.{is_utf8}
use Rattle.std.proofs.lemmas.Bool.{cases_lt, le-ltb, lt-ltb, eqb-true}
use Rattle.std.proofs.lemmas.List.{length-append}
use Rattle.virt_base.specs.Leb.{IsUnsigned, shortest_unsigned}
use Rattle.virt_base.proofs.LebLaws.{unsigned_least}
use Rattle.wasm_format.specs.Format.{Format, AreBytes, choose, lacking, misplaced, TaggedSpells, tagged, PeekedSpells, Begins, peeked, literal, fixed, value, both, image, behind, closed_by, u32_format, ItemsSpell, write_items, vec, vec_of, sized, anything, checked, name}

-- the value may be written, in no more bytes than these
abbrev pub Least : {A : Type 0} → Format A → A → List ℕ → Type 0
Least F a text = F.Fits a × (length (F.write a) ≤ length text)

pub record IsLeast {A : Type 0} (F : Format A) : Type 0 where
  pub least : (at : ℕ) (a : A) (text : List ℕ) → AreBytes text → F.Spells at a text → Least F a text

-- What is spelled has this tag.
pub record HasTag {A B : Type 0} (tag : A → B) (b : B) (F : Format A) : Type 0 where
  pub has : (at : ℕ) (a : A) (text : List ℕ) → F.Spells at a text → tag a ≡ b

pub all_front : (x y : List ℕ) → AreBytes (x ++ y) → AreBytes x
all_front [] y h = tt
all_front (b ∷ x) y h = (h.0, all_front x y h.1)

pub all_back : (x y : List ℕ) → AreBytes (x ++ y) → AreBytes y
all_back [] y h = h
all_back (b ∷ x) y h = all_back x y h.1

-- the bytes of two parts
pub parts_bytes : (text x y : List ℕ) → text ≡ x ++ y → AreBytes text → AreBytes x × AreBytes y
parts_bytes text x y e h =
    let all : AreBytes (x ++ y) = subst AreBytes e h in
    (all_front x y all, all_back x y all)

-- ---- what chooses

pub least_choose : {A : Type 0} (b : Bool) (F G : Format A) → IsLeast F → IsLeast G → IsLeast (choose b F G)
least_choose true F G f g = f
least_choose false F G f g = g

pub least_lacking : {A : Type 0} (tag : ℕ) → IsLeast (lacking {A = A} tag)
least_lacking tag = record { least = λ at a text h s. absurd s }

pub least_misplaced : {A : Type 0} → IsLeast (misplaced {A = A})
least_misplaced = record { least = λ at a text h s. absurd s }

tagged_least : {A : Type 0} (tag : A → ℕ) (form : ℕ → Format A) → ((b : ℕ) → IsLeast (form b)) → ((b : ℕ) → HasTag tag b (form b)) → (at : ℕ) (a : A) (text : List ℕ) → AreBytes text → TaggedSpells form at a text → Least (tagged tag form) a text
tagged_least tag form f t at a [] h s = absurd s
tagged_least tag form f t at a (b ∷ text) h s =
    let e : tag a ≡ b = (t b).has (at + 1) a text s in
    let w : Least (form b) a text = (f b).least (at + 1) a text h.1 s in
    let v : Least (form (tag a)) a text = subst (λ (k : ℕ). Least (form k) a text) (sym e) w in
    (v.0, omega (arith, v.1))

pub least_tagged : {A : Type 0} (tag : A → ℕ) (form : ℕ → Format A) → ((b : ℕ) → IsLeast (form b)) → ((b : ℕ) → HasTag tag b (form b)) → IsLeast (tagged tag form)
least_tagged tag form f t = record { least = tagged_least tag form f t }

-- ---- tags

chosen_has : {A B : Type 0} (tag : A → B) (b : B) (c : Bool) (F G : Format A) → (c ≡ true → HasTag tag b F) → HasTag tag b G → HasTag tag b (choose c F G)
chosen_has tag b true F G f g = f refl
chosen_has tag b false F G f g = g

-- a form after the tag that chooses it
pub tag_choose : {A : Type 0} (tag : A → ℕ) (b k : ℕ) (F G : Format A) → HasTag tag k F → HasTag tag b G → HasTag tag b (choose (eqb b k) F G)
tag_choose tag b k F G f g = chosen_has tag b (eqb b k) F G (λ e. subst (λ (n : ℕ). HasTag tag n F) (sym (eqb-true b k e)) f) g

-- forms that have one tag, whatever chooses among them
pub tag_either : {A B : Type 0} (tag : A → B) (b : B) (c : Bool) (F G : Format A) → HasTag tag b F → HasTag tag b G → HasTag tag b (choose c F G)
tag_either tag b c F G f g = chosen_has tag b c F G (λ e. f) g

pub tag_lacking : {A B : Type 0} (tag : A → B) (b : B) (n : ℕ) → HasTag tag b (lacking n)
tag_lacking tag b n = record { has = λ at a text s. absurd s }

pub tag_misplaced : {A B : Type 0} (tag : A → B) (b : B) → HasTag tag b misplaced
tag_misplaced tag b = record { has = λ at a text s. absurd s }

pub tag_value : {A B : Type 0} (tag : A → B) (b : B) (v : A) → tag v ≡ b → HasTag tag b (value v)
tag_value tag b v e = record { has = λ at a text s. ap tag s.0 ∙ e }

pub tag_literal : {A B : Type 0} (tag : A → B) (b : B) (tags : List ℕ) (v : A) → tag v ≡ b → HasTag tag b (literal tags v)
tag_literal tag b tags v e = record { has = λ at a text s. ap tag s.0 ∙ e }

pub tag_image : {A B C : Type 0} (tag : B → C) (b : C) (to : A → B) (from : B → A) (F : Format A) → ((a : A) → tag (to a) ≡ b) → HasTag tag b (image to from F)
tag_image tag b to from F e = record { has = λ at a text s. ap tag s.1 ∙ e s.0 }

-- the tag is in what is turned into the value
pub tag_inside : {A B C : Type 0} (tag : B → C) (b : C) (to : A → B) (from : B → A) (F : Format A) → HasTag (λ a. tag (to a)) b F → HasTag tag b (image to from F)
tag_inside tag b to from F f = record { has = λ at a text s. ap tag s.1 ∙ f.has at s.0 text s.2 }

pub tag_checked : {A B : Type 0} (tag : A → B) (b : B) (test : A → Bool) (F : Format A) → HasTag tag b F → HasTag tag b (checked test F)
tag_checked tag b test F f = record { has = λ at a text s. f.has at a text s.1 }

tagged_has : {A B : Type 0} (tag : A → B) (b : B) (other : A → ℕ) (form : ℕ → Format A) → ((n : ℕ) → HasTag tag b (form n)) → (at : ℕ) (a : A) (text : List ℕ) → TaggedSpells form at a text → tag a ≡ b
tagged_has tag b other form f at a [] s = absurd s
tagged_has tag b other form f at a (n ∷ text) s = (f n).has (at + 1) a text s

-- what a further tag chooses
pub tag_tagged : {A B : Type 0} (tag : A → B) (b : B) (other : A → ℕ) (form : ℕ → Format A) → ((n : ℕ) → HasTag tag b (form n)) → HasTag tag b (tagged other form)
tag_tagged tag b other form f = record { has = tagged_has tag b other form f }

pub tag_behind : {A B : Type 0} (tag : A → B) (b : B) (tags : List ℕ) (F : Format A) → HasTag tag b F → HasTag tag b (behind tags F)
tag_behind tag b tags F f = record { has = λ at a text s. ap tag s.1 ∙ f.has (at + length s.2.0) s.0.1 s.2.1 s.2.3 }

-- ---- a first byte that is not taken

-- What may be written begins with a byte for which the test has this outcome.
pub record BeginsAs {A : Type 0} (test : ℕ → Bool) (outcome : Bool) (F : Format A) : Type 0 where
  pub begins : (a : A) → F.Fits a → Begins test outcome (F.write a)

begins_choice : {A : Type 0} (test : ℕ → Bool) (c : Bool) (F G : Format A) → BeginsAs test true F → BeginsAs test false G → BeginsAs test c (choose c F G)
begins_choice test true F G f g = f
begins_choice test false F G f g = g

is_choice : {A : Type 0} (is_first : A → Bool) (c : Bool) (F G : Format A) → HasTag is_first true F → HasTag is_first false G → HasTag is_first c (choose c F G)
is_choice is_first true F G f g = f
is_choice is_first false F G f g = g

peeked_least : {A : Type 0} (test : ℕ → Bool) (is_first : A → Bool) (F G : Format A) → IsLeast F → IsLeast G → HasTag is_first true F → HasTag is_first false G → BeginsAs test true F → BeginsAs test false G
    → (at : ℕ) (a : A) (text : List ℕ) → AreBytes text → PeekedSpells test F G at a text → Least (peeked test is_first F G) a text
peeked_least test is_first F G f g fi gi fb gb at a [] h s = absurd s
peeked_least test is_first F G f g fi gi fb gb at a (b ∷ text) h s =
    let e : is_first a ≡ test b = (is_choice is_first (test b) F G fi gi).has at a (b ∷ text) s in
    let w = (least_choose (test b) F G f g).least at a (b ∷ text) h s in
    let first = (begins_choice test (test b) F G fb gb).begins a w.0 in
    subst (λ (c : Bool). ((choose c F G).Fits a × Begins test c ((choose c F G).write a)) × (length ((choose c F G).write a) ≤ suc (length text))) (sym e) ((w.0, first), w.1)

pub least_peeked : {A : Type 0} (test : ℕ → Bool) (is_first : A → Bool) (F G : Format A) → IsLeast F → IsLeast G → HasTag is_first true F → HasTag is_first false G → BeginsAs test true F → BeginsAs test false G → IsLeast (peeked test is_first F G)
least_peeked test is_first F G f g fi gi fb gb = record { least = peeked_least test is_first F G f g fi gi fb gb }

pub begins_tagged : {A : Type 0} (test : ℕ → Bool) (outcome : Bool) (tag : A → ℕ) (form : ℕ → Format A) → ((a : A) → (form (tag a)).Fits a → test (tag a) ≡ outcome) → BeginsAs test outcome (tagged tag form)
begins_tagged test outcome tag form e = record { begins = λ a h. e a h }

pub begins_image : {A B : Type 0} (test : ℕ → Bool) (outcome : Bool) (to : A → B) (from : B → A) (F : Format A) → BeginsAs test outcome F → BeginsAs test outcome (image to from F)
begins_image test outcome to from F f = record { begins = λ b h. f.begins (from b) h.1 }

-- ---- bytes that are always the same, and nothing

pub least_literal : {A : Type 0} (tags : List ℕ) (v : A) → IsLeast (literal tags v)
least_literal tags v = record { least = λ at a text h s. (s.0, omega (arith, ap length s.1)) }

pub least_fixed : {A : Type 0} (bytes : List ℕ) (v : A) → IsLeast (fixed bytes v)
least_fixed bytes v = record { least = λ at a text h s. (s.0, omega (arith, ap length s.1)) }

pub least_value : {A : Type 0} (v : A) → IsLeast (value v)
least_value v = record { least = λ at a text h s. (s.0, omega arith) }

-- ---- composition

pub least_both : {A B : Type 0} (F : Format A) (G : Format B) → IsLeast F → IsLeast G → IsLeast (both F G)
least_both F G f g = record {
  least = λ at c text h s.
      let b = parts_bytes text s.0 s.1 s.4 h in
      let x = f.least at c.0 s.0 b.0 s.2 in
      let y = g.least (at + length s.0) c.1 s.1 b.1 s.3 in
      ((x.0, y.0), omega (arith, x.1, y.1, ap length s.4, length-append s.0 s.1, length-append (F.write c.0) (G.write c.1)));
}

-- where what is spelled is found again in its image
pub least_image_where : {A B : Type 0} (to : A → B) (from : B → A) (F : Format A) → IsLeast F → ((at : ℕ) (a : A) (text : List ℕ) → F.Spells at a text → from (to a) ≡ a) → IsLeast (image to from F)
least_image_where {A} {B} to from F f back = record {
  least = λ at b text h s.
      let w = f.least at s.0 text h s.2 in
      let e : from b ≡ s.0 = ap from s.1 ∙ back at s.0 text s.2 in
      let v : Least F (from b) text = subst (λ (a : A). Least F a text) (sym e) w in
      ((s.1 ∙ ap to (sym e), v.0), v.1);
}

pub least_image : {A B : Type 0} (to : A → B) (from : B → A) (F : Format A) → IsLeast F → ((a : A) → from (to a) ≡ a) → IsLeast (image to from F)
least_image to from F f back = least_image_where to from F f (λ at a text s. back a)

pub least_behind : {A : Type 0} (tags : List ℕ) (F : Format A) → IsLeast F → IsLeast (behind tags F)
least_behind {A} tags F f = least_image (λ p. p.1) (λ a. (tt, a)) (both (literal {A = Unit {0}} tags tt) F) (least_both (literal {A = Unit {0}} tags tt) F (least_literal tags tt) f) (λ a. refl)

pub least_closed_by : {A : Type 0} (tags : List ℕ) (F : Format A) → IsLeast F → IsLeast (closed_by tags F)
least_closed_by {A} tags F f = least_image (λ p. p.0) (λ a. (a, tt)) (both F (literal {A = Unit {0}} tags tt)) (least_both F (literal {A = Unit {0}} tags tt) f (least_literal tags tt)) (λ a. refl)

pub least_checked : {A : Type 0} (test : A → Bool) (F : Format A) → IsLeast F → IsLeast (checked test F)
least_checked test F f = record { least = λ at a text h s. let w = f.least at a text h s.1 in ((s.0, w.0), w.1) }

-- ---- numbers, lists, sizes

below : (limit n : ℕ) (text : List ℕ) → AreBytes text → IsUnsigned limit n text → n < limit
below limit n [] h s = absurd s
below limit n (b ∷ []) h s = omega (arith, s.1, s.2)
below limit n (b ∷ c ∷ bs) h s =
    let high = below (limit / 128) s.2.0 (c ∷ bs) h.1 s.2.2 in
    omega (arith, high, s.0, s.1, s.2.1, h.0)

pub least_u32 : IsLeast u32_format
unfolding u32_format
least_u32 = record { least = λ at n text h s. (below (2 ^ 32) n text h s, unsigned_least (2 ^ 32) 4 n text h s) }

no_shorter : (more m n : ℕ) → m ≤ n → length (shortest_unsigned more m) ≤ length (shortest_unsigned more n)
no_shorter zero m n le = omega arith
no_shorter (suc more) m n le =
    elim (cases_lt n 128) [
      | inl low ↦ rw (lt-ltb m 128 (omega (arith, low, le)), lt-ltb _ _ low) (omega arith)
      | inr high ↦ elim (cases_lt m 128) [
        | inl small ↦ rw (lt-ltb _ _ small, le-ltb _ _ high) (omega arith)
        | inr big ↦ let rest = no_shorter more (m / 128) (n / 128) (omega (arith, le)) in rw (le-ltb _ _ big, le-ltb _ _ high) (omega (arith, rest))
      ]
    ]

-- a smaller number takes no more bytes
pub u32_no_shorter : (m n : ℕ) → m ≤ n → length (u32_format.write m) ≤ length (u32_format.write n)
unfolding u32_format
u32_no_shorter m n le = no_shorter 4 m n le

pub u32_small : (n : ℕ) → u32_format.Fits n → n < 2 ^ 32
unfolding u32_format
u32_small n h = h

items_least : {A : Type 0} (F : Format A) → IsLeast F → (at : ℕ) (items : List A) (text : List ℕ) → AreBytes text → ItemsSpell F at items text → AllByRecursion F.Fits items × (length (write_items F items) ≤ length text)
items_least F f at [] text h s = (tt, omega arith)
items_least F f at (a ∷ items) text h s =
    let b = parts_bytes text s.0 s.1 s.4 h in
    let x = f.least at a s.0 b.0 s.2 in
    let y = items_least F f (at + length s.0) items s.1 b.1 s.3 in
    ((x.0, y.0), omega (arith, x.1, y.1, ap length s.4, length-append s.0 s.1, length-append (F.write a) (write_items F items)))

pub least_vec : {A : Type 0} (F : Format A) → IsLeast F → IsLeast (vec F)
least_vec F f = record {
  least = λ at items text h s.
      let b = parts_bytes text s.0 s.1 s.4 h in
      let x = least_u32.least at (length items) s.0 b.0 s.2 in
      let y = items_least F f (at + length s.0) items s.1 b.1 s.3 in
      ((u32_small (length items) x.0, y.0), omega (arith, x.1, y.1, ap length s.4, length-append s.0 s.1, length-append (u32_format.write (length items)) (write_items F items)));
}

pub least_vec_of : {A : Type 0} (count : ℕ) (F : Format A) → IsLeast F → IsLeast (vec_of count F)
least_vec_of count F f = record { least = λ at items text h s. let w = (least_vec F f).least at items text h s.1 in ((s.0, w.0), w.1) }

pub least_sized : {A : Type 0} (F : Format A) → IsLeast F → IsLeast (sized F)
least_sized F f = record {
  least = λ at a text h s.
      let b = parts_bytes text s.0 s.1 s.4 h in
      let x = least_u32.least at (length s.1) s.0 b.0 s.2 in
      let y = f.least (at + length s.0) a s.1 b.1 s.3 in
      let z = u32_no_shorter (length (F.write a)) (length s.1) y.1 in
      ((omega (arith, y.1, u32_small (length s.1) x.0), y.0), omega (arith, x.1, y.1, z, ap length s.4, length-append s.0 s.1, length-append (u32_format.write (length (F.write a))) (F.write a)));
}

pub least_anything : IsLeast anything
least_anything = record { least = λ at a text h s. (tt, omega (arith, ap length s)) }

pub least_name : IsLeast name
unfolding name
least_name = least_checked is_utf8 (sized anything) (least_sized anything least_anything)
