-- What is read is spelled so, what is spelled so is read again, and what is written is spelled: one law for each way to make a format.
use Rattle.std.proofs.Common.{◌≡◌, ℕ, zero, suc, ◌+◌, ◌-◌, ◌^◌, ◌<◌, ◌≤◌, Bool, true, false, cond, ltb, eqb, List, [], ◌∷◌, ◌++◌, length, take, drop, Result, Ok, Err, ◌⊎◌, refl, sym, ap, subst, ◌∙◌, append_assoc, arith, inl, inr}
use Rattle.std.specs.List.{AllByRecursion}
use Rattle.std.specs.Str.{is_utf8}
use Rattle.std.proofs.lemmas.Bool.{ltb-false, le-ltb, eqb-true}
use Rattle.std.proofs.lemmas.Bool.Decides.{Decides-eqb}
use Rattle.std.proofs.lemmas.List.{take_at, drop_at, take-append-drop, length-append, length-take, append-nil, nil_from_length}
use Rattle.virt_base.specs.declared.leb.LebFault.{LebFault}
use Rattle.virt_base.specs.Place.{Place, Takes}
use Rattle.virt_base.specs.Leb.{IsUnsigned, unsigned_at}
use Rattle.virt_base.proofs.LebLaws.{UnsignedSays, unsigned_says, unsigned_again, u32_spelled}
use Rattle.wasm_format.specs.declared.stop.Stop.{Stop}
use Rattle.wasm_format.specs.declared.stop.Stop.TheVariants.{Malformed, Unsupported}
use Rattle.wasm_format.specs.Format.{Format, ◌>>=◌, choose, lacking, misplaced, TaggedSpells, read_tagged, tagged, PeekedSpells, read_peeked, Begins, peeked, read_literal, literal, read_fixed, fixed, value, both, image, spanned, behind, closed_by, number_of, u32_format, ItemsSpell, read_items, write_items, vec, vec_of, whole, read_within, sized, anything, read_checked, checked, name}

-- a text at an offset, and more after it
abbrev pub before : ℕ → List ℕ → List ℕ → Place
before at text more = record { at = at; rest = text ++ more }

abbrev pub after : ℕ → List ℕ → List ℕ → Place
after at text more = record { at = at + length text; rest = more }

-- between two places a spelling of the value stands
abbrev pub Stands : {A : Type 0} → Format A → Place → A × Place → Type 0
Stands F p a = (text : List ℕ) × F.Spells p.at a.0 text × Takes text p a.1

pub record IsExact {A : Type 0} (F : Format A) : Type 0 where
  -- what is read is spelled
  pub found : (p : Place) (a : A × Place) → F.read p ≡ Ok a → Stands F p a
  -- what is spelled is read, whatever follows
  pub again : (a : A) (text : List ℕ) (at : ℕ) (more : List ℕ) → F.Spells at a text → F.read (before at text more) ≡ Ok (a, after at text more)
  -- what is written is spelled
  pub written : (a : A) (at : ℕ) → F.Fits a → F.Spells at a (F.write a)

-- the same of a format that takes all that it is given
pub record IsExactToEnd {A : Type 0} (F : Format A) : Type 0 where
  pub found : (p : Place) (a : A × Place) → F.read p ≡ Ok a → Stands F p a
  pub again : (a : A) (text : List ℕ) (at : ℕ) → F.Spells at a text → F.read (record { at = at; rest = text }) ≡ Ok (a, after at text [])
  pub written : (a : A) (at : ℕ) → F.Fits a → F.Spells at a (F.write a)

pub to_end : {A : Type 0} (F : Format A) → IsExact F → IsExactToEnd F
to_end F f = record {
  found = f.found;
  again = λ a text at s. ap (λ (z : List ℕ). F.read (record { at = at; rest = z })) (sym (append-nil text)) ∙ f.again a text at [] s;
  written = f.written;
}

abbrev done : {A : Type 0} → A → Result A Stop
done x = Ok x

pub ok_is : {A : Type 0} (x y : A) → done x ≡ done y → x ≡ y
ok_is x y e = cc

not_done : {A : Type 0} (x : A) (d : Stop) → Err d ≡ done x → ⊥
not_done x d e = cc

-- the value of a step that did not fail
pub bind_ok : {A B : Type 0} (r : Result A Stop) (f : A → Result B Stop) (y : B) → (r >>= f) ≡ Ok y → (x : A) × (r ≡ Ok x) × (f x ≡ Ok y)
bind_ok (Ok x) f y e = (x, refl, e)
bind_ok (Err d) f y e = absurd cc

pub Takes-none : (p : Place) → Takes [] p p
Takes-none p = record { parts = refl; moved = omega arith }

pub Takes-then : (x y : List ℕ) (p q r : Place) → Takes x p q → Takes y q r → Takes (x ++ y) p r
Takes-then x y p q r s t = record { parts = s.parts ∙ ap (λ (z : List ℕ). x ++ z) t.parts ∙ sym (append_assoc x y r.rest); moved = omega (arith, s.moved, t.moved, length-append x y) }

-- two texts, one after the other, with more after them
joined : (text x y more : List ℕ) (at : ℕ) → text ≡ x ++ y → before at text more ≡ before at x (y ++ more)
joined text x y more at e = ap (λ (z : List ℕ). record { at = at; rest = z }) (ap (λ (z : List ℕ). z ++ more) e ∙ append_assoc x y more)

ends : {A : Type 0} (a : A) (text x y more : List ℕ) (at : ℕ) → text ≡ x ++ y → done {A = A × Place} (a, after (at + length x) y more) ≡ Ok (a, after at text more)
ends a text x y more at e =
    let far : at + length x + length y ≡ at + length text = omega (arith, ap length e, length-append x y) in
    ap (λ (n : ℕ). Ok (a, record { at = n; rest = more })) far

-- ---- a byte that chooses

pub exact_choose : {A : Type 0} (b : Bool) (F G : Format A) → IsExact F → IsExact G → IsExact (choose b F G)
exact_choose true F G f g = f
exact_choose false F G f g = g

pub exact_lacking : {A : Type 0} (tag : ℕ) → IsExact (lacking {A = A} tag)
exact_lacking tag = record { found = λ p a e. absurd (not_done a (Unsupported (p.at - 1) tag) e); again = λ a text at more s. absurd s; written = λ a at s. absurd s }

pub exact_misplaced : {A : Type 0} → IsExact (misplaced {A = A})
exact_misplaced = record { found = λ p a e. absurd (not_done a Malformed e); again = λ a text at more s. absurd s; written = λ a at s. absurd s }

tagged_found : {A : Type 0} (form : ℕ → Format A) → ((b : ℕ) → IsExact (form b)) → (at : ℕ) (rest : List ℕ) (a : A × Place) → read_tagged form at rest ≡ Ok a → (text : List ℕ) × TaggedSpells form at a.0 text × Takes text (record { at = at; rest = rest }) a.1
tagged_found form f at [] a e = absurd cc
tagged_found form f at (b ∷ rest) a e =
    let w = (f b).found (record { at = at + 1; rest = rest }) a e in
    (b ∷ w.0, w.1, record { parts = ap (λ (z : List ℕ). b ∷ z) w.2.parts; moved = omega (arith, w.2.moved) })

tagged_again : {A : Type 0} (form : ℕ → Format A) → ((b : ℕ) → IsExact (form b)) → (a : A) (text : List ℕ) (at : ℕ) (more : List ℕ) → TaggedSpells form at a text → read_tagged form at (text ++ more) ≡ Ok (a, after at text more)
tagged_again form f a [] at more s = absurd s
tagged_again form f a (b ∷ text) at more s =
    let e : at + 1 + length text ≡ at + suc (length text) = omega arith in
    (f b).again a text (at + 1) more s ∙ ap (λ (n : ℕ). Ok (a, record { at = n; rest = more })) e

pub exact_tagged : {A : Type 0} (tag : A → ℕ) (form : ℕ → Format A) → ((b : ℕ) → IsExact (form b)) → IsExact (tagged tag form)
exact_tagged tag form f = record {
  found = λ p a e. tagged_found form f p.at p.rest a e;
  again = λ a text at more s. tagged_again form f a text at more s;
  written = λ a at s. (f (tag a)).written a (at + 1) s;
}

-- ---- composition

value_again : {A : Type 0} (v a : A) (text : List ℕ) (at : ℕ) (more : List ℕ) → a ≡ v → text ≡ [] → (value v).read (before at text more) ≡ Ok (a, after at text more)
value_again v a text at more e h =
    let far : at ≡ at + 0 = omega arith in
    rw (h, e) (ap (λ (n : ℕ). Ok (v, record { at = n; rest = more })) far)

pub exact_value : {A : Type 0} (v : A) → IsExact (value v)
exact_value {A} v = record {
  found = λ p a e. subst (λ (y : A × Place). Stands (value v) p y) (ok_is (v, p) a e) ([], (refl, refl), Takes-none p);
  again = λ a text at more s. value_again v a text at more s.0 s.1;
  written = λ a at e. (e, refl);
}

both_found : {A B : Type 0} (F : Format A) (G : Format B) → ((p : Place) (a : A × Place) → F.read p ≡ Ok a → Stands F p a) → ((p : Place) (a : B × Place) → G.read p ≡ Ok a → Stands G p a)
    → (p : Place) (c : (A × B) × Place) → (both F G).read p ≡ Ok c → Stands (both F G) p c
both_found {A} {B} F G f g p c e =
    let a = bind_ok (F.read p) (λ a. G.read a.1 >>= λ b. Ok ((a.0, b.0), b.1)) c e in
    let b = bind_ok (G.read a.0.1) (λ b. Ok ((a.0.0, b.0), b.1)) c a.2 in
    let s = f p a.0 a.1 in
    let t = g a.0.1 b.0 b.1 in
    subst (λ (y : (A × B) × Place). Stands (both F G) p y) (ok_is ((a.0.0, b.0.0), b.0.1) c b.2)
    (s.0 ++ t.0, (s.0, t.0, s.1, subst (λ (k : ℕ). G.Spells k b.0.0 t.0) s.2.moved t.1, refl {a = s.0 ++ t.0}), Takes-then s.0 t.0 p a.0.1 b.0.1 s.2 t.2)

pub exact_both : {A B : Type 0} (F : Format A) (G : Format B) → IsExact F → IsExact G → IsExact (both F G)
exact_both F G f g = record {
  found = both_found F G f.found g.found;
  again = λ c text at more s.
      rw (joined text s.0 s.1 more at s.4, f.again c.0 s.0 at (s.1 ++ more) s.2, g.again c.1 s.1 (at + length s.0) more s.3) (ends c text s.0 s.1 more at s.4);
  written = λ c at h. (F.write c.0, G.write c.1, f.written c.0 at h.0, g.written c.1 (at + length (F.write c.0)) h.1, refl);
}

pub both_to_end : {A B : Type 0} (F : Format A) (G : Format B) → IsExact F → IsExactToEnd G → IsExactToEnd (both F G)
both_to_end F G f g = record {
  found = both_found F G f.found g.found;
  again = λ c text at s.
      rw (s.4, f.again c.0 s.0 at s.1 s.2, g.again c.1 s.1 (at + length s.0) s.3) (ends c (s.0 ++ s.1) s.0 s.1 [] at refl);
  written = λ c at h. (F.write c.0, G.write c.1, f.written c.0 at h.0, g.written c.1 (at + length (F.write c.0)) h.1, refl);
}

pub anything_to_end : IsExactToEnd anything
anything_to_end = record {
  found = λ p a e. subst (λ (y : List ℕ × Place). Stands anything p y) (ok_is (p.rest, record { at = p.at + length p.rest; rest = [] }) a e)
      (p.rest, refl {a = p.rest}, record { parts = sym (append-nil p.rest); moved = refl });
  again = λ a text at s. rw s refl;
  written = λ a at s. refl;
}

image_found : {A B : Type 0} (to : A → B) (from : B → A) (F : Format A) → ((p : Place) (a : A × Place) → F.read p ≡ Ok a → Stands F p a) → (p : Place) (b : B × Place) → (image to from F).read p ≡ Ok b → Stands (image to from F) p b
image_found {A} {B} to from F f p b e =
    let a = bind_ok (F.read p) (λ a. Ok (to a.0, a.1)) b e in
    let s = f p a.0 a.1 in
    subst (λ (y : B × Place). Stands (image to from F) p y) (ok_is (to a.0.0, a.0.1) b a.2) (s.0, (a.0.0, refl {a = to a.0.0}, s.1), s.2)

pub exact_image : {A B : Type 0} (to : A → B) (from : B → A) (F : Format A) → IsExact F → IsExact (image to from F)
exact_image {A} {B} to from F f = record {
  found = image_found to from F f.found;
  again = λ b text at more s. rw (f.again s.0 text at more s.2) (ap (λ (y : B). Ok (y, after at text more)) (sym s.1));
  written = λ b at h. (from b, h.0, f.written (from b) at h.1);
}

pub image_to_end : {A B : Type 0} (to : A → B) (from : B → A) (F : Format A) → IsExactToEnd F → IsExactToEnd (image to from F)
image_to_end {A} {B} to from F f = record {
  found = image_found to from F f.found;
  again = λ b text at s. rw (f.again s.0 text at s.2) (ap (λ (y : B). Ok (y, after at text [])) (sym s.1));
  written = λ b at h. (from b, h.0, f.written (from b) at h.1);
}

-- ---- the part of the input where a value stands

spanned_found : {A B : Type 0} (put : ℕ → ℕ → A → B) (F : Format A) → ((p : Place) (a : A × Place) → F.read p ≡ Ok a → Stands F p a) → (p : Place) (b : B × Place) → (spanned put F).read p ≡ Ok b → Stands (spanned put F) p b
spanned_found {A} {B} put F f p b e =
    let a = bind_ok (F.read p) (λ a. Ok (put p.at a.1.at a.0, a.1)) b e in
    let s = f p a.0 a.1 in
    subst (λ (y : B × Place). Stands (spanned put F) p y) (ok_is (put p.at a.0.1.at a.0.0, a.0.1) b a.2)
    (s.0, (a.0.0, ap (λ (n : ℕ). put p.at n a.0.0) s.2.moved, s.1), s.2)

pub exact_spanned : {A B : Type 0} (put : ℕ → ℕ → A → B) (F : Format A) → IsExact F → IsExact (spanned put F)
exact_spanned {A} {B} put F f = record {
  found = spanned_found put F f.found;
  again = λ b text at more s. rw (f.again s.0 text at more s.2) (ap (λ (y : B). Ok (y, after at text more)) (sym s.1));
  written = λ b at h. absurd h;
}

pub spanned_to_end : {A B : Type 0} (put : ℕ → ℕ → A → B) (F : Format A) → IsExactToEnd F → IsExactToEnd (spanned put F)
spanned_to_end {A} {B} put F f = record {
  found = spanned_found put F f.found;
  again = λ b text at s. rw (f.again s.0 text at s.2) (ap (λ (y : B). Ok (y, after at text [])) (sym s.1));
  written = λ b at h. absurd h;
}

-- ---- numbers

same_done : {X : Type 0} (y x : X × Place) → number_of (Ok y) ≡ Ok x → y ≡ x
same_done y x e = cc

-- a number that was read without a fault
pub ok_of_number : {X : Type 0} (r : Result (X × Place) LebFault) (x : X × Place) → number_of r ≡ Ok x → r ≡ Ok x
ok_of_number {X} (Ok y) x e = ap (λ (z : X × Place). Ok z) (same_done y x e)
ok_of_number (Err d) x e = absurd cc

cond_ok : {A B : Type 0} (c : Bool) (x y : Result A B) (z : Result A B) → cond c x y ≡ z → ((c ≡ true) × (x ≡ z)) ⊎ ((c ≡ false) × (y ≡ z))
cond_ok true x y z e = inl (refl, e)
cond_ok false x y z e = inr (refl, e)

unsigned_takes : (limit : ℕ) (p : Place) (x : ℕ × Place) → unsigned_at limit p.at p.rest ≡ Ok x → (text : List ℕ) × IsUnsigned limit x.0 text × Takes text p x.1
unsigned_takes limit p x e = subst (UnsignedSays limit p.at p.rest) e (unsigned_says limit p.at p.rest)

pub exact_u32 : IsExact u32_format
unfolding u32_format
exact_u32 = record {
  found = λ p a e. unsigned_takes (2 ^ 32) p a (ok_of_number (unsigned_at (2 ^ 32) p.at p.rest) a e);
  again = λ n text at more s. rw (unsigned_again (2 ^ 32) n text at more s) refl;
  written = λ n at h. u32_spelled n h;
}

pub u32_fits : (n : ℕ) → n < 2 ^ 32 → u32_format.Fits n
unfolding u32_format
u32_fits n h = h

-- ---- bytes that are always the same

truth : (b : Bool) → (b ≡ true) ⊎ (b ≡ false)
truth true = inl refl
truth false = inr refl

eqb-same : (n : ℕ) → eqb n n ≡ true
eqb-same n = (Decides-eqb n n).1 refl

moved : {A : Type 0} (v : A) (t at : ℕ) (text more : List ℕ) → done {A = A × Place} (v, after (at + 1) text more) ≡ Ok (v, after at (t ∷ text) more)
moved v t at text more =
    let far : at + 1 + length text ≡ at + suc (length text) = omega arith in
    ap (λ (n : ℕ). Ok (v, record { at = n; rest = more })) far

taken_more : (t at : ℕ) (text rest : List ℕ) (q : Place) → Takes text (record { at = at + 1; rest = rest }) q → Takes (t ∷ text) (record { at = at; rest = t ∷ rest }) q
taken_more t at text rest q w = record { parts = ap (λ (z : List ℕ). t ∷ z) w.parts; moved = omega (arith, w.moved) }

literal_found : {A : Type 0} (tags : List ℕ) (v : A) (at : ℕ) (rest : List ℕ) (a : A × Place) → read_literal tags v at rest ≡ Ok a → (a.0 ≡ v) × Takes tags (record { at = at; rest = rest }) a.1
literal_found {A} [] v at rest a e =
    let here : Place = record { at = at; rest = rest } in
    subst (λ (y : A × Place). (y.0 ≡ v) × Takes [] here y.1) (ok_is (v, here) a e) (refl {a = v}, Takes-none here)
literal_found (t ∷ tags) v at [] a e = absurd (not_done a Malformed e)
literal_found {A} (t ∷ tags) v at (b ∷ rest) a e =
    elim (cond_ok (eqb b t) (read_literal tags v (at + 1) rest) (Err (Unsupported at b)) (Ok a) e) [
      | inl w ↦
          let h = literal_found tags v (at + 1) rest a w.1 in
          (h.0, subst (λ (k : ℕ). Takes (k ∷ tags) (record { at = at; rest = b ∷ rest }) a.1) (eqb-true _ _ w.0) (taken_more b at tags rest a.1 h.1))
      | inr w ↦ absurd (not_done a (Unsupported at b) w.1)
    ]

literal_again : {A : Type 0} (tags : List ℕ) (v : A) (at : ℕ) (more : List ℕ) → read_literal tags v at (tags ++ more) ≡ Ok (v, after at tags more)
literal_again [] v at more = ap (λ (n : ℕ). Ok (v, record { at = n; rest = more })) (omega arith)
literal_again (t ∷ tags) v at more = rw (eqb-same t) (literal_again tags v (at + 1) more ∙ moved v t at tags more)

pub exact_literal : {A : Type 0} (tags : List ℕ) (v : A) → IsExact (literal tags v)
exact_literal tags v = record {
  found = λ p a e. let w = literal_found tags v p.at p.rest a e in (tags, (w.0, refl {a = tags}), w.1);
  again = λ a text at more s. rw (s.1, s.0) (literal_again tags v at more);
  written = λ a at h. (h, refl);
}

fixed_found : {A : Type 0} (bytes : List ℕ) (v : A) (at : ℕ) (rest : List ℕ) (a : A × Place) → read_fixed bytes v at rest ≡ Ok a → (a.0 ≡ v) × Takes bytes (record { at = at; rest = rest }) a.1
fixed_found {A} [] v at rest a e =
    let here : Place = record { at = at; rest = rest } in
    subst (λ (y : A × Place). (y.0 ≡ v) × Takes [] here y.1) (ok_is (v, here) a e) (refl {a = v}, Takes-none here)
fixed_found (t ∷ bytes) v at [] a e = absurd (not_done a Malformed e)
fixed_found {A} (t ∷ bytes) v at (b ∷ rest) a e =
    elim (cond_ok (eqb b t) (read_fixed bytes v (at + 1) rest) (Err Malformed) (Ok a) e) [
      | inl w ↦
          let h = fixed_found bytes v (at + 1) rest a w.1 in
          (h.0, subst (λ (k : ℕ). Takes (k ∷ bytes) (record { at = at; rest = b ∷ rest }) a.1) (eqb-true _ _ w.0) (taken_more b at bytes rest a.1 h.1))
      | inr w ↦ absurd (not_done a Malformed w.1)
    ]

fixed_again : {A : Type 0} (bytes : List ℕ) (v : A) (at : ℕ) (more : List ℕ) → read_fixed bytes v at (bytes ++ more) ≡ Ok (v, after at bytes more)
fixed_again [] v at more = ap (λ (n : ℕ). Ok (v, record { at = n; rest = more })) (omega arith)
fixed_again (t ∷ bytes) v at more = rw (eqb-same t) (fixed_again bytes v (at + 1) more ∙ moved v t at bytes more)

-- the bytes at the front are these, or are not
pub fixed_is : {A : Type 0} (bytes rest : List ℕ) (v : A) (at : ℕ) → rest ≡ bytes ++ drop (length bytes) rest → read_fixed bytes v at rest ≡ Ok (v, record { at = at + length bytes; rest = drop (length bytes) rest })
fixed_is bytes rest v at e = ap (λ (z : List ℕ). read_fixed bytes v at z) e ∙ fixed_again bytes v at (drop (length bytes) rest)

pub fixed_not : {A : Type 0} (bytes rest : List ℕ) (v : A) (at : ℕ) → ((more : List ℕ) → rest ≡ bytes ++ more → ⊥) → read_fixed bytes v at rest ≡ Err Malformed
fixed_not [] rest v at never = absurd (never rest refl)
fixed_not (t ∷ bytes) [] v at never = refl
fixed_not (t ∷ bytes) (b ∷ rest) v at never =
    elim (truth (eqb b t)) [
      | inl same ↦ rw same (fixed_not bytes rest v (at + 1) (λ more e. never more (ap (λ (k : ℕ). k ∷ rest) (eqb-true _ _ same) ∙ ap (λ (z : List ℕ). t ∷ z) e)))
      | inr other ↦ rw other refl
    ]

pub exact_fixed : {A : Type 0} (bytes : List ℕ) (v : A) → IsExact (fixed bytes v)
exact_fixed bytes v = record {
  found = λ p a e. let w = fixed_found bytes v p.at p.rest a e in (bytes, (w.0, refl {a = bytes}), w.1);
  again = λ a text at more s. rw (s.1, s.0) (fixed_again bytes v at more);
  written = λ a at h. (h, refl);
}

pub exact_behind : {A : Type 0} (tags : List ℕ) (F : Format A) → IsExact F → IsExact (behind tags F)
exact_behind {A} tags F f = exact_image (λ p. p.1) (λ a. (tt, a)) (both (literal {A = Unit {0}} tags tt) F) (exact_both (literal {A = Unit {0}} tags tt) F (exact_literal tags tt) f)

pub exact_closed_by : {A : Type 0} (tags : List ℕ) (F : Format A) → IsExact F → IsExact (closed_by tags F)
exact_closed_by {A} tags F f = exact_image (λ p. p.0) (λ a. (a, tt)) (both F (literal {A = Unit {0}} tags tt)) (exact_both F (literal {A = Unit {0}} tags tt) f (exact_literal tags tt))

-- ---- a first byte that is not taken

-- A spelling has at least one byte.
pub record IsFilled {A : Type 0} (F : Format A) : Type 0 where
  pub filled : (at : ℕ) (a : A) → F.Spells at a [] → ⊥

filled_choice : {A : Type 0} (b : Bool) (F G : Format A) → IsFilled F → IsFilled G → (at : ℕ) (a : A) → (choose b F G).Spells at a [] → ⊥
filled_choice true F G f g at a s = f.filled at a s
filled_choice false F G f g at a s = g.filled at a s

first_found : {A : Type 0} (test : ℕ → Bool) (F G : Format A) → IsFilled F → IsFilled G → (at b : ℕ) (rest : List ℕ) (a : A × Place) (text : List ℕ) → (choose (test b) F G).Spells at a.0 text → Takes text (record { at = at; rest = b ∷ rest }) a.1
    → (text : List ℕ) × PeekedSpells test F G at a.0 text × Takes text (record { at = at; rest = b ∷ rest }) a.1
first_found test F G f g at b rest a [] s t = absurd (filled_choice (test b) F G f g at a.0 s)
first_found test F G f g at b rest a (c ∷ text) s t =
    let same : b ≡ c = cc t.parts in
    (c ∷ text, subst (λ (k : ℕ). (choose (test k) F G).Spells at a.0 (c ∷ text)) same s, t)

peeked_found : {A : Type 0} (test : ℕ → Bool) (F G : Format A) → IsExact F → IsExact G → IsFilled F → IsFilled G → (at : ℕ) (rest : List ℕ) (a : A × Place) → read_peeked test F G at rest ≡ Ok a → (text : List ℕ) × PeekedSpells test F G at a.0 text × Takes text (record { at = at; rest = rest }) a.1
peeked_found test F G f g fs gs at [] a e = absurd (not_done a Malformed e)
peeked_found test F G f g fs gs at (b ∷ rest) a e =
    let w = (exact_choose (test b) F G f g).found (record { at = at; rest = b ∷ rest }) a e in
    first_found test F G fs gs at b rest a w.0 w.1 w.2

peeked_again : {A : Type 0} (test : ℕ → Bool) (F G : Format A) → IsExact F → IsExact G → (a : A) (text : List ℕ) (at : ℕ) (more : List ℕ) → PeekedSpells test F G at a text → read_peeked test F G at (text ++ more) ≡ Ok (a, after at text more)
peeked_again test F G f g a [] at more s = absurd s
peeked_again test F G f g a (b ∷ text) at more s = (exact_choose (test b) F G f g).again a (b ∷ text) at more s

peeked_spelled : {A : Type 0} (test : ℕ → Bool) (F G : Format A) (is_first : Bool) (at : ℕ) (a : A) (text : List ℕ) → Begins test is_first text → (choose is_first F G).Spells at a text → PeekedSpells test F G at a text
peeked_spelled test F G is_first at a [] h s = absurd h
peeked_spelled test F G is_first at a (b ∷ text) h s = subst (λ (c : Bool). (choose c F G).Spells at a (b ∷ text)) (sym h) s

pub exact_peeked : {A : Type 0} (test : ℕ → Bool) (is_first : A → Bool) (F G : Format A) → IsExact F → IsExact G → IsFilled F → IsFilled G → IsExact (peeked test is_first F G)
exact_peeked test is_first F G f g fs gs = record {
  found = λ p a e. peeked_found test F G f g fs gs p.at p.rest a e;
  again = λ a text at more s. peeked_again test F G f g a text at more s;
  written = λ a at h. peeked_spelled test F G (is_first a) at a ((choose (is_first a) F G).write a) h.1 ((exact_choose (is_first a) F G f g).written a at h.0);
}

pub filled_tagged : {A : Type 0} (tag : A → ℕ) (form : ℕ → Format A) → IsFilled (tagged tag form)
filled_tagged tag form = record { filled = λ at a s. s }

pub filled_image : {A B : Type 0} (to : A → B) (from : B → A) (F : Format A) → IsFilled F → IsFilled (image to from F)
filled_image to from F f = record { filled = λ at b s. f.filled at s.0 s.2 }

pub filled_spanned : {A B : Type 0} (put : ℕ → ℕ → A → B) (F : Format A) → IsFilled F → IsFilled (spanned put F)
filled_spanned put F f = record { filled = λ at b s. f.filled at s.0 s.2 }

pub filled_checked : {A : Type 0} (test : A → Bool) (F : Format A) → IsFilled F → IsFilled (checked test F)
filled_checked test F f = record { filled = λ at a s. f.filled at a s.1 }

pub filled_u32 : IsFilled u32_format
unfolding u32_format
filled_u32 = record { filled = λ at n s. s }

-- ---- lists

items_found : {A : Type 0} (F : Format A) → IsExact F → (n : ℕ) (p : Place) (items : List A × Place) → read_items F n p ≡ Ok items → (text : List ℕ) × ItemsSpell F p.at items.0 text × Takes text p items.1 × (length items.0 ≡ n)
unfolding read_items
items_found {A} F f zero p items e =
    subst (λ (y : List A × Place). (text : List ℕ) × ItemsSpell F p.at y.0 text × Takes text p y.1 × (length y.0 ≡ 0)) (ok_is ([], p) items e) ([], refl, Takes-none p, refl)
items_found {A} F f (suc n) p items e =
    let a = bind_ok (F.read p) (λ a. read_items F n a.1 >>= λ items. Ok (a.0 ∷ items.0, items.1)) items e in
    let b = bind_ok (read_items F n a.0.1) (λ items. Ok (a.0.0 ∷ items.0, items.1)) items a.2 in
    let s = f.found p a.0 a.1 in
    let t = items_found F f n a.0.1 b.0 b.1 in
    subst (λ (y : List A × Place). (text : List ℕ) × ItemsSpell F p.at y.0 text × Takes text p y.1 × (length y.0 ≡ suc n)) (ok_is (a.0.0 ∷ b.0.0, b.0.1) items b.2)
    (s.0 ++ t.0, (s.0, t.0, s.1, subst (λ (k : ℕ). ItemsSpell F k b.0.0 t.0) s.2.moved t.1, refl {a = s.0 ++ t.0}), Takes-then s.0 t.0 p a.0.1 b.0.1 s.2 t.2, ap suc t.3)

items_again : {A : Type 0} (F : Format A) → IsExact F → (items : List A) (text : List ℕ) (at : ℕ) (more : List ℕ) → ItemsSpell F at items text → read_items F (length items) (before at text more) ≡ Ok (items, after at text more)
unfolding read_items
items_again F f [] text at more s = rw s (ap (λ (n : ℕ). Ok ([], record { at = n; rest = more })) (omega arith))
items_again F f (a ∷ items) text at more s =
    let one = f.again a s.0 at (s.1 ++ more) s.2 in
    let two = items_again F f items s.1 (at + length s.0) more s.3 in
    rw (joined text s.0 s.1 more at s.4, one, two) (ends (a ∷ items) text s.0 s.1 more at s.4)

items_written : {A : Type 0} (F : Format A) → IsExact F → (items : List A) (at : ℕ) → AllByRecursion F.Fits items → ItemsSpell F at items (write_items F items)
items_written F f [] at h = refl
items_written F f (a ∷ items) at h = (F.write a, write_items F items, f.written a at h.0, items_written F f items (at + length (F.write a)) h.1, refl)

pub exact_vec : {A : Type 0} (F : Format A) → IsExact F → IsExact (vec F)
exact_vec {A} F f = record {
  found = λ p items e.
      let n = bind_ok (u32_format.read p) (λ n. read_items F n.0 n.1) items e in
      let s = exact_u32.found p n.0 n.1 in
      let t = items_found F f n.0.0 n.0.1 items n.2 in
      (s.0 ++ t.0, (s.0, t.0, subst (λ (k : ℕ). u32_format.Spells p.at k s.0) (sym t.3) s.1, subst (λ (k : ℕ). ItemsSpell F k items.0 t.0) s.2.moved t.1, refl {a = s.0 ++ t.0}), Takes-then s.0 t.0 p n.0.1 items.1 s.2 t.2);
  again = λ items text at more s.
      let one = exact_u32.again (length items) s.0 at (s.1 ++ more) s.2 in
      let two = items_again F f items s.1 (at + length s.0) more s.3 in
      rw (joined text s.0 s.1 more at s.4, one, two) (ends items text s.0 s.1 more at s.4);
  written = λ items at h. (u32_format.write (length items), write_items F items, exact_u32.written (length items) at (u32_fits (length items) h.0), items_written F f items (at + length (u32_format.write (length items))) h.1, refl);
}

counted_ok : {A : Type 0} (count n : ℕ) (r : Result A Stop) (x : A) → cond (eqb n count) r (Err Malformed) ≡ Ok x → (n ≡ count) × (r ≡ Ok x)
counted_ok count n r x e =
    elim (cond_ok (eqb n count) r (Err Malformed) (Ok x) e) [
      | inl w ↦ (eqb-true _ _ w.0, w.1)
      | inr w ↦ absurd (not_done x Malformed w.1)
    ]

pub exact_vec_of : {A : Type 0} (count : ℕ) (F : Format A) → IsExact F → IsExact (vec_of count F)
exact_vec_of {A} count F f = record {
  found = λ p items e.
      let n = bind_ok (u32_format.read p) (λ n. cond (eqb n.0 count) (read_items F n.0 n.1) (Err Malformed)) items e in
      let m = counted_ok count n.0.0 (read_items F n.0.0 n.0.1) items n.2 in
      let s = exact_u32.found p n.0 n.1 in
      let t = items_found F f n.0.0 n.0.1 items m.1 in
      (s.0 ++ t.0, (t.3 ∙ m.0, (s.0, t.0, subst (λ (k : ℕ). u32_format.Spells p.at k s.0) (sym t.3) s.1, subst (λ (k : ℕ). ItemsSpell F k items.0 t.0) s.2.moved t.1, refl {a = s.0 ++ t.0})), Takes-then s.0 t.0 p n.0.1 items.1 s.2 t.2);
  again = λ items text at more h.
      let s = h.1 in
      let test : eqb (length items) count ≡ true = rw h.0 (eqb-same count) in
      let one = exact_u32.again (length items) s.0 at (s.1 ++ more) s.2 in
      let two = items_again F f items s.1 (at + length s.0) more s.3 in
      rw (joined text s.0 s.1 more at s.4, one, test, two) (ends items text s.0 s.1 more at s.4);
  written = λ items at h. (h.0, (exact_vec F f).written items at h.1);
}

-- ---- content of a stated size

guard_ok : {A : Type 0} (b : Bool) (d : Stop) (r : Result A Stop) (y : A) → cond b (Err d) r ≡ Ok y → (b ≡ false) × (r ≡ Ok y)
guard_ok true d r y e = absurd (not_done y d e)
guard_ok false d r y e = (refl, e)

whole_ok : {A : Type 0} (end : ℕ) (rest : List ℕ) (a : A × Place) (x : A × Place) → whole end rest a ≡ Ok x → (a.1.rest ≡ []) × (x ≡ (a.0, record { at = end; rest = rest }))
whole_ok {A} end rest a x e =
    elim (cond_ok (eqb (length a.1.rest) 0) (done (a.0, record { at = end; rest = rest })) (Err Malformed) (Ok x) e) [
      | inl w ↦ (nil_from_length a.1.rest (eqb-true _ _ w.0), sym (ok_is (a.0, record { at = end; rest = rest }) x w.1))
      | inr w ↦ absurd (not_done x Malformed w.1)
    ]

within_found : {A : Type 0} (F : Format A) → IsExactToEnd F → (n : ℕ) (p : Place) (a : A × Place) → read_within F n p ≡ Ok a → (text : List ℕ) × F.Spells p.at a.0 text × Takes text p a.1 × (n ≡ length text)
within_found {A} F f n p a e =
    let inside : Place = record { at = p.at; rest = take n p.rest } in
    let g = guard_ok (ltb (length p.rest) n) Malformed (F.read inside >>= λ a. whole (p.at + n) (drop n p.rest) a) a e in
    let long : n ≤ length p.rest = ltb-false _ _ g.0 in
    let b = bind_ok (F.read inside) (λ a. whole (p.at + n) (drop n p.rest) a) a g.1 in
    let w = whole_ok (p.at + n) (drop n p.rest) b.0 a b.2 in
    let t = f.found inside b.0 b.1 in
    let all : take n p.rest ≡ t.0 = t.2.parts ∙ ap (λ (z : List ℕ). t.0 ++ z) w.0 ∙ append-nil t.0 in
    let len : n ≡ length t.0 = omega (arith, length-take n p.rest, ap length all) in
    let taken : Takes t.0 p (record { at = p.at + n; rest = drop n p.rest }) = record { parts = sym (take-append-drop n p.rest) ∙ ap (λ (z : List ℕ). z ++ drop n p.rest) all; moved = ap (λ (k : ℕ). p.at + k) len } in
    subst (λ (y : A × Place). (text : List ℕ) × F.Spells p.at y.0 text × Takes text p y.1 × (n ≡ length text)) (sym w.1) (t.0, t.1, taken, len)

within_again : {A : Type 0} (F : Format A) → IsExactToEnd F → (a : A) (text : List ℕ) (at : ℕ) (more : List ℕ) → F.Spells at a text → read_within F (length text) (before at text more) ≡ Ok (a, after at text more)
within_again F f a text at more s =
    let long : ltb (length (text ++ more)) (length text) ≡ false = le-ltb _ _ (omega (arith, length-append text more)) in
    rw (long, take_at text more (length text) refl, drop_at text more (length text) refl, f.again a text at s) refl

pub exact_sized : {A : Type 0} (F : Format A) → IsExactToEnd F → IsExact (sized F)
exact_sized F f = record {
  found = λ p a e.
      let n = bind_ok (u32_format.read p) (λ n. read_within F n.0 n.1) a e in
      let s = exact_u32.found p n.0 n.1 in
      let t = within_found F f n.0.0 n.0.1 a n.2 in
      (s.0 ++ t.0, (s.0, t.0, subst (λ (k : ℕ). u32_format.Spells p.at k s.0) t.3 s.1, subst (λ (k : ℕ). F.Spells k a.0 t.0) s.2.moved t.1, refl {a = s.0 ++ t.0}), Takes-then s.0 t.0 p n.0.1 a.1 s.2 t.2);
  again = λ a text at more s.
      let one = exact_u32.again (length s.1) s.0 at (s.1 ++ more) s.2 in
      let two = within_again F f a s.1 (at + length s.0) more s.3 in
      rw (joined text s.0 s.1 more at s.4, one, two) (ends a text s.0 s.1 more at s.4);
  written = λ a at h. (u32_format.write (length (F.write a)), F.write a, exact_u32.written (length (F.write a)) at (u32_fits (length (F.write a)) h.0), f.written a (at + length (u32_format.write (length (F.write a)))) h.1, refl);
}

-- ---- a test

checked_ok : {A : Type 0} (test : A → Bool) (a x : A × Place) → read_checked test a ≡ Ok x → (test a.0 ≡ true) × (a ≡ x)
checked_ok test a x e =
    elim (cond_ok (test a.0) (done a) (Err Malformed) (Ok x) e) [
      | inl w ↦ (w.0, ok_is a x w.1)
      | inr w ↦ absurd (not_done x Malformed w.1)
    ]

pub exact_checked : {A : Type 0} (test : A → Bool) (F : Format A) → IsExact F → IsExact (checked test F)
exact_checked {A} test F f = record {
  found = λ p a e.
      let x = bind_ok (F.read p) (read_checked test) a e in
      let t = checked_ok test x.0 a x.2 in
      let s = f.found p x.0 x.1 in
      subst (λ (y : A × Place). Stands (checked test F) p y) t.1 (s.0, (t.0, s.1), s.2);
  again = λ a text at more s. rw (f.again a text at more s.1, s.0) refl;
  written = λ a at h. (h.0, f.written a at h.1);
}

pub exact_name : IsExact name
unfolding name
exact_name = exact_checked is_utf8 (sized anything) (exact_sized anything anything_to_end)

-- ---- what follows for every format

-- No bytes spell two values, and no spelling of one begins another.
pub one_value : {A : Type 0} (F : Format A) → IsExact F → (at : ℕ) (a b : A) (x y more other : List ℕ) → F.Spells at a x → F.Spells at b y → x ++ more ≡ y ++ other → (a ≡ b) × (x ≡ y)
one_value {A} F f at a b x y more other s t e =
    let h = ok_is (a, after at x more) (b, after at y other) (sym (f.again a x at more s) ∙ ap (λ (z : List ℕ). F.read (record { at = at; rest = z })) e ∙ f.again b y at other t) in
    let far : at + length x ≡ at + length y = ap (λ (z : A × Place). z.1.at) h in
    let len : length x ≡ length y = omega arith in
    (ap (λ (z : A × Place). z.0) h, sym (take_at x more (length x) refl) ∙ ap (take (length x)) e ∙ ap (λ (n : ℕ). take n (y ++ other)) len ∙ take_at y other (length y) refl)
