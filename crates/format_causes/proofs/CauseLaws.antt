-- Reading stops at a tag for a cause: one law for each way to make a format.
use Rattle.std.proofs.Common.{◌≡◌, ℕ, pos, ◌+◌, ◌-◌, ◌^◌, Bool, true, false, eqb, List, [], ◌∷◌, ◌++◌, length, Result, Ok, Err, ◌⊎◌, refl, sym, ap, subst, ◌∙◌, append_assoc, arith, inl, inr}
use Rattle.std.proofs.lemmas.Bool.Decides.{Decides-eqb}
use Rattle.std.proofs.lemmas.List.{length-append, append-nil}
use Rattle.virt_base.specs.declared.leb.LebFault.{LebFault}
use Rattle.virt_base.specs.Place.{Place}
use Rattle.virt_base.specs.Leb.{unsigned_at, signed_at}
use Rattle.wasm_format.specs.declared.stop.Stop.TheVariants.{Malformed, Unsupported}
use Rattle.wasm_format.specs.Format.{Format, ◌>>=◌, choose, lacking, misplaced, read_tagged, tagged, TaggedSpells, PeekedSpells, read_peeked, peeked, read_literal, literal, read_fixed, fixed, value, both, image, spanned, behind, closed_by, read_checked, checked, number_of, u32_format, anything}
use Rattle.wasm_format.specs.Numbers.{signed_format, s32_format, s33_format, s64_format, is_natural, natural_of, s33_index}
use Rattle.wasm_format.proofs.Laws.{IsExact, after, exact_literal, one_value}
use Rattle.format_causes.specs.Causes.{Cause, IsCaused}
use Rattle.format_causes.proofs.Steps.{bind_err, first_err, ok_is_no_err, not_malformed, test_never, cond_err, not_both, tag_is, heads, not_empty, overlap, same_rest}

-- ---- what the cause of one format is to another

-- where what the one spells, and is not empty, the other spells too
pub cause_as : {A B : Type 0} (F : Format A) (G : Format B) (p : Place) (at byte : ℕ) → ((b : B) (text : List ℕ) → (text ≡ [] → ⊥) → G.Spells p.at b text → (a : A) × F.Spells p.at a text) → Cause F p at byte → Cause G p at byte
cause_as F G p at byte f c =
    (c.0, c.1, c.2, c.3, λ b other s. let w = f b (c.0 ++ byte ∷ other) (not_empty c.0 byte other) s in c.4 w.0 other w.1)

-- of a format whose reading stops at no tag
pub never : {A : Type 0} (F : Format A) → ((p : Place) (at byte : ℕ) → F.read p ≡ Err (Unsupported at byte) → ⊥) → IsCaused F
never F h = record { caused = λ p at byte e. absurd (h p at byte e) }

begins : {A : Type 0} (F : Format A) (p : Place) (at byte : ℕ) (c : Cause F p at byte) (a : A) (text more other z : List ℕ) → F.Spells p.at a text → text ≡ c.0 ++ z → byte ∷ other ≡ z ++ more → ((y : List ℕ) → p.rest ≡ text ++ y → ⊥) → ⊥
begins F p at byte c a text more other [] s e h reads_on =
    let all : text ≡ c.0 = e ∙ append-nil c.0 in
    reads_on (byte ∷ c.1) (c.2 ∙ ap (λ (y : List ℕ). y ++ byte ∷ c.1) (sym all))
begins F p at byte c a text more other (b ∷ z) s e h reads_on =
    let same : byte ≡ b = (heads byte b other (z ++ more) h).0 in
    c.4 a z (subst (λ (y : List ℕ). F.Spells p.at a y) (e ∙ ap (λ (k : ℕ). c.0 ++ k ∷ z) (sym same)) s)

-- no spelling stands in front of bytes that begin as those do at which reading stopped
pub refuses : {A : Type 0} (F : Format A) → IsExact F → (p : Place) (at byte : ℕ) → F.read p ≡ Err (Unsupported at byte) → (c : Cause F p at byte) → (a : A) (text more other : List ℕ) → F.Spells p.at a text → text ++ more ≡ c.0 ++ byte ∷ other → ⊥
refuses {A} F f p at byte e c a text more other s h =
    let reads_on : (z : List ℕ) → p.rest ≡ text ++ z → ⊥ = λ z r.
    ok_is_no_err (a, after p.at text z) (Unsupported at byte) (sym (f.again a text p.at z s) ∙ ap (λ (y : List ℕ). F.read (record { at = p.at; rest = y })) (sym r) ∙ e) in
    elim (overlap text more c.0 (byte ∷ other) h) [
      | inl w ↦ reads_on (w.0 ++ byte ∷ c.1) (c.2 ∙ ap (λ (z : List ℕ). z ++ byte ∷ c.1) w.1 ∙ append_assoc text w.0 (byte ∷ c.1))
      | inr w ↦ begins F p at byte c a text more other w.0 s w.1 w.2 reads_on
    ]

-- ---- values made of others

pub caused_image : {A B : Type 0} (to : A → B) (from : B → A) (F : Format A) → IsCaused F → IsCaused (image to from F)
caused_image {A} {B} to from F f = record {
  caused = λ p at byte e.
      let r = first_err {B = B × Place} (F.read p) (λ a. (to a.0, a.1)) (Unsupported at byte) e in
      cause_as F (image to from F) p at byte (λ b text n s. (s.0, s.2)) (f.caused p at byte r);
}

pub caused_spanned : {A B : Type 0} (put : ℕ → ℕ → A → B) (F : Format A) → IsCaused F → IsCaused (spanned put F)
caused_spanned {A} {B} put F f = record {
  caused = λ p at byte e.
      let r = first_err {B = B × Place} (F.read p) (λ a. (put p.at a.1.at a.0, a.1)) (Unsupported at byte) e in
      cause_as F (spanned put F) p at byte (λ b text n s. (s.0, s.2)) (f.caused p at byte r);
}

pub caused_checked : {A : Type 0} (test : A → Bool) (F : Format A) → IsCaused F → IsCaused (checked test F)
caused_checked test F f = record {
  caused = λ p at byte e.
      elim (bind_err (F.read p) (read_checked test) (Unsupported at byte) e) [
        | inl r ↦ cause_as F (checked test F) p at byte (λ b text n s. (b, s.1)) (f.caused p at byte r)
        | inr w ↦ absurd (test_never (test w.0.0) w.0 at byte w.2)
      ];
}

-- ---- a value, and what it leads

-- a value that is not kept, and what stands after it
abbrev pub led : {A B : Type 0} → Format A → (A → Format B) → Format B
led F G = record {
  Spells = λ at b text. (a : _) × (x y : List ℕ) × F.Spells at a x × (G a).Spells (at + length x) b y × (text ≡ x ++ y);
  read = λ p. F.read p >>= λ a. (G a.0).read a.1;
  Fits = λ b. ⊥;
  write = λ b. [];
}

pub caused_led : {A B : Type 0} (F : Format A) (G : A → Format B) → IsExact F → IsCaused F → ((a : A) → IsCaused (G a)) → IsCaused (led F G)
caused_led {A} {B} F G exact f g = record {
  caused = λ p at byte e.
      elim (bind_err (F.read p) (λ a. (G a.0).read a.1) (Unsupported at byte) e) [
        | inl r ↦
            let c = f.caused p at byte r in
            (c.0, c.1, c.2, c.3, λ b other s. refuses F exact p at byte r c s.0 s.1 s.2 other s.3 (sym s.5))
        | inr w ↦
            let x : A × Place = w.0 in
            let st = exact.found p x w.1 in
            let t : List ℕ = st.0 in
            let c = (g x.0).caused x.1 at byte w.2 in (
              t ++ c.0,
              c.1,
              st.2.parts ∙ ap (λ (z : List ℕ). t ++ z) c.2 ∙ sym (append_assoc t c.0 (byte ∷ c.1)),
              omega (arith, c.3, st.2.moved, length-append t c.0),
              λ b other s.
                  let split : t ++ (c.0 ++ byte ∷ other) ≡ s.1 ++ s.2 = sym (append_assoc t c.0 (byte ∷ other)) ∙ s.5 in
                  let one = one_value F exact p.at x.0 s.0 t s.1 (c.0 ++ byte ∷ other) s.2 st.1 s.3 split in
                  let rest : c.0 ++ byte ∷ other ≡ s.2 = same_rest t (c.0 ++ byte ∷ other) s.2 (split ∙ ap (λ (z : List ℕ). z ++ s.2) (sym one.1)) in
                  let far : p.at + length s.1 ≡ x.1.at = ap (λ (z : List ℕ). p.at + length z) (sym one.1) ∙ sym st.2.moved in
                  let here : (G x.0).Spells (p.at + length s.1) b s.2 = subst (λ (a : A). (G a).Spells (p.at + length s.1) b s.2) (sym one.0) s.4 in
                  let there : (G x.0).Spells x.1.at b s.2 = subst (λ (k : ℕ). (G x.0).Spells k b s.2) far here in
                  c.4 b other (subst (λ (z : List ℕ). (G x.0).Spells x.1.at b z) (sym rest) there),
            )
      ];
}

-- reading and spelling as another format does
pub caused_as : {A B : Type 0} (F : Format A) (G : Format B) → ((p : Place) (at byte : ℕ) → G.read p ≡ Err (Unsupported at byte) → F.read p ≡ Err (Unsupported at byte)) → ((at : ℕ) (b : B) (text : List ℕ) → (text ≡ [] → ⊥) → G.Spells at b text → (a : A) × F.Spells at a text) → IsCaused F → IsCaused G
caused_as F G reads spells f = record { caused = λ p at byte e. cause_as F G p at byte (spells p.at) (f.caused p at byte (reads p at byte e)) }

-- beside a value
abbrev beside : {A B : Type 0} → Format B → A → Format (A × B)
beside G a = image (λ b. (a, b)) (λ c. c.1) G

pub caused_both : {A B : Type 0} (F : Format A) (G : Format B) → IsExact F → IsCaused F → IsCaused G → IsCaused (both F G)
caused_both F G exact f g =
    caused_as (led F (beside G)) (both F G) (λ p at byte e. e) (λ at c text n s. (c, (c.0, s.0, s.1, s.2, (c.1, refl {a = c}, s.3), s.4)))
    (caused_led F (beside G) exact f (λ a. caused_image (λ b. (a, b)) (λ c. c.1) G g))

-- ---- bytes that are always the same

eqb-same : (n : ℕ) → eqb n n ≡ true
eqb-same n = (Decides-eqb n n).1 refl

literal_stops : {A : Type 0} (tags : List ℕ) (v : A) (at : ℕ) (rest : List ℕ) (a byte : ℕ) → read_literal tags v at rest ≡ Err (Unsupported a byte)
    → (front more : List ℕ) × (rest ≡ front ++ byte ∷ more) × (a ≡ at + length front) × ((other : List ℕ) → front ++ byte ∷ other ≡ tags → ⊥)
literal_stops {A} [] v at rest a byte e =
    let here : Place = record { at = at; rest = rest } in
    absurd (ok_is_no_err {A = A × Place} (v, here) (Unsupported a byte) e)
literal_stops {A} (t ∷ tags) v at [] a byte e = absurd (not_malformed {A = A × Place} a byte e)
literal_stops {A} (t ∷ tags) v at (b ∷ rest) a byte e =
    elim (cond_err (eqb b t) (read_literal tags v (at + 1) rest) (Err (Unsupported at b)) (Unsupported a byte) e) [
      | inl w ↦
          let h = literal_stops tags v (at + 1) rest a byte w.1 in
          (b ∷ h.0, h.1, ap (λ (z : List ℕ). b ∷ z) h.2, omega (arith, h.3), λ other s. h.4 other (heads b t (h.0 ++ byte ∷ other) tags s).1)
      | inr w ↦
          let k = tag_is {A = A × Place} at b a byte w.1 in
          let at_is : a ≡ at = k.0 in (
            [],
            rest,
            ap (λ (z : ℕ). z ∷ rest) (sym k.1),
            omega (arith, at_is),
            λ other s.
                let same : b ≡ t = sym k.1 ∙ (heads byte t other tags s).0 in
                not_both (eqb b t) (ap (λ (z : ℕ). eqb b z) (sym same) ∙ eqb-same b) w.0,
          )
    ]

pub caused_literal : {A : Type 0} (tags : List ℕ) (v : A) → IsCaused (literal tags v)
caused_literal tags v = record { caused = λ p at byte e. let h = literal_stops tags v p.at p.rest at byte e in (h.0, h.1, h.2, h.3, λ a other s. h.4 other s.1) }

fixed_never : {A : Type 0} (bytes : List ℕ) (v : A) (at : ℕ) (rest : List ℕ) (a byte : ℕ) → read_fixed bytes v at rest ≡ Err (Unsupported a byte) → ⊥
fixed_never {A} [] v at rest a byte e =
    let here : Place = record { at = at; rest = rest } in
    ok_is_no_err {A = A × Place} (v, here) (Unsupported a byte) e
fixed_never {A} (t ∷ bytes) v at [] a byte e = not_malformed {A = A × Place} a byte e
fixed_never {A} (t ∷ bytes) v at (b ∷ rest) a byte e =
    elim (cond_err (eqb b t) (read_fixed bytes v (at + 1) rest) (Err Malformed) (Unsupported a byte) e) [
      | inl w ↦ fixed_never bytes v (at + 1) rest a byte w.1
      | inr w ↦ not_malformed {A = A × Place} a byte w.1
    ]

pub caused_fixed : {A : Type 0} (bytes : List ℕ) (v : A) → IsCaused (fixed bytes v)
caused_fixed bytes v = never (fixed bytes v) (λ p at byte e. fixed_never bytes v p.at p.rest at byte e)

pub caused_behind : {A : Type 0} (tags : List ℕ) (F : Format A) → IsCaused F → IsCaused (behind tags F)
caused_behind {A} tags F f =
    caused_image (λ p. p.1) (λ a. (tt, a)) (both (literal {A = Unit {0}} tags tt) F) (caused_both (literal {A = Unit {0}} tags tt) F (exact_literal tags tt) (caused_literal tags tt) f)

pub caused_closed_by : {A : Type 0} (tags : List ℕ) (F : Format A) → IsExact F → IsCaused F → IsCaused (closed_by tags F)
caused_closed_by {A} tags F exact f =
    caused_image (λ p. p.0) (λ a. (a, tt)) (both F (literal {A = Unit {0}} tags tt)) (caused_both F (literal {A = Unit {0}} tags tt) exact f (caused_literal tags tt))

pub caused_value : {A : Type 0} (v : A) → IsCaused (value v)
caused_value {A} v = never (value v) (λ p at byte e. ok_is_no_err {A = A × Place} (v, p) (Unsupported at byte) e)

pub caused_anything : IsCaused anything
caused_anything = never anything (λ p at byte e. cc)

pub caused_misplaced : {A : Type 0} → IsCaused (misplaced {A = A})
caused_misplaced {A} = never (misplaced {A = A}) (λ p at byte e. not_malformed {A = A × Place} at byte e)

-- ---- numbers

number_never : {X : Type 0} (r : Result (X × Place) LebFault) (at byte : ℕ) → number_of r ≡ Err (Unsupported at byte) → ⊥
number_never {X} (Ok x) at byte e = ok_is_no_err {A = X × Place} x (Unsupported at byte) e
number_never {X} (Err d) at byte e = not_malformed {A = X × Place} at byte e

pub caused_u32 : IsCaused u32_format
unfolding u32_format
caused_u32 = never u32_format (λ p at byte e. number_never (unsigned_at (2 ^ 32) p.at p.rest) at byte e)

caused_signed : (half : ℕ) → IsCaused (signed_format half)
caused_signed half = never (signed_format half) (λ p at byte e. number_never (signed_at half p.at p.rest) at byte e)

pub caused_s32 : IsCaused s32_format
unfolding s32_format
caused_s32 = caused_signed (2 ^ 31)

caused_s33 : IsCaused s33_format
unfolding s33_format
caused_s33 = caused_signed (2 ^ 32)

pub caused_s64 : IsCaused s64_format
unfolding s64_format
caused_s64 = caused_signed (2 ^ 63)

pub caused_s33_index : IsCaused s33_index
unfolding s33_index
caused_s33_index = caused_image natural_of pos (checked is_natural s33_format) (caused_checked is_natural s33_format caused_s33)

-- ---- a byte that chooses

-- The same of what stands after a byte that chose it. Reading may also stop at that byte, where nothing is spelled.
pub record IsCausedBehind {A : Type 0} (b : ℕ) (F : Format A) : Type 0 where
  pub caused_behind_it : (p : Place) (at byte : ℕ) → F.read p ≡ Err (Unsupported at byte) → ((at ≡ p.at - 1) × (byte ≡ b) × ((k : ℕ) (a : A) (text : List ℕ) → F.Spells k a text → ⊥)) ⊎ Cause F p at byte

pub behind_lacking : {A : Type 0} (b : ℕ) → IsCausedBehind b (lacking {A = A} b)
behind_lacking {A} b = record { caused_behind_it = λ p at byte e. let w = tag_is {A = A × Place} (p.at - 1) b at byte e in inl (w.0, w.1, λ k a text s. s) }

pub behind_choose : {A : Type 0} (b : ℕ) (c : Bool) (F G : Format A) → IsCausedBehind b F → IsCausedBehind b G → IsCausedBehind b (choose c F G)
behind_choose b true F G f g = f
behind_choose b false F G f g = g

pub behind_image : {A B : Type 0} (b : ℕ) (to : A → B) (from : B → A) (F : Format A) → IsCausedBehind b F → IsCausedBehind b (image to from F)
behind_image {A} {B} b to from F f = record {
  caused_behind_it = λ p at byte e.
      elim (f.caused_behind_it p at byte (first_err {B = B × Place} (F.read p) (λ a. (to a.0, a.1)) (Unsupported at byte) e)) [
        | inl w ↦ inl (w.0, w.1, λ k a text s. w.2 k s.0 text s.2)
        | inr c ↦ inr (cause_as F (image to from F) p at byte (λ a text n s. (s.0, s.2)) c)
      ];
}

pub behind_of : {A : Type 0} (b : ℕ) (F : Format A) → IsCaused F → IsCausedBehind b F
behind_of b F f = record { caused_behind_it = λ p at byte e. inr (f.caused p at byte e) }

tagged_stops : {A : Type 0} (form : ℕ → Format A) → ((b : ℕ) → IsCausedBehind b (form b)) → (at : ℕ) (rest : List ℕ) (a byte : ℕ) → read_tagged form at rest ≡ Err (Unsupported a byte)
    → (front more : List ℕ) × (rest ≡ front ++ byte ∷ more) × (a ≡ at + length front) × ((v : A) (other : List ℕ) → TaggedSpells form at v (front ++ byte ∷ other) → ⊥)
tagged_stops {A} form f at [] a byte e = absurd (not_malformed {A = A × Place} a byte e)
tagged_stops {A} form f at (b ∷ rest) a byte e =
    let behind_it : Place = record { at = at + 1; rest = rest } in
    elim ((f b).caused_behind_it behind_it a byte e) [
      | inl w ↦
          let at_is : a ≡ at + 1 - 1 = w.0 in (
            [],
            rest,
            ap (λ (k : ℕ). k ∷ rest) (sym w.1),
            omega (arith, at_is),
            λ v other s. w.2 (at + 1) v other (subst (λ (k : ℕ). (form k).Spells (at + 1) v other) w.1 s),
          )
      | inr c ↦
          let at_is : a ≡ at + 1 + length c.0 = c.3 in
          (b ∷ c.0, c.1, ap (λ (z : List ℕ). b ∷ z) c.2, omega (arith, at_is), λ v other s. c.4 v other s)
    ]

pub caused_tagged : {A : Type 0} (tag : A → ℕ) (form : ℕ → Format A) → ((b : ℕ) → IsCausedBehind b (form b)) → IsCaused (tagged tag form)
caused_tagged tag form f = record { caused = λ p at byte e. tagged_stops form f p.at p.rest at byte e }

pub caused_choose : {A : Type 0} (c : Bool) (F G : Format A) → IsCaused F → IsCaused G → IsCaused (choose c F G)
caused_choose true F G f g = f
caused_choose false F G f g = g

-- ---- a first byte that is not taken

-- where the first byte is the same, the test is
first_alike : {A : Type 0} (test : ℕ → Bool) (F G : Format A) (b : ℕ) (rest front more other : List ℕ) (byte at : ℕ) (a : A) → b ∷ rest ≡ front ++ byte ∷ more → PeekedSpells test F G at a (front ++ byte ∷ other)
    → (choose (test b) F G).Spells at a (front ++ byte ∷ other)
first_alike test F G b rest [] more other byte at a e s =
    subst (λ (k : ℕ). (choose (test k) F G).Spells at a (byte ∷ other)) (sym (heads b byte rest more e).0) s
first_alike test F G b rest (d ∷ front) more other byte at a e s =
    subst (λ (k : ℕ). (choose (test k) F G).Spells at a (d ∷ (front ++ byte ∷ other))) (sym (heads b d rest (front ++ byte ∷ more) e).0) s

peeked_stops : {A : Type 0} (test : ℕ → Bool) (F G : Format A) → IsCaused F → IsCaused G → (at : ℕ) (rest : List ℕ) (a byte : ℕ) → read_peeked test F G at rest ≡ Err (Unsupported a byte)
    → (front more : List ℕ) × (rest ≡ front ++ byte ∷ more) × (a ≡ at + length front) × ((v : A) (other : List ℕ) → PeekedSpells test F G at v (front ++ byte ∷ other) → ⊥)
peeked_stops {A} test F G f g at [] a byte e = absurd (not_malformed {A = A × Place} a byte e)
peeked_stops {A} test F G f g at (b ∷ rest) a byte e =
    let here : Place = record { at = at; rest = b ∷ rest } in
    let c = (caused_choose (test b) F G f g).caused here a byte e in
    (c.0, c.1, c.2, c.3, λ v other s. c.4 v other (first_alike test F G b rest c.0 c.1 other byte at v c.2 s))

pub caused_peeked : {A : Type 0} (test : ℕ → Bool) (is_first : A → Bool) (F G : Format A) → IsCaused F → IsCaused G → IsCaused (peeked test is_first F G)
caused_peeked test is_first F G f g = record { caused = λ p at byte e. peeked_stops test F G f g p.at p.rest at byte e }
