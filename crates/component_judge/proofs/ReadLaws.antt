-- Reading bytes stops for one cause alone.
use Rattle.std.proofs.Common.{◌≡◌, ◌≢◌, ◌∙◌, refl, sym, ap, subst, ℕ, ◌≤◌, List, ◌++◌, length, take, drop, ◌⊎◌, Result, Err, inl, inr, arith}
use Rattle.std.proofs.lemmas.List.{take_all, drop_at}
use Rattle.std.proofs.lemmas.Bool.{cases_lt}
use Rattle.wasm_format.specs.declared.stop.Stop.{Stop}
use Rattle.wasm_format.specs.declared.stop.Stop.TheVariants as stops
use Rattle.wasm_format.specs.Sections.{run}
use Rattle.wasm_format.proofs.SectionLaws.{AreExact, run_tag}
use Rattle.comp_grammar.specs.Trees.{Tree, End}
use Rattle.comp_grammar.specs.Components.{preamble, sections}
use Rattle.comp_grammar.proofs.ComponentLaws.{exact_sections, exact_component}
use Rattle.comp_read.specs.Answers.{inside, MeetsTag, SpellsReadable, IsLongest, IsNoComponent, Answers}
use Rattle.comp_read.specs.declared.reading.CompReadFault.{CompReadFault}
use Rattle.comp_read.specs.declared.reading.CompReadFault.TheVariants.{Malformed, Unsupported, TooNested, NoMemory}

exact_inside : AreExact (sections inside)
exact_inside = exact_sections inside (exact_component 99)

-- after the preamble stands one body
body_is : (body other : List ℕ) → preamble ++ body ≡ preamble ++ other → body ≡ other
body_is body other e = sym (drop_at preamble body 8 refl) ∙ ap (drop 8) e ∙ drop_at preamble other 8 refl

-- a tag that is met is what reading gives
tag_read : (text body : List ℕ) (at byte : ℕ) → text ≡ preamble ++ body → MeetsTag at byte text → (run (sections inside) (length body) End 0 8 body).outcome ≡ Err (stops.Unsupported at byte)
unfolding sections
tag_read text body at byte is w =
    let split : body ≡ w.1 ++ w.2 = body_is body (w.1 ++ w.2) (sym is ∙ w.3) in
    run_tag (sections inside) exact_inside w.0 (length body) End 0 8 body w.1 w.2 at byte (omega arith) w.4 split w.5

same_tag : {A : Type 0} (r : Result A Stop) (a b x y : ℕ) → r ≡ Err (stops.Unsupported a x) → r ≡ Err (stops.Unsupported b y) → Unsupported a x ≡ Unsupported b y
same_tag r a b x y h g =
    let same : stops.Unsupported a x ≡ stops.Unsupported b y = cc in
    let at : a ≡ b = cc in
    let byte : x ≡ y = cc in
    ap (λ n. Unsupported n x) at ∙ ap (λ n. Unsupported b n) byte

one_tag : (text : List ℕ) (a b x y : ℕ) → MeetsTag a x text → MeetsTag b y text → Unsupported a x ≡ Unsupported b y
one_tag text a b x y h g =
    let body = h.1 ++ h.2 in
    same_tag (run (sections inside) (length body) End 0 8 body).outcome a b x y (tag_read text body a x h.3 h) (tag_read text body b y h.3 g)

-- ---- the longest front

-- a front that is no component ends in the text
front_within : (text : List ℕ) (at : ℕ) → IsNoComponent text → (at ≡ 0) ⊎ ((t : Tree) × SpellsReadable t (take at text)) → at ≤ length text
front_within text at none (inl start) = omega (arith, start)
front_within text at none (inr (t, spelled)) =
    elim (cases_lt (length text) at) [
      | inl past ↦ absurd (none t (subst (SpellsReadable t) (take_all at text (omega (arith, past))) spelled))
      | inr within ↦ within
    ]

front_low : (text : List ℕ) (a b : ℕ) → IsNoComponent text → IsLongest a text → IsLongest b text → a ≤ b
front_low text a b none h g = by h.0
  where
    by : (a ≡ 0) ⊎ ((t : Tree) × SpellsReadable t (take a text)) → a ≤ b
    by (inl start) = omega (arith, start)
    by (inr (t, spelled)) = g.1 a t (front_within text a none h.0) spelled

-- ---- all faults

pub one_read_fault : (text : List ℕ) (a b : CompReadFault) → a ≢ NoMemory → b ≢ NoMemory → Answers (Err a) text → Answers (Err b) text → a ≡ b
one_read_fault text (Malformed a) (Malformed b) x y h g = ap Malformed (omega (arith, front_low text a b h.1 h.0 g.0, front_low text b a h.1 g.0 h.0))
one_read_fault text (Malformed a) (Unsupported b byte) x y h g = absurd (h.2 b byte g.0)
one_read_fault text (Malformed a) (TooNested d) x y h g = absurd (h.3 g.1)
one_read_fault text (Unsupported a byte) (Malformed b) x y h g = absurd (g.2 a byte h.0)
one_read_fault text (Unsupported a byte) (Unsupported b other) x y h g = one_tag text a b byte other h.0 g.0
one_read_fault text (Unsupported a byte) (TooNested d) x y h g = absurd (h.2 g.1)
one_read_fault text (TooNested d) (Malformed b) x y h g = absurd (g.3 h.1)
one_read_fault text (TooNested d) (Unsupported b byte) x y h g = absurd (g.2 h.1)
one_read_fault text (TooNested d) (TooNested e) x y h g = ap TooNested (h.0 ∙ sym g.0)
one_read_fault text NoMemory b x y h g = absurd (x refl)
one_read_fault text a NoMemory x y h g = absurd (y refl)

-- bytes that are not read are no component
pub unread_no_component : (text : List ℕ) (a : CompReadFault) → a ≢ NoMemory → Answers (Err a) text → IsNoComponent text
unread_no_component text (Malformed a) x h = h.1
unread_no_component text (Unsupported a byte) x h = h.1
unread_no_component text (TooNested d) x h = h.2
unread_no_component text NoMemory x h = absurd (x refl)
