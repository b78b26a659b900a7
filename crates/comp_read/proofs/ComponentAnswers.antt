-- What reading the sections of a component gives says whether its bytes are a component.
use Rattle.std.proofs.Common.{◌≡◌, ℕ, ◌+◌, ◌≤◌, true, false, List, ◌++◌, length, take, drop, Result, Ok, Err, is_err, ◌⊎◌, refl, sym, ap, subst, ◌∙◌, append_assoc, arith, inl, inr}
use Rattle.std.proofs.lemmas.List.{length-append, length-take, take-append-drop, take_at, drop_at}
use Rattle.wasm_format.specs.declared.stop.Stop.{Stop}
use Rattle.wasm_format.specs.declared.stop.Stop.TheVariants as stops
use Rattle.virt_base.specs.declared.cursor.Cursor.{Cursor}
use Rattle.virt_base.specs.Place.{Place, Gives, rest, place}
use Rattle.wasm_format.specs.Format.{fixed}
use Rattle.wasm_format.proofs.Laws.{exact_fixed}
use Rattle.wasm_format.specs.Sections.{SectionsSpell, built, SpellsTo, Run, run, Ran}
use Rattle.wasm_format.proofs.SectionLaws.{AreExact, run_ok, run_good, run_longest, run_all}
use Rattle.comp_grammar.specs.Trees.{Tree, End}
use Rattle.comp_grammar.specs.Components.{preamble, section, sections, all_sections, component}
use Rattle.comp_grammar.proofs.ComponentLaws.{exact_sections, exact_component}
use Rattle.comp_grammar.proofs.DepthLaws.{within, at_its_depth, spelled_once}
use Rattle.comp_read.proofs.AnyDepth.{at_any_depth}
use Rattle.comp_read.specs.Answers.{inside, StopsAt, MeetsTag, ReachesTooDeep, most_deep, SpellsReadable, IsLongest, IsNoComponent, IsCause, IsTheComponent}
use Rattle.comp_read.proofs.StopLaws.{IsOfSection, run_stopped, run_stop}

abbrev pub whole_run : List ℕ → Run Tree
whole_run body = run (sections inside) (length body) End 0 8 body

exact_inside : AreExact (sections inside)
exact_inside = exact_sections inside (exact_component 99)

-- a spelling in which at most that many components stand in one another
abbrev pub Shallow : Tree → List ℕ → Type 0
Shallow t text = (component most_deep).Spells 0 t text

shallow : (t : Tree) (text : List ℕ) → SpellsReadable t text → Shallow t text
shallow t text s = at_its_depth 0 t text most_deep s.1 s.0

readable : (t : Tree) (text : List ℕ) → Shallow t text → SpellsReadable t text
readable t text s = ((most_deep, s), within most_deep 0 t text s)

-- a spelling of a component, in its parts
abbrev pub Spelled : Tree → List ℕ → Type 0
Spelled t text = (body : List ℕ) × (text ≡ preamble ++ body) × SpellsTo (sections inside) End 8 t body

pub in_parts : (t : Tree) (text : List ℕ) → Shallow t text → Spelled t text
unfolding component all_sections
in_parts t text s =
    let pair = s.2 in
    let split : text ≡ preamble ++ pair.1 = pair.4 ∙ ap (λ (x : List ℕ). x ++ pair.1) pair.2.1 in
    let to : SpellsTo (sections inside) End 8 s.0.1 pair.1 = subst (λ (x : List ℕ). SpellsTo (sections inside) End (0 + length x) s.0.1 pair.1) pair.2.1 pair.3 in
    (pair.1, split, subst (λ (u : Tree). SpellsTo (sections inside) End 8 u pair.1) (sym s.1) to)

pub from_parts : (t : Tree) (text : List ℕ) → Spelled t text → Shallow t text
unfolding component all_sections
from_parts t text s = ((tt, t), refl {a = t}, (preamble, s.0, (refl {a = tt}, refl {a = preamble}), s.2, s.1))

-- after the preamble stands one body
body_is : (body other : List ℕ) → preamble ++ body ≡ preamble ++ other → body ≡ other
body_is body other e = sym (drop_at preamble body 8 refl) ∙ ap (drop 8) e ∙ drop_at preamble other 8 refl

long : (bytes body : List ℕ) → bytes ≡ preamble ++ body → length bytes ≡ 8 + length body
long bytes body e = ap length e ∙ length-append preamble body

err_not_ok : {A : Type 0} (r : Result A Stop) (x : A) (d : Stop) → r ≡ Ok x → r ≡ Err d → ⊥
err_not_ok r x d e h = cc

err_is : {A : Type 0} (r : Result A Stop) (c d : Stop) → r ≡ Err c → r ≡ Err d → c ≡ d
err_is r c d e h = cc

spelled_is_ok : (bytes body : List ℕ) (t : Tree) → bytes ≡ preamble ++ body → Shallow t bytes → (u : Tree) × ((whole_run body).outcome ≡ Ok u)
unfolding sections
spelled_is_ok bytes body t e spelled_so =
    let s = in_parts t bytes spelled_so in
    let same : s.0 ≡ body = body_is s.0 body (sym s.1 ∙ e) in
    let parts = s.2.0 in
    let spelled : SectionsSpell (sections inside) End 8 parts body = subst (λ (z : List ℕ). SectionsSpell (sections inside) End 8 parts z) same s.2.1 in
    (built (sections inside) End parts, run_all (sections inside) exact_inside parts (length body) End 0 8 body (omega arith) spelled refl)

ok_spells : (bytes body : List ℕ) (t : Tree) → bytes ≡ preamble ++ body → (whole_run body).outcome ≡ Ok t → Shallow t bytes
ok_spells bytes body t e h = from_parts t bytes (body, e, run_ok (sections inside) exact_inside (length body) End 0 8 body t h)

pub ok_is_the_component : (bytes body : List ℕ) (t : Tree) → bytes ≡ preamble ++ body → (whole_run body).outcome ≡ Ok t → IsTheComponent t bytes
ok_is_the_component bytes body t e h = let s = readable t bytes (ok_spells bytes body t e h) in (s, λ u other. spelled_once u t bytes other s.0)

-- ---- stops

tag_of_section : (at byte : ℕ) → IsOfSection (sections inside) (stops.Unsupported at byte)
unfolding sections section
tag_of_section at byte = record { other = λ e. cc; not_at_end = λ s place e. cc }

depth_of_section : IsOfSection (sections inside) stops.TooNested
unfolding sections section
depth_of_section = record { other = λ e. cc; not_at_end = λ s place e. cc }

no_component : (bytes body : List ℕ) (stop : Stop) → bytes ≡ preamble ++ body → (whole_run body).outcome ≡ Err stop → IsNoComponent bytes
no_component bytes body stop e h t s = let k = spelled_is_ok bytes body t e (shallow t bytes s) in err_not_ok (whole_run body).outcome k.0 stop k.1 h

stopped : (bytes body : List ℕ) (stop : Stop) → IsOfSection (sections inside) stop → bytes ≡ preamble ++ body → (whole_run body).outcome ≡ Err stop → StopsAt stop bytes
unfolding sections
stopped bytes body stop of e h =
    let w = run_stopped (sections inside) exact_inside stop of (length body) End 0 8 body h in
    (w.0, w.1, w.2, e ∙ ap (λ (z : List ℕ). preamble ++ z) w.4, w.3, w.5)

-- reading stops in one way alone
stops_once : (bytes body : List ℕ) (stop outcome : Stop) → IsOfSection (sections inside) stop → bytes ≡ preamble ++ body → (whole_run body).outcome ≡ Err outcome → StopsAt stop bytes → stop ≡ outcome
unfolding sections
stops_once bytes body stop outcome of e h w =
    let split : body ≡ w.1 ++ w.2 = body_is body (w.1 ++ w.2) (sym e ∙ w.3) in
    err_is (whole_run body).outcome stop outcome (run_stop (sections inside) exact_inside stop of w.0 (length body) End 0 8 body w.1 w.2 (omega arith) w.4 split w.5) h

-- what stops the run stops the format's own reading
component_stops : (body : List ℕ) (stop : Stop) → (whole_run body).outcome ≡ Err stop → (component most_deep).read (record { at = 0; rest = preamble ++ body }) ≡ Err stop
unfolding component all_sections
component_stops body stop h = rw h refl

pub unsupported_meets : (bytes body : List ℕ) (at byte : ℕ) → bytes ≡ preamble ++ body → (whole_run body).outcome ≡ Err (stops.Unsupported at byte) → MeetsTag at byte bytes × IsNoComponent bytes × (ReachesTooDeep bytes → ⊥) × IsCause at byte bytes
unsupported_meets bytes body at byte e h =
    let other : stops.TooNested ≡ stops.Unsupported at byte → ⊥ = λ f. cc in (
      stopped bytes body _ (tag_of_section at byte) e h,
      no_component bytes body _ e h,
      λ w. other (stops_once bytes body _ _ depth_of_section e h w),
      subst (IsCause at byte) (sym e) (at_any_depth most_deep (record { at = 0; rest = preamble ++ body }) at byte (component_stops body (stops.Unsupported at byte) h)),
    )

pub too_nested_reaches : (bytes body : List ℕ) → bytes ≡ preamble ++ body → (whole_run body).outcome ≡ Err stops.TooNested → ReachesTooDeep bytes × IsNoComponent bytes × ((at byte : ℕ) → MeetsTag at byte bytes → ⊥)
too_nested_reaches bytes body e h =
    let other : (at byte : ℕ) → stops.Unsupported at byte ≡ stops.TooNested → ⊥ = λ at byte f. cc in
    (stopped bytes body _ depth_of_section e h, no_component bytes body _ e h, λ at byte w. other at byte (stops_once bytes body _ _ (tag_of_section at byte) e h w))

-- ---- the longest front

-- a front of the bytes that is a component ends where the sections might have ended
front_low : (bytes body : List ℕ) (n : ℕ) (t : Tree) → bytes ≡ preamble ++ body → n ≤ length bytes → SpellsReadable t (take n bytes) → n ≤ (whole_run body).good
unfolding sections
front_low bytes body n t e le spelled_so =
    let s = in_parts t (take n bytes) (shallow t (take n bytes) spelled_so) in
    let back : bytes ≡ preamble ++ (s.0 ++ drop n bytes) = sym (take-append-drop n bytes) ∙ ap (λ (z : List ℕ). z ++ drop n bytes) s.1 ∙ append_assoc preamble s.0 (drop n bytes) in
    let split : body ≡ s.0 ++ drop n bytes = body_is body (s.0 ++ drop n bytes) (sym e ∙ back) in
    let w = run_longest (sections inside) exact_inside s.2.0 (length body) End 0 8 body s.0 (drop n bytes) (omega arith) (omega arith) (s.2.1, split, refl) in
    omega (arith, w, length-take n bytes, long (take n bytes) s.0 s.1)

good_front : (bytes body : List ℕ) → bytes ≡ preamble ++ body → ((whole_run body).good ≡ 0) ⊎ ((t : Tree) × SpellsReadable t (take (whole_run body).good bytes))
unfolding sections
good_front bytes body e =
    elim (run_good (sections inside) exact_inside (length body) End 0 8 body) [
      | inl w ↦ inl w
      | inr w ↦
          let text = w.1 in
          let t = built (sections inside) End w.0 in
          let split : bytes ≡ (preamble ++ text) ++ w.2 = e ∙ ap (λ (z : List ℕ). preamble ++ z) w.3.1 ∙ sym (append_assoc preamble text w.2) in
          let front : take (whole_run body).good bytes ≡ preamble ++ text = ap (λ (n : ℕ). take n bytes) w.4 ∙ ap (take (8 + length text)) split ∙ take_at (preamble ++ text) w.2 (8 + length text) (length-append preamble text) in
          inr (t, readable t (take (whole_run body).good bytes) (from_parts t (take (whole_run body).good bytes) (text, front, (w.0, w.3.0, refl, refl))))
    ]

pub malformed_is_longest : (bytes body : List ℕ) (good : ℕ) → bytes ≡ preamble ++ body → whole_run body ≡ record { good = good; outcome = Err stops.Malformed }
    → IsLongest good bytes × IsNoComponent bytes × ((at byte : ℕ) → MeetsTag at byte bytes → ⊥) × (ReachesTooDeep bytes → ⊥)
malformed_is_longest bytes body good e h =
    let good-is : (whole_run body).good ≡ good = ap (λ (r : Run Tree). r.good) h in
    let failed : (whole_run body).outcome ≡ Err stops.Malformed = ap (λ (r : Run Tree). r.outcome) h in (
      (
        subst (λ (n : ℕ). (n ≡ 0) ⊎ ((t : Tree) × SpellsReadable t (take n bytes))) good-is (good_front bytes body e),
        λ n t le s. omega (arith, front_low bytes body n t e le s, good-is),
      ),
      no_component bytes body stops.Malformed e failed,
      λ at byte w. (tag_of_section at byte).other (stops_once bytes body _ _ (tag_of_section at byte) e failed w),
      λ w. depth_of_section.other (stops_once bytes body _ _ depth_of_section e failed w),
    )

pub none_without_preamble : (bytes : List ℕ) → ((rest : List ℕ) → bytes ≡ preamble ++ rest → ⊥) → IsLongest 0 bytes × IsNoComponent bytes × ((at byte : ℕ) → MeetsTag at byte bytes → ⊥) × (ReachesTooDeep bytes → ⊥)
none_without_preamble bytes never = (
  (inl refl, λ n t le h. let s = in_parts t (take n bytes) (shallow t (take n bytes) h) in absurd (never (s.0 ++ drop n bytes) (sym (take-append-drop n bytes) ∙ ap (λ (z : List ℕ). z ++ drop n bytes) s.1 ∙ append_assoc preamble s.0 (drop n bytes)))),
  λ t h. let s = in_parts t bytes (shallow t bytes h) in never s.0 s.1,
  λ at byte w. never (w.1 ++ w.2) w.3,
  λ w. never (w.1 ++ w.2) w.3,
)

-- ---- the preamble

-- taking the preamble from bytes
abbrev pub taken : List ℕ → Result (Unit {0} × Place) Stop
taken bytes = (fixed {A = Unit {0}} preamble tt).read (record { at = 0; rest = bytes })

pub front_taken : (bytes : List ℕ) (r : Result (Unit {0}) Stop) (c : Cursor) → is_err r ≡ false → Gives r c (taken bytes) → (bytes ≡ preamble ++ rest c) × (c.at ≡ 8)
front_taken bytes (Ok u) c h e =
    let w = (exact_fixed {A = Unit {0}} preamble tt).found (record { at = 0; rest = bytes }) (u, place c) e in
    (w.2.parts ∙ ap (λ (z : List ℕ). z ++ rest c) w.1.1, w.2.moved ∙ ap (λ (z : List ℕ). 0 + length z) w.1.1)
front_taken bytes (Err d) c h e = absurd cc

pub no_front : (bytes : List ℕ) (r : Result (Unit {0}) Stop) (c : Cursor) → is_err r ≡ true → Gives r c (taken bytes) → (more : List ℕ) → bytes ≡ preamble ++ more → ⊥
no_front bytes (Ok u) c h e more split = absurd cc
no_front bytes (Err d) c h e more split =
    let again = (exact_fixed {A = Unit {0}} preamble tt).again tt preamble 0 more (refl {a = tt}, refl {a = preamble}) in
    err_not_ok (taken bytes) (tt, record { at = 0 + length preamble; rest = more }) d (ap taken split ∙ again) e

-- a run from after the preamble is the whole run
pub from_start : (body : List ℕ) (r : Run Tree) (at : ℕ) → at ≡ 8 → run (sections inside) (length body) End 0 at body ≡ r → whole_run body ≡ r
from_start body r at far h = ap (λ (n : ℕ). run (sections inside) (length body) End 0 n body) (sym far) ∙ h

pub outcome_of : (r : Run Tree) (good : ℕ) (x : Result Tree Stop) → r ≡ record { good = good; outcome = x } → r.outcome ≡ x
outcome_of r good x e = ap (λ (y : Run Tree). y.outcome) e

pub ran_err : (d e : Stop) (good : ℕ) (r : Run Tree) → d ≡ e → (e ≡ stops.NoMemory → ⊥) → Ran {S = Tree} (Err d) good r → r ≡ record { good = good; outcome = Err e }
ran_err stops.NoMemory e good r h other t = absurd (other (sym h))
ran_err stops.Malformed e good r h other t = t ∙ ap (λ (d : Stop). record { good = good; outcome = Err d }) h
ran_err stops.TooNested e good r h other t = t ∙ ap (λ (d : Stop). record { good = good; outcome = Err d }) h
ran_err (stops.Unsupported a b) e good r h other t = t ∙ ap (λ (d : Stop). record { good = good; outcome = Err d }) h
