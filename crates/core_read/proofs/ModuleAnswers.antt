-- What reading the sections of a module gives says whether its bytes are a module.
use Rattle.std.proofs.Common.{◌≡◌, ℕ, ◌+◌, ◌≤◌, true, false, List, [], ◌++◌, length, take, drop, Result, Ok, Err, is_err, ◌⊎◌, refl, sym, ap, subst, ◌∙◌, append_assoc, arith, inl, inr}
use Rattle.std.proofs.lemmas.List.{length-append, length-take, take-append-drop, take_at, drop_at}
use Rattle.wasm_format.specs.declared.stop.Stop.{Stop}
use Rattle.wasm_format.specs.declared.stop.Stop.TheVariants as stops
use Rattle.wasm_ast.specs.declared.module.Module.{Module}
use Rattle.virt_base.specs.declared.cursor.Cursor.{Cursor}
use Rattle.virt_base.specs.Place.{Place, Gives, rest, place}
use Rattle.wasm_format.specs.Format.{fixed}
use Rattle.wasm_format.proofs.Laws.{exact_fixed, ok_is}
use Rattle.wasm_format.specs.Sections.{SectionsSpell, built, SpellsTo, Run, run, Ran}
use Rattle.wasm_ast.specs.Modules.{Progress, preamble, sections, no_sections, all_sections, core_module, SpellsModule}
use Rattle.format_causes.proofs.ModuleCauses.{caused_core_module}
use Rattle.core_read.specs.Answers.{MeetsTag, IsLongest, IsNoModule, IsCause, IsTheModule}
use Rattle.wasm_format.proofs.SectionLaws.{run_ok, run_unsupported, run_good, run_longest, run_all, run_tag}
use Rattle.wasm_ast.proofs.ModuleLaws.{exact_sections, exact_core_module}

abbrev pub whole_run : List ℕ → List ℕ → Run Progress
whole_run bytes body = run sections (length body) no_sections 0 8 body

-- a spelling of a module, in its parts
abbrev pub Spelled : Module → List ℕ → Type 0
Spelled m text = (body : List ℕ) × (t : Progress) × (text ≡ preamble ++ body) × SpellsTo sections no_sections 8 t body × (m ≡ t.found)

pub in_parts : (m : Module) (text : List ℕ) → SpellsModule m text → Spelled m text
unfolding core_module all_sections
in_parts m text s =
    let pair = s.2 in
    let split : text ≡ preamble ++ pair.1 = pair.4 ∙ ap (λ (x : List ℕ). x ++ pair.1) pair.2.1 in
    (pair.1, s.0.1, split, subst (λ (x : List ℕ). SpellsTo sections no_sections (0 + length x) s.0.1 pair.1) pair.2.1 pair.3, s.1)

pub from_parts : (m : Module) (text : List ℕ) → Spelled m text → SpellsModule m text
unfolding core_module all_sections
from_parts m text s = ((tt, s.1), s.4, (preamble, s.0, (refl {a = tt}, refl {a = preamble}), s.3, s.2))

-- after the preamble stands one body
body_is : (body other : List ℕ) → preamble ++ body ≡ preamble ++ other → body ≡ other
body_is body other e = sym (drop_at preamble body 8 refl) ∙ ap (drop 8) e ∙ drop_at preamble other 8 refl

long : (bytes body : List ℕ) → bytes ≡ preamble ++ body → length bytes ≡ 8 + length body
long bytes body e = ap length e ∙ length-append preamble body

err_not_ok : {A : Type 0} (r : Result A Stop) (x : A) (d : Stop) → r ≡ Ok x → r ≡ Err d → ⊥
err_not_ok r x d e h = cc

-- a stop that is no tag
abbrev pub IsNoTag : Stop → Type 0
IsNoTag stop = (a byte : ℕ) → stop ≡ stops.Unsupported a byte → ⊥

err_is : {A : Type 0} (r : Result A Stop) (c d : Stop) → r ≡ Err c → r ≡ Err d → d ≡ c
err_is r c d e h = cc

spelled_is_ok : (bytes body : List ℕ) (m : Module) → bytes ≡ preamble ++ body → SpellsModule m bytes → (t : Progress) × ((whole_run bytes body).outcome ≡ Ok t)
spelled_is_ok bytes body m e spelled_so =
    let s = in_parts m bytes spelled_so in
    let same : s.0 ≡ body = body_is s.0 body (sym s.2 ∙ e) in
    let parts = s.3.0 in
    let spelled : SectionsSpell sections no_sections 8 parts body = subst (λ (z : List ℕ). SectionsSpell sections no_sections 8 parts z) same s.3.1 in
    let may : sections.can_end (built sections no_sections parts) ≡ true = ap sections.can_end s.3.2 ∙ s.3.3 in
    (built sections no_sections parts, run_all sections exact_sections parts (length body) no_sections 0 8 body (omega (arith, long bytes body e)) spelled may)

ok_spells : (bytes body : List ℕ) (t : Progress) → bytes ≡ preamble ++ body → (whole_run bytes body).outcome ≡ Ok t → SpellsModule t.found bytes
ok_spells bytes body t e h = from_parts t.found bytes (body, t, e, run_ok sections exact_sections (length body) no_sections 0 8 body t h, refl)

-- no bytes spell two modules
only_one : (m n : Module) (text : List ℕ) → SpellsModule m text → SpellsModule n text → n ≡ m
only_one m n text s t =
    let e = ok_is (n, record { at = 0 + length text; rest = [] }) (m, record { at = 0 + length text; rest = [] }) (sym (exact_core_module.again n text 0 t) ∙ exact_core_module.again m text 0 s) in
    ap (λ (x : Module × Place). x.0) e

pub ok_is_the_module : (bytes body : List ℕ) (t : Progress) → bytes ≡ preamble ++ body → (whole_run bytes body).outcome ≡ Ok t → IsTheModule t.found bytes
ok_is_the_module bytes body t e h = let s = ok_spells bytes body t e h in (s, λ n other. only_one t.found n bytes s other)

-- what stops the run stops the format's own reading
module_stops : (bytes body : List ℕ) (stop : Stop) → (whole_run bytes body).outcome ≡ Err stop → core_module.read (record { at = 0; rest = preamble ++ body }) ≡ Err stop
unfolding core_module all_sections
module_stops bytes body stop h = rw h refl

pub unsupported_meets : (bytes body : List ℕ) (a byte : ℕ) → bytes ≡ preamble ++ body → (whole_run bytes body).outcome ≡ Err (stops.Unsupported a byte) → MeetsTag a byte bytes × IsNoModule bytes × IsCause a byte bytes
unfolding sections
unsupported_meets bytes body a byte e h =
    let w = run_unsupported sections exact_sections (length body) no_sections 0 8 body a byte h in (
      (w.0, w.1, w.2, e ∙ ap (λ (z : List ℕ). preamble ++ z) w.4, w.3, w.5),
      λ m s. let k = spelled_is_ok bytes body m e s in err_not_ok (whole_run bytes body).outcome k.0 (stops.Unsupported a byte) k.1 h,
      subst (IsCause a byte) (sym e) (caused_core_module.caused (record { at = 0; rest = preamble ++ body }) a byte (module_stops bytes body (stops.Unsupported a byte) h)),
    )

-- a front of the bytes that is a module ends where the sections might have ended
front_low : (bytes body : List ℕ) (n : ℕ) (m : Module) → bytes ≡ preamble ++ body → n ≤ length bytes → SpellsModule m (take n bytes) → n ≤ (whole_run bytes body).good
front_low bytes body n m e le spelled_so =
    let s = in_parts m (take n bytes) spelled_so in
    let back : bytes ≡ preamble ++ (s.0 ++ drop n bytes) = sym (take-append-drop n bytes) ∙ ap (λ (z : List ℕ). z ++ drop n bytes) s.2 ∙ append_assoc preamble s.0 (drop n bytes) in
    let split : body ≡ s.0 ++ drop n bytes = body_is body (s.0 ++ drop n bytes) (sym e ∙ back) in
    let may : sections.can_end (built sections no_sections s.3.0) ≡ true = ap sections.can_end s.3.2 ∙ s.3.3 in
    let w = run_longest sections exact_sections s.3.0 (length body) no_sections 0 8 body s.0 (drop n bytes) (omega arith) (omega (arith, long bytes body e)) (s.3.1, split, may) in
    omega (arith, w, length-take n bytes, long (take n bytes) s.0 s.2)

good_front : (bytes body : List ℕ) → bytes ≡ preamble ++ body → ((whole_run bytes body).good ≡ 0) ⊎ ((m : Module) × SpellsModule m (take (whole_run bytes body).good bytes))
good_front bytes body e =
    elim (run_good sections exact_sections (length body) no_sections 0 8 body) [
      | inl w ↦ inl w
      | inr w ↦
          let text = w.1 in
          let t = built sections no_sections w.0 in
          let split : bytes ≡ (preamble ++ text) ++ w.2 = e ∙ ap (λ (z : List ℕ). preamble ++ z) w.3.1 ∙ sym (append_assoc preamble text w.2) in
          let front : take (whole_run bytes body).good bytes ≡ preamble ++ text = ap (λ (n : ℕ). take n bytes) w.4 ∙ ap (take (8 + length text)) split ∙ take_at (preamble ++ text) w.2 (8 + length text) (length-append preamble text) in
          inr (t.found, from_parts t.found (take (whole_run bytes body).good bytes) (text, t, front, (w.0, w.3.0, refl, w.3.2), refl))
    ]

pub malformed_is_longest : (bytes body : List ℕ) (good : ℕ) (stop : Stop) → IsNoTag stop → bytes ≡ preamble ++ body → whole_run bytes body ≡ record { good = good; outcome = Err stop }
    → IsLongest good bytes × IsNoModule bytes × ((a byte : ℕ) → MeetsTag a byte bytes → ⊥)
unfolding sections
malformed_is_longest bytes body good stop no_tag e h =
    let good-is : (whole_run bytes body).good ≡ good = ap (λ (r : Run Progress). r.good) h in
    let failed : (whole_run bytes body).outcome ≡ Err stop = ap (λ (r : Run Progress). r.outcome) h in (
      (
        subst (λ (n : ℕ). (n ≡ 0) ⊎ ((m : Module) × SpellsModule m (take n bytes))) good-is (good_front bytes body e),
        λ n m le s. omega (arith, front_low bytes body n m e le s, good-is),
      ),
      λ m s. let k = spelled_is_ok bytes body m e s in err_not_ok (whole_run bytes body).outcome k.0 stop k.1 failed,
      λ a byte w.
          let split : body ≡ w.1 ++ w.2 = body_is body (w.1 ++ w.2) (sym e ∙ w.3) in
          no_tag a byte (err_is (whole_run bytes body).outcome (stops.Unsupported a byte) stop (run_tag sections exact_sections w.0 (length body) no_sections 0 8 body w.1 w.2 a byte (omega (arith, long bytes body e)) w.4 split w.5) failed),
    )

pub none_without_preamble : (bytes : List ℕ) → ((rest : List ℕ) → bytes ≡ preamble ++ rest → ⊥) → IsLongest 0 bytes × IsNoModule bytes × ((a byte : ℕ) → MeetsTag a byte bytes → ⊥)
none_without_preamble bytes never = (
  (inl refl, λ n m le h. let s = in_parts m (take n bytes) h in absurd (never (s.0 ++ drop n bytes) (sym (take-append-drop n bytes) ∙ ap (λ (z : List ℕ). z ++ drop n bytes) s.2 ∙ append_assoc preamble s.0 (drop n bytes)))),
  λ m h. let s = in_parts m bytes h in never s.0 s.2,
  λ a byte w. never (w.1 ++ w.2) w.3,
)

-- ---- the preamble

-- taking the preamble from bytes
abbrev pub taken : List ℕ → Result (Unit {0} × Place) Stop
taken bytes = (fixed {A = Unit {0}} preamble tt).read (record { at = 0; rest = bytes })

pub front_taken : (bytes : List ℕ) (r : Result (Unit {0}) Stop) (c : Cursor) → is_err r ≡ false → Gives r c (taken bytes) → (bytes ≡ preamble ++ rest c) × (c.at ≡ 8)
front_taken bytes (Ok u) c h e =
    let w = (exact_fixed {A = Unit {0}} preamble tt).found (record { at = 0; rest = bytes }) (u, place c) e in
    (w.2.parts ∙ ap (λ (z : List ℕ). z ++ rest c) w.1.1, w.2.moved ∙ ap (λ (z : List ℕ). 0 + length z) w.1.1)
front_taken bytes (Err d) c h e = absurd cc

pub no_front : (bytes : List ℕ) (r : Result (Unit {0}) Stop) (c : Cursor) → is_err r ≡ true → Gives r c (taken bytes) → (more : List ℕ) → bytes ≡ preamble ++ more → ⊥
no_front bytes (Ok u) c h e more split = absurd cc
no_front bytes (Err d) c h e more split =
    let again = (exact_fixed {A = Unit {0}} preamble tt).again tt preamble 0 more (refl {a = tt}, refl {a = preamble}) in
    err_not_ok (taken bytes) (tt, record { at = 0 + length preamble; rest = more }) d (ap taken split ∙ again) e

-- a run from the first state is the whole run
pub from_start : (bytes body : List ℕ) (r : Run Progress) (s : Progress) (at : ℕ) → s ≡ no_sections → at ≡ 8 → run sections (length body) s 0 at body ≡ r → whole_run bytes body ≡ r
from_start bytes body r s at e far h = ap (λ (s : Progress). run sections (length body) s 0 8 body) (sym e) ∙ ap (λ (n : ℕ). run sections (length body) s 0 n body) (sym far) ∙ h

pub outcome_of : (r : Run Progress) (good : ℕ) (x : Result Progress Stop) → r ≡ record { good = good; outcome = x } → r.outcome ≡ x
outcome_of r good x e = ap (λ (y : Run Progress). y.outcome) e

pub ran_err : (d e : Stop) (good : ℕ) (r : Run Progress) → d ≡ e → (e ≡ stops.NoMemory → ⊥) → Ran {S = Progress} (Err d) good r → r ≡ record { good = good; outcome = Err e }
ran_err stops.NoMemory e good r h other t = absurd (other (sym h))
ran_err stops.Malformed e good r h other t = t ∙ ap (λ (d : Stop). record { good = good; outcome = Err d }) h
ran_err (stops.Unsupported a b) e good r h other t = t ∙ ap (λ (d : Stop). record { good = good; outcome = Err d }) h
ran_err stops.TooNested e good r h other t = t ∙ ap (λ (d : Stop). record { good = good; outcome = Err d }) h
