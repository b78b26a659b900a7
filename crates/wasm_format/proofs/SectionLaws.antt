-- Reading sections to the end finds those that the bytes spell, and else the longest part of the bytes at which they might have ended.
use Rattle.std.proofs.Common.{◌≡◌, ℕ, zero, suc, ◌+◌, ◌≤◌, Bool, true, false, cond, List, [], ◌∷◌, ◌++◌, length, Result, Ok, Err, ◌⊎◌, refl, sym, ap, subst, ◌∙◌, append_assoc, arith, inl, inr}
use Rattle.std.proofs.lemmas.List.{length-append, append-nil}
use Rattle.wasm_format.specs.declared.stop.Stop.{Stop}
use Rattle.wasm_format.specs.declared.stop.Stop.TheVariants.{Malformed, Unsupported}
use Rattle.virt_base.specs.Place.{Place}
use Rattle.wasm_format.specs.Sections.{Sections, SectionsSpell, built, SpellsTo, Run, after_part, good_at, run, ended, PartsFit, write_parts, to_the_end}
use Rattle.wasm_format.proofs.Laws.{after, Stands, IsExact, IsExactToEnd, ok_is}

pub record AreExact {S P : Type 0} (G : Sections S P) : Type 0 where
  pub exact : (s : S) → IsExact (G.form s)
  pub nonempty : (s : S) (at : ℕ) (part : P) → (G.form s).Spells at part [] → ⊥
  pub no_tag : (s : S) (at a byte : ℕ) → (G.form s).read (record { at = at; rest = [] }) ≡ Err (Unsupported a byte) → ⊥

-- the sections of a front of the bytes, where they may end
abbrev pub Front : {S P : Type 0} → Sections S P → S → ℕ → List ℕ → List P → List ℕ → List ℕ → Type 0
Front G s at rest parts text more = SectionsSpell G s at parts text × (rest ≡ text ++ more) × (G.can_end (built G s parts) ≡ true)

end_ok : {S : Type 0} (b : Bool) (s t : S) → cond b (Ok s) (Err Malformed) ≡ Ok t → (b ≡ true) × (s ≡ t)
end_ok true s t e = (refl, ok_is s t e)
end_ok false s t e = absurd cc

end_err : {S : Type 0} (b : Bool) (s : S) (at byte : ℕ) → cond b (Ok s) (Err Malformed) ≡ Err (Unsupported at byte) → ⊥
end_err true s at byte e = cc
end_err false s at byte e = cc

part_ok : {S P : Type 0} (good : ℕ) (r : Result (P × Place) Stop) (f : P × Place → Run S) (t : S) → (after_part good r f).outcome ≡ Ok t → (x : P × Place) × (r ≡ Ok x) × ((f x).outcome ≡ Ok t)
part_ok good (Ok x) f t e = (x, refl, e)
part_ok good (Err d) f t e = absurd cc

abbrev err_of : {A : Type 0} → Stop → Result A Stop
err_of c = Err c

same_err : {A : Type 0} (c d : Stop) → err_of {A = A} c ≡ err_of d → c ≡ d
same_err c d e = cc

part_err : {S P : Type 0} (good : ℕ) (r : Result (P × Place) Stop) (f : P × Place → Run S) (d : Stop) → (after_part good r f).outcome ≡ Err d → (r ≡ Err d) ⊎ ((x : P × Place) × (r ≡ Ok x) × ((f x).outcome ≡ Err d))
part_err good (Ok x) f d e = inr (x, refl, e)
part_err good (Err c) f d e = inl (ap (λ (y : Stop). Err y) (same_err c d e))

part_good : {S P : Type 0} (good : ℕ) (r : Result (P × Place) Stop) (f : P × Place → Run S) → ((after_part good r f).good ≡ good) ⊎ ((x : P × Place) × (r ≡ Ok x) × ((after_part good r f).good ≡ (f x).good))
part_good good (Ok x) f = inr (x, refl, refl)
part_good good (Err c) f = inl refl

-- a run that ended well did so in a state where the sections may end, and the bytes spell the sections up to it
pub run_ok : {S P : Type 0} (G : Sections S P) → AreExact G → (fuel : ℕ) (s : S) (good at : ℕ) (rest : List ℕ) (t : S) → (run G fuel s good at rest).outcome ≡ Ok t → SpellsTo G s at t rest
unfolding run
run_ok G g fuel s good at [] t e =
    let w = end_ok (G.can_end s) s t e in
    ([], refl, w.1, subst (λ (u : _). G.can_end u ≡ true) w.1 w.0)
run_ok G g zero s good at (b ∷ rest) t e = absurd cc
run_ok {S} {P} G g (suc fuel) s good at (b ∷ rest) t e =
    let x = part_ok (good_at G s good at) ((G.form s).read (record { at = at; rest = b ∷ rest })) (λ x. run G fuel (G.next s x.0) (good_at G s good at) x.1.at x.1.rest) t e in
    let st = (g.exact s).found (record { at = at; rest = b ∷ rest }) x.0 x.1 in
    let ih = run_ok G g fuel (G.next s x.0.0) (good_at G s good at) x.0.1.at x.0.1.rest t x.2 in
    (x.0.0 ∷ ih.0, (st.0, x.0.1.rest, st.1, subst (λ (k : ℕ). SectionsSpell G (G.next s x.0.0) k ih.0 x.0.1.rest) st.2.moved ih.1, st.2.parts), ih.2, ih.3)

-- the sections of a front of the bytes, and what follows them
abbrev pub Then : {S P : Type 0} → Sections S P → S → ℕ → List ℕ → List P → List ℕ → List ℕ → Type 0
Then G s at rest parts text more = SectionsSpell G s at parts text × (rest ≡ text ++ more)

-- a run that met a tag met it in the section after those that the bytes spell
pub run_unsupported : {S P : Type 0} (G : Sections S P) → AreExact G → (fuel : ℕ) (s : S) (good at : ℕ) (rest : List ℕ) (a byte : ℕ) → (run G fuel s good at rest).outcome ≡ Err (Unsupported a byte)
    → (parts : List P) × (text more : List ℕ) × SectionsSpell G s at parts text × (rest ≡ text ++ more) × ((G.form (built G s parts)).read (after at text more) ≡ Err (Unsupported a byte))
unfolding run
run_unsupported G g fuel s good at [] a byte e = absurd (end_err (G.can_end s) s a byte e)
run_unsupported G g zero s good at (b ∷ rest) a byte e = absurd cc
run_unsupported {S} {P} G g (suc fuel) s good at (b ∷ rest) a byte e =
    elim (part_err (good_at G s good at) ((G.form s).read (record { at = at; rest = b ∷ rest })) (λ x. run G fuel (G.next s x.0) (good_at G s good at) x.1.at x.1.rest) (Unsupported a byte) e) [
      | inl w ↦
          let far : at ≡ at + 0 = omega arith in
          ([], [], b ∷ rest, refl, refl, ap (λ (n : ℕ). (G.form s).read (record { at = n; rest = b ∷ rest })) (sym far) ∙ w)
      | inr x ↦
          let st = (g.exact s).found (record { at = at; rest = b ∷ rest }) x.0 x.1 in
          let ih = run_unsupported G g fuel (G.next s x.0.0) (good_at G s good at) x.0.1.at x.0.1.rest a byte x.2 in
          let far : x.0.1.at + length ih.1 ≡ at + length (st.0 ++ ih.1) = omega (arith, st.2.moved, length-append st.0 ih.1) in (
            x.0.0 ∷ ih.0,
            st.0 ++ ih.1,
            ih.2,
            (st.0, ih.1, st.1, subst (λ (k : ℕ). SectionsSpell G (G.next s x.0.0) k ih.0 ih.1) st.2.moved ih.3, refl {a = st.0 ++ ih.1}),
            st.2.parts ∙ ap (λ (z : List ℕ). st.0 ++ z) ih.4 ∙ sym (append_assoc st.0 ih.1 ih.2),
            ap (λ (n : ℕ). (G.form (built G (G.next s x.0.0) ih.0)).read (record { at = n; rest = ih.2 })) (sym far) ∙ ih.5,
          )
    ]

cond_cases : (b : Bool) (x y : ℕ) → (cond b x y ≡ y) ⊎ ((b ≡ true) × (cond b x y ≡ x))
cond_cases true x y = inr (refl, refl)
cond_cases false x y = inl refl

cond_low : (b : Bool) (x y : ℕ) → y ≤ x → cond b x y ≤ x
cond_low true x y h = omega arith
cond_low false x y h = h

cond_up : (b : Bool) (x y : ℕ) → y ≤ x → y ≤ cond b x y
cond_up true x y h = h
cond_up false x y h = omega arith

good_low : {S P : Type 0} (G : Sections S P) (s : S) (good at : ℕ) → good ≤ at → good_at G s good at ≤ at
good_low G s good at h = cond_low (G.can_end s) at good h

good_up : {S P : Type 0} (G : Sections S P) (s : S) (good at : ℕ) → good ≤ at → good ≤ good_at G s good at
good_up G s good at h = cond_up (G.can_end s) at good h

good_cases : {S P : Type 0} (G : Sections S P) (s : S) (good at : ℕ) → (good_at G s good at ≡ good) ⊎ ((G.can_end s ≡ true) × (good_at G s good at ≡ at))
good_cases G s good at = cond_cases (G.can_end s) at good

good_here : {S P : Type 0} (G : Sections S P) (s : S) (good at : ℕ) (rest : List ℕ) (n : ℕ) → n ≡ good_at G s good at
    → (n ≡ good) ⊎ ((parts : List P) × (text more : List ℕ) × Front G s at rest parts text more × (n ≡ at + length text))
good_here G s good at rest n e =
    elim (good_cases G s good at) [
      | inl w ↦ inl (e ∙ w)
      | inr w ↦ inr ([], [], rest, (refl, refl, w.0), omega (arith, e, w.1))
    ]

-- the offset that a run leaves is the one that it began with, or ends sections that may end there
pub run_good : {S P : Type 0} (G : Sections S P) → AreExact G → (fuel : ℕ) (s : S) (good at : ℕ) (rest : List ℕ)
    → ((run G fuel s good at rest).good ≡ good) ⊎ ((parts : List P) × (text more : List ℕ) × Front G s at rest parts text more × ((run G fuel s good at rest).good ≡ at + length text))
unfolding run
run_good G g fuel s good at [] = good_here G s good at [] _ refl
run_good G g zero s good at (b ∷ rest) = good_here G s good at (b ∷ rest) _ refl
run_good {S} {P} G g (suc fuel) s good at (b ∷ rest) =
    let total : Run S = run G (suc fuel) s good at (b ∷ rest) in
    elim (part_good (good_at G s good at) ((G.form s).read (record { at = at; rest = b ∷ rest })) (λ x. run G fuel (G.next s x.0) (good_at G s good at) x.1.at x.1.rest)) [
      | inl w ↦ good_here G s good at (b ∷ rest) _ w
      | inr x ↦
          let st = (g.exact s).found (record { at = at; rest = b ∷ rest }) x.0 x.1 in
          elim (run_good G g fuel (G.next s x.0.0) (good_at G s good at) x.0.1.at x.0.1.rest) [
            | inl v ↦ good_here G s good at (b ∷ rest) _ (x.2 ∙ v)
            | inr v ↦ inr (
              x.0.0 ∷ v.0,
              st.0 ++ v.1,
              v.2,
              (
                (st.0, v.1, st.1, subst (λ (k : ℕ). SectionsSpell G (G.next s x.0.0) k v.0 v.1) st.2.moved v.3.0, refl {a = st.0 ++ v.1}),
                st.2.parts ∙ ap (λ (z : List ℕ). st.0 ++ z) v.3.1 ∙ sym (append_assoc st.0 v.1 v.2),
                v.3.2,
              ),
              omega (arith, x.2, v.4, st.2.moved, length-append st.0 v.1),
            )
          ]
    ]

-- a run leaves no smaller offset than one at which the sections might end now
run_least : {S P : Type 0} (G : Sections S P) → AreExact G → (fuel : ℕ) (s : S) (good at : ℕ) (rest : List ℕ) → good ≤ at → good_at G s good at ≤ (run G fuel s good at rest).good
unfolding run
run_least G g fuel s good at [] h = omega arith
run_least G g zero s good at (b ∷ rest) h = omega arith
run_least G g (suc fuel) s good at (b ∷ rest) h =
    elim (part_good (good_at G s good at) ((G.form s).read (record { at = at; rest = b ∷ rest })) (λ x. run G fuel (G.next s x.0) (good_at G s good at) x.1.at x.1.rest)) [
      | inl w ↦ omega (arith, w)
      | inr x ↦
          let st = (g.exact s).found (record { at = at; rest = b ∷ rest }) x.0 x.1 in
          let low : good_at G s good at ≤ at = good_low G s good at h in
          let le : good_at G s good at ≤ x.0.1.at = omega (arith, st.2.moved) in
          let ih = run_least G g fuel (G.next s x.0.0) (good_at G s good at) x.0.1.at x.0.1.rest le in
          let up : good_at G s good at ≤ good_at G (G.next s x.0.0) (good_at G s good at) x.0.1.at = good_up G (G.next s x.0.0) (good_at G s good at) x.0.1.at le in
          omega (arith, x.2)
    ]

-- one section further
step : {S P : Type 0} (G : Sections S P) → AreExact G → (fuel : ℕ) (s : S) (good at : ℕ) (rest : List ℕ) (part : P) (x more : List ℕ) → (G.form s).Spells at part x → rest ≡ x ++ more → length rest ≤ fuel
    → (less : ℕ) × (length more ≤ less) × (run G fuel s good at rest ≡ run G less (G.next s part) (good_at G s good at) (at + length x) more)
unfolding run
step G g fuel s good at rest part [] more h e le = absurd (g.nonempty s at part h)
step G g zero s good at rest part (b ∷ x) more h e le = absurd (omega (arith, ap length e))
step G g (suc fuel) s good at rest part (b ∷ x) more h e le =
    (fuel, omega (arith, ap length e, length-append x more), rw (e, (g.exact s).again part (b ∷ x) at more h) refl)

pub run_longest : {S P : Type 0} (G : Sections S P) → AreExact G → (parts : List P) (fuel : ℕ) (s : S) (good at : ℕ) (rest text more : List ℕ) → good ≤ at → length rest ≤ fuel → Front G s at rest parts text more
    → at + length text ≤ (run G fuel s good at rest).good
run_longest G g [] fuel s good at rest text more low le f =
    let here : good_at G s good at ≡ at = ap (λ (b : Bool). cond b at good) f.2 in
    omega (arith, run_least G g fuel s good at rest low, here, ap length f.0)
run_longest G g (part ∷ parts) fuel s good at rest text more low le f =
    let x = f.0.0 in let y = f.0.1 in
    let e : rest ≡ x ++ (y ++ more) = f.1 ∙ ap (λ (z : List ℕ). z ++ more) f.0.4 ∙ append_assoc x y more in
    let w = step G g fuel s good at rest part x (y ++ more) f.0.2 e le in
    let low' : good_at G s good at ≤ at + length x = omega (arith, good_low G s good at low) in
    let ih = run_longest G g parts w.0 (G.next s part) (good_at G s good at) (at + length x) (y ++ more) y more low' w.1 (f.0.3, refl, f.2) in
    omega (arith, ih, ap (λ (r : Run _). r.good) w.2, ap length f.0.4, length-append x y)

-- what is spelled is read
pub run_all : {S P : Type 0} (G : Sections S P) → AreExact G → (parts : List P) (fuel : ℕ) (s : S) (good at : ℕ) (rest : List ℕ) → length rest ≤ fuel → SectionsSpell G s at parts rest → G.can_end (built G s parts) ≡ true
    → (run G fuel s good at rest).outcome ≡ Ok (built G s parts)
unfolding run
run_all G g [] fuel s good at rest le h may = rw (h, may) refl
run_all G g (part ∷ parts) fuel s good at rest le h may =
    let w = step G g fuel s good at rest part h.0 h.1 h.2 h.4 le in
    ap (λ (r : Run _). r.outcome) w.2 ∙ run_all G g parts w.0 (G.next s part) (good_at G s good at) (at + length h.0) h.1 w.1 h.3 may

tag_here : {S P : Type 0} (G : Sections S P) → AreExact G → (fuel : ℕ) (s : S) (good at : ℕ) (rest : List ℕ) (a byte : ℕ) → length rest ≤ fuel → (G.form s).read (record { at = at; rest = rest }) ≡ Err (Unsupported a byte)
    → (run G fuel s good at rest).outcome ≡ Err (Unsupported a byte)
unfolding run
tag_here G g fuel s good at [] a byte le h = absurd (g.no_tag s at a byte h)
tag_here G g zero s good at (b ∷ rest) a byte le h = absurd (omega (arith, le))
tag_here G g (suc fuel) s good at (b ∷ rest) a byte le h = rw h refl

-- a tag after sections that are spelled is met
pub run_tag : {S P : Type 0} (G : Sections S P) → AreExact G → (parts : List P) (fuel : ℕ) (s : S) (good at : ℕ) (rest text more : List ℕ) (a byte : ℕ) → length rest ≤ fuel → SectionsSpell G s at parts text → rest ≡ text ++ more
    → (G.form (built G s parts)).read (after at text more) ≡ Err (Unsupported a byte) → (run G fuel s good at rest).outcome ≡ Err (Unsupported a byte)
unfolding run
run_tag G g [] fuel s good at rest text more a byte le h e t =
    let far : at + 0 ≡ at = omega arith in
    tag_here G g fuel s good at rest a byte le (ap (λ (z : List ℕ). (G.form s).read (record { at = at; rest = z })) (e ∙ ap (λ (z : List ℕ). z ++ more) h) ∙ ap (λ (n : ℕ). (G.form s).read (record { at = n; rest = more })) (sym far)
    ∙ ap (λ (z : List ℕ). (G.form s).read (after at z more)) (sym h) ∙ t)
run_tag G g (part ∷ parts) fuel s good at rest text more a byte le h e t =
    let x = h.0 in let y = h.1 in
    let split : rest ≡ x ++ (y ++ more) = e ∙ ap (λ (z : List ℕ). z ++ more) h.4 ∙ append_assoc x y more in
    let w = step G g fuel s good at rest part x (y ++ more) h.2 split le in
    let far : at + length x + length y ≡ at + length text = omega (arith, ap length h.4, length-append x y) in
    ap (λ (r : Run _). r.outcome) w.2 ∙ run_tag G g parts w.0 (G.next s part) (good_at G s good at) (at + length x) (y ++ more) y more a byte w.1 h.3 refl
    (ap (λ (n : ℕ). (G.form (built G (G.next s part) parts)).read (record { at = n; rest = more })) far ∙ t)

-- ---- the sections that follow a place, as one value

ended_ok : {S : Type 0} (p : Place) (r : Result S Stop) (a : S × Place) → ended p r ≡ Ok a → (t : S) × (r ≡ Ok t) × ((t, record { at = p.at + length p.rest; rest = [] }) ≡ a)
ended_ok p (Ok t) a e = (t, refl, ok_is (t, record { at = p.at + length p.rest; rest = [] }) a e)
ended_ok p (Err d) a e = absurd cc

parts_written : {S P : Type 0} (G : Sections S P) → AreExact G → (parts : List P) (s : S) (at : ℕ) → PartsFit G s parts → SectionsSpell G s at parts (write_parts G s parts)
parts_written G g [] s at h = refl
parts_written G g (part ∷ parts) s at h =
    ((G.form s).write part, write_parts G (G.next s part) parts, (g.exact s).written part at h.0, parts_written G g parts (G.next s part) (at + length ((G.form s).write part)) h.1, refl)

pub exact_to_the_end : {S P : Type 0} (G : Sections S P) (s : S) (parts_of : S → List P) → AreExact G → IsExactToEnd (to_the_end G s parts_of)
exact_to_the_end {S} {P} G s parts_of g = record {
  found = λ p a e.
      let w = ended_ok p (run G (length p.rest) s 0 p.at p.rest).outcome a e in
      subst (λ (y : S × Place). Stands (to_the_end G s parts_of) p y) w.2
      (p.rest, run_ok G g (length p.rest) s 0 p.at p.rest w.0 w.1, record { parts = sym (append-nil p.rest); moved = refl });
  again = λ t text at h.
      let w = run_all G g h.0 (length text) s 0 at text (omega arith) h.1 (ap G.can_end h.2 ∙ h.3) in
      ap (ended (record { at = at; rest = text })) (w ∙ ap (λ (x : S). Ok x) h.2);
  written = λ t at h. (parts_of t, parts_written G g (parts_of t) s at h.0, h.1, h.2);
}
