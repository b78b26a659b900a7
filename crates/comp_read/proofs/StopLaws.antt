-- Reading sections stops in the section after those that are spelled. The laws hold of each stop that only a section gives.
use Rattle.std.proofs.Common.{◌≡◌, ℕ, zero, suc, ◌+◌, ◌≤◌, Bool, true, false, cond, List, [], ◌∷◌, ◌++◌, length, Result, Ok, Err, ◌⊎◌, refl, sym, ap, subst, ◌∙◌, append_assoc, arith, inl, inr}
use Rattle.std.proofs.lemmas.List.{length-append}
use Rattle.wasm_format.specs.declared.stop.Stop.{Stop}
use Rattle.wasm_format.specs.declared.stop.Stop.TheVariants.{Malformed}
use Rattle.virt_base.specs.Place.{Place}
use Rattle.wasm_format.specs.Sections.{Sections, SectionsSpell, built, Run, after_part, good_at, run}
use Rattle.wasm_format.proofs.Laws.{after}
use Rattle.wasm_format.proofs.SectionLaws.{AreExact}

-- a stop that a section alone gives, where bytes are left
pub record IsOfSection {S P : Type 0} (G : Sections S P) (stop : Stop) : Type 0 where
  pub other : stop ≡ Malformed → ⊥
  pub not_at_end : (s : S) (at : ℕ) → (G.form s).read (record { at = at; rest = [] }) ≡ Err stop → ⊥

abbrev err_of : {A : Type 0} → Stop → Result A Stop
err_of d = Err d

same_err : {A : Type 0} (c d : Stop) → err_of {A = A} c ≡ err_of d → c ≡ d
same_err c d e = cc

ok_is_no_err : {A : Type 0} (x : A) (d : Stop) → Ok x ≡ err_of d → ⊥
ok_is_no_err x d e = cc

end_err : {S : Type 0} (b : Bool) (s : S) (d : Stop) → (d ≡ Malformed → ⊥) → cond b (Ok s) (Err Malformed) ≡ err_of d → ⊥
end_err true s d other e = ok_is_no_err s d e
end_err {S} false s d other e = other (sym (same_err {A = S} Malformed d e))

part_err : {S P : Type 0} (good : ℕ) (r : Result (P × Place) Stop) (f : P × Place → Run S) (d : Stop) → (after_part good r f).outcome ≡ Err d → (r ≡ Err d) ⊎ ((x : P × Place) × (r ≡ Ok x) × ((f x).outcome ≡ Err d))
part_err good (Ok x) f d e = inr (x, refl, e)
part_err good (Err c) f d e = inl (ap (λ (y : Stop). Err y) (same_err c d e))

-- a run that stopped so did it in the section after those that the bytes spell
pub run_stopped : {S P : Type 0} (G : Sections S P) → AreExact G → (stop : Stop) → IsOfSection G stop → (fuel : ℕ) (s : S) (good at : ℕ) (rest : List ℕ) → (run G fuel s good at rest).outcome ≡ Err stop
    → (parts : List P) × (text more : List ℕ) × SectionsSpell G s at parts text × (rest ≡ text ++ more) × ((G.form (built G s parts)).read (after at text more) ≡ Err stop)
unfolding run
run_stopped G g stop of fuel s good at [] e = absurd (end_err (G.can_end s) s stop of.other e)
run_stopped {S} G g stop of zero s good at (b ∷ rest) e = absurd (of.other (sym (same_err {A = S} Malformed stop e)))
run_stopped {S} {P} G g stop of (suc fuel) s good at (b ∷ rest) e =
    elim (part_err (good_at G s good at) ((G.form s).read (record { at = at; rest = b ∷ rest })) (λ x. run G fuel (G.next s x.0) (good_at G s good at) x.1.at x.1.rest) stop e) [
      | inl w ↦
          let far : at ≡ at + 0 = omega arith in
          ([], [], b ∷ rest, refl, refl, ap (λ (n : ℕ). (G.form s).read (record { at = n; rest = b ∷ rest })) (sym far) ∙ w)
      | inr x ↦
          let st = (g.exact s).found (record { at = at; rest = b ∷ rest }) x.0 x.1 in
          let ih = run_stopped G g stop of fuel (G.next s x.0.0) (good_at G s good at) x.0.1.at x.0.1.rest x.2 in
          let far : x.0.1.at + length ih.1 ≡ at + length (st.0 ++ ih.1) = omega (arith, st.2.moved, length-append st.0 ih.1) in (
            x.0.0 ∷ ih.0,
            st.0 ++ ih.1,
            ih.2,
            (st.0, ih.1, st.1, subst (λ (k : ℕ). SectionsSpell G (G.next s x.0.0) k ih.0 ih.1) st.2.moved ih.3, refl {a = st.0 ++ ih.1}),
            st.2.parts ∙ ap (λ (z : List ℕ). st.0 ++ z) ih.4 ∙ sym (append_assoc st.0 ih.1 ih.2),
            ap (λ (n : ℕ). (G.form (built G (G.next s x.0.0) ih.0)).read (record { at = n; rest = ih.2 })) (sym far) ∙ ih.5,
          )
    ]

-- one section further
further : {S P : Type 0} (G : Sections S P) → AreExact G → (fuel : ℕ) (s : S) (good at : ℕ) (rest : List ℕ) (part : P) (x more : List ℕ) → (G.form s).Spells at part x → rest ≡ x ++ more → length rest ≤ fuel
    → (less : ℕ) × (length more ≤ less) × (run G fuel s good at rest ≡ run G less (G.next s part) (good_at G s good at) (at + length x) more)
unfolding run
further G g fuel s good at rest part [] more h e le = absurd (g.nonempty s at part h)
further G g zero s good at rest part (b ∷ x) more h e le = absurd (omega (arith, ap length e))
further G g (suc fuel) s good at rest part (b ∷ x) more h e le =
    (fuel, omega (arith, ap length e, length-append x more), rw (e, (g.exact s).again part (b ∷ x) at more h) refl)

stop_here : {S P : Type 0} (G : Sections S P) (stop : Stop) → IsOfSection G stop → (fuel : ℕ) (s : S) (good at : ℕ) (rest : List ℕ) → length rest ≤ fuel → (G.form s).read (record { at = at; rest = rest }) ≡ Err stop → (run G fuel s good at rest).outcome ≡ Err stop
unfolding run
stop_here G stop of fuel s good at [] le h = absurd (of.not_at_end s at h)
stop_here G stop of zero s good at (b ∷ rest) le h = absurd (omega (arith, le))
stop_here G stop of (suc fuel) s good at (b ∷ rest) le h = rw h refl

-- a stop after sections that are spelled is met
pub run_stop : {S P : Type 0} (G : Sections S P) → AreExact G → (stop : Stop) → IsOfSection G stop → (parts : List P) (fuel : ℕ) (s : S) (good at : ℕ) (rest text more : List ℕ) → length rest ≤ fuel → SectionsSpell G s at parts text → rest ≡ text ++ more
    → (G.form (built G s parts)).read (after at text more) ≡ Err stop → (run G fuel s good at rest).outcome ≡ Err stop
run_stop G g stop of [] fuel s good at rest text more le h e t =
    let far : at + 0 ≡ at = omega arith in
    stop_here G stop of fuel s good at rest le (ap (λ (z : List ℕ). (G.form s).read (record { at = at; rest = z })) (e ∙ ap (λ (z : List ℕ). z ++ more) h) ∙ ap (λ (n : ℕ). (G.form s).read (record { at = n; rest = more })) (sym far)
    ∙ ap (λ (z : List ℕ). (G.form s).read (after at z more)) (sym h) ∙ t)
run_stop G g stop of (part ∷ parts) fuel s good at rest text more le h e t =
    let x = h.0 in let y = h.1 in
    let split : rest ≡ x ++ (y ++ more) = e ∙ ap (λ (z : List ℕ). z ++ more) h.4 ∙ append_assoc x y more in
    let w = further G g fuel s good at rest part x (y ++ more) h.2 split le in
    let far : at + length x + length y ≡ at + length text = omega (arith, ap length h.4, length-append x y) in
    ap (λ (r : Run _). r.outcome) w.2 ∙ run_stop G g stop of parts w.0 (G.next s part) (good_at G s good at) (at + length x) (y ++ more) y more w.1 h.3 refl
    (ap (λ (n : ℕ). (G.form (built G (G.next s part) parts)).read (record { at = n; rest = more })) far ∙ t)
