-- What is read up to the end is spelled, and what is spelled is read, whatever follows.
use Rattle.std.proofs.Common.{◌≡◌, ℕ, zero, suc, ◌+◌, ◌≤◌, Bool, true, false, cond, List, [], ◌∷◌, ◌++◌, length, Result, Ok, Err, ◌⊎◌, inl, inr, refl, ap, subst, ◌∙◌, append_assoc, arith}
use Rattle.std.proofs.lemmas.List.{length-append}
use Rattle.wasm_format.specs.declared.stop.Stop.{Stop}
use Rattle.wasm_format.specs.declared.stop.Stop.TheVariants.{Malformed}
use Rattle.virt_base.specs.Place.{Place, Takes}
use Rattle.wasm_format.specs.Format.{◌>>=◌}
use Rattle.wasm_format.specs.Sections.{Sections, write_parts}
use Rattle.wasm_format.proofs.Laws.{Takes-none, Takes-then, IsExact, before, after, bind_ok, ok_is}
use Rattle.wasm_format.proofs.SectionLaws.{AreExact}
use Rattle.wasm_format.specs.Until.{UntilSpells, read_until, UntilFits, until}

choice : {A : Type 0} (b : Bool) (x : A) (y : Result A Stop) (z : A) → cond b (Ok x) y ≡ Ok z → ((b ≡ true) × (x ≡ z)) ⊎ ((b ≡ false) × (y ≡ Ok z))
choice true x y z e = inl (refl, ok_is x z e)
choice false x y z e = inr (refl, e)

abbrev err_of : {A : Type 0} → Stop → Result A Stop
err_of d = Err d

not_ok : {A : Type 0} (d : Stop) (z : A) → err_of d ≡ Ok z → ⊥
not_ok d z e = cc

bad_choice : {A : Type 0} (b : Bool) (x z : A) → cond b (Ok x) (Err Malformed) ≡ Ok z → (b ≡ true) × (x ≡ z)
bad_choice true x z e = (refl, ok_is x z e)
bad_choice false x z e = absurd (not_ok Malformed z e)

until_found : {S P : Type 0} (G : Sections S P) → AreExact G → (fuel : ℕ) (s : S) (p : Place) (a : List P × Place) → read_until G fuel s p ≡ Ok a → (text : List ℕ) × UntilSpells G s p.at a.0 text × Takes text p a.1
unfolding read_until
until_found {S} {P} G g zero s p a e =
    let w = bad_choice (G.can_end s) ([], p) a e in
    subst (λ (y : List P × Place). (text : List ℕ) × UntilSpells G s p.at y.0 text × Takes text p y.1) w.1 ([], (w.0, refl), Takes-none p)
until_found {S} {P} G g (suc fuel) s p a e =
    elim (choice (G.can_end s) ([], p) ((G.form s).read p >>= λ a. read_until G fuel (G.next s a.0) a.1 >>= λ items. Ok (a.0 ∷ items.0, items.1)) a e) [
      | inl w ↦ subst (λ (y : List P × Place). (text : List ℕ) × UntilSpells G s p.at y.0 text × Takes text p y.1) w.1 ([], (w.0, refl), Takes-none p)
      | inr w ↦
          let x = bind_ok ((G.form s).read p) (λ a. read_until G fuel (G.next s a.0) a.1 >>= λ items. Ok (a.0 ∷ items.0, items.1)) a w.1 in
          let y = bind_ok (read_until G fuel (G.next s x.0.0) x.0.1) (λ items. Ok (x.0.0 ∷ items.0, items.1)) a x.2 in
          let st = (g.exact s).found p x.0 x.1 in
          let t = until_found G g fuel (G.next s x.0.0) x.0.1 y.0 y.1 in
          subst (λ (y : List P × Place). (text : List ℕ) × UntilSpells G s p.at y.0 text × Takes text p y.1) (ok_is (x.0.0 ∷ y.0.0, y.0.1) a y.2)
          (st.0 ++ t.0, (st.0, t.0, w.0, st.1, subst (λ (k : ℕ). UntilSpells G (G.next s x.0.0) k y.0.0 t.0) st.2.moved t.1, refl {a = st.0 ++ t.0}), Takes-then st.0 t.0 p x.0.1 y.0.1 st.2 t.2)
    ]

part_again : {S P : Type 0} (G : Sections S P) → AreExact G → (part : P) (parts : List P) (x y : List ℕ) (fuel : ℕ) (s : S) (text : List ℕ) (at : ℕ) (more : List ℕ) → length text ≤ fuel → G.can_end s ≡ false → (G.form s).Spells at part x → text ≡ x ++ y
    → ((less : ℕ) → length y ≤ less → read_until G less (G.next s part) (before (at + length x) y more) ≡ Ok (parts, after (at + length x) y more)) → read_until G fuel s (before at text more) ≡ Ok (part ∷ parts, after at text more)
unfolding read_until
part_again G g part parts [] y fuel s text at more le wide h e ih = absurd (g.nonempty s at part h)
part_again G g part parts (b ∷ x) y zero s text at more le wide h e ih = absurd (omega (arith, ap length e))
part_again {S} {P} G g part parts (b ∷ x) y (suc fuel) s text at more le wide h e ih =
    let same : before at text more ≡ before at (b ∷ x) (y ++ more) = ap (λ (z : List ℕ). record { at = at; rest = z }) (ap (λ (z : List ℕ). z ++ more) e ∙ append_assoc (b ∷ x) y more) in
    let rest = ih fuel (omega (arith, ap length e, length-append x y)) in
    let far : at + length (b ∷ x) + length y ≡ at + length text = omega (arith, ap length e, length-append (b ∷ x) y) in
    rw (same, wide, (g.exact s).again part (b ∷ x) at (y ++ more) h, rest) (ap (λ (n : ℕ). Ok (part ∷ parts, record { at = n; rest = more })) far)

until_again : {S P : Type 0} (G : Sections S P) → AreExact G → (parts : List P) (fuel : ℕ) (s : S) (text : List ℕ) (at : ℕ) (more : List ℕ) → length text ≤ fuel → UntilSpells G s at parts text → read_until G fuel s (before at text more) ≡ Ok (parts, after at text more)
unfolding read_until
until_again G g [] zero s text at more le h = rw (h.0, h.1) (ap (λ (n : ℕ). Ok ([], record { at = n; rest = more })) (omega arith))
until_again G g [] (suc fuel) s text at more le h = rw (h.0, h.1) (ap (λ (n : ℕ). Ok ([], record { at = n; rest = more })) (omega arith))
until_again G g (part ∷ parts) fuel s text at more le h =
    part_again G g part parts h.0 h.1 fuel s text at more le h.2 h.3 h.5 (λ less q. until_again G g parts less (G.next s part) h.1 (at + length h.0) more q h.4)

until_written : {S P : Type 0} (G : Sections S P) → AreExact G → (parts : List P) (s : S) (at : ℕ) → UntilFits G s parts → UntilSpells G s at parts (write_parts G s parts)
until_written G g [] s at h = (h, refl)
until_written G g (part ∷ parts) s at h =
    ((G.form s).write part, write_parts G (G.next s part) parts, h.0, (g.exact s).written part at h.1, until_written G g parts (G.next s part) (at + length ((G.form s).write part)) h.2, refl)

pub exact_until : {S P : Type 0} (G : Sections S P) (s : S) → AreExact G → IsExact (until G s)
exact_until G s g = record {
  found = λ p a e. until_found G g (length p.rest) s p a e;
  again = λ parts text at more h. until_again G g parts (length (text ++ more)) s text at more (omega (arith, length-append text more)) h;
  written = λ parts at h. until_written G g parts s at h;
}
