-- Reading sections, and items up to a state that ends them, stops at a tag for a cause.
use Rattle.std.proofs.Common.{◌≡◌, ℕ, zero, suc, ◌+◌, true, false, List, [], ◌∷◌, length, Result, Ok, Err, refl, ap, inl, inr}
use Rattle.virt_base.specs.Place.{Place}
use Rattle.wasm_format.specs.declared.stop.Stop.{Stop}
use Rattle.wasm_format.specs.declared.stop.Stop.TheVariants.{Unsupported}
use Rattle.wasm_format.specs.Format.{Format, ◌>>=◌, image}
use Rattle.wasm_format.specs.Sections.{Sections, SectionsSpell, built, SpellsTo, Run, after_part, good_at, run, ended, to_the_end}
use Rattle.wasm_format.specs.Until.{UntilSpells, read_until, until}
use Rattle.wasm_format.proofs.SectionLaws.{AreExact}
use Rattle.format_causes.specs.Causes.{Cause, IsCaused}
use Rattle.format_causes.proofs.Steps.{same_err, first_err, ok_is_no_err, not_malformed, test_never, cond_err, not_both}
use Rattle.format_causes.proofs.CauseLaws.{cause_as, never, led, caused_led, caused_image}

-- ---- items up to a state that ends them

-- at most that many
abbrev until_in : {S P : Type 0} → Sections S P → ℕ → S → Format (List P)
until_in G fuel s = record { Spells = UntilSpells G s; read = read_until G fuel s; Fits = λ parts. ⊥; write = λ parts. [] }

abbrev then_until : {S P : Type 0} → Sections S P → ℕ → S → P → Format (List P)
then_until G fuel s part = image (λ parts. part ∷ parts) (λ parts. parts) (until_in G fuel (G.next s part))

first_item : {S P : Type 0} (G : Sections S P) (fuel : ℕ) (s : S) → G.can_end s ≡ false → (at : ℕ) (parts : List P) (text : List ℕ) → UntilSpells G s at parts text → (all : List P) × (led (G.form s) (then_until G fuel s)).Spells at all text
first_item G fuel s wide at [] text h = absurd (not_both (G.can_end s) h.0 wide)
first_item G fuel s wide at (part ∷ parts) text h = (part ∷ parts, (part, h.0, h.1, h.3, (parts, refl {a = part ∷ parts}, h.4), h.5))

caused_until_in : {S P : Type 0} (G : Sections S P) → AreExact G → ((s : S) → IsCaused (G.form s)) → (fuel : ℕ) (s : S) → IsCaused (until_in G fuel s)
unfolding read_until
caused_until_in {S} {P} G g f zero s = never (until_in G zero s) (λ p at byte e. test_never {A = List P × Place} (G.can_end s) ([], p) at byte e)
caused_until_in {S} {P} G g f (suc fuel) s = record {
  caused = λ p at byte e.
      elim (cond_err (G.can_end s) (Ok ([], p)) ((led (G.form s) (then_until G fuel s)).read p) (Unsupported at byte) e) [
        | inl w ↦ absurd (ok_is_no_err {A = List P × Place} ([], p) (Unsupported at byte) w.1)
        | inr w ↦
            let form = caused_led (G.form s) (then_until G fuel s) (g.exact s) (f s) (λ part. caused_image (λ parts. part ∷ parts) (λ parts. parts) (until_in G fuel (G.next s part)) (caused_until_in G g f fuel (G.next s part))) in
            cause_as (led (G.form s) (then_until G fuel s)) (until_in G (suc fuel) s) p at byte (λ parts text n h. first_item G fuel s w.0 p.at parts text h) (form.caused p at byte w.1)
      ];
}

pub caused_until : {S P : Type 0} (G : Sections S P) (s : S) → AreExact G → ((s : S) → IsCaused (G.form s)) → IsCaused (until G s)
caused_until G s g f = record { caused = λ p at byte e. (caused_until_in G g f (length p.rest) s).caused p at byte e }

-- ---- sections to the end

-- a state, and a place
abbrev beside : {S : Type 0} → Place → Result S Stop → Result (S × Place) Stop
beside p r = r >>= λ t. Ok (t, p)

-- at most that many
abbrev reading : {S P : Type 0} → Sections S P → ℕ → ℕ → S → Format S
reading G fuel good s = record { Spells = SpellsTo G s; read = λ p. beside p (run G fuel s good p.at p.rest).outcome; Fits = λ t. ⊥; write = λ t. [] }

abbrev then_reading : {S P : Type 0} → Sections S P → ℕ → ℕ → S → P → Format S
then_reading G fuel good s part = reading G fuel good (G.next s part)

bind_of_err : {A B : Type 0} (r : Result A Stop) (f : A → Result B Stop) (d : Stop) → r ≡ Err d → (r >>= f) ≡ Err d
bind_of_err r f d e = rw e refl

part_read : {S P : Type 0} (good : ℕ) (r : Result (P × Place) Stop) (f : P × Place → Run S) (d : Stop) → (after_part good r f).outcome ≡ Err d → (r >>= λ a. beside a.1 (f a).outcome) ≡ Err d
part_read {S} {P} good (Ok x) f d e = bind_of_err {B = S × Place} (f x).outcome (λ t. Ok (t, x.1)) d e
part_read {S} good (Err c) f d e = ap (λ (y : Stop). Err y) (same_err {A = S} c d e)

first_part : {S P : Type 0} (G : Sections S P) (fuel good : ℕ) (s t : S) (at : ℕ) (parts : List P) (text : List ℕ) → (text ≡ [] → ⊥) → SectionsSpell G s at parts text → built G s parts ≡ t → G.can_end t ≡ true
    → (u : S) × (led (G.form s) (then_reading G fuel good s)).Spells at u text
first_part G fuel good s t at [] text n h b end = absurd (n h)
first_part G fuel good s t at (part ∷ parts) text n h b end = (t, (part, h.0, h.1, h.2, (parts, h.3, b, end), h.4))

reading_stops : {S P : Type 0} (G : Sections S P) → AreExact G → ((s : S) → IsCaused (G.form s)) → (fuel good : ℕ) (s : S) (at : ℕ) (rest : List ℕ) (a byte : ℕ) → (run G fuel s good at rest).outcome ≡ Err (Unsupported a byte)
    → Cause (reading G fuel good s) (record { at = at; rest = rest }) a byte
unfolding run
reading_stops {S} G g f fuel good s at [] a byte e = absurd (test_never {A = S} (G.can_end s) s a byte e)
reading_stops {S} G g f zero good s at (b ∷ rest) a byte e = absurd (not_malformed {A = S} a byte e)
reading_stops {S} {P} G g f (suc fuel) good s at (b ∷ rest) a byte e =
    let here : Place = record { at = at; rest = b ∷ rest } in
    let end : ℕ = good_at G s good at in
    let stops = part_read end ((G.form s).read here) (λ x. run G fuel (G.next s x.0) end x.1.at x.1.rest) (Unsupported a byte) e in
    let behind : (part : P) → IsCaused (then_reading G fuel end s part) = λ part. record {
      caused = λ p at byte e.
          reading_stops G g f fuel end (G.next s part) p.at p.rest at byte (first_err {B = S × Place} (run G fuel (G.next s part) end p.at p.rest).outcome (λ t. (t, p)) (Unsupported at byte) e);
    } in
    let form = caused_led (G.form s) (then_reading G fuel end s) (g.exact s) (f s) behind in
    cause_as (led (G.form s) (then_reading G fuel end s)) (reading G (suc fuel) good s) here a byte
    (λ t text n h. first_part G fuel end s t at h.0 text n h.1 h.2 h.3) (form.caused here a byte stops)

ended_err : {S : Type 0} (p : Place) (r : Result S Stop) (d : Stop) → ended p r ≡ Err d → r ≡ Err d
ended_err {S} p (Ok t) d e = absurd (ok_is_no_err {A = S × Place} (t, record { at = p.at + length p.rest; rest = [] }) d e)
ended_err {S} p (Err c) d e = ap (λ (y : Stop). Err y) (same_err {A = S × Place} c d e)

pub caused_to_the_end : {S P : Type 0} (G : Sections S P) (s : S) (parts_of : S → List P) → AreExact G → ((s : S) → IsCaused (G.form s)) → IsCaused (to_the_end G s parts_of)
caused_to_the_end G s parts_of g f = record {
  caused = λ p at byte e. reading_stops G g f (length p.rest) 0 s p.at p.rest at byte (ended_err p (run G (length p.rest) s 0 p.at p.rest).outcome (Unsupported at byte) e);
}
