-- Pairs the other way round are there exactly where each kind has one resource.
use Rattle.std.proofs.Common.{◌≡◌, ◌∙◌, ◌+◌, refl, ap, ℕ, [], ◌∷◌, Bool, true, false, Option, Some, None, cond, nat_eq, drop, slice_get}
use Rattle.comp_types.specs.Substitution.{partner_of}
use Rattle.comp_types.specs.Matching.{Pairs, GoesOn, meet, onward}
use Rattle.comp_types.proofs.MeetLaws.{came_from, is_same, equal_number, Grows, grows-same, grows-then, met, AllMeet, IsFunction, meets}
use Rattle.comp_types.proofs.ValueLemmas.{was_true, was_false}
use Rattle.comp_types.proofs.ValueLaws.{Goes, goes-on}
use Rattle.comp_types.proofs.UnpackLemmas.{at_front}
use Rattle.wasi_match.specs.Kinds.{turned}

-- each kind of these pairs leads back to its resource
abbrev pub LeadBack : (by back : Pairs) → Type 0
LeadBack by back = (y x : ℕ) → partner_of by y ≡ Some x → partner_of back x ≡ Some y

first_or : (b : Bool) (p : ℕ × ℕ) (last : Pairs) (y x : ℕ) (o : Option ℕ) → nat_eq y p.0 ≡ b → partner_of last p.1 ≡ Some p.0 → (o ≡ Some x → partner_of last x ≡ Some y)
    → cond b (Some p.1) o ≡ Some x → partner_of last x ≡ Some y
first_or true p last y x o e here there h =
    let same : y ≡ p.0 = equal_number y p.0 e in
    let value : p.1 ≡ x = cc in
    rw (same, ← value) here
first_or false p last y x o e here there h = there h

pub turned-sound : (back last ps : Pairs) → turned back ps ≡ Some last → Grows back last × LeadBack ps last
turned-sound back last [] e = (grows-same back last (is_same back last e), λ y x h. cc)
turned-sound back last (p ∷ ps) e =
    let c = came_from _ _ last e in
    let m = met back c.0 p.1 p.0 c.1 in
    let r = turned-sound c.0 last ps c.2 in (
      grows-then back c.0 last m.0 r.0,
      λ y x h. first_or (nat_eq y p.0) p last y x (partner_of ps y) refl (r.0 p.1 p.0 m.1) (r.1 y x) h,
    )

module _ (Meets : ℕ → ℕ → Type 0) where
  abbrev pub Back : ℕ → ℕ → Type 0
  Back resource kind = Meets kind resource

  pub turned-complete : IsFunction Back → (back ps : Pairs) → AllMeet Back back → AllMeet Meets ps → Goes Back (turned back ps)
  turned-complete one back [] a m = (back, refl, a)
  turned-complete one back (p ∷ ps) a m =
      goes-on Back one (λ more. turned more ps) (meet back p.1 p.0) (meets Back one back p.1 p.0 a m.0) (λ mid am. turned-complete one mid ps am m.1)

-- one pair after another
module _ (back new by : Pairs) (i : ℕ) (p : ℕ × ℕ) (same : Bool) (all : Option Pairs)
    (so_far : all ≡ turned back (drop i by)) (here : slice_get by i ≡ Some p) (step : GoesOn same new (meet back p.1 p.0)) where
  pub turned_goes : same ≡ true → all ≡ turned new (drop (i + 1) by)
  turned_goes e = so_far ∙ (ap (turned back) (at_front by i p here) ∙ ap (onward (λ more. turned more (drop (i + 1) by))) (was_true same new (meet back p.1 p.0) step e))

  pub turned_stops : same ≡ false → all ≡ None
  turned_stops e = so_far ∙ (ap (turned back) (at_front by i p here) ∙ ap (onward (λ more. turned more (drop (i + 1) by))) (was_false same new (meet back p.1 p.0) step e))
