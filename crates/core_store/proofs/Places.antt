-- Where blocks lead, and which ends are open.
use Rattle.std.proofs.Common.{◌≡◌, ℕ, zero, suc, ◌+◌, ◌<◌, ◌≤◌, ◌-◌, length, length-set, get_or, arith, ⊎_elim, List, [], ◌∷◌, ◌++◌, drop, Some, Bool, true, false, refl, sym, ap, ◌∙◌, subst}
use Rattle.std.specs.Prelude.{reverse, slice_get, slice_set, Option, None, is_some, IfSome, if◌then◌else◌}
use Rattle.std.specs.Option.{option_and_then}
use Rattle.std.proofs.lemmas.Bool.{cases_eq}
use Rattle.std.proofs.lemmas.List.{reverse-append, drop_all}
use Rattle.wasm_ast.specs.declared.instr.Instr.{Instr}
use Rattle.wasm_ast.specs.declared.instr.Instr.TheVariants.{Block, Loop, If, Else, End}
use Rattle.core_store.specs.declared.brackets.Jump.{Jump}
use Rattle.core_store.specs.declared.brackets.Open.{Open}
use Rattle.core_store.specs.Tree.{Seq, Stop, Then, InBlock, InLoop, InIf, Part, first, later, onto, enclose, placed, parts}
use Rattle.core_store.specs.Jumps.{JumpsFrom, Matches}
use Rattle.core_store.specs.Brackets.{IsPlainEnd, Opens, shape_of, opened, ends_of, flags}
use Rattle.core_store.specs.declared.brackets.Shape.TheVariants.{Opener, Middle, Closer, Inner}

-- an instruction and what is after it
drop_suc : (code : List Instr) (at : ℕ) (i : Instr) → slice_get code at ≡ Some i → drop at code ≡ i ∷ drop (suc at) code
drop_suc [] at i e = absurd (cc)
drop_suc (x ∷ xs) zero i e = let same : x ≡ i = cc in rw same refl
drop_suc (x ∷ xs) (suc at) i e = drop_suc xs at i e

drop_at : (code : List Instr) (at : ℕ) (i : Instr) → slice_get code at ≡ Some i → drop at code ≡ i ∷ drop (at + 1) code
drop_at code at i e = let n : suc at ≡ at + 1 = omega arith in drop_suc code at i e ∙ ap (λ k. i ∷ drop k code) n

pub slice_got : (xs : List Instr) (i : ℕ) (x : Instr) → i < length xs → x ≡ get_or xs i x → slice_get xs i ≡ Some x
slice_got [] i x lt e = absurd (omega arith)
slice_got (y ∷ ys) zero x lt e = ap Some (sym e)
slice_got (y ∷ ys) (suc i) x lt e = slice_got ys i x (omega arith) e

slice_past : (xs : List Instr) (k : ℕ) (x : Instr) → length xs ≤ k → slice_get xs k ≡ Some x → ⊥
slice_past [] k x le e = (cc)
slice_past (y ∷ ys) zero x le e = (omega arith)
slice_past (y ∷ ys) (suc k) x le e = slice_past ys k x (omega arith) e

parts_at : (code : List Instr) (at : ℕ) (i : Instr) → slice_get code at ≡ Some i → parts (drop at code) ≡ placed i (parts (drop (at + 1) code))
parts_at code at i h = ap parts (drop_at code at i h)

-- the ends that are open from an instruction on
pub ends_at : (code : List Instr) (at : ℕ) (i : Instr) (flags : List Bool) (next : Option (List Bool)) → slice_get code at ≡ Some i → ends_of (drop (at + 1) code) ≡ Some flags → opened (shape_of i) flags ≡ next → ends_of (drop at code) ≡ next
ends_at code at i flags next h e o = ap ends_of (drop_at code at i h) ∙ ap (λ (v : Option (List Bool)). option_and_then (opened (shape_of i)) v) e ∙ o

-- where they are none, they are none for the whole code
pub ends_none : (code : List Instr) (at : ℕ) → ends_of (drop at code) ≡ None → ends_of code ≡ None
ends_none code zero e = e
ends_none [] (suc at) e = absurd (cc)
ends_none (i ∷ is) (suc at) e = ap (λ (v : Option (List Bool)). option_and_then (opened (shape_of i)) v) (ends_none is at e)

-- an instruction before what is left changes no place
plain_end_onto : (b : Bool) (f : Seq → Seq) (ps : List Part) → IsPlainEnd b ps → IsPlainEnd b (onto f ps)
plain_end_onto true f ps e = tt
plain_end_onto false f ps e = ap (λ (qs : List Part). record { here = f (first ps).here; other = (first qs).other } ∷ later ps) e

opens_onto : (code : List Instr) (os : List Open) (f : Seq → Seq) (ps : List Part) → Opens code os ps → Opens code os (onto f ps)
opens_onto code [] f ps x = tt
opens_onto code (o ∷ os) f ps x = (x.0, x.1, plain_end_onto o.has_else f ps x.2, x.3)

module _ (code : List Instr) (at : ℕ) where
  pub opens_end : (os : List Open) → slice_get code at ≡ Some End → Opens code os (parts (drop (at + 1) code)) → Opens code (record { other = at; behind = at + 1; has_else = false } ∷ os) (parts (drop at code))
  opens_end os there x =
      let e = parts_at code at End there in
      (sym (ap later e), e ∙ ap (λ (ps : List Part). record { here = (first ps).other; other = Stop } ∷ later ps) (sym e), e ∙ ap (λ (ps : List Part). record { here = (first ps).here; other = Stop } ∷ later ps) (sym e), subst (Opens code os) (sym (ap later e)) x)

  pub opens_else : (o : Open) (os : List Open) → slice_get code at ≡ Some Else → o.has_else ≡ false → Opens code (o ∷ os) (parts (drop (at + 1) code)) → Opens code (record { other = at + 1; behind = o.behind; has_else = true } ∷ os) (parts (drop at code)) × (parts (drop o.behind code) ≡ later (parts (drop (at + 1) code)))
  opens_else o os there none x =
      let e = parts_at code at Else there in
      let ps = parts (drop (at + 1) code) in
      let single : ps ≡ record { here = (first ps).here; other = Stop } ∷ later ps = subst (λ b. IsPlainEnd b ps) none x.2 in
      ((x.0 ∙ sym (ap later e), single ∙ ap (λ (qs : List Part). record { here = (first qs).other; other = Stop } ∷ later qs) (sym e), tt, subst (Opens code os) (sym (ap later e)) x.3), x.0)

  opens_enclose : (i : Instr) (f : Seq → Seq → Seq → Seq) (o : Open) (os : List Open) → placed i (parts (drop (at + 1) code)) ≡ enclose f (parts (drop (at + 1) code)) → slice_get code at ≡ Some i → Opens code (o ∷ os) (parts (drop (at + 1) code)) → Opens code os (parts (drop at code))
  opens_enclose i f o os e there x =
      let ps = parts (drop (at + 1) code) in
      subst (Opens code os) (sym (parts_at code at i there ∙ e)) (opens_onto code os (f (first ps).here (first ps).other) (later ps) x.3)

  pub opens_opener : (i : Instr) (o : Open) (os : List Open) → shape_of i ≡ Opener → slice_get code at ≡ Some i → Opens code (o ∷ os) (parts (drop (at + 1) code)) → Opens code os (parts (drop at code)) × JumpsFrom code at i (record { other = o.other; behind = o.behind })
  opens_opener (Block t) o os e there x = (opens_enclose (Block t) (λ body other rest. InBlock t body rest) o os refl there x, x.0)
  opens_opener (Loop t) o os e there x = (opens_enclose (Loop t) (λ body other rest. InLoop t body rest) o os refl there x, tt)
  opens_opener (If t) o os e there x = (opens_enclose (If t) (λ body other rest. InIf t body other rest) o os refl there x, (x.0, x.1))
  opens_opener Else o os e there x = absurd (cc)
  opens_opener End o os e there x = absurd (cc)
  opens_opener i o os e there x = absurd (cc)

  inner_placed : (i : Instr) (j : Jump) → shape_of i ≡ Inner → (placed i (parts (drop (at + 1) code)) ≡ onto (Then i) (parts (drop (at + 1) code))) × JumpsFrom code at i j
  inner_placed (Block t) j e = absurd (cc)
  inner_placed (Loop t) j e = absurd (cc)
  inner_placed (If t) j e = absurd (cc)
  inner_placed Else j e = absurd (cc)
  inner_placed End j e = absurd (cc)
  inner_placed i j e = (refl, tt)

  pub opens_inner : (i : Instr) (os : List Open) (j : Jump) → shape_of i ≡ Inner → slice_get code at ≡ Some i → Opens code os (parts (drop (at + 1) code)) → Opens code os (parts (drop at code)) × JumpsFrom code at i j
  opens_inner i os j e there x =
      let p = inner_placed i j e in
      (subst (Opens code os) (sym (parts_at code at i there ∙ p.0)) (opens_onto code os (Then i) (parts (drop (at + 1) code)) x), p.1)

  closer_is : (i : Instr) → shape_of i ≡ Closer → i ≡ End
  closer_is (Block t) e = absurd (cc)
  closer_is (Loop t) e = absurd (cc)
  closer_is (If t) e = absurd (cc)
  closer_is Else e = absurd (cc)
  closer_is End e = refl
  closer_is i e = absurd (cc)

  middle_is : (i : Instr) → shape_of i ≡ Middle → i ≡ Else
  middle_is (Block t) e = absurd (cc)
  middle_is (Loop t) e = absurd (cc)
  middle_is (If t) e = absurd (cc)
  middle_is Else e = refl
  middle_is End e = absurd (cc)
  middle_is i e = absurd (cc)

  pub opens_closer : (i : Instr) (os : List Open) (j : Jump) → shape_of i ≡ Closer → slice_get code at ≡ Some i → Opens code os (parts (drop (at + 1) code)) → Opens code (record { other = at; behind = at + 1; has_else = false } ∷ os) (parts (drop at code)) × JumpsFrom code at i j
  opens_closer i os j e there x =
      (opens_end os (there ∙ ap Some (closer_is i e)) x, subst (λ k. JumpsFrom code at k j) (sym (closer_is i e)) tt)

  pub opens_middle : (i : Instr) (o : Open) (os : List Open) (n : ℕ) → shape_of i ≡ Middle → slice_get code at ≡ Some i → o.has_else ≡ false → Opens code (o ∷ os) (parts (drop (at + 1) code)) → Opens code (record { other = at + 1; behind = o.behind; has_else = true } ∷ os) (parts (drop at code)) × JumpsFrom code at i (record { other = n; behind = o.behind })
  opens_middle i o os n e there none x =
      let y = opens_else o os (there ∙ ap Some (middle_is i e)) none x in
      (y.0, subst (λ k. JumpsFrom code at k (record { other = n; behind = o.behind })) (sym (middle_is i e)) y.1)

pub opened_push : (xs ys : List Open) (o : Open) → ys ≡ xs ++ o ∷ [] → reverse ys ≡ o ∷ reverse xs
opened_push xs ys o e = ap reverse e ∙ reverse-append xs (o ∷ [])

pub to_front : (code : List Instr) (xs ys : List Open) (o : Open) (ps : List Part) → ys ≡ xs ++ o ∷ [] → Opens code (o ∷ reverse xs) ps → Opens code (reverse ys) ps
to_front code xs ys o ps e x = subst (λ os. Opens code os ps) (sym (opened_push xs ys o e)) x

pub from_front : (code : List Instr) (xs ys : List Open) (o : Open) (ps : List Part) → ys ≡ xs ++ o ∷ [] → Opens code (reverse ys) ps → Opens code (o ∷ reverse xs) ps
from_front code xs ys o ps e x = subst (λ os. Opens code os ps) (opened_push xs ys o e) x

-- the places from `at` on lead where they should
abbrev pub LeadFrom : List Instr → List Jump → ℕ → Type 0
LeadFrom code jumps at = (k : ℕ) (i : Instr) (j : Jump) → at ≤ k → slice_get code k ≡ Some i → slice_get jumps k ≡ Some j → JumpsFrom code k i j

slice_get_set : (xs : List Jump) (i : ℕ) (x : Jump) → i < length xs → slice_get (slice_set xs i x) i ≡ Some x
slice_get_set [] i x lt = absurd (omega arith)
slice_get_set (y ∷ ys) zero x lt = refl
slice_get_set (y ∷ ys) (suc i) x lt = slice_get_set ys i x (omega arith)

slice_get_set_other : (xs : List Jump) (i k : ℕ) (x : Jump) → (k ≡ i → ⊥) → slice_get (slice_set xs i x) k ≡ slice_get xs k
slice_get_set_other [] i k x ne = refl
slice_get_set_other (y ∷ ys) zero zero x ne = absurd (ne refl)
slice_get_set_other (y ∷ ys) zero (suc k) x ne = refl
slice_get_set_other (y ∷ ys) (suc i) zero x ne = refl
slice_get_set_other (y ∷ ys) (suc i) (suc k) x ne = slice_get_set_other ys i k x (λ e. ne (ap suc e))

-- one more
pub lead_more : (code : List Instr) (jumps : List Jump) (at : ℕ) (i : Instr) (j : Jump) → at < length jumps → slice_get code at ≡ Some i → JumpsFrom code at i j → LeadFrom code jumps (at + 1) → LeadFrom code (slice_set jumps at j) at
lead_more code jumps at i j lt there here rest k i' j' le e f =
    ⊎_elim
    (λ (same : k ≡ at).
    let a : Some i ≡ Some i' = sym there ∙ ap (slice_get code) (sym same) ∙ e in
    let b : i ≡ i' = cc in
    let c : Some j ≡ Some j' = sym (slice_get_set jumps at j lt) ∙ ap (slice_get (slice_set jumps at j)) (sym same) ∙ f in
    let d : j ≡ j' = cc in
    subst (λ n. JumpsFrom code n i' j') (sym same) (subst (λ (x : Jump). JumpsFrom code at i' x) d (subst (λ (x : Instr). JumpsFrom code at x j) b here)))
    (λ (other : k ≡ at → ⊥). rest k i' j' (omega arith) e (sym (slice_get_set_other jumps at k j other) ∙ f))
    (cases_eq k at)

-- the flags after a push or a pop
pub pushed_flags : (xs ys : List Open) (o : Open) → ys ≡ xs ++ o ∷ [] → flags (reverse ys) ≡ o.has_else ∷ flags (reverse xs)
pushed_flags xs ys o e = ap flags (opened_push xs ys o e)

pub no_flags : (xs : List Open) → xs ≡ [] → flags (reverse xs) ≡ []
no_flags xs e = ap (λ (v : List Open). flags (reverse v)) e

pub opened_closer : (i : Instr) (fs gs : List Bool) → shape_of i ≡ Closer → gs ≡ false ∷ fs → opened (shape_of i) fs ≡ Some gs
opened_closer i fs gs e f = ap (λ s. opened s fs) e ∙ ap Some (sym f)

pub opened_inner : (i : Instr) (fs : List Bool) → shape_of i ≡ Inner → opened (shape_of i) fs ≡ Some fs
opened_inner i fs e = ap (λ s. opened s fs) e

pub opened_opener : (i : Instr) (fs gs : List Bool) (b : Bool) → shape_of i ≡ Opener → fs ≡ b ∷ gs → opened (shape_of i) fs ≡ Some gs
opened_opener i fs gs b e f = ap (λ s. opened s fs) e ∙ ap (opened Opener) f

pub opened_middle : (i : Instr) (fs gs hs : List Bool) (b : Bool) → shape_of i ≡ Middle → fs ≡ b ∷ gs → b ≡ false → hs ≡ true ∷ gs → opened (shape_of i) fs ≡ Some hs
opened_middle i fs gs hs b e f plain g = ap (λ s. opened s fs) e ∙ ap (opened Middle) (f ∙ ap (λ c. c ∷ gs) plain) ∙ ap Some (sym g)

pub opened_twice : (i : Instr) (fs gs : List Bool) (b : Bool) → shape_of i ≡ Middle → fs ≡ b ∷ gs → b ≡ true → opened (shape_of i) fs ≡ None
opened_twice i fs gs b e f twice = ap (λ s. opened s fs) e ∙ ap (opened Middle) (f ∙ ap (λ c. c ∷ gs) twice)

pub opened_alone : (i : Instr) (fs : List Bool) → shape_of i ≡ Middle → fs ≡ [] → opened (shape_of i) fs ≡ None
opened_alone i fs e f = ap (λ s. opened s fs) e ∙ ap (opened Middle) f

pub opened_never : (i : Instr) (fs : List Bool) → shape_of i ≡ Opener → fs ≡ [] → opened (shape_of i) fs ≡ None
opened_never i fs e f = ap (λ s. opened s fs) e ∙ ap (opened Opener) f

pub lead_none : (code : List Instr) (jumps : List Jump) (at : ℕ) → length code ≤ at → LeadFrom code jumps at
lead_none code jumps at le k i j low e f = absurd (slice_past code k i (omega arith) e)

pub opens_none : (code : List Instr) (os : List Open) (ps : List Part) → os ≡ [] → Opens code (reverse os) ps
opens_none code os ps e = subst (λ (v : List Open). Opens code (reverse v) ps) (sym e) tt

pub ends_last : (code : List Instr) (os : List Open) (at : ℕ) → length code ≤ at → os ≡ [] → ends_of (drop at code) ≡ Some (flags (reverse os))
ends_last code os at le e = ap ends_of (drop_all at code le) ∙ ap Some (sym (no_flags os e))

pub none_is : (v : Option (List Bool)) → v ≡ None → false ≡ is_some v
none_is v e = ap is_some (sym e)

-- from an instruction on each one leads where it should, and these ends are open
pub record Kept (code : List Instr) (jumps : List Jump) (at : ℕ) (os : List Open) : Type 0 where
  pub within : at ≤ length code
  pub long : length jumps ≡ length code
  pub opens : Opens code (reverse os) (parts (drop at code))
  pub ends : ends_of (drop at code) ≡ Some (flags (reverse os))
  pub leads : LeadFrom code jumps at

pub kept_none : (code : List Instr) (jumps : List Jump) (at : ℕ) (opens : List Open) → at ≡ length code → length jumps ≡ length code → opens ≡ [] → Kept code jumps at opens
kept_none code jumps at opens e long none = record {
  within = omega arith;
  long = long;
  opens = opens_none code opens (parts (drop at code)) none;
  ends = ends_last code opens at (omega arith) none;
  leads = lead_none code jumps at (omega arith);
}

before : (code : List Instr) (at k : ℕ) → 0 < at → k ≡ at - 1 → k + 1 ≡ at
before code at k some e = omega arith

pub kept_more : (code now : List Instr) (jumps : List Jump) (at k : ℕ) (instr : Instr) (jump : Jump) (found : Option Jump) (old new : List Open) → now ≡ code → 0 < at → k ≡ at - 1 → slice_get code k ≡ Some instr → found ≡ Some jump → Kept code jumps at old
    → IfSome found (λ _. Opens now (reverse new) (parts (drop k now))) → IfSome found (λ j. JumpsFrom now k instr j)
    → opened (shape_of instr) (flags (reverse old)) ≡ (if is_some found then Some (flags (reverse new)) else None) → Kept code (slice_set jumps k jump) k new
kept_more code now jumps at k instr jump found old new same some e there is w opens leads ends =
    let next : k + 1 ≡ at = before code at k some e in
    let within = w.within in
    let long = w.long in
    let here : slice_get code k ≡ Some instr = there in
    let opened_here : Opens now (reverse new) (parts (drop k now)) = subst (λ (v : Option Jump). IfSome v (λ _. Opens now (reverse new) (parts (drop k now)))) is opens in
    let leads_here : JumpsFrom now k instr jump = subst (λ (v : Option Jump). IfSome v (λ j. JumpsFrom now k instr j)) is leads in
    record {
      within = omega arith;
      long = length-set jumps k jump ∙ w.long;
      opens = subst (λ (v : List Instr). Opens v (reverse new) (parts (drop k v))) same opened_here;
      ends = ends_at code k instr (flags (reverse old)) (Some (flags (reverse new))) here (ap (λ n. ends_of (drop n code)) next ∙ w.ends) (ends ∙ ap (λ (v : Option Jump). if is_some v then Some (flags (reverse new)) else None) is);
      leads = lead_more code jumps k instr jump (omega arith) here (subst (λ (v : List Instr). JumpsFrom v k instr jump) same leads_here) (subst (λ n. LeadFrom code jumps n) (sym next) w.leads);
    }

pub kept_never : (code now : List Instr) (jumps : List Jump) (at k : ℕ) (instr : Instr) (found : Option Jump) (old new : List Open) → now ≡ code → 0 < at → k ≡ at - 1 → slice_get code k ≡ Some instr → found ≡ None → Kept code jumps at old
    → opened (shape_of instr) (flags (reverse old)) ≡ (if is_some found then Some (flags (reverse new)) else None) → false ≡ is_some (ends_of code)
kept_never code now jumps at k instr found old new same some e there is w ends =
    let next : k + 1 ≡ at = before code at k some e in
    let here : slice_get code k ≡ Some instr = there in
    none_is (ends_of code) (ends_none code k (ends_at code k instr (flags (reverse old)) None here (ap (λ n. ends_of (drop n code)) next ∙ w.ends) (ends ∙ ap (λ (v : Option Jump). if is_some v then Some (flags (reverse new)) else None) is)))

pub kept_all : (code : List Instr) (jumps : List Jump) (at : ℕ) (opens : List Open) → at ≡ 0 → Kept code jumps at opens → Matches code jumps × (true ≡ is_some (ends_of code))
kept_all code jumps at opens e w =
    let leads : LeadFrom code jumps 0 = subst (λ n. LeadFrom code jumps n) e w.leads in
    (record { long = w.long; each = λ k i j a b. leads k i j (omega arith) a b }, sym (ap is_some (ap (λ n. ends_of (drop n code)) (sym e) ∙ w.ends)))

pub kept_next : (code now : List Instr) (jumps : List Jump) (at k : ℕ) (os : List Open) → now ≡ code → 0 < at → k ≡ at - 1 → Kept code jumps at os → Opens now (reverse os) (parts (drop (k + 1) now))
kept_next code now jumps at k os same some e w =
    subst (λ (v : List Instr). Opens v (reverse os) (parts (drop (k + 1) v))) (sym same) (subst (λ n. Opens code (reverse os) (parts (drop n code))) (sym (before code at k some e)) w.opens)

pub kept_matches : (code : List Instr) (jumps : List Jump) (at : ℕ) (os : List Open) → at ≡ 0 → Kept code jumps at os → Matches code jumps
kept_matches code jumps at os e w = (kept_all code jumps at os e w).0

pub kept_found : (code body : List Instr) (jumps : List Jump) (at : ℕ) (os : List Open) → code ≡ body → at ≡ 0 → Kept code jumps at os → true ≡ is_some (ends_of body)
kept_found code body jumps at os same e w = (kept_all code jumps at os e w).1 ∙ ap (λ (v : List Instr). is_some (ends_of v)) same
