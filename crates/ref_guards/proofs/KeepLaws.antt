-- What is kept where handles enter, leave, or come to stand for something else.
use Rattle.std.proofs.Common.{◌≡◌, ℕ, zero, suc, ◌+◌, ◌==◌, ◌<◌, ◌≤◌, Bool, true, false, cond, List, [], ◌∷◌, get_or, set, Option, Some, None, option_map, Result, Ok, Err, refl, sym, ap, subst, arith}
use Rattle.std.specs.Prelude.{OnOk}
use Rattle.std.proofs.lemmas.Bool.Decides.{nat_tests}
use Rattle.std.proofs.lemmas.List.Sums.{sum_by-cons}
use Rattle.reference_step.specs.Handles.{with_entry}
use Rattle.ref_rules.specs.declared.content.Content.{Content}
use Rattle.ref_rules.specs.declared.content.Handle.{Handle}
use Rattle.ref_rules.specs.Lives.{LiveTable, of_kind, count_of_kind, standing_for}
use Rattle.ref_guards.specs.RoomEntering.{count_kind}
use Rattle.ref_guards.specs.declared.standing.Standing.{Standing}
use Rattle.ref_guards.specs.Entering.{stands_for, handle_for, with_handles}
use Rattle.ref_guards.proofs.EnterLemmas.{count_entered}
use Rattle.ref_guards.specs.Contents.{AllHold, KeepsContents}

-- what holds whatever a call answers
pub on_always : {A E : Type 0} (r : Result A E) (P : Type 0) → P → OnOk r P
on_always (Ok x) P p = p
on_always (Err e) P p = tt

-- what holds after a call
pub on_map : {A E : Type 0} (r : Result A E) (P Q : Type 0) → (P → Q) → OnOk r P → OnOk r Q
on_map (Ok x) P Q go p = go p
on_map (Err e) P Q go p = p

-- ---- what handles stand for

module _ (P : Content → Bool) where
  moved : (old new : Handle) → Some old ≡ Some new → P old.content ≡ true → P new.content ≡ true
  moved old new is holds = let same : old ≡ new = cc in subst (λ (x : Handle). P x.content ≡ true) same holds

  pub hold-entry : (handles : List (Option Handle)) (h : Handle) → AllHold P handles → P h.content ≡ true → AllHold P (with_entry handles h)
  hold-entry [] h all new zero other is = moved h other is new
  hold-entry [] h all new (suc id) other is = cc
  hold-entry (None ∷ handles) h all new zero other is = moved h other is new
  hold-entry (None ∷ handles) h all new (suc id) other is = all (suc id) other is
  hold-entry (Some x ∷ handles) h all new zero other is = all zero other is
  hold-entry (Some x ∷ handles) h all new (suc id) other is = hold-entry handles h (λ n g e. all (suc n) g e) new id other is

  pub hold-free : (handles : List (Option Handle)) (at : ℕ) → AllHold P handles → AllHold P (set handles at None)
  hold-free [] at all id other is = all id other is
  hold-free (x ∷ handles) zero all zero other is = cc
  hold-free (x ∷ handles) zero all (suc id) other is = all (suc id) other is
  hold-free (x ∷ handles) (suc at) all zero other is = all zero other is
  hold-free (x ∷ handles) (suc at) all (suc id) other is = hold-free handles at (λ n g e. all (suc n) g e) id other is

  stands_now : (content : Content) (x : Option Handle) (other : Handle) → P content ≡ true → option_map (standing_for content) x ≡ Some other → P other.content ≡ true
  stands_now content None other new is = cc
  stands_now content (Some h) other new is = moved (standing_for content h) other is new

  pub hold-standing : (handles : List (Option Handle)) (at : ℕ) (content : Content) → AllHold P handles → P content ≡ true → AllHold P (set handles at (option_map (standing_for content) (get_or handles at None)))
  hold-standing [] at content all new id other is = all id other is
  hold-standing (x ∷ handles) zero content all new zero other is = stands_now content x other new is
  hold-standing (x ∷ handles) zero content all new (suc id) other is = all (suc id) other is
  hold-standing (x ∷ handles) (suc at) content all new zero other is = all zero other is
  hold-standing (x ∷ handles) (suc at) content all new (suc id) other is = hold-standing handles at content (λ n g e. all (suc n) g e) new id other is

  pub hold-handles : (standing : Standing) (handles : List (Option Handle)) (gs : List (ℕ × ℕ)) → AllHold P handles → ((id : ℕ) → P (stands_for standing id) ≡ true) → AllHold P (with_handles standing handles gs)
  hold-handles standing handles [] all new = all
  hold-handles standing handles (g ∷ gs) all new = hold-handles standing (with_entry handles (handle_for standing g)) gs (hold-entry handles (handle_for standing g) all (new g.1)) new

-- ---- how many handles of a kind there are

module _ (kind : ℕ) where
  count-cons : (x : Option Handle) (handles : List (Option Handle)) → count_of_kind kind (x ∷ handles) ≡ cond (of_kind kind x) 1 0 + count_of_kind kind handles
  count-cons x handles = sum_by-cons (λ o. cond (of_kind kind o) 1 0) x handles

  pub count-entry : (handles : List (Option Handle)) (h : Handle) → count_of_kind kind (with_entry handles h) ≡ count_of_kind kind handles + cond (of_kind kind (Some h)) 1 0
  count-entry [] h = refl
  count-entry (None ∷ handles) h = omega (arith, count-cons (Some h) handles, count-cons None handles)
  count-entry (Some x ∷ handles) h = omega (arith, count-cons (Some x) (with_entry handles h), count-cons (Some x) handles, count-entry handles h)

  pub count-free : (handles : List (Option Handle)) (at : ℕ) → count_of_kind kind (set handles at None) ≤ count_of_kind kind handles
  count-free [] at = omega arith
  count-free (x ∷ handles) zero = omega (arith, count-cons None handles, count-cons x handles)
  count-free (x ∷ handles) (suc at) = omega (arith, count-cons x (set handles at None), count-cons x handles, count-free handles at)

  same_kind : (content : Content) (x : Option Handle) → of_kind kind (option_map (standing_for content) x) ≡ of_kind kind x
  same_kind content None = refl
  same_kind content (Some h) = refl

  pub count-standing : (handles : List (Option Handle)) (at : ℕ) (content : Content) → count_of_kind kind (set handles at (option_map (standing_for content) (get_or handles at None))) ≡ count_of_kind kind handles
  count-standing [] at content = refl
  count-standing (x ∷ handles) zero content =
      let same : cond {A = ℕ} (of_kind kind (option_map (standing_for content) x)) 1 0 ≡ cond (of_kind kind x) 1 0 = ap (λ b. cond b 1 0) (same_kind content x) in
      omega (arith, count-cons (option_map (standing_for content) x) handles, count-cons x handles, same)
  count-standing (x ∷ handles) (suc at) content = omega (arith, count-cons x (set handles at (option_map (standing_for content) (get_or handles at None))), count-cons x handles, count-standing handles at content)

  entry_fits : (handles : List (Option Handle)) (h : Handle) (slots : ℕ) → count_of_kind kind handles ≤ slots → count_of_kind h.kind handles < slots → count_of_kind kind (with_entry handles h) ≤ slots
  entry_fits handles h slots all room = by_kind (h.kind == kind) refl
    where
      by_kind : (b : Bool) → (h.kind == kind) ≡ b → count_of_kind kind (with_entry handles h) ≤ slots
      by_kind true same =
          let is : h.kind ≡ kind = grind (arith, nat_tests) in
          let here : count_of_kind kind handles < slots = subst (λ (k : ℕ). count_of_kind k handles < slots) is room in
          let one : cond {A = ℕ} (of_kind kind (Some h)) 1 0 ≡ 1 = ap (λ b. cond b 1 0) same in
          omega (arith, count-entry handles h, one, here)
      by_kind false other =
          let none : cond {A = ℕ} (of_kind kind (Some h)) 1 0 ≡ 0 = ap (λ b. cond b 1 0) other in
          omega (arith, count-entry handles h, none, all)

-- ---- what each change keeps

module _ (MayEnter : (Content → Bool) → Type 0) where
  pub keeps-same : (old new : LiveTable) → new ≡ old → KeepsContents MayEnter old new
  keeps-same old new is = subst (λ (l : LiveTable). KeepsContents MayEnter old l) (sym is) (record { held = λ P may all. all; fits = λ all. all })

  pub keeps-then : (old mid new : LiveTable) → KeepsContents MayEnter old mid → KeepsContents MayEnter mid new → KeepsContents MayEnter old new
  keeps-then old mid new first rest = record { held = λ P may all. rest.held P may (first.held P may all); fits = λ all. rest.fits (first.fits all) }

  -- a handle is live no more
  pub keeps-free : (old new : LiveTable) (at : ℕ) → new ≡ record old { handles = set old.handles at None } → KeepsContents MayEnter old new
  keeps-free old new at is = subst (λ (l : LiveTable). KeepsContents MayEnter old l) (sym is) (record {
    held = λ P may all. hold-free P old.handles at all;
    fits = λ all kind. omega (arith, count-free kind old.handles at, all kind);
  })

  -- one handle enters
  pub keeps-entry : (old new : LiveTable) (h : Handle) → ((P : Content → Bool) → MayEnter P → P h.content ≡ true) → count_of_kind h.kind old.handles < old.slots → new ≡ record old { handles = with_entry old.handles h } → KeepsContents MayEnter old new
  keeps-entry old new h may room is = subst (λ (l : LiveTable). KeepsContents MayEnter old l) (sym is) (record {
    held = λ P enters all. hold-entry P old.handles h all (may P enters);
    fits = λ all kind. entry_fits kind old.handles h old.slots (all kind) room;
  })

  -- the handles of an answer enter
  pub keeps-handles : (old new : LiveTable) (standing : Standing) (gs : List (ℕ × ℕ)) → ((P : Content → Bool) → MayEnter P → (id : ℕ) → P (stands_for standing id) ≡ true) → ((kind : ℕ) → count_kind kind gs + count_of_kind kind old.handles ≤ old.slots)
      → new ≡ record old { handles = with_handles standing old.handles gs } → KeepsContents MayEnter old new
  keeps-handles old new standing gs may room is = subst (λ (l : LiveTable). KeepsContents MayEnter old l) (sym is) (record {
    held = λ P enters all. hold-handles P standing old.handles gs all (may P enters);
    fits = λ all kind. omega (arith, count_entered standing kind old.handles gs, room kind);
  })

  -- a handle stands for something else
  pub keeps-standing : (old new : LiveTable) (at : ℕ) (content : Content) → ((P : Content → Bool) → MayEnter P → P content ≡ true) → new ≡ record old { handles = set old.handles at (option_map (standing_for content) (get_or old.handles at None)) } → KeepsContents MayEnter old new
  keeps-standing old new at content may is = subst (λ (l : LiveTable). KeepsContents MayEnter old l) (sym is) (record {
    held = λ P enters all. hold-standing P old.handles at content all (may P enters);
    fits = λ all kind. omega (arith, count-standing kind old.handles at content, all kind);
  })

-- less may enter
pub keeps-weaker : (May Less : (Content → Bool) → Type 0) → ((P : Content → Bool) → Less P → May P) → (old new : LiveTable) → KeepsContents May old new → KeepsContents Less old new
keeps-weaker May Less go old new keeps = record { held = λ P may all. keeps.held P (go P may) all; fits = keeps.fits }
