-- Handles that enter, one atom after another.
use Rattle.std.proofs.Common.{◌≡◌, ◌≤◌, ◌<◌, ◌+◌, ℕ, suc, Bool, true, false, ◌&&◌, ◌==◌, cond, List, [], ◌∷◌, ◌++◌, length, drop, get_or, Option, Some, None, refl, sym, ap, ◌∙◌, arith}
use Rattle.std.proofs.Math.ListN.{drop_of_length-le}
use Rattle.std.proofs.Math.Seq.{drop-cons}
use Rattle.std.proofs.lemmas.List.{append_assoc, append-nil, length-map}
use Rattle.std.proofs.lemmas.List.Folds.{list_all-append}
use Rattle.std.proofs.lemmas.List.Sums.{sum_by-cons}
use Rattle.std.proofs.lemmas.Bool.Decides.{nat_tests}
use Rattle.wit_types.specs.Plain.{Plain}
use Rattle.wit_types.specs.PlainValue.{PlainValue}
use Rattle.abi_layout.specs.Handles as abi
use Rattle.reference_step.specs.Atoms.{atoms, handle_in, handles}
use Rattle.reference_step.specs.Handles.{first_free, with_entry}
use Rattle.reference_step.specs.Rules.{same_kind}
use Rattle.ref_rules.specs.declared.content.Handle.{Handle}
use Rattle.ref_rules.specs.Lives.{LiveTable, of_kind, count_of_kind}
use Rattle.ref_guards.specs.RoomEntering.{are_kinds, count_kind}
use Rattle.ref_guards.specs.Numbers.{seen}
use Rattle.ref_guards.proofs.HandleLaws.{handles_agree}
use Rattle.ref_guards.specs.declared.atoms.Atom.{Atom}
use Rattle.ref_guards.specs.declared.atoms.Atom.TheVariants.{Handle as AHandle}
use Rattle.ref_guards.specs.Noted.{shown, shown_all}
use Rattle.ref_guards.specs.declared.standing.Standing.{Standing}
use Rattle.ref_guards.specs.Entering.{handle_for, with_handles, numbers_for}

-- ---- the next atom's handle, and those after it

pub next_handles : (noted : List Atom) (i : ℕ) (d : Atom) → i < length noted → handles (shown_all (drop i noted)) ≡ handle_in (shown (get_or noted i d)) ++ handles (shown_all (drop (i + 1) noted))
next_handles noted i d lt = ap (λ each. handles (shown_all each)) (drop-cons noted i d lt ∙ ap (λ n. get_or noted i d ∷ drop n noted) one_more)
  where
    one_more : suc i ≡ i + 1
    one_more = omega arith

pub no_more_handles : (noted : List Atom) (i : ℕ) → length noted ≤ i → handles (shown_all (drop i noted)) ≡ []
no_more_handles noted i past = ap (λ each. handles (shown_all each)) (drop_of_length-le noted past)

-- ---- counts of kinds

count_append : (kind : ℕ) (a b : List (ℕ × ℕ)) → count_kind kind (a ++ b) ≡ count_kind kind a + count_kind kind b
count_append kind [] b = omega arith
count_append kind (g ∷ a) b = omega (arith, count_append kind a b)

kinds_same : (kind other : ℕ) → cond {A = ℕ} (other == kind) 1 0 ≡ same_kind kind other
kinds_same kind other = grind (arith, nat_tests)

count_cons : (kind : ℕ) (x : Option Handle) (live : List (Option Handle)) → count_of_kind kind (x ∷ live) ≡ cond (of_kind kind x) 1 0 + count_of_kind kind live
count_cons kind x live = sum_by-cons (λ o. cond (of_kind kind o) 1 0) x live

-- one more is live
count_more : (kind : ℕ) (live : List (Option Handle)) (new : Handle) → count_of_kind kind (with_entry live new) ≡ count_of_kind kind live + cond (of_kind kind (Some new)) 1 0
count_more kind [] new = refl
count_more kind (None ∷ live) new = omega (arith, count_cons kind (Some new) live, count_cons kind None live)
count_more kind (Some x ∷ live) new = omega (arith, count_cons kind (Some x) (with_entry live new), count_cons kind (Some x) live, count_more kind live new)

-- as many more of a kind are live
pub count_entered : (standing : Standing) (kind : ℕ) (live : List (Option Handle)) (gs : List (ℕ × ℕ)) → count_of_kind kind (with_handles standing live gs) ≡ count_kind kind gs + count_of_kind kind live
count_entered standing kind live [] = omega arith
count_entered standing kind live (g ∷ gs) =
    let rest = count_entered standing kind (with_entry live (handle_for standing g)) gs in
    let one = count_more kind live (handle_for standing g) in
    let same = kinds_same kind g.0 in
    omega (arith, rest, one, same)

-- room for the first, and for those after it when it has entered
pub room_first : (kind : ℕ) (a b all : List (ℕ × ℕ)) (count slots : ℕ) → all ≡ a ++ b → count_kind kind all + count ≤ slots → count_kind kind a + count ≤ slots
room_first kind a b all count slots is room =
    let both : count_kind kind all ≡ count_kind kind a + count_kind kind b = ap (count_kind kind) is ∙ count_append kind a b in
    omega (arith, both, room)

pub room_rest : (standing : Standing) (kind : ℕ) (a b all : List (ℕ × ℕ)) (live : List (Option Handle)) (slots : ℕ) → all ≡ a ++ b → count_kind kind all + count_of_kind kind live ≤ slots → count_kind kind b + count_of_kind kind (with_handles standing live a) ≤ slots
room_rest standing kind a b all live slots is room =
    let both : count_kind kind all ≡ count_kind kind a + count_kind kind b = ap (count_kind kind) is ∙ count_append kind a b in
    let more = count_entered standing kind live a in
    omega (arith, both, more, room)

kind_itself : (kind : ℕ) → same_kind kind kind ≡ 1
kind_itself kind = grind (arith, nat_tests)

pub one_room : (atom : Atom) (kind id count slots : ℕ) → atom ≡ AHandle kind id → count_kind kind (handle_in (shown atom)) + count ≤ slots → count < slots
one_room atom kind id count slots is room =
    let one : count_kind kind (handle_in (shown atom)) ≡ same_kind kind kind + 0 = ap (λ (a : Atom). count_kind kind (handle_in (shown a))) is in
    omega (arith, one, kind_itself kind, room)

-- ---- listed kinds

first_true : (a b : Bool) → (a && b) ≡ true → a ≡ true
first_true true b e = refl
first_true false b e = e

second_true : (a b : Bool) → (a && b) ≡ true → b ≡ true
second_true true b e = e
second_true false b e = cc

module _ (a b all : List (ℕ × ℕ)) (is : all ≡ a ++ b) (kinds : are_kinds all ≡ true) where
  both_kinds : (are_kinds a && are_kinds b) ≡ true
  both_kinds = sym (ap are_kinds is ∙ list_all-append _ a b) ∙ kinds

  pub kinds_first : are_kinds a ≡ true
  kinds_first = first_true (are_kinds a) (are_kinds b) both_kinds

  pub kinds_rest : are_kinds b ≡ true
  kinds_rest = second_true (are_kinds a) (are_kinds b) both_kinds

-- ---- what enters

module _ (standing : Standing) where
  pub with-append : (live : List (Option Handle)) (a b : List (ℕ × ℕ)) → with_handles standing live (a ++ b) ≡ with_handles standing (with_handles standing live a) b
  with-append live [] b = refl
  with-append live (g ∷ a) b = with-append (with_entry live (handle_for standing g)) a b

  pub numbers-append : (live : List (Option Handle)) (a b : List (ℕ × ℕ)) → numbers_for standing live (a ++ b) ≡ numbers_for standing live a ++ numbers_for standing (with_handles standing live a) b
  numbers-append live [] b = refl
  numbers-append live (g ∷ a) b = ap (λ ns. first_free live ∷ ns) (numbers-append (with_entry live (handle_for standing g)) a b)

  pub length-numbers : (live : List (Option Handle)) (gs : List (ℕ × ℕ)) → length (numbers_for standing live gs) ≡ length gs
  length-numbers live [] = refl
  length-numbers live (g ∷ gs) = ap suc (length-numbers (with_entry live (handle_for standing g)) gs)

  -- one atom more has entered
  pub entered_next : (live next : List (Option Handle)) (a b all : List (ℕ × ℕ)) (goal : List (Option Handle)) → all ≡ a ++ b → next ≡ with_handles standing live a → with_handles standing live all ≡ goal → with_handles standing next b ≡ goal
  entered_next live next a b all goal is new before = ap (λ hs. with_handles standing hs b) new ∙ sym (with-append live a b) ∙ ap (with_handles standing live) (sym is) ∙ before

  pub numbers_next : (done new : List ℕ) (live next : List (Option Handle)) (a b all : List (ℕ × ℕ)) (goal : List ℕ) → all ≡ a ++ b → next ≡ with_handles standing live a → new ≡ done ++ numbers_for standing live a → done ++ numbers_for standing live all ≡ goal → new ++ numbers_for standing next b ≡ goal
  numbers_next done new live next a b all goal is entered numbers before =
      ap (λ hs. new ++ numbers_for standing hs b) entered
      ∙ ap (λ ns. ns ++ numbers_for standing (with_handles standing live a) b) numbers
      ∙ append_assoc done (numbers_for standing live a) (numbers_for standing (with_handles standing live a) b)
      ∙ ap (λ ns. done ++ ns) (sym (numbers-append live a b))
      ∙ ap (λ gs. done ++ numbers_for standing live gs) (sym is)
      ∙ before

  pub numbers_end : (done : List ℕ) (live : List (Option Handle)) (gs : List (ℕ × ℕ)) (goal : List ℕ) → gs ≡ [] → done ++ numbers_for standing live gs ≡ goal → done ≡ goal
  numbers_end done live gs goal none before = sym (append-nil done) ∙ ap (λ hs. done ++ numbers_for standing live hs) (sym none) ∙ before

  pub entered_end : (live : List (Option Handle)) (gs : List (ℕ × ℕ)) (goal : List (Option Handle)) → gs ≡ [] → with_handles standing live gs ≡ goal → live ≡ goal
  entered_end live gs goal none before = ap (with_handles standing live) (sym none) ∙ before

-- ---- as many handles by the Canonical ABI

pub count_agrees : (ty : Plain) (v : PlainValue) → length (handles (atoms ty v)) ≡ length (abi.handles ty v)
count_agrees ty v = ap length (handles_agree ty v) ∙ length-map (abi.handles ty v) seen

-- ---- nothing else changes

pub same_then : (new old base : LiveTable) (handles : List (Option Handle)) → new ≡ record old { handles = handles } → old ≡ record base { handles = old.handles } → new ≡ record base { handles = new.handles }
same_then new old base hs is before =
    is
    ∙ ap (λ (o : LiveTable). record o { handles = hs }) before
    ∙ ap (λ (k : List (Option Handle)). record base { handles = k }) (sym (ap (λ (l : LiveTable). l.handles) is))
