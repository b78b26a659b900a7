-- Plans, and what they lead to.
use Rattle.std.proofs.Common.{◌≡◌, ℕ, ◌+◌, ap, refl, sym, ◌∙◌, List, [], ◌∷◌, ◌++◌, arith, append-nil}
use Rattle.std.specs.Prelude.{reverse, Option}
use Rattle.virt_base.specs.declared.core_type.CoreType.{CoreType}
use Rattle.core_memory.specs.Linear.{Linear}
use Rattle.core_store.specs.State.{State, InMemory, memory_at}
use Rattle.wit_types.specs.Plain.{Plain}
use Rattle.wit_types.specs.PlainValue.{PlainValue}
use Rattle.wit_types.specs.Layout.{alignment, size}
use Rattle.abi_layout.specs.Storing.{Target, Lowered, stores, stores_at}
use Rattle.abi_store.specs.declared.slot.Slot.{Slot}
use Rattle.abi_store.specs.declared.slot.Flats.{Flats}
use Rattle.abi_store.specs.declared.stage.Stage.{Stage}
use Rattle.abi_store.specs.declared.work.Work.{Work}
use Rattle.abi_store.specs.Plan.{Halt, Plan, Given, goes_on, settled, at_plan}
use Rattle.abi_store.specs.Flows.{chain, led, none_left}
use Rattle.abi_store.specs.Works.{works_lowered, work_lowered}
use Rattle.abi_store.specs.Slots.{slots_lowered, known}
use Rattle.abi_store.specs.Stages.{due_of, left_of}
use Rattle.abi_store.proofs.Settling.{settle-stores}
use Rattle.abi_store.proofs.Lowers.{chain-same, none-chain, lowered_same}

-- ---- where flat values alone are left

pub flats_led : (m : Linear) (done after : List ℕ) (works : List Work) (slots left : List Slot) (f : ℕ → Lowered) → works ≡ [] → led (known done) (slots_lowered slots 0) m ≡ led (known after) (chain f (slots_lowered left) 0) m →
    led (known done) (chain (works_lowered (reverse works)) (slots_lowered slots) 0) m ≡ led (known after) (chain f (chain (works_lowered (reverse works)) (slots_lowered left)) 0) m
flats_led m done after works slots left f none so =
    ap (λ (ws : List Work). led (known done) (chain (works_lowered (reverse ws)) (slots_lowered slots) 0) m) none ∙ so
    ∙ ap (λ (l : Lowered). led (known after) l m) (chain-same f f (slots_lowered left) (chain none_left (slots_lowered left)) 0 refl (λ j. sym (none-chain (slots_lowered left) j)))
    ∙ ap (λ (ws : List Work). led (known after) (chain f (chain (works_lowered (reverse ws)) (slots_lowered left)) 0) m) (sym none)

-- ---- plans that begin

abbrev given_plan : ℕ → ℕ → ℕ → Lowered → Plan
given_plan place align len left = record { due = Given place align len; left = left; types = [] }

pub placed_planned : (place align len : ℕ) (old works : List Work) (done : List ℕ) (left : List Slot) (types : List CoreType) (ty : Plain) (v : PlainValue) (w : Work) → align ≡ alignment ty → len ≡ size ty → works ≡ old ++ w ∷ [] → old ≡ [] →
    work_lowered w 0 ≡ record { steps = stores_at ty v Target place 0; flats = [] } → done ≡ [] → left ≡ [] → types ≡ [] →
    (let p : Plan = record {
      due = Given place align len;
      left = record {
        steps = (chain (works_lowered (reverse works)) (slots_lowered (reverse left)) 0).steps;
        flats = known done ++ (chain (works_lowered (reverse works)) (slots_lowered (reverse left)) 0).flats;
      };
      types = types;
    } in p)
    ≡ at_plan place ty v
placed_planned place align len old works done left types ty v w align_is len_is push none at fresh empty typed =
    let only : works ≡ w ∷ [] = push ∙ ap (λ (ws : List Work). ws ++ w ∷ []) none in
    let steps_are : (chain (works_lowered (reverse works)) (slots_lowered (reverse left)) 0).steps ≡ settled place [] (stores ty v) =
    ap (λ (ws : List Work). (chain (works_lowered (reverse ws)) (slots_lowered (reverse left)) 0).steps) only
    ∙ ap (λ (ss : List Slot). (chain (works_lowered (w ∷ [])) (slots_lowered (reverse ss)) 0).steps) empty
    ∙ append-nil ((work_lowered w 0).steps ++ []) ∙ append-nil (work_lowered w 0).steps
    ∙ ap (λ (l : Lowered). l.steps) at
    ∙ sym (settle-stores place [] ty v Target 0 0 ∙ ap (λ (o : ℕ). stores_at ty v Target o 0) (let e : place + 0 ≡ place = omega arith in e)) in
    let flats_are : known done ++ (chain (works_lowered (reverse works)) (slots_lowered (reverse left)) 0).flats ≡ [] =
    ap (λ (xs : List ℕ). known xs ++ (chain (works_lowered (reverse works)) (slots_lowered (reverse left)) 0).flats) fresh
    ∙ ap (λ (ws : List Work). (chain (works_lowered (reverse ws)) (slots_lowered (reverse left)) 0).flats) only
    ∙ ap (λ (ss : List Slot). (chain (works_lowered (w ∷ [])) (slots_lowered (reverse ss)) 0).flats) empty in
    ap (λ (ts : List CoreType). let p : Plan = record {
      due = Given place align len;
      left = record {
        steps = (chain (works_lowered (reverse works)) (slots_lowered (reverse left)) 0).steps;
        flats = known done ++ (chain (works_lowered (reverse works)) (slots_lowered (reverse left)) 0).flats;
      };
      types = ts;
    } in p) typed
    ∙ ap (λ (l : Lowered). given_plan place align len l) (lowered_same _ _ _ _ steps_are flats_are)
    ∙ ap (λ (n : ℕ). given_plan place n len (record { steps = settled place [] (stores ty v); flats = [] })) align_is
    ∙ ap (λ (n : ℕ). given_plan place (alignment ty) n (record { steps = settled place [] (stores ty v); flats = [] })) len_is

-- ---- stages

pub advanced : (old new : State) (k : ℕ) (stage s : Stage) (works : List Work) (flats : Flats) (answer b : Option ℕ) (ends : Linear → Halt) → stage ≡ s → answer ≡ b →
    InMemory old new k (λ m n. goes_on (due_of s) (left_of s works flats) b m ≡ ends n) → InMemory old new k (λ m n. goes_on (due_of stage) (left_of stage works flats) answer m ≡ ends n)
advanced old new k stage s works flats answer b ends is answer_is so = (
  ap (λ (t : Stage). goes_on (due_of t) (left_of t works flats) answer (memory_at old k)) is ∙ ap (λ (o : Option ℕ). goes_on (due_of s) (left_of s works flats) o (memory_at old k)) answer_is ∙ so.0,
  so.1,
)
