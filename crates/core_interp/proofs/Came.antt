-- Straight runs, one instruction after another.
use Rattle.std.proofs.Common.{◌≡◌, ℕ, suc, ◌+◌, ◌-◌, ◌*◌, ◌<◌, ◌≤◌, List, length, Some, refl, sym, ap, ◌∙◌, subst, arith}
use Rattle.std.specs.Prelude.{slice_get, reverse}
use Rattle.wasm_ast.specs.declared.instr.Op.{Op}
use Rattle.wasm_ast.specs.declared.instr.Instr.{Instr}
use Rattle.wasm_ast.specs.declared.instr.Instr.TheVariants.{Plain}
use Rattle.core_store.specs.declared.value.CoreSpaces.{CoreSpaces}
use Rattle.core_store.specs.State.{State}
use Rattle.core_store.specs.Scene.{scene_of, code_at, spaces_at}
use Rattle.core_store.specs.Fine.{Names, takes}
use Rattle.core_slots.specs.Stacked.{Stacked}
use Rattle.core_interp.specs.declared.running.Running.{Running}
use Rattle.core_interp.specs.Plains.{Does}
use Rattle.core_interp.specs.declared.control.Flow.{Flow}
use Rattle.core_interp.specs.declared.control.Flow.TheVariants.{On, Ended, Failed, Asking, Exhausted, Deep}
use Rattle.core_interp.specs.Run.{goes, Ready, IsBefore, Falls, entries, outermost}
use Rattle.core_interp.specs.Straight.{Came}
use Rattle.core_interp.proofs.Given.{code_in, spaces_in}
use Rattle.core_interp.proofs.Stepping.{plain_needs, plain_leads, before_at}

pub came_not : (m : Running) (s : State) (a : ℕ) → Ready m s → Came m s a m s a
came_not m s a ready = record {
  budget = omega arith;
  leads = λ rs n. let q : a - a + n ≡ n = omega arith in ap (goes m s rs) q;
  ready = ready;
  function = refl;
  controls = refl;
  scene = refl;
}

module _ (code : List Instr) (spaces : CoreSpaces) (m : Running) (s : State) (a : ℕ) (k : Running) (t : State) (b : ℕ) (e : code ≡ code_in m s) (f : spaces ≡ spaces_in m s) (x : Came m s a k t b) where
  pub code_now : code ≡ code_in k t
  code_now = e ∙ ap (λ w. code_at w m.function) x.scene ∙ ap (code_at (scene_of t)) (sym x.function)

  pub spaces_now : spaces ≡ spaces_in k t
  spaces_now = f ∙ ap (λ w. spaces_at w m.function) x.scene ∙ ap (spaces_at (scene_of t)) (sym x.function)

  before_now : (o : Op) → slice_get code k.at ≡ Some (Plain o) → k.at + 1 < 18446744073709551616 → IsBefore (Plain o) k t
  before_now o there small = before_at (Plain o) k t (sym (ap (λ (xs : List Instr). slice_get xs k.at) code_now) ∙ there) small x.ready

-- the operands are there, and what it names
pub came_needs : (code : List Instr) (spaces : CoreSpaces) (m : Running) (s : State) (a : ℕ) (k : Running) (t : State) (b : ℕ) (o : Op) → code ≡ code_in m s → spaces ≡ spaces_in m s → Came m s a k t b → slice_get code k.at ≡ Some (Plain o) → k.at + 1 < 18446744073709551616 → (takes o ≤ length k.slots.operands) × Names (scene_of t) spaces (length k.slots.locals) o
came_needs code spaces m s a k t b o e f x there small =
    let n = plain_needs (Plain o) k t o refl (before_now code spaces m s a k t b e f x o there small) in
    (n.0, subst (λ sp. Names (scene_of t) sp (length k.slots.locals) o) (sym (spaces_now code spaces m s a k t b e f x)) n.1)

-- one instruction more
pub came_on : (code : List Instr) (spaces : CoreSpaces) (m : Running) (s : State) (a : ℕ) (k : Running) (t u : State) (b c : ℕ) (o : Op) (d : Stacked) → code ≡ code_in m s → spaces ≡ spaces_in m s → Came m s a k t b → slice_get code k.at ≡ Some (Plain o) → k.at + 1 < 18446744073709551616 → b ≡ c + 1 → Does o spaces k.slots t d u → Came m s a (record k { at = k.at + 1; slots = d }) u c
came_on code spaces m s a k t u b c o d e f x there small left does =
    let does_now = subst (λ sp. Does o sp k.slots t d u) (spaces_now code spaces m s a k t b e f x) does in
    let l = plain_leads (Plain o) k t u o d refl (before_now code spaces m s a k t b e f x o there small) does_now in
    let le = x.budget in
    record {
      budget = omega arith;
      leads = λ rs n. let q : a - c + n ≡ a - b + suc n = omega arith in ap (goes m s rs) q ∙ x.leads rs (suc n) ∙ l.goes rs n;
      ready = record { at = l.ready; counted = l.counted };
      function = x.function;
      controls = x.controls;
      scene = x.scene ∙ does.stays.scene;
    }

-- the same in an arm of the loop, where the place is at hand
pub arm_needs : (code : List Instr) (spaces : CoreSpaces) (m : Running) (s : State) (a : ℕ) (k : Running) (t : State) (b at : ℕ) (i : Instr) (o : Op) → code ≡ code_in m s → spaces ≡ spaces_in m s → Came m s a (record k { at = at }) t b → slice_get code at ≡ Some i → at + 1 < 18446744073709551616 → i ≡ Plain o → (takes o ≤ length k.slots.operands) × Names (scene_of t) spaces (length k.slots.locals) o
arm_needs code spaces m s a k t b at i o e f x there small is =
    came_needs code spaces m s a (record k { at = at }) t b o e f x (there ∙ ap (λ j. Some j) is) small

pub arm_on : (code : List Instr) (spaces : CoreSpaces) (m : Running) (s : State) (a : ℕ) (k z : Running) (t : State) (b at : ℕ) (i : Instr) (o : Op) (d : Stacked) → code ≡ code_in m s → spaces ≡ spaces_in m s → Came m s a (record k { at = at }) t b → 0 < b → slice_get code at ≡ Some i → at + 1 < 18446744073709551616 → ((sp : CoreSpaces) (u : State) → Does o sp k.slots u d u) → z ≡ record k { slots = d } → i ≡ Plain o → Came m s a (record z { at = at + 1 }) t (b - 1)
arm_on code spaces m s a k z t b at i o d e f x some there small does z_is is =
    subst (λ (y : Running). Came m s a (record y { at = at + 1 }) t (b - 1)) (sym z_is)
    (came_on code spaces m s a (record k { at = at }) t t b (b - 1) o d e f x (there ∙ ap (λ j. Some j) is) small (omega arith) (does spaces t))

pub same_entries : (m k : Running) → k.controls ≡ m.controls → outermost k ≡ outermost m
same_entries m k e = ap (λ cs. entries (reverse cs.items)) e

pub falls_on : (flow : Flow) (m k : Running) (a b c : ℕ) → k.controls ≡ m.controls → b ≤ a → Falls flow c (2 * b + length k.controls.items) → Falls flow c (2 * a + length m.controls.items)
falls_on On m k a b c e le h = let n = ap (λ cs. length cs.items) e in omega arith
falls_on (Ended r) m k a b c e le h = tt
falls_on Failed m k a b c e le h = tt
falls_on (Asking f) m k a b c e le h = tt
falls_on Deep m k a b c e le h = tt
falls_on Exhausted m k a b c e le h = tt
