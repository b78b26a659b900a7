use Rattle.std.proofs.Common.{ℕ, ◌-◌, [], ◌∷◌, ◌++◌, length, ◌∙◌, ap, sym, Some, refl, arith}
use Rattle.wasm_ast.specs.declared.module.CoreFunc.{CoreFunc}
use Rattle.core_slots.specs.Stacked.{opened}
use Rattle.core_interp.specs.declared.control.Control.TheVariants.{Entry}
use Rattle.core_interp.specs.declared.machine.Stage.TheVariants.{Runs, Answered}
use Rattle.core_interp.specs.declared.machine.Machine.{Machine}
use Rattle.core_store.specs.Scene.{scene_of}
use Rattle.core_interp.specs.Session.{goes_on}
use Rattle.core_interp.proofs.Pauses.{pause_from, traps_from, asks_no_trap, asked_entry}
use Rattle.core_interp.proofs.Beginning.{first_of, begun_goes, begun_can, first_asks}
use Rattle.core_interp.proofs.machine.Machine.begin.Goals as goal

pub go_on-requires-clause-can : goal.go_on-requires-clause-can
go_on-requires-clause-can c =
    begun_can c.args.self.now _ c.args.store.now c.enter.new.self c.in-Inside.instance c.in-Inside.ty c.in-Inside.locals c.in-Inside.body c.requires.stage (first_of c.args.self.now c.args.store.now c.requires.stage c.requires.can) (c.function.ensures ∙ ap Some c.in-Inside.is) c.in-Ok.ensures refl refl refl refl
    (c.in_ok-open-in-Ok.ensures ∙ ap (λ (k : ℕ). opened k c.len-count.result c.args.self.now.running.slots) (c.len-params.ensures ∙ ap (λ (f : CoreFunc). length f.params) c.get-ty.ensures) ∙ ap (λ (k : ℕ). opened (length c.in-Inside.ty.params) k c.args.self.now.running.slots) c.len-count.ensures)
    (c.in_ok-push-in-Ok.ensures.items ∙ ap (λ (k : ℕ). c.args.self.now.running.controls.items ++ Entry k ∷ []) (c.len-results.ensures ∙ ap (λ (f : CoreFunc). length f.results) c.get-ty.ensures))
    c.requires.fine c.requires.can.entry

pub returns-in_ok-pause-in-Ok : goal.returns-in_ok-pause-in-Ok
returns-in_ok-pause-in-Ok c =
    record {
      leads = pause_from _ _ _ c.in_ok-pause-in-Ok.pause c.go_on.new.self c.go_on.new.store
          (λ rs n. begun_goes c.args.self.now (let k : Machine = record c.args.self.now { stage = Runs; running = record c.args.self.now.running { slots = c.open.new.self; controls = c.push.new.self } } in k) c.args.store.now c.enter.new.self c.in-Inside.instance c.in-Inside.ty c.in-Inside.locals c.in-Inside.body c.requires.stage (first_of c.args.self.now c.args.store.now c.requires.stage c.requires.can) (c.function.ensures ∙ ap Some c.in-Inside.is) c.in-Ok.ensures refl refl refl refl
          (c.in_ok-open-in-Ok.ensures ∙ ap (λ (k : ℕ). opened k c.len-count.result c.args.self.now.running.slots) (c.len-params.ensures ∙ ap (λ (f : CoreFunc). length f.params) c.get-ty.ensures) ∙ ap (λ (k : ℕ). opened (length c.in-Inside.ty.params) k c.args.self.now.running.slots) c.len-count.ensures)
          (c.in_ok-push-in-Ok.ensures.items ∙ ap (λ (k : ℕ). c.args.self.now.running.controls.items ++ Entry k ∷ []) (c.len-results.ensures ∙ ap (λ (f : CoreFunc). length f.results) c.get-ty.ensures))
          rs _)
          c.in_ok-pause-in-Ok.ensures.leads;
      scene = ap scene_of (sym c.in-Ok.ensures.1) ∙ c.in_ok-pause-in-Ok.ensures.scene;
      budget = c.in_ok-pause-in-Ok.ensures.budget;
      entry = c.in_ok-pause-in-Ok.ensures.entry;
      traps = traps_from _ _ _ c.in_ok-pause-in-Ok.pause
          (λ rs n. begun_goes c.args.self.now (let k : Machine = record c.args.self.now { stage = Runs; running = record c.args.self.now.running { slots = c.open.new.self; controls = c.push.new.self } } in k) c.args.store.now c.enter.new.self c.in-Inside.instance c.in-Inside.ty c.in-Inside.locals c.in-Inside.body c.requires.stage (first_of c.args.self.now c.args.store.now c.requires.stage c.requires.can) (c.function.ensures ∙ ap Some c.in-Inside.is) c.in-Ok.ensures refl refl refl refl
          (c.in_ok-open-in-Ok.ensures ∙ ap (λ (k : ℕ). opened k c.len-count.result c.args.self.now.running.slots) (c.len-params.ensures ∙ ap (λ (f : CoreFunc). length f.params) c.get-ty.ensures) ∙ ap (λ (k : ℕ). opened (length c.in-Inside.ty.params) k c.args.self.now.running.slots) c.len-count.ensures)
          (c.in_ok-push-in-Ok.ensures.items ∙ ap (λ (k : ℕ). c.args.self.now.running.controls.items ++ Entry k ∷ []) (c.len-results.ensures ∙ ap (λ (f : CoreFunc). length f.results) c.get-ty.ensures))
          rs n)
          c.in_ok-pause-in-Ok.ensures.traps;
    }

pub returns-in_ok-pause-in-Outside : goal.returns-in_ok-pause-in-Outside
returns-in_ok-pause-in-Outside c =
    record { leads = first_asks c.args.self.now (let k : Machine = record c.args.self.now { stage = Answered } in k) c.ask.new.self c.args.store.now c.args.budget.now c.in-Outside.number c.in-Outside.ty c.in_ok-pause-in-Outside.pause c.requires.stage refl refl refl c.requires.can (c.function.ensures ∙ ap Some c.in-Outside.is) c.in_ok-pause-in-Outside.ensures; scene = refl; budget = omega arith; entry = asked_entry _ _ _ _ _ c.in_ok-pause-in-Outside.ensures; traps = asks_no_trap (goes_on c.args.self.now c.args.store.now) (c.args.budget.now - c.args.budget.now) _ _ _ _ _ c.in_ok-pause-in-Outside.ensures }
