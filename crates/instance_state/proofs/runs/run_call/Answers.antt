use Rattle.std.proofs.Common.{◌≤◌, ◌∙◌, ◌++◌, ◌∷◌, [], sym, ap, subst}
use Rattle.instance_state.specs.Done.{left_if}
use Rattle.instance_state.proofs.runs.run_call.Goals as goal

pub returns : goal.returns
returns c = record {
  machine = c.run.new.self;
  pauses = c.in_ok-pause.ensures;
  calls = c.in_ok-push.ensures.items
      ∙ ap (λ k. c.args.calls.now.items ++ record { machine = c.run.new.self; nesting = k } ∷ []) c.nesting-nesting.ensures.value
      ∙ ap (λ b. left_if b c.args.calls.now.items c.run.new.self c.run.new.store.nesting) (sym (sym c.stays.ensures ∙ c.if-not-stays.false));
  few = λ e. subst (λ k. k ≤ 65536) c.nesting-nesting.ensures.value c.nesting-nesting.ensures.most;
}
