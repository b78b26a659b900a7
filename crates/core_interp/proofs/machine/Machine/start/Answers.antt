use Rattle.std.proofs.Common.{refl, ap, ◌∙◌, ◌++◌, List}
use Rattle.std.specs.Prelude.{reverse}
use Rattle.core_store.specs.declared.value.CoreValue.{CoreValue}
use Rattle.core_store.specs.Words.{words}
use Rattle.core_slots.specs.Stacked.{with_operands}
use Rattle.core_interp.proofs.Saying.{start_follows}
use Rattle.core_interp.proofs.machine.Machine.start.Goals as goal

pub returns : goal.returns
returns c s h = start_follows s c.args.function 0 c.new-slots.result c.push_values.new.self c.args.args.now _ h c.new-slots.ensures (c.in_ok-push_values.ensures ∙ ap (λ (vs : List CoreValue). with_operands c.new-slots.result (reverse (words vs) ++ c.new-slots.result.operands)) c.as_slice.ensures) refl refl refl c.new.ensures.items
