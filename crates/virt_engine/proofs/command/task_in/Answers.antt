use Rattle.std.proofs.Common.{ap, ◌∙◌}
use Rattle.std.specs.Prelude.{Some}
use Rattle.virt_words.specs.declared.command.Command.{Command as Said}
use Rattle.virt_engine.proofs.WordLaws.{of_virt, of_run, of_gen, of_plug, of_fault}
use Rattle.virt_engine.proofs.command.task_in.Goals as goal

pub returns-in-Ok-Virt : goal.returns-in-Ok-Virt
returns-in-Ok-Virt c = of_virt c.args.words.now c.in-Ok-Virt.words (c.in-Ok-Virt.ensures ∙ ap (λ (x : Said). Some x) c.in-Ok-Virt.field-0-is)

pub returns-in-Ok-Run : goal.returns-in-Ok-Run
returns-in-Ok-Run c = of_run c.args.words.now c.in-Ok-Run.words (c.in-Ok-Run.ensures ∙ ap (λ (x : Said). Some x) c.in-Ok-Run.field-0-is)

pub returns-in-Ok-Gen : goal.returns-in-Ok-Gen
returns-in-Ok-Gen c = of_gen c.args.words.now c.in-Ok-Gen.words (c.in-Ok-Gen.ensures ∙ ap (λ (x : Said). Some x) c.in-Ok-Gen.field-0-is)

pub returns-in-Ok-Plug : goal.returns-in-Ok-Plug
returns-in-Ok-Plug c = of_plug c.args.words.now c.in-Ok-Plug.words (c.in-Ok-Plug.ensures ∙ ap (λ (x : Said). Some x) c.in-Ok-Plug.field-0-is)

pub returns-in-Err : goal.returns-in-Err
returns-in-Err c = of_fault c.args.words.now _ c.in-Err.ensures
