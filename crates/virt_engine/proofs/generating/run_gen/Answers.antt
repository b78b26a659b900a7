use Rattle.std.proofs.Common.{subst}
use Rattle.virt_engine.specs.declared.generating.Made.{Made}
use Rattle.virt_engine.specs.Command.{gen_by}
use Rattle.virt_engine.specs.Generating.{IsMade}
use Rattle.virt_engine.proofs.GenLaws.{gen_ended, gen_finish, gen_memory}
use Rattle.virt_engine.proofs.generating.run_gen.Goals as goal

pub returns-in-Ok-Whole : goal.returns-in-Ok-Whole
returns-in-Ok-Whole g c =
    gen_finish (gen_by c.args.task.now) c.in-Ok-Whole.ready _ _ _ _ _ (subst (λ (m : Made). IsMade c.args.task.now.functions c.args.task.now.out m) c.in-Ok-Whole.field-0-is c.in-Ok-Whole.ensures) c.finish.ensures

pub returns-in-Ok-Ended : goal.returns-in-Ok-Ended
returns-in-Ok-Ended g c =
    gen_ended (gen_by c.args.task.now) c.in-Ok-Ended.shown _ _ _ _ (subst (λ (m : Made). IsMade c.args.task.now.functions c.args.task.now.out m) c.in-Ok-Ended.field-0-is c.in-Ok-Ended.ensures) c.put_shown.ensures

pub returns-in-Err : goal.returns-in-Err
returns-in-Err g c = gen_memory (gen_by c.args.task.now) _ _
