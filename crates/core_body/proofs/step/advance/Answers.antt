use Rattle.std.proofs.Common.{ap, ◌∙◌, sym}
use Rattle.std.proofs.lemmas.Result.{IfOk-weaker}
use Rattle.core_body.specs.Levels.{state_at}
use Rattle.core_body.specs.Machine.{next}
use Rattle.core_body.specs.Views.{context_of}
use Rattle.core_body.specs.declared.levels.Verdict.{Verdict}
use Rattle.core_body.proofs.CodeLemmas.{says-state}
use Rattle.core_body.proofs.step.advance.Goals as goal

pub returns-in-Goes : goal.returns-in-Goes
returns-in-Goes c =
    let d = context_of c.args.scope.now in
    IfOk-weaker c.step.result _ _ (λ v h. says-state d v _ _ h ∙ sym (ap (λ (w : Verdict). next d (state_at d w c.args.p.now) c.args.instr.now) c.in-Goes.is)) c.step.ensures
