use Rattle.std.proofs.Common.{◌∙◌}
use Rattle.std.proofs.Math.Path.{ap₂}
use Rattle.std.proofs.lemmas.Result.{IfOk-weaker}
use Rattle.reference_step.specs.Descriptors.{BothRoots, rename_pair}
use Rattle.ref_rules.specs.Lives.{is_open}
use Rattle.ref_scratch.specs.Told.{settled}
use Rattle.ref_virtual.proofs.ToldLemmas.{told_same}
use Rattle.ref_virtual.proofs.roots.rename_beside.Goals as goal

pub returns-in-Root : goal.returns-in-Root
returns-in-Root c =
    let m = c.args.folder.now in
    rw c.in-Root.is (IfOk-weaker c.rename_row.result _ _ (λ row says. λ f v. says f v ∙ ap₂ (λ o n. settled m (rename_pair (record v { scratch = m; held = λ k. is_open c.args.live.now.handles k }) BothRoots o n)) c.text_at.ensures c.text_at-in-Root.ensures) c.rename_row.ensures)

pub returns-in-File : goal.returns-in-File
returns-in-File c =
    let m = c.args.folder.now in
    rw c.in-File.is (IfOk-weaker c.fails.result _ _ (λ row says. λ f v. told_same f m row _ (says f)) c.fails.ensures)

pub returns-in-Elsewhere : goal.returns-in-Elsewhere
returns-in-Elsewhere c =
    let m = c.args.folder.now in
    rw c.in-Elsewhere.is (IfOk-weaker c.fails-in-Elsewhere.result _ _ (λ row says. λ f v. told_same f m row _ (says f)) c.fails-in-Elsewhere.ensures)
