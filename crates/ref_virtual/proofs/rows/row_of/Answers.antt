use Rattle.std.proofs.Common.{refl, sym, ap, ◌∙◌}
use Rattle.std.proofs.Math.Path.{fun_ext}
use Rattle.std.proofs.lemmas.Result.{IfOk-weaker}
use Rattle.wit_types.specs.PlainValue.{plain_values}
use Rattle.reference_step.specs.Handles.{content_of, is_held}
use Rattle.reference_step.specs.Rows.{filesystem_rows}
use Rattle.reference_step.specs.State.{View}
use Rattle.ref_answers.specs.Found.{found}
use Rattle.ref_answers.specs.Seen.{live_in}
use Rattle.ref_answers.proofs.SeenLaws.{seen_is_held}
use Rattle.ref_virtual.specs.Views.{HoldsTrees}
use Rattle.ref_scratch.specs.Told.{settled}
use Rattle.ref_virtual.proofs.ToldLemmas.{told_same, same_stays}
use Rattle.tree_table.specs.Tables.{count_of}
use Rattle.ref_virtual.proofs.FilesInsideLemmas.{row_fixed}
use Rattle.ref_virtual.proofs.rows.row_of.Goals as goal

pub returns-in-Rowless-clause-row : goal.returns-in-Rowless-clause-row
returns-in-Rowless-clause-row c = λ v h.
    let f = c.args.table.now in
    let m = c.args.folder.now in
    let handles = c.args.live.now.handles in
    let a = plain_values c.args.args.now in
    let w : View = record v { policy = c.args.policy.now; scratch = m; content = content_of (live_in f handles); held = is_held (live_in f handles) } in
    ap (λ rs. settled m (found rs c.args.function.now w a)) c.in-Rowless.ensures

pub returns-in-Handleless-clause-row : goal.returns-in-Handleless-clause-row
returns-in-Handleless-clause-row c = IfOk-weaker c.handleless_row.result _ _ (λ row says. λ v h.
    let f = c.args.table.now in
    let m = c.args.folder.now in
    let handles = c.args.live.now.handles in
    let a = plain_values c.args.args.now in
    let w : View = record v { policy = c.args.policy.now; scratch = m; content = content_of (live_in f handles); held = is_held (live_in f handles) } in
    told_same f m row _ (says f w a) ∙ ap (λ rs. settled m (found rs c.args.function.now w a)) c.in-Handleless.ensures) c.handleless_row.ensures

pub returns-in-Poll-clause-row : goal.returns-in-Poll-clause-row
returns-in-Poll-clause-row c = IfOk-weaker c.poll_row.result _ _ (λ row says. λ v h.
    let f = c.args.table.now in
    let m = c.args.folder.now in
    let handles = c.args.live.now.handles in
    let a = plain_values c.args.args.now in
    let w : View = record v { policy = c.args.policy.now; scratch = m; content = content_of (live_in f handles); held = is_held (live_in f handles) } in
    told_same f m row _ (says f w refl) ∙ ap (λ rs. settled m (found rs c.args.function.now w a)) c.in-Poll.ensures) c.poll_row.ensures.row

pub returns-in-Streams-clause-row : goal.returns-in-Streams-clause-row
returns-in-Streams-clause-row c = IfOk-weaker c.stream_row.result _ _ (λ row says. λ v h.
    let f = c.args.table.now in
    let m = c.args.folder.now in
    let handles = c.args.live.now.handles in
    let a = plain_values c.args.args.now in
    let w : View = record v { policy = c.args.policy.now; scratch = m; content = content_of (live_in f handles); held = is_held (live_in f handles) } in
    let h' : HoldsTrees f w = record { trees = h.trees; holds = h.holds } in
    says w h' refl ∙ ap (λ rs. settled m (found rs c.args.function.now w a)) c.in-Streams.ensures) c.stream_row.ensures.row

pub returns-in-FilesystemTypes-clause-row : goal.returns-in-FilesystemTypes-clause-row
returns-in-FilesystemTypes-clause-row c = IfOk-weaker c.filesystem_row.result _ _ (λ row says. λ v h.
    let f = c.args.table.now in
    let m = c.args.folder.now in
    let handles = c.args.live.now.handles in
    let a = plain_values c.args.args.now in
    let w : View = record v { policy = c.args.policy.now; scratch = m; content = content_of (live_in f handles); held = is_held (live_in f handles) } in
    let h' : HoldsTrees f w = record { trees = h.trees; holds = h.holds } in
    says w h' (sym h.holds.roots ∙ c.requires.trees) refl
    ∙ ap (λ g. settled m (found filesystem_rows c.args.function.now (record w { held = g }) a)) (fun_ext (λ n. sym (seen_is_held f handles n)))
    ∙ ap (λ rs. settled m (found rs c.args.function.now w a)) c.in-FilesystemTypes.ensures) c.filesystem_row.ensures.row

pub returns-in-Rowless-clause-still : goal.returns-in-Rowless-clause-still
returns-in-Rowless-clause-still c = λ v h. refl

pub returns-in-Handleless-clause-still : goal.returns-in-Handleless-clause-still
returns-in-Handleless-clause-still c = IfOk-weaker c.handleless_row.result _ _ (λ row says. λ v h. same_stays row c.args.folder.now) c.handleless_row.ensures

pub returns-in-Poll-clause-still : goal.returns-in-Poll-clause-still
returns-in-Poll-clause-still c = IfOk-weaker c.poll_row.result _ _ (λ row says. λ v h. same_stays row c.args.folder.now) c.poll_row.ensures.row

pub returns-in-Streams-clause-still : goal.returns-in-Streams-clause-still
returns-in-Streams-clause-still c = IfOk-weaker c.stream_row.result _ _ (λ row says. λ v h.
    let f = c.args.table.now in
    let m = c.args.folder.now in
    let handles = c.args.live.now.handles in
    let w : View = record v { policy = c.args.policy.now; scratch = m; content = content_of (live_in f handles); held = is_held (live_in f handles) } in
    let h' : HoldsTrees f w = record { trees = h.trees; holds = h.holds } in
    says w h' refl) c.stream_row.ensures.still

pub returns-in-FilesystemTypes-clause-still : goal.returns-in-FilesystemTypes-clause-still
returns-in-FilesystemTypes-clause-still c = IfOk-weaker c.filesystem_row.result _ _ (λ row says. λ v h.
    let f = c.args.table.now in
    let m = c.args.folder.now in
    let handles = c.args.live.now.handles in
    let w : View = record v { policy = c.args.policy.now; scratch = m; content = content_of (live_in f handles); held = is_held (live_in f handles) } in
    let h' : HoldsTrees f w = record { trees = h.trees; holds = h.holds } in
    says w h' (sym h.holds.roots ∙ c.requires.trees) refl) c.filesystem_row.ensures.still

pub returns-in-Rowless-clause-inside : goal.returns-in-Rowless-clause-inside
returns-in-Rowless-clause-inside c = λ v h. refl

pub returns-in-Handleless-clause-inside : goal.returns-in-Handleless-clause-inside
returns-in-Handleless-clause-inside c = IfOk-weaker c.handleless_row.result _ _ (λ row says. λ v h. row_fixed row _ (count_of c.args.table.now) (λ f. says f v (plain_values c.args.args.now))) c.handleless_row.ensures

pub returns-in-Poll-clause-inside : goal.returns-in-Poll-clause-inside
returns-in-Poll-clause-inside c = IfOk-weaker c.poll_row.result _ _ (λ row is. λ v h. is (count_of c.args.table.now)) c.poll_row.ensures.inside

pub returns-in-Streams-clause-inside : goal.returns-in-Streams-clause-inside
returns-in-Streams-clause-inside c = IfOk-weaker c.stream_row.result _ _ (λ row is. λ v h. is v) c.stream_row.ensures.inside

pub returns-in-FilesystemTypes-clause-inside : goal.returns-in-FilesystemTypes-clause-inside
returns-in-FilesystemTypes-clause-inside c = IfOk-weaker c.filesystem_row.result _ _ (λ row is. λ v h. is v (sym h.holds.roots ∙ c.requires.trees)) c.filesystem_row.ensures.inside
