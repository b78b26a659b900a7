use Rattle.std.proofs.Common.{◌≡◌, [], length, sym, ap, ◌∙◌, arith}
use Rattle.wit_types.specs.PlainValue.{plain_values}
use Rattle.tree_table.specs.Tables.{Forest}
use Rattle.host_port.specs.Calls.{PlainCall, fields_in}
use Rattle.reference_step.specs.Atoms.{atoms_of, handles, renumbered_of}
use Rattle.reference_step.specs.Steps.{host_ids}
use Rattle.ref_answers.specs.Seen.{live_in}
use Rattle.ref_guards.specs.Noted.{shown_all}
use Rattle.ref_host_calls.specs.Requests.{call_of}
use Rattle.ref_host_calls.proofs.AskLemmas.{ids_count}
use Rattle.ref_host_calls.proofs.asking.to_host.Goals as goal

nowhere : Forest
nowhere = record { roots = 0; rows = [] }

pub renumber_arguments-args-requires : goal.renumber_arguments-args-requires
renumber_arguments-args-requires g c =
    let params = fields_in c.args.request.found.function.now.ty.params in
    let args = ap (λ (x : PlainCall). x.args) c.in_ok-func.ensures in
    let many : length c.as_slice.result.now ≡ length (handles (shown_all c.args.request.noted.now)) = ap length (c.as_slice.ensures.value ∙ c.in_ok-ids.ensures nowhere) ∙ ids_count g.H.Host.step _ _ in
    let same : length (handles (atoms_of params (plain_values c.in_ok-func.field-0.args))) ≡ length (handles (shown_all c.args.request.noted.now)) = ap (λ vs. length (handles (atoms_of params vs))) args ∙ ap (λ xs. length (handles xs)) (sym c.requires.noted) in
    omega (arith, many, same)

pub returns : goal.returns
returns g c = λ f r.
    let params = fields_in c.args.request.found.function.now.ty.params in
    let args = ap (λ (x : PlainCall). x.args) c.in_ok-func.ensures in
    let ids = c.as_slice.ensures.value ∙ c.in_ok-ids.ensures f ∙ ap (λ xs. host_ids g.H.Host.step (live_in f c.args.live.now.handles) (handles xs)) c.requires.noted in
    ap (λ (x : PlainCall). record x { args = plain_values c.renumber_arguments-args.result }) c.in_ok-func.ensures
    ∙ ap (λ vs. record (call_of c.args.request) { args = vs })
    (c.renumber_arguments-args.ensures
    ∙ ap (λ xs. (renumbered_of params xs c.as_slice.result.now).0) args
    ∙ ap (λ ns. (renumbered_of params (call_of c.args.request).args ns).0) ids)
