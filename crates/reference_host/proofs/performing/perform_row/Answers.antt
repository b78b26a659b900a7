use Rattle.std.proofs.Common.{◌≡◌, [], sym, ap, subst, ◌∙◌}
use Rattle.tree_table.specs.Scratches.{ScratchMap}
use Rattle.host_port.specs.Calls.{Trap}
use Rattle.reference_step.specs.Steps.{by_row}
use Rattle.ref_answers.specs.Seen.{live_in}
use Rattle.ref_answers.specs.declared.row.Row.{Row}
use Rattle.ref_host_calls.specs.Requests.{call_of, listed_of}
use Rattle.ref_scratch.specs.Told.{told}
use Rattle.ref_virtual.specs.Acting.{Stays}
use Rattle.reference_host.specs.Made.{RowMayEnter, live_behind}
use Rattle.reference_host.proofs.StepLemmas.{ok_map, on_map}
use Rattle.reference_host.proofs.performing.perform_row.Goals as goal

pub perform-requires : goal.perform-requires
perform-requires g c = record { noted = c.requires.noted; enters = subst (RowMayEnter c.args.request c.args.live.now) c.in-Does.is c.requires.enters }

pub returns-in-Traps-clause-does : goal.returns-in-Traps-clause-does
returns-in-Traps-clause-does g c = λ f r m stays.
    let still : m ≡ r.scratch = subst (λ (x : Row). Stays x m r.scratch) c.in-Traps.is stays in
    ap (λ (x : Row). by_row g.H.Host.step (record r { live = live_in f c.args.live.now.handles }) (listed_of c.args.request) (call_of c.args.request) (told f x m)) c.in-Traps.is
    ∙ ap (λ (s : ScratchMap). record { seen = []; answer = Trap; next = record r { live = live_in f c.args.live.now.handles; scratch = s } }) (sym still)

pub returns-in-Does-clause-does : goal.returns-in-Does-clause-does
returns-in-Does-clause-does g c = ok_map c.perform.result _ _ (λ a e f r m stays.
    ap (λ (x : Row). by_row g.H.Host.step (record r { live = live_in f c.args.live.now.handles }) (listed_of c.args.request) (call_of c.args.request) (told f x m)) c.in-Does.is ∙ e f r m) c.perform.ensures.does

pub returns-in-Traps-clause-entered : goal.returns-in-Traps-clause-entered
returns-in-Traps-clause-entered g c = sym (ap (live_behind c.args.request c.args.live.now) c.in-Traps.is)

pub returns-in-Does-clause-entered : goal.returns-in-Does-clause-entered
returns-in-Does-clause-entered g c = on_map c.perform.result _ _ (λ e. e ∙ sym (ap (live_behind c.args.request c.args.live.now) c.in-Does.is)) c.perform.ensures.entered
