use Rattle.std.proofs.Common.{◌+◌, drop, get_or}
use Rattle.reference_step.specs.Atoms.{handle_in, handles}
use Rattle.ref_answers.specs.Seen.{live_in}
use Rattle.ref_guards.specs.declared.atoms.Atom.TheVariants.{Text}
use Rattle.ref_guards.specs.Noted.{shown, shown_all}
use Rattle.ref_guards.proofs.EnterLemmas.{next_handles, no_more_handles}
use Rattle.ref_host_calls.proofs.AskLemmas.{ids_next, ids_end}
use Rattle.ref_host_calls.proofs.numbers.host_ids.Goals as goal

pub loop-atom-preserved : goal.loop-atom-preserved
loop-atom-preserved g c = λ f.
    let a = handle_in (shown (get_or c.args.noted.now c.loop-atom.atom-index (Text 0))) in
    let b = handles (shown_all (drop (c.loop-atom.atom-index + 1) c.args.noted.now)) in
    let all = handles (shown_all (drop c.loop-atom.atom-index c.args.noted.now)) in
    ids_next g.H.Host.step (live_in f c.args.live.now.handles) c.loop-atom.ids.items c.note_id.new.ids.items a b all _ (next_handles c.args.noted.now c.loop-atom.atom-index (Text 0) c.loop-atom-test.true) (c.in_ok-note_id.ensures f) (c.loop-atom.invariant f)

pub returns : goal.returns
returns g c = λ f.
    ids_end g.H.Host.step (live_in f c.args.live.now.handles) c.loop-atom.ids.items (handles (shown_all (drop c.loop-atom.atom-index c.args.noted.now))) _ (no_more_handles c.args.noted.now c.loop-atom.atom-index c.loop-atom-test.false) (c.loop-atom.invariant f)
