use Rattle.std.proofs.Common.{◌++◌, ℕ, [], ◌∷◌, sym, ap, ◌∙◌}
use Rattle.reference_step.specs.Atoms.{handle_in}
use Rattle.reference_step.specs.Steps.{host_ids}
use Rattle.ref_answers.specs.Seen.{live_in}
use Rattle.ref_guards.specs.declared.atoms.Atom.{Atom}
use Rattle.ref_guards.specs.Noted.{shown}
use Rattle.ref_host_calls.proofs.numbers.note_id.Goals as goal

pub returns-in_ok-push-in-Handle : goal.returns-in_ok-push-in-Handle
returns-in_ok-push-in-Handle g c = λ f.
    c.in_ok-push-in-Handle.ensures.items
    ∙ ap (λ (n : ℕ). c.args.ids.now.items ++ n ∷ []) (c.host_id_at.ensures f)
    ∙ ap (λ (a : Atom). c.args.ids.now.items ++ host_ids g.H.Host.step (live_in f c.args.live.now.handles) (handle_in (shown a))) (sym c.in-Handle.is)
