use Rattle.std.proofs.Common.{◌≡◌, ℕ, Bool, true, false, rules, sym, ◌∙◌}
use Rattle.reference_step.specs.Handles.{content_of, is_host}
use Rattle.ref_answers.specs.Seen.{live_in}
use Rattle.ref_guards.proofs.HandleLemmas.{halted, went_on, next_atom, no_more_atoms}
use Rattle.ref_guards.proofs.handles.are_host.Goals as goal

pub returns-then-not-is_host_atom : goal.returns-then-not-is_host_atom
returns-then-not-is_host_atom c = λ f.
    let test : ℕ × ℕ → Bool = λ g. is_host (content_of (live_in f c.args.live.now.handles) g.1) in
    let stops : c.is_host_atom.result ≡ false = search rules in
    halted _ _ _ _ (next_atom test c.args.noted.now c.loop-atom.atom-index _ c.loop-atom-test.true) (sym (c.is_host_atom.ensures f) ∙ stops) (c.loop-atom.invariant f)

pub loop-atom-preserved : goal.loop-atom-preserved
loop-atom-preserved c = λ f.
    let test : ℕ × ℕ → Bool = λ g. is_host (content_of (live_in f c.args.live.now.handles) g.1) in
    let goes : c.is_host_atom.result ≡ true = search rules in
    went_on _ _ _ _ (next_atom test c.args.noted.now c.loop-atom.atom-index _ c.loop-atom-test.true) (sym (c.is_host_atom.ensures f) ∙ goes) (c.loop-atom.invariant f)

pub returns : goal.returns
returns c = λ f.
    let test : ℕ × ℕ → Bool = λ g. is_host (content_of (live_in f c.args.live.now.handles) g.1) in
    sym (no_more_atoms test c.args.noted.now c.loop-atom.atom-index c.loop-atom-test.false) ∙ c.loop-atom.invariant f
