use Rattle.std.proofs.Common.{◌≡◌, ◌+◌, true, false, not, drop, get_or, rules, sym, ap, ◌∙◌}
use Rattle.reference_step.specs.Atoms.{handle_in, handles}
use Rattle.reference_step.specs.Steps.{is_none_given}
use Rattle.ref_guards.specs.declared.atoms.Atom.TheVariants.{Text}
use Rattle.ref_guards.specs.Noted.{shown, shown_all}
use Rattle.ref_guards.proofs.EnterLemmas.{next_handles, no_more_handles}
use Rattle.reference_host.proofs.TestLemmas.{none_first, some_first}
use Rattle.reference_host.proofs.testing.have_no_handle.Goals as goal

pub loop-atom-preserved : goal.loop-atom-preserved
loop-atom-preserved g c =
    let h = g.H.Host.step in
    let no : c.is_handle.result ≡ false = search rules in
    let a = handle_in (shown (get_or c.args.noted.now c.loop-atom.atom-index (Text 0))) in
    let b = handles (shown_all (drop (c.loop-atom.atom-index + 1) c.args.noted.now)) in
    sym (none_first h a b (c.is_handle.ensures ∙ ap not no)) ∙ sym (ap (is_none_given h) (next_handles c.args.noted.now c.loop-atom.atom-index (Text 0) c.loop-atom-test.true)) ∙ c.loop-atom.invariant

pub returns-then-is_handle : goal.returns-then-is_handle
returns-then-is_handle g c =
    let h = g.H.Host.step in
    let yes : c.is_handle.result ≡ true = search rules in
    let a = handle_in (shown (get_or c.args.noted.now c.loop-atom.atom-index (Text 0))) in
    let b = handles (shown_all (drop (c.loop-atom.atom-index + 1) c.args.noted.now)) in
    sym (sym c.loop-atom.invariant ∙ ap (is_none_given h) (next_handles c.args.noted.now c.loop-atom.atom-index (Text 0) c.loop-atom-test.true) ∙ some_first h a b (c.is_handle.ensures ∙ ap not yes))

pub returns : goal.returns
returns g c = sym (sym c.loop-atom.invariant ∙ ap (is_none_given g.H.Host.step) (no_more_handles c.args.noted.now c.loop-atom.atom-index c.loop-atom-test.false))
