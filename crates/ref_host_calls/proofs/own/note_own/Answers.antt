use Rattle.std.proofs.Common.{◌++◌, List, length, sym, ap, subst, ◌∙◌}
use Rattle.tree_table.specs.declared.entries.NamedTree.{NamedTree}
use Rattle.tree_table.specs.Tables.{Holds}
use Rattle.reference_step.specs.Steps.{roots_from}
use Rattle.ref_host_calls.specs.Offers.{AreInside, shown_all}
use Rattle.ref_host_calls.proofs.OfferLemmas.{on_map, behind}
use Rattle.ref_host_calls.proofs.own.note_own.Goals as goal

pub returns-clause-noted : goal.returns-clause-noted
returns-clause-noted g c = on_map c.note_scratch.result _ _ (λ e f h.
    behind _ _ _ _ _ (e f)
    (c.in_ok-note_roots.ensures.noted f (subst (λ (ts : List NamedTree). Holds ts f) (sym c.as_slice.ensures) h)
    ∙ ap (λ (ts : List NamedTree). shown_all g.H.Host.step f c.args.offers.now.items ++ roots_from g.H.Host.step 0 ts) c.as_slice.ensures)) c.note_scratch.ensures.noted

pub returns-clause-inside : goal.returns-clause-inside
returns-clause-inside g c = on_map c.note_scratch.result _ _ (λ e all.
    e (length c.args.folders.trees.now) (subst (λ (ts : List NamedTree). AreInside (length ts) c.args.offers.now.items → AreInside (length ts) c.note_roots.new.offers.items) c.as_slice.ensures c.in_ok-note_roots.ensures.inside all)) c.note_scratch.ensures.inside
