use Rattle.std.proofs.Common.{List, sym, subst}
use Rattle.std.proofs.lemmas.Bool.{OnTrue_at, OnTrue_from}
use Rattle.core_body.specs.declared.parts.Level.{Level}
use Rattle.core_body.specs.declared.parts.Places.{Places}
use Rattle.core_body.specs.Parts.{AreLevels, IsBehind, place_in}
use Rattle.core_body.proofs.PartLemmas.{slices-tell}
use Rattle.core_body.proofs.parts.same_slices.Goals as goal

pub returns : goal.returns
returns c =
    OnTrue_from c.same_text.result _
    (λ e types index la lb.
    slices-tell types c.args.parts.now c.args.a c.args.b c.args.from_a c.args.from_b c.in-Some.i c.in-Some-text_at.j c.args.len
    (subst (λ (ps : List Places). IsBehind (place_in ps c.args.a) c.args.from_a c.in-Some.i) c.as_slice-places.ensures.value c.in-Some.ensures)
    (subst (λ (ps : List Places). IsBehind (place_in ps c.args.b) c.args.from_b c.in-Some-text_at.j) c.as_slice-places.ensures.value c.in-Some-text_at.ensures)
    (λ text levels. OnTrue_at e c.same_text.ensures text (subst (λ (ls : List Level). AreLevels text ls) (sym c.as_slice.ensures.value) levels)) index la lb)
