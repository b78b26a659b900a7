use Rattle.std.proofs.Common.{◌∙◌, ◌+◌, ap, drop, sym}
use Rattle.std.specs.Prelude.{◌&&◌}
use Rattle.std.specs.List.{list_all}
use Rattle.std.proofs.lemmas.List.{drop_more}
use Rattle.comp_types.specs.GivenResources.{is_among}
use Rattle.comp_instances.proofs.numbering.are_among.Goals as goal

pub returns-then-not-has : goal.returns-then-not-has
returns-then-not-has c = λ rs h.
    let these = c.args.these.now in
    let i = c.loop-number.number-index in
    ap (λ b. b && list_all (is_among rs) (drop (i + 1) these)) (c.if-not-has.ensures rs h)
    ∙ (sym (ap (list_all (is_among rs)) (drop_more these i 0 c.loop-number-test.true)) ∙ sym (c.loop-number.invariant rs h))

pub loop-number-preserved : goal.loop-number-preserved
loop-number-preserved c = λ rs h.
    let these = c.args.these.now in
    let i = c.loop-number.number-index in
    c.loop-number.invariant rs h
    ∙ (ap (list_all (is_among rs)) (drop_more these i 0 c.loop-number-test.true) ∙ sym (ap (λ b. b && list_all (is_among rs) (drop (i + 1) these)) (c.if-not-has.ensures rs h)))
