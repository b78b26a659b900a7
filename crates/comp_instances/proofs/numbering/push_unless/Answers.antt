use Rattle.std.proofs.Common.{◌∙◌, ◌++◌, ◌∷◌, [], Bool, not, ap, sym}
use Rattle.std.specs.Prelude.{if◌then◌else◌}
use Rattle.std.proofs.lemmas.List.{append-nil}
use Rattle.comp_instances.proofs.numbering.push_unless.Goals as goal

pub returns-then-has : goal.returns-then-has
returns-then-has c = λ rs h.
    let own = c.args.own.now in
    sym (ap (λ (b : Bool). own ++ (if not b then c.args.number ∷ [] else [])) (sym (c.if-has.ensures rs h)) ∙ append-nil own)

pub returns : goal.returns
returns c = λ rs h. c.in_ok-push.ensures.ok ∙ ap (λ (b : Bool). c.args.own.now ++ (if not b then c.args.number ∷ [] else [])) (c.if-has.ensures rs h)
