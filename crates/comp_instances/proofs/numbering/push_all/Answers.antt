use Rattle.std.proofs.Common.{◌∙◌, ◌++◌, ◌∷◌, [], ℕ, List, ap, get_or, subst, sym, take, append_assoc}
use Rattle.std.proofs.lemmas.List.{take_more}
use Rattle.comp_scopes.specs.Numbers.{HasNumbers}
use Rattle.comp_instances.proofs.numbering.push_all.Goals as goal

pub loop-number-preserved : goal.loop-number-preserved
loop-number-preserved c = λ rs h.
    let list = c.args.list.now in
    let i = c.loop-number.number-index in
    let x = get_or list i 0 in
    subst (λ (ns : List ℕ). HasNumbers ns c.push.new.self) (append_assoc rs (take i list) (x ∷ []) ∙ ap (λ ys. rs ++ ys) (sym (take_more list i 0 c.loop-number-test.true)))
    (c.in_ok-push.ensures (rs ++ take i list) (c.loop-number.invariant rs h))
