use Rattle.std.proofs.Common.{◌∙◌, ap, sym}
use Rattle.std.specs.Option.{option_or}
use Rattle.comp_types.specs.CoreMatching.{core_look_up}
use Rattle.comp_types.specs.Added.{core_named}
use Rattle.comp_scopes.specs.Found.{found}
use Rattle.comp_scopes.proofs.NamedLemmas.{named_last}
use Rattle.comp_scopes.proofs.instances.inline_exports.Goals as goal

pub loop-export-preserved : goal.loop-export-preserved
loop-export-preserved c = λ s h q.
    ap (option_or (core_look_up q (core_named s c.in-Some.more.now))) (c.in_ok-put_named.ensures s h q)
    ∙ (sym (named_last s q c.in-Some.more.now c.in-Some.export.now (found c.loop-export.map q))
    ∙ (ap (λ xs. option_or (core_look_up q (core_named s xs)) (found c.loop-export.map q)) (sym c.in-Some.ensures.cases.0)
    ∙ c.loop-export.invariant s h q))
