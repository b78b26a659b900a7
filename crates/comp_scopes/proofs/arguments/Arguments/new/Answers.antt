use Rattle.std.proofs.Common.{◌∙◌, ap, sym, Some}
use Rattle.std.specs.Prelude.{if◌then◌else◌}
use Rattle.std.specs.Option.{option_or}
use Rattle.comp_types.specs.CoreMatching.{same_text}
use Rattle.comp_scopes.specs.Arguments.{given, instance_named}
use Rattle.comp_scopes.proofs.NamedLemmas.{arg_last}
use Rattle.comp_scopes.proofs.arguments.Arguments.new.Goals as goal

pub loop-arg-preserved : goal.loop-arg-preserved
loop-arg-preserved c = λ q.
    ap (option_or (instance_named c.in-Some.more.now q))
    (c.in_ok-put.ensures q ∙ ap (λ n. if same_text n q then Some c.in-Some.arg.now.instance else given c.loop-arg.arguments q) c.as_str.ensures)
    ∙ (sym (arg_last q c.in-Some.more.now c.in-Some.arg.now (given c.loop-arg.arguments q))
    ∙ (ap (λ xs. option_or (instance_named xs q) (given c.loop-arg.arguments q)) (sym c.in-Some.ensures.cases.0)
    ∙ c.loop-arg.invariant q))
