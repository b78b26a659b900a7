use Rattle.comp_grammar.specs.Trees.{plain}
use Rattle.component_judge.proofs.Judging.{few_code}
use Rattle.component_judge.proofs.component.test_code_run.Goals as goal

pub returns : goal.returns
returns c = few_code c.args.bytes.now (plain c.args.component.now) c.code_bytes.result c.within.result c.code_bytes.ensures c.within.ensures
