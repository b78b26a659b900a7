use Rattle.output_same.proofs.Outputs.{scope_of, numbers_in, output_stands, same_types, numbers_apart}
use Rattle.output_same.proofs.valid.output_exports_the_same.Goals as goal

pub returns-clause-same : goal.returns-clause-same
returns-clause-same c = λ app h free. same_types app h.valid h.imports free

pub returns-clause-renamed : goal.returns-clause-renamed
returns-clause-renamed c = λ app h. (numbers_in (scope_of app), (output_stands app h.valid h.imports).exports, numbers_apart app h.imports)
