use Rattle.std.proofs.Common.{sym}
use Rattle.wit_types.proofs.TypingLemmas.{are_of-fields_of}
use Rattle.ref_guards.proofs.arguments.are_each_of.Goals as goal

pub returns-then-values-params : goal.returns-then-values-params
returns-then-values-params c = sym (are_of-fields_of _ _ c.if-values-params.true)
