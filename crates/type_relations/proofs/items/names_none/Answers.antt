use Rattle.std.proofs.Common.{◌≡◌, rules, subst}
use Rattle.comp_facts.specs.Facts.{IsFuncFactsOf}
use Rattle.type_relations.proofs.ValueLemmas.{value-filled, func-filled}
use Rattle.type_relations.proofs.items.names_none.Goals as goal

pub returns-in-Value : goal.returns-in-Value
returns-in-Value c = λ has. search (rules, c.facts.ensures.handles, value-filled c.in-Value.ty.value)

pub returns-in-Func : goal.returns-in-Func
returns-in-Func c = λ has.
    let ty = c.in-Func.ty.value in
    let is : c.deref-in-Func.result.now ≡ ty = cc in
    let facts = subst (λ p. IsFuncFactsOf p c.facts-in-Func.result.now) is c.facts-in-Func.ensures in
    search (rules, c.has_handle.ensures ty facts, func-filled ty)
