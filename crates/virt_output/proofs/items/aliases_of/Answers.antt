use Rattle.std.proofs.Common.{◌∙◌, subst}
use Rattle.std.specs.Prelude.{IsUtf8}
use Rattle.wasm_ast.specs.declared.component.Alias.TheVariants.{Export}
use Rattle.comp_types.specs.Views.{entries_of}
use Rattle.virt_output.specs.Output.{aliases_of}
use Rattle.virt_output.proofs.FitLemmas.{alias_more, aliases_whole}
use Rattle.virt_output.proofs.items.aliases_of.Goals as goal

pub loop-entry-preserved : goal.loop-entry-preserved
loop-entry-preserved c =
    alias_more c.loop-entry.list c.push.new.self (aliases_of (entries_of c.args.entries.now)) (Export c.sort_of.result 0 c.in_ok-name.name) c.loop-entry.rest.now c.in-Some.more.now c.in-Some.entry.now
    c.in-Some.ensures.cases.0 c.in_ok-push.ensures.ok (λ i. Export (c.sort_of.ensures i) 0 ((c.in_ok-name.ensures ∙ c.as_str.ensures) i)) (subst IsUtf8 c.as_str.ensures c.as_str.utf8) c.loop-entry.invariant

pub returns-clause-fits : goal.returns-clause-fits
returns-clause-fits c = aliases_whole c.loop-entry.list c.loop-entry.rest.now c.args.entries.now c.in_default.ensures.cases c.requires c.loop-entry.invariant
