use Rattle.std.proofs.Common.{◌∙◌, ap, subst, None}
use Rattle.std.specs.Prelude.{IsUtf8}
use Rattle.wasm_ast.specs.declared.component.ComponentExport.{ComponentExport}
use Rattle.comp_types.specs.Views.{entries_of}
use Rattle.virt_output.specs.Counts.{count_of, and_one}
use Rattle.virt_output.specs.Output.{exports_of}
use Rattle.virt_output.proofs.FitLemmas.{export_more, exports_whole}
use Rattle.virt_output.proofs.items.exports_of.Goals as goal

pub loop-entry-preserved : goal.loop-entry-preserved
loop-entry-preserved c =
    let made : ComponentExport = record { name = c.in_ok-name.name; sort = c.sort_of-sort.result; index = c.of.result; desc = None } in
    export_more c.loop-entry.counts c.and-counts.result c.loop-entry.list c.push.new.self (exports_of (entries_of c.args.entries.now)) made c.loop-entry.rest.now c.in-Some.more.now c.in-Some.entry.now
    c.in-Some.ensures.cases.0 c.in_ok-push.ensures.ok
    (λ i. record { name = (c.in_ok-name.ensures ∙ c.as_str.ensures) i; sort = c.sort_of-sort.ensures i; index = (c.of.ensures ∙ ap (count_of c.loop-entry.counts) c.sort_of-sort.ensures) i; desc = None })
    (c.and-counts.ensures ∙ ap (and_one c.loop-entry.counts) c.sort_of-sort.ensures) (subst IsUtf8 c.as_str.ensures c.as_str.utf8) c.loop-entry.invariant.1 c.loop-entry.invariant.0

pub returns-clause-fits : goal.returns-clause-fits
returns-clause-fits c = exports_whole c.loop-entry.list c.loop-entry.counts c.loop-entry.rest.now c.args.entries.now c.in_default.ensures.cases c.requires c.loop-entry.invariant.0
