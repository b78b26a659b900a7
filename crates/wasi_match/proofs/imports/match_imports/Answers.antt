use Rattle.std.proofs.Common.{◌∙◌, sym, ap, subst, Option, take}
use Rattle.std.proofs.lemmas.List.{get_or_default}
use Rattle.comp_types.specs.Items.{Entries}
use Rattle.comp_types.specs.Views.{item_of, entries_of}
use Rattle.comp_types.specs.declared.types.InstanceEntry.{InstanceEntry}
use Rattle.comp_signature.specs.Signatures.{component_signature}
use Rattle.wasi_match.specs.declared.fault.Cause.{Cause}
use Rattle.wasi_match.specs.declared.fault.Cause.TheVariants.{HandleExport}
use Rattle.wasi_match.specs.Begun.{IsBegun, Steps}
use Rattle.wasi_match.proofs.BegunLaws.{begun_listed}
use Rattle.wasi_match.proofs.PlaceLaws.{one_further, fault_here, is_refused, answers, all_taken}
use Rattle.wasi_match.proofs.imports.match_imports.Goals as goal

pub returns-in-Some : goal.returns-in-Some
returns-in-Some c =
    let xs = c.as_slice-imports.result.now in
    let i = c.loop-i.i in
    let less = c.loop-i-test.true in
    let x = c.index-imports-i.result in
    let is = c.index-imports-i.is in
    let same = get_or_default xs i c.index-imports-i-in-Some.result x less ∙ sym is in
    let before = entries_of (take i xs) in
    let fault = subst (λ (o : Option Cause). Steps o before x.name (item_of x.ty) c.loop-i.matched.uses c.match_import.new.matched.uses c.match_import.new.matched.kinds) c.in-Some.is (c.in_ok-cause.ensures before c.loop-i.invariant) in
    let imports = c.args.ty.now.imports in
    let here = fault_here xs i x less is c.in-Some.cause imports c.loop-i.matched.uses c.loop-i.matched.kinds c.as_slice-imports.ensures c.loop-i.invariant fault in
    answers (component_signature c.args.ty.now) c.fault_at.result c.in-Some.cause c.in_ok-copy.field-0 x.name c.fault_at.ensures (c.in_ok-copy.ensures ∙ ap (λ (e : InstanceEntry). e.name) same)
    (is_refused c.in-Some.cause (component_signature c.args.ty.now) x.name here)

pub loop-i-preserved : goal.loop-i-preserved
loop-i-preserved c =
    let xs = c.as_slice-imports.result.now in
    let i = c.loop-i.i in
    let less = c.loop-i-test.true in
    let x = c.index-imports-i.result in
    let is = c.index-imports-i.is in
    let before = entries_of (take i xs) in
    let more = subst (λ (o : Option Cause). Steps o before x.name (item_of x.ty) c.loop-i.matched.uses c.match_import.new.matched.uses c.match_import.new.matched.kinds) c.in_default.is (c.in_ok-cause.ensures before c.loop-i.invariant) in
    subst (λ (e : Entries). IsBegun e c.match_import.new.matched.uses c.match_import.new.matched.kinds) (sym (one_further xs i x less is)) more

pub returns-in-None : goal.returns-in-None
returns-in-None c = record {
  imports = begun_listed c.args.ty.now.imports c.loop-i.matched.uses c.loop-i.matched.kinds
      (subst (λ (e : Entries). IsBegun e c.loop-i.matched.uses c.loop-i.matched.kinds) (all_taken c.as_slice-imports.result.now c.loop-i.i c.loop-i-test.false ∙ c.as_slice-imports.ensures) c.loop-i.invariant);
  exports = c.in-None.ensures;
}

pub returns-in_ok-copy-in-Some-first_with_handle : goal.returns-in_ok-copy-in-Some-first_with_handle
returns-in_ok-copy-in-Some-first_with_handle c =
    let name = c.in-Some-first_with_handle.name.now in
    let begun = subst (λ (e : Entries). IsBegun e c.loop-i.matched.uses c.loop-i.matched.kinds) (all_taken c.as_slice-imports.result.now c.loop-i.i c.loop-i-test.false ∙ c.as_slice-imports.ensures) c.loop-i.invariant in
    let listed = begun_listed c.args.ty.now.imports c.loop-i.matched.uses c.loop-i.matched.kinds begun in
    answers (component_signature c.args.ty.now) c.fault_at-in-Some-first_with_handle.result HandleExport c.in_ok-copy-in-Some-first_with_handle.field-0 name c.fault_at-in-Some-first_with_handle.ensures
    c.in_ok-copy-in-Some-first_with_handle.ensures (c.loop-i.matched.uses, listed, c.in-Some-first_with_handle.ensures)
