use Rattle.std.proofs.Common.{◌≡◌, ◌∙◌, sym, ap, Some, None}
use Rattle.std.specs.Option.{option_copied}
use Rattle.reference_step.specs.Listed.{interface_named}
use Rattle.wasi_table.specs.declared.interface.Interface.{Interface}
use Rattle.ref_answers.specs.Versions.{version_in}
use Rattle.ref_answers.proofs.TableLaws.{function_found, function_small}
use Rattle.ref_answers.proofs.table.ListedTable.function.Goals as goal

pub returns-in-Some-clause-value : goal.returns-in-Some-clause-value
returns-in-Some-clause-value c =
    let n = c.in_ok-number.number in
    let named : interface_named (version_in c.args.self.now) c.args.interface.now ≡ Some n = sym c.interface.ensures.value ∙ c.in_ok-number.was in
    let fs = c.as_slice-functions.ensures ∙ ap (λ (i : Interface). i.functions) c.index.ensures in
    let is = sym c.function_by.ensures ∙ ap option_copied c.in-Some.is in
    sym (function_found c.args.self.now c.self.inside.interfaces.items c.self.invariant.described c.args.interface.now c.args.name.now n c.index.result.now c.in_ok-number.ensures.bound c.as_slice-functions.result.now fs (Some c.in-Some.function.now) named is)

pub returns-in-Some-clause-small : goal.returns-in-Some-clause-small
returns-in-Some-clause-small c =
    let n = c.in_ok-number.number in
    let fs = c.as_slice-functions.ensures ∙ ap (λ (i : Interface). i.functions) c.index.ensures in
    let is = sym c.function_by.ensures ∙ ap option_copied c.in-Some.is in
    function_small c.args.self.now c.self.inside.interfaces.items c.self.invariant.described c.args.interface.now c.args.name.now n c.index.result.now c.in_ok-number.ensures.bound c.as_slice-functions.result.now fs c.in-Some.function.now is

pub returns-in-None-clause-value : goal.returns-in-None-clause-value
returns-in-None-clause-value c =
    let n = c.in_ok-number.number in
    let named : interface_named (version_in c.args.self.now) c.args.interface.now ≡ Some n = sym c.interface.ensures.value ∙ c.in_ok-number.was in
    let fs = c.as_slice-functions.ensures ∙ ap (λ (i : Interface). i.functions) c.index.ensures in
    let is = sym c.function_by.ensures ∙ ap option_copied c.in-None.is in
    sym (function_found c.args.self.now c.self.inside.interfaces.items c.self.invariant.described c.args.interface.now c.args.name.now n c.index.result.now c.in_ok-number.ensures.bound c.as_slice-functions.result.now fs None named is)
