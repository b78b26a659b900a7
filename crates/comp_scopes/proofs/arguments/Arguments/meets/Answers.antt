use Rattle.std.proofs.Common.{◌≡◌, ◌∙◌, ap, sym, Some, None, slice_get}
use Rattle.std.specs.Prelude.{option_map}
use Rattle.std.specs.Option.{option_and_then}
use Rattle.comp_types.specs.CoreMatching.{core_look_up, meets}
use Rattle.comp_types.specs.Rules.{if_there}
use Rattle.comp_scopes.specs.Arguments.{instance_named}
use Rattle.comp_scopes.specs.Found.{HasExports, found}
use Rattle.comp_scopes.proofs.ArgumentLemmas.{import_met, met_in}
use Rattle.comp_scopes.proofs.EachLemmas.{none_of, some_of}
use Rattle.comp_scopes.proofs.arguments.Arguments.meets.Goals as goal

pub returns-in_default : goal.returns-in_default
returns-in_default c = λ s args h k.
    let i = c.args.import.now in
    let e : instance_named args i.module ≡ None = sym (k i.module) ∙ (sym c.get.ensures ∙ c.in_default.is) in
    sym (import_met s args i ∙ ap (met_in s i) e)

pub returns-in_default-instance_at : goal.returns-in_default-instance_at
returns-in_default-instance_at c = λ s args h k.
    let i = c.args.import.now in
    let e : instance_named args i.module ≡ Some c.in-Some.index = sym (k i.module) ∙ (sym c.get.ensures ∙ c.in-Some.is) in
    let o = none_of HasExports (slice_get s.core_instances c.in-Some.index) (c.in_default-instance_at.ensures s h) in
    sym (import_met s args i ∙ (ap (met_in s i) e ∙ ap (λ o. if_there (λ item. meets item i.item) (option_and_then (core_look_up i.name) o)) o))

pub returns-in-None : goal.returns-in-None
returns-in-None c = λ s args h k.
    let i = c.args.import.now in
    let e : instance_named args i.module ≡ Some c.in-Some.index = sym (k i.module) ∙ (sym c.get.ensures ∙ c.in-Some.is) in
    let x = some_of HasExports (slice_get s.core_instances c.in-Some.index) c.in-Some-instance_at.exports.now (c.in-Some-instance_at.ensures s h) in
    let n : core_look_up i.name x.0 ≡ None = sym (x.2 i.name) ∙ (ap (λ m. found m i.name) (sym c.get-2.ensures) ∙ (sym c.get-3.ensures ∙ ap (option_map (λ r. r.now)) c.in-None.is)) in
    sym (import_met s args i ∙ (ap (met_in s i) e ∙ (ap (λ o. if_there (λ item. meets item i.item) (option_and_then (core_look_up i.name) o)) x.1 ∙ ap (if_there (λ item. meets item i.item)) n)))

pub returns-in-Some-get : goal.returns-in-Some-get
returns-in-Some-get c = λ s args h k.
    let i = c.args.import.now in
    let e : instance_named args i.module ≡ Some c.in-Some.index = sym (k i.module) ∙ (sym c.get.ensures ∙ c.in-Some.is) in
    let x = some_of HasExports (slice_get s.core_instances c.in-Some.index) c.in-Some-instance_at.exports.now (c.in-Some-instance_at.ensures s h) in
    let n : core_look_up i.name x.0 ≡ Some c.in-Some-get.item.now =
    sym (x.2 i.name) ∙ (ap (λ m. found m i.name) (sym c.get-2.ensures) ∙ (sym c.get-3.ensures ∙ ap (option_map (λ r. r.now)) c.in-Some-get.is)) in
    c.meets.ensures ∙ sym (import_met s args i ∙ (ap (met_in s i) e ∙ (ap (λ o. if_there (λ item. meets item i.item) (option_and_then (core_look_up i.name) o)) x.1 ∙ ap (if_there (λ item. meets item i.item)) n)))
