use Rattle.std.proofs.Common.{◌≡◌, ◌∙◌, ap, sym, List, Some, None, is_some, slice_get, refl}
use Rattle.std.specs.Prelude.{option_map, Option}
use Rattle.core_validate.specs.declared.item.CoreExport.{CoreExport}
use Rattle.comp_types.specs.CoreMatching.{core_look_up}
use Rattle.comp_types.specs.Rules.{if_there}
use Rattle.comp_scopes.specs.Arguments.{instance_named}
use Rattle.comp_scopes.specs.Found.{HasExports, found}
use Rattle.comp_scopes.proofs.ArgumentLemmas.{import_given, given_in}
use Rattle.comp_scopes.proofs.EachLemmas.{none_of, some_of}
use Rattle.comp_scopes.proofs.arguments.Arguments.gives.Goals as goal

pub returns-in_default : goal.returns-in_default
returns-in_default c = λ s args h k.
    let i = c.args.import.now in
    let e : instance_named args i.module ≡ None = sym (k i.module) ∙ (sym c.get.ensures ∙ c.in_default.is) in
    sym (import_given s args i ∙ ap (given_in s i.name) e)

pub returns-in-None : goal.returns-in-None
returns-in-None c = λ s args h k.
    let i = c.args.import.now in
    let e : instance_named args i.module ≡ Some c.in-Some.index = sym (k i.module) ∙ (sym c.get.ensures ∙ c.in-Some.is) in
    let o = none_of HasExports (slice_get s.core_instances c.in-Some.index) (c.in-None.ensures s h) in
    sym (import_given s args i ∙ (ap (given_in s i.name) e ∙ ap (if_there (λ (exports : List CoreExport). is_some (core_look_up i.name exports))) o))

some_mapped : {A B : Type 0} (f : A → B) (o : Option A) → is_some o ≡ is_some (option_map f o)
some_mapped f None = refl
some_mapped f (Some x) = refl

pub returns-in-Some-instance_at : goal.returns-in-Some-instance_at
returns-in-Some-instance_at c = λ s args h k.
    let i = c.args.import.now in
    let e : instance_named args i.module ≡ Some c.in-Some.index = sym (k i.module) ∙ (sym c.get.ensures ∙ c.in-Some.is) in
    let x = some_of HasExports (slice_get s.core_instances c.in-Some.index) c.in-Some-instance_at.exports.now (c.in-Some-instance_at.ensures s h) in
    c.is_some.ensures
    ∙ (some_mapped (λ r. r.now) c.get-in-Some-instance_at-2.result
    ∙ (ap is_some (c.get-in-Some-instance_at-2.ensures ∙ (ap (λ m. found m i.name) c.get-in-Some-instance_at.ensures ∙ x.2 i.name))
    ∙ sym (import_given s args i ∙ (ap (given_in s i.name) e ∙ ap (if_there (λ (exports : List CoreExport). is_some (core_look_up i.name exports))) x.1))))
