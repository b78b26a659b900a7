use Rattle.std.proofs.Common.{◌≡◌, ◌∙◌, ap, sym, map, List}
use Rattle.core_body.specs.Context.{Context}
use Rattle.wasm_ast.specs.declared.module.Limits.{Limits}
use Rattle.core_validate.specs.Spaces.{context, memories}
use Rattle.core_validate.specs.Items.{items}
use Rattle.core_validate.specs.Faults.{first_fault}
use Rattle.core_validate.specs.Typed.{core_import, core_export}
use Rattle.core_validate.proofs.LeastLemmas.{valid-from_none, breaks-from_some}
use Rattle.core_validate.proofs.Chains.{module_type}
use Rattle.core_validate.proofs.whole.validate.Goals as goal

pub returns-in-Some : goal.returns-in-Some
returns-in-Some c =
    let m = c.args.core.now in
    breaks-from_some m c.in-Some.rule (sym c.in-Some.is ∙ c.in_ok-rule.ensures ∙ ap (λ (x : Context). first_fault x (items m)) c.lend-spaces.ensures)

pub returns : goal.returns
returns c =
    let m = c.args.core.now in
    let lent = c.lend-spaces.ensures in
    let imports : c.new.result ≡ map (core_import (context m)) m.imports =
    c.new.ensures ∙ c.in_ok-imports-in-None.ensures ∙ ap (λ (x : Context). map (core_import x) c.as_slice.result.now) lent
    ∙ ap (map (core_import (context m))) c.as_slice.ensures in
    let exports : c.new-in-None.result ≡ map (core_export (context m) (memories m)) m.exports =
    c.new-in-None.ensures ∙ c.in_ok-exports-in-None.ensures
    ∙ ap (λ (x : Context). map (core_export x c.as_slice-in-None.result.now) c.as_slice-in-None-2.result.now) lent
    ∙ ap (λ (ms : List Limits). map (core_export (context m) ms) c.as_slice-in-None-2.result.now) (c.as_slice-in-None.ensures.value ∙ c.in_ok-found.ensures.memories)
    ∙ ap (map (core_export (context m) (memories m))) c.as_slice-in-None-2.ensures in (
      valid-from_none m (sym c.in-None.is ∙ c.in_ok-rule.ensures ∙ ap (λ (x : Context). first_fault x (items m)) lent),
      ap (λ a. module_type a c.new-in-None.result) imports ∙ ap (module_type (map (core_import (context m)) m.imports)) exports,
    )
