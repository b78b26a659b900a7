use Rattle.std.proofs.Common.{rules, List, ap, ◌∙◌}
use Rattle.wasi_match.specs.declared.listed.ListedUse.{ListedUse}
use Rattle.inspect_engine.specs.Report.{report}
use Rattle.inspect_engine.proofs.Inspecting.{left_asked, no_component, reported, no_room}
use Rattle.inspect_engine.proofs.engine.inspect.Goals as goal

pub returns-in_err-policy : goal.returns-in_err-policy
returns-in_err-policy g c = left_asked _ _ _ c.in_err-policy.field-0.0 c.from_residual.result (search (rules, c.from_residual.ensures)) c.in_err-policy.ensures

pub returns-in_err-fetched : goal.returns-in_err-fetched
returns-in_err-fetched g c =
    no_component _ _ _ _ c.in_ok-policy.ensures _ c.in_err-fetched.field-0.0 c.from_residual-in_err-fetched.result (search (rules, c.from_residual-in_err-fetched.ensures)) c.in_err-fetched.ensures

pub returns-in-Ok : goal.returns-in-Ok
returns-in-Ok g c =
    let is = c.in-Ok.ensures ∙ ap (λ (uses : List ListedUse). report c.in_ok-policy.policy uses) c.as_slice.ensures in
    reported _ _ _ _ c.in_ok-policy.ensures _ c.in_ok-fetched.fetched c.in_ok-fetched.ensures c.in-Ok.text is

pub returns : goal.returns
returns g c = no_room _ _ _ _ c.in_ok-policy.ensures _ c.in_ok-fetched.fetched c.in_ok-fetched.ensures
