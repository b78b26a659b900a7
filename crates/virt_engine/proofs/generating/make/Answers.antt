use Rattle.std.proofs.Common.{◌≡◌, rules, subst, ℕ}
use Rattle.virt_engine.specs.Generating.{IsWhole}
use Rattle.virt_engine.proofs.GenLaws.{is_whole}
use Rattle.virt_engine.proofs.generating.make.Goals as goal

pub returns-in_ok-ready-in-Returned : goal.returns-in_ok-ready-in-Returned
returns-in_ok-ready-in-Returned c =
    let ready = c.in_ok-ready-in-Returned.ready in
    let same : c.in-Ok.functions ≡ c.args.functions = search (rules, c.in-Ok.ensures) in
    subst (λ (n : ℕ). IsWhole n c.args.out.now ready) same
    (is_whole c.in-Ok.functions c.args.out.now c.in_ok-wrapped.wrapped ready c.in_ok-shown.shown _ c.in_ok-wrapped.ensures c.in_ok-shown.ensures.runs c.in-Returned.is c.in_ok-ready-in-Returned.ensures)
