use Rattle.std.proofs.Common.{◌≡◌, ◌∙◌, sym, refl, true}
use lib.Pointwise.{pointwise_decides}
use Rattle.virt_base.specs.declared.core_type.CoreType.{CoreType}
use Rattle.virt_base.specs.declared.core_type.CoreType.TheVariants.{I32, I64, Funcref, Externref}
use Rattle.virt_base.specs.contracts.core_type.CoreTypePartialEq.TheImpl.{eq-value}
use Rattle.adapter_rows.proofs.sound.same_types.Goals as goal

decides : (x y : CoreType) → (eq-value.it x y ≡ true → x ≡ y) × (x ≡ y → eq-value.it x y ≡ true)
decides I32 I32 = (λ e. refl, λ e. refl)
decides I32 I64 = (λ e. cc, λ e. cc)
decides I32 Funcref = (λ e. cc, λ e. cc)
decides I32 Externref = (λ e. cc, λ e. cc)
decides I64 I32 = (λ e. cc, λ e. cc)
decides I64 I64 = (λ e. refl, λ e. refl)
decides I64 Funcref = (λ e. cc, λ e. cc)
decides I64 Externref = (λ e. cc, λ e. cc)
decides Funcref I32 = (λ e. cc, λ e. cc)
decides Funcref I64 = (λ e. cc, λ e. cc)
decides Funcref Funcref = (λ e. refl, λ e. refl)
decides Funcref Externref = (λ e. cc, λ e. cc)
decides Externref I32 = (λ e. cc, λ e. cc)
decides Externref I64 = (λ e. cc, λ e. cc)
decides Externref Funcref = (λ e. cc, λ e. cc)
decides Externref Externref = (λ e. refl, λ e. refl)

pub returns : goal.returns
returns c =
    let d = pointwise_decides decides c.args.a.now c.args.b.now in
    (λ e. d.0 (sym c.eq.ensures ∙ e), λ e. c.eq.ensures ∙ d.1 e)
