use Rattle.std.proofs.Common.{◌≡◌, ◌∙◌, ap, sym, subst, true}
use Rattle.std.specs.Prelude.{Result, Ok, Err, IfOk}
use Rattle.wasm_ast.specs.declared.component.Canon.{Canon}
use Rattle.wasm_ast.specs.declared.component.Canon.TheVariants.{Lift, Lower}
use Rattle.comp_types.specs.Definitions.{ACanon}
use Rattle.comp_types.specs.Rules.{canon_stands, lengths_of}
use Rattle.comp_scopes.specs.Judged.{Judged}
use Rattle.comp_lifting.proofs.canons.define_canon.Goals as goal

if_ok : {A E : Type 0} {P Q : A → Type 0} (r : Result A E) → ((a : A) → P a → Q a) → IfOk r P → IfOk r Q
if_ok (Ok a) f h = f a h
if_ok (Err e) f h = h

pub returns-in-Lift : goal.returns-in-Lift
returns-in-Lift c =
    let e : Lift c.in-Lift.func c.as_slice.result.now c.in-Lift.ty ≡ c.args.canon.now = ap (λ o. Lift c.in-Lift.func o c.in-Lift.ty) c.as_slice.ensures ∙ sym c.in-Lift.is in
    if_ok c.define_lift.result (λ rule k around s h.
    let stands : canon_stands (lengths_of s) (Lift c.in-Lift.func c.as_slice.result.now c.in-Lift.ty) ≡ true =
    ap (canon_stands (lengths_of s)) e ∙ (ap (λ l. canon_stands l c.args.canon.now) (sym (c.lengths.ensures s h)) ∙ sym c.if-not-canon_stands.ensures) in
    subst (λ (x : Canon). Judged around s (ACanon x) c.define_lift.new.scope rule) e (k around s h stands)) c.define_lift.ensures

pub returns-in-Lower : goal.returns-in-Lower
returns-in-Lower c =
    let e : Lower c.in-Lower.func c.as_slice-in-Lower.result.now ≡ c.args.canon.now = ap (Lower c.in-Lower.func) c.as_slice-in-Lower.ensures ∙ sym c.in-Lower.is in
    if_ok c.define_lower.result (λ rule k around s h.
    let stands : canon_stands (lengths_of s) (Lower c.in-Lower.func c.as_slice-in-Lower.result.now) ≡ true =
    ap (canon_stands (lengths_of s)) e ∙ (ap (λ l. canon_stands l c.args.canon.now) (sym (c.lengths.ensures s h)) ∙ sym c.if-not-canon_stands.ensures) in
    subst (λ (x : Canon). Judged around s (ACanon x) c.define_lower.new.scope rule) e (k around s h stands)) c.define_lower.ensures
