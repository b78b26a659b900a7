use Rattle.std.proofs.Common.{◌≡◌, ◌<◌, [], ◌∷◌, take, length, get_or, arith, ap, ◌∙◌, sym}
use Rattle.abi_layout.specs.Flat.{types_of, add_within, append_within}
use Rattle.abi_layout.proofs.FlatLemmas.{add_within-flat, add_within-take, append_within-none, append_within-some, flag-long, flag-short}
use Rattle.virt_base.specs.declared.core_type.CoreType.TheVariants.{I32}
use Rattle.abi_layout.proofs.flat_types.Flat.append.Goals as goal

pub loop-i-init : goal.loop-i-init
loop-i-init c = add_within-flat _ _

pub loop-i-preserved : goal.loop-i-preserved
loop-i-preserved c =
    let lt : c.loop-i.i < length c.args.other.now.types = omega (arith, c.args.other.now.whole) in
    c.push.ensures ∙ ap (λ o. add_within o (get_or c.args.other.now.types c.loop-i.i I32 ∷ [])) c.loop-i.invariant
    ∙ add_within-take (types_of c.args.self.now) c.args.other.now.types c.loop-i.i I32 lt

pub returns-after-loop-i : goal.returns-after-loop-i
returns-after-loop-i c =
    let all : c.loop-i.i ≡ c.args.other.now.count = omega arith in
    c.loop-i.invariant ∙ ap (λ n. add_within (types_of c.args.self.now) (take n c.args.other.now.types)) all
    ∙ sym (ap (append_within (types_of c.args.self.now)) (flag-short _ _ c.if-other-gt16.false) ∙ append_within-some _ _)

pub returns-then-other-gt16 : goal.returns-then-other-gt16
returns-then-other-gt16 c = sym (ap (append_within _) (flag-long _ _ c.if-other-gt16.true) ∙ append_within-none _)
