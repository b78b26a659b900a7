use Rattle.std.proofs.Common.{◌≡◌, ◌<◌, ◌∷◌, [], Some, take, length, max, arith, ap, ◌∙◌}
use Rattle.virt_base.specs.declared.core_type.CoreType.TheVariants.{I32}
use Rattle.wit_types.specs.Layout.{join}
use Rattle.abi_layout.specs.Flat.{add_within}
use Rattle.abi_layout.proofs.FlatLemmas.{add_within-take, joined_start, joined_long, joined_short, length-joined}
use Rattle.abi_layout.proofs.flattening.joined.Goals as goal

pub returns-then-count-gt16 : goal.returns-then-count-gt16
returns-then-count-gt16 c = c.too_many.ensures ∙ joined_long _ _ _ _ (omega arith)

pub loop-i-init : goal.loop-i-init
loop-i-init c = joined_start _ (join (take c.args.one.now.count c.args.one.now.types) (take c.args.other.now.count c.args.other.now.types)) c.empty-all.ensures

pub loop-i-preserved : goal.loop-i-preserved
loop-i-preserved c =
    let both = join (take c.args.one.now.count c.args.one.now.types) (take c.args.other.now.count c.args.other.now.types) in
    let lt : c.loop-i.i < length both =
    omega (arith, length-joined c.args.one.now.types c.args.other.now.types c.args.one.now.count c.args.other.now.count (omega (arith, c.args.one.now.whole)) (omega (arith, c.args.other.now.whole))) in
    c.push.ensures ∙ ap (λ o. add_within o (c.joined_at.result ∷ [])) c.loop-i.invariant
    ∙ ap (λ e. add_within (add_within (Some []) (take c.loop-i.i both)) (e ∷ [])) c.joined_at.ensures
    ∙ add_within-take (Some []) both c.loop-i.i I32 lt

pub returns : goal.returns
returns c =
    let both = join (take c.args.one.now.count c.args.one.now.types) (take c.args.other.now.count c.args.other.now.types) in
    let all : c.loop-i.i ≡ max c.args.one.now.count c.args.other.now.count = omega arith in
    c.loop-i.invariant ∙ ap (λ n. add_within (Some []) (take n both)) all
    ∙ joined_short _ _ _ _ (omega (arith, c.args.one.now.whole)) (omega (arith, c.args.other.now.whole)) (omega arith)
