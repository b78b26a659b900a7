use Rattle.std.proofs.Common.{◌≡◌, ◌∙◌, ap, refl}
use Rattle.comp_worlds.specs.Groups.{Mine as ItsOwn}
use Rattle.instance_state.specs.Targets.{lifting_of, target_of}
use Rattle.instance_state.specs.declared.target.Target.TheVariants.{Mine}
use Rattle.comp_link.specs.Linking.{lifting_of as lifting_in}
use Rattle.instance_making.proofs.KeepLemmas.{lift_one}
use Rattle.instance_making.proofs.making.Making.lift.Goals as goal

pub returns : goal.returns
returns c = λ made g h.
    let t = Mine c.args.self.now.instance c.in_ok-lifting-2.lifting in
    let same : lifting_of c.in_ok-lifting-2.lifting.value ≡ lifting_in g c.args.func c.args.options.now c.args.ty.now.value = ap lifting_of c.in_ok-lifting-2.ensures.ok ∙ c.in_ok-lifting.ensures made g h in
    let e : target_of t ≡ ItsOwn g.instance (lifting_in g c.args.func c.args.options.now c.args.ty.now.value) = λ i. ItsOwn (h.instance i) (same i) in
    lift_one made c.args.self.now _ g t c.args.func c.args.options.now c.args.ty.now.value h e refl c.in_ok-push.ensures.items
