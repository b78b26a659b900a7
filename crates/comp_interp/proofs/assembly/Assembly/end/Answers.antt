use Rattle.std.proofs.Common.{◌++◌, ◌∷◌, [], sym, subst}
use Rattle.instance_making.specs.Shown.{Stands}
use Rattle.comp_link.specs.Linking.{with_component}
use Rattle.comp_types.specs.GivenResources.{numbered}
use Rattle.comp_interp.specs.Levels.{AreSound}
use Rattle.comp_interp.proofs.Sounding.{sound_push, sound_pop}
use Rattle.comp_interp.proofs.assembly.Assembly.end.Goals as goal

pub returns-clause-sound : goal.returns-clause-sound
returns-clause-sound g c =
    let was = sound_pop c.args.linked.now c.pop.new.self.items c.in-Some.holder (subst (AreSound c.args.linked.now) c.in-Some.ensures.items c.requires.levels) in
    subst (AreSound c.args.linked.now) (sym c.in_ok-push.ensures.items) (sound_push c.args.linked.now c.pop.new.self.items _ was.0 was.1)

pub returns-clause-held : goal.returns-clause-held
returns-clause-held g c = (
  c.pop.new.self.items,
  c.in-Some.holder,
  c.hold.new.self,
  c.in-Some.ensures.items,
  c.in_ok-push.ensures.items,
  λ before gm h are stands inner.
      let now = c.in_ok-hold.ensures before gm h are stands inner in (now.0, subst (λ own. Stands (before ++ h.exports ∷ []) c.hold.new.self (with_component gm (numbered own c.args.done.first) h)) c.own-own.ensures now.1),
)
