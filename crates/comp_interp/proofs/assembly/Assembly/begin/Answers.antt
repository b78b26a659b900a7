use Rattle.std.proofs.Common.{◌∙◌, sym, refl, ◌++◌, ◌∷◌, []}
use Rattle.comp_calls.specs.Moments.{at}
use Rattle.comp_interp.proofs.Entering.{rest_more, entered_made, entered_number}
use Rattle.comp_interp.proofs.assembly.Assembly.begin.Goals as goal

pub returns-clause-enters : goal.returns-clause-enters
returns-clause-enters g c = λ before w items are whole idle holds.
    let m = at g.H.Host.kept c.args.self.now.world in
    let made = c.args.self.now.made.items in
    let i = c.instance_at_rest.result in
    let stands = c.begin.ensures (before ++ items ∷ []) items w (sym whole.instances ∙ sym c.args.self.now.world.instances.ok.0 ∙ sym c.len.ensures ∙ sym c.in-Ok.ensures.1) (entered_number before made items c.len-place.result are (c.len-place.ensures ∙ c.args.self.now.made.ok.0)) in (
      entered_made g.H.Host.step before made m w items are whole idle c.args.given holds i c.instance_at_rest.ensures.code c.instance_at_rest.ensures.config c.push.new.self.items c.in_ok-push.ensures.items c.new.result c.new.ensures.items c.push-2.new.self
          c.in_ok-push-2.ensures.items c.push-3.new.self.items c.begin.result c.in_ok-push-3.ensures.items stands,
      rest_more g.H.Host.step before made m w items are whole idle c.args.given holds i c.instance_at_rest.ensures.code c.instance_at_rest.ensures.config c.push.new.self.items c.in_ok-push.ensures.items c.new.result c.new.ensures.items c.push-2.new.self
          c.in_ok-push-2.ensures.items m.kept.state,
      refl,
      refl,
    )
