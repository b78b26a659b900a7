use Rattle.comp_instances.proofs.TableLemmas.{makes_plain}
use Rattle.comp_instances.proofs.exports.define_sound.Goals as goal

pub returns-in_ok-rule-in-None : goal.returns-in_ok-rule-in-None
returns-in_ok-rule-in-None c = λ around s h t stands early.
    (c.in_ok-rule-in-None.ensures around s h c.in-None.is stands early, makes_plain c.args.types.now s c.args.export.now c.in_ok-rule-in-None.rule c.in-None.is)

pub returns-in_ok-rule-in-Some : goal.returns-in_ok-rule-in-Some
returns-in_ok-rule-in-Some c = λ around s h t stands early. c.in_ok-rule-in-Some.ensures around s h t c.in-Some.is early
