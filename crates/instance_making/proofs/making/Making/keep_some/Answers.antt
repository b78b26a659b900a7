use Rattle.std.proofs.Common.{sym, subst}
use Rattle.comp_link.specs.Linking.{and_item}
use Rattle.instance_making.specs.Made.{IsSame}
use Rattle.instance_making.specs.Shown.{Stands}
use Rattle.instance_making.proofs.FoundLemmas.{same_none, same_some}
use Rattle.instance_making.proofs.KeepLemmas.{keep_none}
use Rattle.instance_making.proofs.making.Making.keep_some.Goals as goal

pub returns-in-None : goal.returns-in-None
returns-in-None c = λ made g o k h. keep_none made c.args.self.now g o (same_none made o (subst (λ i. IsSame made i o) c.in-None.is k)) h

pub returns-in_ok-keep-in-Some : goal.returns-in_ok-keep-in-Some
returns-in_ok-keep-in-Some c = λ made g o k h.
    let x = same_some made c.in-Some.item o (subst (λ i. IsSame made i o) c.in-Some.is k) in
    subst (λ p. Stands made c.keep.new.self (and_item g p)) (sym x.1) (c.in_ok-keep-in-Some.ensures made g x.0 x.2 h)
