use Rattle.std.proofs.Common.{◌∙◌, ap, sym, Some, is_some, cond, nat_eq}
use Rattle.instance_making.specs.Outside.{resource_at}
use Rattle.instance_making.specs.declared.imports.HostResources.{HostResources}
use Rattle.instance_making.proofs.KnownLemmas.{known_still, known_new}
use Rattle.instance_making.proofs.imports.HostResources.note.Goals as goal

pub returns-then-has : goal.returns-then-has
unfolding resource_at
returns-then-has c = λ ks h.
    known_still c.args.self.now _ ks (record { number = c.args.number; resource = record { interface = c.args.interface.now; name = c.args.name.now } }) h
    (ap (λ (s : HostResources). s.behind) c.in_ok-count.ensures) (λ r. ap (λ s. resource_at s r) c.in_ok-count.ensures)
    (ap (λ s. is_some (resource_at s c.args.number)) (sym c.in_ok-count.ensures) ∙ (sym c.has.ensures ∙ c.if-has.true))

pub returns : goal.returns
unfolding resource_at
returns c = λ ks h.
    known_new c.args.self.now (record { by_number = c.insert.new.self; behind = c.count.new.self.behind }) ks (record { number = c.args.number; resource = record { interface = c.args.interface.now; name = c.args.name.now } }) h
    (ap (λ (s : HostResources). s.behind) c.in_ok-count.ensures)
    (λ r. c.in_ok-insert.ensures.updates.0 r ∙ (λ i. cond (nat_eq c.args.number r) (Some (record { interface = c.in_ok-copy.ensures i; name = c.in_ok-copy-2.ensures i })) (resource_at (c.in_ok-count.ensures i) r)))
    (ap (λ s. is_some (resource_at s c.args.number)) (sym c.in_ok-count.ensures) ∙ (sym c.has.ensures ∙ c.if-has.false))
