use Rattle.std.proofs.Common.{◌∙◌, ap, sym, map}
use Rattle.std.specs.Prelude.{◌||◌}
use Rattle.comp_names.specs.Same.{is_same_name}
use Rattle.comp_names.specs.Seen.{holds}
use Rattle.comp_indexes.proofs.DifferLemmas.{are_new, starts_new, goes_on, was_new}
use Rattle.comp_indexes.proofs.differ.names_differ.Goals as goal

pub loop-item-init : goal.loop-item-init
loop-item-init g c = starts_new is_same_name (holds c.new-seen.result) c.new-seen.ensures (map g.T.Named.name c.args.items.now)

pub loop-item-preserved : goal.loop-item-preserved
loop-item-preserved g c =
    let name = c.as_str.ensures ∙ c.name.ensures in
    c.loop-item.invariant
    ∙ (ap (λ xs. are_new is_same_name (holds c.loop-item.seen) (map g.T.Named.name xs)) c.in-Some.ensures.cases.0
    ∙ goes_on is_same_name (holds c.loop-item.seen) (holds c.add.new.self) (g.T.Named.name c.in-Some.item.now) (map g.T.Named.name c.in-Some.more.now)
    (λ q. c.in_ok-add.ensures.added q ∙ ap (λ x. is_same_name x q || holds c.loop-item.seen q) name)
    (sym (ap (holds c.loop-item.seen) name) ∙ was_new (holds c.loop-item.seen c.as_str.result.now) c.in_ok-add.field-0 c.in_ok-add.ensures.new c.if-not-branch.false))
