use Rattle.std.proofs.Common.{sym, subst}
use Rattle.comp_types.specs.Substitution.{partner_in}
use Rattle.type_table.specs.Tables.{IsSound}
use Rattle.type_table.specs.Walks.{Walk}
use Rattle.type_table.specs.Made.{MadeOf}
use Rattle.type_table.specs.declared.making.Made.{Made}
use Rattle.type_table.proofs.MakingLemmas.{kept-made, made-same}
use Rattle.type_table.proofs.making.Making.keep.Goals as goal

pub invariant_of-self : goal.invariant_of-self
invariant_of-self c = made-same c.self.inside.table (partner_in c.self.inside.by.now) c.self.inside.made.items c.push.new.self.items c.in_err-push.ensures.items c.self.invariant

pub invariant_of-self-in_err-insert : goal.invariant_of-self-in_err-insert
invariant_of-self-in_err-insert c =
    let m : Made = record { at = c.args.at; new = c.args.new } in
    kept-made c.self.inside.table (partner_in c.self.inside.by.now) c.self.inside.made.items c.push.new.self.items m c.in_ok-push.ensures.items c.self.invariant
    (subst (λ (w : Walk). IsSound w.types → MadeOf w.types (partner_in w.by) c.args.at c.args.new.value) (sym c.self.view_is) c.requires)

pub invariant_of-self-2 : goal.invariant_of-self-2
invariant_of-self-2 c =
    let m : Made = record { at = c.args.at; new = c.args.new } in
    kept-made c.self.inside.table (partner_in c.self.inside.by.now) c.self.inside.made.items c.push.new.self.items m c.in_ok-push.ensures.items c.self.invariant
    (subst (λ (w : Walk). IsSound w.types → MadeOf w.types (partner_in w.by) c.args.at c.args.new.value) (sym c.self.view_is) c.requires)
