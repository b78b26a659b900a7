use Rattle.std.proofs.Common.{◌∙◌, ◌<◌, ap, refl, sym, subst, Ok, Err}
use Rattle.std.specs.Prelude.{option_map}
use Rattle.comp_calls.specs.Moments.{at}
use Rattle.comp_link.specs.Planned.{args_named}
use Rattle.comp_interp.specs.Gathered.{Begins, ModuleComes}
use Rattle.comp_interp.specs.Parts.{part_limit}
use Rattle.comp_interp.proofs.Coming.{not_ok, component_comes, component_fails, module_fails, other_comes, other_fails}
use Rattle.comp_interp.proofs.Sounding.{module_found}
use Rattle.comp_interp.proofs.assembly.Assembly.make_item.Goals as goal

pub make_module-requires-clause-counts : goal.make_module-requires-clause-counts
make_module-requires-clause-counts g c =
    (module_found c.args.linked.now (part_limit c.args.linked.now c.args.level.now.part) c.args.item.now c.in-OfModule.number c.in-OfModule.args c.in-Some.core_module.now c.requires.sound c.in-OfModule.is
    (ap (option_map (λ m. m.now)) (sym c.in-Some.is) ∙ c.module_at.ensures)).1

pub returns-in_err-inner-in-OfComponent-clause-comes : goal.returns-in_err-inner-in-OfComponent-clause-comes
returns-in_err-inner-in-OfComponent-clause-comes g c =
    let old = at g.H.Host.kept c.args.self.now.world in
    let new = at g.H.Host.kept c.make_component.new.self.world in
    let l = c.args.level.now.making in
    component_fails g.H.Host.step (part_limit c.args.linked.now c.args.level.now.part) c.args.linked.now c.args.self.now.made.items c.make_component.new.self.made.items old new l l c.args.item.now c.in-OfComponent.number c.in-OfComponent.first c.in-OfComponent.args c.in-OfComponent.is
    (subst (λ n. c.in-OfComponent.number < n) c.limit.ensures c.if-number-limit.true) c.in_err-inner-in-OfComponent.field-0.0 c.from_residual.result c.from_residual.ensures.1
    (subst (λ xs. Begins g.H.Host.step (args_named xs) c.args.self.now.made.items old l (Err c.in_err-inner-in-OfComponent.field-0.0) c.make_component.new.self.made.items new) c.as_slice.ensures c.in_err-inner-in-OfComponent.ensures.begins)

pub returns-then-number-limit-clause-comes : goal.returns-then-number-limit-clause-comes
returns-then-number-limit-clause-comes g c =
    let old = at g.H.Host.kept c.args.self.now.world in
    let new = at g.H.Host.kept c.make_component.new.self.world in
    let l = c.args.level.now.making in
    let inner = c.in_ok-inner-in-OfComponent.inner in
    let e = c.in_ok-inner-in-OfComponent.ensures in
    let named : c.in-OfComponent.number < part_limit c.args.linked.now c.args.level.now.part = subst (λ n. c.in-OfComponent.number < n) c.limit.ensures c.if-number-limit.true in
    component_comes g.H.Host.step (part_limit c.args.linked.now c.args.level.now.part) c.args.linked.now c.args.self.now.made.items c.make_component.new.self.made.items old new l l c.args.item.now c.in-OfComponent.number c.in-OfComponent.first c.in-OfComponent.args c.in-OfComponent.is
    named inner (record { named = named; part = e.part; first = e.first; at = e.at })
    (subst (λ xs. Begins g.H.Host.step (args_named xs) c.args.self.now.made.items old l (Ok inner) c.make_component.new.self.made.items new) c.as_slice.ensures e.begins)

pub returns-in_err-make_module-in-OfModule-clause-comes : goal.returns-in_err-make_module-in-OfModule-clause-comes
returns-in_err-make_module-in-OfModule-clause-comes g c =
    let old = at g.H.Host.kept c.args.self.now.world in
    let new = at g.H.Host.kept c.make_module.new.self.world in
    module_fails g.H.Host.step (part_limit c.args.linked.now c.args.level.now.part) c.args.linked.now c.args.self.now.made.items c.make_module.new.self.made.items old new c.args.level.now.making c.make_module.new.making c.args.item.now c.in-OfModule.number c.in-OfModule.args c.in-OfModule.is
    c.in-Some.core_module.now (ap (option_map (λ m. m.now)) (sym c.in-Some.is) ∙ c.module_at.ensures) c.in_err-make_module-in-OfModule.field-0.0 c.from_residual-in_err-make_module-in-OfModule.result c.from_residual-in_err-make_module-in-OfModule.ensures.1
    (subst (λ xs. ModuleComes g.H.Host.step c.in-Some.core_module.now xs c.args.self.now.made.items old c.args.level.now.making (Err c.in_err-make_module-in-OfModule.field-0.0) c.make_module.new.self.made.items new c.make_module.new.making) c.as_slice-in-Some.ensures
    c.in_err-make_module-in-OfModule.ensures)

pub returns-in_err-make_other-in_default : goal.returns-in_err-make_other-in_default
returns-in_err-make_other-in_default g c = record {
  follows = not_ok _ c.from_residual-in_err-make_other-in_default.result c.from_residual-in_err-make_other-in_default.ensures.0;
  comes =
      other_fails g.H.Host.step (part_limit c.args.linked.now c.args.level.now.part) c.args.linked.now c.args.self.now.made.items c.make_other.new.self.made.items (at g.H.Host.kept c.args.self.now.world) (at g.H.Host.kept c.make_other.new.self.world) c.args.level.now.making
      c.make_other.new.making c.args.item.now c.in_err-make_other-in_default.field-0.0 c.from_residual-in_err-make_other-in_default.result c.in_default.not-OfModule c.in_default.not-OfComponent c.from_residual-in_err-make_other-in_default.ensures.1 c.in_err-make_other-in_default.ensures;
}

pub returns-in_ok-make_other-in_default : goal.returns-in_ok-make_other-in_default
returns-in_ok-make_other-in_default g c = record {
  follows = record { part = refl; at = refl; first = refl; begun = tt };
  comes =
      other_comes g.H.Host.step (part_limit c.args.linked.now c.args.level.now.part) c.args.linked.now c.args.self.now.made.items c.make_other.new.self.made.items (at g.H.Host.kept c.args.self.now.world) (at g.H.Host.kept c.make_other.new.self.world) c.args.level.now.making
      c.make_other.new.making c.args.item.now c.in_default.not-OfModule c.in_default.not-OfComponent c.in_ok-make_other-in_default.ensures;
}
