use Rattle.std.proofs.Common.{refl, subst, sym}
use Rattle.core_validate.specs.Typed.{type_of}
use Rattle.comp_scopes.specs.Found.{IsKnownModule}
use Rattle.comp_scopes.specs.CoreJudged.{IsJudged}
use Rattle.comp_types.specs.Added.{and_module}
use Rattle.comp_defining.proofs.Inner.{inner_stands}
use Rattle.type_table.proofs.ScopeLaws.{covers_module}
use Rattle.comp_validate.proofs.sections.define_module.Goals as goal

pub returns-in-None : goal.returns-in-None
returns-in-None c = λ around s span h. (refl, subst (IsJudged c.args.judged.now) c.in-None.is c.in_ok-valid_module.ensures)

pub returns-in_ok-add_module-in-Some : goal.returns-in_ok-add_module-in-Some
returns-in_ok-add_module-in-Some c = λ around s span h.
    let m = type_of c.args.judged.now in
    let j = subst (IsJudged c.args.judged.now) c.in-Some.is c.in_ok-valid_module.ensures in
    (j.0, inner_stands around s (and_module s m) c.args.scopes.now c.add_module.new.self c.args.scopes.now.types h (c.in_ok-add_module-in-Some.ensures s m h.inner (subst (IsKnownModule m) (sym c.in_ok-known-in-Some.ensures) j.1)) refl (covers_module c.args.scopes.now.types s m h.covered.0, h.covered.1))
