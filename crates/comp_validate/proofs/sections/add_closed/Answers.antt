use Rattle.std.proofs.Common.{refl}
use Rattle.std.proofs.lemmas.Result.{on_ok_weaker}
use Rattle.std.specs.Prelude.{Result, Ok, Err, OnOk}
use Rattle.comp_types.specs.Added.{and_nested}
use Rattle.comp_defining.proofs.Inner.{inner_stands}
use Rattle.type_table.proofs.ScopeLaws.{covers_nested}
use Rattle.comp_validate.proofs.sections.add_closed.Goals as goal

pub returns-in-None : goal.returns-in-None
returns-in-None c = λ around t s h. absurd (c.in-None.ensures.closed around t s h)

pub returns-in-Some : goal.returns-in-Some
returns-in-Some c = on_ok_weaker c.add_nested.result (λ k around t s h.
    let closed = c.in-Some.ensures.closed around t s h in
    let types = c.close.new.self.types in
    inner_stands around t (and_nested t s) c.close.new.self c.add_nested.new.scope types closed.1 (k t s closed.1.inner closed.0.0 closed.0.1) refl
    (covers_nested types t s closed.1.covered.0 closed.0.1, closed.1.covered.1)) c.add_nested.ensures
