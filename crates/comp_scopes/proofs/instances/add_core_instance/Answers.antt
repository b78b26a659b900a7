use Rattle.std.specs.Prelude.{Result, Ok, Err, OnOk}
use Rattle.comp_types.specs.Added.{core_exports}
use Rattle.comp_scopes.proofs.instances.add_core_instance.Goals as goal

on_ok : {A E : Type 0} {P Q : Type 0} (r : Result A E) → (P → Q) → OnOk r P → OnOk r Q
on_ok (Ok a) f h = f h
on_ok (Err e) f h = h

pub returns : goal.returns
returns c = on_ok c.add_instance.result (λ h around s k. h s (core_exports s c.args.instance.now) k (c.in_ok-exports.ensures s k)) c.add_instance.ensures
