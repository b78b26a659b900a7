use Rattle.std.proofs.Common.{◌∙◌, ap}
use Rattle.std.specs.Prelude.{Result, Ok, Err, IfOk}
use Rattle.comp_types.specs.Added.{lowered_at}
use Rattle.comp_types.specs.Types.{no_func}
use Rattle.comp_lifting.proofs.lowers.lowered_at.Goals as goal

if_ok : {A E : Type 0} {P Q : A → Type 0} (r : Result A E) → ((a : A) → P a → Q a) → IfOk r P → IfOk r Q
if_ok (Ok a) f h = f a h
if_ok (Err e) f h = h

pub returns-in-None : goal.returns-in-None
returns-in-None c = if_ok c.lowered_type.result (λ f k s h. k no_func c.facts_of_none.ensures ∙ ap lowered_at (c.in-None.ensures s h)) c.lowered_type.ensures
