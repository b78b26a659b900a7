-- What a test says of a fact.
use Rattle.std.proofs.Common.{Bool, true, false}
use Rattle.std.specs.Prelude.{IsTrue}
use Rattle.std.specs.Bool.{OnTrue}
use Rattle.std.proofs.lemmas.Bool.{false≢true}

pub from_on : {P : Type 0} (b : Bool) → OnTrue b P → IsTrue b → P
from_on true h t = h
from_on false h t = absurd (false≢true t)
