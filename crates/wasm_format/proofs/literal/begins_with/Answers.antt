use Rattle.std.proofs.Common.{◌≡◌, Bool, true, false}
use Rattle.std.proofs.lemmas.Bool.Decides.{Decides-eqb}
use Rattle.std.proofs.lemmas.Slice.Eq.{starts_is}
use Rattle.wasm_format.proofs.literal.begins_with.Goals as goal

pub returns-clause-yes : goal.returns-clause-yes
returns-clause-yes c = (starts_is Decides-eqb c.args.bytes.now c.args.front.now c.starts_with.result c.starts_with.ensures.value).0

apart : (b : Bool) → b ≡ true → b ≡ false → ⊥
apart b e h = cc

pub returns-clause-no : goal.returns-clause-no
returns-clause-no c =
    let w = starts_is Decides-eqb c.args.bytes.now c.args.front.now c.starts_with.result c.starts_with.ensures.value in
    λ e more h. apart c.starts_with.result (w.1 more h) e
