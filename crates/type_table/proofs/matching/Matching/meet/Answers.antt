use Rattle.std.proofs.Common.{refl, Bool}
use Rattle.std.specs.Prelude.{IsTrue}
use Rattle.comp_types.specs.Matching.{GoesOn, meet}
use Rattle.type_table.specs.Walked.{Remembers}
use Rattle.type_table.proofs.WalkParts.{meet-kept, ok-on}
use Rattle.type_table.proofs.matching.Matching.meet.Goals as goal

pub invariant_of-self : goal.invariant_of-self
invariant_of-self c =
    let types = c.self.inside.types.now in
    let old = c.self.inside.walked in
    let y = c.args.resource in
    let x = c.args.partner in
    c.settle.ensures.kept types
    (ok-on c.meet-walk.result c.meet-walk.result (λ (same : Bool). GoesOn same c.meet-walk.new.self (meet old.by y x)) (λ (same : Bool). IsTrue same → Remembers types (record old { by = c.meet-walk.new.self })) refl
    (λ same goes. (meet-kept types old (record old { by = c.meet-walk.new.self }) y x same goes refl c.self.invariant).1) c.meet-walk.ensures)
