use Rattle.std.proofs.Common.{refl}
use Rattle.wit_types.specs.Plain.{plain}
use Rattle.type_table.proofs.WalkParts.{walks-written}
use Rattle.type_table.proofs.places.match_written.Goals as goal

pub returns : goal.returns
returns c = λ types.
    let old = c.args.walked.now in
    walks-written types old (record old { by = c.match_value.new.by }) (plain c.args.a.now) (plain c.args.b.now) c.in_ok-same.same c.in_ok-same.ensures refl
