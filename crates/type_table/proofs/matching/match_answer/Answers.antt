use Rattle.std.proofs.Common.{◌≡◌, ap, Some}
use Rattle.wit_types.specs.Plain.{plain, plain_result}
use Rattle.type_table.proofs.WalkParts.{walks-answered}
use Rattle.type_table.proofs.matching.match_answer.Goals as goal

pub returns-in_ok-same-in-Some-Some-clause-met : goal.returns-in_ok-same-in-Some-Some-clause-met
returns-in_ok-same-in-Some-Some-clause-met c =
    let x = plain c.in-Some-Some.a in
    let y = plain c.in-Some-Some.b in
    let first : plain_result c.args.a.now ≡ Some x = ap plain_result c.in-Some-Some.is-0 in
    let second : plain_result c.args.b.now ≡ Some y = ap plain_result c.in-Some-Some.is-1 in
    walks-answered c.args.types.now c.args.walked.now c.match_found.new.walked c.in_ok-same-in-Some-Some.same (plain_result c.args.a.now) (plain_result c.args.b.now) x y first second
    (c.in_ok-same-in-Some-Some.ensures.met (c.requires.key x first) (c.requires.other y second))
