use Rattle.std.proofs.Common.{◌≡◌, subst, arith}
use Rattle.std.specs.Prelude.{None}
use Rattle.json.specs.Json.{after_end_array}
use Rattle.host_script.specs.Taken.{Takes, IsAnswer}
use Rattle.host_script.proofs.OnePass.{taken_more}
use Rattle.host_script.proofs.regular.keep_answers.Goals as goal

pub answers-preserved : goal.answers-preserved
answers-preserved c =
    let l = c.answers in
    let going : (after_end_array l.reader ≡ None) × (c.take_end_array.new.self ≡ l.reader) = grind arith in
    taken_more IsAnswer l.answers c.keep_answer.new.answers c.args.reader.now l.reader c.keep_answer.new.reader l.invariant going.0
    (subst (λ ts. Takes IsAnswer l.answers c.keep_answer.new.answers ts c.keep_answer.new.reader) going.1 c.in_ok-keep_answer.ensures)
