use Rattle.std.proofs.Common.{◌∙◌, sym}
use Rattle.host_script.specs.Script.{exports_seen}
use Rattle.host_script.proofs.OnePass.{regular}
use Rattle.host_script.proofs.regular.read_text.Goals as goal

pub returns-clause-due : goal.returns-clause-due
returns-clause-due c = λ utf8.
    regular (exports_seen c.args.exports.now) c.args.text.now c.in_ok-answers.answers c.in_ok-calls.calls c.begin_object.new.reader c.begin_array.new.reader c.keep_answers.new.reader c.begin_array-2.new.reader c.keep_calls.new.reader
    utf8 (sym c.in_ok-reader.ensures.ok ∙ c.in_ok-begin_object.ensures) c.in_ok-begin_array.ensures c.in_ok-answers.ensures c.in_ok-begin_array-2.ensures c.in_ok-calls.ensures.due c.in_ok-end_object.ensures
