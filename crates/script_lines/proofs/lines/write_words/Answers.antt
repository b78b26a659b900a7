use Rattle.std.proofs.Common.{sym, subst}
use Rattle.std.specs.Prelude.{OnOk}
use Rattle.host_port.specs.Calls.{plain_observation}
use Rattle.script_lines.specs.Added.{AddsItems}
use Rattle.script_lines.specs.Lines.{line, type_of}
use Rattle.script_lines.proofs.lines.write_words.Goals as goal

pub returns-in-ScriptEnded : goal.returns-in-ScriptEnded
returns-in-ScriptEnded c =
    let said = c.write_word-in-ScriptEnded in
    subst (λ o. OnOk said.result (AddsItems c.args.out.now said.new.out (line (type_of c.args.returned) (plain_observation o)))) (sym c.in-ScriptEnded.is) said.ensures

pub returns-in-BadAnswer : goal.returns-in-BadAnswer
returns-in-BadAnswer c =
    let said = c.write_word-in-BadAnswer in
    subst (λ o. OnOk said.result (AddsItems c.args.out.now said.new.out (line (type_of c.args.returned) (plain_observation o)))) (sym c.in-BadAnswer.is) said.ensures
