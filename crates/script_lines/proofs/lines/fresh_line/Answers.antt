use Rattle.std.proofs.Common.{◌∙◌, ◌++◌, ◌∷◌, [], ap}
use Rattle.json.specs.Token.{begin_array}
use Rattle.json.specs.Tree.{items_tokens}
use Rattle.serde_json.specs.Data.{array}
use Rattle.serde_json.specs.Written.{items_outline}
use Rattle.host_port.specs.Calls.{plain_observation}
use Rattle.script_lines.specs.Lines.{line, type_of}
use Rattle.script_lines.proofs.Added.{adds_more, written_text}
use Rattle.script_lines.proofs.lines.fresh_line.Goals as goal

pub returns : goal.returns
returns c =
    let words = line (type_of c.args.returned) (plain_observation c.args.observation.now) in
    let start = c.new-out.result in
    let opened = c.begin_array.new.self in
    let written = c.write_words.new.out in
    let added = adds_more start opened written (begin_array ∷ []) (items_tokens (items_outline words)) (c.in_ok-begin_array.ensures.ok, c.in_ok-begin_array.ensures.room.0) c.in_ok-write_words.ensures in
    let text = written_text start written (array words) (c.new-out.ensures.before ∙ c.in_ok-with_capacity.ensures.items) c.new-out.ensures.tokens added in
    c.in_ok-push.ensures.items ∙ ap (λ s. s ++ 10 ∷ []) (c.into_inner-bytes.ensures.items ∙ text)
