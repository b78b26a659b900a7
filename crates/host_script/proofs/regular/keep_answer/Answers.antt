use Rattle.std.proofs.Common.{◌≡◌, ◌∙◌, [], ◌∷◌, ◌++◌, ap, sym, rules}
use Rattle.std.specs.Prelude.{Some}
use Rattle.serde_json.specs.View.{view}
use Rattle.host_script.specs.Json.{untyped}
use Rattle.host_script.specs.Script.{item_in, item_read, json_in}
use Rattle.host_script.proofs.Whole.{json_is}
use Rattle.host_script.proofs.OnePass.{seen_item}
use Rattle.host_script.proofs.regular.keep_answer.Goals as goal

pub returns-in-Some : goal.returns-in-Some
returns-in-Some c =
    let text = c.in_ok-text.text.items in
    let d = view c.in_ok-json.json in
    let item = item_read c.in-Some.field-0 in
    let same : c.as_slice.result.now ≡ text = search (rules, c.as_slice.ensures) in
    let found : item_in (untyped d) ≡ Some item = c.in-Some.ensures in
    let is : json_in text ≡ Some (untyped d) = json_is text d c.in_ok-text.ensures.utf8 (c.in_ok-text.ensures.reads_back c.in_ok-json.ensures.nests) in
    record {
      given = text;
      data' = d;
      pushed = c.in_ok-push-in-Some.ensures.ok ∙ ap (λ t. c.args.answers.now ++ t ∷ []) same;
      is = found ∙ ap Some (sym (seen_item text (untyped d) item is found));
      next = c.in_ok-json.ensures.next;
      shorter = c.in_ok-json.ensures.shorter;
    }
