use Rattle.std.proofs.Common.{◌≡◌, ◌∙◌, ap, string_bytes, sym, rules}
use Rattle.std.specs.Prelude.{Err, Some}
use Rattle.std.proofs.lemmas.Str.{IsUtf8-string_bytes}
use Rattle.serde_json.specs.Read.{read}
use Rattle.serde_json.specs.View.{view}
use Rattle.host_script.specs.Script.{due_script, exports_seen, json_in}
use Rattle.host_script.proofs.Whole.{json_given, json_same, no_json_given}
use Rattle.host_script.proofs.top.read_any.Goals as goal

pub returns-in-Err-clause-due : goal.returns-in-Err-clause-due
returns-in-Err-clause-due c = no_json_given (exports_seen c.args.exports.now) c.args.json.now c.in-Err.e c.no_json.result c.no_json.ensures c.in-Err.ensures.err

pub returns-in-Ok-read_regular-clause-due : goal.returns-in-Ok-read_regular-clause-due
returns-in-Ok-read_regular-clause-due c =
    let d = view c.in-Ok.json in
    let text = string_bytes c.in-Ok-to_string.text in
    let printed : c.as_bytes.result.now ≡ text = search (rules, c.as_bytes.ensures) in
    let reads : read text ≡ Some d = c.in-Ok-to_string.ensures.reads_back c.in-Ok.ensures.nests in
    let same : json_in c.args.json.now ≡ json_in text = json_same c.args.json.now text d c.in-Ok.ensures.ok.0 c.in-Ok.ensures.ok.1 (IsUtf8-string_bytes c.in-Ok-to_string.text) reads in
    ap (due_script (exports_seen c.args.exports.now)) (same ∙ ap json_in (sym printed)) ∙ c.in-Ok-read_regular.ensures.due

pub returns-in-Err-OtherForm-clause-due : goal.returns-in-Err-OtherForm-clause-due
returns-in-Err-OtherForm-clause-due c =
    json_given (exports_seen c.args.exports.now) c.args.json.now (view c.in-Ok.json) (Err c.fault_in.result) c.in-Ok.ensures.ok.0 c.in-Ok.ensures.ok.1 c.fault_in.ensures
