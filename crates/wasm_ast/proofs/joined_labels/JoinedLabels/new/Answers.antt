use Rattle.std.proofs.Common.{◌∙◌, ap, subst}
use Rattle.std.specs.Prelude.{IsUtf8}
use Rattle.wasm_ast.specs.JoinedLabels.{labels_in}
use Rattle.wasm_ast.proofs.JoinedLemmas.{all_put, labels_joined, texts_joined}
use Rattle.wasm_ast.proofs.joined_labels.JoinedLabels.new.Goals as goal

pub invariant_of-result : goal.invariant_of-result
invariant_of-result c =
    let put = all_put c.loop-label.bytes.items c.in_ok-bytes-2.bytes.items c.args.first.now c.loop-label.rest.now c.args.more.now c.in_ok-bytes-2.ensures c.in_default.ensures.cases c.loop-label.invariant in
    texts_joined c.in_ok-bytes-2.bytes.items c.args.first.now c.args.more.now put.0 (subst IsUtf8 c.bytes.ensures.value c.bytes.ensures.utf8) put.1

pub returns : goal.returns
returns c =
    let put = all_put c.loop-label.bytes.items c.in_ok-bytes-2.bytes.items c.args.first.now c.loop-label.rest.now c.args.more.now c.in_ok-bytes-2.ensures c.in_default.ensures.cases c.loop-label.invariant in
    ap labels_in put.0 ∙ labels_joined c.args.first.now c.args.more.now (subst IsUtf8 c.bytes.ensures.value c.bytes.ensures.utf8) put.1
