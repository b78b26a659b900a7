use Rattle.std.proofs.Common.{◌≡◌, ◌∙◌, ◌++◌, ◌∷◌, ◌-◌, [], length, refl, sym, ap, ap₂, subst, rules, arith}
use Rattle.std.proofs.lemmas.List.{length-append}
use Rattle.host_port.specs.Calls.{plain_observation}
use Rattle.script_lines.specs.Lines.{line_text, type_of}
use Rattle.virt_words.specs.Lines.{cut}
use Rattle.virt_engine.specs.Lines.{AreLines}
use Rattle.virt_engine.proofs.Cutting.{cut_more, lines_more}
use Rattle.virt_engine.proofs.lines.Lines.add.Goals as goal

pub invariant_of-drop : goal.invariant_of-drop
invariant_of-drop c =
    let text = c.text.inside.text.items in
    let line = line_text (type_of c.args.ty) (plain_observation c.args.observation.now) in
    let before : c.len-before.result ≡ length text = search (rules, c.len-before.ensures) in
    let after : c.len.result ≡ length c.in_ok-longer.longer.items = search (rules, c.len.ensures) in
    let size : c.len.result - c.len-before.result ≡ length line = omega (arith, before, after, ap length c.in_ok-longer.ensures, length-append text line) in
    subst (λ sizes. AreLines sizes c.in_ok-longer.longer.items) (sym c.in_ok-push.ensures.items)
    (lines_more c.text.inside.sizes.items text line c.in_ok-longer.longer.items (c.len.result - c.len-before.result) _ _ c.text.invariant c.in_ok-longer.ensures refl size)

pub returns : goal.returns
returns c =
    let text = c.text.inside.text.items in
    let line = line_text (type_of c.args.ty) (plain_observation c.args.observation.now) in
    let before : c.len-before.result ≡ length text = search (rules, c.len-before.ensures) in
    let after : c.len.result ≡ length c.in_ok-longer.longer.items = search (rules, c.len.ensures) in
    let size : c.len.result - c.len-before.result ≡ length line = omega (arith, before, after, ap length c.in_ok-longer.ensures, length-append text line) in
    ap₂ cut c.in_ok-push.ensures.items c.in_ok-longer.ensures
    ∙ cut_more c.text.inside.sizes.items text line (c.len.result - c.len-before.result) c.text.invariant.0 size
    ∙ ap (λ lines. lines ++ line ∷ []) (c.text.view_is ∙ c.replace.ensures.value)
