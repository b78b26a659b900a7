use Rattle.std.proofs.Common.{◌≡◌, ◌∙◌, sym, subst, List, [], ◌∷◌}
use Rattle.wasm_ast.specs.declared.component.Section.{Section}
use Rattle.comp_grammar.specs.Trees.{Tree, plain_sections}
use Rattle.output_same.specs.Holding.{components_in}
use Rattle.comp_joined.specs.Form.{IsJoining}
use Rattle.comp_joined.proofs.Joined.{none_left, is_joined}
use Rattle.comp_joined.proofs.form.is_joining.Goals as goal

pub returns : goal.returns
returns c = λ yes.
    subst (λ (xs : List Section). (first second : Tree) → components_in (plain_sections xs) ≡ first ∷ second ∷ [] → IsJoining first second (plain_sections xs)) c.as_slice.ensures.value
    (is_joined c.as_slice.result.now c.past_names-front.result.now c.in-Some.behind_first.now c.past_names-between.result.now c.in-Some-past_instance.behind_second.now c.past_names.result.now
    c.past_names-front.ensures c.in-Some.ensures c.past_names-between.ensures c.in-Some-past_instance.ensures c.past_names.ensures (none_left c.past_names.result.now (sym c.is_empty.ensures ∙ yes)))
