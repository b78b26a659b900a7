use Rattle.std.proofs.Common.{◌≡◌, [], List, subst, Some, None}
use Rattle.wasm_ast.specs.declared.component.Section.{Section}
use Rattle.comp_grammar.specs.Trees.{plain, plain_sections}
use Rattle.comp_types.specs.Items.{Signature}
use Rattle.comp_types.specs.Added.{root, after_tree}
use Rattle.comp_validate.specs.Judged.{JudgedTree}
use Rattle.comp_validate.proofs.whole.validate.Goals as goal

pub returns-in-Some : goal.returns-in-Some
returns-in-Some c =
    subst (λ (xs : List Section). JudgedTree [] root (plain_sections xs) c.judge_sections.new.scopes (Some c.in-Some.broken)) c.as_slice.ensures.value (subst (JudgedTree [] root (plain_sections c.as_slice.result.now) c.judge_sections.new.scopes) c.in-Some.is (c.in_ok-broken.ensures [] root c.root-scopes.ensures))

pub returns-in-None : goal.returns-in-None
returns-in-None c =
    let tree = plain c.args.component.now in
    let judged = subst (λ (xs : List Section). JudgedTree [] root (plain_sections xs) c.judge_sections.new.scopes None) c.as_slice.ensures.value (subst (JudgedTree [] root (plain_sections c.as_slice.result.now) c.judge_sections.new.scopes) c.in-None.is (c.in_ok-broken.ensures [] root c.root-scopes.ensures)) in
    let inner = c.into_inner-imports.ensures [] (after_tree [] root tree) judged.1 in
    let i = c.into_entries.ensures (after_tree [] root tree).imports inner.rest.imports in
    let e = c.into_entries-in-None.ensures (after_tree [] root tree).exports inner.rest.exports in
    (judged.0, (λ j. let x : Signature = record { imports = i j; exports = e j } in x))
