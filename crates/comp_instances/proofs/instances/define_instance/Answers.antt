use Rattle.std.proofs.Common.{◌≡◌, ◌∙◌, ap, sym, subst, true}
use Rattle.wasm_ast.specs.declared.component.Instance.{Instance}
use Rattle.wasm_ast.specs.declared.component.Instance.TheVariants.{Inline, Instantiate}
use Rattle.comp_types.specs.Definitions.{AnInstance}
use Rattle.comp_types.specs.Rules.{instance_stands, lengths_of}
use Rattle.comp_scopes.specs.Judged.{Judged}
use Rattle.type_table.specs.Anew.{Makes}
use Rattle.type_table.proofs.HasLaws.{grew_same, some_none}
use Rattle.comp_instances.proofs.IndexLemmas.{indexes_fail}
use Rattle.comp_instances.proofs.instances.define_instance.Goals as goal

pub returns-then-not-instance_stands : goal.returns-then-not-instance_stands
returns-then-not-instance_stands c = λ around s h covers.
    (indexes_fail around s (AnInstance c.args.instance.now) (sym (c.if-not-instance_stands.ensures ∙ ap (λ l. instance_stands l c.args.instance.now) (c.lengths.ensures s h))), (grew_same c.args.types.now, λ same. some_none same))

pub returns-in_ok-rule-in-Instantiate : goal.returns-in_ok-rule-in-Instantiate
returns-in_ok-rule-in-Instantiate c = λ around s h covers.
    let n = c.in-Instantiate.component in
    let e : Instantiate n c.as_slice.result.now ≡ c.args.instance.now = ap (Instantiate n) c.as_slice.ensures ∙ sym c.in-Instantiate.is in
    let stands : instance_stands (lengths_of s) (Instantiate n c.as_slice.result.now) ≡ true =
    ap (instance_stands (lengths_of s)) e ∙ (ap (λ l. instance_stands l c.args.instance.now) (sym (c.lengths.ensures s h)) ∙ sym c.if-not-instance_stands.ensures) in
    subst (λ (x : Instance). Judged around s (AnInstance x) c.define_instantiated.new.scope c.in_ok-rule-in-Instantiate.rule × Makes c.args.types.now c.define_instantiated.new.types s (AnInstance x) c.in_ok-rule-in-Instantiate.rule) e
    (c.in_ok-rule-in-Instantiate.ensures around s h covers stands)

pub returns-in_ok-rule-in-Inline : goal.returns-in_ok-rule-in-Inline
returns-in_ok-rule-in-Inline c = λ around s h covers.
    let e : Inline c.as_slice-in-Inline.result.now ≡ c.args.instance.now = ap Inline c.as_slice-in-Inline.ensures ∙ sym c.in-Inline.is in
    let stands : instance_stands (lengths_of s) (Inline c.as_slice-in-Inline.result.now) ≡ true =
    ap (instance_stands (lengths_of s)) e ∙ (ap (λ l. instance_stands l c.args.instance.now) (sym (c.lengths.ensures s h)) ∙ sym c.if-not-instance_stands.ensures) in
    let types = c.args.types.now in
    subst (λ (x : Instance). Judged around s (AnInstance x) c.define_inline.new.scope c.in_ok-rule-in-Inline.rule × Makes types types s (AnInstance x) c.in_ok-rule-in-Inline.rule) e
    (c.in_ok-rule-in-Inline.ensures around s h stands, (grew_same types, λ none. tt))
