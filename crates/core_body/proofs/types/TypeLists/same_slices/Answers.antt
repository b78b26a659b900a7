use Rattle.std.proofs.Common.{◌≤◌, ◌+◌, List, length, subst}
use Rattle.std.specs.Bool.{OnTrue}
use Rattle.std.proofs.lemmas.Bool.{OnTrue_at, OnTrue_from}
use Rattle.wasm_ast.specs.declared.module.CoreFunc.{CoreFunc}
use Rattle.core_body.specs.Parts.{SameTypes}
use Rattle.core_body.specs.Sources.{listed_in}
use Rattle.core_body.proofs.types.TypeLists.same_slices.Goals as goal

pub returns : goal.returns
returns c =
    let a = c.args.a in
    let b = c.args.b in
    let i = c.args.from_a in
    let j = c.args.from_b in
    let n = c.args.len in
    subst (λ (ts : List CoreFunc). OnTrue c.same_slices.result (i + n ≤ length (listed_in ts a) → j + n ≤ length (listed_in ts b) → SameTypes (listed_in ts a) i (listed_in ts b) j n)) c.self.view_is
    (OnTrue_from c.same_slices.result _ (λ e. OnTrue_at e c.same_slices.ensures c.self.inside.types.now c.self.invariant.1))
