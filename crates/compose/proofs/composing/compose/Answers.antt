use Rattle.std.proofs.Common.{◌∙◌, ap, subst, List, map}
use Rattle.comp_grammar.specs.Trees.{plain}
use Rattle.adapter_world.specs.Names.{Named, named}
use Rattle.compose.specs.Assembled.{IsMade, IsRight}
use Rattle.compose.proofs.AssembleLaws.{is_composed}
use Rattle.compose.proofs.composing.compose.Goals as goal

pub returns : goal.returns
returns c =
    let policy = c.args.policy.now in
    let uses = c.args.listed.now.uses in
    let app = plain c.args.component in
    let exported = c.args.ty.now.exports in
    let size = c.args.size in
    let a = c.in_ok-assembled.assembled in
    let named_so = c.in_ok-assembled.ensures.names in
    is_composed policy uses app exported size c.in_ok-assembled.needs.functions a
    (subst (λ (names : List Named). IsMade names app size a) named_so c.in_ok-assembled.ensures.made)
    (subst (λ (names : List Named). IsRight names exported (plain a.whole)) (ap (map named) c.as_slice-needed.ensures ∙ named_so) c.in_ok-check.ensures)
    c.in_ok-assembled.ensures.count
