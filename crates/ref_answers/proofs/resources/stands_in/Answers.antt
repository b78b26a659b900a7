use Rattle.std.proofs.Common.{sym, ap, ◌∙◌}
use Rattle.std.specs.List.{list_any}
use Rattle.std.specs.Str.{bytes_eq}
use Rattle.ref_answers.proofs.KindLaws.{stands_own, stands_used}
use Rattle.ref_answers.proofs.resources.stands_in.Goals as goal

pub returns-then-is_defined : goal.returns-then-is_defined
returns-then-is_defined c =
    let says = c.is_defined.ensures ∙ ap (list_any (λ t. bytes_eq t.name c.args.name.now)) c.as_slice.ensures in
    c.if-is_defined.true ∙ stands_own c.args.name.now c.args.interface.now (sym says ∙ c.if-is_defined.true)

pub returns-else-is_defined : goal.returns-else-is_defined
returns-else-is_defined c =
    let says = c.is_defined.ensures ∙ ap (list_any (λ t. bytes_eq t.name c.args.name.now)) c.as_slice.ensures in
    c.is_used.ensures ∙ ap (list_any (λ u. bytes_eq u.name c.args.name.now)) c.as_slice-else-is_defined.ensures ∙ stands_used c.args.name.now c.args.interface.now (sym says ∙ c.if-is_defined.false)
