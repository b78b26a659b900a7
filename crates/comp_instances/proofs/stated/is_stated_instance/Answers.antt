use Rattle.std.proofs.Common.{sym, subst, false}
use Rattle.std.specs.Prelude.{Option, None, option_map}
use Rattle.std.specs.Bool.{Decides}
use Rattle.wasm_ast.specs.declared.component.ExternDesc.TheVariants.{Instance}
use Rattle.comp_types.specs.declared.types.ItemType.{ItemType}
use Rattle.comp_types.specs.Views.{item_of}
use Rattle.comp_types.specs.Rules.{IsStated}
use Rattle.comp_types.specs.Spaces.{kind_at}
use Rattle.comp_types.specs.Types.{instance_in}
use Rattle.type_table.specs.Covers.{HasSome}
use Rattle.comp_instances.proofs.StatedLemmas.{decides_no_instance}
use Rattle.comp_instances.proofs.stated.is_stated_instance.Goals as goal

pub returns-in-None : goal.returns-in-None
returns-in-None c = λ s h t has.
    subst (λ (o : Option ItemType). Decides false (IsStated s (option_map item_of o) (Instance c.args.index))) (sym c.in-None.is) (decides_no_instance None (instance_in (kind_at s c.args.index)) (λ es e. cc))

pub returns-in_ok-fits-in-Some : goal.returns-in_ok-fits-in-Some
returns-in_ok-fits-in-Some c = λ s h t has.
    subst (λ (o : Option ItemType). Decides c.in_ok-fits-in-Some.fits (IsStated s (option_map item_of o) (Instance c.args.index))) (sym c.in-Some.is)
    (c.in_ok-fits-in-Some.ensures s h t (subst (λ (o : Option ItemType). HasSome c.args.types.now (option_map item_of o)) c.in-Some.is has))
