-- The item for which a kept one stands.
use Rattle.core_validate.specs.declared.item.CoreItem.{CoreItem}
use Rattle.core_validate.specs.declared.item.CoreItem.TheVariants.{Func, Table, Memory, Global}
use Rattle.comp_scopes.specs.declared.items.Kept.{Kept}
use Rattle.comp_scopes.specs.declared.items.Kept.TheVariants as kept

abbrev pub item_kept : Kept → CoreItem
item_kept (kept.Func ty) = Func ty
item_kept (kept.Table ty limits) = Table ty limits
item_kept (kept.Memory limits) = Memory limits
item_kept (kept.Global ty variable) = Global ty variable
