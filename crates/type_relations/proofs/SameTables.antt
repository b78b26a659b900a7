-- What holds where a table has two items holds where the same table has them.
use Rattle.std.proofs.Common.{◌≡◌, sym, subst}
use Rattle.comp_types.specs.Items.{Item, Entries}
use Rattle.type_table.specs.Tables.{Types, HasItem, HasEntries}

module _ (T U : Types) (kept : U ≡ T) where
  pub item_kept : (a b : Item) (P : Type 0) → (HasItem U a → HasItem U b → P) → HasItem T a → HasItem T b → P
  item_kept a b P met h k = met (subst (λ t. HasItem t a) (sym kept) h) (subst (λ t. HasItem t b) (sym kept) k)

  -- of the entries in a slice
  pub entries_kept : (a b es : Entries) (P : Type 0) → es ≡ b → (HasEntries U a → HasEntries U es → P) → HasEntries T a → HasEntries T b → P
  entries_kept a b es P same met h k = met (subst (λ t. HasEntries t a) (sym kept) h) (subst (λ t. HasEntries t es) (sym kept) (subst (HasEntries T) (sym same) k))
