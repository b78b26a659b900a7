-- What a table has of the entries of an instance type.
use Rattle.std.proofs.Common.{◌≡◌, ◌<◌, sym, subst, ℕ, zero, suc, List, [], ◌∷◌, length, get_or, arith}
use Rattle.comp_types.specs.Views.{item_of, entries_of}
use Rattle.comp_types.specs.declared.types.InstanceEntry.{InstanceEntry}
use Rattle.type_table.specs.Tables.{Types, HasItem, HasEntries}

pub has-entry : (types : Types) (es : List InstanceEntry) (i : ℕ) (x : InstanceEntry) → i < length es → x ≡ get_or es i x → HasEntries types (entries_of es) → HasItem types (item_of x.ty)
has-entry types [] i x lt e h = absurd (omega (arith, lt))
has-entry types (y ∷ es) zero x lt e h = subst (λ (z : InstanceEntry). HasItem types (item_of z.ty)) (sym e) h.0
has-entry types (y ∷ es) (suc i) x lt e h = has-entry types es i x (omega (arith, lt)) e h.1
