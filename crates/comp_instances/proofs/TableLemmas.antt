-- What a table of value types has of what a scope gives, and what a definition makes anew in it.
use Rattle.std.proofs.Common.{◌≡◌, sym, subst, ℕ, Option, None, Some}
use Rattle.wasm_ast.specs.declared.component.Sort.{Sort}
use Rattle.wasm_ast.specs.declared.component.ComponentExport.{ComponentExport}
use Rattle.wasm_ast.specs.declared.component.ExternDesc.{ExternDesc}
use Rattle.comp_types.specs.Items.{Item, Kind}
use Rattle.comp_types.specs.Spaces.{Space, item_at, kind_at}
use Rattle.comp_types.specs.Added.{described}
use Rattle.comp_types.specs.Definitions.{Definition, AnExport}
use Rattle.type_table.specs.Tables.{Types, Grew, HasItem, HasKind}
use Rattle.type_table.specs.Covers.{Covers, HasSome}
use Rattle.type_table.specs.Anew.{Makes, HasNew, HasStated}
use Rattle.type_table.proofs.HasLaws.{some_none, grew_same}
use Rattle.type_table.proofs.ScopeLaws.{item_at_has, kind_at_has}

-- ---- what a scope gives

pub kind_given : (T : Types) (s : Space) (i : ℕ) (k : Kind) → Covers T s → Some k ≡ kind_at s i → HasKind T k
kind_given T s i k c e = kind_at_has T s i k c (sym e)

pub item_given : (T : Types) (s : Space) (sort : Sort) (i : ℕ) (o : Option Item) → Covers T s → o ≡ item_at s sort i → HasSome T o
item_given T s sort i o c e = subst (λ (x : Option Item). HasSome T x) (sym e) (item_at_has T s sort i c)

-- ---- what is made anew

-- where a rule is broken the table may stay
pub makes_nothing : (T : Types) (s : Space) (d : Definition) (rule : ℕ) → Makes T T s d (Some rule)
makes_nothing T s d rule = (grew_same T, λ e. some_none e)

pub makes : (old new : Types) (s : Space) (d : Definition) (rule : Option ℕ) → Grew old new → HasNew new s d → Makes old new s d rule
makes old new s d rule grew has = (grew, λ e. has)

-- an export that states no type makes nothing
pub makes_plain : (T : Types) (s : Space) (e : ComponentExport) (rule : Option ℕ) → e.desc ≡ None → Makes T T s (AnExport e) rule
makes_plain T s e rule plain = (grew_same T, λ r. subst (λ (o : Option ExternDesc). HasStated T s o) (sym plain) tt)

pub makes_stated : (old new : Types) (s : Space) (e : ComponentExport) (d : ExternDesc) (rule : Option ℕ) → e.desc ≡ Some d → Grew old new → HasItem new (described s d) → Makes old new s (AnExport e) rule
makes_stated old new s e d rule states grew has = (grew, λ r. subst (λ (o : Option ExternDesc). HasStated new s o) (sym states) has)
