-- The operands and the items of an instruction, by its type and its conditions.
use Rattle.std.proofs.Common.{◌≡◌, ℕ, ◌<◌, ◌==◌, refl, ap, ◌∙◌, subst, arith, List, [], ◌∷◌, length, map, Bool, true, false, Option, Some, None, slice_get}
use Rattle.std.proofs.lemmas.Bool.Decides.{nat_tests}
use Rattle.std.proofs.lemmas.List.{length-map, length-reverse}
use Rattle.std.proofs.lemmas.Option.{slice_get_within}
use Rattle.std.specs.Prelude.{nat_lt, if◌then◌else◌}
use Rattle.std.specs.Option.{option_map, option_map_or}
use Rattle.virt_base.specs.declared.core_type.CoreType.{CoreType}
use Rattle.virt_base.specs.declared.core_type.CoreType.TheVariants.{I32, Funcref}
use Rattle.wasm_ast.specs.declared.module.TableType.{TableType}
use Rattle.wasm_ast.specs.declared.numeric.Numeric.{Numeric}
use Rattle.wasm_ast.specs.declared.instr.RefType.{RefType}
use Rattle.wasm_ast.specs.declared.instr.Op.{Op}
use Rattle.wasm_ast.specs.declared.instr.Op.TheVariants as op
use Rattle.wasm_ast.specs.Numeric.{numeric}
use Rattle.core_body.specs.declared.operand.Operand.{Operand}
use Rattle.core_body.specs.declared.operand.Operand.TheVariants.{Known}
use Rattle.core_body.specs.Context.{Context}
use Rattle.core_body.specs.Conditions.{op_conditions, is_met, MemoryAt, DataAt, ElementAt, FunctionAt}
use Rattle.core_body.specs.Shapes.{Shape, Missing, Fixed, shape, of_type, of_numeric, global_type, table_type, loaded_type, stored_type, value_of, same_ref, three, copy_shape, init_shape}
use Rattle.core_body.specs.Typing.{HasShape, operands}
use Rattle.core_store.specs.Scene.{Scene}
use Rattle.core_store.specs.Fine.{Frame, Place, Names, takes, gives, numeric_takes}
use Rattle.core_instance.specs.Sound.{Suits, AllMet}

pub length_operands : (ts : List CoreType) → length (operands ts) ≡ length ts
length_operands ts = length-reverse (map (λ t. Known t) ts) ∙ length-map ts (λ t. Known t)

-- that many operands before and after
pub record Counts (ps rs : List Operand) (before after : ℕ) : Type 0 where
  pub before_is : length ps ≡ before
  pub after_is : length rs ≡ after

pub fixed : (params results : List CoreType) (ps rs : List Operand) → HasShape (Fixed params results) ps rs → Counts ps rs (length params) (length results)
fixed params results ps rs h = record { before_is = ap length h.0 ∙ length_operands params; after_is = ap length h.1 ∙ length_operands results }

-- the item is there where there is a shape
pub record IsTyped {X : Type 0} (o : Option X) (f : X → Shape) (ps rs : List Operand) : Type 0 where
  pub item : X
  pub there : o ≡ Some item
  pub shaped : HasShape (f item) ps rs

of_some : (o : Option CoreType) (f : CoreType → Shape) (ps rs : List Operand) → HasShape (of_type o f) ps rs → IsTyped o f ps rs
of_some None f ps rs h = absurd h
of_some (Some t) f ps rs h = record { item = t; there = refl; shaped = h }

mapped : {X : Type 0} (g : X → CoreType) (o : Option X) (t : CoreType) → option_map g o ≡ Some t → (x : X) × (o ≡ Some x)
mapped g None t e = absurd (cc)
mapped g (Some x) t e = (x, refl)

global_there : (c : Context) (i : ℕ) (t : CoreType) → global_type c i ≡ Some t → i < length c.globals
global_there c i t e = let g = mapped (λ g. g.value) (slice_get c.globals i) t e in slice_get_within c.globals i g.0 g.1

table_there : (c : Context) (i : ℕ) (t : CoreType) → table_type c i ≡ Some t → i < length c.tables
table_there c i t e = let g = mapped (λ x. value_of x.element) (slice_get c.tables i) t e in slice_get_within c.tables i g.0 g.1

two_tables : (to from : Option TableType) (ps rs : List Operand) → HasShape (copy_shape to from) ps rs →
    ((t : TableType) × (to ≡ Some t)) × ((t : TableType) × (from ≡ Some t)) × HasShape three ps rs
two_tables None from ps rs h = absurd h
two_tables (Some t) None ps rs h = absurd h
two_tables (Some t) (Some u) ps rs h = ((t, refl), (u, refl), three_if (same_ref t.element u.element) h)
  where
    three_if : (b : Bool) → HasShape (if b then three else Missing) ps rs → HasShape three ps rs
    three_if true h = h
    three_if false h = absurd h

one_table : (to : Option TableType) (segment : Option RefType) (ps rs : List Operand) → HasShape (init_shape to segment) ps rs → ((t : TableType) × (to ≡ Some t)) × HasShape three ps rs
one_table None segment ps rs h = absurd h
one_table (Some t) None ps rs h = ((t, refl), h)
one_table (Some t) (Some s) ps rs h = ((t, refl), three_if (same_ref t.element s) h)
  where
    three_if : (b : Bool) → HasShape (if b then three else Missing) ps rs → HasShape three ps rs
    three_if true h = h
    three_if false h = absurd h

numeric_counts : (o : Option Numeric) (ps rs : List Operand) → HasShape (of_numeric o) ps rs → Counts ps rs (numeric_takes o) 1
numeric_counts None ps rs h = absurd h
numeric_counts (Some n) ps rs h = one_or_two (n.params == 1) h
  where
    one_or_two : (b : Bool) → HasShape (if b then Fixed (n.from ∷ []) (n.to ∷ []) else Fixed (n.from ∷ n.from ∷ []) (n.to ∷ [])) ps rs → Counts ps rs (if b then 1 else 2) 1
    one_or_two true h = fixed (n.from ∷ []) (n.to ∷ []) ps rs h
    one_or_two false h = fixed (n.from ∷ n.from ∷ []) (n.to ∷ []) ps rs h

below : (a b : ℕ) → nat_lt a b ≡ true → a < b
below a b e = grind (arith, nat_tests)

counted : (n : ℕ) (o : Option ℕ) → option_map_or (λ count. nat_lt n count) o false ≡ true → (count : ℕ) × (o ≡ Some count) × (n < count)
counted n None e = absurd (cc)
counted n (Some count) e = (count, refl, below n count e)

-- what a plain instruction takes, leaves and names
pub record Plainly (w : Scene) (fr : Frame) (o : Op) (ps rs : List Operand) : Type 0 where
  pub counts : Counts ps rs (takes o) (gives o)
  pub names : Names w fr.spaces fr.locals o

module _ (c : Context) (w : Scene) (fr : Frame) (suits : Suits c w fr) where
  local : (i : ℕ) (t : CoreType) → slice_get c.locals i ≡ Some t → i < fr.locals
  local i t e = subst (λ n. i < n) suits.locals (slice_get_within c.locals i t e)

  memory : is_met c (MemoryAt 0) ≡ true → Place w.memories fr.spaces.memories 0
  memory e = suits.memories 0 (below 0 c.memories e)

  segment : (i : ℕ) → is_met c (DataAt i) ≡ true → Place w.segments fr.spaces.segments i
  segment i e = let s = counted i c.data_count e in suits.segments i s.0 s.1 s.2

  element : (i : ℕ) → is_met c (ElementAt i) ≡ true → Place w.elements fr.spaces.elements i
  element i e = suits.elements i (below i (length c.elements) e)

  function : (i : ℕ) → is_met c (FunctionAt i) ≡ true → Place (length w.functions) fr.spaces.functions i
  function i e = let f = suits.functions i (below i (length c.functions) e) in (f.place, f.named, slice_get_within w.functions f.place f.callee f.there)

  pub plainly : (o : Op) (ps rs : List Operand) → HasShape (shape c o) ps rs → AllMet c (op_conditions o) → Plainly w fr o ps rs
  plainly op.Nop ps rs h m = record { counts = fixed [] [] ps rs h; names = tt }
  plainly op.Drop ps rs h m = record { counts = record { before_is = ap length h.1; after_is = ap length h.2 }; names = tt }
  plainly op.Select ps rs h m = record { counts = record { before_is = ap length h.2; after_is = ap length h.3 }; names = tt }
  plainly (op.LocalGet i) ps rs h m =
      let x = of_some (slice_get c.locals i) (λ t. Fixed [] (t ∷ [])) ps rs h in
      record { counts = fixed [] (x.item ∷ []) ps rs x.shaped; names = local i x.item x.there }
  plainly (op.LocalSet i) ps rs h m =
      let x = of_some (slice_get c.locals i) (λ t. Fixed (t ∷ []) []) ps rs h in
      record { counts = fixed (x.item ∷ []) [] ps rs x.shaped; names = local i x.item x.there }
  plainly (op.LocalTee i) ps rs h m =
      let x = of_some (slice_get c.locals i) (λ t. Fixed (t ∷ []) (t ∷ [])) ps rs h in
      record { counts = fixed (x.item ∷ []) (x.item ∷ []) ps rs x.shaped; names = local i x.item x.there }
  plainly (op.GlobalGet i) ps rs h m =
      let x = of_some (global_type c i) (λ t. Fixed [] (t ∷ [])) ps rs h in
      record { counts = fixed [] (x.item ∷ []) ps rs x.shaped; names = suits.globals i (global_there c i x.item x.there) }
  plainly (op.GlobalSet i) ps rs h m =
      let x = of_some (global_type c i) (λ t. Fixed (t ∷ []) []) ps rs h in
      record { counts = fixed (x.item ∷ []) [] ps rs x.shaped; names = suits.globals i (global_there c i x.item x.there) }
  plainly (op.TableGet i) ps rs h m =
      let x = of_some (table_type c i) (λ t. Fixed (I32 ∷ []) (t ∷ [])) ps rs h in
      record { counts = fixed (I32 ∷ []) (x.item ∷ []) ps rs x.shaped; names = suits.tables i (table_there c i x.item x.there) }
  plainly (op.TableSet i) ps rs h m =
      let x = of_some (table_type c i) (λ t. Fixed (I32 ∷ t ∷ []) []) ps rs h in
      record { counts = fixed (I32 ∷ x.item ∷ []) [] ps rs x.shaped; names = suits.tables i (table_there c i x.item x.there) }
  plainly (op.Load l a) ps rs h m = record { counts = fixed (I32 ∷ []) (loaded_type l ∷ []) ps rs h; names = memory m.0 }
  plainly (op.Store s a) ps rs h m = record { counts = fixed (I32 ∷ stored_type s ∷ []) [] ps rs h; names = memory m.0 }
  plainly op.MemorySize ps rs h m = record { counts = fixed [] (I32 ∷ []) ps rs h; names = memory m.0 }
  plainly op.MemoryGrow ps rs h m = record { counts = fixed (I32 ∷ []) (I32 ∷ []) ps rs h; names = memory m.0 }
  plainly (op.I32Const n) ps rs h m = record { counts = fixed [] (I32 ∷ []) ps rs h; names = tt }
  plainly (op.Numeric n) ps rs h m = record { counts = numeric_counts (numeric n) ps rs h; names = tt }
  plainly (op.RefNull t) ps rs h m = record { counts = fixed [] (value_of t ∷ []) ps rs h; names = tt }
  plainly op.RefIsNull ps rs h m = record { counts = record { before_is = ap length h.2; after_is = ap length h.3 }; names = tt }
  plainly (op.RefFunc i) ps rs h m = record { counts = fixed [] (Funcref ∷ []) ps rs h; names = function i m.0 }
  plainly (op.MemoryInit i) ps rs h m = record { counts = fixed (I32 ∷ I32 ∷ I32 ∷ []) [] ps rs h; names = (memory m.0, segment i m.1.0) }
  plainly (op.DataDrop i) ps rs h m = record { counts = fixed [] [] ps rs h; names = segment i m.0 }
  plainly op.MemoryCopy ps rs h m = record { counts = fixed (I32 ∷ I32 ∷ I32 ∷ []) [] ps rs h; names = memory m.0 }
  plainly op.MemoryFill ps rs h m = record { counts = fixed (I32 ∷ I32 ∷ I32 ∷ []) [] ps rs h; names = memory m.0 }
  plainly (op.TableInit e i) ps rs h m =
      let x = one_table (slice_get c.tables i) (slice_get c.elements e) ps rs h in
      record { counts = fixed (I32 ∷ I32 ∷ I32 ∷ []) [] ps rs x.1; names = (suits.tables i (slice_get_within c.tables i x.0.0 x.0.1), element e m.1.0) }
  plainly (op.ElemDrop i) ps rs h m = record { counts = fixed [] [] ps rs h; names = element i m.0 }
  plainly (op.TableCopy to from) ps rs h m =
      let x = two_tables (slice_get c.tables to) (slice_get c.tables from) ps rs h in
      record {
        counts = fixed (I32 ∷ I32 ∷ I32 ∷ []) [] ps rs x.2;
        names = (suits.tables to (slice_get_within c.tables to x.0.0 x.0.1), suits.tables from (slice_get_within c.tables from x.1.0 x.1.1));
      }
  plainly (op.TableGrow i) ps rs h m =
      let x = of_some (table_type c i) (λ t. Fixed (t ∷ I32 ∷ []) (I32 ∷ [])) ps rs h in
      record { counts = fixed (x.item ∷ I32 ∷ []) (I32 ∷ []) ps rs x.shaped; names = suits.tables i (table_there c i x.item x.there) }
  plainly (op.TableSize i) ps rs h m =
      let x = of_some (table_type c i) (λ t. Fixed [] (I32 ∷ [])) ps rs h in
      record { counts = fixed [] (I32 ∷ []) ps rs x.shaped; names = suits.tables i (table_there c i x.item x.there) }
  plainly (op.TableFill i) ps rs h m =
      let x = of_some (table_type c i) (λ t. Fixed (I32 ∷ t ∷ I32 ∷ []) []) ps rs h in
      record { counts = fixed (I32 ∷ x.item ∷ I32 ∷ []) [] ps rs x.shaped; names = suits.tables i (table_there c i x.item x.there) }
