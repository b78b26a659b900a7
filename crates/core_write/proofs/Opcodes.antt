-- An operation is written as its opcode and what stands after it, whatever chooses its form.
use Rattle.std.proofs.Common.{◌≡◌, ℕ, ◌<◌, ◌≤◌, Bool, true, false, eqb, List, [], ◌∷◌, inl, inr, refl, arith}
use Rattle.std.proofs.lemmas.Bool.{cases_lt, lt-leb, le-ltb, ne_eqb}
use Rattle.wasm_format.specs.Format.{Format, choose, value, misplaced}
use Rattle.wasm_ast.specs.declared.instr.LoadOp.{LoadOp}
use Rattle.wasm_ast.specs.declared.instr.LoadOp.TheVariants as loads
use Rattle.wasm_ast.specs.declared.instr.StoreOp.{StoreOp}
use Rattle.wasm_ast.specs.declared.instr.StoreOp.TheVariants as stores
use Rattle.wasm_ast.specs.declared.instr.MemArg.{MemArg}
use Rattle.wasm_ast.specs.declared.instr.Op.{Op}
use Rattle.wasm_ast.specs.declared.instr.Op.TheVariants.{Load, Store, Numeric}
use Rattle.wasm_ast.specs.declared.instr.Instr.{Instr}
use Rattle.wasm_ast.specs.declared.instr.Instr.TheVariants.{Plain, Else}
use Rattle.wasm_ast.specs.Numeric.{is_numeric}
use Rattle.wasm_ast.specs.Instructions.{load_code, store_code, op_code, mem_arg, load_op, memory_op, high_op, op_of, instr_of, instr}

pub load_fits : (op : LoadOp) (m : MemArg) → (instr_of (load_code op)).Fits (Plain (Load op m)) → mem_arg.Fits m
unfolding instr_of op_of load_op
load_fits loads.I32 m h = h.1.1
load_fits loads.I64 m h = h.1.1
load_fits loads.I32Narrow8S m h = h.1.1
load_fits loads.I32Narrow8U m h = h.1.1
load_fits loads.I32Narrow16S m h = h.1.1
load_fits loads.I32Narrow16U m h = h.1.1
load_fits loads.I64Narrow8S m h = h.1.1
load_fits loads.I64Narrow8U m h = h.1.1
load_fits loads.I64Narrow16S m h = h.1.1
load_fits loads.I64Narrow16U m h = h.1.1
load_fits loads.I64Narrow32S m h = h.1.1
load_fits loads.I64Narrow32U m h = h.1.1

pub load_written : (op : LoadOp) (m : MemArg) → (instr_of (load_code op)).write (Plain (Load op m)) ≡ mem_arg.write m
unfolding instr_of op_of load_op
load_written loads.I32 m = refl
load_written loads.I64 m = refl
load_written loads.I32Narrow8S m = refl
load_written loads.I32Narrow8U m = refl
load_written loads.I32Narrow16S m = refl
load_written loads.I32Narrow16U m = refl
load_written loads.I64Narrow8S m = refl
load_written loads.I64Narrow8U m = refl
load_written loads.I64Narrow16S m = refl
load_written loads.I64Narrow16U m = refl
load_written loads.I64Narrow32S m = refl
load_written loads.I64Narrow32U m = refl

pub store_fits : (op : StoreOp) (m : MemArg) → (instr_of (store_code op)).Fits (Plain (Store op m)) → mem_arg.Fits m
unfolding instr_of op_of memory_op
store_fits stores.I32 m h = h.1.1
store_fits stores.I64 m h = h.1.1
store_fits stores.I32Narrow8 m h = h.1.1
store_fits stores.I32Narrow16 m h = h.1.1
store_fits stores.I64Narrow8 m h = h.1.1
store_fits stores.I64Narrow16 m h = h.1.1
store_fits stores.I64Narrow32 m h = h.1.1

pub store_written : (op : StoreOp) (m : MemArg) → (instr_of (store_code op)).write (Plain (Store op m)) ≡ mem_arg.write m
unfolding instr_of op_of memory_op
store_written stores.I32 m = refl
store_written stores.I64 m = refl
store_written stores.I32Narrow8 m = refl
store_written stores.I32Narrow16 m = refl
store_written stores.I64Narrow8 m = refl
store_written stores.I64Narrow16 m = refl
store_written stores.I64Narrow32 m = refl

-- ---- numeric instructions

low_not : (n : ℕ) → n < 0x45 → is_numeric n ≡ false
low_not n h = rw (lt-leb 0x45 n (omega (arith, h)), lt-leb 0x46 n (omega (arith, h)), lt-leb 0x50 n (omega (arith, h)), lt-leb 0x51 n (omega (arith, h)), lt-leb 0x67 n (omega (arith, h)), lt-leb 0x6A n (omega (arith, h)), lt-leb 0x79 n (omega (arith, h)), lt-leb 0x7C n (omega (arith, h)), lt-leb 0xA7 n (omega (arith, h)), lt-leb 0xAC n (omega (arith, h)), lt-leb 0xC0 n (omega (arith, h)), lt-leb 0xC2 n (omega (arith, h))) refl

not_both : (b : Bool) → b ≡ true → b ≡ false → ⊥
not_both b e h = cc

pub numeric_high : (n : ℕ) → is_numeric n ≡ true → 0x45 ≤ n
numeric_high n e =
    elim (cases_lt n 0x45) [
      | inl low ↦ absurd (not_both (is_numeric n) e (low_not n low))
      | inr high ↦ high
    ]

eqb_other : (n k : ℕ) → k < n → eqb n k ≡ false
eqb_other n k h = ne_eqb n k (λ e. omega (arith, h, e))

-- what stands after a numeric opcode
numeric_form : (n : ℕ) → is_numeric n ≡ true → (instr_of n).write (Plain (Numeric n)) ≡ []
unfolding instr_of op_of high_op
numeric_form n e =
    let high = numeric_high n e in
    rw (le-ltb n 0x12 (omega (arith, high)), eqb_other n 0x1C (omega (arith, high)), eqb_other n 0x42 (omega (arith, high)), le-ltb n 0x28 (omega (arith, high)), le-ltb n 0x36 (omega (arith, high)), le-ltb n 0x41 (omega (arith, high)), e) refl

pub numeric_written : (old : List ℕ) (n : ℕ) → is_numeric n ≡ true → (instr_of n).write (Plain (Numeric n)) ≡ []
numeric_written old n e = numeric_form n e

-- ---- operations among instructions

plain_by : (c may : Bool) (G : Format Instr) (op : Op) → (choose c (choose may (value Else) misplaced) G).Fits (Plain op) → (G.Fits (Plain op)) × (c ≡ false)
plain_by true true G op h = absurd cc
plain_by true false G op h = absurd h
plain_by false may G op h = (h, refl)

pub plain_fits : (op : Op) → (instr true).Fits (Plain op) → (instr_of (op_code op)).Fits (Plain op)
unfolding instr
plain_fits op h = (plain_by (eqb (op_code op) 0x05) true (instr_of (op_code op)) op h).0

pub plain_written : (op : Op) → (instr true).Fits (Plain op) → (instr true).write (Plain op) ≡ op_code op ∷ (instr_of (op_code op)).write (Plain op)
unfolding instr
plain_written op h = rw (plain_by (eqb (op_code op) 0x05) true (instr_of (op_code op)) op h).1 refl
