-- The code that a run holds is that of its function.
use Rattle.std.proofs.Common.{◌≡◌, ℕ, ◌+◌, ◌<◌, List, Bool, length, Some, sym, ap, ◌∙◌, subst}
use Rattle.std.specs.Prelude.{slice_get}
use Rattle.wasm_ast.specs.Boxed.{Held}
use Rattle.wasm_ast.specs.declared.instr.BranchTable.{BranchTable}
use Rattle.wasm_ast.specs.declared.instr.Op.{Op}
use Rattle.wasm_ast.specs.declared.instr.Instr.{Instr}
use Rattle.wasm_ast.specs.declared.instr.Instr.TheVariants.{BrTable}
use Rattle.core_store.specs.declared.brackets.Jump.{Jump}
use Rattle.core_store.specs.Jumps.{JumpsFrom}
use Rattle.core_store.specs.declared.value.CoreSpaces.{CoreSpaces}
use Rattle.core_store.specs.State.{State}
use Rattle.core_store.specs.Scene.{scene_of}
use Rattle.core_store.specs.Eval.{target}
use Rattle.core_store.specs.Fine.{Names}
use Rattle.core_slots.specs.Stacked.{Stacked}
use Rattle.core_interp.specs.declared.running.Running.{Running}
use Rattle.core_interp.specs.Plains.{Did}
use Rattle.core_interp.specs.Run.{IsBefore, Ready, HasTable, TakesLabel}
use Rattle.core_interp.proofs.Given.{code_in, spaces_in, within}
use Rattle.core_interp.proofs.Stepping.{has_table, label_taken}

pub within_held : (code : List Instr) (i : Instr) (m : Running) (s : State) → code ≡ code_in m s → IsBefore i m s → m.at < length code
within_held code i m s e x = subst (λ (xs : List Instr). m.at < length xs) (sym e) (within i m s x)

pub there_held : (code : List Instr) (i : Instr) (m : Running) (s : State) → code ≡ code_in m s → slice_get code m.at ≡ Some i → slice_get (code_in m s) m.at ≡ Some i
there_held code i m s e h = sym (ap (λ (xs : List Instr). slice_get xs m.at) e) ∙ h

pub before_held : (code : List Instr) (i : Instr) (m : Running) (s : State) → code ≡ code_in m s → slice_get code m.at ≡ Some i → m.at + 1 < 18446744073709551616 → Ready m s → IsBefore i m s
before_held code i m s e h small ready = record { there = there_held code i m s e h; small = small; ready = ready }

pub jumps_held : (code : List Instr) (i : Instr) (m : Running) (s : State) (jump : Jump) → code ≡ code_in m s → ((j : Instr) → slice_get code m.at ≡ Some j → JumpsFrom code m.at j jump) → slice_get (code_in m s) m.at ≡ Some i → JumpsFrom (code_in m s) m.at i jump
jumps_held code i m s jump e h x = subst (λ (xs : List Instr). JumpsFrom xs m.at i jump) e (h i (ap (λ (xs : List Instr). slice_get xs m.at) e ∙ x))

pub table_held : (code : List Instr) (t : Held BranchTable) (m : Running) (s : State) → code ≡ code_in m s → IsBefore (BrTable t) m s → HasTable (slice_get code m.at)
table_held code t m s e x = subst (λ (xs : List Instr). HasTable (slice_get xs m.at)) (sym e) (has_table m s t x)

pub label_held : (code : List Instr) (t : Held BranchTable) (m : Running) (s : State) (index label : ℕ) → code ≡ code_in m s → IsBefore (BrTable t) m s → TakesLabel (slice_get code m.at) index label → label ≡ target t.value index
label_held code t m s index label e x h = label_taken m s t index label x (subst (λ (xs : List Instr). TakesLabel (slice_get xs m.at) index label) e h)

-- and the index spaces are those of its instance
pub names_held : (spaces : CoreSpaces) (m : Running) (s : State) (o : Op) → spaces ≡ spaces_in m s → Names (scene_of s) (spaces_in m s) (length m.slots.locals) o → Names (scene_of s) spaces (length m.slots.locals) o
names_held spaces m s o e h = subst (λ sp. Names (scene_of s) sp (length m.slots.locals) o) (sym e) h

pub did_held : (spaces : CoreSpaces) (m : Running) (s t : State) (b : Stacked) (o : Op) (w v : Bool) → spaces ≡ spaces_in m s → w ≡ v → Did o spaces m.slots s b t w → Did o (spaces_in m s) m.slots s b t v
did_held spaces m s t b o w v e ew h = subst (λ sp. Did o sp m.slots s b t v) e (subst (Did o spaces m.slots s b t) ew h)
