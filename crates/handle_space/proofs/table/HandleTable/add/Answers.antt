use Rattle.std.proofs.Common.{◌≡◌, ℕ, Some, Result, Ok, Err, sym, ◌∙◌}
use Rattle.std.specs.Result.{IsErrAnd, IsErrOf}
use Rattle.handle_space.specs.declared.table.AddFault.{AddFault}
use Rattle.handle_space.specs.declared.table.AddFault.TheVariants.{Full, NoMemory}
use Rattle.handle_space.specs.Shown.{IsSound}
use Rattle.handle_space.proofs.Cells.{first_read, sound-reuse, reuse_added}
use Rattle.handle_space.proofs.table.HandleTable.add.Goals as goal

-- out of memory is no full table
no_memory : (r : Result ℕ AddFault) → IsErrAnd r (λ fault. fault ≡ NoMemory) → IsErrOf r Full → ⊥
no_memory (Ok index) memory full = cc
no_memory (Err fault) memory full = cc

pub invariant_of-self : goal.invariant_of-self
invariant_of-self c =
    let sound : IsSound c.self.inside.cells.items (Some c.in-Some.place) c.self.inside.free = rw c.in-Some.is at c.self.invariant in
    let found = first_read _ c.in-Some.place c.self.inside.free c.in-Free.next _ c.index_mut.ensures.value (sym c.replace.ensures.value ∙ c.in-Free.is) sound in
    rw c.replace.ensures.after (sound-reuse _ c.in-Some.place c.self.inside.free c.in-Free.next c.args.cell found c.requires sound)

pub returns-in-Some-clause-added : goal.returns-in-Some-clause-added
returns-in-Some-clause-added c =
    let sound : IsSound c.self.inside.cells.items (Some c.in-Some.place) c.self.inside.free = rw c.in-Some.is at c.self.invariant in
    let found = first_read _ c.in-Some.place c.self.inside.free c.in-Free.next _ c.index_mut.ensures.value (sym c.replace.ensures.value ∙ c.in-Free.is) sound in
    rw (← c.self.view_is, c.replace.ensures.after, c.in-Some.is) (reuse_added _ c.in-Some.place c.self.inside.free c.in-Free.next c.args.cell found c.requires sound)
