use Rattle.std.proofs.Common.{◌≡◌, ℕ, List, Option, Some, ap, sym, ◌∙◌, subst}
use Rattle.std.specs.Prelude.{IfOk}
use Rattle.core_store.specs.declared.value.CoreValue.{CoreValue}
use Rattle.wit_types.specs.Plain.{plain}
use Rattle.wit_types.specs.PlainValue.{PlainValue, plain_value}
use Rattle.abi_layout.specs.Loading.{low_word, loads, lift_flat}
use Rattle.abi_load.specs.Loaded.{bytes_at}
use Rattle.abi_load.specs.Lifted.{words}
use Rattle.instance_state.proofs.Passing.{loads_here, lifts_here}
use Rattle.instance_state.proofs.lifting.lift_value.Goals as goal

pub returns-then-passed-clause-ok : goal.returns-then-passed-clause-ok
returns-then-passed-clause-ok c =
    let ty = plain c.args.passed.now.ty in
    let place = c.first_place-place.ensures ∙ ap (λ (vs : List CoreValue). low_word (words vs) 0) c.as_slice.ensures in
    let same =
    loads_here c.args.options c.args.store.now c.args.passed.now.most ty (words c.args.flat.now) c.requires.memory (c.args.passed.now.spilled ∙ c.if-passed.true)
    ∙ ap (λ (k : ℕ). loads (bytes_at c.args.store.now k) ty (low_word (words c.args.flat.now) 0)) (sym c.unwrap_or-memory.ensures)
    ∙ ap (λ (p : ℕ). loads (bytes_at c.args.store.now c.unwrap_or-memory.result) ty p) (sym place) in
    subst (λ (o : Option PlainValue). IfOk c.load.result (λ v. o ≡ Some (plain_value v))) (sym same) c.load.ensures.ok

pub returns-then-passed-clause-trap : goal.returns-then-passed-clause-trap
returns-then-passed-clause-trap c =
    let ty = plain c.args.passed.now.ty in
    let place = c.first_place-place.ensures ∙ ap (λ (vs : List CoreValue). low_word (words vs) 0) c.as_slice.ensures in
    λ h.
    loads_here c.args.options c.args.store.now c.args.passed.now.most ty (words c.args.flat.now) c.requires.memory (c.args.passed.now.spilled ∙ c.if-passed.true)
    ∙ ap (λ (k : ℕ). loads (bytes_at c.args.store.now k) ty (low_word (words c.args.flat.now) 0)) (sym c.unwrap_or-memory.ensures)
    ∙ ap (λ (p : ℕ). loads (bytes_at c.args.store.now c.unwrap_or-memory.result) ty p) (sym place) ∙ c.load.ensures.trap h

pub returns-else-passed-clause-ok : goal.returns-else-passed-clause-ok
returns-else-passed-clause-ok c =
    let ty = plain c.args.passed.now.ty in
    let same =
    lifts_here c.args.options c.args.store.now c.args.passed.now.most ty (words c.args.flat.now) c.requires.memory (c.args.passed.now.spilled ∙ c.if-passed.false)
    ∙ ap (λ (k : ℕ). lift_flat (bytes_at c.args.store.now k) ty (words c.args.flat.now) 0) (sym c.unwrap_or-memory.ensures) in
    subst (λ (o : Option PlainValue). IfOk c.lift_flat.result (λ v. o ≡ Some (plain_value v))) (sym same) c.lift_flat.ensures.ok

pub returns-else-passed-clause-trap : goal.returns-else-passed-clause-trap
returns-else-passed-clause-trap c =
    let ty = plain c.args.passed.now.ty in
    λ h.
    lifts_here c.args.options c.args.store.now c.args.passed.now.most ty (words c.args.flat.now) c.requires.memory (c.args.passed.now.spilled ∙ c.if-passed.false)
    ∙ ap (λ (k : ℕ). lift_flat (bytes_at c.args.store.now k) ty (words c.args.flat.now) 0) (sym c.unwrap_or-memory.ensures) ∙ c.lift_flat.ensures.trap h
