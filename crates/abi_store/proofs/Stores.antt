-- Steps that are taken over one memory of a store.
use Rattle.std.proofs.Common.{◌≡◌, ℕ, ap, sym, ◌∙◌, List, length}
use Rattle.std.specs.Prelude.{slice_set, None}
use Rattle.std.proofs.lemmas.List.{set-set, set-get_or, length-set}
use Rattle.core_memory.specs.Linear.{Linear, fresh}
use Rattle.core_store.specs.State.{State, memory_at}
use Rattle.abi_layout.specs.Storing.{Lowered}
use Rattle.abi_store.specs.Flows.{Leads}
use Rattle.abi_store.specs.Works.{Took}
use Rattle.abi_store.proofs.Chains.{leads_then}

-- nothing of the store but one memory changed
abbrev pub Keeps : State → State → ℕ → Type 0
Keeps old new k = new ≡ record old { memories = slice_set old.memories k (memory_at new k) }

pub keeps_self : (s : State) (k : ℕ) → Keeps s s k
keeps_self s k = ap (λ (ms : List Linear). record s { memories = ms }) (sym (set-get_or s.memories k (fresh 0 None)))

pub keeps_count : (s t : State) (k : ℕ) → Keeps s t k → length t.memories ≡ length s.memories
keeps_count s t k is = ap (λ (u : State). length u.memories) is ∙ length-set s.memories k (memory_at t k)

pub keeps_then : (s t u : State) (k : ℕ) → Keeps s t k → Keeps t u k → Keeps s u k
keeps_then s t u k p q =
    q ∙ ap (λ (v : State). record v { memories = slice_set v.memories k (memory_at u k) }) p
    ∙ ap (λ (ms : List Linear). record s { memories = ms }) (set-set s.memories k (memory_at t k) (memory_at u k))

pub took_pure : (s : State) (k : ℕ) (a b : ℕ → Lowered) → ((m : Linear) → Leads m a m b) → Took s s k a b
took_pure s k a b t = (t (memory_at s k), keeps_self s k)

pub took_then : (s t u : State) (k : ℕ) (a b c : ℕ → Lowered) → Took s t k a b → Took t u k b c → Took s u k a c
took_then s t u k a b c p q = (leads_then (memory_at s k) (memory_at t k) (memory_at u k) a b c p.0 q.0, keeps_then s t u k p.1 q.1)

pub took_count : (s t : State) (k : ℕ) (a b : ℕ → Lowered) → Took s t k a b → length t.memories ≡ length s.memories
took_count s t k a b p = keeps_count s t k p.1
