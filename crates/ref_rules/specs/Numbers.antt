-- What the index of numbers keeps.
use Rattle.std.specs.Prelude.{◌≡◌, ℕ, zero, suc, ◌+◌, ◌-◌, ◌≤◌, ◌<◌, ◌^◌, nat_le, nat_eq, ◌&&◌, Bool, true, false, List, [], ◌∷◌, length, Option, Some, None, if◌then◌else◌}
use Rattle.std.specs.Ordering.{nat_cmp}
use Rattle.std.specs.BinaryHeap.{IsHeap}
use Rattle.slot_tables.specs.Entries.{live_count}
use Rattle.ref_rules.specs.declared.content.Handle.{Handle}

-- at most that many entries, and what stands at each number
pub record Numbers : Type 0 where
  pub most : ℕ
  pub handles : List (Option Handle)

-- whether nothing stands at a number of the list
abbrev pub is_free : {E : Type 0} → List (Option E) → ℕ → Bool
is_free [] number = false
is_free (None ∷ handles) zero = true
is_free (Some e ∷ handles) zero = false
is_free (e ∷ handles) (suc number) = is_free handles number

-- how often a key is in a list
abbrev pub copies : ℕ → List ℕ → ℕ
copies key [] = 0
copies key (k ∷ keys) = (if nat_eq k key then 1 else 0) + copies key keys

-- a key stands for the number that is so far below the bound
abbrev pub is_free_key : {E : Type 0} → ℕ → List (Option E) → ℕ → Bool
is_free_key most handles key = nat_le key most && is_free handles (most - key)

pub record IsKept (most : ℕ) (handles : List (Option Handle)) (keys : List ℕ) (handle_room heap_room : ℕ) : Type 0 where
  pub order : IsHeap nat_cmp keys
  -- each free number is kept once, and no other
  pub kept : (key : ℕ) → copies key keys ≡ (if is_free_key most handles key then 1 else 0)
  pub total : length keys + live_count handles ≡ length handles
  pub within : length handles ≤ most
  pub few : most < 2 ^ 32
  pub room : most ≤ handle_room
  pub heap : most ≤ heap_room
