-- The live handles as their code keeps them.
use Rattle.std.specs.Prelude.{◌≡◌, ℕ, zero, suc, ◌+◌, ◌<◌, ◌^◌, ◌==◌, Bool, true, false, nat_lt, List, [], length, count_by, get_or, Option, Some, None}
use Rattle.std.specs.Option.{option_map_or}
use Rattle.std.specs.List.{list_any}
use Rattle.slot_tables.specs.Entries.{entry_at, live_count}
use Rattle.ref_rules.specs.declared.content.Content.{Content}
use Rattle.ref_rules.specs.declared.content.Handle.{Handle}
use Rattle.ref_rules.specs.Contents.{open_file}
use Rattle.ref_rules.specs.Numbers.{Numbers}

-- how many handles of each kind there may be, and scratch files; and the live handles, each at the place of its number
pub record LiveTable : Type 0 where
  pub slots : ℕ
  pub files : ℕ
  pub handles : List (Option Handle)

abbrev pub of_kind : ℕ → Option Handle → Bool
of_kind kind None = false
of_kind kind (Some h) = h.kind == kind

-- how many live handles are of a kind
abbrev pub count_of_kind : ℕ → List (Option Handle) → ℕ
count_of_kind kind handles = count_by (of_kind kind) handles

abbrev pub opens : ℕ → Option Handle → Bool
opens file None = false
opens file (Some h) = option_map_or (λ n. n == file) (open_file h.content) false

-- whether a live handle holds a scratch file open
abbrev pub is_open : List (Option Handle) → ℕ → Bool
is_open handles file = list_any (opens file) handles

-- whether a scratch file that a content holds open is one of that many
abbrev pub is_inside : ℕ → Content → Bool
is_inside files content = option_map_or (λ n. nat_lt n files) (open_file content) true

abbrev pub standing_for : Content → Handle → Handle
standing_for content h = record h { content = content }

-- ---- what the code keeps

-- that many times a number
abbrev pub many : ℕ → ℕ → ℕ
many zero n = 0
many (suc times) n = many times n + n

-- a handle stands among those of its kind, with its number
pub record IsThere (kinds : List (List (Option ℕ))) (reps : List ℕ) (id : ℕ) (h : Handle) : Type 0 where
  pub kind : h.kind < 14
  pub entry : entry_at (get_or kinds h.kind []) (get_or reps id 0) ≡ Some id

pub record IsLive (slots : ℕ) (numbers : Numbers) (kinds : List (List (Option ℕ))) (reps held : List ℕ) : Type 0 where
  pub kinds_count : length kinds ≡ 14
  pub most : numbers.most ≡ many 14 slots
  pub few : slots < 2 ^ 16
  pub reps_count : length reps ≡ numbers.most
  pub capacity : (kind : ℕ) → kind < 14 → length (get_or kinds kind []) ≡ slots
  pub there : (id : ℕ) (h : Handle) → get_or numbers.handles id None ≡ Some h → IsThere kinds reps id h
  pub counts : (kind : ℕ) → kind < 14 → count_of_kind kind numbers.handles ≡ live_count (get_or kinds kind [])
  pub held_counts : (file : ℕ) → file < length held → get_or held file 0 ≡ count_by (opens file) numbers.handles
  pub inside : (id : ℕ) (h : Handle) → get_or numbers.handles id None ≡ Some h → is_inside (length held) h.content ≡ true
