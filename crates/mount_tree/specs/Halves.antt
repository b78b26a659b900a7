-- Finding the node of a name among nodes in byte order, by halves.
use Rattle.std.specs.Prelude.{◌≡◌, ◌≢◌, ℕ, zero, suc, ◌+◌, ◌-◌, ◌/◌, ◌<◌, ◌≤◌, List, ◌∷◌, Option, Some, None, nat_lt, if◌then◌else◌}
use Rattle.std.specs.Ordering.{nat_cmp}
use Rattle.std.specs.Cmp.Lexicographic.{slice_cmp}
use Rattle.std.specs.declared.cmp.Ordering.{Ordering}
use Rattle.std.specs.declared.cmp.Ordering.TheVariants.{Less, Equal, Greater}
use Rattle.tree_table.specs.declared.entries.Node.{Node}

-- What is left of a search: the nodes from one number up to another, or the node that was found.
pub data Search : Type 0 where
  Among : ℕ → ℕ → Search
  Found : ℕ → Search

abbrev pub middle_of : ℕ → ℕ → ℕ
middle_of low high = low + (high - low) / 2

-- what is left after a probe of the middle node, by how its name compares with the one that is looked for
abbrev pub by_order : Ordering → ℕ → ℕ → ℕ → Search
by_order Less low middle high = Among (middle + 1) high
by_order Equal low middle high = Found middle
by_order Greater low middle high = Among low middle

-- one probe, where nodes are left
abbrev pub probe : (ℕ → Ordering) → Search → Search
probe order (Among low high) = if nat_lt low high then by_order (order (middle_of low high)) low (middle_of low high) high else Among low high
probe order (Found at) = Found at

-- that many probes
unfoldable pub probes : (ℕ → Ordering) → ℕ → Search → Search
probes order zero s = s
probes order (suc n) s = probes order n (probe order s)

abbrev pub found : Search → Option ℕ
found (Among low high) = None
found (Found at) = Some at

-- how a node's name compares with the one that is looked for
abbrev pub compared : (ℕ → List ℕ) → List ℕ → ℕ → Ordering
compared name part i = slice_cmp nat_cmp (name i) part

-- the node of a name among those from one number up to another, by that many probes
abbrev pub child_of : (ℕ → List ℕ) → ℕ → ℕ → ℕ → List ℕ → Option ℕ
child_of name digits from to part = found (probes (compared name part) digits (Among from to))

-- ---- what it is to find it

abbrev pub IsSorted : (ℕ → List ℕ) → ℕ → ℕ → Type 0
IsSorted name from to = (i j : ℕ) → from ≤ i → i < j → j < to → slice_cmp nat_cmp (name i) (name j) ≡ Less

-- The node has this name, or no node there has it.
abbrev pub IsChild : (ℕ → List ℕ) → ℕ → ℕ → List ℕ → Option ℕ → Type 0
IsChild name from to part (Some at) = (from ≤ at) × (at < to) × (name at ≡ part)
IsChild name from to part None = (i : ℕ) → from ≤ i → i < to → name i ≢ part

-- The node's path is that of the folder with this name after it, or the tree has nothing there.
abbrev pub LeadsTo : (ℕ → List (List ℕ) → Option Node) → (ℕ → ℕ) → (ℕ → List (List ℕ)) → ℕ → ℕ → List ℕ → Option ℕ → Type 0
LeadsTo look tree path nodes node part (Some at) = (at < nodes) × (tree at ≡ tree node) × (path at ≡ part ∷ path node)
LeadsTo look tree path nodes node part None = look (tree node) (part ∷ path node) ≡ None
