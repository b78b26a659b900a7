-- What a row makes, by what every table of trees shows of it: a table in which one node is marked tells this node from all others.
use Rattle.std.proofs.Common.{◌≡◌, ◌⊎◌, ℕ, zero, suc, ◌+◌, ◌-◌, ◌<◌, Bool, true, false, nat_lt, List, [], ◌∷◌, length, drop, replicate, slice_get, Option, Some, None, option_map, Ok, Err, Result, refl, sym, ap, ◌∙◌, inl, inr, arith}
use Rattle.std.proofs.lemmas.Bool.{lt-ltb}
use Rattle.std.proofs.lemmas.Grind.{common_steps}
use Rattle.std.specs.Prelude.{◌==◌, ◌&&◌, IfOk}
use Rattle.std.specs.Option.{option_map_or}
use Rattle.tree_table.specs.declared.entries.Node.TheVariants.{Folder}
use Rattle.tree_table.specs.Tables.{Forest, Row as Entry, tree_of}
use Rattle.wit_types.specs.PlainValue.{PlainValue}
use Rattle.reference_step.specs.Handles.{Content, DirectoryEntry, Node, FileAt, Entries}
use Rattle.reference_step.specs.State.{Row as PlainRow, Traps as PlainTraps, Does as PlainDoes, gives_ok, moves}
use Rattle.ref_rules.specs.declared.content.Content.{Content as Held}
use Rattle.ref_rules.specs.declared.content.Content.TheVariants as held
use Rattle.ref_answers.specs.declared.row.Row.{Row}
use Rattle.ref_answers.specs.declared.row.Effect.{Effect}
use Rattle.ref_answers.specs.declared.row.Row.TheVariants.{Traps, Does}
use Rattle.ref_answers.specs.Seen.{children_of, entries_of_node, content_in}
use Rattle.ref_answers.specs.Shown.{made, shown}
use Rattle.ref_virtual.specs.Inside.{node_inside, row_inside}

-- ---- a table with one marked node

abbrev blank : Entry
blank = record { tree = 0; place = 0; name = []; parent = 0; from = 0; to = 0; node = Folder }

abbrev mark : ℕ → Entry
mark to = record { tree = 1; place = 0; name = []; parent = 0; from = 0; to = to; node = Folder }

-- a row with that many blank ones before it, and that many after it
abbrev among : ℕ → ℕ → Entry → List Entry
among zero behind row = row ∷ replicate behind blank
among (suc before) behind row = blank ∷ among before behind row

abbrev empty : Forest
empty = record { roots = 0; rows = [] }

-- its node of this number alone is of tree 1, and alone has entries, more than that many
abbrev marked : ℕ → ℕ → Forest
marked node behind = record { roots = 0; rows = among node behind (mark (node + 1 + behind)) }

there : {X : Type 0} (g : Entry → X) (none : X) (node behind : ℕ) (row : Entry) → option_map_or g (slice_get (among node behind row) node) none ≡ g row
there g none zero behind row = refl
there g none (suc node) behind row = there g none node behind row

module _ {X : Type 0} (g : Entry → X) (none : X) (is : g blank ≡ none) where
  blanks : (count i : ℕ) → option_map_or g (slice_get (replicate count blank) i) none ≡ none
  blanks zero i = refl
  blanks (suc count) zero = is
  blanks (suc count) (suc i) = blanks count i

  elsewhere : (node behind i : ℕ) (row : Entry) → (i ≡ node) ⊎ (option_map_or g (slice_get (among node behind row) i) none ≡ none)
  elsewhere zero behind zero row = inl refl
  elsewhere zero behind (suc i) row = inr (blanks behind i)
  elsewhere (suc node) behind zero row = inr is
  elsewhere (suc node) behind (suc i) row = elim (elsewhere node behind i row) [ inl same ↦ inl (ap suc same) | inr other ↦ inr other ]

long : (node behind : ℕ) (row : Entry) → length (among node behind row) ≡ node + 1 + behind
long zero behind row = grind (arith, common_steps)
long (suc node) behind row = omega (arith, long node behind row)

-- ---- what tells the marked node

abbrev some_left : List DirectoryEntry → Bool
some_left [] = false
some_left (e ∷ rest) = true

abbrev tells : Content → Bool
tells (Node tree path) = tree == 1
tells (FileAt tree path place) = tree == 1
tells (Entries rest) = some_left rest
tells _ = false

none_left : (place : ℕ) → some_left (drop place []) ≡ false
none_left zero = refl
none_left (suc place) = refl

left_over : (place : ℕ) (es : List DirectoryEntry) → place < length es → some_left (drop place es) ≡ true
left_over place [] less = absurd (omega arith)
left_over zero (e ∷ es) less = refl
left_over (suc place) (e ∷ es) less = left_over place es (omega arith)

module _ (node place : ℕ) where
  abbrev behind : ℕ
  behind = place + 1

  abbrev total : ℕ
  total = node + 1 + behind

  abbrev f : Forest
  f = marked node behind

  tree_there : (tree_of f node == 1) ≡ true
  tree_there = ap (λ t. t == 1) (there (λ (row : Entry). row.tree) 0 node behind (mark total))

  listed : entries_of_node f node ≡ children_of f (mark total)
  listed = there (children_of f) [] node behind (mark total)

  many : place < length (children_of f (mark total))
  many =
      let all : length f.rows ≡ total = long node behind (mark total) in
      grind (arith, common_steps, all)

  entries_there : some_left (drop place (entries_of_node f node)) ≡ true
  entries_there = ap (λ es. some_left (drop place es)) listed ∙ left_over place (children_of f (mark total)) many

  tree_only : (i : ℕ) → (tree_of f i == 1) ≡ true → i ≡ node
  tree_only i is = elim (elsewhere (λ (row : Entry). row.tree) 0 refl node behind i (mark total)) [
    | inl same ↦ same
    | inr other ↦ let clash : false ≡ true = ap (λ t. t == 1) (sym other) ∙ is in absurd (cc)
  ]

  entries_only : (i at : ℕ) → some_left (drop at (entries_of_node f i)) ≡ true → i ≡ node
  entries_only i at is = elim (elsewhere (children_of f) [] refl node behind i (mark total)) [
    | inl same ↦ same
    | inr other ↦ let clash : false ≡ true = sym (none_left at) ∙ ap (λ es. some_left (drop at es)) (sym other) ∙ is in absurd (cc)
  ]

  module _ (nodes : ℕ) where
    same_node : (i : ℕ) → i ≡ node → nat_lt i nodes ≡ true → nat_lt node nodes ≡ true
    same_node i same inside = ap (λ k. nat_lt k nodes) (sym same) ∙ inside

    told_inside : (c : Held) → tells (content_in f c) ≡ true → node_inside nodes c ≡ true → nat_lt node nodes ≡ true
    told_inside (held.Node i) is inside = same_node i (tree_only i is) inside
    told_inside (held.FileAt i at) is inside = same_node i (tree_only i is) inside
    told_inside (held.Entries i at) is inside = same_node i (entries_only i at is) inside
    told_inside (held.Host id) is inside = cc
    told_inside held.EmptyIn is inside = cc
    told_inside held.Discard is inside = cc
    told_inside held.Always is inside = cc
    told_inside held.ScratchRoot is inside = cc
    told_inside (held.ScratchEntries number) is inside = cc
    told_inside (held.ScratchFile number may_write) is inside = cc
    told_inside (held.ScratchIn number at) is inside = cc
    told_inside (held.ScratchOut number at) is inside = cc

-- ---- contents

-- shown as another one
content_same : (c d : Held) (nodes : ℕ) → ((f : Forest) → content_in f c ≡ content_in f d) → node_inside nodes d ≡ true → node_inside nodes c ≡ true
content_same (held.Node node) d nodes alike inside = told_inside node 0 nodes d (ap tells (sym (alike (marked node 1))) ∙ tree_there node 0) inside
content_same (held.FileAt node at) d nodes alike inside = told_inside node 0 nodes d (ap tells (sym (alike (marked node 1))) ∙ tree_there node 0) inside
content_same (held.Entries node at) d nodes alike inside = told_inside node at nodes d (ap tells (sym (alike (marked node (at + 1)))) ∙ entries_there node at) inside
content_same (held.Host id) d nodes alike inside = refl
content_same held.EmptyIn d nodes alike inside = refl
content_same held.Discard d nodes alike inside = refl
content_same held.Always d nodes alike inside = refl
content_same held.ScratchRoot d nodes alike inside = refl
content_same (held.ScratchEntries number) d nodes alike inside = refl
content_same (held.ScratchFile number may_write) d nodes alike inside = refl
content_same (held.ScratchIn number at) d nodes alike inside = refl
content_same (held.ScratchOut number at) d nodes alike inside = refl

-- shown by every table as the same: it has no node
module _ (c : Held) (k : Content) (fixed : (f : Forest) → content_in f c ≡ k) where
  no_node : (f : Forest) → tells (content_in f c) ≡ true → tells (content_in empty c) ≡ false → ⊥
  no_node f is not = let clash : true ≡ false = sym is ∙ ap tells (fixed f) ∙ ap tells (sym (fixed empty)) ∙ not in cc

content_fixed : (c : Held) (k : Content) (nodes : ℕ) → ((f : Forest) → content_in f c ≡ k) → node_inside nodes c ≡ true
content_fixed (held.Node node) k nodes fixed = absurd (no_node (held.Node node) k fixed (marked node 1) (tree_there node 0) refl)
content_fixed (held.FileAt node at) k nodes fixed = absurd (no_node (held.FileAt node at) k fixed (marked node 1) (tree_there node 0) refl)
content_fixed (held.Entries node at) k nodes fixed = absurd (no_node (held.Entries node at) k fixed (marked node (at + 1)) (entries_there node at) (none_left at))
content_fixed (held.Host id) k nodes fixed = refl
content_fixed held.EmptyIn k nodes fixed = refl
content_fixed held.Discard k nodes fixed = refl
content_fixed held.Always k nodes fixed = refl
content_fixed held.ScratchRoot k nodes fixed = refl
content_fixed (held.ScratchEntries number) k nodes fixed = refl
content_fixed (held.ScratchFile number may_write) k nodes fixed = refl
content_fixed (held.ScratchIn number at) k nodes fixed = refl
content_fixed (held.ScratchOut number at) k nodes fixed = refl

-- ---- rows

abbrev pub makes_in : PlainRow → List Content
makes_in PlainTraps = []
makes_in (PlainDoes e) = e.makes

abbrev pub becomes_in : PlainRow → Option Content
becomes_in PlainTraps = None
becomes_in (PlainDoes e) = e.becomes

abbrev is_inside : ℕ → Option Held → Bool
is_inside nodes o = option_map_or (node_inside nodes) o true

first_same : (a b : Content) → a ∷ [] ≡ b ∷ [] → a ≡ b
first_same a b e = cc

first_fixed : (a b : Content) (bs : List Content) → a ∷ [] ≡ b ∷ bs → a ≡ b
first_fixed a b bs e = cc

some_same : (a b : Content) → Some a ≡ Some b → a ≡ b
some_same a b e = cc

made_same : (o : Option Held) (c : Held) (nodes : ℕ) → ((f : Forest) → made f o ≡ content_in f c ∷ []) → node_inside nodes c ≡ true → is_inside nodes o ≡ true
made_same None c nodes alike inside = refl
made_same (Some b) c nodes alike inside = content_same b c nodes (λ f. first_same (content_in f b) (content_in f c) (alike f)) inside

made_fixed : (o : Option Held) (ks : List Content) (nodes : ℕ) → ((f : Forest) → made f o ≡ ks) → is_inside nodes o ≡ true
made_fixed None ks nodes fixed = refl
made_fixed (Some c) [] nodes fixed = let clash : content_in empty c ∷ [] ≡ [] = fixed empty in cc
made_fixed (Some c) (k ∷ ks) nodes fixed = content_fixed c k nodes (λ f. first_fixed (content_in f c) k ks (fixed f))

become_same : (o : Option Held) (c : Held) (nodes : ℕ) → ((f : Forest) → option_map (content_in f) o ≡ Some (content_in f c)) → node_inside nodes c ≡ true → is_inside nodes o ≡ true
become_same None c nodes alike inside = refl
become_same (Some b) c nodes alike inside = content_same b c nodes (λ f. some_same (content_in f b) (content_in f c) (alike f)) inside

become_fixed : (o : Option Held) (k : Option Content) (nodes : ℕ) → ((f : Forest) → option_map (content_in f) o ≡ k) → is_inside nodes o ≡ true
become_fixed None k nodes fixed = refl
become_fixed (Some c) None nodes fixed = let clash : Some (content_in empty c) ≡ None = fixed empty in cc
become_fixed (Some c) (Some k) nodes fixed = content_fixed c k nodes (λ f. some_same (content_in f c) k (fixed f))

both : (a b : Bool) → a ≡ true → b ≡ true → (a && b) ≡ true
both a b p q = rw (p, q) refl

pub effect_fixed : (e : Effect) (ks : List Content) (k : Option Content) (nodes : ℕ) → ((f : Forest) → made f e.makes ≡ ks) → ((f : Forest) → option_map (content_in f) e.becomes ≡ k) → row_inside nodes (Does e) ≡ true
effect_fixed e ks k nodes makes becomes = both (is_inside nodes e.makes) (is_inside nodes e.becomes) (made_fixed e.makes ks nodes makes) (become_fixed e.becomes k nodes becomes)

-- what it makes is shown by every table as the same: it has no node
pub row_plain : (row : Row) (r : Forest → PlainRow) (ks : List Content) (k : Option Content) (nodes : ℕ) → ((f : Forest) → shown f row ≡ r f) → ((f : Forest) → makes_in (r f) ≡ ks) → ((f : Forest) → becomes_in (r f) ≡ k) → row_inside nodes row ≡ true
row_plain Traps r ks k nodes says makes becomes = refl
row_plain (Does e) r ks k nodes says makes becomes = effect_fixed e ks k nodes (λ f. ap makes_in (says f) ∙ makes f) (λ f. ap becomes_in (says f) ∙ becomes f)

pub row_fixed : (row : Row) (r : PlainRow) (nodes : ℕ) → ((f : Forest) → shown f row ≡ r) → row_inside nodes row ≡ true
row_fixed row r nodes says = row_plain row (λ f. r) (makes_in r) (becomes_in r) nodes says (λ f. refl) (λ f. refl)

row_gives : (row : Row) (c : Held) (nodes : ℕ) → ((f : Forest) → shown f row ≡ gives_ok (content_in f c)) → node_inside nodes c ≡ true → row_inside nodes row ≡ true
row_gives Traps c nodes says inside = refl
row_gives (Does e) c nodes says inside = both (is_inside nodes e.makes) (is_inside nodes e.becomes) (made_same e.makes c nodes (λ f. ap makes_in (says f)) inside) (become_fixed e.becomes None nodes (λ f. ap becomes_in (says f)))

pub row_moves : (row : Row) (c : Held) (v : PlainValue) (nodes : ℕ) → ((f : Forest) → shown f row ≡ moves (content_in f c) v) → node_inside nodes c ≡ true → row_inside nodes row ≡ true
row_moves Traps c v nodes says inside = refl
row_moves (Does e) c v nodes says inside = both (is_inside nodes e.makes) (is_inside nodes e.becomes) (made_fixed e.makes [] nodes (λ f. ap makes_in (says f))) (become_same e.becomes c nodes (λ f. ap becomes_in (says f)) inside)

-- ---- where memory was there

pub gives_inside : {E : Type 0} (r : Result Row E) (c : Held) (nodes : ℕ) → IfOk r (λ row. (f : Forest) → shown f row ≡ gives_ok (content_in f c)) → node_inside nodes c ≡ true → IfOk r (λ row. row_inside nodes row ≡ true)
gives_inside (Ok row) c nodes says inside = row_gives row c nodes says inside
gives_inside (Err e) c nodes says inside = says

pub fixed_inside : {E : Type 0} (r : Result Row E) (k : PlainRow) (nodes : ℕ) → IfOk r (λ row. (f : Forest) → shown f row ≡ k) → IfOk r (λ row. row_inside nodes row ≡ true)
fixed_inside (Ok row) k nodes says = row_fixed row k nodes says
fixed_inside (Err e) k nodes says = says

-- a number below that many
pub below : (node nodes : ℕ) → node < nodes → nat_lt node nodes ≡ true
below node nodes less = lt-ltb node nodes less
