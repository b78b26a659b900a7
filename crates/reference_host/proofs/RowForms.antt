-- What has the type that a function returns, by the form of its row.
use Rattle.std.proofs.Common.{◌≡◌, ℕ, ◌<◌, ◌^◌, Bool, true, false, ◌&&◌, List, [], ◌∷◌, length, take, drop, length-take, length-drop, Option, Some, None, refl, lit<, arith}
use Rattle.std.specs.Prelude.{if◌then◌else◌}
use Rattle.std.proofs.lemmas.List.Elements.{All-nil, All-take, All-drop}
use Rattle.wit_types.specs.Plain.{Plain}
use Rattle.wit_types.specs.PlainValue.{PlainValue, PlainValues}
use Rattle.host_port.specs.Hosts.{IsResult}
use Rattle.tree_table.specs.declared.entries.Node.{Node as TreeNode}
use Rattle.tree_table.specs.declared.entries.Node.TheVariants.{Folder, File, Link}
use Rattle.tree_table.specs.Paths.{Path, Answer, At, Fails}
use Rattle.tree_table.specs.Scratches.{ScratchMap}
use Rattle.reference_step.specs.Codes as code
use Rattle.reference_step.specs.Handles.{Content}
use Rattle.reference_step.specs.Nodes.{Found, TheRoot, TheFile, Missing, file_bytes, size_of, type_of}
use Rattle.reference_step.specs.Values.{done, nth, list_in, numbers_of}
use Rattle.reference_step.specs.State.{Row, Traps, Does, returns, fails, gives_ok, gives_ok_in, moves, stores}
use Rattle.reference_step.specs.Descriptors as descriptor
use Rattle.reference_host.specs.Sound.{AreFileBytes, IsSoundNode}
use Rattle.reference_host.proofs.ValueForms.{Has, handle, labels, result, filed, code_has}
use Rattle.reference_host.proofs.CodeLaws.{IsCode, HasCode, IsFound}

-- what a row returns has the type; none where there is none
unfoldable pub RowHas : Option Plain → Row → Type 0
RowHas ty Traps = Unit {0}
RowHas ty (Does e) = IsResult ty e.value

-- lists that are the first two of arguments are short enough for their places to be counted
pub record AreShort (args : PlainValues) : Type 0 where
  pub first : length (list_in (nth 0 args)) < 2 ^ 32
  pub second : length (list_in (nth 1 args)) < 2 ^ 32

pub both_true : (a b : Bool) → a ≡ true → b ≡ true → (a && b) ≡ true
both_true true b p q = q
both_true false b p q = p

-- by a test
pub either : (ty : Option Plain) (b : Bool) (x y : Row) → RowHas ty x → RowHas ty y → RowHas ty (if b then x else y)
either ty true x y p q = p
either ty false x y p q = q

-- ---- forms of rows

pub returned : (ty : Plain) (v : PlainValue) → Has ty v → RowHas (Some ty) (returns v)
unfolding RowHas
returned ty v has = has

pub moved : (ty : Plain) (c : Content) (v : PlainValue) → Has ty v → RowHas (Some ty) (moves c v)
unfolding RowHas
moved ty c v has = has

pub fault : (good : Option Plain) (e : ℕ) → IsCode e → RowHas (filed good) (fails e)
unfolding RowHas
fault good e is = code_has good e is

pub opens : (c : Content) → RowHas (filed (Some handle)) (gives_ok c)
unfolding RowHas
opens c = refl

pub opens_in : (m : ScratchMap) (c : Content) → RowHas (filed (Some handle)) (gives_ok_in m c)
unfolding RowHas
opens_in m c = refl

pub is_done : RowHas (filed None) (returns done)
unfolding RowHas
is_done = refl

pub stores_done : (m : ScratchMap) → RowHas (filed None) (stores m done)
unfolding RowHas
stores_done m = refl

-- a change of the scratch folder, where the quota allows it
pub stored : (good : Option Plain) (o : Option ScratchMap) (v : PlainValue) → Has (result good (labels 37)) v → RowHas (filed good) (descriptor.stored o v)
unfolding RowHas
stored good None v has = code_has good code.insufficient_space (lit< tt)
stored good (Some m) v has = has

-- ---- at what a path leads to

pub at_found : (good : Option Plain) (a : Answer) (go : Path → Row) → HasCode a → ((p : Path) → RowHas (filed good) (go p)) → RowHas (filed good) (descriptor.at_found a go)
at_found good (Fails e) go has each = fault good e has
at_found good (At p) go has each = each p

pub in_scratch : (good : Option Plain) (files : ℕ) (x : Found) (root : Row) (file : ℕ → Row) → IsFound files x → RowHas (filed good) root → ((n : ℕ) → n < files → RowHas (filed good) (file n)) → RowHas (filed good) (descriptor.in_scratch x root file)
in_scratch good files (Missing e) root file is at_root at_file = fault good e is
in_scratch good files TheRoot root file is at_root at_file = at_root
in_scratch good files (TheFile n) root file is at_root at_file = at_file n is

-- ---- what nodes hold

pub node_bytes : (node : Option TreeNode) → IsSoundNode node → AreFileBytes (file_bytes node)
node_bytes None is = record { bytes = All-nil (λ b. b < 256); count = lit< tt }
node_bytes (Some Folder) is = record { bytes = All-nil (λ b. b < 256); count = lit< tt }
node_bytes (Some (File content)) is = is
node_bytes (Some (Link target)) is = record { bytes = All-nil (λ b. b < 256); count = lit< tt }

pub node_size : (node : Option TreeNode) → IsSoundNode node → size_of node < 2 ^ 64
node_size None is = lit< tt
node_size (Some Folder) is = lit< tt
node_size (Some (File content)) is = is.count
node_size (Some (Link target)) is = is

pub node_type : (node : Option TreeNode) → type_of node < 8
node_type None = lit< tt
node_type (Some Folder) = lit< tt
node_type (Some (File content)) = lit< tt
node_type (Some (Link target)) = lit< tt

-- ---- parts of bytes

pub part_bytes : (bytes : List ℕ) (place len : ℕ) → AreFileBytes bytes → AreFileBytes (take len (drop place bytes))
part_bytes bytes place len are =
    record { bytes = All-take (λ b. b < 256) len (drop place bytes) (All-drop (λ b. b < 256) place bytes are.bytes); count = omega (arith, are.count, length-take len (drop place bytes), length-drop place bytes) }

pub count_numbers : (vs : List PlainValue) → length (numbers_of vs) ≡ length vs
count_numbers [] = refl
count_numbers (v ∷ vs) = omega (arith, count_numbers vs)
