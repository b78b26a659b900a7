-- A path map, and what a path leads to. A path is the list of its names, the innermost first.
use Rattle.std.specs.Prelude.{ℕ, zero, suc, Bool, true, false, not, ◌&&◌, List, [], ◌∷◌, ◌++◌, Option, Some, None, nat_eq, if◌then◌else◌}
use Rattle.path_names.specs.Paths.{names_of}
use Rattle.tree_table.specs.declared.entries.Node.{Node}
use Rattle.tree_table.specs.declared.entries.Node.TheVariants.{Folder, File, Link}

abbrev pub Name : Type 0
Name = List ℕ

abbrev pub Path : Type 0
Path = List (List ℕ)

-- what each path leads to
abbrev pub Tree : Type 0
Tree = List (List ℕ) → Option Node

pub data Answer : Type 0 where
  At : List (List ℕ) → Answer
  Fails : ℕ → Answer

-- The error codes of wasi:filesystem/types 0.2, each the place of its name in the enum error-code.
abbrev pub loop : ℕ
loop = 15

abbrev pub no_entry : ℕ
no_entry = 20

abbrev pub not_directory : ℕ
not_directory = 24

abbrev pub not_permitted : ℕ
not_permitted = 31

-- the parts of a text, between its slashes
abbrev pub parts_of : List ℕ → List (List ℕ)
parts_of text = names_of text

-- what a part asks for: an empty one and `.` to stay, `..` to go to the parent, any other to go to the child of that name
pub data Part : Type 0 where
  Stay : Part
  Up : Part
  Named : Part

abbrev pub part_of : List ℕ → Part
part_of [] = Stay
part_of (b ∷ []) = if nat_eq b 46 then Stay else Named
part_of (b ∷ c ∷ []) = if nat_eq b 46 then (if nat_eq c 46 then Up else Named) else Named
part_of (b ∷ c ∷ d ∷ part) = Named

abbrev pub is_file : Option Node → Bool
is_file (Some (File content)) = true
is_file (Some Folder) = false
is_file (Some (Link target)) = false
is_file None = false

-- whether a text begins with a slash
abbrev pub is_rooted : List ℕ → Bool
is_rooted [] = false
is_rooted (b ∷ text) = nat_eq b 47

abbrev pub is_empty : {A : Type 0} → List A → Bool
is_empty [] = true
is_empty (x ∷ xs) = false

-- at a child: there is none, it is taken, or it is a link, which is the answer where it is the last part and isn't to be followed
abbrev pub at_child : Option Node → Bool → (List ℕ → Answer) → Answer → Answer → Answer
at_child None stops followed link taken = Fails no_entry
at_child (Some Folder) stops followed link taken = taken
at_child (Some (File content)) stops followed link taken = taken
at_child (Some (Link target)) stops followed link taken = if stops then link else followed target

abbrev pub by_part : Part → Answer → Answer → Answer → Answer
by_part Stay stays goes_up named = stays
by_part Up stays goes_up named = goes_up
by_part Named stays goes_up named = named

-- to the parent, but not above the start
abbrev pub go_up : (List (List ℕ) → Answer) → List (List ℕ) → Answer
go_up next [] = Fails not_permitted
go_up next (name ∷ below) = next below

module _ (tree : List (List ℕ) → Option Node) (start : List (List ℕ)) (follow : Bool) where
  -- from the node at these names below the start, over the parts that are left. `after` goes on at a link that is followed
  abbrev pub resolve_parts : (List (List ℕ) → List ℕ → List (List ℕ) → Answer) → List (List ℕ) → List (List ℕ) → Answer
  resolve_parts after below [] = At (below ++ start)
  resolve_parts after below (part ∷ parts) =
      if is_file (tree (below ++ start)) then Fails not_directory
      else by_part (part_of part)
      (resolve_parts after below parts)
      (go_up (λ above. resolve_parts after above parts) below)
      (at_child (tree (part ∷ (below ++ start))) (is_empty parts && not follow) (λ target. after below target parts) (At (part ∷ (below ++ start))) (resolve_parts after (part ∷ below) parts))

  -- that many more links may be followed. The target's parts come before those that are left
  abbrev pub follow_link : ℕ → List (List ℕ) → List ℕ → List (List ℕ) → Answer
  follow_link zero below target parts = Fails loop
  follow_link (suc more) below target parts = if is_rooted target then Fails not_permitted else resolve_parts (follow_link more) below (parts_of target ++ parts)

-- what a path leads to from a node: at most 40 links are followed, and the last part's only on demand
abbrev pub resolve : (List (List ℕ) → Option Node) → List (List ℕ) → List ℕ → Bool → Answer
resolve tree node path follow =
    if is_file (tree node) then Fails not_directory
    else if is_empty path then Fails no_entry
    else if is_rooted path then Fails not_permitted
    else resolve_parts tree node follow (follow_link tree node follow 40) [] (parts_of path)
