-- The error codes to which paths lead are cases of the enum error-code of wasi:filesystem/types.
use Rattle.std.proofs.Common.{◌≡◌, ℕ, zero, suc, ◌<◌, Bool, true, false, not, ◌&&◌, List, [], ◌∷◌, ◌++◌, length, filter, Option, Some, None, refl, lit<}
use Rattle.std.specs.Prelude.{nat_lt, ◌==◌, if◌then◌else◌}
use Rattle.std.specs.List.{list_any}
use Rattle.std.proofs.lemmas.List.Quantifiers.{position-Some}
use Rattle.tree_table.specs.declared.entries.Node.{Node as TreeNode}
use Rattle.tree_table.specs.declared.entries.Node.TheVariants.{Folder, File, Link}
use Rattle.tree_table.specs.Paths.{Path, Answer, At, Fails, Part, Stay, Up, Named as NamedPart, is_file, is_rooted, is_empty, at_child, by_part, go_up, resolve_parts, follow_link, resolve, parts_of, part_of}
use Rattle.tree_table.specs.Scratches.{ScratchMap, find_file, has_name, scratch_tree}
use Rattle.reference_step.specs.Nodes.{Found, TheRoot, TheFile, Missing, found_file, found_at, lead_in, NewName, Named, Unnamed, is_stay, last_stays, legal, name_by, only_name, new_name}

-- one of 37
abbrev pub IsCode : ℕ → Type 0
IsCode e = e < 37

abbrev pub HasCode : Answer → Type 0
HasCode (At path) = Unit {0}
HasCode (Fails e) = IsCode e

either : (b : Bool) (x y : Answer) → HasCode x → HasCode y → HasCode (if b then x else y)
either true x y p q = p
either false x y p q = q

child : (node : Option TreeNode) (stops : Bool) (followed : List ℕ → Answer) (link taken : Answer) → ((target : List ℕ) → HasCode (followed target)) → HasCode link → HasCode taken → HasCode (at_child node stops followed link taken)
child None stops followed link taken p q r = lit< tt
child (Some Folder) stops followed link taken p q r = r
child (Some (File content)) stops followed link taken p q r = r
child (Some (Link target)) stops followed link taken p q r = either stops link (followed target) q (p target)

by : (part : Part) (stays goes_up named : Answer) → HasCode stays → HasCode goes_up → HasCode named → HasCode (by_part part stays goes_up named)
by Stay stays goes_up named p q r = p
by Up stays goes_up named p q r = q
by NamedPart stays goes_up named p q r = r

up : (next : Path → Answer) (below : Path) → ((above : Path) → HasCode (next above)) → HasCode (go_up next below)
up next [] p = lit< tt
up next (name ∷ below) p = p below

module _ (tree : Path → Option TreeNode) (start : Path) (follow : Bool) where
  parts_have : (after : Path → List ℕ → List (List ℕ) → Answer) → ((below : Path) (target : List ℕ) (parts : List (List ℕ)) → HasCode (after below target parts)) → (parts : List (List ℕ)) (below : Path) → HasCode (resolve_parts tree start follow after below parts)
  parts_have after each [] below = tt
  parts_have after each (part ∷ parts) below =
      either (is_file (tree (below ++ start))) _ _ (lit< tt)
      (by (part_of part) _ _ _
      (parts_have after each parts below)
      (up (λ above. resolve_parts tree start follow after above parts) below (λ above. parts_have after each parts above))
      (child (tree (part ∷ (below ++ start))) (is_empty parts && not follow) (λ target. after below target parts) _ _ (λ target. each below target parts) tt (parts_have after each parts (part ∷ below))))

  link_has : (more : ℕ) (below : Path) (target : List ℕ) (parts : List (List ℕ)) → HasCode (follow_link tree start follow more below target parts)
  link_has zero below target parts = lit< tt
  link_has (suc more) below target parts = either (is_rooted target) _ _ (lit< tt) (parts_have (follow_link tree start follow more) (link_has more) (parts_of target ++ parts) below)

pub resolve_has : (tree : Path → Option TreeNode) (node : Path) (text : List ℕ) (follow : Bool) → HasCode (resolve tree node text follow)
resolve_has tree node text follow =
    either (is_file (tree node)) _ _ (lit< tt)
    (either (is_empty text) _ _ (lit< tt)
    (either (is_rooted text) _ _ (lit< tt)
    (parts_have tree node follow (follow_link tree node follow 40) (link_has tree node follow 40) (parts_of text) [])))

-- ---- the scratch folder

-- a code, or the number of one of that many files
abbrev pub IsFound : ℕ → Found → Type 0
IsFound files TheRoot = Unit {0}
IsFound files (TheFile number) = number < files
IsFound files (Missing e) = IsCode e

file_found : (m : ScratchMap) (name : List ℕ) (o : Option ℕ) → find_file m name ≡ o → IsFound (length m.files) (found_file o)
file_found m name None is = lit< tt
file_found m name (Some number) is = (position-Some (has_name name) m.files number None is).0

answer_found : (m : ScratchMap) (a : Answer) → HasCode a → IsFound (length m.files) (found_at m a)
answer_found m (Fails e) has = has
answer_found m (At []) has = tt
answer_found m (At (name ∷ above)) has = file_found m name (find_file m name) refl

pub lead_found : (m : ScratchMap) (text : List ℕ) → IsFound (length m.files) (lead_in m text)
lead_found m text = answer_found m (resolve (scratch_tree m) [] text false) (resolve_has (scratch_tree m) [] text false)

-- ---- names

abbrev pub IsName : NewName → Type 0
IsName (Named name) = Unit {0}
IsName (Unnamed e) = IsCode e

one_of : (b : Bool) (x y : NewName) → IsName x → IsName y → IsName (if b then x else y)
one_of true x y p q = p
one_of false x y p q = q

legal_name : (name : List ℕ) → IsName (legal name)
legal_name name = one_of (nat_lt 255 (length name)) _ _ (lit< tt) (one_of (list_any (λ b. b == 0) name) _ _ (lit< tt) tt)

part_name : (part : Part) (name : List ℕ) → IsName (name_by part name)
part_name Stay name = lit< tt
part_name Up name = lit< tt
part_name NamedPart name = legal_name name

alone : (parts : List (List ℕ)) → IsName (only_name parts)
alone [] = lit< tt
alone (name ∷ []) = part_name (part_of name) name
alone (name ∷ next ∷ parts) = lit< tt

pub name_is : (text : List ℕ) → IsName (new_name text)
name_is text = one_of (is_rooted text) _ _ (lit< tt) (one_of (last_stays (parts_of text)) _ _ (lit< tt) (alone (filter (λ part. not (is_stay (part_of part))) (parts_of text))))
