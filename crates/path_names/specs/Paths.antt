-- The paths of a tree, and which of them cannot stand together.
use Rattle.std.specs.Prelude.{ℕ, List, [], ◌∷◌, Bool, true, false, not, ◌==◌, ◌&&◌, ◌||◌, length, nat_le, codes}
use Rattle.std.specs.List.{list_any, list_all}
use Rattle.std.specs.Str.{bytes_eq}
use Rattle.path_names.specs.Parts.{holds_byte, parts_of}

-- ---- what a path is

-- the names that `/` joins
abbrev pub names_of : List ℕ → List (List ℕ)
names_of path = parts_of 47 path

-- 1 to 255 bytes without NUL (and `/`), neither `.` nor `..`
abbrev pub is_name : List ℕ → Bool
is_name name = ((not (length name == 0) && nat_le (length name) 255) && not (holds_byte 0 name))
    && (not (bytes_eq name (codes ".")) && not (bytes_eq name (codes "..")))

abbrev pub is_path : List ℕ → Bool
is_path path = list_all is_name (names_of path)

-- ---- what stands at a path

-- a path at which a leaf stands, as a file or a link, or else a folder
pub record Placed : Type 0 where
  pub path : List ℕ
  pub leaf : Bool

-- the second path is the first, or lies in it
abbrev pub covers : List ℕ → List ℕ → Bool
covers [] [] = true
covers [] (byte ∷ inner) = byte == 47
covers (byte ∷ outer) [] = false
covers (byte ∷ outer) (c ∷ inner) = (byte == c) && covers outer inner

-- a leaf is nothing else, and nothing lies in it
abbrev pub clashes : Placed → Placed → Bool
clashes p q = (p.leaf && covers p.path q.path) || (q.leaf && covers q.path p.path)

-- no two of them clash
abbrev pub is_clear : List Placed → Bool
is_clear [] = true
is_clear (p ∷ ps) = not (list_any (clashes p) ps) && is_clear ps

-- what a link leads to: a text of 1 to 4096 bytes without NUL
abbrev pub is_target : List ℕ → Bool
is_target target = (not (length target == 0) && not (holds_byte 0 target)) && nat_le (length target) 4096
