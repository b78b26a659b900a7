-- Folders by name.
use Rattle.std.specs.Prelude.{ℕ, ◌≡◌, List, Some, String}
use Rattle.std.specs.BTreeMap.{BTreeMap, get_by_text}
use Rattle.std.specs.declared.alloc.Global.{Global}
use Rattle.outside.specs.Files.{AreInOrder}
use Rattle.outside.specs.declared.files.Entry.{Entry}

-- each folder's entries stand in order
abbrev pub EachInOrder : BTreeMap (String Global) (List Entry) → Type 0
EachInOrder folders = (name : List ℕ) (entries : List Entry) → get_by_text folders name ≡ Some entries → AreInOrder entries
