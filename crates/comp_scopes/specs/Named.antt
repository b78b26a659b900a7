-- What is kept of named items.
use Rattle.std.specs.Prelude.{◌≡◌, ℕ, List, is_some}
use Rattle.std.specs.List.{list_any}
use Rattle.std.specs.BTreeMap.{get_by_text}
use Rattle.comp_names.specs.Same.{folded, is_same_name}
use Rattle.comp_types.specs.Items.{Entries, names}
use Rattle.comp_scopes.specs.declared.named.NamedEntries.{NamedEntries}

pub record HasNamed (es : Entries) (x : NamedEntries) : Type 0 where
  pub entries : x.entries ≡ es
  pub seen : (q : List ℕ) → is_some (get_by_text x.seen (folded q)) ≡ list_any (is_same_name q) (names es)
