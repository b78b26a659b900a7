-- What walks over items answer, where a table has the value types that stand in these.
use Rattle.std.specs.Prelude.{◌≡◌, Bool}
use Rattle.comp_types.specs.Items.{Item, Kind, Entries}
use Rattle.comp_types.specs.Substitution.{partner_in, item_with, kind_with, entries_with}
use Rattle.comp_types.specs.Matching.{GoesOn, matched_item, matched_kind, matched_entries, matched_argument, matched_arguments}
use Rattle.type_table.specs.Tables.{HasItem, HasKind, HasEntries}
use Rattle.type_table.specs.Walks.{Walk}

-- ---- a walk goes on, with the pairs that the definition's walk has then

abbrev pub MeetsItem : Walk → Walk → Item → Item → Bool → Type 0
MeetsItem old new a b same = HasItem old.types a → HasItem old.types b → GoesOn same new.by (matched_item old.by a b)

abbrev pub MeetsKind : Walk → Walk → Kind → Kind → Bool → Type 0
MeetsKind old new a b same = HasKind old.types a → HasKind old.types b → GoesOn same new.by (matched_kind old.by a b)

abbrev pub MeetsEntries : Walk → Walk → Entries → Entries → Bool → Type 0
MeetsEntries old new these entries same = HasEntries old.types these → HasEntries old.types entries → GoesOn same new.by (matched_entries old.by these entries)

abbrev pub MeetsArgument : Walk → Walk → Item → Item → Bool → Type 0
MeetsArgument old new given item same = HasItem old.types given → HasItem old.types item → GoesOn same new.by (matched_argument old.by given item)

abbrev pub MeetsArguments : Walk → Walk → Entries → Entries → Bool → Type 0
MeetsArguments old new args imports same = HasEntries old.types args → HasEntries old.types imports → GoesOn same new.by (matched_arguments old.by args imports)

-- ---- what is made has other resources, and the table has it; it only grew

abbrev pub MakesItem : Walk → Walk → Item → Item → Type 0
MakesItem old new item made = HasItem old.types item → (made ≡ item_with (partner_in old.by) item) × HasItem new.types made

abbrev pub MakesKind : Walk → Walk → Kind → Kind → Type 0
MakesKind old new kind made = HasKind old.types kind → (made ≡ kind_with (partner_in old.by) kind) × HasKind new.types made

abbrev pub MakesEntries : Walk → Walk → Entries → Entries → Type 0
MakesEntries old new entries made = HasEntries old.types entries → (made ≡ entries_with (partner_in old.by) entries) × HasEntries new.types made
