-- Named items with one more at the end.
use Rattle.std.proofs.Common.{◌≡◌, ◌∙◌, ap, refl, List, [], ◌∷◌, ◌++◌, Option, Some, None}
use Rattle.wasm_ast.specs.declared.component.NamedItem.{NamedItem}
use Rattle.wit_types.specs.Plain.{Name}
use Rattle.comp_types.specs.Items.{Item, Entries, End}
use Rattle.comp_types.specs.Spaces.{Space, item_at}
use Rattle.comp_types.specs.Added.{and_named, and_some_entry, named_items}

end_one : (o : Option Item) (n : Name) → and_named o n End ≡ and_some_entry End n o
end_one None n = refl
end_one (Some i) n = refl

behind_one : (p o : Option Item) (m n : Name) (es : Entries) → and_named p m (and_some_entry es n o) ≡ and_some_entry (and_named p m es) n o
behind_one None o m n es = refl
behind_one (Some i) None m n es = refl
behind_one (Some i) (Some j) m n es = refl

pub named-last : (s : Space) (xs : List NamedItem) (e : NamedItem) → named_items s (xs ++ e ∷ []) ≡ and_some_entry (named_items s xs) e.name (item_at s e.sort e.index)
named-last s [] e = end_one (item_at s e.sort e.index) e.name
named-last s (x ∷ xs) e =
    ap (and_named (item_at s x.sort x.index) x.name) (named-last s xs e) ∙ behind_one (item_at s x.sort x.index) (item_at s e.sort e.index) x.name e.name (named_items s xs)
