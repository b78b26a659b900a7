-- The first export in which a resource type or a handle stands.
use Rattle.std.proofs.Common.{◌≡◌, ◌∙◌, ap, refl, sym, Bool, true, false, Option, Some, None, cond}
use Rattle.std.specs.Prelude.{◌||◌}
use Rattle.wit_types.specs.Plain.{Name}
use Rattle.comp_types.specs.Items.{Item, Entries, End, More}
use Rattle.comp_types.specs.Resources.{item_has_resource, entries_have_resource}
use Rattle.wasi_match.specs.Verdicts.{joined, HasHandle}
use Rattle.wasi_match.specs.Walk.{first_handle}

none_at : (b c : Bool) (name : Name) (o : Option Name) → (c ≡ false → o ≡ None) → (b || c) ≡ false → cond b (Some name) o ≡ None
none_at true c name o go h = absurd (cc)
none_at false c name o go h = go h

pub no_first : (exports : Entries) → entries_have_resource exports ≡ false → first_handle exports ≡ None
no_first End h = refl
no_first (More name item rest) h = none_at (item_has_resource item) (entries_have_resource rest) name (first_handle rest) (no_first rest) h

some_at : (b c : Bool) (m name : Name) (o : Option Name) → (c ≡ false → o ≡ Some name) → (b || c) ≡ false → cond b (Some m) o ≡ Some name
some_at true c m name o go h = absurd (cc)
some_at false c m name o go h = go h

here : (before : Entries) (name : Name) (item : Item) (behind : Entries) → entries_have_resource before ≡ false → item_has_resource item ≡ true → first_handle (joined before (More name item behind)) ≡ Some name
here End name item behind h e = ap (λ b. cond b (Some name) (first_handle behind)) e
here (More m j rest) name item behind h e =
    some_at (item_has_resource j) (entries_have_resource rest) m name (first_handle (joined rest (More name item behind))) (λ g. here rest name item behind g e) h

pub is_first : (exports : Entries) (name : Name) → HasHandle exports name → first_handle exports ≡ Some name
is_first exports name h = ap first_handle h.there ∙ here h.before name h.item h.behind h.none h.some
