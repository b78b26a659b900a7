-- The names of entries with one more.
use Rattle.std.proofs.Common.{◌≡◌, ◌∙◌, ap, refl, sym, ℕ, List, [], ◌∷◌, ◌++◌, Bool, true, false, Option, Some, is_some, cond}
use Rattle.std.specs.Prelude.{◌||◌}
use Rattle.std.specs.List.{list_any}
use Rattle.std.specs.Str.{bytes_eq}
use Rattle.std.proofs.lemmas.List.Folds.{list_any-append}
use Rattle.std.proofs.lemmas.Slice.Eq.{bytes_eq-Decides}
use Rattle.comp_names.specs.Same.{is_same_name, folded}
use Rattle.comp_types.specs.Items.{Item, Entries, End, More, and_entry, names}

pub names-and : (es : Entries) (n : List ℕ) (i : Item) → names (and_entry es n i) ≡ names es ++ n ∷ []
names-and End n i = refl
names-and (More m j rest) n i = ap (λ ns. m ∷ ns) (names-and rest n i)

bytes-sym : (x y : List ℕ) → bytes_eq x y ≡ true → bytes_eq y x ≡ true
bytes-sym x y h = (bytes_eq-Decides y x).1 (sym ((bytes_eq-Decides x y).0 h))

turned : (a b : Bool) → (a ≡ true → b ≡ true) → (b ≡ true → a ≡ true) → a ≡ b
turned true b f g = sym (f refl)
turned false true f g = g refl
turned false false f g = refl

pub same-sym : (x y : List ℕ) → is_same_name x y ≡ is_same_name y x
same-sym x y = turned (is_same_name x y) (is_same_name y x) (bytes-sym (folded x) (folded y)) (bytes-sym (folded y) (folded x))

met : (b m : Bool) (o : Option Bool) → is_some o ≡ m → is_some (cond b (Some true) o) ≡ (m || b)
met true true o h = refl
met true false o h = refl
met false true o h = h
met false false o h = h

or_false : (b : Bool) → (b || false) ≡ b
or_false true = refl
or_false false = refl

-- a name more was met
pub met-and : (es : Entries) (n q : List ℕ) (i : Item) (o : Option Bool) → is_some o ≡ list_any (is_same_name q) (names es)
    → is_some (cond (is_same_name n q) (Some true) o) ≡ list_any (is_same_name q) (names (and_entry es n i))
met-and es n q i o h =
    met (is_same_name n q) (list_any (is_same_name q) (names es)) o h
    ∙ (ap (λ b. list_any (is_same_name q) (names es) || b) (same-sym n q ∙ sym (or_false (is_same_name q n)))
    ∙ (sym (list_any-append (is_same_name q) (names es) (n ∷ []))
    ∙ ap (list_any (is_same_name q)) (sym (names-and es n i))))
