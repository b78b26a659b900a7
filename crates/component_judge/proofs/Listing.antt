-- A listed component can be run over a host that answers by a script as well.
use Rattle.std.proofs.Common.{◌≡◌, ◌∙◌, ℕ, List, Bool, true, false, refl, sym, ap, subst}
use Rattle.std.specs.Prelude.{◌++◌, [], ◌∷◌, ◌||◌, Some, None, if◌then◌else◌, IsTrue}
use Rattle.std.proofs.lemmas.Bool.{false≢true}
use Rattle.comp_types.specs.Items.{Item, Entries, Signature, FuncItem, InstanceItem, KindItem, End, More, look_up, same_name}
use Rattle.comp_types.specs.Equality.{IsSameItem, HasEach}
use Rattle.comp_types.specs.Resources.{item_has_resource, entries_have_resource}
use Rattle.wasi_table.specs.Plain.{PlainMeaning, IsType, IsKind, PlainNamed, PlainNamedFunc}
use Rattle.wasi_listed.specs.Listed.{described}
use Rattle.wasi_match.specs.declared.listed.ListedUse.{ListedUse}
use Rattle.wasi_match.specs.Offered.{meant, with_functions, with_types, used, offered}
use Rattle.wasi_match.specs.Listed.{IsUse, AreUses, IsListed}
use Rattle.component_judge.specs.Types.{is_plain, are_plain, is_met, first_unmet, first_handle, type_fault}

-- ---- what an interface offers is functions and types

functions_plain : (fs : List PlainNamedFunc) → are_plain (with_functions fs) ≡ true
functions_plain [] = refl
functions_plain (f ∷ fs) = functions_plain fs

meant_plain : (meaning : PlainMeaning) → is_plain (meant meaning) ≡ true
meant_plain (IsType ty) = refl
meant_plain (IsKind kind) = refl

types_plain : (ts : List PlainNamed) (fs : List PlainNamedFunc) → are_plain (with_types ts fs) ≡ true
types_plain [] fs = functions_plain fs
types_plain (t ∷ ts) fs = rw (meant_plain t.meaning) (types_plain ts fs)

offered_plain : (number : ℕ) → are_plain (offered number) ≡ true
offered_plain number = types_plain (used (described number).uses ++ (described number).types) (described number).functions

-- ---- and so is what asks for no more

first_plain : (b : Bool) (rest : Entries) → (if b then are_plain rest else false) ≡ true → (b ≡ true) × (are_plain rest ≡ true)
first_plain true rest h = (refl, h)
first_plain false rest h = absurd (false≢true h)

none_some : (item : Item) → None ≡ Some item → ⊥
none_some item e = cc

some_same : (a b : Item) → Some a ≡ Some b → a ≡ b
some_same a b e = cc

found_plain : (these : Entries) (name : List ℕ) (item : Item) → are_plain these ≡ true → look_up name these ≡ Some item → is_plain item ≡ true
found_plain End name item plain found = absurd (none_some item found)
found_plain (More n other rest) name item plain found =
    let parts = first_plain (is_plain other) rest plain in
    by (same_name n name) parts.0 (λ deeper. found_plain rest name item parts.1 deeper) found
  where
    by : (b : Bool) → is_plain other ≡ true → (look_up name rest ≡ Some item → is_plain item ≡ true) → (if b then Some other else look_up name rest) ≡ Some item → is_plain item ≡ true
    by true here deeper found = subst (λ (i : Item). is_plain i ≡ true) (some_same other item found) here
    by false here deeper found = deeper found

same_plain : (Meets : ℕ → ℕ → Type 0) (other item : Item) → is_plain other ≡ true → IsSameItem Meets other item → is_plain item ≡ true
same_plain Meets other (FuncItem ty) plain h = refl
same_plain Meets other (KindItem kind) plain h = refl
same_plain Meets other (InstanceItem entries) plain h = absurd (false≢true (sym (ap is_plain h.1) ∙ plain))

each_plain : (Meets : ℕ → ℕ → Type 0) (these entries : Entries) → are_plain these ≡ true → HasEach Meets these entries → are_plain entries ≡ true
each_plain Meets these End plain h = refl
each_plain Meets these (More name item rest) plain h = rw (same_plain Meets h.0 item (found_plain these name h.0 plain h.1) h.2) (each_plain Meets these rest plain h.3)

use_met : (Meets : ℕ → ℕ → Type 0) (name : List ℕ) (item : Item) (taken : ListedUse) → IsUse Meets name item taken → is_met item ≡ true
use_met Meets name item taken u = ap is_met u.named.instance ∙ each_plain Meets (offered taken.interface) u.entries (offered_plain taken.interface) u.fits

all_met : (Meets : ℕ → ℕ → Type 0) (imports : Entries) (uses : List ListedUse) → AreUses Meets imports uses → first_unmet imports ≡ None
all_met Meets End uses h = refl
all_met Meets (More name item rest) uses h = rw (use_met Meets name item h.0 h.3) (all_met Meets rest h.1 h.4)

-- ---- exports without handles

neither : (a b : Bool) → (a || b) ≡ false → (a ≡ false) × (b ≡ false)
neither true b h = absurd (false≢true (sym h))
neither false b h = (refl, h)

no_handle : (exports : Entries) → entries_have_resource exports ≡ false → first_handle exports ≡ None
no_handle End h = refl
no_handle (More name item rest) h = let parts = neither (item_has_resource item) (entries_have_resource rest) h in rw (parts.0) (no_handle rest parts.1)

pub listed_fits : (ty : Signature) (uses : List ListedUse) → IsListed ty uses → type_fault ty ≡ None
listed_fits ty uses l = rw (all_met (λ kind resource. IsTrue (l.imports.kinds kind resource)) ty.imports uses l.imports.each, no_handle ty.exports l.exports) refl
