-- The verdict that the walk finds holds.
use Rattle.std.proofs.Common.{◌≡◌, ◌∙◌, ap, refl, sym, subst, ℕ, List, [], ◌∷◌, ◌++◌, Bool, true, false, Option, Some, None, cond, nat_eq}
use Rattle.std.specs.Prelude.{is_some, ◌||◌}
use Rattle.std.specs.Cmp.{nat_eq_equiv}
use Rattle.std.specs.List.{list_any}
use Rattle.std.proofs.lemmas.Bool.{false≢true}
use Rattle.std.proofs.lemmas.Map.Views.{Contains-from_any, list_any-from_Contains}
use Rattle.wit_types.specs.Plain.{Name}
use Rattle.comp_types.specs.Items.{Item, Entries, Signature, FuncItem, InstanceItem, KindItem, End, More, and_entry}
use Rattle.comp_types.specs.Resources.{item_has_resource, entries_have_resource}
use Rattle.comp_types.specs.Matching.{Pairs, onward, only_if, matched_entries}
use Rattle.comp_types.proofs.MeetLaws.{came_from, held, equal_number}
use Rattle.wasi_listed.specs.Listed.{described}
use Rattle.wasi_match.specs.Names.{Versioned, listed_as}
use Rattle.wasi_match.specs.declared.listed.ListedUse.{ListedUse}
use Rattle.wasi_match.specs.declared.fault.Cause.{Cause}
use Rattle.wasi_match.specs.declared.fault.Cause.TheVariants.{Unlisted, TwoVersions, WrongType}
use Rattle.wasi_match.specs.Offered.{offered}
use Rattle.wasi_match.specs.Listed.{IsNamed, interfaces, places}
use Rattle.wasi_match.specs.Kinds.{turned}
use Rattle.wasi_match.specs.Verdicts.{joined, IsAtFault, HasImportAtFault, HasHandle, IsVerdict}
use Rattle.wasi_match.specs.Begun.{IsBegun, Fits}
use Rattle.wasi_match.specs.Walk.{instance_in, first_handle, of_exports, fitted, on_named, on_new, on_fit, use_of, verdict_from, verdict}
use Rattle.wasi_match.proofs.SplitLaws.{joined-entry, joined-end}
use Rattle.wasi_match.proofs.BegunLaws.{begun_none, begun_listed, begun_more, begun_mistyped}

-- ---- exports

none-at : (b : Bool) (name : Name) (o : Option Name) (c : Bool) → (o ≡ None → c ≡ false) → cond b (Some name) o ≡ None → (b || c) ≡ false
none-at true name o c h e = absurd (cc)
none-at false name o c h e = h e

no_handle : (exports : Entries) → first_handle exports ≡ None → entries_have_resource exports ≡ false
no_handle End e = refl
no_handle (More name item rest) e = none-at (item_has_resource item) name (first_handle rest) (entries_have_resource rest) (no_handle rest) e

further : (m : Name) (j : Item) (rest : Entries) (name : Name) → item_has_resource j ≡ false → HasHandle rest name → HasHandle (More m j rest) name
further m j rest name e h = record {
  before = More m j h.before;
  item = h.item;
  behind = h.behind;
  there = ap (More m j) h.there;
  none = ap (λ b. b || entries_have_resource h.before) e ∙ h.none;
  some = h.some;
}

handle-at : (b : Bool) (m : Name) (j : Item) (rest : Entries) (name : Name) → item_has_resource j ≡ b → (first_handle rest ≡ Some name → HasHandle rest name) → cond b (Some m) (first_handle rest) ≡ Some name
    → HasHandle (More m j rest) name
handle-at true m j rest name e h g =
    let same : m ≡ name = cc in
    subst (HasHandle (More m j rest)) same (record { before = End; item = j; behind = rest; there = refl; none = refl; some = e })
handle-at false m j rest name e h g = further m j rest name e (h g)

a_handle : (exports : Entries) (name : Name) → first_handle exports ≡ Some name → HasHandle exports name
a_handle End name e = absurd (cc)
a_handle (More m j rest) name e = handle-at (item_has_resource j) m j rest name refl (a_handle rest name) e

-- ---- one import

instance-is : (item : Item) (entries : Entries) → instance_in item ≡ Some entries → item ≡ InstanceItem entries
instance-is (FuncItem ty) entries e = absurd (cc)
instance-is (InstanceItem es) entries e = let same : es ≡ entries = cc in ap InstanceItem same
instance-is (KindItem kind) entries e = absurd (cc)

not_turned : (o : Option Pairs) (more : Pairs) → only_if (is_some o) (Some more) ≡ None → o ≡ None
not_turned None more e = refl
not_turned (Some back) more e = absurd (cc)

fits_not : (by : Pairs) (interface : ℕ) (entries : Entries) (new : Pairs) → fitted by interface entries ≡ None → Fits None by new interface entries
fits_not by interface entries new e = λ more is.
    not_turned (turned [] more) more (sym (ap (onward (λ ps. only_if (is_some (turned [] ps)) (Some ps))) is) ∙ e)

fits_so : (by : Pairs) (interface : ℕ) (entries : Entries) (more : Pairs) → fitted by interface entries ≡ Some more → Fits (Some (places (described interface).functions entries)) by more interface entries
fits_so by interface entries more e =
    let c = came_from (λ ps. only_if (is_some (turned [] ps)) (Some ps)) (matched_entries by (offered interface) entries) more e in
    let h = held (is_some (turned [] c.0)) (Some c.0) more c.2 in
    let same : c.0 ≡ more = let g = h.1 in cc in
    (c.1 ∙ ap Some same, ap (λ ps. is_some (turned [] ps)) (sym same) ∙ h.0, refl)

module _ (all exports : Entries) where
  abbrev whole : Signature
  whole = record { imports = all; exports = exports }

  ends : (uses : List ListedUse) (by : Pairs) (o : Option Name) → first_handle exports ≡ o → IsBegun all uses by → IsVerdict whole (of_exports uses o)
  ends uses by None e b = record { imports = begun_listed all uses by b; exports = no_handle exports e }
  ends uses by (Some name) e b = (uses, begun_listed all uses by b, a_handle exports name e)

  -- an import after others, where what is after it goes on well
  module _ (name : Name) (item : Item) (rest before : Entries) (uses : List ListedUse) (by : Pairs) (b : IsBegun before uses by) (there : all ≡ joined before (More name item rest))
      (onwards : (us : List ListedUse) (ps : Pairs) → IsBegun (and_entry before name item) us ps → IsVerdict whole (verdict_from us ps rest exports)) where
    at_fault : (cause : Cause) → IsAtFault cause before name item uses → HasImportAtFault cause all name
    at_fault cause h = record { before = before; item = item; behind = rest; there = there; uses = uses; listed = begun_listed before uses by b; fault = h }

    module _ (listed : Versioned) (entries : Entries) (named : IsNamed name item listed entries) where
      at_fit : (o : Option Pairs) → fitted by listed.interface entries ≡ o → list_any (nat_eq listed.interface) (interfaces uses) ≡ false
          → IsVerdict whole (on_fit name o (λ more. verdict_from (uses ++ use_of listed entries ∷ []) more rest exports))
      at_fit None e new =
          at_fault WrongType (begun_mistyped before uses by b name item listed entries named by (fits_not by listed.interface entries by e)
          (λ h. false≢true (sym new ∙ list_any-from_Contains nat_eq_equiv listed.interface (interfaces uses) h)))
      at_fit (Some more) e new =
          onwards (uses ++ use_of listed entries ∷ []) more
          (begun_more before uses by b name item listed entries named (places (described listed.interface).functions entries) more (use_of listed entries) (fits_so by listed.interface entries more e) new refl)

      at_new : (twice : Bool) → list_any (nat_eq listed.interface) (interfaces uses) ≡ twice
          → IsVerdict whole (on_new name twice (on_fit name (fitted by listed.interface entries) (λ more. verdict_from (uses ++ use_of listed entries ∷ []) more rest exports)))
      at_new true e = at_fault TwoVersions (listed, entries, named, Contains-from_any equal_number listed.interface (interfaces uses) e)
      at_new false e = at_fit (fitted by listed.interface entries) refl e

    at_name : (o : Option Versioned) (i : Option Entries) → listed_as name ≡ o → instance_in item ≡ i
        → IsVerdict whole (on_named name o i (λ listed entries.
        on_new name (list_any (nat_eq listed.interface) (interfaces uses)) (
        on_fit name (fitted by listed.interface entries) (λ more. verdict_from (uses ++ use_of listed entries ∷ []) more rest exports))))
    at_name None i e f = at_fault Unlisted (λ listed entries n. let is = n.named in absurd (cc))
    at_name (Some l) None e f = at_fault Unlisted (λ listed entries n. let is = ap instance_in n.instance in absurd (cc))
    at_name (Some l) (Some es) e f = at_new l es (record { named = e; instance = instance-is item es f }) (list_any (nat_eq l.interface) (interfaces uses)) refl

  walk_holds : (imports before : Entries) (uses : List ListedUse) (by : Pairs) → IsBegun before uses by → all ≡ joined before imports → IsVerdict whole (verdict_from uses by imports exports)
  walk_holds End before uses by b e = ends uses by (first_handle exports) refl (subst (λ i. IsBegun i uses by) (sym (e ∙ joined-end before)) b)
  walk_holds (More name item rest) before uses by b e =
      at_name name item rest before uses by b e (λ us ps c. walk_holds rest (and_entry before name item) us ps c (e ∙ joined-entry before name item rest)) (listed_as name) (instance_in item) refl refl

pub verdict_holds : (ty : Signature) → IsVerdict ty (verdict ty)
unfolding verdict
verdict_holds ty = walk_holds ty.imports ty.exports ty.imports End [] [] begun_none refl
