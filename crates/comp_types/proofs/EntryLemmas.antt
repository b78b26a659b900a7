-- What one more entry adds to entries.
use Rattle.std.proofs.Common.{◌≡◌, ◌∙◌, ap, sym, refl, ℕ, ◌+◌, List, [], ◌∷◌, ◌++◌, Bool, true, false, max, min, arith}
use Rattle.std.specs.Prelude.{◌||◌}
use Rattle.wit_types.specs.Plain.{Name}
use Rattle.comp_types.specs.Items.{Item, Entries, End, More, and_entry}
use Rattle.comp_types.specs.Measures.{item_depth, item_parts, entries_depth, entries_parts}
use Rattle.comp_types.specs.Resources.{item_has_resource, entries_have_resource}
use Rattle.comp_types.specs.Kept.{IsKept}
use Rattle.comp_types.specs.Views.{item_of, entries_of}
use Rattle.comp_types.specs.declared.types.InstanceEntry.{InstanceEntry}

pub entries_of-push : (es : List InstanceEntry) (e : InstanceEntry) → entries_of (es ++ e ∷ []) ≡ and_entry (entries_of es) e.name (item_of e.ty)
entries_of-push [] e = refl
entries_of-push (x ∷ es) e = ap (More x.name (item_of x.ty)) (entries_of-push es e)

pub depth-and : (es : Entries) (n : Name) (i : Item) → entries_depth (and_entry es n i) ≡ max (entries_depth es) (item_depth i)
depth-and End n i = omega arith
depth-and (More m j rest) n i = omega (arith, depth-and rest n i)

pub parts-and : (es : Entries) (n : Name) (i : Item) → entries_parts (and_entry es n i) ≡ entries_parts es + item_parts i
parts-and End n i = omega arith
parts-and (More m j rest) n i = omega (arith, parts-and rest n i)

or_false : (b : Bool) → (b || false) ≡ b
or_false true = refl
or_false false = refl

or_assoc : (a b c : Bool) → ((a || b) || c) ≡ (a || (b || c))
or_assoc true b c = refl
or_assoc false b c = refl

pub resource-and : (es : Entries) (n : Name) (i : Item) → entries_have_resource (and_entry es n i) ≡ (entries_have_resource es || item_has_resource i)
resource-and End n i = or_false (item_has_resource i)
resource-and (More m j rest) n i = ap (λ b. item_has_resource j || b) (resource-and rest n i) ∙ sym (or_assoc (item_has_resource j) (entries_have_resource rest) (item_has_resource i))

-- what is kept of entries with one more
pub kept-and : (es : Entries) (n : Name) (i : Item) (d p : ℕ) (r : Bool) (d2 p2 di pi : ℕ) (ri : Bool) → IsKept es d p r
    → d2 ≡ max d di → di ≡ min (item_depth i) 101 → p2 ≡ min (p + pi) 1000001 → pi ≡ min (item_parts i) 1000001 → ri ≡ item_has_resource i
    → IsKept (and_entry es n i) d2 p2 (r || ri)
kept-and es n i d p r d2 p2 di pi ri k e f g h l = record {
  depth_is = omega (arith, depth-and es n i, k.depth_is);
  parts_is = omega (arith, parts-and es n i, k.parts_is);
  resource_is = ap (λ b. b || ri) k.resource_is ∙ (ap (λ b. entries_have_resource es || b) l ∙ sym (resource-and es n i));
}
