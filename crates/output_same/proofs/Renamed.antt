-- Exports whose resources have other numbers: they may stand under their names as before.
use Rattle.std.proofs.Common.{◌≡◌, ◌∙◌, ap, refl, subst, ℕ, List, ◌∷◌, Bool, true, false, Option, Some, None}
use Rattle.std.specs.Prelude.{not, ◌==◌, if◌then◌else◌}
use Rattle.std.specs.Option.{option_map}
use Rattle.std.specs.List.{list_any}
use Rattle.std.proofs.lemmas.Bool.{false≢true, eqb-true, eq-eqb}
use Rattle.wit_types.specs.Plain.{Name, Plain, Parts, OwnType, BorrowType, End as NoParts, More as AndPart, Bare}
use Rattle.comp_names.specs.declared.names.Annotation.{Annotation}
use Rattle.comp_names.specs.declared.names.Annotation.TheVariants as annotations
use Rattle.comp_names.specs.Names.{annotation_of}
use Rattle.comp_names.specs.Same.{is_same_name}
use Rattle.comp_types.specs.Items.{Item, Entries, FuncItem, InstanceItem, KindItem, ResourceKind, ValueKind, FuncKind, InstanceKind, End, More, look_up, names, same_name, and_entry}
use Rattle.comp_types.specs.Substitution.{parts_with, answer_with, item_with, entries_with}
use Rattle.comp_types.specs.Rules.{is_own_of, begins_with_borrow_of, is_function_of, has_resource, resource_of, annotation_fits}
use Rattle.virt_output.specs.Counts.{sort_of}
use Rattle.output_same.proofs.Exported.{Fits, AllFit}

module _ (f : ℕ → ℕ) where
  with_names : (es : Entries) → names (entries_with f es) ≡ names es
  with_names End = refl
  with_names (More name item rest) = ap (λ (ns : List Name). name ∷ ns) (with_names rest)

  chosen : (b : Bool) (item : Item) (o p : Option Item) → p ≡ option_map (item_with f) o → (if b then Some (item_with f item) else p) ≡ option_map (item_with f) (if b then Some item else o)
  chosen true item o p h = refl
  chosen false item o p h = h

  with_look_up : (name : Name) (es : Entries) → look_up name (entries_with f es) ≡ option_map (item_with f) (look_up name es)
  with_look_up name End = refl
  with_look_up name (More n item rest) = chosen (same_name n name) item (look_up name rest) (look_up name (entries_with f rest)) (with_look_up name rest)

  with_entry : (es : Entries) (name : Name) (item : Item) → entries_with f (and_entry es name item) ≡ and_entry (entries_with f es) name (item_with f item)
  with_entry End name item = refl
  with_entry (More n i rest) name item = ap (More n (item_with f i)) (with_entry rest name item)

  pub sort_with : (item : Item) → sort_of (item_with f item) ≡ sort_of item
  sort_with (FuncItem ty) = refl
  sort_with (InstanceItem entries) = refl
  sort_with (KindItem kind) = refl

  -- ---- annotated names

  resource_with : (o : Option Item) → resource_of (option_map (item_with f) o) ≡ option_map f (resource_of o)
  resource_with None = refl
  resource_with (Some (FuncItem ty)) = refl
  resource_with (Some (InstanceItem entries)) = refl
  resource_with (Some (KindItem (ResourceKind r))) = refl
  resource_with (Some (KindItem (ValueKind ty))) = refl
  resource_with (Some (KindItem (FuncKind ty))) = refl
  resource_with (Some (KindItem (InstanceKind own entries))) = refl

  same_with : (x r : ℕ) → (x == r) ≡ true → (f x == f r) ≡ true
  same_with x r h = eq-eqb (f x) (f r) (ap f (eqb-true x r h))

  own_with : (r : ℕ) (o : Option Plain) → is_own_of r o ≡ true → is_own_of (f r) (answer_with f o) ≡ true
  own_with r None h = absurd (false≢true h)
  own_with r (Some (OwnType x)) h = same_with x r h
  own_with r (Some ty) h = absurd (false≢true h)

  borrow_with : (r : ℕ) (ps : Parts) → begins_with_borrow_of r ps ≡ true → begins_with_borrow_of (f r) (parts_with f ps) ≡ true
  borrow_with r NoParts h = absurd (false≢true h)
  borrow_with r (Bare name rest) h = absurd (false≢true h)
  borrow_with r (AndPart name (BorrowType x) rest) h = same_with x r h
  borrow_with r (AndPart name ty rest) h = absurd (false≢true h)

  function_with : (a : Annotation) (r : ℕ) (item : Item) → is_function_of a r item ≡ true → is_function_of a (f r) (item_with f item) ≡ true
  function_with annotations.Constructor r (FuncItem ty) h = own_with r ty.answer h
  function_with annotations.Method r (FuncItem ty) h = borrow_with r ty.params h
  function_with annotations.Static r (FuncItem ty) h = refl
  function_with annotations.Constructor r (InstanceItem entries) h = absurd (false≢true h)
  function_with annotations.Constructor r (KindItem kind) h = absurd (false≢true h)
  function_with annotations.Method r (InstanceItem entries) h = absurd (false≢true h)
  function_with annotations.Method r (KindItem kind) h = absurd (false≢true h)
  function_with annotations.Static r (InstanceItem entries) h = absurd (false≢true h)
  function_with annotations.Static r (KindItem kind) h = absurd (false≢true h)

  has_with : (a : Annotation) (item : Item) (o : Option ℕ) → has_resource (λ r. is_function_of a r item) o ≡ true → has_resource (λ r. is_function_of a r (item_with f item)) (option_map f o) ≡ true
  has_with a item None h = absurd (false≢true h)
  has_with a item (Some r) h = function_with a r item h

  annotated_with : (before : Entries) (o : Option (Annotation × Name)) (item : Item) → annotation_fits before o item ≡ true → annotation_fits (entries_with f before) o (item_with f item) ≡ true
  annotated_with before None item h = refl
  annotated_with before (Some a) item h =
      ap (λ (r : Option ℕ). has_resource (λ r. is_function_of a.0 r (item_with f item)) r) (ap resource_of (with_look_up a.1 before) ∙ resource_with (look_up a.1 before))
      ∙ has_with a.0 item (resource_of (look_up a.1 before)) h

  -- ---- what may stand after entries

  fits_with : (before : Entries) (name : Name) (item : Item) → Fits before name item → Fits (entries_with f before) name (item_with f item)
  fits_with before name item h = record {
    legal = h.legal;
    new = ap (λ (ns : List Name). not (list_any (is_same_name name) ns)) (with_names before) ∙ h.new;
    annotated = annotated_with before (annotation_of name) item h.annotated;
  }

  pub all_fit_with : (before es : Entries) → AllFit before es → AllFit (entries_with f before) (entries_with f es)
  all_fit_with before End h = tt
  all_fit_with before (More name item rest) h =
      (fits_with before name item h.0, subst (λ (b : Entries). AllFit b (entries_with f rest)) (with_entry before name item) (all_fit_with (and_entry before name item) rest h.1))
