-- Types in which each resource stays as it is.
use Rattle.std.proofs.Common.{◌≡◌, ap, refl, ℕ, List, [], ◌∷◌, map}
use Rattle.std.specs.Prelude.{Option as Opt, Some, None}
use Rattle.wit_types.specs.Plain.{Plain, Parts, PlainFunc, ListType, RecordType, VariantType, OwnType, BorrowType, End as NoParts, More as Part, Bare}
use Rattle.comp_types.specs.Items.{Item, Kind, Entries, FuncItem, InstanceItem, KindItem, ResourceKind, ValueKind, FuncKind, InstanceKind, End, More}
use Rattle.comp_types.specs.Substitution.{partner_in, value_with, parts_with, answer_with, func_with, item_with, kind_with, entries_with}
use Rattle.comp_types.specs.GivenResources.{renamed}

abbrev none : ℕ → ℕ
none = partner_in []

mutual
  value-same : (t : Plain) → value_with none t ≡ t
  value-same (ListType item) = ap ListType (value-same item)
  value-same (RecordType form fields) = ap (RecordType form) (parts-same fields)
  value-same (VariantType form cases) = ap (VariantType form) (parts-same cases)
  value-same (OwnType r) = refl
  value-same (BorrowType r) = refl
  value-same _ = refl

  parts-same : (ps : Parts) → parts_with none ps ≡ ps
  parts-same NoParts = refl
  parts-same (Part n t rest) = λ i. Part n (value-same t i) (parts-same rest i)
  parts-same (Bare n rest) = ap (Bare n) (parts-same rest)

answer-same : (o : Opt Plain) → answer_with none o ≡ o
answer-same None = refl
answer-same (Some t) = ap (λ x. Some x) (value-same t)

func-same : (ty : PlainFunc) → func_with none ty ≡ ty
func-same ty = λ i. record { params = parts-same ty.params i; answer = answer-same ty.answer i }

own-same : (own : List ℕ) → map none own ≡ own
own-same [] = refl
own-same (r ∷ rs) = ap (λ l. r ∷ l) (own-same rs)

mutual
  item-same : (x : Item) → item_with none x ≡ x
  item-same (FuncItem ty) = ap FuncItem (func-same ty)
  item-same (InstanceItem es) = ap InstanceItem (entries-same es)
  item-same (KindItem k) = ap KindItem (kind-same k)

  kind-same : (k : Kind) → kind_with none k ≡ k
  kind-same (ResourceKind r) = refl
  kind-same (ValueKind t) = ap ValueKind (value-same t)
  kind-same (FuncKind ty) = ap FuncKind (func-same ty)
  kind-same (InstanceKind own es) = λ i. InstanceKind (own-same own i) (entries-same es i)

  entries-same : (es : Entries) → entries_with none es ≡ es
  entries-same End = refl
  entries-same (More n x rest) = λ i. More n (item-same x i) (entries-same rest i)

-- without pairs nothing is renamed
pub nothing_renamed : (es : Entries) → renamed [] es ≡ es
nothing_renamed es = entries-same es
