-- What tests decide of stated types.
use Rattle.std.proofs.Common.{◌≡◌, refl, sym, subst, ℕ, List, [], Bool, true, false, Option, Some, None}
use Rattle.std.specs.Bool.{Decides}
use Rattle.std.proofs.lemmas.Bool.{false≢true}
use Rattle.std.specs.Prelude.{is_some}
use Rattle.std.proofs.lemmas.List.Elements.{All-nil}
use Rattle.wasm_ast.specs.declared.component.ExternDesc.TheVariants.{Resource}
use Rattle.comp_types.specs.Items.{Item, Entries, End, FuncItem, InstanceItem, KindItem, ResourceKind, ValueKind, FuncKind, InstanceKind}
use Rattle.comp_types.specs.Spaces.{Space}
use Rattle.comp_types.specs.Rules.{IsInstanceOf, IsStated, resource_of}
use Rattle.comp_types.specs.Equality.{IsEqualType}
use Rattle.comp_types.specs.Subtyping.{IsSubtype}
use Rattle.comp_instances.specs.Takes.{TakesAlike}

some_same : {A : Type 0} (x y : A) → Some x ≡ Some y → x ≡ y
some_same x y e = cc

pub decides_some : (b : Bool) (x ty : Item) → Decides b (IsEqualType x ty) → Decides b ((other : Item) × (Some x ≡ Some other) × IsEqualType other ty)
decides_some b x ty d = (λ h. (x, refl, d.0 h), λ k. d.1 (subst (λ o. IsEqualType o ty) (sym (some_same x k.0 k.1)) k.2))

pub decides_none : (ty : Item) → Decides false ((other : Item) × (None ≡ Some other) × IsEqualType other ty)
decides_none ty = (λ h. absurd (false≢true h), λ k. let e = k.1 in absurd (cc))

instance_same : (x y : Entries) → Some (InstanceItem x) ≡ Some (InstanceItem y) → x ≡ y
instance_same x y e = cc

pub decides_instance : (b : Bool) (x es : Entries) (these those : List (ℕ × ℕ)) → TakesAlike these those → Decides b (IsSubtype x es these) → Decides b (IsSubtype x es those)
decides_instance b x es these those a d = (λ h. let k = d.0 h in (k.0, a.onward k.0 k.1, k.2), λ k. d.1 (k.0, a.back k.0 k.1, k.2))

pub decides_given : (b : Bool) (x es : Entries) (by : List (ℕ × ℕ)) → Decides b (IsSubtype x es by) → Decides b ((entries : Entries) × (Some (InstanceItem x) ≡ Some (InstanceItem entries)) × IsSubtype entries es by)
decides_given b x es by d = (λ h. (x, refl, d.0 h), λ k. d.1 (subst (λ o. IsSubtype o es by) (sym (instance_same x k.0 k.1)) k.2))

-- an instance type without entries asks for nothing
pub decides_nothing : (x : Entries) → Decides true (IsInstanceOf (Some (InstanceItem x)) ([], End))
decides_nothing x = (λ h. (x, refl, ((λ r. r), All-nil (λ (p : ℕ × ℕ). p.0 ≡ p.1), tt)), λ k. refl)

pub decides_no_instance : (o : Option Item) (ty : List ℕ × Entries) → ((es : Entries) → o ≡ Some (InstanceItem es) → ⊥) → Decides false (IsInstanceOf o ty)
decides_no_instance o ty f = (λ h. absurd (false≢true h), λ k. absurd (f k.0 k.1))

no_resource : (s : Space) (o : Option Item) → ((r : ℕ) → o ≡ Some (KindItem (ResourceKind r)) → ⊥) → Decides false (IsStated s o Resource)
no_resource s o f = (λ h. absurd (false≢true h), λ k. absurd (f k.0 k.1))

pub decides_resource : (s : Space) (o : Option Item) → Decides (is_some (resource_of o)) (IsStated s o Resource)
decides_resource s None = no_resource s None (λ r e. cc)
decides_resource s (Some (FuncItem ty)) = no_resource s (Some (FuncItem ty)) (λ r e. cc)
decides_resource s (Some (InstanceItem es)) = no_resource s (Some (InstanceItem es)) (λ r e. cc)
decides_resource s (Some (KindItem (ResourceKind r))) = (λ h. (r, refl), λ k. refl)
decides_resource s (Some (KindItem (ValueKind ty))) = no_resource s (Some (KindItem (ValueKind ty))) (λ r e. cc)
decides_resource s (Some (KindItem (FuncKind ty))) = no_resource s (Some (KindItem (FuncKind ty))) (λ r e. cc)
decides_resource s (Some (KindItem (InstanceKind own es))) = no_resource s (Some (KindItem (InstanceKind own es))) (λ r e. cc)
