-- What the resources of described items are bound to.
use Rattle.std.proofs.Common.{◌≡◌, ◌∙◌, ap, sym, refl, subst, ℕ, List, [], ◌∷◌, Option, Some, None}
use Rattle.std.proofs.lemmas.Option.{none-some}
use Rattle.comp_types.specs.Items.{Entries, FuncItem, InstanceItem, KindItem, ResourceKind, ValueKind, FuncKind, InstanceKind}
use Rattle.wit_types.specs.Plain.{Plain, PlainFunc}
use Rattle.comp_link.specs.Linking.{Given as GroupGiven, Givens as GroupGivens, GivenFunc, GivenInstance, GivenResource, GivenType, bound, all_bound}
use Rattle.instance_making.specs.declared.given.Given.{Given}
use Rattle.instance_making.specs.declared.given.Given.TheVariants.{Func, Instance, Resource, «Type»}
use Rattle.instance_making.specs.Bound.{number_of, resource_of}
use Rattle.instance_making.specs.Made.{IsInstance, IsGiven, IsSame}

pub func_bound : (o : Option GroupGiven) (ty : PlainFunc) → bound o (FuncItem ty) ≡ []
func_bound None ty = refl
func_bound (Some (GivenFunc t)) ty = refl
func_bound (Some (GivenInstance items)) ty = refl
func_bound (Some (GivenResource r)) ty = refl
func_bound (Some GivenType) ty = refl

pub value_bound : (o : Option GroupGiven) (ty : Plain) → bound o (KindItem (ValueKind ty)) ≡ []
value_bound None ty = refl
value_bound (Some (GivenFunc t)) ty = refl
value_bound (Some (GivenInstance items)) ty = refl
value_bound (Some (GivenResource r)) ty = refl
value_bound (Some GivenType) ty = refl

pub func_kind_bound : (o : Option GroupGiven) (ty : PlainFunc) → bound o (KindItem (FuncKind ty)) ≡ []
func_kind_bound None ty = refl
func_kind_bound (Some (GivenFunc t)) ty = refl
func_kind_bound (Some (GivenInstance items)) ty = refl
func_kind_bound (Some (GivenResource r)) ty = refl
func_kind_bound (Some GivenType) ty = refl

pub instance_kind_bound : (o : Option GroupGiven) (own : List ℕ) (entries : Entries) → bound o (KindItem (InstanceKind own entries)) ≡ []
instance_kind_bound None own entries = refl
instance_kind_bound (Some (GivenFunc t)) own entries = refl
instance_kind_bound (Some (GivenInstance items)) own entries = refl
instance_kind_bound (Some (GivenResource r)) own entries = refl
instance_kind_bound (Some GivenType) own entries = refl

some_none : {A : Type 0} (x : A) → Some x ≡ None → ⊥
some_none x e = none-some x (sym e)

same_number : (x y : ℕ) → Some x ≡ Some y → x ≡ y
same_number x y e = cc

-- ---- a resource is bound where a resource is given

not_resource : (made : List GroupGivens) (item : Given) (g : GroupGiven) (r : ℕ) → IsGiven made item g → resource_of (Some item) ≡ None → bound (Some g) (KindItem (ResourceKind r)) ≡ []
not_resource made (Func t) g r h e = ap (λ x. bound (Some x) (KindItem (ResourceKind r))) (sym h)
not_resource made (Instance n) g r h e = ap (λ x. bound (Some x) (KindItem (ResourceKind r))) (sym h.2)
not_resource made (Resource x) g r h e = absurd (some_none x e)
not_resource made «Type» g r h e = ap (λ x. bound (Some x) (KindItem (ResourceKind r))) (sym h)

pub no_resource : (made : List GroupGivens) (o : Option Given) (p : Option GroupGiven) (r : ℕ) → IsSame made o p → resource_of o ≡ None → bound p (KindItem (ResourceKind r)) ≡ []
no_resource made None None r h e = refl
no_resource made None (Some g) r h e = absurd h
no_resource made (Some item) None r h e = absurd h
no_resource made (Some item) (Some g) r h e = not_resource made item g r h e

is_resource : (made : List GroupGivens) (item : Given) (g : GroupGiven) (r n : ℕ) → IsGiven made item g → resource_of (Some item) ≡ Some n → bound (Some g) (KindItem (ResourceKind r)) ≡ (r, n) ∷ []
is_resource made (Func t) g r n h e = absurd (none-some n e)
is_resource made (Instance x) g r n h e = absurd (none-some n e)
is_resource made (Resource x) g r n h e = ap (λ y. bound (Some y) (KindItem (ResourceKind r))) (sym h) ∙ ap (λ y. (r, y) ∷ []) (same_number x n e)
is_resource made «Type» g r n h e = absurd (none-some n e)

pub some_resource : (made : List GroupGivens) (o : Option Given) (p : Option GroupGiven) (r n : ℕ) → IsSame made o p → resource_of o ≡ Some n → bound p (KindItem (ResourceKind r)) ≡ (r, n) ∷ []
some_resource made None None r n h e = absurd (none-some n e)
some_resource made None (Some g) r n h e = absurd h
some_resource made (Some item) None r n h e = absurd h
some_resource made (Some item) (Some g) r n h e = is_resource made item g r n h e

-- ---- and the resources of an instance where an instance is given

not_number : (made : List GroupGivens) (item : Given) (g : GroupGiven) (entries : Entries) → IsGiven made item g → number_of (Some item) ≡ None → bound (Some g) (InstanceItem entries) ≡ []
not_number made (Func t) g entries h e = ap (λ x. bound (Some x) (InstanceItem entries)) (sym h)
not_number made (Instance n) g entries h e = absurd (some_none n e)
not_number made (Resource x) g entries h e = ap (λ y. bound (Some y) (InstanceItem entries)) (sym h)
not_number made «Type» g entries h e = ap (λ x. bound (Some x) (InstanceItem entries)) (sym h)

pub no_number : (made : List GroupGivens) (o : Option Given) (p : Option GroupGiven) (entries : Entries) → IsSame made o p → number_of o ≡ None → bound p (InstanceItem entries) ≡ []
no_number made None None entries h e = refl
no_number made None (Some g) entries h e = absurd h
no_number made (Some item) None entries h e = absurd h
no_number made (Some item) (Some g) entries h e = not_number made item g entries h e

is_number : (made : List GroupGivens) (item : Given) (g : GroupGiven) (n : ℕ) → IsGiven made item g → number_of (Some item) ≡ Some n → (items : GroupGivens) × IsInstance made n items × (Some g ≡ Some (GivenInstance items))
is_number made (Func t) g n h e = absurd (none-some n e)
is_number made (Instance x) g n h e = (h.0, subst (λ k. IsInstance made k h.0) (same_number x n e) h.1, ap (λ y. Some y) (sym h.2))
is_number made (Resource x) g n h e = absurd (none-some n e)
is_number made «Type» g n h e = absurd (none-some n e)

pub some_number : (made : List GroupGivens) (o : Option Given) (p : Option GroupGiven) (n : ℕ) → IsSame made o p → number_of o ≡ Some n → (items : GroupGivens) × IsInstance made n items × (p ≡ Some (GivenInstance items))
some_number made None None n h e = absurd (none-some n e)
some_number made None (Some g) n h e = absurd h
some_number made (Some item) None n h e = absurd h
some_number made (Some item) (Some g) n h e = is_number made item g n h e

pub number_bound : (o : Option GroupGiven) (items : GroupGivens) (entries : Entries) → o ≡ Some (GivenInstance items) → bound o (InstanceItem entries) ≡ all_bound items entries
number_bound o items entries e = ap (λ p. bound p (InstanceItem entries)) e
