-- What each item of a plan brings: the resources that its definition adds, and no others.
use Rattle.std.proofs.Common.{◌≡◌, ◌⊎◌, inl, inr, ℕ, ◌+◌, ◌≤◌, ◌<◌, List, [], ◌∷◌, ◌++◌, Bool, Option, Some, None, refl, subst, arith}
use Rattle.wasm_ast.specs.declared.module.CoreFunc.{CoreFunc}
use Rattle.wasm_ast.specs.declared.component.CanonOption.{CanonOption}
use Rattle.wasm_ast.specs.declared.component.NamedItem.{NamedItem}
use Rattle.wasm_ast.specs.declared.component.Sort.{Sort}
use Rattle.wasm_ast.specs.declared.component.Sort.TheVariants as sorts
use Rattle.core_instance.specs.declared.external.Extern.{Extern}
use Rattle.core_instance.specs.declared.external.Extern.TheVariants.{Func, Table, Memory, Global}
use Rattle.comp_types.specs.Items.{Item, Entries, InstanceItem, KindItem, ResourceKind, End as NoEntries, More}
use Rattle.comp_types.specs.GivenResources.{named_in, named_in_item, numbered}
use Rattle.comp_types.specs.Spaces.{Space, kind_at}
use Rattle.comp_types.specs.Types.{resource_in}
use Rattle.comp_types.specs.Added.{new_numbers}
use Rattle.comp_worlds.specs.Groups.{Target}
use Rattle.comp_link.specs.Plans.{Plan, End, Then, followed, resource_or_type, named_by, named_args}
use Rattle.comp_link.specs.Linking.{Given, Givens, GivenFunc, GivenInstance, GivenResource, GivenType, find, bound, all_bound, Making, and_core_item, and_item, with_lowered, own_bound, link_item, link}
use Rattle.comp_inside.specs.Linked.{IsBrought, Each, NamesBrought, ArgsBrought, OwnBrought, PlanKnows}
use Rattle.comp_link.specs.Exports.{IsOf}
use Rattle.comp_joins.proofs.Shown.{Shown, brought_first, brought_second, shown_bound}
use Rattle.comp_joins.proofs.Names.{each_first, each_second, each_then}
use Rattle.comp_joins.proofs.Described.{IfSome, Knows, kind_known}
use Rattle.comp_joins.proofs.Nested.{brought_either, either_way}
use Rattle.comp_joins.proofs.Defined.{resource_known}

-- ---- what changes no resource

pub item_resources : (m : Making) (o : Option Given) → (and_item m o).resources ≡ m.resources
item_resources m None = refl
item_resources m (Some (GivenFunc target)) = refl
item_resources m (Some (GivenInstance items)) = refl
item_resources m (Some (GivenResource r)) = refl
item_resources m (Some GivenType) = refl

pub core_item_resources : (m : Making) (o : Option Extern) → (and_core_item m o).resources ≡ m.resources
core_item_resources m None = refl
core_item_resources m (Some (Func at)) = refl
core_item_resources m (Some (Table at)) = refl
core_item_resources m (Some (Memory at)) = refl
core_item_resources m (Some (Global at)) = refl

pub lowered_resources : (m : Making) (ty : CoreFunc) (os : List CanonOption) (o : Option Target) → (with_lowered m ty os o).resources ≡ m.resources
lowered_resources m ty os None = refl
lowered_resources m ty os (Some target) = refl

-- ---- what more is brought: these numbers, and none but numbers from n on, in front of n'

pub record Grows (pairs more : List (ℕ × ℕ)) (n n' : ℕ) (numbers : List ℕ) : Type 0 where
  pub behind : n ≤ n'
  pub kept : (r : ℕ) → IsBrought pairs r → IsBrought more r
  pub new : Each (IsBrought more) numbers
  pub only : (r : ℕ) → IsBrought more r → IsBrought pairs r ⊎ ((n ≤ r) × (r < n'))

-- a resource that gets the next number
pub resource_grows : (pairs : List (ℕ × ℕ)) (n group : ℕ) → Grows pairs (pairs ++ (n, group) ∷ []) n (n + 1) (n ∷ [])
resource_grows pairs n group = record { behind = omega arith; kept = λ r b. brought_first pairs ((n, group) ∷ []) r b; new = (brought_second pairs ((n, group) ∷ []) n (inl refl), tt); only = λ r b. either r (brought_either pairs ((n, group) ∷ []) r b) }
  where
    at : (r : ℕ) → n ≡ r → (n ≤ r) × (r < n + 1)
    at r e = (omega (arith, e), omega (arith, e))

    either : (r : ℕ) → IsBrought pairs r ⊎ IsBrought ((n, group) ∷ []) r → IsBrought pairs r ⊎ ((n ≤ r) × (r < n + 1))
    either r (inl old) = inl old
    either r (inr (inl same)) = inr (at r same)
    either r (inr (inr rest)) = absurd rest

-- ---- what is given for an item

mutual
  all_bound_named : (P : ℕ → Type 0) (items : Givens) (entries : Entries) (r : ℕ) → Each P (named_in entries) → IsBrought (all_bound items entries) r → P r
  all_bound_named P items NoEntries r h b = absurd b
  all_bound_named P items (More name item rest) r h b =
      either_way (IsBrought (bound (find name items) item) r) (IsBrought (all_bound items rest) r) (P r)
      (λ x. bound_named P (find name items) item r (each_first P (named_in_item item) (named_in rest) h) x) (λ x. all_bound_named P items rest r (each_second P (named_in_item item) (named_in rest) h) x)
      (brought_either (bound (find name items) item) (all_bound items rest) r b)

  bound_named : (P : ℕ → Type 0) (o : Option Given) (item : Item) (r : ℕ) → Each P (named_in_item item) → IsBrought (bound o item) r → P r
  bound_named P (Some (GivenResource g)) (KindItem (ResourceKind y)) r h (inl same) = subst P same h.0
  bound_named P (Some (GivenResource g)) (KindItem (ResourceKind y)) r h (inr rest) = absurd rest
  bound_named P (Some (GivenInstance items)) (InstanceItem entries) r h b = all_bound_named P items entries r h b
  bound_named P o item r h b = absurd b

pub bound_grows : (pairs : List (ℕ × ℕ)) (g : Given) (item : Item) (n n' : ℕ) (numbers : List ℕ) → n ≤ n' → IsOf g item → Each (Shown item) numbers → Each (λ r. IsBrought pairs r ⊎ ((n ≤ r) × (r < n'))) (named_in_item item)
    → Grows pairs (pairs ++ bound (Some g) item) n n' numbers
bound_grows pairs g item n n' numbers le fits shown named = record {
  behind = le;
  kept = λ r b. brought_first pairs (bound (Some g) item) r b;
  new = each_then (Shown item) (IsBrought (pairs ++ bound (Some g) item)) (λ r s. brought_second pairs (bound (Some g) item) r (shown_bound s.0 g item r fits s.1)) numbers shown;
  only = λ r b. either_way (IsBrought pairs r) (IsBrought (bound (Some g) item) r) (IsBrought pairs r ⊎ ((n ≤ r) × (r < n'))) (λ old. inl old) (λ x. bound_named (λ z. IsBrought pairs z ⊎ ((n ≤ z) × (z < n'))) (Some g) item r named x) (brought_either pairs (bound (Some g) item) r b);
}

-- ---- the own resources of a component

own_bound_new : (inner own : List (ℕ × ℕ)) → Each (IsBrought (own_bound inner own)) (new_numbers own)
own_bound_new inner [] = tt
own_bound_new inner (pair ∷ own) = (inl refl, each_then (IsBrought (own_bound inner own)) (IsBrought (own_bound inner (pair ∷ own))) (λ r b. inr b) (new_numbers own) (own_bound_new inner own))

own_bound_only : (P : ℕ → Type 0) (inner own : List (ℕ × ℕ)) (r : ℕ) → Each P (new_numbers own) → IsBrought (own_bound inner own) r → P r
own_bound_only P inner [] r h b = absurd b
own_bound_only P inner (pair ∷ own) r h (inl same) = subst P same h.0
own_bound_only P inner (pair ∷ own) r h (inr rest) = own_bound_only P inner own r h.1 rest

pub own_grows : (pairs inner own : List (ℕ × ℕ)) (n n' : ℕ) → n ≤ n' → Each (λ r. (n ≤ r) × (r < n')) (new_numbers own) → Grows pairs (pairs ++ own_bound inner own) n n' (new_numbers own)
own_grows pairs inner own n n' le within = record {
  behind = le;
  kept = λ r b. brought_first pairs (own_bound inner own) r b;
  new = each_then (IsBrought (own_bound inner own)) (IsBrought (pairs ++ own_bound inner own)) (λ r b. brought_second pairs (own_bound inner own) r b) (new_numbers own) (own_bound_new inner own);
  only = λ r b. either_way (IsBrought pairs r) (IsBrought (own_bound inner own) r) (IsBrought pairs r ⊎ ((n ≤ r) × (r < n'))) (λ old. inl old) (λ x. inr (own_bound_only (λ z. (n ≤ z) × (z < n')) inner own r within x)) (brought_either pairs (own_bound inner own) r b);
}

pub own_brought : (pairs : List (ℕ × ℕ)) (own : List ℕ) (n : ℕ) → Each (IsBrought pairs) own → OwnBrought pairs (numbered own n)
own_brought pairs [] n h = tt
own_brought pairs (o ∷ own) n h = (h.0, own_brought pairs own (n + 1) h.1)

-- ---- what is named

pub named_brought : {b : Bool} {base : ℕ} → (pairs : List (ℕ × ℕ)) (s : Space) (sort : Sort) (i : ℕ) → Knows b base (IsBrought pairs) s → NamesBrought pairs (named_by s sort i)
named_brought pairs s sorts.Func i h = tt
named_brought pairs s sorts.Instance i h = tt
named_brought pairs s sorts.Type i h = go (resource_in (kind_at s i)) (resource_known (IsBrought pairs) s.next (kind_at s i) (kind_known (IsBrought pairs) s i h))
  where
    go : (o : Option ℕ) → IfSome (IsBrought pairs) o → NamesBrought pairs (resource_or_type o)
    go None k = tt
    go (Some r) k = k

pub args_brought : {b : Bool} {base : ℕ} → (pairs : List (ℕ × ℕ)) (s : Space) (es : List NamedItem) → Knows b base (IsBrought pairs) s → ArgsBrought pairs (named_args s es)
args_brought pairs s [] h = tt
args_brought pairs s (e ∷ es) h = (named_brought pairs s e.sort e.index h, args_brought pairs s es h)

-- ---- one plan and then another

pub followed_knows : (p q : Plan) (m : Making) → PlanKnows (λ r. r) p m → PlanKnows (λ r. r) q (link p m) → PlanKnows (λ r. r) (followed p q) m
followed_knows End q m h k = k
followed_knows (Then item p) q m h k = (h.0, followed_knows p q (link_item item m) h.1 k)
