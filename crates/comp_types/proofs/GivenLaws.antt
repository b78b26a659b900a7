-- What the names of arguments say of the resources of imports: each partner under which the imports are met is that one.
use Rattle.std.proofs.Common.{◌≡◌, ◌∙◌, ap, sym, subst, ℕ, List, [], ◌∷◌, ◌++◌, Some}
use Rattle.std.proofs.lemmas.List.Elements.{All-nil, All-cons, All-append}
use Rattle.comp_types.specs.Items.{Item, Kind, Entries, FuncItem, InstanceItem, KindItem, ResourceKind, ValueKind, FuncKind, InstanceKind, End, More, look_up}
use Rattle.comp_types.specs.Equality.{IsSameItem, HasEach}
use Rattle.comp_types.specs.Subtyping.{Takes, IsArgument, AreGiven}
use Rattle.comp_types.specs.GivenResources.{given_by, given_for}

abbrev Agrees : (ℕ → ℕ) → ℕ × ℕ → Type 0
Agrees partner pair = partner pair.0 ≡ pair.1

mutual
  item_agrees : (partner : ℕ → ℕ) (given item : Item) → IsSameItem (λ x y. x ≡ partner y) given item → Takes partner (given_for (Some given) item)
  item_agrees partner given (FuncItem ty) h = subst (λ g. Takes partner (given_for (Some g) (FuncItem ty))) (sym h.1) (All-nil (Agrees partner))
  item_agrees partner given (InstanceItem entries) h = subst (λ g. Takes partner (given_for (Some g) (InstanceItem entries))) (sym h.1) (entries_agree partner h.0 entries h.2)
  item_agrees partner given (KindItem (ResourceKind y)) h =
      subst (λ g. Takes partner (given_for (Some g) (KindItem (ResourceKind y)))) (sym (h.1 ∙ ap KindItem h.2.1)) (All-cons (Agrees partner) (y, h.2.0) [] (sym h.2.2) (All-nil (Agrees partner)))
  item_agrees partner given (KindItem (ValueKind ty)) h =
      subst (λ g. Takes partner (given_for (Some g) (KindItem (ValueKind ty)))) (sym (h.1 ∙ ap KindItem h.2.1)) (All-nil (Agrees partner))
  item_agrees partner given (KindItem (FuncKind ty)) h =
      subst (λ g. Takes partner (given_for (Some g) (KindItem (FuncKind ty)))) (sym (h.1 ∙ ap KindItem h.2.1)) (All-nil (Agrees partner))
  item_agrees partner given (KindItem (InstanceKind own entries)) h =
      subst (λ g. Takes partner (given_for (Some g) (KindItem (InstanceKind own entries)))) (sym (h.1 ∙ ap KindItem h.2.2)) (All-nil (Agrees partner))

  entries_agree : (partner : ℕ → ℕ) (those entries : Entries) → HasEach (λ x y. x ≡ partner y) those entries → Takes partner (given_by those entries)
  entries_agree partner those End h = All-nil (Agrees partner)
  entries_agree partner those (More name item rest) h =
      All-append (Agrees partner) (given_for (look_up name those) item) (given_by those rest)
      (subst (λ o. Takes partner (given_for o item)) (sym h.1) (item_agrees partner h.0 item h.2)) (entries_agree partner those rest h.3)

argument_agrees : (partner : ℕ → ℕ) (given item : Item) → IsArgument (λ x y. x ≡ partner y) given item → Takes partner (given_for (Some given) item)
argument_agrees partner given (InstanceItem entries) h = subst (λ g. Takes partner (given_for (Some g) (InstanceItem entries))) (sym h.1) (entries_agree partner h.0 entries h.2)
argument_agrees partner given (FuncItem ty) h = item_agrees partner given (FuncItem ty) h
argument_agrees partner given (KindItem kind) h = item_agrees partner given (KindItem kind) h

pub given_is_partner : (args imports : Entries) (partner : ℕ → ℕ) → AreGiven (λ x y. x ≡ partner y) args imports → Takes partner (given_by args imports)
given_is_partner args End partner h = All-nil (Agrees partner)
given_is_partner args (More name item rest) partner h =
    All-append (Agrees partner) (given_for (look_up name args) item) (given_by args rest)
    (subst (λ o. Takes partner (given_for o item)) (sym h.1) (argument_agrees partner h.0 item h.2)) (given_is_partner args rest partner h.3)
