-- The turns of a loop that gives the values of a list other numbers: those before a place are done, and those from it on are as they were.
use Rattle.std.proofs.Common.{◌≡◌, ◌+◌, ◌≤◌, ◌<◌, ℕ, zero, suc, ap, refl, sym, ◌∙◌, List, [], ◌∷◌, ◌++◌, Some, length, drop, take, get_or, set, slice_get, arith, length-append, length-set}
use Rattle.std.proofs.Math.Seq.{drop-cons}
use Rattle.std.proofs.Math.ListN.{drop_of_length-le}
use Rattle.std.proofs.lemmas.List.{drop-drop, drop-set-lt, set-set, take_more_set, take-append-drop}
use Rattle.wit_types.specs.declared.types.Field.{Field, out-Field}
use Rattle.wit_types.specs.declared.types.WitType.{WitType}
use Rattle.wit_types.specs.declared.value.Value.{Value}
use Rattle.wit_types.specs.Plain.{Plain, Parts, End, More, Bare, plain, fields_of, types_of}
use Rattle.wit_types.specs.PlainValue.{PlainValue, PlainValues, End as NoValues, More as Values, values_of, plain_value}
use Rattle.abi_layout.specs.Handles.{Handle, handles, field_handles, item_handles, renumbered, renumbered_fields, renumbered_items}

-- values in front of others
abbrev pub joined : List Value → PlainValues → PlainValues
joined [] left = left
joined (v ∷ vs) left = Values (plain_value v) (joined vs left)

joined-push : (vs : List Value) (v : Value) (left : PlainValues) → joined (vs ++ v ∷ []) left ≡ joined vs (Values (plain_value v) left)
joined-push [] v left = refl
joined-push (x ∷ vs) v left = ap (Values (plain_value x)) (joined-push vs v left)

joined-values : (xs ys : List Value) → joined xs (values_of ys) ≡ values_of (xs ++ ys)
joined-values [] ys = refl
joined-values (x ∷ xs) ys = ap (Values (plain_value x)) (joined-values xs ys)

-- of the values xs, which are ys now, those before i are done, and with what is left they are `goal`
pub record Turned (xs ys : List Value) (i : ℕ) (goal left : PlainValues) : Type 0 where
  pub rest : drop i ys ≡ drop i xs
  pub whole : joined (take i ys) left ≡ goal

pub turned_starts : (xs : List Value) (goal : PlainValues) → Turned xs xs 0 goal goal
turned_starts xs goal = record { rest = refl; whole = refl }

-- one more is done
turn : (xs ys : List Value) (i : ℕ) (y : Value) (goal left later : PlainValues) → i < length ys → left ≡ Values (plain_value y) later → Turned xs ys i goal left → Turned xs (set ys i y) (i + 1) goal later
turn xs ys i y goal left later lt e t = record {
  rest = drop-set-lt (i + 1) ys i y (omega arith) ∙ sym (drop-drop 1 i ys) ∙ ap (λ (zs : List Value). drop 1 zs) t.rest ∙ drop-drop 1 i xs;
  whole = ap (λ (zs : List Value). joined zs later) (take_more_set ys i y lt) ∙ joined-push (take i ys) y later ∙ ap (joined (take i ys)) (sym e) ∙ t.whole;
}

-- what is left stays as it is
pub turned_end : (xs ys : List Value) (i : ℕ) (goal left : PlainValues) → left ≡ values_of (drop i xs) → Turned xs ys i goal left → values_of ys ≡ goal
turned_end xs ys i goal left e t =
    sym (ap values_of (take-append-drop i ys)) ∙ sym (joined-values (take i ys) (drop i ys)) ∙ ap (λ (zs : List Value). joined (take i ys) (values_of zs)) t.rest ∙ ap (joined (take i ys)) (sym e) ∙ t.whole

-- the value that is next
there : {A : Type 0} → (ys : List A) (i : ℕ) (x : A) → slice_get ys i ≡ Some x → (i < length ys) × (drop i ys ≡ x ∷ drop (i + 1) ys)
there [] i x e = absurd (cc)
there (y ∷ ys) zero x e = (omega arith, ap (λ z. z ∷ ys) (let same : y ≡ x = cc in same))
there (y ∷ ys) (suc i) x e =
    let rest = there ys i x e in
    let one : suc i + 1 ≡ suc (i + 1) = omega arith in
    (let lt = rest.0 in omega arith, rest.1 ∙ ap (λ zs. x ∷ zs) (sym (ap (λ (n : ℕ). drop n (y ∷ ys)) one)))

pub next_is : (xs ys : List Value) (i : ℕ) (x : Value) → slice_get ys i ≡ Some x → drop i ys ≡ drop i xs → drop i xs ≡ x ∷ drop (i + 1) xs
next_is xs ys i x e same = sym same ∙ (there ys i x e).1 ∙ ap (λ (zs : List Value). x ∷ zs) (sym (drop-drop 1 i ys) ∙ ap (λ (zs : List Value). drop 1 zs) same ∙ drop-drop 1 i xs)

pub next_part : {A : Type 0} → (xs : List A) (i : ℕ) (d : A) → i < length xs → drop i xs ≡ get_or xs i d ∷ drop (i + 1) xs
next_part xs i d lt = drop-cons xs i d lt ∙ ap (λ (n : ℕ). get_or xs i d ∷ drop n xs) (let same : suc i ≡ i + 1 = omega arith in same)

-- a value was taken out, and another put back
put_back : (ys zs ws : List Value) (i : ℕ) (hollow y : Value) → zs ≡ set ys i hollow → ws ≡ set zs i y → ws ≡ set ys i y
put_back ys zs ws i hollow y e f = f ∙ ap (λ (vs : List Value). set vs i y) e ∙ set-set ys i hollow y

pub as_long : (ys zs ws : List Value) (i : ℕ) (hollow y : Value) → zs ≡ set ys i hollow → ws ≡ set zs i y → length ws ≡ length ys
as_long ys zs ws i hollow y e f = ap length (put_back ys zs ws i hollow y e f) ∙ length-set ys i y

-- ---- items

module _ (find : PlainValue → List Handle) (change : PlainValue → List ℕ → PlainValue) where
  items_next : (xs : List Value) (i next : ℕ) (ns : List ℕ) (x y : Value) → drop i xs ≡ x ∷ drop (i + 1) xs → plain_value y ≡ change (plain_value x) (drop next ns) →
      renumbered_items find change (values_of (drop i xs)) (drop next ns) ≡ Values (plain_value y) (renumbered_items find change (values_of (drop (i + 1) xs)) (drop (next + length (find (plain_value x))) ns))
  items_next xs i next ns x y cut e =
      ap (λ (zs : List Value). renumbered_items find change (values_of zs) (drop next ns)) cut
      ∙ ap (λ v. Values v (renumbered_items find change (values_of (drop (i + 1) xs)) (drop (length (find (plain_value x))) (drop next ns)))) (sym e)
      ∙ ap (λ ms. Values (plain_value y) (renumbered_items find change (values_of (drop (i + 1) xs)) ms)) (drop-drop (length (find (plain_value x))) next ns)

  pub items_turn : (xs ys zs ws : List Value) (i next next' : ℕ) (ns : List ℕ) (x hollow y : Value) (goal : PlainValues) → slice_get ys i ≡ Some x → zs ≡ set ys i hollow → ws ≡ set zs i y →
      Turned xs ys i goal (renumbered_items find change (values_of (drop i xs)) (drop next ns)) → plain_value y ≡ change (plain_value x) (drop next ns) → next' ≡ next + length (find (plain_value x)) →
      Turned xs ws (i + 1) goal (renumbered_items find change (values_of (drop (i + 1) xs)) (drop next' ns))
  items_turn xs ys zs ws i next next' ns x hollow y goal at e f t value is =
      rw (put_back ys zs ws i hollow y e f, is) (turn xs ys i y goal _ _ (there ys i x at).0 (items_next xs i next ns x y (next_is xs ys i x at t.rest) value) t)

  pub items_count : (xs : List Value) (i next next' total : ℕ) (x : Value) → drop i xs ≡ x ∷ drop (i + 1) xs → next + length (item_handles find (values_of (drop i xs))) ≡ total → next' ≡ next + length (find (plain_value x)) →
      next' + length (item_handles find (values_of (drop (i + 1) xs))) ≡ total
  items_count xs i next next' total x cut count is =
      let all : length (item_handles find (values_of (drop i xs))) ≡ length (find (plain_value x)) + length (item_handles find (values_of (drop (i + 1) xs))) =
      ap (λ (zs : List Value). length (item_handles find (values_of zs))) cut ∙ length-append (find (plain_value x)) (item_handles find (values_of (drop (i + 1) xs))) in
      omega arith

  pub items_stay : (xs : List Value) (i : ℕ) (ns : List ℕ) → length xs ≤ i → renumbered_items find change (values_of (drop i xs)) ns ≡ values_of (drop i xs)
  items_stay xs i ns le = rw (drop_of_length-le xs le) refl

  pub no_items : (xs : List Value) (i : ℕ) → length xs ≤ i → length (item_handles find (values_of (drop i xs))) ≡ 0
  no_items xs i le = rw (drop_of_length-le xs le) refl

-- ---- fields

fields_next : (fs rest : Parts) (name : List ℕ) (ty : Plain) (xs : List Value) (i next : ℕ) (ns : List ℕ) (x y : Value) → fs ≡ More name ty rest → drop i xs ≡ x ∷ drop (i + 1) xs → plain_value y ≡ renumbered ty (plain_value x) (drop next ns) →
    renumbered_fields fs (values_of (drop i xs)) (drop next ns) ≡ Values (plain_value y) (renumbered_fields rest (values_of (drop (i + 1) xs)) (drop (next + length (handles ty (plain_value x))) ns))
fields_next fs rest name ty xs i next ns x y f cut e =
    ap (λ ps. renumbered_fields ps (values_of (drop i xs)) (drop next ns)) f
    ∙ ap (λ (zs : List Value). renumbered_fields (More name ty rest) (values_of zs) (drop next ns)) cut
    ∙ ap (λ v. Values v (renumbered_fields rest (values_of (drop (i + 1) xs)) (drop (length (handles ty (plain_value x))) (drop next ns)))) (sym e)
    ∙ ap (λ ms. Values (plain_value y) (renumbered_fields rest (values_of (drop (i + 1) xs)) ms)) (drop-drop (length (handles ty (plain_value x))) next ns)

pub fields_turn : (fs rest : Parts) (name : List ℕ) (ty : Plain) (xs ys zs ws : List Value) (i next next' : ℕ) (ns : List ℕ) (x hollow y : Value) (goal : PlainValues) → fs ≡ More name ty rest → slice_get ys i ≡ Some x → zs ≡ set ys i hollow → ws ≡ set zs i y →
    Turned xs ys i goal (renumbered_fields fs (values_of (drop i xs)) (drop next ns)) → plain_value y ≡ renumbered ty (plain_value x) (drop next ns) → next' ≡ next + length (handles ty (plain_value x)) →
    Turned xs ws (i + 1) goal (renumbered_fields rest (values_of (drop (i + 1) xs)) (drop next' ns))
fields_turn fs rest name ty xs ys zs ws i next next' ns x hollow y goal cut at e f t value is =
    rw (put_back ys zs ws i hollow y e f, is) (turn xs ys i y goal _ _ (there ys i x at).0 (fields_next fs rest name ty xs i next ns x y cut (next_is xs ys i x at t.rest) value) t)

pub fields_count : (fs rest : Parts) (name : List ℕ) (ty : Plain) (xs : List Value) (i next next' total : ℕ) (x : Value) → fs ≡ More name ty rest → drop i xs ≡ x ∷ drop (i + 1) xs → next + length (field_handles fs (values_of (drop i xs))) ≡ total → next' ≡ next + length (handles ty (plain_value x)) →
    next' + length (field_handles rest (values_of (drop (i + 1) xs))) ≡ total
fields_count fs rest name ty xs i next next' total x f cut count is =
    let all : length (field_handles fs (values_of (drop i xs))) ≡ length (handles ty (plain_value x)) + length (field_handles rest (values_of (drop (i + 1) xs))) =
    ap (λ ps. length (field_handles ps (values_of (drop i xs)))) f ∙ ap (λ (zs : List Value). length (field_handles (More name ty rest) (values_of zs))) cut ∙ length-append (handles ty (plain_value x)) (field_handles rest (values_of (drop (i + 1) xs))) in
    omega arith

-- after the last value
no_value : (ps : Parts) (ns : List ℕ) → (renumbered_fields ps NoValues ns ≡ NoValues) × (field_handles ps NoValues ≡ [])
no_value End ns = (refl, refl)
no_value (More _ ty rest) ns = (refl, refl)
no_value (Bare _ rest) ns = no_value rest ns

pub values_end : (ps : Parts) (xs : List Value) (i : ℕ) (ns : List ℕ) → length xs ≤ i → renumbered_fields ps (values_of (drop i xs)) ns ≡ values_of (drop i xs)
values_end ps xs i ns le = rw (drop_of_length-le xs le) (no_value ps ns).0

pub none_left : (ps : Parts) (xs : List Value) (i : ℕ) → length xs ≤ i → length (field_handles ps (values_of (drop i xs))) ≡ 0
none_left ps xs i le = rw (drop_of_length-le xs le, (no_value ps []).1) refl

-- after the last field
pub fields_end : (fs : List Field) (xs : List Value) (i : ℕ) (ns : List ℕ) → length fs ≤ i → renumbered_fields (fields_of (drop i fs)) (values_of (drop i xs)) ns ≡ values_of (drop i xs)
fields_end fs xs i ns le = rw (drop_of_length-le fs le) refl

pub types_end : (ts : List WitType) (xs : List Value) (i : ℕ) (ns : List ℕ) → length ts ≤ i → renumbered_fields (types_of (drop i ts)) (values_of (drop i xs)) ns ≡ values_of (drop i xs)
types_end ts xs i ns le = rw (drop_of_length-le ts le) refl

pub type_cut : (ts : List WitType) (i : ℕ) (ty : WitType) → i < length ts → ty ≡ get_or ts i ty → types_of (drop i ts) ≡ More [] (plain ty) (types_of (drop (i + 1) ts))
type_cut ts i ty lt is = ap types_of (next_part ts i ty lt) ∙ ap (λ (z : WitType). More [] (plain z) (types_of (drop (i + 1) ts))) (sym is)
