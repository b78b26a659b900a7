-- Values that are loaded one after the other.
use Rattle.std.proofs.Common.{◌≡◌, ℕ, ◌+◌, ◌*◌, ◌<◌, ap, refl, sym, ◌∙◌, List, [], ◌∷◌, ◌++◌, length, drop, get_or, Option, Some, None, arith, add-one, drop-cons}
use Rattle.std.specs.Prelude.{option_and_then, option_map}
use Rattle.wit_types.specs.declared.types.Field.{Field, out-Field}
use Rattle.wit_types.specs.declared.types.WitType.{WitType}
use Rattle.wit_types.specs.declared.value.Value.{Value}
use Rattle.wit_types.specs.Plain.{Plain, Parts, End, More, plain, fields_of, types_of}
use Rattle.wit_types.specs.PlainValue.{PlainValue, PlainValues, More as Values, End as NoValues, plain_value, values_of}
use Rattle.wit_types.specs.Layout.{size, alignment, align_to}
use Rattle.abi_layout.specs.Loading.{items_at, fields_at, loads_at}

-- values, and others after them
abbrev pub followed : PlainValues → PlainValues → PlainValues
followed NoValues ys = ys
followed (Values x xs) ys = Values x (followed xs ys)

abbrev pub behind : PlainValues → Option PlainValues → Option PlainValues
behind xs o = option_map (λ ys. followed xs ys) o

followed-End : (xs : PlainValues) → followed xs NoValues ≡ xs
followed-End NoValues = refl
followed-End (Values x xs) = ap (Values x) (followed-End xs)

followed-push : (xs : List Value) (x : Value) (ys : PlainValues) → followed (values_of (xs ++ x ∷ [])) ys ≡ followed (values_of xs) (Values (plain_value x) ys)
followed-push [] x ys = refl
followed-push (v ∷ xs) x ys = ap (Values (plain_value v)) (followed-push xs x ys)

behind-push : (xs ys : List Value) (x : Value) (rest : Option PlainValues) → ys ≡ xs ++ x ∷ [] → behind (values_of xs) (option_map (Values (plain_value x)) rest) ≡ behind (values_of ys) rest
behind-push xs ys x None is = refl
behind-push xs ys x (Some vs) is = ap Some (sym (followed-push xs x vs)) ∙ ap (λ (v : List Value). Some (followed (values_of v) vs)) (sym is)

-- one value more
pub more : (due o rest : Option PlainValues) (one : Option PlainValue) (xs ys : List Value) (x : Value) → due ≡ behind (values_of xs) o → o ≡ option_and_then (λ v. option_map (Values v) rest) one →
    one ≡ Some (plain_value x) → ys ≡ xs ++ x ∷ [] → due ≡ behind (values_of ys) rest
more due o rest one xs ys x so step is push =
    so ∙ ap (behind (values_of xs)) (step ∙ ap (option_and_then (λ v. option_map (Values v) rest)) is) ∙ behind-push xs ys x rest push

pub stopped : (due o rest : Option PlainValues) (one : Option PlainValue) (xs : List Value) → due ≡ behind (values_of xs) o → o ≡ option_and_then (λ v. option_map (Values v) rest) one → one ≡ None → due ≡ None
stopped due o rest one xs so step is = so ∙ ap (behind (values_of xs)) (step ∙ ap (option_and_then (λ v. option_map (Values v) rest)) is)

pub ended : (due o : Option PlainValues) (xs : List Value) → due ≡ behind (values_of xs) o → o ≡ Some NoValues → due ≡ Some (values_of xs)
ended due o xs so is = so ∙ ap (behind (values_of xs)) is ∙ ap Some (followed-End (values_of xs))

-- ---- items of one size

items_step : (load : ℕ → Option PlainValue) (size at m k : ℕ) → m ≡ k + 1 → items_at load size at m ≡ option_and_then (λ v. option_map (Values v) (items_at load size (at + size) k)) (load at)
items_step load size at m k is = ap (items_at load size at) (is ∙ add-one k)

pub items_more : (load : ℕ → Option PlainValue) (size at m k : ℕ) (due : Option PlainValues) (xs ys : List Value) (x : Value) → due ≡ behind (values_of xs) (items_at load size at m) → m ≡ k + 1 →
    load at ≡ Some (plain_value x) → ys ≡ xs ++ x ∷ [] → due ≡ behind (values_of ys) (items_at load size (at + size) k)
items_more load size at m k due xs ys x so is one push = more due (items_at load size at m) (items_at load size (at + size) k) (load at) xs ys x so (items_step load size at m k is) one push

pub items_stop : (load : ℕ → Option PlainValue) (size at m k : ℕ) (due : Option PlainValues) (xs : List Value) → due ≡ behind (values_of xs) (items_at load size at m) → m ≡ k + 1 → load at ≡ None → due ≡ None
items_stop load size at m k due xs so is one = stopped due (items_at load size at m) (items_at load size (at + size) k) (load at) xs so (items_step load size at m k is) one

pub items_end : (load : ℕ → Option PlainValue) (size at m : ℕ) (due : Option PlainValues) (xs : List Value) → due ≡ behind (values_of xs) (items_at load size at m) → m ≡ 0 → due ≡ Some (values_of xs)
items_end load size at m due xs so is = ended due (items_at load size at m) xs so (ap (items_at load size at) is)

-- ---- fields

parts_more : (m : List ℕ) (due : Option PlainValues) (ps rest : Parts) (name : List ℕ) (ty : Plain) (at offset start next : ℕ) (xs ys : List Value) (x : Value) →
    due ≡ behind (values_of xs) (fields_at m ps at offset) → ps ≡ More name ty rest → start ≡ align_to offset (alignment ty) → next ≡ start + size ty → loads_at m ty (at + start) ≡ Some (plain_value x) → ys ≡ xs ++ x ∷ [] →
    due ≡ behind (values_of ys) (fields_at m rest at next)
parts_more m due ps rest name ty at offset start next xs ys x so is begin end one push =
    let put : loads_at m ty (at + align_to offset (alignment ty)) ≡ Some (plain_value x) = ap (λ k. loads_at m ty (at + k)) (sym begin) ∙ one in
    more due (fields_at m ps at offset) (fields_at m rest at (align_to offset (alignment ty) + size ty)) (loads_at m ty (at + align_to offset (alignment ty))) xs ys x so (ap (λ (v : Parts). fields_at m v at offset) is) put push
    ∙ ap (λ k. behind (values_of ys) (fields_at m rest at k)) (ap (λ k. k + size ty) (sym begin) ∙ sym end)

pub fields_cut : (fs : List Field) (i : ℕ) (f : Field) → i < length fs → f ≡ get_or fs i f → fields_of (drop i fs) ≡ More (out-Field f).name (plain (out-Field f).ty) (fields_of (drop (i + 1) fs))
fields_cut fs i f lt is =
    let cut : drop i fs ≡ f ∷ drop (i + 1) fs = rw add-one (drop-cons fs i f lt) ∙ ap (λ (z : Field). z ∷ drop (i + 1) fs) (sym is) in
    ap (λ (z : List Field). fields_of z) cut

pub types_cut : (ts : List WitType) (i : ℕ) (t : WitType) → i < length ts → t ≡ get_or ts i t → types_of (drop i ts) ≡ More [] (plain t) (types_of (drop (i + 1) ts))
types_cut ts i t lt is =
    let cut : drop i ts ≡ t ∷ drop (i + 1) ts = rw add-one (drop-cons ts i t lt) ∙ ap (λ (z : WitType). z ∷ drop (i + 1) ts) (sym is) in
    ap (λ (z : List WitType). types_of z) cut

pub fields_more : (m : List ℕ) (due : Option PlainValues) (fs : List Field) (i : ℕ) (f : Field) (at offset start next : ℕ) (xs ys : List Value) (x : Value) → i < length fs → f ≡ get_or fs i f →
    due ≡ behind (values_of xs) (fields_at m (fields_of (drop i fs)) at offset) → start ≡ align_to offset (alignment (plain (out-Field f).ty)) → next ≡ start + size (plain (out-Field f).ty) →
    loads_at m (plain (out-Field f).ty) (at + start) ≡ Some (plain_value x) → ys ≡ xs ++ x ∷ [] → due ≡ behind (values_of ys) (fields_at m (fields_of (drop (i + 1) fs)) at next)
fields_more m due fs i f at offset start next xs ys x lt here so begin end one push =
    parts_more m due (fields_of (drop i fs)) (fields_of (drop (i + 1) fs)) (out-Field f).name (plain (out-Field f).ty) at offset start next xs ys x so (fields_cut fs i f lt here) begin end one push

pub types_more : (m : List ℕ) (due : Option PlainValues) (ts : List WitType) (i : ℕ) (t : WitType) (at offset start next : ℕ) (xs ys : List Value) (x : Value) → i < length ts → t ≡ get_or ts i t →
    due ≡ behind (values_of xs) (fields_at m (types_of (drop i ts)) at offset) → start ≡ align_to offset (alignment (plain t)) → next ≡ start + size (plain t) →
    loads_at m (plain t) (at + start) ≡ Some (plain_value x) → ys ≡ xs ++ x ∷ [] → due ≡ behind (values_of ys) (fields_at m (types_of (drop (i + 1) ts)) at next)
types_more m due ts i t at offset start next xs ys x lt here so begin end one push =
    parts_more m due (types_of (drop i ts)) (types_of (drop (i + 1) ts)) [] (plain t) at offset start next xs ys x so (types_cut ts i t lt here) begin end one push

pub fields_end : (m : List ℕ) (due : Option PlainValues) (ps : Parts) (at offset : ℕ) (xs : List Value) → due ≡ behind (values_of xs) (fields_at m ps at offset) → ps ≡ End → due ≡ Some (values_of xs)
fields_end m due ps at offset xs so is = ended due (fields_at m ps at offset) xs so (ap (λ (v : Parts). fields_at m v at offset) is)

pub mul_more : (m k w : ℕ) → m ≡ k + 1 → m * w ≡ k * w + w
mul_more m k w is = ap (λ j. j * w) is ∙ grind arith
