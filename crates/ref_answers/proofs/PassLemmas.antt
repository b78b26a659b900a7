-- Variables that are passed, one more at the end.
use Rattle.std.proofs.Common.{◌≡◌, ◌+◌, ◌<◌, ℕ, pos, length, drop, get_or, Bool, true, false, refl, sym, ap, ◌∙◌, List, [], ◌∷◌, ◌++◌, map, filter}
use Rattle.std.proofs.lemmas.List.{append_assoc, append-nil, drop_more}
use Rattle.wit_types.specs.declared.value.Value.{Value}
use Rattle.wit_types.specs.PlainValue.{PlainValue, IntValue, plain_value, values_of, byte_values}
use Rattle.policy_data.specs.declared.policy.Policy.{Policy}
use Rattle.reference_step.specs.Environment.{is_passed}
use Rattle.reference_step.specs.Values.{items, list_in}
use Rattle.ref_answers.specs.Passed.{name_in, kept}

abbrev pub passed_of : Policy → List PlainValue → List PlainValue
passed_of p vs = filter (λ v. is_passed p (name_in v)) vs

-- the first, and the rest
pub first_kept : (p : Policy) (v : PlainValue) (vs : List PlainValue) → passed_of p (v ∷ vs) ≡ kept p v ++ passed_of p vs
first_kept p v vs = by (is_passed p (name_in v)) refl
  where
    by : (b : Bool) → is_passed p (name_in v) ≡ b → passed_of p (v ∷ vs) ≡ kept p v ++ passed_of p vs
    by true is = rw is refl
    by false is = rw is refl

pub passed_push : (p : Policy) (vs : List PlainValue) (v : PlainValue) → passed_of p (vs ++ v ∷ []) ≡ passed_of p vs ++ kept p v
passed_push p [] v = first_kept p v [] ∙ nil (kept p v)
  where
    nil : (xs : List PlainValue) → xs ++ [] ≡ xs
    nil [] = refl
    nil (x ∷ xs) = ap (λ r. x ∷ r) (nil xs)
passed_push p (x ∷ vs) v =
    first_kept p x (vs ++ v ∷ [])
    ∙ ap (λ r. kept p x ++ r) (passed_push p vs v)
    ∙ sym (append_assoc (kept p x) (passed_of p vs) (kept p v))
    ∙ ap (λ r. r ++ kept p v) (sym (first_kept p x vs))

pub items_listed : (vs : List Value) → items (values_of vs) ≡ map plain_value vs
items_listed [] = refl
items_listed (v ∷ vs) = ap (λ r. plain_value v ∷ r) (items_listed vs)

-- a byte more, which counts as a number
pub byte_step : (p : Policy) (done all : List PlainValue) (bytes : List ℕ) (i d : ℕ) → i < length bytes → done ++ passed_of p (items (byte_values (drop i bytes))) ≡ all → (done ++ kept p (IntValue (pos (get_or bytes i d)))) ++ passed_of p (items (byte_values (drop (i + 1) bytes))) ≡ all
byte_step p done all bytes i d less before =
    let v = IntValue (pos (get_or bytes i d)) in
    let rest = items (byte_values (drop (i + 1) bytes)) in
    append_assoc done (kept p v) (passed_of p rest)
    ∙ ap (λ r. done ++ r) (sym (first_kept p v rest) ∙ ap (λ bs. passed_of p (items (byte_values bs))) (sym (drop_more bytes i d less)))
    ∙ before

-- a value that is no list has no variables
pub nothing : (p : Policy) (done : List PlainValue) (v w : PlainValue) → v ≡ w → list_in w ≡ [] → done ≡ done ++ passed_of p (list_in v)
nothing p done v w is none = sym (append-nil done) ∙ ap (λ vs. done ++ passed_of p vs) (sym (ap list_in is ∙ none))

pub ruleset passing = (items_listed, first_kept)
