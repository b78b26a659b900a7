-- What is found in lists.
use Rattle.std.proofs.Common.{◌≡◌, ◌∙◌, refl, ap, ℕ, ◌<◌, ◌≤◌, List, [], ◌∷◌, Bool, true, false, Option, Some, None, cond, nat_lt, length, map, option_map, get_or, arith}
use Rattle.std.specs.Prelude.{position, ◌||◌}
use Rattle.std.specs.Borrow.{Bor}
use Rattle.std.specs.Option.{option_copied}
use Rattle.std.specs.List.{find, list_any, position_or_len}
use Rattle.std.proofs.lemmas.Bool.Decides.{nat_tests}
use Rattle.std.proofs.lemmas.List.Folds.{find_at}
use Rattle.std.proofs.lemmas.Option.{slice_get_past, slice_get-get_or}
use Rattle.wasi_table.specs.declared.interface.NamedType.{NamedType}
use Rattle.wasi_table.specs.declared.interface.NamedFunc.{NamedFunc}
use Rattle.wasi_table.specs.Plain.{plain_named, plain_named_func}

pub now_type : (r : Option (Bor NamedType)) → option_map (λ t. plain_named t.now) r ≡ option_map plain_named (option_copied r)
now_type None = refl
now_type (Some t) = refl

pub now_function : (r : Option (Bor NamedFunc)) → option_map (λ f. plain_named_func f.now) r ≡ option_map plain_named_func (option_copied r)
now_function None = refl
now_function (Some f) = refl

pub any-map : {X Y : Type 0} (f : X → Y) (p : Y → Bool) (xs : List X) → list_any p (map f xs) ≡ list_any (λ x. p (f x)) xs
any-map f p [] = refl
any-map f p (x ∷ xs) = ap (λ b. p (f x) || b) (any-map f p xs)

-- ---- by its place

is_there : (b : Bool) (n i : ℕ) → cond b (Some n) None ≡ Some i → (b ≡ true) × (n ≡ i)
is_there true n i h = (refl, cc)
is_there false n i h = absurd (cc)

is_not : (b : Bool) (n : ℕ) → cond b (Some n) None ≡ None → b ≡ false
is_not true n h = absurd (cc)
is_not false n h = refl

pub find_none : {X : Type 0} (p : X → Bool) (xs : List X) → position p xs ≡ None → find p xs ≡ None
find_none p xs h =
    let no = is_not (nat_lt (position_or_len p xs) (length xs)) (position_or_len p xs) h in
    let past : length xs ≤ position_or_len p xs = grind (arith, nat_tests, no) in
    find_at p xs ∙ slice_get_past xs (position_or_len p xs) past

pub find_some : {X : Type 0} (p : X → Bool) (xs : List X) (place : ℕ) (x : X) → position p xs ≡ Some place → get_or xs place x ≡ x → find p xs ≡ Some x
find_some p xs place x h e =
    let there = is_there (nat_lt (position_or_len p xs) (length xs)) (position_or_len p xs) place h in
    let below : position_or_len p xs < length xs = grind (arith, nat_tests, there.0) in
    find_at p xs ∙ slice_get-get_or xs (position_or_len p xs) x below ∙ ap (λ i. Some (get_or xs i x)) there.1 ∙ ap Some e
