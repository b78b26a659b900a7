-- Values one by one, whether each pollable is the host's, and that `poll` makes nothing.
use Rattle.std.proofs.Common.{◌≡◌, ◌+◌, ◌<◌, ◌≤◌, ℕ, zero, suc, true, List, [], ◌∷◌, ◌++◌, length, take, map, Option, None, refl, ap, ◌∙◌, arith}
use Rattle.tree_table.specs.Tables.{Forest}
use Rattle.wit_types.specs.declared.value.Value.{Value}
use Rattle.wit_types.specs.PlainValue.{PlainValue, PlainValues, End, More, values_of, byte_values}
use Rattle.reference_step.specs.Handles.{Content, content_of}
use Rattle.reference_step.specs.Pollables.{poll_of}
use Rattle.reference_step.specs.Values.{nth, items}
use Rattle.ref_answers.specs.declared.row.Row.{Row}
use Rattle.ref_answers.specs.Seen.{live_in}
use Rattle.ref_answers.specs.Shown.{shown}
use Rattle.ref_virtual.specs.Inside.{row_inside}
use Rattle.ref_virtual.proofs.FilesInsideLemmas.{becomes_in, makes_in, row_plain}
use Rattle.ref_rules.specs.declared.content.Handle.{Handle}

pub each_count : (vs : List Value) → length (items (values_of vs)) ≡ length vs
each_count [] = refl
each_count (v ∷ vs) = ap suc (each_count vs)

pub byte_count : (bs : List ℕ) → length (items (byte_values bs)) ≡ length bs
byte_count [] = refl
byte_count (b ∷ bs) = ap suc (byte_count bs)

-- one more value
one_then : {B : Type 0} (g : PlainValue → B) (vs : PlainValues) (n : ℕ) → n < length (items vs) → map g (take n (items vs)) ++ g (nth n vs) ∷ [] ≡ map g (take (suc n) (items vs))
one_then g End n less = absurd (omega (arith, less))
one_then g (More v vs) zero less = refl
one_then g (More v vs) (suc n) less = ap (λ rest. g v ∷ rest) (one_then g vs n (omega (arith, less)))

pub one_more : {B : Type 0} (g : PlainValue → B) (vs : PlainValues) (n : ℕ) → n < length (items vs) → map g (take n (items vs)) ++ g (nth n vs) ∷ [] ≡ map g (take (n + 1) (items vs))
one_more g vs n less =
    let next : suc n ≡ n + 1 = omega arith in
    one_then g vs n less ∙ ap (λ k. map g (take k (items vs))) next

-- all of them
pub all_values : (vs : PlainValues) (n : ℕ) → length (items vs) ≤ n → take n (items vs) ≡ items vs
all_values End zero e = refl
all_values End (suc n) e = refl
all_values (More v vs) zero e = absurd (omega (arith, e))
all_values (More v vs) (suc n) e = ap (λ rest. v ∷ rest) (all_values vs n (omega (arith, e)))

-- it makes nothing
makes_none : (content : ℕ → Content) (vs : List PlainValue) → makes_in (poll_of content vs) ≡ []
makes_none content [] = refl
makes_none content (v ∷ vs) = refl

becomes_none : (content : ℕ → Content) (vs : List PlainValue) → becomes_in (poll_of content vs) ≡ None
becomes_none content [] = refl
becomes_none content (v ∷ vs) = refl

module _ (row : Row) (handles : List (Option Handle)) (vs : List PlainValue) (nodes : ℕ) where
  abbrev polled_by : Forest → ℕ → Content
  polled_by f = content_of (live_in f handles)

  pub poll_inside : ((f : Forest) → shown f row ≡ poll_of (polled_by f) vs) → row_inside nodes row ≡ true
  poll_inside says = row_plain row (λ f. poll_of (polled_by f) vs) [] None nodes says (λ f. makes_none (polled_by f) vs) (λ f. becomes_none (polled_by f) vs)
