-- What is lifted is what a row's run takes.
use Rattle.std.proofs.Common.{◌≡◌, ◌∙◌, refl, ap, ℕ, List, [], ◌∷◌, map, Option, Some, None, false}
use Rattle.std.specs.Option.{option_map, option_and_then}
use Rattle.wit_types.specs.Plain.{Plain, PlainFunc, BoolType, SignedType, UnsignedType, CharType, StringType, ListType, RecordType, VariantType, FlagsType, OwnType, BorrowType}
use Rattle.wit_types.specs.PlainValue.{PlainValue}
use Rattle.abi_layout.specs.Handles as abi
use Rattle.abi_layout.specs.Handles.{handles}
use Rattle.handle_space.specs.HandleMap.{HandleMap, Answered, take_own}
use Rattle.adapter_code.specs.Run.{own_resource}
use Rattle.comp_types.specs.Substitution.{value_with}
use Rattle.comp_worlds.specs.Groups.{Options, Config}
use Rattle.comp_worlds.specs.Locals.{Local, Args, bytes_in, args_of, lifts, with_map}
use Rattle.comp_worlds.specs.Passing as world
use Rattle.comp_worlds.specs.Passing.{Handle, Own, reps_in, blank, Lifted, and_lifted, lift_handles, lift_words}
use Rattle.comp_inside.proofs.Tables.{named_to, all_named_to}
use Rattle.comp_inside.proofs.Types.{handles_with, lift_words_with}
use Rattle.comp_inside.proofs.Locals.{local_to, lifts_to}
use Rattle.row_runs.specs.Passing.{Named, OwnAt, BorrowAt, answer_tuple, and_named, named_in, and_answer, takes}
use Rattle.adapter_calls.specs.Handling.{map_to}
use Rattle.adapter_calls.specs.Lifting.{own_tuple, AreOwn, lifted, lifted_by, LiftsAsTaken}

-- ---- the handles of a value, in both spellings

abbrev pub as_world : Named → world.Named
as_world (OwnAt r i) = world.OwnAt r i
as_world (BorrowAt r i) = world.BorrowAt r i

and_same : (ty : Plain) (i : ℕ) (ns : List Named) → world.and_named ty i (map as_world ns) ≡ map as_world (and_named ty i ns)
and_same BoolType i ns = refl
and_same (SignedType width) i ns = refl
and_same (UnsignedType width) i ns = refl
and_same CharType i ns = refl
and_same StringType i ns = refl
and_same (ListType item) i ns = refl
and_same (RecordType form fields) i ns = refl
and_same (VariantType form cases) i ns = refl
and_same (FlagsType labels) i ns = refl
and_same (OwnType r) i ns = refl
and_same (BorrowType r) i ns = refl

pub named_same : (hs : List abi.Handle) → world.named_in hs ≡ map as_world (named_in hs)
named_same [] = refl
named_same (h ∷ hs) = ap (world.and_named h.ty h.number) (named_same hs) ∙ and_same h.ty h.number (named_in hs)

-- ---- what is lifted of them

pub record Parts : Type 0 where
  pub reps : List ℕ
  pub map : HandleMap ℕ
  pub loans : List ℕ

abbrev of_lifted : Lifted ℕ → Parts
of_lifted l = record { reps = reps_in l.handles; map = l.map; loans = l.loans }

abbrev of_taken : Answered ℕ (List ℕ) → Parts
of_taken a = record { reps = a.answer; map = a.map; loans = [] }

abbrev and_rep : ℕ → Parts → Parts
and_rep x p = record { reps = x ∷ p.reps; map = p.map; loans = p.loans }

one_more : (r x i : ℕ) (l : Option (Lifted ℕ)) (a : Option (Answered ℕ (List ℕ))) → option_map of_lifted l ≡ option_map of_taken a → option_map of_lifted (option_map (and_lifted (Own r x) false i) l) ≡ option_map of_taken (option_map (and_answer x) a)
one_more r x i None None e = refl
one_more r x i (Some l) (Some a) e = ap (option_map (and_rep x)) e
one_more r x i None (Some a) e = absurd cc
one_more r x i (Some l) None e = absurd cc

own_more : (r i : ℕ) (ns : List Named) (o : Option (Answered ℕ ℕ)) → ((m : HandleMap ℕ) → option_map of_lifted (lift_handles (map (named_to own_resource) (map as_world ns)) m) ≡ option_map of_taken (takes own_resource ns m)) →
    option_map of_lifted (option_and_then (λ (a : Answered ℕ ℕ). option_map (and_lifted (Own (own_resource r) a.answer) false i) (lift_handles (map (named_to own_resource) (map as_world ns)) a.map)) o)
    ≡ option_map of_taken (option_and_then (λ (a : Answered ℕ ℕ). option_map (and_answer a.answer) (takes own_resource ns a.map)) o)
own_more r i ns None same = refl
own_more r i ns (Some a) same = one_more (own_resource r) a.answer i (lift_handles (map (named_to own_resource) (map as_world ns)) a.map) (takes own_resource ns a.map) (same a.map)

taken_so : (ns : List Named) → AreOwn ns → (m : HandleMap ℕ) → option_map of_lifted (lift_handles (map (named_to own_resource) (map as_world ns)) m) ≡ option_map of_taken (takes own_resource ns m)
taken_so [] own m = refl
taken_so (OwnAt r i ∷ ns) own m = own_more r i ns (take_own m i (own_resource r)) (taken_so ns own)
taken_so (BorrowAt r i ∷ ns) own m = absurd own

-- ---- the whole

module _ (to : ℕ → ℕ) (once : (r s : ℕ) → to r ≡ to s → r ≡ s) (ty : PlainFunc) (c : Config ℕ) (table : HandleMap ℕ) where
  abbrev plain : Config ℕ
  plain = record { store = c.store; map = table; entered = c.entered; closed = c.closed }

  abbrev placed : PlainValue → Parts → Local ℕ (Args ℕ)
  placed v p = record { config = with_map plain p.map; answer = record { passed = record { value = blank (own_tuple ty) v; reps = p.reps }; loans = p.loans } }

  by_parts : (v : PlainValue) (l : Option (Lifted ℕ)) (a : Option (Answered ℕ (List ℕ))) → option_map of_lifted l ≡ option_map of_taken a → option_map (local_to to) (option_map (args_of (own_tuple ty) v plain) l) ≡ option_map (lifted to ty c v) a
  by_parts v None None e = refl
  by_parts v (Some l) (Some a) e = ap (option_map (λ p. local_to to (placed v p))) e
  by_parts v None (Some a) e = absurd cc
  by_parts v (Some l) None e = absurd cc

  value_so : (v : PlainValue) → AreOwn (named_in (handles (answer_tuple ty) v)) → option_map (local_to to) (option_map (args_of (own_tuple ty) v plain) (lift_handles (world.named_in (handles (own_tuple ty) v)) table)) ≡ lifted_by to ty c table v
  value_so v own =
      ap (λ ns. option_map (local_to to) (option_map (args_of (own_tuple ty) v plain) (lift_handles ns table)))
      (ap world.named_in (handles_with own_resource (answer_tuple ty) v) ∙ all_named_to own_resource (handles (answer_tuple ty) v) ∙ ap (map (named_to own_resource)) (named_same (handles (answer_tuple ty) v)))
      ∙ by_parts v (lift_handles (map (named_to own_resource) (map as_world (named_in (handles (answer_tuple ty) v)))) table) (takes own_resource (named_in (handles (answer_tuple ty) v)) table) (taken_so (named_in (handles (answer_tuple ty) v)) own table)

  each_value : (o : Option PlainValue) → ((v : PlainValue) → AreOwn (named_in (handles (answer_tuple ty) v))) →
      option_map (local_to to) (option_and_then (λ v. option_map (args_of (own_tuple ty) v plain) (lift_handles (world.named_in (handles (own_tuple ty) v)) table)) o) ≡ option_and_then (lifted_by to ty c table) o
  each_value None own = refl
  each_value (Some v) own = value_so v (own v)

  pub lifts_so : (most : ℕ) (options : Options) (words : List ℕ) → c.map ≡ map_to to table → ((v : PlainValue) → AreOwn (named_in (handles (answer_tuple ty) v))) →
      lifts most (value_with to (own_tuple ty)) options words c ≡ option_and_then (lifted_by to ty c table) (lift_words most (answer_tuple ty) (bytes_in options c.store) words)
  lifts_so most options words is own =
      ap (λ m. lifts most (value_with to (own_tuple ty)) options words (record { store = c.store; map = m; entered = c.entered; closed = c.closed })) is
      ∙ lifts_to to once most (own_tuple ty) options words plain
      ∙ ap (λ o. option_map (local_to to) (option_and_then (λ v. option_map (args_of (own_tuple ty) v plain) (lift_handles (world.named_in (handles (own_tuple ty) v)) table)) o)) (lift_words_with own_resource (bytes_in options c.store) most (answer_tuple ty) words)
      ∙ each_value (lift_words most (answer_tuple ty) (bytes_in options c.store) words) own

pub lifts_as_taken : LiftsAsTaken
lifts_as_taken to once most ty options words c table is own = lifts_so to once ty c table most options words is own
