-- The two readers make up the group of both.
use Rattle.std.proofs.Common.{◌≡◌, ℕ, zero, suc, ◌+◌, inl, inr, Option, Some, refl, sym, ap, arith}
use Rattle.std.specs.Option.{option_map}
use Rattle.wit_types.specs.Plain.{Name}
use Rattle.comp_worlds.specs.Groups.{Import, Options, Target, Theirs, type_of, Func, LoweredFunc, ResourceDrop, Owner}
use Rattle.comp_worlds.specs.Acts.{◌>>◌, gives, traps, spent, takes_step, with_more, shows}
use Rattle.comp_worlds.specs.Calls.{on, below, core, store_of, finds_room, deep_enough}
use Rattle.comp_worlds.specs.Hosts.{reacts, loses, stays}
use Rattle.comp_worlds.specs.Observed.{runs_calls}
use Rattle.comp_worlds.specs.Parts.{target_to, func_to, Embeds, IsImportOf, Joins}
use Rattle.link_rows.specs.Samples.{now, reader}
use Rattle.link_rows.specs.Joined.{both_readers, at_first, at_second, meets_reader, JoinedExamples}

pub joined_examples : JoinedExamples
unfolding ◌>>◌ gives traps spent takes_step with_more shows on below core store_of finds_room deep_enough reacts loses stays runs_calls
joined_examples = record { one_group = refl; two_groups = refl }

-- where the imports of the second lead
abbrev to_reader : Import → Target
to_reader f = target_to at_first Theirs (meets_reader f)

first_canons : (k n : ℕ) → both_readers.canons (at_first k) n ≡ option_map (func_to at_first Theirs) (reader.canons k n)
first_canons zero zero = refl
first_canons zero (suc n) = refl
first_canons (suc k) n = refl

second_canons : (k n : ℕ) → both_readers.canons (at_second k) n ≡ option_map (func_to at_second to_reader) (reader.canons k n)
second_canons zero zero = refl
second_canons zero (suc n) = refl
second_canons (suc k) n = refl

no_owners : (r : ℕ) (o : Owner) → reader.owner r ≡ Some o → ⊥
no_owners r o e = absurd (cc)

first_stands : Embeds reader both_readers at_first Theirs
first_stands = record { canons = first_canons; owner = λ r o e. absurd (no_owners r o e); owns_no_more = λ k r. refl }

second_stands : Embeds reader both_readers at_second to_reader
second_stands = record { canons = second_canons; owner = λ r o e. absurd (no_owners r o e); owns_no_more = λ k r. refl }

abbrev import_in : Option Func → Import
import_in (Some (LoweredFunc (Theirs f) options)) = f
import_in f = now

is_clock : (f : Import) (k n : ℕ) (options : Options) → reader.canons k n ≡ Some (LoweredFunc (Theirs f) options) → now ≡ f
is_clock f zero zero options e = ap import_in e
is_clock f zero (suc n) options e = absurd (cc)
is_clock f (suc k) n options e = absurd (cc)

no_import : (interface name : Name) (f : Import) → reader.exports interface name ≡ Some (Theirs f) → ⊥
no_import interface name f e = absurd (cc)

same_types : (f : Import) → IsImportOf reader f → type_of (meets_reader f) ≡ f.ty
same_types f (inl u) = ap (λ i. i.ty) (is_clock f u.0 u.1 u.2 u.3)
same_types f (inr u) = absurd (no_import u.0 u.1 f u.2)

none_dropped : (r k n : ℕ) → reader.canons k n ≡ Some (ResourceDrop r) → ⊥
none_dropped r zero zero e = absurd (cc)
none_dropped r zero (suc n) e = absurd (cc)
none_dropped r (suc k) n e = absurd (cc)

none_zero : (m : ℕ) → zero ≡ suc m → ⊥
none_zero m e = absurd (omega arith)

halves : (j k : ℕ) → j + j ≡ k + k → suc j ≡ suc k
halves j k e = omega arith

odd_even : (j k : ℕ) → j + j ≡ suc (k + k) → ⊥
odd_even zero k e = none_zero (k + k) e
odd_even (suc j) zero e = absurd (omega arith)
odd_even (suc j) (suc k) e = odd_even j k (omega arith)

less : (j k : ℕ) → suc j ≡ suc k → j ≡ k
less j k e = omega arith

first_once : (j k : ℕ) → at_first j ≡ at_first k → j ≡ k
first_once zero zero e = refl
first_once zero (suc k) e = absurd (none_zero (suc (k + k)) e)
first_once (suc j) zero e = absurd (none_zero (suc (j + j)) (sym e))
first_once (suc j) (suc k) e = halves j k (less (j + j) (k + k) (less (suc (j + j)) (suc (k + k)) e))

second_once : (j k : ℕ) → at_second j ≡ at_second k → j ≡ k
second_once zero zero e = refl
second_once zero (suc k) e = absurd (none_zero (suc (k + k)) (less zero (suc (suc (k + k))) e))
second_once (suc j) zero e = absurd (none_zero (suc (j + j)) (sym (less (suc (suc (j + j))) zero e)))
second_once (suc j) (suc k) e = halves j k (less (j + j) (k + k) (less (suc (j + j)) (suc (k + k)) (less (suc (suc (j + j))) (suc (suc (k + k))) e)))

never_both : (j k : ℕ) → at_first j ≡ at_second k → ⊥
never_both zero zero e = none_zero zero e
never_both zero (suc k) e = none_zero (suc (suc (k + k))) e
never_both (suc j) zero e = none_zero (j + j) (sym (less (suc (j + j)) zero e))
never_both (suc j) (suc k) e = odd_even j k (less (j + j) (suc (k + k)) (less (suc (j + j)) (suc (suc (k + k))) e))

pub readers_join : Joins reader reader both_readers at_first at_second meets_reader
readers_join = record {
  lefts = first_stands;
  rights = second_stands;
  given = λ f used. refl;
  types = same_types;
  exports = λ interface name. refl;
  stages = refl;
  left_once = first_once;
  right_once = second_once;
  apart = never_both;
  below = λ r e. refl;
  drops = λ r some. refl;
  names = λ r e e'. refl;
  resources = λ r some e. absurd (none_dropped r some.0 some.1 some.2);
}
