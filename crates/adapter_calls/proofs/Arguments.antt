-- Lent handles of the adapter's own resources are lowered as what they stand for.
use Rattle.std.proofs.Common.{◌≡◌, ◌∙◌, refl, ap, ℕ, List, [], ◌∷◌, map, Option, Some}
use Rattle.std.specs.Option.{option_map, option_and_then}
use Rattle.wit_types.specs.Plain.{Plain, PlainFunc}
use Rattle.abi_layout.specs.Storing.{Lowered}
use Rattle.abi_layout.specs.Handles.{handles, renumbered}
use Rattle.handle_space.specs.HandleMap.{HandleMap, Answered, answered}
use Rattle.adapter_code.specs.Run.{own_resource}
use Rattle.adapter_compile.specs.Handles.{Numbers}
use Rattle.comp_types.specs.Substitution.{value_with}
use Rattle.host_port.specs.Hosts.{HostStep}
use Rattle.comp_worlds.specs.Acts.{then_do, Act, ◌>>◌}
use Rattle.comp_worlds.specs.Groups.{Nesting, Endless, Config, Group, Options, Ports, World}
use Rattle.comp_worlds.specs.Locals.{adds_handles, with_map}
use Rattle.comp_worlds.specs.Passing.{Handle, Kind, IsOwn, IsBorrow, kinds_in, handles_by, Passed, handles_of, params_tuple, lower_borrow, and_index, add_handles, lower_params}
use Rattle.comp_worlds.specs.Calls.{Run, number_if, borrowed, plainly, lowers_params, lowers_closed}
use Rattle.comp_worlds.specs.Hosts.{hosted}
use Rattle.comp_frames.specs.Running.{running}
use Rattle.comp_inside.proofs.Types.{renumbered_with, lower_params_with}
use Rattle.comp_inside.proofs.Tables.{handle_to}
use Rattle.comp_inside.proofs.Locals.{handles_of_to}
use Rattle.adapter_calls.specs.Handling.{KnowsKinds}
use Rattle.adapter_calls.specs.Instance.{standing}
use Rattle.adapter_calls.specs.Arguments.{type_in, AreLent, HandlesAreLent, lowered_of, LentAreNumbers}
use Rattle.adapter_calls.proofs.Instance.{seen_none, on_k}

module _ (G : Group) (k : ℕ) (numbers : Numbers) (to : ℕ → ℕ) (know : KnowsKinds G k numbers to) where
  abbrev to_own : List (Handle ℕ) → List (Handle ℕ)
  to_own hs = map (handle_to to) (map (handle_to own_resource) hs)

  abbrev plain : ℕ → ℕ → Option ℕ
  plain = borrowed G plainly k

  lent_all : (ks : List Kind) (xs : List ℕ) (m : HandleMap ℕ) → AreLent ks xs → add_handles plain (to_own (handles_by ks xs)) m ≡ Some (answered xs m)
  lent_all [] [] m lent = refl
  lent_all [] (x ∷ xs) m lent = absurd lent
  lent_all (IsBorrow kind ∷ ks) [] m lent = absurd lent
  lent_all (IsOwn kind ∷ ks) xs m lent = absurd lent
  lent_all (IsBorrow kind ∷ ks) (x ∷ xs) m lent =
      ap (λ b. option_and_then (λ (a : Answered ℕ ℕ). option_map (and_index a.answer) (add_handles plain (to_own (handles_by ks xs)) a.map)) (lower_borrow (number_if b x) (to (own_resource kind)) x m)) (know.own kind lent.0)
      ∙ ap (option_map (and_index x)) (lent_all ks xs m lent.1)

  abbrev tuple : PlainFunc → Plain
  tuple ty = value_with to (value_with own_resource (params_tuple ty))

  handles_so : (ty : PlainFunc) (passed : Passed ℕ) → handles_of (tuple ty) passed ≡ to_own (handles_by (kinds_in (handles (params_tuple ty) passed.value)) passed.reps)
  handles_so ty passed = handles_of_to to (value_with own_resource (params_tuple ty)) passed ∙ ap (map (handle_to to)) (handles_of_to own_resource (params_tuple ty) passed)

  added_none : (ty : PlainFunc) (passed : Passed ℕ) (c : Config ℕ) → HandlesAreLent ty passed → adds_handles plain (handles_of (tuple ty) passed) c ≡ Some (record { config = c; answer = passed.reps })
  added_none ty passed c lent =
      ap (λ hs. option_map (λ (a : Answered ℕ (List ℕ)). record { config = with_map c a.map; answer = a.answer }) (add_handles plain hs c.map)) (handles_so ty passed)
      ∙ ap (option_map (λ (a : Answered ℕ (List ℕ)). record { config = with_map c a.map; answer = a.answer })) (lent_all (kinds_in (handles (params_tuple ty) passed.value)) passed.reps c.map lent)

  lowered_so : (ty : PlainFunc) (passed : Passed ℕ) → lower_params (tuple ty) (renumbered (tuple ty) passed.value passed.reps) ≡ lowered_of ty passed
  lowered_so ty passed =
      ap (lower_params (tuple ty)) (renumbered_with to (value_with own_resource (params_tuple ty)) passed.value passed.reps ∙ renumbered_with own_resource (params_tuple ty) passed.value passed.reps)
      ∙ lower_params_with to (value_with own_resource (params_tuple ty)) (renumbered (params_tuple ty) passed.value passed.reps)
      ∙ lower_params_with own_resource (params_tuple ty) (renumbered (params_tuple ty) passed.value passed.reps)

  module _ {S : Type 0} (p : Ports S) (run : Run S) (d : Nesting) (options : Options) where
    pub lent_so : (ty : PlainFunc) (passed : Passed ℕ) → HandlesAreLent ty passed → (w : World S) (c : Config ℕ) (s : S) (n : ℕ) →
        lowers_params G p run d k options (params_tuple (type_in to ty)) passed (standing w k c s) n ≡ lowers_closed G p run d k options 0 (lowered_of ty passed) (standing w k c s) n
    unfolding ◌>>◌
    lent_so ty passed lent w c s n =
        let lowering : List ℕ → Act (World S) (List ℕ) = λ indexes. lowers_closed G p run d k options 0 (lower_params (tuple ty) (renumbered (tuple ty) passed.value indexes)) in
        ap (λ o. then_do o lowering) (on_k w k (adds_handles plain (handles_of (tuple ty) passed)) c c s passed.reps n (added_none ty passed c lent))
        ∙ seen_none (lowering passed.reps (standing w k c s) n)
        ∙ ap (λ (low : Lowered). lowers_closed G p run d k options 0 low (standing w k c s) n) (lowered_so ty passed)

pub lent_are_numbers_law : {S : Type 0} → (h : HostStep S) → LentAreNumbers h
lent_are_numbers_law h G k numbers to know options ty passed lent w c s n = lent_so G k numbers to know (hosted h) (running G (hosted h)) Endless options ty passed lent w c s n
