-- Values are stored while the instance is closed: a plan from its beginning.
use Rattle.std.proofs.Common.{◌≡◌, ℕ, ◌+◌, ◌&&◌, Bool, true, false, List, [], ◌∷◌, map, Option, None, refl, sym, ap, ◌∙◌}
use Rattle.std.specs.Prelude.{nat_le, length}
use Rattle.wit_types.specs.Plain.{Plain}
use Rattle.wit_types.specs.PlainValue.{PlainValue}
use Rattle.wit_types.specs.Layout.{alignment, size}
use Rattle.abi_layout.specs.Storing.{Lowered, AnswerTo, stores as store_steps, spills, lower_flat}
use Rattle.abi_store.specs.Plan.{at_plan, flat_plan, spill_plan}
use Rattle.comp_worlds.specs.Acts.{Trapped, Over, Act, ◌>>◌, gives}
use Rattle.comp_worlds.specs.Groups.{Nesting, Options, Group, Config, World, Ports}
use Rattle.abi_layout.specs.Loading.{is_aligned}
use Rattle.comp_worlds.specs.Locals.{bytes_in, close, reopen, has_place, flat_word}
use Rattle.comp_worlds.specs.Calls.{pick, with_config, on, Run, stores, lowers_closed}
use Rattle.comp_frames.specs.Left.{finishes, does_left, does_due}
use Rattle.comp_frames.proofs.Acts.{nothing_before, then_then, then_same, then_first, gives_then}
use Rattle.comp_frames.proofs.Rooms.{flat_within}
use Rattle.comp_frames.proofs.Settles.{settles, targets_alike}
use Rattle.comp_frames.proofs.Halts.{here, on_test}

module _ {S : Type 0} (G : Group) (p : Ports S) (run : Run S) (d : Nesting) (k : ℕ) (options : Options) where
  -- the instance is closed meanwhile
  abbrev pub in_closed : Act (World S) (List ℕ) → Act (World S) (List ℕ)
  in_closed x = on k close >> λ _. x >> λ flats. on k reopen >> λ _. gives flats

  pub closed_same : (x y : Act (World S) (List ℕ)) → ((w : World S) (n : ℕ) → x w n ≡ y w n) → (w : World S) (n : ℕ) → in_closed x w n ≡ in_closed y w n
  closed_same x y same w n = then_same (on k close) _ _ w n (λ _ w' l. then_first x y (λ flats. on k reopen >> λ _. gives flats) w' l (same w' l))

  pub lowers_as : (target : ℕ) (l : Lowered) (w : World S) (n : ℕ) → lowers_closed G p run d k options target l w n ≡ in_closed (finishes G p run d k options target [] l) w n
  lowers_as target l w n =
      then_same (on k close) _ _ w n (λ _ w' i.
      sym
      (then_then (stores G p run d k options target [] l.steps) (λ all. gives (map (flat_word all) l.flats)) (λ flats. on k reopen >> λ _. gives flats) w' i
      ∙ then_same (stores G p run d k options target [] l.steps) _ (λ all. on k reopen >> λ _. gives (map (flat_word all) l.flats)) w' i (λ all v j. gives_then (map (flat_word all) l.flats) (λ flats. on k reopen >> λ _. gives flats) v j)))

  -- values among flat values, and values for which room is asked
  pub flat_lowers : (target : ℕ) (ty : Plain) (v : PlainValue) (answer : Option ℕ) (w : World S) (n : ℕ) →
      lowers_closed G p run d k options target (lower_flat ty v 0) w n ≡ in_closed (does_due G p run d k options (flat_plan ty v).due (flat_plan ty v).left answer) w n
  flat_lowers target ty v answer w n =
      lowers_as target (lower_flat ty v 0) w n
      ∙ closed_same _ _ (λ w' i. targets_alike G p run d k options [] target 0 [] (lower_flat ty v 0).steps (lower_flat ty v 0).flats w' i (flat_within None ty [] v 0 refl)) w n

  pub spill_lowers : (ty : Plain) (v : PlainValue) (answer : Option ℕ) (w : World S) (n : ℕ) →
      lowers_closed G p run d k options 0 (record { steps = spills ty v; flats = AnswerTo 0 ∷ [] }) w n ≡ in_closed (does_due G p run d k options (spill_plan ty v).due (spill_plan ty v).left answer) w n
  spill_lowers ty v answer w n = lowers_as 0 (record { steps = spills ty v; flats = AnswerTo 0 ∷ [] }) w n

  closed_config : World S → World S
  closed_config w = with_config w k (record { store = (w.configs k).store; map = (w.configs k).map; entered = (w.configs k).entered; closed = true })

  on_close : {A : Type 0} → (f : Act (World S) A) (w : World S) (n : ℕ) → (on k close >> λ _. f) w n ≡ f (closed_config w) n
  unfolding ◌>>◌ on closed_config
  on_close f w n = nothing_before _

  -- the place of a result is tested before the instance is closed, and by the plan after that
  module _ (align len at : ℕ) (f : Act (World S) (List ℕ)) (w : World S) (n : ℕ) where
    abbrev back : Act (World S) (List ℕ)
    back = f >> λ flats. on k reopen >> λ _. gives flats

    abbrev test : World S → Bool
    test v = is_aligned at align && nat_le (at + len) (length (bytes_in options (v.configs k).store))

    same_test : test (closed_config w) ≡ test w
    unfolding closed_config
    same_test = ap (λ (c : Config ℕ). is_aligned at align && nat_le (at + len) (length (bytes_in options c.store))) (here w k _)

    by_test : (c : Bool) → pick c (back (closed_config w) n) (Over [] Trapped) ≡ pick c (in_closed f w n) (Over [] Trapped)
    by_test true = sym (on_close back w n)
    by_test false = refl

    at_test : (on k (has_place options align len at) >> λ _. back) (closed_config w) n ≡ (on k (has_place options align len at) >> λ _. in_closed f) w n
    at_test =
        on_test k (test (closed_config w)) tt (λ _. back) (closed_config w) n (has_place options align len at) refl ∙ ap (λ c. pick c (back (closed_config w) n) (Over [] Trapped)) same_test ∙ by_test (test w)
        ∙ sym (on_test k (test w) tt (λ _. in_closed f) w n (has_place options align len at) refl)

    tests_place : (on k (has_place options align len at) >> λ _. in_closed f) w n ≡ in_closed (on k (has_place options align len at) >> λ _. f) w n
    tests_place =
        sym
        (on_close ((on k (has_place options align len at) >> λ _. f) >> λ flats. on k reopen >> λ _. gives flats) w n
        ∙ then_then (on k (has_place options align len at)) (λ _. f) (λ flats. on k reopen >> λ _. gives flats) (closed_config w) n ∙ at_test)

  pub place_lowers : (at : ℕ) (ty : Plain) (v : PlainValue) (answer : Option ℕ) (w : World S) (n : ℕ) →
      (on k (has_place options (alignment ty) (size ty) at) >> λ _. lowers_closed G p run d k options at (record { steps = store_steps ty v; flats = [] })) w n
      ≡ in_closed (does_due G p run d k options (at_plan at ty v).due (at_plan at ty v).left answer) w n
  place_lowers at ty v answer w n =
      then_same (on k (has_place options (alignment ty) (size ty) at)) _ (λ _. in_closed (does_left G p run d k options (at_plan at ty v).left)) w n (λ _ w' i.
      lowers_as at (record { steps = store_steps ty v; flats = [] }) w' i ∙ closed_same _ _ (λ v' j. settles G p run d k options at [] [] (store_steps ty v) [] v' j) w' i)
      ∙ tests_place (alignment ty) (size ty) at (does_left G p run d k options (at_plan at ty v).left) w n
