-- A canonical function more, and a resource more, in the code's lists and in those of the definition.
use Rattle.std.proofs.Common.{◌≡◌, ◌∙◌, ap, sym, refl, ℕ, ◌+◌, ◌-◌, ◌<◌, ◌≤◌, nat_eq, nat_lt, ◌&&◌, cond, List, [], ◌∷◌, ◌++◌, length, set, Option, Some, None, Bool, true, false, Vec, arith, slice_get}
use Rattle.std.specs.Option.{option_map, option_and_then}
use Rattle.std.specs.Global.{Global}
use Rattle.std.proofs.lemmas.Bool.{ltb-true, ltb-false}
use Rattle.std.proofs.lemmas.Option.{slice_get_past}
use Rattle.comp_worlds.specs.Groups.{Func, Owner}
use Rattle.comp_link.specs.Linking.{Placed, Owned, canon_in, owner_in}
use Rattle.comp_joins.specs.Joining.{or_else}
use Rattle.comp_joins.proofs.Lists.{or_none, canon_append, owner_append, unlike}
use Rattle.instance_state.specs.declared.owners.Owner.{Owner as CodeOwner}
use Rattle.instance_state.specs.Owning.{owner_of}
use Rattle.instance_state.specs.declared.canon.Canon.{Canon}
use Rattle.instance_state.specs.Targets.{func_of}
use Rattle.call_moments.specs.Grouped.{canon_in as canon_known}
use Rattle.comp_interp.proofs.Lists.{set_here, set_there, push_here, push_there, by_number, is_itself}

-- what a row has at a number
abbrev in_row : Option (Vec Canon Global) → ℕ → Option Func
in_row o n = option_map func_of (option_and_then (λ (row : Vec Canon Global). slice_get row.items n) o)

module _ (rows : List (Vec Canon Global)) (k : ℕ) (row row' : Vec Canon Global) (canon : Canon) (w : List Placed) (found : slice_get rows k ≡ Some row) (pushed : row'.items ≡ row.items ++ canon ∷ [])
    (same : (j n : ℕ) → canon_known rows j n ≡ canon_in w j n) where
  abbrev placed : List Placed
  placed = record { instance = k; number = length row.items; canon = func_of canon } ∷ []

  here : (n : ℕ) → canon_known (set rows k row') k n ≡ option_map func_of (slice_get (row.items ++ canon ∷ []) n)
  here n = ap (λ o. in_row o n) (set_here rows k row row' found) ∙ ap (λ xs. option_map func_of (slice_get xs n)) pushed

  was : (n : ℕ) → canon_in w k n ≡ option_map func_of (slice_get row.items n)
  was n = sym (same k n) ∙ ap (λ o. in_row o n) found

  -- no other number, so nothing is found after
  not_there : (b c : Bool) (x : Option Func) → (b && c) ≡ false → or_else x (cond (b && c) (Some (func_of canon)) None) ≡ x
  not_there b c x e = ap (λ d. or_else x (cond d (Some (func_of canon)) None)) e ∙ or_none x

  and_false : (b : Bool) → (b && false) ≡ false
  and_false true = refl
  and_false false = refl

  in_its_row : (n : ℕ) → canon_known (set rows k row') k n ≡ or_else (canon_in w k n) (canon_in placed k n)
  in_its_row n = by_number n (length row.items) last other
    where
      last : n ≡ length row.items → canon_known (set rows k row') k n ≡ or_else (canon_in w k n) (canon_in placed k n)
      last e =
          let none : canon_in w k n ≡ None = was n ∙ ap (option_map func_of) (slice_get_past row.items n (omega (arith, e))) in
          let both : (nat_eq k k && nat_eq (length row.items) n) ≡ true = ap (λ b. b && nat_eq (length row.items) n) (is_itself k) ∙ ap (nat_eq (length row.items)) e ∙ is_itself (length row.items) in
          here n
          ∙ ap (λ m. option_map func_of (slice_get (row.items ++ canon ∷ []) m)) e
          ∙ ap (option_map func_of) (push_here row.items canon)
          ∙ sym (ap (λ b. or_else (canon_in w k n) (cond b (Some (func_of canon)) None)) both ∙ ap (λ o. or_else o (Some (func_of canon))) none)

      other : (n ≡ length row.items → ⊥) → canon_known (set rows k row') k n ≡ or_else (canon_in w k n) (canon_in placed k n)
      other differ =
          let not : (nat_eq k k && nat_eq (length row.items) n) ≡ false = ap (λ b. nat_eq k k && b) (unlike (length row.items) n (λ e. differ (sym e))) ∙ and_false (nat_eq k k) in
          here n ∙ ap (option_map func_of) (push_there row.items canon n differ) ∙ sym (was n) ∙ sym (not_there (nat_eq k k) (nat_eq (length row.items) n) (canon_in w k n) not)

  in_others : (j n : ℕ) → (j ≡ k → ⊥) → canon_known (set rows k row') j n ≡ or_else (canon_in w j n) (canon_in placed j n)
  in_others j n differ =
      let not : (nat_eq k j && nat_eq (length row.items) n) ≡ false = ap (λ b. b && nat_eq (length row.items) n) (unlike k j (λ e. differ (sym e))) in
      ap (λ o. in_row o n) (set_there rows k j row' differ) ∙ same j n ∙ sym (not_there (nat_eq k j) (nat_eq (length row.items) n) (canon_in w j n) not)

  pub canon_pushed : (j n : ℕ) → canon_known (set rows k row') j n ≡ canon_in (w ++ placed) j n
  canon_pushed j n =
      by_number {P = canon_known (set rows k row') j n ≡ or_else (canon_in w j n) (canon_in placed j n)} j k
      (λ e. ap (λ m. canon_known (set rows k row') m n) e ∙ in_its_row n ∙ sym (ap (λ m. or_else (canon_in w m n) (canon_in placed m n)) e))
      (λ differ. in_others j n differ)
      ∙ sym (canon_append w placed j n)

-- ---- resources: those from the first on are owned by instances

abbrev pub owned_from : ℕ → List CodeOwner → ℕ → Option Owner
owned_from first items r = cond (nat_lt r first) None (option_map owner_of (slice_get items (r - first)))

module _ (first : ℕ) (items : List CodeOwner) (o : CodeOwner) (w : List Owned) (same : (r : ℕ) → owned_from first items r ≡ owner_in w r) where
  abbrev owned : List Owned
  owned = record { resource = first + length items; owner = owner_of o } ∷ []

  no_owner : (r : ℕ) (x : Option Owner) → (first + length items ≡ r → ⊥) → or_else x (owner_in owned r) ≡ x
  no_owner r x differ = ap (λ b. or_else x (cond b (Some (owner_of o)) None)) (unlike (first + length items) r differ) ∙ or_none x

  of_imports : (r : ℕ) → r < first → owned_from first (items ++ o ∷ []) r ≡ or_else (owner_in w r) (owner_in owned r)
  of_imports r less =
      let below : nat_lt r first ≡ true = is_below r first less in
      ap (λ b. cond b None (option_map owner_of (slice_get (items ++ o ∷ []) (r - first)))) below
      ∙ sym (ap (λ b. cond b None (option_map owner_of (slice_get items (r - first)))) below)
      ∙ same r
      ∙ sym (no_owner r (owner_in w r) (λ e. omega (arith, less, e)))
    where
      is_below : (a b : ℕ) → a < b → nat_lt a b ≡ true
      is_below a b lt = go (nat_lt a b) refl
        where
          go : (t : Bool) → nat_lt a b ≡ t → t ≡ true
          go true e = refl
          go false e = absurd (let le : b ≤ a = ltb-false a b e in omega (arith, lt, le))

  of_instances : (r : ℕ) → first ≤ r → nat_lt r first ≡ false → owned_from first (items ++ o ∷ []) r ≡ or_else (owner_in w r) (owner_in owned r)
  of_instances r le not = by_number (r - first) (length items) last other
    where
      now : owned_from first (items ++ o ∷ []) r ≡ option_map owner_of (slice_get (items ++ o ∷ []) (r - first))
      now = ap (λ b. cond b None (option_map owner_of (slice_get (items ++ o ∷ []) (r - first)))) not

      was : owner_in w r ≡ option_map owner_of (slice_get items (r - first))
      was = sym (same r) ∙ ap (λ b. cond b None (option_map owner_of (slice_get items (r - first)))) not

      last : r - first ≡ length items → owned_from first (items ++ o ∷ []) r ≡ or_else (owner_in w r) (owner_in owned r)
      last e =
          let at : first + length items ≡ r = omega (arith, le, e) in
          let none : owner_in w r ≡ None = was ∙ ap (option_map owner_of) (slice_get_past items (r - first) (omega (arith, e))) in
          let found : owner_in owned r ≡ Some (owner_of o) = ap (λ b. cond b (Some (owner_of o)) None) (ap (nat_eq (first + length items)) (sym at) ∙ is_itself (first + length items)) in
          now
          ∙ ap (λ m. option_map owner_of (slice_get (items ++ o ∷ []) m)) e
          ∙ ap (option_map owner_of) (push_here items o)
          ∙ sym found
          ∙ sym (ap (λ x. or_else x (owner_in owned r)) none)

      other : (r - first ≡ length items → ⊥) → owned_from first (items ++ o ∷ []) r ≡ or_else (owner_in w r) (owner_in owned r)
      other differ =
          now ∙ ap (option_map owner_of) (push_there items o (r - first) differ) ∙ sym was ∙ sym (no_owner r (owner_in w r) (λ e. differ (omega (arith, e))))

  pub owner_pushed : (r : ℕ) → owned_from first (items ++ o ∷ []) r ≡ owner_in (w ++ owned) r
  owner_pushed r = go (nat_lt r first) refl ∙ sym (owner_append w owned r)
    where
      go : (b : Bool) → nat_lt r first ≡ b → owned_from first (items ++ o ∷ []) r ≡ or_else (owner_in w r) (owner_in owned r)
      go true e = of_imports r (ltb-true r first e)
      go false e = of_instances r (ltb-false r first e) e
