-- What each call keeps of the live handles.
use Rattle.std.proofs.Common.{◌≡◌, ◌≢◌, ℕ, ◌+◌, ◌*◌, ◌^◌, ◌<◌, ◌≤◌, List, [], length, set, get_or, replicate, ◌⊎◌, Option, Some, None, is_some, true, false, nat_eq, cond, refl, sym, ap, ◌∙◌, arith, inl, inr, length-set}
use Rattle.std.specs.Prelude.{slice_get, count_by}
use Rattle.std.proofs.lemmas.Bool.{cases_eq}
use Rattle.std.proofs.lemmas.Bool.Decides.{nat_tests}
use Rattle.std.proofs.lemmas.List.{get_or-set_same, get_or-set_other, get_or-replicate, length-replicate}
use Rattle.std.proofs.lemmas.List.Sums.{count_by-le-length, sum_by-set}
use Rattle.std.proofs.lemmas.List.Folds.{sum_by-replicate}
use Rattle.std.proofs.lemmas.Option.{slice_get_within, get_or_from_slice_get}
use Rattle.slot_tables.specs.Entries.{live_count}
use Rattle.reference_step.specs.Handles.{first_free, with_entry}
use Rattle.ref_rules.specs.declared.content.Content.{Content}
use Rattle.ref_rules.specs.declared.content.Handle.{Handle}
use Rattle.ref_rules.specs.Contents.{open_file}
use Rattle.ref_rules.specs.Numbers.{Numbers}
use Rattle.ref_rules.specs.Holding.{more_open, less_open}
use Rattle.ref_rules.specs.Lives.{of_kind, count_of_kind, opens, is_inside, many, IsThere, IsLive}
use Rattle.ref_rules.proofs.KeptLemmas.{some_within}
use Rattle.ref_rules.proofs.CountLemmas.{count-with_entry, count-set, count-at, get-with_entry_same, get-with_entry_other, first_free-le, count-le-live, live_most, live_less}
use Rattle.ref_rules.proofs.HoldingLemmas.{is_file, length-more, length-less, more-at, less-at, is_file-same, within_files}

some_is : {A : Type 0} (a b : A) → Some a ≡ Some b → a ≡ b
some_is a b e = cc

-- the places of a kind, after a write among those of one kind
places_same : (kinds : List (List (Option ℕ))) (kind : ℕ) (places : List (Option ℕ)) (k : ℕ) → k ≡ kind → kind < length kinds → get_or (set kinds kind places) k [] ≡ places
places_same kinds kind places k same within = rw same (get_or-set_same kinds kind places [] within)

places_other : (kinds : List (List (Option ℕ))) (kind : ℕ) (places : List (Option ℕ)) (k : ℕ) → k ≢ kind → get_or (set kinds kind places) k [] ≡ get_or kinds k []
places_other kinds kind places k other = get_or-set_other kinds kind k places [] other

not_equal : (a b : ℕ) → a ≢ b → nat_eq a b ≡ false
not_equal a b other = grind (arith, nat_tests)

live-filled : (places : List (Option ℕ)) (rep id : ℕ) → slice_get places rep ≡ Some None → live_count (set places rep (Some id)) ≡ live_count places + 1
live-filled places rep id was_free =
    let within = slice_get_within places rep None was_free in
    let free : get_or places rep None ≡ None = get_or_from_slice_get places rep None None was_free in
    let counted : live_count (set places rep (Some id)) + cond (is_some (get_or places rep None)) 1 0 ≡ live_count places + 1 = sum_by-set (λ o. cond (is_some o) 1 0) places rep (Some id) None within in
    let none : cond {A = ℕ} (is_some (get_or places rep None)) 1 0 ≡ 0 = ap (λ o. cond (is_some o) 1 0) free in
    omega (arith, counted, none)

live-emptied : (places : List (Option ℕ)) (rep id : ℕ) → get_or places rep None ≡ Some id → live_count (set places rep None) + 1 ≡ live_count places
live-emptied places rep id taken =
    let moved = count-set is_some places rep id None taken in
    omega (arith, moved)

same_length : (kinds : List (List (Option ℕ))) (kind rep : ℕ) (entry : Option ℕ) (k : ℕ) → kind < length kinds → length (get_or (set kinds kind (set (get_or kinds kind []) rep entry)) k []) ≡ length (get_or kinds k [])
same_length kinds kind rep entry k within =
    elim (cases_eq k kind) [
      | inl same ↦ ap length (places_same kinds kind _ k same within) ∙ length-set (get_or kinds kind []) rep entry ∙ ap (λ i. length (get_or kinds i [])) (sym same)
      | inr other ↦ ap length (places_other kinds kind _ k other)
    ]

module _ (slots : ℕ) (n : Numbers) (kinds : List (List (Option ℕ))) (reps held : List ℕ) (was : IsLive slots n kinds reps held) where
  pub in_kinds : (id : ℕ) (h : Handle) → get_or n.handles id None ≡ Some h → h.kind < 14
  in_kinds id h e = (was.there id h e).kind

  each_kind : (k : ℕ) → k < 14 → count_of_kind k n.handles ≤ slots
  each_kind k lt = omega (arith, was.counts k lt, count_by-le-length is_some (get_or kinds k []), was.capacity k lt)

  pub most_live : live_count n.handles ≤ many 14 slots
  most_live = live_most n.handles slots 14 in_kinds each_kind

  pub has_room : (kind : ℕ) → kind < 14 → count_of_kind kind n.handles < slots → live_count n.handles < n.most
  has_room kind lt room = rw was.most (live_less n.handles slots 14 kind in_kinds each_kind lt room)

  pub number_within : (kind : ℕ) → kind < 14 → count_of_kind kind n.handles < slots → first_free n.handles < length reps
  number_within kind lt room = omega (arith, first_free-le n.handles, has_room kind lt room, was.reps_count)

  pub count_fits : (file : ℕ) → file < length held → get_or held file 0 + 1 < 2 ^ 32
  count_fits file within =
      let few : many 14 slots < 14 * 2 ^ 16 = omega (arith, was.few) in
      omega (arith, was.held_counts file within, count-le-live (opens file) refl n.handles, most_live, few)

  -- a live handle that holds a file open is counted
  pub counted : (id : ℕ) (h : Handle) (file : ℕ) → get_or n.handles id None ≡ Some h → open_file h.content ≡ Some file → 0 < get_or held file 0
  counted id h file there is =
      let within : file < length held = within_files (open_file h.content) (length held) file (was.inside id h there) is in
      let one = count-at (opens file) n.handles id h there in
      let opened : is_file (open_file h.content) file ≡ true = rw is (is_file-same file) in
      let one_here : cond {A = ℕ} (opens file (Some h)) 1 0 ≡ 1 = ap (λ b. cond b 1 0) opened in
      omega (arith, was.held_counts file within, one, one_here)

  -- ---- one handle more

  module _ (kind : ℕ) (content : Content) (rep : ℕ) (lt : kind < 14) (room : count_of_kind kind n.handles < slots) (inside : is_inside (length held) content ≡ true) (was_free : slice_get (get_or kinds kind []) rep ≡ Some None) where
    added_there : (id : ℕ) (h : Handle) → get_or (with_entry n.handles (record { kind = kind; content = content })) id None ≡ Some h → IsThere (set kinds kind (set (get_or kinds kind []) rep (Some (first_free n.handles)))) (set reps (first_free n.handles) rep) id h
    added_there id h e =
        let rep_within = slice_get_within (get_or kinds kind []) rep None was_free in
        let kind_within : kind < length kinds = omega (arith, was.kinds_count) in
        elim (cases_eq id (first_free n.handles)) [
          | inl same ↦
              let at : get_or (with_entry n.handles (record { kind = kind; content = content })) (first_free n.handles) None ≡ Some (record { kind = kind; content = content }) = get-with_entry_same n.handles _ in
              let is : h ≡ record { kind = kind; content = content } = some_is _ _ (sym e ∙ ap (λ i. get_or (with_entry n.handles (record { kind = kind; content = content })) i None) same ∙ at) in
              let read : get_or (set reps (first_free n.handles) rep) id 0 ≡ rep = rw same (get_or-set_same reps (first_free n.handles) rep 0 (number_within kind lt room)) in
              let there : get_or (get_or (set kinds kind (set (get_or kinds kind []) rep (Some (first_free n.handles)))) h.kind []) rep None ≡ Some (first_free n.handles) =
              ap (λ ps. get_or ps rep None) (places_same kinds kind _ h.kind (ap (λ x. x.kind) is) kind_within) ∙ get_or-set_same (get_or kinds kind []) rep (Some (first_free n.handles)) None rep_within in
              record { kind = rw (ap (λ x. x.kind) is) lt; entry = rw read there ∙ ap Some (sym same) }
          | inr other ↦
              let old : get_or n.handles id None ≡ Some h = sym (get-with_entry_other n.handles _ id other) ∙ e in
              let before = was.there id h old in
              let read : get_or (set reps (first_free n.handles) rep) id 0 ≡ get_or reps id 0 = get_or-set_other reps (first_free n.handles) id rep 0 other in
              let there : get_or (get_or (set kinds kind (set (get_or kinds kind []) rep (Some (first_free n.handles)))) h.kind []) (get_or reps id 0) None ≡ Some id =
              elim (cases_eq h.kind kind) [
                | inl same ↦
                    let apart : get_or reps id 0 ≢ rep = λ eq.
                    let free : get_or (get_or kinds kind []) rep None ≡ None = get_or_from_slice_get (get_or kinds kind []) rep None None was_free in
                    let taken : get_or (get_or kinds kind []) rep None ≡ Some id = rw (← same, ← eq) before.entry in
                    let clash : None ≡ Some id = sym free ∙ taken in absurd cc in
                    ap (λ ps. get_or ps (get_or reps id 0) None) (places_same kinds kind _ h.kind same kind_within) ∙ get_or-set_other (get_or kinds kind []) rep (get_or reps id 0) (Some (first_free n.handles)) None apart ∙ (rw (← same) before.entry)
                | inr apart ↦ ap (λ ps. get_or ps (get_or reps id 0) None) (places_other kinds kind _ h.kind apart) ∙ before.entry
              ] in
              record { kind = before.kind; entry = rw read there }
        ]

    added_counts : (k : ℕ) → k < 14 → count_of_kind k (with_entry n.handles (record { kind = kind; content = content })) ≡ live_count (get_or (set kinds kind (set (get_or kinds kind []) rep (Some (first_free n.handles)))) k [])
    added_counts k k_lt =
        let kind_within : kind < length kinds = omega (arith, was.kinds_count) in
        let more = count-with_entry (of_kind k) refl n.handles (record { kind = kind; content = content }) in
        elim (cases_eq k kind) [
          | inl same ↦
              let test : nat_eq kind k ≡ true = grind (arith, nat_tests) in
              let one : count_of_kind k (with_entry n.handles (record { kind = kind; content = content })) ≡ count_of_kind k n.handles + 1 = more ∙ ap (λ b. count_of_kind k n.handles + cond b 1 0) test in
              let filled : live_count (set (get_or kinds kind []) rep (Some (first_free n.handles))) ≡ live_count (get_or kinds kind []) + 1 = live-filled (get_or kinds kind []) rep (first_free n.handles) was_free in
              one ∙ ap (λ c. c + 1) (was.counts k k_lt ∙ ap (λ i. live_count (get_or kinds i [])) same) ∙ sym filled ∙ ap live_count (sym (places_same kinds kind _ k same kind_within))
          | inr other ↦
              let test : nat_eq kind k ≡ false = not_equal kind k (λ e. other (sym e)) in
              let none : count_of_kind k (with_entry n.handles (record { kind = kind; content = content })) ≡ count_of_kind k n.handles + 0 = more ∙ ap (λ b. count_of_kind k n.handles + cond b 1 0) test in
              none ∙ omega (arith, was.counts k k_lt) ∙ ap live_count (sym (places_other kinds kind _ k other))
        ]

    added_held : (file : ℕ) → file < length (more_open held (open_file content)) → get_or (more_open held (open_file content)) file 0 ≡ count_by (opens file) (with_entry n.handles (record { kind = kind; content = content }))
    added_held file within =
        let inside_old : file < length held = omega (arith, length-more held (open_file content)) in
        more-at held (open_file content) file inside_old ∙ ap (λ c. c + cond (is_file (open_file content) file) 1 0) (was.held_counts file inside_old) ∙ sym (count-with_entry (opens file) refl n.handles (record { kind = kind; content = content }))

    added_inside : (id : ℕ) (h : Handle) → get_or (with_entry n.handles (record { kind = kind; content = content })) id None ≡ Some h → is_inside (length (more_open held (open_file content))) h.content ≡ true
    added_inside id h e =
        rw (length-more held (open_file content))
        (elim (cases_eq id (first_free n.handles)) [
          | inl same ↦
              let is : h ≡ record { kind = kind; content = content } = some_is _ _ (sym e ∙ ap (λ i. get_or (with_entry n.handles (record { kind = kind; content = content })) i None) same ∙ get-with_entry_same n.handles _) in
              rw is inside
          | inr other ↦ was.inside id h (sym (get-with_entry_other n.handles _ id other) ∙ e)
        ])

    pub added : IsLive slots (record { most = n.most; handles = with_entry n.handles (record { kind = kind; content = content }) }) (set kinds kind (set (get_or kinds kind []) rep (Some (first_free n.handles)))) (set reps (first_free n.handles) rep) (more_open held (open_file content))
    added = record {
      kinds_count = length-set kinds kind _ ∙ was.kinds_count;
      most = was.most;
      few = was.few;
      reps_count = length-set reps _ rep ∙ was.reps_count;
      capacity = λ k k_lt. same_length kinds kind rep (Some (first_free n.handles)) k (omega (arith, was.kinds_count)) ∙ was.capacity k k_lt;
      there = added_there;
      counts = added_counts;
      held_counts = added_held;
      inside = added_inside;
    }

  -- ---- a handle stands for something else

  module _ (id : ℕ) (old : Handle) (content : Content) (there : get_or n.handles id None ≡ Some old) (inside : is_inside (length held) content ≡ true) where
    id_within : id < length n.handles
    id_within = some_within n.handles id (rw there refl)

    replaced_at : (i : ℕ) (h : Handle) → get_or (set n.handles id (Some (record { kind = old.kind; content = content }))) i None ≡ Some h → ((i ≡ id) × (h ≡ record { kind = old.kind; content = content })) ⊎ (get_or n.handles i None ≡ Some h)
    replaced_at i h e =
        elim (cases_eq i id) [
          | inl same ↦ inl (same, some_is _ _ (sym e ∙ ap (λ j. get_or (set n.handles id (Some (record { kind = old.kind; content = content }))) j None) same ∙ get_or-set_same n.handles id _ None id_within))
          | inr other ↦ inr (sym (get_or-set_other n.handles id i _ None other) ∙ e)
        ]

    replaced_there : (i : ℕ) (h : Handle) → get_or (set n.handles id (Some (record { kind = old.kind; content = content }))) i None ≡ Some h → IsThere kinds reps i h
    replaced_there i h e =
        elim (replaced_at i h e) [
          | inl p ↦
              let before = was.there id old there in
              let kind_is : h.kind ≡ old.kind = ap (λ x. x.kind) p.1 in
              record { kind = rw kind_is before.kind; entry = rw (kind_is, p.0) before.entry }
          | inr q ↦ was.there i h q
        ]

    replaced_counts : (k : ℕ) → k < 14 → count_of_kind k (set n.handles id (Some (record { kind = old.kind; content = content }))) ≡ live_count (get_or kinds k [])
    replaced_counts k lt =
        let moved = count-set (of_kind k) n.handles id old (Some (record { kind = old.kind; content = content })) there in
        omega (arith, moved, was.counts k lt)

    replaced_held : (file : ℕ) → file < length (more_open (less_open held (open_file old.content)) (open_file content)) → get_or (more_open (less_open held (open_file old.content)) (open_file content)) file 0 ≡ count_by (opens file) (set n.handles id (Some (record { kind = old.kind; content = content })))
    replaced_held file within =
        let len = length-less held (open_file old.content) in
        let inside_less : file < length (less_open held (open_file old.content)) = omega (arith, length-more (less_open held (open_file old.content)) (open_file content)) in
        let inside_old : file < length held = omega (arith, len) in
        let moved = count-set (opens file) n.handles id old (Some (record { kind = old.kind; content = content })) there in
        let at = count-at (opens file) n.handles id old there in
        omega (arith, moved, at, was.held_counts file inside_old, more-at (less_open held (open_file old.content)) (open_file content) file inside_less, less-at held (open_file old.content) file inside_old)

    pub replaced : IsLive slots (record { most = n.most; handles = set n.handles id (Some (record { kind = old.kind; content = content })) }) kinds reps (more_open (less_open held (open_file old.content)) (open_file content))
    replaced =
        let len : length (more_open (less_open held (open_file old.content)) (open_file content)) ≡ length held = length-more (less_open held (open_file old.content)) (open_file content) ∙ length-less held (open_file old.content) in
        record {
          kinds_count = was.kinds_count;
          most = was.most;
          few = was.few;
          reps_count = was.reps_count;
          capacity = was.capacity;
          there = replaced_there;
          counts = replaced_counts;
          held_counts = replaced_held;
          inside = λ i h e. rw len (elim (replaced_at i h e) [ inl p ↦ rw p.1 inside | inr q ↦ was.inside i h q ]);
        }

  -- ---- a handle is live no more

  module _ (id : ℕ) (old : Handle) (there : get_or n.handles id None ≡ Some old) where
    gone_within : id < length n.handles
    gone_within = some_within n.handles id (rw there refl)

    still : (i : ℕ) (h : Handle) → get_or (set n.handles id None) i None ≡ Some h → (i ≢ id) × (get_or n.handles i None ≡ Some h)
    still i h e =
        elim (cases_eq i id) [
          | inl same ↦
              let none : get_or (set n.handles id None) i None ≡ None = rw same (get_or-set_same n.handles id None None gone_within) in
              let clash : None ≡ Some h = sym none ∙ e in absurd cc
          | inr other ↦ (other, sym (get_or-set_other n.handles id i None None other) ∙ e)
        ]

    kind_inside : old.kind < length kinds
    kind_inside = omega (arith, in_kinds id old there, was.kinds_count)

    removed_there : (i : ℕ) (h : Handle) → get_or (set n.handles id None) i None ≡ Some h → IsThere (set kinds old.kind (set (get_or kinds old.kind []) (get_or reps id 0) None)) reps i h
    removed_there i h e =
        let before = was.there i h (still i h e).1 in
        let gone = was.there id old there in
        let entry : get_or (get_or (set kinds old.kind (set (get_or kinds old.kind []) (get_or reps id 0) None)) h.kind []) (get_or reps i 0) None ≡ Some i =
        elim (cases_eq h.kind old.kind) [
          | inl same ↦
              let apart : get_or reps i 0 ≢ get_or reps id 0 = λ eq.
              let here : get_or (get_or kinds old.kind []) (get_or reps id 0) None ≡ Some i = rw (← same, ← eq) before.entry in
              (still i h e).0 (some_is _ _ (sym here ∙ gone.entry)) in
              ap (λ ps. get_or ps (get_or reps i 0) None) (places_same kinds old.kind _ h.kind same kind_inside) ∙ get_or-set_other (get_or kinds old.kind []) (get_or reps id 0) (get_or reps i 0) None None apart ∙ (rw (← same) before.entry)
          | inr other ↦ ap (λ ps. get_or ps (get_or reps i 0) None) (places_other kinds old.kind _ h.kind other) ∙ before.entry
        ] in
        record { kind = before.kind; entry = entry }

    removed_counts : (k : ℕ) → k < 14 → count_of_kind k (set n.handles id None) ≡ live_count (get_or (set kinds old.kind (set (get_or kinds old.kind []) (get_or reps id 0) None)) k [])
    removed_counts k lt =
        let less = count-set (of_kind k) n.handles id old None there in
        let gone = was.there id old there in
        elim (cases_eq k old.kind) [
          | inl same ↦
              let test : nat_eq old.kind k ≡ true = grind (arith, nat_tests) in
              let one : cond {A = ℕ} (nat_eq old.kind k) 1 0 ≡ 1 = ap (λ b. cond b 1 0) test in
              let emptied : live_count (set (get_or kinds old.kind []) (get_or reps id 0) None) + 1 ≡ live_count (get_or kinds old.kind []) = live-emptied (get_or kinds old.kind []) (get_or reps id 0) id gone.entry in
              let counts : count_of_kind k n.handles ≡ live_count (get_or kinds old.kind []) = was.counts k lt ∙ ap (λ i. live_count (get_or kinds i [])) same in
              let left : count_of_kind k (set n.handles id None) ≡ live_count (set (get_or kinds old.kind []) (get_or reps id 0) None) = omega (arith, less, one, emptied, counts) in
              left ∙ ap live_count (sym (places_same kinds old.kind _ k same kind_inside))
          | inr other ↦
              let test : nat_eq old.kind k ≡ false = not_equal old.kind k (λ e. other (sym e)) in
              let none : cond {A = ℕ} (nat_eq old.kind k) 1 0 ≡ 0 = ap (λ b. cond b 1 0) test in
              let left : count_of_kind k (set n.handles id None) ≡ live_count (get_or kinds k []) = omega (arith, less, none, was.counts k lt) in
              left ∙ ap live_count (sym (places_other kinds old.kind _ k other))
        ]

    removed_held : (file : ℕ) → file < length (less_open held (open_file old.content)) → get_or (less_open held (open_file old.content)) file 0 ≡ count_by (opens file) (set n.handles id None)
    removed_held file within =
        let inside_old : file < length held = omega (arith, length-less held (open_file old.content)) in
        let less = count-set (opens file) n.handles id old None there in
        omega (arith, less, was.held_counts file inside_old, less-at held (open_file old.content) file inside_old)

    pub removed : IsLive slots (record { most = n.most; handles = set n.handles id None }) (set kinds old.kind (set (get_or kinds old.kind []) (get_or reps id 0) None)) reps (less_open held (open_file old.content))
    removed = record {
      kinds_count = length-set kinds old.kind _ ∙ was.kinds_count;
      most = was.most;
      few = was.few;
      reps_count = was.reps_count;
      capacity = λ k k_lt. same_length kinds old.kind (get_or reps id 0) None k kind_inside ∙ was.capacity k k_lt;
      there = removed_there;
      counts = removed_counts;
      held_counts = removed_held;
      inside = λ i h e. rw (length-less held (open_file old.content)) (was.inside i h (still i h e).1);
    }

-- ---- no handle is live

mul_none : (n : ℕ) → n * 0 ≡ 0
mul_none n = omega arith

none_live : (n : ℕ) → live_count {E = ℕ} (replicate n None) ≡ 0
none_live n = sum_by-replicate (λ o. cond (is_some o) 1 0) n None ∙ mul_none n

pub fresh : (slots files : ℕ) → slots < 2 ^ 16 → IsLive slots (record { most = 14 * slots; handles = [] }) (replicate 14 (replicate slots None)) (replicate (14 * slots) 0) (replicate files 0)
fresh slots files few = record {
  kinds_count = refl;
  most = omega arith;
  few = few;
  reps_count = length-replicate {A = ℕ} (14 * slots) 0;
  capacity = λ k lt. ap length (get_or-replicate 14 k (replicate slots None) [] lt) ∙ length-replicate slots None;
  there = λ id h e. let clash : None ≡ Some h = e in absurd cc;
  counts = λ k lt. sym (ap live_count (get_or-replicate 14 k (replicate slots None) [] lt) ∙ none_live slots);
  held_counts = λ file within. let len : length {A = ℕ} (replicate files 0) ≡ files = length-replicate files 0 in get_or-replicate files file 0 0 (omega (arith, len));
  inside = λ id h e. let clash : None ≡ Some h = e in absurd cc;
}
