-- Files that are there stay there by each change of the scratch folder.
use Rattle.std.proofs.Common.{◌≡◌, ◌≢◌, ℕ, zero, suc, Bool, true, false, List, [], ◌∷◌, set, get_or, length, Option, Some, None, refl, ap, sym, subst, ◌∙◌, ◌<◌, arith}
use Rattle.std.specs.Prelude.{◌==◌, IsSome, is_none, option_map, unwrap_or}
use Rattle.std.proofs.lemmas.List.{length-set}
use Rattle.std.proofs.lemmas.List.Quantifiers.{position-Some}
use Rattle.std.proofs.lemmas.Slice.Eq.{bytes_eq-Decides}
use Rattle.tree_table.specs.Paths.{Answer, At, Fails}
use Rattle.tree_table.specs.Scratches.{ScratchFile, ScratchMap, file_at, name_at, content_at, find_file, free_number, has_name, has_room, with_file, with_content, with_name, holding, called, created, removed, renamed, without_other, within_quota, sized, written, resized, overwritten}
use Rattle.reference_step.specs.Nodes.{TheFile, found_file, found_at}
use Rattle.reference_host.specs.Keeping.{KeepsFiles}

-- ---- a file that is put in place of another, or of none

module _ {A : Type 0} where
  there_set : (xs : List (Option A)) (n k : ℕ) (o : Option A) → (IsSome (get_or xs n None) → IsSome o) → IsSome (get_or xs k None) → IsSome (get_or (set xs n o) k None)
  there_set [] n k o put there = there
  there_set (x ∷ xs) zero zero o put there = put there
  there_set (x ∷ xs) zero (suc k) o put there = there
  there_set (x ∷ xs) (suc n) zero o put there = there
  there_set (x ∷ xs) (suc n) (suc k) o put there = there_set xs n k o put there

  there_other : (xs : List (Option A)) (n k : ℕ) (o : Option A) → k ≢ n → IsSome (get_or xs k None) → IsSome (get_or (set xs n o) k None)
  there_other [] n k o differ there = there
  there_other (x ∷ xs) zero zero o differ there = absurd (differ refl)
  there_other (x ∷ xs) zero (suc k) o differ there = there
  there_other (x ∷ xs) (suc n) zero o differ there = there
  there_other (x ∷ xs) (suc n) (suc k) o differ there = there_other xs n k o (λ e. differ (ap suc e)) there

  there_now : (xs : List (Option A)) (n : ℕ) (x : A) → IsSome (get_or xs n None) → IsSome (get_or (set xs n (Some x)) n None)
  there_now xs n x there = there_set xs n n (Some x) (λ t. refl) there

  free_now : (xs : List (Option A)) (n : ℕ) (x : A) → n < length xs → IsSome (get_or (set xs n (Some x)) n None)
  free_now [] n x less = absurd (omega (arith, less))
  free_now (y ∷ xs) zero x less = refl
  free_now (y ∷ xs) (suc n) x less = free_now xs n x (omega (arith, less))

  mapped : {B : Type 0} (g : A → B) (o : Option A) → IsSome o → IsSome (option_map g o)
  mapped g None there = there
  mapped g (Some x) there = refl

module _ (held : ℕ → Bool) (m : ScratchMap) where
  pub kept_self : KeepsFiles held m m
  kept_self = record { count = refl; kept = λ n h there. there }

  kept_put : (n : ℕ) (o : Option ScratchFile) → (IsSome (file_at m n) → IsSome o) → KeepsFiles held m (with_file m n o)
  kept_put n o put = record { count = length-set m.files n o; kept = λ k h there. there_set m.files n k o put there }

  pub kept_content : (n : ℕ) (c : List ℕ) → KeepsFiles held m (with_content m n c)
  kept_content n c = kept_put n (option_map (holding c) (file_at m n)) (mapped (holding c) (file_at m n))

  pub kept_created : (n : ℕ) (name : List ℕ) → KeepsFiles held m (created m n name)
  kept_created n name = kept_put n (Some (record { name = name; content = [] })) (λ t. refl)

  pub kept_name : (n : ℕ) (name : List ℕ) → KeepsFiles held m (with_name m n name)
  kept_name n name = kept_put n (option_map (called name) (file_at m n)) (mapped (called name) (file_at m n))

  other_held : (n k : ℕ) → held n ≡ false → held k ≡ true → k ≢ n
  other_held n k free h e = let clash : true ≡ false = sym h ∙ ap held e ∙ free in cc

  pub kept_removed : (n : ℕ) → held n ≡ false → KeepsFiles held m (removed m n)
  kept_removed n free = record { count = length-set m.files n None; kept = λ k h there. there_other m.files n k None (other_held n k free h) there }

  kept_quota : (b : Bool) (m1 m2 : ScratchMap) → within_quota b m1 ≡ Some m2 → KeepsFiles held m m1 → KeepsFiles held m m2
  kept_quota true m1 m2 e k = let same : m1 ≡ m2 = cc in subst (KeepsFiles held m) same k
  kept_quota false m1 m2 e k = absurd (cc)

  pub kept_sized : (n len : ℕ) (new : ScratchMap) → sized m n len ≡ Some new → KeepsFiles held m new
  kept_sized n len new e = kept_quota (has_room m n len) (with_content m n (resized (content_at m n) len)) new e (kept_content n (resized (content_at m n) len))

  pub kept_written : (n at : ℕ) (bytes : List ℕ) (new : ScratchMap) → written m n at bytes ≡ Some new → KeepsFiles held m new
  kept_written n at [] new e = let same : m ≡ new = cc in subst (KeepsFiles held m) same kept_self
  kept_written n at (b ∷ bytes) new e = kept_quota _ (with_content m n (overwritten (content_at m n) at (b ∷ bytes))) new e (kept_content n (overwritten (content_at m n) at (b ∷ bytes)))

kept_then : (held : ℕ → Bool) (a b c : ScratchMap) → KeepsFiles held a b → KeepsFiles held b c → KeepsFiles held a c
kept_then held a b c p q = record { count = q.count ∙ p.count; kept = λ n h there. q.kept n h (p.kept n h there) }

-- a file that another has the name of, if any, is not held
kept_without : (held : ℕ → Bool) (m : ScratchMap) (n : ℕ) (o : Option ℕ) → ((k : ℕ) → o ≡ Some k → held k ≡ false) → KeepsFiles held m (without_other m n o)
kept_without held m n None free = kept_self held m
kept_without held m n (Some k) free = by (k == n) refl
  where
    by : (b : Bool) → (k == n) ≡ b → KeepsFiles held m (without_other m n (Some k))
    by true is = rw is (kept_self held m)
    by false is = rw is (kept_removed held m k (free k refl))

pub kept_renamed : (held : ℕ → Bool) (m : ScratchMap) (n : ℕ) (name : List ℕ) → ((k : ℕ) → find_file m name ≡ Some k → held k ≡ false) → KeepsFiles held m (renamed m n name)
kept_renamed held m n name free =
    let without = without_other m n (find_file m name) in
    kept_then held m without (with_name without n name) (kept_without held m n (find_file m name) free) (kept_name held without n name)

-- ---- a file to which a text leads is found by its name

named : (name : List ℕ) (o : Option ScratchFile) → has_name name o ≡ true → option_map (λ f. f.name) o ≡ Some name
named name None e = cc
named name (Some f) e = ap Some ((bytes_eq-Decides f.name name).0 e)

is_there : (name : List ℕ) (o : Option ScratchFile) → has_name name o ≡ true → IsSome o
is_there name None e = cc
is_there name (Some f) e = refl

found_number : (o : Option ℕ) (k : ℕ) → found_file o ≡ TheFile k → o ≡ Some k
found_number None k e = cc
found_number (Some n) k e = let same : n ≡ k = cc in ap Some same

module _ (m : ScratchMap) (k : ℕ) where
  by_answer : (a : Answer) → found_at m a ≡ TheFile k → (name : List ℕ) × (find_file m name ≡ Some k)
  by_answer (Fails e) is = cc
  by_answer (At []) is = cc
  by_answer (At (name ∷ above)) is = (name, found_number (find_file m name) k is)

  pub led_there : (a : Answer) → found_at m a ≡ TheFile k → IsSome (file_at m k)
  led_there a is =
      let by = by_answer a is in
      is_there by.0 (file_at m k) (position-Some (has_name by.0) m.files k None by.1).1

  pub led_name : (a : Answer) → found_at m a ≡ TheFile k → find_file m (unwrap_or (name_at m k) []) ≡ Some k
  led_name a is =
      let by = by_answer a is in
      let same : name_at m k ≡ Some by.0 = named by.0 (file_at m k) (position-Some (has_name by.0) m.files k None by.1).1 in
      ap (λ o. find_file m (unwrap_or o [])) same ∙ by.1

-- a file that is cut stays there, and a new one is there
pub stays_there : (m : ScratchMap) (n : ℕ) (c : List ℕ) → IsSome (file_at m n) → IsSome (file_at (with_content m n c) n)
stays_there m n c there = (kept_content (λ k. true) m n c).kept n refl there

pub made_there : (m : ScratchMap) (name : List ℕ) (n : ℕ) → free_number m ≡ Some n → IsSome (file_at (created m n name) n)
made_there m name n e = free_now m.files n (record { name = name; content = [] }) (position-Some is_none m.files n None e).0
