-- What is done to the live handles is done to those of the definition.
use Rattle.std.proofs.Common.{◌≡◌, ℕ, zero, suc, ◌+◌, List, [], ◌∷◌, set, get_or, map, Option, Some, None, cond, option_map, refl, sym, ap, ◌∙◌}
use Rattle.std.proofs.lemmas.List.{map-set}
use Rattle.std.proofs.lemmas.List.Sums.{sum_by-cons}
use Rattle.tree_table.specs.Tables.{Forest}
use Rattle.reference_step.specs.Handles as reference
use Rattle.ref_rules.specs.declared.content.Content.{Content}
use Rattle.ref_rules.specs.declared.content.Content.TheVariants.{Host, Node, FileAt, EmptyIn, Discard, Always, Entries, ScratchRoot, ScratchEntries, ScratchFile, ScratchIn, ScratchOut}
use Rattle.ref_rules.specs.declared.content.Handle.{Handle}
use Rattle.ref_rules.specs.Lives.{of_kind, count_of_kind, opens, is_open, standing_for}
use Rattle.ref_answers.specs.Seen.{content_in, handle_in, live_in}

module _ {A B : Type 0} (g : A → B) where
  first_free-map : (ps : List (Option A)) → reference.first_free (map (option_map g) ps) ≡ reference.first_free ps
  first_free-map [] = refl
  first_free-map (None ∷ ps) = refl
  first_free-map (Some a ∷ ps) = ap suc (first_free-map ps)

  with_entry-map : (ps : List (Option A)) (a : A) → map (option_map g) (reference.with_entry ps a) ≡ reference.with_entry (map (option_map g) ps) (g a)
  with_entry-map [] a = refl
  with_entry-map (None ∷ ps) a = refl
  with_entry-map (Some x ∷ ps) a = ap (λ rest. Some (g x) ∷ rest) (with_entry-map ps a)

  get-map : (ps : List (Option A)) (n : ℕ) → get_or (map (option_map g) ps) n None ≡ option_map g (get_or ps n None)
  get-map [] n = refl
  get-map (p ∷ ps) zero = refl
  get-map (p ∷ ps) (suc n) = get-map ps n

-- the number of a new handle
pub seen_fresh_id : (f : Forest) (handles : List (Option Handle)) → reference.fresh_id (live_in f handles) ≡ reference.first_free handles
seen_fresh_id f handles = first_free-map (handle_in f) handles

-- a handle more
pub seen_with_handle : (f : Forest) (handles : List (Option Handle)) (kind : ℕ) (content : Content) → live_in f (reference.with_entry handles (record { kind = kind; content = content })) ≡ reference.with_handle (live_in f handles) kind (content_in f content)
seen_with_handle f handles kind content = with_entry-map (handle_in f) handles (record { kind = kind; content = content })

pub seen_handle_at : (f : Forest) (handles : List (Option Handle)) (id : ℕ) → reference.handle_at (live_in f handles) id ≡ option_map (handle_in f) (get_or handles id None)
seen_handle_at f handles id = get-map (handle_in f) handles id

-- a handle less
pub seen_without_handle : (f : Forest) (handles : List (Option Handle)) (id : ℕ) → live_in f (set handles id None) ≡ reference.without_handle (live_in f handles) id
seen_without_handle f handles id = map-set (option_map (handle_in f)) handles id None

-- a handle stands for something else
standing : (f : Forest) (content : Content) (h : Option Handle) → option_map (handle_in f) (option_map (standing_for content) h) ≡ option_map (reference.standing_for (content_in f content)) (option_map (handle_in f) h)
standing f content None = refl
standing f content (Some h) = refl

pub seen_with_content : (f : Forest) (handles : List (Option Handle)) (id : ℕ) (content : Content) → live_in f (set handles id (option_map (standing_for content) (get_or handles id None))) ≡ reference.with_content (live_in f handles) id (content_in f content)
seen_with_content f handles id content =
    map-set (option_map (handle_in f)) handles id _
    ∙ ap (λ h. set (live_in f handles) id h) (standing f content (get_or handles id None) ∙ ap (option_map (reference.standing_for (content_in f content))) (sym (seen_handle_at f handles id)))

-- how many handles are of a kind
same_kind : (f : Forest) (kind : ℕ) (h : Option Handle) → reference.is_of_kind kind (option_map (handle_in f) h) ≡ of_kind kind h
same_kind f kind None = refl
same_kind f kind (Some h) = refl

pub seen_of_kind : (f : Forest) (kind : ℕ) (handles : List (Option Handle)) → reference.live_of_kind kind (live_in f handles) ≡ count_of_kind kind handles
seen_of_kind f kind [] = refl
seen_of_kind f kind (h ∷ handles) =
    sum_by-cons (λ o. cond (reference.is_of_kind kind o) 1 0) (option_map (handle_in f) h) (live_in f handles)
    ∙ ap (λ b. cond b 1 0 + reference.live_of_kind kind (live_in f handles)) (same_kind f kind h)
    ∙ ap (λ n. cond (of_kind kind h) 1 0 + n) (seen_of_kind f kind handles)
    ∙ sym (sum_by-cons (λ o. cond (of_kind kind o) 1 0) h handles)

-- whether a scratch file is held
holds_same : (f : Forest) (file : ℕ) (c : Content) → reference.holds file (content_in f c) ≡ opens file (Some (record { kind = 0; content = c }))
holds_same f file (Host id) = refl
holds_same f file (Node node) = refl
holds_same f file (FileAt node place) = refl
holds_same f file EmptyIn = refl
holds_same f file Discard = refl
holds_same f file Always = refl
holds_same f file (Entries node place) = refl
holds_same f file ScratchRoot = refl
holds_same f file (ScratchEntries number) = refl
holds_same f file (ScratchFile number may_write) = refl
holds_same f file (ScratchIn number place) = refl
holds_same f file (ScratchOut number place) = refl

held_same : (f : Forest) (file : ℕ) (h : Option Handle) → reference.holds_open file (option_map (handle_in f) h) ≡ opens file h
held_same f file None = refl
held_same f file (Some h) = holds_same f file h.content

pub seen_is_held : (f : Forest) (handles : List (Option Handle)) (file : ℕ) → reference.is_held (live_in f handles) file ≡ is_open handles file
seen_is_held f [] file = refl
seen_is_held f (h ∷ handles) file = rw (held_same f file h, seen_is_held f handles file) refl
