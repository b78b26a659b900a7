-- Stores to which one item more of a kind was added.
use Rattle.std.proofs.Common.{◌≡◌, ℕ, ◌+◌, ◌<◌, List, [], ◌∷◌, ◌++◌, length, map, take, get_or, sym, ap, append_assoc, arith, ◌∙◌}
use Rattle.std.proofs.lemmas.List.{map_more, length-append, length-map, length-take-le}
use Rattle.core_memory.specs.Linear.{Linear}
use Rattle.core_store.specs.declared.value.CoreRef.{CoreRef}
use Rattle.core_store.specs.declared.value.CoreValue.{CoreValue}
use Rattle.core_store.specs.Table.{Entries}
use Rattle.core_store.specs.State.{State}

-- what was made of that many items, after what was there, and what is made of one more
pub made_more : {A B : Type 0} (f : A → B) (xs : List B) (ys : List A) (i : ℕ) (d : A) → i < length ys → (xs ++ map f (take i ys)) ++ f (get_or ys i d) ∷ [] ≡ xs ++ map f (take (i + 1) ys)
made_more f xs ys i d less =
    append_assoc xs (map f (take i ys)) (f (get_or ys i d) ∷ []) ∙ ap (λ zs. xs ++ zs) (sym (map_more f ys i d less))

-- how many there are then
pub grown_length : {A B : Type 0} (f : A → B) (xs : List B) (ys : List A) (i : ℕ) (zs : List B) → i < length ys → zs ≡ xs ++ map f (take i ys) → length zs ≡ length xs + i
grown_length f xs ys i zs less e =
    let taken : length (map f (take i ys)) ≡ i = length-map (take i ys) f ∙ length-take-le i ys (omega (arith, less)) in
    ap length e ∙ (length-append xs (map f (take i ys)) ∙ ap (λ (n : ℕ). length xs + n) taken)

module _ {A : Type 0} where
  pub tables_more : (f : A → Entries) (s t u : State) (ys : List A) (i : ℕ) (d : A) → i < length ys
      → t ≡ record s { tables = s.tables ++ map f (take i ys) } → u ≡ record t { tables = t.tables ++ f (get_or ys i d) ∷ [] } → u ≡ record s { tables = s.tables ++ map f (take (i + 1) ys) }
  tables_more f s t u ys i d less e h =
      h ∙ (ap (λ (x : State). record x { tables = x.tables ++ f (get_or ys i d) ∷ [] }) e ∙ ap (λ (xs : List Entries). record s { tables = xs }) (made_more f s.tables ys i d less))

  pub memories_more : (f : A → Linear) (s t u : State) (ys : List A) (i : ℕ) (d : A) → i < length ys
      → t ≡ record s { memories = s.memories ++ map f (take i ys) } → u ≡ record t { memories = t.memories ++ f (get_or ys i d) ∷ [] } → u ≡ record s { memories = s.memories ++ map f (take (i + 1) ys) }
  memories_more f s t u ys i d less e h =
      h ∙ (ap (λ (x : State). record x { memories = x.memories ++ f (get_or ys i d) ∷ [] }) e ∙ ap (λ (xs : List Linear). record s { memories = xs }) (made_more f s.memories ys i d less))

  pub globals_more : (f : A → CoreValue) (s t u : State) (ys : List A) (i : ℕ) (d : A) (v : CoreValue) → i < length ys → v ≡ f (get_or ys i d)
      → t ≡ record s { globals = s.globals ++ map f (take i ys) } → u ≡ record t { globals = t.globals ++ v ∷ [] } → u ≡ record s { globals = s.globals ++ map f (take (i + 1) ys) }
  globals_more f s t u ys i d v less is e h =
      h ∙ (ap (λ (x : State). record x { globals = x.globals ++ v ∷ [] }) e
      ∙ (ap (λ (w : CoreValue). record s { globals = (s.globals ++ map f (take i ys)) ++ w ∷ [] }) is ∙ ap (λ (xs : List CoreValue). record s { globals = xs }) (made_more f s.globals ys i d less)))

  pub segments_more : (f : A → List ℕ) (s t u : State) (ys : List A) (i : ℕ) (d : A) (v : List ℕ) → i < length ys → v ≡ f (get_or ys i d)
      → t ≡ record s { segments = s.segments ++ map f (take i ys) } → u ≡ record t { segments = t.segments ++ v ∷ [] } → u ≡ record s { segments = s.segments ++ map f (take (i + 1) ys) }
  segments_more f s t u ys i d v less is e h =
      h ∙ (ap (λ (x : State). record x { segments = x.segments ++ v ∷ [] }) e
      ∙ (ap (λ (w : List ℕ). record s { segments = (s.segments ++ map f (take i ys)) ++ w ∷ [] }) is ∙ ap (λ (xs : List (List ℕ)). record s { segments = xs }) (made_more f s.segments ys i d less)))

  pub elements_more : (f : A → List CoreRef) (s t u : State) (ys : List A) (i : ℕ) (d : A) (v : List CoreRef) → i < length ys → v ≡ f (get_or ys i d)
      → t ≡ record s { elements = s.elements ++ map f (take i ys) } → u ≡ record t { elements = t.elements ++ v ∷ [] } → u ≡ record s { elements = s.elements ++ map f (take (i + 1) ys) }
  elements_more f s t u ys i d v less is e h =
      h ∙ (ap (λ (x : State). record x { elements = x.elements ++ v ∷ [] }) e
      ∙ (ap (λ (w : List CoreRef). record s { elements = (s.elements ++ map f (take i ys)) ++ w ∷ [] }) is ∙ ap (λ (xs : List (List CoreRef)). record s { elements = xs }) (made_more f s.elements ys i d less)))
