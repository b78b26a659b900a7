-- Steps whose first requests are answered.
use Rattle.std.proofs.Common.{◌≡◌, ℕ, zero, suc, ◌+◌, ◌-◌, ◌<◌, ◌≤◌, Bool, true, false, List, [], ◌∷◌, ◌++◌, length, map, Some, None, refl, sym, ap, subst, ◌∙◌, arith, append_assoc}
use Rattle.std.specs.Prelude.{slice_index, nat_lt, if◌then◌else◌}
use Rattle.std.proofs.lemmas.Bool.Decides.{nat_tests}
use Rattle.std.proofs.Math.ListN.{get_or-append}
use Rattle.std.proofs.Math.Seq.{get_or-append_right}
use Rattle.core_memory.specs.Number.{bytes_of}
use Rattle.core_store.specs.Words.{words}
use Rattle.abi_layout.specs.Storing.{Base, Target, Answer, Step, Ask, Write, Place, Refuse, FlatItem, Number, AnswerTo}
use Rattle.abi_store.specs.Plan.{base_left, place_of, settled, settled_flat, settled_flats}
use Rattle.comp_worlds.specs.Acts.{Next, Act, ◌>>◌, gives, traps}
use Rattle.comp_worlds.specs.Groups.{Nesting, Options, Group, World, Ports}
use Rattle.comp_worlds.specs.Locals.{is_granted, writes, base_of, flat_word}
use Rattle.comp_worlds.specs.Calls.{on, Run, asks_for, stores}
use Rattle.comp_frames.specs.Within.{InRoom, StayWithin}
use Rattle.comp_frames.specs.Left.{finishes}
use Rattle.comp_frames.proofs.Acts.{after_both}

-- ---- answers that come first

known_or_later : (given behind : List ℕ) (k : ℕ) (b : Bool) → nat_lt k (length given) ≡ b → slice_index (given ++ behind) k ≡ (if b then slice_index given k else slice_index behind (k - length given))
known_or_later given behind k true e = let lt : k < length given = grind (arith, nat_tests) in get_or-append given behind 0 k lt
known_or_later given behind k false e = let le : length given ≤ k = grind (arith, nat_tests) in get_or-append_right given behind k 0 le

word_after : (given behind : List ℕ) (k : ℕ) (b : Bool) → (if b then slice_index given k else slice_index behind (k - length given)) ≡ flat_word behind (if b then Number (slice_index given k) else AnswerTo (k - length given))
word_after given behind k true = refl
word_after given behind k false = refl

word_settled : (given behind : List ℕ) (x : FlatItem) → flat_word (given ++ behind) x ≡ flat_word behind (settled_flat given x)
word_settled given behind (Number n) = refl
word_settled given behind (AnswerTo k) = known_or_later given behind k (nat_lt k (length given)) refl ∙ word_after given behind k (nat_lt k (length given))

words_settled : (given behind : List ℕ) (xs : List FlatItem) → map (flat_word (given ++ behind)) xs ≡ map (flat_word behind) (settled_flats given xs)
words_settled given behind [] = refl
words_settled given behind (x ∷ xs) = ap (λ (n : ℕ). n ∷ map (flat_word (given ++ behind)) xs) (word_settled given behind x) ∙ ap (λ (ns : List ℕ). flat_word behind (settled_flat given x) ∷ ns) (words_settled given behind xs)

place_after : (target : ℕ) (given behind : List ℕ) (k offset : ℕ) (b : Bool) →
    (if b then slice_index given k else slice_index behind (k - length given)) + offset ≡ base_of 0 behind (if b then Target else Answer (k - length given)) + ((if b then slice_index given k else 0) + offset)
place_after target given behind k offset true = omega arith
place_after target given behind k offset false = omega arith

place_settled : (target : ℕ) (given behind : List ℕ) (b : Base) (offset : ℕ) → base_of target (given ++ behind) b + offset ≡ base_of 0 behind (base_left given b) + (place_of target given b + offset)
place_settled target given behind Target offset = omega arith
place_settled target given behind (Answer k) offset = ap (λ n. n + offset) (known_or_later given behind k (nat_lt k (length given)) refl) ∙ place_after target given behind k offset (nat_lt k (length given))

module _ {S : Type 0} (G : Group) (p : Ports S) (run : Run S) (d : Nesting) (k : ℕ) (options : Options) where
  -- what is put at a place, and then the steps after it
  puts : ℕ → List ℕ → ℕ → List ℕ → List Step → List FlatItem → Act (World S) (List ℕ)
  puts at bytes target answers steps flats = (on k (writes options at bytes) >> λ _. stores G p run d k options target answers steps) >> λ all. gives (map (flat_word all) flats)

  -- one step, and the others
  does : Step → ℕ → List ℕ → List Step → List FlatItem → Act (World S) (List ℕ)
  does x target answers steps flats = finishes G p run d k options target answers (record { steps = x ∷ steps; flats = flats })

  place_does : (target : ℕ) (given behind : List ℕ) (b : Base) (offset request : ℕ) (c : Bool) (steps : List Step) (flats : List FlatItem) (w : World S) (n : ℕ) →
      puts (base_of 0 behind (base_left given b) + (place_of target given b + offset)) (bytes_of 4 (if c then slice_index given request else slice_index behind (request - length given))) 0 behind steps flats w n
      ≡ does (if c then Write (base_left given b) (place_of target given b + offset) (bytes_of 4 (slice_index given request)) else Place (base_left given b) (place_of target given b + offset) (request - length given)) 0 behind steps flats w n
  unfolding puts does
  place_does target given behind b offset request true steps flats w n = refl
  place_does target given behind b offset request false steps flats w n = refl

  none_settles : (target : ℕ) (given behind : List ℕ) (flats : List FlatItem) (w : World S) (n : ℕ) →
      (gives (given ++ behind) >> λ all. gives (map (flat_word all) flats)) w n ≡ (gives behind >> λ all. gives (map (flat_word all) (settled_flats given flats))) w n
  unfolding ◌>>◌ gives
  none_settles target given behind flats w n = ap (λ (ws : List ℕ). Next [] n w ws) (words_settled given behind flats)

  refused_settles : (given : List ℕ) (flats : List FlatItem) (w : World S) (n : ℕ) → (traps >> λ all. gives (map (flat_word all) flats)) w n ≡ (traps >> λ all. gives (map (flat_word all) (settled_flats given flats))) w n
  unfolding ◌>>◌ traps
  refused_settles given flats w n = refl

  pub settles : (target : ℕ) (given behind : List ℕ) (steps : List Step) (flats : List FlatItem) (w : World S) (n : ℕ) →
      finishes G p run d k options target (given ++ behind) (record { steps = steps; flats = flats }) w n ≡ finishes G p run d k options 0 behind (record { steps = settled target given steps; flats = settled_flats given flats }) w n
  unfolding puts does
  settles target given behind [] flats w n = none_settles target given behind flats w n
  settles target given behind (Ask align len ∷ steps) flats w n =
      after_both (asks_for G p run d k options.realloc align len) _ _ _ _ w n (λ results w' l.
      after_both (on k (is_granted options align len (words results))) _ _ _ _ w' l (λ at w'' l'.
      ap (λ all. finishes G p run d k options target all (record { steps = steps; flats = flats }) w'' l') (append_assoc given behind (at ∷ [])) ∙ settles target given (behind ++ at ∷ []) steps flats w'' l'))
  settles target given behind (Write b offset bytes ∷ steps) flats w n =
      ap (λ at. puts at bytes target (given ++ behind) steps flats w n) (place_settled target given behind b offset)
      ∙ after_both (on k (writes options (base_of 0 behind (base_left given b) + (place_of target given b + offset)) bytes)) _ _ _ _ w n (λ _ w' l. settles target given behind steps flats w' l)
  settles target given behind (Place b offset request ∷ steps) flats w n =
      ap (λ at. puts at (bytes_of 4 (slice_index (given ++ behind) request)) target (given ++ behind) steps flats w n) (place_settled target given behind b offset)
      ∙ ap (λ x. puts (base_of 0 behind (base_left given b) + (place_of target given b + offset)) (bytes_of 4 x) target (given ++ behind) steps flats w n) (known_or_later given behind request (nat_lt request (length given)) refl)
      ∙ after_both (on k (writes options (base_of 0 behind (base_left given b) + (place_of target given b + offset)) (bytes_of 4 (if nat_lt request (length given) then slice_index given request else slice_index behind (request - length given))))) _ _ _ _ w n (λ _ w' l. settles target given behind steps flats w' l)
      ∙ place_does target given behind b offset request (nat_lt request (length given)) (settled target given steps) (settled_flats given flats) w n
  settles target given behind (Refuse ∷ steps) flats w n = refused_settles given flats w n

-- ---- the rooms of what is left where a request is answered

room_settled : (memory more len at : ℕ) (rooms : List ℕ) (b : Base) (offset n : ℕ) → memory ≤ more → at + len ≤ more → InRoom (Some memory) (len ∷ rooms) b (offset + n) → InRoom (Some more) rooms (base_left (at ∷ []) b) (place_of 0 (at ∷ []) b + offset + n)
room_settled memory more len at rooms Target offset n grows fits h = omega arith
room_settled memory more len at rooms (Answer zero) offset n grows fits h = omega (arith, h.1)
room_settled memory more len at rooms (Answer (suc k)) offset n grows fits h = answer (nat_lt (suc k) 1) refl
  where
    answer : (c : Bool) → nat_lt (suc k) 1 ≡ c → InRoom (Some more) rooms (if c then Target else Answer (suc k - 1)) ((if c then slice_index (at ∷ []) (suc k) else 0) + offset + n)
    answer true e = absurd (let no : suc k < 1 = grind (arith, nat_tests) in let never : ⊥ = omega arith in never)
    answer false e =
        let same : suc k - 1 ≡ k = omega arith in
        let below : k < length rooms = omega (arith, h.0) in
        let end : 0 + offset + n ≤ slice_index rooms k = omega (arith, h.1) in
        subst (λ j. (j < length rooms) × (0 + offset + n ≤ slice_index rooms j)) (sym same) (below, end)

place_granted : (memory more len at : ℕ) (rooms : List ℕ) (b : Base) (offset r : ℕ) (xs : List Step) → memory ≤ more → at + len ≤ more → InRoom (Some memory) (len ∷ rooms) b (offset + 4) → suc r < length (len ∷ rooms) →
    StayWithin (Some more) rooms (settled 0 (at ∷ []) xs) → (c : Bool) → nat_lt (suc r) 1 ≡ c →
    StayWithin (Some more) rooms ((if c then Write (base_left (at ∷ []) b) (place_of 0 (at ∷ []) b + offset) (bytes_of 4 (slice_index (at ∷ []) (suc r))) else Place (base_left (at ∷ []) b) (place_of 0 (at ∷ []) b + offset) (suc r - 1)) ∷ settled 0 (at ∷ []) xs)
place_granted memory more len at rooms b offset r xs grows fits h below rest true e = absurd (let no : suc r < 1 = grind (arith, nat_tests) in let never : ⊥ = omega arith in never)
place_granted memory more len at rooms b offset r xs grows fits h below rest false e = (room_settled memory more len at rooms b offset 4 grows fits h, omega arith, rest)

pub granted_within : (memory more len at : ℕ) (rooms : List ℕ) (xs : List Step) → memory ≤ more → at + len ≤ more → StayWithin (Some memory) (len ∷ rooms) xs → StayWithin (Some more) rooms (settled 0 (at ∷ []) xs)
granted_within memory more len at rooms [] grows fits h = tt
granted_within memory more len at rooms (Ask align size ∷ xs) grows fits h = granted_within memory more len at (rooms ++ size ∷ []) xs grows fits h
granted_within memory more len at rooms (Write b offset bytes ∷ xs) grows fits h = (room_settled memory more len at rooms b offset (length bytes) grows fits h.0, granted_within memory more len at rooms xs grows fits h.1)
granted_within memory more len at rooms (Place b offset zero ∷ xs) grows fits h = (room_settled memory more len at rooms b offset 4 grows fits h.0, granted_within memory more len at rooms xs grows fits h.2)
granted_within memory more len at rooms (Place b offset (suc r) ∷ xs) grows fits h = place_granted memory more len at rooms b offset r xs grows fits h.0 h.1 (granted_within memory more len at rooms xs grows fits h.2) (nat_lt (suc r) 1) refl
granted_within memory more len at rooms (Refuse ∷ xs) grows fits h = tt

-- ---- nothing goes to a place of the caller's

same_base : (rooms : List ℕ) (target other : ℕ) (behind : List ℕ) (b : Base) (offset end : ℕ) → InRoom None rooms b end → base_of target behind b + offset ≡ base_of other behind b + offset
same_base rooms target other behind Target offset end h = absurd h
same_base rooms target other behind (Answer k) offset end h = refl

module _ {S : Type 0} (G : Group) (p : Ports S) (run : Run S) (d : Nesting) (k : ℕ) (options : Options) where
  puts_to : ℕ → List ℕ → ℕ → List ℕ → List Step → List FlatItem → Act (World S) (List ℕ)
  puts_to at bytes target answers steps flats = (on k (writes options at bytes) >> λ _. stores G p run d k options target answers steps) >> λ all. gives (map (flat_word all) flats)

  pub targets_alike : (rooms : List ℕ) (target other : ℕ) (behind : List ℕ) (steps : List Step) (flats : List FlatItem) (w : World S) (n : ℕ) → StayWithin None rooms steps →
      finishes G p run d k options target behind (record { steps = steps; flats = flats }) w n ≡ finishes G p run d k options other behind (record { steps = steps; flats = flats }) w n
  unfolding puts_to
  targets_alike rooms target other behind [] flats w n h = refl
  targets_alike rooms target other behind (Ask align len ∷ steps) flats w n h =
      after_both (asks_for G p run d k options.realloc align len) _ _ _ _ w n (λ results w' l.
      after_both (on k (is_granted options align len (words results))) _ _ _ _ w' l (λ at w'' l'. targets_alike (rooms ++ len ∷ []) target other (behind ++ at ∷ []) steps flats w'' l' h))
  targets_alike rooms target other behind (Write b offset bytes ∷ steps) flats w n h =
      ap (λ at. puts_to at bytes target behind steps flats w n) (same_base rooms target other behind b offset _ h.0)
      ∙ after_both (on k (writes options (base_of other behind b + offset) bytes)) _ _ _ _ w n (λ _ w' l. targets_alike rooms target other behind steps flats w' l h.1)
  targets_alike rooms target other behind (Place b offset request ∷ steps) flats w n h =
      ap (λ at. puts_to at (bytes_of 4 (slice_index behind request)) target behind steps flats w n) (same_base rooms target other behind b offset _ h.0)
      ∙ after_both (on k (writes options (base_of other behind b + offset) (bytes_of 4 (slice_index behind request)))) _ _ _ _ w n (λ _ w' l. targets_alike rooms target other behind steps flats w' l h.2)
  targets_alike rooms target other behind (Refuse ∷ steps) flats w n h = refl
