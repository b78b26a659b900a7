-- What a map of files says of the entries and bytes after it.
use Rattle.std.proofs.Common.{◌≡◌, ℕ, zero, suc, ◌+◌, ◌*◌, ◌-◌, ◌≤◌, ◌<◌, ◌^◌, refl, sym, ap, subst, ◌∙◌, List, [], ◌∷◌, ◌++◌, length, take, drop, set, get_or, Option, Some, None, Bool, true, false, ◌≢◌, rules, arith}
use Rattle.std.specs.Prelude.{IsSome, nat_le, is_none, position, ◌==◌, max, replicate, option_map}
use Rattle.std.specs.Option.{option_map_or}
use Rattle.std.specs.List.{splice}
use Rattle.std.proofs.lemmas.List.Quantifiers.{position-Some}
use Rattle.std.proofs.lemmas.List.{length-drop, length-take-le, length-set, get_or-set_same, length-append, length-replicate}
use Rattle.tree_table.specs.Scratches.{ScratchFile, ScratchMap, blocks_of, file_blocks, use_of, file_at, content_at, name_at, has_room, with_content, resized, overwritten, grown, removed, holding, written, called, created, with_name, without_other}
use Rattle.overlay_tree.specs.Pieces.{Entry, entry_blocks, blocks_in, piece_of, pieces, map_of, len_of, with_len, is_named, IsKept}
use Rattle.overlay_tree.proofs.PieceLemmas.{pieces_get, length_pieces, blocks_split, use_pieces, use_set, file_blocks_of, blocks_set, within_blocks, len_within, pieces_set, blocks_grow, name_piece}
use Rattle.overlay_tree.proofs.ResizeLemmas.{resized_grown}
use Rattle.overlay_tree.proofs.ReplaceLemmas.{content_is}

-- ---- live files

some_piece : (o : Option Entry) (bs : List ℕ) → IsSome (piece_of o bs) → IsSome o
some_piece None bs h = h
some_piece (Some e) bs h = h

pub live_entry : (es : List (Option Entry)) (bs : List ℕ) (n : ℕ) → IsSome (get_or (pieces es bs) n None) → IsSome (get_or es n None)
live_entry es bs n h = some_piece (get_or es n None) _ (subst (λ o. IsSome o) (pieces_get es bs n) h)

pub live_number : (es : List (Option Entry)) (n : ℕ) → IsSome (get_or es n None) → n < length es
live_number [] n h = absurd (no_some h)
  where
    no_some : IsSome {T = Entry} None → ⊥
    no_some h = cc
live_number (x ∷ es) zero h = omega arith
live_number (x ∷ es) (suc n) h = omega (arith, live_number es n h)

pub live_in : (m : ScratchMap) (b : ℕ) (es : List (Option Entry)) (bs : List ℕ) (n : ℕ) → map_of b es bs ≡ m → IsSome (file_at m n) → IsSome (get_or es n None)
live_in m b es bs n e h = live_entry es bs n (subst (λ x. IsSome (file_at x n)) (sym e) h)

pub numbered_in : (m : ScratchMap) (b : ℕ) (es : List (Option Entry)) (bs : List ℕ) (n : ℕ) → map_of b es bs ≡ m → IsSome (file_at m n) → n < length es
numbered_in m b es bs n e h = live_number es n (live_in m b es bs n e h)

-- ---- room

pub room_fits : (b : ℕ) (es : List (Option Entry)) (bs : List ℕ) (n len : ℕ) → IsKept b es bs → n < length es → has_room (map_of b es bs) n len ≡ true → blocks_in es + blocks_of len ≤ b + entry_blocks (get_or es n None)
room_fits b es bs n len kept lt fits_it =
    let files = pieces es bs in
    let start = blocks_in (take n es) * 4096 in
    let split = blocks_split es n lt in
    let fits : blocks_in es * 4096 ≤ length bs = omega (arith, kept.quota, kept.within) in
    let enough : entry_blocks (get_or es n None) * 4096 ≤ length (drop start bs) = omega (arith, length_drop start bs, split, fits) in
    let used = use_pieces es bs fits in
    let mine : file_blocks (get_or files n None) ≡ entry_blocks (get_or es n None) = ap file_blocks (pieces_get es bs n) ∙ file_blocks_of (get_or es n None) (drop start bs) enough in
    let without = use_set files n None (omega (arith, lt, length_pieces es bs)) in
    let within : use_of (set files n None) + blocks_of len ≤ b = le_true (use_of (set files n None) + blocks_of len) b fits_it in
    omega (arith, within, without, mine, used)
  where
    le_true : (m n : ℕ) → nat_le m n ≡ true → m ≤ n
    le_true m n e = grind (arith, e)

    length_drop : (k : ℕ) (xs : List ℕ) → length (drop k xs) ≡ length xs - k
    length_drop zero xs = omega arith
    length_drop (suc k) [] = omega arith
    length_drop (suc k) (x ∷ xs) = omega (arith, length_drop k xs)

-- ---- lengths

pub size_in : (b : ℕ) (es : List (Option Entry)) (bs : List ℕ) (n : ℕ) → IsKept b es bs → n < length es → len_of (get_or es n None) ≡ length (content_at (map_of b es bs) n)
size_in b es bs n kept lt =
    let start = blocks_in (take n es) * 4096 in
    let enough : len_of (get_or es n None) ≤ length (drop start bs) = omega (arith, length-drop start bs, blocks_split es n lt, kept.quota, kept.within, len_within (get_or es n None)) in
    sym (ap length (content_is es bs n b) ∙ length-take-le (len_of (get_or es n None)) (drop start bs) enough)

-- ---- what is kept

entry_blocks_with : (len : ℕ) (o : Option Entry) → IsSome o → entry_blocks (with_len len o) ≡ blocks_of len
entry_blocks_with len None h = absurd (no_some h)
  where
    no_some : IsSome {T = Entry} None → ⊥
    no_some h = cc
entry_blocks_with len (Some e) h = refl

pub kept_resized : (b : ℕ) (es fs : List (Option Entry)) (bs cs : List ℕ) (n len : ℕ) → IsKept b es bs → n < length es → IsSome (get_or es n None) → blocks_in es + blocks_of len ≤ b + entry_blocks (get_or es n None)
    → fs ≡ set es n (with_len len (get_or es n None)) → length cs ≡ length bs → IsKept b fs cs
kept_resized b es fs bs cs n len kept lt live room is_fs is_cs = record {
  quota = is_cs ∙ kept.quota;
  within = omega (arith, ap blocks_in is_fs, blocks_set es n (with_len len (get_or es n None)) lt, entry_blocks_with len (get_or es n None) live, room);
  few = kept.few;
  numbered = omega (arith, ap length is_fs, length-set es n (with_len len (get_or es n None)), kept.numbered);
}

-- an entry that takes no more blocks
pub kept_put : (b : ℕ) (es fs : List (Option Entry)) (bs : List ℕ) (n : ℕ) (e : Option Entry) → IsKept b es bs → n < length es → entry_blocks e ≤ entry_blocks (get_or es n None) → fs ≡ set es n e → IsKept b fs bs
kept_put b es fs bs n e kept lt less is_fs = record {
  quota = kept.quota;
  within = omega (arith, ap blocks_in is_fs, blocks_set es n e lt, less, kept.within);
  few = kept.few;
  numbered = omega (arith, ap length is_fs, length-set es n e, kept.numbered);
}

-- an entry that takes as many blocks: the other files stay
pub put_in : (b : ℕ) (es fs : List (Option Entry)) (bs : List ℕ) (n : ℕ) (e : Option Entry) → n < length es → entry_blocks e ≡ entry_blocks (get_or es n None) → fs ≡ set es n e
    → map_of b fs bs ≡ record (map_of b es bs) { files = set (pieces es bs) n (piece_of e (drop (blocks_in (take n es) * 4096) bs)) }
put_in b es fs bs n e lt same is_fs =
    let rest = blocks_in (drop (suc n) es) * 4096 in
    let start = blocks_in (take n es) * 4096 in
    let all = pieces_set es bs bs n e lt refl (ap (λ k. take rest (drop (k * 4096) (drop start bs))) same) in
    ap (λ x. map_of b x bs) is_fs ∙ ap (λ f. record (map_of b es bs) { files = f }) all

-- a free number
free_is_none : (o : Option Entry) → is_none o ≡ true → o ≡ None
free_is_none None e = refl
free_is_none (Some x) e = absurd (cc)

pub set_twice : {A : Type 0} (xs : List A) (n : ℕ) (x y : A) → set (set xs n x) n y ≡ set xs n y
set_twice [] n x y = refl
set_twice (z ∷ xs) zero x y = refl
set_twice (z ∷ xs) (suc n) x y = ap (λ r. z ∷ r) (set_twice xs n x y)

-- a file of no bytes that is taken away
pub cleared_map : (b : ℕ) (es : List (Option Entry)) (bs cs : List ℕ) (n : ℕ) (fs gs : List (Option Entry)) → n < length es → IsSome (get_or es n None)
    → fs ≡ set es n (with_len 0 (get_or es n None)) → gs ≡ set fs n None
    → map_of b fs cs ≡ with_content (map_of b es bs) n (resized (content_at (map_of b es bs) n) 0)
    → map_of b gs cs ≡ removed (map_of b es bs) n
cleared_map b es bs cs n fs gs lt live is_fs is_gs step =
    let same : entry_blocks (get_or fs n None) ≡ 0 = ap (λ x. entry_blocks (get_or x n None)) is_fs ∙ ap entry_blocks (get_or-set_same es n (with_len 0 (get_or es n None)) None lt) ∙ entry_blocks_with 0 (get_or es n None) live in
    let there : n < length fs = omega (arith, ap length is_fs, length-set es n (with_len 0 (get_or es n None)), lt) in
    let gone = put_in b fs gs cs n None there (sym same) is_gs in
    let files : pieces fs cs ≡ set (pieces es bs) n _ = ap (λ m. m.files) step in
    gone ∙ ap (λ f. record (map_of b es bs) { files = set f n None }) files ∙ ap (λ f. record (map_of b es bs) { files = f }) (set_twice (pieces es bs) n _ None)

pub name_in : (m : ScratchMap) (b : ℕ) (es : List (Option Entry)) (bs : List ℕ) (n : ℕ) → map_of b es bs ≡ m → name_at m n ≡ option_map (λ e. e.name) (get_or es n None)
name_in m b es bs n e = ap (λ x. name_at x n) (sym e) ∙ ap (λ f. option_map (λ g. g.name) f) (pieces_get es bs n) ∙ name_piece (get_or es n None) (drop (blocks_in (take n es) * 4096) bs)

-- ---- writing, on maps alone

le_true : (m n : ℕ) → nat_le m n ≡ true → m ≤ n
le_true m n e = grind (arith, e)

false_more : (k b m n : ℕ) → m ≤ n → nat_le (k + blocks_of m) b ≡ false → nat_le (k + blocks_of n) b ≡ false
false_more k b m n h e = grind (arith, e, blocks_grow m n h)

pub no_room_more : (m : ScratchMap) (n len more : ℕ) → len ≤ more → has_room m n len ≡ false → has_room m n more ≡ false
no_room_more m n len more h e = false_more (use_of (set m.files n None)) m.blocks len more h e

pub written_none : (m : ScratchMap) (n at len : ℕ) (bytes : List ℕ) → 0 < length bytes → len ≤ max (length (content_at m n)) (at + length bytes) → has_room m n len ≡ false → written m n at bytes ≡ None
written_none m n at len [] some h e = absurd (omega (arith, some))
written_none m n at len (x ∷ bytes) some h e = rw (no_room_more m n len (max (length (content_at m n)) (at + length (x ∷ bytes))) h e) refl

-- what a live file holds, once that was changed
pub content_with : (m : ScratchMap) (n : ℕ) (c : List ℕ) → IsSome (file_at m n) → content_at (with_content m n c) n ≡ c
content_with m n c live = in_files m.files n live
  where
    in_files : (fs : List (Option ScratchFile)) (k : ℕ) → IsSome (get_or fs k None) → option_map_or (λ f. f.content) (get_or (set fs k (option_map (holding c) (get_or fs k None))) k None) [] ≡ c
    in_files [] k h = absurd (no_some h)
      where
        no_some : IsSome {T = ScratchFile} None → ⊥
        no_some h = cc
    in_files (None ∷ fs) zero h = absurd (no_some h)
      where
        no_some : IsSome {T = ScratchFile} None → ⊥
        no_some h = cc
    in_files (Some f ∷ fs) zero h = refl
    in_files (f ∷ fs) (suc k) h = in_files fs k h

pub with_twice : (m : ScratchMap) (n : ℕ) (c d : List ℕ) → with_content (with_content m n c) n d ≡ with_content m n d
with_twice m n c d = ap (λ f. record m { files = f }) (in_files m.files n)
  where
    again : (o : Option ScratchFile) → option_map (holding d) (option_map (holding c) o) ≡ option_map (holding d) o
    again None = refl
    again (Some f) = refl

    in_files : (fs : List (Option ScratchFile)) (k : ℕ) → set (set fs k (option_map (holding c) (get_or fs k None))) k (option_map (holding d) (get_or (set fs k (option_map (holding c) (get_or fs k None))) k None)) ≡ set fs k (option_map (holding d) (get_or fs k None))
    in_files [] k = refl
    in_files (f ∷ fs) zero = ap (λ x. x ∷ fs) (again f)
    in_files (f ∷ fs) (suc k) = ap (λ r. f ∷ r) (in_files fs k)

-- grown to the longer of two lengths
pub resized_longer : (c : List ℕ) (len end : ℕ) → len ≡ max (length c) end → resized c len ≡ grown c end
resized_longer c len end e = resized_grown c len (omega (arith, e)) ∙ ap (λ k. c ++ replicate k 0) (omega (arith, e))

pub written_some : (m : ScratchMap) (n at len : ℕ) (bytes : List ℕ) (m1 m2 : ScratchMap) → 0 < length bytes → IsSome (file_at m n) → len ≡ max (length (content_at m n)) (at + length bytes) → has_room m n len ≡ true
    → m1 ≡ with_content m n (resized (content_at m n) len) → m2 ≡ with_content m1 n (splice (content_at m1 n) at (at + length bytes) bytes) → written m n at bytes ≡ Some m2
written_some m n at len [] m1 m2 some live e fits_it is_m1 is_m2 = absurd (omega (arith, some))
written_some m n at len (x ∷ bytes) m1 m2 some live e fits_it is_m1 is_m2 =
    let new = x ∷ bytes in
    let end = at + length new in
    let content = content_at m n in
    let longer : resized content len ≡ grown content end = resized_longer content len end e in
    let first : m1 ≡ with_content m n (grown content end) = is_m1 ∙ ap (with_content m n) longer in
    let held : content_at m1 n ≡ grown content end = ap (λ y. content_at y n) first ∙ content_with m n (grown content end) live in
    let second : m2 ≡ with_content m n (splice (grown content end) at end new) = is_m2 ∙ ap (λ c. with_content m1 n (splice c at end new)) held ∙ ap (λ y. with_content y n (splice (grown content end) at end new)) first ∙ with_twice m n (grown content end) (splice (grown content end) at end new) in
    let fits : has_room m n (max (length content) end) ≡ true = ap (has_room m n) (sym e) ∙ fits_it in
    rw (fits, second) refl

-- the bytes are within what was made long enough
pub long_enough : (m : ScratchMap) (n at len : ℕ) (bytes : List ℕ) (m1 : ScratchMap) → IsSome (file_at m n) → len ≡ max (length (content_at m n)) (at + length bytes) → m1 ≡ with_content m n (resized (content_at m n) len) → at + length bytes ≤ length (content_at m1 n)
long_enough m n at len bytes m1 live e is_m1 =
    let content = content_at m n in
    let held : content_at m1 n ≡ resized content len = ap (λ y. content_at y n) is_m1 ∙ content_with m n (resized content len) live in
    let long : length (resized content len) ≡ len = ap length (resized_grown content len (omega (arith, e))) ∙ length-append content (replicate (len - length content) 0) ∙ ap (λ k. length content + k) (length-replicate {A = ℕ} (len - length content) 0) ∙ omega (arith, e) in
    omega (arith, ap length held, long, e)

-- ---- names

-- a file with another name
pub named_map : (b : ℕ) (es fs : List (Option Entry)) (bs name : List ℕ) (n len : ℕ) → n < length es → IsSome (get_or es n None) → len ≡ len_of (get_or es n None)
    → fs ≡ set es n (Some (record { name = name; len = len })) → map_of b fs bs ≡ with_name (map_of b es bs) n name
named_map b es fs bs name n len lt live is_len is_fs = by_entry (get_or es n None) refl live
  where
    by_entry : (o : Option Entry) → get_or es n None ≡ o → IsSome o → map_of b fs bs ≡ with_name (map_of b es bs) n name
    by_entry None there some = absurd (no_some some)
      where
        no_some : IsSome {T = Entry} None → ⊥
        no_some h = cc
    by_entry (Some e) there some =
        let start = blocks_in (take n es) * 4096 in
        let new : Option Entry = Some (record { name = name; len = len }) in
        let long : len ≡ e.len = is_len ∙ ap len_of there in
        let same : entry_blocks new ≡ entry_blocks (get_or es n None) = ap blocks_of long ∙ sym (ap entry_blocks there) in
        let was : get_or (pieces es bs) n None ≡ Some (record { name = e.name; content = take e.len (drop start bs) }) = pieces_get es bs n ∙ ap (λ o. piece_of o (drop start bs)) there in
        put_in b es fs bs n new lt same is_fs ∙ ap (λ k. record (map_of b es bs) { files = set (pieces es bs) n (Some (record { name = name; content = take k (drop start bs) })) }) long
        ∙ ap (λ o. record (map_of b es bs) { files = set (pieces es bs) n (option_map (called name) o) }) (sym was)

pub without_none : (m : ScratchMap) (n : ℕ) (o : Option ℕ) → o ≡ None → m ≡ without_other m n o
without_none m n o e = rw e refl

eq_same : (n : ℕ) → (n == n) ≡ true
eq_same n = grind arith

eq_differ : (m n : ℕ) → m ≢ n → (m == n) ≡ false
eq_differ m n h = grind (arith, h)

pub without_same : (m : ScratchMap) (n k : ℕ) (o : Option ℕ) → o ≡ Some k → k ≡ n → m ≡ without_other m n o
without_same m n k o e same = rw (e, same, eq_same n) refl

pub without_differ : (m : ScratchMap) (n k : ℕ) (o : Option ℕ) → o ≡ Some k → k ≢ n → removed m k ≡ without_other m n o
without_differ m n k o e differ = rw (e, eq_differ k n differ) refl

named_live : (name : List ℕ) (o : Option Entry) → is_named name o ≡ true → IsSome o
named_live name None e = absurd (cc)
named_live name (Some e) h = some_is_some
  where
    some_is_some : IsSome (Some e)
    some_is_some = search rules

pub place_live : (name : List ℕ) (es : List (Option Entry)) (n : ℕ) → position (is_named name) es ≡ Some n → IsSome (get_or es n None)
place_live name es n e = named_live name (get_or es n None) (position-Some (is_named name) es n None e).1

pub place_free : (es : List (Option Entry)) (n : ℕ) → position is_none es ≡ Some n → get_or es n None ≡ None
place_free es n e = free_is_none (get_or es n None) (position-Some is_none es n None e).1

-- a new file
pub created_map : (b : ℕ) (es fs : List (Option Entry)) (bs name : List ℕ) (n : ℕ) → n < length es → get_or es n None ≡ None → fs ≡ set es n (Some (record { name = name; len = 0 })) → map_of b fs bs ≡ created (map_of b es bs) n name
created_map b es fs bs name n lt free is_fs = put_in b es fs bs n (Some (record { name = name; len = 0 })) lt (sym (ap entry_blocks free)) is_fs

pub blocks_gone : (es : List (Option Entry)) (n : ℕ) → n < length es → blocks_in (set es n None) ≤ blocks_in es
blocks_gone es n lt = omega (arith, blocks_set es n None lt)

-- files that take no more blocks, in as many bytes
pub kept_other : (b : ℕ) (es fs : List (Option Entry)) (bs cs : List ℕ) → IsKept b es bs → blocks_in fs ≤ blocks_in es → length fs ≡ length es → length cs ≡ length bs → IsKept b fs cs
kept_other b es fs bs cs kept less count long = record {
  quota = long ∙ kept.quota;
  within = omega (arith, less, kept.within);
  few = kept.few;
  numbered = omega (arith, count, kept.numbered);
}

pub same_blocks : (o : Option Entry) → IsSome o → blocks_of (len_of o) ≡ entry_blocks o
same_blocks None h = absurd (no_some h)
  where
    no_some : IsSome {T = Entry} None → ⊥
    no_some h = cc
same_blocks (Some e) h = refl

pub name_past : (m : ScratchMap) (b : ℕ) (es : List (Option Entry)) (bs : List ℕ) (n : ℕ) → map_of b es bs ≡ m → length es ≤ n → None ≡ name_at m n
name_past m b es bs n e le = sym (name_in m b es bs n e ∙ ap (λ o. option_map (λ x. x.name) o) (past es n le))
  where
    past : (xs : List (Option Entry)) (k : ℕ) → length xs ≤ k → get_or xs k None ≡ None
    past [] k h = refl
    past (x ∷ xs) zero h = absurd (omega (arith, h))
    past (x ∷ xs) (suc k) h = past xs k (omega (arith, h))
