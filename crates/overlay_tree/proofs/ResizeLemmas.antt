-- A file that gets another length, or other bytes.
use Rattle.std.proofs.Common.{min, ◌≡◌, ℕ, zero, suc, ◌+◌, ◌*◌, ◌-◌, ◌≤◌, ◌<◌, refl, sym, ap, ◌∙◌, List, [], ◌∷◌, ◌++◌, length, take, drop, set, get_or, Option, Some, None, ◌⊎◌, inl, inr, arith}
use Rattle.std.specs.Prelude.{replicate, IsSome, nat_le}
use Rattle.std.specs.List.{splice}
use Rattle.std.proofs.lemmas.List.{length-take-le, drop-drop, take-take, length-drop, length-replicate, length-append, drop-append-le, drop-take, take-append-drop}
use Rattle.tree_table.specs.Scratches.{blocks_of, resized, with_content, content_at, has_room, use_of, file_blocks}
use Rattle.overlay_tree.specs.Pieces.{Entry, entry_blocks, blocks_in, piece_of, pieces, map_of, len_of, with_len, as_long}
use Rattle.overlay_tree.proofs.PieceLemmas.{pieces_set, pieces_get, blocks_split, within_blocks, blocks_grow, length_pieces, use_pieces, use_set, file_blocks_of}
use Rattle.overlay_tree.proofs.SpliceLemmas.{front, splice_front, splice_behind, less_alike, later_alike, take_all}

-- cut, where it isn't longer
pub resized_cut : (c : List ℕ) (len : ℕ) → len ≤ length c → resized c len ≡ take len c
resized_cut c len h = take-front c _ len h
  where
    take-front : (xs ys : List ℕ) (n : ℕ) → n ≤ length xs → take n (xs ++ ys) ≡ take n xs
    take-front xs ys zero h = refl
    take-front [] ys (suc n) h = absurd (omega arith)
    take-front (x ∷ xs) ys (suc n) h = ap (λ r. x ∷ r) (take-front xs ys n (omega (arith, h)))

-- grown, where it isn't shorter
pub resized_grown : (c : List ℕ) (len : ℕ) → length c ≤ len → resized c len ≡ c ++ replicate (len - length c) 0
resized_grown c len h =
    let all = c ++ replicate (len - length c) 0 in
    let long : length all ≡ len = omega (arith, length-append c (replicate (len - length c) 0), length-replicate {A = ℕ} (len - length c) 0, h) in
    let whole : take (length all) all ≡ all = take_whole all in
    ap (λ n. take n all) (sym long) ∙ whole
  where
    take_whole : (xs : List ℕ) → take (length xs) xs ≡ xs
    take_whole [] = refl
    take_whole (x ∷ xs) = ap (λ r. x ∷ r) (take_whole xs)

-- two lists in front of a third
pub take_two : {A : Type 0} (xs zs ws : List A) (n : ℕ) → length xs + length zs ≡ n → take n (xs ++ (zs ++ ws)) ≡ xs ++ zs
take_two [] zs ws n e = ap (λ k. take k (zs ++ ws)) (omega (arith, e)) ∙ take_all zs ws
take_two (x ∷ xs) zs ws zero e = absurd (omega (arith, e))
take_two (x ∷ xs) zs ws (suc n) e = ap (λ ys. x ∷ ys) (take_two xs zs ws n (omega (arith, e)))

-- zeros after the first bytes from a place on
pub cleared : (bs : List ℕ) (off old more : ℕ) → off + old + more ≤ length bs → take (old + more) (drop off (splice bs (off + old) (off + old + more) (replicate more 0))) ≡ take old (drop off bs) ++ replicate more 0
cleared bs off old more h =
    let zeros = replicate more 0 in
    let behind = drop (off + old + more) bs in
    let content = take old (drop off bs) in
    let front_long : length (take (off + old) bs) ≡ off + old = length-take-le (off + old) bs (omega (arith, h)) in
    let long : length content ≡ old = length-take-le old (drop off bs) (omega (arith, length-drop off bs, h)) in
    let from : drop off (splice bs (off + old) (off + old + more) zeros) ≡ content ++ (zeros ++ behind) =
    drop-append-le off (take (off + old) bs) (zeros ++ behind) (omega (arith, front_long)) ∙ ap (λ xs. xs ++ (zeros ++ behind)) (drop-take off old bs) in
    ap (take (old + more)) from ∙ take_two content zeros behind (old + more) (omega (arith, long, length-replicate {A = ℕ} more 0))

-- ---- a file of another length

-- The other files' bytes are as they were, and the file's are those that it should have.
pub resized_by : (es : List (Option Entry)) (bs cs : List ℕ) (n len b : ℕ) (e : Entry) → n < length es → get_or es n None ≡ Some e
    → take (blocks_in (take n es) * 4096) cs ≡ take (blocks_in (take n es) * 4096) bs
    → take (blocks_in (drop (suc n) es) * 4096) (drop (blocks_in (take n es) * 4096 + blocks_of len * 4096) cs) ≡ take (blocks_in (drop (suc n) es) * 4096) (drop (blocks_in (take n es) * 4096 + blocks_of e.len * 4096) bs)
    → take len (drop (blocks_in (take n es) * 4096) cs) ≡ resized (take e.len (drop (blocks_in (take n es) * 4096) bs)) len
    → map_of b (set es n (Some (as_long len e))) cs ≡ with_content (map_of b es bs) n (resized (content_at (map_of b es bs) n) len)
resized_by es bs cs n len b e lt there front behind own =
    let start = blocks_in (take n es) * 4096 in
    let rest = blocks_in (drop (suc n) es) * 4096 in
    let new = Some (as_long len e) in
    let from_old : drop (entry_blocks (get_or es n None) * 4096) (drop start bs) ≡ drop (start + blocks_of e.len * 4096) bs = ap (λ o. drop (entry_blocks o * 4096) (drop start bs)) there ∙ drop-drop (blocks_of e.len * 4096) start bs in
    let others : take rest (drop (entry_blocks new * 4096) (drop start cs)) ≡ take rest (drop (entry_blocks (get_or es n None) * 4096) (drop start bs)) = ap (take rest) (drop-drop (blocks_of len * 4096) start cs) ∙ behind ∙ ap (take rest) (sym from_old) in
    let all = pieces_set es bs cs n new lt front others in
    let was : get_or (pieces es bs) n None ≡ Some (record { name = e.name; content = take e.len (drop start bs) }) = pieces_get es bs n ∙ ap (λ o. piece_of o (drop start bs)) there in
    rw (all, was, own) refl

-- the file becomes shorter
shrunk : (es : List (Option Entry)) (bs cs : List ℕ) (n len b : ℕ) (e : Entry) → n < length es → get_or es n None ≡ Some e → len ≤ e.len → blocks_in es * 4096 ≤ length bs
    → take ((blocks_in (take n es) + min (blocks_of e.len) (blocks_of len)) * 4096) cs ≡ take ((blocks_in (take n es) + min (blocks_of e.len) (blocks_of len)) * 4096) bs
    → take (blocks_in (drop (suc n) es) * 4096) (drop (blocks_in (take n es) * 4096 + blocks_of len * 4096) cs) ≡ take (blocks_in (drop (suc n) es) * 4096) (drop (blocks_in (take n es) * 4096 + blocks_of e.len * 4096) bs)
    → map_of b (set es n (Some (as_long len e))) cs ≡ with_content (map_of b es bs) n (resized (content_at (map_of b es bs) n) len)
shrunk es bs cs n len b e lt there le fits alike behind =
    let start = blocks_in (take n es) * 4096 in
    let kept = (blocks_in (take n es) + min (blocks_of e.len) (blocks_of len)) * 4096 in
    let split = blocks_split es n lt in
    let own_blocks : entry_blocks (get_or es n None) ≡ blocks_of e.len = ap entry_blocks there in
    let front : take start cs ≡ take start bs = less_alike cs bs start kept (omega arith) alike in
    let same : take len (drop start cs) ≡ take len (drop start bs) = later_alike cs bs start len (less_alike cs bs (start + len) kept (omega (arith, within_blocks len, blocks_grow len e.len le)) alike) in
    let content = take e.len (drop start bs) in
    let long : length content ≡ e.len = length-take-le e.len (drop start bs) (omega (arith, length-drop start bs, within_blocks e.len, split, own_blocks, fits)) in
    let own : take len (drop start cs) ≡ resized content len = same ∙ sym (resized_cut content len (omega (arith, long, le)) ∙ take-take len e.len (drop start bs) le) in
    resized_by es bs cs n len b e lt there front behind own

-- the file becomes longer: what it had no bytes of is set to zero
lengthened : (es : List (Option Entry)) (bs ms : List ℕ) (n len b : ℕ) (e : Entry) → n < length es → get_or es n None ≡ Some e → e.len < len → blocks_in es * 4096 ≤ length bs → blocks_in es * 4096 + blocks_of len * 4096 ≤ length bs + blocks_of e.len * 4096
    → length ms ≡ length bs
    → take ((blocks_in (take n es) + min (blocks_of e.len) (blocks_of len)) * 4096) ms ≡ take ((blocks_in (take n es) + min (blocks_of e.len) (blocks_of len)) * 4096) bs
    → take (blocks_in (drop (suc n) es) * 4096) (drop (blocks_in (take n es) * 4096 + blocks_of len * 4096) ms) ≡ take (blocks_in (drop (suc n) es) * 4096) (drop (blocks_in (take n es) * 4096 + blocks_of e.len * 4096) bs)
    → map_of b (set es n (Some (as_long len e))) (splice ms (blocks_in (take n es) * 4096 + e.len) (blocks_in (take n es) * 4096 + e.len + (len - e.len)) (replicate (len - e.len) 0)) ≡ with_content (map_of b es bs) n (resized (content_at (map_of b es bs) n) len)
lengthened es bs ms n len b e lt there more fits room same_length alike behind =
    let start = blocks_in (take n es) * 4096 in
    let kept = (blocks_in (take n es) + min (blocks_of e.len) (blocks_of len)) * 4096 in
    let to = start + blocks_of len * 4096 in
    let rest = blocks_in (drop (suc n) es) * 4096 in
    let extra = len - e.len in
    let split = blocks_split es n lt in
    let own_blocks : entry_blocks (get_or es n None) ≡ blocks_of e.len = ap entry_blocks there in
    let zeros = replicate extra 0 in
    let at = start + e.len in
    let stop = at + extra in
    let cs = splice ms at stop zeros in
    let before_to : stop ≤ to = omega (arith, within_blocks len, more) in
    let inside : to ≤ length ms = omega (arith, same_length, split, own_blocks, fits, room) in
    let at_inside : at ≤ length ms = omega (arith, before_to, inside) in
    let front : take start cs ≡ take start bs = splice_front ms zeros at stop start (omega arith) at_inside ∙ less_alike ms bs start kept (omega arith) alike in
    let last : stop ≡ at + length zeros = ap (λ k. at + k) (sym (length-replicate {A = ℕ} extra 0)) in
    let others : take rest (drop to cs) ≡ take rest (drop (start + blocks_of e.len * 4096) bs) = ap (take rest) (splice_behind ms zeros at stop to at_inside last before_to) ∙ behind in
    let content = take e.len (drop start bs) in
    let long : length content ≡ e.len = length-take-le e.len (drop start bs) (omega (arith, length-drop start bs, within_blocks e.len, split, own_blocks, fits)) in
    let same : take e.len (drop start ms) ≡ content = later_alike ms bs start e.len (less_alike ms bs (start + e.len) kept (omega (arith, within_blocks e.len, blocks_grow e.len len (omega (arith, more)))) alike) in
    let sum : e.len + extra ≡ len = omega (arith, more) in
    let own : take len (drop start cs) ≡ resized content len =
    ap (λ k. take k (drop start cs)) (sym sum) ∙ cleared ms start e.len extra (omega (arith, before_to, inside)) ∙ ap (λ c. c ++ zeros) same ∙ ap (λ k. content ++ replicate (len - k) 0) (sym long) ∙ sym (resized_grown content len (omega (arith, long, more))) in
    resized_by es bs cs n len b e lt there front others own

-- nothing is replaced
pub splice_nothing : {A : Type 0} (xs : List A) (i n : ℕ) → n ≡ 0 → (y : A) → splice xs i (i + n) (replicate n y) ≡ xs
splice_nothing xs i n e y = ap (λ k. splice xs i (i + k) (replicate k y)) e ∙ ap (λ k. take i xs ++ drop k xs) (omega arith) ∙ take-append-drop i xs

-- shorter or longer
resized_map : (es : List (Option Entry)) (bs ms : List ℕ) (n len b : ℕ) (e : Entry) → n < length es → get_or es n None ≡ Some e → blocks_in es * 4096 ≤ length bs → blocks_in es * 4096 + blocks_of len * 4096 ≤ length bs + blocks_of e.len * 4096
    → length ms ≡ length bs
    → take ((blocks_in (take n es) + min (blocks_of e.len) (blocks_of len)) * 4096) ms ≡ take ((blocks_in (take n es) + min (blocks_of e.len) (blocks_of len)) * 4096) bs
    → take (blocks_in (drop (suc n) es) * 4096) (drop (blocks_in (take n es) * 4096 + blocks_of len * 4096) ms) ≡ take (blocks_in (drop (suc n) es) * 4096) (drop (blocks_in (take n es) * 4096 + blocks_of e.len * 4096) bs)
    → map_of b (set es n (Some (as_long len e))) (splice ms (blocks_in (take n es) * 4096 + e.len) (blocks_in (take n es) * 4096 + e.len + (len - e.len)) (replicate (len - e.len) 0)) ≡ with_content (map_of b es bs) n (resized (content_at (map_of b es bs) n) len)
resized_map es bs ms n len b e lt there fits room same_length alike behind = elim (le_or_lt len e.len) [
  | inl le ↦ ap (map_of b (set es n (Some (as_long len e)))) (splice_nothing ms (blocks_in (take n es) * 4096 + e.len) (len - e.len) (omega (arith, le)) 0) ∙ shrunk es bs ms n len b e lt there le fits alike behind
  | inr more ↦ lengthened es bs ms n len b e lt there more fits room same_length alike behind
]
  where
    le_or_lt : (m n : ℕ) → (m ≤ n) ⊎ (n < m)
    le_or_lt zero n = inl (omega arith)
    le_or_lt (suc m) zero = inr (omega arith)
    le_or_lt (suc m) (suc n) = elim (le_or_lt m n) [ inl h ↦ inl (omega (arith, h)) | inr h ↦ inr (omega (arith, h)) ]

-- As the code finds it: what is in front of the file's blocks, and in those that it keeps, is as it was, and the other files' blocks after
-- it stand after its new ones.
pub resized_code : (es : List (Option Entry)) (bs ms cs : List ℕ) (n len b first used old held wanted : ℕ) (slot : Option Entry) → n < length es → IsSome (get_or es n None)
    → blocks_in es * 4096 ≤ length bs → blocks_in es * 4096 + blocks_of len * 4096 ≤ length bs + entry_blocks (get_or es n None) * 4096
    → first ≡ blocks_in (take n es) → old ≡ len_of (get_or es n None) → used ≡ blocks_in es → held ≡ blocks_of old → wanted ≡ blocks_of len → slot ≡ with_len len (get_or es n None)
    → length ms ≡ length bs → take ((first + min held wanted) * 4096) ms ≡ take ((first + min held wanted) * 4096) bs
    → take ((used - (first + held)) * 4096) (drop ((first + wanted) * 4096) ms) ≡ take ((used - (first + held)) * 4096) (drop ((first + held) * 4096) bs)
    → cs ≡ splice ms (first * 4096 + old) (first * 4096 + old + (len - old)) (replicate (len - old) 0)
    → map_of b (set es n slot) cs ≡ with_content (map_of b es bs) n (resized (content_at (map_of b es bs) n) len)
resized_code es bs ms cs n len b first used old held wanted slot lt live fits room is_first is_old is_used is_held is_wanted is_slot same_length alike behind is_cs =
    by_entry (get_or es n None) refl live
  where
    by_entry : (o : Option Entry) → get_or es n None ≡ o → IsSome o → map_of b (set es n slot) cs ≡ with_content (map_of b es bs) n (resized (content_at (map_of b es bs) n) len)
    by_entry None there some = absurd (no_some some)
      where
        no_some : IsSome {T = Entry} None → ⊥
        no_some h = cc
    by_entry (Some e) there some =
        let before = blocks_in (take n es) in
        let rest = blocks_in (drop (suc n) es) * 4096 in
        let len_is : old ≡ e.len = is_old ∙ ap len_of there in
        let held_is : held ≡ blocks_of e.len = is_held ∙ ap blocks_of len_is in
        let slot_is : slot ≡ Some (as_long len e) = is_slot ∙ ap (with_len len) there in
        let own_blocks : entry_blocks (get_or es n None) ≡ blocks_of e.len = ap entry_blocks there in
        let room' : blocks_in es * 4096 + blocks_of len * 4096 ≤ length bs + blocks_of e.len * 4096 = omega (arith, room, own_blocks) in
        let kept : (first + min held wanted) * 4096 ≡ (before + min (blocks_of e.len) (blocks_of len)) * 4096 = ap (λ k. (k + min held wanted) * 4096) is_first ∙ ap (λ k. (before + min k wanted) * 4096) held_is ∙ ap (λ k. (before + min (blocks_of e.len) k) * 4096) is_wanted in
        let alike' : take ((before + min (blocks_of e.len) (blocks_of len)) * 4096) ms ≡ take ((before + min (blocks_of e.len) (blocks_of len)) * 4096) bs = ap (λ k. take k ms) (sym kept) ∙ alike ∙ ap (λ k. take k bs) kept in
        let count : (used - (first + held)) * 4096 ≡ rest = omega (arith, blocks_split es n lt, own_blocks, is_first, is_used, held_is) in
        let to : (first + wanted) * 4096 ≡ before * 4096 + blocks_of len * 4096 = omega (arith, is_first, is_wanted) in
        let from : (first + held) * 4096 ≡ before * 4096 + blocks_of e.len * 4096 = omega (arith, is_first, held_is) in
        let behind' : take rest (drop (before * 4096 + blocks_of len * 4096) ms) ≡ take rest (drop (before * 4096 + blocks_of e.len * 4096) bs) =
        ap (λ k. take k (drop (before * 4096 + blocks_of len * 4096) ms)) (sym count) ∙ ap (λ k. take ((used - (first + held)) * 4096) (drop k ms)) (sym to) ∙ behind ∙ ap (λ k. take k (drop ((first + held) * 4096) bs)) count ∙ ap (λ k. take rest (drop k bs)) from in
        rw (is_cs, slot_is, is_first, len_is) (resized_map es bs ms n len b e lt there fits room' same_length alike' behind')

-- ---- room

-- the other files' blocks, and those of that many bytes
pub room_left : (es : List (Option Entry)) (bs : List ℕ) (blocks n len own all : ℕ) → n < length es → blocks_in es ≤ blocks → blocks_in es * 4096 ≤ length bs → own ≡ entry_blocks (get_or es n None) → all ≡ blocks_in es
    → nat_le len ((blocks - (all - own)) * 4096) ≡ has_room (map_of blocks es bs) n len
room_left es bs blocks n len own all lt within fits is_own is_all =
    let files = pieces es bs in
    let start = blocks_in (take n es) * 4096 in
    let there = pieces_get es bs n in
    let split = blocks_split es n lt in
    let enough : entry_blocks (get_or es n None) * 4096 ≤ length (drop start bs) = omega (arith, length-drop start bs, split, fits) in
    let used = use_pieces es bs fits in
    let mine : file_blocks (get_or files n None) ≡ entry_blocks (get_or es n None) = ap file_blocks there ∙ file_blocks_of (get_or es n None) (drop start bs) enough in
    let without = use_set files n None (omega (arith, lt, length_pieces es bs)) in
    let others : use_of (set files n None) ≡ all - own = omega (arith, without, mine, used, is_own, is_all) in
    let own_of : own ≤ all = omega (arith, split, is_own, is_all) in
    rw others (same_test len (all - own) blocks (omega (arith, within, is_all)))
  where
    same_test : (len others blocks : ℕ) → others ≤ blocks → nat_le len ((blocks - others) * 4096) ≡ nat_le (others + blocks_of len) blocks
    same_test len others blocks h = grind (arith, h)
