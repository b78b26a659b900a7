-- A file of which bytes are replaced or read.
use Rattle.std.proofs.Common.{◌≡◌, ℕ, zero, suc, ◌+◌, ◌*◌, ◌-◌, ◌≤◌, ◌<◌, min, refl, sym, ap, ◌∙◌, List, [], ◌∷◌, ◌++◌, length, take, drop, set, get_or, Option, Some, None, arith}
use Rattle.std.specs.Prelude.{IsSome}
use Rattle.std.specs.Option.{option_map_or}
use Rattle.std.specs.List.{splice}
use Rattle.std.proofs.lemmas.List.{length-take-le, drop-drop, length-drop}
use Rattle.tree_table.specs.Scratches.{ScratchFile, ScratchMap, blocks_of, with_content, content_at, read_at}
use Rattle.overlay_tree.specs.Pieces.{Entry, entry_blocks, blocks_in, piece_of, pieces, map_of, len_of}
use Rattle.overlay_tree.proofs.SpliceLemmas.{splice_front, splice_behind}
use Rattle.overlay_tree.proofs.PieceLemmas.{pieces_set, pieces_get, blocks_split, within_blocks}

-- the bytes of a number's file
pub content_is : (es : List (Option Entry)) (bs : List ℕ) (n b : ℕ) → content_at (map_of b es bs) n ≡ take (len_of (get_or es n None)) (drop (blocks_in (take n es) * 4096) bs)
content_is es bs n b = ap content_in (pieces_get es bs n) ∙ piece (get_or es n None) (drop (blocks_in (take n es) * 4096) bs)
  where
    content_in : Option ScratchFile → List ℕ
    content_in f = option_map_or (λ g. g.content) f []

    piece : (o : Option Entry) (ys : List ℕ) → option_map_or (λ g. g.content) (piece_of o ys) [] ≡ take (len_of o) ys
    piece None ys = refl
    piece (Some e) ys = refl

-- ---- reading

cong : {A : Type 0} (f : ℕ → A) (a b : ℕ) → a ≡ b → f a ≡ f b
cong f a b e = ap f e

take_none : {A : Type 0} (k : ℕ) → take {A = A} k [] ≡ []
take_none zero = refl
take_none (suc k) = refl

take_twice : {A : Type 0} (ys : List A) (k l c : ℕ) → c ≡ min l k → take k (take l ys) ≡ take c ys
take_twice ys zero l c e = cong (λ n. take n ys) 0 c (omega (arith, e))
take_twice ys (suc k) zero c e = cong (λ n. take n ys) 0 c (omega (arith, e))
take_twice [] (suc k) (suc l) c e = sym (take_none c)
take_twice (y ∷ ys) (suc k) (suc l) zero e = absurd (omega (arith, e))
take_twice (y ∷ ys) (suc k) (suc l) (suc c) e = ap (λ r. y ∷ r) (take_twice ys k l c (omega (arith, e)))

-- the next bytes from a place on, of the first bytes of a list
pub read_front : {A : Type 0} (ys : List A) (at l k m c : ℕ) → l ≤ length ys → m ≡ min at l → c ≡ min (l - m) k → take k (drop at (take l ys)) ≡ take c (drop m ys)
read_front ys zero l k m c h e f = take_twice ys k l c (omega (arith, e, f)) ∙ cong (λ n. take c (drop n ys)) 0 m (omega (arith, e))
read_front ys (suc at) zero k m c h e f = take_none k ∙ cong (λ n. take n (drop m ys)) 0 c (omega (arith, e, f))
read_front [] (suc at) (suc l) k m c h e f = absurd (omega (arith, h))
read_front (y ∷ ys) (suc at) (suc l) k zero c h e f = absurd (omega (arith, e))
read_front (y ∷ ys) (suc at) (suc l) k (suc m) c h e f = read_front ys at l k m c (omega (arith, h)) (omega (arith, e)) (omega (arith, f))

-- as the code finds it
pub read_piece : (es : List (Option Entry)) (bs : List ℕ) (n at k len from count start b : ℕ) → n < length es → blocks_in es * 4096 ≤ length bs
    → len ≡ len_of (get_or es n None) → from ≡ min at len → count ≡ min (len - from) k → start ≡ blocks_in (take n es) * 4096 → len_of (get_or es n None) ≤ entry_blocks (get_or es n None) * 4096
    → read_at (content_at (map_of b es bs) n) at k ≡ take count (drop (start + from) bs)
read_piece es bs n at k len from count start b lt fits is_len is_from is_count is_start within =
    let off = blocks_in (take n es) * 4096 in
    let enough : len ≤ length (drop off bs) = omega (arith, length-drop off bs, blocks_split es n lt, fits, is_len, within) in
    ap (λ c. take k (drop at c)) (content_is es bs n b ∙ ap (λ l. take l (drop off bs)) (sym is_len)) ∙ read_front (drop off bs) at len k from count enough is_from is_count ∙ ap (take count) (drop-drop from off bs ∙ ap (λ i. drop (i + from) bs) (sym is_start))

-- ---- replacing

splice_here : {A : Type 0} (bs new : List A) (l j : ℕ) → j ≡ length new → j ≤ l → l ≤ length bs → take l (new ++ drop j bs) ≡ new ++ drop j (take l bs)
splice_here bs [] l j e h k = cong (λ n. take l (drop n bs)) j 0 e ∙ cong (λ n. drop n (take l bs)) 0 j (sym e)
splice_here bs (x ∷ new) l zero e h k = absurd (omega (arith, e))
splice_here bs (x ∷ new) zero (suc j) e h k = absurd (omega (arith, h))
splice_here [] (x ∷ new) (suc l) (suc j) e h k = absurd (omega (arith, k))
splice_here (b ∷ bs) (x ∷ new) (suc l) (suc j) e h k = ap (λ r. x ∷ r) (splice_here bs new l j (omega (arith, e)) (omega (arith, h)) (omega (arith, k)))

splice_at : {A : Type 0} (bs new : List A) (l at j : ℕ) → j ≡ at + length new → j ≤ l → l ≤ length bs → take l (splice bs at j new) ≡ splice (take l bs) at j new
splice_at bs new l zero j e h k = splice_here bs new l j (omega (arith, e)) h k
splice_at bs new l (suc at) zero e h k = absurd (omega (arith, e))
splice_at bs new zero (suc at) (suc j) e h k = absurd (omega (arith, h))
splice_at [] new (suc l) (suc at) (suc j) e h k = absurd (omega (arith, k))
splice_at (b ∷ bs) new (suc l) (suc at) (suc j) e h k = ap (λ r. b ∷ r) (splice_at bs new l at j (omega (arith, e)) (omega (arith, h)) (omega (arith, k)))

-- what is replaced in a part of a list
pub splice_part : {A : Type 0} (bs new : List A) (start l at j i e : ℕ) → i ≡ start + at → e ≡ start + j → j ≡ at + length new → j ≤ l → start + l ≤ length bs → take l (drop start (splice bs i e new)) ≡ splice (take l (drop start bs)) at j new
splice_part bs new zero l at j i e is_i is_e is_j h k =
    cong (λ n. take l (splice bs n e new)) i at (omega (arith, is_i)) ∙ cong (λ n. take l (splice bs at n new)) e j (omega (arith, is_e)) ∙ splice_at bs new l at j is_j h (omega (arith, k))
splice_part [] new (suc start) l at j i e is_i is_e is_j h k = absurd (omega (arith, k))
splice_part (b ∷ bs) new (suc start) l at j zero e is_i is_e is_j h k = absurd (omega (arith, is_i))
splice_part (b ∷ bs) new (suc start) l at j (suc i) zero is_i is_e is_j h k = absurd (omega (arith, is_e))
splice_part (b ∷ bs) new (suc start) l at j (suc i) (suc e) is_i is_e is_j h k = splice_part bs new start l at j i e (omega (arith, is_i)) (omega (arith, is_e)) is_j h (omega (arith, k))

set_same : {A : Type 0} (xs : List A) (n : ℕ) (d : A) → n < length xs → set xs n (get_or xs n d) ≡ xs
set_same [] n d lt = absurd (omega (arith, lt))
set_same (x ∷ xs) zero d lt = refl
set_same (x ∷ xs) (suc n) d lt = ap (λ r. x ∷ r) (set_same xs n d (omega (arith, lt)))

pub replaced_map : (es : List (Option Entry)) (bs new : List ℕ) (n at b : ℕ) (e : Entry) → n < length es → get_or es n None ≡ Some e → blocks_in es * 4096 ≤ length bs → at + length new ≤ e.len
    → map_of b es (splice bs (blocks_in (take n es) * 4096 + at) (blocks_in (take n es) * 4096 + at + length new) new) ≡ with_content (map_of b es bs) n (splice (content_at (map_of b es bs) n) at (at + length new) new)
replaced_map es bs new n at b e lt there fits inside =
    let start = blocks_in (take n es) * 4096 in
    let rest = blocks_in (drop (suc n) es) * 4096 in
    let stop = start + at + length new in
    let cs = splice bs (start + at) stop new in
    let own : entry_blocks (get_or es n None) ≡ blocks_of e.len = ap entry_blocks there in
    let split = blocks_split es n lt in
    let long = within_blocks e.len in
    let at_inside : start + at ≤ length bs = omega (arith, split, own, fits, inside, long) in
    let before : stop ≤ start + blocks_of e.len * 4096 = omega (arith, inside, long) in
    let front : take start cs ≡ take start bs = splice_front bs new (start + at) stop start (omega arith) at_inside in
    let same : drop (start + blocks_of e.len * 4096) cs ≡ drop (start + blocks_of e.len * 4096) bs = splice_behind bs new (start + at) stop (start + blocks_of e.len * 4096) at_inside refl before in
    let later : (xs : List ℕ) → drop (entry_blocks (get_or es n None) * 4096) (drop start xs) ≡ drop (start + blocks_of e.len * 4096) xs = λ xs. ap (λ k. drop (k * 4096) (drop start xs)) own ∙ drop-drop (blocks_of e.len * 4096) start xs in
    let behind : take rest (drop (entry_blocks (get_or es n None) * 4096) (drop start cs)) ≡ take rest (drop (entry_blocks (get_or es n None) * 4096) (drop start bs)) = ap (take rest) (later cs ∙ same ∙ sym (later bs)) in
    let all : pieces (set es n (get_or es n None)) cs ≡ set (pieces es bs) n (piece_of (get_or es n None) (drop start cs)) = pieces_set es bs cs n (get_or es n None) lt front behind in
    let same_entries = set_same es n None lt in
    let part : take e.len (drop start cs) ≡ splice (take e.len (drop start bs)) at (at + length new) new = splice_part bs new start e.len at (at + length new) (start + at) stop refl (omega arith) refl inside (omega (arith, split, own, fits, long)) in
    let was : get_or (pieces es bs) n None ≡ Some (record { name = e.name; content = take e.len (drop start bs) }) = pieces_get es bs n ∙ ap (λ o. piece_of o (drop start bs)) there in
    let whole : pieces es cs ≡ set (pieces es bs) n (Some (record { name = e.name; content = take e.len (drop start cs) })) = ap (λ x. pieces x cs) (sym same_entries) ∙ all ∙ ap (λ o. set (pieces es bs) n (piece_of o (drop start cs))) there in
    rw (whole, was, part) refl

-- as the code finds it
pub replaced_code : (es : List (Option Entry)) (bs cs new : List ℕ) (n at b start : ℕ) → n < length es → IsSome (get_or es n None) → blocks_in es * 4096 ≤ length bs → at + length new ≤ len_of (get_or es n None)
    → start ≡ blocks_in (take n es) * 4096 → cs ≡ splice bs (start + at) (start + at + length new) new
    → map_of b es cs ≡ with_content (map_of b es bs) n (splice (content_at (map_of b es bs) n) at (at + length new) new)
replaced_code es bs cs new n at b start lt live fits inside is_start is_cs = by_entry (get_or es n None) refl live
  where
    by_entry : (o : Option Entry) → get_or es n None ≡ o → IsSome o → map_of b es cs ≡ with_content (map_of b es bs) n (splice (content_at (map_of b es bs) n) at (at + length new) new)
    by_entry None there some = absurd (no_some some)
      where
        no_some : IsSome {T = Entry} None → ⊥
        no_some h = cc
    by_entry (Some e) there some = rw (is_cs, is_start) (replaced_map es bs new n at b e lt there fits (omega (arith, inside, ap len_of there)))
