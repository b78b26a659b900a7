-- Files in memory, of which one is changed.
use Rattle.std.proofs.Common.{◌≡◌, ℕ, zero, suc, ◌+◌, ◌*◌, ◌-◌, ◌≤◌, ◌<◌, refl, sym, ap, ◌∙◌, List, [], ◌∷◌, ◌++◌, length, take, drop, set, get_or, Option, Some, None, Bool, not, arith}
use Rattle.std.specs.Prelude.{IsSome, is_none, position, replicate, ◌/◌, option_map}
use Rattle.std.specs.Option.{option_map_or}
use Rattle.std.specs.List.{prefix_len}
use Rattle.std.proofs.lemmas.List.{length-take-le, drop-drop}
use Rattle.tree_table.specs.Scratches.{ScratchFile, ScratchMap, blocks_of, file_blocks, use_of, file_at, content_at, has_name, find_file, free_number}
use Rattle.overlay_tree.specs.Pieces.{Entry, entry_blocks, blocks_in, piece_of, pieces, map_of, is_named, len_of}
use Rattle.overlay_tree.proofs.SpliceLemmas.{less_alike, later_alike}

-- a length is within its blocks
pub within_blocks : (n : ℕ) → n ≤ blocks_of n * 4096
within_blocks n = omega arith

pub blocks_least : (n b : ℕ) → n ≤ b * 4096 → blocks_of n ≤ b
blocks_least n b h = omega (arith, h)

pub blocks_grow : (m n : ℕ) → m ≤ n → blocks_of m ≤ blocks_of n
blocks_grow m n h = omega (arith, h)

pub len_within : (e : Option Entry) → len_of e ≤ entry_blocks e * 4096
len_within None = omega arith
len_within (Some e) = within_blocks e.len

pub length_pieces : (es : List (Option Entry)) (bs : List ℕ) → length (pieces es bs) ≡ length es
length_pieces [] bs = refl
length_pieces (e ∷ es) bs = ap suc (length_pieces es (drop (entry_blocks e * 4096) bs))

-- what a piece is depends on its own blocks
pub piece_alike : (e : Option Entry) (bs cs : List ℕ) → take (entry_blocks e * 4096) bs ≡ take (entry_blocks e * 4096) cs → piece_of e bs ≡ piece_of e cs
piece_alike None bs cs h = refl
piece_alike (Some e) bs cs h = ap (λ c. Some (record { name = e.name; content = c })) (less_alike bs cs e.len (blocks_of e.len * 4096) (within_blocks e.len) h)

-- what the files are depends on their blocks
pub pieces_alike : (es : List (Option Entry)) (bs cs : List ℕ) → take (blocks_in es * 4096) bs ≡ take (blocks_in es * 4096) cs → pieces es bs ≡ pieces es cs
pieces_alike [] bs cs h = refl
pieces_alike (e ∷ es) bs cs h =
    let k = entry_blocks e * 4096 in
    let m = blocks_in es * 4096 in
    let both : (entry_blocks e + blocks_in es) * 4096 ≡ k + m = omega arith in
    let all : take (k + m) bs ≡ take (k + m) cs = ap (λ n. take n bs) (sym both) ∙ h ∙ ap (λ n. take n cs) both in
    let first = piece_alike e bs cs (less_alike bs cs k (k + m) (omega arith) all) in
    let rest = pieces_alike es (drop k bs) (drop k cs) (later_alike bs cs k m all) in
    cc

-- One file is changed: what is in front of it stays, and what is after it stands after the new blocks.
pub pieces_set : (es : List (Option Entry)) (bs cs : List ℕ) (n : ℕ) (e : Option Entry) → n < length es
    → take (blocks_in (take n es) * 4096) cs ≡ take (blocks_in (take n es) * 4096) bs
    → take (blocks_in (drop (suc n) es) * 4096) (drop (entry_blocks e * 4096) (drop (blocks_in (take n es) * 4096) cs)) ≡ take (blocks_in (drop (suc n) es) * 4096) (drop (entry_blocks (get_or es n None) * 4096) (drop (blocks_in (take n es) * 4096) bs))
    → pieces (set es n e) cs ≡ set (pieces es bs) n (piece_of e (drop (blocks_in (take n es) * 4096) cs))
pieces_set [] bs cs n e lt front behind = absurd (omega arith)
pieces_set (x ∷ es) bs cs zero e lt front behind = ap (λ r. piece_of e cs ∷ r) (pieces_alike es _ _ behind)
pieces_set (x ∷ es) bs cs (suc n) e lt front behind =
    let k = entry_blocks x * 4096 in
    let m = blocks_in (take n es) * 4096 in
    let both : (entry_blocks x + blocks_in (take n es)) * 4096 ≡ k + m = omega arith in
    let all : take (k + m) cs ≡ take (k + m) bs = ap (λ i. take i cs) (sym both) ∙ front ∙ ap (λ i. take i bs) both in
    let first = piece_alike x cs bs (less_alike cs bs k (k + m) (omega arith) all) in
    let step : (xs : List ℕ) → drop ((entry_blocks x + blocks_in (take n es)) * 4096) xs ≡ drop m (drop k xs) = λ xs. ap (λ i. drop i xs) both ∙ sym (drop-drop m k xs) in
    let behind' : take (blocks_in (drop (suc n) es) * 4096) (drop (entry_blocks e * 4096) (drop m (drop k cs))) ≡ take (blocks_in (drop (suc n) es) * 4096) (drop (entry_blocks (get_or es n None) * 4096) (drop m (drop k bs)))
    = ap (λ ys. take (blocks_in (drop (suc n) es) * 4096) (drop (entry_blocks e * 4096) ys)) (sym (step cs)) ∙ behind ∙ ap (λ ys. take (blocks_in (drop (suc n) es) * 4096) (drop (entry_blocks (get_or es n None) * 4096) ys)) (step bs) in
    let rest = pieces_set es (drop k bs) (drop k cs) n e (omega (arith, lt)) (later_alike cs bs k m all) behind' in
    let there = ap (piece_of e) (step cs) in
    cc

-- the file of a number
pub pieces_get : (es : List (Option Entry)) (bs : List ℕ) (n : ℕ) → get_or (pieces es bs) n None ≡ piece_of (get_or es n None) (drop (blocks_in (take n es) * 4096) bs)
pieces_get [] bs n = refl
pieces_get (x ∷ es) bs zero = refl
pieces_get (x ∷ es) bs (suc n) =
    let k = entry_blocks x * 4096 in
    let m = blocks_in (take n es) * 4096 in
    let both : (entry_blocks x + blocks_in (take n es)) * 4096 ≡ k + m = omega arith in
    pieces_get es (drop k bs) n ∙ ap (piece_of (get_or es n None)) (drop-drop m k bs ∙ ap (λ i. drop i bs) (sym both))

-- blocks in front of a number, its own, and those after it
pub blocks_split : (es : List (Option Entry)) (n : ℕ) → n < length es → blocks_in (take n es) + (entry_blocks (get_or es n None) + blocks_in (drop (suc n) es)) ≡ blocks_in es
blocks_split [] n lt = absurd (omega arith)
blocks_split (x ∷ es) zero lt = omega arith
blocks_split (x ∷ es) (suc n) lt = omega (arith, blocks_split es n (omega (arith, lt)))

pub blocks_take : (es : List (Option Entry)) (n : ℕ) → blocks_in (take n es) ≤ blocks_in es
blocks_take es zero = omega arith
blocks_take [] (suc n) = omega arith
blocks_take (x ∷ es) (suc n) = omega (arith, blocks_take es n)

-- the blocks in front of a number and its own are among all
pub blocks_before : (es : List (Option Entry)) (n : ℕ) → n < length es → blocks_in (take n es) + entry_blocks (get_or es n None) ≤ blocks_in es
blocks_before es n lt = omega (arith, blocks_split es n lt)

pub blocks_one : (es : List (Option Entry)) (n : ℕ) → n < length es → entry_blocks (get_or es n None) ≤ blocks_in es
blocks_one es n lt = omega (arith, blocks_split es n lt)

pub blocks_set : (es : List (Option Entry)) (n : ℕ) (e : Option Entry) → n < length es → blocks_in (set es n e) + entry_blocks (get_or es n None) ≡ blocks_in es + entry_blocks e
blocks_set [] n e lt = absurd (omega arith)
blocks_set (x ∷ es) zero e lt = omega arith
blocks_set (x ∷ es) (suc n) e lt = omega (arith, blocks_set es n e (omega (arith, lt)))

pub blocks_free : (n : ℕ) → blocks_in (replicate n None) ≡ 0
blocks_free zero = refl
blocks_free (suc n) = omega (arith, blocks_free n)

pub pieces_free : (n : ℕ) (bs : List ℕ) → pieces (replicate n None) bs ≡ replicate n None
pieces_free zero bs = refl
pieces_free (suc n) bs = ap (λ r. None ∷ r) (pieces_free n (drop (0 * 4096) bs))

-- the files take the blocks that their lengths take
pub file_blocks_of : (e : Option Entry) (bs : List ℕ) → entry_blocks e * 4096 ≤ length bs → file_blocks (piece_of e bs) ≡ entry_blocks e
file_blocks_of None bs h = refl
file_blocks_of (Some e) bs h = ap blocks_of (length-take-le e.len bs (omega (arith, within_blocks e.len, h)))

pub use_pieces : (es : List (Option Entry)) (bs : List ℕ) → blocks_in es * 4096 ≤ length bs → use_of (pieces es bs) ≡ blocks_in es
use_pieces [] bs h = refl
use_pieces (e ∷ es) bs h =
    let k = entry_blocks e * 4096 in
    let first = file_blocks_of e bs (omega (arith, h)) in
    let rest = use_pieces es (drop k bs) (omega (arith, h, length_drop bs k)) in
    cc
  where
    length_drop : (xs : List ℕ) (k : ℕ) → length (drop k xs) + k ≡ length xs + (k - length xs)
    length_drop xs zero = omega arith
    length_drop [] (suc k) = omega arith
    length_drop (x ∷ xs) (suc k) = omega (arith, length_drop xs k)

pub use_set : (fs : List (Option ScratchFile)) (n : ℕ) (f : Option ScratchFile) → n < length fs → use_of (set fs n f) + file_blocks (get_or fs n None) ≡ use_of fs + file_blocks f
use_set [] n f lt = absurd (omega arith)
use_set (x ∷ fs) zero f lt = omega arith
use_set (x ∷ fs) (suc n) f lt = omega (arith, use_set fs n f (omega (arith, lt)))

-- ---- names

pub named_alike : (name : List ℕ) (e : Option Entry) (bs : List ℕ) → has_name name (piece_of e bs) ≡ is_named name e
named_alike name None bs = refl
named_alike name (Some e) bs = refl

pub free_alike : (e : Option Entry) (bs : List ℕ) → is_none (piece_of e bs) ≡ is_none e
free_alike None bs = refl
free_alike (Some e) bs = refl

pub name_piece : (e : Option Entry) (bs : List ℕ) → option_map (λ f. f.name) (piece_of e bs) ≡ option_map (λ x. x.name) e
name_piece None bs = refl
name_piece (Some e) bs = refl

-- as many at the front that don't pass
pub prefix_alike : (p : Option ScratchFile → Bool) (q : Option Entry → Bool) → ((e : Option Entry) (bs : List ℕ) → p (piece_of e bs) ≡ q e) → (es : List (Option Entry)) (bs : List ℕ) → prefix_len (λ f. not (p f)) (pieces es bs) ≡ prefix_len (λ e. not (q e)) es
prefix_alike p q same [] bs = refl
prefix_alike p q same (e ∷ es) bs = rw (same e bs, prefix_alike p q same es (drop (entry_blocks e * 4096) bs)) refl

pub position_alike : (p : Option ScratchFile → Bool) (q : Option Entry → Bool) → ((e : Option Entry) (bs : List ℕ) → p (piece_of e bs) ≡ q e) → (es : List (Option Entry)) (bs : List ℕ) → position p (pieces es bs) ≡ position q es
position_alike p q same es bs = rw (prefix_alike p q same es bs, length_pieces es bs) refl

pub find_pieces : (name : List ℕ) (es : List (Option Entry)) (bs : List ℕ) → position (has_name name) (pieces es bs) ≡ position (is_named name) es
find_pieces name es bs = position_alike (has_name name) (is_named name) (named_alike name) es bs

pub free_pieces : (es : List (Option Entry)) (bs : List ℕ) → position is_none (pieces es bs) ≡ position is_none es
free_pieces es bs = position_alike is_none is_none free_alike es bs

-- ---- of a map

pub find_in : (m : ScratchMap) (b : ℕ) (es : List (Option Entry)) (bs : List ℕ) (name : List ℕ) → map_of b es bs ≡ m → find_file m name ≡ position (is_named name) es
find_in m b es bs name e = rw (← e) (find_pieces name es bs)

pub free_in : (m : ScratchMap) (b : ℕ) (es : List (Option Entry)) (bs : List ℕ) → map_of b es bs ≡ m → free_number m ≡ position is_none es
free_in m b es bs e = rw (← e) (free_pieces es bs)
