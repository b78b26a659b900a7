-- The pages of a memory, and the bytes that they show.
use Rattle.std.proofs.Common.{◌≡◌, ◌≢◌, ℕ, suc, ◌+◌, ◌*◌, ◌/◌, ◌%◌, ◌<◌, ◌≤◌, List, [], ◌∷◌, ◌++◌, length, get_or, set, take, drop, replicate, refl, ap, sym, ◌∙◌, subst, arith, length-append, length-drop, length-take-le, length-set, true, false, ⊎_elim}
use Rattle.std.proofs.lemmas.List.{set_split, map-set, get_or-take, get_or-set_same, get_or-set_other, set-get_or, length-take, length-map, get_or-map, set-set, set_comm, length-replicate, get_or_default}
use Rattle.std.proofs.lemmas.List.Concat.{flat_map-append}
use Rattle.std.proofs.lemmas.Bool.{cases_eq}
use Rattle.std.proofs.Math.Seq.{map-set_same}
use Rattle.std.specs.List.{splice}
use Rattle.core_memory.specs.Page.{Content}
use Rattle.core_memory.specs.Pages.{bytes_in, made_in, Edits, IsPaged}
use Rattle.core_memory.specs.Replaced.{replaced, repeated}
use Rattle.core_memory.proofs.Parts.{take_middle, replaced_middle, replaced_none, replaced_more, replaced_before, length_replaced}

paged_rest : (p : Content) (ps : List Content) → IsPaged (p ∷ ps) → IsPaged ps
paged_rest p ps w = record { each = λ k d lt. w.each (suc k) d (omega arith) }

pub length_bytes_in : (ps : List Content) → IsPaged ps → length (bytes_in ps) ≡ 65536 * length ps
length_bytes_in [] w = refl
length_bytes_in (p ∷ ps) w =
    let here : length p.bytes ≡ 65536 = w.each 0 p (omega arith) in
    let rest = length_bytes_in ps (paged_rest p ps w) in
    rw length-append (omega arith)

paged_take : (ps : List Content) (i : ℕ) → IsPaged ps → IsPaged (take i ps)
paged_take ps i w = record { each = λ k d lt. let n = length-take i ps in rw (get_or-take i ps k d (omega arith)) (w.each k d (omega arith)) }

-- the bytes of the pages before one
pub front_len : (ps : List Content) (i : ℕ) → IsPaged ps → i ≤ length ps → length (bytes_in (take i ps)) ≡ 65536 * i
front_len ps i w le = length_bytes_in (take i ps) (paged_take ps i w) ∙ ap (λ n. 65536 * n) (length-take-le i ps le)

split_set : (ps : List Content) (i : ℕ) (q : Content) → i < length ps → bytes_in (set ps i q) ≡ bytes_in (take i ps) ++ (q.bytes ++ bytes_in (drop (suc i) ps))
split_set ps i q lt = ap (λ qs. bytes_in qs) (set_split ps i q lt) ∙ flat_map-append (λ (p : Content). p.bytes) (take i ps) (q ∷ drop (suc i) ps)

pub split_at : (ps : List Content) (i : ℕ) (d : Content) → i < length ps → bytes_in ps ≡ bytes_in (take i ps) ++ ((get_or ps i d).bytes ++ bytes_in (drop (suc i) ps))
split_at ps i d lt = ap (λ qs. bytes_in qs) (sym (set-get_or ps i d)) ∙ split_set ps i (get_or ps i d) lt

-- bytes that lie on one page
pub read_page : (ps : List Content) (i off n at : ℕ) (d : Content) → IsPaged ps → i < length ps → at ≡ 65536 * i + off → off + n ≤ 65536 → take n (drop at (bytes_in ps)) ≡ take n (drop off (get_or ps i d).bytes)
read_page ps i off n at d w lt e le =
    let len = w.each i d lt in
    ap (λ xs. take n (drop at xs)) (split_at ps i d lt) ∙ ap (λ m. take n (drop m (bytes_in (take i ps) ++ ((get_or ps i d).bytes ++ bytes_in (drop (suc i) ps))))) e
    ∙ take_middle (bytes_in (take i ps)) (get_or ps i d).bytes (bytes_in (drop (suc i) ps)) (65536 * i) off n (front_len ps i w (omega arith)) (omega arith)

pub write_page : (ps : List Content) (i off at : ℕ) (d q : Content) (xs : List ℕ) → IsPaged ps → i < length ps → at ≡ 65536 * i + off → off + length xs ≤ 65536 → q.bytes ≡ replaced (get_or ps i d).bytes off xs → bytes_in (set ps i q) ≡ replaced (bytes_in ps) at xs
write_page ps i off at d q xs w lt e le new =
    let len = w.each i d lt in
    let whole = split_at ps i d lt in
    split_set ps i q lt ∙ ap (λ v. bytes_in (take i ps) ++ (v ++ bytes_in (drop (suc i) ps))) new
    ∙ sym (replaced_middle (bytes_in (take i ps)) (get_or ps i d).bytes (bytes_in (drop (suc i) ps)) (65536 * i) off xs (front_len ps i w (omega arith)) (omega arith))
    ∙ ap (λ v. replaced v (65536 * i + off) xs) (sym whole) ∙ ap (λ m. replaced (bytes_in ps) m xs) (sym e)

pub same_bytes : (ps : List Content) (i : ℕ) (d q : Content) → i < length ps → q.bytes ≡ (get_or ps i d).bytes → bytes_in (set ps i q) ≡ bytes_in ps
same_bytes ps i d q lt e = split_set ps i q lt ∙ ap (λ v. bytes_in (take i ps) ++ (v ++ bytes_in (drop (suc i) ps))) e ∙ sym (split_at ps i d lt)

pub same_made : (ps : List Content) (i : ℕ) (d q : Content) → q.made ≡ (get_or ps i d).made → made_in (set ps i q) ≡ made_in ps
same_made ps i d q e = map-set_same (λ (p : Content). p.made) ps i q d e

pub set_made : (ps : List Content) (i : ℕ) (q : Content) → made_in (set ps i q) ≡ set (made_in ps) i q.made
set_made ps i q = map-set (λ (p : Content). p.made) ps i q

pub made_at : (ps : List Content) (i : ℕ) (d : Content) → i < length ps → get_or (made_in ps) i false ≡ (get_or ps i d).made
made_at ps i d lt = get_or-map (λ (p : Content). p.made) ps i d false lt

pub length_made_in : (ps : List Content) → length (made_in ps) ≡ length ps
length_made_in ps = length-map ps (λ (p : Content). p.made)

pub paged_set : (ps : List Content) (i : ℕ) (q : Content) → IsPaged ps → length q.bytes ≡ 65536 → IsPaged (set ps i q)
paged_set ps i q w e = record {
  each = λ k d lt.
      let n = length-set ps i q in
      ⊎_elim (λ same. let h : i < length ps = omega arith in ap (λ (p : Content). length p.bytes) (ap (λ j. get_or (set ps i q) j d) same ∙ get_or-set_same ps i q d h) ∙ e) (λ other. rw (get_or-set_other ps i k q d other) (w.each k d (omega arith))) (cases_eq k i);
}

pub length_page : (ps : List Content) (i : ℕ) (p : Content) → IsPaged ps → i < length ps → p ≡ get_or ps i p → length p.bytes ≡ 65536
length_page ps i p w lt e = ap (λ (q : Content). length q.bytes) e ∙ w.each i p lt

-- an edit of one page
pub edited : (ps : List Content) (at : ℕ) (p q : Content) (xs : List ℕ) → IsPaged ps → at / 65536 < length ps → at % 65536 + length xs ≤ 65536 → p ≡ get_or ps (at / 65536) p → q.bytes ≡ replaced p.bytes (at % 65536) xs → q.made ≡ p.made → Edits ps (set ps (at / 65536) q) at xs
edited ps at p q xs w lt le here new made =
    let i = at / 65536 in
    let off = at % 65536 in
    let same = ap (λ (v : Content). v.bytes) here in
    let shown : q.bytes ≡ replaced (get_or ps i p).bytes off xs = new ∙ ap (λ (v : List ℕ). replaced v off xs) same in
    let len : length q.bytes ≡ 65536 = ap length new ∙ length_replaced p.bytes off xs (let n = length_page ps i p w lt here in omega arith) ∙ length_page ps i p w lt here in
    record {
      bytes = write_page ps i off at p q xs w lt (omega arith) le shown;
      made = same_made ps i p q (made ∙ ap (λ (v : Content). v.made) here);
      paged = paged_set ps i q w len;
      count = length-set ps i q;
    }

pub edits_none : (ps : List Content) (at : ℕ) → IsPaged ps → Edits ps ps at []
edits_none ps at w = record { bytes = sym (replaced_none (bytes_in ps) at); made = refl; paged = w; count = refl }

-- one edit above or below another is both at once
pub edits_more : (ps qs rs : List Content) (at k : ℕ) (xs ys : List ℕ) → IsPaged ps → at ≤ 65536 * length ps → k ≡ at + length xs → Edits ps qs at xs → Edits qs rs k ys → Edits ps rs at (xs ++ ys)
edits_more ps qs rs at k xs ys w le e a b =
    let n = length_bytes_in ps w in
    record {
      bytes = b.bytes ∙ ap (λ (v : List ℕ). replaced v k ys) a.bytes ∙ ap (λ m. replaced (replaced (bytes_in ps) at xs) m ys) e ∙ replaced_more (bytes_in ps) at xs ys (omega arith);
      made = b.made ∙ a.made;
      paged = b.paged;
      count = b.count ∙ a.count;
    }

pub edits_before : (ps qs rs : List Content) (at k : ℕ) (xs ys : List ℕ) → IsPaged ps → k ≤ 65536 * length ps → k ≡ at + length xs → Edits ps qs k ys → Edits qs rs at xs → Edits ps rs at (xs ++ ys)
edits_before ps qs rs at k xs ys w le e a b =
    let n = length_bytes_in ps w in
    record {
      bytes = b.bytes ∙ ap (λ (v : List ℕ). replaced v at xs) a.bytes ∙ replaced_before (bytes_in ps) at k xs ys e (omega arith);
      made = b.made ∙ a.made;
      paged = b.paged;
      count = b.count ∙ a.count;
    }

-- a page that is taken out while another one is written
pub put_back : (ps : List Content) (i j : ℕ) (blank p q : Content) → i ≢ j → p ≡ get_or ps i p → set (set (set ps i blank) j q) i p ≡ set ps j q
put_back ps i j blank p q other here =
    ap (λ (v : List Content). set v i p) (set_comm ps i j blank q other) ∙ set-set (set ps j q) i blank p ∙ sym (set_comm ps i j p q other)
    ∙ ap (λ (v : List Content). set v j q) (ap (set ps i) here ∙ set-get_or ps i p)

-- bytes that lie on one page
pub read_piece : (ps : List Content) (from len : ℕ) (p : Content) → IsPaged ps → from / 65536 < length ps → from % 65536 + len ≤ 65536 → p ≡ get_or ps (from / 65536) p → take len (drop from (bytes_in ps)) ≡ take len (drop (from % 65536) p.bytes)
read_piece ps from len p w lt le here =
    read_page ps (from / 65536) (from % 65536) len from p w lt (omega arith) le ∙ ap (λ (v : Content). take len (drop (from % 65536) v.bytes)) (sym here)

length_piece : (bs : List ℕ) (off len : ℕ) → off + len ≤ length bs → length (take len (drop off bs)) ≡ len
length_piece bs off len le = let n = length-drop off bs in length-take-le len (drop off bs) (omega arith)

-- a copy from a page to another, or to the same
pub copied : (ps : List Content) (to from len : ℕ) (p t q : Content) → IsPaged ps → to / 65536 < length ps → from / 65536 < length ps → to % 65536 + len ≤ 65536 → from % 65536 + len ≤ 65536
    → p ≡ get_or ps (from / 65536) p → t ≡ get_or ps (to / 65536) t → q.bytes ≡ replaced t.bytes (to % 65536) (take len (drop (from % 65536) p.bytes)) → q.made ≡ t.made → Edits ps (set ps (to / 65536) q) to (take len (drop from (bytes_in ps)))
copied ps to from len p t q w lt lf le fle source target new made =
    let n = length_page ps (from / 65536) p w lf source in
    let k = length_piece p.bytes (from % 65536) len (omega arith) in
    subst (λ (v : List ℕ). Edits ps (set ps (to / 65536) q) to v) (sym (read_piece ps from len p w lf fle source))
    (edited ps to t q (take len (drop (from % 65536) p.bytes)) w lt (omega arith) target new made)

pub copied_within : (ps : List Content) (to from len : ℕ) (p q : Content) → IsPaged ps → to / 65536 < length ps → to % 65536 + len ≤ 65536 → from % 65536 + len ≤ 65536 → to / 65536 ≡ from / 65536
    → p ≡ get_or ps (to / 65536) p → q ≡ record p { bytes = splice p.bytes (to % 65536) (to % 65536 + len) (take len (drop (from % 65536) p.bytes)) } → Edits ps (set ps (to / 65536) q) to (take len (drop from (bytes_in ps)))
copied_within ps to from len p q w lt le fle same here new =
    let n = length_page ps (to / 65536) p w lt here in
    let k = length_piece p.bytes (from % 65536) len (omega arith) in
    copied ps to from len p p q w lt (omega arith) le fle (here ∙ ap (λ i. get_or ps i p) same) here
    (ap (λ (v : Content). v.bytes) new ∙ ap (λ m. splice p.bytes (to % 65536) (to % 65536 + m) (take len (drop (from % 65536) p.bytes))) (sym k)) (ap (λ (v : Content). v.made) new)

pub copied_across : (ps : List Content) (to from len : ℕ) (blank p t q : Content) → IsPaged ps → to / 65536 < length ps → from / 65536 < length ps → to % 65536 + len ≤ 65536 → from % 65536 + len ≤ 65536 → to / 65536 ≢ from / 65536
    → p ≡ get_or ps (from / 65536) p → t ≡ get_or (set ps (from / 65536) blank) (to / 65536) t → q ≡ record t { bytes = replaced t.bytes (to % 65536) (take len (drop (from % 65536) p.bytes)) }
    → Edits ps (set (set (set ps (from / 65536) blank) (to / 65536) q) (from / 65536) p) to (take len (drop from (bytes_in ps)))
copied_across ps to from len blank p t q w lt lf le fle other source target new =
    subst (λ (v : List Content). Edits ps v to (take len (drop from (bytes_in ps)))) (sym (put_back ps (from / 65536) (to / 65536) blank p q (λ e. other (sym e)) source))
    (copied ps to from len p t q w lt lf le fle source (target ∙ get_or-set_other ps (from / 65536) (to / 65536) blank t other) (ap (λ (v : Content). v.bytes) new) (ap (λ (v : Content). v.made) new))

-- the page of a place is made
pub made_there : (ps : List Content) (at : ℕ) (p : Content) → at / 65536 < length ps → get_or (made_in ps) (at / 65536) false ≡ true → p ≡ get_or ps (at / 65536) p → p.made ≡ true
made_there ps at p lt made here = ap (λ (v : Content). v.made) here ∙ sym (made_at ps (at / 65536) p lt) ∙ made

pub length_repeated : (n x : ℕ) → length (repeated n x) ≡ n
unfolding repeated
length_repeated n x = length-replicate n x

pub filled : (ps : List Content) (at len x : ℕ) (p q : Content) → IsPaged ps → at / 65536 < length ps → at % 65536 + len ≤ 65536 → p ≡ get_or ps (at / 65536) p → q ≡ record p { bytes = splice p.bytes (at % 65536) (at % 65536 + len) (replicate len x) } → Edits ps (set ps (at / 65536) q) at (repeated len x)
unfolding repeated
filled ps at len x p q w lt le here new =
    let n = length-replicate len x in
    edited ps at p q (replicate len x) w lt (omega arith) here (ap (λ (v : Content). v.bytes) new ∙ ap (λ m. splice p.bytes (at % 65536) (at % 65536 + m) (replicate len x)) (sym n)) (ap (λ (v : Content). v.made) new)

-- the page of a place, read twice
pub same_page : (ps : List Content) (i : ℕ) (p q : Content) → i < length ps → p ≡ get_or ps i p → q ≡ get_or ps i q → p ≡ q
same_page ps i p q lt a b = a ∙ get_or_default ps i p q lt ∙ sym b
