-- A memory by its pages.
use Rattle.std.proofs.Common.{◌≡◌, ℕ, zero, suc, ◌+◌, ◌*◌, ◌-◌, ◌/◌, ◌%◌, ◌<◌, ◌≤◌, ◌^◌, List, [], ◌∷◌, ◌++◌, length, get_or, set, take, drop, replicate, refl, ap, sym, ◌∙◌, subst, arith, rules, true, false, Bool, cond, leb, length-append, Option, Result, Ok, Err, min, ⊎_elim, lit<, inl, inr}
use Rattle.std.specs.Prelude.{if◌then◌else◌, unwrap_or}
use Rattle.std.specs.List.{splice, count_by}
use Rattle.std.proofs.lemmas.List.{map-append, length-replicate, replicate-append-replicate, get_or-replicate, get_or-append_right, get_or_append_left}
use Rattle.std.proofs.lemmas.List.Concat.{flat_map-append}
use Rattle.std.proofs.lemmas.Bool.Decides.{nat_tests}
use Rattle.std.proofs.lemmas.Bool.{cases_lt}
use Rattle.std.proofs.Math.Nat.{pow-le-pow_right, pow-succ'}
use Rattle.std.proofs.lemmas.List.Sums.{count_by_more_yes, count_by_more_no}
use Rattle.std.specs.Int.{w64, to_le_bytes}
use Rattle.std.specs.Prelude.{ℤ, pos, negsuc}
use Rattle.core_memory.proofs.Numbers.{next_byte}
use Rattle.core_memory.specs.declared.fault.StoreFault.{StoreFault}
use Rattle.core_memory.specs.declared.fault.StoreFault.TheVariants.{Trap, NoMemory}
use Rattle.core_memory.specs.Number.{number, bytes_of, IsWidth}
use Rattle.core_memory.specs.Page.{Content, zeros}
use Rattle.core_memory.specs.Pages.{bytes_in, made_in, linear, Edits, IsPaged, IsMemory}
use Rattle.core_memory.specs.Linear.{Linear, fresh, loaded, written, touched, pages_of, MakesSome, RunsOut, Grows, Writes, Moves, range, size, can_grow, grown, made_of}
use Rattle.core_memory.specs.Replaced.{replaced, repeated}
use Rattle.core_memory.proofs.Contents.{length_zeros, made_bytes}
use Rattle.core_memory.proofs.Parts.{replaced_none}
use Rattle.core_memory.proofs.Sequence.{length_bytes_in, length_made_in, read_piece, edited, made_at, length_page, length_repeated, split_at, front_len}
use Rattle.core_memory.proofs.Marks.{touched_is, mark_same}
use Rattle.core_memory.proofs.Turns.{length_part}

pub linear_bytes : (ps : List Content) (max : Option ℕ) (m : Linear) → linear ps max ≡ m → IsMemory ps → length m.bytes ≡ 65536 * length ps
linear_bytes ps max m e w = ap (λ (v : Linear). length v.bytes) (sym e) ∙ length_bytes_in ps w.paged

pub linear_size : (ps : List Content) (max : Option ℕ) (m : Linear) → linear ps max ≡ m → size m ≡ length ps
linear_size ps max m e = ap (λ (v : Linear). size v) (sym e) ∙ length_made_in ps

pub linear_few : (ps : List Content) → IsMemory ps → length ps < 4294967296
linear_few ps w = w.few

pub linear_short : (ps : List Content) (max : Option ℕ) (m : Linear) → linear ps max ≡ m → IsMemory ps → length m.bytes < 281474976710656
linear_short ps max m e w = let n = linear_bytes ps max m e w in let few = w.few in omega arith

pub linear_made : (ps : List Content) (max : Option ℕ) (m : Linear) → linear ps max ≡ m → made_of m ≡ count_by (λ made. made) (made_in ps)
linear_made ps max m e = ap (λ (v : Linear). made_of v) (sym e)

-- pages that are not made
abbrev pub blank : Content
blank = record { bytes = zeros 65536; made = false }

zeros_add : (m n : ℕ) → zeros m ++ zeros n ≡ zeros (m + n)
unfolding zeros
zeros_add m n = replicate-append-replicate m n 0

zeros_none : zeros 0 ≡ []
unfolding zeros
zeros_none = refl

bytes_blank : (n : ℕ) → bytes_in (replicate n blank) ≡ zeros (65536 * n)
bytes_blank zero = sym zeros_none
bytes_blank (suc n) = ap (λ (v : List ℕ). zeros 65536 ++ v) (bytes_blank n) ∙ zeros_add 65536 (65536 * n) ∙ ap (λ k. zeros k) (omega arith)

made_blank : (n : ℕ) → made_in (replicate n blank) ≡ replicate n false
made_blank zero = refl
made_blank (suc n) = ap (λ (v : List Bool). false ∷ v) (made_blank n)

paged_blank : (n : ℕ) → IsPaged (replicate n blank)
paged_blank n = record { each = λ k d lt. let e = length-replicate n blank in ap (λ (p : Content). length p.bytes) (get_or-replicate n k blank d (omega arith)) ∙ length_zeros 65536 }

paged_append : (ps qs : List Content) → IsPaged ps → IsPaged qs → IsPaged (ps ++ qs)
paged_append ps qs w v = record {
  each = λ k d lt.
      let n = length-append ps qs in
      ⊎_elim (λ low. ap (λ (p : Content). length p.bytes) (get_or_append_left ps qs d k low) ∙ w.each k d low)
      (λ high. ap (λ (p : Content). length p.bytes) (get_or-append_right ps qs (length ps) k d refl high) ∙ v.each (k - length ps) d (omega arith)) (cases_lt k (length ps));
}

pub linear_fresh : (qs : List Content) (n : ℕ) (max : Option ℕ) → qs ≡ [] ++ replicate n blank → linear qs max ≡ fresh n max
linear_fresh qs n max e = ap (λ (v : List Content). linear v max) e ∙ ap (λ (v : List ℕ). record { bytes = v; made = made_in (replicate n blank); max = max }) (bytes_blank n) ∙ ap (λ (v : List Bool). record { bytes = zeros (65536 * n); made = v; max = max }) (made_blank n)

pub memory_fresh : (qs : List Content) (n : ℕ) → n < 4294967296 → qs ≡ [] ++ replicate n blank → IsMemory qs
memory_fresh qs n few e = subst (λ (v : List Content). IsMemory v) (sym e) (record { paged = paged_blank n; few = (let k = length-replicate n blank in omega arith) })

pub linear_grown : (ps qs : List Content) (max : Option ℕ) (m : Linear) (n : ℕ) → linear ps max ≡ m → qs ≡ ps ++ replicate n blank → linear qs max ≡ grown m n
linear_grown ps qs max m n e new =
    ap (λ (v : List Content). linear v max) new
    ∙ ap (λ (v : List ℕ). record { bytes = v; made = made_in (ps ++ replicate n blank); max = max }) (flat_map-append (λ (p : Content). p.bytes) ps (replicate n blank) ∙ ap (λ (v : List ℕ). bytes_in ps ++ v) (bytes_blank n))
    ∙ ap (λ (v : List Bool). record { bytes = bytes_in ps ++ zeros (65536 * n); made = v; max = max }) (map-append (λ (p : Content). p.made) ps (replicate n blank) ∙ ap (λ (v : List Bool). made_in ps ++ v) (made_blank n))
    ∙ ap (λ (v : Linear). grown v n) e

pub memory_grown : (ps qs : List Content) (n : ℕ) → IsMemory ps → length ps + n < 4294967296 → qs ≡ ps ++ replicate n blank → IsMemory qs
memory_grown ps qs n w few e =
    subst (λ (v : List Content). IsMemory v) (sym e)
    (record { paged = paged_append ps (replicate n blank) w.paged (paged_blank n); few = (let k = length-replicate n blank in let j = length-append ps (replicate n blank) in omega arith) })

pub grow_no : (m : Linear) (n most : ℕ) → most ≡ min (unwrap_or m.max 4096) 4096 → most < size m + n → can_grow m n ≡ false
grow_no m n most e lt = grind (arith, nat_tests)

pub grow_yes : (m : Linear) (n most : ℕ) → most ≡ min (unwrap_or m.max 4096) 4096 → size m + n ≤ most → can_grow m n ≡ true
grow_yes m n most e le = grind (arith, nat_tests)

-- loads
width_some : (width : ℕ) → IsWidth width → 0 < width
width_some width w = grind arith

loaded_within : (m : Linear) (at width : ℕ) → at + width ≤ length m.bytes → loaded m at width ≡ Ok (number (take width (drop at m.bytes)))
loaded_within m at width le = let e : leb (at + width) (length m.bytes) ≡ true = grind (arith, nat_tests) in ap (λ b. cond b (Ok (number (take width (drop at m.bytes)))) (Err (record {}))) e

pub loaded_past : (m : Linear) (at width : ℕ) → length m.bytes < at + width → loaded m at width ≡ Err (record {})
loaded_past m at width lt = let e : leb (at + width) (length m.bytes) ≡ false = grind (arith, nat_tests) in ap (λ b. cond b (Ok (number (take width (drop at m.bytes)))) (Err (record {}))) e

pub loaded_slowly : (ps : List Content) (max : Option ℕ) (m : Linear) (at width : ℕ) → linear ps max ≡ m → at + width ≤ length m.bytes → loaded m at width ≡ Ok (number (take width (drop at (bytes_in ps))))
loaded_slowly ps max m at width e le = loaded_within m at width le ∙ ap (λ (v : Linear). Ok (number (take width (drop at v.bytes)))) (sym e)

pub loaded_page : (ps : List Content) (max : Option ℕ) (m : Linear) (at width : ℕ) (p : Content) (r : List ℕ) → linear ps max ≡ m → IsMemory ps → IsWidth width → at / 65536 < length ps → p ≡ get_or ps (at / 65536) p → r ≡ (if p.made then p.bytes else []) → at % 65536 + width ≤ length r → loaded m at width ≡ Ok (number (take width (drop (at % 65536) r)))
loaded_page ps max m at width p r e w is lt here shown le =
    let some = width_some width is in
    let both = made_bytes p.made p.bytes r (at % 65536) shown (omega arith) in
    let n = length_page ps (at / 65536) p w.paged lt here in
    let k : length r ≡ length p.bytes = ap length both.1 in
    let whole = linear_bytes ps max m e w in
    loaded_slowly ps max m at width e (omega arith) ∙ ap (λ (v : List ℕ). Ok (number v)) (read_piece ps at width p w.paged lt (omega arith) here ∙ ap (λ (v : List ℕ). take width (drop (at % 65536) v)) (sym both.1))

-- writes
pub length_bytes_of : (width n : ℕ) → length (bytes_of width n) ≡ width
length_bytes_of zero n = refl
length_bytes_of (suc width) n = ap suc (length_bytes_of width (n / 256))

pub memory_edited : (ps qs : List Content) (at : ℕ) (xs : List ℕ) → Edits ps qs at xs → length ps < 4294967296 → IsMemory qs
memory_edited ps qs at xs e few = record { paged = e.paged; few = (let n = e.count in omega arith) }

pub memory_made : (ps qs : List Content) → IsMemory ps → length qs ≡ length ps → IsPaged qs → IsMemory qs
memory_made ps qs w n paged = record { paged = paged; few = (let few = w.few in omega arith) }

pub written_pages : (ps qs rs : List Content) (max : Option ℕ) (m : Linear) (at : ℕ) (xs : List ℕ) → linear ps max ≡ m → bytes_in qs ≡ bytes_in ps → made_in qs ≡ touched (made_in ps) at (length xs) → Edits qs rs at xs → linear rs max ≡ written m at xs
written_pages ps qs rs max m at xs e bytes made edit =
    ap (λ (v : List ℕ). record { bytes = v; made = made_in rs; max = max }) (edit.bytes ∙ ap (λ (v : List ℕ). replaced v at xs) bytes)
    ∙ ap (λ (v : List Bool). record { bytes = replaced (bytes_in ps) at xs; made = v; max = max }) (edit.made ∙ made) ∙ ap (λ (v : Linear). written v at xs) e

pub written_none : (m : Linear) (at : ℕ) (xs : List ℕ) → length xs ≡ 0 → m ≡ written m at xs
written_none m at [] e = ap (λ (v : List ℕ). record { bytes = v; made = m.made; max = m.max }) (sym (replaced_none m.bytes at))
written_none m at (x ∷ xs) e = absurd (omega arith)

pub pages_run_out : (ps qs : List Content) (max : Option ℕ) (m : Linear) (at len : ℕ) → linear ps max ≡ m → 0 < len → bytes_in qs ≡ bytes_in ps → MakesSome (made_in ps) (made_in qs) (at / 65536) (pages_of at len) → RunsOut m (linear qs max) at len
pages_run_out ps qs max m at len e some bytes made = subst (λ (v : Linear). RunsOut v (linear qs max) at len) e (record { bytes = bytes; max = refl; some = some; made = made })

pub filled_pages : (ps qs rs : List Content) (max : Option ℕ) (m : Linear) (at len x : ℕ) → linear ps max ≡ m → bytes_in qs ≡ bytes_in ps → made_in qs ≡ touched (made_in ps) at len → Edits qs rs at (repeated len x) → linear rs max ≡ written m at (repeated len x)
filled_pages ps qs rs max m at len x e bytes made edit = written_pages ps qs rs max m at (repeated len x) e bytes (made ∙ ap (λ n. touched (made_in ps) at n) (sym (length_repeated len x))) edit

pub filled_none : (m : Linear) (at len x : ℕ) → len ≡ 0 → m ≡ written m at (repeated len x)
filled_none m at len x e = written_none m at (repeated len x) (length_repeated len x ∙ e)

pub copied_pages : (ps qs rs : List Content) (max : Option ℕ) (m : Linear) (to from len : ℕ) → linear ps max ≡ m → from + len ≤ length m.bytes → bytes_in qs ≡ bytes_in ps → made_in qs ≡ touched (made_in ps) to len → Edits qs rs to (take len (drop from (bytes_in qs))) → linear rs max ≡ written m to (range m from len)
copied_pages ps qs rs max m to from len e le bytes made edit =
    let part : take len (drop from (bytes_in qs)) ≡ range m from len = ap (λ (v : List ℕ). take len (drop from v)) bytes ∙ ap (λ (v : Linear). range v from len) e in
    written_pages ps qs rs max m to (range m from len) e bytes (made ∙ ap (λ n. touched (made_in ps) to n) (sym (length_part m.bytes from len le))) (subst (λ (v : List ℕ). Edits qs rs to v) part edit)

pub copied_none : (m : Linear) (to from len : ℕ) → len ≡ 0 → m ≡ written m to (range m from len)
copied_none m to from len e = written_none m to (range m from len) (ap (λ n. length (range m from n)) e)

-- an integer written on a page that is made
page_made : (ps : List Content) (at width : ℕ) (p : Content) → at / 65536 < length ps → 0 < width → at % 65536 + width ≤ 65536 → p ≡ get_or ps (at / 65536) p → p.made ≡ true → made_in ps ≡ touched (made_in ps) at width
page_made ps at width p lt some le here made =
    let n = length_made_in ps in
    let one : pages_of at width ≡ 1 = omega arith in
    let there : get_or (made_in ps) (at / 65536) false ≡ true = made_at ps (at / 65536) p lt ∙ ap (λ (v : Content). v.made) (sym here) ∙ made in
    sym (touched_is (made_in ps) at width some ∙ ap (λ k. replaced (made_in ps) (at / 65536) (replicate k true)) one ∙ mark_same (made_in ps) (at / 65536) (omega arith) there)

edited_page : (ps : List Content) (at width value : ℕ) (p q : Content) → IsMemory ps → at / 65536 < length ps → at % 65536 + width ≤ 65536 → p ≡ get_or ps (at / 65536) p → q ≡ record p { bytes = splice p.bytes (at % 65536) (at % 65536 + width) (bytes_of width value) } → Edits ps (set ps (at / 65536) q) at (bytes_of width value)
edited_page ps at width value p q w lt le here new =
    let n = length_bytes_of width value in
    edited ps at p q (bytes_of width value) w.paged lt (omega arith) here
    (ap (λ (v : Content). v.bytes) new ∙ ap (λ k. splice p.bytes (at % 65536) (at % 65536 + k) (bytes_of width value)) (sym n)) (ap (λ (v : Content). v.made) new)

pub stored_page : (ps : List Content) (max : Option ℕ) (m : Linear) (at width value : ℕ) (p q : Content) → linear ps max ≡ m → IsMemory ps → IsWidth width → at / 65536 < length ps → at % 65536 + width ≤ 65536 → p ≡ get_or ps (at / 65536) p → p.made ≡ true
    → q ≡ record p { bytes = splice p.bytes (at % 65536) (at % 65536 + width) (bytes_of width value) } → Writes m (linear (set ps (at / 65536) q) max) at (bytes_of width value) (Ok tt)
stored_page ps max m at width value p q e w is lt le here made new =
    let some = width_some width is in
    let n = length_bytes_of width value in
    let whole = linear_bytes ps max m e w in
    (omega arith, written_pages ps ps (set ps (at / 65536) q) max m at (bytes_of width value) e refl (page_made ps at width p lt some le here made ∙ ap (λ k. touched (made_in ps) at k) (sym n)) (edited_page ps at width value p q w lt le here new))

pub memory_stored : (ps : List Content) (at width value : ℕ) (p q : Content) → IsMemory ps → at / 65536 < length ps → at % 65536 + width ≤ 65536 → p ≡ get_or ps (at / 65536) p → q ≡ record p { bytes = splice p.bytes (at % 65536) (at % 65536 + width) (bytes_of width value) } → IsMemory (set ps (at / 65536) q)
memory_stored ps at width value p q w lt le here new = memory_edited ps (set ps (at / 65536) q) at (bytes_of width value) (edited_page ps at width value p q w lt le here new) w.few

-- a single byte
pub byte_of_page : (ps : List Content) (at : ℕ) (p : Content) → IsPaged ps → at / 65536 < length ps → p ≡ get_or ps (at / 65536) p → get_or (bytes_in ps) at 0 ≡ get_or p.bytes (at % 65536) 0
byte_of_page ps at p w lt here =
    let i = at / 65536 in
    let n = length_page ps i p w lt here in
    let front = front_len ps i w (omega arith) in
    let same = ap (λ (v : Content). length v.bytes) here in
    ap (λ (v : List ℕ). get_or v at 0) (split_at ps i p lt)
    ∙ get_or-append_right (bytes_in (take i ps)) ((get_or ps i p).bytes ++ bytes_in (drop (suc i) ps)) (65536 * i) at 0 front (omega arith)
    ∙ get_or_append_left (get_or ps i p).bytes (bytes_in (drop (suc i) ps)) 0 (at - 65536 * i) (omega arith)
    ∙ ap (λ (v : Content). get_or v.bytes (at - 65536 * i) 0) (sym here) ∙ ap (λ k. get_or p.bytes k 0) (omega arith)

zero_at : (n k : ℕ) → k < n → get_or (zeros n) k 0 ≡ 0
unfolding zeros
zero_at n k lt = get_or-replicate n k 0 0 lt

pub byte_of_blank : (ps : List Content) (at : ℕ) (p : Content) → IsPaged ps → at / 65536 < length ps → p ≡ get_or ps (at / 65536) p → p.bytes ≡ zeros 65536 → get_or (bytes_in ps) at 0 ≡ 0
byte_of_blank ps at p w lt here blank = byte_of_page ps at p w lt here ∙ ap (λ (v : List ℕ). get_or v (at % 65536) 0) blank ∙ zero_at 65536 (at % 65536) (omega arith)

pub filled_run_out : (ps qs : List Content) (max : Option ℕ) (m : Linear) (at len x : ℕ) → linear ps max ≡ m → 0 < len → bytes_in qs ≡ bytes_in ps → MakesSome (made_in ps) (made_in qs) (at / 65536) (pages_of at len) → RunsOut m (linear qs max) at (length (repeated len x))
filled_run_out ps qs max m at len x e some bytes made = subst (λ n. RunsOut m (linear qs max) at n) (sym (length_repeated len x)) (pages_run_out ps qs max m at len e some bytes made)

-- growing
pub grow_done : (m new : Linear) (n : ℕ) (answer : ℤ) → can_grow m n ≡ true → answer ≡ pos (size m) → new ≡ grown m n → Grows m new n (Ok answer)
grow_done m new n answer can e after = (e ∙ ap (λ b. cond b (pos (size m)) (negsuc 0)) (sym can), after ∙ ap (λ b. cond b (grown m n) m) (sym can))

-- the lowest bytes of an integer
le1 : (n : ℕ) → take 1 (to_le_bytes w64 n) ≡ bytes_of 1 n
le1 n = search rules

le2 : (n : ℕ) → take 2 (to_le_bytes w64 n) ≡ bytes_of 2 n
le2 n = search rules

le4 : (n : ℕ) → take 4 (to_le_bytes w64 n) ≡ bytes_of 4 n
le4 n = search rules

le8 : (n : ℕ) → take 8 (to_le_bytes w64 n) ≡ bytes_of 8 n
le8 n = search rules

pub low_bytes : (width n : ℕ) → IsWidth width → take width (to_le_bytes w64 n) ≡ bytes_of width n
low_bytes width n is =
    let P : ℕ → Type 0 = λ w. take w (to_le_bytes w64 n) ≡ bytes_of w n in
    ⊎_elim (λ e. subst P (sym e) (le1 n)) (λ r. ⊎_elim (λ e. subst P (sym e) (le2 n)) (λ s. ⊎_elim (λ e. subst P (sym e) (le4 n)) (λ e. subst P (sym e) (le8 n)) s) r) is

-- an integer whose bytes are read one by one
pub next_number : (bs : List ℕ) (at width b r : ℕ) → at + width ≤ length bs → 0 < width → b ≡ get_or bs at 0 → r ≡ number (take (width - 1) (drop (at + 1) bs)) → b + 256 * r ≡ number (take width (drop at bs))
next_number bs at width b r le some byte rest =
    let n = next_byte bs at (at + 1) (width - 1) (omega arith) refl in
    let e : suc (width - 1) ≡ width = omega arith in
    ap (λ k. k + 256 * r) byte ∙ ap (λ k. get_or bs at 0 + 256 * k) rest ∙ sym n ∙ ap (λ k. number (take k (drop at bs))) e

pub next_fits : (width b r : ℕ) → 0 < width → b < 256 → r < 256 ^ (width - 1) → b + 256 * r < 256 ^ width
next_fits width b r some byte rest =
    let e : suc (width - 1) ≡ width = omega arith in
    let p : 256 ^ suc (width - 1) ≡ 256 * 256 ^ (width - 1) = pow-succ' 256 (width - 1) in
    subst (λ k. b + 256 * r < 256 ^ k) e (subst (λ (k : ℕ). b + 256 * r < k) (sym p) (omega arith))

pub short_fits : (width r : ℕ) → width ≤ 8 → 0 < width → r < 256 ^ (width - 1) → r < 72057594037927936
short_fits width r le some lt = let p : 256 ^ (width - 1) ≤ 256 ^ 7 = pow-le-pow_right {n = 256} (lit< tt) {i = width - 1} {j = 7} (omega arith) in omega (arith, p)

-- a page more is counted
pub count_yes : (ps : List Content) (i : ℕ) (p : Content) → i < length ps → p ≡ get_or ps i p → p.made ≡ true → count_by (λ made. made) (take (i + 1) (made_in ps)) ≡ count_by (λ made. made) (take i (made_in ps)) + 1
count_yes ps i p lt here made = let n = length_made_in ps in count_by_more_yes (λ m. m) (made_in ps) i false (omega arith) (made_at ps i p lt ∙ ap (λ (v : Content). v.made) (sym here) ∙ made)

pub count_no : (ps : List Content) (i : ℕ) (p : Content) → i < length ps → p ≡ get_or ps i p → p.made ≡ false → count_by (λ made. made) (take (i + 1) (made_in ps)) ≡ count_by (λ made. made) (take i (made_in ps))
count_no ps i p lt here made = let n = length_made_in ps in count_by_more_no (λ m. m) (made_in ps) i false (omega arith) (made_at ps i p lt ∙ ap (λ (v : Content). v.made) (sym here) ∙ made)

-- the greatest number of pages, by the memory's own maximum
pub most_of : (ps : List Content) (max : Option ℕ) (m : Linear) (most : ℕ) → linear ps max ≡ m → most ≡ min (unwrap_or max 4096) 4096 → most ≡ min (unwrap_or m.max 4096) 4096
most_of ps max m most e is = is ∙ ap (λ (v : Linear). min (unwrap_or v.max 4096) 4096) e

pub written_low : (old new : Linear) (at width value : ℕ) (r : Result (Unit {0}) StoreFault) → IsWidth width → Writes old new at (take width (to_le_bytes w64 value)) r → Writes old new at (bytes_of width value) r
written_low old new at width value r is w = subst (λ (v : List ℕ). Writes old new at v r) (low_bytes width value is) w

-- a write of a part of a source
pub moved : (source : List ℕ) (old new : Linear) (to from len : ℕ) (v : List ℕ) (r : Result (Unit {0}) StoreFault) → from + len ≤ length source → v ≡ take len (drop from source) → Writes old new to v r → Moves source old new to from len r
moved source old new to from len v (Ok done) le e w =
    let n : length v ≡ len = ap length e ∙ length_part source from len le in
    (le, (let a = w.0 in omega arith), w.1 ∙ ap (λ (x : List ℕ). written old to x) e)
moved source old new to from len v (Err Trap) le e w =
    let n : length v ≡ len = ap length e ∙ length_part source from len le in
    (inr (let a = w.0 in omega arith), w.1)
moved source old new to from len v (Err NoMemory) le e w =
    let n : length v ≡ len = ap length e ∙ length_part source from len le in
    (le, (let a = w.0 in omega arith), subst (λ k. RunsOut old new to k) n w.1)

pub moved_past : (source : List ℕ) (m : Linear) (to from len : ℕ) → length source < from + len → Moves source m m to from len (Err Trap)
moved_past source m to from len lt = (inl lt, refl)

-- the bytes of a place, by the pages
pub linear_range : (ps : List Content) (max : Option ℕ) (m : Linear) (at len : ℕ) → linear ps max ≡ m → take len (drop at (bytes_in ps)) ≡ range m at len
linear_range ps max m at len e = ap (λ (v : Linear). range v at len) e
