-- Which pages are made.
use Rattle.std.proofs.Common.{◌≡◌, ℕ, ◌+◌, ◌*◌, ◌-◌, ◌/◌, ◌<◌, ◌≤◌, List, ◌++◌, length, get_or, set, take, drop, replicate, refl, ap, sym, ◌∙◌, subst, arith, true, false, Bool, cond, eqb, length-take-le, length-set}
use Rattle.std.proofs.lemmas.List.{length-replicate, get_or-replicate, get_or-drop, get_or_append_left, get_or-append_right, set-get_or}
use Rattle.std.proofs.lemmas.List.Edits.{fill_from_more, paste_all}
use Rattle.std.proofs.lemmas.Bool.Decides.{nat_tests}
use lib.Seq.{paste}
use Rattle.core_memory.specs.Replaced.{replaced}
use Rattle.core_memory.specs.Linear.{touched, pages_of, MakesSome}
use Rattle.core_memory.specs.Page.{Content}
use Rattle.core_memory.specs.Pages.{Ready, bytes_in, made_in, IsPaged}
use Rattle.core_memory.proofs.Parts.{replaced_none}
use Rattle.core_memory.proofs.Sequence.{same_bytes, same_made, set_made, made_at, length_made_in, paged_set}

-- that many pages from the first on are made
abbrev marked : List Bool → ℕ → ℕ → List Bool
marked m a n = replaced m a (replicate n true)

is_paste : (m : List Bool) (a n : ℕ) → marked m a n ≡ paste m a (replicate n true) n
is_paste m a n = let k = length-replicate n true in ap (λ j. take a m ++ (replicate n true ++ drop (a + j) m)) k ∙ sym (paste_all m a (replicate n true) n (sym k))

pub mark_more : (m : List Bool) (a n : ℕ) → a + n < length m → set (marked m a n) (a + n) true ≡ marked m a (n + 1)
mark_more m a n lt = ap (λ (v : List Bool). set v (a + n) true) (is_paste m a n) ∙ fill_from_more m a n true lt ∙ sym (is_paste m a (n + 1))

pub mark_at : (m : List Bool) (a n k : ℕ) → a ≤ length m → a ≤ k → k < a + n → get_or (marked m a n) k false ≡ true
mark_at m a n k le low high =
    let front : length (take a m) ≡ a = length-take-le a m le in
    let size = length-replicate n true in
    get_or-append_right (take a m) (replicate n true ++ drop (a + length (replicate n true)) m) a k false front low
    ∙ get_or_append_left (replicate n true) (drop (a + length (replicate n true)) m) false (k - a) (omega arith)
    ∙ get_or-replicate n (k - a) true false (omega arith)

pub mark_after : (m : List Bool) (a n k : ℕ) → a ≤ length m → a + n ≤ k → get_or (marked m a n) k false ≡ get_or m k false
mark_after m a n k le low =
    let front : length (take a m) ≡ a = length-take-le a m le in
    let size = length-replicate n true in
    get_or-append_right (take a m) (replicate n true ++ drop (a + length (replicate n true)) m) a k false front (omega arith)
    ∙ get_or-append_right (replicate n true) (drop (a + length (replicate n true)) m) n (k - a) false size (omega arith)
    ∙ get_or-drop (a + length (replicate n true)) m (k - a - n) false ∙ ap (λ j. get_or m j false) (omega arith)

pub touched_is : (m : List Bool) (at len : ℕ) → 0 < len → touched m at len ≡ marked m (at / 65536) (pages_of at len)
touched_is m at len lt = let e : eqb len 0 ≡ false = grind (arith, nat_tests) in ap (λ b. cond b m (marked m (at / 65536) (pages_of at len))) e

pub ready_marked : (m : List Bool) (at len : ℕ) → 0 < len → at / 65536 ≤ length m → Ready (marked m (at / 65536) (pages_of at len)) at len
ready_marked m at len some le = record { each = λ place low high. mark_at m (at / 65536) (pages_of at len) (place / 65536) le (omega arith) (omega arith) }

-- a page that is made stays so
pub mark_same : (m : List Bool) (a : ℕ) → a < length m → get_or m a false ≡ true → marked m a 1 ≡ m
mark_same m a lt made =
    sym (mark_more m a 0 (omega arith)) ∙ ap (λ (v : List Bool). set v (a + 0) true) (replaced_none m a) ∙ ap (λ j. set m j true) (omega arith) ∙ ap (set m a) (sym made) ∙ set-get_or m a false

-- some pages of a memory from the first on were made
pub record Making (ps qs : List Content) (first n : ℕ) : Type 0 where
  pub bytes : bytes_in qs ≡ bytes_in ps
  pub len : length qs ≡ length ps
  pub paged : IsPaged qs
  pub made : made_in qs ≡ replaced (made_in ps) first (replicate n true)

pub making_none : (ps : List Content) (first n : ℕ) → IsPaged ps → n ≡ 0 → Making ps ps first n
making_none ps first n w e = record { bytes = refl; len = refl; paged = w; made = sym (ap (λ j. replaced (made_in ps) first (replicate j true)) e ∙ replaced_none (made_in ps) first) }

pub making_more : (ps qs : List Content) (first n m i : ℕ) (p q : Content) → i < length ps → i ≡ first + n → m ≡ n + 1 → Making ps qs first n → p ≡ get_or qs i p → q ≡ record p { made = true } → length p.bytes ≡ 65536 → Making ps (set qs i q) first m
making_more ps qs first n m i p q lt e em w here new size =
    let shown : q.bytes ≡ p.bytes = ap (λ (v : Content). v.bytes) new in
    let within = w.len in
    let many = length_made_in ps in
    record {
      bytes = same_bytes qs i p q (omega arith) (shown ∙ ap (λ (v : Content). v.bytes) here) ∙ w.bytes;
      len = length-set qs i q ∙ w.len;
      paged = paged_set qs i q w.paged (ap length shown ∙ size);
      made = set_made qs i q ∙ ap (λ (v : List Bool). set v i q.made) w.made ∙ ap (λ b. set (marked (made_in ps) first n) i b) (ap (λ (v : Content). v.made) new)
          ∙ ap (λ j. set (marked (made_in ps) first n) j true) e ∙ mark_more (made_in ps) first n (omega arith) ∙ ap (λ j. marked (made_in ps) first j) (sym em);
    }

-- where a page's memory was not there the pages are as before it
pub making_same : (ps qs : List Content) (first n i : ℕ) (p q : Content) → i < length ps → Making ps qs first n → p ≡ get_or qs i p → q ≡ p → length p.bytes ≡ 65536 → Making ps (set qs i q) first n
making_same ps qs first n i p q lt w here new size =
    let within = w.len in
    record {
      bytes = same_bytes qs i p q (omega arith) (ap (λ (v : Content). v.bytes) (new ∙ here)) ∙ w.bytes;
      len = length-set qs i q ∙ w.len;
      paged = paged_set qs i q w.paged (ap (λ (v : Content). length v.bytes) new ∙ size);
      made = same_made qs i p q (ap (λ (v : Content). v.made) (new ∙ here)) ∙ w.made;
    }

pub making_stops : (ps qs rs : List Content) (first n i count : ℕ) (p : Content) → i < length ps → i ≡ first + n → n < count → Making ps qs first n → Making ps rs first n → p ≡ get_or qs i p → p.made ≡ false → MakesSome (made_in ps) (made_in rs) first count
making_stops ps qs rs first n i count p lt e few w after here unmade =
    let within = w.len in
    let many = length_made_in ps in
    let missing : get_or (made_in ps) (first + n) false ≡ false =
    sym (mark_after (made_in ps) first n (first + n) (omega arith) (omega arith)) ∙ ap (λ (v : List Bool). get_or v (first + n) false) (sym w.made) ∙ ap (λ j. get_or (made_in qs) j false) (sym e)
    ∙ made_at qs i p (omega arith) ∙ ap (λ (v : Content). v.made) (sym here) ∙ unmade in
    record { some = (n, few, after.made, missing) }

pub making_done : (ps qs : List Content) (at len n : ℕ) → 0 < len → n ≡ pages_of at len → Making ps qs (at / 65536) n → made_in qs ≡ touched (made_in ps) at len
making_done ps qs at len n some e w = w.made ∙ ap (λ j. marked (made_in ps) (at / 65536) j) e ∙ sym (touched_is (made_in ps) at len some)

pub making_ready : (ps qs : List Content) (at len n : ℕ) → 0 < len → at + len ≤ 65536 * length ps → n ≡ pages_of at len → Making ps qs (at / 65536) n → Ready (made_in qs) at len
making_ready ps qs at len n some le e w =
    let many = length_made_in ps in
    subst (λ (v : List Bool). Ready v at len) (sym (w.made ∙ ap (λ j. marked (made_in ps) (at / 65536) j) e)) (ready_marked (made_in ps) at len some (omega arith))
