-- Bytes added to a file, part after part.
use Rattle.std.proofs.Common.{◌≡◌, ℕ, ◌+◌, ◌-◌, ◌≤◌, List, [], ◌++◌, length, take, drop, min, true, false, Result, Ok, Err, refl, ap, sym, subst, ◌∙◌, append_assoc, arith, inl, inr}
use Rattle.std.specs.Prelude.{IsErr, Option, Some, None, ◌⊎◌, OnOk, OnErr, option_map}
use Rattle.std.proofs.lemmas.Bool.{ltb-false, le-ltb}
use Rattle.std.proofs.lemmas.List.{take_min, take-append-le, length-append, take-append-drop, take_all}
use Rattle.std.proofs.Math.Seq.{take-append-add, take-add}
use Rattle.outside.specs.Files.{FilesState, Held, Goes, with_file, with_more, no_room, is_over, Creates, Appends}
use Rattle.outside.specs.declared.files.WriteFailed.{WriteFailed}
use Rattle.outside.proofs.HeldLaws.{with_file_twice, file_there, with_more_with_file, with_more_nothing}
use Rattle.virt_engine.specs.Writing.{Adds, LeftOf, Writes}

-- ---- changes of one name

map_twice : (a b : List ℕ) (o : Option (List ℕ)) → option_map (λ old. old ++ b) (option_map (λ old. old ++ a) o) ≡ option_map (λ old. old ++ (a ++ b)) o
map_twice a b None = refl
map_twice a b (Some old) = ap (λ (z : List ℕ). Some z) (append_assoc old a b)

with_more-twice : (h : Held) (n a b : List ℕ) → with_more (with_more h n a) n b ≡ with_more h n (a ++ b)
with_more-twice h n a b =
    let first : Option (List ℕ) = option_map (λ old. old ++ a) (h.file n) in
    ap (λ (o : Option (List ℕ)). with_file (with_file h n first) n (option_map (λ old. old ++ b) o)) (file_there h n first)
    ∙ with_file_twice h n first (option_map (λ old. old ++ b) first)
    ∙ ap (λ (o : Option (List ℕ)). with_file h n o) (map_twice a b (h.file n))

-- ---- room

-- what there is where the room isn't passed
pub record Fits (h : Held) (n bytes : List ℕ) : Type 0 where
  pub old : List ℕ
  pub there : h.file n ≡ Some old
  pub short : length old + length bytes ≤ h.room n

fits_by : (room : ℕ) (more : ℕ) (o : Option (List ℕ)) → is_over room more o ≡ false → (old : List ℕ) × (o ≡ Some old) × (length old + more ≤ room)
fits_by room more None e = absurd cc
fits_by room more (Some old) e = (old, refl, ltb-false _ _ e)

pub fits_of : (h : Held) (n bytes : List ℕ) → no_room h n bytes ≡ false → Fits h n bytes
fits_of h n bytes e = let w = fits_by (h.room n) (length bytes) (h.file n) e in record { old = w.0; there = w.1; short = w.2 }

room_by : (room more : ℕ) (o : Option (List ℕ)) (old : List ℕ) → o ≡ Some old → length old + more ≤ room → is_over room more o ≡ false
room_by room more o old e le = rw e (le-ltb _ _ le)

pub room_of : (h : Held) (n bytes : List ℕ) → Fits h n bytes → no_room h n bytes ≡ false
room_of h n bytes f = room_by (h.room n) (length bytes) (h.file n) f.old f.there f.short

fits_front : (h : Held) (n a b : List ℕ) → Fits h n (a ++ b) → Fits h n a
fits_front h n a b f = record { old = f.old; there = f.there; short = omega (arith, f.short, length-append a b) }

fits_behind : (h : Held) (n a b : List ℕ) → Fits h n (a ++ b) → Fits (with_more h n a) n b
fits_behind h n a b f = record {
  old = f.old ++ a;
  there = file_there h n (option_map (λ old. old ++ a) (h.file n)) ∙ ap (λ (o : Option (List ℕ)). option_map (λ old. old ++ a) o) f.there;
  short = omega (arith, f.short, length-append a b, length-append f.old a);
}

-- ---- one part after another

pub goes_on : (s t u : FilesState) → Goes s t → Goes t u → Goes s u
goes_on s t u a b = record {
  later = omega (arith, a.later, b.later);
  told = b.told ∙ a.told;
  steady = λ h. b.steady (a.steady h);
}

on_err : {P Q : Type 0} (r : Result (Unit {0}) WriteFailed) → (P → Q) → OnErr r P → OnErr r Q
on_err (Ok x) f h = tt
on_err (Err e) f h = f h

on_ok : {P Q : Type 0} (r : Result (Unit {0}) WriteFailed) → (P → Q) → OnOk r P → OnOk r Q
on_ok (Ok x) f h = f h
on_ok (Err e) f h = tt

true_false : true ≡ false → ⊥
true_false h = cc

pub adds_of : (n bytes : List ℕ) (s t : FilesState) (r : Result (Unit {0}) WriteFailed) → Appends n bytes s t r → Adds n bytes s t r
adds_of n bytes s t r a = record {
  goes = a.goes;
  cause = a.cause;
  ok = a.ok;
  failed = a.failed;
  quiet = λ told steady fits. (a.steadily.quiet told steady fits, a.steadily.fails told steady ∙ fits);
}

-- the files as they are, when nothing was added yet
pub adds_nothing : (n : List ℕ) (s : FilesState) → Adds n [] s s (Ok tt)
adds_nothing n s = record {
  goes = record { later = omega arith; told = refl; steady = λ h. h };
  cause = tt;
  ok = λ told. with_more_nothing s.held n [];
  failed = tt;
  quiet = λ told steady fits. (refl, refl);
}

-- a prefix of the first part is one of both, and so is the first part with a prefix of the second
take_front : (k : ℕ) (a b : List ℕ) → take k a ≡ take (min k (length a)) (a ++ b)
take_front k a b = let fits : min k (length a) ≤ length a = omega arith in sym (take-append-le (min k (length a)) a b fits ∙ take_min k a)

take_back : (k : ℕ) (a b : List ℕ) → a ++ take k b ≡ take (length a + k) (a ++ b)
take_back k a b = sym (take-append-add a b k)

pub adds_then : (n a b : List ℕ) (s t u : FilesState) (r : Result (Unit {0}) WriteFailed) → Adds n a s t (Ok tt) → Adds n b t u r → Adds n (a ++ b) s u r
adds_then n a b s t u r p q =
    let told_t = λ (told : s.told ≡ true). p.goes.told ∙ told in
    record {
      goes = goes_on s t u p.goes q.goes;
      cause = on_err r (λ rose. omega (arith, p.goes.later, rose)) q.cause;
      ok = on_ok r (λ k told. k (told_t told) ∙ ap (λ (h : Held). with_more h n b) (p.ok told) ∙ with_more-twice s.held n a b) q.ok;
      failed = on_err r (λ k told.
          let left = k (told_t told) in
          (length a + left.0, left.1 ∙ ap (λ (h : Held). with_more h n (take left.0 b)) (p.ok told) ∙ with_more-twice s.held n a (take left.0 b) ∙ ap (λ (z : List ℕ). with_more s.held n z) (take_back left.0 a b))) q.failed;
      quiet = λ told steady fits.
          let all = fits_of s.held n (a ++ b) fits in
          let first = p.quiet told steady (room_of s.held n a (fits_front s.held n a b all)) in
          let there : no_room t.held n b ≡ false = subst (λ (h : Held). no_room h n b ≡ false) (sym (p.ok told)) (room_of (with_more s.held n a) n b (fits_behind s.held n a b all)) in
          let second = q.quiet (told_t told) (p.goes.steady steady) there in
          (second.0 ∙ first.0, second.1);
    }

-- a part that was not added whole is a part of all that was due
pub adds_broken : (n a b : List ℕ) (s t : FilesState) (e : WriteFailed) (r : Result (Unit {0}) WriteFailed) → IsErr r → Adds n a s t (Err e) → Adds n (a ++ b) s t r
adds_broken n a b s t e (Ok x) h p = absurd cc
adds_broken n a b s t e (Err f) h p = record {
  goes = p.goes;
  cause = p.cause;
  ok = tt;
  failed = λ told. let left = p.failed told in (min left.0 (length a), left.1 ∙ ap (λ (z : List ℕ). with_more s.held n z) (take_front left.0 a b));
  quiet = λ told steady fits.
      let bad = p.quiet told steady (room_of s.held n a (fits_front s.held n a b (fits_of s.held n (a ++ b) fits))) in
      absurd (true_false bad.1);
}

-- a file that was made, and what was added to it
pub writes_of : (n bytes : List ℕ) (s t u : FilesState) (r : Result (Unit {0}) WriteFailed) → Creates n s t (Ok tt) → Adds n bytes t u r → Writes n bytes s u r
writes_of n bytes s t u r p q =
    let told_t = λ (told : s.told ≡ true). p.goes.told ∙ told in
    record {
      goes = goes_on s t u p.goes q.goes;
      cause = on_err r (λ rose. omega (arith, p.goes.later, rose)) q.cause;
      ok = on_ok r (λ k told. k (told_t told) ∙ ap (λ (h : Held). with_more h n bytes) (p.ok told) ∙ with_more_with_file s.held n [] bytes) q.ok;
      failed = on_err r (λ k told.
          let left = k (told_t told) in
          inr (inr (left.0, left.1 ∙ ap (λ (h : Held). with_more h n (take left.0 bytes)) (p.ok told) ∙ with_more_with_file s.held n [] (take left.0 bytes)))) q.failed;
      quiet = λ told steady place room.
          let made = p.steadily.quiet told steady place in
          let there : Fits (with_file s.held n (Some [])) n bytes = record { old = []; there = file_there s.held n (Some []); short = omega (arith, room) } in
          let fits : no_room t.held n bytes ≡ false = subst (λ (h : Held). no_room h n bytes ≡ false) (sym (p.ok told)) (room_of (with_file s.held n (Some [])) n bytes there) in
          let added = q.quiet (told_t told) (p.goes.steady steady) fits in
          (added.0 ∙ made, added.1);
    }

left_of : (n bytes : List ℕ) (old new : Held) → (new ≡ old) ⊎ (new ≡ with_file old n None) ⊎ (new ≡ with_file old n (Some [])) → LeftOf n bytes old new
left_of n bytes old new w = elim w [ inl a ↦ inl a | inr v ↦ elim v [ inl b ↦ inr (inl b) | inr c ↦ inr (inr (0, c)) ] ]

pub writes_broken : (n bytes : List ℕ) (s t : FilesState) (e : WriteFailed) (r : Result (Unit {0}) WriteFailed) → IsErr r → Creates n s t (Err e) → Writes n bytes s t r
writes_broken n bytes s t e (Ok x) h p = absurd cc
writes_broken n bytes s t e (Err f) h p = record {
  goes = p.goes;
  cause = p.cause;
  ok = tt;
  failed = λ told. left_of n bytes s.held t.held (p.failed told);
  quiet = λ told steady place room. absurd (true_false (p.steadily.fails told steady ∙ place));
}

-- ---- pieces of one list

-- that many items from a place on
abbrev pub piece : ℕ → ℕ → List ℕ → List ℕ
piece i m bytes = take (i + m - i) (drop i bytes)

up_to : (i m : ℕ) (bytes : List ℕ) → take i bytes ++ piece i m bytes ≡ take (i + m) bytes
up_to i m bytes =
    let count : i + m - i ≡ m = omega arith in
    ap (λ (k : ℕ). take i bytes ++ take k (drop i bytes)) count ∙ sym (take-add i m bytes)

pub next_piece : (n : List ℕ) (i m : ℕ) (bytes : List ℕ) (s t u : FilesState) → Adds n (take i bytes) s t (Ok tt) → Appends n (piece i m bytes) t u (Ok tt) → Adds n (take (i + m) bytes) s u (Ok tt)
next_piece n i m bytes s t u p q = subst (λ (z : List ℕ). Adds n z s u (Ok tt)) (up_to i m bytes) (adds_then n (take i bytes) (piece i m bytes) s t u (Ok tt) p (adds_of n (piece i m bytes) t u (Ok tt) q))

pub broken_piece : (n : List ℕ) (i m : ℕ) (bytes : List ℕ) (s t u : FilesState) (e : WriteFailed) (r : Result (Unit {0}) WriteFailed) → IsErr r → Adds n (take i bytes) s t (Ok tt) → Appends n (piece i m bytes) t u (Err e) → Adds n bytes s u r
broken_piece n i m bytes s t u e r h p q =
    let joined = adds_then n (take i bytes) (piece i m bytes) s t u (Err e) p (adds_of n (piece i m bytes) t u (Err e) q) in
    let all : (take i bytes ++ piece i m bytes) ++ drop (i + m) bytes ≡ bytes = ap (λ (z : List ℕ). z ++ drop (i + m) bytes) (up_to i m bytes) ∙ take-append-drop (i + m) bytes in
    subst (λ (z : List ℕ). Adds n z s u r) all (adds_broken n (take i bytes ++ piece i m bytes) (drop (i + m) bytes) s u e r h joined)

pub all_pieces : (n : List ℕ) (i : ℕ) (bytes : List ℕ) (s t : FilesState) → length bytes ≤ i → Adds n (take i bytes) s t (Ok tt) → Adds n bytes s t (Ok tt)
all_pieces n i bytes s t le p = subst (λ (z : List ℕ). Adds n z s t (Ok tt)) (take_all i bytes le) p

-- ---- three parts

pub first_broken : (n a b c : List ℕ) (s t : FilesState) (e : WriteFailed) (r : Result (Unit {0}) WriteFailed) → IsErr r → Appends n a s t (Err e) → Adds n (a ++ (b ++ c)) s t r
first_broken n a b c s t e r h p = adds_broken n a (b ++ c) s t e r h (adds_of n a s t (Err e) p)

pub second_broken : (n a b c : List ℕ) (s t u : FilesState) (e : WriteFailed) (r : Result (Unit {0}) WriteFailed) → IsErr r → Appends n a s t (Ok tt) → Adds n b t u (Err e) → Adds n (a ++ (b ++ c)) s u r
second_broken n a b c s t u e r h p q =
    subst (λ (z : List ℕ). Adds n z s u r) (append_assoc a b c)
    (adds_broken n (a ++ b) c s u e r h (adds_then n a b s t u (Err e) (adds_of n a s t (Ok tt) p) q))

pub all_parts : (n a b c : List ℕ) (s t u v : FilesState) (r : Result (Unit {0}) WriteFailed) → Appends n a s t (Ok tt) → Adds n b t u (Ok tt) → Appends n c u v r → Adds n (a ++ (b ++ c)) s v r
all_parts n a b c s t u v r p q w =
    adds_then n a (b ++ c) s t v r (adds_of n a s t (Ok tt) p) (adds_then n b c t u v r q (adds_of n c u v r w))
