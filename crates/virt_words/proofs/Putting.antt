-- Texts that are put one after another.
use Rattle.std.proofs.Common.{◌≡◌, ℕ, ◌+◌, ◌≤◌, ◌<◌, List, [], ◌++◌, length, take, drop, get_or, min, true, false, Result, Ok, Err, refl, ap, sym, subst, ◌∙◌, append_assoc, append-nil, arith}
use Rattle.std.specs.Prelude.{IsErr, OnOk, OnErr}
use Rattle.std.proofs.lemmas.Bool.{ltb-false, le-ltb}
use Rattle.std.proofs.lemmas.List.{take_min, take-append-le, length-append, drop_more, drop_all}
use Rattle.std.proofs.Math.Seq.{take-append-add}
use Rattle.outside.specs.Sink.{SinkState, is_full, Puts}
use Rattle.outside.specs.declared.sink.PutFailed.{PutFailed}
use Rattle.virt_words.specs.Lines.{cut, text_of, PutsAll}

-- nothing was put yet
pub puts_nothing : (s : SinkState) → PutsAll [] s s (Ok tt)
puts_nothing s = record {
  later = omega arith;
  told = refl;
  steady = λ h. h;
  room = refl;
  cause = tt;
  ok = λ told. sym (append-nil s.bytes);
  failed = tt;
  quiet = λ told steady fits. (refl, refl);
}

on_err : {P Q : Type 0} (r : Result (Unit {0}) PutFailed) → (P → Q) → OnErr r P → OnErr r Q
on_err (Ok x) f h = tt
on_err (Err e) f h = f h

on_ok : {P Q : Type 0} (r : Result (Unit {0}) PutFailed) → (P → Q) → OnOk r P → OnOk r Q
on_ok (Ok x) f h = f h
on_ok (Err e) f h = tt

-- a text with another in front of it fits where both do
fits_of : (s : SinkState) (a b : List ℕ) → is_full s (a ++ b) ≡ false → length s.bytes + (length a + length b) ≤ s.room
fits_of s a b e = omega (arith, ltb-false _ _ e, length-append a b)

front_fits : (s : SinkState) (a b : List ℕ) → is_full s (a ++ b) ≡ false → is_full s a ≡ false
front_fits s a b e = le-ltb _ _ (omega (arith, fits_of s a b e))

back_fits : (s t : SinkState) (a b : List ℕ) → is_full s (a ++ b) ≡ false → t.room ≡ s.room → t.bytes ≡ s.bytes ++ a → is_full t b ≡ false
back_fits s t a b e room bytes =
    let long : length t.bytes ≡ length s.bytes + length a = ap length bytes ∙ length-append s.bytes a in
    le-ltb _ _ (omega (arith, fits_of s a b e, room, long))

joined : (a b c : List ℕ) (x y : List ℕ) → x ≡ a ++ b → y ≡ x ++ c → y ≡ a ++ (b ++ c)
joined a b c x y is then = then ∙ ap (λ z. z ++ c) is ∙ append_assoc a b c

-- one more text
pub puts_then : (a b : List ℕ) (s t u : SinkState) (r : Result (Unit {0}) PutFailed) → PutsAll a s t (Ok tt) → Puts b t u r → PutsAll (a ++ b) s u r
puts_then a b s t u r p q =
    let told_t = λ (told : s.told ≡ true). p.told ∙ told in
    record {
      later = omega (arith, p.later, q.later);
      told = q.told ∙ p.told;
      steady = λ h. q.steady (p.steady h);
      room = q.room ∙ p.room;
      cause = on_err r (λ rose. omega (arith, p.later, rose)) q.cause;
      ok = on_ok r (λ k told. joined s.bytes a b t.bytes u.bytes (p.ok told) (k (told_t told))) q.ok;
      failed = on_err r (λ k told.
          let left = k (told_t told) in
          (length a + left.0, joined s.bytes a (take left.0 b) t.bytes u.bytes (p.ok told) left.1 ∙ ap (λ z. s.bytes ++ z) (sym (take-append-add a b left.0)))) q.failed;
      quiet = λ told steady fits.
          let first = p.quiet told steady (front_fits s a b fits) in
          let room = back_fits s t a b fits p.room (p.ok told) in
          (q.quiet (told_t told) (p.steady steady) room ∙ first.0, q.fails (told_t told) (p.steady steady) ∙ room);
    }

true_false : true ≡ false → ⊥
true_false h = cc

take_front : (k : ℕ) (a b : List ℕ) → take k a ≡ take (min k (length a)) (a ++ b)
take_front k a b = let fits : min k (length a) ≤ length a = omega arith in sym (take-append-le (min k (length a)) a b fits ∙ take_min k a)

-- a text that was broken off is the front of all that was due
pub puts_broken : (a b : List ℕ) (s t : SinkState) (e : PutFailed) (r : Result (Unit {0}) PutFailed) → IsErr r → PutsAll a s t (Err e) → PutsAll (a ++ b) s t r
puts_broken a b s t e (Ok x) h p = absurd cc
puts_broken a b s t e (Err f) h p = record {
  later = p.later;
  told = p.told;
  steady = p.steady;
  room = p.room;
  cause = p.cause;
  ok = tt;
  failed = λ told. let left = p.failed told in (min left.0 (length a), left.1 ∙ ap (λ z. s.bytes ++ z) (take_front left.0 a b));
  quiet = λ told steady fits. absurd (true_false (p.quiet told steady (front_fits s a b fits)).1);
}

-- ---- lines that are cut off a text, one after another

pub cut_next : (sizes : List ℕ) (i : ℕ) (rest : List ℕ) → i < length sizes
    → text_of (cut (drop i sizes) rest) ≡ take (get_or sizes i 0) rest ++ text_of (cut (drop (i + 1) sizes) (drop (get_or sizes i 0) rest))
cut_next sizes i rest h = ap (λ xs. text_of (cut xs rest)) (drop_more sizes i 0 h)

-- no line is left
pub cut_end : (sizes : List ℕ) (i : ℕ) (rest : List ℕ) → length sizes ≤ i → text_of (cut (drop i sizes) rest) ≡ []
cut_end sizes i rest h = ap (λ xs. text_of (cut xs rest)) (drop_all i sizes h)

-- So much of a text was put, and this is left of it.
pub record PutSoFar (all : List ℕ) (s t : SinkState) (left : List ℕ) : Type 0 where
  pub done : List ℕ
  pub put : PutsAll done s t (Ok tt)
  pub is : all ≡ done ++ left

pub put_nothing : (all : List ℕ) (s : SinkState) → PutSoFar all s s all
put_nothing all s = record { done = []; put = puts_nothing s; is = refl }

pub put_next : (all line bytes left : List ℕ) (s t u : SinkState) → bytes ≡ line → PutSoFar all s t (line ++ left) → Puts bytes t u (Ok tt) → PutSoFar all s u left
put_next all line bytes left s t u same p q = record {
  done = p.done ++ line;
  put = subst (λ z. PutsAll (p.done ++ z) s u (Ok tt)) same (puts_then p.done bytes s t u (Ok tt) p.put q);
  is = p.is ∙ sym (append_assoc p.done line left);
}

pub put_broken : (all line bytes left : List ℕ) (s t u : SinkState) (e : PutFailed) (r : Result (Unit {0}) PutFailed) → bytes ≡ line → IsErr r → PutSoFar all s t (line ++ left) → Puts bytes t u (Err e) → PutsAll all s u r
put_broken all line bytes left s t u e r same bad p q =
    let first = subst (λ z. PutsAll (p.done ++ z) s u (Err e)) same (puts_then p.done bytes s t u (Err e) p.put q) in
    subst (λ z. PutsAll z s u r) (append_assoc p.done line left ∙ sym p.is) (puts_broken (p.done ++ line) left s u e r bad first)

pub put_all : (all left : List ℕ) (s t : SinkState) → left ≡ [] → PutSoFar all s t left → PutsAll all s t (Ok tt)
put_all all left s t none p = subst (λ z. PutsAll z s t (Ok tt)) (sym (p.is ∙ ap (λ z. p.done ++ z) none ∙ append-nil p.done)) p.put
