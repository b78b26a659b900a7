-- Reading content of a stated size, as a cursor over a part of the bytes does.
use Rattle.std.proofs.Common.{◌≡◌, ℕ, ◌+◌, ◌≤◌, ◌<◌, false, ltb, eqb, List, [], ◌∷◌, length, take, drop, Ok, Err, refl, ap, ◌∙◌, arith}
use Rattle.std.proofs.lemmas.Bool.{le-ltb}
use Rattle.std.proofs.Math.Dec.{eqb-suc-zero}
use Rattle.std.proofs.lemmas.List.{length-drop, length-take, drop-take, drop-drop}
use Rattle.wasm_format.specs.declared.stop.Stop.{Stop}
use Rattle.wasm_format.specs.declared.stop.Stop.TheVariants.{NoMemory, Malformed, Unsupported, TooNested}
use Rattle.wasm_format.specs.Format.{Format, ◌>>=◌, whole, read_within}
use Rattle.wasm_format.specs.Reads.{Fails}

whole_short : {A : Type 0} (end : ℕ) (after : List ℕ) (x : A) (at : ℕ) (left : List ℕ) → 0 < length left → whole end after (x, record { at = at; rest = left }) ≡ Err Malformed
whole_short end after x at [] h = absurd (omega (arith, h))
whole_short end after x at (b ∷ left) h =
    let e : eqb (length (b ∷ left)) 0 ≡ false = eqb-suc-zero (length left) in
    rw e refl

whole_done : {A : Type 0} (end : ℕ) (after : List ℕ) (x : A) (at : ℕ) (left : List ℕ) → length left ≡ 0 → whole end after (x, record { at = at; rest = left }) ≡ Ok (x, record { at = end; rest = after })
whole_done end after x at left h = rw h refl

inside : {A : Type 0} (F : Format A) (bytes : List ℕ) (a size : ℕ) → a + size ≤ length bytes
    → read_within F size (record { at = a; rest = drop a bytes }) ≡ (F.read (record { at = a; rest = drop a (take (a + size) bytes) }) >>= λ x. whole (a + size) (drop size (drop a bytes)) x)
inside F bytes a size le =
    let long : ltb (length (drop a bytes)) size ≡ false = le-ltb _ _ (omega (arith, length-drop a bytes)) in
    rw (long, drop-take a size bytes) refl

pub within_err : {A : Type 0} (F : Format A) (e : Stop) (bytes : List ℕ) (a size : ℕ) → a + size ≤ length bytes → Fails e (F.read (record { at = a; rest = drop a (take (a + size) bytes) })) → Fails e (read_within F size (record { at = a; rest = drop a bytes }))
within_err F NoMemory bytes a size le h = tt
within_err F Malformed bytes a size le h = inside F bytes a size le ∙ rw h refl
within_err F TooNested bytes a size le h = inside F bytes a size le ∙ rw h refl
within_err F (Unsupported at b) bytes a size le h = inside F bytes a size le ∙ rw h refl

pub within_short : {A : Type 0} (F : Format A) (bytes other : List ℕ) (a size at : ℕ) (x : A) → a + size ≤ length bytes → other ≡ take (a + size) bytes → at < a + size → F.read (record { at = a; rest = drop a (take (a + size) bytes) }) ≡ Ok (x, record { at = at; rest = drop at other })
    → read_within F size (record { at = a; rest = drop a bytes }) ≡ Err Malformed
within_short F bytes other a size at x le same lt h =
    inside F bytes a size le ∙ rw h (whole_short (a + size) (drop size (drop a bytes)) x at (drop at other) (omega (arith, length-drop at other, ap length same, length-take (a + size) bytes)))

pub within_ok : {A : Type 0} (F : Format A) (bytes other : List ℕ) (a size at : ℕ) (x : A) → a + size ≤ length bytes → other ≡ take (a + size) bytes → at ≡ a + size → F.read (record { at = a; rest = drop a (take (a + size) bytes) }) ≡ Ok (x, record { at = at; rest = drop at other })
    → read_within F size (record { at = a; rest = drop a bytes }) ≡ Ok (x, record { at = a + size; rest = drop (a + size) bytes })
within_ok {A} F bytes other a size at x le same e h =
    let done : whole (a + size) (drop size (drop a bytes)) (x, record { at = at; rest = drop at other }) ≡ Ok (x, record { at = a + size; rest = drop size (drop a bytes) }) = whole_done (a + size) (drop size (drop a bytes)) x at (drop at other) (omega (arith, length-drop at other, ap length same, length-take (a + size) bytes)) in
    let read : read_within F size (record { at = a; rest = drop a bytes }) ≡ Ok (x, record { at = a + size; rest = drop size (drop a bytes) }) = inside F bytes a size le ∙ rw h done in
    read ∙ ap (λ (z : List ℕ). Ok (x, record { at = a + size; rest = z })) (drop-drop size a bytes)
