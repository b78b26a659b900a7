-- Code that may be written, put together.
use Rattle.std.proofs.Common.{◌≡◌, ℕ, ◌+◌, ◌*◌, ◌<◌, ◌≤◌, Bool, true, false, List, [], ◌∷◌, ◌++◌, length, refl, sym, ap, subst, ◌∙◌, arith, append_assoc, length-append}
use Rattle.wasm_format.specs.Sections.{write_parts}
use Rattle.wasm_format.specs.Until.{UntilFits}
use Rattle.wasm_ast.specs.declared.instr.BlockType.TheVariants.{Empty}
use Rattle.wasm_ast.specs.declared.instr.Instr.{Instr}
use Rattle.wasm_ast.specs.declared.instr.Instr.TheVariants.{Block, Loop, If, Else, End}
use Rattle.wasm_ast.specs.Instructions.{instr}
use Rattle.wasm_ast.specs.Expressions.{Open, after_instr, nested}
use Rattle.adapter_bytes.specs.Spelled.{IsSpelledIn}
use Rattle.adapter_bytes.proofs.Instructions.{IsShort, block_bracket, loop_bracket, if_bracket, end_bracket, else_fits, else_few}

pub nothing : IsSpelledIn 0 []
nothing = record { fits = λ b o rest h. h; few = λ b o rest. omega arith }

pub wider : (m n : ℕ) (code : List Instr) → m ≤ n → IsSpelledIn m code → IsSpelledIn n code
wider m n code le s = record { fits = s.fits; few = λ b o rest. omega (arith, le, s.few b o rest) }

pub joined : (m n : ℕ) (x y : List Instr) → IsSpelledIn m x → IsSpelledIn n y → IsSpelledIn (m + n) (x ++ y)
joined m n x y s t = record {
  fits = λ b o rest h. subst (UntilFits nested (b ∷ o)) (sym (append_assoc x y rest)) (s.fits b o (y ++ rest) (t.fits b o rest h));
  few = λ b o rest. omega (arith, ap (λ l. length (write_parts nested (b ∷ o) l)) (append_assoc x y rest), s.few b o (y ++ rest), t.few b o rest);
}

-- an instruction in front
pub in_front : (i : Instr) (n : ℕ) (code : List Instr) → IsShort i → IsSpelledIn n code → IsSpelledIn (11 + n) (i ∷ code)
unfolding nested
in_front i n code s t = record {
  fits = λ b o rest h. (refl, s.fits b, subst (λ p. UntilFits nested p (code ++ rest)) (sym (s.stays (b ∷ o))) (t.fits b o rest h));
  few = λ b o rest.
      let same = ap (λ p. length (write_parts nested p (code ++ rest))) (s.stays (b ∷ o)) in
      omega (arith, same, length-append ((instr b).write i) (write_parts nested (after_instr (b ∷ o) i) (code ++ rest)), s.few b, t.few b o rest);
}

-- ---- brackets

-- after a body stands the end of its bracket
closed_fits : (n : ℕ) (body : List Instr) → IsSpelledIn n body → (c b : Bool) (o : Open) (rest : List Instr) → UntilFits nested (b ∷ o) rest → UntilFits nested (c ∷ b ∷ o) ((body ++ End ∷ []) ++ rest)
unfolding nested
closed_fits n body s c b o rest h = subst (UntilFits nested (c ∷ b ∷ o)) (sym (append_assoc body (End ∷ []) rest)) (s.fits c (b ∷ o) (End ∷ rest) (refl, end_bracket.fits c, h))

closed_few : (n : ℕ) (body : List Instr) → IsSpelledIn n body → (c b : Bool) (o : Open) (rest : List Instr) → length (write_parts nested (c ∷ b ∷ o) ((body ++ End ∷ []) ++ rest)) ≤ 2 + n + length (write_parts nested (b ∷ o) rest)
unfolding nested
closed_few n body s c b o rest =
    omega (arith, ap (λ l. length (write_parts nested (c ∷ b ∷ o) l)) (append_assoc body (End ∷ []) rest), s.few c (b ∷ o) (End ∷ rest), length-append ((instr c).write End) (write_parts nested (b ∷ o) rest), end_bracket.few c)

pub in_block : (n : ℕ) (body : List Instr) → IsSpelledIn n body → IsSpelledIn (4 + n) (Block Empty ∷ (body ++ End ∷ []))
unfolding nested
in_block n body s = record {
  fits = λ b o rest h. (refl, block_bracket.fits b, closed_fits n body s false b o rest h);
  few = λ b o rest. omega (arith, length-append ((instr b).write (Block Empty)) (write_parts nested (false ∷ b ∷ o) ((body ++ End ∷ []) ++ rest)), block_bracket.few b, closed_few n body s false b o rest);
}

pub in_loop : (n : ℕ) (body : List Instr) → IsSpelledIn n body → IsSpelledIn (4 + n) (Loop Empty ∷ (body ++ End ∷ []))
unfolding nested
in_loop n body s = record {
  fits = λ b o rest h. (refl, loop_bracket.fits b, closed_fits n body s false b o rest h);
  few = λ b o rest. omega (arith, length-append ((instr b).write (Loop Empty)) (write_parts nested (false ∷ b ∷ o) ((body ++ End ∷ []) ++ rest)), loop_bracket.few b, closed_few n body s false b o rest);
}

pub in_if : (n : ℕ) (body : List Instr) → IsSpelledIn n body → IsSpelledIn (4 + n) (If Empty ∷ (body ++ End ∷ []))
unfolding nested
in_if n body s = record {
  fits = λ b o rest h. (refl, if_bracket.fits b, closed_fits n body s true b o rest h);
  few = λ b o rest. omega (arith, length-append ((instr b).write (If Empty)) (write_parts nested (true ∷ b ∷ o) ((body ++ End ∷ []) ++ rest)), if_bracket.few b, closed_few n body s true b o rest);
}

pub in_choice : (m n : ℕ) (first other : List Instr) → IsSpelledIn m first → IsSpelledIn n other → IsSpelledIn (6 + m + n) (If Empty ∷ (first ++ Else ∷ (other ++ End ∷ [])))
unfolding nested
in_choice m n first other s t = record {
  fits = λ b o rest h.
      (refl, if_bracket.fits b, subst (UntilFits nested (true ∷ b ∷ o)) (sym (append_assoc first (Else ∷ (other ++ End ∷ [])) rest)) (s.fits true (b ∷ o) (Else ∷ ((other ++ End ∷ []) ++ rest)) (refl, else_fits, closed_fits n other t false b o rest h)));
  few = λ b o rest.
      let tail : List Instr = (other ++ End ∷ []) ++ rest in
      let whole : List Instr = (first ++ Else ∷ (other ++ End ∷ [])) ++ rest in
      omega (arith, length-append ((instr b).write (If Empty)) (write_parts nested (true ∷ b ∷ o) whole), if_bracket.few b, ap (λ l. length (write_parts nested (true ∷ b ∷ o) l)) (append_assoc first (Else ∷ (other ++ End ∷ [])) rest), s.few true (b ∷ o) (Else ∷ tail), length-append ((instr true).write Else) (write_parts nested (false ∷ b ∷ o) tail), else_few, closed_few n other t false b o rest);
}
