-- Rows by what a text leads to, and what becomes of the scratch folder.
use Rattle.std.proofs.Common.{◌≡◌, ◌≢◌, ℕ, ◌+◌, ◌<◌, ◌^◌, Bool, true, false, Option, Some, None, refl, ap, sym, ◌∙◌, arith}
use Rattle.std.specs.Prelude.{◌==◌, IfSome, option_map, unwrap_or, if◌then◌else◌}
use Rattle.wit_types.specs.PlainValue.{PlainValue}
use Rattle.tree_table.specs.Tables.{Forest}
use Rattle.tree_table.specs.Scratches.{ScratchMap}
use Rattle.reference_step.specs.Codes as code
use Rattle.reference_step.specs.Handles.{Content, ScratchOut}
use Rattle.reference_step.specs.Nodes.{Found, TheRoot, TheFile, Missing}
use Rattle.reference_step.specs.Descriptors.{in_scratch, stored}
use Rattle.reference_step.specs.OutputStreams.{wrote}
use Rattle.reference_step.specs.State.{Row as PlainRow, returns, fails, gives_ok, gives_ok_in, moves, stores, stores_and_moves}
use Rattle.reference_step.specs.Values.{done, closed}
use Rattle.ref_answers.specs.declared.row.Row.{Row}
use Rattle.ref_answers.specs.declared.row.Row.TheVariants.{Traps, Does}
use Rattle.ref_answers.specs.Shown.{shown}
use Rattle.ref_scratch.specs.Told.{told, settled}

-- ---- at what a text leads to

pub at_root : (x : Found) (root : PlainRow) (file : ℕ → PlainRow) → TheRoot ≡ x → in_scratch x root file ≡ root
at_root x root file is = ap (λ (y : Found). in_scratch y root file) (sym is)

pub at_file : (x : Found) (root : PlainRow) (file : ℕ → PlainRow) (n : ℕ) → TheFile n ≡ x → in_scratch x root file ≡ file n
at_file x root file n is = ap (λ (y : Found). in_scratch y root file) (sym is)

pub at_none : (x : Found) (root : PlainRow) (file : ℕ → PlainRow) (e : ℕ) → Missing e ≡ x → in_scratch x root file ≡ fails e
at_none x root file e is = ap (λ (y : Found). in_scratch y root file) (sym is)

-- ---- what becomes of the scratch folder

module _ (f : Forest) (row : Row) where
  -- it stays as it is
  pub told_same : (m : ScratchMap) (r : PlainRow) → shown f row ≡ r → told f row m ≡ settled m r
  told_same m r is = by row ∙ ap (settled m) is
    where
      by : (x : Row) → told f x m ≡ settled m (shown f x)
      by Traps = refl
      by (Does e) = refl

  module _ (old new : ScratchMap) where
    pub told_stores : (v : PlainValue) → shown f row ≡ returns v → told f row new ≡ settled old (stores new v)
    told_stores v is = told_same new (returns v) is

    pub told_gives : (c : Content) → shown f row ≡ gives_ok c → told f row new ≡ settled old (gives_ok_in new c)
    told_gives c is = told_same new (gives_ok c) is

    pub told_moves : (c : Content) (v : PlainValue) → shown f row ≡ moves c v → told f row new ≡ settled old (stores_and_moves new c v)
    told_moves c v is = told_same new (moves c v) is

    -- a change that the quota allows, or not
    pub told_stored : (o : Option ScratchMap) (v : PlainValue) → o ≡ Some new → shown f row ≡ returns v → told f row new ≡ settled old (stored o v)
    told_stored o v fits is = told_stores v is ∙ ap (λ x. settled old (stored x v)) (sym fits)

    pub told_full : (o : Option ScratchMap) (v : PlainValue) → o ≡ None → new ≡ old → shown f row ≡ fails code.insufficient_space → told f row new ≡ settled old (stored o v)
    told_full o v none same is = told_same new (fails code.insufficient_space) is ∙ ap (λ m. settled m (fails code.insufficient_space)) same ∙ ap (λ x. settled old (stored x v)) (sym none)

    -- where nothing is changed
    pub told_kept : (r : PlainRow) → new ≡ old → shown f row ≡ r → told f row new ≡ settled old r
    told_kept r same is = told_same new r is ∙ ap (λ m. settled m r) same

    -- to a stream, which moves where the quota allows it
    module _ (file : ℕ) (place : Option ℕ) (len : ℕ) (o : Option ScratchMap) where
      pub told_wrote : o ≡ Some new → shown f row ≡ moves (ScratchOut file (option_map (λ p. p + len) place)) done → told f row new ≡ settled old (wrote file place len o)
      told_wrote fits is = told_moves (ScratchOut file (option_map (λ p. p + len) place)) done is ∙ ap (λ x. settled old (wrote file place len x)) (sym fits)

      pub told_closed : o ≡ None → new ≡ old → shown f row ≡ returns closed → told f row new ≡ settled old (wrote file place len o)
      told_closed none same is = told_kept (returns closed) same is ∙ ap (λ x. settled old (wrote file place len x)) (sym none)

pub ruleset by_found = (at_root, at_file, at_none, told_same, told_stores, told_gives, told_moves, told_stored, told_full, told_wrote, told_closed)

-- the place of a stream after bytes that have room
pub place_fits : (place : Option ℕ) (at len size : ℕ) → at ≡ unwrap_or place size → at + len < 2 ^ 64 → IfSome place (λ p. p + len < 2 ^ 64)
place_fits None at len size e few = search
place_fits (Some p) at len size e few = omega (arith, e, few)

-- ---- by a test

module _ (b : Bool) (x y : PlainRow) where
  pub if_so : b ≡ true → x ≡ (if b then x else y)
  if_so is = ap (λ t. if t then x else y) (sym is)

  pub if_not : b ≡ false → y ≡ (if b then x else y)
  if_not is = ap (λ t. if t then x else y) (sym is)

pub equal_numbers : (m n : ℕ) → m ≡ n → (m == n) ≡ true
equal_numbers m n e = grind (arith, e)

pub other_numbers : (m n : ℕ) → m ≢ n → (m == n) ≡ false
other_numbers m n h = grind (arith, h)
