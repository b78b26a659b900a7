-- Places in the innermost level of the operand stack.
use Rattle.std.proofs.Common.{◌≡◌, ◌≤◌, ◌<◌, ◌+◌, ℕ, refl, sym, ◌∙◌, ap, Option, Some, None, List, [], ◌∷◌, ◌++◌, Bool, true, false, cond, is_some, length, take, drop, set, reverse, get_or, arith, length-set}
use Rattle.std.proofs.lemmas.List.{length-take-le, take-take, take_all, take-append-le, take_more_set}
use Rattle.std.specs.Bool.{OnTrue, OnFalse}
use Rattle.virt_base.specs.declared.core_type.CoreType.{CoreType}
use Rattle.virt_base.specs.declared.core_type.CoreType.TheVariants.{I32}
use Rattle.core_body.specs.declared.operand.Operand.{Operand}
use Rattle.core_body.specs.declared.source.Source.{Source}
use Rattle.core_body.specs.declared.source.Run.{Run}
use Rattle.core_body.specs.declared.piece.Piece.{Piece}
use Rattle.core_body.specs.declared.piece.Piece.TheVariants.{One}
use Rattle.core_body.specs.declared.piece.Met.{Met}
use Rattle.core_body.specs.declared.piece.Parted.{Parted}
use Rattle.core_body.specs.declared.stack.Stack.{Stack}
use Rattle.core_body.specs.declared.stack.Rest.{Rest}
use Rattle.core_body.specs.Context.{Context}
use Rattle.core_body.specs.Typing.{operands}
use Rattle.core_body.specs.Machine.{pops, like, under, all_below, none_left}
use Rattle.core_body.specs.Sources.{listed, spelled}
use Rattle.core_body.specs.Pieces.{run_of, piece_of, pieces_of, NeverMeet, Meet}
use Rattle.core_body.specs.Stack.{level_of, down_from, rest_of, Lies, Ready}
use Rattle.core_body.proofs.StackLemmas.{pops-dead}
use Rattle.core_body.proofs.TableLemmas.{length-operands}
use Rattle.core_body.proofs.PieceLemmas.{level-push, level-at, level-whole, level-none, operands-zero, operands-whole, pops-short, fits-pops}

pub down-next : (c : Context) (s : Stack) (old at : ℕ) (p : Piece) → at + 1 ≡ old → s.height ≤ at → at < length s.pieces.items → p ≡ get_or s.pieces.items at p →
    down_from c s old ≡ piece_of c p ++ down_from c s at
down-next c s old at p e low lt is =
    ap (down_from c s) (sym e) ∙ ap (pieces_of c) (level-at s.pieces.items s.height at p low lt) ∙ ap (λ q. piece_of c q ++ down_from c s at) (sym is)

pub down-none : (c : Context) (s : Stack) (at : ℕ) → at ≤ s.height → down_from c s at ≡ []
down-none c s at le = ap (pieces_of c) (level-none s.pieces.items s.height at le)

pub down-whole : (c : Context) (s : Stack) (at : ℕ) → length s.pieces.items ≤ at → down_from c s at ≡ level_of c s
down-whole c s at le = ap (pieces_of c) (level-whole s.pieces.items s.height at le)

-- the topmost piece is one operand
pub level-one : (c : Context) (s : Stack) (at : ℕ) (p : Piece) (o : Operand) → at + 1 ≡ length s.pieces.items → s.height ≤ at → p ≡ get_or s.pieces.items at p → p ≡ One o →
    level_of c s ≡ o ∷ down_from c s at
level-one c s at p o e low is one =
    sym (down-whole c s (at + 1) (omega arith)) ∙ down-next c s (at + 1) at p refl low (omega arith) is ∙ ap (λ q. piece_of c q ++ down_from c s at) one

-- an empty part can be left out
pub rest-skip : (c : Context) (s : Stack) (at : ℕ) (part : Piece) → piece_of c part ≡ [] → rest_of c s (record { at = at; part = part }) ≡ down_from c s at
rest-skip c s at part none = ap (λ x. x ++ down_from c s at) none

-- from one piece to the one below it
pub rest-next : (c : Context) (s : Stack) (old at : ℕ) (part p : Piece) → at + 1 ≡ old → s.height ≤ at → at < length s.pieces.items → p ≡ get_or s.pieces.items at p →
    piece_of c part ≡ [] → rest_of c s (record { at = old; part = part }) ≡ piece_of c p ++ down_from c s at
rest-next c s old at part p e low lt is none = rest-skip c s old part none ∙ down-next c s old at p e low lt is

-- a part's topmost operand
pub rest-parted : (c : Context) (s : Stack) (at : ℕ) (part : Piece) (t : Parted) → piece_of c part ≡ t.operand ∷ piece_of c t.part →
    rest_of c s (record { at = at; part = part }) ≡ t.operand ∷ rest_of c s (record { at = at; part = t.part })
rest-parted c s at part t e = ap (λ x. x ++ down_from c s at) e

pub lies-parted : (c : Context) (s : Stack) (from : Rest) (t : Parted) → Lies c s from → piece_of c from.part ≡ t.operand ∷ piece_of c t.part →
    Lies c s (record { at = from.at; part = t.part })
lies-parted c s from t l e = record {
  low = l.low;
  high = l.high;
  over = λ whole. let none = l.over whole in cc;
}

pub down-parted : (c : Context) (s : Stack) (old at : ℕ) (p : Piece) (t : Parted) → at + 1 ≡ old → s.height ≤ at → at < length s.pieces.items → p ≡ get_or s.pieces.items at p →
    piece_of c p ≡ t.operand ∷ piece_of c t.part → down_from c s old ≡ t.operand ∷ rest_of c s (record { at = at; part = t.part })
down-parted c s old at p t e low lt is parted = down-next c s old at p e low lt is ∙ rest-parted c s at p t parted

pub down-skip : (c : Context) (s : Stack) (old at : ℕ) (p : Piece) → at + 1 ≡ old → s.height ≤ at → at < length s.pieces.items → p ≡ get_or s.pieces.items at p →
    piece_of c p ≡ [] → down_from c s at ≡ down_from c s old
down-skip c s old at p e low lt is none = sym (down-next c s old at p e low lt is ∙ ap (λ x. x ++ down_from c s at) none)

-- a place above a piece of the level
pub lies-inside : (c : Context) (s : Stack) (at : ℕ) (part : Piece) → s.height ≤ at → at < length s.pieces.items → Lies c s (record { at = at; part = part })
lies-inside c s at part low lt = record {
  low = low;
  high = omega arith;
  over = λ whole. absurd (omega arith);
}

-- the types due from the first place on
pub met-first : (c : Context) (s : Stack) (from : Rest) (due : Source) (n : ℕ) (met : Met) → n ≡ length (listed c due) →
    Meet c from.part (record { of = due; len = n }) met.part met.due → (dead : Bool) →
    pops dead (rest_of c s from) (spelled c due) ≡ pops dead (rest_of c s (record { at = from.at; part = met.part })) (run_of c met.due)
met-first c s from due n met e m dead = ap (pops dead (rest_of c s from)) (sym (operands-whole (listed c due) n e)) ∙ m.same dead (down_from c s from.at)

pub ready-first : (c : Context) (s : Stack) (from : Rest) (due : Run) (met : Met) → Lies c s from → Meet c from.part due met.part met.due → Ready c s from.at met
ready-first c s from due met l m = record {
  within = m.within;
  over = m.over;
  low = l.low;
  high = l.high;
  none = λ whole. m.none (l.over whole);
}

pub met-never : (c : Context) (s : Stack) (from : Rest) (due : Source) (n : ℕ) → n ≡ length (listed c due) → NeverMeet c from.part (record { of = due; len = n }) → (dead : Bool) →
    pops dead (rest_of c s from) (spelled c due) ≡ None
met-never c s from due n e never dead = ap (pops dead (rest_of c s from)) (sym (operands-whole (listed c due) n e)) ∙ never dead (down_from c s from.at)

-- one piece more has met them
pub met-next : (c : Context) (s : Stack) (old at : ℕ) (p : Piece) (met next : Met) → Ready c s old met → 0 < met.due.len → at + 1 ≡ old → s.height ≤ at → p ≡ get_or s.pieces.items at p →
    Meet c p met.due next.part next.due → (dead : Bool) →
    pops dead (rest_of c s (record { at = at; part = next.part })) (run_of c next.due) ≡ pops dead (rest_of c s (record { at = old; part = met.part })) (run_of c met.due)
met-next c s old at p met next r some e low is m dead =
    let high = r.high in
    sym (ap (λ x. pops dead x (run_of c met.due)) (rest-next c s old at met.part p e low (omega arith) is (r.over some)) ∙ m.same dead (down_from c s at))

pub ready-next : (c : Context) (s : Stack) (old at : ℕ) (p : Piece) (met next : Met) → Ready c s old met → at + 1 ≡ old → s.height ≤ at → Meet c p met.due next.part next.due → Ready c s at next
ready-next c s old at p met next r e low m =
    let high = r.high in
    record {
      within = m.within;
      over = m.over;
      low = low;
      high = omega arith;
      none = λ whole. absurd (omega arith);
    }

pub never-next : (c : Context) (s : Stack) (old at : ℕ) (p : Piece) (met : Met) → Ready c s old met → 0 < met.due.len → at + 1 ≡ old → s.height ≤ at → p ≡ get_or s.pieces.items at p →
    NeverMeet c p met.due → (dead : Bool) → pops dead (rest_of c s (record { at = old; part = met.part })) (run_of c met.due) ≡ None
never-next c s old at p met r some e low is never dead =
    let high = r.high in
    ap (λ x. pops dead x (run_of c met.due)) (rest-next c s old at met.part p e low (omega arith) is (r.over some)) ∙ never dead (down_from c s at)

-- the level ends before the types due
pub met-short : (c : Context) (s : Stack) (at : ℕ) (met : Met) → Ready c s at met → 0 < met.due.len → at ≤ s.height → (dead : Bool) →
    pops dead (rest_of c s (record { at = at; part = met.part })) (run_of c met.due) ≡ cond dead (Some []) None
met-short c s at met r some low dead =
    ap (λ x. pops dead x (run_of c met.due)) (rest-skip c s at met.part (r.over some) ∙ down-none c s at low) ∙ pops-short dead (listed c met.due.of) met.due.len I32 some r.within

-- nothing is due any more
pub met-all : (c : Context) (s : Stack) (r : Rest) (due : Run) → due.len ≡ 0 → (dead : Bool) → pops dead (rest_of c s r) (run_of c due) ≡ Some (rest_of c s r)
met-all c s r due e dead = ap (pops dead (rest_of c s r)) (ap (λ n. operands (take n (listed c due.of))) e ∙ operands-zero (listed c due.of))

pub lies-ready : (c : Context) (s : Stack) (at : ℕ) (met : Met) → Ready c s at met → Lies c s (record { at = at; part = met.part })
lies-ready c s at met r = record { low = r.low; high = r.high; over = r.none }

-- what is kept of the pieces: all below a place, and the part there
pub keep-part : (items : List Piece) (at : ℕ) (part : Piece) → at < length items → set (take (at + 1) items) at part ≡ take at items ++ part ∷ []
keep-part items at part lt =
    let whole : length (take (at + 1) items) ≡ at + 1 = length-take-le (at + 1) items (omega arith) in
    let same : length (set (take (at + 1) items) at part) ≡ length (take (at + 1) items) = length-set (take (at + 1) items) at part in
    sym (take_all (at + 1) (set (take (at + 1) items) at part) (omega arith)) ∙ take_more_set (take (at + 1) items) at part (omega arith)
    ∙ ap (λ l. l ++ part ∷ []) (take-take at (at + 1) items (omega arith))

pub keep-level : (c : Context) (s : Stack) (at : ℕ) (part : Piece) → s.height ≤ at → at < length s.pieces.items →
    pieces_of c (reverse (drop s.height (set (take (at + 1) s.pieces.items) at part))) ≡ rest_of c s (record { at = at; part = part })
keep-level c s at part low lt =
    let inside : s.height ≤ length (take at s.pieces.items) = omega (arith, length-take-le at s.pieces.items (omega arith)) in
    ap (λ l. pieces_of c (reverse (drop s.height l))) (keep-part s.pieces.items at part lt) ∙ ap (pieces_of c) (level-push (take at s.pieces.items) s.height part inside)

pub keep-below : (items : List Piece) (h at : ℕ) (part : Piece) → h ≤ at → at < length items → take h (set (take (at + 1) items) at part) ≡ take h items
keep-below items h at part low lt =
    let inside : h ≤ length (take at items) = omega (arith, length-take-le at items (omega arith)) in
    ap (take h) (keep-part items at part lt) ∙ take-append-le h (take at items) (part ∷ []) inside ∙ take-take h at items low

pub kept-below : (items : List Piece) (h at : ℕ) → h ≤ at → take h (take at items) ≡ take h items
kept-below items h at low = take-take h at items low

-- labels of another type than the default's, where the level has operands below the topmost, and where it has none
pub fits-some : (first label : List CoreType) (os rest : List Operand) (o : Operand) → length first ≡ length label → os ≡ o ∷ rest →
    is_some (pops true rest (operands label)) ≡ all_below (like (operands first) (under os)) (operands label)
fits-some first label os rest o e is =
    sym (ap (λ x. all_below (like (operands first) (under x)) (operands label)) is
    ∙ fits-pops (operands first) (operands label) rest (length-operands first ∙ e ∙ sym (length-operands label)))

pub fits-nothing : (first label : List CoreType) (os : List Operand) → length first ≡ length label → os ≡ [] → true ≡ all_below (like (operands first) (under os)) (operands label)
fits-nothing first label os e is =
    sym (ap (λ x. all_below (like (operands first) (under x)) (operands label)) is
    ∙ fits-pops (operands first) (operands label) [] (length-operands first ∙ e ∙ sym (length-operands label)) ∙ ap is_some (pops-dead (operands label)))

-- whether a level holds no more
pub left-some : (r : Option (List Operand)) (os rest : List Operand) (o : Operand) → r ≡ Some os → os ≡ o ∷ rest → none_left r ≡ false
left-some r os rest o e is = ap none_left (e ∙ ap (λ x. Some x) is)

pub left-none : (r : Option (List Operand)) (os : List Operand) → r ≡ Some os → os ≡ [] → none_left r ≡ true
left-none r os e is = ap none_left (e ∙ ap (λ x. Some x) is)

-- a level that ends before the types due, in dead code and in live
pub short-yes : (dead : Bool) (r : Option (List Operand)) (new : List Operand) → r ≡ cond dead (Some []) None → new ≡ [] → OnTrue dead (r ≡ Some new)
short-yes true r new a b = a ∙ ap (λ l. Some l) (sym b)
short-yes false r new a b = tt

pub short-no : (dead : Bool) (r : Option (List Operand)) → r ≡ cond dead (Some []) None → OnFalse dead (r ≡ None)
short-no true r a = tt
short-no false r a = a
