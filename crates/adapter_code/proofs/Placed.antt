-- A routine at home in another list of locals runs as it does over its own.
use Rattle.std.proofs.Common.{◌≡◌, ◌≢◌, ℕ, zero, suc, ◌+◌, ◌<◌, ◌==◌, ◌&&◌, not, nat_lt, Bool, true, false, List, [], ◌∷◌, ◌++◌, Option, Some, None, length, set, refl, sym, ap, subst, ◌∙◌, inl, inr, arith, length-set}
use Rattle.std.specs.Prelude.{if◌then◌else◌}
use Rattle.std.proofs.lemmas.List.{set_comm, set-set, get_or-set_same, get_or-set_other}
use Rattle.std.proofs.lemmas.Bool.{cases_lt, le-ltb, eq-eqb}
use Rattle.handle_space.specs.HandleMap.{Answered, own_entry, add, take_own}
use Rattle.adapter_code.specs.declared.statement.Statement.{Statement, Const, Move, Int, Load, Store, If', Repeat', Leave, NewHandle, DropHandle, Trap, Answer}
use Rattle.adapter_code.specs.declared.state.Local.{Local}
use Rattle.adapter_code.specs.declared.state.Local.TheVariants.{Small}
use Rattle.adapter_code.specs.declared.state.Effect.TheVariants.{Made}
use Rattle.adapter_code.specs.Number.{low, moved, result_of, loaded, stored}
use Rattle.adapter_code.specs.Code.{Code, Stop, Then, Choose, Turns, followed_by}
use Rattle.adapter_code.specs.Run.{State, Run, Next, Left, Over, value, local_width, with_value, local_at, number_at, width_at, set_local, own_resource, then_run, turn_end, turns, chosen, after_load, after_store, after_new, after_drop, does, runs}
use Rattle.adapter_code.specs.Placed.{place_in, moved_to, placed, with_own, inside, run_inside, statement_within, within, differs, are_places}

both : (a b : Bool) → (a && b) ≡ true → (a ≡ true) × (b ≡ true)
both true b e = (refl, e)
both false b e = cc

below : (i n : ℕ) → nat_lt i n ≡ true → i < n
below i n e = elim (cases_lt i n) [ inl less ↦ less | inr more ↦ (let f = le-ltb i n more in cc) ]

apart : (p q : ℕ) → not (p == q) ≡ true → p ≢ q
apart p q e same = let f : not (p == q) ≡ false = ap not (eq-eqb p q same) in cc

differs_at : (p : ℕ) (ps : List ℕ) (i : ℕ) → differs p ps ≡ true → i < length ps → p ≢ place_in ps i
differs_at p [] i d lt = absurd (omega arith)
differs_at p (q ∷ ps) zero d lt = apart p q (both (not (p == q)) (differs p ps) d).0
differs_at p (q ∷ ps) (suc i) d lt = differs_at p ps i (both (not (p == q)) (differs p ps) d).1 (omega arith)

-- ---- locals

pub length-with_own : (ps : List ℕ) (ls outer : List Local) → length (with_own ps ls outer) ≡ length outer
length-with_own [] ls outer = refl
length-with_own (p ∷ ps) [] outer = refl
length-with_own (p ∷ ps) (l ∷ ls) outer = length-set (with_own ps ls outer) p l ∙ length-with_own ps ls outer

reads : (ps : List ℕ) (ls outer : List Local) (i : ℕ) → are_places (length outer) ps ≡ true → length ls ≡ length ps → i < length ps → local_at (with_own ps ls outer) (place_in ps i) ≡ local_at ls i
reads [] ls outer i ok len lt = absurd (omega arith)
reads (p ∷ ps) [] outer i ok len lt = absurd (omega (arith, len))
reads (p ∷ ps) (l ∷ ls) outer zero ok len lt =
    let b = both (nat_lt p (length outer)) (differs p ps && are_places (length outer) ps) ok in
    get_or-set_same (with_own ps ls outer) p l (Small 0) (omega (arith, below p (length outer) b.0, length-with_own ps ls outer))
reads (p ∷ ps) (l ∷ ls) outer (suc i) ok len lt =
    let b = both (nat_lt p (length outer)) (differs p ps && are_places (length outer) ps) ok in
    let d = both (differs p ps) (are_places (length outer) ps) b.1 in
    let other = differs_at p ps i d.0 (omega arith) in
    get_or-set_other (with_own ps ls outer) p (place_in ps i) l (Small 0) (λ e. other (sym e)) ∙ reads ps ls outer i d.1 (omega (arith, len)) (omega arith)

writes : (ps : List ℕ) (ls outer : List Local) (i : ℕ) (x : Local) → are_places (length outer) ps ≡ true → length ls ≡ length ps → i < length ps → set (with_own ps ls outer) (place_in ps i) x ≡ with_own ps (set ls i x) outer
writes [] ls outer i x ok len lt = absurd (omega arith)
writes (p ∷ ps) [] outer i x ok len lt = absurd (omega (arith, len))
writes (p ∷ ps) (l ∷ ls) outer zero x ok len lt = set-set (with_own ps ls outer) p l x
writes (p ∷ ps) (l ∷ ls) outer (suc i) x ok len lt =
    let b = both (nat_lt p (length outer)) (differs p ps && are_places (length outer) ps) ok in
    let d = both (differs p ps) (are_places (length outer) ps) b.1 in
    let other = differs_at p ps i d.0 (omega arith) in
    set_comm (with_own ps ls outer) p (place_in ps i) l x other ∙ ap (λ xs. set xs p l) (writes ps ls outer i x d.1 (omega (arith, len)) (omega arith))

-- ---- one statement

-- what a run keeps: the number of the routine's locals
abbrev pub Keeps : ℕ → Run → Type 0
Keeps n (Next k s) = length s.locals ≡ n
Keeps n (Left name k s) = length s.locals ≡ n
Keeps n (Over e k s) = length s.locals ≡ n

-- the places are good ones for a routine of that many locals
pub record Fits (ps : List ℕ) (outer : List Local) (n : ℕ) : Type 0 where
  pub places : are_places (length outer) ps ≡ true
  pub count : length ps ≡ n

reads_at : (ps : List ℕ) (outer : List Local) (n i : ℕ) (s : State) → Fits ps outer n → length s.locals ≡ n → nat_lt i n ≡ true → local_at (inside ps outer s).locals (place_in ps i) ≡ local_at s.locals i
reads_at ps outer n i s f len lt = reads ps s.locals outer i f.places (omega (arith, len, f.count)) (omega (arith, below i n lt, f.count))

sets : (ps : List ℕ) (outer : List Local) (n i v : ℕ) (s : State) → Fits ps outer n → length s.locals ≡ n → nat_lt i n ≡ true → set_local (inside ps outer s) (place_in ps i) v ≡ inside ps outer (set_local s i v)
sets ps outer n i v s f len lt =
    let here = reads_at ps outer n i s f len lt in
    ap (λ x. let r : State = record (inside ps outer s) { locals = set (with_own ps s.locals outer) (place_in ps i) (with_value x v) } in r) here
    ∙ ap (λ xs. let r : State = record s { locals = xs } in r) (writes ps s.locals outer i (with_value (local_at s.locals i) v) f.places (omega (arith, len, f.count)) (omega (arith, below i n lt, f.count)))

kept : (s : State) (n i v : ℕ) → length s.locals ≡ n → length (set_local s i v).locals ≡ n
kept s n i v len = length-set s.locals i (with_value (local_at s.locals i) v) ∙ len

load_in : (ps : List ℕ) (outer : List Local) (n to k : ℕ) (s : State) (o : Option ℕ) → Fits ps outer n → length s.locals ≡ n → nat_lt to n ≡ true → after_load (place_in ps to) k (inside ps outer s) o ≡ run_inside ps outer (after_load to k s o)
load_in ps outer n to k s None f len lt = refl
load_in ps outer n to k s (Some v) f len lt = ap (Next k) (sets ps outer n to v s f len lt)

load_keeps : (n to k : ℕ) (s : State) (o : Option ℕ) → length s.locals ≡ n → Keeps n (after_load to k s o)
load_keeps n to k s None len = len
load_keeps n to k s (Some v) len = kept s n to v len

store_in : (ps : List ℕ) (outer : List Local) (k : ℕ) (s : State) (o : Option (List ℕ)) → after_store k (inside ps outer s) o ≡ run_inside ps outer (after_store k s o)
store_in ps outer k s None = refl
store_in ps outer k s (Some m) = refl

store_keeps : (n k : ℕ) (s : State) (o : Option (List ℕ)) → length s.locals ≡ n → Keeps n (after_store k s o)
store_keeps n k s None len = len
store_keeps n k s (Some m) len = len

new_in : (ps : List ℕ) (outer : List Local) (n kind rep to k : ℕ) (s : State) (o : Option (Answered ℕ ℕ)) → Fits ps outer n → length s.locals ≡ n → nat_lt to n ≡ true → after_new kind rep (place_in ps to) k (inside ps outer s) o ≡ run_inside ps outer (after_new kind rep to k s o)
new_in ps outer n kind rep to k s None f len lt = refl
new_in ps outer n kind rep to k s (Some a) f len lt =
    ap (λ (t : State). Next k (record t { table = a.map; effects = s.effects ++ Made kind rep a.answer ∷ [] })) (sets ps outer n to a.answer s f len lt)

new_keeps : (n kind rep to k : ℕ) (s : State) (o : Option (Answered ℕ ℕ)) → length s.locals ≡ n → Keeps n (after_new kind rep to k s o)
new_keeps n kind rep to k s None len = len
new_keeps n kind rep to k s (Some a) len = kept s n to a.answer len

drop_in : (ps : List ℕ) (outer : List Local) (kind index k : ℕ) (s : State) (o : Option (Answered ℕ ℕ)) → after_drop kind index k (inside ps outer s) o ≡ run_inside ps outer (after_drop kind index k s o)
drop_in ps outer kind index k s None = refl
drop_in ps outer kind index k s (Some a) = refl

drop_keeps : (n kind index k : ℕ) (s : State) (o : Option (Answered ℕ ℕ)) → length s.locals ≡ n → Keeps n (after_drop kind index k s o)
drop_keeps n kind index k s None len = len
drop_keeps n kind index k s (Some a) len = len

-- a statement over its own locals, and over the others
pub does_in : (ps : List ℕ) (outer : List Local) (n : ℕ) (st : Statement) (k : ℕ) (s : State) → Fits ps outer n → length s.locals ≡ n → statement_within n st ≡ true → does (moved_to ps st) k (inside ps outer s) ≡ run_inside ps outer (does st k s)
does_in ps outer n (Const to v) k s f len w =
    ap (λ x. Next k (set_local (inside ps outer s) (place_in ps to) (low (local_width x) v))) (reads_at ps outer n to s f len w)
    ∙ ap (Next k) (sets ps outer n to (low (width_at s to) v) s f len w)
does_in ps outer n (Move to from) k s f len w =
    let b = both (nat_lt to n) (nat_lt from n) w in
    ap (λ x. Next k (set_local (inside ps outer s) (place_in ps to) (moved (local_width x) (width_at (inside ps outer s) (place_in ps from)) (number_at (inside ps outer s) (place_in ps from))))) (reads_at ps outer n to s f len b.0)
    ∙ ap (λ x. Next k (set_local (inside ps outer s) (place_in ps to) (moved (width_at s to) (local_width x) (value x)))) (reads_at ps outer n from s f len b.1)
    ∙ ap (Next k) (sets ps outer n to (moved (width_at s to) (width_at s from) (number_at s from)) s f len b.0)
does_in ps outer n (Int op to a b) k s f len w =
    let h = both (nat_lt to n) (nat_lt a n && nat_lt b n) w in
    let g = both (nat_lt a n) (nat_lt b n) h.1 in
    ap (λ x. Next k (set_local (inside ps outer s) (place_in ps to) (result_of op (local_width x) (value x) (number_at (inside ps outer s) (place_in ps b))))) (reads_at ps outer n a s f len g.0)
    ∙ ap (λ x. Next k (set_local (inside ps outer s) (place_in ps to) (result_of op (width_at s a) (number_at s a) (value x)))) (reads_at ps outer n b s f len g.1)
    ∙ ap (Next k) (sets ps outer n to (result_of op (width_at s a) (number_at s a) (number_at s b)) s f len h.0)
does_in ps outer n (Load to at offset size) k s f len w =
    let b = both (nat_lt to n) (nat_lt at n) w in
    ap (λ x. after_load (place_in ps to) k (inside ps outer s) (loaded s.memory (value x + offset) size)) (reads_at ps outer n at s f len b.1)
    ∙ load_in ps outer n to k s (loaded s.memory (number_at s at + offset) size) f len b.0
does_in ps outer n (Store from at offset size) k s f len w =
    let b = both (nat_lt from n) (nat_lt at n) w in
    ap (λ x. after_store k (inside ps outer s) (stored s.memory (value x + offset) size (number_at (inside ps outer s) (place_in ps from)))) (reads_at ps outer n at s f len b.1)
    ∙ ap (λ x. after_store k (inside ps outer s) (stored s.memory (number_at s at + offset) size (value x))) (reads_at ps outer n from s f len b.0)
    ∙ store_in ps outer k s (stored s.memory (number_at s at + offset) size (number_at s from))
does_in ps outer n (If' test m x m' y) k s f len w = refl
does_in ps outer n (Repeat' name count m body) k s f len w = refl
does_in ps outer n (Leave name) k s f len w = refl
does_in ps outer n (NewHandle kind rep to) k s f len w =
    let b = both (nat_lt rep n) (nat_lt to n) w in
    ap (λ x. after_new kind (value x) (place_in ps to) k (inside ps outer s) (add s.table (own_entry (own_resource kind) (value x)))) (reads_at ps outer n rep s f len b.0)
    ∙ new_in ps outer n kind (number_at s rep) to k s (add s.table (own_entry (own_resource kind) (number_at s rep))) f len b.1
does_in ps outer n (DropHandle kind index) k s f len w =
    ap (λ x. after_drop kind (value x) k (inside ps outer s) (take_own s.table (value x) kind)) (reads_at ps outer n index s f len w)
    ∙ drop_in ps outer kind (number_at s index) k s (take_own s.table (number_at s index) kind)
does_in ps outer n Trap k s f len w = refl
does_in ps outer n Answer k s f len w = refl

does_keeps : (n : ℕ) (st : Statement) (k : ℕ) (s : State) → length s.locals ≡ n → Keeps n (does st k s)
does_keeps n (Const to v) k s len = kept s n to (low (width_at s to) v) len
does_keeps n (Move to from) k s len = kept s n to (moved (width_at s to) (width_at s from) (number_at s from)) len
does_keeps n (Int op to a b) k s len = kept s n to (result_of op (width_at s a) (number_at s a) (number_at s b)) len
does_keeps n (Load to at offset size) k s len = load_keeps n to k s (loaded s.memory (number_at s at + offset) size) len
does_keeps n (Store from at offset size) k s len = store_keeps n k s (stored s.memory (number_at s at + offset) size (number_at s from)) len
does_keeps n (If' test m x m' y) k s len = len
does_keeps n (Repeat' name count m body) k s len = len
does_keeps n (Leave name) k s len = len
does_keeps n (NewHandle kind rep to) k s len = new_keeps n kind (number_at s rep) to k s (add s.table (own_entry (own_resource kind) (number_at s rep))) len
does_keeps n (DropHandle kind index) k s len = drop_keeps n kind (number_at s index) k s (take_own s.table (number_at s index) kind) len
does_keeps n Trap k s len = len
does_keeps n Answer k s len = len

-- ---- routines

-- a run over the others is the run over its own, and the number of its own locals stays
pub record IsInside (ps : List ℕ) (outer : List Local) (n : ℕ) (own other : Run) : Type 0 where
  pub same : other ≡ run_inside ps outer own
  pub keeps : Keeps n own

then_in : (ps : List ℕ) (outer : List Local) (n : ℕ) (own : Run) (go go' : ℕ → State → Run) → Keeps n own → ((k : ℕ) (s : State) → length s.locals ≡ n → IsInside ps outer n (go k s) (go' k (inside ps outer s))) → IsInside ps outer n (then_run own go) (then_run (run_inside ps outer own) go')
then_in ps outer n (Next k s) go go' h on = on k s h
then_in ps outer n (Left name k s) go go' h on = record { same = refl; keeps = h }
then_in ps outer n (Over e k s) go go' h on = record { same = refl; keeps = h }

-- the same of a run over the others that is known to be equal
then_of : (ps : List ℕ) (outer : List Local) (n : ℕ) (own other : Run) (go go' : ℕ → State → Run) → IsInside ps outer n own other → ((k : ℕ) (s : State) → length s.locals ≡ n → IsInside ps outer n (go k s) (go' k (inside ps outer s))) → IsInside ps outer n (then_run own go) (then_run other go')
then_of ps outer n own other go go' h on = subst (λ r. IsInside ps outer n (then_run own go) (then_run r go')) (sym h.same) (then_in ps outer n own go go' h.keeps on)

turn_in : (ps : List ℕ) (outer : List Local) (n name : ℕ) (own : Run) (go go' : ℕ → State → Run) → Keeps n own → ((k : ℕ) (s : State) → length s.locals ≡ n → IsInside ps outer n (go k s) (go' k (inside ps outer s))) → IsInside ps outer n (turn_end name own go) (turn_end name (run_inside ps outer own) go')
turn_in ps outer n name (Next k s) go go' h on = on k s h
turn_in ps outer n name (Left m k s) go go' h on = by (m == name)
  where
    by : (b : Bool) → IsInside ps outer n (if b then Next k s else Left m k s) (if b then Next k (inside ps outer s) else Left m k (inside ps outer s))
    by true = record { same = refl; keeps = h }
    by false = record { same = refl; keeps = h }
turn_in ps outer n name (Over e k s) go go' h on = record { same = refl; keeps = h }

turns_in : (ps : List ℕ) (outer : List Local) (n name : ℕ) (body body' : ℕ → State → Run) → ((k : ℕ) (s : State) → length s.locals ≡ n → IsInside ps outer n (body k s) (body' k (inside ps outer s))) → (count k : ℕ) (s : State) → length s.locals ≡ n → IsInside ps outer n (turns name body count k s) (turns name body' count k (inside ps outer s))
turns_in ps outer n name body body' each zero k s len = record { same = refl; keeps = len }
turns_in ps outer n name body body' each (suc count) k s len =
    let b = each (suc k) s len in
    subst (λ r. IsInside ps outer n (turn_end name (body (suc k) s) (turns name body count)) (turn_end name r (turns name body' count))) (sym b.same)
    (turn_in ps outer n name (body (suc k) s) (turns name body count) (turns name body' count) b.keeps (λ i t g. turns_in ps outer n name body body' each count i t g))

chosen_in : (ps : List ℕ) (outer : List Local) (n x : ℕ) (a a' b b' : Run) → IsInside ps outer n a a' → IsInside ps outer n b b' → IsInside ps outer n (chosen x a b) (chosen x a' b')
chosen_in ps outer n zero a a' b b' h g = g
chosen_in ps outer n (suc x) a a' b b' h g = h

pub placed_inside : (ps : List ℕ) (outer : List Local) (n : ℕ) (code : Code) (k : ℕ) (s : State) → Fits ps outer n → length s.locals ≡ n → within n code ≡ true → IsInside ps outer n (runs code k s) (runs (placed ps code) k (inside ps outer s))
placed_inside ps outer n Stop k s f len w = record { same = refl; keeps = len }
placed_inside ps outer n (Then st rest) k s f len w =
    let b = both (statement_within n st) (within n rest) w in
    then_of ps outer n (does st (suc k) s) (does (moved_to ps st) (suc k) (inside ps outer s)) (runs rest) (runs (placed ps rest))
    (record { same = does_in ps outer n st (suc k) s f len b.0; keeps = does_keeps n st (suc k) s len })
    (λ i t g. placed_inside ps outer n rest i t f g b.1)
placed_inside ps outer n (Choose test first other rest) k s f len w =
    let b = both (nat_lt test n) (within n first && (within n other && within n rest)) w in
    let c = both (within n first) (within n other && within n rest) b.1 in
    let d = both (within n other) (within n rest) c.1 in
    let one = placed_inside ps outer n first (suc k) s f len c.0 in
    let two = placed_inside ps outer n other (suc k) s f len d.0 in
    let both_runs = chosen_in ps outer n (number_at s test) _ _ _ _ one two in
    let at_test = subst (λ x. IsInside ps outer n (chosen (number_at s test) (runs first (suc k) s) (runs other (suc k) s)) (chosen (value x) (runs (placed ps first) (suc k) (inside ps outer s)) (runs (placed ps other) (suc k) (inside ps outer s)))) (sym (reads_at ps outer n test s f len b.0)) both_runs in
    then_of ps outer n _ _ (runs rest) (runs (placed ps rest)) at_test (λ i t g. placed_inside ps outer n rest i t f g d.1)
placed_inside ps outer n (Turns name count body rest) k s f len w =
    let b = both (nat_lt count n) (within n body && within n rest) w in
    let c = both (within n body) (within n rest) b.1 in
    let all = turns_in ps outer n name (runs body) (runs (placed ps body)) (λ i t g. placed_inside ps outer n body i t f g c.0) (number_at s count) (suc k) s len in
    let at_count = subst (λ x. IsInside ps outer n (turns name (runs body) (number_at s count) (suc k) s) (turns name (runs (placed ps body)) (value x) (suc k) (inside ps outer s))) (sym (reads_at ps outer n count s f len b.0)) all in
    then_of ps outer n _ _ (runs rest) (runs (placed ps rest)) at_count (λ i t g. placed_inside ps outer n rest i t f g c.1)

-- ---- one routine after another

then_then : (r : Run) (f g : ℕ → State → Run) (h : ℕ → State → Run) → ((k : ℕ) (s : State) → h k s ≡ then_run (f k s) g) → then_run r h ≡ then_run (then_run r f) g
then_then (Next k s) f g h e = e k s
then_then (Left name k s) f g h e = refl
then_then (Over e k s) f g h same = refl

pub followed_runs : (code rest : Code) (k : ℕ) (s : State) → runs (followed_by code rest) k s ≡ then_run (runs code k s) (runs rest)
followed_runs Stop rest k s = refl
followed_runs (Then st more) rest k s = then_then (does st (suc k) s) (runs more) (runs rest) (runs (followed_by more rest)) (λ i t. followed_runs more rest i t)
followed_runs (Choose test first other more) rest k s = then_then (chosen (number_at s test) (runs first (suc k) s) (runs other (suc k) s)) (runs more) (runs rest) (runs (followed_by more rest)) (λ i t. followed_runs more rest i t)
followed_runs (Turns name count body more) rest k s = then_then (turns name (runs body) (number_at s count) (suc k) s) (runs more) (runs rest) (runs (followed_by more rest)) (λ i t. followed_runs more rest i t)
