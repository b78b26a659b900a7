-- Reading a component's sections, as a loop does.
use Rattle.std.proofs.Common.{◌≡◌, ℕ, zero, suc, ◌-◌, ◌+◌, ◌≤◌, ◌<◌, List, length, Result, Ok, Err, refl, sym, ◌∙◌, arith}
use Rattle.wasm_format.specs.declared.stop.Stop.{Stop}
use Rattle.wasm_format.specs.declared.stop.Stop.TheVariants.{NoMemory, Malformed, Unsupported, TooNested}
use Rattle.virt_base.specs.Place.{Place}
use Rattle.wasm_format.specs.Format.{Format, fixed}
use Rattle.wasm_format.specs.Reads.{Fails}
use Rattle.wasm_format.specs.Sections.{Run, run, Ran, ended}
use Rattle.wasm_format.proofs.SectionLoop.{not_yet, here, any_count, last_count, goes_on, stops}
use Rattle.comp_grammar.specs.Trees.{Part, Tree, End}
use Rattle.comp_grammar.specs.Components.{add, beside, preamble, all_sections, placed, section, sections, component_over, component}

pub none_so_deep : (depth : ℕ) (p : Place) → depth ≡ 0 → (placed (component depth)).read p ≡ Err TooNested
unfolding placed component
none_so_deep depth p e = rw e refl

pub deeper : (depth : ℕ) → 0 < depth → component depth ≡ component_over (component (depth - 1))
unfolding component
deeper zero h = absurd (omega (arith, h))
deeper (suc depth) h = let e : suc depth - 1 ≡ depth = omega arith in rw e refl

pub section_more : (inner : Format Tree) (count i : ℕ) (t : Tree) (good at : ℕ) (rest : List ℕ) (part : Part) (q : Place) (total : Run Tree) → i < count → 0 < length rest → (section inner).read (record { at = at; rest = rest }) ≡ Ok (part, q)
    → run (sections inner) (count - i) t good at rest ≡ total → run (sections inner) (count - (i + 1)) (add t part) at q.at q.rest ≡ total
unfolding sections
section_more inner count i t good at rest part q total lt h e so_far = goes_on (sections inner) count i t good at rest part q total lt h e so_far

pub section_stops : (inner : Format Tree) (e : Stop) (count i : ℕ) (t : Tree) (good at : ℕ) (rest : List ℕ) (total : Run Tree) → i < count → 0 < length rest → Fails e ((section inner).read (record { at = at; rest = rest }))
    → run (sections inner) (count - i) t good at rest ≡ total → Ran (Err e) at total
unfolding sections
section_stops inner e count i t good at rest total lt h f so_far = stops (sections inner) e count i t good at rest at total lt h f so_far refl

pub sections_done : (inner : Format Tree) (left : ℕ) (t : Tree) (good at : ℕ) (rest : List ℕ) (total : Run Tree) → length rest ≡ 0 → run (sections inner) left t good at rest ≡ total → total ≡ record { good = at; outcome = Ok t }
unfolding sections
sections_done inner left t good at rest total h so_far = sym so_far ∙ sym (any_count (sections inner) left t good at rest h) ∙ here (sections inner) t good at rest refl h

pub sections_short : (inner : Format Tree) (count i : ℕ) (t : Tree) (good at : ℕ) (rest : List ℕ) (total : Run Tree) → count ≤ i → 0 < length rest → run (sections inner) (count - i) t good at rest ≡ total → total ≡ record { good = at; outcome = Err Malformed }
unfolding sections
sections_short inner count i t good at rest total le h so_far = sym so_far ∙ sym (last_count (sections inner) count i t good at rest le) ∙ not_yet (sections inner) t good at rest refl h

-- ---- a component and where it stands

abbrev front_of : Place → Result (Unit {0} × Place) Stop
front_of p = (fixed {A = Unit {0}} preamble tt).read p

abbrev behind_front : ℕ → Place → Result (Tree × Place) Stop
behind_front depth q = ended q (run (sections (component (depth - 1))) (length q.rest) End 0 q.at q.rest).outcome

no_front_so : (depth : ℕ) (p : Place) (e : Stop) → 0 < depth → front_of p ≡ Err e → (placed (component depth)).read p ≡ Err e
unfolding placed
no_front_so depth p e deep h = rw (deeper depth deep, h) refl

pub placed_no_front : (e : Stop) (depth : ℕ) (p : Place) → 0 < depth → Fails e (front_of p) → Fails e ((placed (component depth)).read p)
placed_no_front NoMemory depth p deep h = tt
placed_no_front Malformed depth p deep h = no_front_so depth p Malformed deep h
placed_no_front TooNested depth p deep h = no_front_so depth p TooNested deep h
placed_no_front (Unsupported a b) depth p deep h = no_front_so depth p (Unsupported a b) deep h

stops_so : (depth : ℕ) (p q : Place) (e : Stop) → 0 < depth → front_of p ≡ Ok (tt, q) → behind_front depth q ≡ Err e → (placed (component depth)).read p ≡ Err e
unfolding placed all_sections
stops_so depth p q e deep h f = rw (deeper depth deep, h, f) refl

pub placed_stops : (e : Stop) (depth : ℕ) (p q : Place) → 0 < depth → front_of p ≡ Ok (tt, q) → Fails e (behind_front depth q) → Fails e ((placed (component depth)).read p)
placed_stops NoMemory depth p q deep h f = tt
placed_stops Malformed depth p q deep h f = stops_so depth p q Malformed deep h f
placed_stops TooNested depth p q deep h f = stops_so depth p q TooNested deep h f
placed_stops (Unsupported a b) depth p q deep h f = stops_so depth p q (Unsupported a b) deep h f

pub placed_done : (depth : ℕ) (p q r : Place) (t : Tree) → 0 < depth → front_of p ≡ Ok (tt, q) → behind_front depth q ≡ Ok (t, r) → (placed (component depth)).read p ≡ Ok (beside p.at r.at t, r)
unfolding placed all_sections
placed_done depth p q r t deep h f = rw (deeper depth deep, h, f) refl
