-- A request that is answered.
use Rattle.std.proofs.Common.{◌≡◌, ℕ, ◌+◌, ap, refl, sym, ◌∙◌, subst, Bool, true, List, [], ◌∷◌, ◌++◌, arith, append-nil}
use Rattle.std.specs.Prelude.{reverse}
use Rattle.core_memory.specs.Linear.{Linear}
use Rattle.abi_layout.specs.Storing.{Target, Step, Number, FlatItem, Lowered, both, requests}
use Rattle.abi_store.specs.declared.content.Cell.{Cell}
use Rattle.abi_store.specs.declared.content.Cell.TheVariants.{Memory as MemoryCell, Flat as FlatCell}
use Rattle.abi_store.specs.declared.request.Request.{Request}
use Rattle.abi_store.specs.declared.request.Flow.{Flow}
use Rattle.abi_store.specs.declared.slot.Slot.{Slot}
use Rattle.abi_store.specs.declared.slot.Flats.{Flats}
use Rattle.abi_store.specs.declared.work.Work.{Work}
use Rattle.abi_store.specs.Plan.{goes, takes, tested, answered, settled_flats}
use Rattle.abi_store.specs.Rooms.{content_steps, content_len, cell_at, cell_flats, behind}
use Rattle.abi_store.specs.Flows.{Leads, chain, led, stored, flow_lowered}
use Rattle.abi_store.specs.Works.{works_lowered, work_lowered, place_lowered}
use Rattle.abi_store.specs.Slots.{slots_lowered, known}
use Rattle.abi_store.specs.Stages.{rest_of, asked_left, IsPlaced}
use Rattle.abi_store.proofs.Chains.{chain-assoc}
use Rattle.abi_store.proofs.Settling.{settled-append, requests-settled}
use Rattle.abi_store.proofs.Lowers.{chain-same, lowered_same}
use Rattle.abi_store.proofs.Proceeding.{known-append}
use Rattle.abi_store.proofs.TurnLemmas.{reversed}
use Rattle.abi_store.proofs.Answered.{flats-append, known_settled, counted-rest, behind_now}

rest_now : (a n : ℕ) (works : List Work) (flats : Flats) → answered a (rest_of works flats (0 + (n + 1))) ≡ rest_of works flats (0 + n)
rest_now a n works flats = let e : 0 + (n + 1) ≡ 0 + n + 1 = omega arith in ap (λ (k : ℕ). answered a (rest_of works flats k)) e ∙ (counted-rest works flats).on a (0 + n)

joined : List FlatItem → Lowered → Lowered → Lowered
joined before x y = record { steps = x.steps ++ y.steps; flats = before ++ (x.flats ++ y.flats) }

-- the steps of a request that is answered, by its content at the place
pub answered_led : (m : Linear) (a : ℕ) (r : Request) (works : List Work) (flats : Flats) →
    takes (answered a (asked_left r works flats)) m ≡ led (known flats.done.items) (chain (chain (stored (content_steps r.content Target a)) (λ k. cell_at r.cell a (content_len r.content) 0)) (rest_of works flats) 0) m
unfolding joined
answered_led m a r works flats =
    let n : ℕ = requests (behind r.content r.cell 0) in
    let b : Lowered = record { steps = behind r.content r.cell 0; flats = cell_flats r.cell 0 } in
    let y : Lowered = rest_of works flats (0 + (n + 1)) in
    let x : Lowered = both (stored (content_steps r.content Target a) 0) (cell_at r.cell a (content_len r.content) 0) in
    let split : answered a (asked_left r works flats) ≡ joined (known flats.done.items) (answered a b) (answered a y) =
    lowered_same _ _ _ _ (settled-append 0 (a ∷ []) b.steps y.steps)
    (flats-append (a ∷ []) (known flats.done.items) (b.flats ++ y.flats) ∙ ap (λ (f : List FlatItem). f ++ settled_flats (a ∷ []) (b.flats ++ y.flats)) (known_settled a flats.done.items)
    ∙ ap (λ (f : List FlatItem). known flats.done.items ++ f) (flats-append (a ∷ []) b.flats y.flats)) in
    let now : answered a b ≡ x = behind_now a r.content r.cell in
    let count : n ≡ requests x.steps = sym (requests-settled 0 (a ∷ []) b.steps) ∙ ap (λ (l : Lowered). requests l.steps) now in
    ap (λ (l : Lowered). takes l m)
    (split ∙ ap (λ (l : Lowered). joined (known flats.done.items) l (answered a y)) now ∙ ap (λ (l : Lowered). joined (known flats.done.items) x l) (rest_now a n works flats)
    ∙ ap (λ (k : ℕ). joined (known flats.done.items) x (rest_of works flats (0 + k))) count)

-- ---- where the answer goes

onto_works : (works new : List Work) (w : Work) (flats : Flats) (k : ℕ) → new ≡ works ++ w ∷ [] → chain (work_lowered w) (rest_of works flats) k ≡ rest_of new flats k
onto_works works new w flats k is =
    sym (chain-assoc (work_lowered w) (works_lowered (reverse works)) (slots_lowered (reverse flats.left.items)) k)
    ∙ ap (λ (ws : List Work). chain (works_lowered ws) (slots_lowered (reverse flats.left.items)) k) (sym (ap (λ (ws : List Work). reverse ws) is ∙ reversed w works))

same_flats : (works : List Work) (flats after : Flats) (k : ℕ) → after.left.items ≡ flats.left.items → rest_of works flats k ≡ rest_of works after k
same_flats works flats after k is = ap (λ (ss : List Slot). chain (works_lowered (reverse works)) (slots_lowered (reverse ss)) k) (sym is)

flat_now : (m : Linear) (done : List ℕ) (a : ℕ) (steps : List Step) (rest : ℕ → Lowered) →
    goes (known done ++ (Number a ∷ (rest (0 + requests (steps ++ []))).flats)) (steps ++ [] ++ (rest (0 + requests (steps ++ []))).steps) m
    ≡ goes (known done ++ (Number a ∷ (rest (0 + requests steps)).flats)) (steps ++ (rest (0 + requests steps)).steps) m
flat_now m done a steps rest = ap (λ (xs : List Step). goes (known done ++ (Number a ∷ (rest (0 + requests xs)).flats)) (xs ++ (rest (0 + requests xs)).steps) m) (append-nil steps)

pub placed_led : (m n : Linear) (a len : ℕ) (cell : Cell) (c b : ℕ → Lowered) (steps : ℕ → List Step) (works new : List Work) (flats after : Flats) → IsPlaced cell a len works flats new after → Leads m (stored steps) n b →
    led (known flats.done.items) (chain (chain (stored steps) (λ k. cell_at cell a len 0)) (rest_of works flats) 0) m ≡ led (known after.done.items) (chain b (rest_of new after) 0) n
placed_led m n a len (MemoryCell at) c b steps works new flats after placed leads =
    let w = placed.0 in
    ap (λ (l : Lowered). led (known flats.done.items) l m)
    (chain-assoc (stored steps) (λ k. cell_at (MemoryCell at) a len 0) (rest_of works flats) 0
    ∙ chain-same (stored steps) (stored steps) (chain (λ k. cell_at (MemoryCell at) a len 0) (rest_of works flats)) (rest_of new flats) 0 refl
    (λ j. chain-same (λ k. cell_at (MemoryCell at) a len 0) (work_lowered w) (rest_of works flats) (rest_of works flats) j (sym (placed.1 j)) (λ i. refl) ∙ onto_works works new w flats j placed.2))
    ∙ leads.on (known flats.done.items) (rest_of new flats)
    ∙ ap (λ (l : Lowered). led (known flats.done.items) l n) (chain-same b b (rest_of new flats) (rest_of new after) 0 refl (λ j. same_flats new flats after j placed.4))
    ∙ ap (λ (xs : List ℕ). led (known xs) (chain b (rest_of new after) 0) n) (sym placed.3)
placed_led m n a len FlatCell c b steps works new flats after placed leads =
    flat_now m flats.done.items a (steps 0) (rest_of works flats)
    ∙ ap (λ (fs : List FlatItem). goes fs (steps 0 ++ (rest_of works flats (0 + requests (steps 0))).steps) m) (known-append flats.done.items a (rest_of works flats (0 + requests (steps 0))).flats)
    ∙ leads.on (known (flats.done.items ++ a ∷ [])) (rest_of works flats)
    ∙ ap (λ (l : Lowered). led (known (flats.done.items ++ a ∷ [])) l n) (chain-same b b (rest_of works flats) (rest_of works after) 0 refl (λ j. same_flats works flats after j placed.2))
    ∙ ap (λ (ws : List Work). led (known (flats.done.items ++ a ∷ [])) (chain b (rest_of ws after) 0) n) (sym placed.0)
    ∙ ap (λ (xs : List ℕ). led (known xs) (chain b (rest_of new after) 0) n) (sym placed.1)

-- what a value came to on top of what is in progress
pub settled_led : (n : Linear) (done : List ℕ) (b f s : ℕ → Lowered) (works new : List Work) → chain b (works_lowered (reverse works)) 0 ≡ chain f (works_lowered (reverse new)) 0 →
    led (known done) (chain b (chain (works_lowered (reverse works)) s) 0) n ≡ led (known done) (chain f (chain (works_lowered (reverse new)) s) 0) n
settled_led n done b f s works new is =
    ap (λ (l : Lowered). led (known done) l n)
    (sym (chain-assoc b (works_lowered (reverse works)) s 0) ∙ ap (λ (l : Lowered). both l (s (0 + requests l.steps))) is ∙ chain-assoc f (works_lowered (reverse new)) s 0)

-- all of it together
pub resumed : (m n : Linear) (room : Bool) (a : ℕ) (r : Request) (works mid new : List Work) (flats after : Flats) (b f : ℕ → Lowered) → room ≡ true → IsPlaced r.cell a (content_len r.content) works flats mid after →
    Leads m (stored (content_steps r.content Target a)) n b → chain b (works_lowered (reverse mid)) 0 ≡ chain f (works_lowered (reverse new)) 0 →
    tested room (answered a (asked_left r works flats)) m ≡ led (known after.done.items) (chain f (rest_of new after) 0) n
resumed m n room a r works mid new flats after b f fits placed leads is =
    ap (λ (t : Bool). tested t (answered a (asked_left r works flats)) m) fits ∙ answered_led m a r works flats
    ∙ placed_led m n a (content_len r.content) r.cell b b (content_steps r.content Target a) works mid flats after placed leads
    ∙ settled_led n after.done.items b f (slots_lowered (reverse after.left.items)) mid new is

pub resumed_flow : (m n : Linear) (room : Bool) (a len : ℕ) (r : Request) (works mid new : List Work) (flats after : Flats) (b : ℕ → Lowered) (flow ended : Flow) → room ≡ true → IsPlaced r.cell a len works flats mid after → len ≡ content_len r.content →
    Leads m (stored (content_steps r.content Target a)) n b → chain b (works_lowered (reverse mid)) 0 ≡ chain (flow_lowered flow) (works_lowered (reverse new)) 0 → flow ≡ ended →
    tested room (answered a (asked_left r works flats)) m ≡ led (known after.done.items) (chain (flow_lowered ended) (rest_of new after) 0) n
resumed_flow m n room a len r works mid new flats after b flow ended fits placed len_is leads is same =
    resumed m n room a r works mid new flats after b (flow_lowered flow) fits (subst (λ (l : ℕ). IsPlaced r.cell a l works flats mid after) len_is placed) leads is
    ∙ ap (λ (f : Flow). led (known after.done.items) (chain (flow_lowered f) (rest_of new after) 0) n) same

-- ---- where an answer goes

pub placed_memory : (cell : Cell) (at place len : ℕ) (w : Work) (works new : List Work) (flats : Flats) → cell ≡ MemoryCell at → ((k : ℕ) → work_lowered w k ≡ place_lowered at place len k) → new ≡ works ++ w ∷ [] → IsPlaced cell place len works flats new flats
placed_memory cell at place len w works new flats is same push = subst (λ (d : Cell). IsPlaced d place len works flats new flats) (sym is) (w, same, push, refl, refl)
