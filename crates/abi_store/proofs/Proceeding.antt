-- What is in progress goes on.
use Rattle.std.proofs.Common.{◌≡◌, ℕ, ap, refl, sym, ◌∙◌, List, [], ◌∷◌, ◌++◌}
use Rattle.std.specs.Prelude.{reverse}
use Rattle.core_memory.specs.Linear.{Linear}
use Rattle.abi_layout.specs.Storing.{Number, FlatItem, Lowered}
use Rattle.abi_store.specs.declared.slot.Slot.{Slot}
use Rattle.abi_store.specs.declared.slot.Slot.TheVariants.{Place as PlaceSlot}
use Rattle.abi_store.specs.declared.work.Work.{Work}
use Rattle.abi_store.specs.declared.content.Content.{Content}
use Rattle.abi_store.specs.declared.content.Cell.TheVariants.{Flat as FlatCell}
use Rattle.abi_store.specs.Rooms.{content_lowered}
use Rattle.abi_store.specs.declared.request.Flow.{Flow}
use Rattle.abi_store.specs.declared.request.Flow.TheVariants.{Goes}
use Rattle.abi_store.specs.Flows.{Leads, chain, led, none_left, flow_lowered}
use Rattle.abi_store.specs.Works.{works_lowered}
use Rattle.abi_store.specs.Slots.{slot_lowered, slots_lowered, known}
use Rattle.abi_store.proofs.Chains.{chain-assoc}
use Rattle.abi_store.proofs.Lowers.{chain-same, none-chain}
use Rattle.abi_store.proofs.TurnLemmas.{reversed}

pub known-append : (xs : List ℕ) (n : ℕ) (fs : List FlatItem) → known xs ++ (Number n ∷ fs) ≡ known (xs ++ n ∷ []) ++ fs
known-append [] n fs = refl
known-append (x ∷ xs) n fs = ap (λ (v : List FlatItem). Number x ∷ v) (known-append xs n fs)

onto : (before after : List Slot) (s : Slot) → before ≡ after ++ s ∷ [] → slots_lowered (reverse before) 0 ≡ chain (slot_lowered s) (slots_lowered (reverse after)) 0
onto before after s is = ap (λ (ss : List Slot). slots_lowered (reverse ss) 0) is ∙ ap (λ (ss : List Slot). slots_lowered ss 0) (reversed s after)

pub turn_content : (done : List ℕ) (s : Slot) (content : Content) (flow : Flow) → s ≡ PlaceSlot content → ((m : Linear) → Leads m (content_lowered content FlatCell) m (flow_lowered flow)) →
    (rest : ℕ → Lowered) (m : Linear) → led (known done) (chain (slot_lowered s) rest 0) m ≡ led (known done) (chain (flow_lowered flow) rest 0) m
turn_content done s content flow is leads rest m = ap (λ (t : Slot). led (known done) (chain (slot_lowered t) rest 0) m) is ∙ (leads m).on (known done) rest

-- ---- memory, and then flat values

pub stopped_led : (m n : Linear) (done : List ℕ) (works new : List Work) (slots : List Slot) (flow ended : Flow) → Leads m (works_lowered (reverse works)) n (chain (flow_lowered flow) (works_lowered (reverse new))) → flow ≡ ended →
    led (known done) (chain (works_lowered (reverse works)) (slots_lowered slots) 0) m ≡ led (known done) (chain (flow_lowered ended) (chain (works_lowered (reverse new)) (slots_lowered slots)) 0) n
stopped_led m n done works new slots flow ended leads same =
    leads.on (known done) (slots_lowered slots) ∙ ap (λ (l : Lowered). led (known done) l n) (chain-assoc (flow_lowered flow) (works_lowered (reverse new)) (slots_lowered slots) 0)
    ∙ ap (λ (f : Flow). led (known done) (chain (flow_lowered f) (chain (works_lowered (reverse new)) (slots_lowered slots)) 0) n) same

pub over_led : (m n : Linear) (done after : List ℕ) (works new : List Work) (slots left : List Slot) (flow last : Flow) → Leads m (works_lowered (reverse works)) n (chain (flow_lowered flow) (works_lowered (reverse new))) → flow ≡ Goes → new ≡ [] →
    ((o : Linear) → led (known done) (slots_lowered slots 0) o ≡ led (known after) (chain (flow_lowered last) (slots_lowered left) 0) o) →
    led (known done) (chain (works_lowered (reverse works)) (slots_lowered slots) 0) m ≡ led (known after) (chain (flow_lowered last) (chain (works_lowered (reverse new)) (slots_lowered left)) 0) n
over_led m n done after works new slots left flow last leads same none goes_further =
    stopped_led m n done works new slots flow Goes leads same
    ∙ ap (λ (ws : List Work). led (known done) (chain none_left (chain (works_lowered (reverse ws)) (slots_lowered slots)) 0) n) none
    ∙ goes_further n
    ∙ ap (λ (l : Lowered). led (known after) l n) (chain-same (flow_lowered last) (flow_lowered last) (slots_lowered left) (chain none_left (slots_lowered left)) 0 refl (λ j. sym (none-chain (slots_lowered left) j)))
    ∙ ap (λ (ws : List Work). led (known after) (chain (flow_lowered last) (chain (works_lowered (reverse ws)) (slots_lowered left)) 0) n) (sym none)
