-- An evaluation of core code that asks for handles returns, or traps.
use Rattle.std.proofs.Common.{◌≡◌, ◌∙◌, sym, ap, subst, ℕ, ◌+◌, List, [], length, append-nil, ◌⊎◌, inl, inr, false, arith}
use Rattle.core_store.specs.declared.value.CoreValue.{CoreValue}
use Rattle.core_store.specs.Config.{Reply, Outcome, Done, Trapped as CoreTrapped}
use Rattle.core_store.specs.Eval.{eval}
use Rattle.core_store.specs.Laws.{Further}
use Rattle.core_store.specs.State.{State}
use Rattle.core_store.proofs.Further.{further}
use Rattle.core_store.proofs.Steps.{within as within_steps}
use Rattle.handle_space.specs.HandleMap.{HandleMap}
use Rattle.adapter_code.specs.declared.state.CodeEnd.{CodeEnd}
use Rattle.adapter_code.specs.declared.state.CodeEnd.TheVariants.{Answer, Trap}
use Rattle.adapter_code.specs.declared.state.Effect.{Effect}
use Rattle.adapter_compile.specs.Handles.{Numbers, Follows, Refused}
use Rattle.adapter_compile.specs.Does.{ArrivesAt}
use Rattle.host_port.specs.Hosts.{HostStep, Loss}
use Rattle.comp_worlds.specs.Acts.{Trapped, Out, Next, Over, seen_before, Act}
use Rattle.comp_worlds.specs.Groups.{Endless, Config, Group, World}
use Rattle.comp_worlds.specs.Hosts.{hosted}
use Rattle.comp_frames.specs.Running.{Rest, running, going}
use Rattle.comp_frames.specs.RunsLaws.{Unfolds, GoesByItsRest}
use Rattle.adapter_calls.specs.Handling.{KnowsKinds, map_to, OfKinds, AreOwned, lost}
use Rattle.adapter_calls.specs.Instance.{standing, with_both, IsQuiet}
use Rattle.adapter_calls.specs.Turns.{AsksInTurn}
use Rattle.adapter_calls.proofs.Handling.{AreAnswered, answered_all, refused_traps}
use Rattle.adapter_calls.proofs.Instance.{from_store, goes_to_end, goes_to_trap}
use Rattle.adapter_calls.proofs.Turns.{evaluation_in_turn}

module _ {S : Type 0} (h : HostStep S) (G : Group) (unfolds : Unfolds G (hosted h)) (by : GoesByItsRest G (hosted h)) (k : ℕ) (numbers : Numbers) (to : ℕ → ℕ) (know : KnowsKinds G k numbers to) where
  module _ (before behind : State) (f : ℕ) (args results : List CoreValue) (steps : ℕ) (effects : List Effect) (table table' : HandleMap ℕ) (end : CodeEnd)
      (follows : (n : ℕ) → Follows numbers Outcome (λ o. o) (λ rs. eval before f args rs (steps + n)) table effects (ArrivesAt numbers Outcome (λ o. o) end table' (λ rs. Done results behind n))) (kinds : OfKinds effects) (w : World S) (c : Config ℕ) (s : S)
      (stored : c.store ≡ before) (quiet : IsQuiet c.store) (handles : c.map ≡ map_to to table) (unclosed : c.closed ≡ false) (owned : AreOwned table.entries) where
    abbrev X : Rest
    X replies n = eval before f args replies n

    abbrev Arrives : ℕ → (List Reply → Outcome) → HandleMap ℕ → Type 0
    Arrives n = ArrivesAt numbers Outcome (λ o. o) end table' (λ replies. Done results behind n)

    turns : AsksInTurn numbers steps X table effects (λ Y g. (n : ℕ) → Arrives n (λ replies. Y replies (steps + n)) g)
    turns = evaluation_in_turn numbers before f args steps table effects Arrives (ap (λ t. t.deepest) (sym stored) ∙ quiet.deepest) follows

    begun : AreAnswered h G k by numbers to know w c unclosed steps X table effects before s (λ Y g. (n : ℕ) → Arrives n (λ replies. Y replies (steps + n)) g)
    begun = answered_all h G k by numbers to know w c unclosed effects steps X table before s (λ Y g. (n : ℕ) → Arrives n (λ replies. Y replies (steps + n)) g) (λ replies n. within_steps before f args replies n) (λ replies n d. further before f args replies n d) owned kinds turns

    here : c ≡ with_both c before (map_to to table)
    here = λ i. record { store = stored i; map = handles i; entered = c.entered; closed = c.closed }

    -- from its beginning it goes by its rest
    begins_so : (n : ℕ) → running G (hosted h) Endless k f args (standing w k c s) n ≡ going G (hosted h) Endless k X (standing w k (with_both c before (map_to to table)) s) n
    begins_so n =
        from_store G (hosted h) unfolds by w k f args c s n quiet
        ∙ ap (λ (act : Act (World S) (List CoreValue)). act (standing w k c s) n) (by.begun Endless k f args c.store [])
        ∙ (λ i. going G (hosted h) Endless k (λ replies m. eval (stored i) f args replies m) (standing w k (here i) s) n)

    arrived : end ≡ Answer → (n : ℕ) → (begun.map ≡ table') × ((replies : List Reply) → begun.last replies (steps + n) ≡ Done results behind n)
    arrived ends n = subst (λ (e : CodeEnd). ArrivesAt numbers Outcome (λ o. o) e table' (λ replies. Done results behind n) (λ replies. begun.last replies (steps + n)) begun.map) ends (begun.holds n)

    -- no handle is borrowed after it
    pub owned_then : end ≡ Answer → AreOwned table'.entries
    owned_then ends = subst (λ (m : HandleMap ℕ). AreOwned m.entries) (arrived ends 0).0 begun.owned

    pub returns_by : end ≡ Answer → (n : ℕ) → running G (hosted h) Endless k f args (standing w k c s) (steps + (length effects + n)) ≡ Next (lost h G to effects s).seen n (standing w k (with_both c behind (map_to to table')) (lost h G to effects s).next) results
    returns_by ends n =
        let l : Loss S = lost h G to effects s in
        let a = arrived ends n in
        begins_so (steps + (length effects + n))
        ∙ begun.goes_on n
        ∙ ap (seen_before l.seen) (goes_to_end G (hosted h) by w k begun.last begun.rest (with_both c begun.store (map_to to begun.map)) behind l.next results (steps + n) n (a.1 []))
        ∙ (λ i. Next (append-nil l.seen i) n (standing w k (with_both c behind (map_to to (a.0 i))) l.next) results)

    -- or it traps
    ended : end ≡ Trap → (n : ℕ) → ((replies : List Reply) → begun.last replies (steps + n) ≡ CoreTrapped) ⊎ Refused numbers Outcome (λ o. o) (λ replies. begun.last replies (steps + n)) begun.map
    ended ends n = subst (λ (e : CodeEnd). ArrivesAt numbers Outcome (λ o. o) e table' (λ replies. Done results behind n) (λ replies. begun.last replies (steps + n)) begun.map) ends (begun.holds n)

    abbrev Last : ℕ → Out (World S) (List CoreValue)
    Last N = going G (hosted h) Endless k begun.last (standing w k (with_both c begun.store (map_to to begun.map)) (lost h G to effects s).next) N

    one_step : (n : ℕ) → steps + (1 + n) ≡ 1 + (steps + n)
    one_step n = omega arith

    last_traps : (n : ℕ) → ((replies : List Reply) → begun.last replies (steps + n) ≡ CoreTrapped) ⊎ Refused numbers Outcome (λ o. o) (λ replies. begun.last replies (steps + n)) begun.map → Last (1 + (steps + n)) ≡ Over [] Trapped
    last_traps n (inl trapped) = goes_to_trap G (hosted h) by w k begun.last begun.rest (with_both c begun.store (map_to to begun.map)) (lost h G to effects s).next (1 + (steps + n))
        (subst (λ o. Further 1 o (begun.last [] (1 + (steps + n)))) (trapped []) (begun.further [] (steps + n) 1))
    last_traps n (inr refused) = refused_traps h G k by numbers to know w c unclosed begun.last begun.rest begun.further begun.store begun.map (lost h G to effects s).next (steps + n) begun.owned refused

    pub traps_by : end ≡ Trap → (n : ℕ) → running G (hosted h) Endless k f args (standing w k c s) (steps + (length effects + (1 + n))) ≡ Over (lost h G to effects s).seen Trapped
    traps_by ends n =
        let l : Loss S = lost h G to effects s in
        begins_so (steps + (length effects + (1 + n)))
        ∙ begun.goes_on (1 + n)
        ∙ ap (seen_before l.seen) (ap Last (one_step n) ∙ last_traps n (ended ends n))
        ∙ ap (λ z. Over z Trapped) (append-nil l.seen)
