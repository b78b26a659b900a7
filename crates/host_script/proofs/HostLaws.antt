-- The host that answers by a script, step by step.
use Rattle.std.proofs.Common.{◌≡◌, ◌∙◌, ℕ, List, [], ◌∷◌, ◌++◌, map, ap, sym, subst}
use Rattle.std.specs.Prelude.{Option, Result, Ok, Err, OnOk}
use Rattle.std.proofs.lemmas.List.{map-append}
use Rattle.wit_types.specs.Plain.{Plain, plain_result}
use Rattle.host_port.specs.declared.answer.Answer.{Answer}
use Rattle.host_port.specs.declared.answer.Observation.{Observation}
use Rattle.host_port.specs.declared.call.HostFunc.{HostFunc}
use Rattle.host_port.specs.declared.call.Resource.{Resource}
use Rattle.host_port.specs.Calls.{PlainCall, PlainObservation, Ended, Called, Dropped, plain_answer, plain_observation}
use Rattle.host_port.specs.Hosts.{Kept, IsAnswerTo, answer_of, reacts, drops}
use Rattle.host_port.specs.Scripts.{Script, script, script_call, item_answer}
use Rattle.host_script.specs.declared.script.ScriptItem.{ScriptItem}
use Rattle.host_script.specs.Script.{item_read, item_seen}
use Rattle.host_script.proofs.Textual.{item_typed}

-- with these items left, and so much seen
abbrev pub at_items : List (List ℕ) → List Observation → Kept Script
at_items items seen = record { state = map item_seen items; seen = map plain_observation seen }

pub by_func : {f g : HostFunc} (item : List ℕ) → f ≡ g → item_answer (plain_result f.result) (item_seen item) ≡ item_answer (plain_result g.result) (item_seen item)
by_func item same = ap (λ (h : HostFunc). item_answer (plain_result h.result) (item_seen item)) same

pub takes_item : (items rest : List (List ℕ)) (seen : List Observation) (c : PlainCall) (item : List ℕ) → items ≡ item ∷ rest
    → item_answer c.answer (item_seen item) ≡ answer_of script (at_items items seen) c
unfolding script
takes_item items rest seen c item is = ap (λ xs. (script_call (map item_seen xs) c).answer) (sym is)

pub takes_none : (items : List (List ℕ)) (seen : List Observation) (c : PlainCall) → items ≡ [] → Ended ≡ answer_of script (at_items items seen) c
unfolding script
takes_none items seen c is = ap (λ xs. (script_call (map item_seen xs) c).answer) (sym is)

seen_more : (old new : List Observation) (o : Observation) (p : PlainObservation) → new ≡ old ++ o ∷ [] → plain_observation o ≡ p → map plain_observation new ≡ map plain_observation old ++ p ∷ []
seen_more old new o p pushed is = ap (map plain_observation) pushed ∙ (map-append plain_observation old (o ∷ []) ∙ ap (λ q. map plain_observation old ++ q ∷ []) is)

pub next_item : (items rest : List (List ℕ)) (seen new : List Observation) (c : PlainCall) (item : List ℕ) (o : Observation) → items ≡ item ∷ rest
    → new ≡ seen ++ o ∷ [] → plain_observation o ≡ Called c → at_items rest new ≡ reacts script (at_items items seen) c
unfolding script
next_item items rest seen new c item o is pushed shown =
    ap (λ s. record { state = map item_seen rest; seen = s }) (seen_more seen new o (Called c) pushed shown)
    ∙ ap (λ xs. record { state = (script_call (map item_seen xs) c).next; seen = map plain_observation seen ++ (script_call (map item_seen xs) c).seen }) (sym is)

pub next_none : (items rest : List (List ℕ)) (seen new : List Observation) (c : PlainCall) (o : Observation) → items ≡ [] → rest ≡ []
    → new ≡ seen ++ o ∷ [] → plain_observation o ≡ Called c → at_items rest new ≡ reacts script (at_items items seen) c
unfolding script
next_none items rest seen new c o is none pushed shown =
    ap (λ s. record { state = map item_seen rest; seen = s }) (seen_more seen new o (Called c) pushed shown)
    ∙ (ap (λ xs. record { state = map item_seen xs; seen = map plain_observation seen ++ Called c ∷ [] }) none
    ∙ ap (λ xs. record { state = (script_call (map item_seen xs) c).next; seen = map plain_observation seen ++ (script_call (map item_seen xs) c).seen }) (sym is))

pub next_drop : (items : List (List ℕ)) (seen new : List Observation) (resource : Resource) (id : ℕ) (o : Observation) → new ≡ seen ++ o ∷ []
    → plain_observation o ≡ Dropped resource id → at_items items new ≡ drops script (at_items items seen) resource id
unfolding script
next_drop items seen new resource id o pushed shown = ap (λ s. record { state = map item_seen items; seen = s }) (seen_more seen new o (Dropped resource id) pushed shown)

pub answer_typed : (ty : Option Plain) (item : ScriptItem) (a : Answer) → plain_answer a ≡ item_answer ty (item_read item) → IsAnswerTo ty (plain_answer a)
answer_typed ty item a is = subst (IsAnswerTo ty) (sym is) (item_typed ty item)

pub on_ok : {A E P : Type 0} (r : Result A E) → P → OnOk r P
on_ok (Ok a) p = p
on_ok (Err e) p = tt
