-- Parts of a script in memory: its keys, and what is left after one that is taken out.
use Rattle.std.proofs.Common.{◌≡◌, ◌≢◌, ℕ, List, [], ◌∷◌, ◌+◌, ◌++◌, length, map, refl, ap, sym, ◌∙◌, append_assoc, append-nil, length-append, Bool, true, false, String, string_bytes, Global, nat_cmp, arith}
use Rattle.std.specs.Prelude.{Option, Some, None, Result, Ok, Err, option_map, cond}
use Rattle.std.specs.Cmp.Lexicographic.{slice_cmp}
use Rattle.std.specs.BTreeMap.{is_at}
use Rattle.std.specs.Map.{lookup, remove_entry}
use Rattle.std.proofs.lemmas.List.{map-append}
use Rattle.std.proofs.lemmas.Map.Text.{is_eq-slice_cmp}
use Rattle.std.proofs.lemmas.Slice.Eq.{bytes_eq-Decides}
use Rattle.serde_json.specs.View.{view, items_view, members_view}
use Rattle.serde_json.specs.declared.value.Value.{Value as Json}
use Rattle.wit_types.specs.Plain.{Name}
use Rattle.host_port.specs.Untyped.{Untyped, Items, Members}
use Rattle.host_script.specs.Json.{untyped, untyped_items, untyped_members}
use Rattle.host_script.proofs.Fields.{take_removed}
use Rattle.host_script.specs.declared.fault.ScriptFault.{ScriptFault}
use Rattle.host_script.specs.declared.fault.ScriptFault.TheVariants.{BadScript, NoMemory}
use Rattle.host_script.specs.Script.{Gives, and_then, each_at, value_at, only_value}

abbrev Entry : Type 0
Entry = String Global × Json

-- a name is this key
abbrev test_of : Name → String Global → Bool
test_of name = is_at (λ k. slice_cmp nat_cmp name (string_bytes k))

-- a value that is looked up, and the other members
abbrev took : Option Json → Members → Option (Untyped × Members)
took None rest = None
took (Some j) rest = Some (untyped (view j), rest)

abbrev members_seen : List Entry → Members
members_seen es = untyped_members (members_view es)

abbrev json_seen : Option Json → Option Untyped
json_seen o = option_map (λ j. untyped (view j)) o

took_value : (o : Option Json) (rest : Members) → option_map (λ found. found.0) (took o rest) ≡ json_seen o
took_value None rest = refl
took_value (Some j) rest = refl

-- what is looked up in memory is the value at the key
value_looked : (key : Name) (es : List Entry) → json_seen (lookup (test_of key) es) ≡ value_at key (members_seen es)
value_looked key es = sym (ap (λ t. option_map (λ found. found.0) t) (take_removed key es) ∙ took_value (lookup (test_of key) es) (members_seen (remove_entry (test_of key) es)))

is_key : (key : Name) (k : String Global) → test_of key k ≡ true → key ≡ string_bytes k
is_key key k h = (bytes_eq-Decides key (string_bytes k)).0 (sym (is_eq-slice_cmp key (string_bytes k)) ∙ h)

step : (a b : Bool) (v : Option Json) (p q : Option Json) → (a ≡ true → b ≡ true → ⊥) → p ≡ q → cond a q (cond b v p) ≡ cond b v q
step true true v p q other e = absurd (other refl refl)
step true false v p q other e = refl
step false true v p q other e = refl
step false false v p q other e = e

looked_cond : (test : String Global → Bool) (b : Bool) (e : Entry) (es rest : List Entry) → lookup test (cond b es (e ∷ rest)) ≡ cond b (lookup test es) (cond (test e.0) (Some e.1) (lookup test rest))
looked_cond test true e es rest = refl
looked_cond test false e es rest = refl

-- another key that is taken out changes nothing of it
other_kept : (key other : Name) → key ≢ other → (es : List Entry) → lookup (test_of key) (remove_entry (test_of other) es) ≡ lookup (test_of key) es
other_kept key other differ [] = refl
other_kept key other differ (e ∷ es) =
    looked_cond (test_of key) (test_of other e.0) e es (remove_entry (test_of other) es)
    ∙ step (test_of other e.0) (test_of key e.0) (Some e.1) (lookup (test_of key) (remove_entry (test_of other) es)) (lookup (test_of key) es)
    (λ h k. differ (is_key key e.0 k ∙ sym (is_key other e.0 h))) (other_kept key other differ es)

-- a value that is taken, and the others
pub value_taken : (key : Name) (es : List Entry) (o : Option Json) → o ≡ lookup (test_of key) es → json_seen o ≡ value_at key (members_seen es)
value_taken key es o is = ap json_seen is ∙ value_looked key es

pub value_kept : (key other : Name) (old new : List Entry) → new ≡ remove_entry (test_of key) old → other ≢ key → value_at other (members_seen new) ≡ value_at other (members_seen old)
value_kept key other old new left differ =
    ap (λ es. value_at other (members_seen es)) left
    ∙ (sym (value_looked other (remove_entry (test_of key) old)) ∙ (ap json_seen (other_kept other key differ old) ∙ value_looked other old))

pub more_values : (e : Entry) (es : List Entry) → length es ≢ 0 → only_value (members_seen (e ∷ es)) ≡ None
more_values e [] h = absurd (h refl)
more_values e (d ∷ es) h = refl

-- ---- items that are read one after another

abbrev pub items_seen : List Json → Items
items_seen js = untyped_items (items_view js)

one_behind : {A : Type 0} (a : A) (done : List A) (r : Result (List A) ScriptFault)
    → and_then (and_then r (λ later. Ok (a ∷ later))) (λ later. Ok (done ++ later)) ≡ and_then r (λ later. Ok ((done ++ a ∷ []) ++ later))
one_behind a done (Ok later) = ap Ok (sym (append_assoc done (a ∷ []) later))
one_behind a done (Err e) = refl

pub each_next : {A B : Type 0} (read : ℕ → Untyped → Result A ScriptFault) (see : B → A) (items : List Json) (json : Json) (rest : List Json) (old new : List B) (b : B)
    → items ≡ json ∷ rest → read (length old) (untyped (view json)) ≡ Ok (see b) → new ≡ old ++ b ∷ []
    → and_then (each_at read (length old) (items_seen items)) (λ later. Ok (map see old ++ later)) ≡ and_then (each_at read (length new) (items_seen rest)) (λ later. Ok (map see new ++ later))
each_next read see items json rest old new b next is pushed =
    let count : length new ≡ length old + 1 = ap length pushed ∙ length-append old (b ∷ []) in
    let seen : map see new ≡ map see old ++ see b ∷ [] = ap (map see) pushed ∙ map-append see old (b ∷ []) in
    ap (λ xs. and_then (each_at read (length old) (items_seen xs)) (λ later. Ok (map see old ++ later))) next
    ∙ (ap (λ r. and_then (and_then r (λ a. and_then (each_at read (length old + 1) (items_seen rest)) (λ later. Ok (a ∷ later)))) (λ later. Ok (map see old ++ later))) is
    ∙ (one_behind (see b) (map see old) (each_at read (length old + 1) (items_seen rest))
    ∙ (ap (λ n. and_then (each_at read n (items_seen rest)) (λ later. Ok ((map see old ++ see b ∷ []) ++ later))) (sym count)
    ∙ ap (λ xs. and_then (each_at read (length new) (items_seen rest)) (λ later. Ok (xs ++ later))) (sym seen))))

pub each_wrong : {A B : Type 0} (read : ℕ → Untyped → Result A ScriptFault) (see : B → A) (items : List Json) (json : Json) (rest : List Json) (old : List B) (e : ScriptFault)
    → items ≡ json ∷ rest → read (length old) (untyped (view json)) ≡ Err e
    → and_then (each_at read (length old) (items_seen items)) (λ later. Ok (map see old ++ later)) ≡ Err e
each_wrong read see items json rest old e next is =
    ap (λ xs. and_then (each_at read (length old) (items_seen xs)) (λ later. Ok (map see old ++ later))) next
    ∙ ap (λ r. and_then (and_then r (λ a. and_then (each_at read (length old + 1) (items_seen rest)) (λ later. Ok (a ∷ later)))) (λ later. Ok (map see old ++ later))) is

pub each_done : {A B : Type 0} (read : ℕ → Untyped → Result A ScriptFault) (see : B → A) (items : List Json) (old : List B) → length items ≡ 0
    → and_then (each_at read (length old) (items_seen items)) (λ later. Ok (map see old ++ later)) ≡ Ok (map see old)
each_done read see [] old none = ap Ok (append-nil (map see old))
each_done read see (json ∷ items) old none = absurd (omega arith)

-- a fault that is handed on
pub fault_kept : {A B C D : Type 0} (see : A → B) (other : C → D) (due : Result B ScriptFault) (whole : Result D ScriptFault) (e : ScriptFault) (r : Result C ScriptFault)
    → Gives see due (Err e) → r ≡ Err e → ((x : ScriptFault) → due ≡ Err x → whole ≡ Err x) → Gives other whole r
fault_kept see other due whole (BadScript path) r h is f = rw is (f (BadScript path) h)
fault_kept see other due whole NoMemory r h is f = rw is tt
