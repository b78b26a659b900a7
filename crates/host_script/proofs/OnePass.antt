-- A script of the usual form is what its items, taken in turn, give.
use Rattle.std.proofs.Common.{◌≡◌, ◌∙◌, ℕ, ◌+◌, ◌-◌, ◌<◌, ◌≤◌, List, [], ◌∷◌, ◌++◌, length, map, codes, refl, ap, sym, subst, arith}
use Rattle.std.specs.Prelude.{Some, None, Result, Ok, option_map, option_and_then, IsUtf8}
use Rattle.json.specs.Token.{Token, begin_object, end_object, begin_array, key}
use Rattle.json.specs.Lex.{tokens}
use Rattle.json.specs.Json as json
use Rattle.json.specs.Json.{Json, value, items, members, parse_map, after_end_array, read_key, if_last}
use Rattle.json.proofs.Grammar.{left, skip_value-shorter, value-begin_array, value-begin_object, items_end, items_more, members_end, members_more}
use Rattle.serde_json.specs.Data.{Data, array, object, Items, no_items, item, no_members, member, put}
use Rattle.serde_json.specs.Read.{read, of_json, of_items, of_members}
use Rattle.host_port.specs.Untyped.{Untyped}
use Rattle.host_port.specs.Scripts as port
use Rattle.host_script.specs.Json.{untyped, untyped_items}
use Rattle.host_script.specs.declared.fault.ScriptFault.{ScriptFault}
use Rattle.host_script.specs.declared.script.Call.{Call}
use Rattle.host_script.specs.Script.{Exports, and_then, or_bad, nth, each_at, item_in, item_or_trap, answer_at, call_at, item_seen, call_seen, json_in, due_script}
use Rattle.host_script.specs.Taken.{Taken, TakesAll, Takes, IsNext, IsAnswer, IsCall}
use Rattle.host_script.proofs.Whole.{json_is}

-- ---- one more item

pub taken_push : {A : Type 0} (P : A → Data → Type 0) (xs : List A) (a : A) (d : Data) (old mid new : List Token)
    → Taken P xs old mid → after_end_array mid ≡ None → P a d → IsNext d mid new → Taken P (xs ++ a ∷ []) old new
taken_push P [] a d old mid new same going is next =
    subst (λ ts. Taken P (a ∷ []) ts new) (sym same) (record { data' = d; left = new; is = is; going = going; next = next }, refl)
taken_push P (b ∷ xs) a d old mid new taken going is next = (taken.0, taken_push P xs a d taken.0.left mid new taken.1 going is next)

pub taken_more : {A : Type 0} (P : A → Data → Type 0) (xs more : List A) (old mid new : List Token)
    → Taken P xs old mid → after_end_array mid ≡ None → Takes P xs more mid new → Taken P more old new
taken_more P xs more old mid new taken going takes =
    subst (λ bs. Taken P bs old new) (sym takes.pushed) (taken_push P xs takes.given takes.data' old mid new taken going takes.is takes.next)

-- ---- what all of them are

abbrev EachIs : {A : Type 0} → (A → Data → Type 0) → List A → Items → Type 0
EachIs P [] no_items = Unit {0}
EachIs P [] (item d ds) = ⊥
EachIs P (a ∷ xs) no_items = ⊥
EachIs P (a ∷ xs) (item d ds) = P a d × EachIs P xs ds

record Spelled {A : Type 0} (P : A → Data → Type 0) (xs : List A) (n : ℕ) (old new : List Token) : Type 0 where
  pub trees : json.Items
  pub datas : Items
  pub begins : items (value 125) n old ≡ Some (trees, new)
  pub stand : of_items trees ≡ Some datas
  pub each : EachIs P xs datas

taken_read : {A : Type 0} (P : A → Data → Type 0) (xs : List A) (old stop new : List Token) → Taken P xs old stop → after_end_array stop ≡ Some new → (n : ℕ) → length old ≤ n → Spelled P xs n old new
taken_read P [] old stop new same ends n enough =
    record { trees = json.no_items; datas = no_items; begins = items_end (value 125) n old new enough (ap after_end_array same ∙ ends); stand = refl; each = tt }
taken_read P (a ∷ xs) old stop new taken ends n enough =
    let turn = taken.0 in
    let one = turn.next in
    let less : length turn.left < length old = skip_value-shorter 125 old turn.left (ap left one.begins) in
    let rest = taken_read P xs turn.left stop new taken.1 ends (n - 1) (omega (arith, less)) in
    record {
      trees = json.item one.tree rest.trees;
      datas = item turn.data' rest.datas;
      begins = items_more (value 125) n old turn.left one.tree (omega (arith, less)) turn.going one.begins ∙ ap (parse_map (json.item one.tree)) rest.begins;
      stand = ap (option_and_then (λ d. option_map (item d) (of_items rest.trees))) one.stands ∙ ap (option_map (item turn.data')) rest.stand;
      each = (turn.is, rest.each);
    }

each_read : {A B : Type 0} (P : A → Data → Type 0) (reads : ℕ → Untyped → Result B ScriptFault) (see : A → B) → ((a : A) (d : Data) (i : ℕ) → P a d → reads i (untyped d) ≡ Ok (see a))
    → (xs : List A) (ds : Items) (i : ℕ) → EachIs P xs ds → each_at reads i (untyped_items ds) ≡ Ok (map see xs)
each_read P reads see fits [] no_items i h = refl
each_read P reads see fits [] (item d ds) i h = absurd h
each_read P reads see fits (a ∷ xs) no_items i h = absurd h
each_read P reads see fits (a ∷ xs) (item d ds) i h =
    ap (λ r. and_then r (λ b. and_then (each_at reads (i + 1) (untyped_items ds)) (λ rest. Ok (b ∷ rest)))) (fits a d i h.0)
    ∙ ap (λ r. and_then r (λ rest. Ok (see a ∷ rest))) (each_read P reads see fits xs ds (i + 1) h.1)

answers_read : (texts : List (List ℕ)) (ds : Items) → EachIs IsAnswer texts ds → each_at answer_at 0 (untyped_items ds) ≡ Ok (map item_seen texts)
answers_read texts ds = each_read IsAnswer answer_at item_seen (λ text d i is. ap (or_bad (nth (codes "answers") i)) is) texts ds 0

calls_read : (exports : Exports) (calls : List Call) (ds : Items) → EachIs (IsCall exports) calls ds → each_at (call_at exports) 0 (untyped_items ds) ≡ Ok (map call_seen calls)
calls_read exports calls ds = each_read (IsCall exports) (call_at exports) call_seen (λ call d i is. ap (or_bad (nth (codes "calls") i)) is) calls ds 0

-- ---- the whole text

abbrev both_trees : json.Items → json.Items → Json
both_trees js ks = json.object (json.member (codes "answers") (json.array js) (json.member (codes "calls") (json.array ks) json.no_members))

abbrev both_datas : Items → Items → Data
both_datas ds es = object (member (codes "answers") (array ds) (member (codes "calls") (array es) no_members))

members_read : (ts first middle second last : List Token) (js ks : json.Items) → ts ≡ key (codes "answers") ∷ begin_array ∷ first → items (value 125) (length first) first ≡ Some (js, middle)
    → middle ≡ key (codes "calls") ∷ begin_array ∷ second → items (value 125) (length second) second ≡ Some (ks, last) → last ≡ end_object ∷ []
    → value 127 (begin_object ∷ ts) ≡ Some (both_trees js ks, [])
members_read ts first middle second last js ks is_first one is_second two is_last =
    let n = length ts in
    let answers : value 126 (begin_array ∷ first) ≡ Some (json.array js, middle) = value-begin_array 126 first (omega arith) ∙ ap (parse_map json.array) one in
    let calls : value 126 (begin_array ∷ second) ≡ Some (json.array ks, last) = value-begin_array 126 second (omega arith) ∙ ap (parse_map json.array) two in
    let less : length middle < length (begin_array ∷ first) = skip_value-shorter 126 (begin_array ∷ first) middle (ap left answers) in
    let first_long = ap length is_first in
    let second_long = ap length is_second in
    let last_long = ap length is_last in
    let long : n ≡ length first + 2 = omega (arith, first_long) in
    let between : length middle ≡ length second + 2 = omega (arith, second_long) in
    let one_left : length last ≡ 1 = omega (arith, last_long) in
    let shorter : length middle < length first + 1 = omega (arith, less) in
    value-begin_object 127 ts (omega arith)
    ∙ ap (parse_map json.object)
    (members_more (value 126) n (codes "answers") ts (begin_array ∷ first) middle (json.array js) (omega (arith, long)) (ap read_key is_first) answers
    ∙ ap (parse_map (json.member (codes "answers") (json.array js)))
    (members_more (value 126) (n - 1) (codes "calls") middle (begin_array ∷ second) last (json.array ks) (omega (arith, long, shorter, between)) (ap read_key is_second) calls
    ∙ ap (parse_map (json.member (codes "calls") (json.array ks))) (members_end (value 126) (n - 1 - 1) last [] (omega (arith, long, shorter, between, one_left)) (ap read_key is_last))))

stands : (js ks : json.Items) (ds es : Items) → of_items js ≡ Some ds → of_items ks ≡ Some es → of_json (both_trees js ks) ≡ Some (both_datas ds es)
stands js ks ds es one two =
    ap (λ o. option_map object (option_and_then (λ d. of_members (json.member (codes "calls") (json.array ks) json.no_members) (put (codes "answers") d no_members)) (option_map array o))) one
    ∙ ap (λ o. option_map object (option_and_then (λ e. Some (put (codes "calls") e (put (codes "answers") (array ds) no_members))) (option_map array o))) two

given_by : (exports : Exports) (ds es : Items) (texts : List (List ℕ)) (calls : List Call) → each_at answer_at 0 (untyped_items ds) ≡ Ok (map item_seen texts) → each_at (call_at exports) 0 (untyped_items es) ≡ Ok (map call_seen calls)
    → due_script exports (Some (untyped (both_datas ds es))) ≡ Ok (record { answers = map item_seen texts; calls = map call_seen calls })
given_by exports ds es texts calls one two =
    ap (λ r. and_then r (λ answers. and_then (each_at (call_at exports) 0 (untyped_items es)) (λ made. Ok (record { answers = answers; calls = made })))) one
    ∙ ap (λ r. and_then r (λ made. Ok (record { answers = map item_seen texts; calls = made }))) two

-- the script that the tokens of a text are
pub regular : (exports : Exports) (text : List ℕ) (texts : List (List ℕ)) (calls : List Call) (ts first middle second last : List Token) → IsUtf8 text → tokens text ≡ begin_object ∷ ts
    → ts ≡ key (codes "answers") ∷ begin_array ∷ first → TakesAll IsAnswer texts first middle → middle ≡ key (codes "calls") ∷ begin_array ∷ second → TakesAll (IsCall exports) calls second last → last ≡ end_object ∷ []
    → due_script exports (json_in text) ≡ Ok (record { answers = map item_seen texts; calls = map call_seen calls })
regular exports text texts calls ts first middle second last utf8 begins is_first answered is_second called is_last =
    let a = taken_read IsAnswer texts first answered.stop middle answered.taken answered.ends (length first) (omega arith) in
    let b = taken_read (IsCall exports) calls second called.stop last called.taken called.ends (length second) (omega arith) in
    let tree : value 127 (tokens text) ≡ Some (both_trees a.trees b.trees, []) = ap (value 127) begins ∙ members_read ts first middle second last a.trees b.trees is_first a.begins is_second b.begins is_last in
    let is : read text ≡ Some (both_datas a.datas b.datas) = ap (λ o. option_and_then of_json (option_and_then (λ p. if_last p.0 p.1) o)) tree ∙ stands a.trees b.trees a.datas b.datas a.stand b.stand in
    ap (due_script exports) (json_is text (both_datas a.datas b.datas) utf8 is)
    ∙ given_by exports a.datas b.datas texts calls (answers_read texts a.datas a.each) (calls_read exports calls b.datas b.each)

-- ---- the answer that a text is

pub seen_item : (text : List ℕ) (u : Untyped) (i : port.Item) → json_in text ≡ Some u → item_in u ≡ Some i → item_seen text ≡ i
unfolding item_seen
seen_item text u i is found = ap (λ o. item_or_trap (option_and_then item_in o)) is ∙ ap item_or_trap found

pub seen_trap : (text : List ℕ) (u : Untyped) → json_in text ≡ Some u → item_in u ≡ None → item_seen text ≡ port.Traps
unfolding item_seen
seen_trap text u is none = ap (λ o. item_or_trap (option_and_then item_in o)) is ∙ ap item_or_trap none

pub seen_none : (text : List ℕ) → json_in text ≡ None → item_seen text ≡ port.Traps
unfolding item_seen
seen_none text none = ap (λ o. item_or_trap (option_and_then item_in o)) none
