-- What the functions of the transfer area do.
use Rattle.std.proofs.Common.{◌≡◌, ℕ, zero, suc, ◌+◌, ◌-◌, ◌*◌, ◌/◌, ◌<◌, ◌≤◌, ◌^◌, List, [], ◌∷◌, ◌++◌, Option, Some, None, Bool, true, false, length, take, drop, reverse, refl, ap, ◌∙◌, arith, lit<}
use Rattle.std.proofs.Math.Nat.{mod-eq_of_lt}
use Rattle.std.specs.Prelude.{nat_lt, nat_le, if◌then◌else◌, slice_get, slice_set}
use Rattle.std.specs.Int.{from_bool}
use Rattle.virt_base.specs.declared.core_type.CoreType.{CoreType}
use Rattle.virt_base.specs.declared.core_type.CoreType.TheVariants.{I32, I64}
use Rattle.wasm_ast.specs.declared.instr.BlockType.TheVariants.{Empty}
use Rattle.wasm_ast.specs.declared.instr.Instr.TheVariants.{Unreachable, End}
use Rattle.core_store.specs.Tree.{Seq, Stop, Then, InIf, tree}
use Rattle.core_store.specs.declared.value.CoreValue.{CoreValue}
use Rattle.core_store.specs.declared.value.CoreValue.TheVariants as values
use Rattle.core_store.specs.declared.value.CoreSpaces.{CoreSpaces}
use Rattle.core_store.specs.State.{State as StoreState}
use Rattle.core_store.specs.Words.{words, word_of, value_like}
use Rattle.core_store.specs.Config.{Reply, Config, Outcome, Done, Trapped, Out, Next, Over, then_do, with_store, bare, spaces_of}
use Rattle.core_store.specs.Plain.{with_some}
use Rattle.core_store.specs.Eval.{Enter, function_type, advance, entered_store, left_store, call_end, enter_within, entered, finish, outside, exec, go, eval}
use Rattle.core_store.proofs.Steps.{go_enter}
use Rattle.adapter_code.specs.declared.layout.Layout.{Layout}
use Rattle.adapter_code.specs.declared.statement.Width.{Width}
use Rattle.adapter_code.specs.declared.statement.Width.TheVariants.{Narrow, Broad}
use Rattle.adapter_code.specs.declared.statement.IntOp.TheVariants.{LtU, Add, Sub, Shl, ShrU}
use Rattle.adapter_code.specs.Layout.{padded, transfer_at, end_of, Fits}
use Rattle.adapter_code.proofs.Enough.{plain_result}
use Rattle.adapter_compile.specs.Instructions.{get, set, numeric, constant, opcode}
use Rattle.adapter_compile.proofs.Sim.{up}
use Rattle.adapter_compile.proofs.Steps.{i32_same, get_step, constant_step, operator_step}
use Rattle.adapter_transfer.specs.Transfer.{last_at, get_end, set_end, realloc_code, reset_code, body_of, realloc_type, Stands, IsUsed, with_end, Gives, IsRealloc, IsReset}
use Rattle.adapter_transfer.proofs.Numbers.{less, not_less, within, beyond, has_room, has_none, is_before, last_small, begin_small}

-- that many steps and more
up_add : (p n : ℕ) → p + n ≡ up p n
up_add zero n = omega arith
up_add (suc p) n = let e : suc p + n ≡ suc (p + n) = omega arith in e ∙ ap suc (up_add p n)

steps_up : (X : ℕ → Outcome) (p n : ℕ) (o : Outcome) → X (up p n) ≡ o → X (p + n) ≡ o
steps_up X p n o e = ap X (up_add p n) ∙ e

-- ---- the structured syntax

abbrev give_seq : Seq
give_seq = Then get_end (Then (get 3) (Then set_end Stop))

abbrev next_seq : Seq → Seq
next_seq q =
    Then (get 3) (Then (constant Narrow 7) (Then (numeric (opcode Add Narrow)) (Then (constant Narrow 3) (Then (numeric (opcode ShrU Narrow))
    (Then (constant Narrow 3) (Then (numeric (opcode Shl Narrow)) (Then get_end (Then (numeric (opcode Add Narrow)) (Then (set 3) q)))))))))

abbrev trap_seq : Seq
trap_seq = Then Unreachable Stop

abbrev room_seq : Layout → Seq → Seq
room_seq l q =
    Then (constant Narrow (last_at l)) (Then get_end (Then (numeric (opcode Sub Narrow)) (Then (get 3) (Then (numeric (opcode LtU Narrow)) (InIf Empty trap_seq Stop q)))))

realloc_tree : (l : Layout) → tree (realloc_code l ++ End ∷ []) ≡ room_seq l (next_seq give_seq)
realloc_tree l = refl

abbrev reset_seq : Layout → Seq
reset_seq l = Then (constant Narrow (transfer_at l)) (Then set_end Stop)

reset_tree : (l : Layout) → tree (reset_code l ++ End ∷ []) ≡ reset_seq l
reset_tree l = refl

-- ---- one step at a time, in an instance whose global 0 holds a number

module _ (spaces : CoreSpaces) (store : StoreState) (global at : ℕ) (there : slice_get spaces.globals 0 ≡ Some global) (holds : slice_get store.globals global ≡ Some (values.I32 at)) (rs : List Reply) where
  abbrev inside : List ℕ → List ℕ → Config
  inside stack locals = record { stack = stack; locals = locals; spaces = spaces; store = store; replies = rs }

  abbrev behind : ℕ → List ℕ → List ℕ → Config
  behind w stack locals = record { stack = stack; locals = locals; spaces = spaces; store = with_end store global w; replies = rs }

  get_end_step : (stack locals : List ℕ) (n : ℕ) (q : Seq) → exec go (Then get_end q) (suc n) (inside stack locals) ≡ exec go q n (inside (at ∷ stack) locals)
  get_end_step stack locals n q =
      ap (λ o. then_do (advance (with_some o (λ k. with_some (slice_get store.globals k) (λ v. Some (inside (word_of v ∷ stack) locals)))) n) (exec go q)) there
      ∙ ap (λ o. then_do (advance (with_some o (λ v. Some (inside (word_of v ∷ stack) locals))) n) (exec go q)) holds

  set_end_step : (w : ℕ) (stack locals : List ℕ) (n : ℕ) (q : Seq) → w < 2 ^ 32 → exec go (Then set_end q) (suc n) (inside (w ∷ stack) locals) ≡ exec go q n (behind w stack locals)
  set_end_step w stack locals n q lt =
      let set_to : ℕ → CoreValue → Config = λ k v. with_store (inside (w ∷ stack) locals) stack (record store { globals = slice_set store.globals k v }) in
      ap (λ o. then_do (advance (with_some o (λ k. with_some (slice_get store.globals k) (λ old. Some (set_to k (value_like (length store.functions) old w))))) n) (exec go q)) there
      ∙ ap (λ o. then_do (advance (with_some o (λ old. Some (set_to global (value_like (length store.functions) old w)))) n) (exec go q)) holds
      ∙ ap (λ v. exec go q n (set_to global (values.I32 v))) (i32_same w lt)

  test_step : (b : Bool) (n : ℕ) (locals : List ℕ) (q : Seq) → exec go (InIf Empty trap_seq Stop q) (suc (suc n)) (inside (from_bool b ∷ []) locals) ≡ (if b then Over Trapped else exec go q (suc n) (inside [] locals))
  test_step true n locals q = refl
  test_step false n locals q = refl

  -- the end moves back
  reset_runs : (l : Layout) → Fits l → (locals : List ℕ) (n : ℕ) → exec go (reset_seq l) (suc (suc n)) (inside [] locals) ≡ Next n (behind (transfer_at l) [] locals)
  reset_runs l fits locals n =
      constant_step Narrow (transfer_at l) (suc n) (inside [] locals) (Then set_end Stop)
      ∙ ap (λ v. exec go (Then set_end Stop) (suc n) (inside (v ∷ []) locals)) (mod-eq_of_lt (begin_small l fits))
      ∙ set_end_step (transfer_at l) [] locals n Stop (begin_small l fits)

  -- a request
  module _ (l : Layout) (fits : Fits l) (whole : at / 8 * 8 ≡ at) (to : at ≤ end_of l) (old old_len align len : ℕ) (small : len < 2 ^ 32) where
    abbrev locals : ℕ → List ℕ
    locals x = old ∷ old_len ∷ align ∷ x ∷ []

    at_small : at < 2 ^ 32
    at_small = omega (arith, fits, to)

    room_runs : (n : ℕ) (q : Seq) → exec go (room_seq l q) (suc (suc (suc (suc (suc (suc (suc n))))))) (inside [] (locals len)) ≡ (if nat_lt (last_at l - at) len then Over Trapped else exec go q (suc n) (inside [] (locals len)))
    room_runs n q =
        let last = last_at l in
        let q5 = InIf Empty trap_seq Stop q in
        let q4 = Then (numeric (opcode LtU Narrow)) q5 in
        let q3 = Then (get 3) q4 in
        let q2 = Then (numeric (opcode Sub Narrow)) q3 in
        let q1 = Then get_end q2 in
        let left = last - at in
        let left_small : left < 2 ^ 32 = omega (arith, last_small l fits) in
        constant_step Narrow last (suc (suc (suc (suc (suc (suc n)))))) (inside [] (locals len)) q1
        ∙ ap (λ v. exec go q1 (suc (suc (suc (suc (suc (suc n)))))) (inside (v ∷ []) (locals len))) (mod-eq_of_lt (last_small l fits))
        ∙ get_end_step (last ∷ []) (locals len) (suc (suc (suc (suc (suc n))))) q2
        ∙ operator_step Sub Narrow last at (suc (suc (suc (suc n)))) (inside [] (locals len)) q3 (λ e. last_small l fits) (λ e. at_small)
        ∙ ap (λ v. exec go q3 (suc (suc (suc (suc n)))) (inside (v ∷ []) (locals len))) (plain_result Sub Narrow last at (is_before l at whole to, last_small l fits))
        ∙ get_step 3 len (suc (suc (suc n))) (inside (left ∷ []) (locals len)) q4 refl
        ∙ operator_step LtU Narrow left len (suc (suc n)) (inside [] (locals len)) q5 (λ e. left_small) (λ e. small)
        ∙ test_step (nat_lt left len) n (locals len) q

    next_runs : (n : ℕ) (q : Seq) → at + padded len ≤ end_of l → exec go (next_seq q) (suc (suc (suc (suc (suc (suc (suc (suc (suc (suc n)))))))))) (inside [] (locals len)) ≡ exec go q n (inside [] (locals (at + padded len)))
    next_runs n q room =
        let q9 = Then (set 3) q in
        let q8 = Then (numeric (opcode Add Narrow)) q9 in
        let q7 = Then get_end q8 in
        let q6 = Then (numeric (opcode Shl Narrow)) q7 in
        let q5 = Then (constant Narrow 3) q6 in
        let q4 = Then (numeric (opcode ShrU Narrow)) q5 in
        let q3 = Then (constant Narrow 3) q4 in
        let q2 = Then (numeric (opcode Add Narrow)) q3 in
        let q1 = Then (constant Narrow 7) q2 in
        let c = inside [] (locals len) in
        let long = len + 7 in
        let long_small : len + 7 < 2 ^ 32 = omega (arith, fits, has_room l at whole to len room) in
        let part = (len + 7) / 8 in
        let part_small : (len + 7) / 8 < 2 ^ 32 = omega (arith, long_small) in
        let next_small : padded len < 2 ^ 32 = omega (arith, fits, room) in
        let sum_small : padded len + at < 2 ^ 32 = omega (arith, fits, room) in
        let turned : padded len + at ≡ at + padded len = omega arith in
        get_step 3 len (suc (suc (suc (suc (suc (suc (suc (suc (suc n))))))))) c q1 refl
        ∙ constant_step Narrow 7 (suc (suc (suc (suc (suc (suc (suc (suc n)))))))) (inside (len ∷ []) (locals len)) q2
        ∙ operator_step Add Narrow len 7 (suc (suc (suc (suc (suc (suc (suc n))))))) c q3 (λ e. small) (λ e. lit< tt)
        ∙ ap (λ v. exec go q3 (suc (suc (suc (suc (suc (suc (suc n))))))) (inside (v ∷ []) (locals len))) (plain_result Add Narrow len 7 long_small)
        ∙ constant_step Narrow 3 (suc (suc (suc (suc (suc (suc n)))))) (inside (long ∷ []) (locals len)) q4
        ∙ operator_step ShrU Narrow long 3 (suc (suc (suc (suc (suc n))))) c q5 (λ e. long_small) (λ e. lit< tt)
        ∙ constant_step Narrow 3 (suc (suc (suc (suc n)))) (inside (part ∷ []) (locals len)) q6
        ∙ operator_step Shl Narrow part 3 (suc (suc (suc n))) c q7 (λ e. part_small) (λ e. lit< tt)
        ∙ ap (λ v. exec go q7 (suc (suc (suc n))) (inside (v ∷ []) (locals len))) (mod-eq_of_lt next_small)
        ∙ get_end_step (padded len ∷ []) (locals len) (suc (suc n)) q8
        ∙ operator_step Add Narrow (padded len) at (suc n) c q9 (λ e. next_small) (λ e. at_small)
        ∙ ap (λ v. exec go q9 (suc n) (inside (v ∷ []) (locals len))) (plain_result Add Narrow (padded len) at sum_small ∙ turned)

    give_runs : (n : ℕ) → at + padded len ≤ end_of l → exec go give_seq (suc (suc (suc n))) (inside [] (locals (at + padded len))) ≡ Next n (behind (at + padded len) (at ∷ []) (locals (at + padded len)))
    give_runs n room =
        let end = at + padded len in
        let end_small : at + padded len < 2 ^ 32 = omega (arith, fits, room) in
        get_end_step [] (locals end) (suc (suc n)) (Then (get 3) (Then set_end Stop))
        ∙ get_step 3 end (suc n) (inside (at ∷ []) (locals end)) (Then set_end Stop) refl
        ∙ set_end_step end (at ∷ []) (locals end) n Stop end_small

    -- how the body ends, by whether the request has room
    abbrev ends : Bool → ℕ → Out
    ends true n = Next n (behind (at + padded len) (at ∷ []) (locals (at + padded len)))
    ends false n = Over Trapped

    request_runs : (n : ℕ) → exec go (room_seq l (next_seq give_seq)) (up 19 n) (inside [] (locals len)) ≡ ends (nat_le (at + padded len) (end_of l)) n
    request_runs n = room_runs (up 12 n) (next_seq give_seq) ∙ decide (nat_le (at + padded len) (end_of l)) refl
      where
        decide : (b : Bool) → nat_le (at + padded len) (end_of l) ≡ b → (if nat_lt (last_at l - at) len then Over Trapped else exec go (next_seq give_seq) (up 13 n) (inside [] (locals len))) ≡ ends b n
        decide true e =
            let room = within (at + padded len) (end_of l) e in
            ap (λ b. if b then Over Trapped else exec go (next_seq give_seq) (up 13 n) (inside [] (locals len))) (not_less (last_at l - at) len (has_room l at whole to len room))
            ∙ next_runs (up 3 n) give_seq room ∙ give_runs n room
        decide false e =
            let passes = beyond (at + padded len) (end_of l) e in
            ap (λ b. if b then Over Trapped else exec go (next_seq give_seq) (up 13 n) (inside [] (locals len))) (less (last_at l - at) len (has_none l at whole to len passes))

-- ---- the call around it

-- one call less is in progress than before
left_same : (store : StoreState) (global at : ℕ) → left_store (with_end (entered_store store) global at) ≡ with_end store global at
left_same store global at =
    let e : store.nesting + 1 - 1 ≡ store.nesting = omega arith in
    ap (λ k. let t : StoreState = record (with_end store global at) { nesting = k } in t) e

module _ (l : Layout) (fits : Fits l) (spaces : CoreSpaces) (store : StoreState) (f global at : ℕ) (used : IsUsed l spaces store global at) (rs : List Reply) where
  module _ (old old_len align len : ℕ) (small : len < 2 ^ 32) (placed : Stands realloc_type (body_of (realloc_code l)) spaces store f) where
    abbrev begins : CoreSpaces → Config
    begins v = record { stack = []; locals = old ∷ old_len ∷ align ∷ len ∷ []; spaces = v; store = entered_store store; replies = rs }

    abbrev finishes : Out → Outcome
    finishes o = finish realloc_type.results (call_end 1 [] [] bare o)

    call_body : (n : ℕ) → eval store f (values.I32 old ∷ values.I32 old_len ∷ values.I32 align ∷ values.I32 len ∷ []) rs n ≡ finishes (exec go (room_seq l (next_seq give_seq)) n (begins spaces))
    call_body n =
        let c : Config = outside (old ∷ old_len ∷ align ∷ len ∷ []) store rs in
        ap (λ g. finish (function_type g).results (go (Enter f) n c)) placed.function
        ∙ ap (finish realloc_type.results) (go_enter f n c ∙ ap (λ g. entered go g n c) placed.function)
        ∙ ap (λ b. finish realloc_type.results (enter_within b n (call_end 1 [] [] bare (exec go (room_seq l (next_seq give_seq)) n (begins (spaces_of store.instances placed.instance)))))) placed.enters
        ∙ ap (λ v. finishes (exec go (room_seq l (next_seq give_seq)) n (begins v))) placed.own

    answered : (b : Bool) (n : ℕ) → finishes (ends spaces (entered_store store) global at used.there used.holds rs l fits used.whole used.to old old_len align len small b n) ≡ (if b then Done (values.I32 at ∷ []) (with_end store global (at + padded len)) n else Trapped)
    answered true n =
        let at_small : at < 2 ^ 32 = omega (arith, fits, used.to) in
        ap (λ v. Done (values.I32 v ∷ []) (left_store (with_end (entered_store store) global (at + padded len))) n) (i32_same at at_small)
        ∙ ap (λ t. Done (values.I32 at ∷ []) t n) (left_same store global (at + padded len))
    answered false n = refl

    gives : (n : ℕ) → eval store f (values.I32 old ∷ values.I32 old_len ∷ values.I32 align ∷ values.I32 len ∷ []) rs (19 + n) ≡ Gives l store global at len n
    gives n =
        steps_up (λ k. eval store f (values.I32 old ∷ values.I32 old_len ∷ values.I32 align ∷ values.I32 len ∷ []) rs k) 19 n _
        (call_body (up 19 n) ∙ ap finishes (request_runs spaces (entered_store store) global at used.there used.holds rs l fits used.whole used.to old old_len align len small n) ∙ answered (nat_le (at + padded len) (end_of l)) n)

  -- the end moves back, whatever the parameters
  module _ (params : List CoreType) (args : List CoreValue) (locals : List ℕ) (placed : Stands (record { params = params; results = [] }) (body_of (reset_code l)) spaces store f) (start : reverse (take (length params) (reverse (words args))) ++ [] ≡ locals) (none : drop (length params) (reverse (words args)) ≡ []) where
    abbrev starts : List ℕ → CoreSpaces → Config
    starts ls v = record { stack = []; locals = ls; spaces = v; store = entered_store store; replies = rs }

    abbrev closes : List ℕ → Out → Outcome
    closes stack o = finish [] (call_end 0 stack [] bare o)

    reset_body : (n : ℕ) → eval store f args rs n ≡ closes [] (exec go (reset_seq l) n (starts locals spaces))
    reset_body n =
        let c : Config = outside (words args) store rs in
        let own = spaces_of store.instances placed.instance in
        let stack = drop (length params) (reverse (words args)) in
        let first = reverse (take (length params) (reverse (words args))) ++ [] in
        ap (λ g. finish (function_type g).results (go (Enter f) n c)) placed.function
        ∙ ap (finish []) (go_enter f n c ∙ ap (λ g. entered go g n c) placed.function)
        ∙ ap (λ b. finish [] (enter_within b n (call_end 0 stack [] bare (exec go (reset_seq l) n (starts first own))))) placed.enters
        ∙ ap (λ s. closes s (exec go (reset_seq l) n (starts first own))) none
        ∙ ap (λ ls. closes [] (exec go (reset_seq l) n (starts ls own))) start
        ∙ ap (λ v. closes [] (exec go (reset_seq l) n (starts locals v))) placed.own

    resets : (n : ℕ) → eval store f args rs (2 + n) ≡ Done [] (with_end store global (transfer_at l)) n
    resets n =
        steps_up (λ k. eval store f args rs k) 2 n _
        (reset_body (up 2 n) ∙ ap (closes []) (reset_runs spaces (entered_store store) global at used.there used.holds rs l fits locals n) ∙ ap (λ t. Done [] t n) (left_same store global (transfer_at l)))

pub reallocs : (l : Layout) → Fits l → IsRealloc l (body_of (realloc_code l))
reallocs l fits spaces store f global at placed used old old_len align len small rs n = gives l fits spaces store f global at used rs old old_len align len small placed n

pub put_back : (l : Layout) (result : Option Width) → Fits l → IsReset l result (body_of (reset_code l))
put_back l None fits spaces store f global at placed used v rs n = resets l fits spaces store f global at used rs [] [] [] placed refl refl n
put_back l (Some Narrow) fits spaces store f global at placed used v rs n = resets l fits spaces store f global at used rs (I32 ∷ []) (values.I32 v ∷ []) (v ∷ []) placed refl refl n
put_back l (Some Broad) fits spaces store f global at placed used v rs n = resets l fits spaces store f global at used rs (I64 ∷ []) (values.I64 v ∷ []) (v ∷ []) placed refl refl n
