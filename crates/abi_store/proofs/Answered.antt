-- What is left where the next request is answered.
use Rattle.std.proofs.Common.{◌≡◌, ℕ, ◌+◌, ◌-◌, ap, refl, sym, ◌∙◌, Bool, true, false, List, [], ◌∷◌, ◌++◌, arith, Option, Some, None}
use Rattle.std.specs.Prelude.{if◌then◌else◌, nat_lt, reverse, slice_index}
use Rattle.std.proofs.lemmas.Bool.Decides.{nat_tests}
use Rattle.core_memory.specs.Number.{bytes_of}
use Rattle.wit_types.specs.Plain.{plain}
use Rattle.wit_types.specs.PlainValue.{plain_value, plain_values, values_of}
use Rattle.wit_types.specs.Layout.{size}
use Rattle.abi_layout.specs.Numbers.{is_number}
use Rattle.abi_layout.specs.Storing.{Base, Target, Answer, Step, Ask, Write, FlatItem, Number, AnswerTo, Lowered, both, requests, run_bytes, item_steps, stores_at, field_steps}
use Rattle.abi_store.specs.declared.content.Content.{Content}
use Rattle.abi_store.specs.declared.content.Content.TheVariants.{Text as OfText, List as OfItems, Whole as OfWhole}
use Rattle.abi_store.specs.declared.content.Cell.{Cell}
use Rattle.abi_store.specs.declared.content.Cell.TheVariants.{Memory as InMemoryCell, Flat as FlatCell}
use Rattle.abi_store.specs.declared.slot.Slot.{Slot}
use Rattle.abi_store.specs.declared.slot.Slot.TheVariants.{Number as NumberSlot, Place as PlaceSlot}
use Rattle.abi_store.specs.declared.slot.Flats.{Flats}
use Rattle.abi_store.specs.declared.work.Work.{Work}
use Rattle.abi_store.specs.declared.work.Work.TheVariants.{List as ListOf, Record as RecordOf, Value as ValueOf, Place as PlaceOf}
use Rattle.abi_store.specs.Parts.{parts_from}
use Rattle.abi_store.specs.Plan.{base_left, place_of, settled, settled_flat, settled_flats, answered}
use Rattle.abi_store.specs.Rooms.{Room, room_of, content_steps, content_len, cell_steps, cell_flats, cell_at, behind, with_room}
use Rattle.abi_store.specs.Flows.{chain, stored}
use Rattle.abi_store.specs.Works.{work_lowered, works_lowered}
use Rattle.abi_store.specs.Slots.{slot_lowered, slots_lowered, known}
use Rattle.abi_store.specs.Stages.{rest_of}
use Rattle.abi_store.proofs.Settling.{settled-append, requests-settled, settle-items, settle-stores, settle-fields, base-late, place-late}
use Rattle.abi_store.proofs.Lowers.{lowered_same}

pub flats-append : (given : List ℕ) (xs ys : List FlatItem) → settled_flats given (xs ++ ys) ≡ settled_flats given xs ++ settled_flats given ys
flats-append given [] ys = refl
flats-append given (x ∷ xs) ys = ap (λ (v : List FlatItem). settled_flat given x ∷ v) (flats-append given xs ys)

answered-both : (a : ℕ) (x y : Lowered) → answered a (both x y) ≡ both (answered a x) (answered a y)
answered-both a x y = lowered_same _ _ _ _ (settled-append 0 (a ∷ []) x.steps y.steps) (flats-append (a ∷ []) x.flats y.flats)

-- where the next request is answered, the requests of these steps count one less
pub record IsCounted (l : ℕ → Lowered) : Type 0 where
  pub on : (a k : ℕ) → answered a (l (k + 1)) ≡ l k

pub counted-chain : (l m : ℕ → Lowered) → IsCounted l → IsCounted m → IsCounted (chain l m)
counted-chain l m p q = record {
  on = λ a k.
      let x : Lowered = l (k + 1) in
      let first : answered a x ≡ l k = p.on a k in
      let same : requests x.steps ≡ requests (l k).steps = sym (requests-settled 0 (a ∷ []) x.steps) ∙ ap (λ (y : Lowered). requests y.steps) first in
      let place : k + 1 + requests x.steps ≡ k + requests (l k).steps + 1 = omega arith in
      answered-both a x (m (k + 1 + requests x.steps)) ∙ ap (λ (y : Lowered). both y (answered a (m (k + 1 + requests x.steps)))) first
      ∙ ap (λ (j : ℕ). both (l k) (answered a (m j))) place ∙ ap (λ (y : Lowered). both (l k) y) (q.on a (k + requests (l k).steps));
}

no_shift : (o : ℕ) → 0 + o ≡ o
no_shift o = omega arith

if_less : {A : Type 0} (c : Bool) (x y : A) → c ≡ false → (if c then x else y) ≡ y
if_less true x y is = cc
if_less false x y is = refl

less : (k : ℕ) → k + 1 - 1 ≡ k
less k = omega arith

no_rest : (a : ℕ) → a + 0 ≡ a
no_rest a = omega arith

stored_same : (xs ys : List Step) (fs gs : List FlatItem) → xs ≡ ys → fs ≡ gs → (let l : Lowered = record { steps = xs; flats = fs } in l) ≡ record { steps = ys; flats = gs }
stored_same xs ys fs gs p q = lowered_same xs ys fs gs p q

counted-work : (w : Work) → IsCounted (work_lowered w)
counted-work (ListOf w) = record {
  on = λ a k.
      stored_same _ _ [] []
      (settle-items 0 (a ∷ []) (λ x b o j. stores_at (plain w.item.value) x b o j) w.width (λ v b o j. settle-stores 0 (a ∷ []) (plain w.item.value) v b o j) (values_of (reverse w.left.items)) Target w.at k
      ∙ ap (λ (o : ℕ). item_steps (λ x b p j. stores_at (plain w.item.value) x b p j) w.width (values_of (reverse w.left.items)) Target o k) (no_shift w.at)) refl;
}
counted-work (RecordOf w) = record {
  on = λ a k.
      stored_same _ _ [] []
      (settle-fields 0 (a ∷ []) (parts_from w.parts w.next) (values_of (reverse w.left.items)) Target w.at w.offset k
      ∙ ap (λ (o : ℕ). field_steps (parts_from w.parts w.next) (values_of (reverse w.left.items)) Target o w.offset k) (no_shift w.at)) refl;
}
counted-work (ValueOf w) = record {
  on = λ a k.
      stored_same _ _ [] [] (settle-stores 0 (a ∷ []) (plain w.ty.value) (plain_value w.value) Target w.at k ∙ ap (λ (o : ℕ). stores_at (plain w.ty.value) (plain_value w.value) Target o k) (no_shift w.at)) refl;
}
counted-work (PlaceOf w) = record {
  on = λ a k.
      stored_same _ _ [] []
      (ap (λ (o : ℕ). Write Target o (bytes_of 4 w.place) ∷ Write Target (0 + (w.at + 4)) (bytes_of 4 w.len) ∷ []) (no_shift w.at)
      ∙ ap (λ (o : ℕ). Write Target w.at (bytes_of 4 w.place) ∷ Write Target o (bytes_of 4 w.len) ∷ []) (no_shift (w.at + 4))) refl;
}

pub counted-works : (ws : List Work) → IsCounted (works_lowered ws)
counted-works [] = record { on = λ a k. refl }
counted-works (w ∷ ws) = record { on = λ a k. (counted-chain (work_lowered w) (works_lowered ws) (counted-work w) (counted-works ws)).on a k }

-- ---- content

chosen : (a : ℕ) (c : Bool) (us vs xs ys : List Step) → settled 0 (a ∷ []) us ≡ vs → settled 0 (a ∷ []) xs ≡ ys → settled 0 (a ∷ []) (if c then us else xs) ≡ (if c then vs else ys)
chosen a true us vs xs ys p q = p
chosen a false us vs xs ys p q = q

content_item : (a : ℕ) (content : Content) (b : Base) (o j : ℕ) → settled 0 (a ∷ []) (content_steps content b o (j + 1)) ≡ content_steps content (base_left (a ∷ []) b) (place_of 0 (a ∷ []) b + o) j
content_item a (OfText text) b o j = refl
content_item a (OfItems list) b o j =
    let item = plain list.item.value in
    let vs = plain_values list.values in
    chosen a (is_number item) (Write b o (run_bytes (size item) vs) ∷ []) (Write (base_left (a ∷ []) b) (place_of 0 (a ∷ []) b + o) (run_bytes (size item) vs) ∷ []) (item_steps (λ x c p k. stores_at item x c p k) (size item) vs b o (j + 1))
    (item_steps (λ x c p k. stores_at item x c p k) (size item) vs (base_left (a ∷ []) b) (place_of 0 (a ∷ []) b + o) j) refl
    (settle-items 0 (a ∷ []) (λ x c p k. stores_at item x c p k) (size item) (λ v c p k. settle-stores 0 (a ∷ []) item v c p k) vs b o j)
content_item a (OfWhole whole) b o j = settle-stores 0 (a ∷ []) (plain whole.ty.value) (plain_value whole.value) b o j

-- after a request that is answered later
content_later : (a : ℕ) (content : Content) (k : ℕ) → settled 0 (a ∷ []) (content_steps content (Answer (k + 1)) 0 (k + 1 + 1)) ≡ content_steps content (Answer k) 0 (k + 1)
content_later a content k =
    content_item a content (Answer (k + 1)) 0 (k + 1) ∙ ap (λ (b : Base). content_steps content b (place_of 0 (a ∷ []) (Answer (k + 1)) + 0) (k + 1)) (base-late (a ∷ []) k)
    ∙ ap (λ (o : ℕ). content_steps content (Answer k) (o + 0) (k + 1)) (place-late 0 (a ∷ []) k)

-- after the request that is answered
content_now : (a : ℕ) (content : Content) → settled 0 (a ∷ []) (content_steps content (Answer 0) 0 (0 + 1)) ≡ content_steps content Target a 0
content_now a content = content_item a content (Answer 0) 0 0 ∙ ap (λ (o : ℕ). content_steps content Target o 0) (no_rest a)

room_later : (a : ℕ) (o : Option Room) (xs ys : List Step) → settled 0 (a ∷ []) xs ≡ ys → settled 0 (a ∷ []) (with_room o xs) ≡ with_room o ys
room_later a None xs ys p = refl
room_later a (Some room) xs ys p = ap (λ (v : List Step). Ask room.align room.len ∷ v) p

flat_later : (a k : ℕ) → settled_flat (a ∷ []) (AnswerTo (k + 1)) ≡ AnswerTo k
flat_later a k = if_less (nat_lt (k + 1) 1) (Number (slice_index (a ∷ []) (k + 1))) (AnswerTo (k + 1 - 1)) (grind (arith, nat_tests)) ∙ ap AnswerTo (less k)

counted-slot : (s : Slot) → IsCounted (slot_lowered s)
counted-slot (NumberSlot n) = record { on = λ a k. refl }
counted-slot (PlaceSlot content) = record {
  on = λ a k.
      stored_same _ _ _ _
      (room_later a (room_of content) (behind content FlatCell (k + 1)) (behind content FlatCell k)
      (settled-append 0 (a ∷ []) (content_steps content (Answer (k + 1)) 0 (k + 1 + 1)) [] ∙ ap (λ (v : List Step). v ++ []) (content_later a content k)))
      (ap (λ (f : FlatItem). f ∷ []) (flat_later a k));
}

pub counted-slots : (ss : List Slot) → IsCounted (slots_lowered ss)
counted-slots [] = record { on = λ a k. refl }
counted-slots (s ∷ ss) = record { on = λ a k. (counted-chain (slot_lowered s) (slots_lowered ss) (counted-slot s) (counted-slots ss)).on a k }

pub counted-rest : (works : List Work) (flats : Flats) → IsCounted (rest_of works flats)
counted-rest works flats = record { on = λ a k. (counted-chain (works_lowered (reverse works)) (slots_lowered (reverse flats.left.items)) (counted-works (reverse works)) (counted-slots (reverse flats.left.items))).on a k }

-- ---- the request that is answered

pub known_settled : (a : ℕ) (xs : List ℕ) → settled_flats (a ∷ []) (known xs) ≡ known xs
known_settled a [] = refl
known_settled a (x ∷ xs) = ap (λ (v : List FlatItem). Number x ∷ v) (known_settled a xs)

cell_now : (a : ℕ) (cell : Cell) (len : ℕ) → (let l : Lowered = record { steps = settled 0 (a ∷ []) (cell_steps cell 0 len); flats = settled_flats (a ∷ []) (cell_flats cell 0) } in l) ≡ cell_at cell a len 0
cell_now a (InMemoryCell at) len =
    stored_same _ _ [] []
    (ap (λ (o : ℕ). Write Target o (bytes_of 4 a) ∷ Write Target (0 + (at + 4)) (bytes_of 4 len) ∷ []) (no_shift at) ∙ ap (λ (o : ℕ). Write Target at (bytes_of 4 a) ∷ Write Target o (bytes_of 4 len) ∷ []) (no_shift (at + 4))) refl
cell_now a FlatCell len = refl

-- what is asked for makes as many requests as what is stored at its place
pub behind_now : (a : ℕ) (content : Content) (cell : Cell) →
    (let l : Lowered = record { steps = settled 0 (a ∷ []) (behind content cell 0); flats = settled_flats (a ∷ []) (cell_flats cell 0) } in l) ≡ both (stored (content_steps content Target a) 0) (cell_at cell a (content_len content) 0)
behind_now a content cell =
    stored_same _ _ _ _ (settled-append 0 (a ∷ []) (content_steps content (Answer 0) 0 (0 + 1)) (cell_steps cell 0 (content_len content)) ∙ ap (λ (v : List Step). v ++ settled 0 (a ∷ []) (cell_steps cell 0 (content_len content))) (content_now a content)) refl
    ∙ ap (λ (l : Lowered). both (stored (content_steps content Target a) 0) l) (cell_now a cell (content_len content))
