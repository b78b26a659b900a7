-- What is written one after another, and the label and payload of a case by its number.
use Rattle.std.proofs.Common.{◌≡◌, ◌≢◌, ℕ, zero, suc, pos, ◌+◌, ◌<◌, ◌≤◌, List, [], ◌∷◌, ◌++◌, length, get_or, drop, refl, ap, sym, ◌∙◌, Bool, true, false, arith, add-one}
use Rattle.std.proofs.lemmas.List.{drop_more}
use Rattle.std.specs.Prelude.{Option, Some, None, codes, if◌then◌else◌}
use Rattle.serde_json.specs.Data.{Data, null, string, Items, no_items, item, Members, put}
use Rattle.serde_json.specs.View.{view, items_view}
use Rattle.serde_json.specs.declared.value.Value.{Value as Json}
use Rattle.wit_types.specs.declared.value.Value.{Value}
use Rattle.wit_types.specs.declared.types.WitType.{WitType}
use Rattle.wit_types.specs.declared.types.Field.{Field, out-Field}
use Rattle.wit_types.specs.declared.types.Case.{Case, out-Case}
use Rattle.wit_types.specs.Plain.{Name, Plain, Parts, End as NoParts, More as Part, AsVariant, AsResult, types_of, fields_of, cases_of, case_part, bare, plain, payload_of}
use Rattle.wit_types.specs.PlainValue.{PlainValue, PlainValues, Payload, BoolValue, IntValue, CharValue, StringValue, ListValue, RecordValue, VariantValue, FlagsValue, HandleValue, End, More, plain_value, values_of, byte_values}
use Rattle.script_lines.specs.Shown.{shown, parts_shown, fields_shown, case_shown, label_at, each_shown, one_member, labelled, choice_shown, variant_shown}
use Rattle.script_lines.specs.Shows.{payload_shown_by, case_number, end_shown, value_count, value_at, values_from, items_then, label_if}

-- ---- values by their places

pub values_step : (vs : PlainValues) (i : ℕ) → i < value_count vs → values_from i vs ≡ More (value_at i vs) (values_from (suc i) vs)
values_step End i h = absurd (omega arith)
values_step (More v vs) zero h = refl
values_step (More v vs) (suc i) h = values_step vs i (omega arith)

pub values_next : (vs : PlainValues) (i : ℕ) → i < value_count vs → values_from i vs ≡ More (value_at i vs) (values_from (i + 1) vs)
values_next vs i h = rw add-one (values_step vs i h)

pub values_past : (vs : PlainValues) (i : ℕ) → value_count vs ≤ i → values_from i vs ≡ End
values_past End zero h = refl
values_past End (suc i) h = refl
values_past (More v vs) zero h = absurd (omega arith)
values_past (More v vs) (suc i) h = values_past vs i (omega arith)

pub count_each : (xs : List Value) → value_count (values_of xs) ≡ length xs
count_each [] = refl
count_each (x ∷ xs) = ap suc (count_each xs)

pub count_bytes : (bs : List ℕ) → value_count (byte_values bs) ≡ length bs
count_bytes [] = refl
count_bytes (b ∷ bs) = ap suc (count_bytes bs)

pub ruleset counts = (count_each, count_bytes)

pub at_each : (xs : List Value) (i : ℕ) (d : Value) → i < length xs → value_at i (values_of xs) ≡ plain_value (get_or xs i d)
at_each [] i d h = absurd (omega arith)
at_each (x ∷ xs) zero d h = refl
at_each (x ∷ xs) (suc i) d h = at_each xs i d (omega arith)

pub at_bytes : (bs : List ℕ) (i d : ℕ) → i < length bs → value_at i (byte_values bs) ≡ IntValue (pos (get_or bs i d))
at_bytes [] i d h = absurd (omega arith)
at_bytes (b ∷ bs) zero d h = refl
at_bytes (b ∷ bs) (suc i) d h = at_bytes bs i d (omega arith)

-- ---- items after others

pub item_more : (done : List Json) (j : Json) (d : Data) (rest : Items) → view j ≡ d → items_then (items_view done) (item d rest) ≡ items_then (items_view (done ++ j ∷ [])) rest
item_more [] j d rest e = ap (λ x. item x rest) (sym e)
item_more (x ∷ done) j d rest e = ap (item (view x)) (item_more done j d rest e)

pub items_end : (ds : Items) → items_then ds no_items ≡ ds
items_end no_items = refl
items_end (item d ds) = ap (item d) (items_end ds)

items_after : (ps qs more : Items) → items_then (items_then ps qs) more ≡ items_then ps (items_then qs more)
items_after no_items qs more = refl
items_after (item d ps) qs more = ap (item d) (items_after ps qs more)

label_choice : (is_set : Bool) (label : Name) (rest : Items) → items_then (label_if is_set label) rest ≡ (if is_set then item (string label) rest else rest)
label_choice true label rest = refl
label_choice false label rest = refl

pub label_more : (there now : Items) (is_set : Bool) (label : Name) (rest : Items) → now ≡ items_then there (label_if is_set label)
    → items_then there (if is_set then item (string label) rest else rest) ≡ items_then now rest
label_more there now is_set label rest e =
    ap (items_then there) (sym (label_choice is_set label rest)) ∙ sym (items_after there (label_if is_set label) rest) ∙ ap (λ x. items_then x rest) (sym e)

-- ---- where no value is left

pub parts_past : (types : List WitType) → parts_shown (types_of types) End ≡ no_items
parts_past [] = refl
parts_past (t ∷ types) = refl

pub args_past : (fields : List Field) → parts_shown (fields_of fields) End ≡ no_items
args_past [] = refl
args_past (f ∷ fields) = refl

pub fields_past : (fields : List Field) (there : Members) → fields_shown (fields_of fields) End there ≡ there
fields_past [] there = refl
fields_past (f ∷ fields) there = refl

-- ---- cases by their numbers

label_first : (name : Name) (o : Option Plain) (rest : Parts) → label_at zero (case_part name o rest) ≡ Some name
label_first name None rest = refl
label_first name (Some ty) rest = refl

label_later : (name : Name) (o : Option Plain) (rest : Parts) (n : ℕ) → label_at (suc n) (case_part name o rest) ≡ label_at n rest
label_later name None rest n = refl
label_later name (Some ty) rest n = refl

case_first : (name : Name) (o : Option Plain) (rest : Parts) (p : Payload) → case_shown (case_part name o rest) zero p ≡ payload_shown_by o p
case_first name None rest p = refl
case_first name (Some ty) rest p = refl

case_later : (name : Name) (o : Option Plain) (rest : Parts) (n : ℕ) (p : Payload) → case_shown (case_part name o rest) (suc n) p ≡ case_shown rest n p
case_later name None rest n p = refl
case_later name (Some ty) rest n p = refl

pub label_of_case : (cases : List Case) (n : ℕ) (d : Case) → n < length cases → label_at n (cases_of cases) ≡ Some (out-Case (get_or cases n d)).name
label_of_case [] n d h = absurd (omega arith)
label_of_case (c ∷ cases) zero d h = label_first _ _ _
label_of_case (c ∷ cases) (suc n) d h = label_later _ _ _ n ∙ label_of_case cases n d (omega arith)

pub label_past : (cases : List Case) (n : ℕ) → length cases ≤ n → label_at n (cases_of cases) ≡ None
label_past [] zero h = refl
label_past [] (suc n) h = refl
label_past (c ∷ cases) zero h = absurd (omega arith)
label_past (c ∷ cases) (suc n) h = label_later _ _ _ n ∙ label_past cases n (omega arith)

pub case_of_number : (cases : List Case) (n : ℕ) (d : Case) (p : Payload) → n < length cases → case_shown (cases_of cases) n p ≡ payload_shown_by (payload_of (out-Case (get_or cases n d)).ty) p
case_of_number [] n d p h = absurd (omega arith)
case_of_number (c ∷ cases) zero d p h = case_first _ _ _ p
case_of_number (c ∷ cases) (suc n) d p h = case_later _ _ _ n p ∙ case_of_number cases n d p (omega arith)

pub case_written : (cases : List Case) (n : ℕ) (d : Case) (p : Payload) (name : Name) (made : Data) → n < length cases → name ≡ (out-Case (get_or cases n d)).name
    → made ≡ payload_shown_by (payload_of (out-Case (get_or cases n d)).ty) p → one_member name made ≡ choice_shown AsVariant (cases_of cases) n (case_shown (cases_of cases) n p)
case_written cases n d p name made h named paid =
    ap (λ x. one_member x made) named ∙ (ap (λ x. one_member (out-Case (get_or cases n d)).name x) (paid ∙ sym (case_of_number cases n d p h))
    ∙ ap (λ o. labelled (λ label. one_member label (case_shown (cases_of cases) n p)) o) (sym (label_of_case cases n d h)))

pub bare_label : (labels : List Name) (n : ℕ) (d : Name) → n < length labels → label_at n (bare labels) ≡ Some (get_or labels n d)
bare_label [] n d h = absurd (omega arith)
bare_label (l ∷ labels) zero d h = refl
bare_label (l ∷ labels) (suc n) d h = bare_label labels n d (omega arith)

pub bare_past : (labels : List Name) (n : ℕ) → length labels ≤ n → label_at n (bare labels) ≡ None
bare_past [] zero h = refl
bare_past [] (suc n) h = refl
bare_past (l ∷ labels) zero h = absurd (omega arith)
bare_past (l ∷ labels) (suc n) h = bare_past labels n (omega arith)

ok_payload : (ok err : Option Plain) (p : Payload) → case_shown (case_part [] ok (case_part [] err NoParts)) zero p ≡ payload_shown_by ok p
ok_payload ok err p = case_first [] ok _ p

err_payload : (ok err : Option Plain) (p : Payload) → case_shown (case_part [] ok (case_part [] err NoParts)) (suc zero) p ≡ payload_shown_by err p
err_payload ok err p = case_later [] ok _ zero p ∙ case_first [] err NoParts p

abbrev ends : Option Plain → Option Plain → Parts
ends ok err = case_part [] ok (case_part [] err NoParts)

abbrev result_written : Option Plain → Option Plain → PlainValue → Data
result_written ok err v = variant_shown (λ n d. choice_shown AsResult (ends ok err) n d) (λ n p. case_shown (ends ok err) n p) v

pub ok_written : (ok err : Option Plain) (v : PlainValue) → Some 0 ≡ case_number v → end_shown (codes "ok") ok v ≡ result_written ok err v
ok_written ok err (VariantValue zero p) h = ap (one_member (codes "ok")) (sym (ok_payload ok err p))
ok_written ok err (VariantValue (suc n) p) h = absurd cc
ok_written ok err (BoolValue b) h = absurd cc
ok_written ok err (IntValue n) h = absurd cc
ok_written ok err (CharValue n) h = absurd cc
ok_written ok err (StringValue n) h = absurd cc
ok_written ok err (ListValue n) h = absurd cc
ok_written ok err (RecordValue n) h = absurd cc
ok_written ok err (FlagsValue n) h = absurd cc
ok_written ok err (HandleValue n) h = absurd cc

pub err_written : (ok err : Option Plain) (v : PlainValue) → Some 1 ≡ case_number v → end_shown (codes "err") err v ≡ result_written ok err v
err_written ok err (VariantValue (suc zero) p) h = ap (one_member (codes "err")) (sym (err_payload ok err p))
err_written ok err (VariantValue zero p) h = absurd cc
err_written ok err (VariantValue (suc (suc n)) p) h = absurd cc
err_written ok err (BoolValue b) h = absurd cc
err_written ok err (IntValue n) h = absurd cc
err_written ok err (CharValue n) h = absurd cc
err_written ok err (StringValue n) h = absurd cc
err_written ok err (ListValue n) h = absurd cc
err_written ok err (RecordValue n) h = absurd cc
err_written ok err (FlagsValue n) h = absurd cc
err_written ok err (HandleValue n) h = absurd cc

pub other_written : (ok err : Option Plain) (v : PlainValue) (n : ℕ) → Some n ≡ case_number v → n ≢ 0 → n ≢ 1 → null ≡ result_written ok err v
other_written ok err (VariantValue zero p) n h a b = absurd (a cc)
other_written ok err (VariantValue (suc zero) p) n h a b = absurd (b cc)
other_written ok err (VariantValue (suc (suc m)) p) n h a b = refl
other_written ok err (BoolValue x) n h a b = refl
other_written ok err (IntValue x) n h a b = refl
other_written ok err (CharValue x) n h a b = refl
other_written ok err (StringValue x) n h a b = refl
other_written ok err (ListValue x) n h a b = refl
other_written ok err (RecordValue x) n h a b = refl
other_written ok err (FlagsValue x) n h a b = refl
other_written ok err (HandleValue x) n h a b = refl

pub none_written : (ok err : Option Plain) (v : PlainValue) → None ≡ case_number v → null ≡ result_written ok err v
none_written ok err (VariantValue n p) h = absurd cc
none_written ok err (BoolValue b) h = refl
none_written ok err (IntValue n) h = refl
none_written ok err (CharValue n) h = refl
none_written ok err (StringValue n) h = refl
none_written ok err (ListValue n) h = refl
none_written ok err (RecordValue n) h = refl
none_written ok err (FlagsValue n) h = refl
none_written ok err (HandleValue n) h = refl

-- ---- one more

pub each_next : (show : PlainValue → Data) (vs : PlainValues) (i : ℕ) (done more : List Json) (j : Json) → i < value_count vs → view j ≡ show (value_at i vs) → more ≡ done ++ j ∷ []
    → items_then (items_view done) (each_shown show (values_from i vs)) ≡ items_then (items_view more) (each_shown show (values_from (i + 1) vs))
each_next show vs i done more j within is pushed =
    ap (λ ws. items_then (items_view done) (each_shown show ws)) (values_next vs i within)
    ∙ (item_more done j (show (value_at i vs)) (each_shown show (values_from (i + 1) vs)) is
    ∙ ap (λ js. items_then (items_view js) (each_shown show (values_from (i + 1) vs))) (sym pushed))

pub each_end : (show : PlainValue → Data) (vs : PlainValues) (i : ℕ) (done : List Json) → value_count vs ≤ i
    → items_then (items_view done) (each_shown show (values_from i vs)) ≡ items_view done
each_end show vs i done past = ap (λ ws. items_then (items_view done) (each_shown show ws)) (values_past vs i past) ∙ items_end (items_view done)

pub part_next : (parts : Parts) (name : Name) (ty : Plain) (later : Parts) (vs : PlainValues) (i : ℕ) (done more : List Json) (j : Json)
    → parts ≡ Part name ty later → i < value_count vs → view j ≡ shown ty (value_at i vs) → more ≡ done ++ j ∷ []
    → items_then (items_view done) (parts_shown parts (values_from i vs)) ≡ items_then (items_view more) (parts_shown later (values_from (i + 1) vs))
part_next parts name ty later vs i done more j cut within is pushed =
    ap (λ p. items_then (items_view done) (parts_shown p (values_from i vs))) cut
    ∙ (ap (λ ws. items_then (items_view done) (parts_shown (Part name ty later) ws)) (values_next vs i within)
    ∙ (item_more done j (shown ty (value_at i vs)) (parts_shown later (values_from (i + 1) vs)) is
    ∙ ap (λ js. items_then (items_view js) (parts_shown later (values_from (i + 1) vs))) (sym pushed)))

pub types_end : (types : List WitType) (vs : PlainValues) (i : ℕ) (done : List Json) → value_count vs ≤ i
    → items_then (items_view done) (parts_shown (types_of types) (values_from i vs)) ≡ items_view done
types_end types vs i done past =
    ap (λ ws. items_then (items_view done) (parts_shown (types_of types) ws)) (values_past vs i past)
    ∙ (ap (items_then (items_view done)) (parts_past types) ∙ items_end (items_view done))

pub parts_end : (parts : Parts) (vs : PlainValues) (done : List Json) → parts ≡ NoParts → items_then (items_view done) (parts_shown parts vs) ≡ items_view done
parts_end parts vs done ends = ap (λ p. items_then (items_view done) (parts_shown p vs)) ends ∙ items_end (items_view done)

pub field_next : (parts : Parts) (name : Name) (ty : Plain) (later : Parts) (vs : PlainValues) (i : ℕ) (there now : Members) (j : Json)
    → parts ≡ Part name ty later → i < value_count vs → view j ≡ shown ty (value_at i vs) → now ≡ put name (view j) there
    → fields_shown parts (values_from i vs) there ≡ fields_shown later (values_from (i + 1) vs) now
field_next parts name ty later vs i there now j cut within is pushed =
    ap (λ p. fields_shown p (values_from i vs) there) cut
    ∙ (ap (λ ws. fields_shown (Part name ty later) ws there) (values_next vs i within)
    ∙ (ap (λ d. fields_shown later (values_from (i + 1) vs) (put name d there)) (sym is)
    ∙ ap (λ ms. fields_shown later (values_from (i + 1) vs) ms) (sym pushed)))

pub fields_end : (fields : List Field) (vs : PlainValues) (i : ℕ) (there : Members) → value_count vs ≤ i → fields_shown (fields_of fields) (values_from i vs) there ≡ there
fields_end fields vs i there past = ap (λ ws. fields_shown (fields_of fields) ws there) (values_past vs i past) ∙ fields_past fields there

pub no_fields_end : (parts : Parts) (vs : PlainValues) (there : Members) → parts ≡ NoParts → fields_shown parts vs there ≡ there
no_fields_end parts vs there ends = ap (λ p. fields_shown p vs there) ends

-- ---- types and fields, cut at a place

pub types_at : (types : List WitType) (i : ℕ) (t : WitType) → i < length types → types_of (drop i types) ≡ Part [] (plain (get_or types i t)) (types_of (drop (i + 1) types))
types_at types i t h = ap types_of (drop_more types i t h)

pub fields_at : (fields : List Field) (i : ℕ) (f : Field) → i < length fields
    → fields_of (drop i fields) ≡ Part (out-Field (get_or fields i f)).name (plain (out-Field (get_or fields i f)).ty) (fields_of (drop (i + 1) fields))
fields_at fields i f h = ap fields_of (drop_more fields i f h)

pub arg_cut : (fields : List Field) (f : Field) (vs : PlainValues) (i : ℕ) → i < length fields → i < value_count vs
    → parts_shown (fields_of (drop i fields)) (values_from i vs) ≡ item (shown (plain (out-Field (get_or fields i f)).ty) (value_at i vs)) (parts_shown (fields_of (drop (i + 1) fields)) (values_from (i + 1) vs))
arg_cut fields f vs i h within =
    let x = out-Field (get_or fields i f) in
    ap (λ p. parts_shown p (values_from i vs)) (fields_at fields i f h) ∙ ap (λ ws. parts_shown (Part x.name (plain x.ty) (fields_of (drop (i + 1) fields))) ws) (values_next vs i within)

pub args_done : (fields : List Field) (vs : PlainValues) (i : ℕ) → value_count vs ≤ i → parts_shown (fields_of (drop i fields)) (values_from i vs) ≡ no_items
args_done fields vs i past = ap (λ ws. parts_shown (fields_of (drop i fields)) ws) (values_past vs i past) ∙ args_past (drop i fields)
