-- Values that are read one after another: those so far, and after them what the rest gives.
use Rattle.std.proofs.Common.{◌≡◌, ℕ, pos, ◌+◌, ◌<◌, List, [], ◌∷◌, ◌++◌, length, get_or, drop, refl, ap, sym, ◌∙◌, arith}
use Rattle.std.specs.Prelude.{Option, Some, None, option_map}
use Rattle.std.proofs.lemmas.List.{drop_more}
use Rattle.serde_json.specs.View.{view, items_view}
use Rattle.serde_json.specs.declared.value.Value.{Value as Json}
use Rattle.wit_types.specs.declared.value.Value.{Value}
use Rattle.wit_types.specs.declared.types.WitType.{WitType}
use Rattle.wit_types.specs.declared.types.Field.{Field, out-Field}
use Rattle.wit_types.specs.Plain.{Name, Plain, Parts, End as NoParts, More as Part, plain, types_of, fields_of}
use Rattle.wit_types.specs.PlainValue.{PlainValue, PlainValues, IntValue, End, More, plain_value, values_of, byte_values}
use Rattle.host_port.specs.Untyped.{Untyped, Items, both, each_item, reading, parts_reading}
use Rattle.host_script.specs.Json.{untyped, untyped_items}

abbrev pub values_then : PlainValues → PlainValues → PlainValues
values_then End more = more
values_then (More v vs) more = More v (values_then vs more)

abbrev pub then_rest : PlainValues → Option PlainValues → Option PlainValues
then_rest done rest = option_map (λ vs. values_then done vs) rest

value_more : (done : List Value) (v : Value) (vs : PlainValues) → values_then (values_of done) (More (plain_value v) vs) ≡ values_then (values_of (done ++ v ∷ [])) vs
value_more [] v vs = refl
value_more (x ∷ done) v vs = ap (More (plain_value x)) (value_more done v vs)

byte_more : (done : List ℕ) (b : ℕ) (vs : PlainValues) → values_then (byte_values done) (More (IntValue (pos b)) vs) ≡ values_then (byte_values (done ++ b ∷ [])) vs
byte_more [] b vs = refl
byte_more (x ∷ done) b vs = ap (More (IntValue (pos x))) (byte_more done b vs)

pub one_more : (done : List Value) (v : Value) (o : Option PlainValue) (rest : Option PlainValues) → o ≡ Some (plain_value v)
    → then_rest (values_of done) (both o rest) ≡ then_rest (values_of (done ++ v ∷ [])) rest
one_more done v o None e = rw e refl
one_more done v o (Some vs) e = rw e (ap Some (value_more done v vs))

pub one_byte_more : (done : List ℕ) (b : ℕ) (o : Option PlainValue) (rest : Option PlainValues) → o ≡ Some (IntValue (pos b))
    → then_rest (byte_values done) (both o rest) ≡ then_rest (byte_values (done ++ b ∷ [])) rest
one_byte_more done b o None e = rw e refl
one_byte_more done b o (Some vs) e = rw e (ap Some (byte_more done b vs))

pub none_more : (done : PlainValues) (o : Option PlainValue) (rest : Option PlainValues) → o ≡ None → then_rest done (both o rest) ≡ None
none_more done o None e = rw e refl
none_more done o (Some vs) e = rw e refl

then_end : (done : PlainValues) → values_then done End ≡ done
then_end End = refl
then_end (More v vs) = ap (More v) (then_end vs)

pub all_read : (done : PlainValues) → then_rest done (Some End) ≡ Some done
all_read done = ap Some (then_end done)

-- the items that are left, at the next one
abbrev pub seen : List Json → Items
seen items = untyped_items (items_view items)

pub each_more : (read : Untyped → Option PlainValue) (items : List Json) (json : Json) (rest : List Json) (done more : List Value) (v : Value)
    → items ≡ json ∷ rest → read (untyped (view json)) ≡ Some (plain_value v) → more ≡ done ++ v ∷ []
    → then_rest (values_of done) (each_item read (seen items)) ≡ then_rest (values_of more) (each_item read (seen rest))
each_more read items json rest done more v next is pushed =
    ap (λ xs. then_rest (values_of done) (each_item read (seen xs))) next
    ∙ (one_more done v (read (untyped (view json))) (each_item read (seen rest)) is
    ∙ ap (λ vs. then_rest (values_of vs) (each_item read (seen rest))) (sym pushed))

pub each_byte_more : (read : Untyped → Option PlainValue) (items : List Json) (json : Json) (rest : List Json) (done more : List ℕ) (b : ℕ)
    → items ≡ json ∷ rest → read (untyped (view json)) ≡ Some (IntValue (pos b)) → more ≡ done ++ b ∷ []
    → then_rest (byte_values done) (each_item read (seen items)) ≡ then_rest (byte_values more) (each_item read (seen rest))
each_byte_more read items json rest done more b next is pushed =
    ap (λ xs. then_rest (byte_values done) (each_item read (seen xs))) next
    ∙ (one_byte_more done b (read (untyped (view json))) (each_item read (seen rest)) is
    ∙ ap (λ bs. then_rest (byte_values bs) (each_item read (seen rest))) (sym pushed))

-- a part of a tuple, of parts that are cut at it
pub part_more : (parts : Parts) (name : Name) (ty : Plain) (later : Parts) (items : List Json) (json : Json) (rest : List Json) (done more : List Value) (v : Value)
    → parts ≡ Part name ty later → items ≡ json ∷ rest → reading ty (untyped (view json)) ≡ Some (plain_value v) → more ≡ done ++ v ∷ []
    → then_rest (values_of done) (parts_reading parts (seen items)) ≡ then_rest (values_of more) (parts_reading later (seen rest))
part_more parts name ty later items json rest done more v cut next is pushed =
    ap (λ p. then_rest (values_of done) (parts_reading p (seen items))) cut
    ∙ (ap (λ xs. then_rest (values_of done) (parts_reading (Part name ty later) (seen xs))) next
    ∙ (one_more done v (reading ty (untyped (view json))) (parts_reading later (seen rest)) is
    ∙ ap (λ vs. then_rest (values_of vs) (parts_reading later (seen rest))) (sym pushed)))

pub part_wrong : (parts : Parts) (name : Name) (ty : Plain) (later : Parts) (items : List Json) (json : Json) (rest : List Json) (done : List Value)
    → parts ≡ Part name ty later → items ≡ json ∷ rest → reading ty (untyped (view json)) ≡ None
    → then_rest (values_of done) (parts_reading parts (seen items)) ≡ None
part_wrong parts name ty later items json rest done cut next is =
    ap (λ p. then_rest (values_of done) (parts_reading p (seen items))) cut
    ∙ (ap (λ xs. then_rest (values_of done) (parts_reading (Part name ty later) (seen xs))) next
    ∙ none_more (values_of done) (reading ty (untyped (view json))) (parts_reading later (seen rest)) is)

pub part_missing : (parts : Parts) (name : Name) (ty : Plain) (later : Parts) (items : List Json) (done : List Value)
    → parts ≡ Part name ty later → items ≡ [] → then_rest (values_of done) (parts_reading parts (seen items)) ≡ None
part_missing parts name ty later items done cut none =
    ap (λ p. then_rest (values_of done) (parts_reading p (seen items))) cut
    ∙ ap (λ xs. then_rest (values_of done) (parts_reading (Part name ty later) (seen xs))) none

pub parts_done : (parts : Parts) (items : List Json) (done : List Value) → parts ≡ NoParts → items ≡ [] → then_rest (values_of done) (parts_reading parts (seen items)) ≡ Some (values_of done)
parts_done parts items done ends none =
    ap (λ p. then_rest (values_of done) (parts_reading p (seen items))) ends
    ∙ (ap (λ xs. then_rest (values_of done) (parts_reading NoParts (seen xs))) none ∙ all_read (values_of done))

pub item_left : (parts : Parts) (items : List Json) (json : Json) (rest : List Json) (done : List Value)
    → parts ≡ NoParts → items ≡ json ∷ rest → then_rest (values_of done) (parts_reading parts (seen items)) ≡ None
item_left parts items json rest done ends next =
    ap (λ p. then_rest (values_of done) (parts_reading p (seen items))) ends
    ∙ ap (λ xs. then_rest (values_of done) (parts_reading NoParts (seen xs))) next

-- ---- types and fields, cut at a place

pub types_cut : (types : List WitType) (i : ℕ) (t : WitType) → i < length types → t ≡ get_or types i t → types_of (drop i types) ≡ Part [] (plain t) (types_of (drop (i + 1) types))
types_cut types i t h is = ap types_of (drop_more types i t h ∙ ap (λ y. y ∷ drop (i + 1) types) (sym is))

pub fields_cut : (fields : List Field) (i : ℕ) (f : Field) → i < length fields → f ≡ get_or fields i f
    → fields_of (drop i fields) ≡ Part (out-Field f).name (plain (out-Field f).ty) (fields_of (drop (i + 1) fields))
fields_cut fields i f h is = ap fields_of (drop_more fields i f h ∙ ap (λ y. y ∷ drop (i + 1) fields) (sym is))

pub nothing_left : {A : Type 0} (xs : List A) → length xs ≡ 0 → xs ≡ []
nothing_left [] h = refl
nothing_left (x ∷ xs) h = absurd (omega arith)
