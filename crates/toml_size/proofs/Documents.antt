-- Values, lines and documents hold no more than the text that spells them.
use Rattle.std.proofs.Common.{◌≡◌, refl, ℕ, zero, suc, ◌+◌, ◌≤◌, List, [], true, false, length, drop, Option, Some, None, option_map, option_and_then, arith, length-drop, inl, inr, ◌==◌, ◌&&◌}
use Rattle.std.specs.Prelude.{slice_index, if◌then◌else◌}
use Rattle.std.proofs.lemmas.Bool.{cases_Bool}
use Rattle.std.proofs.lemmas.Option.{none-some, same_Some}
use Rattle.toml_parser.specs.Lexical.{Read, first, comma, equals, left_bracket, right_bracket, left_brace, right_brace, skip_ws, skip_blank}
use Rattle.toml_parser.specs.Strings.{Key, starts_string, recursion_limit}
use Rattle.toml_parser.specs.Numbers.{unquoted, word_len}
use Rattle.toml_parser.specs.declared.scalar.Scalar.{Scalar}
use Rattle.toml_parser.specs.declared.scalar.Scalar.TheVariants.{Boolean, Integer, Float, Datetime}
use Rattle.toml.specs.Data.{Data, Items, no_items, Members, push_item}
use Rattle.toml.specs.Tables.{Nodes, no_nodes, close, array_table, Expression, Document, define, put}
use Rattle.toml.specs.Parse.{after_byte, after_element, key_equals, keyval, items, members, scalar_data, atom, val, header_key, expression, ends_line, line, lines, skip_bom, parse_document}
use Rattle.toml_size.specs.Sizes.{data_size, items_size, members_size, DocumentsAreNoLonger}
use Rattle.toml_size.proofs.Within.{Within, within_map, within_then, within_more}
use Rattle.toml_size.proofs.Texts.{key_size, skip_ws_within, skip_from_within, quoted_within, key_within}
use Rattle.toml_size.proofs.Tables.{nodes_size, close_size, push_size, Grows, put_size, definition_size, Defined, define_size, missing}

-- ---- what stands between

-- so much text is left at most
abbrev Leaves : ℕ → Option (List ℕ) → Type 0
Leaves n None = Unit {0}
Leaves n (Some rest) = length rest ≤ n

skip_blank_within : (text : List ℕ) → length (skip_blank text) ≤ length text
skip_blank_within text = skip_from_within true false text

after_byte_within : (byte : ℕ) (text : List ℕ) → Leaves (length text) (after_byte byte text)
after_byte_within byte text =
    elim (cases_Bool (first text == byte)) [
      | inl at_byte ↦ rw at_byte (omega (arith, length-drop 1 text))
      | inr other ↦ rw other tt
    ]

after_element_within : (closing : ℕ) (text : List ℕ) → Leaves (length text) (after_element closing text)
unfolding after_element
after_element_within closing text =
    let rest = skip_blank text in
    elim (cases_Bool (first rest == comma)) [
      | inl at_comma ↦ rw at_comma (omega (arith, skip_blank_within text, length-drop 1 rest))
      | inr other ↦ rw other (elim (cases_Bool (first rest == closing)) [
        | inl at_end ↦ rw at_end (skip_blank_within text)
        | inr none ↦ rw none tt
      ])
    ]

-- a value, and then what is left after a byte
then_left : {A : Type 0} (size : A → ℕ) (n : ℕ) (a : A) (text : List ℕ) (o : Option (List ℕ)) (after : List ℕ → List ℕ) → size a + length text ≤ n
    → Leaves (length text) o → ((rest : List ℕ) → length (after rest) ≤ length rest) → Within size n (option_map (λ rest. (a, after rest)) o)
then_left size n a text None after h left shorter = tt
then_left size n a text (Some rest) after h left shorter = omega (arith, shorter rest)

key_equals_within : (text : List ℕ) → Within key_size (length text) (key_equals text)
unfolding key_equals
key_equals_within text =
    within_then key_size key_size _ _ _ _ (key_within text)
    (λ k rest h. then_left key_size (length text) k rest (after_byte equals rest) skip_ws h (after_byte_within equals rest) skip_ws_within)

-- ---- values

nothing_in : (d : Scalar) → data_size (scalar_data d) ≡ 0
nothing_in (Boolean b) = refl
nothing_in (Integer z) = refl
nothing_in (Float x) = refl
nothing_in (Datetime dt) = refl

scalar_within : (text rest : List ℕ) (o : Option Scalar) → length rest ≤ length text → Within (λ d. data_size (scalar_data d)) (length text) (option_map (λ d. (d, rest)) o)
scalar_within text rest None h = tt
scalar_within text rest (Some d) h = omega (arith, nothing_in d)

unquoted_within : (text : List ℕ) → Within (λ d. data_size (scalar_data d)) (length text) (unquoted text)
unfolding unquoted
unquoted_within text =
    elim (cases_Bool (word_len text == 0)) [
      | inl none ↦ rw none tt
      | inr some ↦ rw some (scalar_within text (drop (word_len text) text) _ (omega (arith, length-drop (word_len text) text)))
    ]

atom_within : (text : List ℕ) → Within data_size (length text) (atom text)
unfolding atom
atom_within text =
    elim (cases_Bool (starts_string text)) [
      | inl starts ↦ rw starts (within_map length data_size _ _ _ _ (quoted_within text starts) (λ bytes rest h. h))
      | inr other ↦ rw other (within_map (λ d. data_size (scalar_data d)) data_size _ _ _ _ (unquoted_within text) (λ d rest h. h))
    ]

abbrev pair_size : Key × Data → ℕ
pair_size e = key_size e.0 + data_size e.1

-- a reader of values that take no more than their text
abbrev IsWithin : (List ℕ → Read Data) → Type 0
IsWithin read = (text : List ℕ) → Within data_size (length text) (read text)

keyval_within : (read : List ℕ → Read Data) (text : List ℕ) → IsWithin read → Within pair_size (length text) (keyval read text)
keyval_within read text value =
    within_then key_size pair_size _ _ _ _ (key_equals_within text)
    (λ k rest h. within_map data_size pair_size _ _ _ _ (value rest) (λ d left g. omega arith))

items_then : (read : List ℕ → Read Data) (n m : ℕ) (found : Items) (text : List ℕ) (o : Option (List ℕ)) → items_size found + length text ≤ m → Leaves (length text) o
    → ((rest : List ℕ) → Within items_size (items_size found + length rest) (items read n found rest))
    → Within items_size m (option_and_then (items read n found) o)
items_then read n m found text None h left more = tt
items_then read n m found text (Some rest) h left more =
    let room : items_size found + length rest ≤ m = omega arith in
    within_more items_size _ _ _ room (more rest)

items_within : (read : List ℕ → Read Data) → IsWithin read → (n : ℕ) (found : Items) (text : List ℕ) → Within items_size (items_size found + length text) (items read n found text)
unfolding items
items_within read value zero found text = tt
items_within read value (suc n) found text =
    let start = skip_blank text in
    elim (cases_Bool (first start == right_bracket)) [
      | inl at_end ↦ rw at_end (omega (arith, skip_blank_within text, length-drop 1 start))
      | inr other ↦ rw other (within_then data_size items_size _ _ _ _ (value start)
          (λ d rest h. items_then read n (items_size found + length text) (push_item found d) rest (after_element right_bracket rest)
          (omega (arith, push_size found d, skip_blank_within text)) (after_element_within right_bracket rest) (λ left. items_within read value n (push_item found d) left)))
    ]

members_then : (read : List ℕ → Read Data) (n m : ℕ) (found : Nodes) (text : List ℕ) (o : Option (List ℕ)) → nodes_size found + length text ≤ m → Leaves (length text) o
    → ((rest : List ℕ) → Within members_size (nodes_size found + length rest) (members read n found rest))
    → Within members_size m (option_and_then (members read n found) o)
members_then read n m found text None h left more = tt
members_then read n m found text (Some rest) h left more =
    let room : nodes_size found + length rest ≤ m = omega arith in
    within_more members_size _ _ _ room (more rest)

members_put : (read : List ℕ → Read Data) (n m k : ℕ) (found : Nodes) (text : List ℕ) (o : Option Nodes) → nodes_size found + (k + length text) ≤ m → Grows k found o
    → ((new : Nodes) (rest : List ℕ) → Within members_size (nodes_size new + length rest) (members read n new rest))
    → Within members_size m (option_and_then (λ new. option_and_then (members read n new) (after_element right_brace text)) o)
members_put read n m k found text None h grows more = tt
members_put read n m k found text (Some new) h grows more =
    members_then read n m new text (after_element right_brace text) (omega arith) (after_element_within right_brace text) (more new)

members_within : (read : List ℕ → Read Data) → IsWithin read → (n : ℕ) (found : Nodes) (text : List ℕ) → Within members_size (nodes_size found + length text) (members read n found text)
unfolding members
members_within read value zero found text = tt
members_within read value (suc n) found text =
    let start = skip_blank text in
    elim (cases_Bool (first start == right_brace)) [
      | inl at_end ↦ rw at_end (omega (arith, skip_blank_within text, length-drop 1 start, close_size found))
      | inr other ↦ rw other (within_then pair_size members_size _ _ _ _ (keyval_within read start value)
          (λ e rest h. members_put read n (nodes_size found + length text) (pair_size e) found rest (put e.0 e.1 found)
          (omega (arith, skip_blank_within text)) (put_size e.0 e.1 found) (λ new left. members_within read value n new left)))
    ]

val_within : (depth : ℕ) (text : List ℕ) → Within data_size (length text) (val depth text)
unfolding val
val_within zero text = atom_within text
val_within (suc depth) text =
    elim (cases_Bool (first text == left_bracket)) [
      | inl bracket ↦ rw bracket (within_map items_size data_size _ _ _ _ (items_within (val depth) (val_within depth) (length text) no_items (drop 1 text))
          (λ ds rest h. omega (arith, length-drop 1 text)))
      | inr other ↦ rw other (elim (cases_Bool (first text == left_brace)) [
        | inl brace ↦ rw brace (within_map members_size data_size _ _ _ _ (members_within (val depth) (val_within depth) (length text) no_nodes (drop 1 text))
            (λ ms rest h. omega (arith, length-drop 1 text)))
        | inr neither ↦ rw neither (atom_within text)
      ])
    ]

-- ---- lines

header_key_within : (text : List ℕ) → Within key_size (length text) (header_key text)
unfolding header_key
header_key_within text =
    within_then key_size key_size _ _ _ _ (key_within (skip_ws text))
    (λ k rest h. then_left key_size (length text) k rest (after_byte right_bracket rest) (λ t. t) (omega (arith, skip_ws_within text)) (after_byte_within right_bracket rest) (λ t. omega arith))

abbrev expression_size : Expression → ℕ
expression_size e = key_size e.0 + definition_size e.1

expression_within : (text : List ℕ) → Within expression_size (length text) (expression text)
unfolding expression
expression_within text =
    elim (cases_Bool (first text == left_bracket && slice_index text 1 == left_bracket)) [
      | inl twice ↦ rw twice (within_then key_size expression_size _ _ _ _ (header_key_within (drop 2 text))
          (λ k rest h. then_left expression_size (length text) (k, array_table) rest (after_byte right_bracket rest) (λ t. t) (omega (arith, length-drop 2 text)) (after_byte_within right_bracket rest) (λ t. omega arith)))
      | inr other ↦ rw other (elim (cases_Bool (first text == left_bracket)) [
        | inl once ↦ rw once (within_map key_size expression_size _ _ _ _ (header_key_within (drop 1 text)) (λ k rest h. omega (arith, length-drop 1 text)))
        | inr none ↦ rw none (within_map pair_size expression_size _ _ _ _ (keyval_within (val recursion_limit) text (val_within recursion_limit)) (λ e rest h. h))
      ])
    ]

line_ends : (n : ℕ) (e : Expression) (rest : List ℕ) → expression_size e + length rest ≤ n
    → Within expression_size n (if ends_line (skip_ws rest) then Some (e, rest) else None)
line_ends n e rest h =
    elim (cases_Bool (ends_line (skip_ws rest))) [
      | inl ends ↦ rw ends h
      | inr other ↦ rw other tt
    ]

line_within : (text : List ℕ) → Within expression_size (length text) (line text)
unfolding line
line_within text =
    within_then expression_size expression_size _ _ _ _ (expression_within text) (λ e rest h. line_ends (length text) e rest h)

-- ---- documents

abbrev Holds : ℕ → Option Document → Type 0
Holds n None = Unit {0}
Holds n (Some doc) = nodes_size doc.0 ≤ n

holds_more : (n m : ℕ) (o : Option Document) → n ≤ m → Holds n o → Holds m o
holds_more n m None h holds = tt
holds_more n m (Some doc) h holds = omega arith

define_then : (n m k : ℕ) (root : Nodes) (rest : List ℕ) (o : Option Document) → nodes_size root + (k + length rest) ≤ m → Defined k root o
    → ((doc : Document) → missing doc.1 doc.0 ≡ 0 → Holds (nodes_size doc.0 + length rest) (lines n doc rest))
    → Holds m (option_and_then (λ next. lines n next rest) o)
define_then n m k root rest None h new more = tt
define_then n m k root rest (Some doc) h new more =
    let fits : nodes_size doc.0 + length rest ≤ m = omega (arith, new.0) in
    holds_more _ m (lines n doc rest) fits (more doc new.1)

line_then : (n m : ℕ) (doc : Document) (r : Read Expression) (start : List ℕ) → missing doc.1 doc.0 ≡ 0 → nodes_size doc.0 + length start ≤ m → Within expression_size (length start) r
    → ((next : Document) (rest : List ℕ) → missing next.1 next.0 ≡ 0 → Holds (nodes_size next.0 + length rest) (lines n next rest))
    → Holds m (option_and_then (λ e. option_and_then (λ next. lines n next e.1) (define doc e.0)) r)
line_then n m doc None start there h within more = tt
line_then n m doc (Some (e, rest)) start there h within more =
    define_then n m (expression_size e) doc.0 rest (define doc e) (omega arith) (define_size doc e.0 e.1 there) (λ next is_there. more next rest is_there)

lines_hold : (n : ℕ) (doc : Document) (text : List ℕ) → missing doc.1 doc.0 ≡ 0 → Holds (nodes_size doc.0 + length text) (lines n doc text)
unfolding lines
lines_hold zero doc text there = tt
lines_hold (suc n) doc text there =
    let start = skip_blank text in
    elim (cases_Bool (length start == 0)) [
      | inl none ↦ rw none (omega arith)
      | inr some ↦ rw some (line_then n (nodes_size doc.0 + length text) doc (line start) start there (omega (arith, skip_blank_within text)) (line_within start)
          (λ next rest is_there. lines_hold n next rest is_there))
    ]

bom_skipped : (text : List ℕ) → length (skip_bom text) ≤ length text
unfolding skip_bom
bom_skipped text =
    elim (cases_Bool ((first text == 0xEF && slice_index text 1 == 0xBB) && slice_index text 2 == 0xBF)) [
      | inl mark ↦ rw mark (omega (arith, length-drop 3 text))
      | inr other ↦ rw other (omega arith)
    ]

closed : (n : ℕ) (o : Option Document) (ms : Members) → Holds n o → option_map (λ doc. close doc.0) o ≡ Some ms → members_size ms ≤ n
closed n None ms h e = absurd (none-some ms e)
closed n (Some doc) ms h e = let is : close doc.0 ≡ ms = same_Some (close doc.0) ms e in rw (← is) (omega (arith, close_size doc.0))

pub document_size : DocumentsAreNoLonger
unfolding parse_document
document_size text ms e =
    let short = closed (0 + length (skip_bom text)) (lines (suc (length text)) (no_nodes, []) (skip_bom text)) ms (lines_hold (suc (length text)) (no_nodes, []) (skip_bom text) refl) e in
    omega (arith, bom_skipped text)
