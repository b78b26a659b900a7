-- Strings and keys are no longer than the text that spells them.
use Rattle.std.proofs.Common.{◌≡◌, ◌∙◌, refl, ℕ, zero, suc, ◌+◌, ◌≤◌, ◌<◌, List, [], ◌∷◌, ◌++◌, Bool, true, false, length, take, drop, Option, Some, None, is_some, unwrap_or, option_map, arith, length-drop, length-append, inl, inr, eqb-true, length-take, ◌==◌, ◌&&◌}
use Rattle.std.specs.Prelude.{encode_utf8, nat_lt, nat_le, slice_index, if◌then◌else◌}
use Rattle.std.specs.List.{prefix_len, list_all}
use Rattle.std.specs.Str.Parse.{digits_value}
use Rattle.std.specs.Char.{is_digit}
use Rattle.std.proofs.lemmas.Bool.{cases_Bool}
use Rattle.std.proofs.lemmas.Bool.Decides.{nat_tests}
use Rattle.std.proofs.lemmas.Str.{length-encode, len_utf8_bounds, len_utf8_ascii}
use Rattle.toml_parser.specs.Lexical.{Read, first, skip_ws, skip_from, skip_turn, starts_newline, line_feed, backslash, dot, is_bare}
use Rattle.toml_parser.specs.Reading.{piece_bytes}
use Rattle.toml_parser.specs.Strings.{is_plain, is_scalar, hex_len, hex_escape, simple_escape, escape_char, escape, special, at_delims, after_piece, body, trim_newline, one_line, quoted, simple_key, starts_string, Key, key, key_after, recursion_limit}
use Rattle.toml_size.proofs.Within.{Within, within_map, within_then, within_more, within_size, one_taken}

pub skip_ws_within : (text : List ℕ) → length (skip_ws text) ≤ length text
unfolding skip_ws
skip_ws_within text = simp length-drop (omega arith)

pub skip_from_within : (comments inside : Bool) (text : List ℕ) → length (skip_from comments inside text) ≤ length text
unfolding skip_from
skip_from_within comments inside [] = omega arith
skip_from_within comments inside (c ∷ cs) =
    let next = skip_from_within comments (unwrap_or (skip_turn comments inside c (first cs)) false) cs in
    elim (cases_Bool (is_some (skip_turn comments inside c (first cs)))) [
      | inl more ↦ rw more (omega arith)
      | inr stop ↦ rw stop (omega arith)
    ]

-- ---- escapes

-- the bytes of a character
abbrev pub character_size : ℕ → ℕ
character_size c = length (encode_utf8 c)

hex_escape_within : (n : ℕ) (text : List ℕ) → Within (λ _. n) (length text) (hex_escape n text)
unfolding hex_escape
hex_escape_within n text =
    let digits = take n text in
    elim (cases_Bool ((nat_le n (length text) && list_all (λ c. is_digit c 16) digits) && is_scalar (digits_value 16 digits))) [
      | inl writes ↦ let room : n ≤ length text = grind (arith, nat_tests) in rw writes (omega (arith, length-drop n text))
      | inr other ↦ rw other tt
    ]

-- a character has at most 4 bytes, and one of ASCII one
character_at_most : (c : ℕ) → character_size c ≤ 4
character_at_most c = omega (arith, length-encode c, len_utf8_bounds c)

character_of_ascii : (c : ℕ) → c < 128 → character_size c ≡ 1
character_of_ascii c h = length-encode c ∙ len_utf8_ascii c h

simple_is_ascii : (letter c : ℕ) → simple_escape letter ≡ Some c → (0 < letter) × (c < 128)
simple_is_ascii letter c h = (grind (arith, nat_tests), grind (arith, nat_tests))

hex_len_first : (letter : ℕ) → nat_lt 0 (hex_len letter) ≡ true → (0 < letter) × (2 ≤ hex_len letter)
hex_len_first letter h = (grind (arith, nat_tests), grind (arith, nat_tests))

simple_within : (text : List ℕ) (c : Option ℕ) → simple_escape (first text) ≡ c → Within character_size (1 + length text) (option_map (λ x. (x, drop 1 text)) c)
simple_within text None h = tt
simple_within text (Some c) h =
    let (some, ascii) = simple_is_ascii (first text) c h in
    omega (arith, one_taken text some, character_of_ascii c ascii)

-- the character of an escape is no longer than the backslash and what follows it
escape_char_within : (text : List ℕ) → Within character_size (1 + length text) (escape_char text)
unfolding escape_char
escape_char_within text =
    elim (cases_Bool (nat_lt 0 (hex_len (first text)))) [
      | inl hex ↦
          let (some, digits) = hex_len_first (first text) hex in
          rw hex (within_size _ character_size _ _ _ (hex_escape_within (hex_len (first text)) (drop 1 text))
          (λ c rest h. omega (arith, character_at_most c, digits, one_taken text some)))
      | inr other ↦ rw other (simple_within text (simple_escape (first text)) refl)
    ]

escape_within : (multi : Bool) (text : List ℕ) → Within length (1 + length text) (escape multi text)
unfolding escape
escape_within multi text =
    elim (cases_Bool (multi && starts_newline (skip_ws text))) [
      | inl cut ↦ rw cut (omega (arith, skip_from_within false false text))
      | inr other ↦ rw other (within_map character_size length _ _ _ _ (escape_char_within text) (λ c rest h. h))
    ]

-- ---- strings

-- the bytes of a piece of a string
abbrev pub piece_size : Option (List ℕ) → ℕ
piece_size piece = length (piece_bytes piece)

at_delims_within : (delim : ℕ) (text : List ℕ) → 0 < first text → Within piece_size (length text) (at_delims delim text)
at_delims_within delim text some =
    let count = prefix_len (λ c. c == delim) text in
    elim (cases_Bool (count == 3)) [
      | inl three ↦ rw three (omega (arith, length-drop 3 text))
      | inr other ↦ rw other (elim (cases_Bool (nat_lt count 6)) [
        | inl few ↦ rw few (omega (arith, one_taken text some))
        | inr many ↦ rw many tt
      ])
    ]

at_delim_within : (delim : ℕ) (multi : Bool) (text : List ℕ) → 0 < first text
    → Within piece_size (length text) (if multi then at_delims delim text else Some (None, drop 1 text))
at_delim_within delim true text some = at_delims_within delim text some
at_delim_within delim false text some = omega (arith, length-drop 1 text)

newline_is_some : (text : List ℕ) → starts_newline text ≡ true → 0 < first text
newline_is_some text h = grind (arith, nat_tests)

newline_within : (multi : Bool) (text : List ℕ) → Within piece_size (length text) (if multi && starts_newline text then Some (Some (first text ∷ []), drop 1 text) else None)
newline_within false text = tt
newline_within true text =
    elim (cases_Bool (starts_newline text)) [
      | inl newline ↦ rw newline (omega (arith, one_taken text (newline_is_some text newline)))
      | inr other ↦ rw other tt
    ]

special_within : (delim : ℕ) (multi : Bool) (text : List ℕ) → 0 < delim → Within piece_size (length text) (special delim multi text)
unfolding special
special_within delim multi text some =
    elim (cases_Bool (first text == delim)) [
      | inl at_delim ↦ let same = eqb-true (first text) delim at_delim in rw at_delim (at_delim_within delim multi text (omega arith))
      | inr other ↦ rw other (elim (cases_Bool (first text == backslash)) [
        | inl slash ↦
            let same = eqb-true (first text) backslash slash in
            rw slash (within_map length piece_size _ _ _ _ (escape_within multi (drop 1 text)) (λ bytes rest h. omega (arith, one_taken text (omega arith))))
        | inr neither ↦ rw neither (newline_within multi text)
      ])
    ]

after_piece_within : (n : ℕ) (more : List ℕ → Read (List ℕ)) (piece : Option (List ℕ)) (rest : List ℕ) → piece_size piece + length rest ≤ n
    → Within length (length rest) (more rest) → Within length n (after_piece more piece rest)
after_piece_within n more None rest h behind = omega arith
after_piece_within n more (Some bytes) rest h behind =
    within_map length length _ _ _ _ behind (λ read left g. omega (arith, length-append bytes read))

plain_is_some : (delim : ℕ) (multi : Bool) (c : ℕ) → is_plain delim multi c ≡ true → 0 < c
plain_is_some delim multi c h = grind (arith, nat_tests)

body_within : (delim : ℕ) (multi : Bool) (n : ℕ) (text : List ℕ) → 0 < delim → Within length (length text) (body delim multi n text)
unfolding body
body_within delim multi zero text some = tt
body_within delim multi (suc n) text some =
    elim (cases_Bool (is_plain delim multi (first text))) [
      | inl plain ↦
          rw plain (within_map length length _ _ _ _ (body_within delim multi n (drop 1 text) some)
          (λ read rest h. omega (arith, one_taken text (plain_is_some delim multi (first text) plain))))
      | inr other ↦
          rw other (within_then piece_size length _ _ _ _ (special_within delim multi text some)
          (λ piece rest h. after_piece_within (length text) (body delim multi n) piece rest h (body_within delim multi n rest some)))
    ]

-- the delimiter of a string is a byte
delimiter_is_some : (text : List ℕ) → starts_string text ≡ true → 0 < first text
delimiter_is_some text h = grind (arith, nat_tests)

one_line_within : (text : List ℕ) → starts_string text ≡ true → Within length (length text) (one_line text)
unfolding one_line
one_line_within text starts =
    let room : length (drop 1 text) ≤ length text = omega (arith, length-drop 1 text) in
    within_more length _ _ _ room (body_within (first text) false (length text) (drop 1 text) (delimiter_is_some text starts))

trimmed_by : (feed newline : Bool) (text : List ℕ) → length (if feed then drop 1 text else (if newline then drop 2 text else text)) ≤ length text
trimmed_by true newline text = omega (arith, length-drop 1 text)
trimmed_by false true text = omega (arith, length-drop 2 text)
trimmed_by false false text = omega arith

trimmed : (text : List ℕ) → length (trim_newline text) ≤ length text
trimmed text = trimmed_by (first text == line_feed) (starts_newline text) text

pub quoted_within : (text : List ℕ) → starts_string text ≡ true → Within length (length text) (quoted text)
unfolding quoted
quoted_within text starts =
    elim (cases_Bool (slice_index text 1 == first text && slice_index text 2 == first text)) [
      | inl three ↦
          let room : length (trim_newline (drop 3 text)) ≤ length text = omega (arith, trimmed (drop 3 text), length-drop 3 text) in
          rw three (within_more length _ _ _ room (body_within (first text) true (length text) (trim_newline (drop 3 text)) (delimiter_is_some text starts)))
      | inr other ↦ rw other (one_line_within text starts)
    ]

-- ---- keys

abbrev pub texts_size : List (List ℕ) → ℕ
texts_size [] = 0
texts_size (t ∷ ts) = length t + texts_size ts

pub texts_size-append : (ts us : List (List ℕ)) → texts_size (ts ++ us) ≡ texts_size ts + texts_size us
texts_size-append [] us = omega arith
texts_size-append (t ∷ ts) us = omega (arith, texts_size-append ts us)

abbrev pub key_size : Key → ℕ
key_size k = texts_size k.0 + length k.1

simple_key_within : (text : List ℕ) → Within length (length text) (simple_key text)
unfolding simple_key
simple_key_within text =
    elim (cases_Bool (starts_string text)) [
      | inl starts ↦ rw starts (one_line_within text starts)
      | inr other ↦ rw other (elim (cases_Bool (is_bare (first text))) [
        | inl bare ↦ rw bare (omega (arith, length-drop (prefix_len is_bare text) text, length-take (prefix_len is_bare text) text))
        | inr none ↦ rw none tt
      ])
    ]

key_goes_on : (n : ℕ) (path : List (List ℕ)) (part rest : List ℕ) (all : ℕ) → length part + length rest ≤ all
    → Within key_size (texts_size (path ++ part ∷ []) + length (skip_ws (drop 1 (skip_ws rest)))) (key_after n (path ++ part ∷ []) (skip_ws (drop 1 (skip_ws rest))))
    → Within key_size (texts_size path + all) (key_after n (path ++ part ∷ []) (skip_ws (drop 1 (skip_ws rest))))
key_goes_on n path part rest all h more =
    let room : texts_size (path ++ part ∷ []) + length (skip_ws (drop 1 (skip_ws rest))) ≤ texts_size path + all =
    omega (arith, texts_size-append path (part ∷ []), skip_ws_within rest, skip_ws_within (drop 1 (skip_ws rest)), length-drop 1 (skip_ws rest)) in
    within_more key_size _ _ _ room more

key_after_within : (n : ℕ) (path : List (List ℕ)) (text : List ℕ) → Within key_size (texts_size path + length text) (key_after n path text)
unfolding key_after
key_after_within zero path text = tt
key_after_within (suc n) path text =
    within_then length key_size _ _ _ _ (simple_key_within text)
    (λ part rest h. elim (cases_Bool (first (skip_ws rest) == dot)) [
      | inl goes_on ↦
          rw goes_on (key_goes_on n path part rest (length text) h (key_after_within n (path ++ part ∷ []) (skip_ws (drop 1 (skip_ws rest)))))
      | inr last ↦ rw last (omega (arith, skip_ws_within rest))
    ])

pub key_within : (text : List ℕ) → Within key_size (length text) (key text)
key_within text =
    let whole : texts_size [] + length text ≤ length text = omega arith in
    within_more key_size _ _ _ whole (key_after_within recursion_limit [] text)
