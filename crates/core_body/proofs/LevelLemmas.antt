-- The labels of the levels.
use Rattle.std.proofs.Common.{◌≡◌, ◌≤◌, ◌<◌, ◌-◌, ℕ, suc, refl, ◌∙◌, ap, Option, Some, None, List, [], ◌∷◌, length, map, reverse, get_or, slice_get, arith}
use Rattle.std.proofs.lemmas.List.{length-reverse, get_or-reverse}
use Rattle.std.proofs.lemmas.Option.{slice_get_past, slice_get-map, slice_get-get_or}
use Rattle.std.specs.Option.{option_map, option_and_then}
use Rattle.core_body.specs.declared.operand.Operand.{Operand}
use Rattle.core_body.specs.declared.piece.Piece.{Piece}
use Rattle.core_body.specs.declared.levels.Frame.{Frame}
use Rattle.core_body.specs.Context.{Context}
use Rattle.core_body.specs.Typing.{Labels, label_at}
use Rattle.core_body.specs.Machine.{labels_of}
use Rattle.core_body.specs.Levels.{label_of, levels_at}

abbrev label_of_frame : Context → Frame → Option (List Operand)
label_of_frame c f = label_of c f.kind

labels-map : (c : Context) (fs : List Frame) (below : List Piece) → labels_of (levels_at c fs below) ≡ map (label_of_frame c) fs
labels-map c [] below = refl
labels-map c (f ∷ fs) below = ap (λ l. label_of c f.kind ∷ l) (labels-map c fs _)

at-next : (x : Option (List Operand)) (xs : Labels) (n : ℕ) → 0 < n → slice_get (x ∷ xs) n ≡ slice_get xs (n - 1)
at-next x xs n h = let e : n ≡ suc (n - 1) = omega arith in ap (slice_get (x ∷ xs)) e

length-map_lem : (g : Frame → Option (List Operand)) (fs : List Frame) → length (map g fs) ≡ length fs
length-map_lem g [] = refl
length-map_lem g (f ∷ fs) = ap suc (length-map_lem g fs)

pub label-none : (c : Context) (fs : List Frame) (x : Option (List Operand)) (below : List Piece) (n : ℕ) → length fs < n → label_at (x ∷ labels_of (levels_at c (reverse fs) below)) n ≡ None
label-none c fs x below n h =
    let past : length (labels_of (levels_at c (reverse fs) below)) ≤ n - 1 =
    omega (arith, ap length (labels-map c (reverse fs) below), length-map_lem (label_of_frame c) (reverse fs), length-reverse fs) in
    let J : Option (Option (List Operand)) → Option (List Operand) = λ o. option_and_then (λ l. l) o in
    ap J (at-next x _ n (omega arith) ∙ slice_get_past _ (n - 1) past)

pub label-some : (c : Context) (fs : List Frame) (x : Option (List Operand)) (below : List Piece) (n : ℕ) (d : Frame) → 0 < n → n ≤ length fs →
    label_at (x ∷ labels_of (levels_at c (reverse fs) below)) n ≡ label_of c (get_or fs (length fs - n) d).kind
label-some c fs x below n d some within =
    let inside : n - 1 < length fs = omega arith in
    let inner : n - 1 < length (reverse fs) = omega (arith, length-reverse fs) in
    let place : length fs - 1 - (n - 1) ≡ length fs - n = omega arith in
    let found : slice_get (reverse fs) (n - 1) ≡ Some (get_or fs (length fs - n) d) =
    slice_get-get_or (reverse fs) (n - 1) d inner ∙ ap Some (get_or-reverse fs (n - 1) d inside ∙ ap (λ k. get_or fs k d) place) in
    let J : Option (Option (List Operand)) → Option (List Operand) = λ o. option_and_then (λ l. l) o in
    ap J (at-next x _ n some ∙ ap (λ l. slice_get l (n - 1)) (labels-map c (reverse fs) below) ∙ slice_get-map (label_of_frame c) (reverse fs) (n - 1)
    ∙ ap (option_map (label_of_frame c)) found)
