-- Fronts of lists, and pieces that meet the types due.
use Rattle.std.proofs.Common.{◌≡◌, ◌≤◌, ◌<◌, ◌+◌, ◌-◌, ◌⊎◌, ℕ, refl, sym, ◌∙◌, ap, subst, Some, None, List, [], ◌∷◌, ◌++◌, Bool, true, false, cond, ◌&&◌, is_some, length, take, drop, map, reverse, get_or, arith, inl, inr, append_assoc, le_refl, length-drop}
use Rattle.std.proofs.Math.Seq.{take-length}
use Rattle.std.proofs.Math.ListN.{drop_of_length-le}
use Rattle.std.proofs.lemmas.List.{length-take, length-take-le, take-append-drop, take-take, take_more, take_all, drop-append-le, map-append, reverse-append}
use Rattle.std.specs.Bool.{OnTrue, OnFalse}
use Rattle.virt_base.specs.declared.core_type.CoreType.{CoreType}
use Rattle.core_body.specs.declared.operand.Operand.{Operand}
use Rattle.core_body.specs.declared.operand.Operand.TheVariants.{Known}
use Rattle.core_body.specs.declared.source.Run.{Run}
use Rattle.core_body.specs.declared.piece.Piece.{Piece}
use Rattle.core_body.specs.declared.piece.Piece.TheVariants.{One, Many}
use Rattle.core_body.specs.Context.{Context}
use Rattle.core_body.specs.Typing.{operands, AllBelow}
use Rattle.core_body.specs.Machine.{pops, below, like, all_below}
use Rattle.core_body.specs.Sources.{listed, front}
use Rattle.core_body.specs.Pieces.{run_of, piece_of, NeverMeet, Meet}
use Rattle.core_body.proofs.Fits.{below-yes, below-is, Below-refl}
use Rattle.core_body.proofs.StackLemmas.{pops-dead, operands-take, operands-injective}
use Rattle.core_body.proofs.TableLemmas.{length-operands}

take-zero : (l : List CoreType) → take 0 l ≡ []
take-zero [] = refl
take-zero (x ∷ l) = refl

front-less : (l : List CoreType) (n k : ℕ) → k ≤ length (take n l) → take k (take n l) ≡ take k l
front-less l n k h = take-take k n l (omega (arith, length-take n l))

operands-append : (xs ys : List CoreType) → operands (xs ++ ys) ≡ operands ys ++ operands xs
operands-append xs ys = ap reverse (map-append (λ t. Known t) xs ys) ∙ reverse-append (map (λ t. Known t) xs) (map (λ t. Known t) ys)

-- the last type of a front is its topmost operand
pub front-top : (l held : List CoreType) (n k : ℕ) (d : CoreType) → held ≡ take n l → k + 1 ≡ length held → operands (take n l) ≡ Known (get_or held k d) ∷ operands (take k l)
front-top l held n k d e some =
    let whole : length (take n l) ≡ length held = ap length (sym e) in
    let last : length held - 1 ≡ k = omega arith in
    let inside : k ≤ length (take n l) = omega arith in
    ap operands (sym e) ∙ ap operands (sym (take-length held)) ∙ operands-take held (length held) d (omega arith) (le_refl (length held))
    ∙ ap (λ i. Known (get_or held i d) ∷ operands (take i held)) last
    ∙ ap (λ h. Known (get_or held k d) ∷ operands (take k h)) e
    ∙ ap (λ h. Known (get_or held k d) ∷ operands h) (front-less l n k inside)

pub front-none : (l held : List CoreType) (n : ℕ) → held ≡ take n l → length held ≡ 0 → operands (take n l) ≡ []
front-none l [] n e h = ap operands (sym e)
front-none l (x ∷ held) n e h = absurd (omega arith)

pub operands-zero : (l : List CoreType) → operands (take 0 l) ≡ []
operands-zero l = ap operands (take-zero l)

pub operands-whole : (l : List CoreType) (n : ℕ) → n ≡ length l → operands (take n l) ≡ operands l
operands-whole l n e = ap operands (take_all n l (omega arith))

pub operands-none : (l : List CoreType) → length l ≡ 0 → operands l ≡ []
operands-none [] h = refl
operands-none (x ∷ l) h = absurd (omega arith)

pub operands-one : (l : List CoreType) (d : CoreType) → length l ≡ 1 → operands l ≡ Known (get_or l 0 d) ∷ []
operands-one [] d h = absurd (omega arith)
operands-one (x ∷ []) d h = refl
operands-one (x ∷ y ∷ l) d h = absurd (omega arith)

-- operands under themselves are taken off
pops-through : (dead : Bool) (zs os ps : List Operand) → pops dead (zs ++ os) (zs ++ ps) ≡ pops dead os ps
pops-through dead [] os ps = refl
pops-through dead (z ∷ zs) os ps = ap (λ b. cond b (pops dead (zs ++ os) (zs ++ ps)) None) (below-yes z z (Below-refl z)) ∙ pops-through dead zs os ps

pops-whole : (dead : Bool) (zs os : List Operand) → pops dead (zs ++ os) zs ≡ Some os
pops-whole dead [] os = refl
pops-whole dead (z ∷ zs) os = ap (λ b. cond b (pops dead (zs ++ os) zs) None) (below-yes z z (Below-refl z)) ∙ pops-whole dead zs os

-- as many operands as are due are below them, or cannot be taken off
pops-split : (dead : Bool) (zs ws os ps : List Operand) → length zs ≡ length ws → AllBelow zs ws ⊎ (pops dead (zs ++ os) (ws ++ ps) ≡ None)
pops-split dead [] [] os ps e = inl tt
pops-split dead [] (w ∷ ws) os ps e = absurd (omega arith)
pops-split dead (z ∷ zs) [] os ps e = absurd (omega arith)
pops-split dead (z ∷ zs) (w ∷ ws) os ps e = go (below z w) refl (pops-split dead zs ws os ps (omega arith))
  where
    go : (b : Bool) → below z w ≡ b → AllBelow zs ws ⊎ (pops dead (zs ++ os) (ws ++ ps) ≡ None) → AllBelow (z ∷ zs) (w ∷ ws) ⊎ (pops dead (z ∷ (zs ++ os)) (w ∷ (ws ++ ps)) ≡ None)
    go false is r = inr (ap (λ b. cond b (pops dead (zs ++ os) (ws ++ ps)) None) is)
    go true is (inl low) = inl (below-is z w is, low)
    go true is (inr never) = inr (ap (λ b. cond b (pops dead (zs ++ os) (ws ++ ps)) None) is ∙ never)

known-below : (xs : List CoreType) (ws : List Operand) → AllBelow (map (λ t. Known t) xs) ws → ws ≡ map (λ t. Known t) xs
known-below [] [] h = refl
known-below [] (w ∷ ws) h = absurd h
known-below (x ∷ xs) [] h = absurd h
known-below (x ∷ xs) (w ∷ ws) h = let e = known-below xs ws h.1 in let f = h.0 in cc

map-reverse : (xs : List CoreType) → reverse (map (λ t. Known t) xs) ≡ map (λ t. Known t) (reverse xs)
map-reverse [] = refl
map-reverse (x ∷ xs) =
    reverse-append (Known x ∷ []) (map (λ t. Known t) xs) ∙ ap (λ l. l ++ Known x ∷ []) (map-reverse xs)
    ∙ sym (ap (map (λ t. Known t)) (reverse-append (x ∷ []) xs) ∙ map-append (λ t. Known t) (reverse xs) (x ∷ []))

below-same : (xs ys : List CoreType) → AllBelow (operands xs) (operands ys) → xs ≡ ys
below-same xs ys h =
    let P : List Operand → Type 0 = λ l. AllBelow l (operands ys) in
    let low : AllBelow (map (λ t. Known t) (reverse xs)) (operands ys) = subst P (map-reverse xs) h in
    operands-injective xs ys (map-reverse xs ∙ sym (known-below (reverse xs) (operands ys) low))

pops-differ : (dead : Bool) (xs ys : List CoreType) (os ps : List Operand) → length xs ≡ length ys → (xs ≡ ys → ⊥) → pops dead (operands xs ++ os) (operands ys ++ ps) ≡ None
pops-differ dead xs ys os ps e other = go (pops-split dead (operands xs) (operands ys) os ps (length-operands xs ∙ e ∙ sym (length-operands ys)))
  where
    go : AllBelow (operands xs) (operands ys) ⊎ (pops dead (operands xs ++ os) (operands ys ++ ps) ≡ None) → pops dead (operands xs ++ os) (operands ys ++ ps) ≡ None
    go (inl low) = absurd (other (below-same xs ys low))
    go (inr never) = never

-- a run's operands: those of its end over those of the front that is kept
front-parts : (l held : List CoreType) (n k : ℕ) → held ≡ take n l → k ≤ length held → operands (take n l) ≡ operands (drop k held) ++ operands (take k l)
front-parts l held n k e h =
    let whole : length (take n l) ≡ length held = ap length (sym e) in
    ap operands (sym e ∙ sym (take-append-drop k held)) ∙ operands-append (take k held) (drop k held)
    ∙ ap (λ x. operands (drop k held) ++ operands x) (ap (take k) e ∙ front-less l n k (omega arith))

-- a piece that is known to be the types due
pub meet-same : (c : Context) (run due : Run) (part : Piece) → front c run ≡ front c due → piece_of c part ≡ [] → Meet c (Many run) due part (record { of = due.of; len = 0 })
meet-same c run due part e empty = record {
  same = λ dead os. ap (λ r. pops dead (operands r ++ os) (run_of c due)) e ∙ pops-whole dead (run_of c due) os
      ∙ ap (pops dead os) (sym (operands-zero (listed c due.of)))
      ∙ ap (λ x. pops dead (x ++ os) (operands (take 0 (listed c due.of)))) (sym empty);
  within = omega arith;
  over = λ (h : 0 < 0). absurd (omega arith);
  none = λ h. empty;
}

pub meet-none : (c : Context) (found : Operand) (due : Run) (want : List CoreType) → want ≡ front c due → length want ≡ 0 → Meet c (One found) due (One found) (record { of = due.of; len = 0 })
meet-none c found due want e h = record {
  same = λ dead os. ap (pops dead (found ∷ os)) (front-none (listed c due.of) want due.len e h ∙ sym (operands-zero (listed c due.of)));
  within = omega arith;
  over = λ (more : 0 < 0). absurd (omega arith);
  none = λ empty. empty;
}

within-front : (c : Context) (due : Run) (want : List CoreType) (k : ℕ) → want ≡ front c due → k ≤ length want → k ≤ length (listed c due.of)
within-front c due want k e h =
    let whole : length want ≡ length (take due.len (listed c due.of)) = ap length e in
    omega (arith, length-take due.len (listed c due.of))

pub meet-one : (c : Context) (found : Operand) (due : Run) (part : Piece) (want : List CoreType) (k : ℕ) (d : CoreType) → want ≡ front c due → k + 1 ≡ length want →
    below found (Known (get_or want k d)) ≡ true → piece_of c part ≡ [] → Meet c (One found) due part (record { of = due.of; len = k })
meet-one c found due part want k d e some is empty = record {
  same = λ dead os. ap (pops dead (found ∷ os)) (front-top (listed c due.of) want due.len k d e some)
      ∙ ap (λ b. cond b (pops dead os (operands (take k (listed c due.of)))) None) is
      ∙ ap (λ x. pops dead (x ++ os) (operands (take k (listed c due.of)))) (sym empty);
  within = within-front c due want k e (omega arith);
  over = λ h. empty;
  none = λ h. empty;
}

pub never-one : (c : Context) (found : Operand) (due : Run) (want : List CoreType) (k : ℕ) (d : CoreType) → want ≡ front c due → k + 1 ≡ length want → below found (Known (get_or want k d)) ≡ false →
    NeverMeet c (One found) due
never-one c found due want k d e some is =
    λ dead os. ap (pops dead (found ∷ os)) (front-top (listed c due.of) want due.len k d e some)
    ∙ ap (λ b. cond b (pops dead os (operands (take k (listed c due.of)))) None) is

-- the ends of two lists, as much as both have
pub meet-run : (c : Context) (run due : Run) (held want : List CoreType) (kept left : ℕ) → held ≡ front c run → want ≡ front c due →
    kept ≡ length held - length want → left ≡ length want - length held → drop kept held ≡ drop left want →
    Meet c (Many run) due (Many (record { of = run.of; len = kept })) (record { of = due.of; len = left })
meet-run c run due held want kept left a b k l alike = record {
  same = λ dead os.
      let low : List Operand = operands (take kept (listed c run.of)) in
      ap (λ x. pops dead (x ++ os) (run_of c due)) (front-parts (listed c run.of) held run.len kept a (omega arith))
      ∙ ap (pops dead ((operands (drop kept held) ++ low) ++ os)) (front-parts (listed c due.of) want due.len left b (omega arith))
      ∙ ap (λ x. pops dead x (operands (drop left want) ++ operands (take left (listed c due.of)))) (append_assoc (operands (drop kept held)) low os)
      ∙ ap (λ x. pops dead (operands x ++ (low ++ os)) (operands (drop left want) ++ operands (take left (listed c due.of)))) alike
      ∙ pops-through dead (operands (drop left want)) (low ++ os) (operands (take left (listed c due.of)));
  within = within-front c due want left b (omega arith);
  over = λ h. let none : kept ≡ 0 = omega arith in ap (λ n. operands (take n (listed c run.of))) none ∙ operands-zero (listed c run.of);
  none = λ h.
      let short : length held ≡ 0 = ap length a ∙ sym (length-operands (front c run)) ∙ ap length h in
      let none : kept ≡ 0 = omega arith in
      ap (λ n. operands (take n (listed c run.of))) none ∙ operands-zero (listed c run.of);
}

pub never-run : (c : Context) (run due : Run) (held want : List CoreType) (kept left : ℕ) → held ≡ front c run → want ≡ front c due →
    kept ≡ length held - length want → left ≡ length want - length held → (drop kept held ≡ drop left want → ⊥) → NeverMeet c (Many run) due
never-run c run due held want kept left a b k l other =
    let low : List Operand = operands (take kept (listed c run.of)) in
    let first : length (drop kept held) ≡ length held - kept = length-drop kept held in
    let second : length (drop left want) ≡ length want - left = length-drop left want in
    let even : length (drop kept held) ≡ length (drop left want) = omega arith in
    λ dead os.
    ap (λ x. pops dead (x ++ os) (run_of c due)) (front-parts (listed c run.of) held run.len kept a (omega arith))
    ∙ ap (pops dead ((operands (drop kept held) ++ low) ++ os)) (front-parts (listed c due.of) want due.len left b (omega arith))
    ∙ ap (λ x. pops dead x (operands (drop left want) ++ operands (take left (listed c due.of)))) (append_assoc (operands (drop kept held)) low os)
    ∙ pops-differ dead (drop kept held) (drop left want) (low ++ os) (operands (take left (listed c due.of))) even other

-- one piece more of the level
reverse-push : (xs : List Piece) (p : Piece) → reverse (xs ++ p ∷ []) ≡ p ∷ reverse xs
reverse-push xs p = reverse-append xs (p ∷ [])

pub level-push : (items : List Piece) (h : ℕ) (p : Piece) → h ≤ length items → reverse (drop h (items ++ p ∷ [])) ≡ p ∷ reverse (drop h items)
level-push items h p le = ap reverse (drop-append-le h items (p ∷ []) le) ∙ reverse-push (drop h items) p

pub level-at : (items : List Piece) (h at : ℕ) (d : Piece) → h ≤ at → at < length items → reverse (drop h (take (at + 1) items)) ≡ get_or items at d ∷ reverse (drop h (take at items))
level-at items h at d low lt =
    ap (λ l. reverse (drop h l)) (take_more items at d lt) ∙ level-push (take at items) h (get_or items at d) (omega (arith, length-take-le at items (omega arith)))

pub level-whole : (items : List Piece) (h n : ℕ) → length items ≤ n → reverse (drop h (take n items)) ≡ reverse (drop h items)
level-whole items h n le = ap (λ l. reverse (drop h l)) (take_all n items le)

pub level-none : (items : List Piece) (h at : ℕ) → at ≤ h → reverse (drop h (take at items)) ≡ []
level-none items h at le = ap reverse (drop_of_length-le (take at items) (omega (arith, length-take at items)))

-- what is due of an empty level
pub pops-short : (dead : Bool) (l : List CoreType) (n : ℕ) (d : CoreType) → 0 < n → n ≤ length l → pops dead [] (operands (take n l)) ≡ cond dead (Some []) None
pops-short dead l n d some le = ap (pops dead []) (operands-take l n d some le) ∙ ends dead (Known (get_or l (n - 1) d)) (operands (take (n - 1) l))
  where
    ends : (dead : Bool) (p : Operand) (ps : List Operand) → pops dead [] (p ∷ ps) ≡ cond dead (Some []) None
    ends true p ps = refl
    ends false p ps = refl

-- one operand due of an empty level
pub pops-empty : (dead : Bool) (old new : List Operand) (due : Operand) → old ≡ [] → new ≡ [] → OnTrue dead ((ps : List Operand) → pops dead old (due ∷ ps) ≡ pops dead new ps)
pops-empty false old new due a b = tt
pops-empty true old new due a b = λ ps. ap (λ l. pops true l (due ∷ ps)) a ∙ sym (ap (λ l. pops true l ps) b ∙ pops-dead ps)

pub pops-lacking : (dead : Bool) (old : List Operand) (due : Operand) → old ≡ [] → OnFalse dead ((ps : List Operand) → pops dead old (due ∷ ps) ≡ None)
pops-lacking true old due a = tt
pops-lacking false old due a = λ ps. ap (λ l. pops false l (due ∷ ps)) a

-- labels of as many types fit where those types can be taken off, or the level ends
pub fits-pops : (l to os : List Operand) → length l ≡ length to → all_below (like l os) to ≡ is_some (pops true os to)
fits-pops [] [] os e = refl
fits-pops [] (t ∷ to) os e = absurd (omega arith)
fits-pops (x ∷ l) [] os e = absurd (omega arith)
fits-pops (x ∷ l) (t ∷ to) [] e = fits-none l to (omega arith)
  where
    fits-none : (l to : List Operand) → length l ≡ length to → all_below (like l []) to ≡ true
    fits-none [] [] e = refl
    fits-none [] (t ∷ to) e = absurd (omega arith)
    fits-none (x ∷ l) [] e = absurd (omega arith)
    fits-none (x ∷ l) (t ∷ to) e = fits-none l to (omega arith)
fits-pops (x ∷ l) (t ∷ to) (o ∷ os) e = go (below o t) (fits-pops l to os (omega arith))
  where
    go : (b : Bool) → all_below (like l os) to ≡ is_some (pops true os to) → (b && all_below (like l os) to) ≡ is_some (cond b (pops true os to) None)
    go true more = more
    go false more = refl
