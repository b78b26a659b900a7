-- The texts that wait, and what each turn costs.
use Rattle.std.proofs.Common.{◌≡◌, ℕ, zero, suc, ◌+◌, ◌-◌, ◌*◌, ◌<◌, ◌≤◌, Bool, true, false, nat_eq, List, [], ◌∷◌, ◌++◌, take, set, get_or, length, Option, Some, None, IfSome, IfNone, refl, sym, ap, ◌∙◌, arith, append_assoc, length-append, cond, suc-mul}
use Rattle.std.proofs.Math.Dec.{eqb-suc-zero}
use Rattle.std.proofs.Math.Nat.{mul-le-mul_right}
use Rattle.std.specs.Borrow.{Bor}
use Rattle.std.proofs.lemmas.List.{append-nil, take_more, take_more_set}
use Rattle.tree_table.specs.declared.entries.Node.{Node}
use Rattle.path_names.specs.Parts.{in_first}
use Rattle.tree_table.specs.Paths.{Answer, Fails, loop, not_permitted, parts_of, is_empty, is_rooted, resolve_parts, follow_link}
use Rattle.tree_table.specs.Turns.{stacked}

-- the parts of what is left of a text
abbrev pub rest_parts : Option (Bor (List ℕ)) → List (List ℕ)
rest_parts None = []
rest_parts (Some rest) = parts_of rest.now

-- there is always a part
pub some_part : (text : List ℕ) → is_empty (parts_of text) ≡ false
some_part [] = refl
some_part (b ∷ text) = by (nat_eq b 47) (parts_of text)
  where
    by : (t : Bool) (parts : List (List ℕ)) → is_empty (cond t ([] ∷ parts) (in_first b parts)) ≡ false
    by true parts = refl
    by false [] = refl
    by false (part ∷ parts) = refl

some_front : (xs ys : List (List ℕ)) → is_empty xs ≡ false → is_empty (xs ++ ys) ≡ false
some_front [] ys h = cc
some_front (x ∷ xs) ys h = refl

some_back : (xs ys : List (List ℕ)) → is_empty ys ≡ false → is_empty (xs ++ ys) ≡ false
some_back [] ys h = h
some_back (x ∷ xs) ys h = refl

-- the parts that are left are the first one and those after it
pub cut : (text part : List ℕ) (rest : Option (Bor (List ℕ))) (later : List (List ℕ)) → IfNone rest (parts_of text ≡ part ∷ []) → IfSome rest (λ r. parts_of text ≡ part ∷ parts_of r.now)
    → parts_of text ++ later ≡ part ∷ (rest_parts rest ++ later)
cut text part None later none some = ap (λ parts. parts ++ later) none
cut text part (Some rest) later none some = ap (λ parts. parts ++ later) some

pub stacked-push : (texts : List (Bor (List ℕ))) (text : Bor (List ℕ)) → stacked (texts ++ text ∷ []) ≡ parts_of text.now ++ stacked texts
stacked-push [] text = sym (append-nil _)
stacked-push (first ∷ texts) text = ap (λ parts. parts ++ parts_of first.now) (stacked-push texts text) ∙ append_assoc (parts_of text.now) (stacked texts) (parts_of first.now)

-- the text that waits last is taken
pub stacked-pop : (waiting : List (Bor (List ℕ))) (depth : ℕ) (d : Bor (List ℕ)) → 0 < depth → depth ≤ length waiting → stacked (take depth waiting) ≡ parts_of (get_or waiting (depth - 1) d).now ++ stacked (take (depth - 1) waiting)
stacked-pop waiting depth d some within =
    let less : depth - 1 + 1 ≡ depth = omega arith in
    ap (λ n. stacked (take n waiting)) (sym less) ∙ ap stacked (take_more waiting (depth - 1) d (omega arith)) ∙ stacked-push (take (depth - 1) waiting) (get_or waiting (depth - 1) d)

-- one more waits
pub stacked-wait : (waiting : List (Bor (List ℕ))) (depth : ℕ) (rest : Bor (List ℕ)) → depth < length waiting → stacked (take (depth + 1) (set waiting depth rest)) ≡ parts_of rest.now ++ stacked (take depth waiting)
stacked-wait waiting depth rest within = ap stacked (take_more_set waiting depth rest within) ∙ stacked-push (take depth waiting) rest

-- whether no part comes after this one
pub last-of : (rest : Option (Bor (List ℕ))) (waiting : List (Bor (List ℕ))) (depth : ℕ) (last : Bool) → depth ≤ length waiting → IfSome rest (λ r. last ≡ false) → IfNone rest (last ≡ nat_eq depth 0) → is_empty (rest_parts rest ++ stacked (take depth waiting)) ≡ last
last-of (Some rest) waiting depth last within some none = some_front (parts_of rest.now) _ (some_part rest.now) ∙ sym some
last-of None waiting zero last within some none = sym none
last-of None (text ∷ waiting) (suc depth) last within some none = some_back (stacked (take depth waiting)) (parts_of text.now) (some_part text.now) ∙ sym (eqb-suc-zero depth) ∙ sym none
last-of None [] (suc depth) last within some none = absurd (omega arith)

-- one part is paid for
pub pay : (part : List ℕ) (left tail : List (List ℕ)) (m digits now next bound : ℕ) → left ≡ part ∷ tail → now + (length left + m) * digits ≤ bound → next ≤ now + digits → next + (length tail + m) * digits ≤ bound
pay part left tail m digits now next bound is owed cost =
    let len : length left + m ≡ suc (length tail + m) = omega (arith, ap length is) in
    let more : (length left + m) * digits ≡ (length tail + m) * digits + digits = ap (λ n. n * digits) len ∙ mul_more (length tail + m) digits in
    omega arith
  where
    mul_more : (n d : ℕ) → suc n * d ≡ n * d + d
    mul_more n d = suc-mul n d

-- what is owed falls where a link is followed
pub owed-link : (target tail : List (List ℕ)) (links longest : ℕ) → links < 40 → length target ≤ longest → length (target ++ tail) + (40 - (links + 1)) * longest ≤ length tail + (40 - links) * longest
owed-link target tail links longest few short =
    let more : 40 - links ≡ suc (40 - (links + 1)) = omega arith in
    let split : (40 - links) * longest ≡ (40 - (links + 1)) * longest + longest = ap (λ n. n * longest) more ∙ suc-mul (40 - (links + 1)) longest in
    omega (arith, length-append target tail)

-- so is the part at a link that is followed
pub pay_link : (tail left : List (List ℕ)) (target : List (List ℕ)) (links longest digits next bound : ℕ) → left ≡ target ++ tail → links < 40 → length target ≤ longest → next + (length tail + (40 - links) * longest) * digits ≤ bound → next + (length left + (40 - (links + 1)) * longest) * digits ≤ bound
pay_link tail left target links longest digits next bound is few short paid =
    let less = owed-link target tail links longest few short in
    let owed : length left + (40 - (links + 1)) * longest ≤ length tail + (40 - links) * longest = omega (arith, ap length is) in
    let times : (length left + (40 - (links + 1)) * longest) * digits ≤ (length tail + (40 - links) * longest) * digits = mul-le-mul_right digits owed in
    omega arith

module _ (look : List (List ℕ) → Option Node) (start : List (List ℕ)) (follow : Bool) where
  pub too_many : (links : ℕ) (below : List (List ℕ)) (target : List ℕ) (tail : List (List ℕ)) → links ≡ 40 → follow_link look start follow (40 - links) below target tail ≡ Fails loop
  too_many links below target tail is = rw is refl

  pub rooted : (links : ℕ) (below : List (List ℕ)) (target : List ℕ) (tail : List (List ℕ)) → links < 40 → is_rooted target ≡ true → follow_link look start follow (40 - links) below target tail ≡ Fails not_permitted
  rooted links below target tail few root =
      let more : 40 - links ≡ suc (40 - (links + 1)) = omega arith in
      rw (more, root) refl

  pub followed : (links : ℕ) (below : List (List ℕ)) (target : List ℕ) (tail : List (List ℕ)) → links < 40 → is_rooted target ≡ false → follow_link look start follow (40 - links) below target tail ≡ resolve_parts look start follow (follow_link look start follow (40 - (links + 1))) below (parts_of target ++ tail)
  followed links below target tail few root =
      let more : 40 - links ≡ suc (40 - (links + 1)) = omega arith in
      rw (more, root) refl

  -- the parts that are left lead to this answer
  abbrev pub Leads : ℕ → List (List ℕ) → List (List ℕ) → Answer → Type 0
  Leads more below left answer = resolve_parts look start follow (follow_link look start follow more) below left ≡ answer

  -- a turn on the first part that is left
  pub turned : (more : ℕ) (text part : List ℕ) (rest : Option (Bor (List ℕ))) (waiting : List (Bor (List ℕ))) (depth : ℕ) (last : Bool) (below : List (List ℕ)) (answer : Answer) → depth ≤ length waiting
      → IfNone rest (parts_of text ≡ part ∷ []) → IfSome rest (λ r. parts_of text ≡ part ∷ parts_of r.now) → IfSome rest (λ r. last ≡ false) → IfNone rest (last ≡ nat_eq depth 0)
      → Leads more below (parts_of text ++ stacked (take depth waiting)) answer
      → (is_empty (rest_parts rest ++ stacked (take depth waiting)) ≡ last) × Leads more below (part ∷ (rest_parts rest ++ stacked (take depth waiting))) answer
  turned more text part rest waiting depth last below answer within none some last_some last_none leads = (
    last-of rest waiting depth last within last_some last_none,
    ap (λ left. resolve_parts look start follow (follow_link look start follow more) below left) (sym (cut text part rest (stacked (take depth waiting)) none some)) ∙ leads,
  )
