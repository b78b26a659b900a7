-- Names that are legal stand alone: they are not empty, and no byte of them is `#`. The names of the exports of a valid component differ.
use Rattle.std.proofs.Common.{◌≡◌, ◌∙◌, ◌⊎◌, inl, inr, refl, sym, ap, subst, ℕ, suc, ◌+◌, ◌==◌, ◌&&◌, ◌||◌, not, List, [], ◌∷◌, ◌++◌, length, take, drop, Bool, true, false, cond, Option, Some, None, arith}
use Rattle.std.specs.Prelude.{nat_lt, nat_le, codes, is_some}
use Rattle.std.specs.Option.{option_map}
use Rattle.std.specs.List.{onto_first, list_all, list_any, slice_split, position_or_len}
use Rattle.std.specs.Str.{bytes_eq}
use Rattle.std.proofs.lemmas.Slice.Eq.{bytes_eq-Decides}
use Rattle.std.proofs.lemmas.Bool.{false≢true, false_from_ne_true}
use Rattle.std.proofs.lemmas.Bool.Decides.{nat_tests}
use Rattle.std.proofs.lemmas.List.{take-append-drop}
use Rattle.wit_types.specs.Plain.{Name}
use Rattle.comp_names.specs.declared.names.Annotation.{Annotation}
use Rattle.comp_names.specs.declared.names.Annotation.TheVariants as annotations
use Rattle.comp_names.specs.Labels.{is_digit, is_lower, is_upper, is_word, words_of, is_label}
use Rattle.comp_names.specs.Names.{cut, behind, resource_of, of_constructor, of_member, annotated, either_of, annotation_of, is_in_version, is_version, is_versioned, is_in_package, is_in_namespace, is_interface, is_legal}
use Rattle.comp_names.specs.Same.{folded, is_same_name}
use Rattle.comp_types.specs.Items.{Item, Entries, End, More, names, and_entry}
use Rattle.comp_interp.specs.Names.{is_hash}
use Rattle.output_same.proofs.Exported.{AllFit}
use Rattle.virt_engine.proofs.Named.{Lacks, StandsAlone, StandAlone, HaveNot, AllDiffer}

-- ---- bytes

both : (a b : Bool) → (a && b) ≡ true → (a ≡ true) × (b ≡ true)
both true b h = (refl, h)
both false b h = absurd cc

either : (a b : Bool) → (a || b) ≡ true → (a ≡ true) ⊎ (b ≡ true)
either true b h = inl refl
either false b h = inr h

no_hash : (b : ℕ) → (b ≡ 35 → ⊥) → is_hash b ≡ false
no_hash b ne = grind (arith, nat_tests, ne)

lower_lacks : (b : ℕ) → is_lower b ≡ true → is_hash b ≡ false
lower_lacks b h = let k = both (nat_le 97 b) (nat_le b 122) h in grind (arith, nat_tests, k.0)

upper_lacks : (b : ℕ) → is_upper b ≡ true → is_hash b ≡ false
upper_lacks b h = let k = both (nat_le 65 b) (nat_le b 90) h in grind (arith, nat_tests, k.0)

digit_lacks : (b : ℕ) → is_digit b ≡ true → is_hash b ≡ false
digit_lacks b h = let k = both (nat_le 48 b) (nat_le b 57) h in grind (arith, nat_tests, k.0)

is_lacks : (b c : ℕ) → is_hash c ≡ false → (b == c) ≡ true → is_hash b ≡ false
is_lacks b c h e = let same : b ≡ c = grind (arith, nat_tests, e) in subst (λ (z : ℕ). is_hash z ≡ false) (sym same) h

version_lacks : (b : ℕ) → is_in_version b ≡ true → is_hash b ≡ false
version_lacks b h = elim (either ((is_lower b || is_upper b) || is_digit b) _ h) [
  | inl k ↦ elim (either (is_lower b || is_upper b) (is_digit b) k) [
    | inl j ↦ elim (either (is_lower b) (is_upper b) j) [ inl i ↦ lower_lacks b i | inr i ↦ upper_lacks b i ]
    | inr j ↦ digit_lacks b j
  ]
  | inr k ↦ elim (either (b == 46) _ k) [
    | inl j ↦ is_lacks b 46 refl j
    | inr j ↦ elim (either (b == 45) (b == 43) j) [ inl i ↦ is_lacks b 45 refl i | inr i ↦ is_lacks b 43 refl i ]
  ]
]

-- ---- texts

all_lack : (Q : ℕ → Bool) → ((b : ℕ) → Q b ≡ true → is_hash b ≡ false) → (xs : Name) → list_all Q xs ≡ true → Lacks xs
all_lack Q f [] h = tt
all_lack Q f (b ∷ xs) h = let k = both (Q b) (list_all Q xs) h in (f b k.0, all_lack Q f xs k.1)

lacks_joined : (a b : Name) → Lacks a → Lacks b → Lacks (a ++ b)
lacks_joined [] b h k = k
lacks_joined (x ∷ a) b h k = (h.0, lacks_joined a b h.1 k)

word_lacks : (w : Name) → is_word w ≡ true → StandsAlone w
word_lacks [] h = absurd cc
word_lacks (c ∷ cs) h = elim (either (is_lower c && list_all (λ b. is_lower b || is_digit b) cs) _ h) [
  | inl k ↦
      let both_parts = both (is_lower c) (list_all (λ b. is_lower b || is_digit b) cs) k in
      (lower_lacks c both_parts.0, all_lack (λ b. is_lower b || is_digit b) (λ b e. elim (either (is_lower b) (is_digit b) e) [ inl i ↦ lower_lacks b i | inr i ↦ digit_lacks b i ]) cs both_parts.1)
  | inr k ↦
      let both_parts = both (is_upper c) (list_all (λ b. is_upper b || is_digit b) cs) k in
      (upper_lacks c both_parts.0, all_lack (λ b. is_upper b || is_digit b) (λ b e. elim (either (is_upper b) (is_digit b) e) [ inl i ↦ upper_lacks b i | inr i ↦ digit_lacks b i ]) cs both_parts.1)
]

alone_lacks : (n : Name) → StandsAlone n → Lacks n
alone_lacks [] h = absurd h
alone_lacks (b ∷ bs) h = h

-- ---- labels: words that `-` joins

abbrev AllLack : List Name → Type 0
AllLack [] = Unit {0}
AllLack (w ∷ ws) = Lacks w × AllLack ws

words_lack : (ws : List Name) → list_all is_word ws ≡ true → AllLack ws
words_lack [] h = tt
words_lack (w ∷ ws) h = let k = both (is_word w) (list_all is_word ws) h in (alone_lacks w (word_lacks w k.0), words_lack ws k.1)

first_lacks : (x : ℕ) (ws : List Name) → AllLack (onto_first x ws) → (is_hash x ≡ false) × AllLack ws
first_lacks x [] h = (h.0.0, tt)
first_lacks x (w ∷ ws) h = (h.0.0, (h.0.1, h.1))

parts_lack : (xs : Name) → AllLack (slice_split (λ b. b == 45) xs) → Lacks xs
parts_lack [] h = tt
parts_lack (x ∷ xs) h = at (x == 45) refl h (λ k. parts_lack xs k)
  where
    at : (t : Bool) → (x == 45) ≡ t → AllLack (cond t ([] ∷ slice_split (λ b. b == 45) xs) (onto_first x (slice_split (λ b. b == 45) xs))) → (AllLack (slice_split (λ b. b == 45) xs) → Lacks xs) → Lacks (x ∷ xs)
    at true e k rest = (is_lacks x 45 refl e, rest k.1)
    at false e k rest = let both_parts = first_lacks x (slice_split (λ b. b == 45) xs) k in (both_parts.0, rest both_parts.1)

label_lacks : (n : Name) → is_label n ≡ true → Lacks n
label_lacks n h = parts_lack n (words_lack (words_of n) h)

-- ---- parts of a text around a byte

cut_lacks : (byte : ℕ) → is_hash byte ≡ false → (xs : Name) → Lacks (take (position_or_len (λ b. b == byte) xs) xs) → Lacks (drop (position_or_len (λ b. b == byte) xs + 1) xs) → Lacks xs
cut_lacks byte none [] = λ h k. tt
cut_lacks byte none (x ∷ xs) = at (x == byte) refl (cut_lacks byte none xs)
  where
    at : (t : Bool) → (x == byte) ≡ t → (Lacks (take (position_or_len (λ b. b == byte) xs) xs) → Lacks (drop (position_or_len (λ b. b == byte) xs + 1) xs) → Lacks xs)
        → Lacks (take (cond (not t) (1 + position_or_len (λ b. b == byte) xs) 0) (x ∷ xs)) → Lacks (drop (cond (not t) (1 + position_or_len (λ b. b == byte) xs) 0 + 1) (x ∷ xs)) → Lacks (x ∷ xs)
    at true e rest h k = (is_lacks x byte none e, k)
    at false e rest h k =
        let p : ℕ = position_or_len (λ b. b == byte) xs in
        let one : 1 + p ≡ suc p = omega arith in
        let two : (1 + p) + 1 ≡ suc (p + 1) = omega arith in
        let front : Lacks (take (suc p) (x ∷ xs)) = subst (λ (z : ℕ). Lacks (take z (x ∷ xs))) one h in
        (front.0, rest front.1 (subst (λ (z : ℕ). Lacks (drop z (x ∷ xs))) two k))

found_is : {A : Type 0} → (f : ℕ → A) (b : Bool) (i : ℕ) (p : A) → option_map f (cond b (Some i) None) ≡ Some p → f i ≡ p
found_is f true i p h = cc
found_is f false i p h = absurd cc

-- a text is without `#` where its two parts are
joined_lacks : (byte : ℕ) (text : Name) (p : Name × Name) → is_hash byte ≡ false → cut byte text ≡ Some p → Lacks p.0 → Lacks p.1 → Lacks text
joined_lacks byte text p none e h k =
    let place : ℕ = position_or_len (λ b. b == byte) text in
    let is : (take place text, drop (place + 1) text) ≡ p = found_is (λ i. (take i text, drop (i + 1) text)) (nat_lt place (length text)) place p e in
    cut_lacks byte none text (subst (λ (z : Name × Name). Lacks z.0) (sym is) h) (subst (λ (z : Name × Name). Lacks z.1) (sym is) k)

-- ---- interfaces

versioned_lacks : (text : Name) (o : Option (Name × Name)) → cut 64 text ≡ o → is_versioned text o ≡ true → Lacks text
versioned_lacks text None e h = label_lacks text h
versioned_lacks text (Some p) e h =
    let k = both (is_label p.0) (is_version p.1) h in
    let v = both (not (length p.1 == 0)) (list_all is_in_version p.1) k.1 in
    joined_lacks 64 text p refl e (label_lacks p.0 k.0) (all_lack is_in_version version_lacks p.1 v.1)

package_lacks : (text : Name) (o : Option (Name × Name)) → cut 47 text ≡ o → is_in_package o ≡ true → Lacks text
package_lacks text None e h = absurd cc
package_lacks text (Some p) e h = let k = both (is_label p.0) (is_versioned p.1 (cut 64 p.1)) h in joined_lacks 47 text p refl e (label_lacks p.0 k.0) (versioned_lacks p.1 (cut 64 p.1) refl k.1)

namespace_lacks : (text : Name) (o : Option (Name × Name)) → cut 58 text ≡ o → is_in_namespace o ≡ true → Lacks text
namespace_lacks text None e h = absurd cc
namespace_lacks text (Some p) e h = let k = both (is_label p.0) (is_in_package (cut 47 p.1)) h in joined_lacks 58 text p refl e (label_lacks p.0 k.0) (package_lacks p.1 (cut 47 p.1) refl k.1)

-- ---- annotated names

behind_lacks : (prefix text : Name) → list_all (λ b. not (is_hash b)) prefix ≡ true → (o : Option Name) → behind prefix text ≡ o → ((rest : Name) → o ≡ Some rest → Lacks rest) → is_some o ≡ true → Lacks text
behind_lacks prefix text plain None e f h = absurd cc
behind_lacks prefix text plain (Some rest) e f h = at (bytes_eq (take (length prefix) text) prefix) refl e
  where
    turned : (b : ℕ) → not (is_hash b) ≡ true → is_hash b ≡ false
    turned b k = false_from_ne_true (is_hash b) (λ t. false≢true (ap not (sym t) ∙ k))

    at : (t : Bool) → bytes_eq (take (length prefix) text) prefix ≡ t → cond t (Some (drop (length prefix) text)) None ≡ Some rest → Lacks text
    at true same is =
        let front : take (length prefix) text ≡ prefix = (bytes_eq-Decides (take (length prefix) text) prefix).0 same in
        let back : drop (length prefix) text ≡ rest = cc in
        let first : Lacks (take (length prefix) text) = subst Lacks (sym front) (all_lack (λ b. not (is_hash b)) turned prefix plain) in
        subst Lacks (take-append-drop (length prefix) text) (lacks_joined (take (length prefix) text) (drop (length prefix) text) first (subst Lacks (sym back) (f rest refl)))
    at false same is = absurd cc

label_there : (b : Bool) (n : Name) → is_some (cond b (Some n) None) ≡ true → b ≡ true
label_there true n h = refl
label_there false n h = absurd cc

constructor_lacks : (o : Option Name) → is_some (of_constructor o) ≡ true → (is_some o ≡ true) × ((rest : Name) → o ≡ Some rest → Lacks rest)
constructor_lacks None h = absurd cc
constructor_lacks (Some rest) h = (refl, λ r e. let same : rest ≡ r = cc in subst Lacks same (label_lacks rest (label_there (is_label rest) rest h)))

resource_lacks : (rest : Name) (o : Option (Name × Name)) → cut 46 rest ≡ o → is_some (resource_of o) ≡ true → Lacks rest
resource_lacks rest None e h = absurd cc
resource_lacks rest (Some p) e h =
    let k = both (is_label p.0) (is_label p.1) (label_there (is_label p.0 && is_label p.1) p.0 h) in
    joined_lacks 46 rest p refl e (label_lacks p.0 k.0) (label_lacks p.1 k.1)

member_lacks : (o : Option Name) → is_some (of_member o) ≡ true → (is_some o ≡ true) × ((rest : Name) → o ≡ Some rest → Lacks rest)
member_lacks None h = absurd cc
member_lacks (Some rest) h = (refl, λ r e. let same : rest ≡ r = cc in subst Lacks same (resource_lacks rest (cut 46 rest) refl h))

annotated_some : (a : Annotation) (o : Option Name) → is_some (annotated a o) ≡ true → is_some o ≡ true
annotated_some a None h = absurd cc
annotated_some a (Some label) h = refl

either_some : (a b : Option (Annotation × Name)) → is_some (either_of a b) ≡ true → (is_some a ≡ true) ⊎ (is_some b ≡ true)
either_some None b h = inr h
either_some (Some a) b h = inl refl

of_prefix : (prefix text : Name) → list_all (λ b. not (is_hash b)) prefix ≡ true → (is_some (behind prefix text) ≡ true) × ((rest : Name) → behind prefix text ≡ Some rest → Lacks rest) → Lacks text
of_prefix prefix text plain h = behind_lacks prefix text plain (behind prefix text) refl h.1 h.0

annotation_lacks : (n : Name) → is_some (annotation_of n) ≡ true → Lacks n
annotation_lacks n h = elim (either_some (annotated annotations.Constructor (of_constructor (behind (codes "[constructor]") n))) _ h) [
  | inl k ↦ of_prefix (codes "[constructor]") n refl (constructor_lacks (behind (codes "[constructor]") n) (annotated_some annotations.Constructor (of_constructor (behind (codes "[constructor]") n)) k))
  | inr k ↦ elim (either_some (annotated annotations.Method (of_member (behind (codes "[method]") n))) _ k) [
    | inl j ↦ of_prefix (codes "[method]") n refl (member_lacks (behind (codes "[method]") n) (annotated_some annotations.Method (of_member (behind (codes "[method]") n)) j))
    | inr j ↦ of_prefix (codes "[static]") n refl (member_lacks (behind (codes "[static]") n) (annotated_some annotations.Static (of_member (behind (codes "[static]") n)) j))
  ]
]

legal_lacks : (n : Name) → is_legal n ≡ true → Lacks n
legal_lacks n h = elim (either (is_label n) (is_some (annotation_of n) || is_interface n) h) [
  | inl k ↦ label_lacks n k
  | inr k ↦ elim (either (is_some (annotation_of n)) (is_interface n) k) [ inl j ↦ annotation_lacks n j | inr j ↦ namespace_lacks n (cut 58 n) refl j ]
]

legal_alone : (n : Name) → is_legal n ≡ true → StandsAlone n
legal_alone [] h = absurd (false≢true h)
legal_alone (b ∷ bs) h = legal_lacks (b ∷ bs) h

-- ---- exports

abbrev Among : Name → Entries → Type 0
Among x End = ⊥
Among x (More name item rest) = (name ≡ x) ⊎ Among x rest

among_more : (x : Name) (es : Entries) (name : Name) (item : Item) → Among x es → Among x (and_entry es name item)
among_more x End name item h = absurd h
among_more x (More n i rest) name item (inl h) = inl h
among_more x (More n i rest) name item (inr h) = inr (among_more x rest name item h)

among_last : (es : Entries) (name : Name) (item : Item) → Among name (and_entry es name item)
among_last End name item = inl refl
among_last (More n i rest) name item = inr (among_last rest name item)

neither_of : (a b : Bool) → not (a || b) ≡ true → (a ≡ false) × (not b ≡ true)
neither_of true b h = absurd cc
neither_of false b h = (refl, h)

new_differs : (x m : Name) (before : Entries) → Among x before → not (list_any (is_same_name m) (names before)) ≡ true → bytes_eq m x ≡ false
new_differs x m End among h = absurd among
new_differs x m (More n i rest) (inl is) h =
    let k = neither_of (is_same_name m n) (list_any (is_same_name m) (names rest)) h in
    false_from_ne_true (bytes_eq m x) (λ e.
    let same : m ≡ n = (bytes_eq-Decides m x).0 e ∙ sym is in
    false≢true (sym k.0 ∙ (bytes_eq-Decides (folded m) (folded n)).1 (ap folded same)))
new_differs x m (More n i rest) (inr later) h = new_differs x m rest later (neither_of (is_same_name m n) (list_any (is_same_name m) (names rest)) h).1

later_differ : (x : Name) (before es : Entries) → Among x before → AllFit before es → HaveNot x es
later_differ x before End among h = tt
later_differ x before (More m item rest) among h = (new_differs x m before among h.0.new, later_differ x (and_entry before m item) rest (among_more x before m item among) h.1)

pub fitting_differ : (before es : Entries) → AllFit before es → AllDiffer es
fitting_differ before End h = tt
fitting_differ before (More m item rest) h = (later_differ m (and_entry before m item) rest (among_last before m item) h.1, fitting_differ (and_entry before m item) rest h.1)

pub fitting_alone : (before es : Entries) → AllFit before es → StandAlone es
fitting_alone before End h = tt
fitting_alone before (More m item rest) h = (legal_alone m h.0.legal, fitting_alone (and_entry before m item) rest h.1)
