-- Two types that matched with some pairs match again with these pairs, and with more: no pair is added then. So what met once need
-- not be walked again.
use Rattle.std.proofs.Common.{◌≡◌, ◌∙◌, ap, refl, sym, append_assoc, ℕ, List, [], ◌∷◌, ◌++◌, Bool, true, false, Option, Some, None, cond, nat_eq}
use Rattle.std.specs.Prelude.{◌||◌}
use Rattle.std.specs.Cmp.Lexicographic.{pointwise}
use Rattle.std.proofs.lemmas.Bool.{false≢true}
use Rattle.std.proofs.lemmas.Slice.Eq.{bytes_eq-Decides}
use Rattle.wit_types.specs.Plain.{Name, Width, OneByte, TwoBytes, FourBytes, EightBytes, RecordForm, AsRecord, AsTuple, VariantForm, AsVariant, AsEnum, AsOption, AsResult, Plain, Parts, BoolType, SignedType, UnsignedType, CharType, StringType, ListType, RecordType, VariantType, FlagsType, OwnType, BorrowType, End, More, Bare}
use Rattle.comp_facts.specs.Handles.{has_handle, has_handle_in}
use Rattle.comp_types.specs.Items.{same_name}
use Rattle.comp_types.specs.Substitution.{partner_of}
use Rattle.comp_types.specs.Matching.{Pairs, meet_at, meet, onward, only_if, same_width, same_record_form, same_variant_form, matched_value, matched_parts}
use Rattle.comp_types.proofs.MeetLaws.{came_from, held, is_same, Grows, grows-then, found-behind, same_number, met}

-- ---- pairs only go after the others

abbrev pub Behind : Pairs → Pairs → Type 0
Behind by more = (rest : Pairs) × (more ≡ by ++ rest)

nothing-behind : (by : Pairs) → by ++ [] ≡ by
nothing-behind [] = refl
nothing-behind (p ∷ by) = ap (λ ps. p ∷ ps) (nothing-behind by)

pub behind-same : (by more : Pairs) → by ≡ more → Behind by more
behind-same by more e = ([], sym e ∙ sym (nothing-behind by))

pub behind-then : (by mid more : Pairs) → Behind by mid → Behind mid more → Behind by more
behind-then by mid more g h = (g.0 ++ h.0, h.1 ∙ (ap (λ ps. ps ++ h.0) g.1 ∙ append_assoc by g.0 h.0))

pub behind-grows : (by more : Pairs) → Behind by more → Grows by more
behind-grows by more g = λ y x e. rw g.1 (found-behind by g.0 y x e)

one_behind : (by more : Pairs) (y x : ℕ) (o : Option ℕ) → meet_at by y x o ≡ Some more → Behind by more
one_behind by more y x None e = ((y, x) ∷ [], sym (is_same (by ++ (y, x) ∷ []) more e))
one_behind by more y x (Some z) e = behind-same by more (same_at (nat_eq z x) e)
  where
    same_at : (b : Bool) → cond b (Some by) None ≡ Some more → by ≡ more
    same_at true e = cc
    same_at false e = cc

pub meet-behind : (by more : Pairs) (y x : ℕ) → meet by y x ≡ Some more → Behind by more
meet-behind by more y x e = one_behind by more y x (partner_of by y) e

mutual
  pub value-behind : (by more : Pairs) (a b : Plain) → matched_value by a b ≡ Some more → Behind by more
  value-behind by more BoolType BoolType e = behind-same by more (is_same by more e)
  value-behind by more (SignedType v) (SignedType w) e = behind-same by more (is_same by more (held _ _ more e).1)
  value-behind by more (UnsignedType v) (UnsignedType w) e = behind-same by more (is_same by more (held _ _ more e).1)
  value-behind by more CharType CharType e = behind-same by more (is_same by more e)
  value-behind by more StringType StringType e = behind-same by more (is_same by more e)
  value-behind by more (ListType a) (ListType b) e = value-behind by more a b e
  value-behind by more (RecordType f ps) (RecordType k qs) e = parts-behind by more ps qs (held _ _ more e).1
  value-behind by more (VariantType f ps) (VariantType k qs) e = parts-behind by more ps qs (held _ _ more e).1
  value-behind by more (FlagsType ls) (FlagsType ks) e = behind-same by more (is_same by more (held _ _ more e).1)
  value-behind by more (OwnType x) (OwnType y) e = meet-behind by more y x e
  value-behind by more (BorrowType x) (BorrowType y) e = meet-behind by more y x e
  value-behind by more _ _ e = cc

  pub parts-behind : (by more : Pairs) (ps qs : Parts) → matched_parts by ps qs ≡ Some more → Behind by more
  parts-behind by more End End e = behind-same by more (is_same by more e)
  parts-behind by more (More m a ps) (More n b qs) e =
      let c = came_from _ _ more (held _ _ more e).1 in
      behind-then by c.0 more (value-behind by c.0 a b c.1) (parts-behind c.0 more ps qs c.2)
  parts-behind by more (Bare m ps) (Bare n qs) e = parts-behind by more ps qs (held _ _ more e).1
  parts-behind by more _ _ e = cc

-- ---- what matched matches again

pub if_true : (b : Bool) (o : Option Pairs) → b ≡ true → only_if b o ≡ o
if_true b o h = rw h refl

pub after : (f : Pairs → Option Pairs) (o : Option Pairs) (by : Pairs) → o ≡ Some by → onward f o ≡ f by
after f o by e = ap (onward f) e

pub meet-again : (by out more : Pairs) (y x : ℕ) → meet by y x ≡ Some out → Grows out more → meet more y x ≡ Some more
meet-again by out more y x e g =
    ap (meet_at more y x) (g y x (met by out y x e).1) ∙ ap (λ b. cond b (Some more) None) (same_number x)

mutual
  pub value-again : (by out more : Pairs) (a b : Plain) → matched_value by a b ≡ Some out → Grows out more → matched_value more a b ≡ Some more
  value-again by out more BoolType BoolType e g = refl
  value-again by out more (SignedType v) (SignedType w) e g = if_true (same_width v w) (Some more) (held _ _ out e).0
  value-again by out more (UnsignedType v) (UnsignedType w) e g = if_true (same_width v w) (Some more) (held _ _ out e).0
  value-again by out more CharType CharType e g = refl
  value-again by out more StringType StringType e g = refl
  value-again by out more (ListType a) (ListType b) e g = value-again by out more a b e g
  value-again by out more (RecordType f ps) (RecordType k qs) e g =
      let h = held _ _ out e in if_true (same_record_form f k) (matched_parts more ps qs) h.0 ∙ parts-again by out more ps qs h.1 g
  value-again by out more (VariantType f ps) (VariantType k qs) e g =
      let h = held _ _ out e in if_true (same_variant_form f k) (matched_parts more ps qs) h.0 ∙ parts-again by out more ps qs h.1 g
  value-again by out more (FlagsType ls) (FlagsType ks) e g = if_true (pointwise same_name ls ks) (Some more) (held _ _ out e).0
  value-again by out more (OwnType x) (OwnType y) e g = meet-again by out more y x e g
  value-again by out more (BorrowType x) (BorrowType y) e g = meet-again by out more y x e g
  value-again by out more _ _ e g = cc

  pub parts-again : (by out more : Pairs) (ps qs : Parts) → matched_parts by ps qs ≡ Some out → Grows out more → matched_parts more ps qs ≡ Some more
  parts-again by out more End End e g = refl
  parts-again by out more (More m a ps) (More n b qs) e g =
      let h = held _ _ out e in
      let c = came_from _ _ out h.1 in
      let first = value-again by c.0 more a b c.1 (grows-then c.0 out more (behind-grows c.0 out (parts-behind c.0 out ps qs c.2)) g) in
      if_true (same_name m n) (onward (λ mid. matched_parts mid ps qs) (matched_value more a b)) h.0
      ∙ (after (λ mid. matched_parts mid ps qs) (matched_value more a b) more first ∙ parts-again c.0 out more ps qs c.2 g)
  parts-again by out more (Bare m ps) (Bare n qs) e g =
      let h = held _ _ out e in if_true (same_name m n) (matched_parts more ps qs) h.0 ∙ parts-again by out more ps qs h.1 g
  parts-again by out more _ _ e g = cc

-- ---- a type without handles matches itself, and no pair is added

width-itself : (w : Width) → same_width w w ≡ true
width-itself OneByte = refl
width-itself TwoBytes = refl
width-itself FourBytes = refl
width-itself EightBytes = refl

record-itself : (f : RecordForm) → same_record_form f f ≡ true
record-itself AsRecord = refl
record-itself AsTuple = refl

variant-itself : (f : VariantForm) → same_variant_form f f ≡ true
variant-itself AsVariant = refl
variant-itself AsEnum = refl
variant-itself AsOption = refl
variant-itself AsResult = refl

name-itself : (n : Name) → same_name n n ≡ true
name-itself n = (bytes_eq-Decides n n).1 refl

labels-itself : (ls : List Name) → pointwise same_name ls ls ≡ true
labels-itself [] = refl
labels-itself (l ∷ ls) = rw (name-itself l) (labels-itself ls)

neither : (a b : Bool) → (a || b) ≡ false → (a ≡ false) × (b ≡ false)
neither true b h = absurd (false≢true (sym h))
neither false b h = (refl, h)

mutual
  pub value-itself : (by : Pairs) (a : Plain) → has_handle a ≡ false → matched_value by a a ≡ Some by
  value-itself by BoolType h = refl
  value-itself by (SignedType w) h = if_true (same_width w w) (Some by) (width-itself w)
  value-itself by (UnsignedType w) h = if_true (same_width w w) (Some by) (width-itself w)
  value-itself by CharType h = refl
  value-itself by StringType h = refl
  value-itself by (ListType a) h = value-itself by a h
  value-itself by (RecordType f ps) h = if_true (same_record_form f f) (matched_parts by ps ps) (record-itself f) ∙ parts-itself by ps h
  value-itself by (VariantType f ps) h = if_true (same_variant_form f f) (matched_parts by ps ps) (variant-itself f) ∙ parts-itself by ps h
  value-itself by (FlagsType ls) h = if_true (pointwise same_name ls ls) (Some by) (labels-itself ls)
  value-itself by (OwnType r) h = absurd (false≢true (sym h))
  value-itself by (BorrowType r) h = absurd (false≢true (sym h))

  pub parts-itself : (by : Pairs) (ps : Parts) → has_handle_in ps ≡ false → matched_parts by ps ps ≡ Some by
  parts-itself by End h = refl
  parts-itself by (More n a ps) h =
      let each = neither (has_handle a) (has_handle_in ps) h in
      if_true (same_name n n) (onward (λ mid. matched_parts mid ps ps) (matched_value by a a)) (name-itself n)
      ∙ (after (λ mid. matched_parts mid ps ps) (matched_value by a a) by (value-itself by a each.0) ∙ parts-itself by ps each.1)
  parts-itself by (Bare n ps) h = if_true (same_name n n) (matched_parts by ps ps) (name-itself n) ∙ parts-itself by ps h
