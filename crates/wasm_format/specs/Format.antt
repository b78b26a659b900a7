-- How values are spelled in bytes. A format is said once; from it come the spellings of a value, what is read, and what is written.
use Rattle.std.specs.Prelude.{◌≡◌, ℕ, zero, suc, ◌+◌, ◌-◌, ◌<◌, ◌^◌, Bool, true, false, List, [], ◌∷◌, ◌++◌, length, take, drop, Result, Ok, Err, nat_lt, nat_le, ◌&&◌, ◌==◌, if◌then◌else◌}
use Rattle.std.specs.List.{AllByRecursion}
use Rattle.std.specs.Str.{is_utf8}
use Rattle.virt_base.specs.declared.leb.LebFault.{LebFault}
use Rattle.virt_base.specs.Place.{Place}
use Rattle.virt_base.specs.Leb.{IsUnsigned, unsigned_at, shortest_unsigned}
use Rattle.wasm_format.specs.declared.stop.Stop.{Stop}
use Rattle.wasm_format.specs.declared.stop.Stop.TheVariants.{Malformed, Unsupported}

pub record Format (A : Type 0) : Type 1 where
  -- the bytes, which stand at this offset, are a spelling of the value
  pub Spells : ℕ → A → List ℕ → Type 0
  -- the value at a place, and the place after it, or where reading stops
  pub read : Place → Result (A × Place) Stop
  -- the value may be written
  pub Fits : A → Type 0
  -- the spelling that is written
  pub write : A → List ℕ

abbrev pub AreBytes : List ℕ → Type 0
AreBytes text = AllByRecursion (λ b. b < 256) text

infixl 10 ◌>>=◌
abbrev pub ◌>>=◌ : {A B : Type 0} → Result A Stop → (A → Result B Stop) → Result B Stop
(Ok x) >>= f = f x
(Err e) >>= f = Err e

-- ---- one byte that chooses a form

abbrev pub choose : {A : Type 0} → Bool → Format A → Format A → Format A
choose true F G = F
choose false F G = G

-- no form: the byte before is a tag that the table lacks
abbrev pub lacking : {A : Type 0} → ℕ → Format A
lacking tag = record { Spells = λ at a text. ⊥; read = λ p. Err (Unsupported (p.at - 1) tag); Fits = λ a. ⊥; write = λ a. [] }

-- no form, of a tag that the table has
abbrev pub misplaced : {A : Type 0} → Format A
misplaced = record { Spells = λ at a text. ⊥; read = λ p. Err Malformed; Fits = λ a. ⊥; write = λ a. [] }

abbrev pub TaggedSpells : {A : Type 0} → (ℕ → Format A) → ℕ → A → List ℕ → Type 0
TaggedSpells form at a [] = ⊥
TaggedSpells form at a (b ∷ text) = (form b).Spells (at + 1) a text

abbrev pub read_tagged : {A : Type 0} → (ℕ → Format A) → ℕ → List ℕ → Result (A × Place) Stop
read_tagged form at [] = Err Malformed
read_tagged form at (b ∷ rest) = (form b).read (record { at = at + 1; rest = rest })

-- a byte, and the form that it chooses
abbrev pub tagged : {A : Type 0} → (A → ℕ) → (ℕ → Format A) → Format A
tagged tag form = record {
  Spells = TaggedSpells form;
  read = λ p. read_tagged form p.at p.rest;
  Fits = λ a. (form (tag a)).Fits a;
  write = λ a. tag a ∷ (form (tag a)).write a;
}

-- ---- a first byte that chooses and is not taken

abbrev pub PeekedSpells : {A : Type 0} → (ℕ → Bool) → Format A → Format A → ℕ → A → List ℕ → Type 0
PeekedSpells test F G at a [] = ⊥
PeekedSpells test F G at a (b ∷ text) = (choose (test b) F G).Spells at a (b ∷ text)

abbrev pub read_peeked : {A : Type 0} → (ℕ → Bool) → Format A → Format A → ℕ → List ℕ → Result (A × Place) Stop
read_peeked test F G at [] = Err Malformed
read_peeked test F G at (b ∷ rest) = (choose (test b) F G).read (record { at = at; rest = b ∷ rest })

-- the test of the first byte has this outcome
abbrev pub Begins : (ℕ → Bool) → Bool → List ℕ → Type 0
Begins test outcome [] = ⊥
Begins test outcome (b ∷ text) = test b ≡ outcome

-- one form where the first byte passes a test, and else the other; is_first says of a value which one it is written in
abbrev pub peeked : {A : Type 0} → (ℕ → Bool) → (A → Bool) → Format A → Format A → Format A
peeked test is_first F G = record {
  Spells = PeekedSpells test F G;
  read = λ p. read_peeked test F G p.at p.rest;
  Fits = λ a. (choose (is_first a) F G).Fits a × Begins test (is_first a) ((choose (is_first a) F G).write a);
  write = λ a. (choose (is_first a) F G).write a;
}

-- Where a tag or a number may stand, a first byte from 40 to 7F is the tag.
abbrev pub is_tag_byte : ℕ → Bool
is_tag_byte b = nat_le 0x40 b && nat_lt b 0x80

abbrev pub tag_or : {A : Type 0} → (A → Bool) → Format A → Format A → Format A
tag_or has_tag tags number = peeked is_tag_byte has_tag tags number

-- ---- bytes that are always the same

abbrev pub read_literal : {A : Type 0} → List ℕ → A → ℕ → List ℕ → Result (A × Place) Stop
read_literal [] v at rest = Ok (v, record { at = at; rest = rest })
read_literal (t ∷ tags) v at [] = Err Malformed
read_literal (t ∷ tags) v at (b ∷ rest) = if b == t then read_literal tags v (at + 1) rest else Err (Unsupported at b)

-- these bytes, which stand for v: each is a tag, and no other byte is in its table
abbrev pub literal : {A : Type 0} → List ℕ → A → Format A
literal tags v = record {
  Spells = λ at a text. (a ≡ v) × (text ≡ tags);
  read = λ p. read_literal tags v p.at p.rest;
  Fits = λ a. a ≡ v;
  write = λ a. tags;
}

abbrev pub read_fixed : {A : Type 0} → List ℕ → A → ℕ → List ℕ → Result (A × Place) Stop
read_fixed [] v at rest = Ok (v, record { at = at; rest = rest })
read_fixed (t ∷ bytes) v at [] = Err Malformed
read_fixed (t ∷ bytes) v at (b ∷ rest) = if b == t then read_fixed bytes v (at + 1) rest else Err Malformed

-- these bytes, which stand for v and are no tags
abbrev pub fixed : {A : Type 0} → List ℕ → A → Format A
fixed bytes v = record {
  Spells = λ at a text. (a ≡ v) × (text ≡ bytes);
  read = λ p. read_fixed bytes v p.at p.rest;
  Fits = λ a. a ≡ v;
  write = λ a. bytes;
}

-- ---- composition

-- nothing, which stands for v
abbrev pub value : {A : Type 0} → A → Format A
value v = record { Spells = λ at a text. (a ≡ v) × (text ≡ []); read = λ p. Ok (v, p); Fits = λ a. a ≡ v; write = λ a. [] }

-- one after the other
abbrev pub both : {A B : Type 0} → Format A → Format B → Format (A × B)
both F G = record {
  Spells = λ at a text. (x y : List ℕ) × F.Spells at a.0 x × G.Spells (at + length x) a.1 y × (text ≡ x ++ y);
  read = λ p. F.read p >>= λ a. G.read a.1 >>= λ b. Ok ((a.0, b.0), b.1);
  Fits = λ a. F.Fits a.0 × G.Fits a.1;
  write = λ a. F.write a.0 ++ G.write a.1;
}

-- the values that to makes of those of F
abbrev pub image : {A B : Type 0} → (A → B) → (B → A) → Format A → Format B
image to from F = record {
  Spells = λ at b text. (a : _) × (b ≡ to a) × F.Spells at a text;
  read = λ p. F.read p >>= λ a. Ok (to a.0, a.1);
  Fits = λ b. (b ≡ to (from b)) × F.Fits (from b);
  write = λ b. F.write (from b);
}

-- The value, and the part of the input where its bytes stand, from one offset up to another, as one value that put makes. It is
-- read, and not written: who writes it copies the bytes of that part.
abbrev pub spanned : {A B : Type 0} → (ℕ → ℕ → A → B) → Format A → Format B
spanned put F = record {
  Spells = λ at b text. (a : _) × (b ≡ put at (at + length text) a) × F.Spells at a text;
  read = λ p. F.read p >>= λ a. Ok (put p.at a.1.at a.0, a.1);
  Fits = λ b. ⊥;
  write = λ b. [];
}

-- tags, and a value after them
abbrev pub behind : {A : Type 0} → List ℕ → Format A → Format A
behind tags F = image (λ p. p.1) (λ a. (tt, a)) (both (literal {A = Unit {0}} tags tt) F)

-- a value, and tags after it
abbrev pub closed_by : {A : Type 0} → List ℕ → Format A → Format A
closed_by tags F = image (λ p. p.0) (λ a. (a, tt)) (both F (literal {A = Unit {0}} tags tt))

abbrev pub read_checked : {A : Type 0} → (A → Bool) → A × Place → Result (A × Place) Stop
read_checked test a = if test a.0 then Ok a else Err Malformed

-- the values that pass a test
abbrev pub checked : {A : Type 0} → (A → Bool) → Format A → Format A
checked test F = record {
  Spells = λ at a text. (test a ≡ true) × F.Spells at a text;
  read = λ p. F.read p >>= read_checked test;
  Fits = λ a. (test a ≡ true) × F.Fits a;
  write = F.write;
}

-- ---- counts and lists

abbrev pub number_of : {X : Type 0} → Result (X × Place) LebFault → Result (X × Place) Stop
number_of (Ok n) = Ok n
number_of (Err e) = Err Malformed

-- an unsigned number of 32 bits
unfoldable pub u32_format : Format ℕ
u32_format = record { Spells = λ at. IsUnsigned (2 ^ 32); read = λ p. number_of (unsigned_at (2 ^ 32) p.at p.rest); Fits = λ n. n < 2 ^ 32; write = shortest_unsigned 4 }

abbrev pub ItemsSpell : {A : Type 0} → Format A → ℕ → List A → List ℕ → Type 0
ItemsSpell F at [] text = text ≡ []
ItemsSpell F at (a ∷ items) text = (x y : List ℕ) × F.Spells at a x × ItemsSpell F (at + length x) items y × (text ≡ x ++ y)

unfoldable pub read_items : {A : Type 0} → Format A → ℕ → Place → Result (List A × Place) Stop
read_items F zero p = Ok ([], p)
read_items F (suc n) p = F.read p >>= λ a. read_items F n a.1 >>= λ items. Ok (a.0 ∷ items.0, items.1)

abbrev pub write_items : {A : Type 0} → Format A → List A → List ℕ
write_items F [] = []
write_items F (a ∷ items) = F.write a ++ write_items F items

-- a count, and that many items
abbrev pub vec : {A : Type 0} → Format A → Format (List A)
vec F = record {
  Spells = λ at items text. (x y : List ℕ) × u32_format.Spells at (length items) x × ItemsSpell F (at + length x) items y × (text ≡ x ++ y);
  read = λ p. u32_format.read p >>= λ n. read_items F n.0 n.1;
  Fits = λ items. (length items < 2 ^ 32) × AllByRecursion F.Fits items;
  write = λ items. u32_format.write (length items) ++ write_items F items;
}

-- the same of a list whose count is known before it is read
abbrev pub vec_of : {A : Type 0} → ℕ → Format A → Format (List A)
vec_of count F = record {
  Spells = λ at items text. (length items ≡ count) × (vec F).Spells at items text;
  read = λ p. u32_format.read p >>= λ n. if n.0 == count then read_items F n.0 n.1 else Err Malformed;
  Fits = λ items. (length items ≡ count) × (vec F).Fits items;
  write = (vec F).write;
}

-- ---- content of a stated size

-- what follows a size: content that ends where the size says
abbrev pub whole : {A : Type 0} → ℕ → List ℕ → A × Place → Result (A × Place) Stop
whole end after a = if length a.1.rest == 0 then Ok (a.0, record { at = end; rest = after }) else Err Malformed

abbrev pub read_within : {A : Type 0} → Format A → ℕ → Place → Result (A × Place) Stop
read_within F size p =
    if nat_lt (length p.rest) size then Err Malformed
    else (F.read (record { at = p.at; rest = take size p.rest }) >>= λ a. whole (p.at + size) (drop size p.rest) a)

-- a size, and content that fills it
abbrev pub sized : {A : Type 0} → Format A → Format A
sized F = record {
  Spells = λ at a text. (x y : List ℕ) × u32_format.Spells at (length y) x × F.Spells (at + length x) a y × (text ≡ x ++ y);
  read = λ p. u32_format.read p >>= λ n. read_within F n.0 n.1;
  Fits = λ a. (length (F.write a) < 2 ^ 32) × F.Fits a;
  write = λ a. u32_format.write (length (F.write a)) ++ F.write a;
}

-- any bytes, to the end
abbrev pub anything : Format (List ℕ)
anything = record {
  Spells = λ at a text. text ≡ a;
  read = λ p. Ok (p.rest, record { at = p.at + length p.rest; rest = [] });
  Fits = λ a. Unit {0};
  write = λ a. a;
}

-- a length, and that many bytes of text in UTF-8
unfoldable pub name : Format (List ℕ)
name = checked is_utf8 (sized anything)
