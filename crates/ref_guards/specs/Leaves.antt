-- Types without parts.
use Rattle.std.specs.Prelude.{Option, Some, None}
use Rattle.wit_types.specs.Plain.{Width, OneByte, TwoBytes, FourBytes, EightBytes, Plain, BoolType, SignedType, UnsignedType, CharType, StringType}
use Rattle.ref_guards.specs.declared.alike.Leaf.{Leaf}
use Rattle.ref_guards.specs.declared.alike.Leaf.TheVariants.{Bool as Bool', S8, U8, S16, U16, S32, U32, S64, U64, Char, Str}

abbrev pub signed_leaf : Width → Leaf
signed_leaf OneByte = S8
signed_leaf TwoBytes = S16
signed_leaf FourBytes = S32
signed_leaf EightBytes = S64

abbrev pub unsigned_leaf : Width → Leaf
unsigned_leaf OneByte = U8
unsigned_leaf TwoBytes = U16
unsigned_leaf FourBytes = U32
unsigned_leaf EightBytes = U64

abbrev pub leaf_of : Plain → Option Leaf
leaf_of BoolType = Some Bool'
leaf_of (SignedType width) = Some (signed_leaf width)
leaf_of (UnsignedType width) = Some (unsigned_leaf width)
leaf_of CharType = Some Char
leaf_of StringType = Some Str
leaf_of _ = None

abbrev pub plain_leaf : Leaf → Plain
plain_leaf Bool' = BoolType
plain_leaf S8 = SignedType OneByte
plain_leaf U8 = UnsignedType OneByte
plain_leaf S16 = SignedType TwoBytes
plain_leaf U16 = UnsignedType TwoBytes
plain_leaf S32 = SignedType FourBytes
plain_leaf U32 = UnsignedType FourBytes
plain_leaf S64 = SignedType EightBytes
plain_leaf U64 = UnsignedType EightBytes
plain_leaf Char = CharType
plain_leaf Str = StringType
