-- The types without parts (Component Model, Explainer.md, "Type Definitions").
use Rattle.wasm_ast.specs.declared.component.Primitive.{Primitive}
use Rattle.wasm_ast.specs.declared.component.Primitive.TheVariants as primitives
use Rattle.wit_types.specs.Plain.{OneByte, TwoBytes, FourBytes, EightBytes, Plain, BoolType, SignedType, UnsignedType, CharType, StringType}

abbrev pub primitive_type : Primitive → Plain
primitive_type primitives.Bool = BoolType
primitive_type primitives.S8 = SignedType OneByte
primitive_type primitives.U8 = UnsignedType OneByte
primitive_type primitives.S16 = SignedType TwoBytes
primitive_type primitives.U16 = UnsignedType TwoBytes
primitive_type primitives.S32 = SignedType FourBytes
primitive_type primitives.U32 = UnsignedType FourBytes
primitive_type primitives.S64 = SignedType EightBytes
primitive_type primitives.U64 = UnsignedType EightBytes
primitive_type primitives.Char = CharType
primitive_type primitives.String = StringType
