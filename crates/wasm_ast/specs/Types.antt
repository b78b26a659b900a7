-- The formats of types (WebAssembly Core 2.0, section 5.3). Each literal byte is a tag.
use Rattle.std.specs.Prelude.{ℕ, Bool, true, false, ◌==◌, Option, Some, None, is_some, unwrap_or, if◌then◌else◌}
use Rattle.virt_base.specs.declared.core_type.CoreType.{CoreType}
use Rattle.virt_base.specs.declared.core_type.CoreType.TheVariants.{I32, I64, Funcref, Externref}
use Rattle.wasm_format.specs.Format.{Format, choose, lacking, tagged, tag_or, value, both, image, vec, u32_format}
use Rattle.wasm_format.specs.Numbers.{s33_index}
use Rattle.wasm_ast.specs.declared.instr.RefType.{RefType}
use Rattle.wasm_ast.specs.declared.instr.RefType.TheVariants as refs
use Rattle.wasm_ast.specs.declared.instr.BlockType.{BlockType}
use Rattle.wasm_ast.specs.declared.instr.BlockType.TheVariants.{Empty, Value, Index}
use Rattle.wasm_ast.specs.declared.module.CoreFunc.{CoreFunc}
use Rattle.wasm_ast.specs.declared.module.Limits.{Limits}
use Rattle.wasm_ast.specs.declared.module.TableType.{TableType}
use Rattle.wasm_ast.specs.declared.module.GlobalType.{GlobalType}

abbrev pub core_type_tag : CoreType → ℕ
core_type_tag I32 = 0x7F
core_type_tag I64 = 0x7E
core_type_tag Funcref = 0x70
core_type_tag Externref = 0x6F

-- the value type of a tag
abbrev pub core_type_of : ℕ → Format CoreType
core_type_of b =
    choose (b == 0x7F) (value I32) (choose (b == 0x7E) (value I64) (choose (b == 0x70) (value Funcref) (choose (b == 0x6F) (value Externref) (lacking b))))

unfoldable pub core_type : Format CoreType
core_type = tagged core_type_tag core_type_of

abbrev pub ref_type_tag : RefType → ℕ
ref_type_tag refs.Func = 0x70
ref_type_tag refs.Extern = 0x6F

unfoldable pub ref_type : Format RefType
ref_type = tagged ref_type_tag (λ b. choose (b == 0x70) (value refs.Func) (choose (b == 0x6F) (value refs.Extern) (lacking b)))

unfoldable pub core_func : Format CoreFunc
core_func = tagged (λ f. 0x60) (λ b.
    choose (b == 0x60) (image (λ p. record { params = p.0; results = p.1 }) (λ f. (f.params, f.results)) (both (vec core_type) (vec core_type)))
    (lacking b))

unfoldable pub limits : Format Limits
limits = tagged (λ l. if is_some l.max then 1 else 0) (λ b.
    choose (b == 0) (image (λ n. record { min = n; max = None }) (λ l. l.min) u32_format) (
    choose (b == 1) (image (λ p. record { min = p.0; max = Some p.1 }) (λ l. (l.min, unwrap_or l.max 0)) (both u32_format u32_format))
    (lacking b)))

unfoldable pub table_type : Format TableType
table_type = image (λ p. record { element = p.0; limits = p.1 }) (λ t. (t.element, t.limits)) (both ref_type limits)

-- whether a global is a variable
unfoldable pub mutability : Format Bool
mutability = tagged (λ v. if v then 1 else 0) (λ b. choose (b == 0) (value false) (choose (b == 1) (value true) (lacking b)))

unfoldable pub global_type : Format GlobalType
global_type = image (λ p. record { value = p.0; variable = p.1 }) (λ g. (g.value, g.variable)) (both core_type mutability)

abbrev pub block_tag : BlockType → ℕ
block_tag Empty = 0x40
block_tag (Value t) = core_type_tag t
block_tag (Index n) = 0

abbrev pub value_of_block : BlockType → CoreType
value_of_block (Value t) = t
value_of_block Empty = I32
value_of_block (Index n) = I32

abbrev pub index_of_block : BlockType → ℕ
index_of_block (Index n) = n
index_of_block Empty = 0
index_of_block (Value t) = 0

abbrev pub is_tagged_block : BlockType → Bool
is_tagged_block Empty = true
is_tagged_block (Value t) = true
is_tagged_block (Index n) = false

abbrev pub tagged_block : Format BlockType
tagged_block = tagged block_tag (λ b. choose (b == 0x40) (value Empty) (image Value value_of_block (core_type_of b)))

abbrev pub numbered_block : Format BlockType
numbered_block = image Index index_of_block s33_index

-- a tag, or a type index as a signed number that is not negative
unfoldable pub block_type : Format BlockType
block_type = tag_or is_tagged_block tagged_block numbered_block
