-- What bytes spell as a type is written in no more bytes, by the laws of what its format is made of.
use Rattle.std.proofs.Common.{◌≡◌, ℕ, true, false, eqb, refl}
use Rattle.virt_base.specs.declared.core_type.CoreType.{CoreType}
use Rattle.virt_base.specs.declared.core_type.CoreType.TheVariants.{I32, I64, Funcref, Externref}
use Rattle.wasm_format.specs.Format.{is_tag_byte, choose, value, image}
use Rattle.wasm_format.proofs.LeastLaws.{IsLeast, HasTag, BeginsAs, least_choose, least_lacking, least_misplaced, least_tagged, least_peeked, least_literal, least_fixed, least_value, least_both, least_image, least_behind, least_closed_by, least_checked, least_u32, least_vec, least_vec_of, least_sized, least_anything, least_name, tag_choose, tag_either, tag_lacking, tag_misplaced, tag_value, tag_literal, tag_image, tag_inside, tag_checked, tag_tagged, tag_behind, begins_tagged, begins_image}
use Rattle.wasm_format.proofs.LeastNumbers.{least_s33_index, begins_s33_index}
use Rattle.wasm_ast.specs.declared.instr.BlockType.{BlockType}
use Rattle.wasm_ast.specs.declared.instr.BlockType.TheVariants.{Empty, Value, Index}
use Rattle.wasm_ast.specs.Types.{core_type_tag, core_type_of, core_type, ref_type, core_func, limits, table_type, mutability, global_type, block_tag, value_of_block, is_tagged_block, tagged_block, numbered_block, block_type}

pub same : {A : Type 0} (a : A) → a ≡ a
same a = refl

pub ruleset tags = (same, tag_choose, tag_either, tag_lacking, tag_misplaced, tag_value, tag_literal, tag_behind, tag_image, tag_inside, tag_checked, tag_tagged)

pub ruleset least = (tags, least_choose, least_lacking, least_misplaced, least_tagged, least_literal, least_value, least_both, least_behind, least_closed_by, least_image, least_u32, least_vec, least_vec_of, least_sized, least_anything, least_name)

pub least_core_type_of : (b : ℕ) → IsLeast (core_type_of b)
least_core_type_of b = search least depth 12

core_type_tags : (b : ℕ) → HasTag core_type_tag b (core_type_of b)
core_type_tags b = search tags depth 12

pub least_core_type : IsLeast core_type
unfolding core_type
least_core_type = search (least, core_type_tags, least_core_type_of) depth 4

pub least_ref_type : IsLeast ref_type
unfolding ref_type
least_ref_type = search least depth 12

pub least_core_func : IsLeast core_func
unfolding core_func
least_core_func = search (least, least_core_type) depth 16

pub least_limits : IsLeast limits
unfolding limits
least_limits = search least depth 12

pub least_table_type : IsLeast table_type
unfolding table_type
least_table_type = search (least, least_ref_type, least_limits) depth 8

pub least_mutability : IsLeast mutability
unfolding mutability
least_mutability = search least depth 12

pub least_global_type : IsLeast global_type
unfolding global_type
least_global_type = search (least, least_core_type, least_mutability) depth 8

-- ---- types of blocks

block_value_tags : (b : ℕ) → HasTag (λ (t : CoreType). block_tag (Value t)) b (core_type_of b)
block_value_tags b = search tags depth 12

block_tags : (b : ℕ) → HasTag block_tag b (choose (eqb b 0x40) (value Empty) (image Value value_of_block (core_type_of b)))
block_tags b = search (tags, block_value_tags) depth 6

block_first : (t : BlockType) → (choose (eqb (block_tag t) 0x40) (value Empty) (image Value value_of_block (core_type_of (block_tag t)))).Fits t → is_tag_byte (block_tag t) ≡ true
block_first Empty h = refl
block_first (Value I32) h = refl
block_first (Value I64) h = refl
block_first (Value Funcref) h = refl
block_first (Value Externref) h = refl
block_first (Index n) h = absurd h.1

least_tagged_block : IsLeast tagged_block
least_tagged_block = search (least, block_tags, least_core_type_of) depth 6

least_numbered_block : IsLeast numbered_block
least_numbered_block = search (least, least_s33_index) depth 6

begins_tagged_block : BeginsAs is_tag_byte true tagged_block
begins_tagged_block = begins_tagged is_tag_byte true block_tag (λ b. choose (eqb b 0x40) (value Empty) (image Value value_of_block (core_type_of b))) block_first

begins_numbered_block : BeginsAs is_tag_byte false numbered_block
begins_numbered_block = search (begins_image, begins_s33_index) depth 4

are_tagged : HasTag is_tagged_block true tagged_block
are_tagged = search tags depth 8

are_numbered : HasTag is_tagged_block false numbered_block
are_numbered = search tags depth 8

pub least_block_type : IsLeast block_type
unfolding block_type
least_block_type = least_peeked is_tag_byte is_tagged_block tagged_block numbered_block least_tagged_block least_numbered_block are_tagged are_numbered begins_tagged_block begins_numbered_block
