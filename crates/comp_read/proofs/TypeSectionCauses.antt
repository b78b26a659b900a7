-- Reading a section of types stops at a tag for a cause.
use Rattle.std.proofs.Common.{ℕ, []}
use Rattle.wasm_format.specs.Format.{Format, u32_format}
use Rattle.wasm_format.specs.Until.{until}
use Rattle.wasm_format.proofs.Laws.{exact_u32}
use Rattle.wasm_ast.proofs.TypeLaws.{exact}
use Rattle.wasm_ast.proofs.ComponentGrammar.{exact_extern_name}
use Rattle.comp_grammar.specs.TypeSections.{type_alias, definition, declaration, Due, is_none_open, type_walk, all_due, own_types, led_by, type_items}
use Rattle.comp_grammar.proofs.TypeSectionLaws.{exact_type_walk}
use Rattle.format_causes.specs.Causes.{IsCaused}
use Rattle.format_causes.proofs.CauseLaws.{led, caused_led, caused_as, caused_choose, caused_u32}
use Rattle.format_causes.proofs.ListCauses.{caused_name}
use Rattle.format_causes.proofs.SectionCauses.{caused_until}
use Rattle.format_causes.proofs.TypeCauses.{causes}
use Rattle.comp_read.proofs.ItemCauses.{caused_extern_name, caused_extern_desc}
use Rattle.comp_read.proofs.TypeCauses.{caused_type_def}

caused_type_alias : IsCaused type_alias
unfolding type_alias
caused_type_alias = search (causes, exact, caused_name) depth 16

caused_definition : IsCaused definition
unfolding definition
caused_definition = search (causes, caused_type_def) depth 4

caused_declaration : IsCaused declaration
unfolding declaration
caused_declaration = search (causes, exact_extern_name, caused_type_def, caused_type_alias, caused_extern_name, caused_extern_desc) depth 16

caused_type_walk : (s : Due) → IsCaused (type_walk.form s)
unfolding type_walk
caused_type_walk s = caused_choose (is_none_open s.open_types) definition declaration caused_definition caused_declaration

caused_led_by : {A : Type 0} (count : A → ℕ) (form : ℕ → Format A) → ((n : ℕ) → IsCaused (form n)) → IsCaused (led_by count form)
caused_led_by count form f = caused_as (led u32_format form) (led_by count form) (λ p at byte e. e) (λ at a text n s. (a, s)) (caused_led u32_format form exact_u32 caused_u32 f)

pub caused_type_items : IsCaused type_items
unfolding type_items
caused_type_items = caused_led_by (own_types []) (λ types. until type_walk (all_due types)) (λ n. caused_until type_walk (all_due n) exact_type_walk caused_type_walk)
