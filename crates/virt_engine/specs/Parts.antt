-- What is made of an application, its policy and the policy's trees.
use Rattle.std.specs.Prelude.{◌≡◌, ◌≢◌, ℕ, List, ◌++◌, Bool, true, false, length, string_bytes}
use Rattle.policy_data.specs.declared.policy.Policy.{Policy}
use Rattle.comp_types.specs.Items.{Entries, Signature, End, More}
use Rattle.comp_grammar.specs.Trees.{Tree, plain}
use Rattle.comp_write.specs.Copying.{SpellsBare}
use Rattle.comp_signature.specs.Signatures.{component_signature}
use Rattle.virt_output.specs.Bytes.{front_bytes, back_bytes}
use Rattle.virt_output.specs.Output.{output_tree}
use Rattle.wasi_match.specs.declared.listed.ListedUse.{ListedUse}
use Rattle.compose.specs.Composed.{IsComposed}
use Rattle.compose.specs.declared.composed.Composed.{Composed}
use Rattle.component_judge.specs.declared.inputs.Fetched.{Fetched}
use Rattle.virt_engine.specs.declared.plan.Ready.{Ready}
use Rattle.virt_engine.specs.declared.status.Status.TheVariants.{FileFault}
use Rattle.virt_engine.specs.Line.{done_text, status_text}

-- What stands around an application that imports nothing and exports these.
pub record IsAround (exports : Entries) (size : ℕ) (c : Composed) : Type 0 where
  pub front : c.front.items ≡ front_bytes size
  pub back : c.back.items ≡ back_bytes exports
  pub spelled : (t : Tree) → (app : List ℕ) → length app ≡ size → SpellsBare 0 t app → SpellsBare 0 (output_tree t exports) (c.front.items ++ (app ++ c.back.items))
  pub count : c.needed ≡ 0

-- What stands around an application of this type.
pub record AreParts (policy : Policy) (app : Tree) (uses : List ListedUse) (ty : Signature) (size : ℕ) (c : Composed) : Type 0 where
  pub alone : ty.imports ≡ End → IsAround ty.exports size c
  pub beside : ty.imports ≢ End → IsComposed policy app uses ty.exports size c

-- whether there is no entry
abbrev pub is_end : Entries → Bool
is_end End = true
is_end (More name item rest) = false

-- What is written.
abbrev pub written_by : Ready → List ℕ
written_by p = p.front.items ++ (p.app.items ++ p.back.items)

-- The parts of an output, and the texts of a call that writes it.
pub record Prepares (policy : Policy) (fetched : Fetched) (out : List ℕ) (p : Ready) : Type 0 where
  pub parts : Composed
  pub are : AreParts policy (plain fetched.application.judged.component) fetched.application.listed.uses (component_signature fetched.application.judged.ty) (length fetched.bytes.items) parts
  pub front : p.front.items ≡ parts.front.items
  pub app : p.app.items ≡ fetched.bytes.items
  pub back : p.back.items ≡ parts.back.items
  pub done_line : string_bytes p.done_line ≡ done_text (length fetched.bytes.items) (length (written_by p)) parts.needed
  pub fault : p.fault ≡ FileFault out
  pub fault_line : string_bytes p.fault_line ≡ status_text (FileFault out)
