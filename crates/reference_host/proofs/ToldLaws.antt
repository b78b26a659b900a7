-- A row of the code keeps what the row of the definition keeps, as which it is told.
use Rattle.std.proofs.Common.{◌≡◌, ℕ, Bool, List, [], Option, Some, None, sym, ap, subst}
use Rattle.std.specs.Prelude.{IfSome, IsSome, option_map, unwrap_or}
use Rattle.tree_table.specs.Scratches.{ScratchMap, file_at}
use Rattle.tree_table.specs.Tables.{Forest}
use Rattle.reference_step.specs.Handles.{Content as PlainContent}
use Rattle.reference_step.specs.State.{Effect as PlainEffect, Row as PlainRow, Traps, Does}
use Rattle.ref_rules.specs.declared.content.Content.{Content}
use Rattle.ref_rules.specs.declared.content.Content.TheVariants.{ScratchFile, ScratchIn, ScratchOut}
use Rattle.ref_rules.specs.Contents.{open_file}
use Rattle.ref_answers.specs.declared.row.Effect.{Effect}
use Rattle.ref_answers.specs.declared.row.Row.TheVariants.{Does as Does'}
use Rattle.ref_answers.specs.Seen.{content_in}
use Rattle.ref_answers.specs.Shown.{made}
use Rattle.ref_scratch.specs.Told.{told, settled}
use Rattle.reference_host.specs.Keeping.{KeepsFiles, IsThere, AreThere, IsThereIfAny, Keeps, KeepsBy, OpensThere, KeptBy, ToldKeeps}

abbrev makes_in : PlainRow → List PlainContent
makes_in Traps = []
makes_in (Does e) = e.makes

abbrev becomes_in : PlainRow → Option PlainContent
becomes_in Traps = None
becomes_in (Does e) = e.becomes

abbrev scratch_in : ScratchMap → PlainRow → ScratchMap
scratch_in m Traps = m
scratch_in m (Does e) = unwrap_or e.scratch m

module _ (f : Forest) (m : ScratchMap) where
  opens : (c : Content) → IsThere m (content_in f c) → IfSome (open_file c) (λ n. IsSome (file_at m n))
  opens (ScratchFile n w) there = there
  opens (ScratchIn n place) there = there
  opens (ScratchOut n place) there = there
  opens _ there = tt

  made_opens : (o : Option Content) → AreThere m (made f o) → OpensThere m o
  made_opens None there = tt
  made_opens (Some c) there = opens c there.0

  becomes_opens : (o : Option Content) → IsThereIfAny m (option_map (content_in f) o) → OpensThere m o
  becomes_opens None there = tt
  becomes_opens (Some c) there = opens c there

module _ (f : Forest) (e : Effect) (held : ℕ → Bool) (old new : ScratchMap) where
  by_effect : (d : PlainEffect) → told f (Does' e) new ≡ settled old (Does d) → KeepsBy held old (unwrap_or d.scratch old) d → KeptBy held old new e
  by_effect d is keeps =
      let same : unwrap_or d.scratch old ≡ new = sym (ap (scratch_in old) is) in
      let makes : d.makes ≡ made f e.makes = sym (ap makes_in is) in
      let becomes : d.becomes ≡ option_map (content_in f) e.becomes = sym (ap becomes_in is) in
      record {
        files = subst (KeepsFiles held old) same keeps.files;
        makes = made_opens f new e.makes (subst (AreThere new) makes (subst (λ m. AreThere m d.makes) same keeps.makes));
        becomes = becomes_opens f new e.becomes (subst (IsThereIfAny new) becomes (subst (λ m. IsThereIfAny m d.becomes) same keeps.becomes));
      }

  by_row : (row : PlainRow) → told f (Does' e) new ≡ settled old row → Keeps held old row → KeptBy held old new e
  by_row Traps is keeps = cc
  by_row (Does d) is keeps = by_effect d is keeps

pub told_keeps : ToldKeeps
told_keeps f e held old new row is keeps = by_row f e held old new row is keeps
