-- Handles that enter are those that enter by the definition, by any table of the trees.
use Rattle.std.proofs.Common.{◌≡◌, ℕ, zero, suc, List, [], ◌∷◌, Option, Some, None, refl, sym, ap, ◌∙◌}
use Rattle.std.specs.Prelude.{slice_index_or}
use Rattle.tree_table.specs.Tables.{Forest}
use Rattle.host_port.specs.Hosts.{HostStep}
use Rattle.reference_step.specs.Handles as reference
use Rattle.reference_step.specs.Handles.{first_free, with_entry, Live}
use Rattle.reference_step.specs.Steps.{entered, from_host, made_for}
use Rattle.ref_rules.specs.declared.content.Content.{Content}
use Rattle.ref_rules.specs.declared.content.Handle.{Handle}
use Rattle.ref_answers.specs.Seen.{content_in, live_in}
use Rattle.ref_answers.specs.Shown.{made}
use Rattle.ref_answers.proofs.SeenLaws.{seen_fresh_id, seen_with_handle}
use Rattle.ref_guards.specs.declared.standing.Standing.{Standing}
use Rattle.ref_guards.specs.declared.standing.Standing.TheVariants.{Hosts, Made}
use Rattle.ref_guards.specs.Entering.{stands_for, handle_for, with_handles, numbers_for}

module _ {S : Type 0} (h : HostStep S) (f : Forest) where
  one_entered : (standing : Standing) (live : List (Option Handle)) (g : ℕ × ℕ) (c : reference.Content) (rest : List (ℕ × reference.Content)) (new : List (Option Handle)) (ids : List ℕ) → content_in f (stands_for standing g.1) ≡ c
      → entered h (live_in f (with_entry live (handle_for standing g))) rest ≡ (live_in f new, ids) → entered h (live_in f live) ((g.0, c) ∷ rest) ≡ (live_in f new, first_free live ∷ ids)
  one_entered standing live g c rest new ids is later =
      ap (λ (x : reference.Content). entered h (live_in f live) ((g.0, x) ∷ rest)) (sym is)
      ∙ ap (λ (l : Live). ((entered h l rest).0, reference.fresh_id (live_in f live) ∷ (entered h l rest).1)) (sym (seen_with_handle f live g.0 (stands_for standing g.1)))
      ∙ ap (λ (x : Live × List ℕ). (x.0, reference.fresh_id (live_in f live) ∷ x.1)) later
      ∙ ap (λ (n : ℕ). (live_in f new, n ∷ ids)) (seen_fresh_id f live)

  -- the host's handles
  pub hosts_entered : (live : List (Option Handle)) (gs : List (ℕ × ℕ)) → entered h (live_in f live) (from_host h gs) ≡ (live_in f (with_handles Hosts live gs), numbers_for Hosts live gs)
  hosts_entered live [] = refl
  hosts_entered live (g ∷ gs) = one_entered Hosts live g (reference.Host g.1) (from_host h gs) (with_handles Hosts (with_entry live (handle_for Hosts g)) gs) (numbers_for Hosts (with_entry live (handle_for Hosts g)) gs) refl (hosts_entered (with_entry live (handle_for Hosts g)) gs)

  made_at : (makes : Option Content) (id : ℕ) → content_in f (stands_for (Made makes) id) ≡ slice_index_or (made f makes) id reference.Always
  made_at None id = refl
  made_at (Some c) zero = refl
  made_at (Some c) (suc id) = refl

  -- what a row makes
  pub made_entered : (makes : Option Content) (live : List (Option Handle)) (gs : List (ℕ × ℕ)) → entered h (live_in f live) (made_for h (made f makes) gs) ≡ (live_in f (with_handles (Made makes) live gs), numbers_for (Made makes) live gs)
  made_entered makes live [] = refl
  made_entered makes live (g ∷ gs) =
      let next = with_entry live (handle_for (Made makes) g) in
      one_entered (Made makes) live g (slice_index_or (made f makes) g.1 reference.Always) (made_for h (made f makes) gs) (with_handles (Made makes) next gs) (numbers_for (Made makes) next gs) (made_at makes g.1) (made_entered makes next gs)
