-- What reading all that a call of `plug` needs comes to, from what its parts did.
use Rattle.std.proofs.Common.{◌≡◌, ◌∙◌, refl, sym, ap, subst, ℕ, List, length, true, inl, inr, Ok, Err}
use Rattle.std.specs.Prelude.{Some, IsSome, Result}
use Rattle.outside.specs.Files.{FilesState, Held, Goes}
use Rattle.policy_data.specs.declared.policy.Policy.{Policy}
use Rattle.tree_table.specs.declared.entries.NamedTree.{NamedTree}
use Rattle.component_judge.specs.declared.inputs.Fetched.{Fetched}
use Rattle.component_judge.specs.declared.limits.Purpose.TheVariants.{Virt}
use Rattle.component_judge.specs.Limits.{bytes_limit, bytes_name}
use Rattle.component_judge.proofs.Both.{earlier}
use Rattle.virt_engine.specs.declared.plan.Ready.{Ready}
use Rattle.virt_engine.specs.declared.status.Status.{Status}
use Rattle.virt_engine.specs.declared.status.Status.TheVariants.{Done, FileFault, NoMemory}
use Rattle.virt_engine.specs.Command.{PlugCommand}
use Rattle.virt_engine.specs.Fetching.{IsFileFault}
use Rattle.virt_engine.specs.Line.{done_text}
use Rattle.virt_engine.specs.Pairs.{IsTooLarge, IsPairVerdict, ArePair, plugged_count}
use Rattle.virt_engine.specs.Parts.{Prepares, written_by}
use Rattle.virt_engine.specs.Policies.{FetchesPolicy}
use Rattle.virt_engine.specs.PolicyTrees.{trees_verdict, MakesTrees}
use Rattle.virt_engine.specs.Plugging.{IsPlugDueUnder, IsPlugDue, NoPlugFileDue, HasRead, HasPair, PartCause, PairCause, NoPairFileDue, FetchesPair, PlansPlug}
use Rattle.virt_engine.proofs.Adding.{goes_on}
use Rattle.virt_engine.proofs.PairOutputs.{plugged_output}
use Rattle.virt_engine.proofs.Planning.{fault_named, there, policy_absent, policy_file}
use Rattle.virt_engine.proofs.Showing.{trees_before, trees_earlier}

-- ---- what was read of contents that stayed

module _ (s t : FilesState) (goes : Goes s t) (stays : t.held ≡ s.held) where
  here_before : (name bytes : List ℕ) → (t.told ≡ true → t.held.file name ≡ Some bytes) → s.told ≡ true → s.held.file name ≡ Some bytes
  here_before name bytes h told = subst (λ (held : Held). held.file name ≡ Some bytes) stays (h (goes.told ∙ told))

  read_before : (name : List ℕ) (read : _) → HasRead name t read → HasRead name s read
  read_before name read h = record { bytes = h.bytes; is_read = h.is_read; there = here_before name h.bytes h.there }

  part_earlier : (name : List ℕ) (u : FilesState) (status : Status) → PartCause name t u status → PartCause name s u status
  part_earlier name u status h = (h.0, earlier name (bytes_name Virt) (bytes_limit Virt) IsTooLarge s t u h.0 goes stays h.1, h.2)

  pair_earlier : (first second : List ℕ) (u : FilesState) (status : Status) → PairCause first second t u status → PairCause first second s u status
  pair_earlier first second u status (inl none) = inl none
  pair_earlier first second u status (inr (inl h)) = inr (inl (part_earlier first u status h))
  pair_earlier first second u status (inr (inr (inl h))) = inr (inr (inl (h.0, read_before first h.0 h.1, part_earlier second u status h.2)))
  pair_earlier first second u status (inr (inr (inr h))) = inr (inr (inr (record {
    a = h.a;
    b = h.b;
    first_read = read_before first h.a h.first_read;
    second_read = read_before second h.b h.second_read;
    fault = h.fault;
    refuses = h.refuses;
    told = h.told;
  })))

  abbrev pair_before : (first second : List ℕ) → HasPair first second t → HasPair first second s
  pair_before first second h = record {
    a = h.a;
    b = h.b;
    pair = h.pair;
    is_pair = h.is_pair;
    first_there = here_before first h.a h.first_there;
    second_there = here_before second h.b h.second_there;
  }

abbrev pub are_pair : (first second : List ℕ) (s : FilesState) → HasPair first second s → s.told ≡ true → ArePair s.held first second
are_pair first second s h told = record { a = h.a; b = h.b; pair = h.pair; is_pair = h.is_pair; first_there = h.first_there told; second_there = h.second_there told }

-- ---- the policy is not there, or is refused

module _ (c : PlugCommand) (s : FilesState) where
  policy_there : NoPlugFileDue s.held c → IsSome (s.held.file c.policy)
  policy_there fine = there (s.held.file c.policy) (λ none. fine c.policy (inl (policy_absent s.held c.policy none)))

  pub plug_no_policy : (t : FilesState) (e : Status) (r : Result Ready Status) → r ≡ Err e → FetchesPolicy c.policy s t (Err e) → PlansPlug c s t r
  plug_no_policy t e r is f = subst (λ (x : Result Ready Status). PlansPlug c s t x) (sym is) (record {
    goes = f.goes;
    stays = f.stays;
    ready = tt;
    cause = inr (inl f.cause);
    quiet = λ told steady fine. f.quiet told steady (policy_there fine);
  })

-- ---- after the policy

module _ (c : PlugCommand) (policy : Policy) (s t : FilesState) (p : FetchesPolicy c.policy s t (Ok policy)) where
  told_t : s.told ≡ true → t.told ≡ true
  told_t told = p.goes.told ∙ told

  -- what is due after the policy is due
  under : s.told ≡ true → (status : Status) → IsPlugDueUnder s.held c policy status → IsPlugDue s.held c status
  under told status h = inr (policy, policy_file c.policy s policy p.policy told, h)

  quiet_policy : s.told ≡ true → s.steady ≡ true → NoPlugFileDue s.held c → t.faults ≡ s.faults
  quiet_policy told steady fine = (p.quiet told steady (policy_there c s fine)).0

  fine_pair : s.told ≡ true → NoPlugFileDue s.held c → NoPairFileDue t.held c.first c.second
  fine_pair told fine name h = fine name (under told (FileFault name) (inl (subst (λ (held : Held). IsPairVerdict held c.first c.second (FileFault name)) p.stays h)))

  module _ (u : FilesState) where
    pub plug_no_pair : (e : Status) (r : Result Ready Status) → r ≡ Err e → FetchesPair c.first c.second t u (Err e) → PlansPlug c s u r
    plug_no_pair e r is f = subst (λ (x : Result Ready Status). PlansPlug c s u x) (sym is) (record {
      goes = goes_on s t u p.goes f.goes;
      stays = f.stays ∙ p.stays;
      ready = tt;
      cause = inr (inr (policy, p.policy, inl (pair_earlier s t p.goes p.stays c.first c.second u e f.cause)));
      quiet = λ told steady fine. let q = f.quiet (told_t told) (p.goes.steady steady) (fine_pair told fine) in (q.0 ∙ quiet_policy told steady fine, q.1);
    })

    -- ---- after the components

    module _ (whole : Fetched) (f : FetchesPair c.first c.second t u (Ok whole)) (w : FilesState) where
      told_u : s.told ≡ true → u.told ≡ true
      told_u told = f.goes.told ∙ told_t told

      stays_u : u.held ≡ s.held
      stays_u = f.stays ∙ p.stays

      goes_u : Goes s u
      goes_u = goes_on s t u p.goes f.goes

      abbrev has_pair : HasPair c.first c.second s
      has_pair = pair_before s t p.goes p.stays c.first c.second f.whole.has_pair

      -- what the trees call for is due
      by_trees : s.told ≡ true → (status : Status) → trees_verdict u.held policy Done ≡ status → IsPlugDue s.held c status
      by_trees told status e = under told status (inr (are_pair c.first c.second s has_pair told, subst (λ (held : Held). trees_verdict held policy Done ≡ status) stays_u e))

      quiet_pair : s.told ≡ true → s.steady ≡ true → NoPlugFileDue s.held c → u.faults ≡ s.faults
      quiet_pair told steady fine = (f.quiet (told_t told) (p.goes.steady steady) (fine_pair told fine)).0 ∙ quiet_policy told steady fine

      fine_left : s.told ≡ true → NoPlugFileDue s.held c → ¬ (IsFileFault (trees_verdict u.held policy Done))
      fine_left told fine h = let named = fault_named (trees_verdict u.held policy Done) h in fine named.0 (by_trees told (FileFault named.0) named.1)

      module _ (q : Result (List NamedTree) Status) (m : MakesTrees policy u w q) where
        quiet_trees : s.told ≡ true → s.steady ≡ true → NoPlugFileDue s.held c → w.faults ≡ s.faults
        quiet_trees told steady fine = (m.quiet (told_u told) (goes_u.steady steady) (fine_left told fine)).0 ∙ quiet_pair told steady fine

      pub plug_no_trees : (e : Status) (r : Result Ready Status) → r ≡ Err e → MakesTrees policy u w (Err e) → PlansPlug c s w r
      plug_no_trees e r is m = subst (λ (x : Result Ready Status). PlansPlug c s w x) (sym is) (record {
        goes = goes_on s u w goes_u m.goes;
        stays = m.stays ∙ stays_u;
        ready = tt;
        cause = inr (inr (policy, p.policy, inr (has_pair, trees_earlier policy s u w e goes_u stays_u m.cause)));
        quiet = λ told steady fine. (quiet_trees (Err e) m told steady fine, (m.quiet (told_u told) (goes_u.steady steady) (fine_left told fine)).1);
      })

      module _ (built : List NamedTree) (m : MakesTrees policy u w (Ok built)) where
        pub plug_no_memory : PlansPlug c s w (Err NoMemory)
        plug_no_memory = record {
          goes = goes_on s u w goes_u m.goes;
          stays = m.stays ∙ stays_u;
          ready = tt;
          cause = inl refl;
          quiet = λ told steady fine. (quiet_trees (Ok built) m told steady fine, λ (b : ⊥). b);
        }

        pub plug_ready : (ready : Ready) → Prepares policy whole c.out ready → PlansPlug c s w (Ok ready)
        plug_ready ready m' =
            let made = plugged_output has_pair.pair has_pair.a has_pair.b whole f.whole.made policy c.out ready m' has_pair.is_pair in
            record {
              goes = goes_on s u w goes_u m.goes;
              stays = m.stays ∙ stays_u;
              ready = record {
                policy = policy;
                has_policy = p.policy;
                has_pair = has_pair;
                has_trees = trees_before policy s u goes_u stays_u m.trees;
                output = made.0;
                done_line = m'.done_line
                    ∙ ap (λ (n : ℕ). done_text (length whole.bytes.items) (length (written_by ready)) n) made.1
                    ∙ ap (λ (bytes : List ℕ). done_text (length bytes) (length (written_by ready)) (plugged_count policy has_pair.a has_pair.b (written_by ready) made.0)) (sym made.2);
                fault = m'.fault;
                fault_line = m'.fault_line;
              };
              cause = tt;
              quiet = λ told steady fine. (quiet_trees (Ok built) m told steady fine, tt);
            }
