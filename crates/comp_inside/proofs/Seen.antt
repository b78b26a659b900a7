-- A component that is wrapped is seen to do the same.
use Rattle.std.proofs.Common.{◌≡◌, ℕ, zero, suc, List, [], refl, sym, ◌∙◌, subst, append-nil}
use Rattle.host_port.specs.Calls.{PlainObservation}
use Rattle.host_port.specs.Hosts.{HostStep}
use Rattle.comp_worlds.specs.Acts.{IsPrefixOf}
use Rattle.comp_worlds.specs.Groups.{Endless, Group}
use Rattle.comp_worlds.specs.Observed.{Call, seen, SameObservations}
use Rattle.comp_link.specs.Linking.{group_of}
use Rattle.comp_inside.specs.Inside.{place}
use Rattle.comp_inside.specs.Wrapping.{wrapping}
use Rattle.comp_inside.specs.Laws.{OneStepLater, SeenWrapped, WrappedDoSame}
use Rattle.comp_inside.proofs.Surrounded.{surrounded}
use Rattle.comp_inside.proofs.Wrapped.{behind_one, surrounds}

module _ {S : Type 0} (h : HostStep S) (s : S) (calls : List Call) where
  all_of_it : (xs ys : List PlainObservation) → xs ≡ ys → IsPrefixOf xs ys
  all_of_it xs ys e = ([], append-nil xs ∙ e)

  pub later_same : (H G : Group) → OneStepLater H G h s Endless calls → SameObservations (seen G [] h s calls) (seen H [] h s calls)
  later_same H G l = record {
    first = λ n. (suc n, all_of_it (seen G [] h s calls n) (seen H [] h s calls (suc n)) (sym (l.seen n)));
    second = back;
  }
    where
      back : (n : ℕ) → (m : ℕ) × IsPrefixOf (seen H [] h s calls n) (seen G [] h s calls m)
      back zero = (0, subst (λ z. IsPrefixOf z (seen G [] h s calls 0)) (sym l.first) (seen G [] h s calls 0, refl))
      back (suc n) = (n, all_of_it (seen H [] h s calls (suc n)) (seen G [] h s calls n) (l.seen n))

pub wrapped_do_same : {S : Type 0} → (h : HostStep S) → WrappedDoSame h
wrapped_do_same h w c wraps none s calls =
    subst (λ z. SeenWrapped z c h s calls) (sym wraps.3)
    (let sur = surrounds wraps.0 c wraps.1 wraps.2 wraps.4 none wraps.5 in
    record {
      same = later_same h s calls (group_of (wrapping wraps.0 c wraps.2)) (group_of c) (surrounded _ _ (place behind_one) sur h s Endless calls);
      later = λ d. surrounded _ _ (place behind_one) sur h s d calls;
    })
