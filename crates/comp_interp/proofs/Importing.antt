-- What the outermost component is given, before its instance is made.
use Rattle.std.proofs.Common.{◌≡◌, ◌∙◌, ap, sym, refl, subst, ℕ, ◌+◌, ◌-◌, nat_eq, nat_lt, cond, List, [], length, Option, None, Bool, true, false, Vec, arith, slice_get}
use Rattle.std.specs.Option.{option_map}
use Rattle.std.specs.Global.{Global}
use Rattle.indexmap.specs.IndexMap.{get}
use Rattle.comp_types.specs.Items.{Entries}
use Rattle.comp_worlds.specs.Groups.{Owner}
use Rattle.comp_link.specs.Linking.{Givens, all_outside, all_known}
use Rattle.instance_state.specs.declared.owners.Owners.{Owners}
use Rattle.instance_state.specs.Owning.{owner_of}
use Rattle.instance_state.specs.declared.canon.Canon.{Canon}
use Rattle.call_moments.specs.Grouped.{canon_in as canon_known}
use Rattle.call_moments.specs.Leads.{Moment}
use Rattle.instance_making.specs.declared.named.Named.{Named}
use Rattle.instance_making.specs.declared.given.Given.{Given}
use Rattle.instance_making.specs.declared.imports.HostResources.{HostResources}
use Rattle.instance_making.specs.Made.{AreMade, AndMore, Holds}
use Rattle.instance_making.specs.Outside.{resource_at, AreKnown}
use Rattle.comp_interp.specs.Gathered.{Imported}

same_resource : (host : HostResources) (r : ℕ) → get nat_eq host.by_number r ≡ resource_at host r
unfolding resource_at
same_resource host r = refl

no_owner : (b : Bool) (o : Option Owner) → o ≡ None → cond b None o ≡ None
no_owner true o e = refl
no_owner false o e = e

module _ {S : Type 0} (imports : Entries) (old : Moment S) (made made' : List (Named Given)) (given : Named Given) (host : HostResources) (canons : Vec (Vec Canon Global) Global) (owners : Owners) where
  abbrev imported_moment : Moment S
  imported_moment = record old { group = record { canons = canons; owners = owners; imported = host.by_number } }

  pub imported_so : made ≡ [] → old.instances ≡ [] → ((before : List Givens) → AreMade made before → AndMore before made' (λ all. Holds all given (all_outside [] imports))) → AreKnown host (all_known [] imports) →
      canons.items ≡ [] → owners.first ≡ host.behind → owners.items.items ≡ [] → Imported imports old made' given imported_moment
  imported_so none fresh outside known no_canons first no_owners =
      let more = outside [] (subst (λ xs. AreMade xs []) (sym none) tt) in
      record {
        before = more.more;
        made = more.made;
        holds = more.holds;
        whole = record {
          instances = ap length fresh;
          rows = ap length no_canons;
          canons = λ k n. ap (λ rows. canon_known rows k n) no_canons;
          next =
              let zero_more : length owners.items.items ≡ 0 = ap length no_owners in
              let same : owners.first + length owners.items.items ≡ owners.first = omega (arith, zero_more) in
              same ∙ first ∙ known.behind;
          owners = λ r. no_owner (nat_lt r owners.first) (option_map owner_of (slice_get owners.items.items (r - owners.first))) (ap (λ xs. option_map owner_of (slice_get xs (r - owners.first))) no_owners);
        };
        known = λ r. same_resource host r ∙ known.resources r;
        is = refl;
      }
