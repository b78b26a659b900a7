-- What is known of the resources of imports.
use Rattle.std.specs.Prelude.{◌≡◌, ℕ, nat_eq, if◌then◌else◌, List, [], ◌∷◌, Option, Some, None}
use Rattle.indexmap.specs.IndexMap.{get}
use Rattle.host_port.specs.declared.call.Resource.{Resource}
use Rattle.comp_link.specs.Linking.{Known, behind_known}
use Rattle.instance_making.specs.declared.imports.HostResources.{HostResources}

-- the resource of a number
unfoldable pub resource_at : HostResources → ℕ → Option Resource
resource_at host r = get nat_eq host.by_number r

-- the first of that number
abbrev pub first_known : List Known → ℕ → Option Resource
first_known [] r = None
first_known (k ∷ ks) r = if nat_eq k.number r then Some k.resource else first_known ks r

pub record AreKnown (host : HostResources) (ks : List Known) : Type 0 where
  pub behind : host.behind ≡ behind_known ks
  pub resources : (r : ℕ) → resource_at host r ≡ first_known ks r
