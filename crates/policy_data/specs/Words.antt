-- The words that stand for a choice.
use Rattle.std.specs.Prelude.{ℕ, List, Option, Some, None, codes, if◌then◌else◌}
use Rattle.std.specs.Str.{bytes_eq}
use Rattle.policy_data.specs.declared.words.Deny.{Deny}
use Rattle.policy_data.specs.declared.words.Deny.TheVariants.{Trap, Error}
use Rattle.policy_data.specs.declared.words.Stream.{Stream}
use Rattle.policy_data.specs.declared.words.Stream.TheVariants.{Allow as HostStream, Ignore as IgnoredStream, Deny as NoStream}
use Rattle.policy_data.specs.declared.words.Access.{Access}
use Rattle.policy_data.specs.declared.words.Access.TheVariants.{Allow, Deny as NoAccess}
use Rattle.policy_data.specs.declared.words.Sockets.{Sockets}
use Rattle.policy_data.specs.declared.words.Sockets.TheVariants.{Allow as AllSockets, Deny as NoSockets, Rules}
use Rattle.policy_data.specs.declared.words.HostFiles.{HostFiles}
use Rattle.policy_data.specs.declared.words.HostFiles.TheVariants.{All as AllFiles, Deny as NoFiles}
use Rattle.policy_data.specs.declared.data.WallClock.{WallClock}
use Rattle.policy_data.specs.declared.data.WallClock.TheVariants.{Allow as HostWall, Deny as NoWall}
use Rattle.policy_data.specs.declared.data.MonotonicClock.{MonotonicClock}
use Rattle.policy_data.specs.declared.data.MonotonicClock.TheVariants.{Allow as HostMonotonic, Deny as NoMonotonic}

-- the choice, where the word is its word, else another
abbrev pub where_is : {A : Type 0} → List ℕ → List ℕ → A → Option A → Option A
where_is word named choice other = if bytes_eq word named then Some choice else other

abbrev pub deny_named : List ℕ → Option Deny
deny_named word = where_is word (codes "trap") Trap (where_is word (codes "error") Error None)

abbrev pub stream_named : List ℕ → Option Stream
stream_named word = where_is word (codes "allow") HostStream (where_is word (codes "ignore") IgnoredStream (where_is word (codes "deny") NoStream None))

abbrev pub access_named : List ℕ → Option Access
access_named word = where_is word (codes "allow") Allow (where_is word (codes "deny") NoAccess None)

abbrev pub sockets_named : List ℕ → Option Sockets
sockets_named word = where_is word (codes "allow") AllSockets (where_is word (codes "deny") NoSockets (where_is word (codes "rules") Rules None))

abbrev pub host_files_named : List ℕ → Option HostFiles
host_files_named word = where_is word (codes "deny") NoFiles (where_is word (codes "all") AllFiles None)

abbrev pub wall_named : List ℕ → Option WallClock
wall_named word = where_is word (codes "allow") HostWall (where_is word (codes "deny") NoWall None)

abbrev pub monotonic_named : List ℕ → Option MonotonicClock
monotonic_named word = where_is word (codes "allow") HostMonotonic (where_is word (codes "deny") NoMonotonic None)
