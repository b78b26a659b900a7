-- The return from an answered call of an adapter, and core code that asks nothing (Component Model, CanonicalABI.md, `canon_lift`).
use Rattle.std.specs.Prelude.{◌≡◌, ℕ, ◌+◌, [], Some, Option, false}
use Rattle.wasm_ast.specs.declared.module.Body.{Body}
use Rattle.core_store.specs.declared.value.CoreSpaces.{CoreSpaces}
use Rattle.adapter_code.specs.declared.layout.Layout.{Layout}
use Rattle.adapter_code.specs.declared.statement.Width.{Width}
use Rattle.adapter_code.specs.Layout.{transfer_at}
use Rattle.adapter_transfer.specs.Transfer.{Stands, IsUsed, IsReset, reset_type, result_values, with_end}
use Rattle.host_port.specs.Hosts.{HostStep}
use Rattle.comp_worlds.specs.Acts.{Next}
use Rattle.comp_worlds.specs.Groups.{Endless, Config, Group, World}
use Rattle.comp_worlds.specs.Calls.{post_returns}
use Rattle.comp_worlds.specs.Hosts.{hosted}
use Rattle.comp_frames.specs.Running.{running}
use Rattle.adapter_calls.specs.Instance.{standing, IsQuiet}

abbrev pub reset : Layout → ℕ → Config ℕ → Config ℕ
reset l global c = record { store = with_end c.store global (transfer_at l); map = c.map; entered = c.entered; closed = false }

-- A post-return empties the transfer area, in three steps, whatever the results; the instance is not closed after it.
abbrev pub PostReturns : {S : Type 0} → HostStep S → Type 0
PostReturns {S} h =
    (G : Group) (instance : ℕ) (l : Layout) (result : Option Width) (body : Body) (spaces : CoreSpaces) (w : World S) (c : Config ℕ) (s : S) (f global at v : ℕ) →
    IsReset l result body → IsQuiet c.store → Stands (reset_type result) body spaces c.store f → IsUsed l spaces c.store global at → (n : ℕ) →
    post_returns G (hosted h) (running G (hosted h)) Endless instance (result_values result v) (Some f) (standing w instance c s) (3 + n) ≡ Next [] n (standing w instance (reset l global c) s) tt
