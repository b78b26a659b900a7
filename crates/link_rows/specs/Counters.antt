-- Two hosts that hand out handles: those of the second stand for twice the numbers of the first.
use Rattle.std.specs.Prelude.{◌≡◌, ℕ, suc, ◌*◌, ◌<◌, List, [], ◌∷◌, Bool, true, Option, Some, None}
use Rattle.wit_types.specs.Plain.{Plain, OwnType}
use Rattle.wit_types.specs.PlainValue.{HandleValue, End}
use Rattle.host_port.specs.Calls.{PlainCall, PlainAnswer, PlainObservation, Called, Gives, Trap}
use Rattle.host_port.specs.Hosts.{HostStep}
use Rattle.comp_worlds.specs.Groups.{Due}
use Rattle.comp_worlds.specs.Related.{Both}

-- a handle with this number, or nothing
abbrev pub made : ℕ → Option Plain → PlainAnswer
made n None = Gives None
made n (Some (OwnType r)) = Gives (Some (HandleValue n))
made n (Some ty) = Trap

-- a call is seen without its arguments, whose handles differ
abbrev pub shown : PlainCall → List PlainObservation
shown c = Called (record c { args = End }) ∷ []

abbrev pub single : HostStep ℕ
single = record {
  call = λ n c. record { seen = shown c; answer = made n c.answer; next = suc n };
  drop = λ n r x. record { seen = []; next = n };
}

abbrev pub double : HostStep ℕ
double = record {
  call = λ n c. record { seen = shown c; answer = made (2 * n) c.answer; next = suc n };
  drop = λ n r x. record { seen = []; next = n };
}

-- all resources are the host's
abbrev pub of_hosts : ℕ → Bool
of_hosts r = true

abbrev pub SameCount : ℕ → ℕ → Type 0
SameCount n m = n ≡ m

abbrev pub SameAnswered : ℕ → Due → ℕ → Due → Type 0
SameAnswered n due m due' = n ≡ m

-- a number handed out, and its double
abbrev pub Given : ℕ → ℕ → ℕ → Both → Type 0
Given n m r x = (x.one < n) × (x.two ≡ 2 * x.one)
