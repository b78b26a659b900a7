-- Imports as the definition has them: the names of a function and its type.
use Rattle.std.specs.Prelude.{◌≡◌, ℕ, List, refl}
use Rattle.std.specs.Coded.{Coded, code_by, coded×}
use Rattle.wit_types.specs.Plain.{Name, PlainFunc, plain_result}
use Rattle.host_port.specs.declared.call.HostFunc.{HostFunc}
use Rattle.host_port.specs.Calls.{fields_in}
use Rattle.comp_types.specs.Codes.{name_code, func_code}
use Rattle.comp_worlds.specs.Groups.{Import}

-- a function of the host as an import
abbrev pub import_of : HostFunc → Import
import_of f = record { interface = f.interface; function = f.function; ty = record { params = fields_in f.params; answer = plain_result f.result } }

abbrev pub import_code : Coded Import
import_code = code_by (Name × (Name × PlainFunc)) (coded× name_code (coded× name_code func_code)) (λ i. (i.interface, (i.function, i.ty))) (λ p. record { interface = p.0; function = p.1.0; ty = p.1.1 }) (λ _. refl)
