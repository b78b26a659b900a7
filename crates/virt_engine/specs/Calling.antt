-- The calls of a script as calls of exports.
use Rattle.std.specs.Prelude.{List, [], ◌∷◌, Option, None, map, if◌then◌else◌}
use Rattle.std.specs.Str.{bytes_eq}
use Rattle.wit_types.specs.Plain.{Name, Plain}
use Rattle.comp_worlds.specs.Observed.{Call}
use Rattle.host_script.specs.Script.{PlainCall, Exports}
use Rattle.comp_interp.specs.Names.{cut}
use Rattle.virt_engine.specs.Told.{TypedCall}

-- the result type of the first function with a name
abbrev pub result_named : Name → Exports → Option Plain
result_named name [] = None
result_named name (e ∷ es) = if bytes_eq e.0 name then e.1.answer else result_named name es

-- A name is that of an exported instance, `#` and the function's own, or the function's own alone.
abbrev pub call_of : PlainCall → Call
call_of c = record { interface = (cut c.0).0; function = (cut c.0).1; args = c.1 }

abbrev pub typed_call : Exports → PlainCall → TypedCall
typed_call exports c = record { ty = result_named c.0 exports; call = call_of c }

abbrev pub typed_calls : Exports → List PlainCall → List TypedCall
typed_calls exports calls = map (typed_call exports) calls
