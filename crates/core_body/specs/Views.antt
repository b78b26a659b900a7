-- What the code's types say, as a context.
use Rattle.std.specs.Prelude.{Some, None, List, [], ◌∷◌, if◌then◌else◌}
use Rattle.virt_base.specs.declared.core_type.CoreType.{CoreType}
use Rattle.core_body.specs.declared.spaces.Spaces.{Spaces}
use Rattle.core_body.specs.declared.spaces.Scope.{Scope}
use Rattle.core_body.specs.Context.{Context}
use Rattle.core_body.specs.Sources.{listed_in}

-- the context of a function's body, and of a constant expression
abbrev pub in_body : Context → List CoreType → List CoreType → Context
in_body c locals results = record c { locals = locals; results = Some results; due = results }

abbrev pub in_expression : Context → CoreType → Context
in_expression c t = record c { locals = []; results = None; due = t ∷ [] }

-- the context outside of all code
abbrev pub context_at : Spaces → Context
context_at s = record {
  types = s.types.now;
  functions = s.functions.now;
  tables = s.tables.now;
  memories = s.memories;
  globals = s.globals.now;
  imported_globals = s.imported_globals;
  elements = s.elements.now;
  data_count = s.data_count;
  refs = s.refs.now;
  locals = [];
  results = None;
  due = [];
}

abbrev pub context_of : Scope → Context
context_of s =
    let due = listed_in s.spaces.types.now s.due in
    record (context_at s.spaces) { locals = s.locals; results = (if s.in_body then Some due else None); due = due }
