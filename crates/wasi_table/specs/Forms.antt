-- The words that types are made with.
use Rattle.std.specs.Prelude.{ℕ, List, Option, Some, None, codes, if◌then◌else◌}
use Rattle.std.specs.Str.{bytes_eq}
use Rattle.wasi_table.specs.declared.forms.Form.{Form}
use Rattle.wasi_table.specs.declared.forms.Form.TheVariants.{Absent, Bool, U8, U16, U32, U64, Str, List as ListForm, Option as OptionForm, Result, Tuple, Own, Borrow, Arrow}

-- the form, where the word is its word, else another
abbrev pub where_is : List ℕ → List ℕ → Form → Option Form → Option Form
where_is word named form other = if bytes_eq word named then Some form else other

-- none for a name
unfoldable pub form_named : List ℕ → Option Form
form_named w =
    where_is w (codes "_") Absent
    (where_is w (codes "bool") Bool
    (where_is w (codes "u8") U8
    (where_is w (codes "u16") U16
    (where_is w (codes "u32") U32
    (where_is w (codes "u64") U64
    (where_is w (codes "string") Str
    (where_is w (codes "list") ListForm
    (where_is w (codes "option") OptionForm
    (where_is w (codes "result") Result
    (where_is w (codes "tuple2") (Tuple 2)
    (where_is w (codes "tuple3") (Tuple 3)
    (where_is w (codes "tuple4") (Tuple 4)
    (where_is w (codes "tuple8") (Tuple 8)
    (where_is w (codes "own") Own
    (where_is w (codes "borrow") Borrow
    (where_is w (codes "->") Arrow None))))))))))))))))
