-- What a value at a path stands for, or its first fault.
use Rattle.std.specs.Prelude.{ℕ, suc, List, [], Bool, not, Option, Some, None, Result, Ok, Err, length, nat_lt, if◌then◌else◌, ◌==◌, ◌&&◌, pos}
use Rattle.toml.specs.Data.{Data, string, integer, boolean, array, Items, no_items, item, Members, no_members, member}
use Rattle.policy_data.specs.declared.fault.ReadPolicyFault.{ReadPolicyFault}
use Rattle.policy_data.specs.declared.fault.ReadPolicyFault.TheVariants.{BadValue, OverLimit}
use Rattle.path_names.specs.Parts.{holds_byte}
use Rattle.policy_toml.specs.Keys.{nth}
use Rattle.policy_toml.specs.Reading.{each_item}

abbrev pub natural_in : ℕ → ℕ → List ℕ → ℕ → Result ℕ ReadPolicyFault
natural_in least greatest path n =
    if nat_lt n least then Err (BadValue path) else (if nat_lt greatest n then Err (OverLimit path n) else Ok n)

-- a whole number in a range
abbrev pub number_in : ℕ → ℕ → List ℕ → Data → Result ℕ ReadPolicyFault
number_in least greatest path (integer (pos n)) = natural_in least greatest path n
number_in least greatest path _ = Err (BadValue path)

-- a whole number from 0 on
abbrev pub natural : List ℕ → Data → Result ℕ ReadPolicyFault
natural path (integer (pos n)) = Ok n
natural path _ = Err (BadValue path)

abbrev pub choice_of : {A : Type 0} → List ℕ → Option A → Result A ReadPolicyFault
choice_of path (Some a) = Ok a
choice_of path None = Err (BadValue path)

-- one of some words
abbrev pub word_in : {A : Type 0} → (List ℕ → Option A) → List ℕ → Data → Result A ReadPolicyFault
word_in named path (string word) = choice_of path (named word)
word_in named path _ = Err (BadValue path)

abbrev pub boolean_in : List ℕ → Data → Result Bool ReadPolicyFault
boolean_in path (boolean b) = Ok b
boolean_in path _ = Err (BadValue path)

-- ---- texts

abbrev pub any_text : List ℕ → Data → Result (List ℕ) ReadPolicyFault
any_text path (string text) = Ok text
any_text path _ = Err (BadValue path)

-- a string that passes a test
abbrev pub text_such : (List ℕ → Bool) → List ℕ → Data → Result (List ℕ) ReadPolicyFault
text_such test path (string text) = if test text then Ok text else Err (BadValue path)
text_such test path _ = Err (BadValue path)

-- without NUL
abbrev pub is_plain : List ℕ → Bool
is_plain text = not (holds_byte 0 text)

-- a name that a variable may have: not empty, without NUL and `=`
abbrev pub is_variable : List ℕ → Bool
is_variable name = not (length name == 0) && (not (holds_byte 0 name) && not (holds_byte 61 name))

-- ---- lists

abbrev pub item_count : Items → ℕ
item_count no_items = 0
item_count (item d ds) = suc (item_count ds)

abbrev pub member_count : Members → ℕ
member_count no_members = 0
member_count (member key d ms) = suc (member_count ms)

-- an item that is read like a value alone
abbrev pub each : {A : Type 0} → (List ℕ → Data → Result A ReadPolicyFault) → List ℕ → List A → Data → Result A ReadPolicyFault
each read path seen d = read (nth path (length seen)) d

-- an array of at most that many items
abbrev pub list_in : {A : Type 0} → ℕ → (List ℕ → List A → Data → Result A ReadPolicyFault) → List ℕ → Data → Result (List A) ReadPolicyFault
list_in greatest read path (array ds) =
    if nat_lt greatest (item_count ds) then Err (OverLimit path (item_count ds)) else each_item (read path) [] ds
list_in greatest read path _ = Err (BadValue path)
