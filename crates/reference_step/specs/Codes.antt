-- Numbers of cases, in the order in which WASI 0.2 lists them.
use Rattle.std.specs.Prelude.{ℕ}

-- wasi:filesystem/types, enum error-code
abbrev pub bad_descriptor : ℕ
bad_descriptor = 3

abbrev pub busy : ℕ
busy = 4

abbrev pub exist : ℕ
exist = 7

abbrev pub illegal_byte_sequence : ℕ
illegal_byte_sequence = 9

abbrev pub invalid : ℕ
invalid = 12

abbrev pub is_directory : ℕ
is_directory = 14

abbrev pub loop : ℕ
loop = 15

abbrev pub name_too_long : ℕ
name_too_long = 18

abbrev pub no_entry : ℕ
no_entry = 20

abbrev pub insufficient_memory : ℕ
insufficient_memory = 22

abbrev pub insufficient_space : ℕ
insufficient_space = 23

abbrev pub not_directory : ℕ
not_directory = 24

abbrev pub unsupported : ℕ
unsupported = 27

abbrev pub read_only : ℕ
read_only = 33

abbrev pub cross_device : ℕ
cross_device = 36

-- wasi:sockets/network, enum error-code
abbrev pub access_denied : ℕ
access_denied = 1

abbrev pub out_of_memory : ℕ
out_of_memory = 4

-- wasi:filesystem/types, enum descriptor-type
abbrev pub directory : ℕ
directory = 3

abbrev pub symbolic_link : ℕ
symbolic_link = 5

abbrev pub regular_file : ℕ
regular_file = 6
