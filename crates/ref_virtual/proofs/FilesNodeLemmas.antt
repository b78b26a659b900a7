-- What rows say of a node, by its kind.
use Rattle.std.proofs.Common.{◌≡◌, ◌≢◌, ℕ, List, [], Some, length, min, refl, ap}
use Rattle.tree_table.specs.declared.entries.Node.{Node}
use Rattle.tree_table.specs.declared.entries.Node.TheVariants.{Folder, File, Link}
use Rattle.tree_table.specs.declared.slot.NodeKind.TheVariants as kinds
use Rattle.tree_table.specs.Slots.{kind_of}
use Rattle.tree_table.specs.Tables.{content_of}
use Rattle.reference_step.specs.Codes as code
use Rattle.reference_step.specs.Handles.{Content}
use Rattle.reference_step.specs.Nodes.{type_of, size_of, file_bytes}
use Rattle.reference_step.specs.Descriptors.{stream_at, read_node, listed, link_at, bytes_from}
use Rattle.reference_step.specs.Values.{ok}
use Rattle.wit_types.specs.PlainValue.{StringValue}
use Rattle.reference_step.specs.State.{returns, fails, gives_ok}

pub type_folder : (n : Node) → kind_of n ≡ kinds.Folder → type_of (Some n) ≡ 3
type_folder Folder is = refl
type_folder (File content) is = cc
type_folder (Link target) is = cc

pub type_file : (n : Node) → kind_of n ≡ kinds.File → type_of (Some n) ≡ 6
type_file Folder is = cc
type_file (File content) is = refl
type_file (Link target) is = cc

pub type_link : (n : Node) → kind_of n ≡ kinds.Link → type_of (Some n) ≡ 5
type_link Folder is = cc
type_link (File content) is = cc
type_link (Link target) is = refl

pub size_folder : (n : Node) → kind_of n ≡ kinds.Folder → size_of (Some n) ≡ 0
size_folder Folder is = refl
size_folder (File content) is = cc
size_folder (Link target) is = cc

pub size_file : (n : Node) → kind_of n ≡ kinds.File → size_of (Some n) ≡ length (content_of n)
size_file Folder is = cc
size_file (File content) is = refl
size_file (Link target) is = cc

pub size_link : (n : Node) → kind_of n ≡ kinds.Link → size_of (Some n) ≡ length (content_of n)
size_link Folder is = cc
size_link (File content) is = cc
size_link (Link target) is = refl

pub bytes_folder : (n : Node) → kind_of n ≡ kinds.Folder → file_bytes (Some n) ≡ []
bytes_folder Folder is = refl
bytes_folder (File content) is = cc
bytes_folder (Link target) is = cc

pub bytes_file : (n : Node) → kind_of n ≡ kinds.File → file_bytes (Some n) ≡ content_of n
bytes_file Folder is = cc
bytes_file (File content) is = refl
bytes_file (Link target) is = cc

pub bytes_link : (n : Node) → kind_of n ≡ kinds.Link → file_bytes (Some n) ≡ []
bytes_link Folder is = cc
bytes_link (File content) is = cc
bytes_link (Link target) is = refl

pub stream_folder : (n : Node) (offset : ℕ) (at : ℕ → Content) → kind_of n ≡ kinds.Folder → stream_at (Some n) offset at ≡ fails code.is_directory
stream_folder Folder offset at is = refl
stream_folder (File content) offset at is = cc
stream_folder (Link target) offset at is = cc

pub stream_file : (n : Node) (offset : ℕ) (at : ℕ → Content) → kind_of n ≡ kinds.File → stream_at (Some n) offset at ≡ gives_ok (at (min offset (length (content_of n))))
stream_file Folder offset at is = cc
stream_file (File content) offset at is = refl
stream_file (Link target) offset at is = cc

pub stream_link : (n : Node) (offset : ℕ) (at : ℕ → Content) → kind_of n ≡ kinds.Link → stream_at (Some n) offset at ≡ fails code.is_directory
stream_link Folder offset at is = cc
stream_link (File content) offset at is = cc
stream_link (Link target) offset at is = refl

pub read_folder : (n : Node) (len offset : ℕ) → kind_of n ≡ kinds.Folder → read_node (Some n) len offset ≡ fails code.is_directory
read_folder Folder len offset is = refl
read_folder (File content) len offset is = cc
read_folder (Link target) len offset is = cc

pub read_file : (n : Node) (len offset : ℕ) → kind_of n ≡ kinds.File → read_node (Some n) len offset ≡ returns (bytes_from (content_of n) len offset)
read_file Folder len offset is = cc
read_file (File content) len offset is = refl
read_file (Link target) len offset is = cc

pub read_link : (n : Node) (len offset : ℕ) → kind_of n ≡ kinds.Link → read_node (Some n) len offset ≡ fails code.is_directory
read_link Folder len offset is = cc
read_link (File content) len offset is = cc
read_link (Link target) len offset is = refl

pub listed_folder : (n : Node) (entries : Content) → kind_of n ≡ kinds.Folder → listed (Some n) entries ≡ gives_ok entries
listed_folder Folder entries is = refl
listed_folder (File content) entries is = cc
listed_folder (Link target) entries is = cc

pub listed_file : (n : Node) (entries : Content) → kind_of n ≡ kinds.File → listed (Some n) entries ≡ fails code.not_directory
listed_file Folder entries is = cc
listed_file (File content) entries is = refl
listed_file (Link target) entries is = cc

pub listed_link : (n : Node) (entries : Content) → kind_of n ≡ kinds.Link → listed (Some n) entries ≡ gives_ok entries
listed_link Folder entries is = cc
listed_link (File content) entries is = cc
listed_link (Link target) entries is = refl

-- a node of another kind is no folder
pub other_file : (n : Node) → kind_of n ≡ kinds.File → n ≢ Folder
other_file Folder is same = cc
other_file (File content) is same = cc
other_file (Link target) is same = cc

pub other_link : (n : Node) → kind_of n ≡ kinds.Link → n ≢ Folder
other_link Folder is same = cc
other_link (File content) is same = cc
other_link (Link target) is same = cc

pub ruleset node_rules = (type_folder, type_file, type_link, size_folder, size_file, size_link, bytes_folder, bytes_file, bytes_link, stream_folder, stream_file, stream_link, read_folder, read_file, read_link, listed_folder, listed_file, listed_link, other_file, other_link)

-- a link, and another node
pub link_there : (n : Node) (target : List ℕ) → n ≡ Link target → link_at (Some n) ≡ returns (ok (StringValue target))
link_there n target is = ap (λ (m : Node). link_at (Some m)) is

pub link_none : (n : Node) → ((target : List ℕ) → n ≢ Link target) → link_at (Some n) ≡ fails code.invalid
link_none Folder other = refl
link_none (File content) other = refl
link_none (Link target) other = absurd (other target refl)

pub ruleset link_rules = (link_there, link_none)
