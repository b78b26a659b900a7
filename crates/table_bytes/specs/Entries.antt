-- What the bytes of a used place stand for: a tag, a word and a long word.
use Rattle.std.specs.Prelude.{ℕ, ◌<◌, ◌^◌, ◌==◌, if◌then◌else◌, true, false, Some, None}
use Rattle.table_bytes.specs.declared.entry.Entry.{Entry}
use Rattle.table_bytes.specs.declared.entry.Entry.TheVariants.{Host, Node, FileAt, EmptyIn, Discard, Always, Entries, ScratchRoot, ScratchEntries, ScratchFile, ScratchIn, ScratchOut}

-- each entry has its tag; 0 is that of a free place
abbrev pub tag_of : Entry → ℕ
tag_of (Host index) = 1
tag_of (Node node) = 2
tag_of (FileAt node at) = 3
tag_of EmptyIn = 4
tag_of Discard = 5
tag_of Always = 6
tag_of (Entries node left) = 7
tag_of ScratchRoot = 8
tag_of (ScratchEntries number) = 9
tag_of (ScratchFile number false) = 10
tag_of (ScratchFile number true) = 11
tag_of (ScratchIn number at) = 12
tag_of (ScratchOut number (Some at)) = 13
tag_of (ScratchOut number None) = 14

abbrev pub word_of : Entry → ℕ
word_of (Host index) = index
word_of (Node node) = node
word_of (FileAt node at) = node
word_of (Entries node left) = node
word_of (ScratchEntries number) = number
word_of (ScratchFile number may_write) = number
word_of (ScratchIn number at) = number
word_of (ScratchOut number at) = number
word_of other = 0

abbrev pub long_of : Entry → ℕ
long_of (FileAt node at) = at
long_of (Entries node left) = left
long_of (ScratchIn number at) = at
long_of (ScratchOut number (Some at)) = at
long_of other = 0

-- the entry of a tag, a word and a long word; the words that it does not need are not looked at
abbrev pub entry_of : ℕ → ℕ → ℕ → Entry
entry_of tag word long =
    if tag == 1 then Host word else (
    if tag == 2 then Node word else (
    if tag == 3 then FileAt word long else (
    if tag == 4 then EmptyIn else (
    if tag == 5 then Discard else (
    if tag == 6 then Always else (
    if tag == 7 then Entries word long else (
    if tag == 8 then ScratchRoot else (
    if tag == 9 then ScratchEntries word else (
    if tag == 10 then ScratchFile word false else (
    if tag == 11 then ScratchFile word true else (
    if tag == 12 then ScratchIn word long else (
    if tag == 13 then ScratchOut word (Some long)
    else ScratchOut word None))))))))))))

-- the words of the entry fit their bytes
pub record IsShort (e : Entry) : Type 0 where
  pub word : word_of e < 2 ^ 32
  pub long : long_of e < 2 ^ 64
