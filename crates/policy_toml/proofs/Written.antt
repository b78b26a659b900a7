-- What a policy writes out of a tree, part after part.
use Rattle.std.proofs.Common.{◌≡◌, ◌∙◌, ap, sym, ℕ, List, [], ◌++◌, Bool, Result, Ok, Err, map}
use Rattle.std.specs.Prelude.{codes}
use Rattle.std.specs.List.{list_any}
use Rattle.toml.specs.Data.{Members}
use Rattle.policy_data.specs.declared.fault.ReadPolicyFault.{ReadPolicyFault}
use Rattle.policy_data.specs.declared.data.EmbeddedFile.{EmbeddedFile}
use Rattle.policy_data.specs.declared.data.Embedded.{Embedded}
use Rattle.policy_data.specs.declared.data.Link.{Link}
use Rattle.policy_toml.specs.Reading.{Gives, and_then}
use Rattle.policy_toml.specs.Keys.{optional}
use Rattle.path_names.specs.Paths.{Placed}
use Rattle.policy_toml.specs.Trees.{embedded_of, file_placed, files_in, folder_placed, folders_in, links_in}
use Rattle.policy_toml.proofs.Placing.{any_more, folders_same, links_same, gives_stop}

abbrev the_files : List ℕ → Members → Result (List EmbeddedFile) ReadPolicyFault
the_files path ms = optional path (codes "files") [] files_in ms

abbrev the_folders : List ℕ → List Placed → Members → Result (List (List ℕ)) ReadPolicyFault
the_folders path there ms = optional path (codes "folders") [] (folders_in there) ms

abbrev the_links : List ℕ → List Placed → Members → Result (List Link) ReadPolicyFault
the_links path there ms = optional path (codes "links") [] (links_in there) ms

after_folders : List ℕ → List EmbeddedFile → Members → List (List ℕ) → Result Embedded ReadPolicyFault
after_folders path files ms folders =
    and_then (the_links path (map file_placed files ++ map folder_placed folders) ms) (λ links. Ok (record { files = files; folders = folders; links = links }))

after_files : List ℕ → Members → List EmbeddedFile → Result Embedded ReadPolicyFault
unfolding after_folders
after_files path ms files = and_then (the_folders path (map file_placed files) ms) (after_folders path files ms)

to_folders : (path : List ℕ) (ms : Members) (files : List EmbeddedFile) (there : List Placed) → the_files path ms ≡ Ok files
    → ((test : Placed → Bool) → list_any test there ≡ list_any test (map file_placed files))
    → embedded_of path ms ≡ and_then (the_folders path there ms) (after_folders path files ms)
unfolding after_files after_folders
to_folders path ms files there read same =
    ap (λ r. and_then r (after_files path ms)) read
    ∙ ap (λ r. and_then r (after_folders path files ms)) (sym (folders_same path there (map file_placed files) ms same))

to_links : (path : List ℕ) (ms : Members) (files : List EmbeddedFile) (folders : List (List ℕ)) (there more : List Placed) → the_files path ms ≡ Ok files
    → ((test : Placed → Bool) → list_any test there ≡ list_any test (map file_placed files))
    → the_folders path there ms ≡ Ok folders
    → ((test : Placed → Bool) → list_any test more ≡ list_any test (there ++ map folder_placed folders))
    → embedded_of path ms ≡ and_then (the_links path more ms) (λ links. Ok (record { files = files; folders = folders; links = links }))
unfolding after_folders
to_links path ms files folders there more read same then beside =
    to_folders path ms files there read same
    ∙ (ap (λ r. and_then r (after_folders path files ms)) then
    ∙ ap (λ r. and_then r (λ links. Ok (record { files = files; folders = folders; links = links })))
    (sym (links_same path more (map file_placed files ++ map folder_placed folders) ms
    (λ test. beside test ∙ any_more there (map file_placed files) (map folder_placed folders) same test))))

pub folders_stop : (path : List ℕ) (ms : Members) (files : List EmbeddedFile) (there : List Placed) (e : ReadPolicyFault) → the_files path ms ≡ Ok files
    → ((test : Placed → Bool) → list_any test there ≡ list_any test (map file_placed files))
    → Gives (the_folders path there ms) (Err e) → Gives (embedded_of path ms) (Err e)
unfolding after_folders
folders_stop path ms files there e read same h =
    gives_stop (the_folders path there ms) (embedded_of path ms) e h
    (λ f stops. to_folders path ms files there read same ∙ ap (λ r. and_then r (after_folders path files ms)) stops)

pub links_stop : (path : List ℕ) (ms : Members) (files : List EmbeddedFile) (folders : List (List ℕ)) (there more : List Placed) (e : ReadPolicyFault)
    → the_files path ms ≡ Ok files
    → ((test : Placed → Bool) → list_any test there ≡ list_any test (map file_placed files))
    → the_folders path there ms ≡ Ok folders
    → ((test : Placed → Bool) → list_any test more ≡ list_any test (there ++ map folder_placed folders))
    → Gives (the_links path more ms) (Err e) → Gives (embedded_of path ms) (Err e)
links_stop path ms files folders there more e read same then beside h =
    gives_stop (the_links path more ms) (embedded_of path ms) e h
    (λ f stops. to_links path ms files folders there more read same then beside
    ∙ ap (λ r. and_then r (λ links. Ok (record { files = files; folders = folders; links = links }))) stops)

pub all_written : (path : List ℕ) (ms : Members) (files : List EmbeddedFile) (folders : List (List ℕ)) (links : List Link) (there more : List Placed)
    → the_files path ms ≡ Ok files
    → ((test : Placed → Bool) → list_any test there ≡ list_any test (map file_placed files))
    → the_folders path there ms ≡ Ok folders
    → ((test : Placed → Bool) → list_any test more ≡ list_any test (there ++ map folder_placed folders))
    → the_links path more ms ≡ Ok links
    → embedded_of path ms ≡ Ok (record { files = files; folders = folders; links = links })
all_written path ms files folders links there more read same then beside last =
    to_links path ms files folders there more read same then beside
    ∙ ap (λ r. and_then r (λ ls. Ok (record { files = files; folders = folders; links = ls }))) last
