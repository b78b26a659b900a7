-- The script over which a generated component runs: the k-th answer is 1000003 k + 7, there are as many as calls of the host, and each
-- function is called once, in order.
use Rattle.std.specs.Prelude.{ℕ, zero, suc, ◌+◌, ◌*◌, List, [], ◌∷◌, ◌++◌, codes}
use Rattle.std.specs.Fmt.{decimal}
use Rattle.generated.specs.Generated.{random_calls}

-- what stands before the k-th text of a list
abbrev pub comma : ℕ → List ℕ
comma zero = []
comma (suc k) = codes ","

-- the texts 0 to n - 1, a comma between two
abbrev pub spaced : (ℕ → List ℕ) → ℕ → List ℕ
spaced item zero = []
spaced item (suc n) = (spaced item n ++ comma n) ++ item n

abbrev pub answer_text : ℕ → List ℕ
answer_text k = codes "{\"value\":" ++ (decimal (1000003 * k + 7) ++ codes "}")

abbrev pub call_text : ℕ → List ℕ
call_text i = codes "[\"f" ++ (decimal i ++ codes "\",[]]")

-- how many calls of the host that number of functions make, each called once
abbrev pub host_calls : ℕ → ℕ
host_calls zero = 0
host_calls (suc n) = host_calls n + random_calls n

unfoldable pub script_text : ℕ → List ℕ
script_text n =
    (((codes "{\"answers\":[" ++ spaced answer_text (host_calls n)) ++ codes "],\"calls\":[") ++ spaced call_text n) ++ codes "]}"
