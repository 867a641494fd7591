-- Fields whose value must be the key of an entry in a table, which it then stands for.
use Rattle.std.specs.Prelude.{◌≡◌, Bool, List, ℕ, ◌==◌, Option, Some, find}
use Rattle.std.specs.Bool.{Decides}
use Rattle.std.specs.Cmp.{unsigned_Decides}

-- entries, each with a key of its own
pub record Table (K A : Type 0) : Type 0 where
  -- the entries, in the order in which their keys are tried
  pub entries : List A
  pub key : A → K
  pub same : K → K → Bool
  pub decides : (k l : K) → Decides (same k l) (k ≡ l)
  -- each entry is the first with its key
  pub own : (a : A) → find (λ b. same (key a) (key b)) entries ≡ Some a

-- the entry with this key
abbrev pub find_entry : {K A : Type 0} → Table K A → K → Option A
find_entry T k = find (λ a. T.same k (T.key a)) T.entries

-- a table of numbers
abbrev pub numbers : {A : Type 0} (entries : List A) (number : A → ℕ)
    → ((a : A) → find (λ b. number a == number b) entries ≡ Some a) → Table ℕ A
numbers rows number each = record {
  entries = rows;
  key = number;
  same = λ m n. m == n;
  decides = unsigned_Decides;
  own = each;
}
