-- A word of this crate's private contracts: the ids of the entries that were read so far, in a set.
use Rattle.std.specs.Prelude.{◌≡◌, ℕ, List, bytes_eq}
use Rattle.std.specs.BTreeSet.{BTreeSet, contains_by}
use Rattle.std.specs.Cmp.Lexicographic.{slice_cmp}
use Rattle.std.specs.List.{list_any}
use Rattle.std.specs.Ordering.{nat_cmp}
use denote.Ref.{Bor}
use Rattle.picky_ledger.specs.declared.entry.Entry.{Entry}

-- the set has the id of each of these entries, and no other text
abbrev pub HasIds : BTreeSet (Bor (List ℕ)) → List Entry → Type 0
HasIds ids entries =
    (id : List ℕ) → contains_by (λ (k : Bor (List ℕ)). slice_cmp nat_cmp id k.now) ids ≡ list_any (λ e. bytes_eq e.id id) entries
