-- What a ledger keeps: the serial that is next, and its entries.
use Rattle.std.specs.Prelude.{◌≡◌, ◌<◌, ◌^◌, ℕ, false, List, [], ◌∷◌, Option, Some, None, bytes_eq, if◌then◌else◌}
use Rattle.std.specs.List.{AllByRecursion}
use Rattle.picky_ledger.specs.declared.entry.Entry.{Entry}
use Rattle.picky_ledger.specs.Entry.{IsEntry}

pub record State : Type 0 where
  -- the serial of the next certificate
  pub next : ℕ
  pub entries : List Entry

-- the serials increase, from above the last to below the next
abbrev pub Increase : (last next : ℕ) → List Entry → Type 0
Increase last next [] = Unit {0}
Increase last next (e ∷ more) = (last < e.serial) × (e.serial < next) × Increase e.serial next more

-- no entry has the id
abbrev pub IsNew : (id : List ℕ) → List Entry → Type 0
IsNew id entries = AllByRecursion (λ e. bytes_eq e.id id ≡ false) entries

-- no two entries have one id
abbrev pub Differ : List Entry → Type 0
Differ [] = Unit {0}
Differ (e ∷ more) = IsNew e.id more × Differ more

pub record IsLedger (l : State) : Type 0 where
  pub some : 0 < l.next
  pub fits : l.next < 2 ^ 64
  pub each : AllByRecursion IsEntry l.entries
  pub increase : Increase 0 l.next l.entries
  pub differ : Differ l.entries

-- ---- an entry by its id

unfoldable pub entry_named : (id : List ℕ) → List Entry → Option Entry
entry_named id [] = None
entry_named id (e ∷ more) = if bytes_eq e.id id then Some e else entry_named id more
