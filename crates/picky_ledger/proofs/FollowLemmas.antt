-- An entry may follow those before it exactly where the ledger stays one.
use Rattle.std.proofs.Common.{◌≡◌, ◌<◌, ◌&&◌, ◌||◌, ◌∙◌, ◌++◌, ◌∷◌, ℕ, Bool, List, []}
use Rattle.std.proofs.Common.{true, false, not, ap, arith, bytes_eq, inl, inr, nat_lt, refl}
use Rattle.std.proofs.lemmas.Bool.{and_from, and_parts, cases_Bool}
use Rattle.std.proofs.lemmas.Bool.Decides.{nat_tests}
use Rattle.std.specs.List.{list_any}
use Rattle.picky_ledger.specs.declared.entry.Entry.{Entry}
use Rattle.picky_ledger.specs.LedgerText.{last_serial, may_follow}
use Rattle.picky_ledger.specs.State.{Differ, Increase, IsNew}
use Rattle.picky_ledger.proofs.StateLemmas.{apart_back}

-- ---- where it is one

-- the serial of an entry amid others is above the last before it
serial_amid : (last next : ℕ) (before more : List Entry) (e : Entry) → Increase last next (before ++ e ∷ more)
    → (last_serial last before < e.serial) × (e.serial < next)
serial_amid last next [] more e up = (up.0, up.1)
serial_amid last next (x ∷ before) more e up = serial_amid x.serial next before more e up.2

-- and its id is none of theirs
other_amid : (id : List ℕ) (before more : List Entry) (e : Entry) → IsNew id (before ++ e ∷ more) → bytes_eq e.id id ≡ false
other_amid id [] more e new = new.0
other_amid id (x ∷ before) more e new = other_amid id before more e new.1

id_amid : (before more : List Entry) (e : Entry) → Differ (before ++ e ∷ more) → list_any (λ x. bytes_eq x.id e.id) before ≡ false
id_amid [] more e differ = refl
id_amid (x ∷ before) more e differ =
    let first : bytes_eq x.id e.id ≡ false = apart_back e.id x.id (other_amid x.id before more e differ.0) in
    ap (λ b. b || list_any (λ y. bytes_eq y.id e.id) before) first ∙ id_amid before more e differ.1

pub follows_amid : (next : ℕ) (before more : List Entry) (e : Entry) → Increase 0 next (before ++ e ∷ more)
    → Differ (before ++ e ∷ more) → may_follow next before e ≡ true
follows_amid next before more e up differ =
    let serial = serial_amid 0 next before more e up in
    let above : nat_lt (last_serial 0 before) e.serial ≡ true = grind (arith, nat_tests, serial.0) in
    let below : nat_lt e.serial next ≡ true = grind (arith, nat_tests, serial.1) in
    and_from _ _ (and_from _ _ above below) (ap not (id_amid before more e differ))

-- ---- where it follows

increase_follows : (last next : ℕ) (before : List Entry) (e : Entry) → Increase last next before → last_serial last before < e.serial
    → e.serial < next → Increase last next (before ++ e ∷ [])
increase_follows last next [] e up above below = (above, below, tt)
increase_follows last next (x ∷ before) e up above below = (up.0, up.1, increase_follows x.serial next before e up.2 above below)

not_any : (id : List ℕ) (before : List Entry) → not (list_any (λ x. bytes_eq x.id id) before) ≡ true → IsNew id before
not_any id [] none = tt
not_any id (x ∷ before) none = elim (cases_Bool (bytes_eq x.id id)) [
  | inl same ↦ absurd (cc (rw same at none))
  | inr other ↦ (other, not_any id before (rw other at none))
]

pub record Follows (next : ℕ) (before : List Entry) (e : Entry) : Type 0 where
  pub increase : Increase 0 next (before ++ e ∷ [])
  pub new : IsNew e.id before

pub follows : (next : ℕ) (before : List Entry) (e : Entry) → Increase 0 next before → may_follow next before e ≡ true
    → Follows next before e
follows next before e up may =
    let up_to : Bool = nat_lt (last_serial 0 before) e.serial && nat_lt e.serial next in
    let both = and_parts up_to (not (list_any (λ x. bytes_eq x.id e.id) before)) may in
    let serial = and_parts (nat_lt (last_serial 0 before) e.serial) (nat_lt e.serial next) both.0 in
    let above : last_serial 0 before < e.serial = grind (arith, nat_tests, serial.0) in
    let below : e.serial < next = grind (arith, nat_tests, serial.1) in
    record { increase = increase_follows 0 next before e up above below; new = not_any e.id before both.1 }
