-- The last serial, and a line that is too long.
use Rattle.std.proofs.Common.{◌≡◌, ◌-◌, ◌<◌, ◌≤◌, ◌^◌, ◌∷◌, ◌∙◌, ℕ, List, [], Some, ap, arith, flat_map, get_or, length, suc}
use Rattle.std.proofs.lemmas.List.{length-append}
use Rattle.std.proofs.lemmas.List.Folds.{length-flat_map-take}
use Rattle.std.specs.List.{slice_get}
use Rattle.picky_ledger.specs.declared.entry.Entry.{Entry}
use Rattle.picky_ledger.specs.Entry.{entry_line}
use Rattle.picky_ledger.specs.LedgerText.{last_serial, ledger_text, next_line}
use Rattle.picky_ledger.specs.State.{State}

pub last_is : (last : ℕ) (es : List Entry) (e : Entry) → Some e ≡ slice_get es (length es - 1) → e.serial ≡ last_serial last es
last_is last [] e is = absurd (cc is)
last_is last (x ∷ []) e is = let same : e ≡ x = cc is in ap (λ (y : Entry). y.serial) same
last_is last (x ∷ y ∷ es) e is =
    let at : length (x ∷ y ∷ es) - 1 ≡ suc (length (y ∷ es) - 1) = omega arith in
    last_is x.serial (y ∷ es) e (is ∙ ap (slice_get (x ∷ y ∷ es)) at)

-- an entry's line is no longer than the text
pub line_too_long : (l : State) (es : List Entry) (i : ℕ) (e : Entry) → es ≡ l.entries → i < length es → e ≡ get_or es i e
    → 2 ^ 32 ≤ length (entry_line e) → 2 ^ 32 ≤ length (ledger_text l)
unfolding ledger_text
line_too_long l es i e same below is long =
    let whole = length-append (next_line l.next) (flat_map entry_line l.entries) in
    let within = length-flat_map-take entry_line es i e below in
    let line : length (entry_line e) ≡ length (entry_line (get_or es i e)) = ap (λ x. length (entry_line x)) is in
    let all : length (flat_map entry_line es) ≡ length (flat_map entry_line l.entries) =
    ap (λ xs. length (flat_map entry_line xs)) same in
    omega (arith, whole, within, line, all, long)
