-- What std's parse reads of a text without a plus and a needless zero is the number whose decimal it is.
use Rattle.std.proofs.Common.{◌≡◌, ◌≢◌, ℕ, ◌<◌, ◌≤◌, ◌⊎◌, List, length, get_or, sym, subst}
use Rattle.picky_issuing.proofs.NumberLaws.{padded_none, read_names, unread_none}
use Rattle.picky_issuing.proofs.value.number_of.Goals as goal

pub returns-then-is_padded : goal.returns-then-is_padded
returns-then-is_padded c =
    let P : List ℕ → Type 0 = λ l. (get_or l 0 0 ≡ 43) ⊎ ((get_or l 0 0 ≡ 48) × (1 < length l)) in
    sym (padded_none c.args.text.now (subst P c.as_bytes.ensures.value (c.is_padded.ensures.padded c.if-is_padded.true)))

pub returns-in-Ok : goal.returns-in-Ok
returns-in-Ok c =
    let P : List ℕ → Type 0 = λ l. (get_or l 0 0 ≢ 43) × (get_or l 0 0 ≡ 48 → length l ≤ 1) in
    let plain : P c.args.text.now = subst P c.as_bytes.ensures.value (c.is_padded.ensures.plain c.if-is_padded.false) in
    sym (read_names c.args.text.now c.in-Ok.number plain.0 plain.1 c.in-Ok.ensures.value.0)

pub returns-in-Err : goal.returns-in-Err
returns-in-Err c =
    let P : List ℕ → Type 0 = λ l. (get_or l 0 0 ≢ 43) × (get_or l 0 0 ≡ 48 → length l ≤ 1) in
    let plain : P c.args.text.now = subst P c.as_bytes.ensures.value (c.is_padded.ensures.plain c.if-is_padded.false) in
    sym (unread_none c.args.text.now plain.0 c.in-Err.ensures.value.0)
