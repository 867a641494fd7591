-- Answers that are joined: what was Ok.
use Rattle.std.specs.Prelude.{◌≡◌, Bool, true, false, if◌then◌else◌, Result, Ok, Err}
use Rattle.std.specs.Result.{result_unwrap_or}
use Rattle.std.proofs.Common.{sym, ◌∙◌, ap, refl}
use Rattle.picky_wire_base.specs.Outcome.{and_then, map_err}

-- Where both steps answer Ok, so did the first.
pub and_then_ok : {E A B : Type 0} (r : Result A E) (next : A → Result B E) (y : B)
    → and_then r next ≡ Ok y → (x : A) × (r ≡ Ok x) × (next x ≡ Ok y)
and_then_ok (Ok x) next y both = (x, refl, both)
and_then_ok (Err e) next y both = cc both

pub map_err_ok : {E F A : Type 0} (f : E → F) (r : Result A E) (x : A)
    → map_err f r ≡ Ok x → r ≡ Ok x
map_err_ok f (Ok y) x same = cc same
map_err_ok f (Err e) x same = cc same

-- An outcome gives one pair.
pub same_pair : {E A B : Type 0} (r : Result (A × B) E) (x y : A) (m n : B)
    → r ≡ Ok (x, m) → r ≡ Ok (y, n) → (x ≡ y) × (m ≡ n)
same_pair r x y m n first second =
    let pairs = ap (λ o. result_unwrap_or o (x, m)) (sym first ∙ second) in
    (ap (λ p. p.0) pairs, ap (λ p. p.1) pairs)

-- Where a refused test lets nothing pass, what passed is the value.
pub guard_ok : {E A : Type 0} (refused : Bool) (e : E) (x y : A)
    → (if refused then Err e else Ok x) ≡ Ok y → (refused ≡ false) × (x ≡ y)
guard_ok true e x y same = cc same
guard_ok false e x y same = (refl, cc same)

-- Where a test refuses nothing, the value passes.
pub pass_ok : {E A : Type 0} (refused : Bool) (e : E) (x y : A)
    → refused ≡ false → x ≡ y → (if refused then Err e else Ok x) ≡ Ok y
pass_ok refused e x y passes same = ap (λ b. if b then Err e else Ok x) passes ∙ ap Ok same

-- Where a test lets a value pass, what passed is the value.
pub passed_ok : {E A : Type 0} (passes : Bool) (e : E) (x y : A)
    → (if passes then Ok x else Err e) ≡ Ok y → (passes ≡ true) × (x ≡ y)
passed_ok true e x y same = (refl, cc same)
passed_ok false e x y same = cc same
