-- Lemmas on tests, and on what passed them.
use Rattle.std.proofs.Common.{◌≡◌, ℕ, List, [], ◌∷◌, Bool, true, false, Result, Ok, Err, if◌then◌else◌, refl, sym, not, ◌||◌, ◌==◌}
use Rattle.std.proofs.lemmas.Bool.{eq-eqb, ne_eqb}
use Rattle.std.specs.List.{list_any}
use Rattle.picky_wire_base.specs.Outcome.{and_then}
use Rattle.picky_text.specs.Lines.{HasNo}
use Rattle.picky_text.specs.Words.{ends_line}

-- what passed a test
pub passes : {A E : Type 0} (b : Bool) (x : Result A E) (e : E) (y : A)
    → (if b then x else Err e) ≡ Ok y → (b ≡ true) × (x ≡ Ok y)
passes true x e y same = (refl, same)
passes false x e y same = cc same

-- the error of a test is the one that it refuses with, or that of what follows it
pub refuses : {A E : Type 0} (P : E → Type 0) (b : Bool) (x : Result A E) (e f : E)
    → ((g : E) → x ≡ Err g → P g) → P e → (if b then x else Err e) ≡ Err f → P f
refuses P true x e f each own same = each f same
refuses P false x e f each own same = let is : e ≡ f = cc same in rw (sym is) own

pub not_true : (b : Bool) → not b ≡ true → b ≡ false
not_true true is = cc is
not_true false is = refl

-- a test says that a byte stands nowhere
pub test_from_has_no : (b : ℕ) (bytes : List ℕ) → HasNo b bytes → list_any (λ c. c == b) bytes ≡ false
test_from_has_no b [] none = refl
test_from_has_no b (c ∷ bytes) none = rw (ne_eqb c b none.0) (test_from_has_no b bytes none.1)

-- neither CR nor LF does
either : (x y : Bool) → (x || y) ≡ false → (x ≡ false) × (y ≡ false)
either true y is = cc is
either false y is = (refl, is)

pub no_end_from_test : (bytes : List ℕ) → list_any ends_line bytes ≡ false → HasNo 13 bytes × HasNo 10 bytes
no_end_from_test [] none = (tt, tt)
no_end_from_test (c ∷ bytes) none =
    let parts = either (ends_line c) (list_any ends_line bytes) none in
    let two = either (c == 13) (c == 10) parts.0 in
    let more = no_end_from_test bytes parts.1 in (
      (λ is. cc (two.0, eq-eqb c 13 is), more.0),
      (λ is. cc (two.1, eq-eqb c 10 is), more.1),
    )

pub test_from_no_end : (bytes : List ℕ) → HasNo 13 bytes → HasNo 10 bytes → list_any ends_line bytes ≡ false
test_from_no_end [] cr lf = refl
test_from_no_end (c ∷ bytes) cr lf =
    rw (ne_eqb c 13 cr.0, ne_eqb c 10 lf.0) (test_from_no_end bytes cr.1 lf.1)

-- so is the error of two steps
pub step_refuses : {A B E : Type 0} (P : E → Type 0) (r : Result A E) (next : A → Result B E) (f : E)
    → ((g : E) → r ≡ Err g → P g) → ((x : A) (g : E) → next x ≡ Err g → P g) → and_then r next ≡ Err f → P f
step_refuses P (Ok x) next f first second same = second x f same
step_refuses P (Err e) next f first second same = let is : e ≡ f = cc same in rw (sym is) (first e refl)
