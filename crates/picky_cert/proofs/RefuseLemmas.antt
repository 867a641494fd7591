-- For which reasons a layout is refused, by the layouts that it is made of.
use Rattle.std.specs.Prelude.{◌≡◌, Bool, true, false, List, [], ◌∷◌, ℕ, zero, suc, length, Option, Some, None, Result, Ok, Err}
use Rattle.std.specs.Prelude.{if◌then◌else◌, ok_or}
use Rattle.std.specs.Str.{IsUtf8}
use Rattle.std.proofs.Common.{ap, refl, subst, sym}
use Rattle.picky_wire_base.specs.Flaw.{Flaw}
use Rattle.picky_wire_base.specs.Combine.{narrow, tag}
use Rattle.picky_wire_base.specs.carried.Outcome.{map_err_ok}
use Rattle.picky_wire_base.specs.Entry.{entry}
use Rattle.picky_wire_base.specs.Grammar.{Grammar}
use Rattle.picky_wire_base.specs.Inside.{begins, inside}
use Rattle.picky_wire_base.specs.Many.{row}
use Rattle.picky_wire_base.specs.Narrowed.{Narrowing, meant}
use Rattle.picky_wire_base.specs.Outcome.{and_then, map_err}
use Rattle.picky_wire_base.specs.Row.{Solid, after, read_all, read_within}
use Rattle.picky_wire_base.specs.Table.{Table, find_entry}
use Rattle.picky_wire_base.specs.Wire.{string, text}

-- each reason for which the reading is refused is such a one
abbrev pub RefusesAs : {E A : Type 0} → (E → Type 0) → (List ℕ → Result (A × List ℕ) E) → Type 0
RefusesAs {E = E} P read = (bytes : List ℕ) (e : E) → read bytes ≡ Err e → P e

pub done_refuses : {E A : Type 0} (P : E → Type 0) (x : A) → RefusesAs P (λ bytes. Ok (x, bytes))
done_refuses P x bytes e is = cc is

pub step_refuses : {E A B : Type 0} (P : E → Type 0) (r : Result A E) (next : A → Result B E)
    → ((e : E) → r ≡ Err e → P e) → ((x : A) (e : E) → r ≡ Ok x → next x ≡ Err e → P e) → (e : E) → and_then r next ≡ Err e → P e
step_refuses P (Ok x) next first later e is = later x e refl is
step_refuses P (Err d) next first later e is = first e (ap Err (cc is))

-- one field, and then what its value decides
pub both_refuses : {E A B : Type 0} (P : E → Type 0) (read : List ℕ → Result (A × List ℕ) E)
    (next : A × List ℕ → Result (B × List ℕ) E) → RefusesAs P read
    → ((a : A) → RefusesAs P (λ rest. next (a, rest))) → RefusesAs P (λ bytes. and_then (read bytes) next)
both_refuses P read next first later bytes e is =
    step_refuses P (read bytes) next (first bytes) (λ x d was. later x.0 x.1 d) e is

pub err_refused : {D E A : Type 0} (P : E → Type 0) (f : D → E) (r : Result A D) → ((d : D) → r ≡ Err d → P (f d))
    → (e : E) → map_err f r ≡ Err e → P e
err_refused P f (Ok x) own e is = cc is
err_refused P f (Err d) own e is =
    let same : f d ≡ e = cc is in
    subst P same (own d refl)

pub tag_refuses : {D E A : Type 0} (P : E → Type 0) (f : D → E) (G : Grammar D A) → RefusesAs (λ d. P (f d)) G.read
    → RefusesAs P (tag f G).read
tag_refuses P f G own bytes e is = err_refused P f (G.read bytes) (own bytes) e is

-- a field of the wire, where any flaw will do
pub flawed_refuses : {E A : Type 0} (P : E → Type 0) (f : Flaw → E) (G : Grammar Flaw A) → ((flaw : Flaw) → P (f flaw))
    → RefusesAs P (tag f G).read
flawed_refuses P f G each = tag_refuses P f G (λ bytes flaw is. each flaw)

pub then_refused : {E A B : Type 0} (r : Result A E) (f : A → B) (e : E) → and_then {B = B} r (λ x. Ok (f x)) ≡ Err e → r ≡ Err e
then_refused (Ok x) f e is = cc is
then_refused (Err d) f e is = ap Err (cc is)

pub test_refuses : {E A : Type 0} (P : E → Type 0) (b : Bool) (x : A) (d e : E) → P d → (if b then Ok x else Err d) ≡ Err e → P e
test_refuses P true x d e own is = cc is
test_refuses P false x d e own is =
    let same : d ≡ e = cc is in
    subst P same own

-- a field that may say less than its kind
pub narrow_refuses : {E A B : Type 0} (P : E → Type 0) (G : Grammar E A) (M : Narrowing E A B) → RefusesAs P G.read
    → ((bytes : List ℕ) (a : A) (rest : List ℕ) (e : E) → G.read bytes ≡ Ok (a, rest) → M.decide a ≡ Err e → P e)
    → RefusesAs P (narrow G M).read
narrow_refuses P G M first value bytes e is =
    step_refuses P (G.read bytes) (meant M) (first bytes)
    (λ x d was refused. value bytes x.0 x.1 d was (then_refused (M.decide x.0) (λ b. (b, x.1)) d refused)) e is

pub entry_refuses : {E A : Type 0} (P : E → Type 0) (o : Option A) (unknown e : E) → P unknown → ok_or o unknown ≡ Err e → P e
entry_refuses P (Some a) unknown e own is = cc is
entry_refuses P None unknown e own is =
    let same : unknown ≡ e = cc is in
    subst P same own

-- a name that no entry of a table has
pub named_refuses : {E A : Type 0} (P : E → Type 0) (G : Grammar E (List ℕ)) (why : List ℕ → E) (T : Table (List ℕ) A)
    → RefusesAs P G.read → ((bytes name rest : List ℕ) → G.read bytes ≡ Ok (name, rest) → P (why name))
    → RefusesAs P (narrow G (entry why T)).read
named_refuses P G why T first named =
    narrow_refuses P G (entry why T) first
    (λ bytes name rest e was. entry_refuses P (find_entry T name) (why name) e (named bytes name rest was))

pub text_is_utf8 : (bytes name rest : List ℕ) → text.read bytes ≡ Ok (name, rest) → IsUtf8 name
unfolding text
text_is_utf8 bytes name rest is =
    let piece = (text.sound bytes name rest is).1 in
    subst IsUtf8 (sym piece.2.1) piece.2.0

pub tagged_is_utf8 : {E : Type 0} (f : Flaw → E) (bytes name rest : List ℕ) → (tag f text).read bytes ≡ Ok (name, rest) → IsUtf8 name
tagged_is_utf8 f bytes name rest is = text_is_utf8 bytes name rest (map_err_ok f (text.read bytes) (name, rest) is)

-- a row of values
pub within_refuses : {E A : Type 0} (P : E → Type 0) (G : Grammar E A) → RefusesAs P G.read → (most : ℕ) (bytes : List ℕ) (e : E)
    → read_within G most bytes ≡ Err e → P e
within_refuses P G own zero bytes e is = cc is
within_refuses P G own (suc most) [] e is = cc is
within_refuses P G own (suc most) (b ∷ bytes) e is =
    step_refuses P (G.read (b ∷ bytes)) (λ first. after first.0 (read_within G most first.1)) (own (b ∷ bytes))
    (λ first d was refused.
    within_refuses P G own most first.1 d (then_refused (read_within G most first.1) (λ vs. first.0 ∷ vs) d refused)) e is

pub all_refuses : {E A : Type 0} (P : E → Type 0) (G : Grammar E A) → RefusesAs P G.read → (bytes : List ℕ) (e : E)
    → read_all G bytes ≡ Err e → P e
unfolding read_all
all_refuses P G own bytes e is = within_refuses P G own (length bytes) bytes e is

pub list_refuses : {E A : Type 0} (P : E → Type 0) (cut : Flaw → E) (G : Grammar E A) (solid : Solid G.piece) → ((flaw : Flaw) → P (cut flaw))
    → RefusesAs P G.read → RefusesAs P (inside cut (row G solid)).read
list_refuses P cut G solid each own =
    narrow_refuses P (tag cut string) (row G solid) (flawed_refuses P cut string each)
    (λ bytes block rest e was. all_refuses P G own block e)

pub front_refuses : {E A : Type 0} (P : E → Type 0) (cut : Flaw → E) (G : Grammar E A) → ((flaw : Flaw) → P (cut flaw)) → RefusesAs P G.read
    → RefusesAs P (inside cut (begins G)).read
front_refuses P cut G each own =
    narrow_refuses P (tag cut string) (begins G) (flawed_refuses P cut string each)
    (λ bytes block rest e was refused. own block e (then_refused (G.read block) (λ first. first.0) e refused))
