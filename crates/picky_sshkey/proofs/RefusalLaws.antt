-- For which reasons steps are refused: what holds of the reasons of each holds of those of all.
use Rattle.std.specs.Prelude.{◌≡◌, Bool, true, false, List, ℕ, Option, None, Some, Result, Ok, Err, if◌then◌else◌}
use Rattle.std.specs.Option.{ok_or}
use Rattle.std.proofs.Common.{inl, inr, subst}
use Rattle.picky_wire_base.specs.Combine.{tag}
use Rattle.picky_wire_base.specs.Front.{read_front}
use Rattle.picky_wire_base.specs.Grammar.{Grammar}
use Rattle.picky_wire_base.specs.Outcome.{and_then, map_err}
use Rattle.picky_sshkey_blob.proofs.RefusedLemmas.{RefusesAs, and_then_err}

-- each refusal is such a one
abbrev pub Refuses : {E A : Type 0} → (E → Type 0) → Result A E → Type 0
Refuses {E = E} P r = (e : E) → r ≡ Err e → P e

-- A value is no refusal.
pub ok_as : {E A : Type 0} (P : E → Type 0) (x : A) → Refuses P (Ok x)
ok_as P x e is = cc is

-- A refusal is such a one where its reason is.
pub err_as : {E A : Type 0} (P : E → Type 0) (why : E) → P why → Refuses {A = A} P (Err why)
err_as P why such e is =
    let same : why ≡ e = cc is in
    subst P same such

-- Two steps refuse so where each does.
pub then_as : {E A B : Type 0} (P : E → Type 0) (r : Result A E) (next : A → Result B E) → Refuses P r
    → ((x : A) → Refuses P (next x)) → Refuses P (and_then r next)
then_as P r next first later e is = elim (and_then_err r next e is) [
  | inl early ↦ first e early
  | inr (x, was, late) ↦ later x e late
]

-- A choice does where both sides do.
pub if_as : {E A : Type 0} (P : E → Type 0) (test : Bool) (r s : Result A E) → Refuses P r → Refuses P s
    → Refuses P (if test then r else s)
if_as P true r s passes fails = passes
if_as P false r s passes fails = fails

-- A missing value does where its reason is such a one.
pub some_as : {E A : Type 0} (P : E → Type 0) (o : Option A) (why : E) → P why → Refuses P (ok_or o why)
some_as P (Some x) why such e is = cc is
some_as P None why such e is = err_as P why such e is

-- Other reasons are such ones where each is.
pub map_as : {E F A : Type 0} (P : F → Type 0) (f : E → F) (r : Result A E) → ((e : E) → P (f e)) → Refuses P (map_err f r)
map_as P f (Ok x) each e is = cc is
map_as P f (Err why) each e is = err_as P (f why) (each why) e is

-- So is a layout under other reasons.
pub tag_as : {E F A : Type 0} (P : F → Type 0) (f : E → F) (G : Grammar E A) → ((e : E) → P (f e)) → RefusesAs P (tag f G).read
tag_as P f G each bytes e is = map_as P f (G.read bytes) each e is

-- What stands in front is refused as its layout refuses.
pub front_as : {E A : Type 0} (P : E → Type 0) (G : Grammar E A) (bytes : List ℕ) → RefusesAs P G.read
    → Refuses P (read_front G bytes)
front_as P G bytes refuses = then_as P (G.read bytes) (λ first. Ok first.0) (refuses bytes) (λ first. ok_as P first.0)
