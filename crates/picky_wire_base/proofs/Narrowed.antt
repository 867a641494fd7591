-- When a field that may say less than its kind is refused.
use Rattle.std.specs.Prelude.{◌≡◌, ◌↔◌, Bool, true, false, if◌then◌else◌, List, ℕ, ◌⊎◌, Result, Ok, Err}
use Rattle.std.specs.Bool.{Decides}
use Rattle.std.proofs.Common.{sym, ◌∙◌, ap, refl, inl, inr}
use Rattle.picky_wire_base.specs.Outcome.{and_then, map_err}
use Rattle.picky_wire_base.specs.carried.Outcome.{and_then_ok, map_err_ok, same_pair}
use Rattle.picky_wire_base.specs.Flaw.{Flaw, Flawed, Why, Reason}
use Rattle.picky_wire_base.specs.Grammar.{Grammar, Fits}
use Rattle.picky_wire_base.specs.Narrowed.{Narrowing, meant}
use Rattle.picky_wire_base.specs.Combine.{narrow, at, ◌>>=◌}
use Rattle.picky_wire_base.proofs.Refused.{Stuck, First, Later, both_refused, StuckNarrowed, Field, Value, narrow_refused}

-- What stands in front is read.
pub fits_is_read : {E A : Type 0} (G : Grammar E A) (bytes : List ℕ) (v : A) (rest : List ℕ)
    → Fits G.piece v bytes rest → G.read bytes ≡ Ok (v, rest)
fits_is_read G bytes v rest (front, spells, same) =
    ap G.read same ∙ G.complete v front rest spells

-- ---- one field after another

-- One layout and then another is read exactly where the first is and then the second.
pub both_read_when : {E A B : Type 0} (G : Grammar E A) (H : A → Grammar E B) (bytes : List ℕ)
    (w : B) (rest : List ℕ) → (G >>= H).read bytes ≡ Ok (w, rest)
    ↔ ((v : A) × (mid : List ℕ) × (G.read bytes ≡ Ok (v, mid)) × ((H v).read mid ≡ Ok (w, rest)))
both_read_when {A = A} G H bytes w rest =
    let next = λ (first : A × List ℕ). (H first.0).read first.1 in (
      λ is.
          let step = and_then_ok (G.read bytes) next (w, rest) is in
          (step.0.0, step.0.1, step.1, step.2),
      λ (v, mid, first, second). ap (λ r. and_then r next) first ∙ second,
    )

-- What a layout is stuck at, in a plain sum.
stuck_both : {E A B : Type 0} (G : Grammar E A) (H : A → Grammar E B) (bytes : List ℕ) (e : E)
    → Stuck G H bytes e
    → (G.read bytes ≡ Err e)
    ⊎ ((v : A) × (rest : List ℕ) × Fits G.piece v bytes rest × ((H v).read rest ≡ Err e))
stuck_both G H bytes e (First is) = inl is
stuck_both G H bytes e (Later v rest fits is) = inr (v, rest, fits, is)

-- One layout and then another is refused exactly where the first is, or where a piece of the first
-- stands in front and what follows it is refused.
pub both_refused_when : {E A B : Type 0} (G : Grammar E A) (H : A → Grammar E B) (bytes : List ℕ)
    (e : E) → (G >>= H).read bytes ≡ Err e
    ↔ ((G.read bytes ≡ Err e)
    ⊎ ((v : A) × (rest : List ℕ) × Fits G.piece v bytes rest × ((H v).read rest ≡ Err e)))
both_refused_when {A = A} G H bytes e =
    let next = λ (first : A × List ℕ). (H first.0).read first.1 in (
      λ refused. stuck_both G H bytes e (both_refused G H bytes e refused),
      elim [
        | inl is ↦ ap (λ r. and_then r next) is
        | inr (v, rest, fits, is) ↦
            ap (λ r. and_then r next) (fits_is_read G bytes v rest fits) ∙ is
      ],
    )

-- ---- a field that may say less than its kind

-- A field is read exactly where its kind is and its value stands for something.
pub narrow_read_when : {E A B : Type 0} (G : Grammar E A) (M : Narrowing E A B) (bytes : List ℕ)
    (b : B) (rest : List ℕ) → (narrow G M).read bytes ≡ Ok (b, rest)
    ↔ ((a : A) × (G.read bytes ≡ Ok (a, rest)) × M.means a b)
narrow_read_when G M bytes b rest = (
  λ is.
      let read = and_then_ok (G.read bytes) (meant M) (b, rest) is in
      let decided = and_then_ok (M.decide read.0.0) (λ c. Ok (c, read.0.1)) (b, rest) read.2 in
      let both = same_pair (meant M read.0) decided.0 b read.0.1 rest
      (ap (λ d. and_then d (λ c. Ok (c, read.0.1))) decided.1) read.2 in (
        read.0.0,
        read.1 ∙ ap (λ r. Ok (read.0.0, r)) both.1,
        M.sound read.0.0 b (decided.1 ∙ ap Ok both.0),
      ),
  λ (a, is, stands).
      ap (λ r. and_then r (meant M)) is
      ∙ ap (λ d. and_then d (λ c. Ok (c, rest))) (M.complete a b stands),
)

-- The same of a field that may say less.
stuck_narrowed : {E A B : Type 0} (G : Grammar E A) (M : Narrowing E A B) (bytes : List ℕ) (e : E)
    → StuckNarrowed G M bytes e
    → (G.read bytes ≡ Err e)
    ⊎ ((a : A) × (rest : List ℕ) × Fits G.piece a bytes rest × (M.decide a ≡ Err e))
stuck_narrowed G M bytes e (Field is) = inl is
stuck_narrowed G M bytes e (Value a rest fits is) = inr (a, rest, fits, is)

-- A field is refused exactly where its kind is, or where a piece stands in front whose value is.
pub narrow_refused_when : {E A B : Type 0} (G : Grammar E A) (M : Narrowing E A B) (bytes : List ℕ)
    (e : E) → (narrow G M).read bytes ≡ Err e
    ↔ ((G.read bytes ≡ Err e)
    ⊎ ((a : A) × (rest : List ℕ) × Fits G.piece a bytes rest × (M.decide a ≡ Err e)))
narrow_refused_when G M bytes e = (
  λ refused. stuck_narrowed G M bytes e (narrow_refused G M bytes e refused),
  elim [
    | inl is ↦ ap (λ r. and_then r (meant M)) is
    | inr (a, rest, fits, is) ↦
        ap (λ r. and_then r (meant M)) (fits_is_read G bytes a rest fits)
        ∙ ap (λ d. and_then d (λ b. Ok (b, rest))) is
  ],
)

-- a value stands whole in front, and it is refused
pub record WholeButRefused {E F A B : Type 0} (read : List ℕ → Result (A × List ℕ) F)
    (decide : A → Result B E) (bytes : List ℕ) (e : E) : Type 0 where
  pub value : A
  pub rest : List ℕ
  pub whole : read bytes ≡ Ok (value, rest)
  pub refused : decide value ≡ Err e

-- Where the value is stuck, it is whole.
stuck_cases : {E A B : Type 0} (G : Grammar E A) (M : Narrowing E A B) (bytes : List ℕ) (e : E)
    → StuckNarrowed G M bytes e → (G.read bytes ≡ Err e) ⊎ WholeButRefused G.read M.decide bytes e
stuck_cases G M bytes e (Field is) = inl is
stuck_cases G M bytes e (Value a rest fits is) =
    inr (record {
      value = a;
      rest = rest;
      whole = fits_is_read G bytes a rest fits;
      refused = is;
    })

-- A field is refused as its kind is, or it is whole and its value is refused.
pub narrow_cases : {E A B : Type 0} (G : Grammar E A) (M : Narrowing E A B) (bytes : List ℕ) (e : E)
    → (narrow G M).read bytes ≡ Err e
    → (G.read bytes ≡ Err e) ⊎ WholeButRefused G.read M.decide bytes e
narrow_cases G M bytes e refused = stuck_cases G M bytes e (narrow_refused G M bytes e refused)

-- What its kind refuses, it refuses.
pub narrow_keeps : {E A B : Type 0} (G : Grammar E A) (M : Narrowing E A B) (bytes : List ℕ) (e : E)
    → G.read bytes ≡ Err e → (narrow G M).read bytes ≡ Err e
narrow_keeps G M bytes e is = ap (λ r. and_then r (meant M)) is

-- A whole field is refused for its value.
pub narrow_refuses : {E A B : Type 0} (G : Grammar E A) (M : Narrowing E A B) (bytes : List ℕ) (e : E)
    → WholeButRefused G.read M.decide bytes e → (narrow G M).read bytes ≡ Err e
narrow_refuses G M bytes e w =
    ap (λ r. and_then r (meant M)) w.whole
    ∙ ap (λ d. and_then d (λ b. Ok (b, w.rest))) w.refused

-- ---- the same at a place

-- the field's kind has a flaw, which is the reason beside the place
pub record FlawedAt {A : Type 0} (i : ℕ) (read : List ℕ → Result (A × List ℕ) Flaw)
    (bytes : List ℕ) (r : Reason) : Type 0 where
  pub flaw : Flaw
  pub refused : read bytes ≡ Err flaw
  pub is : r ≡ (i, Flawed flaw)

-- An error under another name was an error.
map_err_err : {E F A : Type 0} (f : E → F) (r : Result A E) (e : F) → map_err f r ≡ Err e
    → (g : E) × (r ≡ Err g) × (e ≡ f g)
map_err_err f (Ok x) e same = cc same
map_err_err f (Err g) e same = (g, refl, cc same)

-- A field at a place is refused with its place, for a flaw of its kind or for its value.
pub place_cases : {A B : Type 0} (i : ℕ) (G : Grammar Flaw A) (M : Narrowing Reason A B)
    (bytes : List ℕ) (r : Reason) → (narrow (at i G) M).read bytes ≡ Err r
    → FlawedAt i G.read bytes r ⊎ WholeButRefused G.read M.decide bytes r
place_cases i G M bytes r refused =
    let place : Flaw → Reason = λ flaw. (i, Flawed flaw) in
    elim (narrow_cases (at i G) M bytes r refused) [
      | inl is ↦
          let found = map_err_err place (G.read bytes) r is in
          inl (record { flaw = found.0; refused = found.1; is = found.2 })
      | inr w ↦
          inr (record {
            value = w.value;
            rest = w.rest;
            whole = map_err_ok place (G.read bytes) (w.value, w.rest) w.whole;
            refused = w.refused;
          })
    ]

-- A flaw of its kind is a reason.
pub place_keeps : {A B : Type 0} (i : ℕ) (G : Grammar Flaw A) (M : Narrowing Reason A B)
    (bytes : List ℕ) (flaw : Flaw) → G.read bytes ≡ Err flaw
    → (narrow (at i G) M).read bytes ≡ Err (i, Flawed flaw)
place_keeps i G M bytes flaw is =
    narrow_keeps (at i G) M bytes (i, Flawed flaw) (ap (map_err (λ f. (i, Flawed f))) is)

-- So is what refuses its value.
pub place_refuses : {A B : Type 0} (i : ℕ) (G : Grammar Flaw A) (M : Narrowing Reason A B)
    (bytes : List ℕ) (r : Reason) → WholeButRefused G.read M.decide bytes r
    → (narrow (at i G) M).read bytes ≡ Err r
place_refuses i G M bytes r w =
    narrow_refuses (at i G) M bytes r (record {
      value = w.value;
      rest = w.rest;
      whole = ap (map_err (λ f. (i, Flawed f))) w.whole;
      refused = w.refused;
    })

-- Reasons that are equal say the same.
pub same_why : (r s : Reason) → r ≡ s → r.1 ≡ s.1
same_why r s same = ap (λ (t : Reason). t.1) same

-- Where no value is refused for a flaw, the flaws are those of its kind.
pub place_flawed_when : {A B : Type 0} (i : ℕ) (G : Grammar Flaw A) (M : Narrowing Reason A B)
    → ((a : A) (flaw : Flaw) → M.decide a ≡ Err (i, Flawed flaw) → ⊥)
    → (bytes : List ℕ) (flaw : Flaw)
    → (narrow (at i G) M).read bytes ≡ Err (i, Flawed flaw) ↔ G.read bytes ≡ Err flaw
place_flawed_when {A = A} i G M other bytes flaw = (forth, place_keeps i G M bytes flaw)
  where
    forth : (narrow (at i G) M).read bytes ≡ Err (i, Flawed flaw) → G.read bytes ≡ Err flaw
    forth refused = elim (place_cases i G M bytes (i, Flawed flaw) refused) [
      | inl f ↦
          let why = same_why (i, Flawed flaw) (i, Flawed f.flaw) f.is in
          let same : f.flaw ≡ flaw = cc why in
          f.refused ∙ ap Err same
      | inr w ↦ absurd (other w.value flaw w.refused)
    ]

-- A reason that is no flaw is that of the value.
pub place_value_when : {A B : Type 0} (i : ℕ) (G : Grammar Flaw A) (M : Narrowing Reason A B)
    (why : Why) → ((flaw : Flaw) → why ≡ Flawed flaw → ⊥) → (bytes : List ℕ)
    → (narrow (at i G) M).read bytes ≡ Err (i, why)
    ↔ WholeButRefused G.read M.decide bytes (i, why)
place_value_when i G M why other bytes = (forth, place_refuses i G M bytes (i, why))
  where
    forth : (narrow (at i G) M).read bytes ≡ Err (i, why)
        → WholeButRefused G.read M.decide bytes (i, why)
    forth refused = elim (place_cases i G M bytes (i, why) refused) [
      | inl f ↦ absurd (other f.flaw (same_why (i, why) (i, Flawed f.flaw) f.is))
      | inr w ↦ w
    ]

-- ---- a value that a fact must hold of

-- Where a test that must pass refuses, its reason is the outcome's.
pub passed_err : {E A : Type 0} (passes : Bool) (e f : E) (x : A)
    → (if passes then Ok x else Err e) ≡ Err f → (passes ≡ false) × (f ≡ e)
passed_err true e f x same = cc same
passed_err false e f x same = (refl, cc same)

-- A test that refuses a value gives its reason, and the fact doesn't hold.
pub allowed_refused : {E A : Type 0} (P : A → Type 0) (test : A → Bool) (why : A → E)
    → ((a : A) → Decides (test a) (P a)) → (a : A) (e : E)
    → (if test a then Ok a else Err (why a)) ≡ Err e → (P a → ⊥) × (e ≡ why a)
allowed_refused P test why decides a e same =
    let cut = passed_err (test a) (why a) e a same in
    (λ fact. let both = sym cut.0 ∙ (decides a).1 fact in cc both, cut.1)

-- Where the fact doesn't hold, its test fails.
test_fails : {A : Type 0} (P : A → Type 0) (test : A → Bool)
    → ((a : A) → Decides (test a) (P a)) → (a : A) → (P a → ⊥) → test a ≡ false
test_fails P test decides a other = go (test a) refl
  where
    go : (t : Bool) → test a ≡ t → t ≡ false
    go true is = absurd (other ((decides a).0 is))
    go false is = refl

-- Where the fact doesn't hold, the test refuses.
pub allowed_refuses : {E A : Type 0} (P : A → Type 0) (test : A → Bool) (why : A → E)
    → ((a : A) → Decides (test a) (P a)) → (a : A) → (P a → ⊥)
    → (if test a then Ok a else Err (why a)) ≡ Err (why a)
allowed_refuses P test why decides a other =
    ap (λ t. if t then Ok a else Err (why a)) (test_fails P test decides a other)
