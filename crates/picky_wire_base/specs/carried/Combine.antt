-- That readings of joined, narrowed and tested fields are sound, complete and take what they say.
use Rattle.std.specs.Prelude.{◌≡◌, Bool, if◌then◌else◌, List, [], ℕ, ◌+◌, ◌++◌, length, Result, Ok, Err}
use Rattle.std.specs.Bool.{Decides}
use Rattle.std.specs.Result.{result_unwrap_or}
use Rattle.std.proofs.Common.{sym, ◌∙◌, ap, refl, arith, append_assoc}
use Rattle.picky_wire_base.specs.Outcome.{and_then}
use Rattle.picky_wire_base.specs.carried.Outcome.{and_then_ok, passed_ok, same_pair}
use Rattle.picky_wire_base.specs.Grammar.{Grammar, Fits}
use Rattle.picky_wire_base.specs.Joined.{Joined, read_both, used_then, used_both}
use Rattle.picky_wire_base.specs.Narrowed.{Narrowing, Narrowed, meant, read_narrowed}

-- ---- nothing more

pub done_sound : {E A : Type 0} (r : Result (A × List ℕ) E) (x v : A) (bytes rest : List ℕ)
    → r ≡ Ok (x, bytes) → r ≡ Ok (v, rest) → Fits (λ w front. (w ≡ x) × (front ≡ [])) v bytes rest
done_sound r x v bytes rest is same =
    let both = same_pair r x v bytes rest is same in
    ([], (sym both.0, refl), both.1)

pub done_complete : {E A : Type 0} (r : Result (A × List ℕ) E) (x v : A) (front rest : List ℕ)
    → r ≡ Ok (x, front ++ rest) → (v ≡ x) × (front ≡ []) → r ≡ Ok (v, rest)
done_complete r x v front rest is (value, empty) =
    is ∙ ap (λ w. Ok (w, front ++ rest)) (sym value) ∙ ap (λ f. Ok (v, f ++ rest)) empty

pub done_takes : {E A : Type 0} (r : Result (A × List ℕ) E) (x v : A) (bytes rest : List ℕ)
    → r ≡ Ok (x, bytes) → r ≡ Ok (v, rest) → length bytes ≡ 0 + length rest
done_takes r x v bytes rest is same =
    omega (arith, ap length (same_pair r x v bytes rest is same).1)

pub both_sound : {E A B : Type 0} (G : Grammar E A) (H : A → Grammar E B) (bytes : List ℕ) (v : B)
    (rest : List ℕ) → read_both G H bytes ≡ Ok (v, rest) → Fits (Joined G H) v bytes rest
both_sound G H bytes v rest same =
    let step = and_then_ok (G.read bytes) (λ f. (H f.0).read f.1) (v, rest) same in
    let first = G.sound bytes step.0.0 step.0.1 step.1 in
    let second = (H step.0.0).sound step.0.1 v rest step.2 in (
      first.0 ++ second.0,
      (step.0.0, first.0, second.0, first.1, second.1, refl),
      first.2 ∙ ap (λ r. first.0 ++ r) second.2 ∙ sym (append_assoc first.0 second.0 rest),
    )

pub both_complete : {E A B : Type 0} (G : Grammar E A) (H : A → Grammar E B) (v : B)
    (front rest : List ℕ) → Joined G H v front → read_both G H (front ++ rest) ≡ Ok (v, rest)
both_complete G H v front rest (u, x, y, spells_u, spells_v, same) =
    let first = ap (λ f. G.read (f ++ rest)) same ∙ ap G.read (append_assoc x y rest)
    ∙ G.complete u x (y ++ rest) spells_u in
    ap (λ r. and_then r (λ f. (H f.0).read f.1)) first ∙ (H u).complete v y rest spells_v

pub both_takes : {E A B : Type 0} (G : Grammar E A) (H : A → Grammar E B) (bytes : List ℕ) (v : B)
    (rest : List ℕ) → read_both G H bytes ≡ Ok (v, rest)
    → length bytes ≡ used_both G H bytes + length rest
both_takes G H bytes v rest same =
    let step = and_then_ok (G.read bytes) (λ f. (H f.0).read f.1) (v, rest) same in
    let first = G.takes bytes step.0.0 step.0.1 step.1 in
    let second = (H step.0.0).takes step.0.1 v rest step.2 in
    let used = ap (λ r. used_then r (G.used bytes) (λ f. (H f.0).used f.1)) step.1 in
    omega (arith, first, second, used)

pub narrow_sound : {E A B : Type 0} (G : Grammar E A) (M : Narrowing E A B) (bytes : List ℕ) (b : B)
    (rest : List ℕ) → read_narrowed G M bytes ≡ Ok (b, rest) → Fits (Narrowed G M) b bytes rest
narrow_sound G M bytes b rest same =
    let read = and_then_ok (G.read bytes) (meant M) (b, rest) same in
    let decided = and_then_ok (M.decide read.0.0) (λ c. Ok (c, read.0.1)) (b, rest) read.2 in
    let field = G.sound bytes read.0.0 read.0.1 read.1 in
    let both = same_pair _ decided.0 b read.0.1 rest refl decided.2 in (
      field.0,
      (read.0.0, field.1, M.sound read.0.0 b (decided.1 ∙ ap Ok both.0)),
      field.2 ∙ ap (λ r. field.0 ++ r) both.1,
    )

pub narrow_complete : {E A B : Type 0} (G : Grammar E A) (M : Narrowing E A B) (b : B)
    (front rest : List ℕ) → Narrowed G M b front → read_narrowed G M (front ++ rest) ≡ Ok (b, rest)
narrow_complete G M b front rest (a, spells, stands) =
    ap (λ r. and_then r (meant M)) (G.complete a front rest spells)
    ∙ ap (λ r. and_then r (λ c. Ok (c, rest))) (M.complete a b stands)

pub narrow_takes : {E A B : Type 0} (G : Grammar E A) (M : Narrowing E A B) (bytes : List ℕ) (b : B)
    (rest : List ℕ) → read_narrowed G M bytes ≡ Ok (b, rest) → length bytes ≡ G.used bytes + length rest
narrow_takes G M bytes b rest same =
    let read = and_then_ok (G.read bytes) (meant M) (b, rest) same in
    let decided = and_then_ok (M.decide read.0.0) (λ c. Ok (c, read.0.1)) (b, rest) read.2 in
    let both = same_pair _ decided.0 b read.0.1 rest refl decided.2 in
    omega (arith, G.takes bytes read.0.0 read.0.1 read.1, ap length both.1)

-- A field of which only those values may stand for which a fact holds, by its test.
pub allowed_sound : {E A : Type 0} (P : A → Type 0) (test : A → Bool) (why : A → E)
    → ((a : A) → Decides (test a) (P a)) → (a b : A)
    → (if test a then Ok a else Err (why a)) ≡ Ok b → P a × (b ≡ a)
allowed_sound P test why decides a b same =
    let passed = passed_ok (test a) (why a) a b same in ((decides a).0 passed.0, sym passed.1)

pub allowed_complete : {E A : Type 0} (P : A → Type 0) (test : A → Bool) (why : A → E)
    → ((a : A) → Decides (test a) (P a)) → (a b : A)
    → P a × (b ≡ a) → (if test a then Ok a else Err (why a)) ≡ Ok b
allowed_complete P test why decides a b (fact, same) =
    ap (λ t. if t then Ok a else Err (why a)) ((decides a).1 fact) ∙ ap Ok (sym same)

-- A field whose value is read as another: each one, by a function.
pub each_sound : {E A B : Type 0} (r : Result B E) (f : A → B) (a : A) (b : B)
    → r ≡ Ok (f a) → r ≡ Ok b → f a ≡ b
each_sound r f a b is same = ap (λ o. result_unwrap_or o (f a)) (sym is ∙ same)
