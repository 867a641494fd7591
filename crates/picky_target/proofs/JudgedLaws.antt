-- A target takes what it carries, and refuses the rest by the first place that doesn't hold.
use Rattle.std.proofs.Common.{◌≡◌, List, [], ◌∷◌, Bool, true, false, Ok, Err, refl, if◌then◌else◌}
use Rattle.picky_key_text.specs.declared.meaning.Meaning.{Meaning}
use Rattle.picky_target.specs.declared.error.ConvertError.{ConvertError}
use Rattle.picky_target.specs.declared.target.KeyTarget.{KeyTarget}
use Rattle.picky_target.specs.Output.{Output}
use Rattle.picky_target.specs.Carried.{Carries, Holds, Place, places}
use Rattle.picky_target.specs.Carried.{PrivateKey, Kind, Comment, Derivation, Fresh, Length, Lines}
use Rattle.picky_target.specs.Judged.{first_failing, judged_meaning, passes, place_refusal}
use Rattle.picky_target.proofs.PlaceLemmas.{holds_from_test, test_from_holds}
use Rattle.picky_target.proofs.TestLemmas.{passes as passes_first}

-- ---- a row of tests

abbrev EachPasses : (Place → Bool) → List Place → Type 0
EachPasses test [] = Unit {0}
EachPasses test (place ∷ more) = (test place ≡ true) × EachPasses test more

passes_from : (test : Place → Bool) (error : Place → ConvertError) (row : List Place) → first_failing test error row ≡ Ok (tt {0})
    → EachPasses test row
passes_from test error [] is = tt
passes_from test error (place ∷ more) is =
    let first = passes_first (test place) (first_failing test error more) (error place) (tt {0}) is in
    (first.0, passes_from test error more first.1)

passes_to : (test : Place → Bool) (error : Place → ConvertError) (row : List Place) → EachPasses test row
    → first_failing test error row ≡ Ok (tt {0})
passes_to test error [] each = refl
passes_to test error (place ∷ more) each = rw (each.0) (passes_to test error more each.1)

failing : (test : Place → Bool) (error : Place → ConvertError) (row : List Place) (e : ConvertError)
    → first_failing test error row ≡ Err e → (place : Place) × (e ≡ error place) × (test place ≡ false)
failing test error [] e is = cc is
failing test error (place ∷ more) e is = go (test place) refl (failing test error more e) is
  where
    go : (b : Bool) → test place ≡ b
        → (first_failing test error more ≡ Err e → (at : Place) × (e ≡ error at) × (test at ≡ false))
        → (if b then first_failing test error more else Err (error place)) ≡ Err e
        → (at : Place) × (e ≡ error at) × (test at ≡ false)
    go true passed later same = later same
    go false failed later same = (place, cc same, failed)

-- all places stand in the row
at_each : (test : Place → Bool) → EachPasses test places → (place : Place) → test place ≡ true
at_each test each PrivateKey = each.0
at_each test each Kind = each.1.0
at_each test each Comment = each.1.1.0
at_each test each Derivation = each.1.1.1.0
at_each test each Fresh = each.1.1.1.1.0
at_each test each Length = each.1.1.1.1.1.0
at_each test each Lines = each.1.1.1.1.1.1.0

all_pass : (test : Place → Bool) → ((place : Place) → test place ≡ true) → EachPasses test places
all_pass test each =
    (each PrivateKey, (each Kind, (each Comment, (each Derivation, (each Fresh, (each Length, (each Lines, tt)))))))

-- ---- the judgement

pub judged_carries : (out : Output) (target : KeyTarget) (meaning : Meaning) → judged_meaning out target meaning ≡ Ok (tt {0})
    → Carries out target meaning
unfolding judged_meaning
judged_carries out target meaning is =
    let each = passes_from (passes out target meaning) (place_refusal target) places is in
    record { holds = λ place. holds_from_test out target meaning place (at_each (passes out target meaning) each place) }

pub carried_is_judged : (out : Output) (target : KeyTarget) (meaning : Meaning) → Carries out target meaning
    → judged_meaning out target meaning ≡ Ok (tt {0})
unfolding judged_meaning
carried_is_judged out target meaning carries =
    passes_to (passes out target meaning) (place_refusal target) places
    (all_pass (passes out target meaning) (λ place. test_from_holds out target meaning place (carries.holds place)))

pub refused_place : (out : Output) (target : KeyTarget) (meaning : Meaning) (e : ConvertError) → judged_meaning out target meaning ≡ Err e
    → (place : Place) × (e ≡ place_refusal target place) × (Holds out target meaning place → ⊥)
unfolding judged_meaning
refused_place out target meaning e is =
    let found = failing (passes out target meaning) (place_refusal target) places e is in
    (found.0, found.1, λ holds. cc (found.2, test_from_holds out target meaning found.0 holds))
