-- Counts of faults: numbers that never fall and stay at 2^64 - 1.
use Rattle.std.specs.Prelude.{◌≡◌, ℕ, ◌+◌, ◌-◌, ◌^◌, ◌==◌, Bool, List, min, Result, OnOk, OnErr}
use Rattle.std.specs.List.{list_any}

-- the count after one more
abbrev pub count_one : ℕ → ℕ
count_one n = min (n + 1) (2 ^ 64 - 1)

-- in a call one fault was counted, and no other; or the count stands at its last value
abbrev pub Rose : ℕ → ℕ → Type 0
Rose before after = after ≡ count_one before

-- what a step of a stream keeps: it goes on telling its bytes, and a fault is counted exactly where the step fails
pub record Keeps {S A E : Type 0} (tells : S → Type 0) (faults : S → ℕ) (result : Result A E) (old new : S) : Type 0 where
  pub told : tells old → tells new
  pub counted : OnErr result (Rose (faults old) (faults new))
  pub calm : OnOk result (faults new ≡ faults old)

-- the calls of which some fail by their number: which ones, how many were made, how many failed
pub record Calls : Type 0 where
  pub failing : List ℕ
  pub made : ℕ
  pub faults : ℕ

-- the next call fails
abbrev pub next_fails : Calls → Bool
next_fails c = list_any (λ n. n == c.made) c.failing

-- one more call was made; and it failed
abbrev pub passed : Calls → Calls
passed c = record c { made = count_one c.made }

abbrev pub failed : Calls → Calls
failed c = record c { made = count_one c.made; faults = count_one c.faults }
