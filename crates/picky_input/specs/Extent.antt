-- How far a run has read its source when it ends, and what it leaves of that, of its sink and of a device that it may ask.
use Rattle.std.specs.Prelude.{◌≡◌, ◌≢◌, ◌<◌, ◌+◌, ◌++◌, ◌⊎◌, ℕ, List, [], Bool, false, length, drop, take}
use Rattle.picky_input.specs.Input.{input_limit, TakesInput}

-- not at all; up to a fault; to the byte past the limit; to the end; or up to where memory ran out
pub data Extent : Type 0 where
  Untouched : Extent
  ToFault : Extent
  PastLimit : Extent
  ToEnd : Extent
  Anywhere : Extent

-- what is left of a source's bytes
abbrev pub LeavesAt : Extent → (before after : List ℕ) → Type 0
LeavesAt Untouched before after = after ≡ before
LeavesAt ToFault before after = length before < input_limit + 1 + length after
LeavesAt PastLimit before after = after ≡ drop (input_limit + 1) before
LeavesAt ToEnd before after = after ≡ []
LeavesAt Anywhere before after = Unit {0}

-- of a source: it goes on telling; a prefix of its bytes was taken; and no fault was counted but for the one that ended the run
pub record ReadsInput {I : Type 0} (tells : I → Type 0) (left : I → List ℕ) (faults : I → ℕ) (extent : Extent) (old new : I)
    : Type 0 where
  pub told : tells old → tells new
  pub taken : tells old → TakesInput (left old) (left new)
  pub leaves : tells old → LeavesAt extent (left old) (left new)
  pub unread : extent ≡ Untouched → new ≡ old
  pub calm : extent ≢ ToFault → faults new ≡ faults old

-- of a sink that a text is written to at the end: so it is with its faults, and a run that has no text to write leaves it untouched
pub record WritesLast {O : Type 0} (tells : O → Type 0) (faults : O → ℕ) (failed silent : Type 0) (old new : O) : Type 0 where
  pub told : tells old → tells new
  pub calm : (failed → ⊥) → faults new ≡ faults old
  pub unwritten : silent → new ≡ old

-- a prefix of the text was written after those bytes, and not the whole
abbrev pub WritesPrefix : (text before after : List ℕ) → Type 0
WritesPrefix text before after = (n : ℕ) × (after ≡ before ++ take n text) × (n < length text)

-- of a device: its calls mean what they meant; so it is with its faults; and one that isn't asked is as it was
pub record LeavesDevice {D : Type 0} (stays : Type 0) (faults : D → ℕ) (failed spared : Type 0) (old new : D) : Type 0 where
  pub kept : stays
  pub calm : (failed → ⊥) → faults new ≡ faults old
  pub unasked : spared → new ≡ old

-- a device isn't asked for the bytes of a source that tells them, or for none at all
abbrev pub IsUnasked : (tells : Type 0) → (asks : List ℕ → Bool) → (input : List ℕ) → Type 0
IsUnasked tells asks input = (tells × (asks input ≡ false)) ⊎ ((other : List ℕ) → asks other ≡ false)
