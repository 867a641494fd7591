-- What a call comes to that lists texts, merges inventories or checks a piece of one.
use Rattle.std.specs.Prelude.{◌==◌, List, ℕ, Bool, true, false, Result, Ok, Err, if◌then◌else◌}
use Rattle.picky_conversion.specs.Refusal.{input_refusal}
use Rattle.picky_inventory_texts.specs.Merging.{merging}
use Rattle.picky_inventory_texts.specs.Pieces.{checked}
use Rattle.picky_inventory_texts.specs.Texts.{texts_inventory}
use Rattle.picky_inventory_texts.specs.declared.listing.ListError.{ListError}
use Rattle.picky_inventory_texts.specs.declared.listing.ListError.TheVariants as lists
use Rattle.picky_inventory_texts.specs.declared.listing.TextCause.{TextCause}
use Rattle.picky_inventory_texts.specs.declared.listing.TextCause.TheVariants as causes
use Rattle.picky_inventory_texts.specs.declared.merging.MergeError.{MergeError}
use Rattle.picky_inventory_texts.specs.declared.merging.MergeError.TheVariants as merges
use Rattle.picky_inventory_texts.specs.declared.piece.CheckError.{CheckError}
use Rattle.picky_inventory_texts.specs.declared.piece.CheckError.TheVariants as checks
use Rattle.picky_c.specs.Refusal.{refusal_of}
use Rattle.picky_c.specs.Told.{Told, numbered, whole}
use Rattle.picky_c.specs.declared.error.PickyError.{PickyError}
use Rattle.picky_c.specs.declared.error.PickyError.TheVariants as errors

-- 0 refuses encrypted private keys, and any other number lists them
abbrev pub lists_sealed : ℕ → Bool
lists_sealed sealed = if sealed == 0 then false else true

-- why a text isn't listed, as a call's refusal
abbrev pub cause_refusal : TextCause → PickyError
cause_refusal causes.NotUtf8 = errors.TextNotUtf8
cause_refusal (causes.Unread e) = refusal_of (input_refusal e)

-- ---- what the cores come to, as what a call tells

-- of a text that is refused its place
abbrev pub listing_told : Result (List ℕ) ListError → Result Told PickyError
listing_told (Ok written) = Ok (whole written)
listing_told (Err (lists.Text place cause)) = Ok (numbered (cause_refusal cause) place)
listing_told (Err lists.NoMemory) = Err errors.NoMemory

-- of a bad line its number
abbrev pub merging_told : Result (List ℕ) MergeError → Result Told PickyError
merging_told (Ok written) = Ok (whole written)
merging_told (Err merges.LeftNotUtf8) = Err errors.LeftNotUtf8
merging_told (Err merges.RightNotUtf8) = Err errors.RightNotUtf8
merging_told (Err (merges.BadLine line)) = Ok (numbered errors.BadLine line)
merging_told (Err merges.NoMemory) = Err errors.NoMemory

abbrev pub checking_told : Result (List ℕ) CheckError → Result Told PickyError
checking_told (Ok last) = Ok (whole last)
checking_told (Err checks.NotUtf8) = Err errors.TextNotUtf8
checking_told (Err (checks.BadLine line)) = Ok (numbered errors.BadLine line)
checking_told (Err checks.NoMemory) = Err errors.NoMemory

-- ---- the calls

-- the inventory of the texts, or the place of the first that is refused
abbrev pub list_told : (texts : List (List ℕ)) → (sealed : ℕ) → Result Told PickyError
list_told texts sealed = listing_told (texts_inventory (lists_sealed sealed) texts)

-- two inventories, merged, or the number of the first bad line
abbrev pub merge_told : (left right : List ℕ) → Result Told PickyError
merge_told left right = merging_told (merging left right)

-- the last line of a piece, or the number of its first bad line
abbrev pub check_told : (piece before : List ℕ) → Result Told PickyError
check_told piece before = checking_told (checked piece before)
