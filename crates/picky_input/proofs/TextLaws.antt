-- The text of bytes.
use Rattle.std.proofs.Common.{◌≡◌, ◌↔◌, ◌<◌, ◌≤◌, ◌+◌, ℕ, List, [], ◌∷◌, Bool, true, false, length, nat_lt, Ok, Err, refl, sym, ap}
use Rattle.std.proofs.Common.{◌⊎◌, if◌then◌else◌, replicate, inl, inr, arith}
use Rattle.std.proofs.lemmas.List.{length-replicate}
use Rattle.std.proofs.lemmas.Bool.{le-ltb, lt-ltb, ltb-false, ltb-true}
use Rattle.std.specs.Str.{IsUtf8, chars, is_utf8}
use Rattle.std.proofs.lemmas.Str.{IsUtf8-from_is_utf8, is_utf8-from_IsUtf8}
use Rattle.picky_wire_base.proofs.TextLemmas.{is_no_text as no_utf8}
use Rattle.picky_input.specs.Input.{input_limit}
use Rattle.picky_input.specs.SourceText.{IsSourceText, ReadsSourceText, source_text_of}
use Rattle.picky_input.specs.declared.source_text.SourceError.{SourceError}
use Rattle.picky_input.specs.declared.source_text.SourceError.TheVariants as errors

-- what has a text is few enough and UTF-8, and is that text
pub is_source_text : (bytes text : List ℕ) → source_text_of bytes ≡ Ok text → IsSourceText bytes × (text ≡ bytes)
unfolding source_text_of
is_source_text bytes text = go (nat_lt input_limit (length bytes)) (is_utf8 bytes) refl refl
  where
    go : (long utf8 : Bool) → nat_lt input_limit (length bytes) ≡ long → is_utf8 bytes ≡ utf8
        → (if long then Err errors.InputTooLong else if utf8 then Ok bytes else Err errors.InputNotUtf8) ≡ Ok text
        → IsSourceText bytes × (text ≡ bytes)
    go true utf8 long_is utf8_is same = cc same
    go false false long_is utf8_is same = cc same
    go false true long_is utf8_is same =
        (record { short = ltb-false input_limit (length bytes) long_is; utf8 = IsUtf8-from_is_utf8 bytes utf8_is }, cc same)

-- and the other way round
pub source_text_is : (bytes text : List ℕ) → IsSourceText bytes × (text ≡ bytes) → source_text_of bytes ≡ Ok text
unfolding source_text_of
source_text_is bytes text (is, same) =
    rw (le-ltb input_limit (length bytes) is.short, is_utf8-from_IsUtf8 bytes is.utf8) (ap Ok (sym same))

pub text_is_its_bytes : (bytes text : List ℕ) → (source_text_of bytes ≡ Ok text) ↔ (IsSourceText bytes × (text ≡ bytes))
text_is_its_bytes bytes text = (is_source_text bytes text, source_text_is bytes text)

-- too many bytes are refused first, and they alone so
is_too_long : (bytes : List ℕ) → source_text_of bytes ≡ Err errors.InputTooLong → input_limit < length bytes
unfolding source_text_of
is_too_long bytes = go (nat_lt input_limit (length bytes)) (is_utf8 bytes) refl
  where
    go : (long utf8 : Bool) → nat_lt input_limit (length bytes) ≡ long
        → (if long then Err errors.InputTooLong else if utf8 then Ok bytes else Err errors.InputNotUtf8) ≡ Err errors.InputTooLong
        → input_limit < length bytes
    go true utf8 long_is same = ltb-true input_limit (length bytes) long_is
    go false true long_is same = cc same
    go false false long_is same = cc same

too_long_is : (bytes : List ℕ) → input_limit < length bytes → source_text_of bytes ≡ Err errors.InputTooLong
unfolding source_text_of
too_long_is bytes long = rw (lt-ltb input_limit (length bytes) long) refl

pub too_long_exactly : (bytes : List ℕ) → (source_text_of bytes ≡ Err errors.InputTooLong) ↔ (input_limit < length bytes)
too_long_exactly bytes = (is_too_long bytes, too_long_is bytes)

-- and then those that aren't UTF-8
is_no_text : (bytes : List ℕ) → source_text_of bytes ≡ Err errors.InputNotUtf8 → (length bytes ≤ input_limit) × (IsUtf8 bytes → ⊥)
unfolding source_text_of
is_no_text bytes = go (nat_lt input_limit (length bytes)) (is_utf8 bytes) refl refl
  where
    go : (long utf8 : Bool) → nat_lt input_limit (length bytes) ≡ long → is_utf8 bytes ≡ utf8
        → (if long then Err errors.InputTooLong else if utf8 then Ok bytes else Err errors.InputNotUtf8) ≡ Err errors.InputNotUtf8
        → (length bytes ≤ input_limit) × (IsUtf8 bytes → ⊥)
    go true utf8 long_is utf8_is same = cc same
    go false true long_is utf8_is same = cc same
    go false false long_is utf8_is same =
        (ltb-false input_limit (length bytes) long_is, λ is. cc (utf8_is, is_utf8-from_IsUtf8 bytes is))

no_text_is : (bytes : List ℕ) → (length bytes ≤ input_limit) × (IsUtf8 bytes → ⊥) → source_text_of bytes ≡ Err errors.InputNotUtf8
unfolding source_text_of
no_text_is bytes (short, other) = rw (le-ltb input_limit (length bytes) short, no_utf8 bytes other) refl

pub no_text_exactly : (bytes : List ℕ)
    → (source_text_of bytes ≡ Err errors.InputNotUtf8) ↔ ((length bytes ≤ input_limit) × (IsUtf8 bytes → ⊥))
no_text_exactly bytes = (is_no_text bytes, no_text_is bytes)

-- no other refusal is there
pub text_err : (bytes : List ℕ) (e : SourceError) → source_text_of bytes ≡ Err e → (e ≡ errors.InputTooLong) ⊎ (e ≡ errors.InputNotUtf8)
unfolding source_text_of
text_err bytes e = go (nat_lt input_limit (length bytes)) (is_utf8 bytes)
  where
    go : (long utf8 : Bool)
        → (if long then Err errors.InputTooLong else if utf8 then Ok bytes else Err errors.InputNotUtf8) ≡ Err e
        → (e ≡ errors.InputTooLong) ⊎ (e ≡ errors.InputNotUtf8)
    go true utf8 same = inl (cc same)
    go false true same = cc same
    go false false same = inr (cc same)

-- each error of a source comes of some bytes
long_input : (n : ℕ) → input_limit < n → (input : List ℕ) × (source_text_of input ≡ Err errors.InputTooLong)
long_input n long = (replicate n 0, (too_long_exactly (replicate n 0)).1 (rw (length-replicate {A = ℕ} n 0) long))

other_input : source_text_of (255 ∷ []) ≡ Err errors.InputNotUtf8
unfolding source_text_of is_utf8 chars
other_input = refl

pub some_input : (e : SourceError) → (input : List ℕ) × ReadsSourceText (Err e) input
some_input errors.ReadFault = ([], tt)
some_input errors.NoMemory = ([], tt)
some_input errors.InputTooLong = long_input (input_limit + 1) (omega arith)
some_input errors.InputNotUtf8 = (255 ∷ [], other_input)
