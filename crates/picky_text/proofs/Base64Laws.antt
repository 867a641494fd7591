-- The laws of base64: it is read back, each text of it is the text of one list, and its alphabet.
use Rattle.std.proofs.Common.{◌≡◌, ◌≢◌, ℕ, zero, suc, ◌<◌, ◌≤◌, ◌+◌, ◌-◌, ◌*◌, ◌/◌, ◌%◌, Bool, true, false}
use Rattle.std.proofs.Common.{IsTrue, List, [], ◌∷◌, ◌++◌, take, drop, length, slice_index, ◌⊎◌, refl, sym}
use Rattle.std.proofs.Common.{◌∙◌, ap, arith, inl, inr, replicate}
use Rattle.std.proofs.lemmas.List.{length-append, length-drop, length-replicate, get_or-drop, nil_from_length}
use Rattle.std.proofs.lemmas.List.Sums.{AllPass-from_list_all}
use Rattle.std.specs.List.{AllByRecursion}
use Rattle.std.specs.Result.{result_ok}
use Rattle.std.specs.Str.{IsAscii}
use Rattle.std.specs.declared.option.Option.{Option}
use Rattle.std.specs.declared.option.Option.TheVariants.{None, Some}
use Rattle.std.specs.declared.result.Result.{Result}
use Rattle.std.specs.declared.result.Result.TheVariants.{Ok, Err}
use Rattle.base64.specs.declared.decode.DecodeError.{DecodeError}
use Rattle.base64.specs.declared.engine.DecodePaddingMode.{DecodePaddingMode}
use Rattle.base64.specs.Decode.{IsDecodeTable, or_else, symbol_error, group_error, group_bytes, groups_error}
use Rattle.base64.specs.Decode.{groups_bytes, groups_before_last, decode_group, decode_error, decode_outcome}
use Rattle.base64.specs.Decode.{decoded_bytes, lone_error, suffix_error, suffix_bytes, scan_last, no_leftover}
use Rattle.base64.specs.Engines.{standard}
use Rattle.base64.specs.GeneralPurpose.{IsBytes, decode_of, decoded_of}
use Rattle.base64.specs.Rfc4648.{encode_symbols}
use Rattle.base64.specs.Tables.{is_inverse}
use Rattle.base64.proofs.Canonical.{IsScanned-scan}
use Rattle.base64.proofs.EngineFacts.{IsAscii-encode_of, decode_of-encode_of, decode_of_strict}
use Rattle.base64.proofs.EngineFacts.{decode_of_bytes, encode_of-append}
use Rattle.base64.proofs.RoundTrip.{length-encode_symbols}
use Rattle.base64.proofs.Tables.{IsDecodeTable_from, are_tables_inverse}
use Rattle.picky_text.specs.Base64.{base64_of, decoded, is_base64_symbol}
use Rattle.picky_text.specs.Lines.{HasNo}
use Rattle.picky_text.proofs.ListLaws.{all_append, all_weaker, all_replicate}

-- ---- read back

-- bytes are read back from their base64 text
pub base64_is_read_back : (bytes : List ℕ) → IsBytes bytes → decoded (base64_of bytes) ≡ Some bytes
unfolding base64_of decoded decoded_of
base64_is_read_back bytes small = ap result_ok (decode_of-encode_of standard bytes refl small)

-- two lists of bytes with one base64 text are one list
pub base64_of_injective : (xs ys : List ℕ) → IsBytes xs → IsBytes ys → base64_of xs ≡ base64_of ys
    → xs ≡ ys
base64_of_injective xs ys small_xs small_ys same =
    let both = sym (base64_is_read_back xs small_xs) ∙ ap decoded same
    ∙ base64_is_read_back ys small_ys in
    cc both

-- the bytes of an answer that is Ok
ok_of : {E : Type 0} (answer : Result (List ℕ) E) (bytes : List ℕ) → result_ok answer ≡ Some bytes
    → answer ≡ Ok bytes
ok_of (Ok x) bytes is = ap Ok (cc is)
ok_of (Err e) bytes is = cc is

-- a text that is read as some bytes is their base64 text
pub base64_is_of_what_it_gives : (body bytes : List ℕ) → IsBytes body → decoded body ≡ Some bytes
    → body ≡ base64_of bytes
unfolding base64_of decoded decoded_of
base64_is_of_what_it_gives body bytes small reads = decode_of_strict standard body bytes
    (refl, refl) small (ok_of _ bytes reads)

-- ---- what is read is bytes

bytes_nil : IsBytes []
bytes_nil i = omega arith

bytes_cons : (b : ℕ) (bs : List ℕ) → b < 256 → IsBytes bs → IsBytes (b ∷ bs)
bytes_cons b bs first rest zero = first
bytes_cons b bs first rest (suc i) = rest i

bytes_append : (xs ys : List ℕ) → IsBytes xs → IsBytes ys → IsBytes (xs ++ ys)
bytes_append [] ys left right = right
bytes_append (x ∷ xs) ys left right = bytes_cons x (xs ++ ys) (left 0)
    (bytes_append xs ys (λ i. left (suc i)) right)

bytes_take : (n : ℕ) (xs : List ℕ) → IsBytes xs → IsBytes (take n xs)
bytes_take zero xs small = bytes_nil
bytes_take (suc n) [] small = bytes_nil
bytes_take (suc n) (x ∷ xs) small = bytes_cons x (take n xs) (small 0)
    (bytes_take n xs (λ i. small (suc i)))

three_bytes : (x y z : ℕ) → x < 256 → y < 256 → z < 256 → IsBytes (x ∷ y ∷ z ∷ [])
three_bytes x y z lx ly lz =
    bytes_cons x (y ∷ z ∷ []) lx (bytes_cons y (z ∷ []) ly (bytes_cons z [] lz bytes_nil))

-- both parts of a first error that is none
none_twice : (x y : Option DecodeError) → or_else x y ≡ None → (x ≡ None) × (y ≡ None)
none_twice None y none = (refl, none)
none_twice (Some e) y none = cc none

-- the value of a symbol with no error has six bits
value_below : (dec s : List ℕ) (i : ℕ) → IsDecodeTable dec → slice_index s i < 256
    → symbol_error dec s i ≡ None → slice_index dec (slice_index s i) < 64
value_below dec s i table byte none = elim (table (slice_index s i) byte) [
  | inl bad ↦ cc (rw bad at none)
  | inr good ↦ good
]

-- four values of six bits are three bytes
group_is_bytes : (a b c d : ℕ) → a < 64 → b < 64 → c < 64 → d < 64 → IsBytes (decode_group a b c d)
group_is_bytes a b c d la lb lc ld =
    let first : a * 4 + b / 16 < 256 = omega arith in
    let second : b % 16 * 16 + c / 4 < 256 = omega arith in
    let third : c % 4 * 64 + d < 256 = omega arith in
    three_bytes (a * 4 + b / 16) (b % 16 * 16 + c / 4) (c % 4 * 64 + d) first second third

-- so the groups before the last are bytes
groups_are_bytes : (dec s : List ℕ) (q : ℕ) → IsDecodeTable dec → IsBytes s
    → groups_error dec s q ≡ None → IsBytes (groups_bytes dec s q)
unfolding groups_error groups_bytes
groups_are_bytes dec s zero table small none = bytes_nil
groups_are_bytes dec s (suc q) table small none =
    let i : ℕ = 4 * q in
    let parts = none_twice (groups_error dec s q) (group_error dec s i) none in
    let p0 = none_twice (symbol_error dec s i) _ parts.1 in
    let p1 = none_twice (symbol_error dec s (i + 1)) _ p0.1 in
    let p2 = none_twice (symbol_error dec s (i + 2)) (symbol_error dec s (i + 3)) p1.1 in
    let below = λ (k : ℕ) (none : symbol_error dec s k ≡ None). value_below dec s k table (small k)
    none in
    bytes_append (groups_bytes dec s q) (group_bytes dec s i)
    (groups_are_bytes dec s q table small parts.0)
    (group_is_bytes _ _ _ _ (below i p0.0) (below (i + 1) p1.0) (below (i + 2) p2.0)
    (below (i + 3) p2.1))

zeros_below : (k : ℕ) → slice_index (0 ∷ 0 ∷ 0 ∷ 0 ∷ []) k < 64
zeros_below zero = omega arith
zeros_below (suc zero) = omega arith
zeros_below (suc (suc zero)) = omega arith
zeros_below (suc (suc (suc zero))) = omega arith
zeros_below (suc (suc (suc (suc k)))) = omega arith

result_cases : {T E : Type 0} (r : Result T E) → ((x : T) × (r ≡ Ok x)) ⊎ ((e : E) × (r ≡ Err e))
result_cases (Ok x) = inl (x, refl)
result_cases (Err e) = inr (e, refl)

-- and the last group
last_is_bytes : (enc dec s : List ℕ) (pad at : ℕ) → is_inverse enc dec ≡ true → IsBytes s
    → at ≤ length s → length s ≤ at + 4 → IsBytes (suffix_bytes dec pad at s)
last_is_bytes enc dec s pad at inv small start short =
    let rest : List ℕ = drop at s in
    let long : length rest ≡ length s - at = length-drop at s in
    let rest_small : IsBytes rest = λ k. rw (get_or-drop at s k 0) (small (at + k)) in
    elim (result_cases (scan_last dec pad at s)) [
      | inl ok ↦
          let st = ok.0 in
          let held = IsScanned-scan enc dec rest pad at rest no_leftover st 0 inv rest_small
          (omega arith) (omega arith) refl (
            (refl, refl, λ j lt. absurd (omega arith), λ j low lt. absurd (omega arith)),
            (omega arith, omega arith, omega arith, zeros_below),
          ) ok.1 in
          let below = held.1.3 in
          let m : ℕ → ℕ = slice_index st.morsels in
          rw ok.1 (bytes_take (st.morsels_count * 6 / 8) (decode_group (m 0) (m 1) (m 2) (m 3))
          (group_is_bytes (m 0) (m 1) (m 2) (m 3) (below 0) (below 1) (below 2) (below 3)))
      | inr err ↦ rw err.1 bytes_nil
    ]

-- an input with no error gives bytes
all_is_bytes : (enc dec s : List ℕ) (pad : ℕ) (mode : DecodePaddingMode) → is_inverse enc dec ≡ true
    → IsBytes s
    → decode_error dec pad false mode s ≡ None → IsBytes (decoded_bytes dec pad s)
all_is_bytes enc dec s pad mode inv small none =
    let q : ℕ = groups_before_last (length s) in
    let p0 = none_twice (lone_error dec pad s) (or_else (groups_error dec s q)
    (suffix_error dec pad false mode (4 * q) s)) none in
    let p1 = none_twice (groups_error dec s q) (suffix_error dec pad false mode (4 * q) s) p0.1 in
    bytes_append (groups_bytes dec s q) (suffix_bytes dec pad (4 * q) s)
    (groups_are_bytes dec s q (IsDecodeTable_from enc dec inv) small p1.0)
    (last_is_bytes enc dec s pad (4 * q) inv small (omega arith) (omega arith))

no_error : (x : Option DecodeError) (d b : List ℕ) → decode_outcome x d ≡ Ok b → x ≡ None
no_error None d b ok = refl
no_error (Some e) d b ok = cc ok

-- what a text of bytes is read as is bytes
pub decoded_is_bytes : (body bytes : List ℕ) → IsBytes body → decoded body ≡ Some bytes
    → IsBytes bytes
unfolding decoded decoded_of
decoded_is_bytes body bytes small reads =
    let ok = ok_of (decode_of standard body) bytes reads in
    let inverse = are_tables_inverse standard.encode_table standard.decode_table
    standard.padding.value standard.tables in
    decode_of_bytes standard body bytes
    (all_is_bytes standard.encode_table standard.decode_table body _
    standard.config.decode_padding_mode inverse small (no_error _ _ bytes ok)) ok

-- ---- the alphabet

-- each symbol of bytes is one of the table's
symbols_pass : (passes : ℕ → Bool) (table bytes : List ℕ)
    → ((i : ℕ) → i < 64 → IsTrue (passes (slice_index table i))) → IsBytes bytes
    → AllByRecursion (λ b. IsTrue (passes b)) (encode_symbols table bytes)
unfolding encode_symbols
symbols_pass passes table [] inside small = tt
symbols_pass passes table (a ∷ []) inside small =
    let la = small 0 in
    (inside (a / 4) (omega arith), (inside (a % 4 * 16) (omega arith), tt))
symbols_pass passes table (a ∷ b ∷ []) inside small =
    let la = small 0 in
    let lb = small 1 in (
      inside (a / 4) (omega arith),
      (
        inside (a % 4 * 16 + b / 16) (omega arith),
        (inside (b % 16 * 4) (omega arith), tt),
      ),
    )
symbols_pass passes table (a ∷ b ∷ c ∷ rest) inside small =
    let la = small 0 in
    let lb = small 1 in
    let lc = small 2 in
    let more = symbols_pass passes table rest inside (λ i. small (suc (suc (suc i)))) in (
      inside (a / 4) (omega arith),
      (
        inside (a % 4 * 16 + b / 16) (omega arith),
        (inside (b % 16 * 4 + c / 64) (omega arith), (inside (c % 64) (omega arith), more)),
      ),
    )

table_passes : (i : ℕ) → i < 64 → IsTrue (is_base64_symbol (slice_index standard.encode_table i))
table_passes i lt = AllPass-from_list_all is_base64_symbol standard.encode_table refl i 0 lt

-- each symbol of a base64 text is a letter, a digit, `+`, `/` or `=`
pub base64_alphabet : (bytes : List ℕ) → IsBytes bytes
    → AllByRecursion (λ b. IsTrue (is_base64_symbol b)) (base64_of bytes)
unfolding base64_of
base64_alphabet bytes small =
    all_append _ (encode_symbols standard.encode_table bytes) _
    (symbols_pass is_base64_symbol standard.encode_table bytes table_passes small)
    (all_replicate (λ b. IsTrue (is_base64_symbol b)) _ 61 refl)

-- so no other byte stands in it: no LF, CR, dash and space
pub base64_has_no : (b : ℕ) (bytes : List ℕ) → IsBytes bytes → is_base64_symbol b ≡ false
    → HasNo b (base64_of bytes)
base64_has_no b bytes small other =
    all_weaker (λ c. IsTrue (is_base64_symbol c)) (λ c. c ≢ b)
    (λ c symbol same. cc (symbol, other, ap is_base64_symbol same)) (base64_of bytes)
    (base64_alphabet bytes small)

-- a base64 text is ASCII
pub base64_is_ascii : (bytes : List ℕ) → IsAscii (base64_of bytes)
unfolding base64_of
base64_is_ascii bytes = IsAscii-encode_of standard bytes

-- ---- how long, and where it is cut

-- how long the base64 of bytes is
pub length_base64 : (bytes : List ℕ) → length (base64_of bytes) ≡ 4 * ((length bytes + 2) / 3)
unfolding base64_of
length_base64 bytes =
    let n : ℕ = length bytes in
    let pad : ℕ = (3 - n % 3) % 3 in
    let symbols = length-encode_symbols standard.encode_table bytes in
    let tail : List ℕ = replicate pad 61 in
    let padded : length tail ≡ pad = length-replicate pad 61 in
    length-append (encode_symbols standard.encode_table bytes) tail ∙ ap (λ k. k + length tail) symbols
    ∙ ap (λ k. (4 * n + 2) / 3 + k) padded ∙ omega arith

-- behind whole groups of three bytes others go
pub base64_append : (x y : List ℕ) → length x % 3 ≡ 0 → base64_of (x ++ y) ≡ base64_of x ++ base64_of y
unfolding base64_of
base64_append x y whole = encode_of-append standard x y whole

-- no bytes are no text
pub base64_nil : base64_of [] ≡ []
base64_nil = nil_from_length (base64_of []) (length_base64 [])

-- what `laws` states of base64
pub ruleset base64_laws = (
  base64_is_read_back,
  base64_of_injective,
  base64_is_of_what_it_gives,
  decoded_is_bytes,
  base64_alphabet,
  base64_has_no,
  base64_is_ascii,
)
