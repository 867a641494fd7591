-- Lemmas on an identity's entry in a list.
use Rattle.std.proofs.Common.{◌≡◌, ◌≤◌, ◌<◌, ◌+◌, ◌^◌, ◌++◌, ◌∷◌, ◌∙◌, [], ℕ, suc, List, length, slice_index, take, drop, ap}
use Rattle.std.proofs.Common.{sym, arith, inl, inr, subst}
use Rattle.std.proofs.lemmas.Bool.{cases_lt}
use Rattle.std.proofs.lemmas.List.{drop-map, length-append, length-set, map-append, map-set, take-map}
use Rattle.std.proofs.lemmas.List.Edits.{length-remove}
use Rattle.std.specs.{Prelude.{map, remove, slice_set}, List.{concat}}
use Rattle.picky_wire_base.specs.{Mpint.{mpint_of}, Wire.{string_of}, declared.view.Part.{Part}}
use Rattle.picky_wire_base.specs.{declared.view.Word.{Word}, View.{Lies, WordLies}}
use Rattle.picky_wire_base.proofs.{MpintLaws.{mpint_of_high, mpint_of_low}, PieceLemmas.{length-string_of}}
use Rattle.picky_keys.specs.declared.curve.EcCurve.{EcCurve}
use Rattle.picky_keys.specs.declared.curve.EcCurve.TheVariants.{NistP256, NistP384, NistP521}
use Rattle.picky_keys.specs.{declared.curve.EdAlgorithm.TheVariants.{Ed25519}, declared.kind.KeyKind.{KeyKind}}
use Rattle.picky_keys.specs.KeyNames.{curve_identifier, curve_key_type, ed_key_type, kind_name}
use Rattle.picky_keys.specs.{declared.key.SshBasePublicKey.{SshBasePublicKey}, Key.{kind_of}}
use Rattle.picky_keys.specs.Blob.{blob_of, fields_spelled}
use Rattle.picky_keys.specs.declared.kind.KeyKind.TheVariants as kinds
use Rattle.picky_keys.specs.declared.key.SshBasePublicKey.TheVariants as keys
use Rattle.picky_sshkey_blob.specs.{declared.view.PrivateView.{PrivateView}, Key.{IsPrivateKey, public_part}}
use Rattle.picky_sshkey_blob.specs.View.{PrivatePartsLie, private_key_seen}
use Rattle.picky_sshkey_blob.specs.declared.view.PrivateView.TheVariants as views
use Rattle.picky_agent_state.specs.{Keep.{keep_limit}, declared.identity.Identity.{Identity}, Reply.{entry}}
use Rattle.picky_agent_state.specs.{Rows.{most_identities}, inner.Asked.{CanAdd, identity_seen}}
use Rattle.picky_agent_state.specs.inner.Entry.{HasEntry}

-- ---- how long a blob is at most

mpint_size : (v : List ℕ) → length (mpint_of v) ≤ length v + 5
mpint_size v = elim (cases_lt (slice_index v 0) 128) [
  | inl low ↦ subst (λ w. length w ≤ length v + 5) (sym (mpint_of_low v low)) (omega (arith, length-string_of v))
  | inr high ↦ subst (λ w. length w ≤ length v + 5) (sym (mpint_of_high v high)) (omega (arith, length-string_of (0 ∷ v)))
]

concat_size : (x : List ℕ) (xs : List (List ℕ)) → length (concat (x ∷ xs)) ≡ length x + length (concat xs)
concat_size x xs = length-append x (concat xs)

name_size : (kind : KeyKind) → length (kind_name kind) ≤ 40
unfolding kind_name curve_key_type ed_key_type
name_size kinds.Rsa = omega arith
name_size (kinds.Ec NistP256) = omega arith
name_size (kinds.Ec NistP384) = omega arith
name_size (kinds.Ec NistP521) = omega arith
name_size (kinds.Ed Ed25519) = omega arith
name_size kinds.SkEcdsaSha2NistP256 = omega arith
name_size kinds.SkEd25519 = omega arith

identifier_size : (curve : EcCurve) → length (curve_identifier curve) ≤ 40
unfolding curve_identifier
identifier_size NistP256 = omega arith
identifier_size NistP384 = omega arith
identifier_size NistP521 = omega arith

-- each part has at most so many bytes
abbrev Within : ℕ → SshBasePublicKey → Type 0
Within n (keys.Rsa e m) = (length e ≤ n) × (length m ≤ n)
Within n (keys.Ec curve point) = length point ≤ n
Within n (keys.Ed key) = length key ≤ n
Within n (keys.SkEcdsaSha2NistP256 point application) = (length point ≤ n) × (length application ≤ n)
Within n (keys.SkEd25519 key application) = (length key ≤ n) × (length application ≤ n)

fields_size : (n : ℕ) (key : SshBasePublicKey) → Within n key → length (fields_spelled key) ≤ n + n + 60
unfolding fields_spelled
fields_size n (keys.Rsa e m) within =
    omega (arith, within.0, within.1, concat_size (mpint_of e) (mpint_of m ∷ []), concat_size (mpint_of m) [], mpint_size e, mpint_size m)
fields_size n (keys.Ec curve point) within =
    omega (
      arith,
      within,
      concat_size (string_of (curve_identifier curve)) (string_of point ∷ []),
      concat_size (string_of point) [],
      length-string_of (curve_identifier curve),
      length-string_of point,
      identifier_size curve,
    )
fields_size n (keys.Ed key) within = omega (arith, within, concat_size (string_of key) [], length-string_of key)
fields_size n (keys.SkEcdsaSha2NistP256 point application) within =
    omega (
      arith,
      within.0,
      within.1,
      concat_size (string_of (curve_identifier NistP256)) (string_of point ∷ string_of application ∷ []),
      concat_size (string_of point) (string_of application ∷ []),
      concat_size (string_of application) [],
      length-string_of (curve_identifier NistP256),
      length-string_of point,
      length-string_of application,
      identifier_size NistP256,
    )
fields_size n (keys.SkEd25519 key application) within =
    omega (
      arith,
      within.0,
      within.1,
      concat_size (string_of key) (string_of application ∷ []),
      concat_size (string_of application) [],
      length-string_of key,
      length-string_of application,
    )

blob_size : (n : ℕ) (key : SshBasePublicKey) → Within n key → length (blob_of key) ≤ n + n + 104
unfolding blob_of
blob_size n key within =
    omega (
      arith,
      length-append (string_of (kind_name (kind_of key))) (fields_spelled key),
      length-string_of (kind_name (kind_of key)),
      name_size (kind_of key),
      fields_size n key within,
    )

-- ---- an entry of what a message has

-- a part is no longer than the bytes in which it lies
part_size : (bytes : List ℕ) (end : ℕ) (part : Part) → Lies bytes end part → length part.bytes.now ≤ length bytes
part_size bytes end part lies = omega (arith, lies.ends, lies.within)

parts_size : (bytes : List ℕ) (from : ℕ) (key : PrivateView) → PrivatePartsLie bytes from key
    → Within (length bytes) (public_part (private_key_seen key))
parts_size bytes from (views.Rsa n e d iqmp p q) lie = (part_size bytes _ e lie.1, part_size bytes _ n lie.0)
parts_size bytes from (views.Ec curve point secret) lie = part_size bytes _ point lie.0
parts_size bytes from (views.Ed secret public) lie = part_size bytes _ public lie.1
parts_size bytes from (views.SkEcdsaSha2NistP256 point application flags handle) lie =
    (part_size bytes _ point lie.0, part_size bytes _ application lie.1)
parts_size bytes from (views.SkEd25519 key application flags handle) lie =
    (part_size bytes _ key lie.0, part_size bytes _ application lie.1)

-- a length can say it
has_entry : (bytes : List ℕ) (from : ℕ) (key : PrivateView) (comment : List ℕ) → length bytes ≤ keep_limit
    → PrivatePartsLie bytes from key → length comment ≤ length bytes → HasEntry (identity_seen key comment)
has_entry bytes from key comment few lie within =
    omega (
      arith,
      few,
      within,
      blob_size (length bytes) (public_part (private_key_seen key)) (parts_size bytes from key lie),
      length-string_of (blob_of (public_part (private_key_seen key))),
      length-string_of comment,
      length-append (string_of (blob_of (public_part (private_key_seen key)))) (string_of comment),
    )

pub can_add : (bytes : List ℕ) (from end : ℕ) (key : PrivateView) (word : Word) → length bytes ≤ keep_limit
    → IsPrivateKey (private_key_seen key) → PrivatePartsLie bytes from key → WordLies bytes end word → CanAdd key word.text.now
can_add bytes from end key word few is_key lie (part, text) = record {
  is_key = is_key;
  entry = has_entry bytes from key word.text.now few lie (omega (arith, ap length text, part_size bytes end word.part part));
}

-- ---- the bytes of an entry

-- the parts are short enough
pub parts_short : (identity : Identity) (blob : List ℕ) → HasEntry identity → blob ≡ blob_of (public_part identity.key)
    → length blob + length identity.comment + 8 < 2 ^ 32
parts_short identity blob short is =
    omega (
      arith,
      short,
      ap length is,
      length-string_of (blob_of (public_part identity.key)),
      length-string_of identity.comment,
      length-append (string_of (blob_of (public_part identity.key))) (string_of identity.comment),
    )

-- and so is what is made of them
pub strings_short : (blob comment start first second all : List ℕ) → start ≡ [] → first ≡ string_of blob → second ≡ string_of comment
    → all ≡ start ++ concat (first ∷ second ∷ []) → length blob + length comment + 8 < 2 ^ 32 → length all < 2 ^ 32
strings_short blob comment start first second all start_is first_is second_is all_is short =
    omega (
      arith,
      short,
      ap length all_is,
      ap length start_is,
      ap length first_is,
      ap length second_is,
      length-append start (concat (first ∷ second ∷ [])),
      concat_size first (second ∷ []),
      concat_size second [],
      length-string_of blob,
      length-string_of comment,
    )

-- ---- entries beside their identities

pub one_replaced : (identities : List Identity) (entries : List (List ℕ)) (place : ℕ) (identity : Identity) (made : List ℕ)
    → (length identities ≤ most_identities) × (entries ≡ map entry identities) → made ≡ entry identity
    → (length (slice_set identities place identity) ≤ most_identities)
    × (slice_set entries place made ≡ map entry (slice_set identities place identity))
one_replaced identities entries place identity made (few, are) is = (
  omega (arith, few, length-set identities place identity),
  ap (λ es. slice_set es place made) are ∙ ap (λ e. slice_set (map entry identities) place e) is
      ∙ sym (map-set entry identities place identity),
)

map_remove : (identities : List Identity) (place : ℕ) → map entry (remove identities place) ≡ remove (map entry identities) place
map_remove identities place =
    map-append entry (take place identities) (drop (suc place) identities)
    ∙ ap (λ l. l ++ map entry (drop (suc place) identities)) (sym (take-map entry place identities))
    ∙ ap (λ l. take place (map entry identities) ++ l) (sym (drop-map entry (suc place) identities))

pub one_removed : (identities left : List Identity) (entries entries_left : List (List ℕ)) (place : ℕ)
    → (length identities ≤ most_identities) × (entries ≡ map entry identities) → place < length identities
    → left ≡ remove identities place → entries_left ≡ remove entries place
    → (length left ≤ most_identities) × (entries_left ≡ map entry left)
one_removed identities left entries entries_left place (few, are) inside left_is entries_are = (
  omega (arith, few, ap length left_is, length-remove identities place inside),
  entries_are ∙ ap (λ es. remove es place) are ∙ sym (map_remove identities place) ∙ ap (map entry) (sym left_is),
)
