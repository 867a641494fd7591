-- What a text shows, against what it means to whom reads it.
use Rattle.std.proofs.Common.{◌≡◌, ◌∙◌, true, ℕ, List, Option, None, Some, Result, Ok, Err, ap, subst, sym}
use Rattle.std.specs.Str.{is_utf8}
use Rattle.std.proofs.lemmas.Str.{IsUtf8-from_is_utf8}
use Rattle.picky_wire_base.specs.Outcome.{and_then, map_ok}
use Rattle.picky_wire_base.specs.carried.Outcome.{and_then_ok}
use Rattle.picky_suite.specs.Meanings.{Meanings, plain}
use Rattle.picky_key_text.specs.{Order.{reading}, Reader.{Reader}, Reads.{Reads}, declared.meaning.Meaning.{Meaning}}
use Rattle.picky_key_text.specs.declared.error.ReadError.{ReadError}
use Rattle.picky_key_text.proofs.ReadingLaws.{reading_says}
use Rattle.picky_shown.specs.Shown.{IsShownOf, is_encrypted, meaning_shown, open_shows, sealed_shows, shown_else, shows}
use Rattle.picky_shown.specs.declared.{sealing.ShownSealing.TheVariants.{Unsealed}, showing.Shown.{Shown}}
use Rattle.picky_shown.proofs.ShownLaws.{read_is_shown, unsealed_is_read}
use Rattle.picky_c.specs.{Given.{plain_reader}, Shown.{IsShownBy}}

-- ---- an encrypted text shows the same whatever the suite

open_is_bare : (says : Result Meaning ReadError) (shown : Shown) → map_ok meaning_shown says ≡ Ok shown
    → is_encrypted shown.sealing ≡ true → ⊥
open_is_bare (Ok meaning) shown is shut =
    let same : meaning_shown meaning ≡ shown = cc is in
    let bare : is_encrypted Unsealed ≡ true = ap (λ (s : Shown). is_encrypted s.sealing) same ∙ shut in cc bare
open_is_bare (Err e) shown is shut = cc is

else_alike : (m n : Meanings) (text : List ℕ) (shown : Shown) (sealed : Option Shown)
    → shown_else (open_shows m text) sealed ≡ Ok shown → is_encrypted shown.sealing ≡ true
    → shown_else (open_shows n text) sealed ≡ Ok shown
else_alike m n text shown None is shut =
    absurd (open_is_bare (reading (record { meanings = m; pass = None }) text) shown is shut)
else_alike m n text shown (Some other) is shut = is

shows_alike : (m n : Meanings) (text : List ℕ) (shown : Shown) → shows m text ≡ Ok shown → is_encrypted shown.sealing ≡ true
    → shows n text ≡ Ok shown
unfolding shows
shows_alike m n text shown is shut =
    let found = and_then_ok (sealed_shows text) (shown_else (open_shows m text)) shown is in
    ap (λ s. and_then s (shown_else (open_shows n text))) found.1 ∙ else_alike m n text shown found.0 found.2 shut

opened_is_shown : (text : List ℕ) (shown : Shown) → shows plain text ≡ Ok shown → is_encrypted shown.sealing ≡ true
    → (r : Reader) (meaning : Meaning) → Reads r text meaning → IsShownOf meaning shown
opened_is_shown text shown is shut r meaning reads =
    let seen = read_is_shown r text meaning reads in
    let both : Ok seen.0 ≡ Ok shown = sym seen.1 ∙ shows_alike plain r.meanings text shown is shut in
    let same : seen.0 ≡ shown = cc both in
    subst (λ s. IsShownOf meaning s) same seen.2

bare_is_shown : (text : List ℕ) (shown : Shown) → is_utf8 text ≡ true → shows plain text ≡ Ok shown → shown.sealing ≡ Unsealed
    → (meaning : Meaning) × Reads plain_reader text meaning × (shown ≡ meaning_shown meaning)
bare_is_shown text shown utf8 is bare =
    let found = unsealed_is_read plain text shown is bare in
    (found.0, reading_says plain_reader text found.0 (IsUtf8-from_is_utf8 text utf8) tt found.1, found.2)

-- ---- the call

is_shown : (text : List ℕ) (shown : Shown) → is_utf8 text ≡ true → shows plain text ≡ Ok shown → IsShownBy text shown
is_shown text shown utf8 is = record {
  says = is;
  bare = bare_is_shown text shown utf8 is;
  opened = opened_is_shown text shown is;
}

pub text_is_shown : (m : Meanings) (bytes text : List ℕ) (shown : Shown) → m ≡ plain → text ≡ bytes → is_utf8 bytes ≡ true
    → shows m text ≡ Ok shown → IsShownBy bytes shown
text_is_shown m bytes text shown means same utf8 is =
    is_shown bytes shown utf8 (subst (λ t. shows plain t ≡ Ok shown) same (subst (λ n. shows n text ≡ Ok shown) means is))
