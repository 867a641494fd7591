-- A key line that isn't read is refused for itself: for no fault of a source, and never for want of memory.
use Rattle.std.proofs.Common.{◌≡◌, ◌+◌, ◌==◌, ℕ, zero, suc, ◌<◌, List, [], ◌∷◌, length, Contains}
use Rattle.std.proofs.Common.{Option, Some, None, Result, Ok, Err, arith, inl, inr, subst}
use Rattle.std.proofs.lemmas.Bool.{cases_Bool}
use Rattle.std.specs.List.{AllByRecursion}
use Rattle.picky_text.specs.Lines.{lines}
use Rattle.picky_wire.specs.OfWire.{IsErrorOfBytes}
use Rattle.picky_keys.specs.FromWire.{public_key_error}
use Rattle.picky_keys.specs.LineRefusal.{line_meaning}
use Rattle.picky_keys.specs.carried.SourceLine.{RefusesOwn, line_own}
use Rattle.picky_keys.specs.declared.error.SshPublicKeyError.{SshPublicKeyError}
use Rattle.picky_keys.specs.declared.key.SshPublicKey.{SshPublicKey}
use Rattle.picky_authorized.specs.declared.auth_option.AuthOption.{AuthOption}
use Rattle.picky_authorized.specs.declared.entry.AuthContent.{AuthContent}
use Rattle.picky_authorized.specs.declared.entry.AuthContent.TheVariants as contents
use Rattle.picky_authorized.specs.declared.entry.AuthEntry.{AuthEntry}
use Rattle.picky_authorized.specs.declared.quotes.PartEnd.TheVariants.{Blank}
use Rattle.picky_authorized.specs.Entries.{entries_from, entries_in, onto_entries}
use Rattle.picky_authorized.specs.KnownOptions.{are_fit}
use Rattle.picky_authorized.specs.Lines.{begins_with_key, content_in, content_of, key_content, optioned, without_blanks}
use Rattle.picky_authorized.specs.Options.{options_in}
use Rattle.picky_authorized.specs.Quotes.{ends_at, front_outside, rest_outside}

-- what is unread is refused for itself
abbrev IsOwnContent : AuthContent → Type 0
IsOwnContent content = (e : SshPublicKeyError) → content ≡ contents.Unread e → IsErrorOfBytes public_key_error e

key_is_own : (options : List AuthOption) (read : Result SshPublicKey SshPublicKeyError) → RefusesOwn public_key_error read
    → IsOwnContent (key_content options read)
key_is_own options (Ok key) own e is = cc is
key_is_own options (Err f) own e is = own e (cc is)

optioned_is_own : (key_line : List ℕ) (options : Option (List AuthOption)) → IsOwnContent (optioned key_line options)
optioned_is_own key_line None = λ e is. cc is
optioned_is_own key_line (Some options) = elim (cases_Bool (are_fit options)) [
  | inl fit ↦ rw fit (key_is_own options (line_meaning key_line) (line_own key_line))
  | inr other ↦ rw other (λ e is. cc is)
]

pub content_is_own : (line : List ℕ) → IsOwnContent (content_of line)
unfolding content_of
content_is_own line = elim (cases_Bool (begins_with_key line)) [
  | inl key ↦ rw key (key_is_own [] (line_meaning line) (line_own line))
  | inr other ↦
      rw other
      (optioned_is_own (without_blanks (rest_outside (ends_at Blank) line)) (options_in (front_outside (ends_at Blank) line)))
]

-- ---- the entries of a text

abbrev AreOwn : List AuthEntry → Type 0
AreOwn entries = AllByRecursion (λ entry. IsOwnContent entry.content) entries

onto_is_own : (n : ℕ) (line : List ℕ) (entries : List AuthEntry) → AreOwn entries
    → AreOwn (onto_entries n (content_in line) entries)
onto_is_own n [] entries own = own
onto_is_own n (b ∷ bs) entries own = elim (cases_Bool (b == 35)) [
  | inl comment ↦ rw comment own
  | inr other ↦ rw other (content_is_own (b ∷ bs), own)
]

from_are_own : (n : ℕ) (lines : List (List ℕ)) → AreOwn (entries_from n lines)
from_are_own n [] = tt
from_are_own n (line ∷ more) = onto_is_own n (without_blanks line) (entries_from (n + 1) more) (from_are_own (n + 1) more)

-- what holds of each element holds of one that is among them
holds_of_contained : {X : Type 0} (P : X → Type 0) (xs : List X) (x : X) → AllByRecursion P xs → Contains xs x → P x
holds_of_contained P [] x all (k, below, is) = absurd (omega (arith, below))
holds_of_contained P (y ∷ ys) x all (zero, below, is) = subst P is all.0
holds_of_contained P (y ∷ ys) x all (suc k, below, is) =
    let inside : k < length ys = omega (arith, below) in
    holds_of_contained P ys x all.1 (k, inside, is)

pub entry_is_own : (text : List ℕ) (entry : AuthEntry) (e : SshPublicKeyError) → Contains (entries_in text) entry
    → entry.content ≡ contents.Unread e → IsErrorOfBytes public_key_error e
unfolding entries_in
entry_is_own text entry e among is =
    holds_of_contained (λ one. IsOwnContent one.content) (entries_in text) entry (from_are_own 1 (lines text)) among e is
