-- The key of an entry is one that a public key line says.
use Rattle.std.proofs.Common.{◌≡◌, ◌+◌, ◌==◌, ℕ, zero, suc, Bool, true, false, List, [], ◌∷◌, length, take, Some}
use Rattle.std.proofs.Common.{sym, subst, arith, inl, inr}
use Rattle.std.proofs.lemmas.Bool.{cases_Bool, ne_eqb}
use Rattle.std.proofs.lemmas.List.Splits.{join_with_byte-slice_split}
use Rattle.std.specs.List.{AllByRecursion, join_with_byte, slice_get, slice_split}
use Rattle.std.specs.Prelude.{if◌then◌else◌}
use Rattle.std.specs.Str.Lines.{lines_of_parts}
use Rattle.picky_wire_base.specs.Numbers.{IsBytes}
use Rattle.picky_wire_base.proofs.Numbers.{bytes_behind, bytes_in_front, front_bytes}
use Rattle.picky_text.specs.Lines.{lines}
use Rattle.picky_keys.specs.Line.{IsPublicLine}
use Rattle.picky_keys.specs.declared.key.SshPublicKey.{SshPublicKey}
use Rattle.picky_authorized.specs.declared.auth_option.AuthOption.{AuthOption}
use Rattle.picky_authorized.specs.declared.entry.AuthContent.{AuthContent}
use Rattle.picky_authorized.specs.declared.entry.AuthContent.TheVariants as contents
use Rattle.picky_authorized.specs.declared.entry.AuthEntry.{AuthEntry}
use Rattle.picky_authorized.specs.Entries.{entries_from, entries_in, onto_entries}
use Rattle.picky_authorized.specs.Lines.{IsContentSaid, content_in, content_of, without_blanks}
use Rattle.picky_authorized.specs.Quotes.{is_blank}
use Rattle.picky_authorized.proofs.ContentLaws.{content_says}

-- ---- the lines of bytes are bytes

stripped_bytes : (b : Bool) (n : ℕ) (line : List ℕ) → IsBytes line → IsBytes (if b then take n line else line)
stripped_bytes true n line each = front_bytes n line each
stripped_bytes false n line each = each

last_bytes : (part : List ℕ) → IsBytes part → AllByRecursion IsBytes (lines_of_parts (part ∷ []))
last_bytes [] each = tt
last_bytes (b ∷ part) each = rw (ne_eqb (length (b ∷ part)) 0 (omega arith)) (each, tt)

parts_bytes : (parts : List (List ℕ)) → IsBytes (join_with_byte 10 parts) → AllByRecursion IsBytes (lines_of_parts parts)
parts_bytes [] each = tt
parts_bytes (part ∷ []) each = last_bytes part each
parts_bytes (part ∷ next ∷ more) each =
    let rest : List ℕ = join_with_byte 10 (next ∷ more) in
    let behind : IsBytes (10 ∷ rest) = bytes_behind part (10 ∷ rest) each in (
      stripped_bytes _ _ part (bytes_in_front part (10 ∷ rest) each),
      parts_bytes (next ∷ more) (bytes_behind (10 ∷ []) rest behind),
    )

lines_bytes : (text : List ℕ) → IsBytes text → AllByRecursion IsBytes (lines text)
lines_bytes text each =
    parts_bytes (slice_split (λ b. b == 10) text) (subst IsBytes (sym (join_with_byte-slice_split 10 text)) each)

unblanked_bytes : (line : List ℕ) → IsBytes line → IsBytes (without_blanks line)
unblanked_bytes [] each = each
unblanked_bytes (b ∷ bs) each = elim (cases_Bool (is_blank b)) [
  | inl blank ↦ rw blank (unblanked_bytes bs (bytes_behind (b ∷ []) bs each))
  | inr other ↦ rw other each
]

-- ---- a key is said by a line

-- a key of the content is one that a public key line says
abbrev SaysKey : AuthContent → Type 0
SaysKey content = (options : List AuthOption) (key : SshPublicKey) → content ≡ contents.Key options key
    → (line : List ℕ) × IsPublicLine line key

content_says_key : (line : List ℕ) → IsBytes line → SaysKey (content_of line)
content_says_key line each options key is =
    let said = subst (IsContentSaid line) is (content_says line each) in (said.0, said.2)

abbrev SayKeys : List AuthEntry → Type 0
SayKeys entries = AllByRecursion (λ e. SaysKey e.content) entries

onto_say : (n : ℕ) (line : List ℕ) (entries : List AuthEntry) → IsBytes line → SayKeys entries
    → SayKeys (onto_entries n (content_in line) entries)
onto_say n [] entries each all = all
onto_say n (b ∷ bs) entries each all = elim (cases_Bool (b == 35)) [
  | inl comment ↦ rw comment all
  | inr other ↦ rw other (content_says_key (b ∷ bs) each, all)
]

from_say : (n : ℕ) (ls : List (List ℕ)) → AllByRecursion IsBytes ls → SayKeys (entries_from n ls)
from_say n [] each = tt
from_say n (line ∷ more) each =
    onto_say n (without_blanks line) (entries_from (n + 1) more) (unblanked_bytes line each.0) (from_say (n + 1) more each.1)

at_place : (P : AuthEntry → Type 0) (entries : List AuthEntry) (place : ℕ) (e : AuthEntry) → AllByRecursion P entries
    → slice_get entries place ≡ Some e → P e
at_place P [] place e all is = cc is
at_place P (first ∷ more) zero e all is = let same : first ≡ e = cc is in subst P same all.0
at_place P (first ∷ more) (suc place) e all is = at_place P more place e all.1 is

pub key_is_said : (text : List ℕ) (place : ℕ) (e : AuthEntry) (options : List AuthOption) (key : SshPublicKey) → IsBytes text
    → slice_get (entries_in text) place ≡ Some e → e.content ≡ contents.Key options key
    → (line : List ℕ) × IsPublicLine line key
unfolding entries_in
key_is_said text place e options key each stands is =
    at_place (λ one. SaysKey one.content) (entries_in text) place e (from_say 1 (lines text) (lines_bytes text each)) stands
    options key is
