-- The content of a line is what it says.
use Rattle.std.proofs.Common.{◌≡◌, ℕ, Bool, true, false, List, [], ◌∷◌, ◌++◌, Option, Some, None, Result, Ok, Err}
use Rattle.std.proofs.Common.{refl, sym, ◌∙◌, ap, inl, inr, subst, if◌then◌else◌}
use Rattle.std.proofs.lemmas.Bool.{cases_Bool}
use Rattle.picky_wire_base.specs.Numbers.{IsBytes}
use Rattle.picky_wire_base.proofs.Numbers.{bytes_behind}
use Rattle.picky_keys.specs.LineRefusal.{line_meaning}
use Rattle.picky_keys.specs.declared.error.SshPublicKeyError.{SshPublicKeyError}
use Rattle.picky_keys.specs.declared.key.SshPublicKey.{SshPublicKey}
use Rattle.picky_keys.proofs.LineLaws.{line_meaning_of, line_meaning_says}
use Rattle.picky_authorized.specs.declared.auth_option.AuthOption.{AuthOption}
use Rattle.picky_authorized.specs.declared.entry.AuthContent.{AuthContent}
use Rattle.picky_authorized.specs.declared.entry.AuthContent.TheVariants as contents
use Rattle.picky_authorized.specs.declared.quotes.PartEnd.TheVariants.{Blank}
use Rattle.picky_authorized.specs.KnownOptions.{are_fit}
use Rattle.picky_authorized.specs.Lines.{HasOptions, IsSplit, IsContentSaid, begins_with_key, content_of, key_content, optioned, without_blanks}
use Rattle.picky_authorized.specs.Options.{options_in}
use Rattle.picky_authorized.specs.Quotes.{ends_at, front_outside, is_blank, rest_outside}
use Rattle.picky_authorized.proofs.OptionsLaws.{options_are, options_say}
use Rattle.picky_authorized.proofs.QuoteLaws.{front_is_longest}
use Rattle.picky_authorized.proofs.QuoteLemmas.{split_whole}

-- ---- the parts of a line

abbrev front_in : List ℕ → List ℕ
front_in line = front_outside (ends_at Blank) line

abbrev behind_in : List ℕ → List ℕ
behind_in line = without_blanks (rest_outside (ends_at Blank) line)

blanks_dropped : (text : List ℕ) → (blanks : List ℕ) × (text ≡ blanks ++ without_blanks text)
blanks_dropped [] = ([], refl)
blanks_dropped (b ∷ bs) = elim (cases_Bool (is_blank b)) [
  | inl blank ↦ let more = blanks_dropped bs in (b ∷ more.0, rw blank (ap (λ l. b ∷ l) more.1))
  | inr other ↦ ([], rw other refl)
]

behind_bytes : (line : List ℕ) → IsBytes line → IsBytes (behind_in line)
behind_bytes line each =
    let rest : List ℕ = rest_outside (ends_at Blank) line in
    let whole = split_whole (ends_at Blank) line in
    let of_rest : IsBytes rest = bytes_behind (front_in line) rest (subst IsBytes (sym whole) each) in
    let dropped = blanks_dropped rest in
    bytes_behind dropped.0 (without_blanks rest) (subst IsBytes dropped.1 of_rest)

has_options : (line : List ℕ) (options : List AuthOption) → options_in (front_in line) ≡ Some options
    → are_fit options ≡ true → HasOptions line options (behind_in line)
has_options line options said fits =
    let cut = (front_is_longest is_blank line (front_in line) (rest_outside (ends_at Blank) line)).1 (refl, refl) in record {
      front = front_in line;
      rest = rest_outside (ends_at Blank) line;
      is_front = cut;
      are_options = options_say (front_in line) options said;
      fit = fits;
      behind = refl;
    }

-- the options of a line are those that its front says, and the public line is behind them
options_of : (line : List ℕ) (options : List AuthOption) (key_line : List ℕ) → HasOptions line options key_line
    → (options_in (front_in line) ≡ Some options) × (key_line ≡ behind_in line)
options_of line options key_line has =
    let cut = (front_is_longest is_blank line has.front has.rest).0 has.is_front in (
      ap options_in cut.0 ∙ options_are has.front options has.are_options,
      has.behind ∙ ap without_blanks (sym cut.1),
    )

-- ---- what a line says is its content

key_says : (line : List ℕ) (options : List AuthOption) (key_line : List ℕ) (read : Result SshPublicKey SshPublicKeyError)
    → IsSplit line options key_line → IsBytes key_line → line_meaning key_line ≡ read → IsContentSaid line (key_content options read)
key_says line options key_line (Ok key) split each is = (key_line, split, line_meaning_says key_line key each is)
key_says line options key_line (Err e) split each is = (options, key_line, split, is)

optioned_says : (line : List ℕ) (said : Option (List AuthOption)) → IsBytes line → begins_with_key line ≡ false
    → options_in (front_in line) ≡ said → IsContentSaid line (optioned (behind_in line) said)
optioned_says line None each other is =
    (other, λ options key_line has. absurd (cc (is, (options_of line options key_line has).0)))
optioned_says line (Some options) each other is = elim (cases_Bool (are_fit options)) [
  | inl fits ↦
      rw fits
      (key_says line options (behind_in line) (line_meaning (behind_in line)) (inr (other, has_options line options is fits))
      (behind_bytes line each) refl)
  | inr unfit ↦
      rw unfit (
        other,
        λ others key_line has.
            let same : options ≡ others = cc (is, (options_of line others key_line has).0) in
            absurd (cc (unfit, ap are_fit same ∙ has.fit)),
      )
]

pub content_says : (line : List ℕ) → IsBytes line → IsContentSaid line (content_of line)
unfolding content_of
content_says line each = elim (cases_Bool (begins_with_key line)) [
  | inl begins ↦ rw begins (key_says line [] line (line_meaning line) (inl (begins, refl, refl)) each refl)
  | inr other ↦ rw other (optioned_says line (options_in (front_in line)) each other refl)
]

-- ---- and nothing else is

split_content : (line : List ℕ) (options : List AuthOption) (key_line : List ℕ) → IsSplit line options key_line
    → content_of line ≡ key_content options (line_meaning key_line)
unfolding content_of
split_content line options key_line (inl (begins, none, same)) =
    rw begins
    (ap (λ l. key_content [] (line_meaning l)) (sym same) ∙ ap (λ os. key_content os (line_meaning key_line)) (sym none))
split_content line options key_line (inr (other, has)) =
    let are = options_of line options key_line has in
    rw other
    (ap (optioned (behind_in line)) are.0
    ∙ ap (λ (b : Bool). if b then key_content options (line_meaning (behind_in line)) else contents.BadOptions) has.fit
    ∙ ap (λ l. key_content options (line_meaning l)) (sym are.1))

bad_content : (line : List ℕ) (said : Option (List AuthOption)) → options_in (front_in line) ≡ said
    → ((options : List AuthOption) (key_line : List ℕ) → HasOptions line options key_line → ⊥)
    → optioned (behind_in line) said ≡ contents.BadOptions
bad_content line None is none = refl
bad_content line (Some options) is none = elim (cases_Bool (are_fit options)) [
  | inl fits ↦ absurd (none options (behind_in line) (has_options line options is fits))
  | inr unfit ↦ rw unfit refl
]

pub content_is : (line : List ℕ) (content : AuthContent) → IsContentSaid line content → content_of line ≡ content
unfolding content_of
content_is line (contents.Key options key) (key_line, split, is) =
    split_content line options key_line split ∙ ap (key_content options) (line_meaning_of key_line key is)
content_is line contents.BadOptions (other, none) =
    rw other (bad_content line (options_in (front_in line)) refl none)
content_is line (contents.Unread e) (options, key_line, split, is) =
    split_content line options key_line split ∙ ap (key_content options) is
