-- Lemmas on the options of a key derivation, read and written.
use Rattle.std.proofs.Common.{◌≡◌, ◌+◌, ◌++◌, ◌<◌, ◌^◌, ℕ, List, [], length, true, false, ap, arith, refl, sym, ◌∙◌}
use Rattle.std.proofs.lemmas.List.{append-nil, length-append}
use Rattle.std.specs.Int.{w32, to_be_bytes}
use Rattle.std.proofs.Common.{Result}
use Rattle.std.specs.Prelude.{IfErr}
use Rattle.picky_wire_base.specs.Combine.{tag}
use Rattle.picky_wire_base.specs.Outcome.{map_err}
use Rattle.picky_wire_base.specs.Wire.{string, string_of}
use Rattle.picky_wire_base.proofs.Strings.{string_reads_back}
use Rattle.picky_wire_base.proofs.PieceLemmas.{length-string_of}
use Rattle.picky_wire.specs.Flaws.{wire_error}
use Rattle.picky_wire_base.specs.Gives.{Gives}
use Rattle.picky_wire.specs.Takes.{HasCause, causes_of}
use Rattle.picky_wire.specs.declared.error.WireError.{WireError}
use Rattle.picky_wire.specs.declared.error.WireError.TheVariants as errors
use Rattle.picky_wire.proofs.ThenLemmas.{judged_cause}
use Rattle.picky_sshkey.specs.declared.kdf.KdfOption.{KdfOption}
use Rattle.picky_sshkey.specs.Kdf.{is_no_option, kdf_option_of, no_option, option_fields}
use Rattle.picky_sshkey.specs.KdfLayout.{option_said, read_option}

fields_len : (option : KdfOption) → is_no_option option ≡ false → length (option_fields option) ≡ length option.salt + 8
fields_len option some =
    rw some (omega (arith, length-append (string_of option.salt) (to_be_bytes w32 option.rounds), length-string_of option.salt))

-- no salt and 0 rounds
pub no_option_spelled : (option : KdfOption) → is_no_option option ≡ true
    → string_of [] ++ ([] ++ ([] ++ [])) ≡ kdf_option_of option
unfolding kdf_option_of
no_option_spelled option none = append-nil (string_of []) ∙ rw none refl

pub no_option_len : (option : KdfOption) → is_no_option option ≡ true → length (kdf_option_of option) ≡ 4
unfolding kdf_option_of
no_option_len option none = rw none (omega (arith, length-string_of []))

pub empty_option : string_of [] ≡ kdf_option_of no_option
unfolding kdf_option_of
empty_option = refl

-- and any others
pub option_spelled : (option : KdfOption) (n : ℕ) → is_no_option option ≡ false → n ≡ length option.salt + 8
    → to_be_bytes w32 n ++ (string_of option.salt ++ (to_be_bytes w32 option.rounds ++ [])) ≡ kdf_option_of option
unfolding kdf_option_of string_of
option_spelled option n some is =
    let len = fields_len option some in
    ap (λ m. to_be_bytes w32 m ++ (string_of option.salt ++ (to_be_bytes w32 option.rounds ++ []))) (is ∙ sym len)
    ∙ ap (λ b. to_be_bytes w32 (length (option_fields option)) ++ (string_of option.salt ++ b)) (append-nil (to_be_bytes w32 option.rounds))
    ∙ rw some refl

pub option_len : (option : KdfOption) → is_no_option option ≡ false → length (kdf_option_of option) ≡ length option.salt + 12
unfolding kdf_option_of
option_len option some = omega (arith, length-string_of (option_fields option), fields_len option some)

-- ---- read

-- what the string's bytes say is refused for a cause
pub option_cause : (block : List ℕ) (r : Result KdfOption WireError) (fault : Type 0) → length block < 2 ^ 32
    → Gives errors.NoMemory (λ option. option) r (option_said block)
    → IfErr r (HasCause (causes_of (λ e. e)) read_option fault)
unfolding read_option
option_cause block r fault short gives =
    judged_cause (causes_of (λ e. e)) (tag wire_error string).read option_said block r fault (string_of block ++ []) []
    (ap (map_err wire_error) (string_reads_back block [] short)) gives
