-- What a MAC covers, as it is made.
use Rattle.std.specs.Prelude.{◌≡◌, ◌&&◌, List, ℕ, Ok}
use Rattle.std.proofs.Common.{refl, sym, ◌∙◌}
use Rattle.picky_wire_base.specs.carried.Outcome.{passed_ok}
use Rattle.picky_kv.specs.ChoiceFields.{encryption_field}
use Rattle.picky_kv.specs.AlgorithmField.{algorithm_field}
use Rattle.picky_keys.specs.LineRefusal.{is_short}
use Rattle.picky_ppk_parts.specs.declared.error.PuttyError.TheVariants as errors
use Rattle.picky_ppk_parts.specs.Mac.{input_bytes, mac_input}
use Rattle.picky_ppk_file.specs.declared.file.PpkFile.{PpkFile}
use Rattle.picky_ppk_file.specs.File.{encryption_of}
use Rattle.picky_ppk.specs.Mac.{covered}

-- what is made of fields covers them
input_is_made : (algorithm encryption comment public private input : List ℕ)
    → input_bytes algorithm encryption comment public private ≡ Ok input
    → mac_input algorithm encryption comment public private ≡ input
unfolding input_bytes
input_is_made algorithm encryption comment public private input is =
    let fits = is_short algorithm && is_short encryption && is_short comment && is_short public && is_short private in
    (passed_ok fits errors.TooLong (mac_input algorithm encryption comment public private) input is).1

-- what is made of a file's fields covers the file
pub input_covers : (algorithm encryption comment public private input : List ℕ) (f : PpkFile)
    → input_bytes algorithm encryption comment public private ≡ Ok input
    → algorithm ≡ algorithm_field.spelling f.algorithm → encryption ≡ encryption_field.spelling (encryption_of f.sealing)
    → comment ≡ f.comment → public ≡ f.public_key
    → input ≡ covered f private
unfolding algorithm_field encryption_field
input_covers algorithm encryption comment public private input f is one two three four =
    let made = input_is_made algorithm encryption comment public private input is in
    sym made ∙ rw (one, two, three, four) refl
