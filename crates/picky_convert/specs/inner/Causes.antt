-- Words of this crate's private contracts: what is answered before anything is written.
use Rattle.std.specs.Prelude.{List, ℕ, Result, Ok, Err}
use Rattle.picky_sshkey_blob.specs.declared.error.SshPrivateKeyError.TheVariants as private
use Rattle.picky_ppk_parts.specs.declared.error.PuttyError.TheVariants as putty
use Rattle.picky_key_text.specs.declared.error.ReadError.TheVariants as input
use Rattle.picky_cert_builder.specs.declared.error.SshCertificateGenerationError.TheVariants as requests
use Rattle.picky_target.specs.declared.error.ConvertError.{ConvertError}
use Rattle.picky_target.specs.declared.error.ConvertError.TheVariants as errors
use Rattle.picky_convert.specs.declared.error.Status.{Status}
use Rattle.picky_convert.specs.declared.error.Status.TheVariants as statuses
use Rattle.picky_conversion.specs.Certified.{SignRelation}
use Rattle.picky_convert.specs.declared.command.Command.{Command}
use Rattle.picky_conversion.specs.Made.{WritesMade}
use Rattle.picky_conversion.specs.Outside.{Outside}
use Rattle.picky_input.specs.Extent.{Extent}
use Rattle.picky_convert.specs.Run.{extent_for, outcome, Stops}

-- a refusal as the run's, where want of memory is the outer want and a device's fault the fault from outside
abbrev pub refusal_status : ConvertError → Status
refusal_status errors.NoMemory = statuses.NoMemory
refusal_status (errors.Input (input.Private private.SuiteFault)) = statuses.OutsideFault
refusal_status (errors.Input (input.Putty putty.SuiteFault)) = statuses.OutsideFault
refusal_status (errors.Issuer (input.Private private.SuiteFault)) = statuses.OutsideFault
refusal_status (errors.Issuer (input.Putty putty.SuiteFault)) = statuses.OutsideFault
refusal_status (errors.Request requests.SignatureError) = statuses.OutsideFault
refusal_status (errors.Private private.SuiteFault) = statuses.OutsideFault
refusal_status (errors.Putty putty.SuiteFault) = statuses.OutsideFault
refusal_status e = statuses.Refused e

-- what is answered for bytes: the text, or a status with its cause
abbrev pub Comes : {X : Type 0} → SignRelation → (X → List ℕ) → Outside → Command → (input : List ℕ)
    → (read_rose suite_rose signer_rose : Type 0) → Result X Status → Type 0
Comes signs view o command input read_rose suite_rose signer_rose (Ok text) =
    WritesMade signs (outcome o command input) (view text)
Comes signs view o command input read_rose suite_rose signer_rose (Err status) =
    Stops signs o command input read_rose suite_rose signer_rose status

-- how far the source was read where this is answered
abbrev pub extent_at : {X : Type 0} → Command → Result X Status → Extent
extent_at command (Ok text) = extent_for command statuses.Done
extent_at command (Err status) = extent_for command status
