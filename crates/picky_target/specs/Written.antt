-- What is written of a meaning, or the first reason why nothing is, and whether a suite is asked.
use Rattle.std.specs.Prelude.{◌&&◌, Bool, true, false, List, ℕ, Result, Ok, is_ok, is_some}
use Rattle.picky_wire_base.specs.Outcome.{and_then}
use Rattle.picky_suite.specs.Meanings.{Meanings}
use Rattle.picky_sshkey_blob.specs.declared.error.SshPrivateKeyError.TheVariants as private
use Rattle.picky_ppk_parts.specs.declared.error.PuttyError.TheVariants as putty
use Rattle.picky_key_text.specs.declared.meaning.Meaning.{Meaning}
use Rattle.picky_target.specs.declared.error.ConvertError.{ConvertError}
use Rattle.picky_target.specs.declared.error.ConvertError.TheVariants as errors
use Rattle.picky_target.specs.declared.target.KeyTarget.{KeyTarget}
use Rattle.picky_target.specs.declared.target.KeyTarget.TheVariants as targets
use Rattle.picky_target.specs.Output.{Output}
use Rattle.picky_target.specs.Judged.{judged_meaning}
use Rattle.picky_target.specs.Texts.{text_for}

-- the text, or the first reason why there is none
unfoldable pub written : Meanings → Output → KeyTarget → Meaning → Result (List ℕ) ConvertError
written m out target meaning = and_then (judged_meaning out target meaning) (λ _. Ok (text_for m out target meaning))

-- the target keeps the secret; what it writes is sealed where there is a passphrase
abbrev pub keeps_secret : KeyTarget → Bool
keeps_secret (targets.OpenSsh rounds) = true
keeps_secret (targets.Ppk version config layout) = true
keeps_secret targets.OpenSshPublic = false
keeps_secret targets.PuttyPublic = false

abbrev pub target_is_sealed : Output → KeyTarget → Bool
target_is_sealed out target = keeps_secret target && is_some out.pass

-- the suite is asked, since the text is sealed and nothing was refused before
unfoldable pub writing_asks : Output → KeyTarget → Meaning → Bool
writing_asks out target meaning = target_is_sealed out target && is_ok (judged_meaning out target meaning)

-- the suite's fault, in the words of the target; public targets ask none
abbrev pub target_fault : KeyTarget → ConvertError
target_fault (targets.OpenSsh rounds) = errors.Private private.SuiteFault
target_fault target = errors.Putty putty.SuiteFault
