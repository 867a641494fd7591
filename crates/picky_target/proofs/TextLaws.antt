-- A meaning has one text in each target.
use Rattle.std.proofs.Common.{◌≡◌, ℕ, List, refl}
use Rattle.picky_suite.specs.Meanings.{Meanings}
use Rattle.picky_keys.specs.Blob.{blob_of}
use Rattle.picky_ppk_file.proofs.PuttyLaws.{putty_public_spells, putty_public_only}
use Rattle.picky_key_text.specs.declared.meaning.Meaning.{Meaning}
use Rattle.picky_key_text.specs.Key.{public_part}
use Rattle.picky_target.specs.declared.target.KeyTarget.{KeyTarget}
use Rattle.picky_target.specs.declared.target.KeyTarget.TheVariants as targets
use Rattle.picky_target.specs.Output.{Output}
use Rattle.picky_target.specs.Texts.{Spells, text_for}

pub text_spells : (m : Meanings) (out : Output) (target : KeyTarget) (meaning : Meaning)
    → Spells m out target meaning (text_for m out target meaning)
text_spells m out (targets.OpenSsh rounds) meaning = refl
text_spells m out (targets.Ppk version config layout) meaning = refl
text_spells m out targets.OpenSshPublic meaning = refl
text_spells m out targets.PuttyPublic meaning = putty_public_spells (blob_of (public_part meaning.key)) meaning.comment

pub text_only : (m : Meanings) (out : Output) (target : KeyTarget) (meaning : Meaning) (text : List ℕ)
    → Spells m out target meaning text → text ≡ text_for m out target meaning
text_only m out (targets.OpenSsh rounds) meaning text spells = spells
text_only m out (targets.Ppk version config layout) meaning text spells = spells
text_only m out targets.OpenSshPublic meaning text spells = spells
text_only m out targets.PuttyPublic meaning text spells =
    putty_public_only (blob_of (public_part meaning.key)) meaning.comment text spells
