-- Without a passphrase no suite is asked: nothing that is read is opened, and nothing that is written is sealed.
use Rattle.std.proofs.Common.{◌≡◌, ℕ, false, List, Result, Ok, Err, refl}
use Rattle.picky_suite.specs.Meanings.{Meanings}
use Rattle.picky_key_text.specs.declared.error.ReadError.{ReadError}
use Rattle.picky_key_text.specs.declared.meaning.Meaning.{Meaning}
use Rattle.picky_key_text.specs.Order.{reading}
use Rattle.picky_key_text.proofs.UnaskedLaws.{unasked}
use Rattle.picky_target.specs.declared.target.KeyTarget.{KeyTarget}
use Rattle.picky_target.specs.declared.target.KeyTarget.TheVariants as targets
use Rattle.picky_target.specs.Written.{writing_asks}
use Rattle.picky_conversion.specs.Convert.{asks_for, asks_to_write, converting_asks}
use Rattle.picky_conversion.specs.Outside.{reader}
use Rattle.picky_convert.specs.SampleChain.{without_passphrase}
use Rattle.picky_convert.specs.SampleTexts.{unsealed_output}

pub writing_asks_none : (target : KeyTarget) (meaning : Meaning) → writing_asks unsealed_output target meaning ≡ false
unfolding writing_asks
writing_asks_none (targets.OpenSsh rounds) meaning = refl
writing_asks_none (targets.Ppk version config layout) meaning = refl
writing_asks_none targets.OpenSshPublic meaning = refl
writing_asks_none targets.PuttyPublic meaning = refl

for_none : (m : Meanings) (target : KeyTarget) (meaning : Result Meaning ReadError)
    → asks_for (without_passphrase m) target meaning ≡ false
for_none m target (Ok meaning) = writing_asks_none target meaning
for_none m target (Err e) = refl

pub write_asks_none : (m : Meanings) (target : KeyTarget) (text : List ℕ) → asks_to_write (without_passphrase m) target text ≡ false
unfolding asks_to_write
write_asks_none m target text = for_none m target (reading (reader (without_passphrase m)) text)

-- A conversion without a passphrase asks no suite.
pub converting_asks_none : (m : Meanings) (target : KeyTarget) (text : List ℕ)
    → converting_asks (without_passphrase m) target text ≡ false
unfolding converting_asks
converting_asks_none m target text = rw (unasked text, write_asks_none m target text) refl
