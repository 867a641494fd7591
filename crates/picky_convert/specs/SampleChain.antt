-- The texts of a sample key as conversions, one from another.
use Rattle.std.specs.Prelude.{◌≡◌, List, [], ◌∷◌, ℕ, Bool, true, false, Ok, None}
use Rattle.picky_suite.specs.Meanings.{Meanings}
use Rattle.picky_target.specs.declared.target.KeyTarget.{KeyTarget}
use Rattle.picky_target.specs.declared.target.KeyTarget.TheVariants as targets
use Rattle.picky_target.specs.Texts.{Spells}
use Rattle.picky_conversion.specs.Convert.{conversion}
use Rattle.picky_conversion.specs.Outside.{Outside}
use Rattle.picky_convert.specs.SampleKeys.{meaning_at}
use Rattle.picky_convert.specs.SampleTexts.{openssh, ppk2, ppk3, unsealed_output}

-- no passphrase opens or seals
abbrev pub without_passphrase : Meanings → Outside
without_passphrase m = record { meanings = m; pass_in = None; output = unsealed_output }

-- a text is converted to another
abbrev pub ConvertsTo : Meanings → KeyTarget → (from to : List ℕ) → Type 0
ConvertsTo m target from to = conversion (without_passphrase m) target from ≡ Ok to

-- the envelope of the key, of that PuTTY's file in version 3, of that in version 2, of that an envelope again, and of this
-- one the line and PuTTY's public key
pub record AreSix (m : Meanings) (i : ℕ) (texts : List (List ℕ)) : Type 0 where
  pub envelope : List ℕ
  pub file3 : List ℕ
  pub file2 : List ℕ
  pub again : List ℕ
  pub line : List ℕ
  pub putty : List ℕ
  pub are : texts ≡ envelope ∷ file3 ∷ file2 ∷ again ∷ line ∷ putty ∷ []
  pub first : Spells m unsealed_output openssh (meaning_at i) envelope
  pub to_file3 : ConvertsTo m ppk3 envelope file3
  pub to_file2 : ConvertsTo m ppk2 file3 file2
  pub to_again : ConvertsTo m openssh file2 again
  pub to_line : ConvertsTo m targets.OpenSshPublic again line
  pub to_putty : ConvertsTo m targets.PuttyPublic again putty

-- the envelope of the key, and of that the line
pub record AreTwo (m : Meanings) (i : ℕ) (texts : List (List ℕ)) : Type 0 where
  pub envelope : List ℕ
  pub line : List ℕ
  pub are : texts ≡ envelope ∷ line ∷ []
  pub first : Spells m unsealed_output openssh (meaning_at i) envelope
  pub to_line : ConvertsTo m targets.OpenSshPublic envelope line

-- of a key that a device keeps there are two
abbrev pub AreConverted : Meanings → ℕ → (on_device : Bool) → List (List ℕ) → Type 0
AreConverted m i false texts = AreSix m i texts
AreConverted m i true texts = AreTwo m i texts
