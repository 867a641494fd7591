-- The texts of a sample key are conversions, one from another.
use Rattle.std.proofs.Common.{◌≡◌, ◌<◌, ◌^◌, ℕ, Bool, true, false, List, Ok, refl, ap}
use Rattle.std.specs.Prelude.{if◌then◌else◌, map}
use Rattle.picky_kv.specs.declared.PpkVersionKey.{PpkVersionKey}
use Rattle.picky_kv.specs.declared.PpkVersionKey.TheVariants.{V2, V3}
use Rattle.picky_ppk_parts.specs.Config.{default_config}
use Rattle.picky_suite.specs.Meanings.{Meanings}
use Rattle.picky_keys.proofs.ByteLaws.{no_bytes}
use Rattle.picky_key_text.specs.Reads.{Reads}
use Rattle.picky_ppk.specs.declared.layout.PpkLayout.TheVariants as layouts
use Rattle.picky_target.specs.declared.target.KeyTarget.{KeyTarget}
use Rattle.picky_target.specs.declared.target.KeyTarget.TheVariants as targets
use Rattle.picky_target.specs.Carried.{Carries}
use Rattle.picky_target.specs.Texts.{text_for}
use Rattle.picky_target.specs.Written.{written}
use Rattle.picky_target.proofs.JudgedLaws.{carried_is_judged}
use Rattle.picky_target.proofs.ReadBackLaws.{spelled_is_read_back}
use Rattle.picky_target.proofs.TextLaws.{text_spells}
use Rattle.picky_conversion.specs.Convert.{conversion}
use Rattle.picky_conversion.specs.Outside.{reader}
use Rattle.picky_conversion.proofs.ConvertLemmas.{conversion_of}
use Rattle.picky_convert.specs.SampleChain.{AreConverted, AreSix, AreTwo, without_passphrase}
use Rattle.picky_convert.specs.SampleKeys.{kind_at, meaning_at}
use Rattle.picky_keys.specs.Key.{is_security_key_kind}
use Rattle.picky_convert.specs.SampleTexts.{openssh, ppk2, ppk3, six_targets, text_at, texts_at, two_targets, unsealed_output}
use Rattle.picky_convert.proofs.CarriedLemmas.{default_is_config, default_is_rounds, envelope_carries, file_carries, line_carries, putty_carries}
use Rattle.picky_convert.proofs.KeyLemmas.{meaning_is_kept}

-- ---- what is written first

pub envelope_is_written : (m : Meanings) (i : ℕ) → i < 2 ^ 16
    → written m unsealed_output openssh (meaning_at i) ≡ Ok (text_at m i openssh)
unfolding written text_at
envelope_is_written m i small =
    rw (carried_is_judged unsealed_output openssh (meaning_at i) (envelope_carries i small)) refl

-- ---- what is read of a private text

envelope_reads : (m : Meanings) (i : ℕ) → i < 2 ^ 16
    → Reads (reader (without_passphrase m)) (text_at m i openssh) (meaning_at i)
unfolding text_at
envelope_reads m i small =
    spelled_is_read_back m unsealed_output openssh (meaning_at i) (text_for m unsealed_output openssh (meaning_at i)) default_is_rounds
    (meaning_is_kept i small) no_bytes tt (envelope_carries i small) (text_spells m unsealed_output openssh (meaning_at i))

file_reads : (version : PpkVersionKey) (m : Meanings) (i : ℕ) → i < 2 ^ 16 → is_security_key_kind (kind_at i) ≡ false
    → Reads (reader (without_passphrase m)) (text_at m i (targets.Ppk version default_config layouts.Number)) (meaning_at i)
unfolding text_at
file_reads version m i small plain =
    let target = targets.Ppk version default_config layouts.Number in
    spelled_is_read_back m unsealed_output target (meaning_at i) (text_for m unsealed_output target (meaning_at i)) default_is_config
    (meaning_is_kept i small) no_bytes tt (file_carries version default_config i small plain)
    (text_spells m unsealed_output target (meaning_at i))

-- ---- what is made of it

-- a text that means the key is converted to the text of each target that carries it
made_of : (m : Meanings) (i : ℕ) (target : KeyTarget) (from : List ℕ)
    → Reads (reader (without_passphrase m)) from (meaning_at i) → Carries unsealed_output target (meaning_at i)
    → conversion (without_passphrase m) target from ≡ Ok (text_at m i target)
unfolding text_at
made_of m i target from reads carries = conversion_of (without_passphrase m) target from (meaning_at i) reads carries

pub file3_of : (m : Meanings) (i : ℕ) → i < 2 ^ 16 → is_security_key_kind (kind_at i) ≡ false
    → conversion (without_passphrase m) ppk3 (text_at m i openssh) ≡ Ok (text_at m i ppk3)
file3_of m i small plain = made_of m i ppk3 _ (envelope_reads m i small) (file_carries V3 default_config i small plain)

pub file2_of : (m : Meanings) (i : ℕ) → i < 2 ^ 16 → is_security_key_kind (kind_at i) ≡ false
    → conversion (without_passphrase m) ppk2 (text_at m i ppk3) ≡ Ok (text_at m i ppk2)
file2_of m i small plain = made_of m i ppk2 _ (file_reads V3 m i small plain) (file_carries V2 default_config i small plain)

pub again_of : (m : Meanings) (i : ℕ) → i < 2 ^ 16 → is_security_key_kind (kind_at i) ≡ false
    → conversion (without_passphrase m) openssh (text_at m i ppk2) ≡ Ok (text_at m i openssh)
again_of m i small plain = made_of m i openssh _ (file_reads V2 m i small plain) (envelope_carries i small)

pub line_of : (m : Meanings) (i : ℕ) → i < 2 ^ 16
    → conversion (without_passphrase m) targets.OpenSshPublic (text_at m i openssh) ≡ Ok (text_at m i targets.OpenSshPublic)
line_of m i small = made_of m i targets.OpenSshPublic _ (envelope_reads m i small) (line_carries i small)

pub putty_of : (m : Meanings) (i : ℕ) → i < 2 ^ 16 → is_security_key_kind (kind_at i) ≡ false
    → conversion (without_passphrase m) targets.PuttyPublic (text_at m i openssh) ≡ Ok (text_at m i targets.PuttyPublic)
putty_of m i small plain = made_of m i targets.PuttyPublic _ (envelope_reads m i small) (putty_carries i small plain)

-- ---- all of a key

pub texts_are_six : (m : Meanings) (i : ℕ) → is_security_key_kind (kind_at i) ≡ false → texts_at m i ≡ map (text_at m i) six_targets
unfolding texts_at
texts_are_six m i plain = ap (λ b. map (text_at m i) (if b then two_targets else six_targets)) plain

pub texts_are_two : (m : Meanings) (i : ℕ) → is_security_key_kind (kind_at i) ≡ true → texts_at m i ≡ map (text_at m i) two_targets
unfolding texts_at
texts_are_two m i kept = ap (λ b. map (text_at m i) (if b then two_targets else six_targets)) kept

six_are_converted : (m : Meanings) (i : ℕ) → i < 2 ^ 16 → is_security_key_kind (kind_at i) ≡ false → AreSix m i (texts_at m i)
unfolding text_at
six_are_converted m i small plain = record {
  envelope = text_at m i openssh;
  file3 = text_at m i ppk3;
  file2 = text_at m i ppk2;
  again = text_at m i openssh;
  line = text_at m i targets.OpenSshPublic;
  putty = text_at m i targets.PuttyPublic;
  are = texts_are_six m i plain;
  first = text_spells m unsealed_output openssh (meaning_at i);
  to_file3 = file3_of m i small plain;
  to_file2 = file2_of m i small plain;
  to_again = again_of m i small plain;
  to_line = line_of m i small;
  to_putty = putty_of m i small plain;
}

two_are_converted : (m : Meanings) (i : ℕ) → i < 2 ^ 16 → is_security_key_kind (kind_at i) ≡ true → AreTwo m i (texts_at m i)
unfolding text_at
two_are_converted m i small kept = record {
  envelope = text_at m i openssh;
  line = text_at m i targets.OpenSshPublic;
  are = texts_are_two m i kept;
  first = text_spells m unsealed_output openssh (meaning_at i);
  to_line = line_of m i small;
}

by_device : (m : Meanings) (i : ℕ) → i < 2 ^ 16 → (b : Bool) → is_security_key_kind (kind_at i) ≡ b → AreConverted m i b (texts_at m i)
by_device m i small false plain = six_are_converted m i small plain
by_device m i small true kept = two_are_converted m i small kept

pub texts_are_converted : (m : Meanings) (i : ℕ) → i < 2 ^ 16 → AreConverted m i (is_security_key_kind (kind_at i)) (texts_at m i)
texts_are_converted m i small = by_device m i small (is_security_key_kind (kind_at i)) refl
