-- A file for PuTTY has the version of the file that it is made of.
use Rattle.std.proofs.Common.{◌≡◌, Bool, true, false, Result, Ok, Err, refl, sym, ap, ◌∙◌}
use Rattle.std.specs.Prelude.{if◌then◌else◌}
use Rattle.picky_wire_base.specs.Outcome.{and_then}
use Rattle.picky_suite.specs.Meanings.{Meanings}
use Rattle.picky_sshkey_blob.specs.declared.key.SshBasePrivateKey.{SshBasePrivateKey}
use Rattle.picky_sshkey_blob.specs.declared.key.SshBasePrivateKey.TheVariants as keys
use Rattle.picky_ppk_parts.specs.declared.error.PuttyError.{PuttyError}
use Rattle.picky_ppk_parts.specs.declared.error.PuttyError.TheVariants as errors
use Rattle.picky_ppk_file.specs.declared.file.PpkFile.{PpkFile}
use Rattle.picky_ppk_file.specs.File.{is_sealed, version_of}
use Rattle.picky_ppk.specs.Mac.{with_own_mac}
use Rattle.picky_ppk.specs.KeyOf.{base_key_of}
use Rattle.picky_ppk.specs.ForPutty.{for_putty, is_ed25519, putty_fields, with_putty_secret}

secret_keeps : (f : PpkFile) (key : SshBasePrivateKey) → (with_putty_secret f key).sealing ≡ f.sealing
secret_keeps f (keys.Ed secret public) = refl
secret_keeps f (keys.Rsa n e d iqmp p q) = refl
secret_keeps f (keys.Ec curve point secret) = refl
secret_keeps f (keys.SkEcdsaSha2NistP256 point application flags handle) = refl
secret_keeps f (keys.SkEd25519 key application flags handle) = refl

sealing_of : (f g : PpkFile) → f ≡ g → g.sealing ≡ f.sealing
sealing_of f g same = ap (λ (h : PpkFile). h.sealing) (sym same)

keeps_if : (f made : PpkFile) (b : Bool) (r : Result SshBasePrivateKey PuttyError)
    → (if b then and_then r (λ key. Ok (with_putty_secret f key)) else Ok f) ≡ Ok made → made.sealing ≡ f.sealing
keeps_if f made true (Ok key) is =
    let same : with_putty_secret f key ≡ made = cc is in sealing_of (with_putty_secret f key) made same ∙ secret_keeps f key
keeps_if f made true (Err e) is = cc is
keeps_if f made false r is = let same : f ≡ made = cc is in sealing_of f made same

fields_keep : (f made : PpkFile) → putty_fields f ≡ Ok made → made.sealing ≡ f.sealing
unfolding putty_fields
fields_keep f made is = keeps_if f made (is_ed25519 f.algorithm) (base_key_of f) is

remade_keeps : (m : Meanings) (f made : PpkFile) (r : Result PpkFile PuttyError) → ((g : PpkFile) → r ≡ Ok g → g.sealing ≡ f.sealing)
    → and_then r (λ fields. Ok (with_own_mac m fields)) ≡ Ok made → made.sealing ≡ f.sealing
remade_keeps m f made (Ok fields) keep is =
    let same : with_own_mac m fields ≡ made = cc is in sealing_of (with_own_mac m fields) made same ∙ keep fields refl
remade_keeps m f made (Err e) keep is = cc is

open_keeps : (m : Meanings) (f made : PpkFile) (b : Bool)
    → and_then (if b then Err errors.Encrypted else Ok f) (λ g. and_then (putty_fields g) (λ fields. Ok (with_own_mac m fields)))
    ≡ Ok made → made.sealing ≡ f.sealing
open_keeps m f made true is = cc is
open_keeps m f made false is = remade_keeps m f made (putty_fields f) (λ g. fields_keep f g) is

pub version_stays : (m : Meanings) (f made : PpkFile) → for_putty m f ≡ Ok made → version_of made.sealing ≡ version_of f.sealing
unfolding for_putty
version_stays m f made is = ap version_of (open_keeps m f made (is_sealed f.sealing) is)
