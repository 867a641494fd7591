-- No refusal of PuTTY's file that comes before the suite is asked, or after it answered, is the suite's fault.
use Rattle.std.proofs.Common.{◌≡◌, ◌≢◌, ℕ, ◌+◌, List, Bool, true, false, Result, Ok, Err, length, refl, sym, ◌∙◌, ◌⊎◌, inl, inr}
use Rattle.std.proofs.Common.{arith}
use Rattle.std.specs.Prelude.{◌&&◌, nat_le, codes}
use Rattle.picky_wire_base.specs.{Outcome.{map_err}, Gives.{Gives}}
use Rattle.picky_kv.specs.declared.PpkVersionKey.{PpkVersionKey}
use Rattle.picky_suite.specs.{Asked.{LeavesSuite}, Meanings.{Meanings}}
use Rattle.picky_keys.specs.{Blob.{blob_of}, LineRefusal.{is_short}}
use Rattle.picky_sshkey_blob.specs.{declared.key.SshBasePrivateKey.{SshBasePrivateKey}, Key.{public_part}}
use Rattle.picky_ppk_parts.specs.declared.config.PpkEncryptionConfig.{PpkEncryptionConfig}
use Rattle.picky_ppk_parts.specs.declared.error.PuttyError.{PuttyError}
use Rattle.picky_ppk_parts.specs.declared.error.PuttyError.TheVariants as putty
use Rattle.picky_ppk_file.specs.{PuttyRefusal.{is_security_key}, declared.file.PpkFile.{PpkFile}}
use Rattle.picky_ppk_file.specs.Written.{file_text, fits_block, file_spelled}
use Rattle.picky_ppk.specs.{Changed.{file_of_parts}, Fresh.{salt_len}, PpkLayout.{laid_file, laid_parts, laid_secret}}
use Rattle.picky_ppk.specs.declared.layout.PpkLayout.{PpkLayout}
use Rattle.picky_target.specs.{declared.error.ConvertError.{ConvertError}, Drafts.{key_padding_len, key_parts_of}}
use Rattle.picky_target.specs.Judged.{derives_under}
use Rattle.picky_target.specs.inner.File.{text_of_file, salt_and_padding, measured, plain_ppk, plain_drafted, plain_written}
use Rattle.picky_target.specs.inner.Public.{putty_output_refusal}
use Rattle.picky_target.specs.declared.error.ConvertError.TheVariants as errors
use Rattle.picky_target.specs.declared.target.KeyTarget.TheVariants as targets
use Rattle.picky_target.proofs.TestLemmas.{refuses, step_refuses}
use Rattle.picky_target.proofs.FileLemmas.{laid_parts_are, security_key_is_refused, tested}

abbrev pub IsNoFault : ConvertError → Type 0
IsNoFault e = e ≢ errors.Putty putty.SuiteFault

abbrev pub IsNoPuttyFault : PuttyError → Type 0
IsNoPuttyFault e = e ≢ putty.SuiteFault

-- a refusal that is no fault keeps to it as the conversion's
renamed_no_fault : (e : PuttyError) → IsNoPuttyFault e → IsNoFault (putty_output_refusal e)
renamed_no_fault putty.NoMemory other = λ same. cc same
renamed_no_fault putty.TooLong other = λ same. cc same
renamed_no_fault putty.TooManyLines other = λ same. cc same
renamed_no_fault e other = λ same. other (cc same)

mapped_no_fault : {A : Type 0} (r : Result A PuttyError) (f : ConvertError) → ((e : PuttyError) → r ≡ Err e → IsNoPuttyFault e)
    → map_err putty_output_refusal r ≡ Err f → IsNoFault f
mapped_no_fault (Ok x) f each is = cc is
mapped_no_fault (Err e) f each is =
    let same : putty_output_refusal e ≡ f = cc is in
    λ fault. renamed_no_fault e (each e refl) (cc (same, fault))

-- ---- a text

written_no_fault : (f : PpkFile) (e : PuttyError) → file_spelled f ≡ Err e → IsNoPuttyFault e
unfolding file_spelled
written_no_fault f e is =
    refuses IsNoPuttyFault (is_short (file_text f)) _ putty.TooLong e
    (λ g more. refuses IsNoPuttyFault (fits_block f.public_key && fits_block f.private_bytes) (Ok (file_text f)) putty.TooManyLines g
    (λ h none. cc none) (λ same. cc same) more)
    (λ same. cc same) is

pub text_no_fault : (f : PpkFile) (e : ConvertError) → text_of_file f ≡ Err e → IsNoFault e
text_no_fault f e is = mapped_no_fault (file_spelled f) e (written_no_fault f) is

-- ---- what is judged before the suite is asked

tested_no_fault : {A : Type 0} (blob secret : Bool) (x : A) (e : PuttyError) → tested blob secret x ≡ Err e → IsNoPuttyFault e
tested_no_fault true true x e is = cc is
tested_no_fault true false x e is = λ fault. cc (is, fault)
tested_no_fault false secret x e is = λ fault. cc (is, fault)

parts_no_fault : (layout : PpkLayout) (key : SshBasePrivateKey) (e : PuttyError) → laid_parts layout key ≡ Err e
    → IsNoPuttyFault e
parts_no_fault layout key e is = go (is_security_key (public_part key)) refl
  where
    go : (is_sk : Bool) → is_security_key (public_part key) ≡ is_sk → IsNoPuttyFault e
    go true is_sk =
        let same : putty.NotSupported (codes "SK keys") ≡ e = cc (sym (security_key_is_refused layout key is_sk) ∙ is) in
        λ fault. cc (same, fault)
    go false plain = tested_no_fault (is_short (blob_of (public_part key))) (is_short (laid_secret layout key)) (key_parts_of layout key) e
        (sym (laid_parts_are layout key plain) ∙ is)

made_no_fault : (m : Meanings) (version : PpkVersionKey) (layout : PpkLayout) (key : SshBasePrivateKey) (comment : List ℕ)
    (e : PuttyError)
    → laid_file m version layout key comment ≡ Err e → IsNoPuttyFault e
unfolding laid_file
made_no_fault m version layout key comment e is =
    step_refuses IsNoPuttyFault (laid_parts layout key) (λ parts. Ok (file_of_parts m version comment parts)) e (parts_no_fault layout key)
    (λ parts g none. cc none) is

measured_no_fault : (config : PpkEncryptionConfig) (salt padding : List ℕ) (f : PpkFile) (e : ConvertError)
    → measured config salt padding f ≡ Err e → IsNoFault e
measured_no_fault config salt padding f e is = grind arith

pub plain_no_fault : (m : Meanings) (version : PpkVersionKey) (config : PpkEncryptionConfig) (layout : PpkLayout) (key : SshBasePrivateKey)
    (comment salt padding : List ℕ) (e : ConvertError)
    → plain_drafted m version config layout key comment salt padding ≡ Err e → IsNoFault e
plain_no_fault m version config layout key comment salt padding e is =
    step_refuses {B = PpkFile} IsNoFault (plain_ppk m version layout key comment) _ e
    (λ g made. mapped_no_fault (laid_file m version layout key comment) g (made_no_fault m version layout key comment) made)
    (λ f g rest. step_refuses {A = Unit {0}} {B = PpkFile} IsNoFault (measured config salt padding f) _ g
    (measured_no_fault config salt padding f) (λ _ h none. cc none) rest) is

pub drawn_no_fault : (pass fresh : List ℕ) (version : PpkVersionKey) (config : PpkEncryptionConfig) (layout : PpkLayout) (key : SshBasePrivateKey)
    (e : ConvertError) → salt_and_padding pass fresh version config layout key ≡ Err e → IsNoFault e
drawn_no_fault pass fresh version config layout key e is =
    refuses {A = List ℕ × List ℕ} IsNoFault (derives_under (targets.Ppk version config layout) pass) _ (errors.Putty putty.Argon2) e
    (λ g more. refuses {A = List ℕ × List ℕ} IsNoFault (nat_le (salt_len version config + key_padding_len layout key) (length fresh)) _
    errors.FreshTooShort g (λ h none. cc none) (λ same. cc same) more)
    (λ same. cc same) is

-- ---- a suite that wasn't asked is as it was

pub refusal_leaves : {S A B : Type 0} (meanings : S → Meanings) (faults : S → ℕ) (asked : Bool) (e : ConvertError)
    (says : Result B ConvertError) (suite : S) → ((f : ConvertError) → says ≡ Err f → IsNoFault f)
    → (e ≡ errors.NoMemory) ⊎ (says ≡ Err e)
    → LeavesSuite {A = A} meanings faults (errors.Putty putty.SuiteFault) asked (Err e) suite suite
refusal_leaves meanings faults asked e says suite each gives = record {
  kept = refl;
  counted = λ is. elim gives [
    | inl memory ↦ cc (memory, is)
    | inr refused ↦ let same : e ≡ errors.Putty putty.SuiteFault = cc is in absurd (each e refused same)
  ];
  calm = λ other. refl;
  unasked = λ no_call. refl;
}

pub unasked_leaves : {S A B : Type 0} (meanings : S → Meanings) (faults : S → ℕ) (asked : Bool) (view : A → B)
    (r : Result A ConvertError) (says : Result B ConvertError) (suite : S)
    → ((f : ConvertError) → says ≡ Err f → IsNoFault f) → Gives errors.NoMemory view r says
    → LeavesSuite meanings faults (errors.Putty putty.SuiteFault) asked r suite suite
unasked_leaves meanings faults asked view (Ok x) says suite each gives =
    record { kept = refl; counted = λ is. cc is; calm = refl; unasked = λ no_call. refl }
unasked_leaves meanings faults asked view (Err e) says suite each gives =
    refusal_leaves meanings faults asked e says suite each gives

pub plain_written_no_fault : (m : Meanings) (version : PpkVersionKey) (layout : PpkLayout) (key : SshBasePrivateKey) (comment : List ℕ)
    (e : ConvertError) → plain_written m version layout key comment ≡ Err e → IsNoFault e
plain_written_no_fault m version layout key comment e is =
    step_refuses IsNoFault (plain_ppk m version layout key comment) text_of_file e
    (λ g made. mapped_no_fault (laid_file m version layout key comment) g (made_no_fault m version layout key comment) made) text_no_fault is

pub ruleset sealing_faults = (plain_no_fault, drawn_no_fault)
