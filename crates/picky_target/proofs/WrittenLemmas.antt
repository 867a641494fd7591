-- What each target's writer answers is what is written of a meaning.
use Rattle.std.proofs.Common.{◌≡◌, inl, inr, ℕ, List, Bool, true, Option, None, Some, Result, Ok, Err, refl, ap, sym, subst}
use Rattle.std.proofs.Common.{◌∙◌, length, arith}
use Rattle.std.proofs.lemmas.Bool.{cases_Bool, le-leb}
use Rattle.std.specs.Prelude.{◌&&◌, nat_le}
use Rattle.picky_suite.specs.{Asked.{GivesAsked, LeavesSuite}, Meanings.{Meanings}}
use Rattle.picky_wire_base.specs.Gives.{Gives}
use Rattle.picky_keys.specs.declared.key.SshBasePublicKey.{SshBasePublicKey}
use Rattle.picky_keys.specs.{declared.key.SshPublicKey.{SshPublicKey}, Blob.{blob_of}, Line.{line_of}}
use Rattle.picky_keys.specs.LineRefusal.{is_short}
use Rattle.picky_sshkey_blob.specs.declared.error.SshPrivateKeyError.TheVariants as private
use Rattle.picky_sshkey_blob.specs.declared.key.SshBasePrivateKey.{SshBasePrivateKey}
use Rattle.picky_ppk_parts.specs.declared.config.PpkEncryptionConfig.{PpkEncryptionConfig}
use Rattle.picky_ppk_parts.specs.declared.error.PuttyError.TheVariants as putty
use Rattle.picky_kv.specs.declared.PpkVersionKey.{PpkVersionKey}
use Rattle.picky_ppk_file.specs.{PuttyPublic.{putty_public}, PuttyRefusal.{is_security_key}}
use Rattle.picky_key_text.specs.{declared.meaning.Key.{Key}, declared.meaning.Meaning.{Meaning}}
use Rattle.picky_key_text.specs.Key.{private_meaning, public_key, public_part}
use Rattle.picky_key_text.specs.declared.meaning.Key.TheVariants as keys
use Rattle.picky_ppk.specs.declared.layout.PpkLayout.{PpkLayout}
use Rattle.picky_target.specs.{declared.error.ConvertError.{ConvertError}, declared.target.KeyTarget.{KeyTarget}}
use Rattle.picky_target.specs.{Output.{Output}, Carried.{need_under}}
use Rattle.picky_target.specs.Judged.{carries_comment, derives, judged_meaning}
use Rattle.picky_target.specs.Written.{target_fault, written, writing_asks}
use Rattle.picky_target.specs.{inner.Envelope.{envelope_written, envelope_asks}, inner.File.{ppk_written, ppk_writing_asks}}
use Rattle.picky_target.specs.inner.Public.{line_written, putty_written}
use Rattle.picky_target.specs.declared.error.ConvertError.TheVariants as errors
use Rattle.picky_target.specs.declared.target.KeyTarget.TheVariants as targets
use Rattle.picky_target.proofs.{EnvelopeWritten.{envelope_is_written}, FileWritten.{file_is_written}}

-- ---- from one form of words to the other

-- a writer's words say what is written, whether the suite is asked, and what its fault is
pub record IsWrittenAs (m : Meanings) (out : Output) (target : KeyTarget) (meaning : Meaning) (says : Result (List ℕ) ConvertError)
    (asks : Bool) (fault : ConvertError) : Type 0 where
  pub says_is : says ≡ written m out target meaning
  pub asks_is : asks ≡ writing_asks out target meaning
  pub fault_is : fault ≡ target_fault target

pub gives_as : {X : Type 0} (m : Meanings) (out : Output) (target : KeyTarget) (meaning : Meaning)
    (says : Result (List ℕ) ConvertError) (asks : Bool) (fault : ConvertError) (want : ConvertError) (view : X → List ℕ)
    (r : Result X ConvertError) (rose : Type 0) → IsWrittenAs m out target meaning says asks fault
    → GivesAsked want fault view r says asks rose
    → GivesAsked want (target_fault target) view r (written m out target meaning) (writing_asks out target meaning) rose
gives_as m out target meaning says asks fault want view r rose is given =
    subst (λ f. GivesAsked want f view r (written m out target meaning) (writing_asks out target meaning) rose) is.fault_is
    (subst (λ a. GivesAsked want fault view r (written m out target meaning) a rose) is.asks_is
    (subst (λ s. GivesAsked want fault view r s asks rose) is.says_is given))

pub leaves_as : {S X : Type 0} (meanings : S → Meanings) (faults : S → ℕ) (m : Meanings) (out : Output) (target : KeyTarget)
    (meaning : Meaning) (says : Result (List ℕ) ConvertError) (asks : Bool) (fault : ConvertError) (r : Result X ConvertError)
    (old new : S) → IsWrittenAs m out target meaning says asks fault
    → LeavesSuite meanings faults fault asks r old new
    → LeavesSuite meanings faults (target_fault target) (writing_asks out target meaning) r old new
leaves_as meanings faults m out target meaning says asks fault r old new is left =
    subst (λ f. LeavesSuite meanings faults f (writing_asks out target meaning) r old new) is.fault_is
    (subst (λ a. LeavesSuite meanings faults fault a r old new) is.asks_is left)

-- a writer that asks no suite
pub gives_unasked : {X A : Type 0} (want fault : ConvertError) (view : X → A) (r : Result X ConvertError)
    (says other : Result A ConvertError) (asks : Bool) (rose : Type 0) → says ≡ other → Gives want view r says
    → GivesAsked want fault view r other asks rose
gives_unasked want fault view (Ok x) says other asks rose same given = sym same ∙ given
gives_unasked want fault view (Err e) says other asks rose same (inl memory) = inl memory
gives_unasked want fault view (Err e) says other asks rose same (inr refused) = inr (inr (sym same ∙ refused))

-- ---- private targets

-- a meaning of a private key
meaning_is : (meaning : Meaning) (key : SshBasePrivateKey) (comment : List ℕ) → meaning.key ≡ keys.Private key
    → comment ≡ meaning.comment → private_meaning key comment ≡ meaning
meaning_is meaning key comment key_is comment_is =
    let k : keys.Private key ≡ meaning.key = sym key_is in
    ap (λ c. record { key = keys.Private key; comment = c }) comment_is
    ∙ ap (λ k. record { key = k; comment = meaning.comment }) k

pub written_openssh : (m : Meanings) (pass : Option (List ℕ)) (fresh : List ℕ) (target : KeyTarget) (rounds : ℕ)
    (meaning : Meaning) (key : SshBasePrivateKey) (comment : List ℕ) → target ≡ targets.OpenSsh rounds
    → meaning.key ≡ keys.Private key → comment ≡ meaning.comment
    → IsWrittenAs m (record { pass = pass; fresh = fresh }) target meaning
    (envelope_written m (record { pass = pass; fresh = fresh }) rounds key comment)
    (envelope_asks (record { pass = pass; fresh = fresh }) rounds key comment) (errors.Private private.SuiteFault)
written_openssh m pass fresh target rounds meaning key comment target_is key_is comment_is =
    let out : Output = record { pass = pass; fresh = fresh } in
    let says = envelope_written m out rounds key comment in
    let asks = envelope_asks out rounds key comment in
    let both = envelope_is_written m pass fresh rounds key comment in
    subst (λ t. IsWrittenAs m out t meaning says asks (errors.Private private.SuiteFault)) (sym target_is)
    (subst (λ p. IsWrittenAs m out (targets.OpenSsh rounds) p says asks (errors.Private private.SuiteFault))
    (meaning_is meaning key comment key_is comment_is)
    (record { says_is = both.0; asks_is = both.1; fault_is = refl }))

pub written_ppk : (m : Meanings) (pass : Option (List ℕ)) (fresh : List ℕ) (target : KeyTarget) (version : PpkVersionKey)
    (config : PpkEncryptionConfig) (layout : PpkLayout) (meaning : Meaning) (key : SshBasePrivateKey) (comment : List ℕ)
    → target ≡ targets.Ppk version config layout → meaning.key ≡ keys.Private key → comment ≡ meaning.comment
    → IsWrittenAs m (record { pass = pass; fresh = fresh }) target meaning
    (ppk_written m (record { pass = pass; fresh = fresh }) version config layout key comment)
    (ppk_writing_asks m (record { pass = pass; fresh = fresh }) version config layout key comment) (errors.Putty putty.SuiteFault)
written_ppk m pass fresh target version config layout meaning key comment target_is key_is comment_is =
    let out : Output = record { pass = pass; fresh = fresh } in
    let says = ppk_written m out version config layout key comment in
    let asks = ppk_writing_asks m out version config layout key comment in
    let both = file_is_written m pass fresh version config layout key comment in
    subst (λ t. IsWrittenAs m out t meaning says asks (errors.Putty putty.SuiteFault)) (sym target_is)
    (subst (λ p. IsWrittenAs m out (targets.Ppk version config layout) p says asks (errors.Putty putty.SuiteFault))
    (meaning_is meaning key comment key_is comment_is)
    (record { says_is = both.0; asks_is = both.1; fault_is = refl }))

-- ---- no private key

pub openssh_wants_private : (m : Meanings) (out : Output) (target : KeyTarget) (rounds : ℕ) (meaning : Meaning)
    (key : SshBasePublicKey) → target ≡ targets.OpenSsh rounds → meaning.key ≡ keys.Public key
    → written m out target meaning ≡ Err errors.NoPrivateKey
unfolding written judged_meaning
openssh_wants_private m out target rounds meaning key target_is key_is = rw (target_is, key_is) refl

pub ppk_wants_private : (m : Meanings) (out : Output) (target : KeyTarget) (version : PpkVersionKey) (config : PpkEncryptionConfig) (layout : PpkLayout)
    (meaning : Meaning) (key : SshBasePublicKey) → target ≡ targets.Ppk version config layout → meaning.key ≡ keys.Public key
    → written m out target meaning ≡ Err errors.NoPrivateKey
unfolding written judged_meaning
ppk_wants_private m out target version config layout meaning key target_is key_is = rw (target_is, key_is) refl

-- ---- public targets

line_derives : (pass : Option (List ℕ)) → derives targets.OpenSshPublic pass ≡ true
line_derives None = refl
line_derives (Some pass) = refl

putty_derives : (pass : Option (List ℕ)) → derives targets.PuttyPublic pass ≡ true
putty_derives None = refl
putty_derives (Some pass) = refl

nothing_needed : (fresh : List ℕ) → nat_le 0 (length fresh) ≡ true
nothing_needed fresh = le-leb 0 (length fresh) (omega arith)

line_needs : (pass : Option (List ℕ)) (key : Key) → need_under targets.OpenSshPublic pass key ≡ 0
line_needs None key = refl
line_needs (Some pass) (keys.Private key) = refl
line_needs (Some pass) (keys.Public key) = refl

putty_needs : (pass : Option (List ℕ)) (key : Key) → need_under targets.PuttyPublic pass key ≡ 0
putty_needs None key = refl
putty_needs (Some pass) (keys.Private key) = refl
putty_needs (Some pass) (keys.Public key) = refl

pub line_is_written : (m : Meanings) (out : Output) (target : KeyTarget) (meaning : Meaning) (key : SshPublicKey)
    → target ≡ targets.OpenSshPublic → key ≡ public_key meaning → line_written key ≡ written m out target meaning
unfolding written judged_meaning
line_is_written m out target meaning key target_is key_is =
    rw (target_is, key_is, line_derives out.pass, line_needs out.pass meaning.key, nothing_needed out.fresh)
    (elim (cases_Bool (carries_comment targets.OpenSshPublic meaning.comment)) [
      | inr bad ↦ rw bad refl
      | inl carries ↦ rw carries (elim (cases_Bool (is_short (line_of (public_key meaning)))) [
        | inr long ↦ rw long refl
        | inl short ↦ rw short refl
      ])
    ])

pub putty_is_written : (m : Meanings) (out : Output) (target : KeyTarget) (meaning : Meaning) (key : SshPublicKey)
    → target ≡ targets.PuttyPublic → key ≡ public_key meaning → putty_written key ≡ written m out target meaning
unfolding written judged_meaning
putty_is_written m out target meaning key target_is key_is =
    let blob = blob_of (public_part meaning.key) in
    rw (target_is, key_is, putty_derives out.pass, putty_needs out.pass meaning.key, nothing_needed out.fresh)
    (elim (cases_Bool (is_security_key (public_part meaning.key))) [
      | inl is_sk ↦ rw is_sk refl
      | inr plain ↦ rw plain (elim (cases_Bool (carries_comment targets.PuttyPublic meaning.comment)) [
        | inr bad ↦ rw bad refl
        | inl carries ↦ rw carries
            (elim (cases_Bool (is_short blob && is_short (putty_public blob meaning.comment))) [
              | inr long ↦ rw long refl
              | inl short ↦ rw short refl
            ])
      ])
    ])
