-- Lemmas on what is judged before a file is sealed.
use Rattle.std.proofs.Common.{◌≡◌, ◌≤◌, ◌<◌, ◌+◌, ◌^◌, ◌++◌, ◌∙◌, ℕ, List, Bool, true, false}
use Rattle.std.proofs.Common.{ap, sym, refl, arith, length, length-append}
use Rattle.std.specs.Prelude.{◌&&◌, not, if◌then◌else◌}
use Rattle.std.proofs.lemmas.Bool.{le-ltb, lt-ltb}
use Rattle.picky_kv.specs.declared.PpkVersionKey.{PpkVersionKey}
use Rattle.picky_kv.specs.declared.PpkVersionKey.TheVariants.{V2, V3}
use Rattle.picky_suite.specs.Ranges.{argon2_fits}
use Rattle.picky_keys.specs.LineRefusal.{is_short}
use Rattle.picky_ppk_parts.specs.declared.config.PpkEncryptionConfig.{PpkEncryptionConfig}
use Rattle.picky_ppk_parts.specs.declared.error.PuttyError.{PuttyError}
use Rattle.picky_ppk_parts.specs.declared.error.PuttyError.TheVariants as errors
use Rattle.picky_ppk_parts.specs.Material.{params_fit}
use Rattle.picky_ppk_file.specs.declared.file.PpkFile.{PpkFile}
use Rattle.picky_ppk_file.specs.File.{version_of, is_sealed}
use Rattle.picky_ppk.specs.Keyed.{can_derive}
use Rattle.picky_ppk.specs.Sealed.{sealing_under, file_to_seal, is_sealable, not_sealable}
use Rattle.picky_ppk.specs.Fresh.{can_derive_by, can_draw, not_drawn}

-- the salt is as long as the configuration says, where there is one
abbrev pub IsSaltOf : PpkEncryptionConfig → (salt : List ℕ) → PpkFile → Type 0
IsSaltOf config salt f = version_of f.sealing ≡ V3 → length salt ≡ config.argon2_salt_size

-- Argon2 can be run with the salt where it can be with one of its length.
derives_by : (v : PpkVersionKey) (config : PpkEncryptionConfig) (salt pass : List ℕ)
    → (v ≡ V3 → length salt ≡ config.argon2_salt_size)
    → can_derive (sealing_under v config salt) pass ≡ can_derive_by v config pass
unfolding params_fit
derives_by V2 config salt pass len = refl
derives_by V3 config salt pass len =
    ap (argon2_fits config.argon2_memory config.argon2_passes config.argon2_parallelism (length pass)) (len refl)

-- What is judged of the draft is what is judged before the generator is asked, and its length.
judged_as : (pass : List ℕ) (config : PpkEncryptionConfig) (salt padding : List ℕ) (f : PpkFile) → IsSaltOf config salt f
    → is_sealable pass f (file_to_seal config salt padding f) ≡ (can_draw pass config f && is_short (f.private_bytes ++ padding))
judged_as pass config salt padding f len =
    ap (λ b. not (is_sealed f.sealing) && b && is_short (f.private_bytes ++ padding))
    (derives_by (version_of f.sealing) config salt pass len)

-- the three reasons, by what is judged
abbrev reason : (sealed derives : Bool) → PuttyError
reason sealed derives =
    if sealed then errors.AlreadyEncrypted else if not derives then errors.Argon2 else errors.TooLong

first_reason : (sealed derives : Bool) → (not sealed && derives) ≡ false
    → (if sealed then errors.AlreadyEncrypted else errors.Argon2) ≡ reason sealed derives
first_reason true derives is = refl
first_reason false true is = cc is
first_reason false false is = refl

last_reason : (sealed derives : Bool) → (not sealed && derives) ≡ true → errors.TooLong ≡ reason sealed derives
last_reason true derives is = cc is
last_reason false true is = refl
last_reason false false is = cc is

reason_as : (pass : List ℕ) (config : PpkEncryptionConfig) (salt padding : List ℕ) (f : PpkFile) → IsSaltOf config salt f
    → reason (is_sealed f.sealing) (can_derive_by (version_of f.sealing) config pass)
    ≡ not_sealable pass f (file_to_seal config salt padding f)
reason_as pass config salt padding f len =
    ap (reason (is_sealed f.sealing)) (sym (derives_by (version_of f.sealing) config salt pass len))

-- A draft that fits is sealable.
pub draft_fits : (pass : List ℕ) (config : PpkEncryptionConfig) (salt padding : List ℕ) (f : PpkFile)
    → IsSaltOf config salt f → can_draw pass config f ≡ true → length f.private_bytes + length padding < 2 ^ 32
    → is_sealable pass f (file_to_seal config salt padding f) ≡ true
draft_fits pass config salt padding f len can short =
    judged_as pass config salt padding f len ∙ ap (λ b. b && is_short (f.private_bytes ++ padding)) can
    ∙ lt-ltb (length (f.private_bytes ++ padding)) (2 ^ 32) (omega (arith, length-append f.private_bytes padding))

-- One that is too long isn't, for that reason.
pub draft_too_long : (pass : List ℕ) (config : PpkEncryptionConfig) (salt padding : List ℕ) (f : PpkFile)
    → IsSaltOf config salt f → can_draw pass config f ≡ true → 2 ^ 32 ≤ length f.private_bytes + length padding
    → (is_sealable pass f (file_to_seal config salt padding f) ≡ false)
    × (errors.TooLong ≡ not_sealable pass f (file_to_seal config salt padding f))
draft_too_long pass config salt padding f len can long = (
  judged_as pass config salt padding f len ∙ ap (λ b. b && is_short (f.private_bytes ++ padding)) can
      ∙ le-ltb (length (f.private_bytes ++ padding)) (2 ^ 32) (omega (arith, length-append f.private_bytes padding)),
  last_reason (is_sealed f.sealing) (can_derive_by (version_of f.sealing) config pass) can
      ∙ reason_as pass config salt padding f len,
)

-- What isn't drawn for isn't sealable, for the same reason.
pub undrawn_refused : (pass : List ℕ) (config : PpkEncryptionConfig) (salt padding : List ℕ) (f : PpkFile)
    → IsSaltOf config salt f → can_draw pass config f ≡ false
    → (is_sealable pass f (file_to_seal config salt padding f) ≡ false)
    × (not_drawn f ≡ not_sealable pass f (file_to_seal config salt padding f))
undrawn_refused pass config salt padding f len cannot = (
  judged_as pass config salt padding f len ∙ ap (λ b. b && is_short (f.private_bytes ++ padding)) cannot,
  first_reason (is_sealed f.sealing) (can_derive_by (version_of f.sealing) config pass) cannot
      ∙ reason_as pass config salt padding f len,
)
