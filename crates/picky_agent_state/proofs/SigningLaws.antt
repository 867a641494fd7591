-- Which kinds of key sign.
use Rattle.std.proofs.Common.{◌≡◌, ◌↔◌, ℕ, Bool, true, false, None, IsTrue, refl}
use Rattle.std.specs.Prelude.{if◌then◌else◌}
use Rattle.picky_keys.specs.Key.{is_security_key_kind}
use Rattle.picky_keys.specs.declared.algorithm.HashAlgorithm.TheVariants as hashes
use Rattle.picky_keys.specs.declared.algorithm.SignatureAlgorithm.TheVariants as algorithms
use Rattle.picky_keys.specs.declared.curve.EcCurve.TheVariants.{NistP256, NistP384, NistP521}
use Rattle.picky_keys.specs.declared.kind.KeyKind.{KeyKind}
use Rattle.picky_keys.specs.declared.kind.KeyKind.TheVariants as kinds
use Rattle.picky_agent_state.specs.Signing.{is_set, way_for, with_format}

-- RSA signs by each hash that the flags may ask for
rsa_signs_by : (second third : Bool)
    → with_format kinds.Rsa
    (algorithms.RsaPkcs1v15 (if second then hashes.SHA2_256 else if third then hashes.SHA2_512 else hashes.SHA1))
    ≡ None → IsTrue false
rsa_signs_by true third none = cc none
rsa_signs_by false true none = cc none
rsa_signs_by false false none = cc none

-- and so does each other kind but the security keys
pub only_security_keys_sign_nothing : (kind : KeyKind) (flags : ℕ)
    → (way_for kind flags ≡ None) ↔ IsTrue (is_security_key_kind kind)
only_security_keys_sign_nothing kinds.Rsa flags = (rsa_signs_by (is_set flags 2) (is_set flags 4), λ no. cc no)
only_security_keys_sign_nothing (kinds.Ec NistP256) flags = (λ none. cc none, λ no. cc no)
only_security_keys_sign_nothing (kinds.Ec NistP384) flags = (λ none. cc none, λ no. cc no)
only_security_keys_sign_nothing (kinds.Ec NistP521) flags = (λ none. cc none, λ no. cc no)
only_security_keys_sign_nothing (kinds.Ed algorithm) flags = (λ none. cc none, λ no. cc no)
only_security_keys_sign_nothing kinds.SkEcdsaSha2NistP256 flags = (λ none. refl, λ yes. refl)
only_security_keys_sign_nothing kinds.SkEd25519 flags = (λ none. refl, λ yes. refl)
