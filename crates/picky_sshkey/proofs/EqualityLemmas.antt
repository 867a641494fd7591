-- Two private keys are equal exactly where their parts are.
use Rattle.std.specs.Prelude.{◌≡◌, ◌↔◌, IsTrue, List, ℕ, Option, nat_eq}
use Rattle.std.specs.Option.{option_eq}
use Rattle.std.proofs.Common.{rules, ap, refl}
use Rattle.std.proofs.lemmas.Bool.Decides.{Decides-and, Decides-like}
use lib.Pointwise.{pointwise}
use Rattle.picky_keys.specs.declared.key.SshPublicKey.{SshPublicKey}
use Rattle.picky_sshkey_blob.specs.declared.key.SshBasePrivateKey.{SshBasePrivateKey}
use Rattle.picky_sshkey_blob.specs.contracts.key.SshBasePrivateKeyPartialEq.TheImpl as base
use Rattle.picky_keys.specs.contracts.key.SshPublicKeyPartialEq.TheImpl as public
use Rattle.picky_sshkey.specs.contracts.kdf.KdfPartialEq.TheImpl as derivation
use Rattle.picky_sshkey.specs.contracts.private_key.SshPrivateKeyPartialEq.TheImpl as whole
use Rattle.picky_sshkey.specs.declared.kdf.Kdf.{Kdf}
use Rattle.picky_sshkey.specs.declared.private_key.SshPrivateKey.{SshPrivateKey}

-- a key of its parts
abbrev made : List ℕ → Kdf → SshBasePrivateKey → SshPublicKey → ℕ → List ℕ → Option (List ℕ) → SshPrivateKey
made c k b p n s x = record {
  cipher_name = c;
  kdf = k;
  base_key = b;
  public_key = p;
  check = n;
  comment = s;
  passphrase = x;
}

-- Two keys without their envelopes are equal exactly where they are the same.
base_equal : (a b : SshBasePrivateKey) → IsTrue (base.ghosts.eq a b) ↔ (a ≡ b)
base_equal = search rules

-- So are two public keys.
public_equal : (a b : SshPublicKey) → IsTrue (public.ghosts.eq a b) ↔ (a ≡ b)
public_equal = search rules

-- So are two derivations.
kdf_equal : (a b : Kdf) → IsTrue (derivation.ghosts.eq a b) ↔ (a ≡ b)
kdf_equal = search rules

-- So are two texts.
text_equal : (a b : List ℕ) → IsTrue (pointwise nat_eq a b) ↔ (a ≡ b)
text_equal = search rules

-- So are two numbers.
number_equal : (a b : ℕ) → IsTrue (nat_eq a b) ↔ (a ≡ b)
number_equal = search rules

-- So are two passphrases, where there are any.
pass_equal : (a b : Option (List ℕ)) → IsTrue (option_eq (pointwise nat_eq) a b) ↔ (a ≡ b)
pass_equal = search rules

-- Parts that are equal make equal keys.
parts_equal : (c d : List ℕ) (k l : Kdf) (b e : SshBasePrivateKey) (p q : SshPublicKey) (n m : ℕ) (s t : List ℕ)
    (x y : Option (List ℕ)) → c ≡ d → k ≡ l → b ≡ e → p ≡ q → n ≡ m → s ≡ t → x ≡ y
    → made c k b p n s x ≡ made d l e q m t y
parts_equal c d k l b e p q n m s t x y one two three four five six seven =
    rw (one, two, three, four, five, six, seven) refl

-- Keys of equal parts are one key.
same_key : (a b : SshPrivateKey) → a.cipher_name ≡ b.cipher_name → a.kdf ≡ b.kdf → a.base_key ≡ b.base_key
    → a.public_key ≡ b.public_key → a.check ≡ b.check → a.comment ≡ b.comment → a.passphrase ≡ b.passphrase → a ≡ b
same_key a b =
    parts_equal a.cipher_name b.cipher_name a.kdf b.kdf a.base_key b.base_key a.public_key b.public_key a.check b.check
    a.comment b.comment a.passphrase b.passphrase

-- Two keys are equal exactly where their parts are.
pub key_equal : (a b : SshPrivateKey) → IsTrue (whole.ghosts.eq a b) ↔ (a ≡ b)
key_equal a b =
    Decides-like _
    (λ w. same_key a b w.0 w.1.0 w.1.1.0 w.1.1.1.0 w.1.1.1.1.0 w.1.1.1.1.1.0 w.1.1.1.1.1.1)
    (λ same. (
      ap (λ k. k.cipher_name) same,
      (
        ap (λ k. k.kdf) same,
        (
          ap (λ k. k.base_key) same,
          (
            ap (λ k. k.public_key) same,
            (
              ap (λ k. k.check) same,
              (ap (λ k. k.comment) same, ap (λ k. k.passphrase) same),
            ),
          ),
        ),
      ),
    ))
    (Decides-and _ _ (text_equal a.cipher_name b.cipher_name)
    (Decides-and _ _ (kdf_equal a.kdf b.kdf)
    (Decides-and _ _ (base_equal a.base_key b.base_key)
    (Decides-and _ _ (public_equal a.public_key b.public_key)
    (Decides-and _ _ (number_equal a.check b.check)
    (Decides-and _ _ (text_equal a.comment b.comment) (pass_equal a.passphrase b.passphrase)))))))
