-- Lemmas on what is written of a key: how long it is, and how its parts join.
use Rattle.std.proofs.Common.{◌≡◌, ◌+◌, ◌++◌, ◌∷◌, ◌<◌, ◌≤◌, ◌^◌, ℕ, zero, suc, List, [], length, take, true, false}
use Rattle.std.proofs.Common.{ap, arith, eqb-true, refl, subst, sym, ◌∙◌}
use Rattle.std.specs.Prelude.{Bool, Option, None, Some, ◌==◌}
use Rattle.std.specs.List.{concat}
use Rattle.std.proofs.lemmas.List.{append-nil, append_assoc}
use Rattle.picky_wire_base.specs.Wire.{string_of}
use Rattle.picky_suite.specs.Ranges.{BcryptOk}
use Rattle.picky_suite.proofs.RangeLemmas.{bcrypt_decides}
use Rattle.picky_keys.specs.Blob.{blob_of}
use Rattle.picky_sshkey_blob.specs.Key.{public_part}
use Rattle.picky_sshkey.specs.declared.kdf.KdfOption.{KdfOption}
use Rattle.picky_sshkey.specs.declared.private_key.SshPrivateKey.{SshPrivateKey}
use Rattle.picky_sshkey.specs.CipherNames.{cipher_name}
use Rattle.picky_sshkey.specs.Envelope.{magic}
use Rattle.picky_sshkey.specs.Kdf.{HasSaltRoom, bcrypt, is_no_option, kdf_option_of, none, no_option}
use Rattle.picky_sshkey.specs.Written.{count_up, envelope_of, may_derive, written_cipher, written_kdf, written_option}
use Rattle.picky_wire_base.proofs.PieceLemmas.{length-string_of}
use Rattle.picky_sshkey.proofs.KdfLemmas.{no_option_len, option_len}
use Rattle.picky_sshkey.proofs.WrittenLaws.{length-envelope_of}

-- ---- the padding

-- the front of a row of numbers is a shorter row
front_counts : (n k m : ℕ) → k ≤ m → take k (count_up n m) ≡ count_up n k
front_counts n zero m most = refl
front_counts n (suc k) zero most = absurd (omega arith)
front_counts n (suc k) (suc m) most = ap (λ more. n ∷ more) (front_counts (n + 1) k m (omega arith))

pub padding_counts : (k : ℕ) → k ≤ 16
    → take k (1 ∷ 2 ∷ 3 ∷ 4 ∷ 5 ∷ 6 ∷ 7 ∷ 8 ∷ 9 ∷ 10 ∷ 11 ∷ 12 ∷ 13 ∷ 14 ∷ 15 ∷ 16 ∷ []) ≡ count_up 1 k
padding_counts k most = front_counts 1 k 16 most

-- ---- the envelope's length

-- what may be derived from has a salt
has_salt : (option : KdfOption) → 1 ≤ length option.salt → is_no_option option ≡ false
has_salt option some = go (length option.salt == 0) refl
  where
    go : (empty : Bool) → (length option.salt == 0) ≡ empty → is_no_option option ≡ false
    go true is = absurd (omega (arith, eqb-true (length option.salt) 0 is, some))
    go false is = rw is refl

envelope_under : (key : SshPrivateKey) (block : List ℕ) (given : Option (List ℕ)) → key.passphrase ≡ given
    → length (envelope_of key block)
    ≡ 35 + length (written_cipher given) + length (written_kdf given)
    + length (kdf_option_of (written_option given key.kdf.option)) + length (blob_of (public_part key.base_key))
    + length block
unfolding magic
envelope_under key block given is =
    let front : length magic ≡ 14 = refl in
    let named = ap (λ p. length (string_of (written_cipher p)) + length (string_of (written_kdf p))
    + length (kdf_option_of (written_option p key.kdf.option))) is in
    omega (
      arith,
      front,
      named,
      length-envelope_of key block,
      length-string_of (written_cipher given),
      length-string_of (written_kdf given),
      length-string_of (blob_of (public_part key.base_key)),
    )

-- round a block, without a passphrase and with one
pub plain_len : (key : SshPrivateKey) (block : List ℕ) → key.passphrase ≡ None
    → length (envelope_of key block) ≡ 47 + length (blob_of (public_part key.base_key)) + length block
unfolding none
plain_len key block is =
    omega (arith, envelope_under key block None is, no_option_len no_option refl)

-- a passphrase that may be derived from is in bcrypt's range
pub derive_range : (given : Option (List ℕ)) (option : KdfOption) (pass : List ℕ) → given ≡ Some pass
    → may_derive given option ≡ true → BcryptOk (length pass) (length option.salt) option.rounds
derive_range None option pass is range = cc is
derive_range (Some other) option pass is range =
    let same : other ≡ pass = cc is in
    subst (λ p. BcryptOk (length p) (length option.salt) option.rounds) same
    ((bcrypt_decides (length other) (length option.salt) option.rounds).0 range)

pub sealed_len : (key : SshPrivateKey) (pass block : List ℕ) → key.passphrase ≡ Some pass
    → may_derive key.passphrase key.kdf.option ≡ true
    → length (envelope_of key block)
    ≡ 63 + length key.kdf.option.salt + length (blob_of (public_part key.base_key)) + length block
unfolding bcrypt cipher_name
sealed_len key pass block is range =
    let ok = derive_range key.passphrase key.kdf.option pass is range in
    omega (arith, envelope_under key block (Some pass) is, option_len key.kdf.option (has_salt key.kdf.option ok.2))

-- an envelope is no shorter than the public key in it
pub outer_within : (key : SshPrivateKey) (block : List ℕ)
    → length (blob_of (public_part key.base_key)) ≤ length (envelope_of key block)
outer_within key block = omega (arith, envelope_under key block key.passphrase refl)

-- nor than the block
pub block_within : (key : SshPrivateKey) (block : List ℕ) → length block ≤ length (envelope_of key block)
block_within key block = omega (arith, envelope_under key block key.passphrase refl)

-- a block of the same length makes an envelope of the same length
pub same_len : (key : SshPrivateKey) (a b : List ℕ) → length a ≡ length b
    → length (envelope_of key a) ≡ length (envelope_of key b)
same_len key a b same =
    omega (arith, envelope_under key a key.passphrase refl, envelope_under key b key.passphrase refl, same)

-- no salt leaves room
none_room : (given : Option (List ℕ)) (option : KdfOption) → given ≡ None → HasSaltRoom (written_option given option)
none_room None option is = omega arith
none_room (Some pass) option is = cc is

some_room : (given : Option (List ℕ)) (option : KdfOption) (pass : List ℕ) → given ≡ Some pass → HasSaltRoom option
    → HasSaltRoom (written_option given option)
some_room None option pass is room = cc is
some_room (Some other) option pass is room = room

-- a short envelope leaves room for its options
pub envelope_room : (key : SshPrivateKey) (block : List ℕ) (given : Option (List ℕ)) → key.passphrase ≡ given
    → may_derive key.passphrase key.kdf.option ≡ true → length (envelope_of key block) < 2 ^ 32
    → HasSaltRoom (written_option key.passphrase key.kdf.option)
envelope_room key block None is range short = none_room key.passphrase key.kdf.option is
envelope_room key block (Some pass) is range short =
    some_room key.passphrase key.kdf.option pass is (omega (arith, sealed_len key pass block is range, short))

pub ruleset lengths = (plain_len, sealed_len, outer_within)

-- ---- the parts, joined

-- the names, then the options
pub names_joined : (front a b c option : List ℕ)
    → (front ++ concat (a ∷ b ∷ c ∷ [])) ++ option ≡ front ++ concat (a ∷ b ∷ c ∷ option ∷ [])
names_joined front a b c option =
    append_assoc front (concat (a ∷ b ∷ c ∷ [])) option
    ∙ ap (λ r. front ++ r)
    (append_assoc a (b ++ (c ++ [])) option
    ∙ ap (λ r. a ++ r) (append_assoc b (c ++ []) option
    ∙ ap (λ r. b ++ r) (append_assoc c [] option ∙ ap (λ r. c ++ r) (sym (append-nil option)))))

-- the names and options, then the rest
pub envelope_joined : (front a b c d : List ℕ) (rest : List (List ℕ))
    → (front ++ concat (a ∷ b ∷ c ∷ d ∷ [])) ++ concat rest ≡ concat (front ∷ a ∷ b ∷ c ∷ d ∷ rest)
envelope_joined front a b c d rest =
    append_assoc front (concat (a ∷ b ∷ c ∷ d ∷ [])) (concat rest)
    ∙ ap (λ r. front ++ r)
    (append_assoc a (b ++ (c ++ (d ++ []))) (concat rest)
    ∙ ap (λ r. a ++ r) (append_assoc b (c ++ (d ++ [])) (concat rest)
    ∙ ap (λ r. b ++ r) (append_assoc c (d ++ []) (concat rest)
    ∙ ap (λ r. c ++ r) (append_assoc d [] (concat rest)))))
