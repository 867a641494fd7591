-- Each place's test is its condition.
use Rattle.std.proofs.Common.{◌≡◌, ◌<◌, ◌^◌, ◌-◌, ℕ, List, true, not, Option, None, Some, length, refl, ap, arith}
use Rattle.std.proofs.lemmas.Bool.{and_parts, eq-eqb, ne_eqb, leb-true, le-leb, ltb-true, lt-ltb}
use Rattle.std.proofs.lemmas.Slice.Eq.{bytes_eq-Decides}
use Rattle.std.specs.{Prelude.{◌&&◌, slice_index}, List.{list_any}, Str.{trim_end}}
use Rattle.picky_kv.specs.{declared.PpkVersionKey.{PpkVersionKey}, declared.PpkVersionKey.TheVariants.{V2, V3}}
use Rattle.picky_sshkey_blob.specs.{Pem.{pem_text}, declared.key.SshBasePrivateKey.{SshBasePrivateKey}}
use Rattle.picky_sshkey_blob.specs.Key.{public_part as public_part_of}
use Rattle.picky_sshkey_blob.proofs.TextLaws.{length_text, length_lines}
use Rattle.picky_text.specs.{Lines.{HasNo}, Words.{ends_line}}
use Rattle.picky_suite.specs.Meanings.{Meanings, plain}
use Rattle.picky_suite.proofs.RangeLemmas.{bcrypt_decides, argon2_decides}
use Rattle.picky_keys.specs.{Blob.{blob_of}, Line.{line_of}, LineRefusal.{is_short}}
use Rattle.picky_keys.proofs.ByteLaws.{no_by_test}
use Rattle.picky_sshkey.specs.declared.private_key.SshPrivateKey.{SshPrivateKey}
use Rattle.picky_sshkey.specs.Written.{content_under, envelope_of, lock_kept, plain_block, sealed_block}
use Rattle.picky_sshkey.proofs.KeptLaws.{envelopes_alike, sealed_len as block_sealed_len}
use Rattle.picky_ppk_parts.specs.declared.config.PpkEncryptionConfig.{PpkEncryptionConfig}
use Rattle.picky_ppk_file.specs.{Written.{file_text, fits_block}, PuttyPublic.{putty_public}}
use Rattle.picky_ppk_file.specs.PuttyRefusal.{is_security_key}
use Rattle.picky_key_text.specs.{declared.meaning.Key.{Key}, declared.meaning.Meaning.{Meaning}}
use Rattle.picky_key_text.specs.Key.{public_part, public_key}
use Rattle.picky_key_text.specs.declared.meaning.Key.TheVariants as keys
use Rattle.picky_ppk.specs.declared.layout.PpkLayout.{PpkLayout}
use Rattle.picky_target.specs.{declared.target.KeyTarget.{KeyTarget}, Output.{Output}}
use Rattle.picky_target.specs.{Drafts.{openssh_key, ppk_file, private_bytes}, Texts.{envelope_text}}
use Rattle.picky_target.specs.Carried.{CarriesComment, Derives, HasFileLines, HasFileRoom, HasKind, HasLines, HasRoom}
use Rattle.picky_target.specs.Carried.{HasNeededSecret, HasSecretRoom, Holds, Place, fresh_needed, PrivateKey, Kind, Comment}
use Rattle.picky_target.specs.Carried.{Derivation, Fresh, Length, Lines}
use Rattle.picky_target.specs.Judged.{carries_comment, derives, ends_in_cr, file_has_lines, has_kind, has_lf, has_lines}
use Rattle.picky_target.specs.Judged.{has_room, has_needed_secret, is_trimmed, measured_file, passes, secret_has_room}
use Rattle.picky_target.specs.declared.target.KeyTarget.TheVariants as targets
use Rattle.picky_target.proofs.FileWritten.{plain_len, sealed_len}
use Rattle.picky_target.proofs.TestLemmas.{not_true, test_from_has_no, no_end_from_test, test_from_no_end}

-- ---- a private key

secret_holds : (target : KeyTarget) (key : Key) → has_needed_secret target key ≡ true → HasNeededSecret target key
secret_holds (targets.OpenSsh rounds) (keys.Private key) test = tt
secret_holds (targets.OpenSsh rounds) (keys.Public key) test = cc test
secret_holds (targets.Ppk version config layout) (keys.Private key) test = tt
secret_holds (targets.Ppk version config layout) (keys.Public key) test = cc test
secret_holds targets.OpenSshPublic key test = tt
secret_holds targets.PuttyPublic key test = tt

secret_test : (target : KeyTarget) (key : Key) → HasNeededSecret target key → has_needed_secret target key ≡ true
secret_test (targets.OpenSsh rounds) (keys.Private key) holds = refl
secret_test (targets.OpenSsh rounds) (keys.Public key) holds = absurd holds
secret_test (targets.Ppk version config layout) (keys.Private key) holds = refl
secret_test (targets.Ppk version config layout) (keys.Public key) holds = absurd holds
secret_test targets.OpenSshPublic key holds = refl
secret_test targets.PuttyPublic key holds = refl

-- ---- the kind

kind_holds : (target : KeyTarget) (key : Key) → has_kind target key ≡ true → HasKind target key
kind_holds (targets.OpenSsh rounds) key test = tt
kind_holds (targets.Ppk version config layout) key test = not_true (is_security_key (public_part key)) test
kind_holds targets.OpenSshPublic key test = tt
kind_holds targets.PuttyPublic key test = not_true (is_security_key (public_part key)) test

kind_test : (target : KeyTarget) (key : Key) → HasKind target key → has_kind target key ≡ true
kind_test (targets.OpenSsh rounds) key holds = refl
kind_test (targets.Ppk version config layout) key holds = ap not holds
kind_test targets.OpenSshPublic key holds = refl
kind_test targets.PuttyPublic key holds = ap not holds

-- ---- the comment

no_lf_holds : (comment : List ℕ) → not (has_lf comment) ≡ true → HasNo 10 comment
no_lf_holds comment test = no_by_test 10 comment (not_true (has_lf comment) test)

no_lf_test : (comment : List ℕ) → HasNo 10 comment → not (has_lf comment) ≡ true
no_lf_test comment holds = ap not (test_from_has_no 10 comment holds)

pub comment_holds : (target : KeyTarget) (comment : List ℕ) → carries_comment target comment ≡ true → CarriesComment target comment
comment_holds (targets.OpenSsh rounds) comment test = (bytes_eq-Decides (trim_end comment) comment).0 test
comment_holds (targets.Ppk V2 config layout) comment test = no_lf_holds comment test
comment_holds (targets.Ppk V3 config layout) comment test =
    let parts = and_parts (not (has_lf comment)) (not (ends_in_cr comment)) test in
    let last = slice_index comment (length comment - 1) in
    (no_lf_holds comment parts.0, λ is. cc (not_true (ends_in_cr comment) parts.1, eq-eqb last 13 is))
comment_holds targets.OpenSshPublic comment test =
    let parts = and_parts (not (list_any ends_line comment)) (is_trimmed comment) test in
    let none = no_end_from_test comment (not_true (list_any ends_line comment) parts.0) in
    record { no_cr = none.0; no_lf = none.1; trimmed = (bytes_eq-Decides (trim_end comment) comment).0 parts.1 }
comment_holds targets.PuttyPublic comment test = no_lf_holds comment test

pub comment_test : (target : KeyTarget) (comment : List ℕ) → CarriesComment target comment → carries_comment target comment ≡ true
comment_test (targets.OpenSsh rounds) comment holds = (bytes_eq-Decides (trim_end comment) comment).1 holds
comment_test (targets.Ppk V2 config layout) comment holds = no_lf_test comment holds
comment_test (targets.Ppk V3 config layout) comment holds =
    let last = slice_index comment (length comment - 1) in
    rw (test_from_has_no 10 comment holds.0, ne_eqb last 13 holds.1) refl
comment_test targets.OpenSshPublic comment holds =
    rw (test_from_no_end comment holds.no_cr holds.no_lf, (bytes_eq-Decides (trim_end comment) comment).1 holds.trimmed) refl
comment_test targets.PuttyPublic comment holds = no_lf_test comment holds

-- ---- the keys that seal

derivation_holds : (target : KeyTarget) (pass : Option (List ℕ)) → derives target pass ≡ true → Derives target pass
derivation_holds target None test = tt
derivation_holds (targets.OpenSsh rounds) (Some pass) test = (bcrypt_decides (length pass) 16 rounds).0 test
derivation_holds (targets.Ppk V2 config layout) (Some pass) test = tt
derivation_holds (targets.Ppk V3 config layout) (Some pass) test =
    (argon2_decides config.argon2_memory config.argon2_passes config.argon2_parallelism (length pass) config.argon2_salt_size).0 test
derivation_holds targets.OpenSshPublic (Some pass) test = tt
derivation_holds targets.PuttyPublic (Some pass) test = tt

derivation_test : (target : KeyTarget) (pass : Option (List ℕ)) → Derives target pass → derives target pass ≡ true
derivation_test target None holds = refl
derivation_test (targets.OpenSsh rounds) (Some pass) holds = (bcrypt_decides (length pass) 16 rounds).1 holds
derivation_test (targets.Ppk V2 config layout) (Some pass) holds = refl
derivation_test (targets.Ppk V3 config layout) (Some pass) holds =
    (argon2_decides config.argon2_memory config.argon2_passes config.argon2_parallelism (length pass) config.argon2_salt_size).1 holds
derivation_test targets.OpenSshPublic (Some pass) holds = refl
derivation_test targets.PuttyPublic (Some pass) holds = refl

-- ---- lengths

short_holds : (bytes : List ℕ) → is_short bytes ≡ true → length bytes < 2 ^ 32
short_holds bytes test = ltb-true (length bytes) (2 ^ 32) test

short_test : (bytes : List ℕ) → length bytes < 2 ^ 32 → is_short bytes ≡ true
short_test bytes holds = lt-ltb (length bytes) (2 ^ 32) holds

-- texts of contents that are alike long are alike long
pem_len : (a b : List ℕ) → length a ≡ length b → length (pem_text a) ≡ length (pem_text b)
pem_len a b same = omega (arith, same, length_text a, length_text b, length_lines a, length_lines b)

-- sealing changes no length
pub envelope_len : (m : Meanings) (key : SshPrivateKey)
    → length (envelope_text m key) ≡ length (pem_text (envelope_of key (plain_block key)))
envelope_len m key =
    pem_len (content_under m key (lock_kept key.passphrase)) (envelope_of key (plain_block key))
    (envelopes_alike key (sealed_block m (lock_kept key.passphrase) key) (plain_block key)
    (block_sealed_len m key (lock_kept key.passphrase)))

-- so what is measured of PuTTY's file is as long as the file
pub ppk_len : (m : Meanings) (pass : Option (List ℕ)) (fresh : List ℕ) (version : PpkVersionKey) (config : PpkEncryptionConfig) (layout : PpkLayout)
    (key : SshBasePrivateKey) (comment : List ℕ)
    → length (file_text (measured_file (record { pass = pass; fresh = fresh }) version config layout key comment))
    ≡ length (file_text (ppk_file m (record { pass = pass; fresh = fresh }) version config layout key comment))
ppk_len m None fresh version config layout key comment = plain_len m fresh version config layout key comment
ppk_len m (Some pass) fresh version config layout key comment = sealed_len m pass fresh version config layout key comment

file_room_holds : (out : Output) (version : PpkVersionKey) (config : PpkEncryptionConfig) (layout : PpkLayout) (key : SshBasePrivateKey)
    (comment : List ℕ) → secret_has_room out (targets.Ppk version config layout) key comment ≡ true
    → HasFileRoom out version config layout key comment
file_room_holds out version config layout key comment test =
    let blob = blob_of (public_part_of key) in
    let private = private_bytes out version config layout key in
    let text = file_text (measured_file out version config layout key comment) in
    let last = and_parts (is_short blob && is_short private) (is_short text) test in
    let two = and_parts (is_short blob) (is_short private) last.0 in
    record {
      blob = short_holds blob two.0;
      private = short_holds private two.1;
      text = λ m. omega (arith, short_holds text last.1, ppk_len m out.pass out.fresh version config layout key comment);
    }

file_room_test : (out : Output) (version : PpkVersionKey) (config : PpkEncryptionConfig) (layout : PpkLayout) (key : SshBasePrivateKey)
    (comment : List ℕ) → HasFileRoom out version config layout key comment
    → secret_has_room out (targets.Ppk version config layout) key comment ≡ true
file_room_test out version config layout key comment holds =
    let text = file_text (measured_file out version config layout key comment) in
    let same = ppk_len plain out.pass out.fresh version config layout key comment in
    rw (
      short_test (blob_of (public_part_of key)) holds.blob,
      short_test (private_bytes out version config layout key) holds.private,
      short_test text (omega (arith, same, holds.text plain)),
    ) refl

openssh_room_holds : (out : Output) (rounds : ℕ) (key : Key) (comment : List ℕ)
    → has_room out (targets.OpenSsh rounds) (record { key = key; comment = comment }) ≡ true
    → HasRoom out (targets.OpenSsh rounds) (record { key = key; comment = comment })
openssh_room_holds out rounds (keys.Private key) comment test m =
    let made = openssh_key out rounds key comment in
    omega (arith, envelope_len m made, ltb-true (length (pem_text (envelope_of made (plain_block made)))) (2 ^ 32) test)
openssh_room_holds out rounds (keys.Public key) comment test m = omega arith

openssh_room_test : (out : Output) (rounds : ℕ) (key : Key) (comment : List ℕ)
    → HasRoom out (targets.OpenSsh rounds) (record { key = key; comment = comment })
    → has_room out (targets.OpenSsh rounds) (record { key = key; comment = comment }) ≡ true
openssh_room_test out rounds (keys.Private key) comment holds =
    let made = openssh_key out rounds key comment in
    lt-ltb (length (pem_text (envelope_of made (plain_block made)))) (2 ^ 32) (omega (arith, envelope_len plain made, holds plain))
openssh_room_test out rounds (keys.Public key) comment holds = refl

ppk_room_holds : (out : Output) (version : PpkVersionKey) (config : PpkEncryptionConfig) (layout : PpkLayout) (key : Key) (comment : List ℕ)
    → has_room out (targets.Ppk version config layout) (record { key = key; comment = comment }) ≡ true
    → HasSecretRoom out version config layout key comment
ppk_room_holds out version config layout (keys.Private key) comment test = file_room_holds out version config layout key comment test
ppk_room_holds out version config layout (keys.Public key) comment test = tt

ppk_room_test : (out : Output) (version : PpkVersionKey) (config : PpkEncryptionConfig) (layout : PpkLayout) (key : Key) (comment : List ℕ)
    → HasSecretRoom out version config layout key comment
    → has_room out (targets.Ppk version config layout) (record { key = key; comment = comment }) ≡ true
ppk_room_test out version config layout (keys.Private key) comment holds = file_room_test out version config layout key comment holds
ppk_room_test out version config layout (keys.Public key) comment holds = refl

room_holds : (out : Output) (target : KeyTarget) (meaning : Meaning) → has_room out target meaning ≡ true → HasRoom out target meaning
room_holds out (targets.OpenSsh rounds) meaning test = openssh_room_holds out rounds meaning.key meaning.comment test
room_holds out (targets.Ppk version config layout) meaning test = ppk_room_holds out version config layout meaning.key meaning.comment test
room_holds out targets.OpenSshPublic meaning test = short_holds (line_of (public_key meaning)) test
room_holds out targets.PuttyPublic meaning test =
    let blob = blob_of (public_part meaning.key) in
    let text = putty_public blob meaning.comment in
    let parts = and_parts (is_short blob) (is_short text) test in
    (short_holds blob parts.0, short_holds text parts.1)

room_test : (out : Output) (target : KeyTarget) (meaning : Meaning) → HasRoom out target meaning → has_room out target meaning ≡ true
room_test out (targets.OpenSsh rounds) meaning holds = openssh_room_test out rounds meaning.key meaning.comment holds
room_test out (targets.Ppk version config layout) meaning holds = ppk_room_test out version config layout meaning.key meaning.comment holds
room_test out targets.OpenSshPublic meaning holds = short_test (line_of (public_key meaning)) holds
room_test out targets.PuttyPublic meaning holds =
    let blob = blob_of (public_part meaning.key) in
    rw (short_test blob holds.0, short_test (putty_public blob meaning.comment) holds.1) refl

-- ---- lines

file_lines_hold : (out : Output) (version : PpkVersionKey) (config : PpkEncryptionConfig) (layout : PpkLayout) (key : Key)
    → file_has_lines out version config layout key ≡ true → HasFileLines out version config layout key
file_lines_hold out version config layout (keys.Private key) test =
    let blob = blob_of (public_part_of key) in
    let private = private_bytes out version config layout key in
    let parts = and_parts (fits_block blob) (fits_block private) test in
    (leb-true (length blob) 3145680 parts.0, leb-true (length private) 3145680 parts.1)
file_lines_hold out version config layout (keys.Public key) test = tt

file_lines_test : (out : Output) (version : PpkVersionKey) (config : PpkEncryptionConfig) (layout : PpkLayout) (key : Key)
    → HasFileLines out version config layout key → file_has_lines out version config layout key ≡ true
file_lines_test out version config layout (keys.Private key) holds =
    let blob = blob_of (public_part_of key) in
    let private = private_bytes out version config layout key in
    rw (le-leb (length blob) 3145680 holds.0, le-leb (length private) 3145680 holds.1) refl
file_lines_test out version config layout (keys.Public key) holds = refl

lines_hold : (out : Output) (target : KeyTarget) (key : Key) → has_lines out target key ≡ true → HasLines out target key
lines_hold out (targets.OpenSsh rounds) key test = tt
lines_hold out (targets.Ppk version config layout) key test = file_lines_hold out version config layout key test
lines_hold out targets.OpenSshPublic key test = tt
lines_hold out targets.PuttyPublic key test = tt

lines_test : (out : Output) (target : KeyTarget) (key : Key) → HasLines out target key → has_lines out target key ≡ true
lines_test out (targets.OpenSsh rounds) key holds = refl
lines_test out (targets.Ppk version config layout) key holds = file_lines_test out version config layout key holds
lines_test out targets.OpenSshPublic key holds = refl
lines_test out targets.PuttyPublic key holds = refl

-- ---- each place

-- What passes a place's test holds there.
pub holds_from_test : (out : Output) (target : KeyTarget) (meaning : Meaning) (place : Place)
    → passes out target meaning place ≡ true → Holds out target meaning place
holds_from_test out target meaning PrivateKey test = secret_holds target meaning.key test
holds_from_test out target meaning Kind test = kind_holds target meaning.key test
holds_from_test out target meaning Comment test = comment_holds target meaning.comment test
holds_from_test out target meaning Derivation test = derivation_holds target out.pass test
holds_from_test out target meaning Fresh test = leb-true (fresh_needed out target meaning.key) (length out.fresh) test
holds_from_test out target meaning Length test = room_holds out target meaning test
holds_from_test out target meaning Lines test = lines_hold out target meaning.key test

-- And what holds there passes.
pub test_from_holds : (out : Output) (target : KeyTarget) (meaning : Meaning) (place : Place)
    → Holds out target meaning place → passes out target meaning place ≡ true
test_from_holds out target meaning PrivateKey holds = secret_test target meaning.key holds
test_from_holds out target meaning Kind holds = kind_test target meaning.key holds
test_from_holds out target meaning Comment holds = comment_test target meaning.comment holds
test_from_holds out target meaning Derivation holds = derivation_test target out.pass holds
test_from_holds out target meaning Fresh holds = le-leb (fresh_needed out target meaning.key) (length out.fresh) holds
test_from_holds out target meaning Length holds = room_test out target meaning holds
test_from_holds out target meaning Lines holds = lines_test out target meaning.key holds
