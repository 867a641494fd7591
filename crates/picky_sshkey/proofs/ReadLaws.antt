-- A key that is read or made keeps what a key keeps, so what is written of it is read back.
use Rattle.std.specs.Prelude.{◌≡◌, List, ℕ, Option, None, Some, Ok}
use Rattle.std.specs.Option.{IfSome}
use Rattle.std.proofs.Common.{arith, subst, sym}
use Rattle.picky_wire_base.specs.Numbers.{IsBytes}
use Rattle.picky_wire_base.proofs.Numbers.{bytes_in_front}
use Rattle.picky_suite.specs.Meanings.{Meanings}
use Rattle.picky_keys.specs.Key.{IsString, IsText}
use Rattle.picky_keys.proofs.ByteLaws.{no_bytes}
use Rattle.picky_sshkey_blob.specs.declared.key.SshBasePrivateKey.{SshBasePrivateKey}
use Rattle.picky_sshkey_blob.specs.Key.{IsPrivateKey}
use Rattle.picky_sshkey.specs.declared.private_key.SshPrivateKey.{SshPrivateKey}
use Rattle.picky_sshkey.specs.Kept.{IsSshPrivateKey}
use Rattle.picky_sshkey.specs.KdfLayout.{IsKdfOption}
use Rattle.picky_sshkey.specs.Made.{made_of, made_option}
use Rattle.picky_sshkey.specs.PrivateRefusal.{content_key, text_key}
use Rattle.picky_sshkey.specs.PrivateText.{IsPrivateContent}
use Rattle.picky_sshkey.proofs.KeptLaws.{trimmed_keeps}
use Rattle.picky_sshkey.proofs.MeaningLaws.{content_says, opened_is_bytes, text_says}
use Rattle.picky_sshkey.proofs.PieceLaws.{block_keeps, envelope_keeps}

-- A passphrase that is text is bytes.
pass_bytes : (given : Option (List ℕ)) → IfSome given IsText → IfSome given IsBytes
pass_bytes None is = tt
pass_bytes (Some pass) is = is.string.bytes

-- A key that a content of bytes says keeps it.
said_is_kept : (m : Meanings) (given : Option (List ℕ)) (content : List ℕ) (key : SshPrivateKey) → IsBytes content
    → IfSome given IsText → IsPrivateContent m given content key → IsSshPrivateKey key
said_is_kept m given content key each pass says =
    let front = says.fits in
    let parts = envelope_keeps says.envelope front.0 (bytes_in_front front.0 says.rest (subst IsBytes front.2 each)) front.1 in
    let plain = opened_is_bytes m given says.envelope says.plain (pass_bytes given pass) parts.0.salt.bytes parts.2 says.opened in
    let inside = says.block_fits in
    let block = block_keeps says.block inside.0 (bytes_in_front inside.0 says.padding (subst IsBytes inside.2 plain)) inside.1 in
    subst IsSshPrivateKey (sym says.key_is)
    (record {
      base_key = block.key;
      check = block.check;
      comment = trimmed_keeps says.block.comment block.comment;
      passphrase = pass;
      option = parts.0;
    })

-- So does one that a content of bytes means, and a text.
pub content_is_kept : (m : Meanings) (given : Option (List ℕ)) (content : List ℕ) (key : SshPrivateKey) → IsBytes content
    → IfSome given IsText → content_key m given content ≡ Ok key → IsSshPrivateKey key
content_is_kept m given content key each pass has =
    said_is_kept m given content key each pass (content_says m given content key each (pass_bytes given pass) has)

pub text_is_kept : (m : Meanings) (given : Option (List ℕ)) (text : List ℕ) (key : SshPrivateKey) → IsBytes text
    → IfSome given IsText → text_key m given text ≡ Ok key → IsSshPrivateKey key
text_is_kept m given text key each pass has =
    let says = text_says m given text key each (pass_bytes given pass) has in
    said_is_kept m given says.content key says.pem.bytes pass says.says

option_is_kept : (given : Option (List ℕ)) (salt : List ℕ) → IsString salt → IsKdfOption (made_option given salt)
option_is_kept None salt is = record { salt = record { bytes = no_bytes; short = omega arith }; rounds = omega arith }
option_is_kept (Some pass) salt is = record { salt = is; rounds = omega arith }

-- And one that is made of such parts.
pub made_is_kept : (base : SshBasePrivateKey) (given : Option (List ℕ)) (comment salt : List ℕ) → IsPrivateKey base
    → IfSome given IsText → IsText comment → IsString salt → IsSshPrivateKey (made_of base given comment salt)
made_is_kept base given comment salt private pass text is = record {
  base_key = private;
  check = omega arith;
  comment = text;
  passphrase = pass;
  option = option_is_kept given salt is;
}
