-- What is printed of a login that is decided.
use Rattle.std.specs.Prelude.{◌++◌, List, ℕ, codes}
use Rattle.base64.specs.Engines.{standard_no_pad}
use Rattle.base64.specs.GeneralPurpose.{encode_of}
use Rattle.sha2.specs.Sha256.{sha256}
use Rattle.picky_keys.specs.Blob.{blob_of}
use Rattle.picky_keys.specs.declared.key.SshBasePublicKey.{SshBasePublicKey}
use Rattle.picky_policy.specs.Printed.{decision_text, word_line}
use Rattle.picky_policy.specs.declared.decision.Decision.{Decision}
use Rattle.picky_policy.specs.declared.offer.Offer.{Offer}
use Rattle.picky_policy.specs.declared.offer.Offer.TheVariants as offers

-- the key that is judged: the one that is offered, and of a certificate its subject's
abbrev pub judged_key : Offer → SshBasePublicKey
judged_key (offers.Key key) = key.inner_key
judged_key (offers.Certificate c message) = c.public_key.inner_key

-- its fingerprint, as ssh-keygen -l prints it
unfoldable pub fingerprint : SshBasePublicKey → List ℕ
fingerprint key = codes "SHA256:" ++ encode_of standard_no_pad (sha256 (blob_of key))

-- the lines of the decision, and "key" SP fingerprint LF
abbrev pub login_text : Offer → Decision → List ℕ
login_text offer decision = decision_text decision ++ word_line (codes "key") (fingerprint (judged_key offer))
