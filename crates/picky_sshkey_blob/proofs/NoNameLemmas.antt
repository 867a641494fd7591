-- No field after the name is refused for a name.
use Rattle.std.specs.Prelude.{List, ℕ, ◌&&◌, ◌==◌, nat_le, length, take, drop, bytes_eq}
use Rattle.std.proofs.Common.{subst}
use Rattle.picky_wire_base.specs.Flaw.{Flaw, Length}
use Rattle.picky_wire_base.specs.Grammar.{Grammar}
use Rattle.picky_wire_base.specs.Combine.{at}
use Rattle.picky_wire_base.specs.Numbers.{byte}
use Rattle.picky_wire_base.specs.Wire.{string, text, of_length}
use Rattle.picky_wire_base.specs.Mpint.{mpint}
use Rattle.picky_keys.specs.declared.kind.KeyKind.{KeyKind}
use Rattle.picky_keys.specs.declared.kind.KeyKind.TheVariants as kinds
use Rattle.picky_keys.specs.declared.curve.EcCurve.{EcCurve}
use Rattle.picky_keys.specs.Blob.{ed_key}
use Rattle.picky_sshkey_blob.specs.Copy.{before_copy}
use Rattle.picky_sshkey_blob.specs.Blob.{ed_secret, private_rsa_fields, private_ec_fields, private_ed_fields, private_sk_ecdsa_fields, private_sk_ed_fields}
use Rattle.picky_sshkey_blob.specs.Blob.{private_key_fields}
use Rattle.picky_sshkey_blob.proofs.RefusedLemmas.{RefusesAs, NotName, done_refuses, both_refuses, narrow_refuses}
use Rattle.picky_sshkey_blob.proofs.RefusedLemmas.{at_refuses, test_refused}

field : {A : Type 0} (i : ℕ) (G : Grammar Flaw A) → RefusesAs NotName (at i G).read
field i G = at_refuses NotName i G (λ flaw. tt)

ed_key_no_name : RefusesAs NotName (ed_key 1).read
unfolding ed_key
ed_key_no_name =
    narrow_refuses NotName (at 1 string) (of_length (1, Length) 32) (field 1 string)
    (λ bytes e is. subst NotName (test_refused (length bytes == 32) bytes (1, Length) e is) tt)

ed_secret_no_name : (public : List ℕ) → RefusesAs NotName (ed_secret public).read
unfolding ed_secret
ed_secret_no_name public =
    narrow_refuses NotName (at 2 string) (before_copy (2, Length) public) (field 2 string)
    (λ both e is. subst NotName (test_refused (nat_le 32 (length both) && bytes_eq (drop 32 both) public) (take 32 both) (2, Length) e is) tt)

rsa_no_name : RefusesAs NotName private_rsa_fields.read
unfolding private_rsa_fields
rsa_no_name =
    both_refuses NotName (at 1 mpint).read _ (field 1 mpint) (λ n.
    both_refuses NotName (at 2 mpint).read _ (field 2 mpint) (λ e.
    both_refuses NotName (at 3 mpint).read _ (field 3 mpint) (λ d.
    both_refuses NotName (at 4 mpint).read _ (field 4 mpint) (λ iqmp.
    both_refuses NotName (at 5 mpint).read _ (field 5 mpint) (λ p.
    both_refuses NotName (at 6 mpint).read _ (field 6 mpint) (λ q. done_refuses NotName _))))))

ec_no_name : (curve : EcCurve) → RefusesAs NotName (private_ec_fields curve).read
unfolding private_ec_fields
ec_no_name curve =
    both_refuses NotName (at 1 text).read _ (field 1 text) (λ identifier.
    both_refuses NotName (at 2 string).read _ (field 2 string) (λ point.
    both_refuses NotName (at 3 mpint).read _ (field 3 mpint) (λ number. done_refuses NotName _)))

ed_no_name : RefusesAs NotName private_ed_fields.read
unfolding private_ed_fields
ed_no_name =
    both_refuses NotName (ed_key 1).read _ ed_key_no_name (λ public.
    both_refuses NotName (ed_secret public).read _ (ed_secret_no_name public) (λ seed. done_refuses NotName _))

sk_ecdsa_no_name : RefusesAs NotName private_sk_ecdsa_fields.read
unfolding private_sk_ecdsa_fields
sk_ecdsa_no_name =
    both_refuses NotName (at 1 text).read _ (field 1 text) (λ identifier.
    both_refuses NotName (at 2 string).read _ (field 2 string) (λ point.
    both_refuses NotName (at 3 text).read _ (field 3 text) (λ application.
    both_refuses NotName (at 4 byte).read _ (field 4 byte) (λ flags.
    both_refuses NotName (at 5 string).read _ (field 5 string) (λ handle.
    both_refuses NotName (at 6 string).read _ (field 6 string) (λ reserved. done_refuses NotName _))))))

sk_ed_no_name : RefusesAs NotName private_sk_ed_fields.read
unfolding private_sk_ed_fields
sk_ed_no_name =
    both_refuses NotName (ed_key 1).read _ ed_key_no_name (λ public.
    both_refuses NotName (at 2 text).read _ (field 2 text) (λ application.
    both_refuses NotName (at 3 byte).read _ (field 3 byte) (λ flags.
    both_refuses NotName (at 4 string).read _ (field 4 string) (λ handle.
    both_refuses NotName (at 5 string).read _ (field 5 string) (λ reserved. done_refuses NotName _)))))

-- No kind's fields are.
pub fields_no_name : (kind : KeyKind) → RefusesAs NotName (private_key_fields kind).read
fields_no_name kinds.Rsa = rsa_no_name
fields_no_name (kinds.Ec curve) = ec_no_name curve
fields_no_name (kinds.Ed algorithm) = ed_no_name
fields_no_name kinds.SkEcdsaSha2NistP256 = sk_ecdsa_no_name
fields_no_name kinds.SkEd25519 = sk_ed_no_name
