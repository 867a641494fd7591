-- A signature algorithm, as two bytes of a head.
use Rattle.std.specs.Prelude.{ℕ}
use Rattle.picky_wire_base.specs.Flaw.{Reason, Number}
use Rattle.picky_wire_base.specs.Grammar.{Grammar}
use Rattle.picky_wire_base.specs.Combine.{at, done, narrow, ◌>>=◌}
use Rattle.picky_wire_base.specs.Entry.{entry}
use Rattle.picky_wire_base.specs.Fixed.{is_number}
use Rattle.picky_wire_base.specs.Numbers.{byte}
use Rattle.picky_wire_base.specs.Table.{Table, numbers}
use Rattle.picky_keys.specs.declared.algorithm.HashAlgorithm.{HashAlgorithm}
use Rattle.picky_keys.specs.declared.algorithm.SignatureAlgorithm.{SignatureAlgorithm}
use Rattle.picky_keys.specs.declared.algorithm.SignatureAlgorithm.TheVariants.{RsaPkcs1v15, Ecdsa, Ed25519}
use Rattle.picky_ask.specs.declared.operation.AlgorithmKind.{AlgorithmKind}
use Rattle.picky_ask.specs.declared.operation.AlgorithmKind.TheVariants as variants
use Rattle.picky_ask.specs.AlgorithmNumber.{kind_number, kinds_in_order, hash_number, hashes_in_order}
use Rattle.picky_ask.specs.carried.Operation.{own_kind, own_hash}

unfoldable pub kinds : Table ℕ AlgorithmKind
kinds = numbers kinds_in_order kind_number own_kind

unfoldable pub hashes : Table ℕ HashAlgorithm
hashes = numbers hashes_in_order hash_number own_hash

-- byte, of a kind
unfoldable pub kind : Grammar Reason AlgorithmKind
kind = narrow (at 1 byte) (entry (λ n. (1, Number n)) kinds)

-- byte, of a digest
unfoldable pub hash : Grammar Reason HashAlgorithm
hash = narrow (at 2 byte) (entry (λ n. (2, Number n)) hashes)

-- byte 0, where the digest is fixed
unfoldable pub no_hash : Grammar Reason ℕ
no_hash = narrow (at 2 byte) (is_number (λ n. (2, Number n)) 0)

-- the digest of each kind
unfoldable pub kind_hash : AlgorithmKind → Grammar Reason SignatureAlgorithm
kind_hash variants.Rsa = do
  digest ← hash
  done (RsaPkcs1v15 digest)
kind_hash variants.Ecdsa = do
  digest ← hash
  done (Ecdsa digest)
kind_hash variants.Ed25519 = do
  zero ← no_hash
  done Ed25519

-- byte kind
-- byte digest
unfoldable pub algorithm : Grammar Reason SignatureAlgorithm
algorithm = do
  k ← kind
  kind_hash k
