-- The key's algorithm, by its name in SSH, after PuTTY's manual, Appendix C.
use Rattle.std.specs.Prelude.{ℕ, List, [], ◌∷◌, codes, ◌++◌}
use Rattle.picky_kv_words.specs.Literal.{LiteralRow}
use Rattle.picky_kv.specs.declared.algorithm.PpkKeyAlgorithmValue.{PpkKeyAlgorithmValue}
use Rattle.picky_kv.specs.declared.algorithm.PpkKeyAlgorithmValue.TheVariants.{Rsa, Dss, EcdsaSha2Nistp256}
use Rattle.picky_kv.specs.declared.algorithm.PpkKeyAlgorithmValue.TheVariants.{EcdsaSha2Nistp384}
use Rattle.picky_kv.specs.declared.algorithm.PpkKeyAlgorithmValue.TheVariants.{EcdsaSha2Nistp521, Ed25519}
use Rattle.picky_kv.specs.declared.algorithm.PpkKeyAlgorithmValue.TheVariants.{Ed448}

-- the value of the first line: the key's algorithm
abbrev pub algorithm_literal : PpkKeyAlgorithmValue → List ℕ
algorithm_literal Rsa = codes "ssh-rsa"
algorithm_literal Dss = codes "ssh-dss"
algorithm_literal EcdsaSha2Nistp256 = codes "ecdsa-sha2-nistp256"
algorithm_literal EcdsaSha2Nistp384 = codes "ecdsa-sha2-nistp384"
algorithm_literal EcdsaSha2Nistp521 = codes "ecdsa-sha2-nistp521"
algorithm_literal Ed25519 = codes "ssh-ed25519"
algorithm_literal Ed448 = codes "ssh-ed448"

-- its row
abbrev pub algorithm_row : LiteralRow PpkKeyAlgorithmValue
algorithm_row = record {
  name = codes "PpkKeyAlgorithmValue";
  literal = algorithm_literal;
  expected = codes "[ssh-rsa, ssh-dss, ecdsa-sha2-nistp256, ecdsa-sha2-nistp384, "
      ++ codes "ecdsa-sha2-nistp521, ssh-ed25519, ssh-ed448]";
}

-- in this order
abbrev pub algorithms : List PpkKeyAlgorithmValue
algorithms =
    Rsa ∷ Dss ∷ EcdsaSha2Nistp256 ∷ EcdsaSha2Nistp384 ∷ EcdsaSha2Nistp521 ∷ Ed25519 ∷ Ed448 ∷ []

-- how many mpints a private key of the algorithm has in a file
abbrev pub mpint_values_count : PpkKeyAlgorithmValue → ℕ
mpint_values_count Rsa = 4
mpint_values_count Dss = 1
mpint_values_count EcdsaSha2Nistp256 = 1
mpint_values_count EcdsaSha2Nistp384 = 1
mpint_values_count EcdsaSha2Nistp521 = 1
mpint_values_count Ed25519 = 1
mpint_values_count Ed448 = 1
