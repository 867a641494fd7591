-- Each literal stands for one value.
use Rattle.std.specs.Prelude.{refl}
use Rattle.picky_kv_words.specs.Literal.{AreNamed}
use Rattle.picky_kv.specs.declared.algorithm.PpkKeyAlgorithmValue.TheVariants.{Rsa, Dss, EcdsaSha2Nistp256}
use Rattle.picky_kv.specs.declared.algorithm.PpkKeyAlgorithmValue.TheVariants.{EcdsaSha2Nistp384}
use Rattle.picky_kv.specs.declared.algorithm.PpkKeyAlgorithmValue.TheVariants.{EcdsaSha2Nistp521, Ed25519}
use Rattle.picky_kv.specs.declared.algorithm.PpkKeyAlgorithmValue.TheVariants.{Ed448}
use Rattle.picky_kv.specs.Algorithm.{algorithm_literal, algorithms}

-- each by its literal
pub algorithms_are_named : AreNamed algorithm_literal algorithms
algorithms_are_named Rsa = refl
algorithms_are_named Dss = refl
algorithms_are_named EcdsaSha2Nistp256 = refl
algorithms_are_named EcdsaSha2Nistp384 = refl
algorithms_are_named EcdsaSha2Nistp521 = refl
algorithms_are_named Ed25519 = refl
algorithms_are_named Ed448 = refl
