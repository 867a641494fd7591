-- The type of the key's algorithm, as a field.
use Rattle.picky_kv_words.specs.Field.{Field}
use Rattle.picky_kv_words.specs.Literal.{literal_field}
use Rattle.picky_kv.specs.declared.algorithm.PpkKeyAlgorithmValue.{PpkKeyAlgorithmValue}
use Rattle.picky_kv.specs.Algorithm.{algorithm_row, algorithms}
use Rattle.picky_kv.specs.carried.Algorithm.{algorithms_are_named}

-- the type of the key's algorithm
unfoldable pub algorithm_field : Field PpkKeyAlgorithmValue
algorithm_field = literal_field algorithm_row algorithms algorithms_are_named
