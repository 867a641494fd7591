-- The texts of the keys so far were fed and counted, six at most of each key.
use Rattle.std.proofs.Common.{◌≡◌, ◌≤◌, ◌*◌, length}
use Rattle.std.specs.List.{concat}
use Rattle.sha2.specs.Hashers.{Holds256}
use Rattle.picky_convert.specs.Sample.{texts_of}
use Rattle.picky_convert.proofs.summary.digest_texts.Given as goal

abbrev pub invariant-keys : goal.invariant-keys
invariant-keys g l = record {
  held : Holds256 l.hasher (concat (texts_of (g.S.Suite.meanings l.initial.suite) l.number));
  count : l.texts ≡ length (texts_of (g.S.Suite.meanings l.initial.suite) l.number);
  few : l.texts ≤ 6 * l.number;
  suite : l.suite ≡ l.initial.suite;
}
