-- A key is written as its literal, which is plain; the values by their rows.
use Rattle.picky_kv.proofs.OneLineLemmas.{plain_is_one_line, algorithms_are_one_line}
use Rattle.picky_kv.proofs.OneLineLemmas.{encryptions_are_one_line, flavours_are_one_line}
use Rattle.picky_kv.proofs.OneLineLemmas.{numbers_are_one_line, counts_are_one_line}
use Rattle.picky_kv.proofs.OneLineLemmas.{hex_is_one_line, base64_is_one_line, rows_are_one_line}
use Rattle.picky_kv.proofs.laws.written_texts_are_one_line.Goals as goal

pub returns : goal.returns
returns g c = record {
  key = λ k. plain_is_one_line (g.T.Key.PpkField.field.spelling k)
      (rw (g.met.T.PpkKeyValue.key_written k) (g.met.T.PpkKeyValue.key_plain k));
  block_key = λ k. plain_is_one_line (g.B.Key.PpkField.field.spelling k)
      (rw (g.met.B.PpkMultilineKeyValue.key_written k)
      (g.met.B.PpkMultilineKeyValue.key_plain k));
  algorithm = algorithms_are_one_line;
  encryption = encryptions_are_one_line;
  flavour = flavours_are_one_line;
  memory = numbers_are_one_line;
  passes = numbers_are_one_line;
  parallelism = numbers_are_one_line;
  hex = hex_is_one_line;
  base64 = base64_is_one_line;
  count = counts_are_one_line;
  lines = rows_are_one_line;
}
