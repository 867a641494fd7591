-- What the words of a line show.
use Rattle.picky_request.specs.Request.{Words}
use Rattle.picky_request.specs.declared.words.LineWords.{LineWords}

abbrev pub words_shown : LineWords → Words
words_shown w = record {
  id = w.id.now;
  kind = w.kind.now;
  principals = w.principals.now;
  after = w.after.now;
  before = w.before.now;
  key = w.key.now;
}
