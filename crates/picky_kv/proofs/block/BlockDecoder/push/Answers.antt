-- What is kept is the text with the line behind it.
use Rattle.std.proofs.Common.{◌++◌, sym, ◌∙◌, ap, subst}
use Rattle.std.proofs.lemmas.List.{append_assoc}
use Rattle.std.specs.Str.{IsUtf8}
use Rattle.picky_text.specs.Base64.{base64_of}
use Rattle.picky_kv.specs.inner.Tail.{tail_text}
use Rattle.picky_kv.proofs.LineLemmas.{taken_is_whole}
use Rattle.picky_kv.proofs.StateLemmas.{tail_is_text}
use Rattle.picky_kv.proofs.block.BlockDecoder.push.Goals as goal

pub invariant_of-self : goal.invariant_of-self
invariant_of-self c = record {
  state = c.in-Ok.ensures.ok.state;
  utf8 = tail_is_text c.self.inside.bytes.items (tail_text c.self.inside.tail) c.as_bytes.result.now
      c.extend_behind.new.bytes.items (tail_text c.in-Ok.tail) c.self.invariant.utf8
      (subst IsUtf8 (sym c.as_bytes.ensures.value) c.utf8.line) c.in-Ok.ensures.ok.taken_is;
}

pub returns-in-Ok-clause-behind : goal.returns-in-Ok-clause-behind
returns-in-Ok-clause-behind c =
    taken_is_whole _ _ c.in-Ok.ensures.ok.taken_is
    ∙ sym (append_assoc (base64_of c.self.inside.bytes.items) (tail_text c.self.inside.tail)
    c.as_bytes.result.now)
    ∙ ap (λ l. l ++ c.as_bytes.result.now) c.self.view_is
    ∙ ap (λ l. c.args.self.now ++ l) c.as_bytes.ensures.value
