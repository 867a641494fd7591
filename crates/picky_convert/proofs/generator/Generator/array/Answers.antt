-- One more byte is drawn, and put at its place; in the end all places have theirs.
use Rattle.std.proofs.Common.{◌≡◌, ◌∙◌, ◌++◌, [], ◌∷◌, ap, sym, refl, arith}
use Rattle.std.proofs.lemmas.List.{take_more_set, length-set}
use Rattle.picky_convert.specs.Generator.{state_after, byte_of, generated, next}
use Rattle.picky_convert.proofs.GeneratorLemmas.{after_more, drawn_more}
use Rattle.picky_convert.proofs.generator.Generator.array.Goals as goal

pub bytes-init : goal.bytes-init
unfolding state_after generated
bytes-init c = record { bytes = refl; state = refl; len = refl }

pub bytes-preserved : goal.bytes-preserved
bytes-preserved c =
    let s = c.args.self.now.state in
    let here = c.bytes.invariant in
    let more : c.byte.result ≡ byte_of (next (state_after c.bytes.at s)) =
    c.byte.ensures.byte ∙ ap (λ n. byte_of (next n)) here.state in
    record {
      bytes = take_more_set c.bytes.bytes c.bytes.at c.byte.result (omega (arith, here.len, c.bytes-test.true))
          ∙ ap (λ l. l ++ c.byte.result ∷ []) here.bytes
          ∙ ap (λ b. generated c.bytes.at s ++ b ∷ []) more ∙ sym (drawn_more c.bytes.at s);
      state = c.byte.ensures.state ∙ ap next here.state ∙ sym (after_more c.bytes.at s);
      len = length-set c.bytes.bytes c.bytes.at c.byte.result ∙ here.len;
    }
