-- One more byte is drawn, and put behind the others.
use Rattle.std.proofs.Common.{◌≡◌, ◌∙◌, ◌++◌, [], ◌∷◌, ap, sym, refl}
use Rattle.std.proofs.lemmas.List.{append_assoc, append-nil}
use Rattle.picky_convert.specs.Generator.{state_after, byte_of, generated, next}
use Rattle.picky_convert.proofs.GeneratorLemmas.{after_more, drawn_more}
use Rattle.picky_convert.proofs.generator.Generator.append.Goals as goal

pub bytes-init : goal.bytes-init
unfolding state_after generated
bytes-init c = record { bytes = sym (append-nil c.args.bytes.now.items); state = refl }

pub bytes-preserved : goal.bytes-preserved
bytes-preserved c =
    let old = c.args.bytes.now.items in
    let s = c.args.self.now.state in
    let here = c.bytes.invariant in
    let more : c.byte-byte.result ≡ byte_of (next (state_after c.bytes.at s)) =
    c.byte-byte.ensures.byte ∙ ap (λ n. byte_of (next n)) here.state in
    record {
      bytes = c.in_ok-push.ensures.items ∙ ap (λ l. l ++ c.byte-byte.result ∷ []) here.bytes
          ∙ append_assoc old (generated c.bytes.at s) (c.byte-byte.result ∷ [])
          ∙ ap (λ b. old ++ (generated c.bytes.at s ++ b ∷ [])) more ∙ ap (λ l. old ++ l) (sym (drawn_more c.bytes.at s));
      state = c.byte-byte.ensures.state ∙ ap next here.state ∙ sym (after_more c.bytes.at s);
    }
