-- The blanks that are left are filtered out, where there may be any.
use Rattle.std.proofs.Common.{◌∙◌, ◌≡◌, ◌<◌, sym, not, arith, rules}
use Rattle.std.proofs.lemmas.Fn.{filter_same}
use Rattle.picky_sshkey_blob.specs.Pem.{is_blank, packed}
use Rattle.picky_sshkey_blob.proofs.PackedLaws.{packed_above}
use Rattle.picky_sshkey_blob.proofs.pem.packed.Goals.{then-least-le32, else-least-le32}
use Rattle.picky_sshkey_blob.proofs.pem.packed.Goals as goal

pub returns : goal.returns
unfolding packed
returns c = elim c.if-least-le32.branch [
  | then-least-le32 w ↦
      let kept : w.retain.new.self.items ≡ packed c.in_ok-packed.packed.items =
      filter_same _ (λ b. not (is_blank b)) _ (λ x b f' k. search rules) _ _ w.retain.ensures.filtered in
      rw w.packed-is (kept ∙ c.in_ok-packed.ensures)
  | else-least-le32 w ↦
      let above : 32 < c.least.result = omega (arith, w.if-least-le32.false) in
      let whole = packed_above c.in_ok-packed.packed.items c.least.result above
      (rw c.as_slice.ensures.value at c.least.ensures) in
      rw w.packed-is (sym whole ∙ c.in_ok-packed.ensures)
]
