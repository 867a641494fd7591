-- A passphrase in range, and a content as long as the draft says.
use Rattle.std.proofs.Common.{ap, arith, length, sym, ◌∙◌}
use Rattle.picky_sshkey.specs.Written.{plain_block}
use Rattle.picky_sshkey.proofs.WrittenLemmas.{derive_range, same_len}
use Rattle.picky_sshkey.proofs.writing.sealed_content.Goals as goal

pub open-requires-clause-range : goal.open-requires-clause-range
open-requires-clause-range g c =
    rw (c.as_str.ensures.bytes, c.as_slice.ensures.bytes)
    (derive_range c.args.key.now.passphrase c.args.key.now.kdf.option _ c.in-Some.is c.requires.range)

pub returns-in-Ok-content_round-clause-len : goal.returns-in-Ok-content_round-clause-len
returns-in-Ok-content_round-clause-len g c =
    let block = c.requires.block in
    let same = same_len c.args.key.now c.as_slice-in-Ok.result.now (plain_block c.args.key.now)
    (omega (
      arith,
      ap length block,
      c.open.ensures.fills.len,
      c.as_slice-in-Ok.ensures.len,
      ap length c.as_slice-in-Ok.ensures.value,
      ap length c.as_mut_slice.ensures.value,
    )) in
    c.in-Ok-content_round.content.ok.0 ∙ ap length c.in-Ok-content_round.ensures.ok ∙ same ∙ sym c.requires.len
