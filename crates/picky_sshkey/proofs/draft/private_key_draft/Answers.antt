-- The draft is the key's.
use Rattle.std.proofs.Common.{ap, arith, length, refl, sym, ◌∙◌}
use Rattle.picky_sshkey.specs.Written.{plain_block}
use Rattle.picky_sshkey.proofs.WrittenLemmas.{block_within, envelope_room}
use Rattle.picky_sshkey.proofs.draft.private_key_draft.Goals as goal

pub returns-clause-ok : goal.returns-clause-ok
returns-clause-ok c =
    let block = c.in-Ok-block_of.ensures.block in
    let len = c.envelope_len-len.ensures (plain_block c.args.key.now)
    (omega (arith, ap length block, c.in-Ok-block_of.block.ok.0, c.len.ensures)) in
    let range = sym c.may_derive.ensures.may ∙ c.if-not-may_derive.false in
    record {
      range = range;
      kept = record {
        base_key = c.in-Ok-block_of.ensures.base_key;
        check = c.in-Ok-block_of.ensures.check;
        comment = c.in-Ok-block_of.ensures.comment;
        passphrase = c.may_derive.ensures.pass;
        option = record { salt = c.may_derive.ensures.salt; rounds = c.may_derive.ensures.rounds };
      };
      outer = c.in-Ok.ensures.ok;
      block = block;
      block_short = omega (arith, block_within c.args.key.now (plain_block c.args.key.now), len, c.if-len-gt-MAX_LEN.false);
      len = len;
      short = omega (arith, c.if-len-gt-MAX_LEN.false);
      room = envelope_room c.args.key.now (plain_block c.args.key.now) c.args.key.now.passphrase refl range
          (omega (arith, len, c.if-len-gt-MAX_LEN.false));
    }
