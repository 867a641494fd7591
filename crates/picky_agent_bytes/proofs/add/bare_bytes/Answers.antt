-- The message of the identity without its secrets.
use Rattle.std.proofs.Common.{◌∙◌, Ok, ap, subst, sym}
use Rattle.picky_sshkey_blob.specs.Key.{IsPrivateKey}
use Rattle.picky_agent_state.specs.Request.{request_of}
use Rattle.picky_agent_bytes.specs.Bare.{bare}
use Rattle.picky_agent_bytes.proofs.SpelledLemmas.{adding_asks}
use Rattle.picky_agent_bytes.proofs.WriteLemmas.{bare_message}
use Rattle.picky_agent_bytes.proofs.add.bare_bytes.Goals as goal

pub returns-in-Ok-push_pieces-2-clause-gives : goal.returns-in-Ok-push_pieces-2-clause-gives
returns-in-Ok-push_pieces-2-clause-gives c =
    ap Ok (sym (bare_message c.args.identity.now c.in-Ok.key c.in-Ok-from_slice.bytes.items c.push_pieces.new.out.items
    c.push_pieces-2.new.out.items c.text.result c.secret_pieces-secret.result c.in-Ok.ensures c.in-Ok-from_slice.ensures.items
    c.secret_pieces-secret.ensures.spelled c.text.ensures.string c.in-Ok-push_pieces.ensures c.in-Ok-push_pieces-2.ensures))

pub returns-in-Ok-push_pieces-2-clause-asks : goal.returns-in-Ok-push_pieces-2-clause-asks
returns-in-Ok-push_pieces-2-clause-asks c =
    ap request_of (bare_message c.args.identity.now c.in-Ok.key c.in-Ok-from_slice.bytes.items c.push_pieces.new.out.items
    c.push_pieces-2.new.out.items c.text.result c.secret_pieces-secret.result c.in-Ok.ensures c.in-Ok-from_slice.ensures.items
    c.secret_pieces-secret.ensures.spelled c.text.ensures.string c.in-Ok-push_pieces.ensures c.in-Ok-push_pieces-2.ensures)
    ∙ adding_asks (bare c.args.identity.now) (record {
      key = subst IsPrivateKey c.in-Ok.ensures c.secret_pieces-secret.ensures.keeps;
      comment = record {
        string = record { bytes = c.text.ensures.bytes; short = c.text.ensures.short };
        utf8 = c.text.ensures.utf8;
      };
    })
