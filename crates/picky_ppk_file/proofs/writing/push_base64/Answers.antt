-- Base64 is ASCII.
use Rattle.picky_text.proofs.Base64Laws.{base64_is_ascii}
use Rattle.picky_ppk_file.proofs.writing.push_base64.Goals as goal

pub push_block-requires : goal.push_block-requires
push_block-requires c = record {
  ascii = rw (c.as_str.ensures.value, c.in_ok-body.ensures.text) (base64_is_ascii c.args.bytes.now);
}
