-- A string is its text and four bytes more.
use Rattle.std.proofs.Common.{◌≡◌, [], ◌++◌, sym, arith}
use Rattle.picky_wire_base.specs.Wire.{string_of}
use Rattle.picky_issuing.proofs.PayloadLemmas.{long_none, short_string}
use Rattle.picky_issuing.proofs.named_payload.string_payload.Goals as goal

pub returns-then-text : goal.returns-then-text
returns-then-text c = sym (long_none c.args.text.now (omega (arith, c.if-text.true)))

pub from_vec-requires : goal.from_vec-requires
from_vec-requires c =
    let spelled : c.push_pieces.new.out.items ≡ [] ++ (string_of c.args.text.now ++ []) =
    rw (c.new-bytes.ensures.items, c.string.ensures.string, c.as_bytes.ensures.value) at c.in-Ok.ensures in
    let short = short_string c.args.text.now c.push_pieces.new.out.items (omega (arith, c.if-text.false)) spelled in
    omega (arith, short)
