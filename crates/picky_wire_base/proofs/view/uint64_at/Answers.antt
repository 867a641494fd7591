-- Eight bytes at the place.
use Rattle.std.proofs.Common.{rules}
use Rattle.picky_wire_base.proofs.ViewLemmas.{uint64_seen}
use Rattle.picky_wire_base.proofs.view.uint64_at.Goals as goal

pub returns-in-Some : goal.returns-in-Some
returns-in-Some c =
    uint64_seen c.args.from c.from_be_bytes.result c.args.blob.now c.in-Some.bytes.now (search rules) (search rules) (search rules)
