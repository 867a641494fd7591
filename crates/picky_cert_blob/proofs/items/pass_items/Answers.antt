-- The items are passed one after another.
use Rattle.std.proofs.Common.{arith}
use Rattle.picky_cert_blob.proofs.RowLemmas.{passing_begins, passing_more, passing_stops, passing_ends}
use Rattle.picky_cert_blob.proofs.items.pass_items.Goals as goal

pub items-init : goal.items-init
items-init g c = passing_begins g.I.Item.item c.args.bytes.now c.args.from c.requires

pub items-preserved : goal.items-preserved
items-preserved g c =
    passing_more g.I.Item.item g.met.I.Item.solid c.args.bytes.now c.args.from c.items.at c.in-Ok.next c.items-test.true
    c.items.invariant c.in-Ok.ensures

pub returns-in-Err : goal.returns-in-Err
returns-in-Err g c =
    passing_stops g.I.Item.item c.args.bytes.now c.args.from c.items.at c.in-Err.stopped c.items-test.true c.items.invariant
    c.in-Err.ensures

pub returns : goal.returns
returns g c =
    passing_ends g.I.Item.item c.args.bytes.now c.args.from c.items.at (omega (arith, c.items-test.false)) c.items.invariant
