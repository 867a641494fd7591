-- Each row that was joined.
use Rattle.picky_text.proofs.RowLemmas.{none_left}
use Rattle.picky_sshkey_blob.proofs.PackedLaws.{packed_starts, packed_row_more, packed_ends}
use Rattle.picky_sshkey_blob.proofs.pem.joined_rows.Goals as goal

pub rows-init : goal.rows-init
rows-init c = packed_starts c.args.bytes.now _ c.in_ok-joined.ensures.items

pub rows-preserved : goal.rows-preserved
rows-preserved c =
    packed_row_more c.args.bytes.now c.rows.joined.items c.extend_from_slice.new.self.items
    c.split_row.result.0.now c.rows.rest.now c.split_row.result.1.now
    c.in_ok-extend_from_slice.ensures.items c.split_row.ensures.parts c.rows.invariant

pub returns : goal.returns
returns c =
    packed_ends c.args.bytes.now c.rows.joined.items c.rows.rest.now (none_left _ c.rows-test.ensures)
    c.rows.invariant
