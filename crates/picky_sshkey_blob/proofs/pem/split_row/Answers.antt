-- The bytes at the row's end.
use Rattle.std.proofs.Common.{◌∙◌, ◌++◌, ap, sym}
use Rattle.picky_sshkey_blob.specs.Pem.{packed}
use Rattle.picky_sshkey_blob.proofs.PackedLaws.{packed_at, packed_up_to}
use Rattle.picky_sshkey_blob.proofs.pem.split_row.Goals as goal

pub returns-in-Some-clause-parts : goal.returns-in-Some-clause-parts
returns-in-Some-clause-parts c =
    packed_at c.args.bytes.now c.split_at.result.0.now c.split_at.result.1.now c.in-Some.after.now
    c.in-Some.field-0-0.now c.row_end.result c.split_at.ensures.front c.split_at.ensures.back
    c.in-Some.ensures.cases.0 c.row_end.ensures.blank
    ∙ ap (λ l. packed c.split_at.result.0.now ++ l) (sym c.without_blanks.ensures.same)

pub returns-in-None-clause-parts : goal.returns-in-None-clause-parts
returns-in-None-clause-parts c =
    packed_up_to c.args.bytes.now _ _ c.row_end.result c.split_at.ensures.front c.split_at.ensures.back
