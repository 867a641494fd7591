-- A line that is too long stands in the text.
use Rattle.std.proofs.Common.{◌≡◌, Err, List, ap, arith}
use Rattle.picky_wire_base.specs.declared.error.SizeError.TheVariants as sizes
use Rattle.picky_ledger.specs.declared.entry.Entry.{Entry}
use Rattle.picky_ledger.specs.State.{State}
use Rattle.picky_ledger.proofs.WrittenLemmas.{line_too_long}
use Rattle.picky_ledger.proofs.ledger.Ledger.text.Goals as goal

pub returns-in-Err-clause-too_long : goal.returns-in-Err-clause-too_long
returns-in-Err-clause-too_long c = λ is.
    let es : List Entry = c.as_slice-entry-items.result.now in
    let same : es ≡ c.args.self.now.entries =
    cc (c.as_slice-entry-items.ensures, ap (λ (s : State). s.entries) c.self.view_is) in
    let too_long : c.in-Err.e ≡ sizes.TooLong = cc is in
    line_too_long c.args.self.now es c.entries.entry-index c.entry-item.result same (omega arith) c.entry-item.is
    (c.in-Err.ensures.too_long (ap Err too_long))
