-- Taking the key out asks no suite.
use Rattle.std.proofs.Common.{◌≡◌, Err, ap}
use Rattle.picky_ppk_parts.specs.declared.error.PuttyError.TheVariants as putty
use Rattle.picky_key_text.proofs.RefusalLaws.{base_key_no_fault}
use Rattle.picky_key_text.proofs.ppk.meaning_of_opened_file.Goals as goal

pub returns-in-Err-clause-no_fault : goal.returns-in-Err-clause-no_fault
returns-in-Err-clause-no_fault c = λ fault.
    let same : c.in-Err.e ≡ putty.SuiteFault = cc fault in
    base_key_no_fault (λ found. found) (Err c.in-Err.e) c.args.ppk c.in-Err.ensures (ap Err same)
