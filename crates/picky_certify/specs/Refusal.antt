-- A refusal of what is called, as the call's, where want of memory is the outer want.
use Rattle.picky_ask.specs.declared.table.TableError.{TableError}
use Rattle.picky_ask.specs.declared.table.TableError.TheVariants as tables
use Rattle.picky_target.specs.declared.error.ConvertError.{ConvertError}
use Rattle.picky_target.specs.declared.error.ConvertError.TheVariants as conversions
use Rattle.picky_certify.specs.declared.error.CertifyError.{CertifyError}
use Rattle.picky_certify.specs.declared.error.CertifyError.TheVariants as errors

abbrev pub conversion_refusal : ConvertError → CertifyError
conversion_refusal conversions.NoMemory = errors.NoMemory
conversion_refusal e = errors.Refused e

abbrev pub table_refusal : TableError → CertifyError
table_refusal tables.NoMemory = errors.NoMemory
table_refusal e = errors.Answers e
