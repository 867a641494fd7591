-- Why a login comes to nothing, by why one of its texts does.
use Rattle.picky_ask.specs.declared.table.TableError.{TableError}
use Rattle.picky_ask.specs.declared.table.TableError.TheVariants as tables
use Rattle.picky_authorized.specs.declared.keys.PolicyError.{PolicyError}
use Rattle.picky_authorized.specs.declared.keys.PolicyError.TheVariants as policies
use Rattle.picky_key_text.specs.declared.error.ReadError.{ReadError}
use Rattle.picky_key_text.specs.declared.error.ReadError.TheVariants as reads
use Rattle.picky_login.specs.declared.error.LoginError.{LoginError}
use Rattle.picky_login.specs.declared.error.LoginError.TheVariants as errors

-- of the answers
abbrev pub table_refusal : TableError → LoginError
table_refusal tables.EndsInEntry = errors.Answers tables.EndsInEntry
table_refusal tables.LengthPastEnd = errors.Answers tables.LengthPastEnd
table_refusal tables.NoQuestion = errors.Answers tables.NoQuestion
table_refusal tables.NoMemory = errors.NoMemory

-- of the authorized keys
abbrev pub keys_refusal : PolicyError → LoginError
keys_refusal policies.TooLong = errors.AuthorizedTooLong
keys_refusal policies.NoMemory = errors.NoMemory

-- of the offer
abbrev pub offer_refusal : ReadError → LoginError
offer_refusal (reads.Private e) = errors.Offer (reads.Private e)
offer_refusal (reads.Public e) = errors.Offer (reads.Public e)
offer_refusal (reads.Certificate e) = errors.Offer (reads.Certificate e)
offer_refusal (reads.Putty e) = errors.Offer (reads.Putty e)
offer_refusal reads.NoMemory = errors.NoMemory
