-- Words of this crate's private contracts: what its values that borrow show.
use Rattle.picky_ledger.specs.Run.{LedgerAsked, Parts, requests_in}
use Rattle.picky_ledger.specs.declared.asked.LedgerInput.{LedgerInput}
use Rattle.picky_ledger.specs.declared.asked.LedgerParts.{LedgerParts}

abbrev pub parts_shown : LedgerParts → Parts
parts_shown p = record { ledger = p.ledger.now; issuer = p.issuer.now; requests = p.requests.now }

abbrev pub given_shown : LedgerInput → LedgerAsked
given_shown g = record { ledger = g.ledger; issuer = g.issuer; requests = requests_in g.requests.now }
