-- The requests so far were answered, and their questions noted; and there are fresh bytes for those that are left.
use Rattle.std.proofs.Common.{◌≤◌, ◌*◌, length, string_bytes}
use Rattle.picky_ledger.specs.Run.{filled_lines, requests_in}
use Rattle.picky_ledger.specs.Runs.{nonce_len}
use Rattle.picky_ledger.proofs.RequestLemmas.{Answered}
use Rattle.picky_ledger_by.specs.Lacked.{SignsWith}
use Rattle.picky_ledger_by.proofs.RunLemmas.{Noted}
use Rattle.picky_ledger_by.proofs.requests.answer_requests.Given as goal

abbrev pub invariant-lines : goal.invariant-lines
invariant-lines l = record {
  answered : Answered (SignsWith l.table) l.issuer.inner_key l.initial.ledger l.fresh (requests_in l.requests)
      l.ledger l.rest (filled_lines l.lines) (string_bytes l.replies);
  noted : Noted l.table l.issuer.inner_key l.initial.ledger l.fresh (requests_in l.requests) l.ledger l.rest
      (filled_lines l.lines) l.questions.items;
  enough : nonce_len * length (filled_lines l.lines) ≤ length l.rest;
}

abbrev pub decreases-lines : goal.decreases-lines
decreases-lines l = length l.lines
