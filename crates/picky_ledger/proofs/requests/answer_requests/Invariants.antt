-- The requests so far were answered, and there are fresh bytes for those that are left.
use Rattle.std.proofs.Common.{◌≡◌, ◌≤◌, ◌*◌, length, string_bytes}
use Rattle.std.specs.Prelude.{◌↔◌, ℕ, List}
use Rattle.picky_keys.specs.declared.public_key.PublicKey.{PublicKey}
use Rattle.picky_keys.specs.declared.algorithm.SignatureAlgorithm.{SignatureAlgorithm}
use Rattle.picky_ledger.specs.Run.{filled_lines, requests_in}
use Rattle.picky_ledger.specs.Runs.{NoneSigns, nonce_len}
use Rattle.picky_ledger.proofs.RequestLemmas.{Answered}
use Rattle.picky_ledger.proofs.requests.answer_requests.Given as goal

abbrev pub invariant-lines : goal.invariant-lines
invariant-lines g l = record {
  answered : Answered (g.G.Signer.signs l.initial.signer) l.issuer.inner_key l.initial.ledger l.fresh (requests_in l.requests)
      l.ledger l.rest (filled_lines l.lines) (string_bytes l.replies);
  enough : nonce_len * length (filled_lines l.lines) ≤ length l.rest;
  signs : (k : PublicKey) (a : SignatureAlgorithm) (m s : List ℕ)
      → g.G.Signer.signs l.signer k a m s ↔ g.G.Signer.signs l.initial.signer k a m s;
  calm : g.G.Signer.faults l.signer ≡ g.G.Signer.faults l.initial.signer;
  unasked : NoneSigns l.issuer.inner_key l.initial.ledger l.fresh (requests_in l.requests)
      → (l.signer ≡ l.initial.signer) × NoneSigns l.issuer.inner_key l.ledger l.rest (filled_lines l.lines);
}

abbrev pub decreases-lines : goal.decreases-lines
decreases-lines g l = length l.lines
