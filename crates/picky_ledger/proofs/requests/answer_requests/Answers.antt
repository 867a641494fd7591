-- One request more.
use Rattle.std.proofs.Common.{◌≡◌, ◌∙◌, ◌==◌, List, ◌∷◌, ℕ, false, ap, arith, length, string_bytes, subst}
use Rattle.std.proofs.lemmas.Bool.Decides.{nat_tests}
use Rattle.picky_ledger.specs.Apply.{judged_request_line}
use Rattle.picky_ledger.specs.Run.{filled_lines, requests_in}
use Rattle.picky_ledger.specs.Runs.{NoneSigns}
use Rattle.picky_ledger.proofs.RequestLemmas.{Answered, answered_more, applies_for, filled_more, none_more}
use Rattle.picky_ledger.proofs.requests.answer_requests.Goals as goal

pub lines-preserved-in-Ok : goal.lines-preserved-in-Ok
lines-preserved-in-Ok g c =
    let signs = g.G.Signer.signs c.args.signer.now in
    let issuer = c.args.issuer.now.inner_key in
    let line : List ℕ = c.in-Some.line.now in
    let left : List (List ℕ) = filled_lines c.next_line.new.self in
    let filled : (length line == 0) ≡ false = grind (arith, nat_tests, c.is_empty.ensures, c.if-not-is_empty.true) in
    let is : filled_lines c.lines.lines ≡ line ∷ left =
    ap filled_lines c.in-Some.ensures.line ∙ filled_more line c.next_line.new.self filled in
    let nonce = c.split_at.result.0.now in
    let rest = c.lines.rest.now in
    let reply = c.in-Ok.ensures.answers.0 in
    let applies = c.in-Ok.ensures.answers.1 in
    record {
      answered =
          answered_more signs issuer c.args.ledger.now c.args.fresh.now (requests_in c.args.requests.now)
          c.lines.ledger c.answer_request.new.ledger rest nonce c.split_at.result.1.now line left (string_bytes c.lines.replies)
          (string_bytes c.answer_request.new.replies) reply
          (subst (λ ls. Answered signs issuer c.args.ledger.now c.args.fresh.now (requests_in c.args.requests.now) c.lines.ledger rest ls
          (string_bytes c.lines.replies)) is c.lines.invariant.answered)
          c.split_at.ensures.front c.split_at.ensures.back
          (applies_for (g.G.Signer.signs c.lines.signer) signs c.lines.ledger c.answer_request.new.ledger line
          (judged_request_line (record { issuer = issuer; nonce = nonce }) c.lines.ledger line) ⊥ reply
          (λ k a m s. (c.lines.invariant.signs k a m s).0) applies)
          c.in-Ok.ensures.answers.2;
      enough = omega (arith, ap length is, c.lines.invariant.enough, c.split_at.ensures.back_len);
      signs = λ k a m s.
          let one = c.in-Ok.ensures.signer.kept k a m s in
          let before = c.lines.invariant.signs k a m s in
          (λ good. before.0 (one.0 good), λ good. one.1 (before.1 good));
      calm = c.in-Ok.ensures.signer.calm (λ same. cc same) ∙ c.lines.invariant.calm;
      unasked = λ none.
          let before = c.lines.invariant.unasked none in
          none_more (g.G.Signer.signs c.lines.signer) issuer c.lines.ledger c.answer_request.new.ledger rest nonce
          c.split_at.result.1.now line left reply c.args.signer.now c.lines.signer c.answer_request.new.signer
          (subst (λ ls. NoneSigns issuer c.lines.ledger rest ls) is before.1)
          c.split_at.ensures.front c.split_at.ensures.back applies c.in-Ok.ensures.signer.unasked before.0;
    }
