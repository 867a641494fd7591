-- One request more, and the end.
use Rattle.std.proofs.Common.{◌≡◌, ◌∙◌, ◌==◌, List, ◌∷◌, [], ℕ, false, ap, arith, length, string_bytes, subst}
use Rattle.std.proofs.lemmas.Bool.Decides.{nat_tests}
use Rattle.std.proofs.lemmas.List.{nil_from_length}
use Rattle.picky_ledger.specs.Run.{LedgerAsked, filled_lines, requests_in}
use Rattle.picky_ledger.proofs.RequestLemmas.{Answered, answered_more, filled_more}
use Rattle.picky_ledger_by.specs.Lacked.{SignsWith}
use Rattle.picky_ledger_by.proofs.RunLemmas.{Noted, noted_more, written_comes}
use Rattle.picky_ledger_by.proofs.requests.answer_requests.Goals as goal

pub lines-preserved-in-Ok : goal.lines-preserved-in-Ok
lines-preserved-in-Ok c =
    let entries = c.args.table.now in
    let issuer = c.args.issuer.now.inner_key in
    let all : List (List ℕ) = requests_in c.args.requests.now in
    let line : List ℕ = c.in-Some.line.now in
    let left : List (List ℕ) = filled_lines c.next_line.new.self in
    let filled : (length line == 0) ≡ false = grind (arith, nat_tests, c.is_empty.ensures, c.if-not-is_empty.true) in
    let is : filled_lines c.lines.lines ≡ line ∷ left =
    ap filled_lines c.in-Some.ensures.line ∙ filled_more line c.next_line.new.self filled in
    let nonce = c.split_at.result.0.now in
    let rest = c.lines.rest.now in
    record {
      answered =
          answered_more (SignsWith entries) issuer c.args.ledger c.args.fresh.now all c.lines.ledger c.answer_line.new.ledger rest
          nonce c.split_at.result.1.now line left (string_bytes c.lines.replies) (string_bytes c.answer_line.new.replies)
          c.in-Ok.ensures.0
          (subst (λ ls. Answered (SignsWith entries) issuer c.args.ledger c.args.fresh.now all c.lines.ledger rest ls
          (string_bytes c.lines.replies)) is c.lines.invariant.answered)
          c.split_at.ensures.front c.split_at.ensures.back c.in-Ok.ensures.1 c.in-Ok.ensures.2;
      noted =
          noted_more entries issuer c.args.ledger c.args.fresh.now all c.lines.ledger c.answer_line.new.ledger rest nonce
          c.split_at.result.1.now line left c.lines.questions.items c.answer_line.new.questions.items c.in-Ok.ensures.0
          (subst (λ ls. Noted entries issuer c.args.ledger c.args.fresh.now all c.lines.ledger rest ls c.lines.questions.items) is
          c.lines.invariant.noted)
          c.split_at.ensures.front c.split_at.ensures.back c.in-Ok.ensures.1 c.in-Ok.ensures.3;
      enough = omega (arith, ap length is, c.lines.invariant.enough, c.split_at.ensures.back_len);
    }

pub returns-then-is_empty : goal.returns-then-is_empty
returns-then-is_empty c =
    let entries = c.args.table.now in
    let issuer = c.args.issuer.now.inner_key in
    let all : List (List ℕ) = requests_in c.args.requests.now in
    let key : LedgerAsked = record { ledger = c.args.ledger; issuer = c.args.issuer.now; requests = all } in
    let done : filled_lines c.lines.lines ≡ [] = ap filled_lines c.in_default.ensures.none.0 in
    let len : length c.lines.questions.items ≡ 0 =
    grind (arith, nat_tests, c.is_empty-2.ensures, c.if-is_empty.true, ap length c.as_slice.ensures.value) in
    written_comes entries key c.args.fresh.now c.lines.ledger c.lines.rest.now (string_bytes c.lines.replies)
    c.lines.questions.items
    (subst (λ ls. Answered (SignsWith entries) issuer c.args.ledger c.args.fresh.now all c.lines.ledger c.lines.rest.now ls
    (string_bytes c.lines.replies)) done c.lines.invariant.answered)
    (subst (λ ls. Noted entries issuer c.args.ledger c.args.fresh.now all c.lines.ledger c.lines.rest.now ls c.lines.questions.items)
    done c.lines.invariant.noted) c.applied.result c.requires.is (nil_from_length c.lines.questions.items len) c.applied.ensures
