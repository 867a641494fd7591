-- An id that no entry has is new.
use Rattle.std.proofs.Common.{◌≡◌, None, ap}
use Rattle.picky_ledger.specs.State.{State, entry_named}
use Rattle.picky_ledger.proofs.StateLemmas.{new_is}
use Rattle.picky_ledger.proofs.ledger.Ledger.answer.Goals as goal

pub issue-requires-clause-new : goal.issue-requires-clause-new
issue-requires-clause-new g c =
    let entries : c.self.inside.entries ≡ c.args.self.now.entries = ap (λ (s : State). s.entries) c.self.view_is in
    let said : None ≡ entry_named c.as_str.result.now c.as_slice.result.now = c.in-None.ensures in
    let none : entry_named c.args.request.id c.args.self.now.entries ≡ None =
    cc (said, c.as_str.ensures.bytes, c.as_slice.ensures, entries) in
    new_is c.args.request.id c.args.self.now.entries none
