-- What was passed by doesn't answer.
use Rattle.std.proofs.Common.{◌≡◌, ◌+◌, drop}
use Rattle.picky_ask.specs.Lookup.{place_of, question}
use Rattle.picky_ask.specs.inner.HeadView.{head_seen}
use Rattle.picky_ask.proofs.lookup.place_in.Given as goal

abbrev pub invariant-loop-place : goal.invariant-loop-place
invariant-loop-place l = place_of (question (head_seen l.head) l.text) l.entries
    ≡ l.place + place_of (question (head_seen l.head) l.text) (drop l.place l.entries)
