use Rattle.std.proofs.Common.{◌≡◌, ◌∙◌, ◌<◌, ◌≤◌, ap, sym, subst, arith}
use Rattle.std.specs.Prelude.{None, Some}
use Rattle.picky_ask.specs.Lookup.{answer_to, place_of, question}
use Rattle.picky_ask.specs.declared.missing.Missing.TheVariants as missings
use Rattle.picky_ask.specs.State.{State}
use Rattle.picky_ask.specs.inner.HeadView.{head_seen}
use Rattle.picky_ask.specs.inner.Turn.{IsFound}
use Rattle.picky_ask.specs.Cause.{HasCause}
use Rattle.picky_ask.proofs.CauseLemmas.{asked_for, misplaced}
use Rattle.picky_ask.proofs.TurnLemmas.{answer_here, answer_past, asked_reason}
use Rattle.picky_ask.proofs.suite.AnsweredSuite.find.Goals as goal

pub returns-then-place-self-clause-found : goal.returns-then-place-self-clause-found
returns-then-place-self-clause-found g c =
    let q = question (head_seen c.args.head.now) c.args.text.now in
    subst (λ (s : State). IsFound q c.place_in-place.result c.as_slice.result.now s) c.self.view_is (record {
      place_is = sym c.place_in-place.ensures;
      turn = c.if-self-place.false;
      within = c.if-place-self.true;
      listed = answer_here q c.self.inside.entries.now c.place_in-place.result c.index-self-place.result c.place_in-place.ensures
          c.if-place-self.true ∙ ap Some (sym c.as_slice.ensures.bytes);
    })

pub fail-requires-clause-cause : goal.fail-requires-clause-cause
fail-requires-clause-cause g c =
    let q = question (head_seen c.args.head.now) c.args.text.now in
    let early : c.self.inside.used < place_of q c.self.inside.entries.now = omega (arith, c.place_in-place.ensures, c.if-self-place.true) in
    subst (λ (s : State). HasCause missings.Misplaced s.entries) c.self.view_is (misplaced c.self.inside.entries.now q c.self.inside.used early)

pub fail-requires-2-clause-cause : goal.fail-requires-2-clause-cause
fail-requires-2-clause-cause g c =
    let q = question (head_seen c.args.head.now) c.args.text.now in
    let none = answer_past q c.self.inside.entries.now (omega (arith, c.place_in-place.ensures, c.if-place-self.false)) in
    subst (λ (s : State). HasCause c.missing_answer-missing.result s.entries) c.self.view_is
    (asked_for q c.missing_answer-missing.result c.self.inside.entries.now c.requires none c.missing_answer-missing.ensures)

pub returns-clause-failed : goal.returns-clause-failed
returns-clause-failed g c = λ judge.
    let q = question (head_seen c.args.head.now) c.args.text.now in
    let come : place_of q c.self.inside.entries.now ≤ c.self.inside.used = omega (arith, c.place_in-place.ensures, c.if-self-place.false) in
    let none = answer_past q c.self.inside.entries.now (omega (arith, c.place_in-place.ensures, c.if-place-self.false)) in
    asked_reason q judge c.missing_answer-missing.result c.args.self.now c.fail-2.new.self
    (subst (λ (s : State). place_of q s.entries ≤ s.used) c.self.view_is come)
    (subst (λ (s : State). answer_to q s.entries ≡ None) c.self.view_is none) c.missing_answer-missing.ensures c.fail-2.ensures
