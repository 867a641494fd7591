-- What a refusal comes to, by what the device left.
use Rattle.std.proofs.Common.{Err, List, Some, subst, ℕ}
use Rattle.std.specs.Prelude.{◌-◌, ◌^◌, min}
use Rattle.picky_wire.specs.Count.{Rose}
use Rattle.picky_ask.specs.{Known.{meant}, State.{IsState}}
use Rattle.picky_conversion.specs.{Convert.{AnswersKeyText}, Outside.{outside}}
use Rattle.picky_c.specs.Round.{IsUnanswered}
use Rattle.picky_c.proofs.RoundLemmas.{counted_for_a_reason, leaves_only, no_text, refusal_round}
use Rattle.picky_c.proofs.round.round_of_text.Goals as goal

pub returns-in-Err : goal.returns-in-Err
returns-in-Err g c =
    let old = c.new-suite.result in
    let new = c.convert_key_text.new.suite in
    let missing = c.into_missing.result in
    let rose = Rose (min old.faults (2 ^ 64 - 1)) (min new.faults (2 ^ 64 - 1)) in
    let state = subst (λ told. IsState told new) c.requires.all c.into_missing.ensures.state in
    record {
      gives = refusal_round (outside (meant g.K.Known.known c.args.table.now) c.args.given) c.args.target c.args.text.now c.in-Err.e rose
          c.args.table.now missing c.unanswered.result
          (subst (λ m. AnswersKeyText {X = List ℕ} (λ text. text) (outside m c.args.given) c.args.target c.args.text.now rose (Err c.in-Err.e))
          c.new-suite.ensures.meanings c.in-Err.ensures.gives)
          (counted_for_a_reason (Some c.args.table.now) c.args.table.now old new missing c.new-suite.ensures.fresh state
          c.into_missing.ensures.missing)
          (leaves_only c.args.table.now old new missing c.new-suite.ensures.fresh state c.into_missing.ensures.missing
          c.convert_key_text.ensures.asked)
          (subst (λ e. IsUnanswered e missing c.unanswered.result) c.refusal.ensures c.unanswered.ensures.is);
      means = no_text c.unanswered.result _ c.unanswered.ensures.no_text;
    }
