-- Lemmas on stretches of serving.
use Rattle.std.proofs.Common.{◌≡◌, ◌≢◌, ◌≤◌, ◌<◌, ◌+◌, ◌++◌, ◌∙◌, ℕ, List, [], ◌∷◌, length, take, sym, ap, subst, refl, arith}
use Rattle.std.proofs.Common.{append_assoc, Result, Ok, Err}
use Rattle.std.proofs.lemmas.List.{append-nil, length-append}
use Rattle.std.proofs.lemmas.Grind.{flat_map-append}
use Rattle.picky_wire_base.specs.Wire.{string_of}
use Rattle.picky_wire.specs.Count.{Rose}
use Rattle.picky_wire.specs.Takes.{EndsIn}
use Rattle.picky_suite.specs.Signs.{SignRelation}
use Rattle.picky_agent_state.specs.Kept.{machine}
use Rattle.picky_agent_state.specs.Message.{IsMessage}
use Rattle.picky_agent_state.specs.Step.{Step}
use Rattle.picky_agent_state.proofs.StepLaws.{Under}
use Rattle.picky_agent.specs.declared.status.AgentStatus.{AgentStatus}
use Rattle.picky_agent.specs.declared.status.AgentStatus.TheVariants as statuses
use Rattle.picky_agent.specs.Run.{Exchange, Run, asked, answered}
use Rattle.picky_agent.specs.Served.{BreaksOff, Counts, Halts, HasCount, ReadsMessages, Scene, Served, Serves, Wrote, most_messages}
use Rattle.picky_agent.specs.inner.Turn.{taken_in}
use Rattle.picky_agent.proofs.FrameLemmas.{ends_here}
use Rattle.picky_agent.proofs.RunLaws.{each_joined, run_joined, run_under}

-- ---- no message

-- nothing happened yet
pub serves_none : (signs : SignRelation) (tells_in tells_out : Type 0) (now : Scene) → Serves signs tells_in tells_out (Ok tt) 0 now now
serves_none signs tells_in tells_out now = record {
  exchanges = [];
  count = refl;
  each = tt;
  faults = now.signer_faults;
  run = refl;
  no_higher = omega arith;
  exact = λ remembers. refl;
  reads = λ t. record { rest = now.left; are = refl; ends = ends_here now.left; halts = refl };
  wrote = λ t. sym (append-nil now.written);
  counts = (refl, refl);
}

wrote_nothing : (status : AgentStatus) (before after : List ℕ) → status ≢ statuses.WriteFault → after ≡ before
    → Wrote (Err status) [] before after
wrote_nothing statuses.Done before after other same = same ∙ sym (append-nil before)
wrote_nothing statuses.BadFrame before after other same = same ∙ sym (append-nil before)
wrote_nothing statuses.Cut before after other same = same ∙ sym (append-nil before)
wrote_nothing statuses.ReadFault before after other same = same ∙ sym (append-nil before)
wrote_nothing statuses.WriteFault before after other same = absurd (other refl)
wrote_nothing statuses.NoMemory before after other same = same ∙ sym (append-nil before)
wrote_nothing statuses.TooMany before after other same = same ∙ sym (append-nil before)

-- serving ended
pub serves_stop : (signs : SignRelation) (tells_in tells_out : Type 0) (status : AgentStatus) (old new : Scene)
    → status ≢ statuses.WriteFault → new.kept ≡ old.kept → old.signer_faults ≤ new.signer_faults
    → (status ≢ statuses.NoMemory → new.signer_faults ≡ old.signer_faults)
    → (tells_in → EndsIn old.left new.left) → (tells_in → Halts (Err status) old.left new.left)
    → new.written ≡ old.written → Counts (Err status) old new
    → Serves signs tells_in tells_out (Err status) 0 old new
serves_stop signs tells_in tells_out status old new other kept rises calm ends halts written counts = record {
  exchanges = [];
  count = refl;
  each = tt;
  faults = old.signer_faults;
  run = ap (λ k. machine k old.signer_faults) (sym kept);
  no_higher = rises;
  exact = λ remembers. sym (calm (λ is. remembers (ap Err is)));
  reads = λ t. record { rest = old.left; are = refl; ends = ends t; halts = halts t };
  wrote = λ t. wrote_nothing status old.written new.written other written;
  counts = counts;
}

-- ---- one message

abbrev one : (message reply : List ℕ) → List Exchange
one message reply = record { message = message; reply = reply } ∷ []

framed_once : (bytes : List ℕ) → string_of bytes ++ [] ≡ string_of bytes
framed_once bytes = append-nil (string_of bytes)

-- a message was taken, and a reply was put that may have been broken off
serves_message : (signs : SignRelation) (tells_in tells_out : Type 0) (message reply : List ℕ) (r : Result (Unit {0}) AgentStatus)
    (old new : Scene) → IsMessage message
    → Step signs (machine old.kept old.signer_faults) message reply (machine new.kept new.signer_faults)
    → (tells_in → old.left ≡ string_of message ++ new.left) → Halts r new.left new.left
    → (tells_out → Wrote r (one message reply) old.written new.written) → Counts r old new
    → Serves signs tells_in tells_out r 1 old new
serves_message signs tells_in tells_out message reply r old new is step left halts wrote counts = record {
  exchanges = one message reply;
  count = refl;
  each = (is, tt);
  faults = new.signer_faults;
  run = (machine new.kept new.signer_faults, step, refl);
  no_higher = omega arith;
  exact = λ remembers. refl;
  reads = λ t. record {
    rest = new.left;
    are = left t ∙ ap (λ f. f ++ new.left) (sym (framed_once message));
    ends = ends_here new.left;
    halts = halts;
  };
  wrote = wrote;
  counts = counts;
}

-- a message was answered
pub serves_one : (signs : SignRelation) (tells_in tells_out : Type 0) (message reply : List ℕ) (old new : Scene)
    → IsMessage message → Step signs (machine old.kept old.signer_faults) message reply (machine new.kept new.signer_faults)
    → (tells_in → old.left ≡ string_of message ++ new.left) → (tells_out → new.written ≡ old.written ++ string_of reply)
    → Counts (Ok tt) old new → Serves signs tells_in tells_out (Ok tt) 1 old new
serves_one signs tells_in tells_out message reply old new is step left written counts =
    serves_message signs tells_in tells_out message reply (Ok tt) old new is step left refl
    (λ t. written t ∙ ap (λ f. old.written ++ f) (sym (framed_once reply))) counts

-- a message was taken, and its reply wasn't written whole
pub serves_broken : (signs : SignRelation) (tells_in tells_out : Type 0) (message reply : List ℕ) (old new : Scene)
    → IsMessage message → Step signs (machine old.kept old.signer_faults) message reply (machine new.kept new.signer_faults)
    → (tells_in → old.left ≡ string_of message ++ new.left)
    → (tells_out → (n : ℕ) × (new.written ≡ old.written ++ take n (string_of reply)) × (n < length (string_of reply)))
    → Counts (Err statuses.WriteFault) old new
    → Serves signs tells_in tells_out (Err statuses.WriteFault) 1 old new
serves_broken signs tells_in tells_out message reply old new is step left written counts =
    serves_message signs tells_in tells_out message reply (Err statuses.WriteFault) old new is step left refl
    (λ t. record {
      answered_all = [];
      last = record { message = message; reply = reply };
      are = refl;
      len = (written t).0;
      less = (written t).2;
      written = (written t).1 ∙ ap (λ f. f ++ take (written t).0 (string_of reply)) (sym (append-nil old.written));
    })
    counts

-- ---- one stretch after another

read_joined : (r : Result (Unit {0}) AgentStatus) (xs ys : List Exchange) (old mid new : List ℕ) → ReadsMessages (Ok tt) xs old mid
    → ReadsMessages r ys mid new → ReadsMessages r (xs ++ ys) old new
read_joined r xs ys old mid new first second = record {
  rest = second.rest;
  are = first.are ∙ ap (λ m. asked xs ++ m) (first.halts ∙ second.are)
      ∙ sym (append_assoc (asked xs) (asked ys) second.rest)
      ∙ ap (λ a. a ++ second.rest) (sym (flat_map-append (λ x. string_of x.message) xs ys));
  ends = second.ends;
  halts = second.halts;
}

all_written : (xs ys : List Exchange) (old mid new : List ℕ) → mid ≡ old ++ answered xs → new ≡ mid ++ answered ys
    → new ≡ old ++ answered (xs ++ ys)
all_written xs ys old mid new first second =
    second ∙ ap (λ m. m ++ answered ys) first ∙ append_assoc old (answered xs) (answered ys)
    ∙ ap (λ a. old ++ a) (sym (flat_map-append (λ x. string_of x.reply) xs ys))

part_written : (xs ys : List Exchange) (old mid new : List ℕ) → mid ≡ old ++ answered xs → BreaksOff ys mid new
    → BreaksOff (xs ++ ys) old new
part_written xs ys old mid new first second = record {
  answered_all = xs ++ second.answered_all;
  last = second.last;
  are = ap (λ l. xs ++ l) second.are ∙ sym (append_assoc xs second.answered_all (second.last ∷ []));
  len = second.len;
  less = second.less;
  written = second.written
      ∙ ap (λ f. f ++ take second.len (string_of second.last.reply))
      (all_written xs second.answered_all old mid (mid ++ answered second.answered_all) first refl);
}

wrote_joined : (r : Result (Unit {0}) AgentStatus) (xs ys : List Exchange) (old mid new : List ℕ) → Wrote (Ok tt) xs old mid
    → Wrote r ys mid new → Wrote r (xs ++ ys) old new
wrote_joined (Ok more) xs ys old mid new first second = all_written xs ys old mid new first second
wrote_joined (Err statuses.Done) xs ys old mid new first second = all_written xs ys old mid new first second
wrote_joined (Err statuses.BadFrame) xs ys old mid new first second = all_written xs ys old mid new first second
wrote_joined (Err statuses.Cut) xs ys old mid new first second = all_written xs ys old mid new first second
wrote_joined (Err statuses.ReadFault) xs ys old mid new first second = all_written xs ys old mid new first second
wrote_joined (Err statuses.WriteFault) xs ys old mid new first second = part_written xs ys old mid new first second
wrote_joined (Err statuses.NoMemory) xs ys old mid new first second = all_written xs ys old mid new first second
wrote_joined (Err statuses.TooMany) xs ys old mid new first second = all_written xs ys old mid new first second

counts_joined : (r : Result (Unit {0}) AgentStatus) (old mid new : Scene) → Counts (Ok tt) old mid → Counts r mid new
    → Counts r old new
counts_joined (Ok more) old mid new first second = (second.0 ∙ first.0, second.1 ∙ first.1)
counts_joined (Err statuses.Done) old mid new first second = (second.0 ∙ first.0, second.1 ∙ first.1)
counts_joined (Err statuses.BadFrame) old mid new first second = (second.0 ∙ first.0, second.1 ∙ first.1)
counts_joined (Err statuses.Cut) old mid new first second = (second.0 ∙ first.0, second.1 ∙ first.1)
counts_joined (Err statuses.ReadFault) old mid new first second =
    (subst (λ n. Rose n new.source_faults) first.0 second.0, second.1 ∙ first.1)
counts_joined (Err statuses.WriteFault) old mid new first second =
    (second.0 ∙ first.0, subst (λ n. Rose n new.sink_faults) first.1 second.1)
counts_joined (Err statuses.NoMemory) old mid new first second = (second.0 ∙ first.0, second.1 ∙ first.1)
counts_joined (Err statuses.TooMany) old mid new first second = (second.0 ∙ first.0, second.1 ∙ first.1)

pub serves_joined : (few many : SignRelation) (tells_in tells_out tells_in' tells_out' : Type 0) (r : Result (Unit {0}) AgentStatus)
    (n m : ℕ) (old mid new : Scene) → Under few many → (tells_in → tells_in') → (tells_out → tells_out')
    → Serves many tells_in tells_out (Ok tt) n old mid → Serves few tells_in' tells_out' r m mid new
    → Serves many tells_in tells_out r (n + m) old new
serves_joined few many tells_in tells_out tells_in' tells_out' r n m old mid new under told_in told_out first second = record {
  exchanges = first.exchanges ++ second.exchanges;
  count = length-append first.exchanges second.exchanges ∙ ap (λ k. k + length second.exchanges) first.count
      ∙ ap (λ k. n + k) second.count;
  each = each_joined first.exchanges second.exchanges first.each second.each;
  faults = second.faults;
  run =
      let start : Run many (machine old.kept old.signer_faults) first.exchanges (machine mid.kept mid.signer_faults) =
      subst (λ f. Run many (machine old.kept old.signer_faults) first.exchanges (machine mid.kept f)) (first.exact (λ is. cc is)) first.run in
      run_joined many (machine old.kept old.signer_faults) first.exchanges second.exchanges
      (machine mid.kept mid.signer_faults) (machine new.kept second.faults) start
      (run_under few many under (machine mid.kept mid.signer_faults) second.exchanges (machine new.kept second.faults) second.run);
  no_higher = second.no_higher;
  exact = second.exact;
  reads = λ t. read_joined r first.exchanges second.exchanges old.left mid.left new.left (first.reads t) (second.reads (told_in t));
  wrote = λ t.
      wrote_joined r first.exchanges second.exchanges old.written mid.written new.written (first.wrote t)
      (second.wrote (told_out t));
  counts = counts_joined r old mid new first.counts second.counts;
}

-- ---- the end

has_count : (status : AgentStatus) (n : ℕ) → status ≢ statuses.TooMany → n < most_messages
    → HasCount status (n + taken_in (Err status))
has_count statuses.Done n other few = omega (arith, few)
has_count statuses.BadFrame n other few = omega (arith, few)
has_count statuses.Cut n other few = omega (arith, few)
has_count statuses.ReadFault n other few = omega (arith, few)
has_count statuses.WriteFault n other few = omega (arith, few)
has_count statuses.NoMemory n other few = omega (arith, few)
has_count statuses.TooMany n other few = absurd (other refl)

-- a turn ended it
pub served_by : (few many : SignRelation) (tells_in tells_out tells_in' tells_out' : Type 0) (status : AgentStatus)
    (n : ℕ) (old mid new : Scene) → Under few many → (tells_in → tells_in') → (tells_out → tells_out')
    → n < most_messages → status ≢ statuses.TooMany
    → Serves many tells_in tells_out (Ok tt) n old mid
    → Serves few tells_in' tells_out' (Err status) (taken_in (Err status)) mid new
    → Served many tells_in tells_out status old new
served_by few many tells_in tells_out tells_in' tells_out' status n old mid new under told_in told_out few_messages other first second =
    record {
      n = n + taken_in (Err status);
      counted = has_count status n other few_messages;
      serves = serves_joined few many tells_in tells_out tells_in' tells_out' (Err status) n (taken_in (Err status)) old mid new
          under told_in told_out first second;
    }

-- there were too many messages
pub served_many : (signs : SignRelation) (tells_in tells_out : Type 0) (n : ℕ) (old new : Scene) → n ≡ most_messages
    → Serves signs tells_in tells_out (Ok tt) n old new → Served signs tells_in tells_out statuses.TooMany old new
served_many signs tells_in tells_out n old new full serves = record {
  n = n;
  counted = full;
  serves = record {
    exchanges = serves.exchanges;
    count = serves.count;
    each = serves.each;
    faults = serves.faults;
    run = serves.run;
    no_higher = serves.no_higher;
    exact = λ remembers. serves.exact (λ is. cc is);
    reads = λ t.
        let reads = serves.reads t in
        record { rest = reads.rest; are = reads.are; ends = reads.ends; halts = reads.halts };
    wrote = serves.wrote;
    counts = serves.counts;
  };
}
