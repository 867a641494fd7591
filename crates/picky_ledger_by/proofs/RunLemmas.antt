-- Requests one after another by a table of answers: the questions so far, and what they come to at the end.
use Rattle.std.proofs.Common.{◌≡◌, ◌≢◌, ◌⊎◌, ◌++◌, ◌∙◌, ◌≤◌, ◌^◌, ◌<◌, ℕ, List, [], ◌∷◌, Option, Some, None, Result, Ok, Err, ap, refl, sym, subst}
use Rattle.std.proofs.Common.{inl, inr, take, drop, length}
use Rattle.std.proofs.lemmas.Bool.{cases_Bool, ltb-false, ltb-true}
use Rattle.std.proofs.lemmas.List.{append-nil, append_assoc}
use Rattle.picky_wire_base.specs.Wire.{string_of}
use Rattle.picky_wire_base.specs.declared.error.SizeError.TheVariants as sizes
use Rattle.picky_keys.specs.LineRefusal.{is_short}
use Rattle.picky_keys.specs.declared.key.SshBasePublicKey.{SshBasePublicKey}
use Rattle.picky_suite.specs.Signs.{SignRelation}
use Rattle.picky_ask.specs.Lookup.{answer_to}
use Rattle.picky_ask.specs.Question.{question_of}
use Rattle.picky_ask.specs.Signing.{SignsByTable, fresh_signer}
use Rattle.picky_ask.specs.declared.question.Entry.{Entry}
use Rattle.picky_ask.specs.declared.question.Question.{Question}
use Rattle.picky_ledger.specs.Apply.{Applies, SignatureAsked, judged_request_line}
use Rattle.picky_ledger.specs.LedgerText.{ledger_text, ledger_written}
use Rattle.picky_ledger.specs.Replies.{replies_text}
use Rattle.picky_ledger.specs.Run.{LedgerAsked}
use Rattle.picky_ledger.specs.Runs.{Runs, Step, nonce_len, terms_by}
use Rattle.picky_ledger.specs.State.{IsLedger, State}
use Rattle.picky_ledger.specs.declared.reply.Reply.{Reply}
use Rattle.picky_ledger.proofs.AfterLaws.{runs_leave}
use Rattle.picky_ledger.proofs.RequestLemmas.{Answered, applies_for}
use Rattle.picky_ledger_by.specs.Applied.{AreGood, AreLacked, Comes, IsAmong, IsNotAsked, questions_in}
use Rattle.picky_ledger_by.specs.Lacked.{SignsWith, after_request, asked_for, asked_questions, lacked, lacking, question_for}
use Rattle.picky_ledger_by.specs.Lacked.{questions_text, signature_in}
use Rattle.picky_ledger_by.specs.declared.apply.Applied.{Applied}
use Rattle.picky_ledger_by.specs.declared.apply.Applied.TheVariants as rounds
use Rattle.picky_ledger_by.specs.declared.apply.LedgerByError.{LedgerByError}
use Rattle.picky_ledger_by.specs.declared.apply.LedgerByError.TheVariants as errors
use Rattle.picky_ledger_by.specs.inner.Line.{IsWritten, StopsFor}

-- ---- questions

lacked_append : (entries : List Entry) (xs ys : List Question) → lacked entries (xs ++ ys) ≡ lacked entries xs ++ lacked entries ys
lacked_append entries [] ys = refl
lacked_append entries (q ∷ xs) ys =
    ap (λ l. lacking q (answer_to q entries) ++ l) (lacked_append entries xs ys)
    ∙ sym (append_assoc (lacking q (answer_to q entries)) (lacked entries xs) (lacked entries ys))

text_append : (xs ys : List Question) → questions_text (xs ++ ys) ≡ questions_text xs ++ questions_text ys
text_append [] ys = refl
text_append (q ∷ xs) ys =
    ap (λ l. string_of (question_of q) ++ l) (text_append xs ys)
    ∙ sym (append_assoc (string_of (question_of q)) (questions_text xs) (questions_text ys))

-- ---- the ledger after a request

applied_is : (entries : List Entry) (old new : State) (line : List ℕ) (says : Result SignatureAsked Reply) (reply : Reply)
    → Applies (SignsWith entries) old line says ⊥ (Ok reply) new → new ≡ after_request entries old line says
applied_is entries old new line (Ok a) reply (c, signed, entry, issued, after) = cc (after, signed.1, signed.2)
applied_is entries old new line (Err r) reply applies = applies.1

-- ---- so far

-- the questions are those of the requests in front and of those that are left, and these bytes are those in front that are lacked
pub record Noted (entries : List Entry) (issuer : SshBasePublicKey) (old : State) (fresh : List ℕ) (lines : List (List ℕ))
    (now : State) (rest : List ℕ) (left : List (List ℕ)) (said : List ℕ) : Type 0 where
  pub front : List Question
  pub whole : asked_questions entries issuer old fresh lines ≡ front ++ asked_questions entries issuer now rest left
  pub text : said ≡ questions_text (lacked entries front)

pub noted_none : (entries : List Entry) (issuer : SshBasePublicKey) (old : State) (fresh : List ℕ) (lines : List (List ℕ))
    → Noted entries issuer old fresh lines old fresh lines []
noted_none entries issuer old fresh lines = record { front = []; whole = refl; text = refl }

module _ (entries : List Entry) (issuer : SshBasePublicKey) (old : State) (fresh : List ℕ) (lines : List (List ℕ)) where
  pub noted_more : (mid new : State) (rest nonce behind line : List ℕ) (left : List (List ℕ)) (said after : List ℕ) (reply : Reply)
      → Noted entries issuer old fresh lines mid rest (line ∷ left) said → nonce ≡ take nonce_len rest → behind ≡ drop nonce_len rest
      → Applies (SignsWith entries) mid line (judged_request_line (record { issuer = issuer; nonce = nonce }) mid line) ⊥ (Ok reply) new
      → after ≡ said ++ questions_text (lacked entries
      (asked_for (judged_request_line (record { issuer = issuer; nonce = nonce }) mid line)))
      → Noted entries issuer old fresh lines new behind left after
  noted_more mid new rest nonce behind line left said after reply so is same applies added =
      let judged = λ (n : List ℕ). judged_request_line (record { issuer = issuer; nonce = n }) mid line in
      let first : List Question = asked_for (judged (take nonce_len rest)) in
      let is_after : new ≡ after_request entries mid line (judged (take nonce_len rest)) =
      applied_is entries mid new line (judged nonce) reply applies ∙ ap (λ n. after_request entries mid line (judged n)) is in
      let more : List Question = asked_questions entries issuer new behind left in
      let next : asked_questions entries issuer (after_request entries mid line (judged (take nonce_len rest))) (drop nonce_len rest) left
      ≡ more =
      ap (λ l. asked_questions entries issuer l (drop nonce_len rest) left) (sym is_after)
      ∙ ap (λ b. asked_questions entries issuer new b left) (sym same) in
      record {
        front = so.front ++ first;
        whole =
            so.whole ∙ ap (λ l. so.front ++ (first ++ l)) next ∙ sym (append_assoc so.front first more);
        text =
            added ∙ ap (λ n. said ++ questions_text (lacked entries (asked_for (judged n)))) is
            ∙ ap (λ t. t ++ questions_text (lacked entries first)) so.text
            ∙ sym (text_append (lacked entries so.front) (lacked entries first))
            ∙ ap questions_text (sym (lacked_append entries so.front first));
      }

  -- a request whose question can't be asked
  stops_among : (mid : State) (rest line : List ℕ) (left : List (List ℕ)) (said : List ℕ) (says : Result SignatureAsked Reply)
      → Noted entries issuer old fresh lines mid rest (line ∷ left) said → judged_request_line (terms_by issuer rest) mid line ≡ says
      → (e : LedgerByError) → StopsFor says e
      → (e ≡ errors.NoMemory) ⊎ ((e ≡ errors.QuestionTooLong)
      × ((q : Question) × IsAmong (asked_questions entries issuer old fresh lines) q × IsNotAsked q))
  stops_among mid rest line left said says so is e (inl want) = inl want
  stops_among mid rest line left said (Ok a) so is e (inr long) =
      let more : List Question =
      asked_questions entries issuer
      (after_request entries mid line (judged_request_line (terms_by issuer rest) mid line)) (drop nonce_len rest) left in
      inr (
        long.0,
        (
          question_for a,
          record {
            front = so.front;
            rest = more;
            whole = so.whole ∙ ap (λ s. so.front ++ (asked_for s ++ more)) is;
          },
          long.1,
        ),
      )
  stops_among mid rest line left said (Err r) so is e (inr long) = absurd long.1

  pub stops_comes : (key : LedgerAsked) (mid : State) (rest nonce line : List ℕ) (left : List (List ℕ)) (said : List ℕ)
      (e : LedgerByError) → key.issuer.inner_key ≡ issuer → key.ledger ≡ old → key.requests ≡ lines
      → Noted entries issuer old fresh lines mid rest (line ∷ left) said → nonce ≡ take nonce_len rest
      → StopsFor (judged_request_line (record { issuer = issuer; nonce = nonce }) mid line) e
      → Comes (record { entries = entries; given = key }) fresh (Err e)
  stops_comes key mid rest nonce line left said e who which what so is stops =
      let here = subst (λ n. StopsFor (judged_request_line (record { issuer = issuer; nonce = n }) mid line) e) is stops in
      elim (stops_among mid rest line left said (judged_request_line (terms_by issuer rest) mid line) so refl e here) [
        | inl want ↦ rw want tt
        | inr (long, (q, among, not)) ↦
            rw long (
              q,
              subst (λ k. IsAmong (asked_questions entries k key.ledger fresh key.requests) q) (sym who)
                  (subst (λ l. IsAmong (asked_questions entries issuer l fresh key.requests) q) (sym which)
                  (subst (λ r. IsAmong (asked_questions entries issuer old fresh r) q) (sym what) among)),
              not,
            )
      ]

-- ---- at the end

-- a string has its length in front
string_is_some : (bytes : List ℕ) → string_of bytes ≢ []
unfolding string_of
string_is_some bytes none = cc none

none_lacked : (qs : List Question) → questions_text qs ≡ [] → qs ≡ []
none_lacked [] is = refl
none_lacked (q ∷ qs) is = absurd (string_is_some (question_of q) (front_is_none (string_of (question_of q)) (questions_text qs) is))
  where
    front_is_none : (xs ys : List ℕ) → xs ++ ys ≡ [] → xs ≡ []
    front_is_none [] ys none = refl
    front_is_none (x ∷ xs) ys none = cc none

both_none : (xs ys : List Question) → xs ++ ys ≡ [] → (xs ≡ []) × (ys ≡ [])
both_none [] ys none = (refl, none)
both_none (x ∷ xs) ys none = cc none

-- where no question is lacked, the table has each signature
answered_by : (entries : List Entry) (q : Question) (signature : List ℕ) (answer : Option (List ℕ)) → answer_to q entries ≡ answer
    → lacking q answer ++ [] ≡ [] → signature ≡ signature_in entries q → answer_to q entries ≡ Some signature
answered_by entries q signature None is none same = cc none
answered_by entries q signature (Some answer) is none same =
    let found : signature_in entries q ≡ answer = rw is refl in is ∙ ap Some (sym (same ∙ found))

signed_by_table : (entries : List Entry) (old new : State) (line : List ℕ) (says : Result SignatureAsked Reply) (reply : Reply)
    → lacked entries (asked_for says) ≡ [] → Applies (SignsWith entries) old line says ⊥ (Ok reply) new
    → Applies (SignsByTable (fresh_signer entries)) old line says ⊥ (Ok reply) new
signed_by_table entries old new line (Ok a) reply none (c, signed, entry, issued, after) = (
  c,
  (
    signed.0,
    signed.1,
    answered_by entries (question_for a) signed.0 (answer_to (question_for a) entries) refl none signed.2,
  ),
  entry,
  issued,
  after,
)
signed_by_table entries old new line (Err r) reply none applies = applies

run_by_table : (entries : List Entry) (issuer : SshBasePublicKey) (old new : State) (fresh : List ℕ) (lines : List (List ℕ))
    (replies : List Reply) → lacked entries (asked_questions entries issuer old fresh lines) ≡ []
    → Runs (SignsWith entries) issuer old fresh lines new replies
    → Runs (SignsByTable (fresh_signer entries)) issuer old fresh lines new replies
unfolding Step
run_by_table entries issuer old new fresh [] replies none runs = runs
run_by_table entries issuer old new fresh (line ∷ more) replies none (mid, reply, later, step, rest, are) =
    let says = judged_request_line (terms_by issuer fresh) old line in
    let next = after_request entries old line says in
    let both = both_none (lacked entries (asked_for says))
    (lacked entries (asked_questions entries issuer next (drop nonce_len fresh) more))
    (sym (lacked_append entries (asked_for says) (asked_questions entries issuer next (drop nonce_len fresh) more)) ∙ none) in
    let is : mid ≡ next = applied_is entries old mid line says reply step in (
      mid,
      reply,
      later,
      signed_by_table entries old mid line says reply both.0 step,
      run_by_table entries issuer mid new (drop nonce_len fresh) more later
          (ap (λ l. lacked entries (asked_questions entries issuer l (drop nonce_len fresh) more)) is ∙ both.1) rest,
      are,
    )

short_is : (l : State) (text : List ℕ) → ledger_written l ≡ Ok text → (text ≡ ledger_text l) × (length text < 2 ^ 32)
short_is l text is = elim (cases_Bool (is_short (ledger_text l))) [
  | inl short ↦
      let same : ledger_text l ≡ text = cc (rw short at is) in
      (sym same, subst (λ t. length t < 2 ^ 32) same (ltb-true (length (ledger_text l)) _ short))
  | inr long ↦ cc (rw long at is)
]

long_is : (l : State) → ledger_written l ≡ Err sizes.TooLong → 2 ^ 32 ≤ length (ledger_text l)
long_is l is = elim (cases_Bool (is_short (ledger_text l))) [
  | inl short ↦ cc (rw short at is)
  | inr long ↦ ltb-false (length (ledger_text l)) _ long
]

module _ (entries : List Entry) (key : LedgerAsked) (fresh : List ℕ) (new : State) (rest said qs : List ℕ)
    (answered : Answered (SignsWith entries) key.issuer.inner_key key.ledger fresh key.requests new rest [] said)
    (noted : Noted entries key.issuer.inner_key key.ledger fresh key.requests new rest [] qs) where
  asked_are : questions_in (record { entries = entries; given = key }) fresh ≡ noted.front
  asked_are = noted.whole ∙ append-nil noted.front

  runs_by_table : qs ≡ []
      → Runs (SignsByTable (fresh_signer entries)) key.issuer.inner_key key.ledger fresh key.requests new answered.replies
  unfolding asked_are
  runs_by_table none =
      let lacks_none : lacked entries noted.front ≡ [] = none_lacked (lacked entries noted.front) (sym noted.text ∙ none) in
      run_by_table entries key.issuer.inner_key key.ledger new fresh key.requests answered.replies
      (ap (lacked entries) (noted.whole ∙ append-nil noted.front) ∙ lacks_none)
      (subst (λ ls. Runs (SignsWith entries) key.issuer.inner_key key.ledger fresh ls new answered.replies)
      (sym (answered.whole ∙ append-nil answered.front)) answered.runs)

  replies_are : said ≡ replies_text key.requests answered.replies
  replies_are =
      answered.text ∙ ap (λ ls. replies_text ls answered.replies) (sym (answered.whole ∙ append-nil answered.front))

  pub written_comes : (result : Result Applied LedgerByError) → IsLedger key.ledger → qs ≡ [] → IsWritten new said result
      → Comes (record { entries = entries; given = key }) fresh result
  unfolding runs_by_table replies_are
  written_comes (Ok (rounds.Ledger text replies)) is none written =
      let runs = runs_by_table none in
      let short = short_is new text.items written.0 in
      record {
        new = new;
        answered = answered.replies;
        runs = runs;
        leaves =
            runs_leave (SignsByTable (fresh_signer entries)) key.issuer.inner_key key.ledger new fresh key.requests answered.replies is
            runs;
        short = short.1;
        text_is = short.0;
        replies_are = written.1 ∙ replies_are;
      }
  written_comes (Ok (rounds.Questions bytes)) is none written = absurd written
  written_comes (Err errors.TooLong) is none written =
      record { new = new; answered = answered.replies; runs = runs_by_table none; long = long_is new written }
  written_comes (Err errors.NoMemory) is none written = tt
  written_comes (Err errors.LedgerNotUtf8) is none written = absurd written
  written_comes (Err errors.IssuerNotUtf8) is none written = absurd written
  written_comes (Err errors.RequestsNotUtf8) is none written = absurd written
  written_comes (Err (errors.Answers e)) is none written = absurd written
  written_comes (Err (errors.Ledger e)) is none written = absurd written
  written_comes (Err (errors.Issuer e)) is none written = absurd written
  written_comes (Err errors.FreshTooShort) is none written = absurd written
  written_comes (Err errors.QuestionTooLong) is none written = absurd written

  pub lacked_come : (qs ≡ [] → ⊥) → AreLacked (record { entries = entries; given = key }) fresh qs
  unfolding asked_are
  lacked_come some =
      let same : lacked entries (questions_in (record { entries = entries; given = key }) fresh) ≡ lacked entries noted.front =
      ap (lacked entries) (noted.whole ∙ append-nil noted.front) in
      record {
        some = λ none. some (noted.text ∙ ap questions_text (sym same ∙ none));
        are = noted.text ∙ ap questions_text (sym same);
      }

-- ---- a caller whose answers are good

pub good_run : (signs : SignRelation) (entries : List Entry) (issuer : SshBasePublicKey) (old new : State) (fresh : List ℕ)
    (lines : List (List ℕ)) (replies : List Reply) → AreGood signs entries
    → Runs (SignsByTable (fresh_signer entries)) issuer old fresh lines new replies
    → Runs signs issuer old fresh lines new replies
unfolding Step
good_run signs entries issuer old new fresh [] replies good runs = runs
good_run signs entries issuer old new fresh (line ∷ more) replies good (mid, reply, later, step, rest, are) = (
  mid,
  reply,
  later,
  applies_for (SignsByTable (fresh_signer entries)) signs old mid line (judged_request_line (terms_by issuer fresh) old line) ⊥ reply
      good step,
  good_run signs entries issuer mid new (drop nonce_len fresh) more later good rest,
  are,
)
