-- One request line: its question, its signature and its reply.
use Rattle.std.proofs.Common.{◌≡◌, ◌⊎◌, ◌++◌, ◌∙◌, ◌≤◌, ◌^◌, arith, length, ℕ, List, [], ◌∷◌, Option, Some, None, Result, Ok, Err, IsUtf8, ap, refl, sym, subst, inl, inr}
use Rattle.std.proofs.lemmas.List.{append-nil, length-append}
use Rattle.std.specs.Int.{to_be_bytes, w32}
use Rattle.std.specs.List.{before_first}
use Rattle.picky_wire_base.specs.Wire.{string_of}
use Rattle.picky_keys.specs.Key.{public_key_of}
use Rattle.picky_keys.specs.PrivateKey.{issuer_key}
use Rattle.picky_keys.specs.declared.key.SshBasePublicKey.{SshBasePublicKey}
use Rattle.picky_suite.specs.Signs.{HandedSignerState, SignsAsHanded}
use Rattle.picky_ask.specs.Head.{head_of}
use Rattle.picky_ask.specs.Lookup.{answer_to}
use Rattle.picky_ask.specs.Question.{question_of}
use Rattle.picky_ask.specs.Signing.{SignerFailsFor, SignerState, fresh_signer, sign_question}
use Rattle.picky_ask.specs.State.{IsTooLong}
use Rattle.picky_ask.specs.declared.missing.Missing.{Missing}
use Rattle.picky_ask.specs.declared.missing.Missing.TheVariants as missings
use Rattle.picky_ask.specs.declared.question.Entry.{Entry}
use Rattle.picky_ask.specs.declared.question.Question.{Question}
use Rattle.picky_cert.specs.Spelled.{signed_of}
use Rattle.picky_cert_builder.specs.Draft.{Unsigned}
use Rattle.picky_cert_builder.specs.Drafted.{IsWholeDraft, draft_shown}
use Rattle.picky_cert_builder.specs.declared.draft.CertificateDraft.{CertificateDraft}
use Rattle.picky_request.specs.Request.{is_space}
use Rattle.picky_ledger.specs.Apply.{Applies, SignatureAsked, judged_request_line}
use Rattle.picky_ledger.specs.Replies.{id_in, reply_line}
use Rattle.picky_ledger.specs.State.{State}
use Rattle.picky_ledger.specs.declared.reply.Reply.{Reply}
use Rattle.picky_ledger.proofs.RequestLemmas.{applies_for, line_answers}
use Rattle.picky_ledger_by.specs.Applied.{IsNotAsked}
use Rattle.picky_ledger_by.specs.Lacked.{SignsWith, asked_for, lacked, question_for, questions_text, signature_in}
use Rattle.picky_ledger_by.specs.declared.apply.LedgerByError.{LedgerByError}
use Rattle.picky_ledger_by.specs.declared.apply.LedgerByError.TheVariants as errors
use Rattle.picky_ledger_by.specs.inner.Line.{AnswersLine, EntersLine, IsDraftFor, IsSignatureFor, LooksUp, StopsFor}

-- ---- how a lookup fails

abbrev pub FailsToSign : Question → (old new : SignerState) → Type 0
FailsToSign q old new =
    ((answer_to q old.entries ≡ None) × SignerFailsFor (missings.Asked q) old new)
    ⊎ (IsTooLong q × SignerFailsFor missings.TooLong old new)

pub asked_is : (q r : Question) (entries : List Entry) (old new : SignerState) (missing : Option Missing) → old ≡ fresh_signer entries
    → FailsToSign q old new → missing ≡ new.missing → missing ≡ Some (missings.Asked r)
    → (answer_to q entries ≡ None) × (r ≡ q)
asked_is q r entries old new missing start (inl (none, fails)) is asks =
    let both : Some (missings.Asked r) ≡ Some (missings.Asked q) = sym asks ∙ is ∙ ap (λ (s : SignerState). s.missing) fails in
    (ap (λ (s : SignerState). answer_to q s.entries) (sym start) ∙ none, cc both)
asked_is q r entries old new missing start (inr (long, fails)) is asks =
    let both : Some (missings.Asked r) ≡ Some missings.TooLong = sym asks ∙ is ∙ ap (λ (s : SignerState). s.missing) fails in
    cc both

pub too_long_is : (q : Question) (old new : SignerState) (missing : Option Missing) → FailsToSign q old new → missing ≡ new.missing
    → missing ≡ Some missings.TooLong → IsTooLong q
too_long_is q old new missing (inl (none, fails)) is asks =
    let both : Some missings.TooLong ≡ Some (missings.Asked q) = sym asks ∙ is ∙ ap (λ (s : SignerState). s.missing) fails in
    cc both
too_long_is q old new missing (inr (long, fails)) is asks = long

-- ---- the question of a draft

abbrev pub draft_question : CertificateDraft → Question
draft_question d = sign_question (issuer_key d.issuer) d.algorithm d.message

question_is : (a : SignatureAsked) (d : CertificateDraft) → a.unsigned ≡ draft_shown d → IsWholeDraft d
    → draft_question d ≡ question_for a
question_is a d same whole =
    ap (λ k. sign_question k d.algorithm d.message) whole.issuer
    ∙ ap (λ m. sign_question (public_key_of d.certificate.signature_key.inner_key) d.algorithm m) whole.message
    ∙ ap
    (λ (u : Unsigned). sign_question (public_key_of u.certificate.signature_key.inner_key) u.algorithm (signed_of u.certificate))
    (sym same)

-- ---- the signature

abbrev pub Finds : List Entry → Result SignatureAsked Reply → (before after signature : List ℕ) → Type 0
Finds entries says before after signature =
    IsSignatureFor entries says signature × (after ≡ before ++ questions_text (lacked entries (asked_for says)))

-- of a question that is answered
found_by : (entries : List Entry) (q : Question) (answer : Option (List ℕ)) (signature before : List ℕ) → answer_to q entries ≡ answer
    → answer ≡ Some signature
    → (signature ≡ signature_in entries q) × (before ≡ before ++ questions_text (lacked entries (q ∷ [])))
found_by entries q answer signature before is some =
    let whole : answer_to q entries ≡ Some signature = is ∙ some in
    (rw whole refl, rw whole (sym (append-nil before)))

pub given_finds : (entries : List Entry) (says : Result SignatureAsked Reply) (d : CertificateDraft) (signature before : List ℕ)
    → IsDraftFor says (Some d) → answer_to (draft_question d) entries ≡ Some signature → Finds entries says before before signature
given_finds entries (Ok a) d signature before drafted is =
    found_by entries (question_for a) (Some signature) signature before
    (ap (λ q. answer_to q entries) (sym (question_is a d drafted.0 drafted.1)) ∙ is) refl
given_finds entries (Err reply) d signature before drafted is = absurd drafted

-- and of one that isn't
lacked_by : (entries : List Entry) (q r : Question) (before after : List ℕ) → answer_to q entries ≡ None → r ≡ q
    → after ≡ before ++ string_of (question_of r)
    → ([] ≡ signature_in entries q) × (after ≡ before ++ questions_text (lacked entries (q ∷ [])))
lacked_by entries q r before after none same added = (
  rw none refl,
  rw none (added ∙ ap (λ s. before ++ string_of (question_of s)) same
      ∙ ap (λ l. before ++ l) (sym (append-nil (string_of (question_of q))))),
)

pub lacking_finds : (entries : List Entry) (says : Result SignatureAsked Reply) (d : CertificateDraft) (r : Question)
    (before after signature : List ℕ) → IsDraftFor says (Some d) → answer_to (draft_question d) entries ≡ None → r ≡ draft_question d
    → after ≡ before ++ string_of (question_of r) → signature ≡ [] → Finds entries says before after signature
lacking_finds entries (Ok a) d r before after signature drafted none same added empty =
    let is = question_is a d drafted.0 drafted.1 in
    let found = lacked_by entries (question_for a) r before after (ap (λ q. answer_to q entries) (sym is) ∙ none) (same ∙ is) added in
    (empty ∙ found.0, found.1)
lacking_finds entries (Err reply) d r before after signature drafted none same added empty = absurd drafted

-- nothing is to be signed
pub none_finds : (entries : List Entry) (says : Result SignatureAsked Reply) (before signature : List ℕ) → IsDraftFor says None
    → Finds entries says before before signature
none_finds entries (Ok a) before signature none = absurd none
none_finds entries (Err reply) before signature none = (tt, sym (append-nil before))

-- a question that can't be asked
pub lookup_stops : (entries : List Entry) (says : Result SignatureAsked Reply) (d : CertificateDraft) (e : LedgerByError)
    → IsDraftFor says (Some d) → LooksUp entries (draft_question d) (Err e) → StopsFor says e
lookup_stops entries (Ok a) d errors.NoMemory drafted looks = inl refl
lookup_stops entries (Ok a) d errors.QuestionTooLong drafted looks =
    inr (refl, inl (subst IsTooLong (question_is a d drafted.0 drafted.1) looks))
lookup_stops entries (Ok a) d errors.LedgerNotUtf8 drafted looks = absurd looks
lookup_stops entries (Ok a) d errors.IssuerNotUtf8 drafted looks = absurd looks
lookup_stops entries (Ok a) d errors.RequestsNotUtf8 drafted looks = absurd looks
lookup_stops entries (Ok a) d (errors.Answers f) drafted looks = absurd looks
lookup_stops entries (Ok a) d (errors.Ledger f) drafted looks = absurd looks
lookup_stops entries (Ok a) d (errors.Issuer f) drafted looks = absurd looks
lookup_stops entries (Ok a) d errors.FreshTooShort drafted looks = absurd looks
lookup_stops entries (Ok a) d errors.TooLong drafted looks = absurd looks
lookup_stops entries (Err reply) d e drafted looks = absurd drafted

pub push_stops : (says : Result SignatureAsked Reply) (d : CertificateDraft) (r : Question) (e : LedgerByError)
    → IsDraftFor says (Some d) → r ≡ draft_question d
    → (e ≡ errors.NoMemory) ⊎ ((e ≡ errors.QuestionTooLong) × IsNotAsked r) → StopsFor says e
push_stops (Ok a) d r e drafted same (inl want) = inl want
push_stops (Ok a) d r e drafted same (inr long) =
    inr (long.0, subst IsNotAsked (same ∙ question_is a d drafted.0 drafted.1) long.1)
push_stops (Err reply) d r e drafted same why = absurd drafted

-- a head that is too long
pub long_head : (q : Question) → 2 ^ 32 ≤ length (head_of q.head) → 2 ^ 32 ≤ length (question_of q)
unfolding question_of string_of
long_head q long =
    let head : List ℕ = head_of q.head in
    let front : List ℕ = to_be_bytes w32 (length head) in
    omega (arith, long, length-append front head, length-append (front ++ head) (string_of q.text))

-- ---- the reply

handed_is : (signer : HandedSignerState) (signature s : List ℕ) → signer ≡ record { signature = Some signature; faults = 0 }
    → signer.signature ≡ Some s → s ≡ signature
handed_is signer signature s is good =
    let both : Some signature ≡ Some s = ap (λ (d : HandedSignerState). d.signature) (sym is) ∙ good in sym (cc both)

pub handed_enters : (signer : HandedSignerState) (signature : List ℕ) (issuer : SshBasePublicKey) (nonce : List ℕ) (old new : State)
    (line : List ℕ) (rose : Type 0) (reply : Reply) (before after : List ℕ)
    → signer ≡ record { signature = Some signature; faults = 0 } → IsUtf8 line
    → Applies (SignsAsHanded signer) old line (judged_request_line (record { issuer = issuer; nonce = nonce }) old line) rose (Ok reply)
    new
    → after ≡ before ++ reply_line (before_first is_space line) reply
    → (r : Reply) × Applies (λ k a m s. s ≡ signature) old line
    (judged_request_line (record { issuer = issuer; nonce = nonce }) old line) ⊥ (Ok r) new
    × (after ≡ before ++ reply_line (id_in line) r)
handed_enters signer signature issuer nonce old new line rose reply before after is utf8 applies added =
    let found = line_answers (SignsAsHanded signer) issuer nonce nonce old new line rose reply before after utf8 refl applies added in (
      found.0,
      applies_for (SignsAsHanded signer) (λ k a m s. s ≡ signature) old new line
          (judged_request_line (record { issuer = issuer; nonce = nonce }) old line) ⊥ found.0
          (λ k a m s. handed_is signer signature s is) found.1,
      found.2,
    )

signed_by : (entries : List Entry) (old new : State) (line : List ℕ) (says : Result SignatureAsked Reply) (signature : List ℕ)
    (reply : Reply) → IsSignatureFor entries says signature → Applies (λ k a m s. s ≡ signature) old line says ⊥ (Ok reply) new
    → Applies (SignsWith entries) old line says ⊥ (Ok reply) new
signed_by entries old new line (Ok a) signature reply is (c, signed, entry, issued, after) =
    (c, (signed.0, signed.1, signed.2 ∙ is), entry, issued, after)
signed_by entries old new line (Err r) signature reply is applies = applies

pub line_is_answered : {A : Type 0} (entries : List Entry) (issuer : SshBasePublicKey) (nonce fresh : List ℕ) (old new : State)
    (line signature questions more_questions replies more_replies : List ℕ) (done : A) → nonce ≡ fresh
    → Finds entries (judged_request_line (record { issuer = issuer; nonce = nonce }) old line) questions more_questions signature
    → EntersLine signature (record { issuer = issuer; nonce = nonce }) old line replies more_replies (Ok done) new
    → AnswersLine entries (record { issuer = issuer; nonce = fresh }) old line questions more_questions replies more_replies (Ok done)
    new
line_is_answered entries issuer nonce fresh old new line signature questions more_questions replies more_replies done same finds
    enters =
    subst
    (λ n. AnswersLine entries (record { issuer = issuer; nonce = n }) old line questions more_questions replies more_replies (Ok done)
    new) same (
      enters.0,
      signed_by entries old new line (judged_request_line (record { issuer = issuer; nonce = nonce }) old line) signature enters.0
          finds.0 enters.1,
      enters.2,
      finds.1,
    )

pub line_stops : (issuer : SshBasePublicKey) (nonce fresh : List ℕ) (old : State) (line : List ℕ) (e : LedgerByError) → nonce ≡ fresh
    → StopsFor (judged_request_line (record { issuer = issuer; nonce = nonce }) old line) e
    → StopsFor (judged_request_line (record { issuer = issuer; nonce = fresh }) old line) e
line_stops issuer nonce fresh old line e same stops =
    subst (λ n. StopsFor (judged_request_line (record { issuer = issuer; nonce = n }) old line) e) same stops
