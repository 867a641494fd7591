-- The questions of requests at a ledger: each for the signature of a certificate that one of them asks for; and those that a table
-- doesn't answer.
use Rattle.std.specs.Prelude.{◌≡◌, ℕ, List, [], ◌∷◌, ◌++◌, Option, Some, None, Result, Ok, Err, drop, flat_map, unwrap_or}
use Rattle.picky_wire_base.specs.Wire.{string_of}
use Rattle.picky_keys.specs.Key.{public_key_of}
use Rattle.picky_keys.specs.declared.key.SshBasePublicKey.{SshBasePublicKey}
use Rattle.picky_suite.specs.Signs.{SignRelation}
use Rattle.picky_ask.specs.Lookup.{answer_to}
use Rattle.picky_ask.specs.Question.{question_of}
use Rattle.picky_ask.specs.Signing.{sign_question}
use Rattle.picky_ask.specs.declared.question.Entry.{Entry}
use Rattle.picky_ask.specs.declared.question.Question.{Question}
use Rattle.picky_cert.specs.Spelled.{signed_of}
use Rattle.picky_cert_builder.specs.Draft.{signed_with}
use Rattle.picky_ledger.specs.Apply.{SignatureAsked, added, judged_request_line}
use Rattle.picky_ledger.specs.Entry.{entry_of}
use Rattle.picky_ledger.specs.Runs.{nonce_len, terms_by}
use Rattle.picky_ledger.specs.State.{State}
use Rattle.picky_ledger.specs.declared.reply.Reply.{Reply}

-- the question for the signature of a certificate, by its issuer
abbrev pub question_for : SignatureAsked → Question
question_for a =
    sign_question (public_key_of a.unsigned.certificate.signature_key.inner_key) a.unsigned.algorithm
    (signed_of a.unsigned.certificate)

-- the table's answer; no bytes where it has none
abbrev pub signature_in : List Entry → Question → List ℕ
signature_in entries q = unwrap_or (answer_to q entries) []

-- a signature is the table's answer, or no bytes where it has none
abbrev pub SignsWith : List Entry → SignRelation
SignsWith entries key algorithm message signature = signature ≡ signature_in entries (sign_question key algorithm message)

-- ---- one request

-- the question of a request of which this is judged, where it is to be signed
abbrev pub asked_for : Result SignatureAsked Reply → List Question
asked_for (Ok a) = question_for a ∷ []
asked_for (Err reply) = []

-- the ledger after it, whose new entry has no signature where the table has none
abbrev pub after_request : List Entry → State → (line : List ℕ) → Result SignatureAsked Reply → State
after_request entries l line (Ok a) =
    added l (entry_of a.id line (signed_with a.unsigned.certificate (signature_in entries (question_for a))))
after_request entries l line (Err reply) = l

-- ---- requests one after another, each judged at the ledger after those before it

abbrev pub asked_questions : List Entry → SshBasePublicKey → State → (fresh : List ℕ) → (lines : List (List ℕ)) → List Question
asked_questions entries issuer l fresh [] = []
asked_questions entries issuer l fresh (line ∷ more) =
    asked_for (judged_request_line (terms_by issuer fresh) l line)
    ++ asked_questions entries issuer (after_request entries l line (judged_request_line (terms_by issuer fresh) l line))
    (drop nonce_len fresh) more

-- ---- those that the table doesn't answer

abbrev pub lacking : Question → Option (List ℕ) → List Question
lacking q None = q ∷ []
lacking q (Some answer) = []

abbrev pub lacked : List Entry → List Question → List Question
lacked entries [] = []
lacked entries (q ∷ qs) = lacking q (answer_to q entries) ++ lacked entries qs

-- questions as bytes, each a string
abbrev pub questions_text : List Question → List ℕ
questions_text qs = flat_map (λ q. string_of (question_of q)) qs
