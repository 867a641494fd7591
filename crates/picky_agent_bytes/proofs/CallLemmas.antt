-- What the calls answer.
use Rattle.std.proofs.Common.{◌≡◌, ◌⊎◌, ◌<◌, ◌≤◌, ◌-◌, ◌∙◌, ◌^◌, ◌++◌, ℕ, Bool, true, false, List, [], ◌∷◌, length, min, get_or, inl, inr, refl, sym, ap, subst, arith}
use Rattle.std.specs.Prelude.{nat_lt, if◌then◌else◌, None, Some, Ok, Err}
use Rattle.std.proofs.lemmas.Bool.{ltb-true}
use Rattle.std.proofs.lemmas.Option.{get_or_from_slice_get}
use Rattle.std.specs.Int.{w32, to_be_bytes}
use Rattle.std.proofs.lemmas.List.{length-append}
use Rattle.picky_wire_base.specs.Wire.{string_of}
use Rattle.picky_wire_base.proofs.PieceLemmas.{length-string_of}
use Rattle.picky_keys.specs.Blob.{blob_of}
use Rattle.picky_keys.specs.declared.algorithm.SignatureAlgorithm.{SignatureAlgorithm}
use Rattle.picky_cert_parts.specs.declared.signature_format.SshSignatureFormat.{SshSignatureFormat}
use Rattle.picky_cert_parts.specs.CertNames.{format_name}
use Rattle.picky_agent_bytes.specs.AlgorithmName.{algorithm_name}
use Rattle.picky_wire_base.specs.declared.error.SizeError.TheVariants as sizes
use Rattle.picky_suite.specs.Signs.{HandedSignerState, SignsAsHanded}
use Rattle.picky_keys.specs.declared.key.SshBasePublicKey.{SshBasePublicKey}
use Rattle.picky_sshkey_blob.specs.Key.{public_part}
use Rattle.picky_agent_state.specs.declared.identity.Identity.{Identity}
use Rattle.picky_agent_state.specs.declared.question.Question.{Question}
use Rattle.picky_agent_state.specs.Held.{IsAt}
use Rattle.picky_agent_state.specs.Keep.{keep_limit}
use Rattle.picky_agent_state.specs.Kept.{Kept, Machine, machine}
use Rattle.picky_agent_state.specs.Question.{IsQuestionOn}
use Rattle.picky_agent_state.specs.Request.{Request, Identities, Sign, Add, Remove, RemoveAll, Lock, Unlock, Unfit}
use Rattle.picky_agent_state.specs.Step.{Step}
use Rattle.picky_agent_bytes.specs.Call.{HandedStep, IsAskedOn, IsReply, handed, question_of}
use Rattle.picky_agent_bytes.specs.State.{state_of, written}

-- ---- a question

held_has : (key : SshBasePublicKey) (identities : List Identity) (place : ℕ) (held : Identity) → IsAt key identities place
    → held ≡ get_or identities place held → public_part held.key ≡ key
held_has key identities place held at is =
    ap (λ (i : Identity). public_part i.key) (is ∙ get_or_from_slice_get identities place at.identity held at.stands) ∙ at.has

pub question_asked : (kept : Kept) (request : Request) (question : Question) (identity : Identity) (bytes : List ℕ)
    → IsQuestionOn kept request question → identity ≡ get_or kept.identities question.place identity
    → bytes ≡ question_of (public_part identity.key) question.place question.algorithm question.format question.message.now
    → IsAskedOn kept request bytes
question_asked kept (Sign asked) question identity bytes asks is are = record {
  question = question;
  asks = asks;
  are = are ∙ ap (λ (k : SshBasePublicKey). question_of k question.place question.algorithm question.format question.message.now)
      (held_has asked.key kept.identities question.place identity asks.is_at is);
}
question_asked kept Identities question identity bytes asks is are = asks
question_asked kept (Add added) question identity bytes asks is are = asks
question_asked kept (Remove key) question identity bytes asks is are = asks
question_asked kept RemoveAll question identity bytes asks is are = asks
question_asked kept (Lock pass) question identity bytes asks is are = asks
question_asked kept (Unlock pass) question identity bytes asks is are = asks
question_asked kept Unfit question identity bytes asks is are = asks

-- its bytes are more than the key's blob and the message are
pub long_question : (key : SshBasePublicKey) (place : ℕ) (algorithm : SignatureAlgorithm) (format : SshSignatureFormat) (message : List ℕ)
    → (2 ^ 32 ≤ length (blob_of key)) ⊎ (2 ^ 32 ≤ length message) → 2 ^ 32 ≤ length (question_of key place algorithm format message)
unfolding question_of
long_question key place algorithm format message long =
    let p = to_be_bytes w32 place in
    let b = string_of (blob_of key) in
    let a = string_of (algorithm_name algorithm) in
    let f = string_of (format_name format) in
    let m = string_of message in
    let one = length-append p (b ++ (a ++ (f ++ (m ++ [])))) in
    let two = length-append b (a ++ (f ++ (m ++ []))) in
    let three = length-append a (f ++ (m ++ [])) in
    let four = length-append f (m ++ []) in
    let five = length-append m [] in
    let blob = length-string_of (blob_of key) in
    let own = length-string_of message in
    elim long [
      | inl blob_long ↦ omega (arith, one, two, three, four, five, blob, own, blob_long)
      | inr message_long ↦ omega (arith, one, two, three, four, five, blob, own, message_long)
    ]

-- ---- a reply

no_faults : (signature : List ℕ) → min (handed signature).faults (2 ^ 64 - 1) ≡ 0
no_faults [] = refl
no_faults (b ∷ bytes) = refl

pub reply_step : (signer : HandedSignerState) (signature : List ℕ) (kept : Kept) (message reply : List ℕ) (new : Machine)
    → signer ≡ handed signature
    → Step (SignsAsHanded signer) (machine kept (min signer.faults (2 ^ 64 - 1))) message reply new
    → HandedStep signature kept message reply new
reply_step signer signature kept message reply new is step =
    subst (λ (n : ℕ). Step (SignsAsHanded (handed signature)) (machine kept n) message reply new) (no_faults signature)
    (subst (λ (s : HandedSignerState). Step (SignsAsHanded s) (machine kept (min s.faults (2 ^ 64 - 1))) message reply new) is step)

pub unsigned_reply : (signer : HandedSignerState) (signature : List ℕ) (kept : Kept) (message reply : List ℕ) (new : Machine)
    → signature ≡ [] → signer ≡ record { signature = None; faults = 0 }
    → Step (SignsAsHanded signer) (machine kept (min signer.faults (2 ^ 64 - 1))) message reply new
    → IsReply kept message signature reply
unsigned_reply signer signature kept message reply new none is step = subst (λ (s : List ℕ). IsReply kept message s reply) (sym none) (record {
  new = new;
  step = reply_step signer [] kept message reply new is step;
  calm = λ some. absurd (omega (arith, some));
})

pub given_reply : (signature : List ℕ) (kept : Kept) (message reply : List ℕ) (new : Kept) → 0 < length signature
    → Step (SignsAsHanded (record { signature = Some signature; faults = 0 })) (machine kept 0) message reply (machine new 0)
    → IsReply kept message signature reply
given_reply [] kept message reply new some step = absurd (omega (arith, some))
given_reply (b ∷ bytes) kept message reply new some step =
    record { new = machine new 0; step = step; calm = λ _. refl }

-- ---- a state that is written

pub written_is : (kept : Kept) (bytes : List ℕ) → written kept ≡ Ok bytes → state_of kept ≡ bytes
written_is kept bytes is = go (nat_lt keep_limit (length (state_of kept))) is
  where
    go : (b : Bool) → (if b then Err sizes.TooLong else Ok (state_of kept)) ≡ Ok bytes → state_of kept ≡ bytes
    go true is' = cc is'
    go false is' = cc is'

pub written_long : (kept : Kept) → written kept ≡ Err sizes.TooLong → keep_limit < length (state_of kept)
written_long kept is = go (nat_lt keep_limit (length (state_of kept))) refl is
  where
    go : (b : Bool) → nat_lt keep_limit (length (state_of kept)) ≡ b
        → (if b then Err sizes.TooLong else Ok (state_of kept)) ≡ Err sizes.TooLong → keep_limit < length (state_of kept)
    go true same is' = ltb-true keep_limit (length (state_of kept)) same
    go false same is' = cc is'
