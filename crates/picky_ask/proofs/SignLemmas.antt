-- A call that looks up a signature is a call of a signer.
use Rattle.std.proofs.Common.{◌≡◌, ◌∙◌, ◌-◌, ◌^◌, ◌≤◌, List, ℕ, Bool, true, false, length, refl, sym, ap, subst, inl, inr, arith}
use Rattle.std.specs.Prelude.{◌↔◌, ◌⊎◌, if◌then◌else◌, min, Result, Ok, Err}
use Rattle.picky_wire.specs.Count.{count_one}
use Rattle.picky_wire_base.specs.carried.Outcome.{passed_ok}
use Rattle.picky_keys.specs.Blob.{blob_of}
use Rattle.picky_keys.specs.LineRefusal.{blob_bytes, is_short}
use Rattle.picky_keys.specs.declared.error.SshPublicKeyError.{SshPublicKeyError}
use Rattle.picky_keys.specs.declared.error.SshPublicKeyError.TheVariants as blob_errors
use Rattle.picky_keys.specs.declared.algorithm.SignatureAlgorithm.{SignatureAlgorithm}
use Rattle.picky_keys.specs.declared.key.SshBasePublicKey.{SshBasePublicKey}
use Rattle.picky_keys.specs.declared.public_key.PublicKey.{PublicKey}
use Rattle.picky_suite.specs.Signs.{Signs}
use Rattle.picky_suite.specs.declared.signer.SignError.{SignError}
use Rattle.picky_suite.specs.declared.signer.SignError.TheVariants as errors
use Rattle.picky_ask.specs.declared.question.Question.{Question}
use Rattle.picky_ask.specs.Lookup.{answer_to}
use Rattle.picky_ask.specs.Signing.{LooksUpSignature, SignerState, SignsByTable, sign_question}

-- the bytes of a blob are the key's
pub blob_is : (key : SshBasePublicKey) (bytes : List ℕ) → blob_bytes key ≡ Ok bytes → bytes ≡ blob_of key
unfolding blob_bytes
blob_is key bytes is = sym (passed_ok _ _ (blob_of key) bytes is).1

-- a blob that is too long is refused
long_test : (b : Bool) (x : List ℕ) → (if b then Ok x else Err blob_errors.TooLong) ≡ Err blob_errors.TooLong → b ≡ false
long_test true x is = cc is
long_test false x is = refl

blob_long : (key : SshBasePublicKey) → blob_bytes key ≡ Err blob_errors.TooLong → 2 ^ 32 ≤ length (blob_of key)
unfolding blob_bytes
blob_long key is = grind (arith, long_test (is_short (blob_of key)) (blob_of key) is)

pub refused_long : (key made : SshBasePublicKey) (e : SshPublicKeyError) → key ≡ made → e ≡ blob_errors.TooLong
    → (e ≡ blob_errors.NoMemory) ⊎ (blob_bytes key ≡ Err e) → 2 ^ 32 ≤ length (blob_of made)
refused_long key made e same long (inl other) =
    let both : blob_errors.TooLong ≡ blob_errors.NoMemory = sym long ∙ other in cc both
refused_long key made e same long (inr is) =
    subst (λ (k : SshBasePublicKey). 2 ^ 32 ≤ length (blob_of k)) same
    (blob_long key (is ∙ ap (λ (x : SshPublicKeyError). Err x) long))

good_stays : (old new : SignerState) → new.entries ≡ old.entries → (k : PublicKey) (a : SignatureAlgorithm) (m s : List ℕ)
    → SignsByTable new k a m s ↔ SignsByTable old k a m s
good_stays old new kept k a m s =
    (λ good. ap (answer_to (sign_question k a m)) (sym kept) ∙ good, λ good. ap (answer_to (sign_question k a m)) kept ∙ good)

-- a call that fails leaves the table, and counts one fault
failed_so : (q : Question) (old new : SignerState) → LooksUpSignature q (Err errors.Failed) old new
    → (new.entries ≡ old.entries) × (new.faults ≡ count_one old.faults)
failed_so q old new (inl so) = (ap (λ (s : SignerState). s.entries) so.1, ap (λ (s : SignerState). s.faults) so.1)
failed_so q old new (inr so) = (ap (λ (s : SignerState). s.entries) so.1, ap (λ (s : SignerState). s.faults) so.1)

pub looks_signs : (key : PublicKey) (algorithm : SignatureAlgorithm) (message : List ℕ) (result : Result (List ℕ) SignError)
    (old new : SignerState) → LooksUpSignature (sign_question key algorithm message) result old new
    → Signs SignsByTable (λ s. min s.faults (2 ^ 64 - 1)) key algorithm message result old new
looks_signs key algorithm message (Ok signature) old new looks = record {
  kept = good_stays old new (ap (λ (s : SignerState). s.entries) looks.1);
  signed = looks.0;
  counted = λ other. cc other;
  calm = ap (λ (s : SignerState). min s.faults (2 ^ 64 - 1)) looks.1;
  unchanged = λ other. cc other;
}
looks_signs key algorithm message (Err errors.Failed) old new looks =
    let so = failed_so (sign_question key algorithm message) old new looks in
    record {
      kept = good_stays old new so.0;
      signed = tt;
      counted = λ _. omega (arith, so.1);
      calm = tt;
      unchanged = λ other. cc other;
    }
looks_signs key algorithm message (Err errors.NoMemory) old new looks = record {
  kept = good_stays old new (ap (λ (s : SignerState). s.entries) looks);
  signed = tt;
  counted = λ other. cc other;
  calm = tt;
  unchanged = λ _. looks;
}
