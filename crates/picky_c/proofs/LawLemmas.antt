-- What is refused is answered as a refusal.
use Rattle.std.proofs.Common.{◌≡◌, ℕ, List, Ok, Err, refl}
use Rattle.picky_wire_base.specs.Outcome.{map_err}
use Rattle.picky_key_text.specs.{Order.{reading}, Reader.{Reader}}
use Rattle.picky_key_text.specs.declared.error.ReadError.{ReadError}
use Rattle.picky_target.specs.{Written.{written}, declared.target.KeyTarget.{KeyTarget}}
use Rattle.picky_target.specs.declared.error.ConvertError.{ConvertError}
use Rattle.picky_conversion.specs.{Convert.{conversion}, Outside.{Outside, reader}}
use Rattle.picky_conversion.proofs.JudgedLemmas.{IsOwnConvert, input_is_own, mapped_is, next_is, written_is_own}
use Rattle.picky_sshkey_blob.specs.declared.error.SshPrivateKeyError.{SshPrivateKeyError}
use Rattle.picky_sshkey_blob.specs.declared.error.SshPrivateKeyError.TheVariants as private
use Rattle.picky_ppk_parts.specs.declared.error.PuttyError.{PuttyError}
use Rattle.picky_ppk_parts.specs.declared.error.PuttyError.TheVariants as putty
use Rattle.picky_key_text.specs.declared.error.ReadError.TheVariants as input
use Rattle.picky_target.specs.declared.error.ConvertError.TheVariants as errors
use Rattle.picky_c.specs.Refusal.{refusal_of}
use Rattle.picky_c.specs.Number.{IsAnswered}
use Rattle.picky_c.specs.declared.error.PickyError.TheVariants as calls

pub own_is_answered : (e : ConvertError) → IsOwnConvert e → IsAnswered e
own_is_answered e own = record { no_memory = own.0; no_fault = own.1 }

pub reading_answered : (r : Reader) (text : List ℕ) (e : ReadError) → reading r text ≡ Err e → IsAnswered (errors.Input e)
reading_answered r text e is = own_is_answered (errors.Input e) (input_is_own r text e is)

pub conversion_answered : (o : Outside) (to : KeyTarget) (from : List ℕ) (e : ConvertError) → conversion o to from ≡ Err e → IsAnswered e
unfolding conversion
conversion_answered o to from e is =
    next_is IsAnswered (map_err errors.Input (reading (reader o) from)) (written o.meanings o.output to) e
    (λ f was. mapped_is IsAnswered errors.Input (reading (reader o) from) f (reading_answered (reader o) from) was)
    (λ meaning f was other. own_is_answered f (written_is_own o.meanings o.output to meaning f other)) is

private_input : (e : SshPrivateKeyError) → (e ≡ private.SuiteFault → ⊥)
    → refusal_of (errors.Input (input.Private e)) ≡ calls.Refused (errors.Input (input.Private e))
private_input private.SuiteFault other = absurd (other refl)
private_input e other = refl

putty_input : (e : PuttyError) → (e ≡ putty.SuiteFault → ⊥)
    → refusal_of (errors.Input (input.Putty e)) ≡ calls.Refused (errors.Input (input.Putty e))
putty_input putty.SuiteFault other = absurd (other refl)
putty_input e other = refl

private_output : (e : SshPrivateKeyError) → (e ≡ private.SuiteFault → ⊥) → refusal_of (errors.Private e) ≡ calls.Refused (errors.Private e)
private_output private.SuiteFault other = absurd (other refl)
private_output e other = refl

putty_output : (e : PuttyError) → (e ≡ putty.SuiteFault → ⊥) → refusal_of (errors.Putty e) ≡ calls.Refused (errors.Putty e)
putty_output putty.SuiteFault other = absurd (other refl)
putty_output e other = refl

input_kept : (e : ReadError) → IsAnswered (errors.Input e) → refusal_of (errors.Input e) ≡ calls.Refused (errors.Input e)
input_kept (input.Private e) is = private_input e is.no_fault
input_kept (input.Public e) is = refl
input_kept (input.Certificate e) is = refl
input_kept (input.Putty e) is = putty_input e is.no_fault
input_kept input.NoMemory is = refl

pub refusal_kept : (e : ConvertError) → IsAnswered e → refusal_of e ≡ calls.Refused e
refusal_kept (errors.Input e) is = input_kept e is
refusal_kept (errors.Issuer e) is = refl
refusal_kept (errors.Request e) is = refl
refusal_kept errors.NoPrivateKey is = refl
refusal_kept errors.CommentNotCarried is = refl
refusal_kept (errors.Private e) is = private_output e is.no_fault
refusal_kept (errors.Putty e) is = putty_output e is.no_fault
refusal_kept errors.FreshTooShort is = refl
refusal_kept errors.TooLong is = refl
refusal_kept errors.TooManyLines is = refl
refusal_kept errors.NoMemory is = absurd (is.no_memory refl)
