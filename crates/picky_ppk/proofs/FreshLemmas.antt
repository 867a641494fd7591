-- Lemmas on what a generator gives for a file.
use Rattle.std.proofs.Common.{◌≡◌, ◌<◌, ◌∙◌, ℕ, zero, suc, List, true, false, ap, sym, refl, subst, arith, Result, Err}
use Rattle.rand_core.specs.Stream.{Stream, fill_bytes}
use Rattle.picky_suite.specs.Meanings.{Meanings}
use Rattle.picky_suite.specs.Asked.{GivesAsked}
use Rattle.picky_ppk_parts.specs.declared.config.PpkEncryptionConfig.{PpkEncryptionConfig}
use Rattle.picky_ppk_parts.specs.declared.error.PuttyError.{PuttyError}
use Rattle.picky_ppk_parts.specs.declared.error.PuttyError.TheVariants as errors
use Rattle.picky_ppk_file.specs.declared.file.PpkFile.{PpkFile}
use Rattle.picky_ppk_file.specs.File.{version_of}
use Rattle.picky_ppk.specs.Sealed.{padding_len, encrypted, file_to_seal, is_sealable}
use Rattle.picky_ppk.specs.Fresh.{drawn, salt_len, Fresh, fresh_for, can_draw, not_drawn, encrypted_fresh, asks_fresh}

-- The generator is asked for some bytes.
pub drawn_some : (n : ℕ) (stream : Stream) → 0 < n → drawn n stream ≡ fill_bytes n stream
drawn_some zero stream some = absurd (omega arith)
drawn_some (suc n) stream some = refl

abbrev made : (salt padding : List ℕ) → Stream → Fresh
made salt padding left = record { salt = salt; padding = padding; left = left }

-- The padding is drawn after the salt.
pub fresh_is : (config : PpkEncryptionConfig) (f : PpkFile) (salt padding : List ℕ) (stream between left : Stream) (n k : ℕ)
    → n ≡ salt_len (version_of f.sealing) config → drawn n stream ≡ (salt, between)
    → k ≡ padding_len f → drawn k between ≡ (padding, left)
    → fresh_for config f stream ≡ record { salt = salt; padding = padding; left = left }
unfolding fresh_for
fresh_is config f salt padding stream between left n k n_is first k_is second =
    let salt_is : drawn (salt_len (version_of f.sealing) config) stream ≡ (salt, between) =
    ap (λ l. drawn l stream) (sym n_is) ∙ first in
    let padding_is : drawn (padding_len f) between ≡ (padding, left) = ap (λ l. drawn l between) (sym k_is) ∙ second in
    ap (λ (p : List ℕ × Stream). made p.0 (drawn (padding_len f) p.1).0 (drawn (padding_len f) p.1).1) salt_is
    ∙ ap (λ (q : List ℕ × Stream). made salt q.0 q.1) padding_is

-- It is given as it was drawn.
pub fresh_given : (config : PpkEncryptionConfig) (f : PpkFile) (stream : Stream) (salt padding a b : List ℕ) (left : Stream)
    → a ≡ salt → b ≡ padding → fresh_for config f stream ≡ record { salt = salt; padding = padding; left = left }
    → fresh_for config f stream ≡ record { salt = a; padding = b; left = left }
fresh_given config f stream salt padding a b left salt_is padding_is drawn =
    drawn ∙ ap (λ s. made s padding left) (sym salt_is) ∙ ap (λ p. made a p left) (sym padding_is)

-- What was drawn seals the file.
pub fresh_seals : (m : Meanings) (pass : List ℕ) (config : PpkEncryptionConfig) (f : PpkFile) (stream : Stream)
    (salt padding : List ℕ) (left : Stream) → can_draw pass config f ≡ true
    → fresh_for config f stream ≡ record { salt = salt; padding = padding; left = left }
    → encrypted_fresh m pass config f stream ≡ encrypted m pass config salt padding f
unfolding encrypted_fresh
fresh_seals m pass config f stream salt padding left can is =
    rw can (ap (λ (x : Fresh). encrypted m pass config x.salt x.padding f) is)

pub fresh_asks : (pass : List ℕ) (config : PpkEncryptionConfig) (f : PpkFile) (stream : Stream)
    (salt padding : List ℕ) (left : Stream) → can_draw pass config f ≡ true
    → fresh_for config f stream ≡ record { salt = salt; padding = padding; left = left }
    → asks_fresh pass config f stream ≡ is_sealable pass f (file_to_seal config salt padding f)
unfolding asks_fresh
fresh_asks pass config f stream salt padding left can is =
    rw can (ap (λ (x : Fresh). is_sealable pass f (file_to_seal config x.salt x.padding f)) is)

-- Nothing is drawn.
pub unfresh_refused : (m : Meanings) (pass : List ℕ) (config : PpkEncryptionConfig) (f : PpkFile) (stream : Stream)
    → can_draw pass config f ≡ false → encrypted_fresh m pass config f stream ≡ Err (not_drawn f)
unfolding encrypted_fresh
unfresh_refused m pass config f stream not = rw not refl

pub unfresh_unasked : (pass : List ℕ) (config : PpkEncryptionConfig) (f : PpkFile) (stream : Stream)
    → can_draw pass config f ≡ false → asks_fresh pass config f stream ≡ false
unfolding asks_fresh
unfresh_unasked pass config f stream not = rw not refl

-- So a call that seals the file with it answers what the definition says.
pub fresh_gives : {X : Type 0} (view : X → PpkFile) (r : Result X PuttyError) (rose : Type 0) (m : Meanings) (pass : List ℕ)
    (config : PpkEncryptionConfig) (f : PpkFile) (stream : Stream) (salt padding : List ℕ) (left : Stream)
    → can_draw pass config f ≡ true
    → fresh_for config f stream ≡ record { salt = salt; padding = padding; left = left }
    → GivesAsked errors.NoMemory errors.SuiteFault view r (encrypted m pass config salt padding f)
    (is_sealable pass f (file_to_seal config salt padding f)) rose
    → GivesAsked errors.NoMemory errors.SuiteFault view r (encrypted_fresh m pass config f stream)
    (asks_fresh pass config f stream) rose
fresh_gives view r rose m pass config f stream salt padding left can is gives =
    let seals = fresh_seals m pass config f stream salt padding left can is in
    let asks = fresh_asks pass config f stream salt padding left can is in
    subst (λ says. GivesAsked errors.NoMemory errors.SuiteFault view r says (asks_fresh pass config f stream) rose)
    (sym seals)
    (subst (λ asked. GivesAsked errors.NoMemory errors.SuiteFault view r (encrypted m pass config salt padding f) asked rose)
    (sym asks) gives)

pub ruleset from_fresh = (unfresh_refused, unfresh_unasked)
