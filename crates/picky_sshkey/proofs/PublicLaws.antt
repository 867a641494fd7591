-- A key has one blob of its own, so the key in an envelope is the public part exactly where the two are equal.
use Rattle.std.specs.Prelude.{◌≡◌, Bool, true, false, List, [], ◌++◌, ℕ, Result, Ok, Err}
use Rattle.std.proofs.Common.{◌∙◌, ap, refl, subst, sym}
use Rattle.std.proofs.lemmas.Slice.Eq.{bytes_eq-Decides}
use Rattle.picky_wire_base.specs.Flaw.{Reason, Why}
use Rattle.picky_wire_base.specs.Front.{read_front}
use Rattle.picky_wire_base.specs.Numbers.{IsBytes}
use Rattle.picky_wire_base.specs.Outcome.{and_then, map_err}
use Rattle.picky_wire_base.specs.View.{Seen, why_in, why_of}
use Rattle.picky_wire_base.specs.carried.Outcome.{and_then_ok}
use Rattle.picky_wire_base.specs.declared.view.Stuck.{Stuck}
use Rattle.picky_wire_base.proofs.Grammar.{one_front}
use Rattle.picky_wire_base.proofs.Numbers.{bytes_in_front}
use Rattle.picky_keys.specs.Blob.{blob, blob_of}
use Rattle.picky_keys.specs.Key.{IsKey}
use Rattle.picky_keys.specs.View.{key_seen}
use Rattle.picky_keys.specs.carried.Blob.{blob_spells}
use Rattle.picky_keys.specs.declared.key.SshBasePublicKey.{SshBasePublicKey}
use Rattle.picky_keys.specs.declared.view.PublicView.{PublicView}
use Rattle.picky_keys.proofs.KeyLaws.{spelled_is_key}
use Rattle.picky_sshkey_blob.specs.Key.{IsPrivateKey, public_part}
use Rattle.picky_sshkey_blob.specs.declared.key.SshBasePrivateKey.{SshBasePrivateKey}
use Rattle.picky_sshkey_blob.proofs.KeyLaws.{public_part_is_key}
use Rattle.picky_sshkey.specs.PrivateRefusal.{is_public_part, says_public}

-- Two keys of one blob are one key.
pub same_blob : (a b : SshBasePublicKey) → IsKey a → IsKey b → blob_of a ≡ blob_of b → a ≡ b
same_blob a b is_a is_b same =
    (one_front blob a b (blob_of a) (blob_of b) [] [] (blob_spells a is_a) (blob_spells b is_b)
    (ap (λ bytes. bytes ++ []) same)).value

-- What is read in front of bytes is a key.
pub front_is_key : (outer : List ℕ) (other : SshBasePublicKey) → IsBytes outer → read_front blob outer ≡ Ok other
    → IsKey other
front_is_key outer other each read =
    let found = and_then_ok (blob.read outer) (λ first. Ok first.0) other read in
    let fits = blob.sound outer found.0.0 found.0.1 found.1 in
    let key = spelled_is_key found.0.0 fits.0 (bytes_in_front fits.0 found.0.1 (subst IsBytes fits.2 each)) fits.1 in
    let same : found.0.0 ≡ other = cc found.2 in
    subst IsKey same key

-- What is not true is false.
not_true : (b : Bool) → (b ≡ true → ⊥) → b ≡ false
not_true true other = absurd (other refl)
not_true false other = refl

-- ---- by the layout

-- The key that is read is the public part, so it says so.
pub says_public_same : (outer : List ℕ) (key : SshBasePrivateKey) (other : SshBasePublicKey)
    → read_front blob outer ≡ Ok other → other ≡ public_part key → is_public_part outer key ≡ true
unfolding is_public_part
says_public_same outer key other read same =
    ap (says_public key) read ∙ (bytes_eq-Decides (blob_of other) (blob_of (public_part key))).1 (ap blob_of same)

-- Where it says so, it is.
pub says_public_is : (outer : List ℕ) (key : SshBasePrivateKey) (other : SshBasePublicKey) → IsBytes outer
    → IsPrivateKey key → read_front blob outer ≡ Ok other → is_public_part outer key ≡ true → other ≡ public_part key
unfolding is_public_part
says_public_is outer key other each private read says =
    let equal = (bytes_eq-Decides (blob_of other) (blob_of (public_part key))).0 (sym (ap (says_public key) read) ∙ says) in
    same_blob other (public_part key) (front_is_key outer other each read) (public_part_is_key key private) equal

-- It is another, so it doesn't say so.
pub says_public_other : (outer : List ℕ) (key : SshBasePrivateKey) (other : SshBasePublicKey) → IsBytes outer
    → IsPrivateKey key → read_front blob outer ≡ Ok other → (other ≡ public_part key → ⊥)
    → is_public_part outer key ≡ false
says_public_other outer key other each private read apart =
    not_true (is_public_part outer key) (λ says. apart (says_public_is outer key other each private read says))

-- No key is read, so none says so.
pub says_public_refused : (outer : List ℕ) (key : SshBasePrivateKey) (r : Reason)
    → read_front blob outer ≡ Err r → is_public_part outer key ≡ false
unfolding is_public_part
says_public_refused outer key r refused = ap (says_public key) refused

-- ---- by what is seen

-- A key that is seen stands in front.
front_seen : {lies : PublicView → Type 0} (outer : List ℕ) (view : PublicView) (next : ℕ)
    → Seen key_seen lies why_in blob outer 0 (Ok (view, next)) → read_front blob outer ≡ Ok (key_seen view)
front_seen outer view next seen = ap (λ r. and_then r (λ first. Ok first.0)) seen.sees

-- What is refused under other reasons is refused.
no_front : {A : Type 0} (r : Result (A × List ℕ) Reason) (why : Why) → map_err why_in r ≡ Err why
    → (reason : Reason) × (and_then r (λ first. Ok first.0) ≡ Err reason)
no_front (Ok found) why is = cc is
no_front (Err reason) why is = (reason, refl)

-- It is the public part exactly where it says so.
pub says_public_seen : {lies : PublicView → Type 0} (outer : List ℕ) (key : SshBasePrivateKey) (view : PublicView)
    (next : ℕ) (same : Bool) → IsBytes outer → IsPrivateKey key
    → Seen key_seen lies why_in blob outer 0 (Ok (view, next)) → (same ≡ true → key_seen view ≡ public_part key)
    → (same ≡ false → key_seen view ≡ public_part key → ⊥) → same ≡ is_public_part outer key
says_public_seen outer key view next true each private seen is apart =
    sym (says_public_same outer key (key_seen view) (front_seen outer view next seen) (is refl))
says_public_seen outer key view next false each private seen is apart =
    sym (says_public_other outer key (key_seen view) each private (front_seen outer view next seen) (apart refl))

-- None is seen, so none says so.
pub says_public_none : {lies : PublicView → Type 0} (outer : List ℕ) (key : SshBasePrivateKey) (stuck : Stuck)
    → Seen key_seen lies why_in blob outer 0 (Err stuck) → false ≡ is_public_part outer key
says_public_none outer key stuck seen =
    let refused = no_front (blob.read outer) (why_of stuck) seen.sees in
    sym (says_public_refused outer key refused.0 refused.1)
