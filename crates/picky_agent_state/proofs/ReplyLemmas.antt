-- Lemmas on replies.
use Rattle.std.proofs.Common.{◌≡◌, ◌≤◌, ◌<◌, ◌+◌, ◌^◌, ◌++◌, ◌∙◌, [], ◌∷◌, ℕ, Bool, false, List, length, take, get_or, ap, refl, sym, arith}
use Rattle.std.proofs.Common.{append_assoc, Result, Ok, Err, IfOk}
use Rattle.std.specs.Prelude.{flat_map, map, if◌then◌else◌}
use Rattle.std.specs.Int.{w32, to_be_bytes}
use Rattle.std.proofs.lemmas.Bool.{le-ltb}
use Rattle.std.proofs.lemmas.List.{append-nil, length-append, length-map, take_more}
use Rattle.std.proofs.lemmas.List.Folds.{concat-append}
use Rattle.std.specs.List.{concat}
use Rattle.picky_wire_base.specs.Wire.{string_of}
use Rattle.picky_wire_base.proofs.PieceLemmas.{length-string_of}
use Rattle.picky_cert_parts.specs.declared.signature_format.SshSignatureFormat.{SshSignatureFormat}
use Rattle.picky_cert_parts.specs.CertNames.{format_name}
use Rattle.picky_agent_state.specs.declared.identity.Identity.{Identity}
use Rattle.picky_agent_state.specs.Kept.{Kept, is_locked}
use Rattle.picky_agent_state.specs.Rows.{Lists}
use Rattle.picky_agent_state.specs.Reply.{entry, failure, fitted, listing, signed_reply}

-- what is too long is the failure
pub too_long_fails : (reply : List ℕ) → 2 ^ 32 ≤ length reply → fitted reply ≡ failure
too_long_fails reply long = ap (λ b. if b then reply else failure) (le-ltb (length reply) (2 ^ 32) long)

-- ---- a signature's reply

inner_len : (format : SshSignatureFormat) (signature : List ℕ)
    → length (string_of (format_name format) ++ string_of signature) ≡ length (format_name format) + length signature + 8
inner_len format signature =
    omega (
      arith,
      length-append (string_of (format_name format)) (string_of signature),
      length-string_of (format_name format),
      length-string_of signature,
    )

-- one that is too long is the failure
pub long_signature_fails : (format : SshSignatureFormat) (signature : List ℕ)
    → 2 ^ 32 ≤ length (format_name format) + length signature + 8 → fitted (signed_reply format signature) ≡ failure
long_signature_fails format signature long =
    too_long_fails (signed_reply format signature)
    (omega (arith, inner_len format signature, length-string_of (string_of (format_name format) ++ string_of signature), long))

-- its pieces
pub signed_pieces : (format : SshSignatureFormat) (signature : List ℕ) (len : ℕ)
    → len ≡ length (format_name format) + length signature + 8
    → (14 ∷ to_be_bytes w32 len ++ string_of (format_name format)) ++ string_of signature ≡ signed_reply format signature
unfolding string_of
signed_pieces format signature len is =
    ap (λ r. 14 ∷ r)
    (append_assoc (to_be_bytes w32 len) (string_of (format_name format)) (string_of signature)
    ∙ ap (λ n. to_be_bytes w32 n ++ (string_of (format_name format) ++ string_of signature)) (is ∙ sym (inner_len format signature)))

pub signed_bytes : (format : SshSignatureFormat) (signature : List ℕ) (len : ℕ) (start head tail byte number name text : List ℕ)
    → start ≡ [] → byte ≡ 14 ∷ [] → number ≡ to_be_bytes w32 len → name ≡ string_of (format_name format)
    → text ≡ string_of signature → head ≡ start ++ concat (byte ∷ number ∷ name ∷ []) → tail ≡ head ++ concat (text ∷ [])
    → len ≡ length (format_name format) + length signature + 8 → tail ≡ signed_reply format signature
signed_bytes format signature len start head tail byte number name text start_is byte_is number_is name_is text_is head_is tail_is is =
    let front : head ≡ 14 ∷ to_be_bytes w32 len ++ string_of (format_name format) =
    head_is ∙ ap (λ s. s ++ concat (byte ∷ number ∷ name ∷ [])) start_is
    ∙ ap (λ b. b ++ (number ++ (name ++ []))) byte_is
    ∙ ap (λ n. (14 ∷ []) ++ (n ++ (name ++ []))) number_is
    ∙ ap (λ m. (14 ∷ []) ++ (to_be_bytes w32 len ++ (m ++ []))) name_is
    ∙ ap (λ m. (14 ∷ []) ++ (to_be_bytes w32 len ++ m)) (append-nil (string_of (format_name format))) in
    tail_is ∙ ap (λ h. h ++ (text ++ [])) front
    ∙ ap (λ t. (14 ∷ to_be_bytes w32 len ++ string_of (format_name format)) ++ (t ++ [])) text_is
    ∙ ap (λ t. (14 ∷ to_be_bytes w32 len ++ string_of (format_name format)) ++ t) (append-nil (string_of signature))
    ∙ signed_pieces format signature len is

-- ---- a list

-- the entries, one after another
entries_are : (identities : List Identity) → concat (map entry identities) ≡ flat_map entry identities
entries_are [] = refl
entries_are (identity ∷ more) = ap (λ rest. entry identity ++ rest) (entries_are more)

-- what has the entries of these identities is their list
pub listed : (entries : List (List ℕ)) (identities : List Identity) → entries ≡ map entry identities
    → 12 ∷ to_be_bytes w32 (length entries) ++ concat entries ≡ listing identities
listed entries identities are =
    ap (λ es. 12 ∷ to_be_bytes w32 (length es) ++ concat es) are
    ∙ ap (λ n. 12 ∷ to_be_bytes w32 n ++ concat (map entry identities)) (length-map identities entry)
    ∙ ap (λ rest. 12 ∷ to_be_bytes w32 (length identities) ++ rest) (entries_are identities)

-- one entry more
concat_more : (entries : List (List ℕ)) (i : ℕ) (item : List ℕ) → i < length entries → item ≡ get_or entries i item
    → concat (take (i + 1) entries) ≡ concat (take i entries) ++ item
concat_more entries i item inside is =
    ap concat (take_more entries i item inside) ∙ concat-append (take i entries) (get_or entries i item ∷ [])
    ∙ ap (λ rest. concat (take i entries) ++ rest) (append-nil (get_or entries i item) ∙ sym is)

pub listed_more : (n : ℕ) (entries : List (List ℕ)) (i : ℕ) (item seen head new : List ℕ) → i < length entries
    → item ≡ get_or entries i item → head ≡ 12 ∷ to_be_bytes w32 n ++ concat (take i entries) → seen ≡ item → new ≡ head ++ seen
    → new ≡ 12 ∷ to_be_bytes w32 n ++ concat (take (i + 1) entries)
listed_more n entries i item seen head new inside is head_is seen_is new_is =
    new_is ∙ ap (λ s. head ++ s) seen_is ∙ ap (λ h. h ++ item) head_is
    ∙ ap (λ rest. 12 ∷ rest) (append_assoc (to_be_bytes w32 n) (concat (take i entries)) item)
    ∙ ap (λ rest. 12 ∷ to_be_bytes w32 n ++ rest) (sym (concat_more entries i item inside is))

-- the row of an agent that isn't locked
pub lists : {E : Type 0} (kept : Kept) (entries : List (List ℕ)) (r : Result (List ℕ) E) → is_locked kept ≡ false
    → entries ≡ map entry kept.identities
    → IfOk r (λ reply. reply ≡ fitted (12 ∷ to_be_bytes w32 (length entries) ++ concat entries)) → IfOk r (λ reply. Lists kept reply kept)
lists kept entries (Ok reply) unlocked are is = (
  is ∙ ap fitted (listed entries kept.identities are)
      ∙ ap (λ (b : Bool). fitted (listing (if b then [] else kept.identities))) (sym unlocked),
  refl,
)
lists kept entries (Err e) unlocked are is = tt
