-- The messages of a state, as they are appended.
use Rattle.std.proofs.Common.{◌≡◌, ◌<◌, ◌≤◌, ◌+◌, ◌∙◌, ◌++◌, ◌^◌, ℕ, List, [], ◌∷◌, length, take, get_or, min, sym, ap, subst, arith}
use Rattle.std.proofs.Common.{append_assoc, append-nil}
use Rattle.std.specs.Prelude.{All, flat_map}
use Rattle.std.specs.Int.{w32, to_be_bytes}
use Rattle.std.specs.List.{concat}
use Rattle.std.proofs.lemmas.List.{length-append, take_more}
use Rattle.std.proofs.lemmas.List.Elements.{All-append, All-cons, All-nil}
use Rattle.std.proofs.lemmas.List.Folds.{length-flat_map-take}
use Rattle.std.proofs.lemmas.Grind.{flat_map-append}
use Rattle.picky_wire_base.specs.Wire.{string_of}
use Rattle.picky_wire_base.proofs.PieceLemmas.{length-string_of}
use Rattle.picky_sshkey_blob.specs.declared.key.SshBasePrivateKey.{SshBasePrivateKey}
use Rattle.picky_sshkey_blob.specs.Blob.{secret_of}
use Rattle.picky_agent_state.specs.declared.identity.Identity.{Identity}
use Rattle.picky_agent_state.specs.Keep.{keep_limit}
use Rattle.picky_agent_bytes.specs.Bare.{bare, bare_key}
use Rattle.picky_agent_bytes.specs.IsState.{IsIdentity}
use Rattle.picky_agent_bytes.specs.State.{adding, framed, locking}

-- ---- the message that adds an identity

length-adding : (identity : Identity) → length (adding identity) ≡ 1 + length (secret_of identity.key) + (length identity.comment + 4)
unfolding adding
length-adding identity =
    omega (arith, length-append (secret_of identity.key) (string_of identity.comment), length-string_of identity.comment)

-- how long its pieces are
pub is_long : (identity : Identity) (secret : List (List ℕ)) (comment : List ℕ) (a b : ℕ) → concat secret ≡ secret_of identity.key
    → comment ≡ string_of identity.comment → a ≡ min (length (concat secret)) (2 ^ 40)
    → b ≡ min (length (concat (comment ∷ []))) (2 ^ 40) → keep_limit < a + b + 1 → keep_limit < length (adding identity)
is_long identity secret comment a b secret_is comment_is a_is b_is long =
    let joined : length (comment ++ []) ≡ length comment = ap (λ (c : List ℕ). length c) (append-nil comment) in
    let last : b ≡ min (length (comment ++ [])) (2 ^ 40) = b_is in
    omega (
      arith,
      a_is,
      last,
      joined,
      ap length secret_is,
      ap length comment_is,
      length-string_of identity.comment,
      length-adding identity,
      long,
    )

pub is_as_long : (identity : Identity) (secret : List (List ℕ)) (comment : List ℕ) (a b : ℕ) → concat secret ≡ secret_of identity.key
    → comment ≡ string_of identity.comment → a ≡ min (length (concat secret)) (2 ^ 40)
    → b ≡ min (length (concat (comment ∷ []))) (2 ^ 40) → a + b + 1 ≤ keep_limit → a + b + 1 ≡ length (adding identity)
is_as_long identity secret comment a b secret_is comment_is a_is b_is short =
    let joined : length (comment ++ []) ≡ length comment = ap (λ (c : List ℕ). length c) (append-nil comment) in
    let last : b ≡ min (length (comment ++ [])) (2 ^ 40) = b_is in
    omega (
      arith,
      a_is,
      last,
      joined,
      ap length secret_is,
      ap length comment_is,
      length-string_of identity.comment,
      length-adding identity,
      short,
    )

-- its bytes
pub identity_bytes : (identity : Identity) (len : ℕ) (old comment first second all : List ℕ) (secret : List (List ℕ))
    → concat secret ≡ secret_of identity.key → comment ≡ string_of identity.comment
    → first ≡ old ++ (to_be_bytes w32 len ++ 17 ∷ []) → second ≡ first ++ concat secret → all ≡ second ++ concat (comment ∷ [])
    → len ≡ length (adding identity) → all ≡ old ++ framed identity
unfolding string_of adding
identity_bytes identity len old comment first second all secret secret_is comment_is first_is second_is all_is len_is =
    let n = to_be_bytes w32 len in
    let s = secret_of identity.key in
    let c = string_of identity.comment in
    all_is
    ∙ ap (λ (x : List ℕ). x ++ (comment ++ [])) (second_is ∙ ap (λ (f : List ℕ). f ++ concat secret) first_is)
    ∙ ap (λ (x : List ℕ). ((old ++ (n ++ (17 ∷ []))) ++ x) ++ (comment ++ [])) secret_is
    ∙ ap (λ (x : List ℕ). ((old ++ (n ++ (17 ∷ []))) ++ s) ++ (x ++ [])) comment_is
    ∙ ap (λ (x : List ℕ). ((old ++ (n ++ (17 ∷ []))) ++ s) ++ x) (append-nil c)
    ∙ append_assoc (old ++ (n ++ (17 ∷ []))) s c
    ∙ append_assoc old (n ++ (17 ∷ [])) (s ++ c)
    ∙ ap (λ (x : List ℕ). old ++ x) (append_assoc n (17 ∷ []) (s ++ c))
    ∙ ap (λ (m : ℕ). old ++ (to_be_bytes w32 m ++ (17 ∷ s ++ c))) len_is

-- and of it without its secrets
pub bare_message : (identity : Identity) (key : SshBasePrivateKey) (first second all comment : List ℕ) (secret : List (List ℕ))
    → key ≡ bare_key identity.key → first ≡ 17 ∷ [] → concat secret ≡ secret_of key → comment ≡ string_of identity.comment
    → second ≡ first ++ concat secret → all ≡ second ++ concat (comment ∷ []) → all ≡ adding (bare identity)
unfolding adding
bare_message identity key first second all comment secret key_is first_is secret_is comment_is second_is all_is =
    all_is
    ∙ ap (λ (x : List ℕ). x ++ (comment ++ [])) (second_is ∙ ap (λ (f : List ℕ). f ++ concat secret) first_is)
    ∙ ap (λ (x : List ℕ). (17 ∷ x) ++ (comment ++ [])) (secret_is ∙ ap (λ (k : SshBasePrivateKey). secret_of k) key_is)
    ∙ ap (λ (x : List ℕ). (17 ∷ secret_of (bare_key identity.key)) ++ x) (append-nil comment ∙ comment_is)

-- ---- the message that locks

pub length-locking : (pass : List ℕ) → length (locking pass) ≡ length pass + 5
unfolding locking
length-locking pass = omega (arith, length-string_of pass)

pub lock_bytes : (pass old number byte string all : List ℕ) (len : ℕ) → number ≡ to_be_bytes w32 len → byte ≡ 22 ∷ []
    → string ≡ string_of pass → all ≡ old ++ concat (number ∷ byte ∷ string ∷ []) → len ≡ length pass + 5
    → all ≡ old ++ string_of (locking pass)
unfolding string_of locking
lock_bytes pass old number byte string all len number_is byte_is string_is all_is len_is =
    let s = string_of pass in
    all_is
    ∙ ap (λ (x : List ℕ). old ++ (x ++ (byte ++ (string ++ [])))) number_is
    ∙ ap (λ (x : List ℕ). old ++ (to_be_bytes w32 len ++ (x ++ (string ++ [])))) byte_is
    ∙ ap (λ (x : List ℕ). old ++ (to_be_bytes w32 len ++ (22 ∷ (x ++ [])))) string_is
    ∙ ap (λ (x : List ℕ). old ++ (to_be_bytes w32 len ++ (22 ∷ x))) (append-nil s)
    ∙ ap (λ (m : ℕ). old ++ (to_be_bytes w32 m ++ (22 ∷ s))) (len_is ∙ sym (length-locking pass))

-- ---- the messages of all

-- one identity more
pub framed_more : (identities : List Identity) (i : ℕ) (identity : Identity) (old out next : List ℕ) → i < length identities
    → identity ≡ get_or identities i identity → out ≡ old ++ flat_map framed (take i identities) → next ≡ out ++ framed identity
    → next ≡ old ++ flat_map framed (take (i + 1) identities)
framed_more identities i identity old out next within is out_is next_is =
    let one : take (i + 1) identities ≡ take i identities ++ identity ∷ [] =
    take_more identities i identity within ∙ ap (λ (x : Identity). take i identities ++ x ∷ []) (sym is) in
    next_is ∙ ap (λ (o : List ℕ). o ++ framed identity) out_is
    ∙ append_assoc old (flat_map framed (take i identities)) (framed identity)
    ∙ ap (λ (f : List ℕ). old ++ (flat_map framed (take i identities) ++ f)) (sym (append-nil (framed identity)))
    ∙ ap (λ (f : List ℕ). old ++ f) (sym (flat_map-append framed (take i identities) (identity ∷ [])))
    ∙ ap (λ (xs : List Identity). old ++ flat_map framed xs) (sym one)

pub are_more : (identities : List Identity) (i : ℕ) (identity : Identity) → i < length identities
    → identity ≡ get_or identities i identity → All IsIdentity (take i identities) → IsIdentity identity
    → All IsIdentity (take (i + 1) identities)
are_more identities i identity within is are one =
    let more : take (i + 1) identities ≡ take i identities ++ identity ∷ [] =
    take_more identities i identity within ∙ ap (λ (x : Identity). take i identities ++ x ∷ []) (sym is) in
    subst (All IsIdentity) (sym more)
    (All-append IsIdentity (take i identities) (identity ∷ []) are (All-cons IsIdentity identity [] one (All-nil IsIdentity)))

-- one that is too long makes all too long
pub one_too_long : (identities : List Identity) (i : ℕ) (identity : Identity) → i < length identities
    → identity ≡ get_or identities i identity → keep_limit < length (adding identity)
    → keep_limit < length (flat_map framed identities)
one_too_long identities i identity within is long =
    omega (
      arith,
      length-flat_map-take framed identities i identity within,
      ap (λ (y : Identity). length (framed y)) is,
      length-string_of (adding identity),
      long,
    )
