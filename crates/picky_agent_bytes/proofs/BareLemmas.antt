-- An agent whose identities have no secrets replies as the one whose identities have.
use Rattle.std.proofs.Common.{◌≡◌, ◌⊎◌, ◌∙◌, ◌++◌, ℕ, suc, Bool, true, false, List, [], ◌∷◌, length, take, drop, MatchBool, inl, inr, refl, sym, ap, subst}
use Rattle.std.specs.Prelude.{Option, None, Some, flat_map, get_or, map, nat_le, option_map, remove, slice_set, if◌then◌else◌}
use Rattle.std.specs.Int.{w32, to_be_bytes}
use Rattle.std.proofs.lemmas.List.{drop-map, length-map, map-append, map-set, take-map}
use Rattle.std.proofs.lemmas.List.Elements.{All-map}
use Rattle.std.proofs.lemmas.Option.{slice_get-map}
use Rattle.picky_wire_base.specs.Wire.{string_of}
use Rattle.picky_suite.specs.Signs.{SignRelation}
use Rattle.picky_keys.specs.declared.key.SshBasePublicKey.{SshBasePublicKey}
use Rattle.picky_keys.specs.Blob.{blob_of}
use Rattle.picky_keys.specs.Key.{kind_of}
use Rattle.picky_sshkey_blob.specs.declared.key.SshBasePrivateKey.{SshBasePrivateKey}
use Rattle.picky_sshkey_blob.specs.declared.key.SshBasePrivateKey.TheVariants as keys
use Rattle.picky_sshkey_blob.specs.Key.{public_part}
use Rattle.picky_agent_state.specs.declared.identity.Identity.{Identity}
use Rattle.picky_agent_state.specs.Held.{HasKey, HasNone, IsAt}
use Rattle.picky_agent_state.specs.Kept.{Kept, Machine, is_locked, machine}
use Rattle.picky_agent_state.specs.Reply.{entry, fitted, listing}
use Rattle.picky_agent_state.specs.Request.{Request, Identities, Sign, Add, Remove, RemoveAll, Lock, Unlock, Unfit, SignRequest, request_of}
use Rattle.picky_agent_state.specs.Rows.{Adds, Appends, Fails, HasNothing, Lists, Locks, Removes, RemovesAll, Replaces, Succeeds, TakesOut, Unlocks, is_full, most_identities, opens}
use Rattle.picky_agent_state.specs.Signing.{SigningWay, way_for}
use Rattle.picky_agent_state.specs.Step.{Asks, AsksNone, AsksWith, Step, StepOn, Still}
use Rattle.picky_agent_bytes.specs.Bare.{bare, bare_key, bare_kept, bare_request}

-- ---- the public part stays, and so do entries

pub bare_public : (key : SshBasePrivateKey) → public_part (bare_key key) ≡ public_part key
bare_public (keys.Rsa n e d iqmp p q) = refl
bare_public (keys.Ec curve point secret) = refl
bare_public (keys.Ed secret public) = refl
bare_public (keys.SkEcdsaSha2NistP256 point application flags handle) = refl
bare_public (keys.SkEd25519 key application flags handle) = refl

bare_entry : (identity : Identity) → entry (bare identity) ≡ entry identity
bare_entry identity = ap (λ (k : SshBasePublicKey). string_of (blob_of k) ++ string_of identity.comment) (bare_public identity.key)

bare_entries : (identities : List Identity) → flat_map entry (map bare identities) ≡ flat_map entry identities
bare_entries [] = refl
bare_entries (identity ∷ identities) =
    ap (λ (e : List ℕ). e ++ flat_map entry (map bare identities)) (bare_entry identity)
    ∙ ap (λ (es : List ℕ). entry identity ++ es) (bare_entries identities)

bare_listing : (identities : List Identity) → listing (map bare identities) ≡ listing identities
bare_listing identities =
    ap (λ (n : ℕ). 12 ∷ to_be_bytes w32 n ++ flat_map entry (map bare identities)) (length-map identities bare)
    ∙ ap (λ (es : List ℕ). 12 ∷ to_be_bytes w32 (length identities) ++ es) (bare_entries identities)

bare_shown : (locked : Bool) (identities : List Identity)
    → listing (if locked then [] else identities) ≡ listing (if locked then [] else map bare identities)
bare_shown true identities = refl
bare_shown false identities = sym (bare_listing identities)

-- ---- an identity that has a key

not_bare : (key : SshBasePublicKey) (identities : List Identity) → HasNone key identities
    → HasNone key (map bare identities)
not_bare key identities none =
    All-map (λ identity. HasKey key identity → ⊥) bare identities
    (λ k d less has. none k d less (sym (bare_public (get_or identities k d).key) ∙ has))

bare_at : (key : SshBasePublicKey) (identities : List Identity) (place : ℕ) → IsAt key identities place
    → IsAt key (map bare identities) place
bare_at key identities place at = record {
  identity = bare at.identity;
  stands = slice_get-map bare identities place ∙ ap (option_map bare) at.stands;
  has = bare_public at.identity.key ∙ at.has;
  first = subst (HasNone key) (sym (take-map bare place identities)) (not_bare key (take place identities) at.first);
}

-- ---- rows

bare_fails : (old : Kept) (reply : List ℕ) (new : Kept) → Fails old reply new → Fails (bare_kept old) reply (bare_kept new)
bare_fails old reply new (replies, same) = (replies, ap bare_kept same)

bare_succeeds : (next next' : Kept) (reply : List ℕ) (new : Kept) → bare_kept next ≡ next' → Succeeds next reply new
    → Succeeds next' reply (bare_kept new)
bare_succeeds next next' reply new is (replies, same) = (replies, ap bare_kept same ∙ is)

both_ways : (b : Bool) (P Q P' Q' : Type 0) → (P → P') → (Q → Q') → MatchBool b P Q → MatchBool b P' Q'
both_ways true P Q P' Q' first second p = first p
both_ways false P Q P' Q' first second q = second q

bare_plain : (b : Bool) (old next next' : Kept) (reply : List ℕ) (new : Kept) → bare_kept next ≡ next'
    → MatchBool b (Fails old reply new) (Succeeds next reply new)
    → MatchBool b (Fails (bare_kept old) reply (bare_kept new)) (Succeeds next' reply (bare_kept new))
bare_plain b old next next' reply new is =
    both_ways b (Fails old reply new) (Succeeds next reply new) (Fails (bare_kept old) reply (bare_kept new))
    (Succeeds next' reply (bare_kept new)) (bare_fails old reply new) (bare_succeeds next next' reply new is)

with_set : (old : Kept) (place : ℕ) (added : Identity)
    → bare_kept (record old { identities = slice_set old.identities place added })
    ≡ record (bare_kept old) { identities = slice_set (bare_kept old).identities place (bare added) }
with_set old place added =
    ap (λ (is : List Identity). record old { identities = is }) (map-set bare old.identities place added)

with_last : (old : Kept) (added : Identity)
    → bare_kept (record old { identities = old.identities ++ added ∷ [] })
    ≡ record (bare_kept old) { identities = (bare_kept old).identities ++ bare added ∷ [] }
with_last old added = ap (λ (is : List Identity). record old { identities = is }) (map-append bare old.identities (added ∷ []))

map_remove : (identities : List Identity) (place : ℕ) → map bare (remove identities place) ≡ remove (map bare identities) place
map_remove identities place =
    map-append bare (take place identities) (drop (suc place) identities)
    ∙ ap (λ l. l ++ map bare (drop (suc place) identities)) (sym (take-map bare place identities))
    ∙ ap (λ l. take place (map bare identities) ++ l) (sym (drop-map bare (suc place) identities))

bare_full : (old : Kept) → is_full old ≡ is_full (bare_kept old)
bare_full old = ap (λ (n : ℕ). nat_le most_identities n) (sym (length-map old.identities bare))

bare_added : (old : Kept) (added : Identity) (reply : List ℕ) (new : Kept) → Replaces old added reply new ⊎ Appends old added reply new
    → Replaces (bare_kept old) (bare added) reply (bare_kept new) ⊎ Appends (bare_kept old) (bare added) reply (bare_kept new)
bare_added old added reply new (inl replaces) = inl (record {
  place = replaces.place;
  is_at = subst (λ (k : SshBasePublicKey). IsAt k (map bare old.identities) replaces.place) (sym (bare_public added.key))
      (bare_at (public_part added.key) old.identities replaces.place replaces.is_at);
  succeeds = bare_succeeds (record old { identities = slice_set old.identities replaces.place added })
      (record (bare_kept old) { identities = slice_set (bare_kept old).identities replaces.place (bare added) }) reply new
      (with_set old replaces.place added) replaces.succeeds;
})
bare_added old added reply new (inr appends) = inr (record {
  is_new = subst (λ (k : SshBasePublicKey). HasNone k (map bare old.identities)) (sym (bare_public added.key))
      (not_bare (public_part added.key) old.identities appends.is_new);
  room = subst
      (λ (b : Bool). MatchBool b (Fails (bare_kept old) reply (bare_kept new))
      (Succeeds (record (bare_kept old) { identities = (bare_kept old).identities ++ bare added ∷ [] }) reply (bare_kept new)))
      (bare_full old)
      (bare_plain (is_full old) old (record old { identities = old.identities ++ added ∷ [] })
      (record (bare_kept old) { identities = (bare_kept old).identities ++ bare added ∷ [] }) reply new (with_last old added)
      appends.room);
})

bare_removed : (old : Kept) (key : SshBasePublicKey) (reply : List ℕ) (new : Kept)
    → TakesOut old key reply new ⊎ HasNothing old key reply new
    → TakesOut (bare_kept old) key reply (bare_kept new) ⊎ HasNothing (bare_kept old) key reply (bare_kept new)
bare_removed old key reply new (inl takes) = inl (record {
  place = takes.place;
  is_at = bare_at key old.identities takes.place takes.is_at;
  succeeds = bare_succeeds (record old { identities = remove old.identities takes.place })
      (record (bare_kept old) { identities = remove (bare_kept old).identities takes.place }) reply new
      (ap (λ (is : List Identity). record old { identities = is }) (map_remove old.identities takes.place)) takes.succeeds;
})
bare_removed old key reply new (inr none) =
    inr (record { none = not_bare key old.identities none.none; fails = bare_fails old reply new none.fails })

-- ---- a step

abbrev bare_machine : Machine → Machine
bare_machine m = machine (bare_kept m.kept) m.faults

bare_still : (old new : Machine) (row row' : Kept → List ℕ → Kept → Type 0) (reply : List ℕ)
    → (row old.kept reply new.kept → row' (bare_kept old.kept) reply (bare_kept new.kept)) → Still old row reply new
    → Still (bare_machine old) row' reply (bare_machine new)
bare_still old new row row' reply next still = record { calm = still.calm; row_holds = next still.row_holds }

bare_asks : (signs : SignRelation) (old : Machine) (asked : SignRequest) (way : Option SigningWay) (reply : List ℕ) (new : Machine)
    → Asks signs old asked way reply new → Asks signs (bare_machine old) asked way reply (bare_machine new)
bare_asks signs old asked (Some way) reply new (inl signed) = inl (record {
  signature = signed.signature;
  good = signed.good;
  replies = signed.replies;
  unchanged = ap bare_machine signed.unchanged;
})
bare_asks signs old asked (Some way) reply new (inr unsigned) =
    inr (record { replies = unsigned.replies; kept = ap bare_kept unsigned.kept; rose = unsigned.rose })
bare_asks signs old asked None reply new still = bare_still old new Fails Fails reply (bare_fails old.kept reply new.kept) still

bare_unlocked : (signs : SignRelation) (old : Machine) (asked : SignRequest) (reply : List ℕ) (new : Machine)
    → AsksWith signs old asked reply new ⊎ AsksNone old asked reply new
    → AsksWith signs (bare_machine old) asked reply (bare_machine new) ⊎ AsksNone (bare_machine old) asked reply (bare_machine new)
bare_unlocked signs old asked reply new (inl asks) = inl (record {
  place = asks.place;
  is_at = bare_at asked.key old.kept.identities asks.place asks.is_at;
  asks = bare_asks signs old asked (way_for (kind_of asked.key) asked.flags) reply new asks.asks;
})
bare_unlocked signs old asked reply new (inr none) = inr (record {
  none = not_bare asked.key old.kept.identities none.none;
  fails = bare_still old new Fails Fails reply (bare_fails old.kept reply new.kept) none.fails;
})

bare_on : (signs : SignRelation) (old : Machine) (request : Request) (reply : List ℕ) (new : Machine)
    → StepOn signs old request reply new → StepOn signs (bare_machine old) (bare_request request) reply (bare_machine new)
bare_on signs old Identities reply new step =
    bare_still old new Lists Lists reply
    (λ lists. (lists.0 ∙ ap fitted (bare_shown (is_locked old.kept) old.kept.identities), ap bare_kept lists.1)) step
bare_on signs old (Sign asked) reply new step =
    both_ways (is_locked old.kept) _ _ _ _ (λ still. bare_still old new Fails Fails reply (bare_fails old.kept reply new.kept) still)
    (λ asks. bare_unlocked signs old asked reply new asks) step
bare_on signs old (Add added) reply new step =
    bare_still old new (λ before. Adds before added) (λ before. Adds before (bare added)) reply
    (both_ways (is_locked old.kept) _ _ _ _ (bare_fails old.kept reply new.kept) (bare_added old.kept added reply new.kept)) step
bare_on signs old (Remove key) reply new step =
    bare_still old new (λ before. Removes before key) (λ before. Removes before key) reply
    (both_ways (is_locked old.kept) _ _ _ _ (bare_fails old.kept reply new.kept) (bare_removed old.kept key reply new.kept)) step
bare_on signs old RemoveAll reply new step =
    bare_still old new RemovesAll RemovesAll reply
    (bare_plain (is_locked old.kept) old.kept (record old.kept { identities = [] }) (record (bare_kept old.kept) { identities = [] }) reply
    new.kept refl) step
bare_on signs old (Lock pass) reply new step =
    bare_still old new (λ before. Locks before pass) (λ before. Locks before pass) reply
    (bare_plain (is_locked old.kept) old.kept (record old.kept { pass = Some pass }) (record (bare_kept old.kept) { pass = Some pass })
    reply new.kept refl) step
bare_on signs old (Unlock pass) reply new step =
    bare_still old new (λ before. Unlocks before pass) (λ before. Unlocks before pass) reply
    (both_ways (opens old.kept.pass pass) _ _ _ _ (bare_succeeds (record old.kept { pass = None }) (record (bare_kept old.kept) { pass = None }) reply new.kept refl) (bare_fails old.kept reply new.kept)) step
bare_on signs old Unfit reply new step = bare_still old new Fails Fails reply (bare_fails old.kept reply new.kept) step

pub bare_step : (signs : SignRelation) (old : Machine) (message bare_message reply : List ℕ) (new : Machine)
    → request_of bare_message ≡ bare_request (request_of message) → Step signs old message reply new
    → Step signs (machine (bare_kept old.kept) old.faults) bare_message reply (machine (bare_kept new.kept) new.faults)
unfolding Step
bare_step signs old message bare_message reply new is step =
    subst (λ (r : Request). StepOn signs (bare_machine old) r reply (bare_machine new)) (sym is)
    (bare_on signs old (request_of message) reply new step)
