-- Lemmas on requests that are seen in their messages.
use Rattle.std.proofs.Common.{◌≡◌, ◌∙◌, ℕ, List, ap, sym, refl, Result, Ok, Err}
use Rattle.picky_wire_base.specs.Flaw.{Flaw, Flawed, Reason, Why}
use Rattle.picky_wire_base.specs.Grammar.{Grammar}
use Rattle.picky_wire_base.specs.Combine.{placed}
use Rattle.picky_wire_base.specs.Inside.{begins}
use Rattle.picky_wire_base.specs.Narrowed.{meant}
use Rattle.picky_wire_base.specs.Outcome.{and_then, map_err}
use Rattle.picky_wire_base.specs.Wire.{string}
use Rattle.picky_wire_base.specs.declared.view.Stuck.{Stuck}
use Rattle.picky_wire_base.specs.View.{Sees, why_in, why_of}
use Rattle.picky_keys.specs.declared.key.SshBasePublicKey.{SshBasePublicKey}
use Rattle.picky_keys.specs.Blob.{blob}
use Rattle.picky_agent_state.specs.declared.asked.Asked.{Asked}
use Rattle.picky_agent_state.specs.Request.{Request, Unfit, key_string, request_read}
use Rattle.picky_agent_state.specs.inner.Asked.{asked_found, asked_seen}

-- what is refused is no request
refused_unfit : {W : Type 0} (f : Reason → W) (r : Result (Request × List ℕ) Reason) (w : W) → map_err f r ≡ Err w
    → request_read r ≡ Unfit
refused_unfit f (Ok found) w is = cc is
refused_unfit f (Err reason) w is = refl

-- what is found by a row is the request that the row reads
pub found_is_read : (row : Grammar Reason Request) (contents : List ℕ) (r : Result (Asked × ℕ) Stuck)
    → Sees asked_seen why_in row contents 0 r → asked_seen (asked_found r) ≡ request_read (row.read contents)
found_is_read row contents (Ok (asked, next)) sees = ap request_read (sym sees)
found_is_read row contents (Err stuck) sees = sym (refused_unfit why_in (row.read contents) (why_of stuck) sees)

-- ---- a key whose blob a string begins with

-- the key in front, and the rest after the string
abbrev with_rest : List ℕ → Result (SshBasePublicKey × List ℕ) Reason → Result (SshBasePublicKey × List ℕ) Reason
with_rest rest r = and_then (and_then r (λ (first : SshBasePublicKey × List ℕ). Ok first.0)) (λ (k : SshBasePublicKey). Ok (k, rest))

abbrev in_string : Result (List ℕ × List ℕ) Flaw → Result (SshBasePublicKey × List ℕ) Reason
in_string r = and_then (map_err (placed 0) r) (meant (begins blob))

pub key_is_read : (bytes part rest more : List ℕ) (key : SshBasePublicKey) → string.read bytes ≡ Ok (part, rest)
    → blob.read part ≡ Ok (key, more) → key_string.read bytes ≡ Ok (key, rest)
unfolding key_string
key_is_read bytes part rest more key whole read = ap in_string whole ∙ ap (with_rest rest) read

cut_in_string : (r : Result (List ℕ × List ℕ) Flaw) (why : Why) → map_err Flawed r ≡ Err why
    → map_err why_in (in_string r) ≡ Err why
cut_in_string (Ok found) why other = cc other
cut_in_string (Err flaw) why other = let same : Flawed flaw ≡ why = cc other in ap Err same

pub key_is_cut : (bytes : List ℕ) (why : Why) → map_err Flawed (string.read bytes) ≡ Err why
    → map_err why_in (key_string.read bytes) ≡ Err why
unfolding key_string
key_is_cut bytes why refused = cut_in_string (string.read bytes) why refused

refused_with_rest : (r : Result (SshBasePublicKey × List ℕ) Reason) (rest : List ℕ) (why : Why) → map_err why_in r ≡ Err why
    → map_err why_in (with_rest rest r) ≡ Err why
refused_with_rest (Ok found) rest why other = cc other
refused_with_rest (Err reason) rest why other = other

pub key_is_refused : (bytes part rest : List ℕ) (why : Why) → string.read bytes ≡ Ok (part, rest)
    → map_err why_in (blob.read part) ≡ Err why → map_err why_in (key_string.read bytes) ≡ Err why
unfolding key_string
key_is_refused bytes part rest why whole refused =
    ap (λ (r : Result (List ℕ × List ℕ) Flaw). map_err why_in (in_string r)) whole
    ∙ refused_with_rest (blob.read part) rest why refused

pub ruleset key_strings = (key_is_read, key_is_cut, key_is_refused)
