-- Lemmas on a field that is read with a layer's own error in place of the wire's.
use Rattle.std.proofs.Common.{◌≡◌, ap, sym, inl, inr, ℕ, List, [], Result, Ok, Err}
use Rattle.std.specs.Prelude.{Option}
use Rattle.picky_wire_base.specs.Flaw.{Flaw}
use Rattle.picky_wire_base.specs.Grammar.{Grammar}
use Rattle.picky_wire_base.specs.Combine.{tag}
use Rattle.picky_wire_base.specs.Outcome.{map_err}
use Rattle.picky_wire_base.specs.Numbers.{byte}
use Rattle.picky_wire_base.specs.Wire.{byte_array, uint32}
use Rattle.picky_wire.specs.declared.error.WireError.{WireError}
use Rattle.picky_wire.specs.declared.error.WireError.TheVariants as errors
use Rattle.picky_wire.specs.Flaws.{wire_error, wire_causes, TakesField}
use Rattle.picky_wire.specs.Takes.{Takes, HasCause, StopsShort, causes_of}
use Rattle.picky_cert_parts.specs.Field.{field}

layer_refused : {A E : Type 0} (of : WireError → E) (r : Result (A × List ℕ) Flaw) (e : WireError)
    → map_err wire_error r ≡ Err e → map_err (λ flaw. of (wire_error flaw)) r ≡ Err (of e)
layer_refused of (Ok x) e is = cc is
layer_refused of (Err f) e is =
    let same : wire_error f ≡ e = cc is in ap Err (ap of same)

layer_found : {A E : Type 0} (of : WireError → E) (r : Result (A × List ℕ) Flaw) (x : A × List ℕ)
    → map_err wire_error r ≡ Ok x → map_err (λ flaw. of (wire_error flaw)) r ≡ Ok x
layer_found of (Ok y) x is = ap Ok (cc is)
layer_found of (Err f) x is = cc is

-- where the field is refused, the layer answers its error
pub field_refused : {S A E : Type 0} (tells : S → Type 0) (left : S → List ℕ) (known : S → Option ℕ) (faults : S → ℕ)
    (of : WireError → E) (G : Grammar Flaw A) (e : WireError) (old new : S)
    → ((d e : WireError) → of d ≡ of e → d ≡ e) → TakesField tells left known faults G (Err e) old new
    → Takes {A = A} tells left known faults (causes_of of) (field of G).read G.used (Err (of e)) old new
field_refused tells left known faults of G e old new apart takes = record {
  answers = λ t other kept.
      layer_refused of (G.read (left old)) e (takes.answers t (λ is. other (ap of is)) (λ is. kept (ap of is)));
  within = takes.within;
  whole = λ t other kept no_end.
      takes.whole t (λ is. other (ap of is)) (λ is. kept (ap of is)) (λ is. no_end (ap of is));
  cut = λ t is. takes.cut t (ap Err (apart e errors.ReadFault (cc is)));
  front = takes.front;
  told = takes.told;
  knows = takes.knows;
  fault = λ is. takes.fault (ap Err (apart e errors.ReadFault (cc is)));
  calm = λ other. takes.calm (λ is. other (ap of is));
}

-- a value that is read is the layer's
pub field_read : {S A E : Type 0} (tells : S → Type 0) (left : S → List ℕ) (known : S → Option ℕ) (faults : S → ℕ)
    (of : WireError → E) (G : Grammar Flaw A) (v : A) (old new : S)
    → TakesField tells left known faults G (Ok v) old new
    → Takes tells left known faults (causes_of of) (field of G).read G.used (Ok v) old new
field_read tells left known faults of G v old new takes = record {
  answers = λ t. layer_found of (G.read (left old)) (v, left new) (takes.answers t);
  within = takes.within;
  whole = takes.whole;
  cut = λ t is. cc is;
  front = takes.front;
  told = takes.told;
  knows = takes.knows;
  fault = λ is. cc is;
  calm = takes.calm;
}

-- its cause is the error's
pub field_cause : {A E : Type 0} (of : WireError → E) (G : Grammar Flaw A) (e : WireError) (fault : Type 0)
    → HasCause wire_causes (tag wire_error G).read fault e → HasCause (causes_of of) (field of G).read fault (of e)
field_cause of G e fault (inl (is, counted)) = inl (ap of is, counted)
field_cause of G e fault (inr (inl is)) = inr (inl (ap of is))
field_cause of G e fault (inr (inr (bytes, refused))) = inr (inr (bytes, layer_refused of (G.read bytes) e refused))

pub uint32_cause : {E : Type 0} (of : WireError → E) (e : WireError) (fault : Type 0) → StopsShort wire_causes fault e
    → HasCause (causes_of of) (field of uint32).read fault (of e)
unfolding uint32 byte_array
uint32_cause of e fault (inl (is, counted)) = inl (ap of is, counted)
uint32_cause of e fault (inr end) = inr (inr ([], ap (λ x. Err (of x)) (sym end)))

pub byte_cause : {E : Type 0} (of : WireError → E) (e : WireError) (fault : Type 0) → StopsShort wire_causes fault e
    → HasCause (causes_of of) (field of byte).read fault (of e)
unfolding byte byte_array
byte_cause of e fault (inl (is, counted)) = inl (ap of is, counted)
byte_cause of e fault (inr end) = inr (inr ([], ap (λ x. Err (of x)) (sym end)))

pub ruleset layer_fields = (field_refused, field_read, field_cause)
