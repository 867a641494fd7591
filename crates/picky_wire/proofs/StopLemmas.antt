-- Lemmas on a layer's own error in place of the stop of its readers.
use Rattle.std.proofs.Common.{◌≡◌, ℕ, List, ap, ◌∙◌, Result, Ok, Err}
use Rattle.std.specs.Prelude.{Option}
use Rattle.picky_wire_base.specs.Flaw.{Reason}
use Rattle.picky_wire_base.specs.Outcome.{map_err}
use Rattle.picky_wire_base.specs.Grammar.{Grammar}
use Rattle.picky_wire_base.specs.Combine.{tag}
use Rattle.picky_wire.specs.declared.error.WireError.{WireError}
use Rattle.picky_wire.specs.declared.error.WireError.TheVariants as errors
use Rattle.picky_wire.specs.declared.stop.Stop.{Stop}
use Rattle.picky_wire.specs.declared.stop.Stop.TheVariants as stops
use Rattle.picky_wire.specs.Flaws.{TakesLayout}
use Rattle.picky_wire.specs.inner.Stop.{stop_of}
use Rattle.picky_wire.specs.Takes.{Takes, causes_of}

-- a layer's error for each stop: its reasons go through their stops, and the wire's errors and no others
-- through theirs
pub record SaysStops {E : Type 0} (of : WireError → E) (stop_error : Stop → E) (reason_error : Reason → E) : Type 0 where
  pub reason : (r : Reason) → reason_error r ≡ stop_error (stop_of r)
  pub fault : stop_error stops.Fault ≡ of errors.ReadFault
  pub no_memory : stop_error stops.NoMemory ≡ of errors.NoMemory
  pub short : stop_error stops.Short ≡ of errors.UnexpectedEnd
  pub only_fault : (s : Stop) → stop_error s ≡ of errors.ReadFault → s ≡ stops.Fault

own_error : {A E : Type 0} (stop_error : Stop → E) (reason_error : Reason → E)
    → ((r : Reason) → reason_error r ≡ stop_error (stop_of r)) → (r : Result (A × List ℕ) Reason) (s : Stop)
    → map_err stop_of r ≡ Err s → map_err reason_error r ≡ Err (stop_error s)
own_error stop_error reason_error says (Ok x) s is = cc is
own_error stop_error reason_error says (Err r) s is =
    let same : stop_of r ≡ s = cc is in
    ap Err (says r ∙ ap stop_error same)

own_value : {A E : Type 0} (reason_error : Reason → E) (r : Result (A × List ℕ) Reason) (x : A × List ℕ)
    → map_err stop_of r ≡ Ok x → map_err reason_error r ≡ Ok x
own_value reason_error (Ok y) x is = ap Ok (cc is)
own_value reason_error (Err r) x is = cc is

-- where the readers stopped, the layer answers its error
pub layer_stops : {S A E : Type 0} (tells : S → Type 0) (left : S → List ℕ) (known : S → Option ℕ) (faults : S → ℕ)
    (of : WireError → E) (stop_error : Stop → E) (reason_error : Reason → E) (G : Grammar Reason A) (s : Stop) (old new : S)
    → SaysStops of stop_error reason_error → TakesLayout tells left known faults stop_of G (Err s) old new
    → Takes tells left known faults (causes_of of) (tag reason_error G).read G.used (Err (stop_error s)) old new
layer_stops tells left known faults of stop_error reason_error G s old new says takes = record {
  answers = λ t other kept.
      own_error stop_error reason_error says.reason (G.read (left old)) s
      (takes.answers t (λ is. other (ap stop_error is ∙ says.fault)) (λ is. kept (ap stop_error is ∙ says.no_memory)));
  within = takes.within;
  whole = λ t other kept no_end.
      takes.whole t (λ is. other (ap stop_error is ∙ says.fault)) (λ is. kept (ap stop_error is ∙ says.no_memory))
      (λ is. no_end (ap stop_error is ∙ says.short));
  cut = λ t is. takes.cut t (ap Err (says.only_fault s (cc is)));
  front = takes.front;
  told = takes.told;
  knows = takes.knows;
  fault = λ is. takes.fault (ap Err (says.only_fault s (cc is)));
  calm = λ other. takes.calm (λ is. other (ap stop_error is ∙ says.fault));
}

-- a value that they read is the layer's
pub layer_reads : {S A E : Type 0} (tells : S → Type 0) (left : S → List ℕ) (known : S → Option ℕ) (faults : S → ℕ)
    (of : WireError → E) (reason_error : Reason → E) (G : Grammar Reason A) (v : A) (old new : S)
    → TakesLayout tells left known faults stop_of G (Ok v) old new
    → Takes tells left known faults (causes_of of) (tag reason_error G).read G.used (Ok v) old new
layer_reads tells left known faults of reason_error G v old new takes = record {
  answers = λ t. own_value reason_error (G.read (left old)) (v, left new) (takes.answers t);
  within = takes.within;
  whole = takes.whole;
  cut = λ t is. cc is;
  front = takes.front;
  told = takes.told;
  knows = takes.knows;
  fault = λ is. cc is;
  calm = takes.calm;
}
