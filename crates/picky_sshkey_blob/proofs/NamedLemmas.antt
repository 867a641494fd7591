-- Lemmas on reading a layout that begins with a name of a table, which decides the rest, where an unknown name is the
-- error's own. The name is read first, and then the fields; each stops by itself.
use Rattle.std.specs.Prelude.{◌≡◌, ◌≢◌, ◌<◌, ◌^◌, ◌++◌, ℕ, List, [], Option, Some, None, ok_or, length, IsUtf8}
use Rattle.std.specs.Prelude.{Result, Ok, Err}
use Rattle.std.proofs.Common.{refl, ap, ◌∙◌, arith}
use Rattle.picky_wire_base.specs.Flaw.{Flaw, Reason, Flawed, Name}
use Rattle.picky_wire_base.specs.Outcome.{and_then, map_err}
use Rattle.picky_wire_base.specs.carried.Outcome.{map_err_ok}
use Rattle.picky_wire_base.specs.Grammar.{Grammar}
use Rattle.picky_wire_base.specs.Joined.{used_then}
use Rattle.picky_wire_base.specs.Combine.{tag, ◌>>=◌}
use Rattle.picky_wire_base.specs.Narrowed.{meant}
use Rattle.picky_wire_base.specs.Table.{Table, find_entry}
use Rattle.picky_wire_base.specs.Entry.{entry}
use Rattle.picky_wire_base.specs.Named.{named}
use Rattle.picky_wire_base.specs.Wire.{text, string_of}
use Rattle.picky_wire_base.proofs.Strings.{text_reads_back}
use Rattle.picky_wire_base.proofs.Narrowed.{place_keeps}
use Rattle.picky_wire.specs.declared.error.WireError.{WireError}
use Rattle.picky_wire.specs.declared.error.WireError.TheVariants as errors
use Rattle.picky_wire.specs.declared.stop.Stop.{Stop}
use Rattle.picky_wire.specs.declared.stop.Stop.TheVariants as stops
use Rattle.picky_wire.specs.Flaws.{TakesLayout, flaw_stop}
use Rattle.picky_wire.specs.Takes.{Causes, Takes, causes_of}
use Rattle.picky_sshkey_blob.proofs.RefusedLemmas.{RefusesAs, NotName}
use Rattle.picky_sshkey_blob.proofs.TakesLemmas.{then_takes, err_behind, field_within}

-- a layer's error for each stop: reasons without a name go through their stops, and the wire's errors and no others
-- through theirs
pub record SaysStops {E : Type 0} (of : WireError → E) (stop_at : Reason → Stop) (stop_error : Stop → E)
    (reason_error : Reason → E) : Type 0 where
  pub reason : (r : Reason) → NotName r → reason_error r ≡ stop_error (stop_at r)
  pub flaw : (i : ℕ) (f : Flaw) → reason_error (i, Flawed f) ≡ stop_error (flaw_stop f)
  pub fault : stop_error stops.Fault ≡ of errors.ReadFault
  pub no_memory : stop_error stops.NoMemory ≡ of errors.NoMemory
  pub short : stop_error stops.Short ≡ of errors.UnexpectedEnd
  pub only_fault : (s : Stop) → stop_error s ≡ of errors.ReadFault → s ≡ stops.Fault

-- ---- the fields after the name

own_error : {A E : Type 0} (stop_at : Reason → Stop) (stop_error : Stop → E) (reason_error : Reason → E)
    → ((r : Reason) → NotName r → reason_error r ≡ stop_error (stop_at r)) → (r : Result (A × List ℕ) Reason)
    → ((e : Reason) → r ≡ Err e → NotName e) → (s : Stop)
    → map_err stop_at r ≡ Err s → map_err reason_error r ≡ Err (stop_error s)
own_error stop_at stop_error reason_error says (Ok x) no_name s is = cc is
own_error stop_at stop_error reason_error says (Err e) no_name s is =
    let same : stop_at e ≡ s = cc is in
    ap Err (says e (no_name e refl) ∙ ap stop_error same)

-- where their readers stopped, the layer answers its error
pub fields_stop : {S A E : Type 0} (tells : S → Type 0) (left : S → List ℕ) (known : S → Option ℕ) (faults : S → ℕ)
    (of : WireError → E) (stop_at : Reason → Stop) (stop_error : Stop → E) (reason_error : Reason → E)
    (F : Grammar Reason A) (s : Stop) (old new : S)
    → SaysStops of stop_at stop_error reason_error → RefusesAs NotName F.read
    → TakesLayout tells left known faults stop_at F (Err s) old new
    → Takes tells left known faults (causes_of of) (tag reason_error F).read F.used (Err (stop_error s)) old new
fields_stop tells left known faults of stop_at stop_error reason_error F s old new says no_name takes = record {
  answers = λ t other kept.
      own_error stop_at stop_error reason_error says.reason (F.read (left old)) (no_name (left old)) s
      (takes.answers t (λ is. other (ap stop_error is ∙ says.fault)) (λ is. kept (ap stop_error is ∙ says.no_memory)));
  within = takes.within;
  whole = λ t other kept no_end.
      takes.whole t (λ is. other (ap stop_error is ∙ says.fault)) (λ is. kept (ap stop_error is ∙ says.no_memory))
      (λ is. no_end (ap stop_error is ∙ says.short));
  cut = λ t is. takes.cut t (ap Err (says.only_fault s (cc is)));
  front = takes.front;
  told = takes.told;
  knows = takes.knows;
  fault = λ is. takes.fault (ap Err (says.only_fault s (cc is)));
  calm = λ other. takes.calm (λ is. other (ap stop_error is ∙ says.fault));
}

-- a value that they read is the layer's
pub fields_read : {S A E : Type 0} (tells : S → Type 0) (left : S → List ℕ) (known : S → Option ℕ) (faults : S → ℕ)
    (of : WireError → E) (stop_at : Reason → Stop) (reason_error : Reason → E) (F : Grammar Reason A) (v : A) (old new : S)
    → TakesLayout tells left known faults stop_at F (Ok v) old new
    → Takes tells left known faults (causes_of of) (tag reason_error F).read F.used (Ok v) old new
fields_read tells left known faults of stop_at reason_error F v old new takes = record {
  answers = λ t. ap (map_err reason_error) (map_err_ok stop_at (F.read (left old)) (v, left new) (takes.answers t));
  within = takes.within;
  whole = takes.whole;
  cut = λ t is. cc is;
  front = takes.front;
  told = takes.told;
  knows = takes.knows;
  fault = λ is. cc is;
  calm = takes.calm;
}

-- ---- the name before them

-- a name of the table is its entry
name_is_read : {A : Type 0} (T : Table (List ℕ) A) (bytes name rest : List ℕ) (a : A)
    → text.read bytes ≡ Ok (name, rest) → find_entry T name ≡ Some a → (named 0 T).read bytes ≡ Ok (a, rest)
name_is_read T bytes name rest a read found =
    ap (λ r. and_then (map_err (λ f. (0, Flawed f)) r) (meant (entry (λ n. (0, Name n)) T))) read
    ∙ ap (λ o. and_then (ok_or o (0, Name name)) (λ b. Ok (b, rest))) found

-- and another is refused
name_is_refused : {A : Type 0} (T : Table (List ℕ) A) (bytes name rest : List ℕ)
    → text.read bytes ≡ Ok (name, rest) → find_entry T name ≡ None → (named 0 T).read bytes ≡ Err (0, Name name)
name_is_refused T bytes name rest read none =
    ap (λ r. and_then (map_err (λ f. (0, Flawed f)) r) (meant (entry (λ n. (0, Name n)) T))) read
    ∙ ap (λ o. and_then (ok_or o (0, Name name)) (λ b. Ok (b, rest))) none

-- ---- the three ways

-- The name of an entry, and then its fields.
pub name_then_fields : {S A B E : Type 0} (tells : S → Type 0) (left : S → List ℕ) (known : S → Option ℕ) (faults : S → ℕ)
    (causes : Causes E) (error : Reason → E) (T : Table (List ℕ) A) (H : A → Grammar Reason B)
    (name : List ℕ) (a : A) (r : Result B E) (old mid new : S)
    → TakesLayout tells left known faults flaw_stop text (Ok name) old mid → find_entry T name ≡ Some a
    → Takes tells left known faults causes (tag error (H a)).read (H a).used r mid new
    → Takes tells left known faults causes (tag error (named 0 T >>= H)).read (named 0 T >>= H).used r old new
name_then_fields tells left known faults causes error T H name a r old mid new first found second =
    then_takes tells left known faults causes error (named 0 T) (λ f. (H f.0).read f.1) (λ f. (H f.0).used f.1) a r old mid new
    (record {
      read = λ t.
          name_is_read T (left old) name (left mid) a
          (map_err_ok flaw_stop (text.read (left old)) (name, left mid) (first.answers t)) found;
      front = first.front;
      told = first.told;
      knows = first.knows;
      calm = first.calm;
    }) second

-- where the first is refused, the whole is, at its end
first_refused : {E D A B : Type 0} (error : D → E) (F : Grammar D A) (H : A → Grammar D B) (bytes : List ℕ) (e : D)
    → F.read bytes ≡ Err e → (tag error (F >>= H)).read bytes ≡ Err (error e)
first_refused error F H bytes e refused = ap (λ r. map_err error (and_then r (λ f. (H f.0).read f.1))) refused

first_used : {E A B : Type 0} (F : Grammar E A) (H : A → Grammar E B) (bytes : List ℕ) (e : E)
    → F.read bytes ≡ Err e → (F >>= H).used bytes ≡ F.used bytes
first_used F H bytes e refused = ap (λ r. used_then r (F.used bytes) (λ f. (H f.0).used f.1)) refused

-- Another name.
pub name_is_unknown : {S A B E : Type 0} (tells : S → Type 0) (left : S → List ℕ) (known : S → Option ℕ) (faults : S → ℕ)
    (of : WireError → E) (error : Reason → E) (T : Table (List ℕ) A) (H : A → Grammar Reason B) (name : List ℕ) (old new : S)
    → TakesLayout tells left known faults flaw_stop text (Ok name) old new → find_entry T name ≡ None
    → error (0, Name name) ≢ of errors.ReadFault
    → Takes tells left known faults (causes_of of) (tag error (named 0 T >>= H)).read (named 0 T >>= H).used
    (Err (error (0, Name name))) old new
name_is_unknown {B = B} tells left known faults of error T H name old new first none own =
    let refused = λ (t : tells old).
    name_is_refused T (left old) name (left new)
    (map_err_ok flaw_stop (text.read (left old)) (name, left new) (first.answers t)) none in
    let used = λ (t : tells old). first_used (named 0 T) H (left old) (0, Name name) (refused t) in
    record {
      answers = λ t other kept. first_refused error (named 0 T) H (left old) (0, Name name) (refused t);
      within = λ t. omega (arith, used t, first.within t);
      whole = λ t other kept no_end. omega (arith, used t, first.whole t);
      cut = λ t is. absurd (own (cc is));
      front = first.front;
      told = first.told;
      knows = first.knows;
      fault = λ is. absurd (own (cc is));
      calm = λ other. first.calm;
    }

-- No name.
pub name_stops : {S A B E : Type 0} (tells : S → Type 0) (left : S → List ℕ) (known : S → Option ℕ) (faults : S → ℕ)
    (of : WireError → E) (stop_at : Reason → Stop) (stop_error : Stop → E) (error : Reason → E)
    (T : Table (List ℕ) A) (H : A → Grammar Reason B) (s : Stop) (old new : S) → SaysStops of stop_at stop_error error
    → TakesLayout tells left known faults flaw_stop text (Err s) old new
    → Takes tells left known faults (causes_of of) (tag error (named 0 T >>= H)).read (named 0 T >>= H).used
    (Err (stop_error s)) old new
name_stops tells left known faults of stop_at stop_error error T H s old new says first =
    let least = field_within ((named 0 T).read (left old)) (text.used (left old)) (λ f. (H f.0).used f.1) in
    record {
      answers = λ t other kept.
          let behind = err_behind flaw_stop (text.read (left old)) s
          (first.answers t (λ is. other (ap stop_error is ∙ says.fault)) (λ is. kept (ap stop_error is ∙ says.no_memory))) in
          let refused = place_keeps 0 text (entry (λ n. (0, Name n)) T) (left old) behind.0 behind.1 in
          first_refused error (named 0 T) H (left old) (0, Flawed behind.0) refused
          ∙ ap Err (says.flaw 0 behind.0 ∙ ap stop_error behind.2);
      within = λ t. omega (arith, least, first.within t);
      whole = λ t other kept no_end.
          let s_other : s ≢ stops.Fault = λ is. other (ap stop_error is ∙ says.fault) in
          let s_kept : s ≢ stops.NoMemory = λ is. kept (ap stop_error is ∙ says.no_memory) in
          let behind = err_behind flaw_stop (text.read (left old)) s (first.answers t s_other s_kept) in
          let refused = place_keeps 0 text (entry (λ n. (0, Name n)) T) (left old) behind.0 behind.1 in
          let used = first_used (named 0 T) H (left old) (0, Flawed behind.0) refused in
          omega (arith, used, first.whole t s_other s_kept (λ is. no_end (ap stop_error is ∙ says.short)));
      cut = λ t is. omega (arith, least, first.cut t (ap Err (says.only_fault s (cc is))));
      front = first.front;
      told = first.told;
      knows = first.knows;
      fault = λ is. first.fault (ap Err (says.only_fault s (cc is)));
      calm = λ other. first.calm (λ is. other (ap stop_error is ∙ says.fault));
    }

-- Each text that is no name of the table is refused, alone.
pub name_alone_is_refused : {A B : Type 0} (T : Table (List ℕ) A) (H : A → Grammar Reason B) (name : List ℕ)
    → length name < 2 ^ 32 → IsUtf8 name → find_entry T name ≡ None
    → (named 0 T >>= H).read (string_of name ++ []) ≡ Err (0, Name name)
name_alone_is_refused T H name short utf8 none =
    ap (λ r. and_then r (λ f. (H f.0).read f.1))
    (name_is_refused T (string_of name ++ []) name [] (text_reads_back name [] short utf8) none)
