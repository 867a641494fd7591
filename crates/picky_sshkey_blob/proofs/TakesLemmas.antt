-- Lemmas on what a reader takes: one layout, and then the one that its value decides.
use Rattle.std.specs.Prelude.{◌≡◌, ◌≤◌, ℕ, List, Option, IsSome, Result, Ok, Err}
use Rattle.std.proofs.Common.{refl, sym, ap, subst, ◌∙◌, arith}
use Rattle.picky_wire_base.specs.Flaw.{Flaw, Reason, Flawed}
use Rattle.picky_wire_base.specs.Outcome.{and_then, map_err}
use Rattle.picky_wire_base.specs.Grammar.{Grammar}
use Rattle.picky_wire_base.specs.Joined.{used_then}
use Rattle.picky_wire_base.specs.Combine.{at, placed}
use Rattle.picky_wire.specs.declared.stop.Stop.{Stop}
use Rattle.picky_wire.specs.Count.{Rose}
use Rattle.picky_wire.specs.Flaws.{TakesLayout, flaw_stop, stop_causes}
use Rattle.picky_wire.specs.Takes.{Causes, EndsIn, Takes}

-- the first was read, before what is left then
pub record Passed {S A E : Type 0} (tells : S → Type 0) (left : S → List ℕ) (known : S → Option ℕ) (faults : S → ℕ)
    (F : Grammar E A) (a : A) (old mid : S) : Type 0 where
  pub read : tells old → F.read (left old) ≡ Ok (a, left mid)
  pub front : tells old → (bytes : List ℕ) → EndsIn bytes (left old) → EndsIn bytes (left mid)
  pub told : tells old → tells mid
  pub knows : IsSome (known old) → IsSome (known mid)
  pub calm : faults mid ≡ faults old

-- the reading and the length of one layout, and then of what follows it
abbrev pub reads_then : {D E A B : Type 0} → (D → E) → Grammar D A → (A × List ℕ → Result (B × List ℕ) D)
    → List ℕ → Result (B × List ℕ) E
reads_then error F next bytes = map_err error (and_then (F.read bytes) next)

abbrev pub uses_then : {D A : Type 0} → Grammar D A → (A × List ℕ → ℕ) → List ℕ → ℕ
uses_then F next bytes = used_then (F.read bytes) (F.used bytes) next

-- Where the first was read, the whole takes what it took and then what the rest takes.
pub then_takes : {S D E A B : Type 0} (tells : S → Type 0) (left : S → List ℕ) (known : S → Option ℕ) (faults : S → ℕ)
    (causes : Causes E) (error : D → E) (F : Grammar D A) (next : A × List ℕ → Result (B × List ℕ) D)
    (next_used : A × List ℕ → ℕ) (a : A) (r : Result B E) (old mid new : S) → Passed tells left known faults F a old mid
    → Takes tells left known faults causes (λ b. map_err error (next (a, b))) (λ b. next_used (a, b)) r mid new
    → Takes tells left known faults causes (reads_then error F next) (uses_then F next_used) r old new
then_takes tells left known faults causes error F next next_used a (Ok v) old mid new first second = record {
  answers = λ t. ap (λ f. map_err error (and_then f next)) (first.read t) ∙ second.answers (first.told t);
  within = λ t.
      let used = ap (λ f. used_then f (F.used (left old)) next_used) (first.read t) in
      let taken = F.takes (left old) a (left mid) (first.read t) in
      omega (arith, used, taken, second.within (first.told t));
  whole = λ t.
      let used = ap (λ f. used_then f (F.used (left old)) next_used) (first.read t) in
      let taken = F.takes (left old) a (left mid) (first.read t) in
      omega (arith, used, taken, second.whole (first.told t));
  cut = λ t is. cc is;
  front = λ t bytes ends. second.front (first.told t) bytes (first.front t bytes ends);
  told = λ t. second.told (first.told t);
  knows = λ some. second.knows (first.knows some);
  fault = λ is. cc is;
  calm = second.calm ∙ first.calm;
}
then_takes tells left known faults causes error F next next_used a (Err e) old mid new first second = record {
  answers = λ t other kept.
      ap (λ f. map_err error (and_then f next)) (first.read t) ∙ second.answers (first.told t) other kept;
  within = λ t.
      let used = ap (λ f. used_then f (F.used (left old)) next_used) (first.read t) in
      let taken = F.takes (left old) a (left mid) (first.read t) in
      omega (arith, used, taken, second.within (first.told t));
  whole = λ t other kept no_end.
      let used = ap (λ f. used_then f (F.used (left old)) next_used) (first.read t) in
      let taken = F.takes (left old) a (left mid) (first.read t) in
      omega (arith, used, taken, second.whole (first.told t) other kept no_end);
  cut = λ t is.
      let used = ap (λ f. used_then f (F.used (left old)) next_used) (first.read t) in
      let taken = F.takes (left old) a (left mid) (first.read t) in
      omega (arith, used, taken, second.cut (first.told t) is);
  front = λ t bytes ends. second.front (first.told t) bytes (first.front t bytes ends);
  told = λ t. second.told (first.told t);
  knows = λ some. second.knows (first.knows some);
  fault = λ is. subst (λ n. Rose n (faults new)) first.calm (second.fault is);
  calm = λ other. second.calm other ∙ first.calm;
}

pub err_behind : {D E A : Type 0} (f : D → E) (r : Result A D) (s : E) → map_err f r ≡ Err s
    → (d : D) × (r ≡ Err d) × (f d ≡ s)
err_behind f (Ok x) s is = cc is
err_behind f (Err d) s is = (d, refl, cc is)

ok_behind : {D E A : Type 0} (f : D → E) (r : Result A D) (x : A) → map_err f r ≡ Ok x → r ≡ Ok x
ok_behind f (Ok y) x is = ap Ok (cc is)
ok_behind f (Err d) x is = cc is

pub field_within : {E A : Type 0} (r : Result (A × List ℕ) E) (field : ℕ) (next : A × List ℕ → ℕ)
    → field ≤ used_then r field next
field_within (Ok first) field next = omega arith
field_within (Err e) field next = omega arith

-- ---- the same of readers that stop

same_stop : {A : Type 0} (stop_at : Reason → Stop) (i : ℕ) (r : Result A Flaw)
    → ((f : Flaw) → stop_at (i, Flawed f) ≡ flaw_stop f) → map_err flaw_stop r ≡ map_err stop_at (map_err (placed i) r)
same_stop stop_at i (Ok x) same = refl
same_stop stop_at i (Err f) same = ap Err (sym (same f))

-- a field that is read by itself is the field at its place
pub field_takes : {S A : Type 0} {tells : S → Type 0} {left : S → List ℕ} {known : S → Option ℕ} {faults : S → ℕ}
    (stop_at : Reason → Stop) (i : ℕ) (G : Grammar Flaw A) (r : Result A Stop) {old new : S}
    → ((f : Flaw) → stop_at (i, Flawed f) ≡ flaw_stop f) → TakesLayout tells left known faults flaw_stop G r old new
    → TakesLayout tells left known faults stop_at (at i G) r old new
field_takes {left = left} stop_at i G (Ok v) {old = old} same takes = record {
  answers = λ t. sym (same_stop stop_at i (G.read (left old)) same) ∙ takes.answers t;
  within = takes.within;
  whole = takes.whole;
  cut = takes.cut;
  front = takes.front;
  told = takes.told;
  knows = takes.knows;
  fault = takes.fault;
  calm = takes.calm;
}
field_takes {left = left} stop_at i G (Err s) {old = old} same takes = record {
  answers = λ t other kept. sym (same_stop stop_at i (G.read (left old)) same) ∙ takes.answers t other kept;
  within = takes.within;
  whole = takes.whole;
  cut = takes.cut;
  front = takes.front;
  told = takes.told;
  knows = takes.knows;
  fault = takes.fault;
  calm = takes.calm;
}

-- a layout that was read, and then the rest
pub part_passes : {S A B : Type 0} {tells : S → Type 0} {left : S → List ℕ} {known : S → Option ℕ} {faults : S → ℕ}
    (stop_at : Reason → Stop) (F : Grammar Reason A) (next : A × List ℕ → Result (B × List ℕ) Reason)
    (next_used : A × List ℕ → ℕ) {a : A} {r : Result B Stop} {old mid new : S}
    → TakesLayout tells left known faults stop_at F (Ok a) old mid
    → Takes tells left known faults stop_causes (λ b. map_err stop_at (next (a, b))) (λ b. next_used (a, b)) r mid new
    → Takes tells left known faults stop_causes (reads_then stop_at F next) (uses_then F next_used) r old new
part_passes {tells = tells} {left = left} {known = known} {faults = faults} stop_at F next next_used {a = a} {r = r} {old = old} {mid = mid} {new = new} first second =
    then_takes tells left known faults stop_causes stop_at F next next_used a r old mid new
    (record {
      read = λ t. ok_behind stop_at (F.read (left old)) (a, left mid) (first.answers t);
      front = first.front;
      told = first.told;
      knows = first.knows;
      calm = first.calm;
    }) second

-- a layout at which the reader stopped
pub part_stops : {S A B : Type 0} {tells : S → Type 0} {left : S → List ℕ} {known : S → Option ℕ} {faults : S → ℕ}
    (stop_at : Reason → Stop) (F : Grammar Reason A) (next : A × List ℕ → Result (B × List ℕ) Reason)
    (next_used : A × List ℕ → ℕ) {s : Stop} {old new : S}
    → TakesLayout tells left known faults stop_at F (Err s) old new
    → Takes {A = B} tells left known faults stop_causes (reads_then stop_at F next) (uses_then F next_used) (Err s) old new
part_stops {left = left} stop_at F next next_used {s = s} {old = old} first =
    let least = field_within (F.read (left old)) (F.used (left old)) next_used in
    record {
      answers = λ t other kept.
          let behind = err_behind stop_at (F.read (left old)) s (first.answers t other kept) in
          ap (λ f. map_err stop_at (and_then f next)) behind.1 ∙ ap Err behind.2;
      within = λ t. omega (arith, least, first.within t);
      whole = λ t other kept no_end.
          let behind = err_behind stop_at (F.read (left old)) s (first.answers t other kept) in
          let used = ap (λ f. used_then f (F.used (left old)) next_used) behind.1 in
          omega (arith, used, first.whole t other kept no_end);
      cut = λ t is. omega (arith, least, first.cut t (cc is));
      front = first.front;
      told = first.told;
      knows = first.knows;
      fault = λ is. first.fault (cc is);
      calm = first.calm;
    }

-- the end of a layout, which takes nothing more
pub part_ends : {S B : Type 0} {tells : S → Type 0} {left : S → List ℕ} {known : S → Option ℕ} {faults : S → ℕ}
    (stop_at : Reason → Stop) (x : B) (s : S)
    → Takes tells left known faults stop_causes (λ b. Ok (x, b)) (λ b. 0) (Ok x) s s
part_ends stop_at x s = record {
  answers = λ t. refl;
  within = λ t. omega arith;
  whole = λ t. omega arith;
  cut = λ t is. cc is;
  front = λ t bytes ends. ends;
  told = λ t. t;
  knows = λ some. some;
  fault = λ is. cc is;
  calm = refl;
}
