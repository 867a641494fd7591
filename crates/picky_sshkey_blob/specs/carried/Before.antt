-- That the reading of a secret before a copy is sound and complete.
use Rattle.std.specs.Prelude.{◌≡◌, Bool, true, false, List, ℕ, ◌+◌, ◌++◌, ◌&&◌, nat_le, length, take, drop, bytes_eq}
use Rattle.std.specs.Prelude.{if◌then◌else◌, Ok, Err}
use Rattle.std.proofs.Common.{refl, sym, ap, ◌∙◌, arith}
use Rattle.std.proofs.lemmas.Bool.{leb-true, le-leb}
use Rattle.std.proofs.lemmas.Slice.Eq.{bytes_eq-Decides}
use Rattle.std.proofs.lemmas.List.{take-append-drop, length-append, length-take-le, drop_at}
use Rattle.std.proofs.Math.Seq.{take-append_seam}
use Rattle.picky_wire_base.specs.carried.Outcome.{passed_ok}
use Rattle.picky_sshkey_blob.specs.Before.{StandsBefore, read_before}

both_true : (a b : Bool) → (a && b) ≡ true → (a ≡ true) × (b ≡ true)
both_true true true is = (refl, refl)
both_true true false is = cc is
both_true false b is = cc is

true_both : (a b : Bool) → a ≡ true → b ≡ true → (a && b) ≡ true
true_both a b first second = ap (λ t. t && b) first ∙ second

pub before_sound : {E : Type 0} (why : E) (public both secret : List ℕ)
    → read_before why public both ≡ Ok secret → StandsBefore public both secret
before_sound why public both secret is =
    let passed = passed_ok (nat_le 32 (length both) && bytes_eq (drop 32 both) public) why (take 32 both) secret is in
    let tests = both_true (nat_le 32 (length both)) (bytes_eq (drop 32 both) public) passed.0 in
    let long = leb-true 32 (length both) tests.0 in
    let copy = (bytes_eq-Decides (drop 32 both) public).0 tests.1 in (
      sym (take-append-drop 32 both) ∙ ap (λ b. take 32 both ++ b) copy ∙ ap (λ a. a ++ public) passed.1,
      ap length (sym passed.1) ∙ length-take-le 32 both long,
    )

pub before_complete : {E : Type 0} (why : E) (public both secret : List ℕ)
    → StandsBefore public both secret → read_before why public both ≡ Ok secret
before_complete why public both secret (are, len) =
    let whole : length both ≡ length secret + length public = ap length are ∙ length-append secret public in
    let long : nat_le 32 (length both) ≡ true = le-leb 32 (length both) (omega arith) in
    let behind : drop 32 both ≡ public = ap (drop 32) are ∙ drop_at secret public 32 len in
    let copy : bytes_eq (drop 32 both) public ≡ true = (bytes_eq-Decides (drop 32 both) public).1 behind in
    let cut : take 32 (secret ++ public) ≡ secret =
    ap (λ n. take n (secret ++ public)) (sym len) ∙ take-append_seam secret public in
    let front : take 32 both ≡ secret = ap (take 32) are ∙ cut in
    ap (λ t. if t then Ok (take 32 both) else Err why) (true_both _ _ long copy) ∙ ap Ok front
