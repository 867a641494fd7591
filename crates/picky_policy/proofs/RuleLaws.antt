-- The rules are the relation.
use Rattle.std.proofs.Common.{◌≡◌, ◌==◌, ◌||◌, ℕ, true, false, List, length, Option, Some, None, Ok}
use Rattle.std.proofs.Common.{refl, ap, inl, inr, subst}
use Rattle.std.proofs.lemmas.Bool.{cases_Bool, eqb-true, le-ltb, leb-false, lt-leb, ltb-false, or_cases, or_right}
use Rattle.std.proofs.lemmas.List.{nil_from_length}
use Rattle.std.proofs.lemmas.List.Folds.{Any-from_list_any, list_any-from_Any}
use Rattle.std.proofs.lemmas.Slice.Eq.{bytes_eq-Decides}
use Rattle.std.specs.List.{Contains, slice_index_or}
use Rattle.std.specs.Option.{ok_or}
use Rattle.std.specs.Prelude.{bytes_eq, nat_le, nat_lt}
use Rattle.picky_wire.specs.declared.timestamp.Timestamp.{Timestamp}
use Rattle.picky_authorized.specs.KnownOptions.{principals}
use Rattle.picky_authorized.specs.declared.auth_option.AuthOption.{AuthOption}
use Rattle.picky_cert.specs.declared.certificate.SshCertificate.{SshCertificate}
use Rattle.picky_cert_parts.specs.declared.cert_type.SshCertType.{SshCertType}
use Rattle.picky_cert_parts.specs.declared.cert_type.SshCertType.TheVariants.{Client, Host}
use Rattle.picky_policy.specs.Demands.{Demands, demands_in}
use Rattle.picky_policy.specs.Rules.{IsForUser, Lets, is_among, is_for_user, is_host, judged_rules, names_in, value_named}
use Rattle.picky_policy.specs.declared.decision.Denial.TheVariants as denials
use Rattle.picky_policy.proofs.DemandLaws.{demands_are, demands_say}

-- ---- principals

among : (name : List ℕ) (names : List (List ℕ)) → is_among name names ≡ true → Contains names name
among name names is =
    let found = Any-from_list_any (λ other. bytes_eq other name) names is in
    let same : found.1 ≡ name = (bytes_eq-Decides found.1 name).0 found.4 in
    (found.0, found.2, subst (λ n. slice_index_or names found.0 n ≡ n) same found.3)

is_there : (name : List ℕ) (names : List (List ℕ)) → Contains names name → is_among name names ≡ true
is_there name names has =
    list_any-from_Any (λ other. bytes_eq other name) names
    (has.0, name, has.1, has.2, (bytes_eq-Decides name name).1 refl)

for_user : (value : Option (List ℕ)) (names : List (List ℕ)) (user : List ℕ) → is_for_user value names user ≡ true
    → IsForUser value names user
for_user (Some value) names user is =
    let found = Any-from_list_any (λ name. is_among name names) (names_in value) is in
    (found.1, (found.0, found.2, found.3), among found.1 names found.4)
for_user None names user is = elim (or_cases (length names == 0) (is_among user names) is) [
  | inl none ↦ inl (nil_from_length names (eqb-true (length names) 0 none))
  | inr there ↦ inr (among user names there)
]

is_for : (value : Option (List ℕ)) (names : List (List ℕ)) (user : List ℕ) → IsForUser value names user
    → is_for_user value names user ≡ true
is_for (Some value) names user (name, has, there) =
    list_any-from_Any (λ n. is_among n names) (names_in value) (has.0, name, has.1, has.2, is_there name names there)
is_for None names user (inl none) = ap (λ l. length l == 0 || is_among user l) none
is_for None names user (inr there) = or_right (length names == 0) (is_among user names) (is_there user names there)

-- ---- the rules

ok_some : {A E : Type 0} (o : Option A) (e : E) (x : A) → ok_or o e ≡ Ok x → o ≡ Some x
ok_some None e x is = absurd (cc is)
ok_some (Some y) e x is = let same : y ≡ x = cc is in ap Some same

client : (t : SshCertType) → is_host t ≡ false → t ≡ Client
client Client is = refl
client Host is = absurd (cc is)

pub rules_say : (options : List AuthOption) (c : SshCertificate) (user : List ℕ) (moment : Timestamp) (d : Demands)
    → judged_rules options c user moment ≡ Ok d → Lets options c user moment d
unfolding judged_rules
rules_say options c user moment d is = elim (cases_Bool (is_host c.cert_type)) [
  | inl host ↦ absurd (cc (rw host at is))
  | inr other ↦ elim (cases_Bool (nat_lt moment.0 c.valid_after.0)) [
    | inl early ↦ absurd (cc (rw (other, early) at is))
    | inr begun ↦ elim (cases_Bool (nat_le c.valid_before.0 moment.0)) [
      | inl late ↦ absurd (cc (rw (other, begun, late) at is))
      | inr lasts ↦ elim (cases_Bool (is_for_user (value_named principals options) c.valid_principals user)) [
        | inl for ↦
            let demanded : ok_or (demands_in c.critical_options) denials.CriticalOption ≡ Ok d =
            rw (other, begun, lasts, for) at is in record {
              client = client c.cert_type other;
              begun = ltb-false moment.0 c.valid_after.0 begun;
              lasts = leb-false c.valid_before.0 moment.0 lasts;
              principal = for_user (value_named principals options) c.valid_principals user for;
              demands =
                  demands_say c.critical_options d
                  (ok_some (demands_in c.critical_options) denials.CriticalOption d demanded);
            }
        | inr not ↦ absurd (cc (rw (other, begun, lasts, not) at is))
      ]
    ]
  ]
]

pub rules_are : (options : List AuthOption) (c : SshCertificate) (user : List ℕ) (moment : Timestamp) (d : Demands)
    → Lets options c user moment d → judged_rules options c user moment ≡ Ok d
unfolding judged_rules
rules_are options c user moment d lets =
    let other : is_host c.cert_type ≡ false = ap is_host lets.client in
    let begun : nat_lt moment.0 c.valid_after.0 ≡ false = le-ltb moment.0 c.valid_after.0 lets.begun in
    let lasts : nat_le c.valid_before.0 moment.0 ≡ false = lt-leb c.valid_before.0 moment.0 lets.lasts in
    let for : is_for_user (value_named principals options) c.valid_principals user ≡ true =
    is_for (value_named principals options) c.valid_principals user lets.principal in
    rw (other, begun, lasts, for) (ap (λ o. ok_or o denials.CriticalOption) (demands_are c.critical_options d lets.demands))
