-- Two keys are one where they are written alike, and the first line for a key.
use Rattle.std.proofs.Common.{◌≡◌, Bool, true, false, List, [], ◌∷◌, ◌++◌, Some, refl, sym, ◌∙◌, ap, inl, inr}
use Rattle.std.proofs.lemmas.Bool.{cases_Bool, false_from_ne_true}
use Rattle.std.proofs.lemmas.Slice.Eq.{bytes_eq-Decides}
use Rattle.std.specs.List.{AllByRecursion}
use Rattle.picky_wire_base.proofs.Grammar.{one_front}
use Rattle.picky_keys.specs.Blob.{blob, blob_of}
use Rattle.picky_keys.specs.Key.{IsKey}
use Rattle.picky_keys.specs.carried.Blob.{blob_spells}
use Rattle.picky_keys.specs.declared.key.SshBasePublicKey.{SshBasePublicKey}
use Rattle.picky_authorized.specs.declared.entry.AuthEntry.{AuthEntry}
use Rattle.picky_policy.specs.Decided.{IsLineFor, Line, is_for, is_key, line_for, entry_line_of}

-- ---- keys

-- two keys of one blob are one key
same_blob : (a b : SshBasePublicKey) → IsKey a → IsKey b → blob_of a ≡ blob_of b → a ≡ b
same_blob a b is_a is_b same =
    (one_front blob a b (blob_of a) (blob_of b) [] [] (blob_spells a is_a) (blob_spells b is_b)
    (ap (λ bytes. bytes ++ []) same)).value

-- what a comparison says
pub says_key : (key other : SshBasePublicKey) (same : Bool) → IsKey key → IsKey other → (same ≡ true → key ≡ other)
    → (same ≡ false → key ≡ other → ⊥) → same ≡ is_key key other
says_key key other true is_k is_o alike apart =
    sym ((bytes_eq-Decides (blob_of other) (blob_of key)).1 (ap blob_of (sym (alike refl))))
says_key key other false is_k is_o alike apart =
    sym (false_from_ne_true (is_key key other) (λ written. apart refl (same_blob key other is_k is_o
    (sym ((bytes_eq-Decides (blob_of other) (blob_of key)).0 written)))))

-- ---- lines

pub line_found : (authority : Bool) (key : SshBasePublicKey) (entries : List AuthEntry) (line : Line)
    → line_for authority key entries ≡ Some line → IsLineFor authority key entries line
unfolding line_for
line_found authority key [] line is = cc is
line_found authority key (entry ∷ more) line is = elim (cases_Bool (is_for authority key entry.content)) [
  | inl this ↦
      let here : Some (entry_line_of entry) ≡ Some line = rw this at is in record {
        front = [];
        entry = entry;
        rest = more;
        whole = refl;
        none = tt;
        is = this;
        same = sym (cc here);
      }
  | inr other ↦
      let later = line_found authority key more line (rw other at is) in record {
        front = entry ∷ later.front;
        entry = later.entry;
        rest = later.rest;
        whole = ap (λ l. entry ∷ l) later.whole;
        none = (other, later.none);
        is = later.is;
        same = later.same;
      }
]

line_behind : (authority : Bool) (key : SshBasePublicKey) (front : List AuthEntry) (entry : AuthEntry) (rest : List AuthEntry)
    → AllByRecursion (λ before. is_for authority key before.content ≡ false) front
    → is_for authority key entry.content ≡ true → line_for authority key (front ++ entry ∷ rest) ≡ Some (entry_line_of entry)
unfolding line_for
line_behind authority key [] entry rest none is = rw is refl
line_behind authority key (before ∷ front) entry rest none is =
    rw none.0 (line_behind authority key front entry rest none.1 is)

pub line_is : (authority : Bool) (key : SshBasePublicKey) (entries : List AuthEntry) (line : Line)
    → IsLineFor authority key entries line → line_for authority key entries ≡ Some line
line_is authority key entries line is =
    ap (line_for authority key) is.whole ∙ line_behind authority key is.front is.entry is.rest is.none is.is
    ∙ ap Some (sym is.same)
