-- No reason that the lines of a PuTTY private key file are refused for is the suite's or memory's.
use Rattle.std.specs.Prelude.{◌≡◌, Bool, true, false, List, [], ◌∷◌, ℕ, Option, None, Some, Result, Ok, Err, if◌then◌else◌, ◌^◌}
use Rattle.std.specs.Prelude.{nat_lt, length}
use Rattle.std.proofs.Common.{refl}
use Rattle.picky_wire_base.specs.Outcome.{map_err}
use Rattle.picky_text.specs.Lines.{lines}
use Rattle.picky_suite.specs.Meanings.{Meanings}
use Rattle.picky_keys.specs.declared.error.SshPublicKeyError.{SshPublicKeyError}
use Rattle.picky_keys.specs.declared.error.SshPublicKeyError.TheVariants as public
use Rattle.picky_sshkey.proofs.RefusalLaws.{Refuses, err_as, if_as, ok_as, then_as}
use Rattle.picky_kv.specs.Field.{Field, field_value, judged_value, value_refusal}
use Rattle.picky_kv.specs.{declared.PpkValueError.{PpkValueError}, declared.PpkVersionKey.{PpkVersionKey}}
use Rattle.picky_kv.specs.declared.PpkVersionKey.TheVariants.{V2, V3}
use Rattle.picky_kv.specs.{declared.PpkEncryptionValue.{PpkEncryptionValue}, declared.error.KvError.{KvError}}
use Rattle.picky_kv.specs.Context.{need, in_context, refusal_in}
use Rattle.picky_kv.specs.Lines.{key_and_value, first_joined, next_pair, next_block, value_alone}
use Rattle.picky_kv.specs.{NumberFields.{count_field, u32_field}, AlgorithmField.{algorithm_field}}
use Rattle.picky_kv.specs.{ValueFields.{comment_field, base64_field, hex_field}, Choices.{version_row}}
use Rattle.picky_kv.specs.ChoiceFields.{version_field, encryption_field, flavour_field}
use Rattle.picky_kv.specs.Keys.{encryption_key, comment_key, public_lines_key, private_lines_key, private_mac_key}
use Rattle.picky_kv.specs.Keys.{encryption_key_row, comment_key_row, public_lines_key_row, private_lines_key_row}
use Rattle.picky_kv.specs.Keys.{private_mac_key_row}
use Rattle.picky_kv.specs.Argon2Keys.{key_derivation_key, argon2_memory_key, argon2_passes_key, argon2_parallelism_key}
use Rattle.picky_kv.specs.Argon2Keys.{argon2_salt_key, key_derivation_key_row, argon2_memory_key_row, argon2_passes_key_row}
use Rattle.picky_kv.specs.Argon2Keys.{argon2_parallelism_key_row, argon2_salt_key_row}
use Rattle.picky_kv.specs.declared.PpkValueError.TheVariants as value
use Rattle.picky_kv.specs.declared.PpkEncryptionValue.TheVariants as encryptions
use Rattle.picky_kv.specs.declared.error.KvError.TheVariants as kv
use Rattle.picky_ppk_parts.specs.declared.error.PuttyError.{PuttyError}
use Rattle.picky_ppk_parts.specs.declared.error.PuttyError.TheVariants as putty
use Rattle.picky_ppk_file.specs.File.{is_sealed}
use Rattle.picky_ppk_file.specs.FileRefusal.{argon2_in, front_in, sealing_in, file_in, line_error, file_meaning}
use Rattle.picky_ppk.specs.Checked.{checked, ppk_meaning}

-- ---- which reasons are no faults

abbrev IsOwnValue : PpkValueError → Type 0
IsOwnValue value.NoMemory = ⊥
IsOwnValue other = Unit {0}

abbrev IsOwnLine : KvError → Type 0
IsOwnLine kv.NoMemory = ⊥
IsOwnLine other = Unit {0}

abbrev pub IsOwnPublic : SshPublicKeyError → Type 0
IsOwnPublic public.NoMemory = ⊥
IsOwnPublic other = Unit {0}

-- neither the suite's nor memory's
abbrev pub IsOwnPutty : PuttyError → Type 0
IsOwnPutty putty.SuiteFault = ⊥
IsOwnPutty putty.NoMemory = ⊥
IsOwnPutty (putty.SshPublicKey e) = IsOwnPublic e
IsOwnPutty other = Unit {0}

-- Other reasons are such ones where those that come are.
pub mapped_as : {E F A : Type 0} (P : F → Type 0) (f : E → F) (r : Result A E) → ((e : E) → r ≡ Err e → P (f e))
    → Refuses P (map_err f r)
mapped_as P f (Ok x) each e is = cc is
mapped_as P f (Err why) each e is = err_as P (f why) (each why refl) e is

pub either : {A : Type 0} (P : A → Type 0) (b : Bool) (x y : A) → P x → P y → P (if b then x else y)
either P true x y first second = first
either P false x y first second = second

-- ---- the lines of a file

judged_own : {A : Type 0} (is_big : A → Bool) (expected text : List ℕ) (o : Option A)
    → Refuses IsOwnValue (judged_value is_big expected text o)
judged_own is_big expected text (Some v) =
    if_as IsOwnValue (is_big v) (Err value.TooLong) (Ok v) (err_as IsOwnValue value.TooLong tt) (ok_as IsOwnValue v)
judged_own is_big expected text None =
    err_as IsOwnValue (value_refusal expected text)
    (either IsOwnValue (nat_lt (length text) (2 ^ 32)) (value.Parsing (record { expected = expected; actual = text }))
    value.TooLong tt tt)

refusal_own : (context : List ℕ) (e : PpkValueError) → IsOwnValue e → IsOwnLine (refusal_in context e)
refusal_own context (value.Parsing p) own = tt
refusal_own context value.TooLong own = tt
refusal_own context value.NoMemory own = own

context_own : {A : Type 0} (context : List ℕ) (r : Result A PpkValueError) → Refuses IsOwnValue r
    → Refuses IsOwnLine (in_context context r)
context_own context (Ok v) own = ok_as IsOwnLine v
context_own context (Err e) own = err_as IsOwnLine (refusal_in context e) (refusal_own context e (own e refl))

field_own : {A : Type 0} (context : List ℕ) (field : Field A) (text : List ℕ)
    → Refuses IsOwnLine (in_context context (field_value field text))
field_own context field text =
    context_own context (field_value field text) (judged_own field.is_big field.expected text (field.meaning text))

need_own : {A B : Type 0} (e : KvError) (o : Option A) (next : A → Result B KvError) → IsOwnLine e
    → ((v : A) → Refuses IsOwnLine (next v)) → Refuses IsOwnLine (need e o next)
need_own e (Some v) next own each = each v
need_own e None next own each = err_as IsOwnLine e own

pair_own : {K V : Type 0} (key : Field K) (value : Field V) (context : List ℕ) (ls : List (List ℕ))
    → Refuses IsOwnLine (next_pair key value context ls)
pair_own key value context [] = err_as IsOwnLine kv.EndOfInput tt
pair_own key value context (line ∷ ls) =
    need_own kv.InvalidKeyValueFormat (key_and_value line) _ tt (λ texts.
    then_as IsOwnLine (in_context context (field_value key texts.0)) _ (field_own context key texts.0) (λ k.
    then_as IsOwnLine (in_context context (field_value value texts.1)) _ (field_own context value texts.1) (λ v.
    ok_as IsOwnLine _)))

block_own : {K V : Type 0} (key : Field K) (value : Field V) (context : List ℕ) (ls : List (List ℕ))
    → Refuses IsOwnLine (next_block key value context ls)
block_own key value context ls =
    then_as IsOwnLine (next_pair key count_field context ls) _ (pair_own key count_field context ls) (λ head.
    need_own kv.EndOfInput (first_joined head.0.1 head.1) _ tt (λ block.
    then_as IsOwnLine (in_context context (field_value value block.0)) _ (field_own context value block.0) (λ v.
    ok_as IsOwnLine _)))

pair_alone_own : {K V : Type 0} (key : Field K) (value : Field V) (context : List ℕ) (ls : List (List ℕ))
    → Refuses IsOwnLine (value_alone (next_pair key value context ls))
pair_alone_own key value context ls =
    then_as IsOwnLine (next_pair key value context ls) _ (pair_own key value context ls) (λ read. ok_as IsOwnLine _)

block_alone_own : {K V : Type 0} (key : Field K) (value : Field V) (context : List ℕ) (ls : List (List ℕ))
    → Refuses IsOwnLine (value_alone (next_block key value context ls))
block_alone_own key value context ls =
    then_as IsOwnLine (next_block key value context ls) _ (block_own key value context ls) (λ read. ok_as IsOwnLine _)

argon2_own : (ls : List (List ℕ)) → Refuses IsOwnLine (argon2_in ls)
unfolding argon2_in
argon2_own ls =
    then_as IsOwnLine (value_alone (next_pair key_derivation_key flavour_field key_derivation_key_row.name ls)) _
    (pair_alone_own key_derivation_key flavour_field key_derivation_key_row.name ls) (λ flavor.
    then_as IsOwnLine (value_alone (next_pair argon2_memory_key u32_field argon2_memory_key_row.name flavor.1)) _
    (pair_alone_own argon2_memory_key u32_field argon2_memory_key_row.name flavor.1) (λ memory.
    then_as IsOwnLine (value_alone (next_pair argon2_passes_key u32_field argon2_passes_key_row.name memory.1)) _
    (pair_alone_own argon2_passes_key u32_field argon2_passes_key_row.name memory.1) (λ passes.
    then_as IsOwnLine (value_alone (next_pair argon2_parallelism_key u32_field argon2_parallelism_key_row.name passes.1)) _
    (pair_alone_own argon2_parallelism_key u32_field argon2_parallelism_key_row.name passes.1) (λ lanes.
    then_as IsOwnLine (value_alone (next_pair argon2_salt_key hex_field argon2_salt_key_row.name lanes.1)) _
    (pair_alone_own argon2_salt_key hex_field argon2_salt_key_row.name lanes.1) (λ salt. ok_as IsOwnLine _)))))

front_own : (ls : List (List ℕ)) → Refuses IsOwnLine (front_in ls)
unfolding front_in
front_own ls =
    then_as IsOwnLine (next_pair version_field algorithm_field version_row.name ls) _
    (pair_own version_field algorithm_field version_row.name ls) (λ header.
    then_as IsOwnLine (value_alone (next_pair encryption_key encryption_field encryption_key_row.name header.1)) _
    (pair_alone_own encryption_key encryption_field encryption_key_row.name header.1) (λ encryption.
    then_as IsOwnLine (value_alone (next_pair comment_key comment_field comment_key_row.name encryption.1)) _
    (pair_alone_own comment_key comment_field comment_key_row.name encryption.1) (λ comment.
    then_as IsOwnLine (value_alone (next_block public_lines_key base64_field public_lines_key_row.name comment.1)) _
    (block_alone_own public_lines_key base64_field public_lines_key_row.name comment.1) (λ blob. ok_as IsOwnLine _))))

sealing_own : (version : PpkVersionKey) (encryption : PpkEncryptionValue) (ls : List (List ℕ))
    → Refuses IsOwnLine (sealing_in version encryption ls)
sealing_own V2 encryptions.None ls = ok_as IsOwnLine _
sealing_own V3 encryptions.None ls = ok_as IsOwnLine _
sealing_own V2 encryptions.Aes256Cbc ls = ok_as IsOwnLine _
sealing_own V3 encryptions.Aes256Cbc ls =
    then_as IsOwnLine (argon2_in ls) _ (argon2_own ls) (λ params. ok_as IsOwnLine _)

file_own : (ls : List (List ℕ)) → Refuses IsOwnLine (file_in ls)
unfolding file_in
file_own ls =
    then_as IsOwnLine (front_in ls) _ (front_own ls) (λ front.
    then_as IsOwnLine (sealing_in front.0.version front.0.encryption front.1) _
    (sealing_own front.0.version front.0.encryption front.1) (λ sealing.
    then_as IsOwnLine (value_alone (next_block private_lines_key base64_field private_lines_key_row.name sealing.1)) _
    (block_alone_own private_lines_key base64_field private_lines_key_row.name sealing.1) (λ block.
    then_as IsOwnLine (value_alone (next_pair private_mac_key hex_field private_mac_key_row.name block.1)) _
    (pair_alone_own private_mac_key hex_field private_mac_key_row.name block.1) (λ mac. ok_as IsOwnLine _))))

line_error_own : (e : KvError) → IsOwnLine e → IsOwnPutty (line_error e)
line_error_own kv.EndOfInput own = tt
line_error_own kv.InvalidKeyValueFormat own = tt
line_error_own (kv.InvalidInput context expected actual) own = tt
line_error_own kv.TooManyLines own = tt
line_error_own kv.TooLong own = tt
line_error_own kv.NoMemory own = own

file_meaning_own : (text : List ℕ) → Refuses IsOwnPutty (file_meaning text)
unfolding file_meaning
file_meaning_own text =
    then_as IsOwnPutty (map_err line_error (file_in (lines text))) _
    (mapped_as IsOwnPutty line_error (file_in (lines text)) (λ e is. line_error_own e (file_own (lines text) e is)))
    (λ found. ok_as IsOwnPutty _)

pub ppk_meaning_own : (m : Meanings) (text : List ℕ) → Refuses IsOwnPutty (ppk_meaning m text)
unfolding ppk_meaning checked
ppk_meaning_own m text =
    then_as IsOwnPutty (file_meaning text) (checked m) (file_meaning_own text) (λ f.
    if_as IsOwnPutty (is_sealed f.sealing) _ _ (ok_as IsOwnPutty f)
    (if_as IsOwnPutty _ _ _ (ok_as IsOwnPutty f) (err_as IsOwnPutty putty.MacValidation tt)))
