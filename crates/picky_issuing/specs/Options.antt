-- What a command line asks of a certificate: options and their values, in any order.
use Rattle.std.specs.Prelude.{◌++◌, List, [], ◌∷◌, ℕ, Option, Some, None}
use Rattle.std.specs.Option.{option_map}
use Rattle.picky_wire_base.specs.Table.{find_entry}
use Rattle.picky_wire.specs.Moment.{timestamp_at}
use Rattle.picky_cert_parts.specs.CertNameTables.{cert_key_types}
use Rattle.picky_issuing.specs.declared.option_word.OptionWord.{OptionWord}
use Rattle.picky_issuing.specs.declared.option_word.OptionWord.TheVariants as words
use Rattle.picky_issuing.specs.declared.options.CertOptions.{CertOptions}
use Rattle.picky_issuing.specs.Steps.{some_then}
use Rattle.picky_issuing.specs.OptionWord.{option_of_word}
use Rattle.picky_issuing.specs.Value.{algorithm_named, cert_type_named, number_named}
use Rattle.picky_issuing.specs.NamedPayload.{requested_critical_option, requested_extension}

-- nothing is asked for
abbrev pub no_options : CertOptions
no_options = record {
  cert_key_type = None;
  cert_type = None;
  serial = None;
  key_id = None;
  principals = [];
  valid_after = None;
  valid_before = None;
  critical_options = [];
  extensions = [];
  signature_algo = None;
}

-- a value that is given, where none was given before
abbrev pub once : {A : Type 0} → Option A → Option A → Option A
once None given = given
once (Some before) given = None

-- what is asked for with one more option and its value
unfoldable pub with_option : OptionWord → List ℕ → CertOptions → Option CertOptions
with_option words.CertKeyType value o =
    option_map (λ t. record o { cert_key_type = Some t }) (once o.cert_key_type (find_entry cert_key_types value))
with_option words.SignatureAlgo value o =
    option_map (λ a. record o { signature_algo = Some a }) (once o.signature_algo (algorithm_named value))
with_option words.CertType value o =
    option_map (λ t. record o { cert_type = Some t }) (once o.cert_type (cert_type_named value))
with_option words.Serial value o =
    option_map (λ n. record o { serial = Some n }) (once o.serial (number_named value))
with_option words.ValidAfter value o =
    option_map (λ t. record o { valid_after = Some t }) (once o.valid_after (option_map timestamp_at (number_named value)))
with_option words.ValidBefore value o =
    option_map (λ t. record o { valid_before = Some t }) (once o.valid_before (option_map timestamp_at (number_named value)))
with_option words.KeyId value o =
    option_map (λ id. record o { key_id = Some id }) (once o.key_id (Some value))
with_option words.Principal value o =
    Some (record o { principals = o.principals ++ value ∷ [] })
with_option words.CriticalOption value o =
    option_map (λ c. record o { critical_options = o.critical_options ++ c ∷ [] }) (requested_critical_option value)
with_option words.Extension value o =
    option_map (λ x. record o { extensions = o.extensions ++ x ∷ [] }) (requested_extension value)

-- what is asked for with all of the words: each option and its value, whatever that begins with, and no word beside them
unfoldable pub with_options : List (List ℕ) → CertOptions → Option CertOptions
with_options [] o = Some o
with_options (word ∷ []) o = None
with_options (word ∷ value ∷ more) o =
    some_then (option_of_word word) (λ option. some_then (with_option option value o) (with_options more))

-- what the words of a command line ask for
abbrev pub options_named : List (List ℕ) → Option CertOptions
options_named words = with_options words no_options
