-- The words of the contracts: the definitions that public clauses of the crates below depend on. Written by check/facade.
pub use Rattle.picky_wire_base.specs.ByteArray
pub use Rattle.picky_wire_base.specs.Combine
pub use Rattle.picky_wire_base.specs.Empty
pub use Rattle.picky_wire_base.specs.Entry as WireEntry
pub use Rattle.picky_wire_base.specs.Equality
pub use Rattle.picky_wire_base.specs.Fixed
pub use Rattle.picky_wire_base.specs.Flaw
pub use Rattle.picky_wire_base.specs.Front
pub use Rattle.picky_wire_base.specs.Gives
pub use Rattle.picky_wire_base.specs.Grammar
pub use Rattle.picky_wire_base.specs.Inside
pub use Rattle.picky_wire_base.specs.Joined as WireJoined
pub use Rattle.picky_wire_base.specs.Magnitude
pub use Rattle.picky_wire_base.specs.Many
pub use Rattle.picky_wire_base.specs.Mpint
pub use Rattle.picky_wire_base.specs.Named
pub use Rattle.picky_wire_base.specs.Narrowed
pub use Rattle.picky_wire_base.specs.Numbers as WireNumbers
pub use Rattle.picky_wire_base.specs.OrEmpty
pub use Rattle.picky_wire_base.specs.Outcome
pub use Rattle.picky_wire_base.specs.Reading
pub use Rattle.picky_wire_base.specs.Row
pub use Rattle.picky_wire_base.specs.Short
pub use Rattle.picky_wire_base.specs.Table
pub use Rattle.picky_wire_base.specs.View as WireView
pub use Rattle.picky_wire_base.specs.When
pub use Rattle.picky_wire_base.specs.Wire
pub use Rattle.picky_wire_base.specs.Zeros as WireZeros
pub use Rattle.picky_text.specs.Appended
pub use Rattle.picky_text.specs.Base64
pub use Rattle.picky_text.specs.Behind
pub use Rattle.picky_text.specs.Lines as TextLines
pub use Rattle.picky_text.specs.Quote
pub use Rattle.picky_text.specs.Rows as TextRows
pub use Rattle.picky_text.specs.Words
pub use Rattle.picky_wire.specs.Count
pub use Rattle.picky_wire.specs.Flaws
pub use Rattle.picky_wire.specs.Known
pub use Rattle.picky_wire.specs.LengthFirst
pub use Rattle.picky_wire.specs.Memory as WireMemory
pub use Rattle.picky_wire.specs.Moment
pub use Rattle.picky_wire.specs.OfWire
pub use Rattle.picky_wire.specs.Principals
pub use Rattle.picky_wire.specs.Puts
pub use Rattle.picky_wire.specs.Takes
pub use Rattle.picky_wire.specs.Unread
pub use Rattle.picky_input.specs.Extent
pub use Rattle.picky_input.specs.Input
pub use Rattle.picky_input.specs.SourceText
pub use Rattle.picky_keys.specs.Blob as SshPublicBlob
pub use Rattle.picky_keys.specs.BlobLayout as SshPublicBlobLayout
pub use Rattle.picky_keys.specs.BlobRefusal as SshPublicBlobRefusal
pub use Rattle.picky_keys.specs.BlobSpelled
pub use Rattle.picky_keys.specs.FromWire as SshPublicFromWire
pub use Rattle.picky_keys.specs.Key as SshPublicKey
pub use Rattle.picky_keys.specs.KeyNameTables
pub use Rattle.picky_keys.specs.KeyNames
pub use Rattle.picky_keys.specs.Line as SshPublicLine
pub use Rattle.picky_keys.specs.LineRefusal as SshPublicLineRefusal
pub use Rattle.picky_keys.specs.PrivateKey
pub use Rattle.picky_keys.specs.PublicKey
pub use Rattle.picky_keys.specs.SourceLine as SshPublicSourceLine
pub use Rattle.picky_keys.specs.View as SshPublicView
pub use Rattle.picky_suite.specs.Asked as SuiteAsked
pub use Rattle.picky_suite.specs.Failures
pub use Rattle.picky_suite.specs.Fills
pub use Rattle.picky_suite.specs.Hmac
pub use Rattle.picky_suite.specs.Mac as SuiteMac
pub use Rattle.picky_suite.specs.Meanings
pub use Rattle.picky_suite.specs.Memory as SuiteMemory
pub use Rattle.picky_suite.specs.Ranges
pub use Rattle.picky_suite.specs.Signs
pub use Rattle.picky_suite.specs.Toy
pub use Rattle.picky_suite.specs.Zeros as SuiteZeros
pub use Rattle.picky_ask.specs.Algorithm as AskAlgorithm
pub use Rattle.picky_ask.specs.AlgorithmNumber
pub use Rattle.picky_ask.specs.Answered
pub use Rattle.picky_ask.specs.Cause
pub use Rattle.picky_ask.specs.Completion
pub use Rattle.picky_ask.specs.Head
pub use Rattle.picky_ask.specs.Known as AskKnown
pub use Rattle.picky_ask.specs.Lookup
pub use Rattle.picky_ask.specs.Operation
pub use Rattle.picky_ask.specs.OperationNumber
pub use Rattle.picky_ask.specs.Question as AskQuestion
pub use Rattle.picky_ask.specs.Same
pub use Rattle.picky_ask.specs.Signing as AskSigning
pub use Rattle.picky_ask.specs.State as AskState
pub use Rattle.picky_ask.specs.Table as AskTable
pub use Rattle.picky_ask.specs.Whole
pub use Rattle.picky_authorized.specs.Entries
pub use Rattle.picky_authorized.specs.KnownOptions
pub use Rattle.picky_authorized.specs.Lines as AuthorizedLines
pub use Rattle.picky_authorized.specs.OptionText
pub use Rattle.picky_authorized.specs.Options as AuthorizedOptions
pub use Rattle.picky_authorized.specs.Quotes
pub use Rattle.picky_sshkey_blob.specs.Before
pub use Rattle.picky_sshkey_blob.specs.Blob as SshPrivateBlob
pub use Rattle.picky_sshkey_blob.specs.BlobLayout as SshPrivateBlobLayout
pub use Rattle.picky_sshkey_blob.specs.BlobRefusal as SshPrivateBlobRefusal
pub use Rattle.picky_sshkey_blob.specs.Copy
pub use Rattle.picky_sshkey_blob.specs.FromWire as SshPrivateFromWire
pub use Rattle.picky_sshkey_blob.specs.Key as SshPrivateKey
pub use Rattle.picky_sshkey_blob.specs.Pem
pub use Rattle.picky_sshkey_blob.specs.PemRefusal
pub use Rattle.picky_sshkey_blob.specs.SecretSpelled
pub use Rattle.picky_sshkey_blob.specs.View as SshPrivateView
pub use Rattle.picky_sshkey.specs.Cipher
pub use Rattle.picky_sshkey.specs.CipherNames
pub use Rattle.picky_sshkey.specs.Encodes
pub use Rattle.picky_sshkey.specs.Envelope
pub use Rattle.picky_sshkey.specs.Kdf
pub use Rattle.picky_sshkey.specs.KdfLayout
pub use Rattle.picky_sshkey.specs.Kept as SshPrivateKept
pub use Rattle.picky_sshkey.specs.Made as SshPrivateMade
pub use Rattle.picky_sshkey.specs.Opened as SshPrivateOpened
pub use Rattle.picky_sshkey.specs.PrivateBlock
pub use Rattle.picky_sshkey.specs.PrivateRefusal
pub use Rattle.picky_sshkey.specs.PrivateText
pub use Rattle.picky_sshkey.specs.Written as SshPrivateWritten
pub use Rattle.picky_cert_parts.specs.CertFromWire
pub use Rattle.picky_cert_parts.specs.CertNameTables
pub use Rattle.picky_cert_parts.specs.CertNamed
pub use Rattle.picky_cert_parts.specs.CertNames
pub use Rattle.picky_cert_parts.specs.CertNumber
pub use Rattle.picky_cert_parts.specs.CertType
pub use Rattle.picky_cert_parts.specs.CriticalOption
pub use Rattle.picky_cert_parts.specs.Extension
pub use Rattle.picky_cert_parts.specs.ExtensionType
pub use Rattle.picky_cert_parts.specs.Field as CertPartField
pub use Rattle.picky_cert_parts.specs.NumberTable
pub use Rattle.picky_cert_parts.specs.Signature
pub use Rattle.picky_cert_parts.specs.SignatureSpelled
pub use Rattle.picky_cert_blob.specs.CertSeen
pub use Rattle.picky_cert_blob.specs.Items as CertBlobItems
pub use Rattle.picky_cert_blob.specs.Keeps as CertBlobKeeps
pub use Rattle.picky_cert_blob.specs.Layout
pub use Rattle.picky_cert_blob.specs.Listed
pub use Rattle.picky_cert_blob.specs.Reason
pub use Rattle.picky_cert_blob.specs.Shown as CertBlobShown
pub use Rattle.picky_cert_blob.specs.Spelled as CertBlobSpelled
pub use Rattle.picky_cert_blob.specs.Subject
pub use Rattle.picky_cert_blob.specs.Used
pub use Rattle.picky_cert_blob.specs.View as CertBlobView
pub use Rattle.picky_cert.specs.CertRefusal
pub use Rattle.picky_cert.specs.Certificate
pub use Rattle.picky_cert.specs.Keeps as CertKeeps
pub use Rattle.picky_cert.specs.Line as CertLine
pub use Rattle.picky_cert.specs.LineRefusal as CertLineRefusal
pub use Rattle.picky_cert.specs.Shown as CertShown
pub use Rattle.picky_cert.specs.SourceLine as CertSourceLine
pub use Rattle.picky_cert.specs.Spelled as CertSpelled
pub use Rattle.picky_cert.specs.View as CertView
pub use Rattle.picky_cert.specs.Want as CertWant
pub use Rattle.picky_cert_builder.specs.Algorithm as BuilderAlgorithm
pub use Rattle.picky_cert_builder.specs.Built
pub use Rattle.picky_cert_builder.specs.ByName
pub use Rattle.picky_cert_builder.specs.Draft
pub use Rattle.picky_cert_builder.specs.Drafted as BuilderDrafted
pub use Rattle.picky_cert_builder.specs.Fit
pub use Rattle.picky_cert_builder.specs.Issuer
pub use Rattle.picky_cert_builder.specs.Keeps as BuilderKeeps
pub use Rattle.picky_cert_builder.specs.Permits
pub use Rattle.picky_cert_builder.specs.RefusalName
pub use Rattle.picky_cert_builder.specs.Request as BuilderRequest
pub use Rattle.picky_cert_builder.specs.Terms
pub use Rattle.picky_kv_words.specs.Argon2Keys
pub use Rattle.picky_kv_words.specs.Blocks
pub use Rattle.picky_kv_words.specs.ChoiceFields
pub use Rattle.picky_kv_words.specs.Choices
pub use Rattle.picky_kv_words.specs.Field as KvField
pub use Rattle.picky_kv_words.specs.Keys as KvKeys
pub use Rattle.picky_kv_words.specs.Literal
pub use Rattle.picky_kv_words.specs.ValueFields
pub use Rattle.picky_kv_words.specs.Values
pub use Rattle.picky_kv.specs.Algorithm as KvAlgorithm
pub use Rattle.picky_kv.specs.AlgorithmField
pub use Rattle.picky_kv.specs.Block
pub use Rattle.picky_kv.specs.BlockRefusal
pub use Rattle.picky_kv.specs.Context
pub use Rattle.picky_kv.specs.Joined as KvJoined
pub use Rattle.picky_kv.specs.Lines as KvLines
pub use Rattle.picky_kv.specs.NumberFields
pub use Rattle.picky_kv.specs.Numbers as KvNumbers
pub use Rattle.picky_kv.specs.Output as KvOutput
pub use Rattle.picky_kv.specs.Parts as KvParts
pub use Rattle.picky_kv.specs.ReadBack as KvReadBack
pub use Rattle.picky_ppk_parts.specs.Aes
pub use Rattle.picky_ppk_parts.specs.Algorithm as PpkPartAlgorithm
pub use Rattle.picky_ppk_parts.specs.Asked as PpkPartAsked
pub use Rattle.picky_ppk_parts.specs.Config
pub use Rattle.picky_ppk_parts.specs.Counted
pub use Rattle.picky_ppk_parts.specs.EdSecret
pub use Rattle.picky_ppk_parts.specs.KeyParts
pub use Rattle.picky_ppk_parts.specs.Keys as PpkPartKeys
pub use Rattle.picky_ppk_parts.specs.Mac as PpkPartMac
pub use Rattle.picky_ppk_parts.specs.MacFields
pub use Rattle.picky_ppk_parts.specs.Material
pub use Rattle.picky_ppk_parts.specs.Number
pub use Rattle.picky_ppk_parts.specs.Parts as PpkPartParts
pub use Rattle.picky_ppk_parts.specs.PartsRefusal
pub use Rattle.picky_ppk_parts.specs.Secret as PpkPartSecret
pub use Rattle.picky_ppk_parts.specs.Unsupported
pub use Rattle.picky_ppk_file.specs.File
pub use Rattle.picky_ppk_file.specs.FileRefusal
pub use Rattle.picky_ppk_file.specs.FileText
pub use Rattle.picky_ppk_file.specs.PuttyPublic
pub use Rattle.picky_ppk_file.specs.PuttyRefusal
pub use Rattle.picky_ppk_file.specs.Written as PpkFileWritten
pub use Rattle.picky_ppk.specs.Accepted
pub use Rattle.picky_ppk.specs.Changed
pub use Rattle.picky_ppk.specs.Checked
pub use Rattle.picky_ppk.specs.ForPutty
pub use Rattle.picky_ppk.specs.Fresh
pub use Rattle.picky_ppk.specs.KeyOf
pub use Rattle.picky_ppk.specs.Keyed
pub use Rattle.picky_ppk.specs.Mac as PpkMac
pub use Rattle.picky_ppk.specs.Opened as PpkOpened
pub use Rattle.picky_ppk.specs.PpkLayout
pub use Rattle.picky_ppk.specs.Sealed
pub use Rattle.picky_ppk.specs.Wrappers
pub use Rattle.picky_key_text.specs.Form
pub use Rattle.picky_key_text.specs.Kept as KeyTextKept
pub use Rattle.picky_key_text.specs.Key as KeyTextKey
pub use Rattle.picky_key_text.specs.Order
pub use Rattle.picky_key_text.specs.PpkText
pub use Rattle.picky_key_text.specs.Reader
pub use Rattle.picky_key_text.specs.Reads
pub use Rattle.picky_key_text.specs.Want as KeyTextWant
pub use Rattle.picky_shown.specs.Bits
pub use Rattle.picky_shown.specs.Shown as TextShown
pub use Rattle.picky_target.specs.Carried
pub use Rattle.picky_target.specs.Drafts
pub use Rattle.picky_target.specs.Judged
pub use Rattle.picky_target.specs.Output as TargetOutput
pub use Rattle.picky_target.specs.ReadBack as TargetReadBack
pub use Rattle.picky_target.specs.Texts
pub use Rattle.picky_target.specs.Written as TargetWritten
pub use Rattle.picky_changed.specs.Comment
pub use Rattle.picky_issuing.specs.NamedPayload
pub use Rattle.picky_issuing.specs.OptionWord
pub use Rattle.picky_issuing.specs.Options as IssuingOptions
pub use Rattle.picky_issuing.specs.Parts as IssuingParts
pub use Rattle.picky_issuing.specs.Steps
pub use Rattle.picky_issuing.specs.Value
pub use Rattle.picky_conversion.specs.AnyChain
pub use Rattle.picky_conversion.specs.Binds
pub use Rattle.picky_conversion.specs.Certified
pub use Rattle.picky_conversion.specs.Certify
pub use Rattle.picky_conversion.specs.Chain
pub use Rattle.picky_conversion.specs.Convert
pub use Rattle.picky_conversion.specs.Drafted as ConversionDrafted
pub use Rattle.picky_conversion.specs.Issue
pub use Rattle.picky_conversion.specs.Made as ConversionMade
pub use Rattle.picky_conversion.specs.Outside
pub use Rattle.picky_conversion.specs.Refusal
pub use Rattle.picky_conversion.specs.Request as ConversionRequest
pub use Rattle.picky_conversion.specs.To
pub use Rattle.picky_conversion.specs.Want as ConversionWant
pub use Rattle.picky_convert.specs.Command
pub use Rattle.picky_convert.specs.Fingerprint
pub use Rattle.picky_convert.specs.Generator
pub use Rattle.picky_convert.specs.Report
pub use Rattle.picky_convert.specs.Run
pub use Rattle.picky_convert.specs.Sample
pub use Rattle.picky_convert.specs.SampleChain
pub use Rattle.picky_convert.specs.SampleKeys
pub use Rattle.picky_convert.specs.SampleTexts
pub use Rattle.picky_puttyppk.specs.PuttyText
pub use Rattle.picky_puttyppk.specs.Run as PuttyPpkRun
pub use Rattle.picky_inventory.specs.BadLine
pub use Rattle.picky_inventory.specs.Command as InventoryCommand
pub use Rattle.picky_inventory.specs.InOrder
pub use Rattle.picky_inventory.specs.ItemLine
pub use Rattle.picky_inventory.specs.Items as InventoryItems
pub use Rattle.picky_inventory.specs.Listing
pub use Rattle.picky_inventory.specs.Merging
pub use Rattle.picky_inventory.specs.OrderedText
pub use Rattle.picky_inventory.specs.Parted
pub use Rattle.picky_inventory.specs.Run as InventoryRun
pub use Rattle.picky_inventory_texts.specs.Listed as InventoryListed
pub use Rattle.picky_inventory_texts.specs.Merging as InventoryMerging
pub use Rattle.picky_inventory_texts.specs.Pieces
pub use Rattle.picky_inventory_texts.specs.Texts as InventoryTexts
pub use Rattle.picky_policy.specs.Command as PolicyCommand
pub use Rattle.picky_policy.specs.Decided
pub use Rattle.picky_policy.specs.Demands
pub use Rattle.picky_policy.specs.Offer
pub use Rattle.picky_policy.specs.Printed
pub use Rattle.picky_policy.specs.Rules
pub use Rattle.picky_policy.specs.Run as PolicyRun
pub use Rattle.picky_policy.specs.Verifies
pub use Rattle.picky_ask_verifier.specs.Question as VerdictQuestion
pub use Rattle.picky_ask_verifier.specs.Verdicts
pub use Rattle.picky_agent_state.specs.Failure
pub use Rattle.picky_agent_state.specs.Held
pub use Rattle.picky_agent_state.specs.Keep
pub use Rattle.picky_agent_state.specs.Kept as AgentKept
pub use Rattle.picky_agent_state.specs.Message
pub use Rattle.picky_agent_state.specs.Question
pub use Rattle.picky_agent_state.specs.Reply
pub use Rattle.picky_agent_state.specs.Request as AgentRequest
pub use Rattle.picky_agent_state.specs.Rows as AgentRows
pub use Rattle.picky_agent_state.specs.Signing
pub use Rattle.picky_agent_state.specs.Step
pub use Rattle.picky_agent_bytes.specs.AlgorithmName
pub use Rattle.picky_agent_bytes.specs.Bare
pub use Rattle.picky_agent_bytes.specs.Call
pub use Rattle.picky_agent_bytes.specs.IsState
pub use Rattle.picky_agent_bytes.specs.Secret as AgentBytesSecret
pub use Rattle.picky_agent_bytes.specs.State as AgentBytesState
pub use Rattle.picky_agent.specs.Ending
pub use Rattle.picky_agent.specs.ExitCode
pub use Rattle.picky_agent.specs.Frame
pub use Rattle.picky_agent.specs.Run as AgentRun
pub use Rattle.picky_agent.specs.Served
pub use Rattle.picky_request.specs.Builder
pub use Rattle.picky_request.specs.Names
pub use Rattle.picky_request.specs.Request as LineRequest
pub use Rattle.picky_ledger.specs.Apply
pub use Rattle.picky_ledger.specs.Entry as LedgerEntry
pub use Rattle.picky_ledger.specs.LedgerText
pub use Rattle.picky_ledger.specs.Replies
pub use Rattle.picky_ledger.specs.Run as LedgerRun
pub use Rattle.picky_ledger.specs.Runs
pub use Rattle.picky_ledger.specs.State as LedgerState
pub use Rattle.picky_ledger_by.specs.Applied
pub use Rattle.picky_ledger_by.specs.Lacked
pub use Rattle.picky_cert_parts.specs.declared.known_extension.KnownExtension as KnownExtensionType
pub use Rattle.picky_convert.specs.declared.command.Command as CommandType
pub use Rattle.picky_issuing.specs.declared.option_word.OptionWord as OptionWordType
pub use Rattle.picky_sshkey.specs.declared.cipher.Cipher as CipherType
pub use Rattle.base64.specs.Engines
pub use Rattle.base64.specs.GeneralPurpose
pub use Rattle.hex.specs.Hex
pub use Rattle.md5.specs.Md5
pub use Rattle.rand_core.specs.Stream
pub use Rattle.sha1.specs.Sha1
pub use Rattle.sha2.specs.Sha256
pub use Rattle.sha2.specs.Sha512
