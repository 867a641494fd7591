-- The reply, and one that is too long.
use Rattle.std.proofs.Common.{◌≡◌, ◌≤◌, ◌+◌, ◌∙◌, ℕ, List, length, ap, subst, sym, arith}
use Rattle.std.specs.Prelude.{IfOk}
use Rattle.picky_wire_base.specs.Wire.{string_of}
use Rattle.picky_cert_parts.specs.CertNames.{format_name}
use Rattle.picky_agent_state.specs.Reply.{fitted}
use Rattle.picky_agent_state.proofs.ReplyLemmas.{long_signature_fails, signed_bytes}
use Rattle.picky_agent_state.proofs.reply.signed_of.Goals as goal

pub returns-then-len-gt-MAX_LEN : goal.returns-then-len-gt-MAX_LEN
returns-then-len-gt-MAX_LEN c =
    let long : 4294967296 ≤ length (format_name c.args.format) + length c.args.signature.now + 8 =
    omega (arith, ap length c.as_str-name.ensures.name, ap length c.as_slice.ensures.bytes, c.if-len-gt-MAX_LEN.true) in
    subst (λ (f : List ℕ). IfOk c.failure.result (λ (r : List ℕ). r ≡ f))
    (sym (long_signature_fails c.args.format c.args.signature.now long)) c.failure.ensures

pub returns-in-Ok-push_pieces : goal.returns-in-Ok-push_pieces
returns-in-Ok-push_pieces c =
    let name = c.as_str-name.ensures.name in
    let len : ℕ = length c.as_str-name.result.now + length c.as_slice.result.now + 8 in
    let is : len ≡ length (format_name c.args.format) + length c.args.signature.now + 8 =
    omega (arith, ap length name, ap length c.as_slice.ensures.bytes) in
    let bytes = signed_bytes c.args.format c.args.signature.now len c.new-reply.result.items c.push_pieces.new.out.items
    c.push_pieces-2.new.out.items c.byte.result c.uint32.result c.string.result c.bytes.result c.new-reply.ensures.items
    c.byte.ensures c.uint32.ensures (c.string.ensures.string ∙ ap string_of (c.as_bytes.ensures.value ∙ name))
    c.bytes.ensures.string c.in-Ok.ensures c.in-Ok-push_pieces.ensures is in
    subst (λ (x : List ℕ). IfOk c.fit.result (λ (r : List ℕ). r ≡ fitted x)) bytes c.fit.ensures
