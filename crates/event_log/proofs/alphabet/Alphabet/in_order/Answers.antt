use Rattle.std.proofs.Common.{◌≡◌, ap, sym, ◌∙◌, length, arith}
use Rattle.std.proofs.lemmas.List.{length-map}
use Rattle.std.specs.Prelude.{string_bytes}
use Rattle.event_log.specs.Logs.{first_seen, in_byte_order}
use Rattle.event_log.proofs.Naming.{texts, named}
use Rattle.event_log.proofs.Alphabets.{first_seen-in_byte_order, length-in_byte_order}
use Rattle.event_log.proofs.alphabet.Alphabet.in_order.Goals as goal

pub invariant_of-result : goal.invariant_of-result
invariant_of-result c =
    let now = c.args.self.now.names in
    let keys = c.in_ok-names.names.keys in
    let ordered : texts keys ≡ in_byte_order now = c.in_ok-names.ensures.ok ∙ ap first_seen c.in_ok-sorted.ensures.ok ∙ first_seen-in_byte_order now in
    let before : length now ≡ length c.self.inside.names.keys = sym (ap (λ s. length s.names) c.self.view_is) ∙ length-map c.self.inside.names.keys string_bytes in
    (omega (arith, length-in_byte_order now, ap length ordered, length-map keys string_bytes, before, c.self.invariant.0), c.self.invariant.1)

pub returns-clause-ok : goal.returns-clause-ok
returns-clause-ok c =
    let now = c.args.self.now.names in
    let ordered : texts c.in_ok-names.names.keys ≡ in_byte_order now = c.in_ok-names.ensures.ok ∙ ap first_seen c.in_ok-sorted.ensures.ok ∙ first_seen-in_byte_order now in
    ap (λ l. named l c.self.inside.limit) ordered ∙ ap (λ s. named (in_byte_order now) s.limit) c.self.view_is
