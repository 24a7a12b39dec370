use Rattle.std.proofs.Common.{◌≡◌, ap, sym, subst, ◌∙◌, Some, slice_get, string_bytes}
use Rattle.std.specs.BTreeSet.{insert_key}
use Rattle.std.specs.Cmp.Lexicographic.{slice_cmp}
use Rattle.std.specs.Ordering.{nat_cmp}
use Rattle.event_log.proofs.Naming.{texts, texts-insert_key, in_byte_order-more}
use Rattle.event_log.proofs.alphabet.Alphabet.sorted.Goals as goal

pub loop-id-preserved : goal.loop-id-preserved
loop-id-preserved c =
    let key = c.in_ok-from_str.field-0 in
    let there : slice_get c.args.self.now.names c.loop-id.id ≡ Some (string_bytes key) = subst (λ n. slice_get c.args.self.now.names c.loop-id.id ≡ Some n) (sym c.in_ok-from_str.ensures.ok) c.name.ensures in
    ap texts c.in_ok-insert.ensures.keys
    ∙ texts-insert_key c.loop-id.set.keys key
    ∙ ap (λ l. insert_key (slice_cmp nat_cmp) l (string_bytes key)) c.loop-id.invariant
    ∙ sym (in_byte_order-more c.args.self.now.names c.loop-id.id (string_bytes key) there)
