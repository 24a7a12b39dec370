use Rattle.std.proofs.Common.{ap, sym, ◌∙◌, fold}
use Rattle.event_log.specs.Logs.{with_name}
use Rattle.event_log.proofs.Naming.{texts, texts-added}
use Rattle.event_log.proofs.alphabet.set_of.Goals as goal

pub loop-name-preserved : goal.loop-name-preserved
loop-name-preserved c =
    ap (λ l. fold with_name l (texts c.pop_first.new.self.keys)) (texts-added c.loop-name.set.keys c.insert.new.self.keys c.in-Some.name c.in_ok-insert.ensures.keys)
    ∙ sym (ap (λ l. fold with_name (texts c.loop-name.set.keys) (texts l)) c.in-Some.ensures.removal)
    ∙ c.loop-name.invariant
