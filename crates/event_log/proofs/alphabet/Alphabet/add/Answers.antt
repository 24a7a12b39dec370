use Rattle.std.proofs.Common.{◌≡◌, sym, ap, ◌∙◌, arith}
use Rattle.std.specs.Prelude.{string_bytes}
use Rattle.event_log.proofs.Naming.{texts, full, place_of-texts, has_name-texts, position-is, kept, added}
use Rattle.event_log.specs.Logs.{place_of, has_name}
use Rattle.event_log.proofs.alphabet.Alphabet.add.Goals as goal

pub returns-in-Some-clause-id : goal.returns-in-Some-clause-id
returns-in-Some-clause-id c =
    position-is _ c.self.inside.names.keys c.in-Some.id c.in-Some.ensures.index ∙ place_of-texts c.args.name.now c.self.inside.names.keys
    ∙ ap (λ s. place_of s.names c.args.name.now) c.self.view_is

pub returns-in-Some-clause-ok : goal.returns-in-Some-clause-ok
returns-in-Some-clause-ok c =
    kept c.args.self.now c.args.name.now (c.in-Some.ensures.found ∙ has_name-texts c.args.name.now c.self.inside.names.keys ∙ ap (λ s. has_name s.names c.args.name.now) c.self.view_is)

pub returns-then-len-self-clause-cause : goal.returns-then-len-self-clause-cause
returns-then-len-self-clause-cause c = (
  ap (λ s. s.limit) c.self.view_is,
  full c.self.inside.names.keys c.self.inside.limit c.args.self.now c.self.view_is c.self.invariant.0 (omega arith),
  sym (c.in_default.ensures.found ∙ has_name-texts c.args.name.now c.self.inside.names.keys ∙ ap (λ s. has_name s.names c.args.name.now) c.self.view_is),
)

pub returns-clause-id : goal.returns-clause-id
returns-clause-id c =
    let same : string_bytes c.in_ok-from_str.field-0 ≡ c.args.name.now = c.in_ok-from_str.ensures.ok in
    c.in_ok-id.ensures.index ∙ place_of-texts (string_bytes c.in_ok-from_str.field-0) c.self.inside.names.keys ∙ ap (place_of (texts c.self.inside.names.keys)) same
    ∙ ap (λ s. place_of s.names c.args.name.now) c.self.view_is

pub returns-clause-ok : goal.returns-clause-ok
returns-clause-ok c =
    added c.args.name.now c.self.inside.names.keys c.insert_full.new.self.keys c.in_ok-from_str.field-0 c.self.inside.limit c.args.self.now c.self.view_is c.in_ok-from_str.ensures.ok c.in_ok-id.ensures.keys
