use Rattle.std.proofs.Common.{◌≡◌, ◌≤◌, [], List, ℕ, Some, Ok, false, fold, length, sym, ap, ap₂, ◌∙◌, option_and_then, arith}
use Rattle.serde_json.specs.View.{view}
use Rattle.decl_base.specs.Limits.{standard}
use Rattle.decl_base.specs.declared.refusal.Refusal.TheVariants.{Activities}
use Rattle.event_log.specs.Logs.{has_name, place_of, with_name}
use Rattle.template_core.specs.declared.constraint.Constraint.{Constraint}
use Rattle.template_core.specs.declared.kind.Kind.{Kind}
use Rattle.model_json.specs.Model.{activities, activities_in, is_twice, item_read, within}
use Rattle.model_json.proofs.Causes.{add_refused, handed_on}
use Rattle.model_json.proofs.ItemsRead.{first-activities, fold-activities, one_too_many, put_in-activities, read-constraint, read-many, read-unknown, within-few}
use Rattle.model_json.proofs.items.read_item.Goals as goal

pub returns-in_default-kind_named-clause-refusal : goal.returns-in_default-kind_named-clause-refusal
returns-in_default-kind_named-clause-refusal c =
    let item = c.in-Some.ensures.some in
    read-unknown c.args.repertoire c.args.number c.args.names.now.names (view c.args.value.now) _ item.2 (sym c.in_default-kind_named.ensures.kind)

pub returns-in_err-first-clause-refusal : goal.returns-in_err-first-clause-refusal
returns-in_err-first-clause-refusal c =
    let names = c.args.names.now.names in
    let value = view c.args.value.now in
    let item = c.in-Some.ensures.some in
    let kind = c.in-Some-kind_named.kind in
    let first = c.in-Some-activities_in.first.now in
    let put = activities kind first c.in-Some-activities_in.second.now in
    let given : activities_in kind item.0 ≡ Some put = ap (option_and_then (activities_in kind)) (sym item.1) ∙ c.in-Some-activities_in.ensures.some in
    let differ : is_twice put ≡ false = sym c.is_twice.ensures ∙ c.if-is_twice.false in
    let front = first-activities kind first c.in-Some-activities_in.second.now in
    handed_on c.from_residual.result c.in_err-first.field-0.0 _ c.from_residual.ensures.1
    (add_refused c.args.names.now first c.in_err-first.field-0.0 (item_read c.args.repertoire c.args.number names value) c.requires.limit
    (λ full new. read-many c.args.repertoire c.args.number names value _ item.2 kind (sym c.in-Some-kind_named.ensures.kind) put given differ (Activities standard.activities)
    (ap (λ p. within (fold with_name names p)) front.1 ∙ one_too_many names front.0 first full new)) c.in_err-first.ensures.cause)

pub returns-in_err-second-clause-refusal : goal.returns-in_err-second-clause-refusal
returns-in_err-second-clause-refusal c =
    let names = c.args.names.now.names in
    let value = view c.args.value.now in
    let item = c.in-Some.ensures.some in
    let kind = c.in-Some-kind_named.kind in
    let first = c.in-Some-activities_in.first.now in
    let second = c.in-Some-activities_in.second.now in
    let put = activities kind first second in
    let given : activities_in kind item.0 ≡ Some put = ap (option_and_then (activities_in kind)) (sym item.1) ∙ c.in-Some-activities_in.ensures.some in
    let differ : is_twice put ≡ false = sym c.is_twice.ensures ∙ c.if-is_twice.false in
    let named : c.add.new.self.names ≡ with_name names first = ap (λ n. n.names) c.in_ok-first.ensures.ok in
    let limit : c.add.new.self.limit ≡ standard.activities = ap (λ n. n.limit) c.in_ok-first.ensures.ok ∙ c.requires.limit in
    handed_on c.from_residual-in_err-second.result c.in_err-second.field-0.0 _ c.from_residual-in_err-second.ensures.1
    (add_refused c.add.new.self second c.in_err-second.field-0.0 (item_read c.args.repertoire c.args.number names value) limit
    (λ full new. read-many c.args.repertoire c.args.number names value _ item.2 kind (sym c.in-Some-kind_named.ensures.kind) put given differ (Activities standard.activities)
    (ap within (fold-activities kind first second names c.in-Some-activities_in.ensures.one)
    ∙ one_too_many (with_name names first) [] second (ap length (sym named) ∙ full) (ap (λ n. has_name n second) (sym named) ∙ new))) c.in_err-second.ensures.cause)

pub returns-clause-ok : goal.returns-clause-ok
returns-clause-ok c =
    let names = c.args.names.now.names in
    let value = view c.args.value.now in
    let item = c.in-Some.ensures.some in
    let kind = c.in-Some-kind_named.kind in
    let first = c.in-Some-activities_in.first.now in
    let second = c.in-Some-activities_in.second.now in
    let put = activities kind first second in
    let one = c.in-Some-activities_in.ensures.one in
    let more = with_name (with_name names first) second in
    let given : activities_in kind item.0 ≡ Some put = ap (option_and_then (activities_in kind)) (sym item.1) ∙ c.in-Some-activities_in.ensures.some in
    let differ : is_twice put ≡ false = sym c.is_twice.ensures ∙ c.if-is_twice.false in
    let named : c.add.new.self.names ≡ with_name names first = ap (λ n. n.names) c.in_ok-first.ensures.ok in
    let limit : c.add-2.new.self.limit ≡ standard.activities =
    ap (λ n. n.limit) c.in_ok-second.ensures.ok ∙ ap (λ n. n.limit) c.in_ok-first.ensures.ok ∙ c.requires.limit in
    let renamed : c.add-2.new.self.names ≡ more = ap (λ n. n.names) c.in_ok-second.ensures.ok ∙ ap (λ n. with_name n second) named in
    let few : length more ≤ standard.activities = omega (arith, ap length renamed, limit, c.in_ok-second.ensures.within) in
    read-constraint c.args.repertoire c.args.number names value _ item.2 kind (sym c.in-Some-kind_named.ensures.kind) put given differ more
    (ap within (fold-activities kind first second names one) ∙ within-few more few)
    ∙ ap₂ (λ (k : Constraint) (l : List (List ℕ)). Ok (k, l))
    (put_in-activities kind first second names one
    ∙ ap₂ (λ a b. made kind a b) (sym c.in_ok-first.ensures.id) (sym (c.in_ok-second.ensures.id ∙ ap (λ n. place_of n second) named))) (sym renamed)
  where
    made : Kind → ℕ → ℕ → Constraint
    made kind a b = record { kind = kind; first = a; second = b }
