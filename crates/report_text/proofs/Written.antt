-- What of a constraint's text depends on how many activities it has; and a trace's text.
use Rattle.std.proofs.Common.{◌≡◌, ◌≢◌, ℕ, List, [], ◌∷◌, ◌++◌, false, cond, map, refl, ap}
use Rattle.std.specs.List.{join_with_byte}
use Rattle.std.proofs.lemmas.Bool.{ne_eqb, eq-eqb}
use Rattle.serde_json.specs.Data.{string}
use Rattle.serde_json.specs.Written.{has_float}
use Rattle.template_core.specs.Constraints.{arity}
use Rattle.template_core.specs.declared.constraint.Constraint.{Constraint}
use Rattle.model_json.specs.Report.{activities_of, name_at, trace_value}
use Rattle.model_json.proofs.Floats.{items_have_float-map}
use Rattle.report_text.specs.Fields.{quoted_at}

module _ (names : List (List ℕ)) (c : Constraint) where
  pub one_name : arity c.kind ≡ 1 → join_with_byte 44 (map (quoted_at names) (activities_of c)) ≡ quoted_at names c.first
  one_name one = ap (λ b. join_with_byte 44 (map (quoted_at names) (cond b (c.first ∷ []) (c.first ∷ c.second ∷ [])))) (eq-eqb (arity c.kind) 1 one)

  pub two_names : arity c.kind ≢ 1 → join_with_byte 44 (map (quoted_at names) (activities_of c)) ≡ quoted_at names c.first ++ 44 ∷ quoted_at names c.second
  two_names more = ap (λ b. join_with_byte 44 (map (quoted_at names) (cond b (c.first ∷ []) (c.first ∷ c.second ∷ [])))) (ne_eqb (arity c.kind) 1 more)

pub has_float-trace_value : (names : List (List ℕ)) (trace : List ℕ) → has_float (trace_value names trace) ≡ false
has_float-trace_value names trace = items_have_float-map (λ rank. string (name_at names rank)) (λ _. refl) trace
