-- A value is read as a model rule by rule.
use Rattle.std.proofs.Common.{◌≡◌, ◌≤◌, ◌<◌, ℕ, List, [], true, false, cond, length, ap, ◌∙◌, Some, None, Ok, Err, arith}
use Rattle.std.specs.Prelude.{nat_le}
use Rattle.std.specs.Option.{ok_or}
use Rattle.std.proofs.lemmas.Bool.Decides.{nat_tests}
use Rattle.serde_json.specs.Data.{Data}
use Rattle.decl_base.specs.Limits.{standard}
use Rattle.decl_base.specs.declared.refusal.Refusal.{Refusal}
use Rattle.decl_base.specs.declared.refusal.Refusal.TheVariants.{ModelShape, Candidates}
use Rattle.event_log.specs.Logs.{first_seen}
use Rattle.model_json.specs.Model.{Shape, shape_of, within, items_read, model_of}
use Rattle.model_json.proofs.Causes.{goes_on, stops}

module _ (value : Data) where
  pub model-no_shape : shape_of value ≡ None → model_of value ≡ Err (ModelShape 0)
  model-no_shape h = stops _ _ (ModelShape 0) (ap (λ o. ok_or o (ModelShape 0)) h)

  module _ (shape : Shape) (shaped : shape_of value ≡ Some shape) where
    of_shape : ok_or (shape_of value) (ModelShape 0) ≡ Ok shape
    of_shape = ap (λ o. ok_or o (ModelShape 0)) shaped

    pub model-many : standard.candidates < length shape.constraints → model_of value ≡ Err (Candidates (length shape.constraints))
    model-many many =
        let above : nat_le (length shape.constraints) standard.candidates ≡ false = grind (arith, nat_tests) in
        goes_on _ _ shape of_shape ∙ stops _ _ (Candidates (length shape.constraints)) (ap (λ b. cond b (Ok shape.constraints) (Err (Candidates (length shape.constraints)))) above)

    module _ (few : length shape.constraints ≤ standard.candidates) where
      counted : cond (nat_le (length shape.constraints) standard.candidates) (Ok shape.constraints) (Err (Candidates (length shape.constraints))) ≡ Ok shape.constraints
      counted =
          let below : nat_le (length shape.constraints) standard.candidates ≡ true = grind (arith, nat_tests) in
          ap (λ b. cond b (Ok shape.constraints) (Err (Candidates (length shape.constraints)))) below

      pub model-names : (r : Refusal) → within (first_seen shape.tasks) ≡ Err r → model_of value ≡ Err r
      model-names r h = goes_on _ _ shape of_shape ∙ goes_on _ _ shape.constraints counted ∙ stops _ _ r h

      pub model-items : (names : List (List ℕ)) → within (first_seen shape.tasks) ≡ Ok names
          → model_of value ≡ items_read shape.repertoire 1 (record { names = names; constraints = [] }) shape.constraints
      model-items names h = goes_on _ _ shape of_shape ∙ goes_on _ _ shape.constraints counted ∙ goes_on _ _ names h
