-- What the report of a reduction is made of: a witness for each constraint that stays, and traces over the names.
use Rattle.std.proofs.Common.{◌≡◌, ℕ, suc, ◌+◌, ◌<◌, List, [], ◌∷◌, ◌++◌, Bool, true, false, cond, All, length, map, count_by, refl, sym, ap, ap₂, subst, ◌∙◌, arith}
use Rattle.std.specs.List.{AllByRecursion}
use Rattle.std.proofs.lemmas.List.{length-map}
use Rattle.std.proofs.lemmas.List.Elements.{All-from_recursion}
use Rattle.model_json.specs.Report.{is_tested, staying}
use Rattle.reduce_model.specs.Deciding.{is_at_limit, is_kept, marked, those}
use Rattle.reduce_model.specs.Reduction.{AreWitnesses, Reduction}
use Rattle.reduce_model.proofs.MeaningWithin.{within-many}
use Rattle.reduce_model.specs.Within.{AreWitnessesWithin}
use Rattle.reduce_model.specs.declared.decision.Decision.{Decision}
use Rattle.reduce_model.specs.declared.decision.Decision.TheVariants.{Kept, Conflict, Weaker, FirstPass, SecondPass, Beyond, Untested}
use Rattle.scoring.specs.declared.scored.Scored.{Scored}
use Rattle.scoring.proofs.Orders.{count-cons}
use Rattle.template_core.specs.declared.constraint.Constraint.{Constraint}
use Rattle.minerful_core.specs.Outcome.{constraints_in, IsReductionBy}
use Rattle.minerful_core.specs.Writing.{CanWrite}

-- the constraints that are listed are those that stay
pub constraints-staying : (list : List Scored) (decisions : List Decision) → constraints_in (staying list decisions) ≡ those is_kept (constraints_in list) decisions
constraints-staying [] [] = refl
constraints-staying [] (d ∷ decisions) = refl
constraints-staying (s ∷ list) [] = refl
constraints-staying (s ∷ list) (Kept ∷ decisions) = ap (λ l. s.constraint ∷ l) (constraints-staying list decisions)
constraints-staying (s ∷ list) (Untested ∷ decisions) = ap (λ l. s.constraint ∷ l) (constraints-staying list decisions)
constraints-staying (s ∷ list) (Conflict ∷ decisions) = constraints-staying list decisions
constraints-staying (s ∷ list) (Weaker by ∷ decisions) = constraints-staying list decisions
constraints-staying (s ∷ list) (FirstPass ∷ decisions) = constraints-staying list decisions
constraints-staying (s ∷ list) (SecondPass ∷ decisions) = constraints-staying list decisions
constraints-staying (s ∷ list) (Beyond ∷ decisions) = constraints-staying list decisions

-- as many as have a mark
length-those : (test : Decision → Bool) (list : List Constraint) (decisions : List Decision) → length decisions ≡ length list → length (those test list decisions) ≡ count_by test decisions
length-those test [] [] many = refl
length-those test [] (d ∷ decisions) many = absurd (omega (arith, many))
length-those test (c ∷ list) [] many = absurd (omega (arith, many))
length-those test (c ∷ list) (d ∷ decisions) many = go (test d) (length-those test list decisions (omega (arith, many))) ∙ sym (count-cons test d decisions)
  where
    go : (mark : Bool) → length (those test list decisions) ≡ count_by test decisions → length (marked (mark ∷ map test decisions) (c ∷ list)) ≡ cond mark 1 0 + count_by test decisions
    go true rest = omega (arith, rest)
    go false rest = omega (arith, rest)

-- where no limit gave a decision, all that stay are tested
tested-kept : (decisions : List Decision) → AllByRecursion (λ (d : Decision). is_at_limit d ≡ false) decisions → count_by is_kept decisions ≡ count_by is_tested decisions
tested-kept [] h = refl
tested-kept (d ∷ decisions) h =
    count-cons is_kept d decisions ∙ ap₂ (λ a b. cond a 1 0 + b) (one d h.0) (tested-kept decisions h.1) ∙ sym (count-cons is_tested d decisions)
  where
    one : (d : Decision) → is_at_limit d ≡ false → is_kept d ≡ is_tested d
    one Kept e = refl
    one Conflict e = refl
    one (Weaker by) e = refl
    one FirstPass e = refl
    one SecondPass e = refl
    one Beyond e = refl
    one Untested e = cc

length-witnesses : (n : ℕ) (before after : List Constraint) (witnesses : List (List ℕ)) → AreWitnesses n before after witnesses → length witnesses ≡ length after
length-witnesses n before [] [] h = refl
length-witnesses n before [] (w ∷ witnesses) h = absurd h
length-witnesses n before (c ∷ after) [] h = absurd h
length-witnesses n before (c ∷ after) (w ∷ witnesses) h = ap (λ k. suc k) (length-witnesses n (before ++ c ∷ []) after witnesses h.1)

witnesses-over : (n : ℕ) (before after : List Constraint) (witnesses : List (List ℕ)) → AreWitnesses n before after witnesses → AllByRecursion (λ (w : List ℕ). All (λ rank. rank < n) w) witnesses
witnesses-over n before [] [] h = tt
witnesses-over n before [] (w ∷ witnesses) h = absurd h
witnesses-over n before (c ∷ after) [] h = absurd h
witnesses-over n before (c ∷ after) (w ∷ witnesses) h = (All-from_recursion (λ rank. rank < n) w h.0.over, witnesses-over n (before ++ c ∷ []) after witnesses h.1)

-- within a limit there is a witness for each that is tested, over the same symbols
length-within : (n : ℕ) (kept list : List Constraint) (decisions : List Decision) (witnesses : List (List ℕ)) → AreWitnessesWithin n kept list decisions witnesses → length decisions ≡ length list → length witnesses ≡ count_by is_tested decisions
length-within n kept [] [] [] h many = refl
length-within n kept [] [] (w ∷ witnesses) h many = absurd h
length-within n kept [] (d ∷ decisions) witnesses h many = absurd (omega (arith, many))
length-within n kept (c ∷ list) [] witnesses h many = absurd h
length-within n kept (c ∷ list) (Kept ∷ decisions) [] h many = absurd h
length-within n kept (c ∷ list) (Kept ∷ decisions) (w ∷ witnesses) h many =
    omega (arith, length-within n (kept ++ c ∷ []) list decisions witnesses h.1 (omega (arith, many)), count-cons is_tested Kept decisions)
length-within n kept (c ∷ list) (Untested ∷ decisions) witnesses h many = omega (arith, length-within n (kept ++ c ∷ []) list decisions witnesses h (omega (arith, many)), count-cons is_tested Untested decisions)
length-within n kept (c ∷ list) (Conflict ∷ decisions) witnesses h many = omega (arith, length-within n kept list decisions witnesses h (omega (arith, many)), count-cons is_tested Conflict decisions)
length-within n kept (c ∷ list) (Weaker by ∷ decisions) witnesses h many = omega (arith, length-within n kept list decisions witnesses h (omega (arith, many)), count-cons is_tested (Weaker by) decisions)
length-within n kept (c ∷ list) (FirstPass ∷ decisions) witnesses h many = omega (arith, length-within n kept list decisions witnesses h (omega (arith, many)), count-cons is_tested FirstPass decisions)
length-within n kept (c ∷ list) (SecondPass ∷ decisions) witnesses h many = omega (arith, length-within n kept list decisions witnesses h (omega (arith, many)), count-cons is_tested SecondPass decisions)
length-within n kept (c ∷ list) (Beyond ∷ decisions) witnesses h many = omega (arith, length-within n kept list decisions witnesses h (omega (arith, many)), count-cons is_tested Beyond decisions)

over-within : (n : ℕ) (kept list : List Constraint) (decisions : List Decision) (witnesses : List (List ℕ)) → AreWitnessesWithin n kept list decisions witnesses → AllByRecursion (λ (w : List ℕ). All (λ rank. rank < n) w) witnesses
over-within n kept [] decisions [] h = tt
over-within n kept [] decisions (w ∷ witnesses) h = absurd h
over-within n kept (c ∷ list) [] witnesses h = absurd h
over-within n kept (c ∷ list) (Kept ∷ decisions) [] h = absurd h
over-within n kept (c ∷ list) (Kept ∷ decisions) (w ∷ witnesses) h = (All-from_recursion (λ rank. rank < n) w h.0.over, over-within n (kept ++ c ∷ []) list decisions witnesses h.1)
over-within n kept (c ∷ list) (Untested ∷ decisions) witnesses h = over-within n (kept ++ c ∷ []) list decisions witnesses h
over-within n kept (c ∷ list) (Conflict ∷ decisions) witnesses h = over-within n kept list decisions witnesses h
over-within n kept (c ∷ list) (Weaker by ∷ decisions) witnesses h = over-within n kept list decisions witnesses h
over-within n kept (c ∷ list) (FirstPass ∷ decisions) witnesses h = over-within n kept list decisions witnesses h
over-within n kept (c ∷ list) (SecondPass ∷ decisions) witnesses h = over-within n kept list decisions witnesses h
over-within n kept (c ∷ list) (Beyond ∷ decisions) witnesses h = over-within n kept list decisions witnesses h

-- what a reduction of either mode gives to a report
record IsReportable (n : ℕ) (list : List Constraint) (reduction : Reduction) : Type 0 where
  pub decisions : length reduction.decisions ≡ length list
  pub witnesses : length reduction.witnesses ≡ count_by is_tested reduction.decisions
  pub over : AllByRecursion (λ (w : List ℕ). All (λ rank. rank < n) w) reduction.witnesses
  pub example : All (λ rank. rank < n) reduction.example

reportable : (keep : Bool) (n states : ℕ) (list : List Constraint) (reduction : Reduction) → IsReductionBy keep n states list reduction → IsReportable n list reduction
reportable true n states list reduction h =
    let many = within-many n states [] list reduction.decisions h.reduced.sifted in
    record {
      decisions = many;
      witnesses = length-within n [] list reduction.decisions reduction.witnesses h.witnesses many;
      over = over-within n [] list reduction.decisions reduction.witnesses h.witnesses;
      example = All-from_recursion (λ rank. rank < n) reduction.example h.example.over;
    }
reportable false n states list reduction h = record {
  decisions = h.reduced.as_many;
  witnesses =
      length-witnesses n [] (those is_kept list reduction.decisions) reduction.witnesses h.witnesses
      ∙ length-those is_kept list reduction.decisions h.reduced.as_many
      ∙ tested-kept reduction.decisions h.reduced.none_at_limit;
  over = witnesses-over n [] (those is_kept list reduction.decisions) reduction.witnesses h.witnesses;
  example = All-from_recursion (λ rank. rank < n) reduction.example h.example.over;
}

-- it can be written with the candidates that it is of, over as many names as symbols
pub can_write : (keep : Bool) (n m states : ℕ) (list : List Scored) (constraints : List Constraint) (reduction : Reduction) → m ≡ n → constraints ≡ constraints_in list
    → IsReductionBy keep n states constraints reduction → CanWrite m list reduction
can_write keep n m states list constraints reduction same is h =
    let told = reportable keep n states constraints reduction h in
    record {
      decisions = told.decisions ∙ ap length is ∙ length-map list (λ s. s.constraint);
      witnesses = told.witnesses;
      witness = subst (λ k. All (λ w. All (λ rank. rank < k) w) reduction.witnesses) (sym same) (All-from_recursion (λ w. All (λ rank. rank < n) w) reduction.witnesses told.over);
      example = subst (λ k. All (λ rank. rank < k) reduction.example) (sym same) told.example;
    }
