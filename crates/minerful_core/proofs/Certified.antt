-- The certificate of a reduction, from the numbers of the names to the log.
use Rattle.std.proofs.Common.{◌≡◌, ℕ, List, false, length, sym, subst, ◌∙◌}
use Rattle.event_log.specs.Logs.{named, sorted_names, IsNumbering}
use Rattle.chain_cert.specs.Checks.{IsRight}
use Rattle.chain_cert.specs.Forms.{IsChain}
use Rattle.chain_cert.specs.Parts.{ChainParts}
use Rattle.chain_make.specs.Claims.{claim_of}
use Rattle.minerful_words.specs.declared.settings.Settings.{Settings}
use Rattle.reduce_model.specs.Reduction.{IsReduction, Reduction}
use Rattle.scoring.specs.declared.scored.Scored.{Scored}
use Rattle.template_core.specs.declared.constraint.Constraint.{Constraint}
use Rattle.minerful_core.specs.Outcome.{certificate_text, constraints_in, text_of_log, IsCertified, IsReductionBy, IsVerifiedText}
use Rattle.minerful_core.proofs.Ranking.{sorted_names-length}

module _ (names ids : List (List ℕ)) (n : ℕ) (s : Settings) (list : List Scored) (constraints : List Constraint) (reduction : Reduction) (chain : ChainParts) (text : List ℕ)
    (numbering : IsNumbering names ids) (count : n ≡ length names) (is : constraints ≡ constraints_in list) (stops : s.keep ≡ false) where
  abbrev as_many : ℕ
  as_many = length (sorted_names (named names ids))

  over_log : (P : ℕ → List Constraint → Type 0) → P n constraints → P as_many (constraints_in list)
  over_log P h = subst (λ m. P m (constraints_in list)) (count ∙ sym (sorted_names-length names ids numbering)) (subst (P n) is h)

  pub is_certified : IsReduction n s.states constraints reduction → IsChain (claim_of n constraints reduction) chain → IsRight (claim_of n constraints reduction) chain
      → text ≡ text_of_log (certificate_text s.repertoire list reduction chain) (named names ids) → IsVerifiedText text
      → IsCertified s list (named names ids) (record { reduction = reduction; chain = chain; text = text })
  is_certified reduced form right written verified = record {
    reduced = subst (λ keep. IsReductionBy keep as_many s.states (constraints_in list) reduction) (sym stops) (over_log (λ m l. IsReduction m s.states l reduction) reduced);
    form = over_log (λ m l. IsChain (claim_of m l reduction) chain) form;
    right = over_log (λ m l. IsRight (claim_of m l reduction) chain) right;
    written = written;
    verified = verified;
  }
