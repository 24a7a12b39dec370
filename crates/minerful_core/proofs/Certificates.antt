-- Bytes are one certificate, or none for one cause.
use Rattle.std.proofs.Common.{◌≡◌, ◌≤◌, inl, inr, ℕ, List, Bool, true, false, Ok, Err, length, refl, sym, ap, ap₂, subst, ◌∙◌, arith}
use Rattle.std.proofs.lemmas.Bool.Decides.{nat_tests}
use Rattle.std.specs.Prelude.{◌⊎◌, MatchBool, nat_lt}
use Rattle.serde_json.specs.Data.{Data}
use Rattle.decl_base.specs.Limits.{standard}
use Rattle.decl_base.specs.declared.refusal.Refusal.{Refusal}
use Rattle.decl_base.specs.declared.refusal.Refusal.TheVariants as refusal
use Rattle.chain_cert.specs.Parts.{ChainParts, ClaimParts, LinkParts, chain_parts}
use Rattle.chain_cert.specs.Checks.{IsVerdict}
use Rattle.chain_cert.specs.declared.verdict.Verdict.{Verdict}
use Rattle.chain_cert.proofs.Determined.{one-verdict}
use Rattle.model_json.specs.Certificate.{claim_of, AreLinks, ArePairs, CertificateCause, FailsFirst, IsCertificate, IsCertificateText}
use Rattle.model_json.specs.Model.{json_of}
use Rattle.minerful_core.specs.Outcome.{Verified, verified, IsTold, IsVerified, RefusesCertificate}

-- ---- one claim and one chain

module _ (value : Data) where
  one_claim : (c d : ClaimParts) → claim_of value ≡ Ok c → claim_of value ≡ Ok d → c ≡ d
  one_claim c d h g = (let e = sym h ∙ g in cc)

  one_list : (c d : ClaimParts) (l m : List LinkParts) → AreLinks value c l → AreLinks value d m → l ≡ m
  one_list c d l m h g = (let e = sym h.read ∙ g.read in cc)

  one_chain : (c d : ClaimParts) (x y : ChainParts) → IsCertificate value c x → IsCertificate value d y → x ≡ y
  one_chain c d x y h g =
      ap₂ chain_parts (one_list c d x.links y.links h.linked g.linked) (let e = sym h.paired.read ∙ g.paired.read in cc)

module _ (bytes : List ℕ) where
  one_value : (v w : Data) → json_of bytes ≡ Ok v → json_of bytes ≡ Ok w → v ≡ w
  one_value v w h g = (let e = sym h ∙ g in cc)

  over_value : (c d : ClaimParts) (x y : ChainParts) → (h : IsCertificateText bytes c x) → (g : IsCertificateText bytes d y) → IsCertificate g.value c x
  over_value c d x y h g = subst (λ v. IsCertificate v c x) (one_value h.value g.value h.reads g.reads) h.is

  pub one_claim_of : (c d : ClaimParts) (x y : ChainParts) → IsCertificateText bytes c x → IsCertificateText bytes d y → c ≡ d
  one_claim_of c d x y h g = one_claim g.value c d (over_value c d x y h g).claimed g.is.claimed

  pub one_chain_of : (c d : ClaimParts) (x y : ChainParts) → IsCertificateText bytes c x → IsCertificateText bytes d y → x ≡ y
  one_chain_of c d x y h g = one_chain g.value c d x y (over_value c d x y h g) g.is

-- ---- one cause

fails_not : (value : Data) (claim : ClaimParts) (chain : ChainParts) (part : ℕ) → IsCertificate value claim chain → FailsFirst value part → ⊥
fails_not value claim chain part is (inl none) = absurd (let e = sym is.claimed ∙ none in cc)
fails_not value claim chain part is (inr (other, claimed, inl none)) =
    none.1 chain.links (subst (λ c. AreLinks value c chain.links) (one_claim value claim other is.claimed claimed) is.linked)
fails_not value claim chain part is (inr (other, claimed, inr (links, are, none))) =
    none.1 chain.implied
    (subst (λ l. ArePairs value other l chain.implied) (one_list value claim other chain.links links is.linked are)
    (subst (λ c. ArePairs value c chain.links chain.implied) (one_claim value claim other is.claimed claimed) is.paired))

one_part : (value : Data) (p q : ℕ) → FailsFirst value p → FailsFirst value q → p ≡ q
one_part value p q (inl h) (inl g) = (let e = sym h ∙ g in cc)
one_part value p q (inl h) (inr (claim, claimed, rest)) = absurd (let e = sym h ∙ claimed in cc)
one_part value p q (inr (claim, claimed, rest)) (inl g) = absurd (let e = sym g ∙ claimed in cc)
one_part value p q (inr (claim, claimed, inl h)) (inr (other, too, inl g)) = h.0 ∙ sym g.0
one_part value p q (inr (claim, claimed, inl h)) (inr (other, too, inr (links, are, g))) =
    absurd (h.1 links (subst (λ c. AreLinks value c links) (one_claim value other claim too claimed) are))
one_part value p q (inr (claim, claimed, inr (links, are, h))) (inr (other, too, inl g)) =
    absurd (g.1 links (subst (λ c. AreLinks value c links) (one_claim value claim other claimed too) are))
one_part value p q (inr (claim, claimed, inr (links, are, h))) (inr (other, too, inr (list, also, g))) = h.0 ∙ sym g.0

-- a cause that isn't that memory is out
abbrev Cause : List ℕ → Refusal → Type 0
Cause bytes r =
    ((r ≡ refusal.NotJson) × (json_of bytes ≡ Err refusal.NotJson))
    ⊎ ((part : ℕ) × (value : Data) × (r ≡ refusal.CertShape part) × (json_of bytes ≡ Ok value) × FailsFirst value part)

cause_told : (bytes : List ℕ) (r : Refusal) → IsTold (CertificateCause bytes) r → Cause bytes r
cause_told bytes refusal.NotJson h = inl (refl, h)
cause_told bytes (refusal.CertShape part) h = inr (part, h.0, refl, h.1, h.2)
cause_told bytes refusal.Memory h = absurd h
cause_told bytes r h = absurd h

one_cause : (bytes : List ℕ) (r q : Refusal) → Cause bytes r → Cause bytes q → r ≡ q
one_cause bytes r q (inl h) (inl g) = h.0 ∙ sym g.0
one_cause bytes r q (inl h) (inr (part, value, is, reads, fails)) = absurd (let e = sym h.1 ∙ reads in cc)
one_cause bytes r q (inr (part, value, is, reads, fails)) (inl g) = absurd (let e = sym g.1 ∙ reads in cc)
one_cause bytes r q (inr (part, value, is, reads, fails)) (inr (other, second, was, too, also)) =
    is ∙ ap refusal.CertShape (one_part second part other (subst (λ v. FailsFirst v part) (one_value bytes value second reads too) fails) also) ∙ sym was

no_cause : (bytes : List ℕ) (claim : ClaimParts) (chain : ChainParts) (r : Refusal) → IsCertificateText bytes claim chain → Cause bytes r → ⊥
no_cause bytes claim chain r h (inl g) = absurd (let e = sym g.1 ∙ h.reads in cc)
no_cause bytes claim chain r h (inr (part, value, is, reads, fails)) =
    fails_not h.value claim chain part h.is (subst (λ v. FailsFirst v part) (one_value bytes value h.value reads h.reads) fails)

-- ---- of an input

told_split : (bytes : List ℕ) (large : Bool) (r : Refusal) → IsTold (λ r. MatchBool large (r ≡ refusal.Bytes standard.certificate_bytes) (CertificateCause bytes r)) r
    → MatchBool large (r ≡ refusal.Bytes standard.certificate_bytes) (IsTold (CertificateCause bytes) r)
told_split bytes large refusal.Memory h = absurd h
told_split bytes true r h = h
told_split bytes false r h = h

pub refused_certificate_unique : (bytes : List ℕ) (r q : Refusal) → IsTold (RefusesCertificate bytes) r → IsTold (RefusesCertificate bytes) q → r ≡ q
refused_certificate_unique bytes r q h g =
    go (nat_lt standard.certificate_bytes (length bytes)) (told_split bytes (nat_lt standard.certificate_bytes (length bytes)) r h) (told_split bytes (nat_lt standard.certificate_bytes (length bytes)) q g)
  where
    go : (large : Bool) → MatchBool large (r ≡ refusal.Bytes standard.certificate_bytes) (IsTold (CertificateCause bytes) r)
        → MatchBool large (q ≡ refusal.Bytes standard.certificate_bytes) (IsTold (CertificateCause bytes) q) → r ≡ q
    go true h g = h ∙ sym g
    go false h g = one_cause bytes r q (cause_told bytes r h) (cause_told bytes q g)

is_small : (n limit : ℕ) → n ≤ limit → nat_lt limit n ≡ false
is_small n limit h = grind (arith, nat_tests, h)

pub verified_or_refused : (bytes : List ℕ) (verified : Verified) (r : Refusal) → IsVerified bytes verified → IsTold (RefusesCertificate bytes) r → ⊥
verified_or_refused bytes verified r is told =
    let split = told_split bytes (nat_lt standard.certificate_bytes (length bytes)) r told in
    let cause = subst (λ large. MatchBool large (r ≡ refusal.Bytes standard.certificate_bytes) (IsTold (CertificateCause bytes) r)) (is_small (length bytes) standard.certificate_bytes is.certificate.within) split in
    no_cause bytes verified.claim verified.chain r is.certificate.is (cause_told bytes r cause)

-- a certificate has one verdict
pub verified_unique : (bytes : List ℕ) (v w : Verified) → IsVerified bytes v → IsVerified bytes w → v ≡ w
verified_unique bytes v w h g =
    let claims = one_claim_of bytes v.claim w.claim v.chain w.chain h.certificate.is g.certificate.is in
    let chains = one_chain_of bytes v.claim w.claim v.chain w.chain h.certificate.is g.certificate.is in
    go v.claim w.claim v.chain w.chain v.verdict w.verdict claims chains h.verdict g.verdict
  where
    go : (c d : ClaimParts) (x y : ChainParts) (p q : Verdict) → c ≡ d → x ≡ y → IsVerdict c x p → IsVerdict d y q → verified c x p ≡ verified d y q
    go c d x y p q claims chains h g =
        let same = one-verdict d y p q (subst (λ c. IsVerdict c y p) claims (subst (λ x. IsVerdict c x p) chains h)) g in
        ap₂ (λ c x. verified c x p) claims chains ∙ ap (verified d y) same
