-- What is read of a certificate's report has the form of a claim.
use Rattle.std.proofs.Common.{◌≡◌, ℕ, ◌<◌, ◌≤◌, List, [], ◌∷◌, Bool, true, false, cond, eqb, length, codes, refl, sym, ap, ap₂, ◌∙◌, subst, Option, None, Some, Result, Ok, Err, inl, option_and_then, option_map, arith}
use Rattle.std.specs.Prelude.{nat_le, All, position}
use Rattle.std.specs.List.{AllByRecursion}
use Rattle.std.specs.Option.{ok_or}
use Rattle.std.specs.Str.{bytes_eq}
use Rattle.std.proofs.lemmas.Bool.{eqb-true}
use Rattle.std.proofs.lemmas.Bool.Decides.{nat_tests}
use Rattle.std.proofs.lemmas.List.Elements.{All-nil, All-cons}
use Rattle.std.proofs.lemmas.List.Quantifiers.{position-Some}
use Rattle.serde_json.specs.Data.{Data}
use Rattle.serde_json.specs.Find.{as_str, get}
use Rattle.decl_base.specs.Limits.{standard}
use Rattle.decl_base.specs.declared.refusal.Refusal.{Refusal}
use Rattle.decl_base.specs.declared.refusal.Refusal.TheVariants.{CertShape, Memory}
use Rattle.template_core.specs.Constraints.{IsWellMadeFor}
use Rattle.template_core.specs.declared.constraint.Constraint.{Constraint}
use Rattle.template_core.specs.declared.repertoire.Repertoire.{Repertoire}
use Rattle.event_log.specs.Alphabet.{Names}
use Rattle.chain_cert.specs.Forms.{IsClaim}
use Rattle.chain_cert.specs.Parts.{claim_parts}
use Rattle.chain_cert.specs.Traces.{IsTrace}
use Rattle.chain_cert.specs.declared.claim.Dropped.{Dropped}
use Rattle.model_json.specs.Model.{◌>>=◌, ModelCause, each, item_read, json_of, list_in}
use Rattle.model_json.specs.Certificate.{CertificateCause, Told, claim_of, claim_told, told_in, conflict_by, constraint_in, dropped_by, dropped_in, example_in, items_under, kept_in, trace_in, witness_in, without_new}
use Rattle.model_json.proofs.Elements.{each-length}
use Rattle.model_json.proofs.ModelsWithin.{item-made}
use Rattle.model_json.proofs.TaskNames.{same-names}

-- ---- an option that is there was reached by options that are

pub and_then-some : {A B : Type 0} (o : Option A) (f : A → Option B) (y : B) → option_and_then f o ≡ Some y → (x : A) × (o ≡ Some x) × (f x ≡ Some y)
and_then-some None f y h = absurd (cc)
and_then-some (Some x) f y h = (x, refl, h)

pub map-some : {A B : Type 0} (o : Option A) (f : A → B) (y : B) → option_map f o ≡ Some y → (x : A) × (o ≡ Some x) × (f x ≡ y)
map-some None f y h = absurd (cc)
map-some (Some x) f y h = (x, refl, cc)

pub test-some : {A : Type 0} (b : Bool) (x y : A) → cond b (Some x) None ≡ Some y → (b ≡ true) × (x ≡ y)
test-some true x y h = (refl, cc)
test-some false x y h = absurd (cc)

-- ---- what holds of all that is read of an element

module _ {A B : Type 0} (f : A → Option B) (P : B → Type 0) (has : (x : A) (y : B) → f x ≡ Some y → P y) where
  pub each-has : (xs : List A) (ys : List B) → each f xs ≡ Some ys → AllByRecursion P ys
  each-has [] ys h = let same : [] ≡ ys = cc in subst (AllByRecursion P) same tt
  each-has (x ∷ xs) ys h =
      let first = and_then-some (f x) (λ y. option_map (λ more. y ∷ more) (each f xs)) ys h in
      let rest = map-some (each f xs) (λ more. first.0 ∷ more) ys first.2 in
      subst (AllByRecursion P) rest.2 (has x first.0 first.1, each-has xs rest.0 rest.1)

all_of : {B : Type 0} (P : B → Type 0) (ys : List B) → AllByRecursion P ys → All P ys
all_of P [] h = All-nil P
all_of P (y ∷ ys) h = All-cons P y ys h.0 (all_of P ys h.1)

-- ---- constraints and traces

pub constraint-made : (repertoire : Repertoire) (names : List (List ℕ)) (item : Data) (c : Constraint) → constraint_in repertoire names item ≡ Some c → IsWellMadeFor (length names) c
constraint-made repertoire names item c h = go (item_read repertoire 1 names item) refl h
  where
    go : (o : Result (Constraint × List (List ℕ)) Refusal) → item_read repertoire 1 names item ≡ o → without_new names o ≡ Some c → IsWellMadeFor (length names) c
    go (Ok read) e is =
        let test = test-some (eqb (length read.1) (length names)) read.0 c is in
        let made = item-made repertoire 1 names item read e in
        subst (λ n. IsWellMadeFor n c) (eqb-true (length read.1) (length names) test.0) (subst (IsWellMadeFor (length read.1)) test.1 made.3)
    go (Err r) e is = absurd (cc)

dropped-made : (repertoire : Repertoire) (names : List (List ℕ)) (item : Data) (d : Dropped) → dropped_by repertoire names item ≡ Some d → IsWellMadeFor (length names) d.constraint
dropped-made repertoire names item d h =
    let constraint = and_then-some (constraint_in repertoire names item) _ d h in
    let conflict = map-some (option_and_then conflict_by (option_and_then as_str (get (codes "why") item))) _ d constraint.2 in
    subst (IsWellMadeFor (length names)) (ap (λ (d : Dropped). d.constraint) conflict.2) (constraint-made repertoire names item constraint.0 constraint.1)

place-inside : (names : List (List ℕ)) (text : Data) (place : ℕ) → option_and_then (λ name. position (bytes_eq name) names) (as_str text) ≡ Some place → place < length names
place-inside names text place h =
    let name = and_then-some (as_str text) (λ name. position (bytes_eq name) names) place h in
    (position-Some (bytes_eq name.0) names place [] name.2).0

pub trace-over : (names : List (List ℕ)) (value : Data) (trace : List ℕ) → trace_in names value ≡ Some trace → IsTrace (length names) trace
trace-over names value trace h =
    let place : Data → Option ℕ = λ text. option_and_then (λ name. position (bytes_eq name) names) (as_str text) in
    let list = and_then-some (list_in value) (each place) trace h in
    each-has place (λ s. s < length names) (place-inside names) list.0 trace list.2

trace-under : (names : List (List ℕ)) (name : List ℕ) (value : Data) (trace : List ℕ) → option_and_then (trace_in names) (get name value) ≡ Some trace → IsTrace (length names) trace
trace-under names name value trace h =
    let member = and_then-some (get name value) (trace_in names) trace h in
    trace-over names member.0 trace member.2

few-under : (name : List ℕ) (report : Data) (items : List Data) → items_under name report ≡ Some items → length items ≤ 65536
few-under name report items h =
    let list = and_then-some (option_and_then list_in (get name report)) (λ items. cond (nat_le (length items) standard.candidates) (Some items) None) items h in
    let test = test-some (nat_le (length list.0) standard.candidates) list.0 items list.2 in
    let below : length list.0 ≤ standard.candidates = grind (arith, nat_tests) in
    subst (λ l. length l ≤ 65536) test.1 below

-- ---- the claim

pub claim-made : (told : Told) (few : length told.names ≤ standard.activities) (model : List Constraint) (witnesses : List (List ℕ)) (dropped : List Dropped) (example : List ℕ)
    → kept_in told ≡ Some (model, witnesses) → dropped_in told ≡ Some dropped → example_in told ≡ Some example → IsClaim (claim_parts (length told.names) model witnesses dropped example)
claim-made told few model witnesses dropped example kept_is dropped_is example_is =
    let n = length told.names in
    let items = and_then-some (items_under (codes "constraints") told.report) _ (model, witnesses) kept_is in
    let constraints = and_then-some (each (constraint_in told.repertoire told.names) items.0) _ (model, witnesses) items.2 in
    let traces = map-some (each (witness_in told.names) items.0) _ (model, witnesses) constraints.2 in
    let model_is : constraints.0 ≡ model = ap (λ p. p.0) traces.2 in
    let witnesses_is : traces.0 ≡ witnesses = ap (λ p. p.1) traces.2 in
    let reasons = and_then-some (items_under (codes "dropped") told.report) _ dropped dropped_is in
    let few_items = few-under (codes "constraints") told.report items.0 items.1 in
    let few_reasons = few-under (codes "dropped") told.report reasons.0 reasons.1 in
    let as_many = each-length (constraint_in told.repertoire told.names) items.0 constraints.0 constraints.1 in
    let one_each = each-length (witness_in told.names) items.0 traces.0 traces.1 in
    let so_many = each-length (dropped_by told.repertoire told.names) reasons.0 dropped reasons.2 in
    record {
      few_symbols = few;
      few_constraints = omega (arith, few_items, as_many, ap length model_is);
      constraints_made = subst (All (IsWellMadeFor n)) model_is (all_of (IsWellMadeFor n) constraints.0
          (each-has (constraint_in told.repertoire told.names) (IsWellMadeFor n) (constraint-made told.repertoire told.names) items.0 constraints.0 constraints.1));
      witness_for_each = omega (arith, as_many, one_each, ap length model_is, ap length witnesses_is);
      witnesses_over = subst (All (IsTrace n)) witnesses_is (all_of (IsTrace n) traces.0
          (each-has (witness_in told.names) (IsTrace n) (trace-under told.names (codes "witness")) items.0 traces.0 traces.1));
      few_dropped = omega (arith, few_reasons, so_many);
      dropped_made = all_of (λ (d : Dropped). IsWellMadeFor n d.constraint) dropped
          (each-has (dropped_by told.repertoire told.names) (λ (d : Dropped). IsWellMadeFor n d.constraint) (dropped-made told.repertoire told.names) reasons.0 dropped reasons.2);
      example_over = trace-under told.names (codes "example") told.report example example_is;
    }

-- ---- why there is no claim

refuse-told : (told : Told) (r : Refusal) → claim_told told ≡ Err r → (part : ℕ) × (r ≡ CertShape part)
refuse-told told r h = go (kept_in told) (dropped_in told) (example_in told) h
  where
    go : (a : Option (List Constraint × List (List ℕ))) (b : Option (List Dropped)) (c : Option (List ℕ))
        → (ok_or a (CertShape 2) >>= (λ kept. ok_or b (CertShape 3) >>= (λ dropped. ok_or c (CertShape 4) >>= (λ example. Ok (claim_parts (length told.names) kept.0 kept.1 dropped example))))) ≡ Err r
        → (part : ℕ) × (r ≡ CertShape part)
    go None b c e = (2, cc)
    go (Some kept) None c e = (3, cc)
    go (Some kept) (Some dropped) None e = (4, cc)
    go (Some kept) (Some dropped) (Some example) e = absurd (cc)

refuse-claim : (certificate : Data) (r : Refusal) → claim_of certificate ≡ Err r → (part : ℕ) × (r ≡ CertShape part)
refuse-claim certificate r h = go (told_in certificate) h
  where
    go : (o : Option Told) → (ok_or o (CertShape 1) >>= claim_told) ≡ Err r → (part : ℕ) × (r ≡ CertShape part)
    go None e = (1, cc)
    go (Some told) e = refuse-told told r e

pub claim-cause : (bytes : List ℕ) (value : Data) (r : Refusal) → json_of bytes ≡ Ok value → ModelCause (claim_of value) r → CertificateCause bytes r
claim-cause bytes value Memory reads h = tt
claim-cause bytes value r reads h =
    let refused = refuse-claim value r h in
    subst (CertificateCause bytes) (sym refused.1) (value, reads, inl (h ∙ ap Err refused.1))

-- ---- an item without a new name

pub item-same : (repertoire : Repertoire) (number : ℕ) (names : List (List ℕ)) (value : Data) (next : Constraint × List (List ℕ)) → item_read repertoire number names value ≡ Ok next → length next.1 ≡ length names → next.1 ≡ names
item-same repertoire number names value next is many =
    let made = item-made repertoire number names value next is in
    made.1 ∙ same-names names made.0 (ap length (sym made.1) ∙ many)

pub names-same : (a b : Names) → a.names ≡ b.names → a.limit ≡ b.limit → a ≡ b
names-same a b names limit = ap₂ (λ n l. of n l) names limit
  where
    of : List (List ℕ) → ℕ → Names
    of n l = record { names = n; limit = l }
