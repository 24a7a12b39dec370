-- A report has no float, so its text is known.
use Rattle.std.proofs.Common.{◌≡◌, ℕ, List, [], ◌∷◌, false, ◌||◌, map, codes, not, true, Option, None, Some, refl, ap, ap₂, ◌∙◌}
use Rattle.serde_json.specs.Data.{Data, Members, boolean, number, unsigned, string, member, no_members}
use Rattle.serde_json.specs.View.{items_of}
use Rattle.serde_json.specs.Written.{has_float, items_have_float, members_have_float}
use Rattle.scoring.specs.declared.scored.Scored.{Scored}
use Rattle.template_core.specs.declared.constraint.Constraint.{Constraint}
use Rattle.template_core.specs.declared.repertoire.Repertoire.{Repertoire}
use Rattle.model_json.proofs.EachRepertoire.{each_repertoire}
use Rattle.reduce_model.specs.Sifting.{Sifting}
use Rattle.reduce_model.specs.declared.decision.Decision.{Decision}
use Rattle.reduce_model.specs.declared.decision.Decision.TheVariants.{Kept, Conflict, Weaker, FirstPass, SecondPass, Beyond, Untested}
use Rattle.reduce_model.specs.Deciding.{is_kept}
use Rattle.chain_cert.specs.Parts.{ChainParts, LinkParts}
use Rattle.model_json.specs.ChainValue.{certificate_object, link_value, mark_value, numbers_value, rows_of, tuples_value}
use Rattle.model_json.specs.Report.{activities_of, parameter_value, parameters_value, constraint_value, scored_members, scored_value, witnessed_value, trace_value, decided_value, why, decided, staying, with_witnesses, untested_value, listed_value, dropped_values, report_object, scores_report, consistent_report, model_report, name_at, versioned}

pub items_have_float-map : {A : Type 0} (f : A → Data) → ((x : A) → has_float (f x) ≡ false) → (xs : List A) → items_have_float (items_of (map f xs)) ≡ false
items_have_float-map f none [] = refl
items_have_float-map f none (x ∷ xs) = ap (λ b. b || items_have_float (items_of (map f xs))) (none x) ∙ items_have_float-map f none xs

parameters : (names : List (List ℕ)) (c : Constraint) → has_float (parameters_value names c) ≡ false
parameters names c = items_have_float-map (parameter_value names) (λ _. refl) (activities_of c)

trace : (names : List (List ℕ)) (t : List ℕ) → has_float (trace_value names t) ≡ false
trace names t = items_have_float-map (λ rank. string (name_at names rank)) (λ _. refl) t

tasks : (names : List (List ℕ)) → items_have_float (items_of (map string names)) ≡ false
tasks names = items_have_float-map string (λ _. refl) names

-- what stands behind the scores decides
scored : (names : List (List ℕ)) (s : Scored) (more : Members) → members_have_float more ≡ false → members_have_float (scored_members names s more) ≡ false
scored names s more none = ap (λ b. b || members_have_float more) (parameters names s.constraint) ∙ none

pub has_float-scored_value : (names : List (List ℕ)) (s : Scored) → has_float (scored_value names s) ≡ false
has_float-scored_value names s = scored names s no_members refl

has_float-witnessed_value : (names : List (List ℕ)) (s : Scored) (witness : List ℕ) → has_float (witnessed_value names s witness) ≡ false
has_float-witnessed_value names s witness = scored names s (member (codes "witness") (trace_value names witness) no_members) (ap (λ b. b || false) (trace names witness))

has_float-untested_value : (names : List (List ℕ)) (s : Scored) → has_float (untested_value names s) ≡ false
has_float-untested_value names s = scored names s (member (codes "untested") (boolean true) no_members) refl

has_float-listed_value : (names : List (List ℕ)) (s : Scored) (witness : Option (List ℕ)) → has_float (listed_value names s witness) ≡ false
has_float-listed_value names s (Some witness) = has_float-witnessed_value names s witness
has_float-listed_value names s None = has_float-untested_value names s

constraint : (names : List (List ℕ)) (c : Constraint) → has_float (constraint_value names c) ≡ false
constraint names c = ap (λ b. b || false) (parameters names c)

has_float-decided_value : (names : List (List ℕ)) (list : List Scored) (s : Scored) (d : Decision) → has_float (decided_value names list s d) ≡ false
has_float-decided_value names list s Kept = has_float-scored_value names s
has_float-decided_value names list s Conflict = scored names s (why (codes "conflict")) refl
has_float-decided_value names list s (Weaker by) = ap₂ (λ a b. a || b) (constraint names _) (scored names s (why (codes "weaker")) refl)
has_float-decided_value names list s FirstPass = scored names s (why (codes "first-pass")) refl
has_float-decided_value names list s SecondPass = scored names s (why (codes "second-pass")) refl
has_float-decided_value names list s Beyond = scored names s (why (codes "beyond")) refl
has_float-decided_value names list s Untested = has_float-untested_value names s

pub has_float-scores_report : (names : List (List ℕ)) (repertoire : Repertoire) (list : List Scored) (traces events : ℕ) → has_float (scores_report names repertoire list traces events) ≡ false
has_float-scores_report names repertoire list traces events =
    let none = ap₂ (λ a b. a || (b || false)) (items_have_float-map (scored_value names) (has_float-scored_value names) list) (tasks names) in
    each_repertoire (λ r. has_float (scores_report names r list traces events) ≡ false) none none repertoire

-- of the stages that drop constraints
report : (repertoire : Repertoire) (constraints dropped : List Data) (names : List (List ℕ)) (example : List ℕ) (traces events : ℕ) → items_have_float (items_of constraints) ≡ false
    → items_have_float (items_of dropped) ≡ false → has_float (versioned repertoire (report_object constraints dropped events (trace_value names example) (map string names) traces)) ≡ false
report repertoire constraints dropped names example traces events kept out =
    let none = ap₂ (λ a b. a || (b || (has_float (trace_value names example) || (items_have_float (items_of (map string names)) || false)))) kept out
    ∙ ap₂ (λ a b. a || (b || false)) (trace names example) (tasks names) in
    each_repertoire (λ r. has_float (versioned r (report_object constraints dropped events (trace_value names example) (map string names) traces)) ≡ false) none none repertoire

dropped : (names : List (List ℕ)) (list : List Scored) (decisions : List Decision) → items_have_float (items_of (dropped_values names list decisions)) ≡ false
dropped names list decisions =
    let value : Scored × Decision → Data = λ p. decided_value names list p.0 p.1 in
    items_have_float-map value (λ p. has_float-decided_value names list p.0 p.1) (decided (λ d. not (is_kept d)) list decisions)

pub has_float-consistent_report : (names : List (List ℕ)) (repertoire : Repertoire) (list : List Scored) (sifting : Sifting) (traces events : ℕ)
    → has_float (consistent_report names repertoire list sifting traces events) ≡ false
has_float-consistent_report names repertoire list sifting traces events =
    let kept = staying list sifting.decisions in
    report repertoire (map (scored_value names) kept) (dropped_values names list sifting.decisions) names sifting.example traces events
    (items_have_float-map (scored_value names) (has_float-scored_value names) kept) (dropped names list sifting.decisions)

pub has_float-model_report : (names : List (List ℕ)) (repertoire : Repertoire) (list : List Scored) (decisions : List Decision) (witnesses : List (List ℕ)) (example : List ℕ) (traces events : ℕ)
    → has_float (model_report names repertoire list decisions witnesses example traces events) ≡ false
has_float-model_report names repertoire list decisions witnesses example traces events =
    let value : Scored × Option (List ℕ) → Data = λ p. listed_value names p.0 p.1 in
    let kept = with_witnesses list decisions witnesses in
    report repertoire (map value kept) (dropped_values names list decisions) names example traces events
    (items_have_float-map value (λ p. has_float-listed_value names p.0 p.1) kept) (dropped names list decisions)

-- ---- certificates

numbers : (ns : List ℕ) → has_float (numbers_value ns) ≡ false
numbers ns = items_have_float-map (λ n. number (unsigned n)) (λ _. refl) ns

tuples : (ts : List (List ℕ)) → has_float (tuples_value ts) ≡ false
tuples ts = items_have_float-map numbers_value numbers ts

link : (l : LinkParts) → has_float (link_value l) ≡ false
link l = rw (items_have_float-map mark_value (λ _. refl) l.accepting, numbers l.columns, tuples (rows_of l), tuples l.pairs) refl

pub has_float-certificate : (report : Data) (chain : ChainParts) → has_float report ≡ false → has_float (certificate_object report chain) ≡ false
has_float-certificate report chain none = rw (items_have_float-map link_value link chain.links, items_have_float-map tuples_value tuples chain.implied, none) refl
