-- A report nests a few levels only.
use Rattle.std.proofs.Common.{ℕ, ◌≤◌, List, [], ◌∷◌, map, codes, not, true, Option, None, Some, arith}
use Rattle.std.specs.Prelude.{slice_get, unwrap_or}
use Rattle.serde_json.specs.Data.{Data, Members, boolean, number, unsigned, string, member, no_members, depth, items_depth, members_depth}
use Rattle.serde_json.specs.Read.{max_depth}
use Rattle.serde_json.specs.View.{items_of}
use Rattle.scoring.specs.declared.scored.Scored.{Scored}
use Rattle.template_core.specs.declared.constraint.Constraint.{Constraint}
use Rattle.template_core.specs.declared.repertoire.Repertoire.{Repertoire}
use Rattle.model_json.proofs.EachRepertoire.{each_repertoire}
use Rattle.reduce_model.specs.Sifting.{Sifting}
use Rattle.reduce_model.specs.declared.decision.Decision.{Decision}
use Rattle.reduce_model.specs.declared.decision.Decision.TheVariants.{Kept, Conflict, Weaker, FirstPass, SecondPass, Beyond, Untested}
use Rattle.reduce_model.specs.Deciding.{is_kept}
use Rattle.chain_cert.specs.Parts.{ChainParts, LinkParts}
use Rattle.model_json.specs.ChainValue.{certificate_object, link_value, mark_value, numbers_value, rows_of, tuples_value}
use Rattle.model_json.specs.Report.{activities_of, parameter_value, parameters_value, constraint_value, scored_members, scored_value, witnessed_value, trace_value, decided_value, why, decided, staying, with_witnesses, untested_value, listed_value, dropped_values, report_object, scores_report, consistent_report, model_report, name_at, versioned}

items : {A : Type 0} (f : A → Data) (n : ℕ) → ((x : A) → depth (f x) ≤ n) → (xs : List A) → items_depth (items_of (map f xs)) ≤ n
items f n shallow [] = omega arith
items f n shallow (x ∷ xs) = omega (arith, shallow x, items f n shallow xs)

parameters : (names : List (List ℕ)) (c : Constraint) → depth (parameters_value names c) ≤ 2
parameters names c = omega (arith, items (parameter_value names) 1 (λ _. omega arith) (activities_of c))

trace : (names : List (List ℕ)) (t : List ℕ) → depth (trace_value names t) ≤ 1
trace names t = omega (arith, items (λ rank. string (name_at names rank)) 0 (λ _. omega arith) t)

tasks : (names : List (List ℕ)) → items_depth (items_of (map string names)) ≤ 0
tasks names = items string 0 (λ _. omega arith) names

-- what stands behind the scores decides
scored : (names : List (List ℕ)) (s : Scored) (more : Members) → members_depth more ≤ 2 → members_depth (scored_members names s more) ≤ 2
scored names s more shallow = omega (arith, parameters names s.constraint, shallow)

scored_depth : (names : List (List ℕ)) (s : Scored) → depth (scored_value names s) ≤ 3
scored_depth names s = omega (arith, scored names s no_members (omega arith))

witnessed_depth : (names : List (List ℕ)) (s : Scored) (witness : List ℕ) → depth (witnessed_value names s witness) ≤ 3
witnessed_depth names s witness =
    omega (arith, scored names s (member (codes "witness") (trace_value names witness) no_members) (omega (arith, trace names witness)))

untested_depth : (names : List (List ℕ)) (s : Scored) → depth (untested_value names s) ≤ 3
untested_depth names s = omega (arith, scored names s (member (codes "untested") (boolean true) no_members) (omega arith))

listed_depth : (names : List (List ℕ)) (s : Scored) (witness : Option (List ℕ)) → depth (listed_value names s witness) ≤ 3
listed_depth names s (Some witness) = witnessed_depth names s witness
listed_depth names s None = untested_depth names s

constraint : (names : List (List ℕ)) (c : Constraint) → depth (constraint_value names c) ≤ 3
constraint names c = omega (arith, parameters names c)

decided_depth : (names : List (List ℕ)) (list : List Scored) (s : Scored) (d : Decision) → depth (decided_value names list s d) ≤ 4
decided_depth names list s Kept = omega (arith, scored_depth names s)
decided_depth names list s Conflict = omega (arith, scored names s (why (codes "conflict")) (omega arith))
decided_depth names list s (Weaker by) = omega (arith, constraint names (unwrap_or (slice_get list by) s).constraint, scored names s (why (codes "weaker")) (omega arith))
decided_depth names list s FirstPass = omega (arith, scored names s (why (codes "first-pass")) (omega arith))
decided_depth names list s SecondPass = omega (arith, scored names s (why (codes "second-pass")) (omega arith))
decided_depth names list s Beyond = omega (arith, scored names s (why (codes "beyond")) (omega arith))
decided_depth names list s Untested = omega (arith, untested_depth names s)

pub depth-scores_report : (names : List (List ℕ)) (repertoire : Repertoire) (list : List Scored) (traces events : ℕ) → depth (scores_report names repertoire list traces events) ≤ max_depth
depth-scores_report names repertoire list traces events =
    let kept = items (scored_value names) 3 (scored_depth names) list in
    each_repertoire (λ r. depth (scores_report names r list traces events) ≤ max_depth) (omega (arith, kept, tasks names)) (omega (arith, kept, tasks names)) repertoire

-- of the stages that drop constraints
report : (repertoire : Repertoire) (constraints dropped : List Data) (names : List (List ℕ)) (example : List ℕ) (traces events : ℕ) → items_depth (items_of constraints) ≤ 3 → items_depth (items_of dropped) ≤ 4
    → depth (versioned repertoire (report_object constraints dropped events (trace_value names example) (map string names) traces)) ≤ 6
report repertoire constraints dropped names example traces events kept out =
    each_repertoire (λ r. depth (versioned r (report_object constraints dropped events (trace_value names example) (map string names) traces)) ≤ 6)
    (omega (arith, kept, out, trace names example, tasks names)) (omega (arith, kept, out, trace names example, tasks names)) repertoire

dropped : (names : List (List ℕ)) (list : List Scored) (decisions : List Decision) → items_depth (items_of (dropped_values names list decisions)) ≤ 4
dropped names list decisions =
    let value : Scored × Decision → Data = λ p. decided_value names list p.0 p.1 in
    items value 4 (λ p. decided_depth names list p.0 p.1) (decided (λ d. not (is_kept d)) list decisions)

pub depth-consistent_report : (names : List (List ℕ)) (repertoire : Repertoire) (list : List Scored) (sifting : Sifting) (traces events : ℕ)
    → depth (consistent_report names repertoire list sifting traces events) ≤ max_depth
depth-consistent_report names repertoire list sifting traces events =
    let kept = staying list sifting.decisions in
    omega (
      arith,
      report repertoire (map (scored_value names) kept) (dropped_values names list sifting.decisions) names sifting.example traces events
          (items (scored_value names) 3 (scored_depth names) kept) (dropped names list sifting.decisions),
    )

model_depth : (names : List (List ℕ)) (repertoire : Repertoire) (list : List Scored) (decisions : List Decision) (witnesses : List (List ℕ)) (example : List ℕ) (traces events : ℕ)
    → depth (model_report names repertoire list decisions witnesses example traces events) ≤ 6
model_depth names repertoire list decisions witnesses example traces events =
    let value : Scored × Option (List ℕ) → Data = λ p. listed_value names p.0 p.1 in
    let kept = with_witnesses list decisions witnesses in
    report repertoire (map value kept) (dropped_values names list decisions) names example traces events
    (items value 3 (λ p. listed_depth names p.0 p.1) kept) (dropped names list decisions)

pub depth-model_report : (names : List (List ℕ)) (repertoire : Repertoire) (list : List Scored) (decisions : List Decision) (witnesses : List (List ℕ)) (example : List ℕ) (traces events : ℕ)
    → depth (model_report names repertoire list decisions witnesses example traces events) ≤ max_depth
depth-model_report names repertoire list decisions witnesses example traces events = omega (arith, model_depth names repertoire list decisions witnesses example traces events)

-- ---- certificates

numbers : (ns : List ℕ) → depth (numbers_value ns) ≤ 1
numbers ns = omega (arith, items (λ n. number (unsigned n)) 0 (λ _. omega arith) ns)

tuples : (ts : List (List ℕ)) → depth (tuples_value ts) ≤ 2
tuples ts = omega (arith, items numbers_value 1 numbers ts)

link : (l : LinkParts) → depth (link_value l) ≤ 3
link l = omega (arith, items mark_value 0 (λ _. omega arith) l.accepting, numbers l.columns, tuples (rows_of l), tuples l.pairs)

pub depth-certificate : (names : List (List ℕ)) (repertoire : Repertoire) (list : List Scored) (decisions : List Decision) (witnesses : List (List ℕ)) (example : List ℕ) (traces events : ℕ) (chain : ChainParts)
    → depth (certificate_object (model_report names repertoire list decisions witnesses example traces events) chain) ≤ max_depth
depth-certificate names repertoire list decisions witnesses example traces events chain =
    omega (arith, items link_value 3 link chain.links, items tuples_value 2 tuples chain.implied, model_depth names repertoire list decisions witnesses example traces events)
